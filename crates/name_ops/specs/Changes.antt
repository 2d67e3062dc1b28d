-- Names that go from a subvolume, and names that come, one after the other.
use Rattle.std.specs.Prelude.{List, [], ◌∷◌, map, fold, Contains, ⊤}
use Rattle.flat_model.specs.Names.{FlatName, add_name, remove_name}
use Rattle.flat_model.specs.Volume.{Subvolume}
use Rattle.name_items.specs.Names.{MayAddName, MayRemoveName, name_of}
use Rattle.name_items.specs.declared.entry.NameEntry.{NameEntry}

-- the names that entries tell
abbrev pub names_told : List NameEntry → List FlatName
names_told entries = map name_of entries

-- the names without these
abbrev pub remove_names : List FlatName → List FlatName → List FlatName
remove_names names gone = fold (λ names name. remove_name name names) names gone

-- a subvolume with these names in place of its own
abbrev pub with_names : Subvolume → List FlatName → Subvolume
with_names sub names = record { inodes = sub.inodes; names = names }

-- each of these names is there when it goes
abbrev pub AreThere : List FlatName → List FlatName → Type 0
AreThere names [] = ⊤
AreThere names (name ∷ gone) = Contains names name × AreThere (remove_name name names) gone

-- none of these names is there when it comes
abbrev pub AreNew : List FlatName → List FlatName → Type 0
AreNew names [] = ⊤
AreNew names (name ∷ made) = (Contains names name → ⊥) × AreNew (add_name name names) made

-- these names go, each of which is there, and then these come, of which none is there
pub record IsChange (names : List FlatName) (gone made : List NameEntry) : Type 0 where
  pub there : AreThere names (names_told gone)
  pub new : AreNew (remove_names names (names_told gone)) (names_told made)

-- one name after the other: each may be taken in turn, and each step leaves these names
abbrev pub MayEach : (Subvolume → FlatName → Type 0) → (FlatName → List FlatName → List FlatName) → Subvolume → List FlatName → Type 0
MayEach may step sub [] = ⊤
MayEach may step sub (name ∷ names) = may sub name × MayEach may step (with_names sub (step name sub.names)) names

-- each of these names may go, one after the other
abbrev pub MayGo : Subvolume → List FlatName → Type 0
MayGo sub gone = MayEach MayRemoveName remove_name sub gone

-- each of these names may be added, one after the other
abbrev pub MayCome : Subvolume → List FlatName → Type 0
MayCome sub made = MayEach MayAddName add_name sub made
