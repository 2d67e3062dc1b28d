-- Edits of names, one behind the other.
use Rattle.std.proofs.Common.{◌≡◌, ◌<◌, ◌≤◌, ◌+◌, ◌*◌, ℕ, suc, List, [], ◌∷◌, ◌++◌, length, get_or, take, drop, refl, sym, ap, subst, ◌∙◌, arith, add-one, drop-cons}
use Rattle.std.specs.Prelude.{fold}
use Rattle.std.proofs.lemmas.List.{take_all, take_more}
use Rattle.block_table.specs.declared.tree.SubState.{SubState}
use Rattle.block_table.specs.Table.{Table}
use Rattle.flat_model.specs.Names.{FlatName}
use Rattle.flat_model.specs.Volume.{Subvolume}
use Rattle.tree_frame.specs.Frame.{AreCurrent}
use Rattle.table_volume.specs.Edited.{Makes}
use Rattle.table_volume.specs.Gives.{GivesSubvolume, sub_reach}
use Rattle.table_volume.proofs.SubEdits.{sub_joined, sub_more, sub_nothing}
use Rattle.name_ops.specs.Changes.{MayEach, names_told, with_names}
use Rattle.name_items.specs.Names.{name_of}
use Rattle.table_volume.specs.Operated.{HasRoom}
use Rattle.name_items.specs.declared.entry.NameEntry.{NameEntry}

-- one edit behind another
pub makes_joined : (old mid new : Table) (a b c : SubState) (n m : ℕ) (one two : Subvolume) → Makes old mid a b n one → Makes mid new b c m two → Makes old new a c (n + m) two
makes_joined old mid new a b c n m one two first second = record { gives = second.gives; edit = sub_joined old mid new a b c n m first.edit second.edit }

pub makes_nothing : (table : Table) (state : SubState) (sub : Subvolume) → GivesSubvolume table state.tree sub → AreCurrent table (sub_reach table state.tree) → Makes table table state state 0 sub
makes_nothing table state sub gives current = record { gives = gives; edit = sub_nothing table state current }

pub makes_more : (old new : Table) (a b : SubState) (n m : ℕ) (sub : Subvolume) → Makes old new a b n sub → n ≤ m → Makes old new a b m sub
makes_more old new a b n m sub makes less = record { gives = makes.gives; edit = sub_more old new a b n m makes.edit less }

-- what room is left behind an edit
pub room_left : (old new : Table) (a b : SubState) (n m : ℕ) (sub : Subvolume) → HasRoom old (n + m) → Makes old new a b n sub → HasRoom new m
room_left old new a b n m sub room makes = record {
  spare = omega (arith, room.spare, makes.edit.taken.spare);
  free = omega (arith, room.free, makes.edit.taken.free);
}

pub room_less : (table : Table) (n m : ℕ) → HasRoom table n → m ≤ n → HasRoom table m
room_less table n m room less = record { spare = omega (arith, room.spare, less); free = omega (arith, room.free, less) }

fold_last : (step : FlatName → List FlatName → List FlatName) (names more : List FlatName) (name : FlatName) → fold (λ names name. step name names) names (more ++ name ∷ []) ≡ step name (fold (λ names name. step name names) names more)
fold_last step names [] name = refl
fold_last step names (one ∷ more) name = fold_last step (step one names) more name

told_last : (entries : List NameEntry) (entry : NameEntry) → names_told (entries ++ entry ∷ []) ≡ names_told entries ++ name_of entry ∷ []
told_last [] entry = refl
told_last (one ∷ entries) entry = ap (λ (names : List FlatName). name_of one ∷ names) (told_last entries entry)

module _ (may : Subvolume → FlatName → Type 0) (step : FlatName → List FlatName → List FlatName) where
  -- the names once these are done
  abbrev pub done : List FlatName → List FlatName → List FlatName
  done names entries = fold (λ names name. step name names) names entries

  -- so many entries are done, and the others may follow
  pub record Stage (old now : Table) (before after : SubState) (sub : Subvolume) (entries : List NameEntry) (count : ℕ) : Type 0 where
    pub makes : Makes old now before after (85 * count) (with_names sub (done sub.names (names_told (take count entries))))
    pub rest : MayEach may step (with_names sub (done sub.names (names_told (take count entries)))) (names_told (drop count entries))

  pub stage_first : (table : Table) (state : SubState) (sub : Subvolume) (entries : List NameEntry) → GivesSubvolume table state.tree sub → AreCurrent table (sub_reach table state.tree)
      → MayEach may step sub (names_told entries) → Stage table table state state sub entries 0
  stage_first table state sub entries gives current each = record { makes = makes_nothing table state sub gives current; rest = each }

  -- there is room for one more
  pub stage_room : (old mid : Table) (before at : SubState) (sub : Subvolume) (entries : List NameEntry) (count : ℕ) → count < length entries → Stage old mid before at sub entries count → HasRoom old (85 * length entries) → HasRoom mid 85
  stage_room old mid before at sub entries count below stage room =
      room_left old mid before at (85 * count) 85 (with_names sub (done sub.names (names_told (take count entries)))) (room_less old (85 * length entries) (85 * count + 85) room (omega arith)) stage.makes

  module _ (old mid : Table) (before at : SubState) (sub : Subvolume) (entries : List NameEntry) (count : ℕ) (other : NameEntry) (below : count < length entries) (stage : Stage old mid before at sub entries count) where
    -- the next one
    abbrev entry : NameEntry
    entry = get_or entries count other

    ahead : MayEach may step (with_names sub (done sub.names (names_told (take count entries)))) (name_of entry ∷ names_told (drop (suc count) entries))
    ahead = subst (λ (more : List NameEntry). MayEach may step (with_names sub (done sub.names (names_told (take count entries)))) (names_told more))
        (drop-cons entries count other below) stage.rest

    -- the next one may be done now
    pub stage_may : (s : Subvolume) × GivesSubvolume mid at.tree s × may s (name_of entry)
    stage_may = (with_names sub (done sub.names (names_told (take count entries))), stage.makes.gives, ahead.0)

    pub stage_next : (new : Table) (after : SubState)
        → ((s : Subvolume) → GivesSubvolume mid at.tree s → may s (name_of entry) → Makes mid new at after 85 (with_names s (step (name_of entry) s.names)))
        → Stage old new before after sub entries (count + 1)
    stage_next new after edit =
        let longer : take (count + 1) entries ≡ take count entries ++ entry ∷ [] = take_more entries count other below in
        let told : names_told (take (count + 1) entries) ≡ names_told (take count entries) ++ name_of entry ∷ [] = ap (λ (l : List NameEntry). names_told l) longer ∙ told_last (take count entries) entry in
        let names : done sub.names (names_told (take (count + 1) entries)) ≡ step (name_of entry) (done sub.names (names_told (take count entries))) = ap (done sub.names) told ∙ fold_last step sub.names (names_told (take count entries)) (name_of entry) in
        let one = edit (with_names sub (done sub.names (names_told (take count entries)))) stage.makes.gives ahead.0 in
        let joined = makes_joined old mid new before at after (85 * count) 85 (with_names sub (done sub.names (names_told (take count entries)))) (with_names sub (step (name_of entry) (done sub.names (names_told (take count entries))))) stage.makes one in
        let counted = makes_more old new before after (85 * count + 85) (85 * (count + 1)) (with_names sub (step (name_of entry) (done sub.names (names_told (take count entries))))) joined (omega arith) in
        record {
          makes = subst (λ (names : List FlatName). Makes old new before after (85 * (count + 1)) (with_names sub names)) (sym names) counted;
          rest = subst (λ (names : List FlatName). MayEach may step (with_names sub names) (names_told (drop (count + 1) entries))) (sym names)
              (rw add-one ahead.1);
        }

  -- all are done
  pub made_all : (old now : Table) (before after : SubState) (sub : Subvolume) (entries : List NameEntry) (count : ℕ) → count ≤ length entries → length entries ≤ count → Stage old now before after sub entries count
      → Makes old now before after (85 * length entries) (with_names sub (done sub.names (names_told entries)))
  made_all old now before after sub entries count most least stage =
      let all : take count entries ≡ entries = take_all count entries least in
      makes_more old now before after (85 * count) (85 * length entries) (with_names sub (done sub.names (names_told entries)))
      (subst (λ (l : List NameEntry). Makes old now before after (85 * count) (with_names sub (done sub.names (names_told l)))) all stage.makes) (omega arith)
