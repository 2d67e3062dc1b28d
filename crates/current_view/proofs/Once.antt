-- Names without their marks stand once, and what is known of the subvolume that a tree gives.
use Rattle.std.proofs.Common.{◌≡◌, ℕ, Bool, List, filter, map, Contains, ap, refl, sym, subst, [], ◌∷◌, ◌≢◌}
use Rattle.std.proofs.lemmas.Bool.{ne_eqb}
use Rattle.volume_image.proofs.Reaches.{head_in, tail_in}
use Rattle.block_table.specs.declared.tree.SubState.{SubState}
use Rattle.table_volume.specs.Running.{GivesRun}
use Rattle.block_table.specs.declared.tree.Tree.{Tree}
use Rattle.block_table.specs.Table.{Table}
use Rattle.tree_range.specs.Shape.{tree_items}
use Rattle.flat_model.specs.Coherent.{IsCoherent}
use Rattle.flat_model.specs.declared.view.NameAt.{NameAt}
use Rattle.flat_model.specs.Names.{FlatName, names_of}
use Rattle.flat_model.specs.Unmarked.{unmarked}
use Rattle.flat_model.specs.Volume.{RunSub, Subvolume}
use Rattle.volume_image.proofs.Members.{in_filter}
use Rattle.image_faults.specs.Faulty.{HasNoFault, StandOnce}
use Rattle.image_faults.specs.Lists.{once_filter, once_map, once_names}
use Rattle.image_faults.proofs.OfLines.{is_said, no_fault_of}
use Rattle.name_walk.specs.Given.{GivesCoherent}
use Rattle.table_volume.specs.Gives.{data_in}
use Rattle.current_view.specs.View.{seen}

pub once_unmarked : (sub : Subvolume) → IsCoherent sub → (p : FlatName → Bool) → StandOnce (map unmarked (filter p sub.names))
once_unmarked sub coherent p =
    once_map unmarked (filter p sub.names)
    (λ a b ca cb e. coherent.no_name_twice a b (in_filter p sub.names a ca).0 (in_filter p sub.names b cb).0 (ap (λ (n : NameAt). n.dir.0) e) (ap (λ (n : NameAt). n.name) e))
    (once_filter p sub.names (once_names sub.names coherent.in_order))

-- no inode of it is faulty
pub no_fault : (table : Table) (tree : Tree) → GivesCoherent table tree (seen table tree) → (ino : ℕ) → HasNoFault (tree_items table tree) (data_in table) ino
no_fault table tree given ino = no_fault_of (tree_items table tree) (data_in table) (seen table tree) given.gives.tree_in.order given.gives.items given.coherent ino

-- ---- the state

-- the subvolume that a state gives is the one that is seen
pub run_is_seen : (table : Table) (state : SubState) (run : RunSub) → GivesRun table state run → seen table state.tree ≡ run.sub
run_is_seen table state run gives = is_said (tree_items table state.tree) (data_in table) run.sub gives.gives.tree_in.order gives.gives.items gives.sound.coherent

pub seen_is_given : (table : Table) (state : SubState) (run : RunSub) → GivesRun table state run → GivesCoherent table state.tree (seen table state.tree)
seen_is_given table state run gives =
    subst (GivesCoherent table state.tree) (sym (run_is_seen table state run gives)) (record { gives = gives.gives; coherent = gives.sound.coherent })

-- ---- a tree

-- the coherent subvolume that a tree gives is the one that is seen
pub tree_is_seen : (table : Table) (tree : Tree) (sub : Subvolume) → GivesCoherent table tree sub → seen table tree ≡ sub
tree_is_seen table tree sub given = is_said (tree_items table tree) (data_in table) sub given.gives.tree_in.order given.gives.items given.coherent

pub seen_is_coherent : (table : Table) (tree : Tree) (sub : Subvolume) → GivesCoherent table tree sub → GivesCoherent table tree (seen table tree)
seen_is_coherent table tree sub given = subst (GivesCoherent table tree) (sym (tree_is_seen table tree sub given)) given

-- ---- the root directory

no_names : (names : List FlatName) → ((name : FlatName) → Contains names name → name.ino ≢ 256) → names_of names 256 ≡ []
no_names [] none = refl
no_names (name ∷ names) none = rw (ne_eqb name.ino 256 (none name (head_in name names))) (no_names names (λ other c. none other (tail_in name other names c)))

pub root_unnamed : (sub : Subvolume) → IsCoherent sub → names_of sub.names 256 ≡ []
root_unnamed sub coherent = no_names sub.names coherent.root_has_no_name
