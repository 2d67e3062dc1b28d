-- The names that replay leaves of those that are asked for: committed ones that it keeps, and then those of the log.
use Rattle.std.proofs.Common.{◌≡◌, ◌≢◌, Bool, List, ◌++◌, map, filter, Contains, Option, Some, None, refl, sym, ap, subst, ◌∙◌}
use Rattle.std.specs.List.Sorted.{IsPermutation}
use Rattle.block_table.specs.declared.tree.Tree.{Tree}
use Rattle.block_table.specs.Table.{Table}
use Rattle.flat_model.specs.declared.view.NameAt.{NameAt}
use Rattle.flat_model.specs.Names.{FlatName, name_set}
use Rattle.flat_model.specs.Unmarked.{unmarked}
use Rattle.image_faults.specs.Faulty.{StandOnce}
use Rattle.log_image.specs.LogItems.{names_in}
use Rattle.logged_volume.specs.Replay.{replay}
use Rattle.tree_range.specs.Shape.{tree_items}
use Rattle.current_view.specs.View.{seen}
use Rattle.recovered_view.specs.Kept.{is_kept_at}
use Rattle.recovered_view.specs.Log.{IsRecovered, log_said, logged_names}
use Rattle.recovered_view.proofs.Left.{after_are}
use Rattle.recovered_view.proofs.Told.{said_once}

-- no name of a log is the root directory's
pub none_of_root : (table : Table) (tree : Tree) (log : Option Tree) (at : Tree) → IsRecovered table tree log → log ≡ Some at → (name : FlatName) → Contains (log_said table (Some at)).names name → name.ino ≢ 256
none_of_root table tree log at given is = (subst (IsRecovered table tree) is given).accepted.root_has_no_name

logged_once : (table : Table) (tree : Tree) (log : Option Tree) → IsRecovered table tree log → StandOnce (logged_names table log)
logged_once table tree None given = tt
logged_once table tree (Some at) given = said_once (names_in (tree_items table at)) given.log_at.items.once

logged_set : (table : Table) (tree : Tree) (log : Option Tree) → IsRecovered table tree log → (log_said table log).names ≡ name_set (logged_names table log)
logged_set table tree None given = refl
logged_set table tree (Some at) given = given.log_at.items.names

pub names_are : (table : Table) (tree : Tree) (log : Option Tree) (p : FlatName → Bool) (committed : List NameAt) → IsRecovered table tree log → IsPermutation (map unmarked (filter p (seen table tree).names)) committed
    → IsPermutation (map unmarked (filter p (replay (seen table tree) (log_said table log)).names)) (filter (is_kept_at (log_said table log)) committed ++ map unmarked (filter p (logged_names table log)))
names_are table tree log p committed given are =
    after_are (seen table tree) given.committed.coherent (log_said table log) given.accepted (logged_names table log) (logged_once table tree log given) (logged_set table tree log given) p committed are

-- the same, with what was made of it
pub names_made : (table : Table) (tree : Tree) (log : Option Tree) (p : FlatName → Bool) (committed kept names : List NameAt) → IsRecovered table tree log → IsPermutation (map unmarked (filter p (seen table tree).names)) committed
    → kept ≡ filter (is_kept_at (log_said table log)) committed → names ≡ kept ++ map unmarked (filter p (logged_names table log))
    → IsPermutation (map unmarked (filter p (replay (seen table tree) (log_said table log)).names)) names
names_made table tree log p committed kept names given are is made =
    subst (IsPermutation (map unmarked (filter p (replay (seen table tree) (log_said table log)).names)))
    (sym (made ∙ ap (λ (ns : List NameAt). ns ++ map unmarked (filter p (logged_names table log))) is)) (names_are table tree log p committed given are)
