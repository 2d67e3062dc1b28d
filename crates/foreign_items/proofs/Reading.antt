-- A walk over a subvolume's tree.
use Rattle.std.proofs.Common.{◌≡◌, ◌↔◌, ℕ, List, Ok, Err, ap, sym, ◌∙◌}
use Rattle.foreign_format.specs.declared.fault.ReadFault.{ReadFault}
use Rattle.foreign_format.specs.declared.fault.ReadFault.TheVariants.{Foreign, Disk, OutOfMemory}
use Rattle.format_laws.specs.Checks.{same_ok}
use Rattle.foreign_format.specs.Answer.{Answers, then_err, then_ok}
use Rattle.foreign_tree.specs.Answers.{IsWalk}
use Rattle.foreign_tree.specs.Tree.{Found, VolumeValue, Walked, tree_of}
use Rattle.foreign_tree.proofs.Trees.{and_then_ok, tree_is_walked_lem}
use Rattle.foreign_volume.specs.declared.roots.Subvolume.{Subvolume}
use Rattle.foreign_items.specs.declared.items.SubvolumeItems.{SubvolumeItems}
use Rattle.foreign_items.specs.Rows.{AreItems, ItemsValue, items_of, rows_of, sub_root}
use Rattle.foreign_items.specs.View.{items_value}

-- the rows of all items that the walk met
pub items_walked : (disk : List ℕ) (volume : VolumeValue) (sub : Subvolume) (walked : Walked) (items : SubvolumeItems) → tree_of volume disk (sub_root sub) ≡ Ok walked
    → items_value items ≡ rows_of walked.items → items_of disk volume sub ≡ Ok (items_value items)
unfolding items_of
items_walked disk volume sub walked items is met = then_ok (tree_of volume disk (sub_root sub)) (λ walked. Ok (rows_of walked.items)) walked is ∙ ap Ok (sym met)

-- the walk's fault
pub items_failed : {V : Type 0} (has_met : V → List Found → Type 0) (old new : V) (disk : List ℕ) (volume : VolumeValue) (sub : Subvolume) (failed : ReadFault)
    → IsWalk has_met old new (Err failed) (tree_of volume disk (sub_root sub)) → Answers items_value (Err failed) (items_of disk volume sub)
unfolding items_of
items_failed has_met old new disk volume sub (Foreign fault) h = then_err (tree_of volume disk (sub_root sub)) (λ walked. Ok (rows_of walked.items)) fault h
items_failed has_met old new disk volume sub Disk h = tt
items_failed has_met old new disk volume sub OutOfMemory h = tt

-- there are rows exactly where the subvolume has a tree
pub items_are_read_lem : (disk : List ℕ) (volume : VolumeValue) (sub : Subvolume) (rows : ItemsValue) → (items_of disk volume sub ≡ Ok rows) ↔ AreItems disk volume sub rows
unfolding items_of
items_are_read_lem disk volume sub rows = (
  (λ h.
      let step = and_then_ok (tree_of volume disk (sub_root sub)) (λ walked. Ok (rows_of walked.items)) rows h in
      record {
        items = step.0.items;
        reach = step.0.reached;
        tree = (tree_is_walked_lem volume disk (sub_root sub) step.0).0 step.1;
        are = sym (same_ok step.2);
      }),
  λ are.
      let walked : Walked = record { items = are.items; reached = are.reach } in
      then_ok (tree_of volume disk (sub_root sub)) (λ walked. Ok (rows_of walked.items)) walked ((tree_is_walked_lem volume disk (sub_root sub) walked).1 are.tree) ∙ ap Ok (sym are.are),
)
