-- Edits by numbers are edits of the frame.
use Rattle.std.proofs.Common.{◌≡◌, ℕ, List, inl, inr}
use Rattle.std.specs.Prelude.{Contains}
use Rattle.block_table.specs.Table.{Table}
use Rattle.tree_range.specs.Part.{times_in}
use Rattle.tree_range.proofs.Times.{contained_by_times}
use Rattle.tree_frame.specs.Frame.{IsEdit}
use Rattle.cow_tree.specs.Change.{IsChange}
use Rattle.cow_tree.proofs.Changes.{none_or_some}
use Rattle.cow_tree.proofs.Lists.{contained_times}

none_there : (xs : List ℕ) (at : ℕ) → (Contains xs at → ⊥) → times_in at xs ≡ 0
none_there xs at apart = elim (none_or_some (times_in at xs)) [ inl none ↦ none | inr some ↦ absurd (apart (contained_by_times at xs some)) ]

pub change_is_edit : (old new : Table) (before after : List ℕ) (most : ℕ) → IsChange old new before after most → IsEdit old new before after
change_is_edit old new before after most h = record {
  size = h.size;
  lists = h.lists;
  fresh = λ at there apart. (h.each at).fresh (none_there before at apart) (contained_times after at there);
  left = λ at there apart. (h.each at).left (contained_times before at there) (none_there after at apart);
  kept = λ at there here. (h.each at).kept (contained_times before at there) (contained_times after at here);
  kept_whole = λ at there here written. (h.each at).kept_whole (contained_times before at there) (contained_times after at here) written;
  others = λ at apart beside. (h.each at).others (none_there before at apart) (none_there after at beside);
}
