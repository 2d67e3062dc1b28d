-- A child of a node is changed, and then the node's pointers are.
use Rattle.std.proofs.Common.{◌≡◌, ◌≢◌, ◌≤◌, ◌+◌, ℕ, suc, true, List, [], ◌∷◌, ◌++◌, length, refl, ap, ◌∙◌, sym, subst, Option, Some, IsSome, arith}
use Rattle.std.specs.Prelude.{All}
use Rattle.std.specs.List.{flat_map, sum_by}
use Rattle.std.proofs.lemmas.List.Elements.{All-head, All-tail, All-same, All-weaker}
use Rattle.blk_base.specs.declared.key.Key.{Key}
use Rattle.blk_base.specs.Leaf.{Item, Pointer}
use Rattle.block_table.specs.declared.state.SlotState.TheVariants.{Free, LetGo}
use Rattle.block_table.specs.Table.{Table}
use Rattle.blk_base.specs.Trees.{ItemsRise, NoneTwice, first_key}
use Rattle.block_table.specs.TreeIn.{IsSealedSubtree, IsTaken, block_at}
use Rattle.tree_range.specs.Shape.{AreAlike, items_below, node_pointers, reach_below}
use Rattle.tree_range.specs.Between.{AreAbove, AreBelow, data_under}
use Rattle.tree_range.specs.Part.{times_in}
use Rattle.tree_range.specs.Path.{IsChildPlace}
use Rattle.tree_range.proofs.Rise.{All-left, All-right, first_append, rise_left, rise_right}
use Rattle.tree_frame.specs.Frame.{AreCurrent, IsEdit, leaves_below, without_item}
use Rattle.tree_delete.specs.Seals.{IsSealedRow, want_of}
use Rattle.tree_delete.specs.Ahead.{IsBetween, TakesAhead, nodes_ahead, row_ahead}
use Rattle.tree_delete.specs.Rows.{HasItemBelow, IsChildOf, row_items, row_leaves, row_reach}
use Rattle.tree_frame.proofs.EditLaws.{edits_join}
use Rattle.blk_base.proofs.Members.{in_nothing}
use Rattle.tree_frame.proofs.Reading.{reach_taken}
use Rattle.tree_delete.proofs.Lists.{times_append, none_twice_from, none_twice_to}
use Rattle.tree_delete.proofs.Edits.{IsCarried, IsWhole, carry}
use Rattle.tree_delete.proofs.Items.{under_between, without_between}
use Rattle.tree_delete.proofs.Rows.{IsAlikeRow, firsts_of, lefts_below, leaves_cut, leaves_one, over_to, rights_above, row_alike, row_cut, row_one}

-- a node's child by its place, and all that stands beside it
pub record IsWay (level : ℕ) (table : Table) (at : ℕ) (key : Key) (lefts : List Pointer) (pointer : Pointer) (rights : List Pointer) : Type 0 where
  pub split : node_pointers table at ≡ lefts ++ pointer ∷ rights
  pub lefts_good : All (IsChildOf level table) lefts
  pub child : IsChildOf level table pointer
  pub rights_good : All (IsChildOf level table) rights
  pub below : AreBelow key (row_items level table lefts)
  pub above : AreAbove key (row_items level table rights)
  pub rises : ItemsRise (items_below level table pointer.at)
  pub present : IsSome (data_under key (items_below level table pointer.at))
  pub once : NoneTwice (reach_below level table pointer.at)
  pub current : AreCurrent table (reach_below level table pointer.at)
  pub whole : IsWhole table (reach_below (suc level) table at)

pub whole_of : (level : ℕ) (table : Table) (at : ℕ) (key : Key) → HasItemBelow level table at key → IsWhole table (reach_below (suc level) table at)
whole_of level table at key h = record {
  once = h.once;
  used = All-weaker (IsTaken table) (λ (a : ℕ). (block_at table a).state ≢ Free) (λ a k. k.taken) (reach_below (suc level) table at) (reach_taken (suc level) table true at (over_to level table true at h.shape h.least));
  current = h.current;
}

middle_times : (at : ℕ) (l m r : List ℕ) → times_in at (l ++ (m ++ r)) ≤ 1 → times_in at m ≤ 1
middle_times at l m r h = omega (arith, times_append at l (m ++ r), times_append at m r)

behind_times : (at x : ℕ) (xs : List ℕ) → times_in at (x ∷ xs) ≤ 1 → times_in at xs ≤ 1
behind_times at x xs h = omega (arith, times_append at (x ∷ []) xs)

pub way_of : (level : ℕ) (table : Table) (at : ℕ) (key : Key) (place : ℕ) → HasItemBelow level table at key → (c : IsChildPlace (node_pointers table at) key place) → IsWay level table at key c.lefts c.pointer c.rights
way_of level table at key place h c =
    let f : Pointer → List Item = λ (pointer : Pointer). items_below level table pointer.at in
    let g : Pointer → List ℕ = λ (pointer : Pointer). reach_below level table pointer.at in
    let children : All (IsChildOf level table) (c.lefts ++ c.pointer ∷ c.rights) = All-same (IsChildOf level table) (c.lefts ++ c.pointer ∷ c.rights) (node_pointers table at) (sym c.split) h.shape.children in
    let right_ones = All-right (IsChildOf level table) c.lefts (c.pointer ∷ c.rights) children in
    let child = All-head (IsChildOf level table) c.pointer c.rights right_ones in
    let rights = All-tail (IsChildOf level table) c.pointer c.rights right_ones in
    let firsts = firsts_of level table (c.pointer ∷ c.rights) right_ones in
    let l = row_items level table c.lefts in
    let m = items_below level table c.pointer.at in
    let r = row_items level table c.rights in
    let items : items_below (suc level) table at ≡ l ++ (m ++ r) = ap (flat_map f) c.split ∙ row_one f c.lefts c.pointer c.rights in
    let rise : ItemsRise (l ++ (m ++ r)) = subst ItemsRise items h.rises in
    let rise_behind : ItemsRise (m ++ r) = rise_right l (m ++ r) rise in
    let first : first_key (m ++ r) ≡ Some c.pointer.key = first_append m r c.pointer.key child.1 in
    let below = lefts_below f key c.lefts c.pointer (m ++ r) c.low rise first in
    let above = rights_above f key c.pointer c.rights c.high firsts rise_behind in
    let reach : reach_below (suc level) table at ≡ at ∷ (row_reach level table c.lefts ++ (g c.pointer ++ row_reach level table c.rights)) = ap (λ (l' : List ℕ). at ∷ l') (ap (flat_map g) c.split ∙ row_one g c.lefts c.pointer c.rights) in
    let all_once : NoneTwice (at ∷ (row_reach level table c.lefts ++ (g c.pointer ++ row_reach level table c.rights))) = subst NoneTwice reach h.once in
    let all_current : AreCurrent table (at ∷ (row_reach level table c.lefts ++ (g c.pointer ++ row_reach level table c.rights))) = subst (AreCurrent table) reach h.current in
    let P : ℕ → Type 0 = λ (a : ℕ). (block_at table a).state ≢ LetGo in
    record {
      split = c.split;
      lefts_good = All-left (IsChildOf level table) c.lefts (c.pointer ∷ c.rights) children;
      child = child;
      rights_good = rights;
      below = below;
      above = above;
      rises = rise_left m r rise_behind;
      present = subst (λ (o : Option (List ℕ)). IsSome o) (ap (data_under key) items ∙ under_between key l m r below above) h.present;
      once = none_twice_from (g c.pointer) (λ a. middle_times a (row_reach level table c.lefts) (g c.pointer) (row_reach level table c.rights) (behind_times a at (row_reach level table c.lefts ++ (g c.pointer ++ row_reach level table c.rights)) (none_twice_to (at ∷ (row_reach level table c.lefts ++ (g c.pointer ++ row_reach level table c.rights))) a all_once)));
      current = All-left P (g c.pointer) (row_reach level table c.rights) (All-right P (row_reach level table c.lefts) (g c.pointer ++ row_reach level table c.rights) (All-tail P at (row_reach level table c.lefts ++ (g c.pointer ++ row_reach level table c.rights)) all_current));
      whole = whole_of level table at key h;
    }

-- ---- the child is changed

-- in place of a child there are these, without the item under the key
pub record IsChildDone (level : ℕ) (old new : Table) (key : Key) (pointer : Pointer) (made : List Pointer) : Type 0 where
  pub edit : IsEdit old new (reach_below level old pointer.at) (row_reach level new made)
  pub once : NoneTwice (row_reach level new made)
  pub items : row_items level new made ≡ without_item key (items_below level old pointer.at)
  pub leaves : row_leaves level new made ≤ leaves_below level old pointer.at
  pub one : length made ≤ 1
  pub sealed : (fsid : List ℕ) (owner : ℕ) → IsSealedSubtree level old (want_of fsid owner level pointer) → IsSealedRow fsid owner level new made
  pub ahead : (first last : Key) → IsBetween first last key → TakesAhead old new (nodes_ahead first last level old pointer.at + length made) (row_ahead first last level new made + 1)

-- the row of a node's pointers then, where the node is as it was
pub record IsRowDone (level : ℕ) (old new : Table) (at : ℕ) (key : Key) (row : List Pointer) : Type 0 where
  pub edit : IsEdit old new (reach_below (suc level) old at) (at ∷ row_reach level new row)
  pub whole : IsWhole new (at ∷ row_reach level new row)
  pub items : row_items level new row ≡ without_item key (items_below (suc level) old at)
  pub leaves : row_leaves level new row ≤ leaves_below (suc level) old at

pub record IsBeside (level : ℕ) (old new : Table) (at : ℕ) (lefts rights : List Pointer) : Type 0 where
  pub same : block_at new at ≡ block_at old at
  pub lefts_alike : IsAlikeRow level old new lefts
  pub rights_alike : IsAlikeRow level old new rights

shuffled : (at : ℕ) (l m r : List ℕ) (x : ℕ) → times_in x (at ∷ (l ++ (m ++ r))) ≡ times_in x (m ++ (at ∷ (l ++ r)))
shuffled at l m r x =
    omega (arith, times_append x (at ∷ []) (l ++ (m ++ r)), times_append x l (m ++ r), times_append x m r, times_append x m (at ∷ (l ++ r)), times_append x (at ∷ []) (l ++ r), times_append x l r)

module _ (level : ℕ) (old new : Table) (at : ℕ) (key : Key) (lefts : List Pointer) (pointer : Pointer) (rights made : List Pointer) (way : IsWay level old at key lefts pointer rights) (done : IsChildDone level old new key pointer made) where
  pub beside_carried : IsCarried old new (at ∷ (row_reach level old lefts ++ row_reach level old rights)) (reach_below (suc level) old at) (at ∷ (row_reach level old lefts ++ (row_reach level new made ++ row_reach level old rights)))
  beside_carried =
      let g : Pointer → List ℕ = λ (p : Pointer). reach_below level old p.at in
      let l = row_reach level old lefts in
      let r = row_reach level old rights in
      let reach : reach_below (suc level) old at ≡ at ∷ (l ++ (g pointer ++ r)) = ap (λ (l' : List ℕ). at ∷ l') (ap (flat_map g) way.split ∙ row_one g lefts pointer rights) in
      carry old new (g pointer) (row_reach level new made) (at ∷ (l ++ r)) (reach_below (suc level) old at) (at ∷ (l ++ (row_reach level new made ++ r))) done.edit done.once way.whole (λ x. ap (times_in x) reach ∙ shuffled at l (g pointer) r x) (shuffled at l (row_reach level new made) r)

  pub beside : IsBeside level old new at lefts rights
  beside =
      let P : ℕ → Type 0 = λ (a : ℕ). block_at new a ≡ block_at old a in
      let l = row_reach level old lefts in
      let r = row_reach level old rights in
      let both = All-tail P at (l ++ r) beside_carried.alike in
      record {
        same = All-head P at (l ++ r) beside_carried.alike;
        lefts_alike = row_alike level old new lefts (All-left P l r both);
        rights_alike = row_alike level old new rights (All-right P l r both);
      }

  pub row_done : IsRowDone level old new at key (lefts ++ (made ++ rights))
  row_done =
      let f : Pointer → List Item = λ (p : Pointer). items_below level new p.at in
      let f_old : Pointer → List Item = λ (p : Pointer). items_below level old p.at in
      let g : Pointer → List ℕ = λ (p : Pointer). reach_below level new p.at in
      let n : Pointer → ℕ = λ (p : Pointer). leaves_below level new p.at in
      let n_old : Pointer → ℕ = λ (p : Pointer). leaves_below level old p.at in
      let b = beside in
      let row = lefts ++ (made ++ rights) in
      let reach : row_reach level new row ≡ row_reach level old lefts ++ (row_reach level new made ++ row_reach level old rights) =
      row_cut g lefts made rights ∙ ap (λ (l : List ℕ). l ++ (row_reach level new made ++ row_reach level new rights)) b.lefts_alike.reach ∙ ap (λ (l : List ℕ). row_reach level old lefts ++ (row_reach level new made ++ l)) b.rights_alike.reach in
      let items : row_items level new row ≡ row_items level old lefts ++ (without_item key (items_below level old pointer.at) ++ row_items level old rights) =
      row_cut f lefts made rights ∙ ap (λ (l : List Item). l ++ (row_items level new made ++ row_items level new rights)) b.lefts_alike.items ∙ ap (λ (l : List Item). row_items level old lefts ++ (row_items level new made ++ l)) b.rights_alike.items ∙ ap (λ (l : List Item). row_items level old lefts ++ (l ++ row_items level old rights)) done.items in
      let items_old : items_below (suc level) old at ≡ row_items level old lefts ++ (items_below level old pointer.at ++ row_items level old rights) = ap (flat_map f_old) way.split ∙ row_one f_old lefts pointer rights in
      let leaves_old : leaves_below (suc level) old at ≡ row_leaves level old lefts + (leaves_below level old pointer.at + row_leaves level old rights) = ap (sum_by n_old) way.split ∙ leaves_one n_old lefts pointer rights in
      record {
        edit = subst (λ (l : List ℕ). IsEdit old new (reach_below (suc level) old at) (at ∷ l)) (sym reach) beside_carried.edit;
        whole = subst (λ (l : List ℕ). IsWhole new (at ∷ l)) (sym reach) beside_carried.whole;
        items = items ∙ sym (without_between key (row_items level old lefts) (items_below level old pointer.at) (row_items level old rights) way.below way.above) ∙ ap (without_item key) (sym items_old);
        leaves = omega (arith, leaves_cut n lefts made rights, b.lefts_alike.leaves, b.rights_alike.leaves, done.leaves, leaves_old);
      }

-- ---- the node's pointers are changed

-- the node stands at another byte address with these pointers
pub record IsNodeDone (level : ℕ) (old mid new : Table) (at result : ℕ) (key : Key) (row : List Pointer) : Type 0 where
  pub edit : IsEdit old new (reach_below (suc level) old at) (reach_below (suc level) new result)
  pub whole : IsWhole new (reach_below (suc level) new result)
  pub items : items_below (suc level) new result ≡ without_item key (items_below (suc level) old at)
  pub leaves : leaves_below (suc level) new result ≤ leaves_below (suc level) old at
  pub alike : AreAlike mid new (row_reach level mid row)
  pub row_alike : IsAlikeRow level mid new row

pub node_done : (level : ℕ) (old mid new : Table) (at result : ℕ) (key : Key) (row : List Pointer) → IsRowDone level old mid at key row → IsEdit mid new (at ∷ []) (result ∷ []) → node_pointers new result ≡ row → IsNodeDone level old mid new at result key row
node_done level old mid new at result key row done edit is =
    let under = row_reach level mid row in
    let carried = carry mid new (at ∷ []) (result ∷ []) under (at ∷ under) (result ∷ under) edit ((λ there. in_nothing result there), tt) done.whole (λ x. refl) (λ x. refl) in
    let alike = row_alike level mid new row carried.alike in
    let reach : reach_below (suc level) new result ≡ result ∷ under = ap (λ (l : List ℕ). result ∷ l) (ap (row_reach level new) is ∙ alike.reach) in
    record {
      edit = edits_join old mid new (reach_below (suc level) old at) (at ∷ under) (reach_below (suc level) new result) done.edit (subst (λ (l : List ℕ). IsEdit mid new (at ∷ under) l) (sym reach) carried.edit);
      whole = subst (IsWhole new) (sym reach) carried.whole;
      items = ap (row_items level new) is ∙ alike.items ∙ done.items;
      leaves = omega (arith, ap (sum_by (λ (p : Pointer). leaves_below level new p.at)) is, alike.leaves, done.leaves);
      alike = carried.alike;
      row_alike = alike;
    }
