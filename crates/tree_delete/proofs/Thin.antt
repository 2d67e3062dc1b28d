-- A node that is left with a child of too few pointers, and what its repair gives.
use Rattle.std.proofs.Common.{◌≡◌, ◌≤◌, ◌<◌, ◌+◌, ◌*◌, ℕ, suc, List, [], ◌∷◌, ◌++◌, length, take, drop, ap, ◌∙◌, sym, subst, Some, ◌⊎◌, arith, inl, inr, append_assoc}
use Rattle.std.specs.Prelude.{All}
use Rattle.std.proofs.lemmas.List.{length-append}
use Rattle.std.proofs.lemmas.List.Sums.{sum_by-cons}
use Rattle.std.proofs.lemmas.List.Elements.{All-nil, All-cons, All-head, All-tail, All-weaker}
use Rattle.blk_base.specs.declared.key.Key.{Key}
use Rattle.blk_base.specs.Address.{IsAllowed}
use Rattle.blk_base.specs.Leaf.{Pointer}
use Rattle.block_table.specs.declared.state.SlotState.TheVariants.{Dirty}
use Rattle.block_table.specs.Table.{Table}
use Rattle.blk_base.specs.Trees.{ItemsRise, first_key}
use Rattle.block_table.specs.TreeIn.{block_at}
use Rattle.leaf_view.proofs.NodeLaws.{node_body_means}
use Rattle.tree_range.specs.Shape.{AreAlike, items_below, node_pointers, reach_below}
use Rattle.tree_range.proofs.Bodies.{node_body_is}
use Rattle.tree_range.proofs.Local.{node_pointers_alike}
use Rattle.tree_range.proofs.Rise.{All-left, All-right}
use Rattle.tree_blocks.specs.Steps.{IsDirtyNode, node_at}
use Rattle.tree_frame.specs.Frame.{IsEdit, TakesAtMost}
use Rattle.tree_delete.specs.Seals.{IsSealedRow}
use Rattle.tree_delete.specs.Ahead.{IsBetween, TakesAhead, copies_of, nodes_ahead, row_ahead}
use Rattle.tree_delete.specs.Balance.{AreBalanced}
use Rattle.tree_delete.specs.Rows.{IsChildOf, IsLessNode, row_reach}
use Rattle.tree_delete.specs.Steps.{HasPair, IsRepaired}
use Rattle.tree_frame.proofs.EditLaws.{edits_join}
use Rattle.tree_delete.proofs.Ahead.{dirty_ahead, node_ahead, takes_one}
use Rattle.tree_delete.proofs.Blocks.{node_same}
use Rattle.tree_range.proofs.Cuts.{at_within, cut_at, cut_same, length_cut, length_at}
use Rattle.tree_delete.proofs.Edits.{IsWhole, takes_join, takes_more}
use Rattle.tree_delete.proofs.Items.{rise_without}
use Rattle.tree_delete.proofs.Nodes.{IsKid, IsKidPair, has_pair, kid_alike, kid_of, made_count, node_even}
use Rattle.tree_delete.proofs.Deleting.{IsTurn, less_child, less_kid, less_node, turn_ahead, turn_sealed_there, turned}
use Rattle.tree_delete.proofs.Rows.{row_one}
use Rattle.tree_delete.proofs.Steps.{IsBeside, IsNodeDone, beside}

-- the child behind these pointers has 29 pointers at least, and is being edited; the others have 30
pub record IsThin (level : ℕ) (table : Table) (at : ℕ) (lefts : List Pointer) (thin : Pointer) (rights : List Pointer) : Type 0 where
  pub row : node_pointers table at ≡ lefts ++ thin ∷ rights
  pub node : IsDirtyNode table at
  pub allowed : IsAllowed (length table.slots) at
  pub lefts_good : All (IsKid level table 30) lefts
  pub kid : IsKid level table 29 thin
  pub few : length (node_pointers table thin.at) ≤ 29
  pub dirty : (block_at table thin.at).state ≡ Dirty
  pub rights_good : All (IsKid level table 30) rights
  pub whole : IsWhole table (reach_below (suc (suc level)) table at)
  pub rises : ItemsRise (items_below (suc (suc level)) table at)

kid_less : (level : ℕ) (table : Table) (p : Pointer) → IsKid level table 30 p → IsKid level table 29 p
kid_less level table p h = record { over = h.over; begins = h.begins; long = omega (arith, h.long) }

kid_most : (level least : ℕ) (table : Table) (p : Pointer) → IsKid level table least p → length (node_pointers table p.at) ≤ 121
kid_most level least table p h = (node_body_means (block_at table p.at).bytes (node_pointers table p.at) (node_body_is table p.at h.over.body)).most

two_behind : (ps front : List Pointer) (a : Pointer) (behind : List Pointer) (left : ℕ) → ps ≡ front ++ a ∷ behind → length front ≡ left → left + 1 < length ps → (a' : Pointer) × (b : Pointer) × (rs : List Pointer) × (ps ≡ front ++ a' ∷ b ∷ rs) × (length front ≡ left)
two_behind ps front a [] left is long inside = absurd (omega (arith, ap (λ (l : List Pointer). length l) is, length-append front (a ∷ []), long, inside))
two_behind ps front a (b ∷ rs) left is long inside = (a, b, rs, is, long)

-- two children side by side, one of which is the thin one
pub record IsThinPair (level : ℕ) (table : Table) (at : ℕ) (lefts : List Pointer) (a b : Pointer) (rights : List Pointer) : Type 0 where
  pub kids : IsKidPair level table at lefts a b rights
  pub dirty : ((block_at table a.at).state ≡ Dirty) ⊎ ((block_at table b.at).state ≡ Dirty)
  pub least : 59 ≤ length (node_pointers table a.at) + length (node_pointers table b.at)
  pub most : length (node_pointers table a.at) + length (node_pointers table b.at) ≤ 241

module _ (level : ℕ) (table : Table) (at : ℕ) (lefts : List Pointer) (thin : Pointer) (rights : List Pointer) (h : IsThin level table at lefts thin rights) where
  -- it and the one behind it
  with_next : (r : Pointer) (rs : List Pointer) → rights ≡ r ∷ rs → IsThinPair level table at lefts thin r rs
  with_next r rs is =
      let good = subst (All (IsKid level table 30)) is h.rights_good in
      let next = All-head (IsKid level table 30) r rs good in
      record {
        kids = record {
          split = h.row ∙ ap (λ (l : List Pointer). lefts ++ thin ∷ l) is;
          lefts_good = h.lefts_good;
          left = h.kid;
          right = kid_less level table r next;
          rights_good = All-tail (IsKid level table 30) r rs good;
          whole = h.whole;
          rises = h.rises;
        };
        dirty = inl h.dirty;
        least = omega (arith, h.kid.long, next.long);
        most = omega (arith, h.few, kid_most level 30 table r next);
      }

  -- it and the one in front of it
  with_last : (ls : List Pointer) (l : Pointer) → lefts ≡ ls ++ l ∷ [] → IsThinPair level table at ls l thin rights
  with_last ls l is =
      let good = subst (All (IsKid level table 30)) is h.lefts_good in
      let last = All-head (IsKid level table 30) l [] (All-right (IsKid level table 30) ls (l ∷ []) good) in
      record {
        kids = record {
          split = h.row ∙ ap (λ (k : List Pointer). k ++ thin ∷ rights) is ∙ append_assoc ls (l ∷ []) (thin ∷ rights);
          lefts_good = All-left (IsKid level table 30) ls (l ∷ []) good;
          left = kid_less level table l last;
          right = h.kid;
          rights_good = h.rights_good;
          whole = h.whole;
          rises = h.rises;
        };
        dirty = inr h.dirty;
        least = omega (arith, h.kid.long, last.long);
        most = omega (arith, h.few, kid_most level 30 table l last);
      }

  -- two children that are cut out
  cut_pair : (ls : List Pointer) (a b : Pointer) (rs : List Pointer) → node_pointers table at ≡ ls ++ a ∷ b ∷ rs → (length ls ≡ length lefts) ⊎ (length ls + 1 ≡ length lefts) → IsThinPair level table at ls a b rs
  cut_pair ls a b rs is near = elim near [
    | inl long ↦
        let same = cut_same ls a (b ∷ rs) lefts thin rights (sym is ∙ h.row) long in
        subst (λ (k : List Pointer). IsThinPair level table at k a b rs) (sym same.0) (subst (λ (q : Pointer). IsThinPair level table at lefts q b rs) (sym same.1) (with_next b rs (sym same.2)))
    | inr long ↦
        let shown : (ls ++ a ∷ []) ++ b ∷ rs ≡ lefts ++ thin ∷ rights = append_assoc ls (a ∷ []) (b ∷ rs) ∙ sym is ∙ h.row in
        let longer : length (ls ++ a ∷ []) ≡ length lefts = length-append ls (a ∷ []) ∙ long in
        let same = cut_same (ls ++ a ∷ []) b rs lefts thin rights shown longer in
        subst (λ (q : Pointer). IsThinPair level table at ls a q rs) (sym same.1) (subst (λ (k : List Pointer). IsThinPair level table at ls a thin k) (sym same.2) (with_last ls a (sym same.0)))
  ]

  cut_two : (left : ℕ) → left + 1 < length (node_pointers table at) → (a : Pointer) × (b : Pointer) × (rs : List Pointer) × (node_pointers table at ≡ take left (node_pointers table at) ++ a ∷ b ∷ rs) × (length (take left (node_pointers table at)) ≡ left)
  cut_two left inside =
      let ps = node_pointers table at in
      let one : left < length ps = omega arith in
      let a = at_within ps left one in
      let cut = cut_at ps left a.0 a.1 in
      let long = length_cut ps left a.0 a.1 in
      two_behind ps (take left ps) a.0 (drop (suc left) ps) left cut long inside

  -- each neighbour can share with it
  pub thin_pairs : (left : ℕ) → (left ≡ length lefts) ⊎ (left + 1 ≡ length lefts) → left + 1 < length (node_at table at) → HasPair table at left
  thin_pairs left near inside =
      let inside' : left + 1 < length (node_pointers table at) = omega (arith, ap (λ (l : List Pointer). length l) (node_same table at)) in
      let two = cut_two left inside' in
      let ls = take left (node_pointers table at) in
      let near' : (length ls ≡ length lefts) ⊎ (length ls + 1 ≡ length lefts) = elim near [ inl e ↦ inl (two.4 ∙ e) | inr e ↦ inr (ap (λ (n : ℕ). n + 1) two.4 ∙ e) ] in
      let pair = cut_pair ls two.0 two.1 two.2 two.3 near' in
      subst (HasPair table at) two.4 (has_pair level table at ls two.0 two.1 two.2 pair.kids h.node h.allowed pair.dirty pair.least pair.most)

  pub repaired_kids : (new : Table) (r : IsRepaired table new at (length lefts)) → IsKidPair level table at r.pair.lefts r.pair.left r.pair.right r.pair.rights
  repaired_kids new r =
      let pair = r.pair in
      let near : (length pair.lefts ≡ length lefts) ⊎ (length pair.lefts + 1 ≡ length lefts) = elim r.near [ inl e ↦ inl (pair.long ∙ e) | inr e ↦ inr (ap (λ (n : ℕ). n + 1) pair.long ∙ e) ] in
      (cut_pair pair.lefts pair.left pair.right pair.rights (node_same table at ∙ pair.split) near).kids

-- the whole step
pub repaired : (level taken : ℕ) (old mid table new : Table) (at result : ℕ) (key : Key) (lefts : List Pointer) (thin : Pointer) (rights : List Pointer) → IsNodeDone (suc level) old mid table at result key (lefts ++ thin ∷ rights) → IsThin level table result lefts thin rights → length (node_pointers old at) ≡ length (node_pointers table result)
    → IsRepaired table new result (length lefts) → TakesAtMost old table taken → taken + 1 ≤ 2 * (suc level) + 2 → AreBalanced old table → ((first last : Key) → IsBetween first last key → TakesAhead old table (nodes_ahead first last (suc (suc level)) old at) (nodes_ahead first last (suc (suc level)) table result + 1)) → ((fsid : List ℕ) (owner : ℕ) → IsSealedRow fsid owner (suc level) old (node_pointers old at) → IsSealedRow fsid owner (suc level) table (node_pointers table result)) → IsLessNode (suc level) old new at result key
repaired level taken old mid table new at result key lefts thin rights done h count r blocks few balance ahead sealed =
    let kids = repaired_kids level table result lefts thin rights h new r in
    let takes = r.even.blocks in
    let two = r.even.few in
    let long = made_count level table new result r.left r.pair kids r.even in
    let even = node_even level table new result r.left r.pair kids r.even in
    record {
      shape = even.over;
      dirty = r.even.node.dirty;
      count = omega (arith, count, even.count);
      fewer = omega (arith, count, long, two);
      items = even.items ∙ done.items;
      once = even.whole.once;
      edit = edits_join old table new (reach_below (suc (suc level)) old at) (reach_below (suc (suc level)) table result) (reach_below (suc (suc level)) new result) done.edit even.edit;
      blocks = takes_more old new (taken + 1) (2 * (suc level) + 2) few (takes_join old table new taken 1 blocks (record { spare = omega (arith, takes.spare, two); free = omega (arith, takes.free, two) }));
      balance = omega (arith, balance, takes.balance);
      leaves = omega (arith, even.leaves, done.leaves);
      sealed = λ fsid owner was. even.sealed fsid owner (sealed fsid owner was);
      ahead = λ first last between.
          let before = ahead first last between in
          let is = even.ahead first last in
          record { spare = omega (arith, before.spare, is, takes.spare, count, long); free = omega (arith, before.free, is, takes.free, count, long) };
    }

-- ---- the node as it stands when its child was changed

-- the kids of a row stay where the table is alike
kids_alike : (level least : ℕ) (old new : Table) (pointers : List Pointer) → AreAlike old new (row_reach (suc level) old pointers) → All (IsKid level old least) pointers → All (IsKid level new least) pointers
kids_alike level least old new [] h all = All-nil (IsKid level new least)
kids_alike level least old new (p ∷ pointers) h all =
    let P : ℕ → Type 0 = λ (a : ℕ). block_at new a ≡ block_at old a in
    let near = reach_below (suc level) old p.at in
    let far = row_reach (suc level) old pointers in
    All-cons (IsKid level new least) p pointers (kid_alike level least old new p (All-left P near far h) (All-head (IsKid level old least) p pointers all)) (kids_alike level least old new pointers (All-right P near far h) (All-tail (IsKid level old least) p pointers all))

pub record IsChanged (level : ℕ) (old mid new : Table) (at result : ℕ) (key : Key) (lefts : List Pointer) (p : Pointer) (rights : List Pointer) (q : Pointer) : Type 0 where
  pub turn : IsTurn (suc level) old mid at key lefts p rights (q ∷ [])
  pub less : IsLessNode level old mid p.at q.at key
  pub first : first_key (items_below (suc level) mid q.at) ≡ Some q.key
  pub edit : IsEdit mid new (at ∷ []) (result ∷ [])
  pub node : IsDirtyNode new result
  pub allowed : IsAllowed (length new.slots) result
  pub pointers : node_at new result ≡ lefts ++ q ∷ rights

module _ (level : ℕ) (old mid new : Table) (at result : ℕ) (key : Key) (lefts : List Pointer) (p : Pointer) (rights : List Pointer) (q : Pointer) (h : IsChanged level old mid new at result key lefts p rights q) where
  pub changed : IsNodeDone (suc level) old mid new at result key (lefts ++ q ∷ rights)
  changed = turned (suc level) old mid at key lefts p rights (q ∷ []) h.turn new result h.edit h.node h.allowed h.pointers

  beside_it : IsBeside (suc level) old mid at lefts rights
  beside_it = beside (suc level) old mid at key lefts p rights (q ∷ []) h.turn.way h.turn.done

  reach_row : row_reach (suc level) mid (lefts ++ q ∷ rights) ≡ row_reach (suc level) mid lefts ++ (reach_below (suc level) mid q.at ++ row_reach (suc level) mid rights)
  reach_row = row_one (λ (r : Pointer). reach_below (suc level) mid r.at) lefts q rights

  alike_parts : AreAlike mid new (row_reach (suc level) mid lefts ++ (reach_below (suc level) mid q.at ++ row_reach (suc level) mid rights))
  alike_parts = subst (AreAlike mid new) reach_row changed.alike

  lefts_kids : All (IsKid level new 30) lefts
  lefts_kids =
      let P : ℕ → Type 0 = λ (a : ℕ). block_at new a ≡ block_at mid a in
      let good = beside_it.lefts_alike.children h.turn.way.lefts_good in
      kids_alike level 30 mid new lefts (All-left P (row_reach (suc level) mid lefts) (reach_below (suc level) mid q.at ++ row_reach (suc level) mid rights) alike_parts) (All-weaker (IsChildOf (suc level) mid) (IsKid level mid 30) (λ r k. kid_of level mid r k) lefts good)

  alike_behind : AreAlike mid new (reach_below (suc level) mid q.at ++ row_reach (suc level) mid rights)
  alike_behind = All-right (λ (a : ℕ). block_at new a ≡ block_at mid a) (row_reach (suc level) mid lefts) (reach_below (suc level) mid q.at ++ row_reach (suc level) mid rights) alike_parts

  alike_kid : AreAlike mid new (reach_below (suc level) mid q.at)
  alike_kid = All-left (λ (a : ℕ). block_at new a ≡ block_at mid a) (reach_below (suc level) mid q.at) (row_reach (suc level) mid rights) alike_behind

  rights_kids : All (IsKid level new 30) rights
  rights_kids =
      let good = beside_it.rights_alike.children h.turn.way.rights_good in
      kids_alike level 30 mid new rights (All-right (λ (a : ℕ). block_at new a ≡ block_at mid a) (reach_below (suc level) mid q.at) (row_reach (suc level) mid rights) alike_behind) (All-weaker (IsChildOf (suc level) mid) (IsKid level mid 30) (λ r k. kid_of level mid r k) rights good)

  pub changed_kid : IsKid level new 29 q
  changed_kid = kid_alike level 29 mid new q alike_kid (less_kid level old mid p q key h.turn.way.child.0.2 h.less h.first)

  same_kid : block_at new q.at ≡ block_at mid q.at
  same_kid = All-head (λ (a : ℕ). block_at new a ≡ block_at mid a) q.at (row_reach level mid (node_pointers mid q.at)) alike_kid

  pub kid_pointers : node_pointers new q.at ≡ node_pointers mid q.at
  kid_pointers = node_pointers_alike mid new q.at same_kid

  pub changed_thin : length (node_pointers new q.at) ≤ 29 → IsThin level new result lefts q rights
  changed_thin few = record {
    row = node_same new result ∙ h.pointers;
    node = h.node;
    allowed = h.allowed;
    lefts_good = lefts_kids;
    kid = changed_kid;
    few = few;
    dirty = ap (λ slot. slot.state) same_kid ∙ h.less.dirty;
    rights_good = rights_kids;
    whole = changed.whole;
    rises = subst ItemsRise (sym changed.items) (rise_without key (items_below (suc (suc level)) old at) h.turn.below.rises);
  }

  pub changed_count : length (node_pointers old at) ≡ length (node_pointers new result)
  changed_count =
      omega (arith, ap (λ (l : List Pointer). length l) h.turn.way.split, length-append lefts (p ∷ rights), ap (λ (l : List Pointer). length l) (node_same new result ∙ h.pointers), length-append lefts (q ∷ rights))

  pub changed_inside : length lefts < length (node_at new result)
  changed_inside = omega (arith, ap (λ (l : List Pointer). length l) h.pointers, length_at lefts q rights)

  pub changed_least : 2 ≤ length (node_at new result)
  changed_least = omega (arith, h.turn.below.least, changed_count, ap (λ (l : List Pointer). length l) (node_same new result))

  -- where it is left with too few, the node took what is no longer ahead
  changed_ahead : length (node_pointers new q.at) ≤ 29 → TakesAtMost mid new (copies_of (block_at mid at).state) → (first last : Key) → IsBetween first last key → TakesAhead old new (nodes_ahead first last (suc (suc level)) old at) (nodes_ahead first last (suc (suc level)) new result + 1)
  changed_ahead few two first last between =
      let moved = turn_ahead (suc level) old mid at key lefts p rights (q ∷ []) h.turn first last in
      let was = node_ahead first last key (suc level) old at h.turn.below between in
      let own = ap (λ slot. copies_of slot.state) beside_it.same in
      let is = dirty_ahead first last (suc level) new result h.node.dirty in
      let row_is = ap (row_ahead first last (suc level) new) (node_same new result ∙ h.pointers) in
      let same = changed.row_alike.ahead first last in
      let made = sum_by-cons (λ (r : Pointer). nodes_ahead first last (suc level) mid r.at) q [] in
      let child = h.less.ahead first last between in
      let least : 30 ≤ length (node_pointers old p.at) = h.turn.way.child.0.2 in
      let left = ap (λ (l : List Pointer). length l) kid_pointers in
      record {
        spare = omega (arith, moved, was, own, is, row_is, same, made, child.spare, two.spare, few, least, left);
        free = omega (arith, moved, was, own, is, row_is, same, made, child.free, two.free, few, least, left);
      }

  -- the child has enough pointers
  pub changed_full : (taken : ℕ) → TakesAtMost old mid taken → TakesAtMost mid new (copies_of (block_at mid at).state) → taken + 1 ≤ 2 * (suc level) + 2 → AreBalanced mid new → 30 ≤ length (node_pointers new q.at) → IsLessNode (suc level) old new at result key
  changed_full taken one two few balance full =
      let full_mid : 30 ≤ length (node_pointers mid q.at) = omega (arith, full, ap (λ (l : List Pointer). length l) kid_pointers) in
      less_node (suc level) old mid at key lefts p rights (q ∷ []) h.turn new result h.edit h.node h.allowed h.pointers taken one two few (omega (arith, h.less.balance, balance)) (less_child level old mid p q key h.less h.first full_mid)

  -- or it was repaired
  pub changed_repaired : (last : Table) (taken : ℕ) → TakesAtMost old mid taken → TakesAtMost mid new (copies_of (block_at mid at).state) → taken + 2 ≤ 2 * (suc level) + 2 → AreBalanced mid new → length (node_pointers new q.at) ≤ 29 → IsRepaired new last result (length lefts) → IsLessNode (suc level) old last at result key
  changed_repaired last taken one two most balance few r =
      repaired level (taken + 1) old mid new last at result key lefts q rights changed (changed_thin few) changed_count r (takes_join old mid new taken 1 one (takes_one mid new (block_at mid at).state two)) (omega (arith, most)) (omega (arith, h.less.balance, balance)) (changed_ahead few two) (turn_sealed_there (suc level) old mid at key lefts p rights (q ∷ []) h.turn new result h.edit h.node h.allowed h.pointers)
