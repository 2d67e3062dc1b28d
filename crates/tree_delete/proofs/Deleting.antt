-- An item is taken out below a node.
use Rattle.std.proofs.Common.{◌≡◌, ◌≢◌, ◌≤◌, ◌<◌, ◌+◌, ◌*◌, ℕ, suc, true, false, List, [], ◌∷◌, ◌++◌, length, slice_get, refl, ap, ◌∙◌, sym, subst, Option, Some, None, arith}
use Rattle.std.specs.Prelude.{All, insert, remove}
use Rattle.std.specs.List.{sum_by}
use Rattle.std.proofs.lemmas.List.{append-nil, length-append, length-map}
use Rattle.std.proofs.lemmas.List.Elements.{All-nil, All-cons, All-head, All-tail, All-append, All-same}
use Rattle.std.proofs.lemmas.List.Sums.{sum_by-cons}
use Rattle.std.proofs.lemmas.Option.{same_Some}
use Rattle.blk_base.specs.declared.key.Key.{Key}
use Rattle.blk_base.specs.Address.{IsAllowed}
use Rattle.blk_base.specs.Keys.{keys_rise}
use Rattle.blk_base.specs.Leaf.{Item, Pointer}
use Rattle.block_table.specs.declared.state.SlotState.TheVariants.{Free, Dirty, LetGo}
use Rattle.block_table.specs.Table.{Table}
use Rattle.blk_base.specs.Trees.{ItemsRise, NoneTwice, first_key}
use Rattle.block_table.specs.TreeIn.{IsSealedSubtree, IsTaken, block_at}
use Rattle.leaf_view.specs.Search.{IsPlace, children_of, keys_of, pointer_keys}
use Rattle.tree_range.specs.Shape.{items_below, leaf_items, node_pointers, reach_below}
use Rattle.tree_range.specs.Path.{IsChildPlace, key_behind}
use Rattle.tree_range.proofs.Rise.{All-left, All-right}
use Rattle.tree_blocks.specs.Lists.{IsNodeBlock, node_list}
use Rattle.tree_blocks.specs.Steps.{IsDirtyNode, node_at}
use Rattle.tree_blocks.proofs.Listing.{node_from_ok, node_to_ok}
use Rattle.tree_blocks.proofs.Orders.{pointer_keys-append}
use Rattle.tree_frame.specs.Frame.{IsEdit, TakesAtMost, leaves_below, without_item}
use Rattle.tree_delete.specs.Seals.{IsSealedRow, want_of}
use Rattle.tree_delete.specs.Ahead.{IsBetween, TakesAhead, copies_of, nodes_ahead, row_ahead}
use Rattle.tree_delete.specs.Balance.{AreBalanced}
use Rattle.tree_delete.specs.Rows.{HasItemBelow, IsChildOf, IsLessNode, IsNodeOver, row_items, row_reach}
use Rattle.tree_delete.specs.Steps.{IsCurrentNode}
use Rattle.blk_base.proofs.Members.{in_nothing}
use Rattle.tree_delete.proofs.Seals.{dirty_leaf_sealed, dirty_node_sealed, sealed_children}
use Rattle.tree_delete.proofs.Ahead.{dirty_ahead, leaves_ahead, node_ahead, takes_one}
use Rattle.tree_delete.proofs.Blocks.{node_same}
use Rattle.tree_range.proofs.Cuts.{at_cut, length_at}
use Rattle.tree_delete.proofs.Edits.{takes_join, takes_more}
use Rattle.tree_delete.proofs.Items.{rise_without}
use Rattle.tree_delete.proofs.Nodes.{IsKid, child_of_kid}
use Rattle.tree_delete.proofs.Pairs.{dirty_used, keys_above, keys_before, keys_right, place_between, same_allowed}
use Rattle.tree_delete.proofs.Rows.{Begins, firsts_of, leaves_cut, leaves_one, over_from, row_first, row_keys_rise}
use Rattle.tree_delete.proofs.Steps.{IsBeside, IsChildDone, IsNodeDone, IsRowDone, IsWay, beside, node_done, row_done, way_of}

abbrev child_pair : Pointer → ℕ × ℕ
child_pair pointer = (pointer.at, pointer.generation)

pub address_of : (at generation x y : ℕ) → ◌≡◌ {A = Option (ℕ × ℕ)} (Some (at, generation)) (Some (x, y)) → at ≡ x
address_of at generation x y h = ap (λ (pair : ℕ × ℕ). pair.0) (same_Some (at, generation) (x, y) h)

-- the child under which the key belongs, by its address
pub record IsAimed (level : ℕ) (table : Table) (at : ℕ) (key : Key) (place child : ℕ) : Type 0 where
  pub lefts : List Pointer
  pub first : Key
  pub generation : ℕ
  pub rights : List Pointer
  pub way : IsWay level table at key lefts (record { key = first; at = child; generation = generation }) rights
  pub long : length lefts ≡ place

pub aimed : (level : ℕ) (table : Table) (at : ℕ) (key : Key) (place child generation : ℕ) → HasItemBelow level table at key → IsChildPlace (node_at table at) key place → slice_get (children_of (node_at table at)) place ≡ Some (child, generation) → IsAimed level table at key place child
aimed level table at key place child generation h c is =
    let same = node_same table at in
    let c' : IsChildPlace (node_pointers table at) key place = subst (λ (l : List Pointer). IsChildPlace l key place) (sym same) c in
    let way = way_of level table at key place h c' in
    let p = c'.pointer in
    let there : slice_get (children_of (node_at table at)) place ≡ Some (child_pair p) =
    subst (λ (n : ℕ). slice_get (children_of (node_at table at)) n ≡ Some (child_pair p)) c'.long (subst (λ (l : List Pointer). slice_get (children_of l) (length c'.lefts) ≡ Some (child_pair p)) (sym c'.split ∙ same) (at_cut child_pair c'.lefts p c'.rights)) in
    let at_is : p.at ≡ child = address_of p.at p.generation child generation (sym there ∙ is) in
    let make : ℕ → Pointer = λ (a : ℕ). record { key = p.key; at = a; generation = p.generation } in
    record {
      lefts = c'.lefts;
      first = p.key;
      generation = p.generation;
      rights = c'.rights;
      way = subst (λ (a : ℕ). IsWay level table at key c'.lefts (make a) c'.rights) at_is way;
      long = c'.long;
    }

-- ---- the node, as it is when its child was changed

pub node_here : (level : ℕ) (table : Table) (at : ℕ) → IsNodeOver level table at → (block_at table at).state ≢ LetGo → IsCurrentNode table at
node_here level table at h current = record { body = node_from_ok (block_at table at).bytes h.body; allowed = h.taken.allowed; taken = h.taken.taken; current = current }

pub node_first : (level : ℕ) (table : Table) (at : ℕ) (key : Key) → HasItemBelow level table at key → IsCurrentNode table at
node_first level table at key h = node_here level table at h.shape (All-head (λ (a : ℕ). (block_at table a).state ≢ LetGo) at (row_reach level table (node_pointers table at)) h.current)

moved_node : (old mid : Table) (at : ℕ) → block_at mid at ≡ block_at old at → length mid.slots ≡ length old.slots → IsCurrentNode old at → IsCurrentNode mid at
moved_node old mid at same size h = record {
  body = subst (λ slot. IsNodeBlock slot.bytes) (sym same) h.body;
  allowed = same_allowed old mid at size h.allowed;
  taken = subst (λ slot. slot.state ≢ Free) (sym same) h.taken;
  current = subst (λ slot. slot.state ≢ LetGo) (sym same) h.current;
}

cut_remove : (lefts : List Pointer) (p : Pointer) (rights : List Pointer) → remove (lefts ++ p ∷ rights) (length lefts) ≡ lefts ++ rights
cut_remove [] p rights = refl
cut_remove (q ∷ lefts) p rights = ap (λ (l : List Pointer). q ∷ l) (cut_remove lefts p rights)

cut_insert : (lefts : List Pointer) (p : Pointer) (rights : List Pointer) → insert (lefts ++ rights) (length lefts) p ≡ lefts ++ p ∷ rights
cut_insert [] p rights = refl
cut_insert (q ∷ lefts) p rights = ap (λ (l : List Pointer). q ∷ l) (cut_insert lefts p rights)

-- a child is changed, and the node isn't yet
pub record IsTurn (level : ℕ) (old mid : Table) (at : ℕ) (key : Key) (lefts : List Pointer) (p : Pointer) (rights made : List Pointer) : Type 0 where
  pub below : HasItemBelow level old at key
  pub way : IsWay level old at key lefts p rights
  pub done : IsChildDone level old mid key p made

module _ (level : ℕ) (old mid : Table) (at : ℕ) (key : Key) (lefts : List Pointer) (p : Pointer) (rights made : List Pointer) (turn : IsTurn level old mid at key lefts p rights made) where
  side : IsBeside level old mid at lefts rights
  side = beside level old mid at key lefts p rights made turn.way turn.done

  row : IsRowDone level old mid at key (lefts ++ (made ++ rights))
  row = row_done level old mid at key lefts p rights made turn.way turn.done

  pub turn_node : IsCurrentNode mid at
  turn_node = moved_node old mid at side.same turn.done.edit.size (node_first level old at key turn.below)

  pub turn_pointers : node_at mid at ≡ lefts ++ p ∷ rights
  turn_pointers = ap (λ slot. node_list slot.bytes) side.same ∙ sym (node_same old at) ∙ turn.way.split

  pub turn_inside : length lefts < length (node_at mid at)
  turn_inside = omega (arith, ap (λ (l : List Pointer). length l) turn_pointers, length_at lefts p rights)

  pub turn_least : 2 ≤ length (node_at mid at)
  turn_least = omega (arith, turn.below.least, ap (λ (l : List Pointer). length l) turn.way.split, ap (λ (l : List Pointer). length l) turn_pointers)

  pub turn_removed : remove (node_at mid at) (length lefts) ≡ lefts ++ rights
  turn_removed = ap (λ (l : List Pointer). remove l (length lefts)) turn_pointers ∙ cut_remove lefts p rights

  pub turn_inserted : (q : Pointer) → insert (remove (node_at mid at) (length lefts)) (length lefts) q ≡ lefts ++ q ∷ rights
  turn_inserted q = ap (λ (l : List Pointer). insert l (length lefts) q) turn_removed ∙ cut_insert lefts q rights

  turn_rises : ItemsRise (row_items level mid (lefts ++ (made ++ rights)))
  turn_rises = subst ItemsRise (sym row.items) (rise_without key (items_below (suc level) old at) turn.below.rises)

  turn_begins : All (Begins (λ (q : Pointer). items_below level mid q.at)) made → All (Begins (λ (q : Pointer). items_below level mid q.at)) (lefts ++ (made ++ rights))
  turn_begins firsts =
      let B = Begins (λ (q : Pointer). items_below level mid q.at) in
      All-append B lefts (made ++ rights) (firsts_of level mid lefts (side.lefts_alike.children turn.way.lefts_good)) (All-append B made rights firsts (firsts_of level mid rights (side.rights_alike.children turn.way.rights_good)))

  turn_keys : All (Begins (λ (q : Pointer). items_below level mid q.at)) made → keys_rise (pointer_keys (lefts ++ (made ++ rights))) ≡ true
  turn_keys firsts = row_keys_rise (λ (q : Pointer). items_below level mid q.at) (lefts ++ (made ++ rights)) (turn_begins firsts) turn_rises

  -- what is ahead below the node's pointers changes as it does below the child
  pub turn_ahead : (first last : Key) → row_ahead first last level mid (lefts ++ (made ++ rights)) + nodes_ahead first last level old p.at ≡ row_ahead first last level old (node_pointers old at) + row_ahead first last level mid made
  turn_ahead first last =
      let f : Pointer → ℕ = λ (q : Pointer). nodes_ahead first last level mid q.at in
      let g : Pointer → ℕ = λ (q : Pointer). nodes_ahead first last level old q.at in
      omega (arith, leaves_cut f lefts made rights, side.lefts_alike.ahead first last, side.rights_alike.ahead first last, ap (sum_by g) turn.way.split, leaves_one g lefts p rights)

  turn_sealed : (fsid : List ℕ) (owner : ℕ) → IsSealedRow fsid owner level old (node_pointers old at) → IsSealedRow fsid owner level mid (lefts ++ (made ++ rights))
  turn_sealed fsid owner h =
      let S : Pointer → Type 0 = λ (q : Pointer). IsSealedSubtree level old (want_of fsid owner level q) in
      let T : Pointer → Type 0 = λ (q : Pointer). IsSealedSubtree level mid (want_of fsid owner level q) in
      let all = All-same S (lefts ++ p ∷ rights) (node_pointers old at) (sym turn.way.split) h in
      let behind = All-right S lefts (p ∷ rights) all in
      All-append T lefts (made ++ rights) (side.lefts_alike.sealed fsid owner (All-left S lefts (p ∷ rights) all)) (All-append T made rights (turn.done.sealed fsid owner (All-head S p rights behind)) (side.rights_alike.sealed fsid owner (All-tail S p rights behind)))

  -- the node stands elsewhere with these pointers
  module _ (new : Table) (result : ℕ) (edit : IsEdit mid new (at ∷ []) (result ∷ [])) (node : IsDirtyNode new result) (allowed : IsAllowed (length new.slots) result) (pointers : node_at new result ≡ lefts ++ (made ++ rights)) where
    pub turn_row : node_pointers new result ≡ lefts ++ (made ++ rights)
    turn_row = node_same new result ∙ pointers

    pub turned : IsNodeDone level old mid new at result key (lefts ++ (made ++ rights))
    turned = node_done level old mid new at result key (lefts ++ (made ++ rights)) row edit turn_row

    pub turn_count : length (node_pointers old at) ≤ length (node_pointers new result) + 1
    turn_count =
        omega (arith, ap (λ (l : List Pointer). length l) turn.way.split, length-append lefts (p ∷ rights), ap (λ (l : List Pointer). length l) turn_row, length-append lefts (made ++ rights), length-append made rights)

    pub turn_taken : IsTaken new result
    turn_taken = record { allowed = allowed; taken = dirty_used new result node.dirty }

    pub turn_fewer : length (node_pointers new result) ≤ length (node_pointers old at)
    turn_fewer =
        let few = turn.done.one in
        omega (arith, few, ap (λ (l : List Pointer). length l) turn.way.split, length-append lefts (p ∷ rights), ap (λ (l : List Pointer). length l) turn_row, length-append lefts (made ++ rights), length-append made rights)

    pub turn_sealed_there : (fsid : List ℕ) (owner : ℕ) → IsSealedRow fsid owner level old (node_pointers old at) → IsSealedRow fsid owner level new (node_pointers new result)
    turn_sealed_there fsid owner h =
        let T : Pointer → Type 0 = λ (q : Pointer). IsSealedSubtree level new (want_of fsid owner level q) in
        All-same T (node_pointers new result) (lefts ++ (made ++ rights)) turn_row (turned.row_alike.sealed fsid owner (turn_sealed fsid owner h))

    -- it takes what is no longer ahead, and one more where the child stays
    turn_takes : (first last : Key) → IsBetween first last key → TakesAtMost mid new (copies_of (block_at mid at).state) → TakesAhead old new (nodes_ahead first last (suc level) old at + length (node_pointers new result)) (nodes_ahead first last (suc level) new result + length (node_pointers old at))
    turn_takes first last between two =
        let moved = turn_ahead first last in
        let was = node_ahead first last key level old at turn.below between in
        let own = ap (λ slot. copies_of slot.state) side.same in
        let is = dirty_ahead first last level new result node.dirty in
        let row_is = ap (row_ahead first last level new) turn_row in
        let same = turned.row_alike.ahead first last in
        let child = turn.done.ahead first last between in
        let long = ap (λ (l : List Pointer). length l) turn.way.split in
        let long_cut = length-append lefts (p ∷ rights) in
        let long_new = ap (λ (l : List Pointer). length l) turn_row in
        let long_row = length-append lefts (made ++ rights) in
        let long_made = length-append made rights in
        record {
          spare = omega (arith, moved, was, own, is, row_is, same, child.spare, two.spare, long, long_cut, long_new, long_row, long_made);
          free = omega (arith, moved, was, own, is, row_is, same, child.free, two.free, long, long_cut, long_new, long_row, long_made);
        }

    pub less_node : (taken : ℕ) → TakesAtMost old mid taken → TakesAtMost mid new (copies_of (block_at mid at).state) → taken + 1 ≤ 2 * level + 2 → AreBalanced old new → All (IsChildOf level mid) made → IsLessNode level old new at result key
    less_node taken one two few balance children =
        let all : All (IsChildOf level mid) (lefts ++ (made ++ rights)) = All-append (IsChildOf level mid) lefts (made ++ rights) (side.lefts_alike.children turn.way.lefts_good) (All-append (IsChildOf level mid) made rights children (side.rights_alike.children turn.way.rights_good)) in
        record {
          shape = record { taken = turn_taken; body = node_to_ok (block_at new result).bytes node.body; children = All-same (IsChildOf level new) (node_pointers new result) (lefts ++ (made ++ rights)) turn_row (turned.row_alike.children all) };
          dirty = node.dirty;
          count = turn_count;
          fewer = turn_fewer;
          items = turned.items;
          once = turned.whole.once;
          edit = turned.edit;
          blocks = takes_more old new (taken + 1) (2 * level + 2) few (takes_join old mid new taken 1 one (takes_one mid new (block_at mid at).state two));
          balance = balance;
          ahead = λ first last between. turn_takes first last between two;
          leaves = turned.leaves;
          sealed = turn_sealed_there;
        }

-- a child's new key has its place among the others
pub turn_order : (level : ℕ) (old mid : Table) (at : ℕ) (key : Key) (lefts : List Pointer) (p : Pointer) (rights : List Pointer) (q : Pointer) → IsTurn level old mid at key lefts p rights (q ∷ []) → first_key (items_below level mid q.at) ≡ Some q.key → IsPlace (pointer_keys (remove (node_at mid at) (length lefts))) q.key (length lefts)
turn_order level old mid at key lefts p rights q turn first =
    let B = Begins (λ (r : Pointer). items_below level mid r.at) in
    let keys = turn_keys level old mid at key lefts p rights (q ∷ []) turn (All-cons B q [] first (All-nil B)) in
    let cut : keys_rise (pointer_keys lefts ++ q.key ∷ pointer_keys rights) ≡ true = subst (λ (l : List Key). keys_rise l ≡ true) (pointer_keys-append lefts (q ∷ rights)) keys in
    let made : IsPlace (pointer_keys lefts ++ pointer_keys rights) q.key (length lefts) =
    place_between (pointer_keys lefts) (pointer_keys rights) q.key (length lefts) (length-map lefts (λ (r : Pointer). r.key)) (keys_before (pointer_keys lefts) q.key (pointer_keys rights) cut) (keys_above q.key (pointer_keys rights) (keys_right (pointer_keys lefts) (q.key ∷ pointer_keys rights) cut)) in
    subst (λ (l : List Key). IsPlace l q.key (length lefts)) (sym (pointer_keys-append lefts rights) ∙ ap pointer_keys (sym (turn_removed level old mid at key lefts p rights (q ∷ []) turn))) made

-- ---- leaves below the node

-- the leaf is let go
pub leaf_gone : (old mid : Table) (at : ℕ) (key : Key) (p : Pointer) → IsEdit old mid (p.at ∷ []) [] → [] ≡ without_item key (leaf_items old p.at) → TakesAtMost old mid 0 → IsChildDone 0 old mid key p []
leaf_gone old mid at key p edit items blocks = record {
  edit = edit;
  once = tt;
  items = items;
  leaves = omega arith;
  one = omega arith;
  sealed = λ fsid owner h. All-nil (λ (q : Pointer). IsSealedSubtree 0 mid (want_of fsid owner 0 q));
  ahead = λ first last between. record { spare = omega (arith, blocks.spare); free = omega (arith, blocks.free) };
}

-- or it has an item less
pub leaf_less : (old mid : Table) (key : Key) (p q : Pointer) → IsEdit old mid (p.at ∷ []) (q.at ∷ []) → leaf_items mid q.at ++ [] ≡ without_item key (leaf_items old p.at) → TakesAtMost old mid 1 → (block_at mid q.at).state ≡ Dirty → IsChildDone 0 old mid key p (q ∷ [])
leaf_less old mid key p q edit items blocks dirty = record {
  edit = edit;
  once = ((λ there. in_nothing q.at there), tt);
  items = items;
  leaves = omega (arith, sum_by-cons (λ (r : Pointer). leaves_below 0 mid r.at) q []);
  one = omega arith;
  sealed = λ fsid owner h. let T : Pointer → Type 0 = λ (r : Pointer). IsSealedSubtree 0 mid (want_of fsid owner 0 r) in All-cons T q [] (dirty_leaf_sealed mid (want_of fsid owner 0 q) dirty) (All-nil T);
  ahead = λ first last between. let none = leaves_ahead first last mid (q ∷ []) in record { spare = omega (arith, none, blocks.spare); free = omega (arith, none, blocks.free) };
}

-- the first key of a list whose first key is read
pub first_read : (items : List Item) (key : Key) → slice_get (keys_of items) 0 ≡ Some key → first_key items ≡ Some key
first_read [] key h = absurd cc
first_read (x ∷ items) key h = h

pub key_read : (pointers : List Pointer) (key : Key) → slice_get (pointer_keys pointers) 0 ≡ Some key → key_behind pointers None ≡ Some key
key_read [] key h = absurd cc
key_read (p ∷ pointers) key h = h

-- ---- nodes below the node

-- what the recursion asks of the child
pub child_below : (level : ℕ) (table : Table) (at : ℕ) (key : Key) (lefts : List Pointer) (p : Pointer) (rights : List Pointer) → IsWay (suc level) table at key lefts p rights → HasItemBelow level table p.at key
child_below level table at key lefts p rights way = record {
  shape = over_from level table false p.at way.child.0;
  least = omega (arith, way.child.0.2);
  rises = way.rises;
  present = way.present;
  once = way.once;
  current = way.current;
}

single : (xs : List ℕ) → xs ++ [] ≡ xs
single xs = append-nil xs

-- and what it gives
pub child_less : (level : ℕ) (old mid : Table) (key : Key) (p q : Pointer) → IsLessNode level old mid p.at q.at key → IsChildDone (suc level) old mid key p (q ∷ [])
child_less level old mid key p q less =
    let reach = reach_below (suc level) mid q.at in
    record {
      edit = subst (λ (l : List ℕ). IsEdit old mid (reach_below (suc level) old p.at) l) (sym (single reach)) less.edit;
      once = subst NoneTwice (sym (single reach)) less.once;
      items = append-nil (items_below (suc level) mid q.at) ∙ less.items;
      leaves = omega (arith, sum_by-cons (λ (r : Pointer). leaves_below (suc level) mid r.at) q [], less.leaves);
      one = omega arith;
      sealed = λ fsid owner h.
          let T : Pointer → Type 0 = λ (r : Pointer). IsSealedSubtree (suc level) mid (want_of fsid owner (suc level) r) in
          let row = less.sealed fsid owner (sealed_children level old (want_of fsid owner (suc level) p) h) in
          All-cons T q [] (dirty_node_sealed level mid (want_of fsid owner (suc level) q) less.dirty row) (All-nil T);
      ahead = λ first last between.
          let row = sum_by-cons (λ (r : Pointer). nodes_ahead first last (suc level) mid r.at) q [] in
          let takes = less.ahead first last between in
          let fewer = less.fewer in
          record { spare = omega (arith, row, takes.spare, fewer); free = omega (arith, row, takes.free, fewer) };
    }

pub less_first : (level : ℕ) (old mid : Table) (at child : ℕ) (key first : Key) → IsLessNode level old mid at child key → slice_get (pointer_keys (node_at mid child)) 0 ≡ Some first → first_key (items_below (suc level) mid child) ≡ Some first
less_first level old mid at child key first less h =
    let ps = node_pointers mid child in
    row_first (λ (r : Pointer). items_below level mid r.at) ps (firsts_of level mid ps less.shape.children) ∙ key_read ps first (ap (λ (l : List Pointer). slice_get (pointer_keys l) 0) (node_same mid child) ∙ h)

-- the child as one of a node's children
pub less_kid : (level : ℕ) (old mid : Table) (p q : Pointer) (key : Key) → 30 ≤ length (node_pointers old p.at) → IsLessNode level old mid p.at q.at key → first_key (items_below (suc level) mid q.at) ≡ Some q.key → IsKid level mid 29 q
less_kid level old mid p q key least less first = record { over = less.shape; begins = first; long = omega (arith, less.count, least) }

pub less_child : (level : ℕ) (old mid : Table) (p q : Pointer) (key : Key) → IsLessNode level old mid p.at q.at key → first_key (items_below (suc level) mid q.at) ≡ Some q.key → 30 ≤ length (node_pointers mid q.at) → All (IsChildOf (suc level) mid) (q ∷ [])
less_child level old mid p q key less first least =
    All-cons (IsChildOf (suc level) mid) q [] (child_of_kid level mid q (record { over = less.shape; begins = first; long = least })) (All-nil (IsChildOf (suc level) mid))
