-- A leaf, and a node over two leaves, as a tree of new blocks.
use Rattle.std.proofs.Common.{◌≡◌, ◌∙◌, ◌≤◌, ℕ, false, List, [], ◌∷◌, ◌++◌, length, take, drop, Some, refl, sym, ap, subst, arith, inl, inr}
use Rattle.std.specs.Prelude.{All, Contains, slice_index_or}
use Rattle.std.specs.List.{flat_map}
use Rattle.std.proofs.lemmas.List.{append-nil, map-append, take-append-drop}
use Rattle.std.proofs.lemmas.List.Elements.{All-cons, All-head, All-nil}
use Rattle.blk_base.specs.declared.key.Key.{Key}
use Rattle.blk_base.specs.Address.{IsAllowed}
use Rattle.blk_base.specs.Keys.{KeyBelow}
use Rattle.blk_base.specs.Leaf.{Item, Pointer}
use Rattle.blk_base.specs.Trees.{ItemsRise, NoneTwice, first_key}
use Rattle.blk_base.proofs.Members.{in_cons, in_head, in_nothing, in_one, in_tail}
use Rattle.block_table.specs.declared.state.SlotState.TheVariants.{Dirty, Free}
use Rattle.block_table.specs.Slot.{BlockSlot}
use Rattle.block_table.specs.Table.{Table}
use Rattle.block_table.specs.TreeIn.{IsTaken, block_at}
use Rattle.tree_range.specs.Shape.{IsSubtree, IsTree, items_below, leaf_items, node_pointers, reach_below}
use Rattle.tree_range.proofs.Rise.{All-right, rise_head}
use Rattle.tree_range.proofs.Bodies.{leaf_items_are, node_pointers_are}
use Rattle.tree_blocks.specs.Lists.{IsLeafBlock, leaf_list}
use Rattle.tree_blocks.specs.Steps.{IsDirtyLeaf, IsDirtyNode, IsSameBut, IsTakenAt, leaf_at, node_at}
use Rattle.tree_blocks.proofs.Listing.{leaf_to_ok, node_to_ok}
use Rattle.tree_frame.specs.Frame.{IsEdit}
use Rattle.tree_frame.proofs.EditLaws.{edits_by_membership}
use Rattle.tree_frame.proofs.StepLaws.{taken_is_an_edit}
use Rattle.volume_format.specs.declared.root_item.RootItem.{RootItem}
use Rattle.root_tree.specs.Roots.{root_entries, root_entry}
use Rattle.root_tree.proofs.Fresh.{fresh_apart, fresh_join}

-- a leaf that stays as it was
leaf_same : (old new : Table) (at : ℕ) → block_at new at ≡ block_at old at → leaf_at new at ≡ leaf_at old at
leaf_same old new at same = ap (λ (slot : BlockSlot). leaf_list slot.bytes) same

leaf_kept : (old new : Table) (at : ℕ) → block_at new at ≡ block_at old at → IsDirtyLeaf old at → IsDirtyLeaf new at
leaf_kept old new at same h = record {
  dirty = ap (λ (slot : BlockSlot). slot.state) same ∙ h.dirty;
  body = subst (λ (slot : BlockSlot). IsLeafBlock slot.bytes) (sym same) h.body;
}

taken_now : (old new : Table) (at : ℕ) → IsTakenAt old new at → IsSameBut old new (at ∷ []) → IsTaken new at
taken_now old new at is same = record {
  allowed = subst (λ (n : ℕ). IsAllowed n at) (sym same.size) is.allowed;
  taken = λ free. let wrong : Free ≡ Dirty = sym free ∙ ap (λ (slot : BlockSlot). slot.state) is.dirty in absurd cc;
}

listed_leaf : (table : Table) (at : ℕ) (items : List Item) → IsDirtyLeaf table at → leaf_at table at ≡ items → leaf_items table at ≡ items
listed_leaf table at items leaf are = leaf_items_are table at (leaf_at table at) leaf.body ∙ are

-- ---- one leaf

module _ (old new : Table) (at owner : ℕ) (items : List Item) (leaf : IsDirtyLeaf new at) (listed : leaf_at new at ≡ items) (rise : ItemsRise items) (taken : IsTakenAt old new at) (same : IsSameBut old new (at ∷ [])) where
  pub one_leaf_tree : IsTree new (record { root = record { 0 = at }; level = 0; owner = owner })
  one_leaf_tree = record {
    low = omega arith;
    shape = (taken_now old new at taken same, leaf_to_ok (block_at new at).bytes leaf.body, omega arith);
    order = subst ItemsRise (sym (listed_leaf new at items leaf listed)) rise;
    once = (λ c. in_nothing at c, tt);
  }

  pub one_leaf_items : leaf_items new at ≡ items
  one_leaf_items = listed_leaf new at items leaf listed

  pub one_leaf_edit : IsEdit old new [] (at ∷ [])
  one_leaf_edit = taken_is_an_edit old new at taken same

-- ---- two leaves

-- a leaf that was made, with an item at least
pub record IsMade (old new : Table) (pointer : Pointer) (items : List Item) : Type 0 where
  pub leaf : IsDirtyLeaf new pointer.at
  pub listed : leaf_at new pointer.at ≡ items
  pub first : first_key items ≡ Some pointer.key
  pub taken : IsTakenAt old new pointer.at
  pub same : IsSameBut old new (pointer.at ∷ [])

some_items : (items : List Item) (key : Key) → first_key items ≡ Some key → 1 ≤ length items
some_items [] key h = absurd cc
some_items (item ∷ items) key h = omega arith

made_later : (old mid new : Table) (pointer : Pointer) (items : List Item) (other : ℕ) → IsMade old mid pointer items → IsTakenAt mid new other → IsSameBut mid new (other ∷ []) → block_at new pointer.at ≡ block_at mid pointer.at
made_later old mid new pointer items other made taken same =
    same.others pointer.at (λ c. apart (in_one other pointer.at c))
  where
    apart : other ≡ pointer.at → ⊥
    apart e =
        let free : (block_at mid pointer.at).state ≡ Free = subst (λ (a : ℕ). (block_at mid a).state ≡ Free) e taken.was_free in
        let wrong : Dirty ≡ Free = sym made.leaf.dirty ∙ free in
        cc

module _ (t0 t1 t2 t3 : Table) (root owner : ℕ) (p1 p2 : Pointer) (one two : List Item) (first : IsMade t0 t1 p1 one) (second : IsMade t1 t2 p2 two) (node : IsDirtyNode t3 root) (listed : node_at t3 root ≡ p1 ∷ p2 ∷ []) (taken : IsTakenAt t2 t3 root) (same : IsSameBut t2 t3 (root ∷ [])) (rise : ItemsRise (one ++ two)) where
  pointers_are : node_pointers t3 root ≡ p1 ∷ p2 ∷ []
  pointers_are = node_pointers_are t3 root (node_at t3 root) node.body ∙ listed

  second_same : block_at t3 p2.at ≡ block_at t2 p2.at
  second_same = made_later t1 t2 t3 p2 two root second taken same

  first_mid : block_at t2 p1.at ≡ block_at t1 p1.at
  first_mid = made_later t0 t1 t2 p1 one p2.at first second.taken second.same

  root_apart : (at : ℕ) → (block_at t2 at).state ≡ Dirty → root ≡ at → ⊥
  root_apart at dirty e =
      let free : (block_at t2 at).state ≡ Free = subst (λ (a : ℕ). (block_at t2 a).state ≡ Free) e taken.was_free in
      let wrong : Dirty ≡ Free = sym dirty ∙ free in
      cc

  first_same : block_at t3 p1.at ≡ block_at t1 p1.at
  first_same =
      same.others p1.at (λ c. root_apart p1.at (leaf_kept t1 t2 p1.at first_mid first.leaf).dirty (in_one root p1.at c)) ∙ first_mid

  first_leaf : IsDirtyLeaf t3 p1.at
  first_leaf = leaf_kept t1 t3 p1.at first_same first.leaf

  second_leaf : IsDirtyLeaf t3 p2.at
  second_leaf = leaf_kept t2 t3 p2.at second_same second.leaf

  first_items : leaf_items t3 p1.at ≡ one
  first_items = listed_leaf t3 p1.at one first_leaf (leaf_same t1 t3 p1.at first_same ∙ first.listed)

  second_items : leaf_items t3 p2.at ≡ two
  second_items = listed_leaf t3 p2.at two second_leaf (leaf_same t2 t3 p2.at second_same ∙ second.listed)

  pub two_leaf_items : items_below 1 t3 root ≡ one ++ two
  two_leaf_items =
      ap (flat_map (λ (p : Pointer). leaf_items t3 p.at)) pointers_are ∙ ap (λ (l : List Item). l ++ (leaf_items t3 p2.at ++ [])) first_items ∙ ap (λ (l : List Item). one ++ l) (append-nil (leaf_items t3 p2.at) ∙ second_items)

  pub two_leaf_reach : reach_below 1 t3 root ≡ root ∷ p1.at ∷ p2.at ∷ []
  two_leaf_reach =
      ap (λ (l : List Pointer). root ∷ flat_map (λ (p : Pointer). p.at ∷ []) l) pointers_are

  all_size : length t3.slots ≡ length t0.slots
  all_size = same.size ∙ second.same.size ∙ first.same.size

  dirty_taken : (at : ℕ) → IsAllowed (length t0.slots) at → (block_at t3 at).state ≡ Dirty → IsTaken t3 at
  dirty_taken at allowed dirty = record {
    allowed = subst (λ (n : ℕ). IsAllowed n at) (sym all_size) allowed;
    taken = λ free. let wrong : Dirty ≡ Free = sym dirty ∙ free in cc;
  }

  first_child : IsSubtree 0 t3 false p1.at × (first_key (items_below 0 t3 p1.at) ≡ Some p1.key)
  first_child = (
    (dirty_taken p1.at first.taken.allowed first_leaf.dirty, leaf_to_ok (block_at t3 p1.at).bytes first_leaf.body, subst (λ (l : List Item). 1 ≤ length l) (sym first_items) (some_items one p1.key first.first)),
    ap first_key first_items ∙ first.first,
  )

  second_child : IsSubtree 0 t3 false p2.at × (first_key (items_below 0 t3 p2.at) ≡ Some p2.key)
  second_child = (
    (dirty_taken p2.at (subst (λ (n : ℕ). IsAllowed n p2.at) first.same.size second.taken.allowed) second_leaf.dirty, leaf_to_ok (block_at t3 p2.at).bytes second_leaf.body, subst (λ (l : List Item). 1 ≤ length l) (sym second_items) (some_items two p2.key second.first)),
    ap first_key second_items ∙ second.first,
  )

  IsChild : Pointer → Type 0
  IsChild p = IsSubtree 0 t3 false p.at × (first_key (items_below 0 t3 p.at) ≡ Some p.key)

  pub two_leaf_once : NoneTwice (root ∷ p1.at ∷ p2.at ∷ [])
  two_leaf_once = (
    λ c. elim (in_cons p1.at root (p2.at ∷ []) c) [
      | inl e ↦ root_apart p1.at (leaf_kept t1 t2 p1.at first_mid first.leaf).dirty (sym e)
      | inr c ↦ root_apart p2.at second.leaf.dirty (sym (in_one p2.at root c))
    ],
    (
      λ c. fresh_apart t0 t1 t2 (p1.at ∷ []) (p2.at ∷ []) p1.at (taken_is_an_edit t0 t1 p1.at first.taken first.same) (taken_is_an_edit t1 t2 p2.at second.taken second.same) (in_head p1.at p1.at [] refl) c,
      (λ c. in_nothing p2.at c, tt),
    ),
  )

  pub two_leaf_tree : IsTree t3 (record { root = record { 0 = root }; level = 1; owner = owner })
  two_leaf_tree = record {
    low = omega arith;
    shape = (
      dirty_taken root (subst (λ (n : ℕ). IsAllowed n root) (second.same.size ∙ first.same.size) taken.allowed) node.dirty,
      node_to_ok (block_at t3 root).bytes node.body,
      subst (λ (l : List Pointer). 2 ≤ length l) (sym pointers_are) (omega arith),
      subst (All (λ (p : Pointer). IsSubtree 0 t3 false p.at × (first_key (items_below 0 t3 p.at) ≡ Some p.key))) (sym pointers_are) (All-cons (λ (p : Pointer). IsSubtree 0 t3 false p.at × (first_key (items_below 0 t3 p.at) ≡ Some p.key)) p1 (p2 ∷ []) first_child (All-cons (λ (p : Pointer). IsSubtree 0 t3 false p.at × (first_key (items_below 0 t3 p.at) ≡ Some p.key)) p2 [] second_child (All-nil _))),
    );
    order = subst ItemsRise (sym two_leaf_items) rise;
    once = subst NoneTwice (sym two_leaf_reach) two_leaf_once;
  }

  pub two_leaf_edit : IsEdit t0 t3 [] (reach_below 1 t3 root)
  two_leaf_edit =
      let both : IsEdit t0 t2 [] (p1.at ∷ p2.at ∷ []) = fresh_join t0 t1 t2 (p1.at ∷ []) (p2.at ∷ []) (taken_is_an_edit t0 t1 p1.at first.taken first.same) (taken_is_an_edit t1 t2 p2.at second.taken second.same) in
      let all : IsEdit t0 t3 [] (p1.at ∷ p2.at ∷ root ∷ []) = fresh_join t0 t2 t3 (p1.at ∷ p2.at ∷ []) (root ∷ []) both (taken_is_an_edit t2 t3 root taken same) in
      subst (IsEdit t0 t3 []) (sym two_leaf_reach) (edits_by_membership t0 t3 [] (p1.at ∷ p2.at ∷ root ∷ []) [] (root ∷ p1.at ∷ p2.at ∷ []) (λ at. (λ h. h, λ h. h)) (λ at. (λ c. last_of at c, λ c. first_of at c)) all)
    where
      last_of : (at : ℕ) → Contains (root ∷ p1.at ∷ p2.at ∷ []) at → Contains (p1.at ∷ p2.at ∷ root ∷ []) at
      last_of at c = elim (in_cons root at (p1.at ∷ p2.at ∷ []) c) [
        | inl e ↦ in_tail p1.at at (p2.at ∷ root ∷ []) (in_tail p2.at at (root ∷ []) (in_head root at [] e))
        | inr c ↦ elim (in_cons p1.at at (p2.at ∷ []) c) [
          | inl e ↦ in_head p1.at at (p2.at ∷ root ∷ []) e
          | inr c ↦ in_tail p1.at at (p2.at ∷ root ∷ []) (in_head p2.at at (root ∷ []) (in_one p2.at at c))
        ]
      ]

      first_of : (at : ℕ) → Contains (p1.at ∷ p2.at ∷ root ∷ []) at → Contains (root ∷ p1.at ∷ p2.at ∷ []) at
      first_of at c = elim (in_cons p1.at at (p2.at ∷ root ∷ []) c) [
        | inl e ↦ in_tail root at (p1.at ∷ p2.at ∷ []) (in_head p1.at at (p2.at ∷ []) e)
        | inr c ↦ elim (in_cons p2.at at (root ∷ []) c) [
          | inl e ↦ in_tail root at (p1.at ∷ p2.at ∷ []) (in_tail p1.at at (p2.at ∷ []) (in_head p2.at at [] e))
          | inr c ↦ in_head root at (p1.at ∷ p2.at ∷ []) (in_one root at c)
        ]
      ]

-- ---- root items cut in two

-- the key of the first root item
pub first_root : (roots : List (Key × RootItem)) (d : Key × RootItem) → 1 ≤ length roots → first_key (root_entries roots) ≡ Some (slice_index_or roots 0 d).0
first_root [] d some = absurd (omega (arith, some))
first_root (root ∷ roots) d some = refl

-- the keys in front are below those behind
pub first_below : (front back : List (Key × RootItem)) (d : Key × RootItem) → 1 ≤ length front → 1 ≤ length back → ItemsRise (root_entries front ++ root_entries back) → KeyBelow (slice_index_or front 0 d).0 (slice_index_or back 0 d).0
first_below [] back d some more rise = absurd (omega (arith, some))
first_below (one ∷ front) [] d some more rise = absurd (omega (arith, more))
first_below (one ∷ front) (two ∷ back) d some more rise =
    All-head (λ (item : Item). KeyBelow one.0 item.0) (root_entry two) (root_entries back) (All-right (λ (item : Item). KeyBelow one.0 item.0) (root_entries front) (root_entries (two ∷ back)) (rise_head (root_entry one) (root_entries front ++ root_entries (two ∷ back)) rise))

-- the entries are those of both parts
pub entries_cut : (front back roots : List (Key × RootItem)) (count : ℕ) → front ≡ take count roots → back ≡ drop count roots → root_entries front ++ root_entries back ≡ root_entries roots
entries_cut front back roots count f b =
    ap (λ (l : List (Key × RootItem)). root_entries l ++ root_entries back) f ∙ ap (λ (l : List (Key × RootItem)). root_entries (take count roots) ++ root_entries l) b ∙ sym (map-append root_entry (take count roots) (drop count roots)) ∙ ap root_entries (take-append-drop count roots)
