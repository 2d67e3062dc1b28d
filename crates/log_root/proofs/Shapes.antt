-- A leaf, and a node over two leaves, written over Dirty blocks, as a tree.
use Rattle.std.proofs.Common.{◌≡◌, ◌∙◌, ◌≤◌, ◌<◌, ℕ, false, List, [], ◌∷◌, ◌++◌, length, take, drop, Some, refl, sym, ap, subst, arith, inl, inr}
use Rattle.std.specs.Prelude.{All}
use Rattle.std.specs.List.{flat_map}
use Rattle.std.proofs.lemmas.Bool.Decides.{nat_tests}
use Rattle.std.proofs.lemmas.List.{append-nil, map-append, take-append-drop}
use Rattle.std.proofs.lemmas.List.Elements.{All-cons, All-head, All-nil, All-tail}
use Rattle.blk_base.specs.declared.key.Addr.{Addr}
use Rattle.blk_base.specs.declared.key.Key.{Key}
use Rattle.blk_base.specs.declared.key.SubId.{SubId}
use Rattle.blk_base.specs.declared.key.Want.{Want}
use Rattle.blk_base.specs.Address.{IsAllowed}
use Rattle.blk_base.specs.Keys.{KeyBelow}
use Rattle.blk_base.specs.Leaf.{Item, Pointer}
use Rattle.blk_base.specs.Trees.{ItemsRise, NoneTwice, child_want, first_key}
use Rattle.blk_base.proofs.Members.{in_cons, in_head, in_nothing, in_one, in_tail}
use Rattle.block_table.specs.declared.state.SlotState.TheVariants.{Dirty, Free}
use Rattle.block_table.specs.Slot.{BlockSlot}
use Rattle.block_table.specs.Table.{Table}
use Rattle.block_table.specs.TreeIn.{IsSealedSubtree, IsSealedTree, IsTaken, block_at}
use Rattle.tree_range.specs.Shape.{IsSubtree, IsTree, items_below, leaf_items, node_pointers, reach_below}
use Rattle.tree_range.proofs.Rise.{All-right, rise_head}
use Rattle.tree_range.proofs.Bodies.{leaf_items_are, node_pointers_are}
use Rattle.tree_blocks.specs.Lists.{IsLeafBlock, leaf_list}
use Rattle.tree_blocks.specs.Steps.{HasNewBytes, IsDirtyLeaf, IsDirtyNode, IsSameBut, leaf_at, node_at}
use Rattle.tree_blocks.proofs.Listing.{leaf_to_ok, node_to_ok}
use Rattle.tree_frame.proofs.Sealed.{pointers_shown}
use Rattle.tree_seal.specs.Above.{DirtyIsAbove}
use Rattle.volume_format.specs.declared.root_item.RootItem.{RootItem}
use Rattle.log_root.specs.Built.{IsBuilt, IsRewritten, IsSet}
use Rattle.log_root.specs.Entries.{IdsRise, log_entries, log_entry, log_key}

abbrev IsDirtyAt : Table → ℕ → Type 0
IsDirtyAt table at = (block_at table at).state ≡ Dirty

dirty_taken : (old new : Table) (at : ℕ) → length new.slots ≡ length old.slots → IsAllowed (length old.slots) at → IsDirtyAt new at → IsTaken new at
dirty_taken old new at size allowed dirty = record {
  allowed = subst (λ (n : ℕ). IsAllowed n at) (sym size) allowed;
  taken = λ free. let wrong : Free ≡ Dirty = sym free ∙ dirty in absurd cc;
}

listed_leaf : (table : Table) (at : ℕ) (items : List Item) → IsDirtyLeaf table at → leaf_at table at ≡ items → leaf_items table at ≡ items
listed_leaf table at items leaf are = leaf_items_are table at (leaf_at table at) leaf.body ∙ are

-- ---- one leaf

pub one_leaf_built : (old new : Table) (at : Addr) (owner : ℕ) (items : List Item) → IsSet old (at.0 ∷ []) → leaf_at new at.0 ≡ items → IsDirtyLeaf new at.0 → IsRewritten old new at.0 → ItemsRise items → IsBuilt old new (record { root = at; level = 0; owner = owner }) items (at.0 ∷ [])
one_leaf_built old new at owner items set listed leaf written rise = record {
  stands = record {
    low = omega arith;
    shape = (dirty_taken old new at.0 written.same.size (All-head (λ (a : ℕ). IsAllowed (length old.slots) a) at.0 [] set.allowed) leaf.dirty, leaf_to_ok (block_at new at.0).bytes leaf.body, omega arith);
    order = subst ItemsRise (sym (listed_leaf new at.0 items leaf listed)) rise;
    once = (λ c. in_nothing at.0 c, tt);
  };
  items_are = listed_leaf new at.0 items leaf listed;
  reach_is = refl;
  dirty = All-cons (IsDirtyAt new) at.0 [] leaf.dirty (All-nil (IsDirtyAt new));
  kept = All-cons (HasNewBytes old new) at.0 [] written.kept (All-nil (HasNewBytes old new));
  same = written.same;
  spare = written.spare;
  free = written.free;
  above = tt;
  sealable = λ fsid generation clean. absurd (clean leaf.dirty);
}

-- ---- two leaves

some_items : (items : List Item) (key : Key) → first_key items ≡ Some key → 1 ≤ length items
some_items [] key h = absurd cc
some_items (item ∷ items) key h = omega arith

stays : (old new : Table) (x at : ℕ) → IsRewritten old new x → (x ≡ at → ⊥) → block_at new at ≡ block_at old at
stays old new x at written apart = written.same.others at (λ c. apart (in_one x at c))

leaf_same : (old new : Table) (at : ℕ) → block_at new at ≡ block_at old at → leaf_at new at ≡ leaf_at old at
leaf_same old new at same = ap (λ (slot : BlockSlot). leaf_list slot.bytes) same

leaf_kept : (old new : Table) (at : ℕ) → block_at new at ≡ block_at old at → IsDirtyLeaf old at → IsDirtyLeaf new at
leaf_kept old new at same h = record {
  dirty = ap (λ (slot : BlockSlot). slot.state) same ∙ h.dirty;
  body = subst (λ (slot : BlockSlot). IsLeafBlock slot.bytes) (sym same) h.body;
}

abbrev pub pointer_at : Key → Addr → Pointer
pointer_at key at = record { key = key; at = at.0; generation = 0 }

-- a leaf that was written, with an item at least
pub record IsMade (old new : Table) (at : Addr) (key : Key) (items : List Item) : Type 0 where
  pub leaf : IsDirtyLeaf new at.0
  pub listed : leaf_at new at.0 ≡ items
  pub first : first_key items ≡ Some key
  pub written : IsRewritten old new at.0

module _ (t0 t1 t2 t3 : Table) (first second root : Addr) (owner : ℕ) (key1 key2 : Key) (one two : List Item) (set : IsSet t0 (first.0 ∷ second.0 ∷ root.0 ∷ []))
    (made : IsMade t0 t1 first key1 one) (next : IsMade t1 t2 second key2 two) (node : IsDirtyNode t3 root.0) (listed : node_at t3 root.0 ≡ pointer_at key1 first ∷ pointer_at key2 second ∷ []) (written : IsRewritten t2 t3 root.0) (rise : ItemsRise (one ++ two)) where
  first_second : first.0 ≡ second.0 → ⊥
  first_second e = set.once.0 (in_head second.0 first.0 (root.0 ∷ []) (sym e))

  first_root : first.0 ≡ root.0 → ⊥
  first_root e = set.once.0 (in_tail second.0 first.0 (root.0 ∷ []) (in_head root.0 first.0 [] (sym e)))

  second_root : second.0 ≡ root.0 → ⊥
  second_root e = set.once.1.0 (in_head root.0 second.0 [] (sym e))

  -- the blocks, as they come to be
  first_late : block_at t3 first.0 ≡ block_at t1 first.0
  first_late =
      stays t2 t3 root.0 first.0 written (λ e. first_root (sym e)) ∙ stays t1 t2 second.0 first.0 next.written (λ e. first_second (sym e))

  second_late : block_at t3 second.0 ≡ block_at t2 second.0
  second_late = stays t2 t3 root.0 second.0 written (λ e. second_root (sym e))

  second_early : block_at t1 second.0 ≡ block_at t0 second.0
  second_early = stays t0 t1 first.0 second.0 made.written first_second

  root_early : block_at t2 root.0 ≡ block_at t0 root.0
  root_early =
      stays t1 t2 second.0 root.0 next.written second_root ∙ stays t0 t1 first.0 root.0 made.written first_root

  with_bytes : (at : ℕ) (l m : List ℕ) → l ≡ m → record (block_at t0 at) { bytes = l } ≡ record (block_at t0 at) { bytes = m }
  with_bytes at l m e = ap (λ (bytes : List ℕ). record (block_at t0 at) { bytes = bytes }) e

  first_kept : HasNewBytes t0 t3 first.0
  first_kept =
      first_late ∙ made.written.kept ∙ with_bytes first.0 _ _ (ap (λ (slot : BlockSlot). slot.bytes) (sym first_late))

  second_kept : HasNewBytes t0 t3 second.0
  second_kept =
      second_late ∙ next.written.kept ∙ ap (λ (slot : BlockSlot). record slot { bytes = (block_at t2 second.0).bytes }) second_early ∙ with_bytes second.0 _ _ (ap (λ (slot : BlockSlot). slot.bytes) (sym second_late))

  root_kept : HasNewBytes t0 t3 root.0
  root_kept =
      written.kept ∙ ap (λ (slot : BlockSlot). record slot { bytes = (block_at t3 root.0).bytes }) root_early

  first_leaf : IsDirtyLeaf t3 first.0
  first_leaf = leaf_kept t1 t3 first.0 first_late made.leaf

  second_leaf : IsDirtyLeaf t3 second.0
  second_leaf = leaf_kept t2 t3 second.0 second_late next.leaf

  first_items : leaf_items t3 first.0 ≡ one
  first_items = listed_leaf t3 first.0 one first_leaf (leaf_same t1 t3 first.0 first_late ∙ made.listed)

  second_items : leaf_items t3 second.0 ≡ two
  second_items = listed_leaf t3 second.0 two second_leaf (leaf_same t2 t3 second.0 second_late ∙ next.listed)

  -- the tree
  pointers_are : node_pointers t3 root.0 ≡ pointer_at key1 first ∷ pointer_at key2 second ∷ []
  pointers_are = node_pointers_are t3 root.0 (node_at t3 root.0) node.body ∙ listed

  items_are : items_below 1 t3 root.0 ≡ one ++ two
  items_are =
      ap (flat_map (λ (p : Pointer). leaf_items t3 p.at)) pointers_are ∙ ap (λ (l : List Item). l ++ (leaf_items t3 second.0 ++ [])) first_items ∙ ap (λ (l : List Item). one ++ l) (append-nil (leaf_items t3 second.0) ∙ second_items)

  reach_is : reach_below 1 t3 root.0 ≡ root.0 ∷ first.0 ∷ second.0 ∷ []
  reach_is = ap (λ (l : List Pointer). root.0 ∷ flat_map (λ (p : Pointer). p.at ∷ []) l) pointers_are

  size : length t3.slots ≡ length t0.slots
  size = written.same.size ∙ next.written.same.size ∙ made.written.same.size

  abbrev MayBe : ℕ → Type 0
  MayBe at = IsAllowed (length t0.slots) at

  rest_allowed : All MayBe (second.0 ∷ root.0 ∷ [])
  rest_allowed = All-tail MayBe first.0 (second.0 ∷ root.0 ∷ []) set.allowed

  first_child : IsSubtree 0 t3 false first.0 × (first_key (items_below 0 t3 first.0) ≡ Some key1)
  first_child = (
    (dirty_taken t0 t3 first.0 size (All-head MayBe first.0 (second.0 ∷ root.0 ∷ []) set.allowed) first_leaf.dirty, leaf_to_ok (block_at t3 first.0).bytes first_leaf.body, subst (λ (l : List Item). 1 ≤ length l) (sym first_items) (some_items one key1 made.first)),
    ap first_key first_items ∙ made.first,
  )

  second_child : IsSubtree 0 t3 false second.0 × (first_key (items_below 0 t3 second.0) ≡ Some key2)
  second_child = (
    (dirty_taken t0 t3 second.0 size (All-head MayBe second.0 (root.0 ∷ []) rest_allowed) second_leaf.dirty, leaf_to_ok (block_at t3 second.0).bytes second_leaf.body, subst (λ (l : List Item). 1 ≤ length l) (sym second_items) (some_items two key2 next.first)),
    ap first_key second_items ∙ next.first,
  )

  once : NoneTwice (root.0 ∷ first.0 ∷ second.0 ∷ [])
  once = (
    λ c. elim (in_cons first.0 root.0 (second.0 ∷ []) c) [
      | inl e ↦ first_root e
      | inr c ↦ second_root (in_one second.0 root.0 c)
    ],
    (λ c. first_second (sym (in_one second.0 first.0 c)), (λ c. in_nothing second.0 c, tt)),
  )

  stands : IsTree t3 (record { root = root; level = 1; owner = owner })
  stands = record {
    low = omega arith;
    shape = (
      dirty_taken t0 t3 root.0 size (All-head MayBe root.0 [] (All-tail MayBe second.0 (root.0 ∷ []) rest_allowed)) node.dirty,
      node_to_ok (block_at t3 root.0).bytes node.body,
      subst (λ (l : List Pointer). 2 ≤ length l) (sym pointers_are) (omega arith),
      subst (All (λ (p : Pointer). IsSubtree 0 t3 false p.at × (first_key (items_below 0 t3 p.at) ≡ Some p.key))) (sym pointers_are) (All-cons (λ (p : Pointer). IsSubtree 0 t3 false p.at × (first_key (items_below 0 t3 p.at) ≡ Some p.key)) (pointer_at key1 first) (pointer_at key2 second ∷ []) first_child (All-cons (λ (p : Pointer). IsSubtree 0 t3 false p.at × (first_key (items_below 0 t3 p.at) ≡ Some p.key)) (pointer_at key2 second) [] second_child (All-nil _))),
    );
    order = subst ItemsRise (sym items_are) rise;
    once = subst NoneTwice (sym reach_is) once;
  }

  same : IsSameBut t0 t3 (root.0 ∷ first.0 ∷ second.0 ∷ [])
  same = record {
    size = size;
    lists = written.same.lists ∙ next.written.same.lists ∙ made.written.same.lists;
    others = λ at apart.
        stays t2 t3 root.0 at written (λ e. apart (in_head root.0 at (first.0 ∷ second.0 ∷ []) e))
        ∙ stays t1 t2 second.0 at next.written (λ e. apart (in_tail root.0 at (first.0 ∷ second.0 ∷ []) (in_tail first.0 at (second.0 ∷ []) (in_head second.0 at [] e))))
        ∙ stays t0 t1 first.0 at made.written (λ e. apart (in_tail root.0 at (first.0 ∷ second.0 ∷ []) (in_head first.0 at (second.0 ∷ []) e)));
  }

  abbrev IsBelow : Pointer → Type 0
  IsBelow p = (IsDirtyAt t3 p.at → IsDirtyAt t3 root.0) × DirtyIsAbove 0 t3 p.at

  above : DirtyIsAbove 1 t3 root.0
  above =
      subst (All (λ (p : Pointer). (IsDirtyAt t3 p.at → IsDirtyAt t3 root.0) × DirtyIsAbove 0 t3 p.at)) (sym pointers_are) (All-cons IsBelow (pointer_at key1 first) (pointer_at key2 second ∷ []) (λ _. node.dirty, tt) (All-cons IsBelow (pointer_at key2 second) [] (λ _. node.dirty, tt) (All-nil IsBelow)))

  sealable : (fsid : List ℕ) (generation : ℕ) → IsSealedTree t3 (record { root = root; level = 1; owner = owner }) fsid generation
  sealable fsid generation = (
    λ clean. absurd (clean node.dirty),
    λ pointers body. subst (All IsFit) (sym pointers_are ∙ pointers_shown t3 root.0 pointers body) (All-cons IsFit (pointer_at key1 first) (pointer_at key2 second ∷ []) (λ clean. absurd (clean first_leaf.dirty)) (All-cons IsFit (pointer_at key2 second) [] (λ clean. absurd (clean second_leaf.dirty)) (All-nil IsFit))),
  )
    where
      want : Want
      want = record { fsid = fsid; at = root; generation = generation; owner = owner; level = 1 }

      IsFit : Pointer → Type 0
      IsFit p = IsSealedSubtree 0 t3 (child_want want p 0)

  pub two_leaves_built : IsBuilt t0 t3 (record { root = root; level = 1; owner = owner }) (one ++ two) (root.0 ∷ first.0 ∷ second.0 ∷ [])
  two_leaves_built = record {
    stands = stands;
    items_are = items_are;
    reach_is = reach_is;
    dirty = All-cons (IsDirtyAt t3) root.0 (first.0 ∷ second.0 ∷ []) node.dirty (All-cons (IsDirtyAt t3) first.0 (second.0 ∷ []) first_leaf.dirty (All-cons (IsDirtyAt t3) second.0 [] second_leaf.dirty (All-nil (IsDirtyAt t3))));
    kept = All-cons (HasNewBytes t0 t3) root.0 (first.0 ∷ second.0 ∷ []) root_kept (All-cons (HasNewBytes t0 t3) first.0 (second.0 ∷ []) first_kept (All-cons (HasNewBytes t0 t3) second.0 [] second_kept (All-nil (HasNewBytes t0 t3))));
    same = same;
    spare = written.spare ∙ next.written.spare ∙ made.written.spare;
    free = written.free ∙ next.written.free ∙ made.written.free;
    above = above;
    sealable = sealable;
  }

-- ---- root items cut in two

-- the keys in front are below those behind
pub first_below : (one two : List Item) (key1 key2 : Key) → first_key one ≡ Some key1 → first_key two ≡ Some key2 → ItemsRise (one ++ two) → KeyBelow key1 key2
first_below [] two key1 key2 f s rise = absurd cc
first_below (a ∷ one) [] key1 key2 f s rise = absurd cc
first_below (a ∷ one) (b ∷ two) key1 key2 f s rise =
    let low : KeyBelow a.0 b.0 = All-head (λ (item : Item). KeyBelow a.0 item.0) b two (All-right (λ (item : Item). KeyBelow a.0 item.0) one (b ∷ two) (rise_head a (one ++ b ∷ two) rise)) in
    let k1 : a.0 ≡ key1 = cc in
    let k2 : b.0 ≡ key2 = cc in
    subst (λ (k : Key). KeyBelow k key2) k1 (subst (λ (k : Key). KeyBelow a.0 k) k2 low)

-- where the ids rise, so do the keys of their items
less_below : (one two : ℕ) → one < two → KeyBelow (log_key one) (log_key two)
less_below one two less = grind (arith, nat_tests)

pub entries_rise : (subs : List (SubId × RootItem)) → IdsRise subs → ItemsRise (log_entries subs)
entries_rise [] rise = tt
entries_rise (sub ∷ []) rise = tt
entries_rise (sub ∷ next ∷ subs) rise = (less_below sub.0.0 next.0.0 rise.0, entries_rise (next ∷ subs) rise.1)

-- the entries are those of both parts
pub entries_cut : (front back subs : List (SubId × RootItem)) (count : ℕ) → front ≡ take count subs → back ≡ drop count subs → log_entries front ++ log_entries back ≡ log_entries subs
entries_cut front back subs count f b =
    ap (λ (l : List (SubId × RootItem)). log_entries l ++ log_entries back) f ∙ ap (λ (l : List (SubId × RootItem)). log_entries (take count subs) ++ log_entries l) b ∙ sym (map-append log_entry (take count subs) (drop count subs)) ∙ ap log_entries (take-append-drop count subs)

-- ---- the blocks of the set that are still to be written

pub next_dirty : (old mid : Table) (first second root : ℕ) → IsSet old (first ∷ second ∷ root ∷ []) → IsRewritten old mid first → IsDirtyAt mid second
next_dirty old mid first second root set one =
    ap (λ (slot : BlockSlot). slot.state) (stays old mid first second one (λ e. set.once.0 (in_head second first (root ∷ []) (sym e)))) ∙ All-head (IsDirtyAt old) second (root ∷ []) (All-tail (IsDirtyAt old) first (second ∷ root ∷ []) set.dirty)

pub last_dirty : (old mid new : Table) (first second root : ℕ) → IsSet old (first ∷ second ∷ root ∷ []) → IsRewritten old mid first → IsRewritten mid new second → IsDirtyAt new root
last_dirty old mid new first second root set one two =
    ap (λ (slot : BlockSlot). slot.state) (stays mid new second root two (λ e. set.once.1.0 (in_head root second [] (sym e))))
    ∙ ap (λ (slot : BlockSlot). slot.state) (stays old mid first root one (λ e. set.once.0 (in_tail second first (root ∷ []) (in_head root first [] (sym e)))))
    ∙ All-head (IsDirtyAt old) root [] (All-tail (IsDirtyAt old) second (root ∷ []) (All-tail (IsDirtyAt old) first (second ∷ root ∷ []) set.dirty))
