-- Nodes over nodes: a pair of children that share their pointers, and what is below them then.
use Rattle.std.proofs.Common.{◌≡◌, ◌≢◌, ◌≤◌, ◌+◌, ℕ, suc, true, false, List, [], ◌∷◌, ◌++◌, length, refl, ap, ◌∙◌, sym, subst, Some, None, ◌⊎◌, arith, append_assoc}
use Rattle.std.specs.Prelude.{All, Contains, slice_index_or}
use Rattle.std.specs.List.{flat_map, sum_by}
use Rattle.std.proofs.lemmas.List.{length-append}
use Rattle.std.proofs.lemmas.List.Concat.{flat_map-append}
use Rattle.std.proofs.lemmas.List.Elements.{All-nil, All-cons, All-head, All-tail, All-append, All-same, All-weaker}
use Rattle.std.proofs.lemmas.List.Sums.{sum_by-append, sum_by-cons}
use Rattle.blk_base.specs.declared.key.Key.{Key}
use Rattle.blk_base.specs.Address.{IsAllowed}
use Rattle.blk_base.specs.Keys.{KeyBelow, keys_rise}
use Rattle.blk_base.specs.Leaf.{Item, Pointer}
use Rattle.block_table.specs.declared.state.SlotState.TheVariants.{Dirty, LetGo}
use Rattle.block_table.specs.Table.{Table}
use Rattle.blk_base.specs.Trees.{ItemsRise, NoneTwice, first_key}
use Rattle.block_table.specs.TreeIn.{IsSealedSubtree, block_at}
use Rattle.leaf_view.specs.Search.{pointer_keys}
use Rattle.tree_range.specs.Shape.{AreAlike, items_below, node_pointers, reach_below}
use Rattle.tree_range.specs.Part.{times_in}
use Rattle.tree_range.specs.Path.{key_behind}
use Rattle.tree_range.proofs.Local.{alike_below, node_pointers_alike}
use Rattle.tree_range.proofs.Rise.{All-left, All-right, rise_left, rise_right}
use Rattle.tree_blocks.specs.Steps.{IsDirtyNode, node_at}
use Rattle.tree_blocks.proofs.Listing.{node_from_ok, node_to_ok}
use Rattle.tree_frame.specs.Frame.{AreCurrent, IsEdit, leaves_below}
use Rattle.tree_delete.specs.Seals.{IsSealedRow, want_of}
use Rattle.tree_delete.specs.Ahead.{nodes_ahead, row_ahead}
use Rattle.tree_delete.specs.Rows.{IsChildOf, IsNodeOver, row_items, row_leaves, row_reach}
use Rattle.tree_delete.specs.Steps.{HasPair, IsCurrentNode, IsEven, ats_of}
use Rattle.tree_delete.proofs.Seals.{dirty_node_sealed, sealed_children}
use Rattle.tree_delete.proofs.Ahead.{below_ahead, dirty_ahead}
use Rattle.tree_delete.proofs.Blocks.{node_same}
use Rattle.tree_delete.proofs.Edits.{IsCarried, IsWhole, carry}
use Rattle.tree_delete.proofs.Lists.{IsShuffle, contains_behind, contains_first, none_twice_from, none_twice_to, shuffle_all, times_append}
use Rattle.tree_delete.proofs.Pairs.{dirty_node, dirty_used, once_apart, same_allowed}
use Rattle.tree_delete.proofs.Rows.{Begins, firsts_of, leaves_cut, node_over_alike, over_from, over_to, row_alike, row_before, row_cut, row_first, row_keys_rise}

-- a node among a node's children, with so many pointers at least
pub record IsKid (level : ℕ) (table : Table) (least : ℕ) (pointer : Pointer) : Type 0 where
  pub over : IsNodeOver level table pointer.at
  pub begins : first_key (items_below (suc level) table pointer.at) ≡ Some pointer.key
  pub long : least ≤ length (node_pointers table pointer.at)

pub kid_of : (level : ℕ) (table : Table) (pointer : Pointer) → IsChildOf (suc level) table pointer → IsKid level table 30 pointer
kid_of level table pointer h = record { over = over_from level table false pointer.at h.0; begins = h.1; long = h.0.2 }

pub child_of_kid : (level : ℕ) (table : Table) (pointer : Pointer) → IsKid level table 30 pointer → IsChildOf (suc level) table pointer
child_of_kid level table pointer h = (over_to level table false pointer.at h.over h.long, h.begins)

pub kid_alike : (level least : ℕ) (old new : Table) (pointer : Pointer) → AreAlike old new (reach_below (suc level) old pointer.at) → IsKid level old least pointer → IsKid level new least pointer
kid_alike level least old new pointer h kid =
    let P : ℕ → Type 0 = λ (place : ℕ). block_at new place ≡ block_at old place in
    let same = node_pointers_alike old new pointer.at (All-head P pointer.at (row_reach level old (node_pointers old pointer.at)) h) in
    record {
      over = node_over_alike level old new pointer.at h kid.over;
      begins = subst (λ (l : List Item). first_key l ≡ Some pointer.key) (sym (alike_below (suc level) old new pointer.at h).items) kid.begins;
      long = subst (λ (l : List Pointer). least ≤ length l) (sym same) kid.long;
    }

-- ---- what is below the pointers of a row of nodes

abbrev pub inner_of : Table → List Pointer → List Pointer
inner_of table pointers = flat_map (λ (pointer : Pointer). node_pointers table pointer.at) pointers

pub inner_items : (level : ℕ) (table : Table) (pointers : List Pointer) → row_items (suc level) table pointers ≡ row_items level table (inner_of table pointers)
inner_items level table [] = refl
inner_items level table (p ∷ pointers) =
    let f : Pointer → List Item = λ (q : Pointer). items_below level table q.at in
    ap (λ (l : List Item). row_items level table (node_pointers table p.at) ++ l) (inner_items level table pointers) ∙ sym (flat_map-append f (node_pointers table p.at) (inner_of table pointers))

pub inner_leaves : (level : ℕ) (table : Table) (pointers : List Pointer) → row_leaves (suc level) table pointers ≡ row_leaves level table (inner_of table pointers)
inner_leaves level table [] = refl
inner_leaves level table (p ∷ pointers) =
    let n : Pointer → ℕ = λ (q : Pointer). leaves_below level table q.at in
    let n_above : Pointer → ℕ = λ (q : Pointer). leaves_below (suc level) table q.at in
    omega (arith, sum_by-cons n_above p pointers, inner_leaves level table pointers, sum_by-append n (node_pointers table p.at) (inner_of table pointers))

-- a node of them may be one that is ahead, and none is where all of them are Dirty
pub inner_ahead : (first last : Key) (level : ℕ) (table : Table) (pointers : List Pointer) → All (λ (p : Pointer). IsDirtyNode table p.at) pointers → row_ahead first last (suc level) table pointers ≡ row_ahead first last level table (inner_of table pointers)
inner_ahead first last level table [] dirty = refl
inner_ahead first last level table (p ∷ pointers) dirty =
    let D : Pointer → Type 0 = λ (q : Pointer). IsDirtyNode table q.at in
    let n : Pointer → ℕ = λ (q : Pointer). nodes_ahead first last level table q.at in
    let n_above : Pointer → ℕ = λ (q : Pointer). nodes_ahead first last (suc level) table q.at in
    let here = dirty_ahead first last level table p.at (All-head D p pointers dirty).dirty in
    omega (arith, sum_by-cons n_above p pointers, inner_ahead first last level table pointers (All-tail D p pointers dirty), sum_by-append n (node_pointers table p.at) (inner_of table pointers), here)

pub inner_reach : (level : ℕ) (table : Table) (pointers : List Pointer) (x : ℕ) → times_in x (row_reach (suc level) table pointers) ≡ times_in x (ats_of pointers) + times_in x (row_reach level table (inner_of table pointers))
inner_reach level table [] x = omega arith
inner_reach level table (p ∷ pointers) x =
    let g : Pointer → List ℕ = λ (q : Pointer). reach_below level table q.at in
    let near = row_reach level table (node_pointers table p.at) in
    let far = row_reach level table (inner_of table pointers) in
    let joined : times_in x (row_reach level table (inner_of table (p ∷ pointers))) ≡ times_in x near + times_in x far = ap (times_in x) (flat_map-append g (node_pointers table p.at) (inner_of table pointers)) ∙ times_append x near far in
    omega (arith, inner_reach level table pointers x, joined, times_append x (p.at ∷ []) (near ++ row_reach (suc level) table pointers), times_append x near (row_reach (suc level) table pointers), times_append x (p.at ∷ []) (ats_of pointers))

pub inner_same : (table : Table) (pointers : List Pointer) → inner_of table pointers ≡ flat_map (λ (pointer : Pointer). node_at table pointer.at) pointers
inner_same table [] = refl
inner_same table (p ∷ pointers) =
    ap (λ (l : List Pointer). l ++ inner_of table pointers) (node_same table p.at) ∙ ap (λ (l : List Pointer). node_at table p.at ++ l) (inner_same table pointers)

-- ---- two children side by side

-- what stands in front of two children of a node, the two, and what stands behind them
pub record IsKidPair (level : ℕ) (table : Table) (at : ℕ) (lefts : List Pointer) (a b : Pointer) (rights : List Pointer) : Type 0 where
  pub split : node_pointers table at ≡ lefts ++ a ∷ b ∷ rights
  pub lefts_good : All (IsKid level table 30) lefts
  pub left : IsKid level table 29 a
  pub right : IsKid level table 29 b
  pub rights_good : All (IsKid level table 30) rights
  pub whole : IsWhole table (reach_below (suc (suc level)) table at)
  pub rises : ItemsRise (items_below (suc (suc level)) table at)

module _ (level : ℕ) (table : Table) (at : ℕ) (lefts : List Pointer) (a b : Pointer) (rights : List Pointer) (h : IsKidPair level table at lefts a b rights) where
  abbrev pub pa : List Pointer
  pa = node_pointers table a.at

  abbrev pub pb : List Pointer
  pb = node_pointers table b.at

  abbrev pub RL : List ℕ
  RL = row_reach (suc level) table lefts

  abbrev pub Ra : List ℕ
  Ra = row_reach level table pa

  abbrev pub Rb : List ℕ
  Rb = row_reach level table pb

  abbrev pub RR : List ℕ
  RR = row_reach (suc level) table rights

  abbrev pub under : List ℕ
  under = RL ++ (Ra ++ (Rb ++ RR))

  pub reach_cut : reach_below (suc (suc level)) table at ≡ at ∷ (RL ++ ((a.at ∷ Ra) ++ ((b.at ∷ Rb) ++ RR)))
  reach_cut =
      let g : Pointer → List ℕ = λ (q : Pointer). reach_below (suc level) table q.at in
      ap (λ (l : List ℕ). at ∷ l) (ap (flat_map g) h.split ∙ flat_map-append g lefts (a ∷ b ∷ rights))

  pub times_cut : (x : ℕ) → times_in x (reach_below (suc (suc level)) table at) ≡ times_in x (at ∷ a.at ∷ b.at ∷ []) + times_in x under
  times_cut x =
      omega (
        arith,
        ap (times_in x) reach_cut,
        times_append x (at ∷ []) (RL ++ ((a.at ∷ Ra) ++ ((b.at ∷ Rb) ++ RR))),
        times_append x RL ((a.at ∷ Ra) ++ ((b.at ∷ Rb) ++ RR)),
        times_append x (a.at ∷ Ra) ((b.at ∷ Rb) ++ RR),
        times_append x (b.at ∷ Rb) RR,
        times_append x (a.at ∷ []) Ra,
        times_append x (b.at ∷ []) Rb,
        times_append x (at ∷ []) (a.at ∷ b.at ∷ []),
        times_append x (a.at ∷ []) (b.at ∷ []),
        times_append x RL (Ra ++ (Rb ++ RR)),
        times_append x Ra (Rb ++ RR),
        times_append x Rb RR,
      )

  pub shuffle_cut : IsShuffle (reach_below (suc (suc level)) table at) ((at ∷ a.at ∷ b.at ∷ []) ++ under)
  shuffle_cut x = times_cut x ∙ sym (times_append x (at ∷ a.at ∷ b.at ∷ []) under)

  pub items_cut : items_below (suc (suc level)) table at ≡ row_items (suc level) table lefts ++ ((row_items level table pa ++ row_items level table pb) ++ row_items (suc level) table rights)
  items_cut =
      let f : Pointer → List Item = λ (q : Pointer). items_below (suc level) table q.at in
      ap (flat_map f) h.split ∙ flat_map-append f lefts (a ∷ b ∷ rights) ∙ ap (λ (l : List Item). row_items (suc level) table lefts ++ l) (sym (append_assoc (row_items level table pa) (row_items level table pb) (row_items (suc level) table rights)))

  both_items : row_items level table (pa ++ pb) ≡ row_items level table pa ++ row_items level table pb
  both_items = flat_map-append (λ (q : Pointer). items_below level table q.at) pa pb

  both_rise : ItemsRise (row_items level table (pa ++ pb) ++ row_items (suc level) table rights)
  both_rise =
      let shown : ItemsRise (row_items (suc level) table lefts ++ ((row_items level table pa ++ row_items level table pb) ++ row_items (suc level) table rights)) = subst ItemsRise items_cut h.rises in
      subst (λ (l : List Item). ItemsRise (l ++ row_items (suc level) table rights)) (sym both_items) (rise_right (row_items (suc level) table lefts) ((row_items level table pa ++ row_items level table pb) ++ row_items (suc level) table rights) shown)

  pub both_children : All (IsChildOf level table) (pa ++ pb)
  both_children = All-append (IsChildOf level table) pa pb h.left.over.children h.right.over.children

  pub keys_both : keys_rise (pointer_keys (pa ++ pb)) ≡ true
  keys_both =
      row_keys_rise (λ (q : Pointer). items_below level table q.at) (pa ++ pb) (firsts_of level table (pa ++ pb) both_children) (rise_left (row_items level table (pa ++ pb)) (row_items (suc level) table rights) both_rise)

  pub keys_behind : All (λ (inner : Pointer). All (λ (other : Pointer). KeyBelow inner.key other.key) rights) (pa ++ pb)
  keys_behind =
      row_before (λ (q : Pointer). items_below level table q.at) (λ (q : Pointer). items_below (suc level) table q.at) (pa ++ pb) rights (firsts_of level table (pa ++ pb) both_children) (All-weaker (IsKid level table 30) (Begins (λ (q : Pointer). items_below (suc level) table q.at)) (λ q k. k.begins) rights h.rights_good) both_rise

  pub first_left : key_behind pa None ≡ Some a.key
  first_left = sym (row_first (λ (q : Pointer). items_below level table q.at) pa (firsts_of level table pa h.left.over.children)) ∙ h.left.begins

  three_times : (x : ℕ) → times_in x (at ∷ a.at ∷ b.at ∷ []) ≤ 1
  three_times x = omega (arith, none_twice_to (reach_below (suc (suc level)) table at) x h.whole.once, times_cut x)

  three : NoneTwice (at ∷ a.at ∷ b.at ∷ [])
  three = none_twice_from (at ∷ a.at ∷ b.at ∷ []) three_times

  three_current : AreCurrent table (at ∷ a.at ∷ b.at ∷ [])
  three_current =
      let P : ℕ → Type 0 = λ (x : ℕ). (block_at table x).state ≢ LetGo in
      All-left P (at ∷ a.at ∷ b.at ∷ []) under (shuffle_all P (reach_below (suc (suc level)) table at) ((at ∷ a.at ∷ b.at ∷ []) ++ under) shuffle_cut h.whole.current)

  current_node : (q : Pointer) → IsNodeOver level table q.at → (block_at table q.at).state ≢ LetGo → IsCurrentNode table q.at
  current_node q over current = record { body = node_from_ok (block_at table q.at).bytes over.body; allowed = over.taken.allowed; taken = over.taken.taken; current = current }

  pub has_pair : IsDirtyNode table at → IsAllowed (length table.slots) at → ((block_at table a.at).state ≡ Dirty) ⊎ ((block_at table b.at).state ≡ Dirty) → 59 ≤ length pa + length pb → length pa + length pb ≤ 241 → HasPair table at (length lefts)
  has_pair node allowed dirty least most =
      let P : ℕ → Type 0 = λ (x : ℕ). (block_at table x).state ≢ LetGo in
      let behind_current = All-tail P at (a.at ∷ b.at ∷ []) three_current in
      let a_current = All-head P a.at (b.at ∷ []) behind_current in
      let b_current = All-head P b.at [] (All-tail P a.at (b.at ∷ []) behind_current) in
      let left_same : length pa ≡ length (node_at table a.at) = ap (λ (l : List Pointer). length l) (node_same table a.at) in
      let right_same : length pb ≡ length (node_at table b.at) = ap (λ (l : List Pointer). length l) (node_same table b.at) in
      let both_same : pa ++ pb ≡ node_at table a.at ++ node_at table b.at = ap (λ (l : List Pointer). l ++ pb) (node_same table a.at) ∙ ap (λ (l : List Pointer). node_at table a.at ++ l) (node_same table b.at) in
      record {
        node = node;
        allowed = allowed;
        lefts = lefts;
        left = a;
        right = b;
        rights = rights;
        split = sym (node_same table at) ∙ h.split;
        long = refl;
        pair = record {
          left_node = current_node a h.left.over a_current;
          right_node = current_node b h.right.over b_current;
          apart = once_apart a.at b.at [] three.1;
          dirty = dirty;
          rise = subst (λ (l : List Pointer). keys_rise (pointer_keys l) ≡ true) both_same keys_both;
          left_least = omega (arith, left_same, h.left.long);
          right_least = omega (arith, right_same, h.right.long);
          least = omega (arith, left_same, right_same, least);
          most = omega (arith, left_same, right_same, most);
        };
        left_apart = once_apart at a.at (b.at ∷ []) three;
        right_apart = λ e. three.0 (subst (λ (x : ℕ). Contains (a.at ∷ b.at ∷ []) x) (sym e) (contains_behind a.at (b.at ∷ []) b.at (contains_first b.at [])));
        first = subst (λ (l : List Pointer). key_behind l None ≡ Some a.key) (node_same table a.at) first_left;
        behind = subst (λ (l : List Pointer). All (λ (inner : Pointer). All (λ (other : Pointer). KeyBelow inner.key other.key) rights) l) both_same keys_behind;
      }

-- ---- the node when the two have shared

pub record IsNodeEven (level : ℕ) (old new : Table) (at : ℕ) : Type 0 where
  pub over : IsNodeOver (suc level) new at
  pub edit : IsEdit old new (reach_below (suc (suc level)) old at) (reach_below (suc (suc level)) new at)
  pub whole : IsWhole new (reach_below (suc (suc level)) new at)
  pub items : items_below (suc (suc level)) new at ≡ items_below (suc (suc level)) old at
  pub leaves : leaves_below (suc (suc level)) new at ≡ leaves_below (suc (suc level)) old at
  pub count : length (node_pointers old at) ≤ length (node_pointers new at) + 1
  pub sealed : (fsid : List ℕ) (owner : ℕ) → IsSealedRow fsid owner (suc level) old (node_pointers old at) → IsSealedRow fsid owner (suc level) new (node_pointers new at)
  pub ahead : (first last : Key) → nodes_ahead first last (suc (suc level)) new at ≤ nodes_ahead first last (suc (suc level)) old at

all_inner : (P : Pointer → Type 0) (table : Table) (pointers : List Pointer) → All P (inner_of table pointers) → All (λ (p : Pointer). All P (node_pointers table p.at)) pointers
all_inner P table [] h = All-nil (λ (p : Pointer). All P (node_pointers table p.at))
all_inner P table (p ∷ pointers) h =
    All-cons (λ (q : Pointer). All P (node_pointers table q.at)) p pointers (All-left P (node_pointers table p.at) (inner_of table pointers) h) (all_inner P table pointers (All-right P (node_pointers table p.at) (inner_of table pointers) h))

-- nodes that are being edited have nothing to pass, and what is below them is
inner_sealed : (fsid : List ℕ) (owner level : ℕ) (table : Table) (pointers : List Pointer) → All (λ (p : Pointer). IsDirtyNode table p.at) pointers → All (λ (p : Pointer). IsSealedRow fsid owner level table (node_pointers table p.at)) pointers → IsSealedRow fsid owner (suc level) table pointers
inner_sealed fsid owner level table pointers nodes below =
    λ k d inside. dirty_node_sealed level table (want_of fsid owner (suc level) (slice_index_or pointers k d)) (nodes k d inside).dirty (below k d inside)

-- a node that was made is a child
made_child : (level : ℕ) (table : Table) (pointer : Pointer) → IsDirtyNode table pointer.at → IsAllowed (length table.slots) pointer.at → 30 ≤ length (node_at table pointer.at) → key_behind (node_at table pointer.at) None ≡ Some pointer.key → All (IsChildOf level table) (node_pointers table pointer.at) → IsChildOf (suc level) table pointer
made_child level table pointer node allowed least first children =
    let f : Pointer → List Item = λ (q : Pointer). items_below level table q.at in
    let ps = node_pointers table pointer.at in
    let same = node_same table pointer.at in
    let current = dirty_node table pointer.at allowed node in
    ((record { allowed = allowed; taken = current.taken }, node_to_ok (block_at table pointer.at).bytes node.body, subst (λ (l : List Pointer). 30 ≤ length l) (sym same) least, children), row_first f ps (firsts_of level table ps children) ∙ ap (λ (l : List Pointer). key_behind l None) same ∙ first)

made_children : (level : ℕ) (table : Table) (pointers : List Pointer) → All (λ (p : Pointer). IsDirtyNode table p.at) pointers → All (λ (p : Pointer). IsAllowed (length table.slots) p.at) pointers → All (λ (p : Pointer). 30 ≤ length (node_at table p.at)) pointers → All (λ (p : Pointer). key_behind (node_at table p.at) None ≡ Some p.key) pointers
    → All (λ (p : Pointer). All (IsChildOf level table) (node_pointers table p.at)) pointers → All (IsChildOf (suc level) table) pointers
made_children level table pointers nodes allowed least firsts children =
    λ k d inside. made_child level table (slice_index_or pointers k d) (nodes k d inside) (allowed k d inside) (least k d inside) (firsts k d inside) (children k d inside)

module _ (level : ℕ) (old new : Table) (at place : ℕ) (pair : HasPair old at place) (h : IsKidPair level old at pair.lefts pair.left pair.right pair.rights) (even : IsEven old new at place pair) where
  -- the node has as many pointers fewer as the two were more
  pub made_count : length (node_pointers new at) + 2 ≡ length (node_pointers old at) + length even.made
  made_count =
      omega (arith, ap (λ (l : List Pointer). length l) h.split, length-append pair.lefts (pair.left ∷ pair.right ∷ pair.rights), ap (λ (l : List Pointer). length l) (node_same new at ∙ even.pointers), length-append pair.lefts (even.made ++ pair.rights), length-append even.made pair.rights)

  first_carry : IsCarried old new (under level old at pair.lefts pair.left pair.right pair.rights h) (reach_below (suc (suc level)) old at) ((at ∷ ats_of even.made) ++ under level old at pair.lefts pair.left pair.right pair.rights h)
  first_carry =
      carry old new (at ∷ pair.left.at ∷ pair.right.at ∷ []) (at ∷ ats_of even.made) (under level old at pair.lefts pair.left pair.right pair.rights h) (reach_below (suc (suc level)) old at) ((at ∷ ats_of even.made) ++ under level old at pair.lefts pair.left pair.right pair.rights h) even.edit even.once h.whole (shuffle_cut level old at pair.lefts pair.left pair.right pair.rights h) (λ x. refl)

  pub node_even : IsNodeEven level old new at
  node_even =
      let P : ℕ → Type 0 = λ (x : ℕ). block_at new x ≡ block_at old x in
      let a = pair.left in
      let b = pair.right in
      let lefts = pair.lefts in
      let rights = pair.rights in
      let made = even.made in
      let ps_a = node_pointers old a.at in
      let ps_b = node_pointers old b.at in
      let rl = row_reach (suc level) old lefts in
      let ra = row_reach level old ps_a in
      let rb = row_reach level old ps_b in
      let rr = row_reach (suc level) old rights in
      let alike : All P (rl ++ (ra ++ (rb ++ rr))) = first_carry.alike in
      let alike_behind = All-right P rl (ra ++ (rb ++ rr)) alike in
      let left_row = row_alike (suc level) old new lefts (All-left P rl (ra ++ (rb ++ rr)) alike) in
      let a_row = row_alike level old new ps_a (All-left P ra (rb ++ rr) alike_behind) in
      let b_row = row_alike level old new ps_b (All-left P rb rr (All-right P ra (rb ++ rr) alike_behind)) in
      let right_row = row_alike (suc level) old new rights (All-right P rb rr (All-right P ra (rb ++ rr) alike_behind)) in
      let inner : inner_of new made ≡ ps_a ++ ps_b = inner_same new made ∙ even.lists ∙ ap (λ (l : List Pointer). l ++ node_at old b.at) (sym (node_same old a.at)) ∙ ap (λ (l : List Pointer). ps_a ++ l) (sym (node_same old b.at)) in
      let row : node_pointers new at ≡ lefts ++ (made ++ rights) = node_same new at ∙ even.pointers in
      let f : Pointer → List Item = λ (q : Pointer). items_below (suc level) new q.at in
      let g : Pointer → List ℕ = λ (q : Pointer). reach_below (suc level) new q.at in
      let n : Pointer → ℕ = λ (q : Pointer). leaves_below (suc level) new q.at in
      let n_old : Pointer → ℕ = λ (q : Pointer). leaves_below (suc level) old q.at in
      let f_in : Pointer → List Item = λ (q : Pointer). items_below level new q.at in
      let g_in : Pointer → List ℕ = λ (q : Pointer). reach_below level new q.at in
      let n_in : Pointer → ℕ = λ (q : Pointer). leaves_below level new q.at in
      let made_items : row_items (suc level) new made ≡ row_items level old ps_a ++ row_items level old ps_b =
      inner_items level new made ∙ ap (flat_map f_in) inner ∙ flat_map-append f_in ps_a ps_b ∙ ap (λ (l : List Item). l ++ row_items level new ps_b) a_row.items ∙ ap (λ (l : List Item). row_items level old ps_a ++ l) b_row.items in
      let made_reach : (x : ℕ) → times_in x (row_reach (suc level) new made) ≡ times_in x (ats_of made) + (times_in x ra + times_in x rb) = λ x.
      let inner_is : row_reach level new (inner_of new made) ≡ ra ++ rb = ap (flat_map g_in) inner ∙ flat_map-append g_in ps_a ps_b ∙ ap (λ (l : List ℕ). l ++ row_reach level new ps_b) a_row.reach ∙ ap (λ (l : List ℕ). ra ++ l) b_row.reach in
      omega (arith, inner_reach level new made x, ap (times_in x) inner_is, times_append x ra rb) in
      let made_leaves : row_leaves (suc level) new made ≡ row_leaves level old ps_a + row_leaves level old ps_b =
      omega (arith, inner_leaves level new made, ap (sum_by n_in) inner, sum_by-append n_in ps_a ps_b, a_row.leaves, b_row.leaves) in
      let reach : reach_below (suc (suc level)) new at ≡ at ∷ (rl ++ (row_reach (suc level) new made ++ rr)) =
      ap (λ (l : List ℕ). at ∷ l) (ap (flat_map g) row ∙ row_cut g lefts made rights ∙ ap (λ (l : List ℕ). l ++ (row_reach (suc level) new made ++ row_reach (suc level) new rights)) left_row.reach ∙ ap (λ (l : List ℕ). rl ++ (row_reach (suc level) new made ++ l)) right_row.reach) in
      let shuffle : IsShuffle (reach_below (suc (suc level)) new at) ((at ∷ ats_of made) ++ (rl ++ (ra ++ (rb ++ rr)))) = λ x.
      omega (arith, ap (times_in x) reach, times_append x (at ∷ []) (rl ++ (row_reach (suc level) new made ++ rr)), times_append x rl (row_reach (suc level) new made ++ rr), times_append x (row_reach (suc level) new made) rr, made_reach x, times_append x (at ∷ ats_of made) (rl ++ (ra ++ (rb ++ rr))), times_append x (at ∷ []) (ats_of made), times_append x rl (ra ++ (rb ++ rr)), times_append x ra (rb ++ rr), times_append x rb rr) in
      let c = carry old new (at ∷ a.at ∷ b.at ∷ []) (at ∷ ats_of made) (rl ++ (ra ++ (rb ++ rr))) (reach_below (suc (suc level)) old at) (reach_below (suc (suc level)) new at) even.edit even.once h.whole (shuffle_cut level old at lefts a b rights h) shuffle in
      let inner_children : All (IsChildOf level new) (inner_of new made) = All-same (IsChildOf level new) (inner_of new made) (ps_a ++ ps_b) inner (All-append (IsChildOf level new) ps_a ps_b (a_row.children h.left.over.children) (b_row.children h.right.over.children)) in
      let lefts_old : All (IsChildOf (suc level) old) lefts = All-weaker (IsKid level old 30) (IsChildOf (suc level) old) (λ q k. child_of_kid level old q k) lefts h.lefts_good in
      let rights_old : All (IsChildOf (suc level) old) rights = All-weaker (IsKid level old 30) (IsChildOf (suc level) old) (λ q k. child_of_kid level old q k) rights h.rights_good in
      let children : All (IsChildOf (suc level) new) (lefts ++ (made ++ rights)) = All-append (IsChildOf (suc level) new) lefts (made ++ rights) (left_row.children lefts_old) (All-append (IsChildOf (suc level) new) made rights (made_children level new made even.nodes even.allowed even.least even.firsts (all_inner (IsChildOf level new) new made inner_children)) (right_row.children rights_old)) in
      let leaves_old : leaves_below (suc (suc level)) old at ≡ row_leaves (suc level) old lefts + (row_leaves level old ps_a + (row_leaves level old ps_b + row_leaves (suc level) old rights)) =
      omega (arith, ap (sum_by n_old) h.split, sum_by-append n_old lefts (a ∷ b ∷ rights), sum_by-cons n_old a (b ∷ rights), sum_by-cons n_old b rights) in
      record {
        over = record {
          taken = record { allowed = same_allowed old new at even.edit.size pair.allowed; taken = dirty_used new at even.node.dirty };
          body = node_to_ok (block_at new at).bytes even.node.body;
          children = All-same (IsChildOf (suc level) new) (node_pointers new at) (lefts ++ (made ++ rights)) row children;
        };
        edit = c.edit;
        whole = c.whole;
        items = ap (flat_map f) row ∙ row_cut f lefts made rights ∙ ap (λ (l : List Item). l ++ (row_items (suc level) new made ++ row_items (suc level) new rights)) left_row.items ∙ ap (λ (l : List Item). row_items (suc level) old lefts ++ (row_items (suc level) new made ++ l)) right_row.items
            ∙ ap (λ (l : List Item). row_items (suc level) old lefts ++ (l ++ row_items (suc level) old rights)) made_items ∙ sym (items_cut level old at lefts a b rights h);
        leaves = omega (arith, ap (sum_by n) row, leaves_cut n lefts made rights, left_row.leaves, right_row.leaves, made_leaves, leaves_old);
        count = omega (arith, ap (λ (l : List Pointer). length l) h.split, length-append lefts (a ∷ b ∷ rights), ap (λ (l : List Pointer). length l) row, length-append lefts (made ++ rights), length-append made rights, even.some);
        sealed = λ fsid owner sealed.
            let S : Pointer → Type 0 = λ (q : Pointer). IsSealedSubtree (suc level) old (want_of fsid owner (suc level) q) in
            let T : Pointer → Type 0 = λ (q : Pointer). IsSealedSubtree (suc level) new (want_of fsid owner (suc level) q) in
            let T_in : Pointer → Type 0 = λ (q : Pointer). IsSealedSubtree level new (want_of fsid owner level q) in
            let all = All-same S (lefts ++ a ∷ b ∷ rights) (node_pointers old at) (sym h.split) sealed in
            let two = All-right S lefts (a ∷ b ∷ rights) all in
            let behind = All-tail S a (b ∷ rights) two in
            let below_a = a_row.sealed fsid owner (sealed_children level old (want_of fsid owner (suc level) a) (All-head S a (b ∷ rights) two)) in
            let below_b = b_row.sealed fsid owner (sealed_children level old (want_of fsid owner (suc level) b) (All-head S b rights behind)) in
            let below = All-same T_in (inner_of new made) (ps_a ++ ps_b) inner (All-append T_in ps_a ps_b below_a below_b) in
            let made_sealed = inner_sealed fsid owner level new made even.nodes (all_inner T_in new made below) in
            All-same T (node_pointers new at) (lefts ++ (made ++ rights)) row (All-append T lefts (made ++ rights) (left_row.sealed fsid owner (All-left S lefts (a ∷ b ∷ rights) all)) (All-append T made rights made_sealed (right_row.sealed fsid owner (All-tail S b rights behind))));
        ahead = λ first last.
            let h_above : Pointer → ℕ = λ (q : Pointer). nodes_ahead first last (suc level) new q.at in
            let h_old : Pointer → ℕ = λ (q : Pointer). nodes_ahead first last (suc level) old q.at in
            let h_in : Pointer → ℕ = λ (q : Pointer). nodes_ahead first last level new q.at in
            let here = dirty_ahead first last (suc level) new at even.node.dirty in
            let row_is = ap (row_ahead first last (suc level) new) row in
            let cut = leaves_cut h_above lefts made rights in
            let made_is = inner_ahead first last level new made even.nodes in
            let inner_is = ap (row_ahead first last level new) inner in
            let both = sum_by-append h_in ps_a ps_b in
            let split = ap (row_ahead first last (suc level) old) h.split in
            let cut_old = sum_by-append h_old lefts (a ∷ b ∷ rights) in
            omega (arith, here, row_is, cut, made_is, inner_is, both, a_row.ahead first last, b_row.ahead first last, left_row.ahead first last, right_row.ahead first last, below_ahead first last (suc level) old at, split, cut_old, sum_by-cons h_old a (b ∷ rights), sum_by-cons h_old b rights, below_ahead first last level old a.at, below_ahead first last level old b.at);
      }
