-- A walk is `Ok` exactly where the block is a tree, and then it has met the tree's items and reach.
use Rattle.std.proofs.Common.{◌≡◌, ◌≤◌, ◌++◌, ◌↔◌, ℕ, zero, suc, true, false, List, [], ◌∷◌, length, Contains, Option, Some, None, Result, Ok, Err, refl, sym, ap, subst, ◌∙◌, arith, inl, inr, append-nil, append_assoc}
use Rattle.std.proofs.lemmas.Bool.{ltb-false, le-ltb}
use Rattle.std.proofs.lemmas.List.Elements.{Contains-append_left, Contains-append_right, Contains-append_cases}
use Rattle.blk_base.specs.declared.key.Key.{Key}
use Rattle.blk_base.specs.declared.key.Want.{Want}
use Rattle.blk_base.specs.declared.fault.BlockFault.{BlockFault}
use Rattle.blk_base.specs.Address.{IsAllowed}
use Rattle.blk_base.specs.Leaf.{Item, Pointer, leaf_of, node_of}
use Rattle.format_laws.specs.Checks.{passed, passes, found_none, finds_none, same_ok}
use Rattle.format_laws.specs.Superblock.{IsAllowed-from_test, is_allowed-true}
use Rattle.format_laws.specs.Blocks.{IsLeaf-from_read, leaf_of-Ok, IsNode-from_read, node_of-Ok}
use Rattle.volume_image.specs.declared.fault.LoadFault.{LoadFault}
use Rattle.volume_image.specs.Tree.{Image, IsTree, IsSubtree, AreChildren, NoneTwice, AreApart, HasWalked, ItemsRise, Walked, nothing_walked, block_of, child_want, first_key, first_pointer_key, least_pointers, least_items, is_top, is_first_key, is_full_and_first, entered, at_block, walk_children, walk_from, tree_of, ◌>>=◌}
use Rattle.volume_image.proofs.Lists.{in_nothing, in_cons}
use Rattle.volume_image.proofs.Reaches.{head_in, tail_in, not_reached, not_in, none_twice_joined, none_twice_parts}
use Rattle.volume_image.proofs.Rising.{rise_front, leaf_rises, IsFirst, first_from_test, rise_from_test, first_tests}

-- ---- steps of a walk

-- a step that went well, and what came after it
pub bind_ok : {A B : Type 0} (r : Result A LoadFault) (f : A → Result B LoadFault) (y : B) → ◌>>=◌ r f ≡ Ok y → (x : A) × (r ≡ Ok x) × (f x ≡ Ok y)
bind_ok (Ok x) f y h = (x, refl, h)
bind_ok (Err fault) f y h = absurd cc

pub block_ok : {A : Type 0} (at : ℕ) (r : Result A BlockFault) (x : A) → at_block at r ≡ Ok x → r ≡ Ok x
block_ok at (Ok y) x h = let same : y ≡ x = same_ok h in ap Ok same
block_ok at (Err fault) x h = absurd cc

-- an address that a walk enters, and what came after
pub entered_ok : {A : Type 0} (blocks : ℕ) (want : Want) (before : Walked) (rest : Result A LoadFault) (x : A) → entered blocks want before rest ≡ Ok x
    → IsAllowed blocks want.at.0 × (Contains before.reached want.at.0 → ⊥) × (want.level ≤ 7) × (rest ≡ Ok x)
entered_ok blocks want before rest x h =
    let allowed = passed _ _ _ _ h in
    let fresh = found_none _ _ _ _ allowed.1 in
    let low = found_none _ _ _ _ fresh.1 in
    (IsAllowed-from_test blocks want.at.0 allowed.0, not_reached want.at.0 before.reached fresh.0, ltb-false 7 want.level low.0, low.1)

pub enters : {A : Type 0} (blocks : ℕ) (want : Want) (before : Walked) (rest : Result A LoadFault) → IsAllowed blocks want.at.0 → (Contains before.reached want.at.0 → ⊥) → want.level ≤ 7
    → entered blocks want before rest ≡ rest
enters blocks want before rest allowed fresh low =
    passes _ _ _ (is_allowed-true blocks want.at.0 allowed) ∙ finds_none _ _ _ (not_in want.at.0 before.reached fresh) ∙ finds_none _ _ _ (le-ltb 7 want.level low)

full_and_first_ok : {A : Type 0} (want : Want) (least count : ℕ) (under : Option Key) (before : List Item) (first : Option Key) (rest : Result A LoadFault) (x : A)
    → is_full_and_first want least count under before first rest ≡ Ok x → (least ≤ count) × (is_first_key under before first ≡ true) × (rest ≡ Ok x)
full_and_first_ok want least count under before first rest x h =
    let full = found_none _ _ _ _ h in
    let right = passed _ _ _ _ full.1 in
    (ltb-false count least full.0, right.0, right.1)

is_full : {A : Type 0} (want : Want) (least count : ℕ) (under : Option Key) (before : List Item) (first : Option Key) (rest : Result A LoadFault) → least ≤ count → is_first_key under before first ≡ true
    → is_full_and_first want least count under before first rest ≡ rest
is_full want least count under before first rest full right = finds_none _ _ _ (le-ltb count least full) ∙ passes _ _ _ right

-- ---- what a walk adds

-- what is after a walk is what was before with a tree of this shape behind it
pub record Adds (Shape : List Item → List ℕ → Type 0) (before after : Walked) : Type 0 where
  pub items : List Item
  pub reach : List ℕ
  pub shape : Shape items reach
  pub rise : ItemsRise (before.items ++ items)
  pub once : NoneTwice reach
  pub apart : AreApart before.reached reach
  pub met : after ≡ record { items = before.items ++ items; reached = before.reached ++ reach }

children_forward : (child : Pointer → Walked → Result Walked LoadFault) (C : Pointer → List Item → List ℕ → Type 0)
    → ((pointer : Pointer) (before after : Walked) → child pointer before ≡ Ok after → ItemsRise before.items → Adds (C pointer) before after)
    → (pointers : List Pointer) (before after : Walked) → walk_children child pointers before ≡ Ok after → ItemsRise before.items → Adds (AreChildren C pointers) before after
children_forward child C step [] before after h rise = record {
  items = [];
  reach = [];
  shape = (refl, refl);
  rise = rw append-nil rise;
  once = tt;
  apart = λ at c d. in_nothing at d;
  met = sym (same_ok h) ∙ (λ i. record { items = sym (append-nil before.items) i; reached = sym (append-nil before.reached) i });
}
children_forward child C step (pointer ∷ pointers) before after h rise =
    let bound = bind_ok (child pointer before) (walk_children child pointers) after h in
    let mid = bound.0 in
    let one = step pointer before mid bound.1 rise in
    let items : mid.items ≡ before.items ++ one.items = ap (λ (w : Walked). w.items) one.met in
    let reached : mid.reached ≡ before.reached ++ one.reach = ap (λ (w : Walked). w.reached) one.met in
    let rest = children_forward child C step pointers mid after bound.2 (rw items one.rise) in
    let all_items : mid.items ++ rest.items ≡ before.items ++ (one.items ++ rest.items) = ap (λ (xs : List Item). xs ++ rest.items) items ∙ append_assoc before.items one.items rest.items in
    let all_reached : mid.reached ++ rest.reach ≡ before.reached ++ (one.reach ++ rest.reach) = ap (λ (xs : List ℕ). xs ++ rest.reach) reached ∙ append_assoc before.reached one.reach rest.reach in
    record {
      items = one.items ++ rest.items;
      reach = one.reach ++ rest.reach;
      shape = (one.items, rest.items, one.reach, rest.reach, one.shape, rest.shape, refl, refl);
      rise = subst ItemsRise all_items rest.rise;
      once = none_twice_joined one.reach rest.reach one.once rest.once
          (λ at c d. rest.apart at (subst (λ (xs : List ℕ). Contains xs at) (sym reached) (Contains-append_right before.reached one.reach at c)) d);
      apart = λ at c d. elim (Contains-append_cases one.reach rest.reach at d) [
        | inl near ↦ one.apart at c near
        | inr far ↦ rest.apart at (subst (λ (xs : List ℕ). Contains xs at) (sym reached) (Contains-append_left before.reached one.reach at c)) far
      ];
      met = rest.met ∙ (λ i. record { items = all_items i; reached = all_reached i });
    }

children_back : (child : Pointer → Walked → Result Walked LoadFault) (C : Pointer → List Item → List ℕ → Type 0)
    → ((pointer : Pointer) (before after : Walked) → Adds (C pointer) before after → child pointer before ≡ Ok after)
    → (pointers : List Pointer) (before after : Walked) (items : List Item) (reach : List ℕ) → AreChildren C pointers items reach → ItemsRise (before.items ++ items) → NoneTwice reach → AreApart before.reached reach
    → after ≡ record { items = before.items ++ items; reached = before.reached ++ reach } → walk_children child pointers before ≡ Ok after
children_back child C step [] before after items reach shape rise once apart met =
    ap Ok (sym (met ∙ (λ i. record { items = (ap (λ (xs : List Item). before.items ++ xs) shape.0 ∙ append-nil before.items) i; reached = (ap (λ (xs : List ℕ). before.reached ++ xs) shape.1 ∙ append-nil before.reached) i })))
children_back child C step (pointer ∷ pointers) before after items reach (part, rest, near, far, here, there, is_items, is_reach) rise once apart met =
    let mid : Walked = record { items = before.items ++ part; reached = before.reached ++ near } in
    let all_items : before.items ++ items ≡ (before.items ++ part) ++ rest = ap (λ (xs : List Item). before.items ++ xs) is_items ∙ sym (append_assoc before.items part rest) in
    let all_reached : before.reached ++ reach ≡ (before.reached ++ near) ++ far = ap (λ (xs : List ℕ). before.reached ++ xs) is_reach ∙ sym (append_assoc before.reached near far) in
    let all_rise = subst ItemsRise all_items rise in
    let parts = none_twice_parts near far (subst NoneTwice is_reach once) in
    let all_apart = subst (AreApart before.reached) is_reach apart in
    let first = step pointer before mid (record { items = part; reach = near; shape = here; rise = rise_front (before.items ++ part) rest all_rise; once = parts.0; apart = λ at c d. all_apart at c (Contains-append_left near far at d); met = refl }) in
    let others = children_back child C step pointers mid after rest far there all_rise parts.1
    (λ at c d. elim (Contains-append_cases before.reached near at c) [
      | inl old ↦ all_apart at old (Contains-append_right near far at d)
      | inr new ↦ parts.2 at new d
    ])
    (met ∙ (λ i. record { items = all_items i; reached = all_reached i })) in
    ap (λ (r : Result Walked LoadFault). ◌>>=◌ r (walk_children child pointers)) first ∙ others

-- ---- the walk

first_of : (part rest : List Item) (key : Key) → first_key part ≡ Some key → first_key (part ++ rest) ≡ Some key
first_of [] rest key h = absurd cc
first_of (item ∷ part) rest key h = h

-- the first key below a node is its first pointer's
children_first : (Tree : Pointer → List Item → List ℕ → Type 0) (pointers : List Pointer) (items : List Item) (reach : List ℕ)
    → AreChildren (λ pointer part near. Tree pointer part near × (first_key part ≡ Some pointer.key)) pointers items reach → 1 ≤ length pointers → first_key items ≡ first_pointer_key pointers
children_first Tree [] items reach shape some = absurd (omega arith)
children_first Tree (pointer ∷ pointers) items reach (part, rest, near, far, here, there, is_items, is_reach) some = ap first_key is_items ∙ first_of part rest pointer.key here.1

only_this : (at x : ℕ) (reached : List ℕ) → (Contains reached at → ⊥) → Contains reached x → Contains (at ∷ []) x → ⊥
only_this at x reached fresh c d = elim (in_cons at x [] d) [
  | inl here ↦ fresh (rw here c)
  | inr none ↦ in_nothing x none
]

-- a tree below a pointer with this key, if there is one
abbrev pub Under : ℕ → Image → ℕ → Option Key → Want → List Item → List ℕ → Type 0
Under level image blocks under want items reach = IsSubtree level image blocks (is_top under) want items reach × IsFirst under items

pub walk_forward : (level : ℕ) (image : Image) (blocks : ℕ) (under : Option Key) (want : Want) (before after : Walked)
    → walk_from level image blocks under want before ≡ Ok after → ItemsRise before.items → (under ≡ None → before.items ≡ []) → Adds (Under level image blocks under want) before after
walk_forward zero image blocks under want before after h rise top =
    let e = entered_ok blocks want before _ after h in
    let read = bind_ok (at_block want.at.0 (leaf_of want (block_of image want.at.0))) _ after e.3 in
    let leaf = IsLeaf-from_read want (block_of image want.at.0) read.0 (block_ok want.at.0 _ read.0 read.1) in
    let full = full_and_first_ok want (least_items (is_top under)) (length read.0) under before.items (first_key read.0) _ after read.2 in
    record {
      items = read.0;
      reach = want.at.0 ∷ [];
      shape = ((e.0, leaf, full.0, refl), first_from_test under before.items read.0 full.1);
      rise = rise_from_test under before.items read.0 full.1 top rise (leaf_rises want (block_of image want.at.0) read.0 leaf);
      once = ((λ c. in_nothing want.at.0 c), tt);
      apart = λ x c d. only_this want.at.0 x before.reached e.1 c d;
      met = sym (same_ok full.2);
    }
walk_forward (suc level) image blocks under want before after h rise top =
    let e = entered_ok blocks want before _ after h in
    let read = bind_ok (at_block want.at.0 (node_of want (block_of image want.at.0))) _ after e.3 in
    let node = IsNode-from_read want (block_of image want.at.0) read.0 (block_ok want.at.0 _ read.0 read.1) in
    let full = full_and_first_ok want (least_pointers (is_top under)) (length read.0) under before.items (first_pointer_key read.0) _ after read.2 in
    let mid : Walked = record { items = before.items; reached = before.reached ++ want.at.0 ∷ [] } in
    let kids = children_forward (λ pointer met. walk_from level image blocks (Some pointer.key) (child_want want pointer level) met)
    (λ pointer part near. IsSubtree level image blocks false (child_want want pointer level) part near × (first_key part ≡ Some pointer.key))
    (λ pointer b a g r. walk_forward level image blocks (Some pointer.key) (child_want want pointer level) b a g r (λ z. absurd cc))
    read.0 mid after full.2 rise in
    let first = children_first (λ pointer part near. IsSubtree level image blocks false (child_want want pointer level) part near) read.0 kids.items kids.reach kids.shape node.body.least in
    record {
      items = kids.items;
      reach = want.at.0 ∷ kids.reach;
      shape = (
        (read.0, kids.reach, e.0, node, full.0, kids.shape, refl),
        first_from_test under before.items kids.items (subst (λ (key : Option Key). is_first_key under before.items key ≡ true) (sym first) full.1),
      );
      rise = kids.rise;
      once = ((λ c. kids.apart want.at.0 (Contains-append_right before.reached (want.at.0 ∷ []) want.at.0 (head_in want.at.0 [])) c), kids.once);
      apart = λ x c d. elim (in_cons want.at.0 x kids.reach d) [
        | inl here ↦ e.1 (rw here c)
        | inr there ↦ kids.apart x (Contains-append_left before.reached (want.at.0 ∷ []) x c) there
      ];
      met = kids.met ∙ (λ i. record { items = before.items ++ kids.items; reached = append_assoc before.reached (want.at.0 ∷ []) kids.reach i });
    }

pub walk_back : (level : ℕ) (image : Image) (blocks : ℕ) (under : Option Key) (want : Want) (before after : Walked) (items : List Item) (reach : List ℕ) → want.level ≤ 7 → level ≤ 7
    → IsSubtree level image blocks (is_top under) want items reach → IsFirst under items → ItemsRise (before.items ++ items) → NoneTwice reach → AreApart before.reached reach
    → after ≡ record { items = before.items ++ items; reached = before.reached ++ reach } → walk_from level image blocks under want before ≡ Ok after
walk_back zero image blocks under want before after items reach low deep (allowed, leaf, least, is_reach) first rise once apart met =
    let fresh = λ (c : Contains before.reached want.at.0). apart want.at.0 c (rw is_reach (head_in want.at.0 [])) in
    enters blocks want before _ allowed fresh low
    ∙ ap (λ (r : Result (List Item) BlockFault). ◌>>=◌ (at_block want.at.0 r) (λ (found : List Item). is_full_and_first want (least_items (is_top under)) (length found) under before.items (first_key found)
    (Ok (record { items = before.items ++ found; reached = before.reached ++ want.at.0 ∷ [] })))) (leaf_of-Ok want (block_of image want.at.0) items leaf)
    ∙ is_full want (least_items (is_top under)) (length items) under before.items (first_key items) _ least (first_tests under before.items items first rise)
    ∙ ap Ok (sym (met ∙ (λ i. record { items = before.items ++ items; reached = ap (λ (xs : List ℕ). before.reached ++ xs) is_reach i })))
walk_back (suc level) image blocks under want before after items reach low deep (pointers, below, allowed, node, least, children, is_reach) first rise once apart met =
    let all_once = subst NoneTwice is_reach once in
    let all_apart = subst (AreApart before.reached) is_reach apart in
    let fresh = λ (c : Contains before.reached want.at.0). all_apart want.at.0 c (head_in want.at.0 below) in
    let mid : Walked = record { items = before.items; reached = before.reached ++ want.at.0 ∷ [] } in
    let child = λ (pointer : Pointer) (met : Walked). walk_from level image blocks (Some pointer.key) (child_want want pointer level) met in
    let one = children_first (λ pointer part near. IsSubtree level image blocks false (child_want want pointer level) part near) pointers items below children node.body.least in
    let kids = children_back child (λ pointer part near. IsSubtree level image blocks false (child_want want pointer level) part near × (first_key part ≡ Some pointer.key))
    (λ pointer b a g. walk_back level image blocks (Some pointer.key) (child_want want pointer level) b a g.items g.reach (omega arith) (omega arith) g.shape.0 g.shape.1 g.rise g.once g.apart g.met)
    pointers mid after items below children rise all_once.1
    (λ x c d. elim (Contains-append_cases before.reached (want.at.0 ∷ []) x c) [
      | inl old ↦ all_apart x old (tail_in want.at.0 x below d)
      | inr new ↦ only_this_again want.at.0 x below all_once.0 new d
    ])
    (met ∙ (λ i. record { items = before.items ++ items; reached = (ap (λ (xs : List ℕ). before.reached ++ xs) is_reach ∙ sym (append_assoc before.reached (want.at.0 ∷ []) below)) i })) in
    enters blocks want before _ allowed fresh low
    ∙ ap (λ (r : Result (List Pointer) BlockFault). ◌>>=◌ (at_block want.at.0 r) (λ (found : List Pointer). is_full_and_first want (least_pointers (is_top under)) (length found) under before.items (first_pointer_key found)
    (walk_children child found mid))) (node_of-Ok want (block_of image want.at.0) pointers node)
    ∙ is_full want (least_pointers (is_top under)) (length pointers) under before.items (first_pointer_key pointers) _ least
    (subst (λ (key : Option Key). is_first_key under before.items key ≡ true) one (first_tests under before.items items first rise))
    ∙ kids
  where
    only_this_again : (at x : ℕ) (others : List ℕ) → (Contains others at → ⊥) → Contains (at ∷ []) x → Contains others x → ⊥
    only_this_again at x others fresh c d = only_this at x others fresh d c

-- what was walked after what was reached before
pub walked_lem : (image : Image) (blocks : ℕ) (want : Want) (before : List ℕ) (walked : Walked) → (tree_of image blocks want before ≡ Ok walked) ↔ HasWalked image blocks want before walked
unfolding tree_of
walked_lem image blocks want before walked = (forward, back)
  where
    forward : walk_from want.level image blocks None want (nothing_walked before) ≡ Ok walked → HasWalked image blocks want before walked
    forward h =
        let adds = walk_forward want.level image blocks None want (nothing_walked before) walked h tt (λ z. refl) in
        let low = entered_low want.level h in
        let items : walked.items ≡ adds.items = ap (λ (w : Walked). w.items) adds.met in
        record {
          reach = adds.reach;
          tree = subst (λ (xs : List Item). IsTree image blocks want xs adds.reach) (sym items) (record { low = low; shape = adds.shape.0; order = adds.rise; once = adds.once });
          apart = adds.apart;
          reached = ap (λ (w : Walked). w.reached) adds.met;
        }
      where
        entered_low : (level : ℕ) → walk_from level image blocks None want (nothing_walked before) ≡ Ok walked → want.level ≤ 7
        entered_low zero h = (entered_ok blocks want (nothing_walked before) _ walked h).2
        entered_low (suc level) h = (entered_ok blocks want (nothing_walked before) _ walked h).2

    back : HasWalked image blocks want before walked → walk_from want.level image blocks None want (nothing_walked before) ≡ Ok walked
    back h =
        walk_back want.level image blocks None want (nothing_walked before) walked walked.items h.reach h.tree.low h.tree.low h.tree.shape tt h.tree.order h.tree.once h.apart
        (λ i. record { items = walked.items; reached = h.reached i })

-- the same where nothing was reached before
pub walked_alone : (image : Image) (blocks : ℕ) (want : Want) (walked : Walked) → (tree_of image blocks want [] ≡ Ok walked) ↔ IsTree image blocks want walked.items walked.reached
walked_alone image blocks want walked =
    let both = walked_lem image blocks want [] walked in
    ((λ h. let w = both.0 h in subst (IsTree image blocks want walked.items) (sym w.reached) w.tree), (λ t. both.1 (record { reach = walked.reached; tree = t; apart = λ at c d. in_nothing at c; reached = refl })))
