-- A walk is Ok exactly where the root has a tree, and then it has met the tree's items and reach.
use Rattle.std.proofs.Common.{◌≡◌, ◌++◌, ◌↔◌, ℕ, zero, suc, false, List, [], ◌∷◌, Contains, Option, Some, None, Result, Ok, Err, refl, sym, ap, subst, ◌∙◌, inl, inr, append-nil, append_assoc}
use Rattle.std.proofs.lemmas.Bool.{ltb-false, le-ltb}
use Rattle.std.proofs.lemmas.List.Elements.{Contains-append_left, Contains-append_right, Contains-append_cases}
use Rattle.blk_base.specs.declared.fault.BlockFault.{BlockFault}
use Rattle.blk_base.specs.Leaf.{Pointer}
use Rattle.blk_base.specs.Trees.{NoneTwice, AreApart}
use Rattle.disk_model.proofs.CrashLaws.{Contains-cons_cases, Contains-none}
use Rattle.format_laws.specs.Checks.{finds_none, found_none, same_ok}
use Rattle.foreign_format.specs.declared.fault.ForeignFault.{ForeignFault}
use Rattle.foreign_format.specs.Answer.{and_then, then_ok}
use Rattle.foreign_format.specs.Block.{check_block}
use Rattle.foreign_format.specs.Chunks.{physical_of}
use Rattle.foreign_tree.specs.declared.volume.Wanted.{Wanted}
use Rattle.foreign_tree.specs.Tree.{VolumeValue, AreChildren, Found, IsBlock, IsSubtree, IsTree, Walked, checked_place, entered, fresh_place, items_of, node_at, nothing_walked, opened, pointers_of, tree_of, walk_children, walk_from, was_reached}
use Rattle.foreign_tree.proofs.Reaches.{head_in, tail_in, none_twice_joined, none_twice_parts, not_in, not_reached}
use Rattle.foreign_tree.proofs.Walking.{child_walk, with_block, with_more}

-- ---- steps of a walk

-- a step that went well, and what came after it
pub and_then_ok : {A B : Type 0} (r : Result A ForeignFault) (f : A → Result B ForeignFault) (y : B) → and_then r f ≡ Ok y → (x : A) × (r ≡ Ok x) × (f x ≡ Ok y)
and_then_ok (Ok x) f y h = (x, refl, h)
and_then_ok (Err fault) f y h = absurd cc

fresh_ok : (place : Option ℕ) (at : ℕ) (reached : List ℕ) (found : ℕ) → fresh_place place at reached ≡ Ok found → (place ≡ Some found) × (was_reached at reached ≡ false)
fresh_ok None at reached found h = absurd cc
fresh_ok (Some place) at reached found h = let out = found_none _ _ _ _ h in (ap Some (same_ok out.1), out.0)

is_fresh : (place : Option ℕ) (at : ℕ) (reached : List ℕ) (found : ℕ) → place ≡ Some found → was_reached at reached ≡ false → fresh_place place at reached ≡ Ok found
is_fresh place at reached found is out = ap (λ (o : Option ℕ). fresh_place o at reached) is ∙ finds_none _ _ _ out

checked_ok : (at place : ℕ) (r : Result (Unit {0}) BlockFault) (found : ℕ) → checked_place at place r ≡ Ok found → (r ≡ Ok tt) × (place ≡ found)
checked_ok at place (Ok _) found h = (refl, same_ok h)
checked_ok at place (Err fault) found h = absurd cc

-- a block that a walk opens
opened_ok : (volume : VolumeValue) (disk : List ℕ) (level at : ℕ) (generation : Option ℕ) (reached : List ℕ) (place : ℕ) → opened volume disk level at generation reached ≡ Ok place
    → IsBlock volume disk level at generation place × (Contains reached at → ⊥)
opened_ok volume disk level at generation reached place h =
    let step = and_then_ok (entered volume at reached) _ place h in
    let here = fresh_ok (physical_of volume.chunks at volume.node_size) at reached step.0 step.1 in
    let right = checked_ok at step.0 (check_block volume.fsid at generation level (node_at volume disk step.0)) place step.2 in
    (record { mapped = here.0 ∙ ap Some right.1; checked = subst (λ (p : ℕ). check_block volume.fsid at generation level (node_at volume disk p) ≡ Ok tt) right.1 right.0 }, not_reached at reached here.1)

opens : (volume : VolumeValue) (disk : List ℕ) (level at : ℕ) (generation : Option ℕ) (reached : List ℕ) (place : ℕ) → IsBlock volume disk level at generation place → (Contains reached at → ⊥)
    → opened volume disk level at generation reached ≡ Ok place
opens volume disk level at generation reached place is out =
    then_ok (entered volume at reached) _ place (is_fresh (physical_of volume.chunks at volume.node_size) at reached place is.mapped (not_in at reached out)) ∙ ap (checked_place at place) is.checked

-- ---- what a walk adds

-- what is after a walk is what was before with a tree of this shape behind it
record Adds (Shape : List Found → List ℕ → Type 0) (before after : Walked) : Type 0 where
  items : List Found
  reach : List ℕ
  shape : Shape items reach
  once : NoneTwice reach
  apart : AreApart before.reached reach
  met : after ≡ with_more before items reach

children_forward : (child : Pointer → Walked → Result Walked ForeignFault) (C : Pointer → List Found → List ℕ → Type 0)
    → ((pointer : Pointer) (before after : Walked) → child pointer before ≡ Ok after → Adds (C pointer) before after)
    → (pointers : List Pointer) (before after : Walked) → walk_children child pointers before ≡ Ok after → Adds (AreChildren C pointers) before after
children_forward child C step [] before after h = record {
  items = [];
  reach = [];
  shape = (refl, refl);
  once = tt;
  apart = λ at c d. Contains-none at d;
  met = sym (same_ok h) ∙ (λ i. record { items = sym (append-nil before.items) i; reached = sym (append-nil before.reached) i });
}
children_forward child C step (pointer ∷ pointers) before after h =
    let bound = and_then_ok (child pointer before) (walk_children child pointers) after h in
    let mid = bound.0 in
    let one = step pointer before mid bound.1 in
    let items : mid.items ≡ before.items ++ one.items = ap (λ (w : Walked). w.items) one.met in
    let reached : mid.reached ≡ before.reached ++ one.reach = ap (λ (w : Walked). w.reached) one.met in
    let rest = children_forward child C step pointers mid after bound.2 in
    let all_items : mid.items ++ rest.items ≡ before.items ++ (one.items ++ rest.items) = ap (λ (xs : List Found). xs ++ rest.items) items ∙ append_assoc before.items one.items rest.items in
    let all_reached : mid.reached ++ rest.reach ≡ before.reached ++ (one.reach ++ rest.reach) = ap (λ (xs : List ℕ). xs ++ rest.reach) reached ∙ append_assoc before.reached one.reach rest.reach in
    record {
      items = one.items ++ rest.items;
      reach = one.reach ++ rest.reach;
      shape = (one.items, rest.items, one.reach, rest.reach, one.shape, rest.shape, refl, refl);
      once = none_twice_joined one.reach rest.reach one.once rest.once
          (λ at c d. rest.apart at (subst (λ (xs : List ℕ). Contains xs at) (sym reached) (Contains-append_right before.reached one.reach at c)) d);
      apart = λ at c d. elim (Contains-append_cases one.reach rest.reach at d) [
        | inl near ↦ one.apart at c near
        | inr far ↦ rest.apart at (subst (λ (xs : List ℕ). Contains xs at) (sym reached) (Contains-append_left before.reached one.reach at c)) far
      ];
      met = rest.met ∙ (λ i. record { items = all_items i; reached = all_reached i });
    }

children_back : (child : Pointer → Walked → Result Walked ForeignFault) (C : Pointer → List Found → List ℕ → Type 0)
    → ((pointer : Pointer) (before : Walked) (items : List Found) (reach : List ℕ) → C pointer items reach → NoneTwice reach → AreApart before.reached reach → child pointer before ≡ Ok (with_more before items reach))
    → (pointers : List Pointer) (before : Walked) (items : List Found) (reach : List ℕ) → AreChildren C pointers items reach → NoneTwice reach → AreApart before.reached reach
    → walk_children child pointers before ≡ Ok (with_more before items reach)
children_back child C step [] before items reach shape once apart =
    ap Ok (sym (λ i. record { items = (ap (λ (xs : List Found). before.items ++ xs) shape.0 ∙ append-nil before.items) i; reached = (ap (λ (xs : List ℕ). before.reached ++ xs) shape.1 ∙ append-nil before.reached) i }))
children_back child C step (pointer ∷ pointers) before items reach (part, rest, near, far, here, there, is_items, is_reach) once apart =
    let mid : Walked = with_more before part near in
    let all_items : before.items ++ items ≡ (before.items ++ part) ++ rest = ap (λ (xs : List Found). before.items ++ xs) is_items ∙ sym (append_assoc before.items part rest) in
    let all_reached : before.reached ++ reach ≡ (before.reached ++ near) ++ far = ap (λ (xs : List ℕ). before.reached ++ xs) is_reach ∙ sym (append_assoc before.reached near far) in
    let parts = none_twice_parts near far (subst NoneTwice is_reach once) in
    let all_apart = subst (AreApart before.reached) is_reach apart in
    let first = step pointer before part near here parts.0 (λ at c d. all_apart at c (Contains-append_left near far at d)) in
    let others = children_back child C step pointers mid rest far there parts.1
    (λ at c d. elim (Contains-append_cases before.reached near at c) [
      | inl old ↦ all_apart at old (Contains-append_right near far at d)
      | inr new ↦ parts.2 at new d
    ]) in
    ap (λ (r : Result Walked ForeignFault). and_then r (walk_children child pointers)) first ∙ others
    ∙ ap Ok (sym (λ i. record { items = all_items i; reached = all_reached i }))

-- ---- the walk

only_this : (at x : ℕ) (reached : List ℕ) → (Contains reached at → ⊥) → Contains reached x → Contains (at ∷ []) x → ⊥
only_this at x reached fresh c d = elim (Contains-cons_cases at [] x d) [
  | inl here ↦ fresh (rw here c)
  | inr none ↦ Contains-none x none
]

walk_forward : (level : ℕ) (volume : VolumeValue) (disk : List ℕ) (at : ℕ) (generation : Option ℕ) (before after : Walked)
    → walk_from level volume disk at generation before ≡ Ok after → Adds (IsSubtree level volume disk at generation) before after
walk_forward zero volume disk at generation before after h =
    let step = and_then_ok (opened volume disk zero at generation before.reached) _ after h in
    let block = opened_ok volume disk zero at generation before.reached step.0 step.1 in
    record {
      items = items_of at step.0 (node_at volume disk step.0);
      reach = at ∷ [];
      shape = (step.0, block.0, refl, refl);
      once = ((λ c. Contains-none at c), tt);
      apart = λ x c d. only_this at x before.reached block.1 c d;
      met = sym (same_ok step.2);
    }
walk_forward (suc level) volume disk at generation before after h =
    let step = and_then_ok (opened volume disk (suc level) at generation before.reached) _ after h in
    let block = opened_ok volume disk (suc level) at generation before.reached step.0 step.1 in
    let kids = children_forward (child_walk level volume disk) (λ pointer part near. IsSubtree level volume disk pointer.at (Some pointer.generation) part near)
    (λ pointer b a r. walk_forward level volume disk pointer.at (Some pointer.generation) b a r)
    (pointers_of (node_at volume disk step.0)) (with_block before at) after step.2 in
    record {
      items = kids.items;
      reach = at ∷ kids.reach;
      shape = (step.0, kids.reach, block.0, kids.shape, refl);
      once = ((λ c. kids.apart at (Contains-append_right before.reached (at ∷ []) at (head_in at [])) c), kids.once);
      apart = λ x c d. elim (Contains-cons_cases at kids.reach x d) [
        | inl here ↦ block.1 (rw here c)
        | inr there ↦ kids.apart x (Contains-append_left before.reached (at ∷ []) x c) there
      ];
      met = kids.met ∙ (λ i. record { items = before.items ++ kids.items; reached = append_assoc before.reached (at ∷ []) kids.reach i });
    }

walk_back : (level : ℕ) (volume : VolumeValue) (disk : List ℕ) (at : ℕ) (generation : Option ℕ) (before : Walked) (items : List Found) (reach : List ℕ)
    → IsSubtree level volume disk at generation items reach → NoneTwice reach → AreApart before.reached reach → walk_from level volume disk at generation before ≡ Ok (with_more before items reach)
walk_back zero volume disk at generation before items reach (place, block, is_items, is_reach) once apart =
    let out = λ (c : Contains before.reached at). apart at c (rw is_reach (head_in at [])) in
    then_ok (opened volume disk zero at generation before.reached) _ place (opens volume disk zero at generation before.reached place block out)
    ∙ ap Ok (λ i. record { items = before.items ++ sym is_items i; reached = before.reached ++ sym is_reach i })
walk_back (suc level) volume disk at generation before items reach (place, under, block, shape, is_reach) once apart =
    let all = subst NoneTwice is_reach once in
    let all_apart = subst (AreApart before.reached) is_reach apart in
    let out = λ (c : Contains before.reached at). all_apart at c (head_in at under) in
    let kids = children_back (child_walk level volume disk) (λ pointer part near. IsSubtree level volume disk pointer.at (Some pointer.generation) part near)
    (λ pointer b part near s o a. walk_back level volume disk pointer.at (Some pointer.generation) b part near s o a)
    (pointers_of (node_at volume disk place)) (with_block before at) items under shape all.1
    (λ x c d. elim (Contains-append_cases before.reached (at ∷ []) x c) [
      | inl old ↦ all_apart x old (tail_in at x under d)
      | inr new ↦ elim (Contains-cons_cases at [] x new) [ inl here ↦ all.0 (rw here d) | inr none ↦ Contains-none x none ]
    ]) in
    then_ok (opened volume disk (suc level) at generation before.reached) _ place (opens volume disk (suc level) at generation before.reached place block out)
    ∙ kids
    ∙ ap Ok (λ i. record { items = before.items ++ items; reached = (append_assoc before.reached (at ∷ []) under ∙ ap (λ (xs : List ℕ). before.reached ++ xs) (sym is_reach)) i })

-- ---- the root

pub tree_is_walked_lem : (volume : VolumeValue) (disk : List ℕ) (root : Wanted) (walked : Walked) → (tree_of volume disk root ≡ Ok walked) ↔ IsTree volume disk root walked.items walked.reached
unfolding tree_of
tree_is_walked_lem volume disk root walked = (
  (λ h.
      let low = found_none _ _ _ _ h in
      let adds = walk_forward root.level volume disk root.at root.generation nothing_walked walked low.1 in
      let items : walked.items ≡ adds.items = ap (λ (w : Walked). w.items) adds.met in
      let reached : walked.reached ≡ adds.reach = ap (λ (w : Walked). w.reached) adds.met in
      record {
        low = ltb-false 7 root.level low.0;
        shape = subst (λ (items : List Found). IsSubtree root.level volume disk root.at root.generation items walked.reached) (sym items)
            (subst (λ (reach : List ℕ). IsSubtree root.level volume disk root.at root.generation adds.items reach) (sym reached) adds.shape);
        once = subst NoneTwice (sym reached) adds.once;
      }),
  λ tree. finds_none _ _ _ (le-ltb 7 root.level tree.low) ∙ walk_back root.level volume disk root.at root.generation nothing_walked walked.items walked.reached tree.shape tree.once (λ at c d. Contains-none at c),
)

-- one tree has one list of items and one reach
pub tree_is_one_lem : (volume : VolumeValue) (disk : List ℕ) (root : Wanted) (one two : List Found) (near far : List ℕ) → IsTree volume disk root one near → IsTree volume disk root two far → (one ≡ two) × (near ≡ far)
tree_is_one_lem volume disk root one two near far x y =
    let same : ◌≡◌ {A = Result Walked ForeignFault} (Ok (with_more nothing_walked one near)) (Ok (with_more nothing_walked two far)) =
    sym ((tree_is_walked_lem volume disk root (with_more nothing_walked one near)).1 x) ∙ (tree_is_walked_lem volume disk root (with_more nothing_walked two far)).1 y in
    let walked = same_ok same in
    (ap (λ (w : Walked). w.items) walked, ap (λ (w : Walked). w.reached) walked)
