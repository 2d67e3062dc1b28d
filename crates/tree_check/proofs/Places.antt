-- Lists from a place on and up to one, and children of a node.
use Rattle.std.proofs.Common.{◌≡◌, ◌≤◌, ◌<◌, ◌+◌, ◌-◌, ℕ, zero, suc, Bool, List, [], ◌∷◌, ◌++◌, length, take, drop, slice_get, Some, Result, Ok, Err, refl, ap, subst, ◌∙◌, arith}
use Rattle.std.specs.Prelude.{OnOk}
use Rattle.std.specs.List.{flat_map}
use Rattle.blk_base.specs.Leaf.{Pointer, leaf_body_of, node_body_of}
use Rattle.block_table.specs.Table.{Table}
use Rattle.block_table.specs.TreeIn.{block_at}
use Rattle.leaf_view.specs.Search.{children_of}
use Rattle.tree_range.specs.Shape.{IsSubtree, leaf_items, node_pointers}
use Rattle.tree_range.proofs.Bodies.{leaf_body_is, node_pointers_are}
use Rattle.tree_range.proofs.Children.{child_of}
use Rattle.tree_range.proofs.Cuts.{drop_here, mapped_at}

pub from_here : {A : Type 0} (xs : List A) (place : ℕ) (x : A) → slice_get xs place ≡ Some x → drop place xs ≡ x ∷ drop (place + 1) xs
from_here xs place x is = drop_here xs place x is ∙ (let one : suc place ≡ place + 1 = omega arith in ap (λ n. x ∷ drop n xs) one)

pub none_from : {A : Type 0} (xs : List A) (place : ℕ) → length xs ≤ place → drop place xs ≡ []
none_from [] zero past = refl
none_from [] (suc place) past = refl
none_from (x ∷ xs) zero past = absurd (omega arith)
none_from (x ∷ xs) (suc place) past = none_from xs place (omega arith)

-- ---- up to a place

take_next : {A : Type 0} (xs : List A) (place : ℕ) (x : A) → slice_get xs place ≡ Some x → take (suc place) xs ≡ take place xs ++ x ∷ []
take_next [] place x h = absurd cc
take_next (y ∷ ys) zero x h = let same : y ≡ x = cc in ap (λ z. z ∷ []) same
take_next (y ∷ ys) (suc place) x h = ap (λ l. y ∷ l) (take_next ys place x h)

-- one more
pub to_here : {A : Type 0} (xs : List A) (place : ℕ) (x : A) → slice_get xs place ≡ Some x → take (place + 1) xs ≡ take place xs ++ x ∷ []
to_here xs place x is = (let one : place + 1 ≡ suc place = omega arith in ap (λ n. take n xs) one) ∙ take_next xs place x is

pub to_end : {A : Type 0} (xs : List A) (place : ℕ) → length xs ≤ place → take place xs ≡ xs
to_end [] zero past = refl
to_end [] (suc place) past = refl
to_end (x ∷ xs) zero past = absurd (omega arith)
to_end (x ∷ xs) (suc place) past = ap (λ l. x ∷ l) (to_end xs place (omega arith))

-- ---- children

-- what stands below the children of a node from a place on begins with what stands below the child there
pub from_child : {A : Type 0} (below : ℕ → List A) (pointers : List Pointer) (place child generation : ℕ) → slice_get (children_of pointers) place ≡ Some (child, generation)
    → flat_map (λ (pointer : Pointer). below pointer.at) (drop place pointers) ≡ below child ++ flat_map (λ (pointer : Pointer). below pointer.at) (drop (place + 1) pointers)
from_child below pointers place child generation is =
    let there = mapped_at child_of pointers place (child, generation) is in
    ap (flat_map (λ (pointer : Pointer). below pointer.at)) (from_here pointers place there.element there.at_place)
    ∙ (let at_is : there.element.at ≡ child = ap (λ (pair : ℕ × ℕ). pair.0) there.value_is in ap (λ (at : ℕ). below at ++ flat_map (λ (pointer : Pointer). below pointer.at) (drop (place + 1) pointers)) at_is)

-- the pointers of a block that was read as a node
pub node_is : (table : Table) (at : ℕ) (bytes : List ℕ) (pointers : List Pointer) → bytes ≡ (block_at table at).bytes → node_body_of bytes ≡ Ok pointers → node_pointers table at ≡ pointers
node_is table at bytes pointers bytes_are body = node_pointers_are table at pointers (subst (λ (b : List ℕ). node_body_of b ≡ Ok pointers) bytes_are body)

-- what is so of one level above another is so of a level that isn't the lowest
pub above : (P : ℕ → Type 0) (level : ℕ) → 0 < level → P (suc (level - 1)) → P level
above P level high h = let one : suc (level - 1) ≡ level = omega arith in subst P one h

-- what follows from what holds at Ok
pub on_ok : {T E P Q : Type 0} (r : Result T E) → (P → Q) → OnOk r P → OnOk r Q
on_ok (Ok x) f h = f h
on_ok (Err e) f h = tt

pub always : {T E P : Type 0} (r : Result T E) → P → OnOk r P
always (Ok x) p = p
always (Err e) p = tt

-- the items of a block on the lowest level
pub body_is : (level : ℕ) (table : Table) (is_root : Bool) (at : ℕ) (bytes : List ℕ) → level ≡ 0 → bytes ≡ (block_at table at).bytes → IsSubtree level table is_root at → leaf_body_of bytes ≡ Ok (leaf_items table at)
body_is level table is_root at bytes low bytes_are shape =
    let lowest : IsSubtree 0 table is_root at = subst (λ (n : ℕ). IsSubtree n table is_root at) low shape in
    ap leaf_body_of bytes_are ∙ leaf_body_is table at lowest.1
