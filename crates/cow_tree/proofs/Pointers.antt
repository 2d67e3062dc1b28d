-- Lists of keys and of pointers in which a few stand in place of one.
use Rattle.std.proofs.Common.{◌≡◌, ◌≤◌, ◌<◌, ◌+◌, ℕ, zero, suc, true, List, [], ◌∷◌, ◌++◌, length, take, drop, refl, ap, ◌∙◌, sym, subst, arith, append_assoc, length-append}
use Rattle.std.specs.Prelude.{All, insert}
use Rattle.std.proofs.lemmas.List.Elements.{All-nil, All-cons, All-head, All-weaker}
use Rattle.std.proofs.Math.Seq.{take-append_seam, drop-append_seam}
use Rattle.blk_base.specs.declared.key.Key.{Key}
use Rattle.blk_base.specs.Keys.{KeyBelow, keys_rise}
use Rattle.blk_base.specs.Leaf.{Pointer}
use Rattle.leaf_view.specs.KeyOrder.{KeyBelow_trans}
use Rattle.leaf_view.specs.Search.{IsPlace, pointer_keys}
use Rattle.leaf_edit.specs.Rises.{rise_head, rise_tail, rise_cons}
use Rattle.tree_blocks.proofs.Orders.{pointer_keys-append}
use Rattle.cow_tree.specs.Pieces.{spliced}
use Rattle.cow_tree.proofs.Items.{place_keys}

-- ---- keys that rise

pub rise_without : (xs : List Key) (y : Key) (ys : List Key) → keys_rise (xs ++ y ∷ ys) ≡ true → keys_rise (xs ++ ys) ≡ true
rise_without [] y ys h = rise_tail y ys h
rise_without (x ∷ []) y [] h = refl
rise_without (x ∷ []) y (z ∷ zs) h =
    let rest = rise_tail x (y ∷ z ∷ zs) h in
    rise_cons x z zs (KeyBelow_trans x y z (rise_head x y (z ∷ zs) h) (rise_head y z zs rest)) (rise_tail y (z ∷ zs) rest)
rise_without (x ∷ x2 ∷ xs) y ys h =
    rise_cons x x2 (xs ++ ys) (rise_head x x2 (xs ++ y ∷ ys) h) (rise_without (x2 ∷ xs) y ys (rise_tail x (x2 ∷ (xs ++ y ∷ ys)) h))

pub rise_left : (xs ys : List Key) → keys_rise (xs ++ ys) ≡ true → keys_rise xs ≡ true
rise_left [] ys h = refl
rise_left (x ∷ []) ys h = refl
rise_left (x ∷ y ∷ xs) ys h = rise_cons x y xs (rise_head x y (xs ++ ys) h) (rise_left (y ∷ xs) ys (rise_tail x (y ∷ (xs ++ ys)) h))

pub rise_right : (xs ys : List Key) → keys_rise (xs ++ ys) ≡ true → keys_rise ys ≡ true
rise_right [] ys h = h
rise_right (x ∷ xs) ys h = rise_right xs ys (rise_tail x (xs ++ ys) h)

rise_above : (k : Key) (ys : List Key) → keys_rise (k ∷ ys) ≡ true → All (λ y. KeyBelow k y) ys
rise_above k [] h = All-nil (λ y. KeyBelow k y)
rise_above k (y ∷ ys) h =
    let first = rise_head k y ys h in
    All-cons (λ z. KeyBelow k z) y ys first (All-weaker (λ z. KeyBelow y z) (λ z. KeyBelow k z) (λ z m. KeyBelow_trans k y z first m) ys (rise_above y ys (rise_tail k (y ∷ ys) h)))

rise_below : (xs : List Key) (k : Key) (ys : List Key) → keys_rise (xs ++ k ∷ ys) ≡ true → All (λ x. KeyBelow x k) xs
rise_below [] k ys h = All-nil (λ x. KeyBelow x k)
rise_below (x ∷ []) k ys h = All-cons (λ z. KeyBelow z k) x [] (rise_head x k ys h) (All-nil (λ z. KeyBelow z k))
rise_below (x ∷ y ∷ xs) k ys h =
    let rest = rise_below (y ∷ xs) k ys (rise_tail x (y ∷ (xs ++ k ∷ ys)) h) in
    All-cons (λ z. KeyBelow z k) x (y ∷ xs) (KeyBelow_trans x y k (rise_head x y (xs ++ k ∷ ys) h) (All-head (λ z. KeyBelow z k) y xs rest)) rest

-- ---- places in a node

pub insert_cut : {A : Type 0} (l r : List A) (x : A) (n : ℕ) → length l ≡ n → insert (l ++ r) n x ≡ l ++ x ∷ r
insert_cut {A = A} l r x n long =
    let there = ap (λ (front : List A). front ++ x ∷ drop (length l) (l ++ r)) (take-append_seam l r) ∙ ap (λ (back : List A). l ++ x ∷ back) (drop-append_seam l r) in
    subst (λ (m : ℕ). insert (l ++ r) m x ≡ l ++ x ∷ r) long there

pub length_pointer_keys : (pointers : List Pointer) → length (pointer_keys pointers) ≡ length pointers
length_pointer_keys [] = refl
length_pointer_keys (p ∷ ps) = ap (λ n. suc n) (length_pointer_keys ps)

-- a pointer's place where the keys rise with it
pub pointer_place : (l r : List Pointer) (p : Pointer) (n : ℕ) → length l ≡ n → keys_rise (pointer_keys (l ++ p ∷ r)) ≡ true → IsPlace (pointer_keys (l ++ r)) p.key n
pointer_place l r p n long rise =
    let h : keys_rise (pointer_keys l ++ p.key ∷ pointer_keys r) ≡ true = subst (λ (ks : List Key). keys_rise ks ≡ true) (pointer_keys-append l (p ∷ r)) rise in
    let made : IsPlace (pointer_keys l ++ pointer_keys r) p.key (length (pointer_keys l)) = place_keys (pointer_keys l) (pointer_keys r) p.key (rise_below (pointer_keys l) p.key (pointer_keys r) h) (rise_above p.key (pointer_keys r) (rise_right (pointer_keys l) (p.key ∷ pointer_keys r) h)) in
    subst (λ (ks : List Key). IsPlace ks p.key n) (sym (pointer_keys-append l r)) (subst (λ (m : ℕ). IsPlace (pointer_keys l ++ pointer_keys r) p.key m) (length_pointer_keys l ∙ long) made)

-- the same for an insert at a place
pub take_drop : {A : Type 0} (n : ℕ) (xs : List A) → take n xs ++ drop n xs ≡ xs
take_drop zero xs = refl
take_drop (suc n) [] = refl
take_drop (suc n) (x ∷ xs) = ap (λ ys. x ∷ ys) (take_drop n xs)

pub length_front : {A : Type 0} (n : ℕ) (xs : List A) → n ≤ length xs → length (take n xs) ≡ n
length_front zero xs h = refl
length_front (suc n) [] h = absurd (omega (arith, h))
length_front (suc n) (x ∷ xs) h = ap (λ m. suc m) (length_front n xs (omega (arith, h)))

pub insert_place : (pointers : List Pointer) (p : Pointer) (n : ℕ) → n ≤ length pointers → keys_rise (pointer_keys (insert pointers n p)) ≡ true → IsPlace (pointer_keys pointers) p.key n
insert_place pointers p n within rise =
    subst (λ (ps : List Pointer). IsPlace (pointer_keys ps) p.key n) (take_drop n pointers) (pointer_place (take n pointers) (drop n pointers) p n (length_front n pointers within) rise)

-- one pointer of a few that stand together may be left out
pub rise_but_one : (l : List Pointer) (p : Pointer) (r : List Pointer) → keys_rise (pointer_keys (l ++ p ∷ r)) ≡ true → keys_rise (pointer_keys (l ++ r)) ≡ true
rise_but_one l p r rise =
    let h : keys_rise (pointer_keys l ++ p.key ∷ pointer_keys r) ≡ true = subst (λ (ks : List Key). keys_rise ks ≡ true) (pointer_keys-append l (p ∷ r)) rise in
    subst (λ (ks : List Key). keys_rise ks ≡ true) (sym (pointer_keys-append l r)) (rise_without (pointer_keys l) p.key (pointer_keys r) h)

pub pointers_left : (l r : List Pointer) → keys_rise (pointer_keys (l ++ r)) ≡ true → keys_rise (pointer_keys l) ≡ true
pointers_left l r h = rise_left (pointer_keys l) (pointer_keys r) (subst (λ (ks : List Key). keys_rise ks ≡ true) (pointer_keys-append l r) h)

pub pointers_right : (l r : List Pointer) → keys_rise (pointer_keys (l ++ r)) ≡ true → keys_rise (pointer_keys r) ≡ true
pointers_right l r h = rise_right (pointer_keys l) (pointer_keys r) (subst (λ (ks : List Key). keys_rise ks ≡ true) (pointer_keys-append l r) h)

-- ---- a few pointers in place of one

-- in the front one of two lists
pub spliced_left : (l r : List Pointer) (place : ℕ) (qs : List Pointer) → place < length l → spliced (l ++ r) place qs ≡ spliced l place qs ++ r
spliced_left [] r place qs h = absurd (omega (arith, h))
spliced_left (p ∷ ps) r zero qs h = sym (append_assoc qs ps r)
spliced_left (p ∷ ps) r (suc place) qs h = ap (λ (l : List Pointer). p ∷ l) (spliced_left ps r place qs (omega (arith, h)))

-- in the back one
pub spliced_right : (l r : List Pointer) (place k : ℕ) (qs : List Pointer) → place ≡ length l + k → spliced (l ++ r) place qs ≡ l ++ spliced r k qs
spliced_right [] r place k qs e = let same : place ≡ k = omega (arith, e) in ap (λ (i : ℕ). spliced r i qs) same
spliced_right (p ∷ ps) r zero k qs e = absurd (omega (arith, e))
spliced_right (p ∷ ps) r (suc place) k qs e = ap (λ (l : List Pointer). p ∷ l) (spliced_right ps r place k qs (omega (arith, e)))

pub length_spliced : (pointers : List Pointer) (place : ℕ) (qs : List Pointer) → place < length pointers → length (spliced pointers place qs) + 1 ≡ length pointers + length qs
length_spliced [] place qs h = absurd (omega (arith, h))
length_spliced (p ∷ ps) zero qs h = omega (arith, length-append qs ps)
length_spliced (p ∷ ps) (suc place) qs h = omega (arith, length_spliced ps place qs (omega (arith, h)))

spliced_here : (l : List Pointer) (p : Pointer) (r qs : List Pointer) → spliced (l ++ p ∷ r) (length l) qs ≡ l ++ (qs ++ r)
spliced_here [] p r qs = refl
spliced_here (x ∷ l) p r qs = ap (λ (ps : List Pointer). x ∷ ps) (spliced_here l p r qs)

-- a cut shows the list around its pointer
pub spliced_cut : (pointers l : List Pointer) (p : Pointer) (r qs : List Pointer) (place : ℕ) → pointers ≡ l ++ p ∷ r → length l ≡ place → spliced pointers place qs ≡ l ++ (qs ++ r)
spliced_cut pointers l p r qs place cut long =
    let shown : spliced (l ++ p ∷ r) (length l) qs ≡ l ++ (qs ++ r) = spliced_here l p r qs in
    ap (λ (ps : List Pointer). spliced ps place qs) cut ∙ ap (λ (n : ℕ). spliced (l ++ p ∷ r) n qs) (sym long) ∙ shown
