-- The items of one type of an inode stand together.
use Rattle.std.proofs.Common.{◌≡◌, ◌≢◌, ◌<◌, ◌≤◌, ◌⊎◌, ◌&&◌, ◌==◌, ℕ, Bool, true, false, not, cond, List, [], ◌∷◌, Contains, filter, refl, sym, ap, ◌∙◌, arith, inl, inr}
use Rattle.std.proofs.lemmas.Bool.{cases_order, false_from_ne_true, eqb-true, eq-eqb}
use Rattle.std.proofs.lemmas.Bool.Decides.{nat_tests}
use Rattle.std.specs.Ordering.{nat_cmp, ordering_then, is_lt}
use Rattle.std.specs.declared.cmp.Ordering.{Ordering}
use Rattle.std.specs.declared.cmp.Ordering.TheVariants.{Less, Equal, Greater}
use Rattle.blk_base.specs.Keys.{key_below}
use Rattle.blk_base.specs.Leaf.{Item}
use Rattle.tree_range.specs.Between.{items_between}
use Rattle.tree_check.specs.Items.{HaveKeys}
use Rattle.volume_image.proofs.Reaches.{head_in, tail_in}
use Rattle.volume_image.specs.Subvolume.{make_key}
use Rattle.coherent_sums.specs.Sums.{is_of}

cmp_less : (a b : ℕ) → a < b → nat_cmp a b ≡ Less
cmp_less a b h = grind (arith, nat_tests)

cmp_same : (a b : ℕ) → a ≡ b → nat_cmp a b ≡ Equal
cmp_same a b h = grind (arith, nat_tests)

cmp_more : (a b : ℕ) → b < a → nat_cmp a b ≡ Greater
cmp_more a b h = grind (arith, nat_tests)

not_less : (o : ℕ) → is_lt (nat_cmp o 0) ≡ false
not_less o = grind (arith, nat_tests)

not_more : (o : ℕ) → o ≤ 18446744073709551615 → is_lt (nat_cmp 18446744073709551615 o) ≡ false
not_more o h = grind (arith, nat_tests)

other : (a b : ℕ) → a ≢ b → (a == b) ≡ false
other a b h = false_from_ne_true (a == b) (λ e. h (eqb-true a b e))

tests : (ino kind a b o : ℕ) (x y z w : Ordering) → nat_cmp a ino ≡ x → nat_cmp ino a ≡ y → nat_cmp b kind ≡ z → nat_cmp kind b ≡ w
    → (not (is_lt (ordering_then (nat_cmp a ino) (ordering_then (nat_cmp b kind) (nat_cmp o 0)))) && not (is_lt (ordering_then (nat_cmp ino a) (ordering_then (nat_cmp kind b) (nat_cmp 18446744073709551615 o)))))
    ≡ (not (is_lt (ordering_then x (ordering_then z (nat_cmp o 0)))) && not (is_lt (ordering_then y (ordering_then w (nat_cmp 18446744073709551615 o)))))
tests ino kind a b o x y z w e f g h = rw (e, f, g, h) refl

between_is : (ino kind a b o : ℕ) → o ≤ 18446744073709551615
    → (not (is_lt (ordering_then (nat_cmp a ino) (ordering_then (nat_cmp b kind) (nat_cmp o 0)))) && not (is_lt (ordering_then (nat_cmp ino a) (ordering_then (nat_cmp kind b) (nat_cmp 18446744073709551615 o))))) ≡ ((b == kind) && (a == ino))
between_is ino kind a b o fits = go (cases_order a ino) (cases_order b kind)
  where
    both_false : (p : Bool) → (p && false) ≡ false
    both_false true = refl
    both_false false = refl

    go : (a ≡ ino) ⊎ ((a < ino) ⊎ (ino < a)) → (b ≡ kind) ⊎ ((b < kind) ⊎ (kind < b))
        → (not (is_lt (ordering_then (nat_cmp a ino) (ordering_then (nat_cmp b kind) (nat_cmp o 0)))) && not (is_lt (ordering_then (nat_cmp ino a) (ordering_then (nat_cmp kind b) (nat_cmp 18446744073709551615 o))))) ≡ ((b == kind) && (a == ino))
    go (inl same) (inl also) =
        tests ino kind a b o Equal Equal Equal Equal (cmp_same a ino same) (cmp_same ino a (sym same)) (cmp_same b kind also) (cmp_same kind b (sym also))
        ∙ ap (λ (p : Bool). not p && not (is_lt (nat_cmp 18446744073709551615 o))) (not_less o) ∙ ap not (not_more o fits)
        ∙ sym (ap (λ (p : Bool). p && (a == ino)) (eq-eqb b kind also) ∙ eq-eqb a ino same)
    go (inl same) (inr (inl less)) =
        tests ino kind a b o Equal Equal Less Greater (cmp_same a ino same) (cmp_same ino a (sym same)) (cmp_less b kind less) (cmp_more kind b less)
        ∙ sym (ap (λ (p : Bool). p && (a == ino)) (other b kind (λ e. omega arith)))
    go (inl same) (inr (inr more)) =
        tests ino kind a b o Equal Equal Greater Less (cmp_same a ino same) (cmp_same ino a (sym same)) (cmp_more b kind more) (cmp_less kind b more)
        ∙ sym (ap (λ (p : Bool). p && (a == ino)) (other b kind (λ e. omega arith)))
    go (inr (inl less)) k =
        tests ino kind a b o Less Greater (nat_cmp b kind) (nat_cmp kind b) (cmp_less a ino less) (cmp_more ino a less) refl refl
        ∙ sym (ap (λ (p : Bool). (b == kind) && p) (other a ino (λ e. omega arith)) ∙ both_false (b == kind))
    go (inr (inr more)) k =
        tests ino kind a b o Greater Less (nat_cmp b kind) (nat_cmp kind b) (cmp_more a ino more) (cmp_less ino a more) refl refl
        ∙ sym (ap (λ (p : Bool). (b == kind) && p) (other a ino (λ e. omega arith)) ∙ both_false (b == kind))

two_filters : (p q r : Item → Bool) (items : List Item) → ((item : Item) → Contains items item → (q item && p item) ≡ r item) → filter p (filter q items) ≡ filter r items
two_filters p q r [] h = refl
two_filters p q r (item ∷ items) h = go (q item) (p item) (r item) refl refl refl (two_filters p q r items (λ other c. h other (tail_in item other items c)))
  where
    first : (q item && p item) ≡ r item
    first = h item (head_in item items)

    kept : (t : Item → Bool) (b : Bool) → t item ≡ b → filter t (item ∷ items) ≡ cond b (item ∷ filter t items) (filter t items)
    kept t b e = ap (λ (x : Bool). cond x (item ∷ filter t items) (filter t items)) e

    kept_in : (b : Bool) → p item ≡ b → filter p (item ∷ filter q items) ≡ cond b (item ∷ filter p (filter q items)) (filter p (filter q items))
    kept_in b e = ap (λ (x : Bool). cond x (item ∷ filter p (filter q items)) (filter p (filter q items))) e

    go : (a b c : Bool) → q item ≡ a → p item ≡ b → r item ≡ c → filter p (filter q items) ≡ filter r items → filter p (filter q (item ∷ items)) ≡ filter r (item ∷ items)
    go true true c e f g rest =
        let is : r item ≡ true = sym first ∙ ap (λ (x : Bool). x && p item) e ∙ f in
        ap (filter p) (kept q true e) ∙ kept_in true f ∙ ap (λ zs. item ∷ zs) rest ∙ sym (kept r true is)
    go true false c e f g rest =
        let is : r item ≡ false = sym first ∙ ap (λ (x : Bool). x && p item) e ∙ f in
        ap (filter p) (kept q true e) ∙ kept_in false f ∙ rest ∙ sym (kept r false is)
    go false b c e f g rest =
        let is : r item ≡ false = sym first ∙ ap (λ (x : Bool). x && p item) e in
        ap (filter p) (kept q false e) ∙ rest ∙ sym (kept r false is)

pub items_are : (items : List Item) (kind ino : ℕ) → HaveKeys items → items_between (make_key ino kind 0) (make_key ino kind 18446744073709551615) items ≡ filter (is_of kind ino) items
items_are items kind ino keys =
    two_filters (λ item. not (key_below (make_key ino kind 18446744073709551615) item.0)) (λ item. not (key_below item.0 (make_key ino kind 0))) (is_of kind ino) items
    (λ item c. let fits = (keys item.0 item.1 c).offset in between_is ino kind item.0.objectid item.0.kind item.0.offset (omega arith))
