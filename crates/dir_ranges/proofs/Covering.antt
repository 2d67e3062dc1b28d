-- Whether a range covers an index is told by the items of the directory's ranges that begin there or before.
use Rattle.std.proofs.Common.{◌≡◌, ℕ, Bool, true, false, cond, not, ◌&&◌, ◌||◌, List, [], ◌∷◌, ◌++◌, filter, nat_eq, nat_le, refl, sym, ap, ap₂, ◌∙◌, arith}
use Rattle.std.specs.List.{flat_map, list_any}
use Rattle.std.proofs.lemmas.Bool.Decides.{nat_tests}
use Rattle.std.proofs.lemmas.Bool.{true≢false, eqb-true, eq-eqb}
use Rattle.blk_base.specs.declared.key.Key.{Key}
use Rattle.blk_base.specs.Items.{range_of}
use Rattle.blk_base.specs.Keys.{dir_log_index, key_below}
use Rattle.blk_base.specs.Leaf.{Item}
use Rattle.logged_volume.specs.FlatLog.{LogRange, is_covered}
use Rattle.log_image.specs.LogItems.{ranges_in, ranges_in_item, read_or}
use Rattle.tree_range.specs.Between.{items_between}
use Rattle.volume_image.specs.Subvolume.{make_key}
use Rattle.dir_ranges.specs.Ranges.{does_reach}

any_append : {X : Type 0} (p : X → Bool) (xs ys : List X) → list_any p (xs ++ ys) ≡ (list_any p xs || list_any p ys)
any_append p [] ys = refl
any_append p (x ∷ xs) ys = go (p x) (any_append p xs ys)
  where
    go : (b : Bool) → list_any p (xs ++ ys) ≡ (list_any p xs || list_any p ys) → (b || list_any p (xs ++ ys)) ≡ ((b || list_any p xs) || list_any p ys)
    go true e = refl
    go false e = e

pub any_narrow : {X Y : Type 0} (f : X → List Y) (p : Y → Bool) (q g h : X → Bool) (xs : List X) → ((x : X) → list_any p (f x) ≡ (g x && (h x && q x)))
    → list_any q (filter h (filter g xs)) ≡ list_any p (flat_map f xs)
any_narrow f p q g h [] each = refl
any_narrow f p q g h (x ∷ xs) each = go (g x) (h x) refl refl (each x) (any_narrow f p q g h xs each) ∙ sym (any_append p (f x) (flat_map f xs))
  where
    go : (a b : Bool) → g x ≡ a → h x ≡ b → list_any p (f x) ≡ (g x && (h x && q x)) → list_any q (filter h (filter g xs)) ≡ list_any p (flat_map f xs)
        → list_any q (filter h (cond (g x) (x ∷ filter g xs) (filter g xs))) ≡ (list_any p (f x) || list_any p (flat_map f xs))
    go true true ga hb e rest =
        ap (λ (z : Bool). list_any q (filter h (cond z (x ∷ filter g xs) (filter g xs)))) ga
        ∙ ap (λ (z : Bool). list_any q (cond z (x ∷ filter h (filter g xs)) (filter h (filter g xs)))) hb
        ∙ ap₂ (λ u v. u || v) (sym (e ∙ ap (λ z. z && (h x && q x)) ga ∙ ap (λ z. z && q x) hb)) rest
    go true false ga hb e rest =
        ap (λ (z : Bool). list_any q (filter h (cond z (x ∷ filter g xs) (filter g xs)))) ga
        ∙ ap (λ (z : Bool). list_any q (cond z (x ∷ filter h (filter g xs)) (filter h (filter g xs)))) hb
        ∙ rest ∙ ap (λ u. u || list_any p (flat_map f xs)) (sym (e ∙ ap (λ z. z && (h x && q x)) ga ∙ ap (λ z. z && q x) hb))
    go false b ga hb e rest =
        ap (λ (z : Bool). list_any q (filter h (cond z (x ∷ filter g xs) (filter g xs)))) ga
        ∙ rest ∙ ap (λ u. u || list_any p (flat_map f xs)) (sym (e ∙ ap (λ z. z && (h x && q x)) ga))

-- ---- ranges

range_here : (o dir offset index : ℕ) (r : Bool) → (not (key_below (make_key o dir_log_index offset) (make_key dir dir_log_index 0)) && (not (key_below (make_key dir dir_log_index index) (make_key o dir_log_index offset)) && r)) ≡ (nat_eq o dir && (nat_le offset index && r))
range_here o dir offset index true = grind (arith, nat_tests)
range_here o dir offset index false = grind (arith, nat_tests)

kind_between : (key : Key) (dir kind index : ℕ) (r : Bool) → (key.kind ≡ kind → ⊥) → (not (key_below key (make_key dir kind 0)) && (not (key_below (make_key dir kind index) key) && r)) ≡ false
kind_between key dir kind index r other = grind (arith, nat_tests)

or_false : (b : Bool) → (b || false) ≡ b
or_false true = refl
or_false false = refl

range_each : (dir index : ℕ) (item : Item) → list_any (λ (range : LogRange). nat_eq range.dir dir && (nat_le range.first index && nat_le index range.last)) (ranges_in_item item)
    ≡ (not (key_below item.0 (make_key dir dir_log_index 0)) && (not (key_below (make_key dir dir_log_index index) item.0) && does_reach index item.1))
range_each dir index item = go (nat_eq item.0.kind dir_log_index) refl
  where
    go : (b : Bool) → nat_eq item.0.kind dir_log_index ≡ b → list_any (λ (range : LogRange). nat_eq range.dir dir && (nat_le range.first index && nat_le index range.last)) (ranges_in_item item)
        ≡ (not (key_below item.0 (make_key dir dir_log_index 0)) && (not (key_below (make_key dir dir_log_index index) item.0) && does_reach index item.1))
    go true e =
        let key : item.0 ≡ make_key item.0.objectid dir_log_index item.0.offset = λ k. record { objectid = item.0.objectid; kind = eqb-true item.0.kind dir_log_index e k; offset = item.0.offset } in
        ap (λ (z : Bool). list_any (λ (range : LogRange). nat_eq range.dir dir && (nat_le range.first index && nat_le index range.last)) (cond z (record { dir = item.0.objectid; first = item.0.offset; last = read_or 0 (range_of item.1) } ∷ []) [])) e
        ∙ or_false (nat_eq item.0.objectid dir && (nat_le item.0.offset index && does_reach index item.1))
        ∙ sym (range_here item.0.objectid dir item.0.offset index (does_reach index item.1))
        ∙ ap (λ (z : Key). not (key_below z (make_key dir dir_log_index 0)) && (not (key_below (make_key dir dir_log_index index) z) && does_reach index item.1)) (sym key)
    go false e =
        ap (λ (z : Bool). list_any (λ (range : LogRange). nat_eq range.dir dir && (nat_le range.first index && nat_le index range.last)) (cond z (record { dir = item.0.objectid; first = item.0.offset; last = read_or 0 (range_of item.1) } ∷ []) [])) e
        ∙ sym (kind_between item.0 dir dir_log_index index (does_reach index item.1) (λ same. true≢false (sym (eq-eqb item.0.kind dir_log_index same) ∙ e)))

pub covered_between : (dir index : ℕ) (items : List Item) → list_any (λ (item : Item). does_reach index item.1) (items_between (make_key dir dir_log_index 0) (make_key dir dir_log_index index) items) ≡ is_covered (ranges_in items) dir index
covered_between dir index items =
    any_narrow ranges_in_item (λ (range : LogRange). nat_eq range.dir dir && (nat_le range.first index && nat_le index range.last)) (λ (item : Item). does_reach index item.1)
    (λ (item : Item). not (key_below item.0 (make_key dir dir_log_index 0))) (λ (item : Item). not (key_below (make_key dir dir_log_index index) item.0)) items (range_each dir index)
