-- Lists of entries in the order of their keys, for any total order, and those by the bytes of names.
use Rattle.std.proofs.Common.{◌≡◌, ◌≢◌, ℕ, zero, suc, ◌<◌, ◌≤◌, ◌+◌, Bool, true, false, cond, not, List, [], ◌∷◌, ◌++◌, set, length, get_or, bytes_eq, Some, None, refl, sym, ap, ◌∙◌, arith}
use Rattle.std.specs.declared.cmp.Ordering.{Ordering}
use Rattle.std.specs.declared.cmp.Ordering.TheVariants.{Less, Equal, Greater}
use Rattle.std.specs.Ordering.{nat_cmp, eq_by_cmp, is_eq, is_le}
use Rattle.std.specs.Cmp.{IsTotalOrder, tied_itself, eq_by_cmp_equiv}
use Rattle.std.specs.Cmp.Lexicographic.{slice_cmp, nat_list_cmp_total, texts_ties}
use Rattle.std.specs.List.{position, position_or_len, filter}
use Rattle.std.specs.List as list
use Rattle.std.specs.FinMap.{IsAntisymmetric, get, insert, remove, from_entries, get-from_entries, get-insert, get-remove, same_map, nat_cmp-IsAntisymmetric, slice_cmp-IsAntisymmetric}
use Rattle.std.specs.FinMap.Entries.{find, put, by_order, is_sorted, is_sorted-put, is_sorted-where_key, find-put, find-where_key}
use Rattle.std.proofs.lemmas.Bool.{true≢false}
use Rattle.flat_record.proofs.Tables.{FirstAt, NonePasses, position_first, position_none, is_true, holds}

not_less : Less ≢ Equal
not_less e = true≢false (sym (ap is_eq e))

pub is_equal : (r : Ordering) → is_eq r ≡ true → r ≡ Equal
is_equal Less e = absurd (true≢false (sym e))
is_equal Equal e = refl
is_equal Greater e = absurd (true≢false (sym e))

-- the place at which an entry of a key stands, or would stand
abbrev pub place_by : {K X : Type 0} → (K → K → Ordering) → K → List (K × X) → ℕ
place_by R key es = position_or_len (λ e. is_le (R key e.0)) es

module _ {K X : Type 0} {R : K → K → Ordering} (o : IsTotalOrder R) (same : IsAntisymmetric R) (key : K) (value : X) where
  here : (e : K × X) (es : List (K × X)) → is_le (R key e.0) ≡ true → place_by R key (e ∷ es) ≡ 0
  here e es low = ap (λ b. cond (not b) (1 + place_by R key es) 0) low

  later : (e : K × X) (es : List (K × X)) → is_le (R key e.0) ≡ false → place_by R key (e ∷ es) ≡ 1 + place_by R key es
  later e es high = ap (λ b. cond (not b) (1 + place_by R key es) 0) high

  put_is : (e : K × X) (es : List (K × X)) (r : Ordering) → R key e.0 ≡ r → put R key value (e ∷ es) ≡ by_order r ((key, value) ∷ e ∷ es) ((e.0, value) ∷ es) (e ∷ put R key value es)
  put_is e es r is = ap (λ r. by_order r ((key, value) ∷ e ∷ es) ((e.0, value) ∷ es) (e ∷ put R key value es)) is

  -- in place of the entry of the same key
  pub put_in_place : (es : List (K × X)) (i : ℕ) (d : K × X) → i ≡ place_by R key es → i < length es → (get_or es i d).0 ≡ key → put R key value es ≡ set es i (key, value)
  put_in_place [] i d is below equal = absurd (omega arith)
  put_in_place (e ∷ es) i d is below equal =
      elim (R key e.0) as (λ r. R key e.0 ≡ r → put R key value (e ∷ es) ≡ set (e ∷ es) i (key, value)) [
        | Less ↦ λ p.
            let first : i ≡ 0 = is ∙ here e es (ap is_le p) in
            let head : e.0 ≡ key = sym (ap (λ n. (get_or (e ∷ es) n d).0) first) ∙ equal in
            absurd (not_less (sym p ∙ ap (R key) head ∙ tied_itself o key))
        | Equal ↦ λ p.
            let first : i ≡ 0 = is ∙ here e es (ap is_le p) in
            put_is e es Equal p ∙ ap (λ k. (k, value) ∷ es) (sym (same key e.0 p)) ∙ sym (ap (λ n. set (e ∷ es) n (key, value)) first)
        | Greater ↦ λ p.
            let next : i ≡ suc (place_by R key es) = omega (arith, is, later e es (ap is_le p)) in
            put_is e es Greater p
            ∙ ap (λ l. e ∷ l) (put_in_place es (place_by R key es) d refl (omega (arith, next, below)) (sym (ap (λ n. (get_or (e ∷ es) n d).0) next) ∙ equal))
            ∙ sym (ap (λ n. set (e ∷ es) n (key, value)) next)
      ] refl

  -- before the first entry of a greater key
  pub put_before : (es : List (K × X)) (i : ℕ) (d : K × X) → i ≡ place_by R key es → (i < length es → (get_or es i d).0 ≢ key) → put R key value es ≡ list.insert es i (key, value)
  put_before [] i d is other = sym (ap (λ n. list.insert [] n (key, value)) is)
  put_before (e ∷ es) i d is other =
      elim (R key e.0) as (λ r. R key e.0 ≡ r → put R key value (e ∷ es) ≡ list.insert (e ∷ es) i (key, value)) [
        | Less ↦ λ p.
            let first : i ≡ 0 = is ∙ here e es (ap is_le p) in
            put_is e es Less p ∙ sym (ap (λ n. list.insert (e ∷ es) n (key, value)) first)
        | Equal ↦ λ p.
            let first : i ≡ 0 = is ∙ here e es (ap is_le p) in
            absurd (other (omega (arith, first)) (ap (λ n. (get_or (e ∷ es) n d).0) first ∙ sym (same key e.0 p)))
        | Greater ↦ λ p.
            let next : i ≡ suc (place_by R key es) = omega (arith, is, later e es (ap is_le p)) in
            put_is e es Greater p
            ∙ ap (λ l. e ∷ l) (put_before es (place_by R key es) d refl (λ below equal. other (omega (arith, next, below)) (ap (λ n. (get_or (e ∷ es) n d).0) next ∙ equal)))
            ∙ sym (ap (λ n. list.insert (e ∷ es) n (key, value)) next)
      ] refl

  -- or at the end
  pub put_last : (es : List (K × X)) → length es ≤ place_by R key es → put R key value es ≡ es ++ (key, value) ∷ []
  put_last [] past = refl
  put_last (e ∷ es) past =
      elim (R key e.0) as (λ r. R key e.0 ≡ r → put R key value (e ∷ es) ≡ (e ∷ es) ++ (key, value) ∷ []) [
        | Less ↦ λ p. absurd (omega (arith, past, here e es (ap is_le p)))
        | Equal ↦ λ p. absurd (omega (arith, past, here e es (ap is_le p)))
        | Greater ↦ λ p. put_is e es Greater p ∙ ap (λ l. e ∷ l) (put_last es (omega (arith, past, later e es (ap is_le p))))
      ] refl

  pub map_put_by : (es : List (K × X)) → from_entries {R = R} (put R key value es) ≡ insert (from_entries es) key value
  map_put_by es = same_map o same _ _ (λ q.
      get-from_entries o _ q ∙ find-put R o q key value es
      ∙ sym (get-insert o _ key value q ∙ ap (cond (eq_by_cmp R q key) (Some value)) (get-from_entries o es q)))

  pub rising_put_by : (es : List (K × X)) → is_sorted R es ≡ true → is_sorted R (put R key value es) ≡ true
  rising_put_by es rise = is_true _ (is_sorted-put R o key value es (holds _ rise))

-- ---- by the bytes of names

abbrev pub name_order : List ℕ → List ℕ → Ordering
name_order = slice_cmp nat_cmp

pub names_apart : IsAntisymmetric name_order
names_apart = slice_cmp-IsAntisymmetric nat_cmp-IsAntisymmetric

pub same_bytes : (one two : List ℕ) → bytes_eq one two ≡ true → one ≡ two
same_bytes one two e = names_apart one two (is_equal _ (sym (texts_ties one two) ∙ e))

pub itself_bytes : (one two : List ℕ) → one ≡ two → bytes_eq one two ≡ true
itself_bytes one two e = texts_ties one two ∙ ap (λ x. is_eq (name_order one x)) (sym e) ∙ ap is_eq (tied_itself nat_list_cmp_total one)

tie : (name other : List ℕ) → eq_by_cmp name_order name other ≡ bytes_eq other name
tie name other = (eq_by_cmp_equiv nat_list_cmp_total).symm name other ∙ sym (texts_ties other name)

turned : {A : Type 0} (b : Bool) (x y : A) → cond (not b) x y ≡ cond b y x
turned true x y = refl
turned false x y = refl

module _ {X : Type 0} (name : List ℕ) where
  find_named : (es : List (List ℕ × X)) (i : ℕ) (d : List ℕ × X) → FirstAt (λ (e : List ℕ × X). bytes_eq e.0 name) es i → find name_order name es ≡ Some (get_or es i d).1
  find_named [] i d at = absurd at
  find_named (e ∷ es) zero d at = ap (λ b. cond b (Some e.1) (find name_order name es)) (tie name e.0 ∙ at)
  find_named (e ∷ es) (suc i) d at = ap (λ b. cond b (Some e.1) (find name_order name es)) (tie name e.0 ∙ at.0) ∙ find_named es i d at.1

  find_unnamed : (es : List (List ℕ × X)) → NonePasses (λ (e : List ℕ × X). bytes_eq e.0 name) es → find name_order name es ≡ None
  find_unnamed [] none = refl
  find_unnamed (e ∷ es) none = ap (λ b. cond b (Some e.1) (find name_order name es)) (tie name e.0 ∙ none.0) ∙ find_unnamed es none.1

  pub get_named : (es : List (List ℕ × X)) (i : ℕ) (d : List ℕ × X) → Some i ≡ position (λ (e : List ℕ × X). bytes_eq e.0 name) es → get (from_entries {R = name_order} es) name ≡ Some (get_or es i d).1
  get_named es i d is = get-from_entries nat_list_cmp_total es name ∙ find_named es i d (position_first _ es i (sym is))

  pub get_unnamed : (es : List (List ℕ × X)) → None ≡ position (λ (e : List ℕ × X). bytes_eq e.0 name) es → get (from_entries {R = name_order} es) name ≡ None
  get_unnamed es is = get-from_entries nat_list_cmp_total es name ∙ find_unnamed es (position_none _ es (sym is))

  pub map_unnamed : (es : List (List ℕ × X)) → from_entries {R = name_order} (filter (λ (e : List ℕ × X). not (bytes_eq e.0 name)) es) ≡ remove (from_entries es) name
  map_unnamed es = same_map nat_list_cmp_total names_apart _ _ (λ q.
      let others = λ (k : List ℕ). not (bytes_eq k name) in
      get-from_entries nat_list_cmp_total _ q ∙ find-where_key name_order others q (λ x e. ap others (sym (names_apart q x e))) es
      ∙ turned (bytes_eq q name) (find name_order q es) None
      ∙ (λ i. cond (texts_ties q name i) None (sym (get-from_entries nat_list_cmp_total es q) i))
      ∙ sym (get-remove nat_list_cmp_total (from_entries es) name q))

  pub rising_unnamed : (es : List (List ℕ × X)) → is_sorted name_order es ≡ true → is_sorted name_order (filter (λ (e : List ℕ × X). not (bytes_eq e.0 name)) es) ≡ true
  rising_unnamed es rise = is_true _ (is_sorted-where_key name_order (λ (k : List ℕ). not (bytes_eq k name)) es (holds _ rise))
