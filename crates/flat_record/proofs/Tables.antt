-- Facts on lists of entries by number, and the maps that they stand for.
use Rattle.std.proofs.Common.{◌≡◌, ◌≢◌, ℕ, zero, suc, ◌<◌, ◌≤◌, ◌+◌, inl, inr, subst, T, Bool, true, false, cond, List, [], ◌∷◌, ◌++◌, set, length, get_or, Option, Some, None, refl, sym, ap, ◌∙◌, arith}
use Rattle.std.specs.Bool.{◌==◌, nat_lt, nat_le}
use Rattle.std.proofs.Common.{not}
use Rattle.std.specs.Option.{option_map}
use Rattle.std.proofs.Common.{map}
use Rattle.std.specs.declared.cmp.Ordering.{Ordering}
use Rattle.std.specs.declared.cmp.Ordering.TheVariants.{Less, Equal, Greater}
use Rattle.std.specs.Ordering.{nat_cmp, eq_by_cmp, is_lt, MatchOrdering}
use Rattle.std.specs.Cmp.{IsTotalOrder, nat_cmp_total, unsigned_tied, nat_cmp_is}
use Rattle.std.specs.List.{position, position_or_len, filter}
use Rattle.std.specs.List as list
use Rattle.std.specs.FinMap.{get, insert, remove, entries, empty, len-entries, len-empty, from_entries, get-from_entries, get-insert, get-remove, entries-insert, same_map, nat_cmp-IsAntisymmetric, from_entries_push}
use Rattle.std.specs.FinMap.Entries.{find, put, by_order, below_all, is_sorted, is_sorted-put, is_sorted-where_key, find-put}
use Rattle.std.proofs.lemmas.Bool.{eqb-true, eqb-false, ne_eqb, eq-eqb, ltb-true, ltb-false, le-leb, lt-leb, and_parts, cases_lt, cases_order, true≢false}
use Rattle.std.proofs.lemmas.List.Quantifiers.{position-Some}
use Rattle.std.proofs.lemmas.List.Sums.{fails_before_first}
use Rattle.flat_model.proofs.Maps.{some_none, some_same, no_length}

pub is_less : (r : Ordering) → is_lt r ≡ true → r ≡ Less
is_less Less e = refl
is_less Equal e = absurd (true≢false (sym e))
is_less Greater e = absurd (true≢false (sym e))

pub no_entries : {K : Type 0} (X : Type 0) (R : K → K → Ordering) → entries (empty {X = X} {R = R}) ≡ []
no_entries X R = no_length _ (sym (len-entries (empty {X = X} {R = R})) ∙ len-empty R X)

-- the element at this place is the first that passes
abbrev pub FirstAt : {X : Type 0} → (X → Bool) → List X → ℕ → Type 0
FirstAt p [] i = ⊥
FirstAt p (x ∷ xs) zero = p x ≡ true
FirstAt p (x ∷ xs) (suc i) = (p x ≡ false) × FirstAt p xs i

-- no element passes
abbrev pub NonePasses : {X : Type 0} → (X → Bool) → List X → Type 0
NonePasses p [] = Unit {0}
NonePasses p (x ∷ xs) = (p x ≡ false) × NonePasses p xs

first_at_from : {X : Type 0} (p : X → Bool) (xs : List X) (i : ℕ) (d : X) → i < length xs → p (get_or xs i d) ≡ true → ((k : ℕ) → k < i → p (get_or xs k d) ≡ false) → FirstAt p xs i
first_at_from p [] i d below here before = absurd (omega arith)
first_at_from p (x ∷ xs) zero d below here before = here
first_at_from p (x ∷ xs) (suc i) d below here before = (before 0 (omega arith), first_at_from p xs i d (omega arith) here (λ k less. before (suc k) (omega arith)))

none_from : {X : Type 0} (p : X → Bool) (xs : List X) → ((k : ℕ) (d : X) → k < length xs → p (get_or xs k d) ≡ false) → NonePasses p xs
none_from p [] each = tt
none_from p (x ∷ xs) each = (each 0 x (omega arith), none_from p xs (λ k d less. each (suc k) d (omega arith)))

pub position_first : {X : Type 0} (p : X → Bool) (xs : List X) (i : ℕ) → position p xs ≡ Some i → FirstAt p xs i
position_first p [] i e = absurd (some_none i (sym e))
position_first p (x ∷ xs) i e = let at = position-Some p (x ∷ xs) i x e in first_at_from p (x ∷ xs) i x at.0 at.1 at.2

pub position_none : {X : Type 0} (p : X → Bool) (xs : List X) → position p xs ≡ None → NonePasses p xs
position_none p xs e =
    elim (nat_lt (position_or_len p xs) (length xs)) as (λ b. nat_lt (position_or_len p xs) (length xs) ≡ b → cond b (Some (position_or_len p xs)) None ≡ None → NonePasses p xs) [
      | true ↦ λ t s. absurd (some_none _ s)
      | false ↦ λ f s. none_from p xs (λ k d less. let past = ltb-false _ _ f in fails_before_first p xs k d (omega (arith, less, past)))
    ] refl e

pub position_below : {X : Type 0} (p : X → Bool) (xs : List X) (i : ℕ) → position p xs ≡ Some i → i < length xs
position_below p [] i e = absurd (some_none i (sym e))
position_below p (x ∷ xs) i e = (position-Some p (x ∷ xs) i x e).0

tie_true : (q k : ℕ) → eq_by_cmp nat_cmp q k ≡ true → q ≡ k
tie_true q k e = eqb-true q k (sym (unsigned_tied q k) ∙ e)

shadow : {A : Type 0} (a : Bool) (x y z : A) → cond a x z ≡ cond a x (cond a y z)
shadow true x y z = refl
shadow false x y z = refl

swap_tests : {A : Type 0} (a b : Bool) (x y z : A) → (a ≡ true → b ≡ true → ⊥) → cond a x (cond b y z) ≡ cond b y (cond a x z)
swap_tests true true x y z other = absurd (other refl refl)
swap_tests true false x y z other = refl
swap_tests false b x y z other = refl

module _ {X : Type 0} (key : ℕ) where
  pub find_nowhere : (es : List (ℕ × X)) → NonePasses (λ (e : ℕ × X). e.0 == key) es → find nat_cmp key es ≡ None
  find_nowhere [] none = refl
  find_nowhere (first ∷ es) none =
      ap (λ b. cond b (Some first.1) (find nat_cmp key es)) (unsigned_tied key first.0 ∙ ne_eqb key first.0 (λ same. eqb-false first.0 key none.0 (sym same))) ∙ find_nowhere es none.1

  pub find_first : (es : List (ℕ × X)) (i : ℕ) (d : ℕ × X) → FirstAt (λ (e : ℕ × X). e.0 == key) es i → find nat_cmp key es ≡ Some (get_or es i d).1
  find_first [] i d at = absurd at
  find_first (first ∷ es) zero d at = ap (λ b. cond b (Some first.1) (find nat_cmp key es)) (unsigned_tied key first.0 ∙ eq-eqb key first.0 (sym (eqb-true first.0 key at)))
  find_first (first ∷ es) (suc i) d at =
      ap (λ b. cond b (Some first.1) (find nat_cmp key es)) (unsigned_tied key first.0 ∙ ne_eqb key first.0 (λ same. eqb-false first.0 key at.0 (sym same))) ∙ find_first es i d at.1

  pub find_set : (value : X) (es : List (ℕ × X)) (i : ℕ) (q : ℕ) → FirstAt (λ (e : ℕ × X). e.0 == key) es i → find nat_cmp q (set es i (key, value)) ≡ cond (eq_by_cmp nat_cmp q key) (Some value) (find nat_cmp q es)
  find_set value [] i q at = absurd at
  find_set value (first ∷ es) zero q at =
      shadow (eq_by_cmp nat_cmp q key) (Some value) (Some first.1) (find nat_cmp q es)
      ∙ ap (λ k. cond (eq_by_cmp nat_cmp q key) (Some value) (cond (eq_by_cmp nat_cmp q k) (Some first.1) (find nat_cmp q es))) (sym (eqb-true first.0 key at))
  find_set value (first ∷ es) (suc i) q at =
      ap (cond (eq_by_cmp nat_cmp q first.0) (Some first.1)) (find_set value es i q at.1)
      ∙ swap_tests (eq_by_cmp nat_cmp q first.0) (eq_by_cmp nat_cmp q key) (Some first.1) (Some value) (find nat_cmp q es) (λ a b. eqb-false first.0 key at.0 (sym (tie_true q first.0 a) ∙ tie_true q key b))

  pub map_set : (value : X) (es : List (ℕ × X)) (i : ℕ) → position (λ (e : ℕ × X). e.0 == key) es ≡ Some i → from_entries {R = nat_cmp} (set es i (key, value)) ≡ insert (from_entries es) key value
  map_set value es i e = same_map nat_cmp_total nat_cmp-IsAntisymmetric _ _ (λ q.
      get-from_entries nat_cmp_total _ q ∙ find_set value es i q (position_first _ es i e)
      ∙ sym (get-insert nat_cmp_total _ key value q ∙ ap (cond (eq_by_cmp nat_cmp q key) (Some value)) (get-from_entries nat_cmp_total es q)))

  pub map_push : (value : X) (es : List (ℕ × X)) → position (λ (e : ℕ × X). e.0 == key) es ≡ None → from_entries {R = nat_cmp} (es ++ (key, value) ∷ []) ≡ insert (from_entries es) key value
  map_push value es e = from_entries_push nat_cmp_total nat_cmp-IsAntisymmetric es key value (find_nowhere es (position_none _ es e))

-- the same edits where each value is seen by a function
module _ {X Y : Type 0} (f : X → Y) where
  find_seen : (es : List (ℕ × X)) (q : ℕ) → find nat_cmp q (map (λ (e : ℕ × X). (e.0, f e.1)) es) ≡ option_map f (find nat_cmp q es)
  find_seen [] q = refl
  find_seen (e ∷ es) q =
      elim (eq_by_cmp nat_cmp q e.0) as (λ b. cond b (Some (f e.1)) (find nat_cmp q (map (λ (e : ℕ × X). (e.0, f e.1)) es)) ≡ option_map f (cond b (Some e.1) (find nat_cmp q es))) [ true ↦ refl | false ↦ find_seen es q ]

  pub get_seen : (es : List (ℕ × X)) (q : ℕ) → get (from_entries {R = nat_cmp} (map (λ (e : ℕ × X). (e.0, f e.1)) es)) q ≡ option_map f (get (from_entries {R = nat_cmp} es) q)
  get_seen es q = get-from_entries nat_cmp_total _ q ∙ find_seen es q ∙ ap (option_map f) (sym (get-from_entries nat_cmp_total es q))

  seen_cond : (b : Bool) (v : X) (o : Option X) → option_map f (cond b (Some v) o) ≡ cond b (Some (f v)) (option_map f o)
  seen_cond true v o = refl
  seen_cond false v o = refl

  pub insert_seen : (new old : List (ℕ × X)) (key : ℕ) (value : X) → from_entries {R = nat_cmp} new ≡ insert (from_entries old) key value → from_entries {R = nat_cmp} (map (λ (e : ℕ × X). (e.0, f e.1)) new) ≡ insert (from_entries (map (λ (e : ℕ × X). (e.0, f e.1)) old)) key (f value)
  insert_seen new old key value is = same_map nat_cmp_total nat_cmp-IsAntisymmetric _ _ (λ q.
      get_seen new q ∙ ap (λ m. option_map f (get m q)) is ∙ ap (option_map f) (get-insert nat_cmp_total _ key value q) ∙ seen_cond (eq_by_cmp nat_cmp q key) value _
      ∙ sym (get-insert nat_cmp_total _ key (f value) q ∙ ap (cond (eq_by_cmp nat_cmp q key) (Some (f value))) (get_seen old q)))

-- ---- the entries of one number taken away

find_dropped : {X : Type 0} (key : ℕ) (es : List (ℕ × X)) (q : ℕ) → find nat_cmp q (filter (λ (e : ℕ × X). not (e.0 == key)) es) ≡ cond (eq_by_cmp nat_cmp q key) None (find nat_cmp q es)
find_dropped {X} key [] q = elim (eq_by_cmp nat_cmp q key) as (λ b. ◌≡◌ {A = Option X} None (cond b None None)) [ true ↦ refl | false ↦ refl ]
find_dropped {X} key (e ∷ es) q =
    let rest = find_dropped key es q in
    elim (e.0 == key) as (λ b. (e.0 == key) ≡ b → find nat_cmp q (cond (not b) (e ∷ filter (λ (e : ℕ × X). not (e.0 == key)) es) (filter (λ (e : ℕ × X). not (e.0 == key)) es)) ≡ cond (eq_by_cmp nat_cmp q key) None (cond (eq_by_cmp nat_cmp q e.0) (Some e.1) (find nat_cmp q es))) [
      | true ↦ λ t. rest ∙ shadow (eq_by_cmp nat_cmp q key) None (Some e.1) (find nat_cmp q es) ∙ ap (λ k. cond (eq_by_cmp nat_cmp q key) None (cond (eq_by_cmp nat_cmp q k) (Some e.1) (find nat_cmp q es))) (sym (eqb-true e.0 key t))
      | false ↦ λ f. ap (cond (eq_by_cmp nat_cmp q e.0) (Some e.1)) rest ∙ swap_tests (eq_by_cmp nat_cmp q e.0) (eq_by_cmp nat_cmp q key) (Some e.1) None (find nat_cmp q es) (λ a b. eqb-false e.0 key f (sym (tie_true q e.0 a) ∙ tie_true q key b))
    ] refl

pub map_drop : {X : Type 0} (key : ℕ) (es : List (ℕ × X)) → from_entries {R = nat_cmp} (filter (λ (e : ℕ × X). not (e.0 == key)) es) ≡ remove (from_entries es) key
map_drop key es = same_map nat_cmp_total nat_cmp-IsAntisymmetric _ _ (λ q.
    get-from_entries nat_cmp_total _ q ∙ find_dropped key es q
    ∙ sym (get-remove nat_cmp_total _ key q ∙ ap (cond (eq_by_cmp nat_cmp q key) None) (get-from_entries nat_cmp_total es q)))

seen_none : {X Y : Type 0} (f : X → Y) (b : Bool) (o : Option X) → option_map f (cond b None o) ≡ cond b None (option_map f o)
seen_none f true o = refl
seen_none f false o = refl

pub remove_seen : {X Y : Type 0} (f : X → Y) (new old : List (ℕ × X)) (key : ℕ) → from_entries {R = nat_cmp} new ≡ remove (from_entries old) key → from_entries {R = nat_cmp} (map (λ (e : ℕ × X). (e.0, f e.1)) new) ≡ remove (from_entries (map (λ (e : ℕ × X). (e.0, f e.1)) old)) key
remove_seen f new old key is = same_map nat_cmp_total nat_cmp-IsAntisymmetric _ _ (λ q.
    get_seen f new q ∙ ap (λ m. option_map f (get m q)) is ∙ ap (option_map f) (get-remove nat_cmp_total _ key q) ∙ seen_none f (eq_by_cmp nat_cmp q key) _
    ∙ sym (get-remove nat_cmp_total _ key q ∙ ap (cond (eq_by_cmp nat_cmp q key) None) (get_seen f old q)))

-- ---- an entry put in its place, in rising order

-- the test as a fact, and back
pub is_true : (b : Bool) → T b → b ≡ true
is_true true p = refl
is_true false p = absurd p

pub holds : (b : Bool) → b ≡ true → T b
holds b e = subst T (sym e) tt

-- a position is the place before which nothing passes
pub position_place : {X : Type 0} (p : X → Bool) (xs : List X) (i : ℕ) → Some i ≡ position p xs → (i < length xs) × (i ≡ position_or_len p xs)
position_place p xs i e =
    elim (nat_lt (position_or_len p xs) (length xs)) as (λ b. nat_lt (position_or_len p xs) (length xs) ≡ b → Some i ≡ cond b (Some (position_or_len p xs)) None → (i < length xs) × (i ≡ position_or_len p xs)) [
      | true ↦ λ t s. let same = some_same i _ s in (omega (arith, same, ltb-true _ _ t), same)
      | false ↦ λ f s. absurd (some_none i s)
    ] refl e

pub position_past : {X : Type 0} (p : X → Bool) (xs : List X) → None ≡ position p xs → length xs ≤ position_or_len p xs
position_past p xs e =
    elim (nat_lt (position_or_len p xs) (length xs)) as (λ b. nat_lt (position_or_len p xs) (length xs) ≡ b → None ≡ cond b (Some (position_or_len p xs)) None → length xs ≤ position_or_len p xs) [
      | true ↦ λ t s. absurd (some_none _ (sym s))
      | false ↦ λ f s. ltb-false _ _ f
    ] refl e

-- the place at which an entry of a number stands, or would stand
abbrev pub place_for : {X : Type 0} → ℕ → List (ℕ × X) → ℕ
place_for key es = position_or_len (λ e. nat_le key e.0) es

module _ {X : Type 0} (key : ℕ) (value : X) where
  place_here : (e : ℕ × X) (es : List (ℕ × X)) → key ≤ e.0 → place_for key (e ∷ es) ≡ 0
  place_here e es low = ap (λ b. cond (not b) (1 + place_for key es) 0) (le-leb key e.0 low)

  place_later : (e : ℕ × X) (es : List (ℕ × X)) → e.0 < key → place_for key (e ∷ es) ≡ 1 + place_for key es
  place_later e es high = ap (λ b. cond (not b) (1 + place_for key es) 0) (lt-leb key e.0 high)

  put_by : (e : ℕ × X) (es : List (ℕ × X)) (r : Ordering) → MatchOrdering r (key < e.0) (key ≡ e.0) (e.0 < key) → put nat_cmp key value (e ∷ es) ≡ by_order r ((key, value) ∷ e ∷ es) ((e.0, value) ∷ es) (e ∷ put nat_cmp key value es)
  put_by e es r is = ap (λ r. by_order r ((key, value) ∷ e ∷ es) ((e.0, value) ∷ es) (e ∷ put nat_cmp key value es)) (sym (nat_cmp_is key e.0 r is))

  -- in place of the entry of the same number
  pub put_set : (es : List (ℕ × X)) (i : ℕ) (d : ℕ × X) → i ≡ place_for key es → i < length es → (get_or es i d).0 ≡ key → put nat_cmp key value es ≡ set es i (key, value)
  put_set [] i d is below same = absurd (omega arith)
  put_set (e ∷ es) i d is below same =
      elim (cases_order key e.0) [
        | inl equal ↦
            let first : i ≡ 0 = is ∙ place_here e es (omega (arith, equal)) in
            put_by e es Equal equal ∙ ap (λ k. (k, value) ∷ es) (sym equal) ∙ sym (ap (λ n. set (e ∷ es) n (key, value)) first)
        | inr (inl less) ↦
            let first : i ≡ 0 = is ∙ place_here e es (omega (arith, less)) in
            let here : e.0 ≡ key = sym (ap (λ n. (get_or (e ∷ es) n d).0) first) ∙ same in
            absurd (omega (arith, here, less))
        | inr (inr more) ↦
            let later : i ≡ suc (place_for key es) = omega (arith, is, place_later e es more) in
            put_by e es Greater more
            ∙ ap (λ l. e ∷ l) (put_set es (place_for key es) d refl (omega (arith, later, below)) (sym (ap (λ n. (get_or (e ∷ es) n d).0) later) ∙ same))
            ∙ sym (ap (λ n. set (e ∷ es) n (key, value)) later)
      ]

  -- before the first entry of a greater number
  pub put_insert : (es : List (ℕ × X)) (i : ℕ) (d : ℕ × X) → i ≡ place_for key es → (i < length es → (get_or es i d).0 ≢ key) → put nat_cmp key value es ≡ list.insert es i (key, value)
  put_insert [] i d is other = sym (ap (λ n. list.insert [] n (key, value)) is)
  put_insert (e ∷ es) i d is other =
      elim (cases_order key e.0) [
        | inl equal ↦
            let first : i ≡ 0 = is ∙ place_here e es (omega (arith, equal)) in
            absurd (other (omega (arith, first)) (ap (λ n. (get_or (e ∷ es) n d).0) first ∙ sym equal))
        | inr (inl less) ↦
            let first : i ≡ 0 = is ∙ place_here e es (omega (arith, less)) in
            put_by e es Less less ∙ sym (ap (λ n. list.insert (e ∷ es) n (key, value)) first)
        | inr (inr more) ↦
            let later : i ≡ suc (place_for key es) = omega (arith, is, place_later e es more) in
            put_by e es Greater more
            ∙ ap (λ l. e ∷ l) (put_insert es (place_for key es) d refl (λ below same. other (omega (arith, later, below)) (ap (λ n. (get_or (e ∷ es) n d).0) later ∙ same)))
            ∙ sym (ap (λ n. list.insert (e ∷ es) n (key, value)) later)
      ]

  -- or at the end
  pub put_push : (es : List (ℕ × X)) → length es ≤ place_for key es → put nat_cmp key value es ≡ es ++ (key, value) ∷ []
  put_push [] past = refl
  put_push (e ∷ es) past =
      elim (cases_lt e.0 key) [
        | inl more ↦ put_by e es Greater more ∙ ap (λ l. e ∷ l) (put_push es (omega (arith, past, place_later e es more)))
        | inr low ↦ absurd (omega (arith, past, place_here e es low))
      ]

  pub map_put : (es : List (ℕ × X)) → from_entries {R = nat_cmp} (put nat_cmp key value es) ≡ insert (from_entries es) key value
  map_put es = same_map nat_cmp_total nat_cmp-IsAntisymmetric _ _ (λ q.
      get-from_entries nat_cmp_total _ q ∙ find-put nat_cmp nat_cmp_total q key value es
      ∙ sym (get-insert nat_cmp_total _ key value q ∙ ap (cond (eq_by_cmp nat_cmp q key) (Some value)) (get-from_entries nat_cmp_total es q)))

  pub rising_put : (es : List (ℕ × X)) → is_sorted nat_cmp es ≡ true → is_sorted nat_cmp (put nat_cmp key value es) ≡ true
  rising_put es rise = is_true _ (is_sorted-put nat_cmp nat_cmp_total key value es (holds _ rise))

pub rising_drop : {X : Type 0} (key : ℕ) (es : List (ℕ × X)) → is_sorted nat_cmp es ≡ true → is_sorted nat_cmp (filter (λ (e : ℕ × X). not (e.0 == key)) es) ≡ true
rising_drop key es rise = is_true _ (is_sorted-where_key nat_cmp (λ k. not (k == key)) es (holds _ rise))

-- the entries of a list in rising order are those of its map
module _ {K X : Type 0} {R : K → K → Ordering} (o : IsTotalOrder R) where
  put_below : (k : K) (x : X) (es : List (K × X)) → T (below_all R k es) → put R k x es ≡ (k, x) ∷ es
  put_below k x [] below = refl
  put_below k x (e ∷ es) below = ap (λ r. by_order r ((k, x) ∷ e ∷ es) ((e.0, x) ∷ es) (e ∷ put R k x es)) (is_less (R k e.0) (and_parts _ _ (is_true _ below)).0)

  pub entries_rising : (es : List (K × X)) → is_sorted R es ≡ true → entries (from_entries {R = R} es) ≡ es
  entries_rising [] rise = no_entries X R
  entries_rising (e ∷ es) rise =
      let parts = and_parts _ _ rise in
      entries-insert o (from_entries es) e.0 e.1 ∙ ap (put R e.0 e.1) (entries_rising es parts.1) ∙ put_below e.0 e.1 es (holds _ parts.0)
