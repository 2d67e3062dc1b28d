-- Facts on the entries of maps in order, on the limits of records, and on what attributes take in items.
use Rattle.std.proofs.Common.{◌≡◌, ◌≢◌, ℕ, zero, suc, ◌<◌, ◌≤◌, ◌+◌, ◌-◌, ◌^◌, min, Bool, true, false, cond, not, ◌&&◌, ◌⊎◌, inl, inr, ◌↔◌, IsTrue, List, [], ◌∷◌, length, get_or, Some, None, refl, sym, ap, subst, ◌∙◌, arith}
use Rattle.std.specs.declared.cmp.Ordering.{Ordering}
use Rattle.std.specs.declared.cmp.Ordering.TheVariants.{Less, Equal, Greater}
use Rattle.std.specs.Ordering.{is_eq, ordering_reverse}
use Rattle.std.specs.Bool.{nat_eq, nat_lt}
use Rattle.std.specs.Cmp.{IsTotalOrder, tied_itself}
use Rattle.std.specs.Cmp.Lexicographic.{nat_list_cmp_total}
use Rattle.std.specs.List.{All, filter, sum_by}
use Rattle.std.specs.FinMap.{FinMap, IsAntisymmetric, entries, get, insert, from_entries, get-from_entries, entries-insert}
use Rattle.std.specs.FinMap.Entries.{find, put, by_order, below_all, is_sorted}
use Rattle.std.proofs.lemmas.Bool.{true≢false, and_parts, cases_eq, cases_lt, eq-eqb, eqb-true, ne_eqb, lt-ltb, le-ltb}
use Rattle.std.proofs.lemmas.List.Sums.{sum_by-cons}
use Rattle.blk_base.specs.Crc.{name_hash_of}
use Rattle.flat_model.specs.Records.{Attributes, InodeRecord, attributes_of}
use Rattle.flat_model.specs.Lengths.{attribute_length, xattr_item_length}
use Rattle.flat_model.specs.Coherent.{KeepAttributeLimits, KeepsKindLimits, KeepsLimits}
use Rattle.flat_model.proofs.Maps.{some_none, some_same}
use Rattle.flat_record.specs.declared.record.Contents.{Contents}
use Rattle.flat_record.specs.declared.record.Contents.TheVariants as contents
use Rattle.flat_record.specs.RecordView.{record_view}
use Rattle.flat_record.specs.AttributeShares.{share_of}
use Rattle.flat_record.proofs.Tables.{entries_rising, is_less}
use Rattle.flat_record.proofs.Orders.{name_order, names_apart, same_bytes, itself_bytes}

module _ {K X : Type 0} {R : K → K → Ordering} (o : IsTotalOrder R) where
  -- the entries of the map that a list in order stands for
  pub entries_view : (es : List (K × X)) (m : FinMap R X) → is_sorted R es ≡ true → from_entries es ≡ m → entries m ≡ es
  entries_view es m rise is = ap entries (sym is) ∙ entries_rising o es rise

  below_at : (k : K) (es : List (K × X)) (i : ℕ) (d : K × X) → below_all R k es ≡ true → i < length es → R k (get_or es i d).0 ≡ Less
  below_at k [] i d below low = absurd (omega arith)
  below_at k (e ∷ es) zero d below low = is_less (R k e.0) (and_parts _ _ below).0
  below_at k (e ∷ es) (suc i) d below low = below_at k es i d (and_parts _ _ below).1 (omega (arith, low))

  -- each entry of a list in order is found
  find_at : (es : List (K × X)) (i : ℕ) (d : K × X) → is_sorted R es ≡ true → i < length es → find R (get_or es i d).0 es ≡ Some (get_or es i d).1
  find_at [] i d rise low = absurd (omega arith)
  find_at (e ∷ es) zero d rise low = ap (λ r. cond (is_eq r) (Some e.1) (find R e.0 es)) (tied_itself o e.0)
  find_at (e ∷ es) (suc i) d rise low =
      let key : K = (get_or es i d).0 in
      let more : R key e.0 ≡ Greater = o.antisymm key e.0 ∙ ap ordering_reverse (below_at e.0 es i d (and_parts _ _ rise).0 (omega (arith, low))) in
      ap (λ r. cond (is_eq r) (Some e.1) (find R key es)) more ∙ find_at es i d (and_parts _ _ rise).1 (omega (arith, low))

  -- what holds of each value that is found holds of each entry
  pub from_get : (P : K × X → Type 0) (es : List (K × X)) (m : FinMap R X) → is_sorted R es ≡ true → from_entries es ≡ m → ((k : K) (x : X) → get m k ≡ Some x → P (k, x)) → All P es
  from_get P es m rise is each = λ k d low. each (get_or es k d).0 (get_or es k d).1 (ap (λ n. get n (get_or es k d).0) (sym is) ∙ get-from_entries o es (get_or es k d).0 ∙ find_at es k d rise low)

  find_one : IsAntisymmetric R → (P : K × X → Type 0) (es : List (K × X)) → All P es → (k : K) (x : X) → find R k es ≡ Some x → P (k, x)
  find_one same P [] each k x there = absurd (some_none x (sym there))
  find_one same P (e ∷ es) each k x there =
      elim (R k e.0) as (λ r. R k e.0 ≡ r → cond (is_eq r) (Some e.1) (find R k es) ≡ Some x → P (k, x)) [
        | Less ↦ λ p t. find_one same P es (λ j d low. each (suc j) d (omega (arith, low))) k x t
        | Equal ↦ λ p t. subst P (λ i. (sym (same k e.0 p) i, some_same e.1 x t i)) (each zero e (omega arith))
        | Greater ↦ λ p t. find_one same P es (λ j d low. each (suc j) d (omega (arith, low))) k x t
      ] refl there

  -- and the other way round
  pub to_get : IsAntisymmetric R → (P : K × X → Type 0) (es : List (K × X)) (m : FinMap R X) → from_entries es ≡ m → All P es → (k : K) (x : X) → get m k ≡ Some x → P (k, x)
  to_get same P es m is each k x there = find_one same P es each k x (sym (get-from_entries o es k) ∙ ap (λ n. get n k) is ∙ there)

-- ---- records

pub attributes_view : (attributes : Attributes) (k : Contents) → attributes_of (record_view attributes k) ≡ attributes
attributes_view attributes (contents.File sized) = refl
attributes_view attributes contents.Dir = refl
attributes_view attributes (contents.Link target) = refl

module _ (attributes : Attributes) (k : Contents) (inode : InodeRecord) (is : record_view attributes k ≡ inode) where
  pub limits_from : KeepAttributeLimits attributes → KeepsKindLimits (record_view attributes k) → KeepsLimits inode
  limits_from keep kind = subst KeepsLimits is (record { attributes = subst KeepAttributeLimits (sym (attributes_view attributes k)) keep; kind = kind })

  pub attribute_limits : KeepsLimits inode → KeepAttributeLimits attributes
  attribute_limits keeps = subst KeepAttributeLimits (attributes_view attributes k) (subst KeepsLimits (sym is) keeps).attributes

  pub kind_limits : KeepsLimits inode → KeepsKindLimits (record_view attributes k)
  kind_limits keeps = (subst KeepsLimits (sym is) keeps).kind

  pub attributes_seen : attributes_of inode ≡ attributes
  attributes_seen = ap attributes_of (sym is) ∙ attributes_view attributes k

-- ---- what attributes take in items

sum_kept : {X : Type 0} (f : X → ℕ) (p : X → Bool) (xs : List X) → sum_by f (filter p xs) ≡ sum_by (λ x. cond (p x) (f x) 0) xs
sum_kept f p [] = refl
sum_kept {X} f p (x ∷ xs) =
    let rest = sum_kept f p xs in
    let others : List X = filter p xs in
    let sums : ℕ = sum_by (λ x. cond (p x) (f x) 0) xs in
    let here : sum_by f (cond (p x) (x ∷ others) others) ≡ cond (p x) (f x) 0 + sums = elim (p x) as (λ b. sum_by f (cond b (x ∷ others) others) ≡ cond b (f x) 0 + sums) [ true ↦ omega (arith, rest, sum_by-cons f x others) | false ↦ omega (arith, rest) ] in
    here ∙ sym (sum_by-cons (λ x. cond (p x) (f x) 0) x xs)

-- the item of a hash
pub xattr_is : (es : List (List ℕ × List ℕ)) (m : Attributes) → is_sorted name_order es ≡ true → from_entries es ≡ m → (hash : ℕ) → xattr_item_length m hash ≡ sum_by (share_of hash None) es
unfolding xattr_item_length
xattr_is es m rise is hash =
    ap (λ l. sum_by attribute_length (filter (λ a. nat_eq (name_hash_of a.0) hash) l)) (entries_view nat_list_cmp_total es m rise is)
    ∙ sum_kept attribute_length (λ a. nat_eq (name_hash_of a.0) hash) es

-- a hash that no name has takes nothing
hash_there : (hash : ℕ) (es : List (List ℕ × List ℕ)) → (sum_by (share_of hash None) es ≡ 0) ⊎ ((k : ℕ) × (k < length es) × ((d : List ℕ × List ℕ) → name_hash_of (get_or es k d).0 ≡ hash))
hash_there hash [] = inl refl
hash_there hash (e ∷ es) =
    elim (cases_eq (name_hash_of e.0) hash) [
      | inl same ↦ inr (0, omega arith, λ d. same)
      | inr other ↦ elim (hash_there hash es) [
        | inl none ↦ inl (omega (arith, sum_by-cons (share_of hash None) e es, ap (λ b. cond b (attribute_length e) 0) (ne_eqb _ _ other), none))
        | inr there ↦ inr (suc there.0, omega (arith, there.1), there.2)
      ]
    ]

-- where the item of each name's hash fits, that of each hash does
pub all_fit : (es : List (List ℕ × List ℕ)) → ((k : ℕ) (d : List ℕ × List ℕ) → k < length es → sum_by (share_of (name_hash_of (get_or es k d).0) None) es ≤ 3970) → (hash : ℕ) → sum_by (share_of hash None) es ≤ 3970
all_fit es each hash =
    elim (hash_there hash es) [
      | inl none ↦ omega (arith, none)
      | inr there ↦ subst (λ h. sum_by (share_of h None) es ≤ 3970) (there.2 ([], [])) (each there.0 ([], []) there.1)
    ]

-- ---- the item of a name once it has a value

module _ (name value : List ℕ) where
  abbrev this : List ℕ × List ℕ → ℕ
  this = share_of (name_hash_of name) (Some name)

  abbrev all : List ℕ × List ℕ → ℕ
  all e = cond (nat_eq (name_hash_of e.0) (name_hash_of name)) (attribute_length e) 0

  other_share : (e : List ℕ × List ℕ) → name ≢ e.0 → this e ≡ all e
  other_share e other = ap (λ b. cond (not b && nat_eq (name_hash_of e.0) (name_hash_of name)) (attribute_length e) 0) (Rattle.std.proofs.lemmas.Bool.false_from_ne_true _ (λ t. other (sym (same_bytes e.0 name t))))

  own_share : (e : List ℕ × List ℕ) → name ≡ e.0 → this e ≡ 0
  own_share e same = ap (λ b. cond (not b && nat_eq (name_hash_of e.0) (name_hash_of name)) (attribute_length e) 0) (itself_bytes e.0 name (sym same))

  own_all : (e : List ℕ × List ℕ) → name ≡ e.0 → all e ≡ attribute_length e
  own_all e same = ap (λ b. cond b (attribute_length e) 0) (eq-eqb _ _ (ap name_hash_of (sym same)))

  less_apart : (k : List ℕ) → name_order name k ≡ Less → name ≢ k
  less_apart k p same = true≢false (sym (ap is_eq (tied_itself nat_list_cmp_total name)) ∙ ap (λ x. is_eq (name_order name x)) same ∙ ap is_eq p)

  -- behind a name that is not above this one, no entry has it
  others : (k : List ℕ) (es : List (List ℕ × List ℕ)) → ((x : List ℕ) → name_order k x ≡ Less → name_order name x ≡ Less) → below_all name_order k es ≡ true → sum_by this es ≡ sum_by all es
  others k [] chain below = refl
  others k (e ∷ es) chain below =
      let parts = and_parts _ _ below in
      omega (arith, sum_by-cons this e es, sum_by-cons all e es, other_share e (less_apart e.0 (chain e.0 (is_less _ parts.0))), others k es chain parts.1)

  pub put_sum : (es : List (List ℕ × List ℕ)) → is_sorted name_order es ≡ true → sum_by all (put name_order name value es) ≡ (30 + length name + length value) + sum_by this es
  put_sum [] rise = omega (arith, sum_by-cons all (name, value) [], own_all (name, value) refl)
  put_sum (e ∷ es) rise =
      let parts = and_parts _ _ rise in
      elim (name_order name e.0) as (λ r. name_order name e.0 ≡ r → sum_by all (by_order r ((name, value) ∷ e ∷ es) ((e.0, value) ∷ es) (e ∷ put name_order name value es)) ≡ (30 + length name + length value) + sum_by this (e ∷ es)) [
        | Less ↦ λ p.
            let rest = others e.0 es (λ x q. nat_list_cmp_total.trans name e.0 x p q) parts.0 in
            omega (arith, sum_by-cons all (name, value) (e ∷ es), own_all (name, value) refl, sum_by-cons all e es, sum_by-cons this e es, other_share e (less_apart e.0 p), rest)
        | Equal ↦ λ p.
            let same : name ≡ e.0 = names_apart name e.0 p in
            let rest = others e.0 es (λ x q. ap (λ n. name_order n x) same ∙ q) parts.0 in
            omega (arith, sum_by-cons all (e.0, value) es, own_all (e.0, value) same, ap length same, sum_by-cons this e es, own_share e same, rest)
        | Greater ↦ λ p.
            let apart : name ≢ e.0 = λ same. true≢false (sym (ap is_eq (tied_itself nat_list_cmp_total name)) ∙ ap (λ x. is_eq (name_order name x)) same ∙ ap is_eq p) in
            omega (arith, sum_by-cons all e (put name_order name value es), sum_by-cons this e es, other_share e apart, put_sum es parts.1)
      ] refl

  pub inserted_sum : (es : List (List ℕ × List ℕ)) (m : Attributes) → is_sorted name_order es ≡ true → from_entries es ≡ m → xattr_item_length (insert m name value) (name_hash_of name) ≡ (30 + length name + length value) + sum_by this es
  unfolding xattr_item_length
  inserted_sum es m rise is =
      ap (λ l. sum_by attribute_length (filter (λ a. nat_eq (name_hash_of a.0) (name_hash_of name)) l)) (entries-insert nat_list_cmp_total m name value ∙ ap (put name_order name value) (entries_view nat_list_cmp_total es m rise is))
      ∙ sum_kept attribute_length (λ a. nat_eq (name_hash_of a.0) (name_hash_of name)) (put name_order name value es)
      ∙ put_sum es rise

-- a test of bytes that stop at the greatest number
pub crowded_is : (b : Bool) (bytes entry sum whole : ℕ) → (IsTrue b ↔ (bytes ≤ 3970)) → bytes ≡ min (min entry (2 ^ 64 - 1) + sum) (2 ^ 64 - 1) → whole ≡ entry + sum → not b ≡ nat_lt 3970 whole
crowded_is b bytes entry sum whole test bytes_is whole_is =
    elim (cases_lt 3970 whole) [
      | inl above ↦ ap not (Rattle.std.proofs.lemmas.Bool.false_from_ne_true b (λ t. let low = test.0 t in absurd (omega (arith, low, bytes_is, whole_is, above)))) ∙ sym (lt-ltb 3970 whole above)
      | inr within ↦ ap not (test.1 (omega (arith, bytes_is, whole_is, within))) ∙ sym (le-ltb 3970 whole within)
    ]
