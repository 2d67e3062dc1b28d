-- How many blocks of a file are no holes, and how many a map of blocks has.
use Rattle.std.proofs.Common.{◌≡◌, ◌≤◌, ◌<◌, ◌+◌, ◌-◌, ◌*◌, ◌/◌, ℕ, zero, suc, Bool, true, false, cond, List, [], ◌∷◌, map, length, Option, Some, None, nat_le, refl, sym, ap, ◌∙◌, arith, inl, inr}
use Rattle.std.specs.Prelude.{filter, if◌then◌else◌}
use Rattle.std.specs.Option.{is_some}
use Rattle.std.specs.Ordering.{nat_cmp}
use Rattle.std.specs.declared.cmp.Ordering.TheVariants.{Equal}
use Rattle.std.specs.Cmp.{nat_cmp_total, ranked}
use Rattle.std.specs.FinMap.{empty, entries, entries_sorted, entries-from_sorted, from_sorted, get, get-empty, get-entries, get-from_sorted, get-retain_keys, insert, keys, len, len-empty, len-entries, len-insert, nat_cmp-IsAntisymmetric, remove, retain_keys, same_map}
use Rattle.std.specs.FinMap.Entries.{find-where_key, is_sorted-where_key, where_key}
use Rattle.std.proofs.lemmas.Bool.{cases_Bool, cases_eq, cases_lt, le-leb, lt-leb}
use Rattle.flat_model.proofs.Maps.{get_insert_other, get_insert_same, get_remove_other, get_remove_same, some_none}
use Rattle.flat_model.specs.Contents.{block_bytes}
use Rattle.flat_model.specs.Needs.{blocks_past}
use Rattle.flat_model.specs.Records.{Blocks, FileRecord}
use Rattle.file_extents.specs.Extents.{Contents, held_between}

-- ---- parts

pub held_split : (c : Contents) (from n m : ℕ) → held_between c from (n + m) ≡ held_between c from n + held_between c (from + n) m
held_split c from zero m =
    let start : from + 0 ≡ from = omega arith in
    let whole : zero + m ≡ m = omega arith in
    let sum = ap (held_between c from) whole in
    let moved = ap (λ (f : ℕ). held_between c f m) start in
    omega (arith, sum, moved)
held_split c from (suc n) m =
    let long : suc n + m ≡ suc (n + m) = omega arith in
    let start : suc from + n ≡ from + suc n = omega arith in
    let rest = held_split c (suc from) n m in
    let moved = ap (λ (f : ℕ). held_between c f m) start in
    let first = ap (held_between c from) long in
    omega (arith, rest, moved, first)

pub held_same : (c d : Contents) (n from : ℕ) → ((k : ℕ) → from ≤ k → k < from + n → is_some (c k) ≡ is_some (d k)) → held_between c from n ≡ held_between d from n
held_same c d zero from h = refl
held_same c d (suc n) from h =
    let first = h from (omega arith) (omega arith) in
    let rest = held_same c d n (suc from) (λ k low high. h k (omega (arith, low)) (omega (arith, high))) in
    (λ i. (if first i then 1 else 0) + rest i)

pub held_none : (c : Contents) (n from : ℕ) → ((k : ℕ) → from ≤ k → k < from + n → c k ≡ None) → held_between c from n ≡ 0
held_none c zero from h = refl
held_none c (suc n) from h =
    let first : is_some (c from) ≡ false = ap is_some (h from (omega arith) (omega arith)) in
    let rest = held_none c n (suc from) (λ k low high. h k (omega (arith, low)) (omega (arith, high))) in
    (λ i. (if first i then 1 else 0) + rest i)

pub held_all : (c : Contents) (n from : ℕ) → ((k : ℕ) → from ≤ k → k < from + n → is_some (c k) ≡ true) → held_between c from n ≡ n
held_all c zero from h = refl
held_all c (suc n) from h =
    let first = h from (omega arith) (omega arith) in
    let rest = held_all c n (suc from) (λ k low high. h k (omega (arith, low)) (omega (arith, high))) in
    (λ i. (if first i then 1 else 0) + rest i) ∙ omega arith

one_most : (b : Bool) → (if b then 1 else 0) ≤ 1
one_most true = omega arith
one_most false = omega arith

pub held_most : (c : Contents) (n from : ℕ) → held_between c from n ≤ n
held_most c zero from = omega arith
held_most c (suc n) from =
    let first = one_most (is_some (c from)) in
    let rest = held_most c n (suc from) in
    omega (arith, first, rest)

-- ---- a map of blocks

none_at : (m : Blocks) → ((k : ℕ) (x : List ℕ) → get m k ≡ Some x → ⊥) → (q : ℕ) → get m q ≡ None
none_at m none q = by (get m q) refl
  where
    by : (o : Option (List ℕ)) → get m q ≡ o → o ≡ None
    by None h = refl
    by (Some x) h = absurd (none q x h)

-- a map and what it has at one number
put_back : (m : Blocks) (n : ℕ) (o : Option (List ℕ)) → get m n ≡ o → cond (is_some o) 1 0 + len (remove m n) ≡ len m
put_back m n None h =
    let same : remove m n ≡ m = same_map nat_cmp_total nat_cmp-IsAntisymmetric (remove m n) m (λ q. elim (cases_eq q n) [
      | inl same ↦ ap (get (remove m n)) same ∙ get_remove_same m n ∙ sym (ap (get m) same ∙ h)
      | inr other ↦ get_remove_other m n q other
    ]) in
    omega (arith, ap len same)
put_back m n (Some x) h =
    let rest : Blocks = remove m n in
    let same : insert rest n x ≡ m = same_map nat_cmp_total nat_cmp-IsAntisymmetric (insert rest n x) m (λ q. elim (cases_eq q n) [
      | inl same ↦ ap (get (insert rest n x)) same ∙ get_insert_same rest n x ∙ sym (ap (get m) same ∙ h)
      | inr other ↦ get_insert_other rest n x q other ∙ get_remove_other m n q other
    ]) in
    let size = len-insert nat_cmp_total rest n x in
    let fresh : is_some (get rest n) ≡ false = ap is_some (get_remove_same m n) in
    let one = ap (λ (b : Bool). cond b (len rest) (len rest + 1)) fresh in
    omega (arith, ap len same, size, one)

pub len_held : (n : ℕ) (m : Blocks) → ((k : ℕ) (x : List ℕ) → get m k ≡ Some x → k < n) → len m ≡ held_between (get m) 0 n
len_held zero m low =
    ap len (same_map nat_cmp_total nat_cmp-IsAntisymmetric m empty (λ q. none_at m (λ k x h. let l = low k x h in omega (arith, l)) q ∙ sym (get-empty nat_cmp q))) ∙ len-empty nat_cmp (List ℕ)
len_held (suc n) m low =
    let rest : Blocks = remove m n in
    let lower : (k : ℕ) (x : List ℕ) → get rest k ≡ Some x → k < n = λ k x h. elim (cases_eq k n) [
      | inl same ↦ absurd (some_none x (sym h ∙ ap (get rest) same ∙ get_remove_same m n))
      | inr other ↦ let l = low k x (sym (get_remove_other m n k other) ∙ h) in omega (arith, l, other)
    ] in
    let before = len_held n rest lower in
    let same = held_same (get rest) (get m) n 0 (λ k l h. ap is_some (get_remove_other m n k (omega (arith, h)))) in
    let removed : cond (is_some (get m n)) 1 0 + len rest ≡ len m = put_back m n (get m n) refl in
    let split = held_split (get m) 0 n 1 in
    let long : suc n ≡ n + 1 = omega arith in
    let size = ap (held_between (get m) 0) long in
    let front : 0 + n ≡ n = omega arith in
    let start = ap (λ (f : ℕ). held_between (get m) f 1) front in
    let one : held_between (get m) n 1 ≡ cond (is_some (get m n)) 1 0 = last_one (get m) n in
    omega (arith, before, same, removed, split, size, start, one)
  where
    last_one : (c : Contents) (n : ℕ) → held_between c n 1 ≡ cond (is_some (c n)) 1 0
    last_one c n = by (is_some (c n)) refl
      where
        by : (b : Bool) → is_some (c n) ≡ b → held_between c n 1 ≡ cond b 1 0
        by true h = ap (λ (b : Bool). (if b then 1 else 0) + 0) h
        by false h = ap (λ (b : Bool). (if b then 1 else 0) + 0) h

-- ---- the blocks past a size

kept_length : (p : ℕ → Bool) (es : List (ℕ × List ℕ)) → length (filter p (map (λ (e : ℕ × List ℕ). e.0) es)) ≡ length (where_key nat_cmp p es)
kept_length p [] = refl
kept_length p (e ∷ es) = elim (cases_Bool (p e.0)) [
  | inl stays ↦ rw stays (ap suc (kept_length p es))
  | inr goes ↦ rw goes (kept_length p es)
]

past_len : (m : Blocks) (p : ℕ → Bool) → length (filter p (keys m)) ≡ len (retain_keys m p)
past_len m p =
    let kept : List (ℕ × List ℕ) = where_key nat_cmp p (entries m) in
    let sorted = is_sorted-where_key nat_cmp p (entries m) (entries_sorted m) in
    let alike : (q x : ℕ) → nat_cmp q x ≡ Equal → p x ≡ p q = λ q x e. ap p (sym (ranked q x Equal (sym e))) in
    let same : retain_keys m p ≡ from_sorted kept = same_map nat_cmp_total nat_cmp-IsAntisymmetric _ _ (λ q.
    get-retain_keys m p q (alike q)
    ∙ sym (get-from_sorted nat_cmp kept q sorted ∙ find-where_key nat_cmp p q (alike q) (entries m) ∙ ap (λ (o : Option (List ℕ)). cond (p q) o None) (sym (get-entries m q)))) in
    kept_length p (entries m) ∙ ap length (sym (entries-from_sorted nat_cmp kept sorted)) ∙ sym (len-entries (from_sorted kept)) ∙ ap len (sym same)

pub past_held : (most : ℕ) (file : FileRecord) (size : ℕ) → ((k : ℕ) (x : List ℕ) → get file.blocks k ≡ Some x → k < most) → (size + 4095) / 4096 ≤ most
    → blocks_past file size ≡ held_between (get file.blocks) ((size + 4095) / 4096) (most - (size + 4095) / 4096)
past_held most file size low few =
    let p : ℕ → Bool = λ number. nat_le size (number * block_bytes) in
    let m = retain_keys file.blocks p in
    let at : (q : ℕ) → get m q ≡ cond (p q) (get file.blocks q) None = λ q. get-retain_keys file.blocks p q (λ x e. ap p (sym (ranked q x Equal (sym e)))) in
    let from = (size + 4095) / 4096 in
    let below : (q : ℕ) → q < from → get m q ≡ None = λ q h. at q ∙ ap (λ (b : Bool). cond b (get file.blocks q) None) (lt-leb size (q * block_bytes) (omega (arith, h))) in
    let above : (q : ℕ) → from ≤ q → get m q ≡ get file.blocks q = λ q h. at q ∙ ap (λ (b : Bool). cond b (get file.blocks q) None) (le-leb size (q * block_bytes) (omega (arith, h))) in
    let lower : (k : ℕ) (x : List ℕ) → get m k ≡ Some x → k < most = λ k x h. elim (cases_lt k from) [
      | inl under ↦ absurd (some_none x (sym h ∙ below k under))
      | inr over ↦ low k x (sym (above k over) ∙ h)
    ] in
    let all = len_held most m lower in
    let whole : from + (most - from) ≡ most = omega (arith, few) in
    let sum = ap (held_between (get m) 0) whole in
    let split = held_split (get m) 0 from (most - from) in
    let front : 0 + from ≡ from = omega arith in
    let start = ap (λ (f : ℕ). held_between (get m) f (most - from)) front in
    let none = held_none (get m) from 0 (λ k l h. below k (omega (arith, h))) in
    let same = held_same (get m) (get file.blocks) (most - from) from (λ k l h. ap is_some (above k l)) in
    let count = past_len file.blocks p in
    omega (arith, all, sum, split, start, none, same, count)

pub len_most : (most : ℕ) (m : Blocks) → ((k : ℕ) (x : List ℕ) → get m k ≡ Some x → k < most) → len m ≤ most
len_most most m low =
    let all = len_held most m low in
    let few = held_most (get m) most 0 in
    omega (arith, all, few)

-- past all blocks there is none
pub past_none : (most : ℕ) (file : FileRecord) (size : ℕ) → ((k : ℕ) (x : List ℕ) → get file.blocks k ≡ Some x → k < most) → most * 4096 ≤ size → blocks_past file size ≡ 0
past_none most file size low large =
    let lower : (k : ℕ) (x : List ℕ) → get file.blocks k ≡ Some x → k < (size + 4095) / 4096 = λ k x h. let l = low k x h in omega (arith, l, large) in
    let past = past_held ((size + 4095) / 4096) file size lower (omega arith) in
    let nothing : (size + 4095) / 4096 - (size + 4095) / 4096 ≡ 0 = omega arith in
    past ∙ ap (held_between (get file.blocks) ((size + 4095) / 4096)) nothing

-- those from the block on that the size ends in are at most one more than those past it
pub held_cut : (most : ℕ) (file : FileRecord) (size : ℕ) → ((k : ℕ) (x : List ℕ) → get file.blocks k ≡ Some x → k < most) → (size + 4095) / 4096 ≤ most
    → held_between (get file.blocks) (size / 4096) (most - size / 4096) ≤ blocks_past file size + 1
held_cut most file size low few =
    let from = size / 4096 in
    let end = (size + 4095) / 4096 in
    let c = get file.blocks in
    let past = past_held most file size low few in
    let split = held_split c from (end - from) (most - end) in
    let front = held_most c (end - from) from in
    let whole : (end - from) + (most - end) ≡ most - from = omega (arith, few) in
    let sum = ap (held_between c from) whole in
    let start : from + (end - from) ≡ end = omega arith in
    let moved = ap (λ (f : ℕ). held_between c f (most - end)) start in
    let one : end - from ≤ 1 = omega arith in
    at_most_one past split front sum moved one
  where
    at_most_one : {past here all front back whole gap : ℕ} → past ≡ back → here ≡ front + all → front ≤ gap → here ≡ whole → all ≡ back → gap ≤ 1 → whole ≤ past + 1
    at_most_one p q r s t u = omega arith
