-- The blocks of a file once a text has been written to it and once it has been cut, one by one, and how many they are.
use Rattle.std.proofs.Common.{◌≡◌, ◌≢◌, ◌⊎◌, ◌≤◌, ◌<◌, ◌+◌, ◌-◌, ◌*◌, ◌/◌, ◌%◌, ◌++◌, ℕ, zero, suc, Bool, true, false, List, length, get_or, replicate, take, Option, Some, None, nat_eq, nat_lt, refl, sym, ap, subst, ◌∙◌, arith, inl, inr}
use Rattle.std.specs.Prelude.{cond, fold, if◌then◌else◌, slice_index}
use Rattle.std.specs.List.{range_with_len}
use Rattle.std.specs.Option.{is_some, option_map}
use Rattle.std.specs.declared.cmp.Ordering.TheVariants.{Equal}
use Rattle.std.specs.Cmp.{ranked}
use Rattle.std.specs.FinMap.{get, insert, len, retain_keys, get-retain_keys}
use Rattle.std.proofs.lemmas.Bool.{cases_eq, cases_lt, eq-eqb, le-ltb, lt-ltb, ne_eqb}
use Rattle.std.proofs.lemmas.List.{ext_get_or, get_or-append_right, get_or-replicate, get_or-take, get_or_append_left, length-append, length-replicate, length-take-le}
use Rattle.flat_model.specs.Coherent.{KeepsBlockLimits, KeepsFileLimits}
use Rattle.flat_model.specs.Contents.{block_bytes, block_written, cut_block, truncated, with_cut_block, written}
use Rattle.flat_model.specs.Records.{Blocks, FileRecord}
use Rattle.flat_model.proofs.Maps.{get_insert_other, get_insert_same, some_none}
use Rattle.file_extents.specs.Extents.{Contents, cleared, held_between, with_block, with_blocks}
use Rattle.file_extents.proofs.Runs.{inside, outside, with_in, with_out}
use Rattle.file_contents.specs.Written.{end_block, first_block}
use Rattle.file_contents.proofs.Counting.{held_all, held_most, held_none, held_same, held_split, len_held}
use Rattle.file_contents.proofs.Puts.{with_none}

-- ---- a text that is written

folded : (f : ℕ → List ℕ) (n a : ℕ) (m : Blocks) (q : ℕ) → get (fold (λ (blocks : Blocks) number. insert blocks number (f number)) m (range_with_len a n)) q ≡ with_blocks (get m) f a (a + n) q
folded f zero a m q = with_none (get m) f a q ∙ ap (λ (e : ℕ). with_blocks (get m) f a e q) (omega arith)
folded f (suc n) a m q =
    folded f n (a + 1) (insert m a (f a)) q
    ∙ (elim (cases_eq q a) [
      | inl same ↦
          with_out (get (insert m a (f a))) f (a + 1) (a + 1 + n) q (inl (omega (arith, same)))
          ∙ ap (get (insert m a (f a))) same ∙ get_insert_same m a (f a) ∙ ap (λ (k : ℕ). Some (f k)) (sym same)
          ∙ sym (with_in (get m) f a (a + suc n) q (omega (arith, same)) (omega (arith, same)))
      | inr other ↦ elim (cases_lt q a) [
        | inl low ↦
            with_out (get (insert m a (f a))) f (a + 1) (a + 1 + n) q (inl (omega (arith, low)))
            ∙ get_insert_other m a (f a) q other ∙ sym (with_out (get m) f a (a + suc n) q (inl low))
        | inr high ↦ elim (cases_lt q (a + suc n)) [
          | inl within ↦
              with_in (get (insert m a (f a))) f (a + 1) (a + 1 + n) q (omega (arith, high, other)) (omega (arith, within))
              ∙ sym (with_in (get m) f a (a + suc n) q (omega (arith, high)) within)
          | inr past ↦
              with_out (get (insert m a (f a))) f (a + 1) (a + 1 + n) q (inr (omega (arith, past)))
              ∙ get_insert_other m a (f a) q other ∙ sym (with_out (get m) f a (a + suc n) q (inr past))
        ]
      ]
    ])

pub written_at : (file : FileRecord) (offset : ℕ) (text : List ℕ) (k : ℕ)
    → with_blocks (get file.blocks) (block_written file.blocks offset text) (first_block offset) (end_block offset (length text)) k ≡ get (written file offset text).blocks k
unfolding written
written_at file offset text k =
    let first = first_block offset in
    let end = end_block offset (length text) in
    let order : first ≤ end = omega arith in
    let whole : first + (end - first) ≡ end = omega (arith, order) in
    sym (folded (block_written file.blocks offset text) (end - first) first file.blocks k ∙ ap (λ (e : ℕ). with_blocks (get file.blocks) (block_written file.blocks offset text) first e k) whole)

pub written_size : (file : FileRecord) (offset : ℕ) (text : List ℕ) → (written file offset text).size ≡ Rattle.std.proofs.Common.max file.size (offset + length text)
unfolding written
written_size file offset text = refl

-- the parts of a count
two_parts : (most : ℕ) (c : Contents) (a b : ℕ) → a + b ≡ most → held_between c 0 most ≡ held_between c 0 a + held_between c a b
two_parts most c a b whole =
    let one = held_split c 0 a b in
    let sum = ap (held_between c 0) whole in
    let front : 0 + a ≡ a = omega arith in
    let start = ap (λ (f : ℕ). held_between c f b) front in
    omega (arith, one, sum, start)

three_parts : (most : ℕ) (c : Contents) (a b d : ℕ) → a + b + d ≡ most → held_between c 0 most ≡ held_between c 0 a + held_between c a b + held_between c (a + b) d
three_parts most c a b d whole =
    let one = two_parts most c (a + b) d whole in
    let two = held_split c 0 a b in
    let front : 0 + a ≡ a = omega arith in
    let start = ap (λ (f : ℕ). held_between c f b) front in
    omega (arith, one, two, start)

more_held : (l l' a b d a' b' d' count : ℕ) → l ≡ a + b + d → l' ≡ a' + b' + d' → a' ≡ a → d' ≡ d → b' ≡ count → b ≤ count → l' ≡ l + (count - b)
more_held l l' a b d a' b' d' count p q r s t u = omega arith

fewer_held : (l l' a b a' b' : ℕ) → l ≡ a + b → l' ≡ a' + b' → a' ≡ a → b' ≡ 0 → l ≡ l' + b
fewer_held l l' a b a' b' p q r s = omega arith

-- how many blocks the file has then
pub written_len : (most : ℕ) (file : FileRecord) (offset : ℕ) (text : List ℕ) → ((k : ℕ) (x : List ℕ) → get file.blocks k ≡ Some x → k < most) → end_block offset (length text) ≤ most
    → len (written file offset text).blocks ≡ len file.blocks + (end_block offset (length text) - first_block offset - held_between (get file.blocks) (first_block offset) (end_block offset (length text) - first_block offset))
written_len most file offset text low few =
    let first = first_block offset in
    let end = end_block offset (length text) in
    let count = end - first in
    let old = get file.blocks in
    let new = get (written file offset text).blocks in
    let order : first ≤ end = omega arith in
    let out : (k : ℕ) → (k < first) ⊎ (end ≤ k) → new k ≡ old k = λ k h. sym (written_at file offset text k) ∙ with_out old (block_written file.blocks offset text) first end k h in
    let in_it : (k : ℕ) → first ≤ k → k < end → new k ≡ Some (block_written file.blocks offset text k) = λ k l h. sym (written_at file offset text k) ∙ with_in old (block_written file.blocks offset text) first end k l h in
    let low_now : (k : ℕ) (x : List ℕ) → new k ≡ Some x → k < most = λ k x h. elim (cases_lt k end) [
      | inl below ↦ omega (arith, below, few)
      | inr past ↦ low k x (sym (out k (inr past)) ∙ h)
    ] in
    let before = len_held most file.blocks low in
    let after = len_held most (written file offset text).blocks low_now in
    let parts = three_parts most old first count (most - end) (omega (arith, order, few)) in
    let parts_now = three_parts most new first count (most - end) (omega (arith, order, few)) in
    let front = held_same new old first 0 (λ k l h. ap is_some (out k (inl (omega (arith, h))))) in
    let back = held_same new old (most - end) (first + count) (λ k l h. ap is_some (out k (inr (omega (arith, l, order))))) in
    let middle = held_all new count first (λ k l h. ap is_some (in_it k l (omega (arith, h, order)))) in
    let some = held_most old count first in
    more_held _ _ _ _ _ _ _ _ count (before ∙ parts) (after ∙ parts_now) front back middle some

-- ---- a file that is cut

abbrev kept : FileRecord → ℕ → Blocks
kept file size = retain_keys file.blocks (λ number. nat_lt (number * block_bytes) size)

kept_at : (file : FileRecord) (size q : ℕ) → get (kept file size) q ≡ cond (nat_lt (q * block_bytes) size) (get file.blocks q) None
kept_at file size q =
    get-retain_keys file.blocks (λ number. nat_lt (number * block_bytes) size) q (λ x e. ap (λ (n : ℕ). nat_lt (n * block_bytes) size) (sym (ranked q x Equal (sym e))))

kept_low : (file : FileRecord) (size q : ℕ) → q * 4096 < size → get (kept file size) q ≡ get file.blocks q
kept_low file size q h = kept_at file size q ∙ ap (λ (b : Bool). cond b (get file.blocks q) None) (lt-ltb (q * 4096) size h)

kept_high : (file : FileRecord) (size q : ℕ) → size ≤ q * 4096 → get (kept file size) q ≡ None
kept_high file size q h = kept_at file size q ∙ ap (λ (b : Bool). cond b (get file.blocks q) None) (le-ltb (q * 4096) size h)

cut_here : (b : Blocks) (number n : ℕ) → get (with_cut_block b number n) number ≡ option_map (λ block. cut_block block n) (get b number)
cut_here b number n = by (get b number) refl
  where
    by : (o : Option (List ℕ)) → get b number ≡ o → get (elim o as (λ o. Blocks) [ None ↦ b | Some bytes ↦ insert b number (cut_block bytes n) ]) number ≡ option_map (λ block. cut_block block n) o
    by None h = h
    by (Some bytes) h = get_insert_same b number (cut_block bytes n)

cut_other : (b : Blocks) (number n q : ℕ) → q ≢ number → get (with_cut_block b number n) q ≡ get b q
cut_other b number n q other = by (get b number)
  where
    by : (o : Option (List ℕ)) → get (elim o as (λ o. Blocks) [ None ↦ b | Some bytes ↦ insert b number (cut_block bytes n) ]) q ≡ get b q
    by None = refl
    by (Some bytes) = get_insert_other b number (cut_block bytes n) q other

truncated_last : (file : FileRecord) (size : ℕ) → get (truncated file size).blocks (size / 4096) ≡ option_map (λ block. cut_block block (size % 4096)) (get (kept file size) (size / 4096))
unfolding truncated
truncated_last file size = cut_here (kept file size) (size / 4096) (size % 4096)

truncated_other : (file : FileRecord) (size q : ℕ) → q ≢ size / 4096 → get (truncated file size).blocks q ≡ get (kept file size) q
unfolding truncated
truncated_other file size q other = cut_other (kept file size) (size / 4096) (size % 4096) q other

pub truncated_size : (file : FileRecord) (size : ℕ) → (truncated file size).size ≡ size
unfolding truncated
truncated_size file size = refl

-- the block that the size ends in, where it doesn't end with a block
pub cut_last : (file : FileRecord) (size : ℕ) → size % 4096 ≢ 0 → get (truncated file size).blocks (size / 4096) ≡ option_map (λ block. cut_block block (size % 4096)) (get file.blocks (size / 4096))
cut_last file size some = truncated_last file size ∙ ap (option_map (λ block. cut_block block (size % 4096))) (kept_low file size (size / 4096) (omega (arith, some)))

-- and where it does
pub cut_none : (file : FileRecord) (size : ℕ) → size % 4096 ≡ 0 → get (truncated file size).blocks (size / 4096) ≡ None
cut_none file size even = truncated_last file size ∙ ap (option_map (λ block. cut_block block (size % 4096))) (kept_high file size (size / 4096) (omega (arith, even)))

pub cut_kept : (file : FileRecord) (size : ℕ)
    → get (truncated file size).blocks (size / 4096) ≡ cond (nat_eq (size % 4096) 0) None (option_map (λ block. cut_block block (size % 4096)) (get file.blocks (size / 4096)))
cut_kept file size = elim (cases_eq (size % 4096) 0) [
  | inl even ↦ cut_none file size even ∙ sym (ap (λ (b : Bool). cond b None (option_map (λ block. cut_block block (size % 4096)) (get file.blocks (size / 4096)))) (eq-eqb (size % 4096) 0 even))
  | inr odd ↦ cut_last file size odd ∙ sym (ap (λ (b : Bool). cond b None (option_map (λ block. cut_block block (size % 4096)) (get file.blocks (size / 4096)))) (ne_eqb (size % 4096) 0 odd))
]

pub cut_below : (file : FileRecord) (size q : ℕ) → q < size / 4096 → get (truncated file size).blocks q ≡ get file.blocks q
cut_below file size q low = truncated_other file size q (omega (arith, low)) ∙ kept_low file size q (omega (arith, low))

pub cut_above : (file : FileRecord) (size q : ℕ) → size / 4096 < q → get (truncated file size).blocks q ≡ None
cut_above file size q high = truncated_other file size q (omega (arith, high)) ∙ kept_high file size q (omega (arith, high))

module _ (file : FileRecord) (size : ℕ) (low : (k : ℕ) (x : List ℕ) → get file.blocks k ≡ Some x → k < 4096) where
  past_none : (k : ℕ) → 4096 ≤ k → get file.blocks k ≡ None
  past_none k high = by (get file.blocks k) refl
    where
      by : (o : Option (List ℕ)) → get file.blocks k ≡ o → o ≡ None
      by None h = refl
      by (Some x) h = let l = low k x h in absurd (omega (arith, l, high))

  cleared_below : (k : ℕ) → k < size / 4096 → cleared (get file.blocks) (size / 4096) 4096 k ≡ get (truncated file size).blocks k
  cleared_below k h = ap (λ (b : Bool). if b then None else get file.blocks k) (outside (size / 4096) 4096 k (inl h)) ∙ sym (cut_below file size k h)

  cleared_above : (k : ℕ) → size / 4096 < k → cleared (get file.blocks) (size / 4096) 4096 k ≡ get (truncated file size).blocks k
  cleared_above k h = elim (cases_lt k 4096) [
    | inl within ↦ ap (λ (b : Bool). if b then None else get file.blocks k) (inside (size / 4096) 4096 k (omega (arith, h)) within) ∙ sym (cut_above file size k h)
    | inr past ↦ ap (λ (b : Bool). if b then None else get file.blocks k) (outside (size / 4096) 4096 k (inr past)) ∙ past_none k past ∙ sym (cut_above file size k h)
  ]

  -- all from the block on that the size ends in were made holes
  pub cleared_is : size / 4096 < 4096 → get (truncated file size).blocks (size / 4096) ≡ None → (k : ℕ) → cleared (get file.blocks) (size / 4096) 4096 k ≡ get (truncated file size).blocks k
  cleared_is few none k = elim (cases_eq k (size / 4096)) [
    | inl same ↦
        ap (λ (b : Bool). if b then None else get file.blocks k) (inside (size / 4096) 4096 k (omega (arith, same)) (omega (arith, same, few))) ∙ sym (ap (get (truncated file size).blocks) same ∙ none)
    | inr other ↦ elim (cases_lt k (size / 4096)) [ inl below ↦ cleared_below k below | inr above ↦ cleared_above k (omega (arith, above, other)) ]
  ]

  -- and that one was put again
  pub put_is : (block : List ℕ) → get (truncated file size).blocks (size / 4096) ≡ Some block → (k : ℕ) → with_block (cleared (get file.blocks) (size / 4096) 4096) (size / 4096) block k ≡ get (truncated file size).blocks k
  put_is block is k = elim (cases_eq k (size / 4096)) [
    | inl same ↦
        ap (λ (b : Bool). if b then Some block else cleared (get file.blocks) (size / 4096) 4096 k) (eq-eqb k (size / 4096) same) ∙ sym (ap (get (truncated file size).blocks) same ∙ is)
    | inr other ↦
        ap (λ (b : Bool). if b then Some block else cleared (get file.blocks) (size / 4096) 4096 k) (ne_eqb k (size / 4096) other)
        ∙ (elim (cases_lt k (size / 4096)) [ inl below ↦ cleared_below k below | inr above ↦ cleared_above k (omega (arith, above, other)) ])
  ]

  -- ---- how many blocks the file has then

  some_kept : (k : ℕ) → k < (size + 4095) / 4096 → is_some (get (truncated file size).blocks k) ≡ is_some (get file.blocks k)
  some_kept k h = elim (cases_eq k (size / 4096)) [
    | inl same ↦
        let some : size % 4096 ≢ 0 = λ even. omega (arith, h, same, even) in
        ap is_some (ap (get (truncated file size).blocks) same ∙ cut_last file size some) ∙ mapped (get file.blocks (size / 4096)) ∙ ap (λ (n : ℕ). is_some (get file.blocks n)) (sym same)
    | inr other ↦ ap is_some (cut_below file size k (omega (arith, h, other)))
  ]
    where
      mapped : (o : Option (List ℕ)) → is_some (option_map (λ block. cut_block block (size % 4096)) o) ≡ is_some o
      mapped None = refl
      mapped (Some x) = refl

  none_kept : (k : ℕ) → (size + 4095) / 4096 ≤ k → get (truncated file size).blocks k ≡ None
  none_kept k h = elim (cases_eq k (size / 4096)) [
    | inl same ↦ ap (get (truncated file size).blocks) same ∙ cut_none file size (omega (arith, h, same))
    | inr other ↦ cut_above file size k (omega (arith, h, other))
  ]

  pub truncated_len : (most : ℕ) → ((k : ℕ) (x : List ℕ) → get file.blocks k ≡ Some x → k < most) → (size + 4095) / 4096 ≤ most
      → len file.blocks ≡ len (truncated file size).blocks + held_between (get file.blocks) ((size + 4095) / 4096) (most - (size + 4095) / 4096)
  truncated_len most below few =
      let end = (size + 4095) / 4096 in
      let old = get file.blocks in
      let new = get (truncated file size).blocks in
      let low_now : (k : ℕ) (x : List ℕ) → new k ≡ Some x → k < most = λ k x h. elim (cases_lt k end) [
        | inl under ↦ omega (arith, under, few)
        | inr past ↦ absurd (some_none x (sym h ∙ none_kept k past))
      ] in
      let before = len_held most file.blocks below in
      let after = len_held most (truncated file size).blocks low_now in
      let parts = two_parts most old end (most - end) (omega (arith, few)) in
      let parts_now = two_parts most new end (most - end) (omega (arith, few)) in
      let front = held_same new old end 0 (λ k l h. some_kept k (omega (arith, h))) in
      let back = held_none new (most - end) end (λ k l h. none_kept k l) in
      fewer_held _ _ _ _ _ _ (before ∙ parts) (after ∙ parts_now) front back

-- ---- a file that grows

zeros_cut : (bytes : List ℕ) (n : ℕ) → length bytes ≡ 4096 → n ≤ 4096 → ((at : ℕ) → at < 4096 → n ≤ at → slice_index bytes at ≡ 0) → cut_block bytes n ≡ bytes
zeros_cut bytes n whole few zeros =
    let front = length-take-le n bytes (omega (arith, whole, few)) in
    ext_get_or 0 (cut_block bytes n) bytes (omega (arith, length-append (take n bytes) (replicate (4096 - n) 0), front, length-replicate {A = ℕ} (4096 - n) 0, whole, few)) (λ i less. elim (cases_lt i n) [
      | inl low ↦ get_or_append_left (take n bytes) (replicate (4096 - n) 0) 0 i (omega (arith, front, low)) ∙ get_or-take n bytes i 0 low
      | inr high ↦
          get_or-append_right (take n bytes) (replicate (4096 - n) 0) n i 0 front high
          ∙ get_or-replicate (4096 - n) (i - n) 0 0 (omega (arith, less, length-append (take n bytes) (replicate (4096 - n) 0), front, length-replicate {A = ℕ} (4096 - n) 0, high, few))
          ∙ sym (zeros i (omega (arith, less, length-append (take n bytes) (replicate (4096 - n) 0), front, length-replicate {A = ℕ} (4096 - n) 0, high, few)) high)
    ])

pub grown_is : (file : FileRecord) (size : ℕ) → KeepsFileLimits file → file.size ≤ size → (k : ℕ) → get file.blocks k ≡ get (truncated file size).blocks k
grown_is file size limits grows k = by (get file.blocks k) refl
  where
    low_then : (x : List ℕ) → get file.blocks k ≡ Some x → k * 4096 < size
    low_then x h = let b = (limits.blocks k x h).begins_below_size in omega (arith, b, grows)

    same_cut : (x : List ℕ) → get file.blocks k ≡ Some x → k ≡ size / 4096 → cut_block x (size % 4096) ≡ x
    same_cut x h at =
        let l : KeepsBlockLimits file.size k x = limits.blocks k x h in
        zeros_cut x (size % 4096) l.whole (omega arith) (λ place less past. l.zeros_past_size place less (omega (arith, past, at, grows)))

    by : (o : Option (List ℕ)) → get file.blocks k ≡ o → o ≡ get (truncated file size).blocks k
    by None h = elim (cases_eq k (size / 4096)) [
      | inl same ↦
          sym (ap (get (truncated file size).blocks) same ∙ truncated_last file size
          ∙ ap (option_map (λ block. cut_block block (size % 4096))) (kept_at file size (size / 4096) ∙ ap (λ (o : Option (List ℕ)). cond (nat_lt (size / 4096 * block_bytes) size) o None) (ap (get file.blocks) (sym same) ∙ h) ∙ either (nat_lt (size / 4096 * block_bytes) size)))
      | inr other ↦ sym (truncated_other file size k other ∙ kept_at file size k ∙ ap (λ (o : Option (List ℕ)). cond (nat_lt (k * block_bytes) size) o None) h ∙ either (nat_lt (k * block_bytes) size))
    ]
      where
        either : (b : Bool) → cond {A = Option (List ℕ)} b None None ≡ None
        either true = refl
        either false = refl
    by (Some x) h = elim (cases_eq k (size / 4096)) [
      | inl same ↦
          sym (ap (get (truncated file size).blocks) same ∙ truncated_last file size
          ∙ ap (option_map (λ block. cut_block block (size % 4096))) (ap (get (kept file size)) (sym same) ∙ kept_low file size k (low_then x h) ∙ h) ∙ ap (λ (b : List ℕ). Some b) (same_cut x h same))
      | inr other ↦ sym (truncated_other file size k other ∙ kept_low file size k (low_then x h) ∙ h)
    ]
