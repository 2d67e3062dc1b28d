-- Writes and truncates leave a file within its limits, and edits of attributes leave them within theirs.
use Rattle.std.proofs.Common.{◌≡◌, ◌≢◌, ℕ, ◌<◌, ◌≤◌, ◌+◌, ◌-◌, ◌*◌, ◌/◌, ◌%◌, max, Bool, true, false, cond, not, ◌&&◌, List, [], ◌∷◌, take, length, replicate, get_or, Some, None, refl, sym, ap, subst, ◌∙◌, arith, inl, inr, ◌⊎◌}
use Rattle.std.specs.declared.cmp.Ordering.{Ordering}
use Rattle.std.specs.declared.cmp.Ordering.TheVariants.{Less, Equal, Greater}
use Rattle.std.specs.Bool.{nat_eq, nat_lt, nat_le}
use Rattle.std.specs.Option.{unwrap_or}
use Rattle.std.specs.Ordering.{nat_cmp, is_eq, eq_by_cmp}
use Rattle.std.specs.Cmp.{nat_cmp_total}
use Rattle.std.specs.Cmp.Lexicographic.{slice_cmp, nat_list_cmp_total}
use Rattle.std.specs.List.{Contains, All, fold, filter, sum_by, range_with_len}
use Rattle.std.specs.FinMap.{FinMap, get, insert, remove, retain_keys, entries, entries_sorted, entries-insert, from_sorted, entries-from_sorted, get-from_sorted, get-insert, get-remove, get-entries, get-retain_keys, same_map, nat_cmp-IsAntisymmetric, slice_cmp-IsAntisymmetric}
use Rattle.std.specs.FinMap.Entries.{put, where_key, by_order, is_sorted-where_key, find-where_key}
use Rattle.std.proofs.lemmas.Bool.{true≢false, cases_eq, cases_Bool, and_parts, and_from, eqb-true, eq-eqb, ne_eqb, ltb-true, ltb-false, leb-true, lt-ltb, le-ltb, not-true}
use Rattle.std.proofs.lemmas.Nat.{div-add-mod', mod_below, div-mul-add, mod-mul-add}
use Rattle.std.proofs.lemmas.List.{length-append, length-replicate, length-take-le, get_or-replicate, get_or-append_right}
use Rattle.std.proofs.lemmas.List.Elements.{All-map, All-append, All-take, All-replicate}
use Rattle.std.proofs.lemmas.List.FromFn.{length-range_with_len, get_or-range_with_len, length-map-range_with_len, get_or-map-range_with_len}
use Rattle.std.proofs.lemmas.List.Sums.{sum_by-cons}
use Rattle.blk_base.specs.Crc.{name_hash_of}
use Rattle.flat_model.specs.Records.{Attributes, Blocks, FileRecord}
use Rattle.flat_model.specs.Lengths.{most_item_bytes, attribute_length, xattr_item_length}
use Rattle.flat_model.specs.Contents.{block_bytes, most_file_bytes, block_of, byte_at, byte_written, block_written, blocks_touched, written, cut_block, with_cut_block, truncated}
use Rattle.flat_model.specs.Coherent.{AreBytes, IsNameBytes, KeepAttributeLimits, KeepsBlockLimits, KeepsFileLimits}
use Rattle.flat_model.proofs.Maps.{some_same, some_none, insert_cases, sum_filter_le}

-- ---- bytes of a file

hole_byte : (at : ℕ) → at < 4096 → get_or {A = ℕ} (replicate 4096 0) at 0 ≡ 0
hole_byte at below = get_or-replicate 4096 at 0 0 below

module _ (file : FileRecord) (keeps : KeepsFileLimits file) where
  block_byte_below : (number at : ℕ) → at < 4096 → get_or (block_of file.blocks number) at 0 < 256
  block_byte_below number at below =
      elim (get file.blocks number) as (λ o. get file.blocks number ≡ o → get_or (unwrap_or o (replicate 4096 0)) at 0 < 256) [
        | None ↦ λ e. omega (arith, hole_byte at below)
        | Some bytes ↦ λ e. let limits = keeps.blocks number bytes e in limits.are_bytes at 0 (omega (arith, below, limits.whole))
      ] refl

  block_byte_zero : (number at : ℕ) → at < 4096 → file.size ≤ number * 4096 + at → get_or (block_of file.blocks number) at 0 ≡ 0
  block_byte_zero number at below past =
      elim (get file.blocks number) as (λ o. get file.blocks number ≡ o → get_or (unwrap_or o (replicate 4096 0)) at 0 ≡ 0) [
        | None ↦ λ e. hole_byte at below
        | Some bytes ↦ λ e. (keeps.blocks number bytes e).zeros_past_size at below past
      ] refl

  byte_at_below : (offset : ℕ) → byte_at file.blocks offset < 256
  byte_at_below offset = block_byte_below (offset / 4096) (offset % 4096) (mod_below offset 4096 (omega arith))

  byte_at_zero : (number at : ℕ) → at < 4096 → file.size ≤ number * 4096 + at → byte_at file.blocks (number * 4096 + at) ≡ 0
  byte_at_zero number at below past =
      (λ i. get_or (block_of file.blocks (div-mul-add number 4096 at below i)) (mod-mul-add number 4096 at below i) 0) ∙ block_byte_zero number at below past

  -- ---- writes

  byte_written_below : (offset : ℕ) (text : List ℕ) → AreBytes text → (at : ℕ) → byte_written file.blocks offset text at < 256
  byte_written_below offset text bytes at =
      elim (cases_Bool (nat_le offset at && nat_lt at (offset + length text))) [
        | inl t ↦
            let parts = and_parts (nat_le offset at) (nat_lt at (offset + length text)) t in
            let low = leb-true offset at parts.0 in
            let high = ltb-true at (offset + length text) parts.1 in
            subst (λ b. cond b (get_or text (at - offset) 0) (byte_at file.blocks at) < 256) (sym t) (bytes (at - offset) 0 (omega (arith, low, high)))
        | inr f ↦ subst (λ b. cond b (get_or text (at - offset) 0) (byte_at file.blocks at) < 256) (sym f) (byte_at_below at)
      ]

  byte_written_past : (offset : ℕ) (text : List ℕ) (number at : ℕ) → at < 4096 → max file.size (offset + length text) ≤ number * 4096 + at → byte_written file.blocks offset text (number * 4096 + at) ≡ 0
  byte_written_past offset text number at below past =
      ap (λ b. cond (nat_le offset (number * 4096 + at) && b) (get_or text (number * 4096 + at - offset) 0) (byte_at file.blocks (number * 4096 + at))) (le-ltb _ _ (omega (arith, past)))
      ∙ outside (nat_le offset (number * 4096 + at)) ∙ byte_at_zero number at below (omega (arith, past))
    where
      outside : (b : Bool) → cond (b && false) (get_or text (number * 4096 + at - offset) 0) (byte_at file.blocks (number * 4096 + at)) ≡ byte_at file.blocks (number * 4096 + at)
      outside true = refl
      outside false = refl

  block_written_limits : (offset : ℕ) (text : List ℕ) → AreBytes text → (number : ℕ) → number * 4096 < max file.size (offset + length text) → KeepsBlockLimits (max file.size (offset + length text)) number (block_written file.blocks offset text number)
  block_written_limits offset text bytes number begins = record {
    begins_below_size = begins;
    whole = length-map-range_with_len (byte_written file.blocks offset text) (number * 4096) 4096;
    are_bytes = All-map (λ byte. byte < 256) (byte_written file.blocks offset text) (range_with_len (number * 4096) 4096) (λ k d below. byte_written_below offset text bytes (get_or (range_with_len (number * 4096) 4096) k d));
    zeros_past_size = λ at below past. get_or-map-range_with_len (byte_written file.blocks offset text) (number * 4096) 4096 at (number * 4096 + at) 0 below refl ∙ byte_written_past offset text number at below past;
  }

-- a block that is within its limits stays so where the file grows
grown_limits : (size larger number : ℕ) (bytes : List ℕ) → size ≤ larger → KeepsBlockLimits size number bytes → KeepsBlockLimits larger number bytes
grown_limits size larger number bytes grows limits = record {
  begins_below_size = let begins = limits.begins_below_size in omega (arith, grows, begins);
  whole = limits.whole;
  are_bytes = limits.are_bytes;
  zeros_past_size = λ at below past. limits.zeros_past_size at below (omega (arith, grows, past));
}

range_member : (a n q : ℕ) → Contains (range_with_len a n) q → (a ≤ q) × (q < a + n)
range_member a n q c =
    let below : c.0 < n = omega (arith, c.1, length-range_with_len a n) in
    let is = get_or-range_with_len a n c.0 q below in
    (omega (arith, is, c.2), omega (arith, is, c.2, below))

-- what is at a key after insertions at the keys of a list
insert_all_cases : {X : Type 0} (f : ℕ → X) (keys : List ℕ) (m : FinMap nat_cmp X) (q : ℕ) (x : X) → get (fold (λ (n : FinMap nat_cmp X) k. insert n k (f k)) m keys) q ≡ Some x → (Contains keys q × (x ≡ f q)) ⊎ (get m q ≡ Some x)
insert_all_cases f [] m q x e = inr e
insert_all_cases f (k ∷ keys) m q x e =
    elim (insert_all_cases f keys (insert m k (f k)) q x e) [
      | inl later ↦ inl (Rattle.flat_model.proofs.Lists.contains_tail k keys q later.0, later.1)
      | inr before ↦ elim (insert_cases m k (f k) q x before) [
        | inl here ↦ inl (subst (λ z. Contains (k ∷ keys) z) (sym here.0) (Rattle.flat_model.proofs.Lists.contains_head k keys), here.1 ∙ ap f (sym here.0))
        | inr old ↦ inr old.1
      ]
    ]

-- a block that a text touches begins below the text's end
touched_begins : (offset count number : ℕ) → Contains (blocks_touched offset count) number → number * 4096 < offset + count
touched_begins offset count number c =
    let member = range_member _ _ number c in
    let whole = div-add-mod' (offset + count + 4095) 4096 in
    let start = div-add-mod' offset 4096 in
    omega (arith, member.0, member.1, whole, start)

pub written_keeps : (file : FileRecord) (offset : ℕ) (text : List ℕ) → KeepsFileLimits file → AreBytes text → offset + length text ≤ most_file_bytes → KeepsFileLimits (written file offset text)
unfolding written
written_keeps file offset text keeps bytes fits = record {
  size = let size = keeps.size in omega (arith, size, fits);
  blocks = λ number block e. elim (insert_all_cases (block_written file.blocks offset text) (blocks_touched offset (length text)) file.blocks number block e) [
    | inl touched ↦ subst (KeepsBlockLimits (max file.size (offset + length text)) number) (sym touched.1)
        (block_written_limits file keeps offset text bytes number (let begins = touched_begins offset (length text) number touched.0 in omega (arith, begins)))
    | inr old ↦ grown_limits file.size (max file.size (offset + length text)) number block (omega arith) (keeps.blocks number block old)
  ];
}

pub written_attributes : (file : FileRecord) (offset : ℕ) (text : List ℕ) → (written file offset text).attributes ≡ file.attributes
unfolding written
written_attributes file offset text = refl

-- ---- truncates

retain_cases : {X : Type 0} (m : FinMap nat_cmp X) (p : ℕ → Bool) (q : ℕ) (x : X) → get (retain_keys m p) q ≡ Some x → (get m q ≡ Some x) × (p q ≡ true)
retain_cases m p q x e =
    let is = get-retain_keys m p q (λ y tie. ap p (sym (nat_cmp-IsAntisymmetric q y tie))) in
    elim (p q) as (λ b. p q ≡ b → cond b (get m q) None ≡ Some x → (get m q ≡ Some x) × (p q ≡ true)) [
      | true ↦ λ t s. (s, t)
      | false ↦ λ f s. absurd (some_none x (sym s))
    ] refl (sym is ∙ e)

cut_cases : (blocks : Blocks) (number n q : ℕ) (x : List ℕ) → get (with_cut_block blocks number n) q ≡ Some x → ((q ≡ number) × ((bytes : List ℕ) × (get blocks number ≡ Some bytes) × (x ≡ cut_block bytes n))) ⊎ ((q ≢ number) × (get blocks q ≡ Some x))
cut_cases blocks number n q x e =
    elim (get blocks number) as (λ o. get blocks number ≡ o → get (elim o [ None ↦ blocks | Some bytes ↦ insert blocks number (cut_block bytes n) ]) q ≡ Some x → ((q ≡ number) × ((bytes : List ℕ) × (get blocks number ≡ Some bytes) × (x ≡ cut_block bytes n))) ⊎ ((q ≢ number) × (get blocks q ≡ Some x))) [
      | None ↦ λ none s. inr (λ same. some_none x (sym s ∙ ap (get blocks) same ∙ none), s)
      | Some bytes ↦ λ there s. elim (insert_cases blocks number (cut_block bytes n) q x s) [
        | inl here ↦ inl (here.0, (bytes, there, here.1))
        | inr old ↦ inr old
      ]
    ] refl e

zeros_behind : (bytes : List ℕ) (n at : ℕ) → length bytes ≡ 4096 → n ≤ 4096 → n ≤ at → at < 4096 → get_or (cut_block bytes n) at 0 ≡ 0
zeros_behind bytes n at whole n_within behind below =
    get_or-append_right (take n bytes) (replicate (4096 - n) 0) n at 0 (length-take-le n bytes (omega (arith, whole, n_within))) behind
    ∙ get_or-replicate (4096 - n) (at - n) 0 0 (omega (arith, behind, below))

cut_limits : (size larger number : ℕ) (bytes : List ℕ) → number ≡ size / 4096 → number * 4096 < size → KeepsBlockLimits larger number bytes → KeepsBlockLimits size number (cut_block bytes (size % 4096))
cut_limits size larger number bytes is begins limits =
    let rest = mod_below size 4096 (omega arith) in
    let parts = div-add-mod' size 4096 in
    record {
      begins_below_size = begins;
      whole = let front = length-take-le (size % 4096) bytes (omega (arith, rest, limits.whole)) in
          omega (arith, length-append (take (size % 4096) bytes) (replicate (4096 - size % 4096) 0), front, length-replicate {A = ℕ} (4096 - size % 4096) 0, rest);
      are_bytes = All-append (λ byte. byte < 256) (take (size % 4096) bytes) (replicate (4096 - size % 4096) 0) (All-take (λ byte. byte < 256) (size % 4096) bytes limits.are_bytes) (All-replicate (λ byte. byte < 256) (4096 - size % 4096) 0 (omega arith));
      zeros_past_size = λ at below past. zeros_behind bytes (size % 4096) at limits.whole (omega (arith, rest)) (omega (arith, past, parts, is)) below;
    }

-- a block that ends within the size keeps its limits
whole_limits : (size larger number : ℕ) (bytes : List ℕ) → number ≢ size / 4096 → number * 4096 < size → KeepsBlockLimits larger number bytes → KeepsBlockLimits size number bytes
whole_limits size larger number bytes other begins limits =
    let rest = mod_below size 4096 (omega arith) in
    let parts = div-add-mod' size 4096 in
    let ends : number * 4096 + 4096 ≤ size = elim (Rattle.std.proofs.lemmas.Bool.cases_order number (size / 4096)) [
      | inl same ↦ absurd (other same)
      | inr (inl less) ↦ omega (arith, less, parts)
      | inr (inr more) ↦ absurd (omega (arith, more, parts, rest, begins))
    ] in
    record {
      begins_below_size = begins;
      whole = limits.whole;
      are_bytes = limits.are_bytes;
      zeros_past_size = λ at below past. absurd (omega (arith, ends, below, past));
    }

pub truncated_keeps : (file : FileRecord) (size : ℕ) → KeepsFileLimits file → size ≤ most_file_bytes → KeepsFileLimits (truncated file size)
unfolding truncated
truncated_keeps file size keeps fits = record {
  size = fits;
  blocks = λ number block e.
      let kept = retain_keys file.blocks (λ n. nat_lt (n * block_bytes) size) in
      elim (cut_cases kept (size / block_bytes) (size % block_bytes) number block e) [
        | inl cut ↦
            let old = retain_cases file.blocks (λ n. nat_lt (n * block_bytes) size) (size / block_bytes) cut.1.0 cut.1.1 in
            subst (λ n. KeepsBlockLimits size n block) (sym cut.0) (subst (KeepsBlockLimits size (size / 4096)) (sym cut.1.2)
            (cut_limits size file.size (size / 4096) cut.1.0 refl (ltb-true _ _ old.1) (keeps.blocks (size / 4096) cut.1.0 old.0)))
        | inr other ↦
            let old = retain_cases file.blocks (λ n. nat_lt (n * block_bytes) size) number block other.1 in
            whole_limits size file.size number block other.0 (ltb-true _ _ old.1) (keeps.blocks number block old.0)
      ];
}

pub truncated_attributes : (file : FileRecord) (size : ℕ) → (truncated file size).attributes ≡ file.attributes
unfolding truncated
truncated_attributes file size = refl

-- ---- attributes

abbrev bytes_cmp : List ℕ → List ℕ → Ordering
bytes_cmp = slice_cmp nat_cmp

same_bytes : (a b : List ℕ) → bytes_cmp a b ≡ Equal → a ≡ b
same_bytes = slice_cmp-IsAntisymmetric nat_cmp-IsAntisymmetric

eq_case : (r : Ordering) → is_eq r ≡ true → r ≡ Equal
eq_case Less e = absurd (true≢false (sym e))
eq_case Equal e = refl
eq_case Greater e = absurd (true≢false (sym e))

pub attribute_insert_cases : (m : Attributes) (name value q x : List ℕ) → get (insert m name value) q ≡ Some x → ((q ≡ name) × (x ≡ value)) ⊎ (get m q ≡ Some x)
attribute_insert_cases m name value q x e =
    elim (eq_by_cmp bytes_cmp q name) as (λ b. eq_by_cmp bytes_cmp q name ≡ b → cond b (Some value) (get m q) ≡ Some x → ((q ≡ name) × (x ≡ value)) ⊎ (get m q ≡ Some x)) [
      | true ↦ λ t s. inl (same_bytes q name (eq_case _ t), some_same x value (sym s))
      | false ↦ λ f s. inr s
    ] refl (sym (get-insert nat_list_cmp_total m name value q) ∙ e)

pub attribute_remove_cases : (m : Attributes) (name q x : List ℕ) → get (remove m name) q ≡ Some x → get m q ≡ Some x
attribute_remove_cases m name q x e =
    elim (eq_by_cmp bytes_cmp q name) as (λ b. cond b None (get m q) ≡ Some x → get m q ≡ Some x) [
      | true ↦ λ s. absurd (some_none x (sym s))
      | false ↦ λ s. s
    ] (sym (get-remove nat_list_cmp_total m name q) ∙ e)

pub inserted_keep : (m : Attributes) (name value : List ℕ) → KeepAttributeLimits m → IsNameBytes name → 1 ≤ length value → length value ≤ 1024 → AreBytes value → KeepAttributeLimits (insert m name value)
inserted_keep m name value keeps is_name some few bytes q x e =
    elim (attribute_insert_cases m name value q x e) [
      | inl here ↦ (subst IsNameBytes (sym here.0) is_name, subst (λ v. 1 ≤ length v) (sym here.1) some, subst (λ v. length v ≤ 1024) (sym here.1) few, subst AreBytes (sym here.1) bytes)
      | inr old ↦ keeps q x old
    ]

pub removed_keep : (m : Attributes) (name : List ℕ) → KeepAttributeLimits m → KeepAttributeLimits (remove m name)
removed_keep m name keeps q x e = keeps q x (attribute_remove_cases m name q x e)

abbrev counts_attribute : ℕ → List ℕ × List ℕ → Bool
counts_attribute hash attribute = nat_eq (name_hash_of attribute.0) hash

-- the attributes of another hash count as before
put_other : (hash : ℕ) (name value : List ℕ) (es : List (List ℕ × List ℕ)) → nat_eq (name_hash_of name) hash ≡ false → sum_by attribute_length (filter (counts_attribute hash) (put bytes_cmp name value es)) ≡ sum_by attribute_length (filter (counts_attribute hash) es)
put_other hash name value [] other = ap (λ b. sum_by attribute_length (cond b ((name, value) ∷ []) [])) other
put_other hash name value (e ∷ es) other =
    elim (bytes_cmp name e.0) as (λ o. bytes_cmp name e.0 ≡ o → sum_by attribute_length (filter (counts_attribute hash) (by_order o ((name, value) ∷ e ∷ es) ((e.0, value) ∷ es) (e ∷ put bytes_cmp name value es))) ≡ sum_by attribute_length (filter (counts_attribute hash) (e ∷ es))) [
      | Less ↦ λ c. ap (λ b. sum_by attribute_length (cond b ((name, value) ∷ filter (counts_attribute hash) (e ∷ es)) (filter (counts_attribute hash) (e ∷ es)))) other
      | Equal ↦ λ c.
          let same : nat_eq (name_hash_of e.0) hash ≡ false = ap (λ n. nat_eq (name_hash_of n) hash) (sym (same_bytes name e.0 c)) ∙ other in
          ap (λ b. sum_by attribute_length (cond b ((e.0, value) ∷ filter (counts_attribute hash) es) (filter (counts_attribute hash) es))) same
          ∙ sym (ap (λ b. sum_by attribute_length (cond b (e ∷ filter (counts_attribute hash) es) (filter (counts_attribute hash) es))) same)
      | Greater ↦ λ c.
          let rest = put_other hash name value es other in
          elim (counts_attribute hash e) as (λ b. sum_by attribute_length (cond b (e ∷ filter (counts_attribute hash) (put bytes_cmp name value es)) (filter (counts_attribute hash) (put bytes_cmp name value es))) ≡ sum_by attribute_length (cond b (e ∷ filter (counts_attribute hash) es) (filter (counts_attribute hash) es))) [
            | true ↦ omega (arith, sum_by-cons attribute_length e (filter (counts_attribute hash) (put bytes_cmp name value es)), sum_by-cons attribute_length e (filter (counts_attribute hash) es), rest)
            | false ↦ rest
          ]
    ] refl

pub inserted_fit : (m : Attributes) (name value : List ℕ) → ((hash : ℕ) → xattr_item_length m hash ≤ most_item_bytes) → xattr_item_length (insert m name value) (name_hash_of name) ≤ most_item_bytes → (hash : ℕ) → xattr_item_length (insert m name value) hash ≤ most_item_bytes
unfolding xattr_item_length
inserted_fit m name value fits fit hash =
    elim (cases_Bool (nat_eq (name_hash_of name) hash)) [
      | inl t ↦ subst (λ h. xattr_item_length (insert m name value) h ≤ most_item_bytes) (eqb-true _ _ t) fit
      | inr other ↦ omega (arith, ap (λ es. sum_by attribute_length (filter (counts_attribute hash) es)) (entries-insert nat_list_cmp_total m name value), put_other hash name value (entries m) other, fits hash)
    ]

-- the entries that a removal leaves
entries_remove : (m : Attributes) (name : List ℕ) → entries (remove m name) ≡ where_key bytes_cmp (λ x. not (eq_by_cmp bytes_cmp name x)) (entries m)
entries_remove m name =
    let kept : List (List ℕ × List ℕ) = where_key bytes_cmp (λ x. not (eq_by_cmp bytes_cmp name x)) (entries m) in
    let sorted = is_sorted-where_key bytes_cmp (λ x. not (eq_by_cmp bytes_cmp name x)) (entries m) (entries_sorted m) in
    let one_way : (q x : List ℕ) → bytes_cmp q x ≡ Equal → not (eq_by_cmp bytes_cmp name x) ≡ not (eq_by_cmp bytes_cmp name q) = λ q x tie. ap (λ z. not (eq_by_cmp bytes_cmp name z)) (sym (same_bytes q x tie)) in
    let same : remove m name ≡ from_sorted kept = same_map nat_list_cmp_total (slice_cmp-IsAntisymmetric nat_cmp-IsAntisymmetric) _ _ (λ q.
    get-remove nat_list_cmp_total m name q
    ∙ turned q
    ∙ sym (get-from_sorted bytes_cmp kept q sorted ∙ find-where_key bytes_cmp (λ x. not (eq_by_cmp bytes_cmp name x)) q (one_way q) (entries m) ∙ ap (λ o. cond (not (eq_by_cmp bytes_cmp name q)) o None) (sym (get-entries m q)))) in
    ap entries same ∙ entries-from_sorted bytes_cmp kept sorted
  where
    turn : {A : Type 0} (b : Bool) (x y : A) → cond b x y ≡ cond (not b) y x
    turn true x y = refl
    turn false x y = refl

    turned : (q : List ℕ) → cond (eq_by_cmp bytes_cmp q name) None (get m q) ≡ cond (not (eq_by_cmp bytes_cmp name q)) (get m q) None
    turned q = ap (λ b. cond b None (get m q)) ((Rattle.std.specs.Cmp.eq_by_cmp_equiv nat_list_cmp_total).symm q name) ∙ turn (eq_by_cmp bytes_cmp name q) None (get m q)

pub removed_fit : (m : Attributes) (name : List ℕ) → ((hash : ℕ) → xattr_item_length m hash ≤ most_item_bytes) → (hash : ℕ) → xattr_item_length (remove m name) hash ≤ most_item_bytes
unfolding xattr_item_length
removed_fit m name fits hash =
    let is = ap (λ es. sum_by attribute_length (filter (counts_attribute hash) es)) (entries_remove m name) in
    let swaps = ap (sum_by attribute_length) (Rattle.flat_model.proofs.Lists.filter_swaps (counts_attribute hash) (λ (e : List ℕ × List ℕ). not (eq_by_cmp bytes_cmp name e.0)) (entries m)) in
    omega (arith, is, swaps, sum_filter_le attribute_length (λ (e : List ℕ × List ℕ). not (eq_by_cmp bytes_cmp name e.0)) (filter (counts_attribute hash) (entries m)), fits hash)
