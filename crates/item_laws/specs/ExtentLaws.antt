-- Extents: what the readers accept is what an extent's bytes say, and what is written reads back.
use Rattle.std.proofs.Common.{◌≡◌, ◌≢◌, inl, inr, ℕ, ◌+◌, ◌-◌, ◌<◌, ◌≤◌, ◌^◌, ◌%◌, Bool, true, false, not, ◌&&◌, ◌||◌, cond, eqb, ltb, leb, List, [], ◌++◌, length, drop, Result, Ok, Err, refl, ap, sym, subst, ◌∙◌, arith}
use Rattle.std.proofs.lemmas.Bool.{cases_Bool, eqb-true, eqb-false, eq-eqb, and_parts, and_from, and_left, and_right, or_parts, ne_eqb, le-ltb, ltb-false, ltb-true, lt-ltb, leb-true, le-leb, not-false}
use Rattle.std.proofs.lemmas.List.{length-drop}
use Rattle.blk_base.specs.declared.fault.ItemFault.{ItemFault}
use Rattle.blk_base.specs.declared.fault.ItemFault.TheVariants.{Size, Compressed, Encrypted, Preallocated, Kind, Align}
use Rattle.blk_base.specs.declared.key.Key.{Key}
use Rattle.blk_base.specs.Bytes.{field, number_bytes}
use Rattle.blk_base.specs.Extents.{ExtentValue, Inline, Regular, Hole, IsExtent, IsLogExtent, IsPlain, IsRun, disk_at, disk_bytes, extent_in, extent_of, extent_offset, extent_type, file_limit, hole_bytes, inline_bytes, is_hole, is_inline, is_regular, is_run, is_short, log_extent_of, num_bytes, ram_bytes, regular_bytes}
use Rattle.item_laws.specs.Fields.{Begins, begins_less, begins_drop, begins_length, begins_field}

-- ---- from an answer

fault_else : {X : Type 0} (b : Bool) (fault : ItemFault) (r : Result X ItemFault) (x : X) → cond b (Err fault) r ≡ Ok x → (b ≡ false) × (r ≡ Ok x)
fault_else true fault r x e = absurd (cc)
fault_else false fault r x e = (refl, e)

ok_else : {X : Type 0} (b : Bool) (x y : X) (fault : ItemFault) → cond b (Ok x) (Err fault) ≡ Ok y → (b ≡ true) × (x ≡ y)
ok_else true x y fault e = (refl, cc)
ok_else false x y fault e = absurd (cc)

-- what passed the first checks
record HasForm (bytes : List ℕ) : Type 0 where
  pub long : is_short bytes ≡ false
  pub plain : IsPlain bytes
  pub two : extent_type bytes ≢ 2
  pub known : extent_type bytes ≤ 2

abbrev by_type : Bool → Key → List ℕ → Result ExtentValue ItemFault
by_type holes key bytes = cond (eqb (extent_type bytes) 0) (cond (is_inline key bytes) (Ok (Inline (drop 21 bytes))) (Err Align))
    (cond (holes && is_hole key bytes) (Ok (Hole (num_bytes bytes))) (cond (is_regular key bytes) (Ok (Regular (disk_at bytes) (extent_offset bytes) (num_bytes bytes))) (Err Align)))

form_of : (holes : Bool) (key : Key) (bytes : List ℕ) (v : ExtentValue) → extent_in holes key bytes ≡ Ok v → HasForm bytes × (by_type holes key bytes ≡ Ok v)
form_of holes key bytes v e =
    let size = fault_else (is_short bytes) Size _ v e in
    let compressed = fault_else (not (eqb (field 1 bytes 16) 0)) Compressed _ v size.1 in
    let encrypted = fault_else (not (eqb (field 1 bytes 17) 0 && eqb (field 2 bytes 18) 0)) Encrypted _ v compressed.1 in
    let reserved = fault_else (eqb (extent_type bytes) 2) Preallocated _ v encrypted.1 in
    let kind = fault_else (ltb 2 (extent_type bytes)) Kind _ v reserved.1 in
    let open_parts = and_parts (eqb (field 1 bytes 17) 0) (eqb (field 2 bytes 18) 0) (not-false (eqb (field 1 bytes 17) 0 && eqb (field 2 bytes 18) 0) encrypted.0) in
    let plain : IsPlain bytes = record {
      compression = eqb-true (field 1 bytes 16) 0 (not-false (eqb (field 1 bytes 16) 0) compressed.0);
      encryption = eqb-true (field 1 bytes 17) 0 open_parts.0;
      other_encoding = eqb-true (field 2 bytes 18) 0 open_parts.1;
    } in
    (record { long = size.0; plain = plain; two = eqb-false (extent_type bytes) 2 reserved.0; known = ltb-false 2 (extent_type bytes) kind.0 }, kind.1)

-- lengths of items that are long enough
long_inline : (bytes : List ℕ) → is_short bytes ≡ false → extent_type bytes ≡ 0 → 22 ≤ length bytes
long_inline bytes s t =
    let parts = or_parts (ltb (length bytes) 21 || (eqb (extent_type bytes) 0 && ltb (length bytes) 22)) _ s in
    let small = (or_parts (ltb (length bytes) 21) (eqb (extent_type bytes) 0 && ltb (length bytes) 22) parts.0).1 in
    let test : ltb (length bytes) 22 ≡ false = rw t at small in
    ltb-false (length bytes) 22 test

long_regular : (bytes : List ℕ) → is_short bytes ≡ false → extent_type bytes ≡ 1 → length bytes ≡ 53
long_regular bytes s t =
    let parts = or_parts (ltb (length bytes) 21 || (eqb (extent_type bytes) 0 && ltb (length bytes) 22)) ((eqb (extent_type bytes) 1 || eqb (extent_type bytes) 2) && not (eqb (length bytes) 53)) s in
    let test : not (eqb (length bytes) 53) ≡ false = rw t at parts.1 in
    eqb-true (length bytes) 53 (not-false (eqb (length bytes) 53) test)

inline_from : (key : Key) (bytes : List ℕ) → HasForm bytes → extent_type bytes ≡ 0 → is_inline key bytes ≡ true → IsExtent key bytes (Inline (drop 21 bytes))
inline_from key bytes f t h =
    let parts = and_parts (eqb (ram_bytes bytes + 21) (length bytes)) (eqb key.offset 0) h in
    let ram : ram_bytes bytes + 21 ≡ length bytes = eqb-true (ram_bytes bytes + 21) (length bytes) parts.0 in
    let size : length (drop 21 bytes) ≡ length bytes - 21 = length-drop 21 bytes in
    (f.plain, t, long_inline bytes f.long t, refl, omega (arith, ram, size), eqb-true key.offset 0 parts.1)

run_from : (len : ℕ) → is_run len ≡ true → IsRun len
run_from len h =
    let parts = and_parts (eqb (len % 4096) 0 && leb 4096 len) (leb len file_limit) h in
    let first = and_parts (eqb (len % 4096) 0) (leb 4096 len) parts.0 in
    (eqb-true (len % 4096) 0 first.0, leb-true 4096 len first.1, leb-true len file_limit parts.1)

regular_from : (key : Key) (bytes : List ℕ) → HasForm bytes → extent_type bytes ≡ 1 → is_regular key bytes ≡ true → IsExtent key bytes (Regular (disk_at bytes) (extent_offset bytes) (num_bytes bytes))
regular_from key bytes f t h =
    let a = and_parts (is_run (num_bytes bytes) && eqb (ram_bytes bytes) (num_bytes bytes) && eqb (disk_bytes bytes) (num_bytes bytes) && eqb (extent_offset bytes) 0) (eqb (key.offset % 4096) 0) h in
    let b = and_parts (is_run (num_bytes bytes) && eqb (ram_bytes bytes) (num_bytes bytes) && eqb (disk_bytes bytes) (num_bytes bytes)) (eqb (extent_offset bytes) 0) a.0 in
    let c = and_parts (is_run (num_bytes bytes) && eqb (ram_bytes bytes) (num_bytes bytes)) (eqb (disk_bytes bytes) (num_bytes bytes)) b.0 in
    let d = and_parts (is_run (num_bytes bytes)) (eqb (ram_bytes bytes) (num_bytes bytes)) c.0 in (
      f.plain,
      t,
      long_regular bytes f.long t,
      refl,
      refl,
      eqb-true (extent_offset bytes) 0 b.1,
      eqb-true (disk_bytes bytes) (num_bytes bytes) c.1,
      eqb-true (ram_bytes bytes) (num_bytes bytes) d.1,
      refl,
      run_from (num_bytes bytes) d.0,
      eqb-true (key.offset % 4096) 0 a.1,
    )

hole_from : (key : Key) (bytes : List ℕ) → HasForm bytes → extent_type bytes ≡ 1 → is_hole key bytes ≡ true → IsLogExtent key bytes (Hole (num_bytes bytes))
hole_from key bytes f t h =
    let a = and_parts (eqb (disk_at bytes) 0 && eqb (disk_bytes bytes) 0 && eqb (extent_offset bytes) 0 && eqb (ram_bytes bytes) (num_bytes bytes) && eqb (num_bytes bytes % 4096) 0 && ltb 0 (num_bytes bytes)) (eqb (key.offset % 4096) 0) h in
    let b = and_parts (eqb (disk_at bytes) 0 && eqb (disk_bytes bytes) 0 && eqb (extent_offset bytes) 0 && eqb (ram_bytes bytes) (num_bytes bytes) && eqb (num_bytes bytes % 4096) 0) (ltb 0 (num_bytes bytes)) a.0 in
    let c = and_parts (eqb (disk_at bytes) 0 && eqb (disk_bytes bytes) 0 && eqb (extent_offset bytes) 0 && eqb (ram_bytes bytes) (num_bytes bytes)) (eqb (num_bytes bytes % 4096) 0) b.0 in
    let d = and_parts (eqb (disk_at bytes) 0 && eqb (disk_bytes bytes) 0 && eqb (extent_offset bytes) 0) (eqb (ram_bytes bytes) (num_bytes bytes)) c.0 in
    let g = and_parts (eqb (disk_at bytes) 0 && eqb (disk_bytes bytes) 0) (eqb (extent_offset bytes) 0) d.0 in
    let k = and_parts (eqb (disk_at bytes) 0) (eqb (disk_bytes bytes) 0) g.0 in (
      f.plain,
      t,
      long_regular bytes f.long t,
      eqb-true (disk_at bytes) 0 k.0,
      eqb-true (disk_bytes bytes) 0 k.1,
      eqb-true (extent_offset bytes) 0 g.1,
      eqb-true (ram_bytes bytes) (num_bytes bytes) d.1,
      refl,
      eqb-true (num_bytes bytes % 4096) 0 c.1,
      ltb-true 0 (num_bytes bytes) b.1,
      eqb-true (key.offset % 4096) 0 a.1,
    )

type_one : (bytes : List ℕ) → HasForm bytes → eqb (extent_type bytes) 0 ≡ false → extent_type bytes ≡ 1
type_one bytes f h =
    let some = eqb-false (extent_type bytes) 0 h in
    let two = f.two in
    let known : extent_type bytes ≤ 2 = f.known in
    omega (arith, some, two, known)

pub extent_from : (key : Key) (bytes : List ℕ) (v : ExtentValue) → extent_of key bytes ≡ Ok v → IsExtent key bytes v
unfolding extent_of
extent_from key bytes v e =
    let form = form_of false key bytes v e in
    elim (cases_Bool (eqb (extent_type bytes) 0)) [
      | inl inline ↦
          let rest : cond (is_inline key bytes) (Ok (Inline (drop 21 bytes))) (Err Align) ≡ Ok v = rw inline at form.1 in
          let parts = ok_else (is_inline key bytes) (Inline (drop 21 bytes)) v Align rest in
          subst (λ (x : ExtentValue). IsExtent key bytes x) parts.1 (inline_from key bytes form.0 (eqb-true (extent_type bytes) 0 inline) parts.0)
      | inr other ↦
          let rest : cond (is_regular key bytes) (Ok (Regular (disk_at bytes) (extent_offset bytes) (num_bytes bytes))) (Err Align) ≡ Ok v = rw other at form.1 in
          let parts = ok_else (is_regular key bytes) (Regular (disk_at bytes) (extent_offset bytes) (num_bytes bytes)) v Align rest in
          subst (λ (x : ExtentValue). IsExtent key bytes x) parts.1 (regular_from key bytes form.0 (type_one bytes form.0 other) parts.0)
    ]

pub log_extent_from : (key : Key) (bytes : List ℕ) (v : ExtentValue) → log_extent_of key bytes ≡ Ok v → IsLogExtent key bytes v
unfolding log_extent_of
log_extent_from key bytes v e =
    let form = form_of true key bytes v e in
    elim (cases_Bool (eqb (extent_type bytes) 0)) [
      | inl inline ↦
          let rest : cond (is_inline key bytes) (Ok (Inline (drop 21 bytes))) (Err Align) ≡ Ok v = rw inline at form.1 in
          let parts = ok_else (is_inline key bytes) (Inline (drop 21 bytes)) v Align rest in
          subst (λ (x : ExtentValue). IsLogExtent key bytes x) parts.1 (inline_from key bytes form.0 (eqb-true (extent_type bytes) 0 inline) parts.0)
      | inr other ↦
          let one = type_one bytes form.0 other in
          let rest : cond (is_hole key bytes) (Ok (Hole (num_bytes bytes))) (cond (is_regular key bytes) (Ok (Regular (disk_at bytes) (extent_offset bytes) (num_bytes bytes))) (Err Align)) ≡ Ok v = rw other at form.1 in
          elim (cases_Bool (is_hole key bytes)) [
            | inl hole ↦
                let same : Ok (Hole (num_bytes bytes)) ≡ Ok v = rw hole at rest in
                let is : Hole (num_bytes bytes) ≡ v = cc in
                subst (λ (x : ExtentValue). IsLogExtent key bytes x) is (hole_from key bytes form.0 one hole)
            | inr run ↦
                let last : cond (is_regular key bytes) (Ok (Regular (disk_at bytes) (extent_offset bytes) (num_bytes bytes))) (Err Align) ≡ Ok v = rw run at rest in
                let parts = ok_else (is_regular key bytes) (Regular (disk_at bytes) (extent_offset bytes) (num_bytes bytes)) v Align last in
                subst (λ (x : ExtentValue). IsLogExtent key bytes x) parts.1 (regular_from key bytes form.0 one parts.0)
          ]
    ]

-- ---- to an answer

short_inline : (bytes : List ℕ) → extent_type bytes ≡ 0 → 22 ≤ length bytes → is_short bytes ≡ false
short_inline bytes t h = rw (le-ltb (length bytes) 21 (omega arith), t, le-ltb (length bytes) 22 h) refl

short_regular : (bytes : List ℕ) → extent_type bytes ≡ 1 → length bytes ≡ 53 → is_short bytes ≡ false
short_regular bytes t h = rw (t, h) refl

in_inline : (holes : Bool) (key : Key) (bytes : List ℕ) → is_short bytes ≡ false → IsPlain bytes → extent_type bytes ≡ 0 → is_inline key bytes ≡ true → extent_in holes key bytes ≡ Ok (Inline (drop 21 bytes))
in_inline holes key bytes s p t i = rw (s, p.compression, p.encryption, p.other_encoding, t, i) refl

in_regular : (holes : Bool) (key : Key) (bytes : List ℕ) → is_short bytes ≡ false → IsPlain bytes → extent_type bytes ≡ 1 → (holes && is_hole key bytes) ≡ false → is_regular key bytes ≡ true
    → extent_in holes key bytes ≡ Ok (Regular (disk_at bytes) (extent_offset bytes) (num_bytes bytes))
in_regular holes key bytes s p t n r = rw (s, p.compression, p.encryption, p.other_encoding, t, n, r) refl

in_hole : (key : Key) (bytes : List ℕ) → is_short bytes ≡ false → IsPlain bytes → extent_type bytes ≡ 1 → is_hole key bytes ≡ true → extent_in true key bytes ≡ Ok (Hole (num_bytes bytes))
in_hole key bytes s p t h = rw (s, p.compression, p.encryption, p.other_encoding, t, h) refl

inline_to : (holes : Bool) (key : Key) (bytes content : List ℕ) → IsExtent key bytes (Inline content) → extent_in holes key bytes ≡ Ok (Inline content)
inline_to holes key bytes content (plain, t, long, is, ram, at) =
    let size : length content ≡ length bytes - 21 = ap length (sym is) ∙ length-drop 21 bytes in
    let sum : ram_bytes bytes + 21 ≡ length bytes = omega (arith, ram, size) in
    let test : is_inline key bytes ≡ true = and_from (eqb (ram_bytes bytes + 21) (length bytes)) (eqb key.offset 0) (eq-eqb (ram_bytes bytes + 21) (length bytes) sum) (eq-eqb key.offset 0 at) in
    in_inline holes key bytes (short_inline bytes t long) plain t test ∙ ap (λ (c : List ℕ). Ok (Inline c)) is

-- a run of blocks is no hole
run_no_hole : (key : Key) (bytes : List ℕ) → 4096 ≤ disk_bytes bytes → is_hole key bytes ≡ false
run_no_hole key bytes h =
    let no : eqb (disk_bytes bytes) 0 ≡ false = ne_eqb (disk_bytes bytes) 0 (λ e. omega (arith, e, h)) in
    let a = and_right (eqb (disk_at bytes) 0) (eqb (disk_bytes bytes) 0) no in
    let b = and_left (eqb (disk_at bytes) 0 && eqb (disk_bytes bytes) 0) (eqb (extent_offset bytes) 0) a in
    let c = and_left _ (eqb (ram_bytes bytes) (num_bytes bytes)) b in
    let d = and_left _ (eqb (num_bytes bytes % 4096) 0) c in
    let f = and_left _ (ltb 0 (num_bytes bytes)) d in
    and_left _ (eqb (key.offset % 4096) 0) f

regular_to : (holes : Bool) (key : Key) (bytes : List ℕ) (at offset len : ℕ) → IsExtent key bytes (Regular at offset len) → extent_in holes key bytes ≡ Ok (Regular at offset len)
regular_to holes key bytes at offset len (plain, t, size, place, off, none, disk, ram, num, run, whole) =
    let run_test : is_run (num_bytes bytes) ≡ true = rw num (and_from (eqb (len % 4096) 0 && leb 4096 len) (leb len file_limit) (and_from (eqb (len % 4096) 0) (leb 4096 len) (eq-eqb (len % 4096) 0 run.0) (le-leb 4096 len run.1)) (le-leb len file_limit run.2)) in
    let ram_test = eq-eqb (ram_bytes bytes) (num_bytes bytes) (ram ∙ sym num) in
    let disk_test = eq-eqb (disk_bytes bytes) (num_bytes bytes) (disk ∙ sym num) in
    let offset_test = eq-eqb (extent_offset bytes) 0 (off ∙ none) in
    let key_test = eq-eqb (key.offset % 4096) 0 whole in
    let test : is_regular key bytes ≡ true = rw (run_test, ram_test, disk_test, offset_test, key_test) refl in
    let least : 4096 ≤ disk_bytes bytes = rw disk run.1 in
    let no_hole : (holes && is_hole key bytes) ≡ false = and_right holes (is_hole key bytes) (run_no_hole key bytes least) in
    in_regular holes key bytes (short_regular bytes t size) plain t no_hole test ∙ rw (place, off, num) refl

hole_to : (key : Key) (bytes : List ℕ) (len : ℕ) → IsLogExtent key bytes (Hole len) → extent_in true key bytes ≡ Ok (Hole len)
hole_to key bytes len (plain, t, size, place, disk, off, ram, num, whole, some, at) =
    let place_test = eq-eqb (disk_at bytes) 0 place in
    let disk_test = eq-eqb (disk_bytes bytes) 0 disk in
    let offset_test = eq-eqb (extent_offset bytes) 0 off in
    let ram_test = eq-eqb (ram_bytes bytes) (num_bytes bytes) (ram ∙ sym num) in
    let whole_test : eqb (num_bytes bytes % 4096) 0 ≡ true = rw num (eq-eqb (len % 4096) 0 whole) in
    let some_test : ltb 0 (num_bytes bytes) ≡ true = rw num (lt-ltb 0 len some) in
    let key_test = eq-eqb (key.offset % 4096) 0 at in
    let test : is_hole key bytes ≡ true = rw (place_test, disk_test, offset_test, ram_test, whole_test, some_test, key_test) refl in
    in_hole key bytes (short_regular bytes t size) plain t test ∙ rw num refl

pub extent_to : (key : Key) (bytes : List ℕ) (v : ExtentValue) → IsExtent key bytes v → extent_of key bytes ≡ Ok v
unfolding extent_of
extent_to key bytes (Inline content) h = inline_to false key bytes content h
extent_to key bytes (Regular at offset len) h = regular_to false key bytes at offset len h
extent_to key bytes (Hole len) h = absurd h

pub log_extent_to : (key : Key) (bytes : List ℕ) (v : ExtentValue) → IsLogExtent key bytes v → log_extent_of key bytes ≡ Ok v
unfolding log_extent_of
log_extent_to key bytes (Inline content) h = inline_to true key bytes content h
log_extent_to key bytes (Regular at offset len) h = regular_to true key bytes at offset len h
log_extent_to key bytes (Hole len) h = hole_to key bytes len h

-- ---- what is written

-- an item with its data in it
abbrev inline_head : ℕ → ℕ → List ℕ
inline_head generation ram = number_bytes 8 generation ++ number_bytes 8 ram ++ number_bytes 1 0 ++ number_bytes 1 0 ++ number_bytes 2 0 ++ number_bytes 1 0

-- an item of a run or a hole
abbrev long_bytes : (generation ram at disk offset num : ℕ) → List ℕ
long_bytes generation ram at disk offset num =
    number_bytes 8 generation ++ number_bytes 8 ram ++ number_bytes 1 0 ++ number_bytes 1 0 ++ number_bytes 2 0 ++ number_bytes 1 1 ++ number_bytes 8 at ++ number_bytes 8 disk ++ number_bytes 8 offset ++ number_bytes 8 num

record PlainReads (bytes : List ℕ) (r t : ℕ) : Type 0 where
  pub plain : IsPlain bytes
  pub ram : ram_bytes bytes ≡ r
  pub type : extent_type bytes ≡ t

plain_reads : (bytes rest : List ℕ) (generation ram type : ℕ) → ram < 2 ^ 64 → type < 2 ^ 8
    → Begins bytes (number_bytes 8 generation ++ number_bytes 8 ram ++ number_bytes 1 0 ++ number_bytes 1 0 ++ number_bytes 2 0 ++ number_bytes 1 type) rest 21 → PlainReads bytes ram type
plain_reads bytes rest generation ram type h k whole =
    let g = number_bytes 8 generation in
    let r = number_bytes 8 ram in
    let c = number_bytes 1 0 in
    let o = number_bytes 2 0 in
    let before_type = begins_less (g ++ r ++ c ++ c ++ o) (number_bytes 1 type) 20 whole refl in
    let before_other = begins_less (g ++ r ++ c ++ c) o 18 before_type refl in
    let before_encryption = begins_less (g ++ r ++ c) c 17 before_other refl in
    let before_compression = begins_less (g ++ r) c 16 before_encryption refl in
    let before_ram = begins_less g r 8 before_compression refl in
    record {
      plain = record { compression = begins_field 1 0 _ before_compression (omega arith); encryption = begins_field 1 0 _ before_encryption (omega arith); other_encoding = begins_field 2 0 _ before_other (omega arith) };
      ram = begins_field 8 ram _ before_ram h;
      type = begins_field 1 type _ before_type k;
    }

record LongReads (bytes : List ℕ) (r a d o n : ℕ) : Type 0 where
  pub head : PlainReads bytes r 1
  pub size : length bytes ≡ 53
  pub at : disk_at bytes ≡ a
  pub disk : disk_bytes bytes ≡ d
  pub offset : extent_offset bytes ≡ o
  pub num : num_bytes bytes ≡ n

long_reads : (bytes : List ℕ) (generation ram at disk offset num : ℕ) → ram < 2 ^ 64 → at < 2 ^ 64 → disk < 2 ^ 64 → offset < 2 ^ 64 → num < 2 ^ 64
    → bytes ≡ long_bytes generation ram at disk offset num → LongReads bytes ram at disk offset num
long_reads bytes generation ram at disk offset num hr ha hd ho hn e =
    let head = number_bytes 8 generation ++ number_bytes 8 ram ++ number_bytes 1 0 ++ number_bytes 1 0 ++ number_bytes 2 0 ++ number_bytes 1 1 in
    let a = number_bytes 8 at in
    let d = number_bytes 8 disk in
    let o = number_bytes 8 offset in
    let n = number_bytes 8 num in
    let whole : Begins bytes (head ++ a ++ d ++ o ++ n) [] 53 = record { is = e; size = refl } in
    let before_num = begins_less (head ++ a ++ d ++ o) n 45 whole refl in
    let before_offset = begins_less (head ++ a ++ d) o 37 before_num refl in
    let before_disk = begins_less (head ++ a) d 29 before_offset refl in
    let before_at = begins_less head a 21 before_disk refl in
    record {
      head = plain_reads bytes _ generation ram 1 hr (omega arith) before_at;
      size = begins_length whole;
      at = begins_field 8 at _ before_at ha;
      disk = begins_field 8 disk _ before_disk hd;
      offset = begins_field 8 offset _ before_offset ho;
      num = begins_field 8 num _ before_num hn;
    }

pub inline_reads_back : (key : Key) (generation : ℕ) (content : List ℕ) → 1 ≤ length content → length content < 2 ^ 64 → key.offset ≡ 0 → extent_of key (inline_bytes generation content) ≡ Ok (Inline content)
unfolding inline_bytes
inline_reads_back key generation content some h at =
    let bytes = inline_bytes generation content in
    let whole : Begins bytes (inline_head generation (length content)) content 21 = record { is = refl; size = refl } in
    let reads = plain_reads bytes content generation (length content) 0 h (omega arith) whole in
    let size : length bytes ≡ 21 + length content = begins_length whole in
    extent_to key bytes (Inline content) (reads.plain, reads.type, omega (arith, size), begins_drop whole, reads.ram, at)

pub regular_reads_back : (key : Key) (generation at len : ℕ) → at < 2 ^ 64 → IsRun len → key.offset % 4096 ≡ 0 → extent_of key (regular_bytes generation at len) ≡ Ok (Regular at 0 len)
unfolding regular_bytes
regular_reads_back key generation at len h run whole =
    let bytes = regular_bytes generation at len in
    let fits : len < 2 ^ 64 = let most = run.2 in omega arith in
    let reads = long_reads bytes generation len at len 0 len fits h fits (omega arith) fits refl in
    extent_to key bytes (Regular at 0 len) (reads.head.plain, reads.head.type, reads.size, reads.at, reads.offset, refl, reads.disk, reads.head.ram, reads.num, run, whole)

pub hole_reads_back : (key : Key) (generation len : ℕ) → len < 2 ^ 64 → len % 4096 ≡ 0 → 0 < len → key.offset % 4096 ≡ 0 → log_extent_of key (hole_bytes generation len) ≡ Ok (Hole len)
unfolding hole_bytes
hole_reads_back key generation len fits blocks some whole =
    let bytes = hole_bytes generation len in
    let reads = long_reads bytes generation len 0 0 0 len fits (omega arith) (omega arith) (omega arith) fits refl in
    log_extent_to key bytes (Hole len) (reads.head.plain, reads.head.type, reads.size, reads.at, reads.disk, reads.offset, reads.head.ram, reads.num, blocks, some, whole)

-- a hole is no run of blocks
pub hole_no_extent : (key : Key) (bytes : List ℕ) (len : ℕ) → IsLogExtent key bytes (Hole len) → extent_of key bytes ≡ Err Align
unfolding extent_of
hole_no_extent key bytes len (plain, t, size, place, disk, off, ram, num, whole, some, at) =
    let no : eqb (disk_bytes bytes) (num_bytes bytes) ≡ false = ne_eqb (disk_bytes bytes) (num_bytes bytes) (λ e. omega (arith, e, disk, num, some)) in
    let a = and_right (is_run (num_bytes bytes) && eqb (ram_bytes bytes) (num_bytes bytes)) (eqb (disk_bytes bytes) (num_bytes bytes)) no in
    let b = and_left (is_run (num_bytes bytes) && eqb (ram_bytes bytes) (num_bytes bytes) && eqb (disk_bytes bytes) (num_bytes bytes)) (eqb (extent_offset bytes) 0) a in
    let c : is_regular key bytes ≡ false = and_left _ (eqb (key.offset % 4096) 0) b in
    rw (short_regular bytes t size, plain.compression, plain.encryption, plain.other_encoding, t, c) refl

-- a log has every extent of a subvolume's tree
pub log_from_extent : (key : Key) (bytes : List ℕ) (v : ExtentValue) → IsExtent key bytes v → IsLogExtent key bytes v
log_from_extent key bytes (Inline content) h = h
log_from_extent key bytes (Regular at offset len) h = h
log_from_extent key bytes (Hole len) h = absurd h
