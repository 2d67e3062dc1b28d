-- A block with its header written is the block that is wanted, with the same body.
use mathlib.Core.Path.{fun_ext}
use Rattle.std.proofs.Common.{◌≡◌, ◌≤◌, ◌<◌, ◌+◌, ◌-◌, ◌^◌, ℕ, suc, Bool, true, ◌||◌, not, nat_lt, ◌==◌, List, [], ◌∷◌, length, map, take, drop, slice_get, get_or, Some, Result, Ok, Err, if◌then◌else◌, refl, sym, ap, ◌∙◌, arith, inr}
use Rattle.std.specs.List.{list_all}
use Rattle.std.proofs.lemmas.List.{get_or-drop, drop-drop, take_all}
use Rattle.blk_base.specs.declared.fault.BlockFault.{BlockFault}
use Rattle.blk_base.specs.declared.fault.BlockFault.TheVariants.{Count, Order, Bounds, Overlap}
use Rattle.blk_base.specs.declared.key.Key.{Key}
use Rattle.blk_base.specs.declared.key.Want.{Want}
use Rattle.blk_base.specs.Bytes.{IsBytes, field, bytes_at, with_bytes, number_bytes}
use Rattle.blk_base.specs.Crc.{block_sum}
use Rattle.blk_base.specs.Keys.{key_at, keys_rise}
use Rattle.blk_base.specs.Superblock.{Field, with_fields}
use Rattle.blk_base.specs.Leaf.{HeaderFits, header_fields, sealed, count_of, Item, item_key, item_of, item_offset, item_size, header_at, below, in_bounds, are_apart, apart_before, leaf_body_of, leaf_of, Pointer, pointer_at, pointer_of, node_body_of, node_of}
use Rattle.blk_base.proofs.CrcLemmas.{block_sum-fits}
use Rattle.format_laws.specs.Fields.{All-from_IsBytes, SameBytes, field_same, bytes_same, same_apart, field_of_number, field_written, length-with_bytes, length-number_bytes, drop-with_bytes, IsBytes-number_bytes, IsBytes-zeros, IsBytes-with_bytes}
use Rattle.format_laws.specs.Tables.{within_parts, is_within, is_clear, length-with_fields, same_clear, same_field, IsBytes-with_fields, block_sum-with_sum}
use Rattle.format_laws.specs.Blocks.{after_header-body}

-- ---- bodies that are the same

-- the counts are the same and so are all bytes behind the header
pub record SameBody (a b : List ℕ) : Type 0 where
  pub count : count_of a ≡ count_of b
  pub rest : drop 101 a ≡ drop 101 b

rest_byte : (a b : List ℕ) → drop 101 a ≡ drop 101 b → (i : ℕ) → 101 ≤ i → get_or a i 0 ≡ get_or b i 0
rest_byte a b e i h =
    let g : 101 + (i - 101) ≡ i = omega arith in
    let l = rw g at (get_or-drop 101 a (i - 101) 0) in
    let r = rw g at (get_or-drop 101 b (i - 101) 0) in
    sym l ∙ ap (λ (w : List ℕ). get_or w (i - 101) 0) e ∙ r

rest_field : (a b : List ℕ) → drop 101 a ≡ drop 101 b → (n x : ℕ) → 101 ≤ x → field n a x ≡ field n b x
rest_field a b e n x h =
    let s : SameBytes n a x b x = record { each = λ k l. rest_byte a b e (x + k) (omega arith) } in
    field_same s

rest_bytes : (a b : List ℕ) → drop 101 a ≡ drop 101 b → (n o : ℕ) → bytes_at n a (101 + o) ≡ bytes_at n b (101 + o)
rest_bytes a b e n o = ap (take n) (sym (drop-drop o 101 a) ∙ ap (drop o) e ∙ drop-drop o 101 b)

rest_key : (a b : List ℕ) → drop 101 a ≡ drop 101 b → (x : ℕ) → 101 ≤ x → key_at a x ≡ key_at b x
rest_key a b e x h = rw (rest_field a b e 8 x h, rest_field a b e 1 (x + 8) (omega arith), rest_field a b e 8 (x + 9) (omega arith)) refl

-- ---- leaves

leaf_by : ℕ → (ℕ → Key) → (ℕ → Bool) → (ℕ → Bool) → (ℕ → Item) → Result (List Item) BlockFault
leaf_by n key bounds apart item =
    if nat_lt 159 n then Err Count else
    if not (keys_rise (map key (below n))) then Err Order else
    if not (list_all bounds (below n)) then Err Bounds else
    if not (list_all apart (below n)) then Err Overlap else Ok (map item (below n))

leaf_by-is : (bytes : List ℕ) → leaf_body_of bytes ≡ leaf_by (count_of bytes) (item_key bytes) (in_bounds bytes) (apart_before bytes) (item_of bytes)
unfolding leaf_body_of leaf_by
leaf_by-is bytes = refl

item_key-same : (a b : List ℕ) → SameBody a b → item_key a ≡ item_key b
item_key-same a b s = fun_ext (λ i. rest_key a b s.rest (header_at i) (omega arith))

offset-same : (a b : List ℕ) → SameBody a b → (i : ℕ) → item_offset a i ≡ item_offset b i
offset-same a b s i = rest_field a b s.rest 4 (header_at i + 17) (omega arith)

size-same : (a b : List ℕ) → SameBody a b → (i : ℕ) → item_size a i ≡ item_size b i
size-same a b s i = rest_field a b s.rest 4 (header_at i + 21) (omega arith)

in_bounds-same : (a b : List ℕ) → SameBody a b → in_bounds a ≡ in_bounds b
in_bounds-same a b s = fun_ext (λ i. rw (s.count, offset-same a b s i, size-same a b s i) refl)

are_apart-same : (a b : List ℕ) → SameBody a b → (i : ℕ) → are_apart a i ≡ are_apart b i
are_apart-same a b s i = fun_ext (λ j. rw (offset-same a b s i, size-same a b s i, offset-same a b s j, size-same a b s j) refl)

apart_before-same : (a b : List ℕ) → SameBody a b → apart_before a ≡ apart_before b
apart_before-same a b s = fun_ext (λ i. ap (λ (p : ℕ → Bool). list_all p (below i)) (are_apart-same a b s i))

item_of-same : (a b : List ℕ) → SameBody a b → item_of a ≡ item_of b
item_of-same a b s =
    fun_ext
    (λ i.
    let key = rest_key a b s.rest (header_at i) (omega arith) in
    let content : bytes_at (item_size a i) a (101 + item_offset a i) ≡ bytes_at (item_size b i) b (101 + item_offset b i) =
    ap (λ (n : ℕ). bytes_at n a (101 + item_offset a i)) (size-same a b s i)
    ∙ ap (λ (o : ℕ). bytes_at (item_size b i) a (101 + o)) (offset-same a b s i) ∙ rest_bytes a b s.rest (item_size b i) (item_offset b i) in
    pair _ _ _ _ key content)
  where
    pair : (k l : Key) (x y : List ℕ) → k ≡ l → x ≡ y → ◌≡◌ {A = Item} (k, x) (l, y)
    pair k l x y e g = cc

-- leaves with the same body have the same items, or the same fault
pub leaf_body_of-same : (a b : List ℕ) → SameBody a b → leaf_body_of a ≡ leaf_body_of b
leaf_body_of-same a b s = leaf_by-is a ∙ cc (s.count, item_key-same a b s, in_bounds-same a b s, apart_before-same a b s, item_of-same a b s) ∙ sym (leaf_by-is b)

-- ---- nodes

node_by : ℕ → (ℕ → Key) → (ℕ → Pointer) → Result (List Pointer) BlockFault
node_by n key pointer =
    if (n == 0) || nat_lt 121 n then Err Count else
    if not (keys_rise (map key (below n))) then Err Order else Ok (map pointer (below n))

node_by-is : (bytes : List ℕ) → node_body_of bytes ≡ node_by (count_of bytes) (λ i. key_at bytes (pointer_at i)) (pointer_of bytes)
unfolding node_body_of node_by
node_by-is bytes = refl

pointer_key-same : (a b : List ℕ) → SameBody a b → ◌≡◌ {A = ℕ → Key} (λ i. key_at a (pointer_at i)) (λ i. key_at b (pointer_at i))
pointer_key-same a b s = fun_ext (λ i. rest_key a b s.rest (pointer_at i) (omega arith))

pointer_of-same : (a b : List ℕ) → SameBody a b → pointer_of a ≡ pointer_of b
pointer_of-same a b s =
    fun_ext (λ i. rw (rest_key a b s.rest (pointer_at i) (omega arith), rest_field a b s.rest 8 (pointer_at i + 17) (omega arith), rest_field a b s.rest 8 (pointer_at i + 25) (omega arith)) refl)

-- nodes with the same body have the same pointers, or the same fault
pub node_body_of-same : (a b : List ℕ) → SameBody a b → node_body_of a ≡ node_body_of b
node_body_of-same a b s = node_by-is a ∙ cc (s.count, pointer_key-same a b s, pointer_of-same a b s) ∙ sym (node_by-is b)

-- ---- the header as it is written

-- what can be written as a header
pub record WantFits (want : Want) : Type 0 where
  pub fsid : length want.fsid ≡ 16
  pub fsid_bytes : IsBytes want.fsid
  pub at : want.at.0 < 2 ^ 64
  pub generation : want.generation < 2 ^ 64
  pub owner : want.owner < 2 ^ 64
  pub level : want.level < 2 ^ 8

drop-with_fields : (n : ℕ) (b : List ℕ) (fields : List Field) → is_within (length b) fields ≡ true → is_within n fields ≡ true → drop n (with_fields b fields) ≡ drop n b
drop-with_fields n b [] h g = refl
drop-with_fields n b (f ∷ fields) h g =
    let p = within_parts (length b) f fields h in
    let q = within_parts n f fields g in
    let e = length-with_bytes b f.0 f.1 p.0 in
    drop-with_fields n (with_bytes b f.0 f.1) fields (rw e p.1) q.1 ∙ drop-with_bytes n b f.0 f.1 p.0 q.0

-- the header without its sum
abbrev headed : Want → List ℕ → List ℕ
headed want bytes = with_fields bytes (header_fields want)

header_within : (want : Want) (bytes : List ℕ) → length bytes ≡ 4096 → length want.fsid ≡ 16 → is_within (length bytes) (header_fields want) ≡ true
header_within want bytes e h = rw (e, h) refl

length-headed : (want : Want) (bytes : List ℕ) → length bytes ≡ 4096 → length want.fsid ≡ 16 → length (headed want bytes) ≡ 4096
length-headed want bytes e h = length-with_fields bytes (header_fields want) (header_within want bytes e h) ∙ e

IsBytes-headed : (want : Want) (bytes : List ℕ) → length bytes ≡ 4096 → IsBytes bytes → WantFits want → IsBytes (headed want bytes)
IsBytes-headed want bytes e b h =
    let number = IsBytes-number_bytes in
    IsBytes-with_fields bytes (header_fields want) (header_within want bytes e h.fsid) b
    (IsBytes-zeros 28, (h.fsid_bytes, (number 8 want.at.0, (number 8 (2 ^ 56 + 1), (IsBytes-zeros 16, (number 8 want.generation, (number 8 want.owner, (number 1 want.level, tt))))))))

past_sum : (want : Want) (bytes : List ℕ) → length bytes ≡ 4096 → length want.fsid ≡ 16 → (n x : ℕ) → 4 ≤ x → SameBytes n (sealed want bytes) x (headed want bytes) x
unfolding sealed
past_sum want bytes e h n x l =
    same_apart n (headed want bytes) 0 (number_bytes 4 (block_sum (headed want bytes))) x (omega arith) (inr (rw (length-number_bytes 4 (block_sum (headed want bytes))) l))

header_field : (want : Want) (bytes : List ℕ) → length bytes ≡ 4096 → length want.fsid ≡ 16 → (n x j : ℕ) (c : List ℕ) → 4 ≤ x → slice_get (header_fields want) j ≡ Some (x, c)
    → length c ≡ n → is_clear n x (drop (suc j) (header_fields want)) ≡ true → SameBytes n (sealed want bytes) x c 0
header_field want bytes e h n x j c l s m g =
    let field = same_field n x j c bytes (header_fields want) (header_within want bytes e h) s m g in
    record { each = λ k o. (past_sum want bytes e h n x l).each k o ∙ field.each k o }

header_number : (want : Want) (bytes : List ℕ) → length bytes ≡ 4096 → length want.fsid ≡ 16 → (n x j w : ℕ) → 4 ≤ x → slice_get (header_fields want) j ≡ Some (x, number_bytes n w)
    → is_clear n x (drop (suc j) (header_fields want)) ≡ true → w < 256 ^ n → field n (sealed want bytes) x ≡ w
header_number want bytes e h n x j w l s g m =
    field_same (header_field want bytes e h n x j (number_bytes n w) l s (length-number_bytes n w) g) ∙ field_of_number n w m

-- a block that is sealed has its length
pub length-sealed : (want : Want) (bytes : List ℕ) → length bytes ≡ 4096 → length want.fsid ≡ 16 → length (sealed want bytes) ≡ 4096
unfolding sealed
length-sealed want bytes e h =
    let long = length-headed want bytes e h in
    let four = length-number_bytes 4 (block_sum (headed want bytes)) in
    length-with_bytes (headed want bytes) 0 (number_bytes 4 (block_sum (headed want bytes))) (omega arith) ∙ long

-- and is one of bytes
pub IsBytes-sealed : (want : Want) (bytes : List ℕ) → length bytes ≡ 4096 → IsBytes bytes → WantFits want → IsBytes (sealed want bytes)
unfolding sealed
IsBytes-sealed want bytes e b h =
    IsBytes-with_bytes (headed want bytes) 0 (number_bytes 4 (block_sum (headed want bytes))) (omega arith) (IsBytes-headed want bytes e b h)
    (IsBytes-number_bytes 4 (block_sum (headed want bytes)))

sealed_sum : (want : Want) (bytes : List ℕ) → length bytes ≡ 4096 → IsBytes bytes → WantFits want → field 4 (sealed want bytes) 0 ≡ block_sum (sealed want bytes)
unfolding sealed
sealed_sum want bytes e b h =
    let t = headed want bytes in
    let long = length-headed want bytes e h.fsid in
    let fits : block_sum t < 256 ^ 4 = block_sum-fits t (All-from_IsBytes t (IsBytes-headed want bytes e b h)) in
    field_written 4 t 0 (block_sum t) (omega arith) fits ∙ sym (block_sum-with_sum t (omega arith))

-- a block that is sealed passes all checks of its header
pub HeaderFits-sealed : (want : Want) (bytes : List ℕ) → length bytes ≡ 4096 → IsBytes bytes → WantFits want → HeaderFits want (sealed want bytes)
HeaderFits-sealed want bytes e b h =
    let f = h.fsid in
    record {
      sum = sealed_sum want bytes e b h;
      fsid =
          bytes_same (header_field want bytes e f 16 32 1 want.fsid (omega arith) refl f refl) (rw (length-sealed want bytes e f) (omega arith)) (omega arith)
          ∙ take_all 16 want.fsid (omega arith);
      address = header_number want bytes e f 8 48 2 want.at.0 (omega arith) refl refl h.at;
      generation = header_number want bytes e f 8 80 5 want.generation (omega arith) refl refl h.generation;
      owner = header_number want bytes e f 8 88 6 want.owner (omega arith) refl refl h.owner;
      level = header_number want bytes e f 1 100 7 want.level (omega arith) refl refl h.level;
    }

-- and keeps its body
pub SameBody-sealed : (want : Want) (bytes : List ℕ) → length bytes ≡ 4096 → length want.fsid ≡ 16 → SameBody (sealed want bytes) bytes
unfolding sealed
SameBody-sealed want bytes e h =
    let long = length-headed want bytes e h in
    let within = header_within want bytes e h in
    let four = length-number_bytes 4 (block_sum (headed want bytes)) in
    let fields = header_fields want in
    record {
      count = field_same (past_sum want bytes e h 4 96 (omega arith)) ∙ field_same (same_clear 4 96 bytes fields within (rw h refl));
      rest =
          drop-with_bytes 101 (headed want bytes) 0 (number_bytes 4 (block_sum (headed want bytes))) (omega arith) (omega arith)
          ∙ drop-with_fields 101 bytes fields within (rw h refl);
    }

-- a leaf that is sealed is read as its body, and so is a node
pub leaf_of-sealed : (want : Want) (bytes : List ℕ) → length bytes ≡ 4096 → IsBytes bytes → WantFits want → leaf_of want (sealed want bytes) ≡ leaf_body_of bytes
leaf_of-sealed want bytes e b h =
    after_header-body want (sealed want bytes) (leaf_body_of (sealed want bytes)) (HeaderFits-sealed want bytes e b h)
    ∙ leaf_body_of-same (sealed want bytes) bytes (SameBody-sealed want bytes e h.fsid)

pub node_of-sealed : (want : Want) (bytes : List ℕ) → length bytes ≡ 4096 → IsBytes bytes → WantFits want → node_of want (sealed want bytes) ≡ node_body_of bytes
node_of-sealed want bytes e b h =
    after_header-body want (sealed want bytes) (node_body_of (sealed want bytes)) (HeaderFits-sealed want bytes e b h)
    ∙ node_body_of-same (sealed want bytes) bytes (SameBody-sealed want bytes e h.fsid)
