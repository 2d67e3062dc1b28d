-- The last extent that begins at a block or in front of it.
use Rattle.std.proofs.Common.{◌≡◌, ◌≢◌, ◌⊎◌, ◌≤◌, ◌<◌, ◌+◌, ◌*◌, ◌%◌, ℕ, Bool, true, false, not, List, [], ◌∷◌, Option, Some, None, MatchOption, nat_lt, refl, sym, ap, subst, arith, inl, inr}
use Rattle.std.specs.Prelude.{Contains}
use Rattle.std.specs.Borrow.{Bor}
use Rattle.std.proofs.lemmas.Bool.{cases_Bool, cases_eq, ltb-false, ltb-true}
use Rattle.std.proofs.lemmas.Bool.Decides.{nat_tests}
use Rattle.blk_base.specs.declared.key.Key.{Key}
use Rattle.blk_base.specs.Keys.{extent_data, key_below}
use Rattle.blk_base.specs.Leaf.{Item}
use Rattle.tree_range.specs.Between.{item_view, items_from}
use Rattle.volume_image.specs.Subvolume.{make_key}
use Rattle.volume_image.proofs.Lists.{in_nothing}
use Rattle.volume_image.proofs.Members.{filter_in, in_filter}
use Rattle.volume_image.proofs.Reaches.{head_in}
use Rattle.file_blocks.specs.Runs.{IsLastExtent, extents_between}

-- ---- keys of one file's extents

not_true : (b : Bool) → not b ≡ true → b ≡ false
not_true true h = sym h
not_true false h = refl

pub record IsWithin (ino from to : ℕ) (key : Key) : Type 0 where
  pub objectid : key.objectid ≡ ino
  pub kind : key.kind ≡ extent_data
  pub low : from ≤ key.offset
  pub high : key.offset ≤ to

objectid_of : (ino from to : ℕ) (key : Key) → key_below key (make_key ino extent_data from) ≡ false → key_below (make_key ino extent_data to) key ≡ false → key.objectid ≡ ino
objectid_of ino from to key a b = grind (arith, nat_tests)

kind_of : (ino from to : ℕ) (key : Key) → key.objectid ≡ ino → key_below key (make_key ino extent_data from) ≡ false → key_below (make_key ino extent_data to) key ≡ false → key.kind ≡ extent_data
kind_of ino from to key o a b = grind (arith, nat_tests)

low_of : (ino from : ℕ) (key : Key) → key.objectid ≡ ino → key.kind ≡ extent_data → key_below key (make_key ino extent_data from) ≡ false → from ≤ key.offset
low_of ino from key o k a = grind (arith, nat_tests)

high_of : (ino to : ℕ) (key : Key) → key.objectid ≡ ino → key.kind ≡ extent_data → key_below (make_key ino extent_data to) key ≡ false → key.offset ≤ to
high_of ino to key o k a = grind (arith, nat_tests)

not_below : (ino a b : ℕ) → a ≤ b → key_below (make_key ino extent_data b) (make_key ino extent_data a) ≡ false
not_below ino a b h = grind (arith, nat_tests)

-- ---- items between two blocks

pub in_between : (items : List Item) (ino from to : ℕ) (item : Item) → Contains (extents_between items ino from to) item → Contains items item × IsWithin ino (4096 * from) (4096 * to) item.0
in_between items ino from to item c =
    let first = make_key ino extent_data (4096 * from) in
    let last = make_key ino extent_data (4096 * to) in
    let up = in_filter (λ (x : Item). not (key_below last x.0)) (items_from first items) item c in
    let down = in_filter (λ (x : Item). not (key_below x.0 first)) items item up.0 in
    let low : key_below item.0 first ≡ false = not_true (key_below item.0 first) down.1 in
    let high : key_below last item.0 ≡ false = not_true (key_below last item.0) up.1 in
    let o = objectid_of ino (4096 * from) (4096 * to) item.0 low high in
    let k = kind_of ino (4096 * from) (4096 * to) item.0 o low high in
    (down.0, record { objectid = o; kind = k; low = low_of ino (4096 * from) item.0 o k low; high = high_of ino (4096 * to) item.0 o k high })

pub between_in : (items : List Item) (ino from to offset : ℕ) (bytes : List ℕ) → Contains items (make_key ino extent_data offset, bytes) → 4096 * from ≤ offset → offset ≤ 4096 * to
    → Contains (extents_between items ino from to) (make_key ino extent_data offset, bytes)
between_in items ino from to offset bytes c low high =
    let first = make_key ino extent_data (4096 * from) in
    let last = make_key ino extent_data (4096 * to) in
    let item : Item = (make_key ino extent_data offset, bytes) in
    filter_in (λ (x : Item). not (key_below last x.0)) (items_from first items) item
    (filter_in (λ (x : Item). not (key_below x.0 first)) items item c (ap not (not_below ino (4096 * from) offset low)))
    (ap not (not_below ino offset (4096 * to) high))

pub none_between : (items : List Item) (ino from to offset : ℕ) (bytes : List ℕ) → extents_between items ino from to ≡ [] → Contains items (make_key ino extent_data offset, bytes) → 4096 * from ≤ offset → offset ≤ 4096 * to → ⊥
none_between items ino from to offset bytes none c low high =
    in_nothing (make_key ino extent_data offset, bytes) (subst (λ (l : List Item). Contains l (make_key ino extent_data offset, bytes)) none (between_in items ino from to offset bytes c low high))

-- ---- the last one

pub last_is : (items : List Item) (ino begin number : ℕ) (item : Item) (rest : List Item) → begin ≤ number → (begin < number → extents_between items ino (begin + 1) number ≡ []) → extents_between items ino begin number ≡ item ∷ rest
    → IsLastExtent items ino number item.0 item.1
last_is items ino begin number item rest within none is =
    let at = in_between items ino begin number item (subst (λ (l : List Item). Contains l item) (sym is) (head_in item rest)) in
    let within_key = at.1 in
    record {
      there = at.0;
      objectid = within_key.objectid;
      kind = within_key.kind;
      before = within_key.high;
      last = λ offset other c aligned up. by offset other c aligned up (begin_cases begin number within) within_key.low;
    }
  where
    begin_cases : (b n : ℕ) → b ≤ n → (b ≡ n) ⊎ (b < n)
    begin_cases b n h = elim (cases_eq b n) [ inl e ↦ inl e | inr ne ↦ inr (omega arith) ]

    by : (offset : ℕ) (other : List ℕ) → Contains items (make_key ino extent_data offset, other) → offset % 4096 ≡ 0 → offset ≤ 4096 * number → (begin ≡ number) ⊎ (begin < number) → 4096 * begin ≤ item.0.offset → offset ≤ item.0.offset
    by offset other c aligned up (inl same) low = omega arith
    by offset other c aligned up (inr less) low = elim (cases_Bool (nat_lt offset (4096 * begin + 4096))) [
      | inl below ↦ let b = ltb-true offset (4096 * begin + 4096) below in omega (arith, b, aligned, low)
      | inr above ↦
          let a = ltb-false offset (4096 * begin + 4096) above in
          absurd (none_between items ino (begin + 1) number offset other (none less) c (omega arith) up)
    ]

pub last_found : (items : List Item) (ino begin number : ℕ) (found : Option (Key × Bor (List ℕ))) → begin ≤ number → extents_between items ino begin number ≢ [] → (begin < number → extents_between items ino (begin + 1) number ≡ [])
    → MatchOption found (extents_between items ino begin number ≡ []) (λ item. (rest : List Item) × (extents_between items ino begin number ≡ item_view item ∷ rest))
    → MatchOption found (extents_between items ino 0 number ≡ []) (λ item. IsLastExtent items ino number item.0 item.1.now)
last_found items ino begin number None within some none is = absurd (some is)
last_found items ino begin number (Some item) within some none is = last_is items ino begin number (item_view item) is.0 within none is.1
