-- The items of an inode of one kind.
use Rattle.std.proofs.Common.{◌≡◌, ◌≤◌, ℕ, Bool, true, false, not, List, refl, sym, ap, arith}
use Rattle.std.specs.Prelude.{Contains}
use Rattle.std.proofs.lemmas.Bool.Decides.{nat_tests}
use Rattle.blk_base.specs.declared.key.Key.{Key}
use Rattle.blk_base.specs.Keys.{key_below}
use Rattle.blk_base.specs.Leaf.{Item}
use Rattle.tree_range.specs.Between.{items_between, items_from}
use Rattle.volume_image.specs.Subvolume.{make_key}
use Rattle.volume_image.proofs.Members.{filter_in, in_filter}

not_true : (b : Bool) → not b ≡ true → b ≡ false
not_true true h = sym h
not_true false h = refl

objectid_of : (ino kind top : ℕ) (key : Key) → key_below key (make_key ino kind 0) ≡ false → key_below (make_key ino kind top) key ≡ false → key.objectid ≡ ino
objectid_of ino kind top key a b = grind (arith, nat_tests)

low_of : (ino kind : ℕ) (key : Key) → key.objectid ≡ ino → key_below key (make_key ino kind 0) ≡ false → kind ≤ key.kind
low_of ino kind key o a = grind (arith, nat_tests)

high_of : (ino kind top : ℕ) (key : Key) → key.objectid ≡ ino → key_below (make_key ino kind top) key ≡ false → key.kind ≤ kind
high_of ino kind top key o a = grind (arith, nat_tests)

not_below : (ino kind offset : ℕ) → key_below (make_key ino kind offset) (make_key ino kind 0) ≡ false
not_below ino kind offset = grind (arith, nat_tests)

not_above : (ino kind top offset : ℕ) → offset ≤ top → key_below (make_key ino kind top) (make_key ino kind offset) ≡ false
not_above ino kind top offset o = grind (arith, nat_tests)

pub between_gives : (items : List Item) (ino kind top : ℕ) (item : Item) → Contains (items_between (make_key ino kind 0) (make_key ino kind top) items) item → Contains items item × (item.0 ≡ make_key ino kind item.0.offset)
between_gives items ino kind top item c =
    let first = make_key ino kind 0 in
    let last = make_key ino kind top in
    let up = in_filter (λ (x : Item). not (key_below last x.0)) (items_from first items) item c in
    let down = in_filter (λ (x : Item). not (key_below x.0 first)) items item up.0 in
    let above : key_below item.0 first ≡ false = not_true (key_below item.0 first) down.1 in
    let below : key_below last item.0 ≡ false = not_true (key_below last item.0) up.1 in
    let o = objectid_of ino kind top item.0 above below in
    let low = low_of ino kind item.0 o above in
    let high = high_of ino kind top item.0 o below in
    let k : item.0.kind ≡ kind = omega (arith, low, high) in
    (down.0, λ i. record { objectid = o i; kind = k i; offset = item.0.offset })

pub between_has : (items : List Item) (ino kind top offset : ℕ) (bytes : List ℕ) → Contains items (make_key ino kind offset, bytes) → offset ≤ top
    → Contains (items_between (make_key ino kind 0) (make_key ino kind top) items) (make_key ino kind offset, bytes)
between_has items ino kind top offset bytes c o =
    let first = make_key ino kind 0 in
    let last = make_key ino kind top in
    let item : Item = (make_key ino kind offset, bytes) in
    filter_in (λ (x : Item). not (key_below last x.0)) (items_from first items) item
    (filter_in (λ (x : Item). not (key_below x.0 first)) items item c (ap not (not_below ino kind offset)))
    (ap not (not_above ino kind top offset o))
