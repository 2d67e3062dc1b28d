-- The items of an inode between two kinds of keys.
use Rattle.std.proofs.Common.{◌≡◌, ◌≤◌, ℕ, Bool, true, false, not, List, refl, sym, ap, arith}
use Rattle.std.specs.Prelude.{Contains}
use Rattle.std.proofs.lemmas.Bool.Decides.{nat_tests}
use Rattle.blk_base.specs.declared.key.Key.{Key}
use Rattle.blk_base.specs.Keys.{key_below}
use Rattle.blk_base.specs.Leaf.{Item}
use Rattle.blk_base.specs.Trees.{ItemsRise}
use Rattle.cow_tree.proofs.Items.{rise_filter}
use Rattle.tree_range.specs.Between.{items_between, items_from}
use Rattle.volume_image.specs.Subvolume.{make_key}
use Rattle.volume_image.proofs.Members.{filter_in, in_filter}

not_true : (b : Bool) → not b ≡ true → b ≡ false
not_true true h = sym h
not_true false h = refl

-- a key is of an inode and of a kind between two
pub record LiesBetween (ino first last : ℕ) (key : Key) : Type 0 where
  pub objectid : key.objectid ≡ ino
  pub low : first ≤ key.kind
  pub high : key.kind ≤ last

objectid_of : (ino low high top : ℕ) (key : Key) → key_below key (make_key ino low 0) ≡ false → key_below (make_key ino high top) key ≡ false → key.objectid ≡ ino
objectid_of ino low high top key a b = grind (arith, nat_tests)

low_of : (ino low : ℕ) (key : Key) → key.objectid ≡ ino → key_below key (make_key ino low 0) ≡ false → low ≤ key.kind
low_of ino low key o a = grind (arith, nat_tests)

high_of : (ino high top : ℕ) (key : Key) → key.objectid ≡ ino → key_below (make_key ino high top) key ≡ false → key.kind ≤ high
high_of ino high top key o a = grind (arith, nat_tests)

not_below : (ino low kind offset : ℕ) → low ≤ kind → key_below (make_key ino kind offset) (make_key ino low 0) ≡ false
not_below ino low kind offset h = grind (arith, nat_tests)

not_above : (ino high top kind offset : ℕ) → kind ≤ high → (kind ≡ high → offset ≤ top) → key_below (make_key ino high top) (make_key ino kind offset) ≡ false
not_above ino high top kind offset h o = grind (arith, nat_tests)

pub between_gives : (items : List Item) (ino low high top : ℕ) (item : Item) → Contains (items_between (make_key ino low 0) (make_key ino high top) items) item → Contains items item × LiesBetween ino low high item.0
between_gives items ino low high top item c =
    let first = make_key ino low 0 in
    let last = make_key ino high top in
    let up = in_filter (λ (x : Item). not (key_below last x.0)) (items_from first items) item c in
    let down = in_filter (λ (x : Item). not (key_below x.0 first)) items item up.0 in
    let above : key_below item.0 first ≡ false = not_true (key_below item.0 first) down.1 in
    let below : key_below last item.0 ≡ false = not_true (key_below last item.0) up.1 in
    let o = objectid_of ino low high top item.0 above below in
    (down.0, record { objectid = o; low = low_of ino low item.0 o above; high = high_of ino high top item.0 o below })

pub between_has : (items : List Item) (ino low high top kind offset : ℕ) (bytes : List ℕ) → Contains items (make_key ino kind offset, bytes) → low ≤ kind → kind ≤ high → (kind ≡ high → offset ≤ top)
    → Contains (items_between (make_key ino low 0) (make_key ino high top) items) (make_key ino kind offset, bytes)
between_has items ino low high top kind offset bytes c l h o =
    let first = make_key ino low 0 in
    let last = make_key ino high top in
    let item : Item = (make_key ino kind offset, bytes) in
    filter_in (λ (x : Item). not (key_below last x.0)) (items_from first items) item
    (filter_in (λ (x : Item). not (key_below x.0 first)) items item c (ap not (not_below ino low kind offset l)))
    (ap not (not_above ino high top kind offset h o))

pub between_rises : (items : List Item) (first last : Key) → ItemsRise items → ItemsRise (items_between first last items)
between_rises items first last rise = rise_filter (λ (x : Item). not (key_below last x.0)) (items_from first items) (rise_filter (λ (x : Item). not (key_below x.0 first)) items rise)
