-- The ranges of all keys, and of all keys of an inode.
use Rattle.std.proofs.Common.{◌≡◌, ◌≢◌, ◌<◌, ◌∙◌, ◌||◌, ◌&&◌, ℕ, Bool, true, false, not, cond, List, [], ◌∷◌, filter, nat_eq, refl, sym, ap, inl, inr, arith}
use Rattle.std.proofs.lemmas.Bool.{cases_Bool, cases_order, false_from_ne_true, eqb-true, eq-eqb, true≢false}
use Rattle.blk_base.specs.declared.key.Key.{Key}
use Rattle.blk_base.specs.Keys.{KeyFits, key_below}
use Rattle.blk_base.specs.Leaf.{Item}
use Rattle.leaf_view.specs.KeyOrder.{KeyBelow_from, KeyBelow_parts}
use Rattle.leaf_view.proofs.Rising.{key_below_from, key_below_means}
use Rattle.flat_model.proofs.Lists.{filter_keeps}
use Rattle.tree_range.specs.Between.{items_between, items_from}
use Rattle.tree_check.specs.Items.{HaveKeys}
use Rattle.tree_delete_range.specs.Outside.{items_outside}
use Rattle.volume_image.proofs.Reaches.{head_in, tail_in}
use Rattle.volume_image.proofs.Members.{in_filter}
use Rattle.log_items.specs.Forgotten.{is_entry_to, is_item_of, items_without}

abbrev pub lowest : Key
lowest = record { objectid = 0; kind = 0; offset = 0 }

abbrev pub highest : Key
highest = record { objectid = 18446744073709551615; kind = 255; offset = 18446744073709551615 }

abbrev pub first_of : ℕ → Key
first_of ino = record { objectid = ino; kind = 0; offset = 0 }

abbrev pub last_of : ℕ → Key
last_of ino = record { objectid = ino; kind = 255; offset = 18446744073709551615 }

-- ---- all keys

not_lower : (key : Key) → key_below key lowest ≡ false
not_lower key = false_from_ne_true (key_below key lowest) (λ h. let parts = KeyBelow_parts key lowest (key_below_means key lowest h) in grind (arith, parts))

not_higher : (key : Key) → KeyFits key → key_below highest key ≡ false
not_higher key fits = false_from_ne_true (key_below highest key) (λ h. let parts = KeyBelow_parts highest key (key_below_means highest key h) in grind (arith, parts, fits.objectid, fits.kind, fits.offset))

-- each key is from the lowest one on, and where keys fit their fields, none is above the highest one
pub all_from : (items : List Item) → items_from lowest items ≡ items
all_from items = filter_keeps (λ (item : Item). not (key_below item.0 lowest)) items (λ item c. ap not (not_lower item.0))

pub from_to_highest : (first : Key) (items : List Item) → HaveKeys items → items_between first highest items ≡ items_from first items
from_to_highest first items keys =
    filter_keeps (λ (item : Item). not (key_below highest item.0)) (items_from first items)
    (λ item c. ap not (not_higher item.0 (keys item.0 item.1 (in_filter (λ (item : Item). not (key_below item.0 first)) items item c).0)))

-- ---- the keys of an inode

-- whether an item's key is out of the range
abbrev is_out : ℕ → Item → Bool
is_out ino item = key_below item.0 (first_of ino) || key_below (last_of ino) item.0

apart_out : (ino : ℕ) (item : Item) → item.0.objectid ≢ ino → is_out ino item ≡ true
apart_out ino item other = go (key_below item.0 (first_of ino)) refl
  where
    go : (b : Bool) → key_below item.0 (first_of ino) ≡ b → (b || key_below (last_of ino) item.0) ≡ true
    go true is = refl
    go false is = key_below_from (last_of ino) item.0 (KeyBelow_from (last_of ino) item.0 (inl above))
      where
        above : ino < item.0.objectid
        above = elim (cases_order item.0.objectid ino) [
          | inl same ↦ absurd (other same)
          | inr more ↦ elim more [
            | inl low ↦ absurd (true≢false (sym (key_below_from item.0 (first_of ino) (KeyBelow_from item.0 (first_of ino) (inl low))) ∙ is))
            | inr high ↦ high
          ]
        ]

inside_out : (ino : ℕ) (item : Item) → item.0.objectid ≡ ino → KeyFits item.0 → is_out ino item ≡ false
inside_out ino item is fits =
    let front : key_below item.0 (first_of ino) ≡ false = false_from_ne_true (key_below item.0 (first_of ino)) (λ h. let parts = KeyBelow_parts item.0 (first_of ino) (key_below_means item.0 (first_of ino) h) in grind (arith, parts, is)) in
    let back : key_below (last_of ino) item.0 ≡ false = false_from_ne_true (key_below (last_of ino) item.0) (λ h. let parts = KeyBelow_parts (last_of ino) item.0 (key_below_means (last_of ino) item.0 h) in grind (arith, parts, is, fits.kind, fits.offset)) in
    rw (front, back) refl

-- the items out of the range that don't lead to the inode say nothing of it
one_out : (ino : ℕ) (item : Item) → KeyFits item.0 → (is_out ino item && not (is_entry_to ino item)) ≡ not (is_item_of ino item)
one_out ino item fits = elim (cases_Bool (nat_eq item.0.objectid ino)) [
  | inl same ↦ ap (λ (b : Bool). b && not (is_entry_to ino item)) (inside_out ino item (eqb-true item.0.objectid ino same) fits) ∙ sym (ap (λ (b : Bool). not (b || is_entry_to ino item)) same)
  | inr other ↦ ap (λ (b : Bool). b && not (is_entry_to ino item)) (apart_out ino item (λ e. true≢false (sym (eq-eqb item.0.objectid ino e) ∙ other))) ∙ sym (ap (λ (b : Bool). not (b || is_entry_to ino item)) other)
]

abbrev pub left : ℕ → List Item → List Item
left ino items = filter (λ item. not (is_entry_to ino item)) items

two_filters : (ino : ℕ) (x : Item) (later : List Item) (out : Bool) → left ino (cond out (x ∷ later) later) ≡ cond (out && not (is_entry_to ino x)) (x ∷ left ino later) (left ino later)
two_filters ino x later true = refl
two_filters ino x later false = refl

pub out_and_apart : (ino : ℕ) (items : List Item) → HaveKeys items → filter (λ item. not (is_entry_to ino item)) (items_outside (first_of ino) (last_of ino) items) ≡ items_without ino items
out_and_apart ino [] keys = refl
out_and_apart ino (x ∷ xs) keys =
    let later : List Item = items_outside (first_of ino) (last_of ino) xs in
    let rest : left ino later ≡ items_without ino xs = out_and_apart ino xs (λ key bytes c. keys key bytes (tail_in x (key, bytes) xs c)) in
    two_filters ino x later (is_out ino x)
    ∙ ap (λ (l : List Item). cond (is_out ino x && not (is_entry_to ino x)) (x ∷ l) l) rest
    ∙ ap (λ (b : Bool). cond b (x ∷ items_without ino xs) (items_without ino xs)) (one_out ino x (keys x.0 x.1 (head_in x xs)))

-- ---- keys of what is left

pub keys_outside : (first last : Key) (items : List Item) → HaveKeys items → HaveKeys (items_outside first last items)
keys_outside first last items keys = λ key bytes c. keys key bytes (in_filter (λ (item : Item). key_below item.0 first || key_below last item.0) items (key, bytes) c).0

pub keys_without : (ino : ℕ) (items : List Item) → HaveKeys items → HaveKeys (items_without ino items)
keys_without ino items keys = λ key bytes c. keys key bytes (in_filter (λ (item : Item). not (is_item_of ino item)) items (key, bytes) c).0
