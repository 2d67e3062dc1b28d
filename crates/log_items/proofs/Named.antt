-- The items of a log with the names of an inode.
use Rattle.std.proofs.Common.{◌≡◌, ◌≢◌, ◌+◌, ◌++◌, ◌∙◌, ℕ, Bool, true, false, not, List, [], Contains, length, nat_eq, if◌then◌else◌, refl, sym, ap, inl, inr, arith}
use Rattle.std.proofs.lemmas.Bool.{eq-eqb, eqb-true}
use Rattle.std.proofs.lemmas.List.Elements.{Contains-append_cases}
use Rattle.blk_base.specs.Keys.{key_below}
use Rattle.blk_base.specs.Leaf.{Item}
use Rattle.blk_base.specs.Trees.{ItemsRise}
use Rattle.cow_tree.proofs.Items.{lower, upper}
use Rattle.log_items.specs.Copied.{with_range}
use Rattle.log_items.specs.Names.{first_name, items_with_names, last_name, names_to_log}
use Rattle.log_items.proofs.Copying.{between, outside_parts, with_range_count}
use Rattle.leaf_view.proofs.Rising.{key_below_means}
use Rattle.leaf_view.specs.KeyOrder.{KeyBelow_parts}
use Rattle.std.proofs.lemmas.Bool.{false_from_ne_true}
use Rattle.tree_check.specs.Items.{HaveKeys}
use Rattle.tree_delete_range.specs.Outside.{items_outside}
use Rattle.tree_range.specs.Between.{items_from}
use Rattle.volume_image.proofs.Lists.{in_nothing}
use Rattle.volume_image.proofs.Members.{in_filter}

pub in_order : (ino : ℕ) → key_below (last_name ino) (first_name ino) ≡ false
in_order ino = false_from_ne_true (key_below (last_name ino) (first_name ino)) (λ h. let parts = KeyBelow_parts (last_name ino) (first_name ino) (key_below_means (last_name ino) (first_name ino) h) in grind (arith, parts))

none_of_root : (ino : ℕ) (current : List Item) → ino ≡ 256 → names_to_log ino current ≡ []
none_of_root ino current is = rw (eq-eqb ino 256 is) refl

pub root_items : (ino : ℕ) (current items : List Item) → ino ≡ 256 → ItemsRise items → items_outside (first_name ino) (last_name ino) items ≡ items_with_names ino current items
root_items ino current items is rise =
    outside_parts (first_name ino) (last_name ino) items (in_order ino) rise
    ∙ ap (λ (new : List Item). with_range (first_name ino) (last_name ino) new items) (sym (none_of_root ino current is))

pub other_items : (ino : ℕ) (current items : List Item) → ino ≢ 256 → with_range (first_name ino) (last_name ino) (between (first_name ino) (last_name ino) current) items ≡ items_with_names ino current items
other_items ino current items other = rw (false_from_ne_true (nat_eq ino 256) (λ e. other (eqb-true ino 256 e))) refl

pub names_count : (ino : ℕ) (current items : List Item) → ItemsRise items → length (items_with_names ino current items) + length (between (first_name ino) (last_name ino) items) ≡ length items + length (names_to_log ino current)
names_count ino current items rise = with_range_count (first_name ino) (last_name ino) (names_to_log ino current) items (in_order ino) rise

-- an item of names that is to be logged is one of the subvolume's
pub logged_from : (ino : ℕ) (current : List Item) (item : Item) → Contains (names_to_log ino current) item → (nat_eq ino 256 ≡ false) × Contains (between (first_name ino) (last_name ino) current) item
logged_from ino current item = go (nat_eq ino 256)
  where
    go : (b : Bool) → Contains (if b then [] else between (first_name ino) (last_name ino) current) item → (b ≡ false) × Contains (between (first_name ino) (last_name ino) current) item
    go true c = absurd (in_nothing item c)
    go false c = (refl, c)

pub keys_with_names : (ino : ℕ) (current items : List Item) → HaveKeys current → HaveKeys items → HaveKeys (items_with_names ino current items)
keys_with_names ino current items theirs keys = λ key bytes c.
    elim (Contains-append_cases (lower (first_name ino) items) (names_to_log ino current ++ upper (last_name ino) items) (key, bytes) c) [
      | inl low ↦ keys key bytes (in_filter (λ (item : Item). key_below item.0 (first_name ino)) items (key, bytes) low).0
      | inr more ↦ elim (Contains-append_cases (names_to_log ino current) (upper (last_name ino) items) (key, bytes) more) [
        | inl new ↦
            let inside = (logged_from ino current (key, bytes) new).1 in
            theirs key bytes (in_filter (λ (item : Item). not (key_below item.0 (first_name ino))) current (key, bytes) (in_filter (λ (item : Item). not (key_below (last_name ino) item.0)) (items_from (first_name ino) current) (key, bytes) inside).0).0
        | inr high ↦ keys key bytes (in_filter (λ (item : Item). key_below (last_name ino) item.0) items (key, bytes) high).0
      ]
    ]
