-- The items out of a directory's two ranges of keys are those that aren't of its listing.
use Rattle.std.proofs.Common.{◌≡◌, ◌+◌, ◌∙◌, ◌||◌, ◌&&◌, ℕ, Bool, true, false, not, cond, List, [], ◌∷◌, length, nat_eq, refl, ap, ap₂, inl, inr, arith}
use Rattle.std.proofs.lemmas.Bool.{cases_Bool}
use Rattle.std.proofs.lemmas.Bool.Decides.{nat_tests}
use Rattle.blk_base.specs.declared.key.Key.{Key}
use Rattle.blk_base.specs.Keys.{KeyFits, dir_index, dir_log_index, key_below}
use Rattle.blk_base.specs.Leaf.{Item}
use Rattle.tree_check.specs.Items.{HaveKeys}
use Rattle.tree_delete_range.specs.Outside.{items_outside}
use Rattle.volume_image.specs.Subvolume.{make_key}
use Rattle.volume_image.proofs.Members.{in_filter}
use Rattle.volume_image.proofs.Reaches.{head_in, tail_in}
use Rattle.dir_ranges.specs.Listing.{is_listing_of, items_without_listing, listing_count}

abbrev pub top : ℕ
top = 18446744073709551615

abbrev is_out : ℕ → ℕ → Key → Bool
is_out dir kind key = key_below key (make_key dir kind 0) || key_below (make_key dir kind top) key

one_out : (dir kind : ℕ) (key : Key) → KeyFits key → is_out dir kind key ≡ not (nat_eq key.objectid dir && nat_eq key.kind kind)
one_out dir kind key fits = let low = fits.offset in grind (arith, nat_tests)

both_out : (dir : ℕ) (item : Item) → KeyFits item.0 → (is_out dir dir_log_index item.0 && is_out dir dir_index item.0) ≡ not (is_listing_of dir item)
both_out dir item fits =
    go (nat_eq item.0.objectid dir) (nat_eq item.0.kind dir_log_index) (nat_eq item.0.kind dir_index) (is_out dir dir_log_index item.0) (is_out dir dir_index item.0)
    (one_out dir dir_log_index item.0 fits) (one_out dir dir_index item.0 fits)
  where
    go : (own range entry out_one out_two : Bool) → out_one ≡ not (own && range) → out_two ≡ not (own && entry) → (out_one && out_two) ≡ not (own && (range || entry))
    go true true entry a b e f = ap (λ (o : Bool). o && b) e
    go true false entry a b e f = ap (λ (o : Bool). o && b) e ∙ f
    go false range entry a b e f = ap (λ (o : Bool). o && b) e ∙ f

pub outside_both : (dir : ℕ) (items : List Item) → HaveKeys items
    → items_outside (make_key dir dir_index 0) (make_key dir dir_index top) (items_outside (make_key dir dir_log_index 0) (make_key dir dir_log_index top) items) ≡ items_without_listing dir items
outside_both dir [] keys = refl
outside_both dir (x ∷ xs) keys =
    two (is_out dir dir_log_index x.0)
    ∙ ap (λ (b : Bool). cond b (x ∷ rest) rest) (both_out dir x (keys x.0 x.1 (head_in x xs)))
    ∙ ap (λ (l : List Item). cond (not (is_listing_of dir x)) (x ∷ l) l) (outside_both dir xs (λ key bytes c. keys key bytes (tail_in x (key, bytes) xs c)))
  where
    left : List Item
    left = items_outside (make_key dir dir_log_index 0) (make_key dir dir_log_index top) xs

    rest : List Item
    rest = items_outside (make_key dir dir_index 0) (make_key dir dir_index top) left

    two : (a : Bool) → items_outside (make_key dir dir_index 0) (make_key dir dir_index top) (cond a (x ∷ left) left) ≡ cond (a && is_out dir dir_index x.0) (x ∷ rest) rest
    two true = refl
    two false = refl

pub keys_without : (dir : ℕ) (items : List Item) → HaveKeys items → HaveKeys (items_without_listing dir items)
keys_without dir items keys = λ key bytes c. keys key bytes (in_filter (λ (item : Item). not (is_listing_of dir item)) items (key, bytes) c).0

pub both_kinds : (dir : ℕ) (items : List Item) → length (items_without_listing dir items) + listing_count dir items ≡ length items
both_kinds dir [] = refl
both_kinds dir (x ∷ xs) =
    let rest = both_kinds dir xs in
    elim (cases_Bool (is_listing_of dir x)) [
      | inl here ↦ rw here (omega (arith, rest))
      | inr other ↦ rw other (omega (arith, rest))
    ]

-- the items after both ranges were taken out
pub after_both : (dir : ℕ) (old mid new : List Item) (first_range last_range first_entry last_entry : Key) → HaveKeys old → first_range ≡ make_key dir dir_log_index 0 → last_range ≡ make_key dir dir_log_index top → first_entry ≡ make_key dir dir_index 0
    → last_entry ≡ make_key dir dir_index top → mid ≡ items_outside first_range last_range old → new ≡ items_outside first_entry last_entry mid → new ≡ items_without_listing dir old
after_both dir old mid new first_range last_range first_entry last_entry keys a b c d one two =
    two
    ∙ ap₂ (λ (first last : Key). items_outside first last mid) c d
    ∙ ap (items_outside (make_key dir dir_index 0) (make_key dir dir_index top)) (one ∙ ap₂ (λ (first last : Key). items_outside first last old) a b)
    ∙ outside_both dir old keys
