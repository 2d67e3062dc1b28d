-- All items stand between the least key and the greatest.
use Rattle.std.proofs.Common.{◌≡◌, ◌≤◌, ℕ, Bool, true, false, not, cond, List, [], ◌∷◌, Contains, filter, refl, ap, ◌∙◌, arith}
use Rattle.std.proofs.lemmas.Bool.Decides.{nat_tests}
use Rattle.std.specs.Ordering.{nat_cmp, ordering_then, is_lt}
use Rattle.blk_base.specs.declared.key.Key.{Key}
use Rattle.blk_base.specs.Keys.{KeyFits, key_below}
use Rattle.blk_base.specs.Leaf.{Item}
use Rattle.tree_range.specs.Between.{items_between, items_up_to}
use Rattle.tree_check.specs.Items.{HaveKeys}
use Rattle.volume_image.proofs.Reaches.{head_in, tail_in}
use Rattle.volume_image.specs.Subvolume.{make_key}

upto_most : (n most : ℕ) (rest : Rattle.std.specs.declared.cmp.Ordering.Ordering) → n ≤ most → is_lt rest ≡ false → is_lt (ordering_then (nat_cmp most n) rest) ≡ false
upto_most n most rest below h = grind (arith, nat_tests)

pub not_below : (key : Key) → key_below key (make_key 0 0 0) ≡ false
not_below key = grind (arith, nat_tests)

pub not_above : (key : Key) → KeyFits key → key_below (make_key 18446744073709551615 255 18446744073709551615) key ≡ false
not_above key fits =
    upto_most key.objectid 18446744073709551615 _ (omega (arith, fits.objectid)) (upto_most key.kind 255 _ (omega (arith, fits.kind)) (last (omega (arith, fits.offset))))
  where
    last : key.offset ≤ 18446744073709551615 → is_lt (nat_cmp 18446744073709551615 key.offset) ≡ false
    last h = grind (arith, nat_tests)

kept_all : (p : Item → Bool) (items : List Item) → ((item : Item) → Contains items item → p item ≡ true) → filter p items ≡ items
kept_all p [] h = refl
kept_all p (item ∷ items) h =
    ap (λ (b : Bool). cond b (item ∷ filter p items) (filter p items)) (h item (head_in item items))
    ∙ ap (λ zs. item ∷ zs) (kept_all p items (λ other c. h other (tail_in item other items c)))

-- the whole range has all items
pub whole : (items : List Item) → HaveKeys items → items_between (make_key 0 0 0) (make_key 18446744073709551615 255 18446744073709551615) items ≡ items
whole items keys =
    ap (items_up_to (make_key 18446744073709551615 255 18446744073709551615)) (kept_all (λ item. not (key_below item.0 (make_key 0 0 0))) items (λ item c. ap not (not_below item.0)))
    ∙ kept_all (λ item. not (key_below (make_key 18446744073709551615 255 18446744073709551615) item.0)) items (λ item c. ap not (not_above item.0 (keys item.0 item.1 c)))
