-- One element more of a list that is looked through.
use Rattle.std.proofs.Common.{◌≡◌, Bool, true, false, cond, ◌||◌, List, [], ◌∷◌, Option, Some, None, find, refl, sym, ap, ◌∙◌}
use Rattle.std.specs.List.{list_any}
use Rattle.blk_base.specs.Leaf.{Item}
use Rattle.logged_volume.specs.FlatLog.{LogRange}
use Rattle.dir_ranges.specs.declared.place.Place.{Place}
use Rattle.dir_ranges.specs.declared.uncovered.Uncovered.{Uncovered}
use Rattle.dir_ranges.specs.Gone.{first_uncovered, found_in, is_uncovered, places_told}

pub any_step : {X : Type 0} (p : X → Bool) (left rest : List X) (x : X) (whole : Bool) → list_any p left ≡ whole → left ≡ x ∷ rest → p x ≡ false → list_any p rest ≡ whole
any_step p left rest x whole is step misses = sym (ap (λ b. b || list_any p rest) misses) ∙ sym (ap (list_any p) step) ∙ is

pub any_found : {X : Type 0} (p : X → Bool) (left rest : List X) (x : X) (whole : Bool) → list_any p left ≡ whole → left ≡ x ∷ rest → p x ≡ true → true ≡ whole
any_found p left rest x whole is step holds = sym (ap (λ b. b || list_any p rest) holds) ∙ sym (ap (list_any p) step) ∙ is

pub any_none : {X : Type 0} (p : X → Bool) (left : List X) (whole : Bool) → list_any p left ≡ whole → left ≡ [] → false ≡ whole
any_none p left whole is none = sym (ap (list_any p) none) ∙ is

find_head : {X : Type 0} (p : X → Bool) (x : X) (xs : List X) → find p (x ∷ xs) ≡ cond (p x) (Some x) (find p xs)
find_head p x xs = refl

pub find_step : {X : Type 0} (p : X → Bool) (left rest : List X) (x : X) (whole : Option X) → find p left ≡ whole → left ≡ x ∷ rest → p x ≡ false → find p rest ≡ whole
find_step p left rest x whole is step misses = sym (find_head p x rest ∙ ap (λ b. cond b (Some x) (find p rest)) misses) ∙ sym (ap (find p) step) ∙ is

pub find_found : {X : Type 0} (p : X → Bool) (left rest : List X) (x : X) (whole : Option X) → find p left ≡ whole → left ≡ x ∷ rest → p x ≡ true → Some x ≡ whole
find_found p left rest x whole is step holds = sym (find_head p x rest ∙ ap (λ b. cond b (Some x) (find p rest)) holds) ∙ sym (ap (find p) step) ∙ is

-- one item more: where it says an uncovered place, that is the first one, and else those that are left tell
pub item_found : (ranges : List LogRange) (left rest : List Item) (item : Item) (place : Place) (whole : Option Uncovered) → first_uncovered ranges left ≡ whole → left ≡ item ∷ rest
    → find (is_uncovered ranges) (places_told item) ≡ Some place → Some (record { key = item.0; place = place }) ≡ whole
item_found ranges left rest item place whole is step found =
    sym (ap (λ (o : Option Place). found_in item.0 o (first_uncovered ranges rest)) found) ∙ sym (ap (first_uncovered ranges) step) ∙ is

pub item_missed : (ranges : List LogRange) (left rest : List Item) (item : Item) (whole : Option Uncovered) → first_uncovered ranges left ≡ whole → left ≡ item ∷ rest
    → find (is_uncovered ranges) (places_told item) ≡ None → first_uncovered ranges rest ≡ whole
item_missed ranges left rest item whole is step none =
    sym (ap (λ (o : Option Place). found_in item.0 o (first_uncovered ranges rest)) none) ∙ sym (ap (first_uncovered ranges) step) ∙ is
