-- What is drawn by the slots of a member's names.
use Rattle.std.proofs.Common.{◌≡◌, ◌<◌, ◌+◌, ℕ, true, ◌&&◌, List, [], map, length, take, get_or, Contains, sym, subst, ◌∙◌, inl, inr}
use Rattle.std.specs.List.{list_any}
use Rattle.std.specs.List.Sorted.{IsPermutation}
use Rattle.std.proofs.lemmas.Bool.{and_parts, and_from}
use Rattle.flat_model.specs.declared.view.NameAt.{NameAt}
use Rattle.flat_model.specs.Names.{leads_to, names_of}
use Rattle.flat_model.specs.Unmarked.{unmarked}
use Rattle.flat_model.specs.Volume.{Subvolume}
use Rattle.flat_model.proofs.Lists.{contains_none, contains_filter, filter_contains}
use Rattle.logged_volume.specs.Agreement.{is_there}
use Rattle.logged_volume.specs.Drawn.{DrawsSlots, is_one_slot}
use Rattle.logged_volume.proofs.Members.{any_from, any_gives}
use Rattle.drawn_set.specs.declared.search.Search.{Search}
use Rattle.drawn_set.specs.Search.{DrawsEach, Grows}
use Rattle.drawn_set.specs.Slots.{AreInSlotOf, is_in_slot_of}
use Rattle.drawn_set.proofs.Given.{given_from, given_is}
use Rattle.drawn_set.proofs.Searches.{draws_like, draws_none, draws_on, taken_cases, taken_keeps, taken_last}

-- R has the inode in the slot of one of the names
abbrev pub IsInSlotAmong : Subvolume → Subvolume → List NameAt → ℕ → Type 0
IsInSlotAmong current logged names ino = (name : NameAt) × Contains names name × (is_in_slot_of current logged name ino ≡ true)

module _ (current logged : Subvolume) where
  pub follows_none : (search : Search) → DrawsEach current logged (IsInSlotAmong current logged []) search search
  follows_none search = draws_none current logged (IsInSlotAmong current logged []) search (λ ino w. contains_none w.0 w.1)

  pub follows_more : (names : List NameAt) (k : ℕ) (at : NameAt) (inos : List ℕ) (start old new : Search) → k < length names → at ≡ get_or names k at → AreInSlotOf current logged at inos → Grows old new
      → DrawsEach current logged (IsInSlotAmong current logged (take k names)) start old → DrawsEach current logged (Contains inos) old new → DrawsEach current logged (IsInSlotAmong current logged (take (k + 1) names)) start new
  follows_more names k at inos start old new below is are grows one two =
      draws_on current logged (IsInSlotAmong current logged (take k names)) (Contains inos) (IsInSlotAmong current logged (take (k + 1) names)) start old new grows one two
      (λ ino w. elim (taken_cases names k at below w.0 w.1) [
        | inl before ↦ inl (w.0, before, w.2)
        | inr here ↦ inr ((are ino).1 (subst (λ (n : NameAt). is_in_slot_of current logged n ino ≡ true) (sym (is ∙ here)) w.2))
      ])
      (λ ino w. (w.0, taken_keeps names k at below w.0 w.1, w.2))
      (λ ino c. (get_or names k at, taken_last names k at below, subst (λ (n : NameAt). is_in_slot_of current logged n ino ≡ true) is ((are ino).0 c)))

  pub follows_member : (member : ℕ) (names : List NameAt) (start new : Search) → is_there current member ≡ true → IsPermutation (map unmarked (names_of current.names member)) names
      → DrawsEach current logged (IsInSlotAmong current logged names) start new → DrawsEach current logged (DrawsSlots current logged member) start new
  follows_member member names start new there same draws = draws_like current logged (IsInSlotAmong current logged names) (DrawsSlots current logged member) start new
      (λ ino w.
      let found = any_gives (λ name. leads_to member name && list_any (λ other. leads_to ino other && is_one_slot current logged name other) logged.names) current.names w.1 in
      let parts = and_parts (leads_to member found.0) (list_any (λ other. leads_to ino other && is_one_slot current logged found.0 other) logged.names) found.2 in
      (unmarked found.0, given_from (names_of current.names member) names same found.0 (contains_filter (leads_to member) current.names found.0 parts.0 found.1), parts.1))
      (λ ino w.
      let found = given_is (names_of current.names member) names same w.0 w.1 in
      let parts = filter_contains (leads_to member) current.names found.0 found.1 in (
        there,
        any_from (λ name. leads_to member name && list_any (λ other. leads_to ino other && is_one_slot current logged name other) logged.names) current.names found.0 parts.0
            (and_from (leads_to member found.0) (list_any (λ other. leads_to ino other && is_one_slot current logged found.0 other) logged.names) parts.1
            (subst (λ (n : NameAt). is_in_slot_of current logged n ino ≡ true) (sym found.2) w.2)),
      ))
      draws
