-- Where a search has ended, what it found is the least set.
use Rattle.std.proofs.Common.{◌≡◌, ◌<◌, ◌+◌, ◌*◌, ◌-◌, ◌++◌, ◌⊎◌, ℕ, Bool, true, false, List, [], ◌∷◌, length, Contains, refl, sym, ap, subst, ◌∙◌, arith, inl, inr}
use Rattle.std.proofs.lemmas.Bool.{true≢false}
use Rattle.std.proofs.lemmas.List.{length-append}
use Rattle.std.proofs.lemmas.List.Elements.{Contains-append_cases}
use Rattle.flat_model.specs.Names.{FlatName}
use Rattle.flat_model.specs.Volume.{Subvolume}
use Rattle.flat_model.proofs.Lists.{contains_head, contains_none, contains_cases}
use Rattle.logged_volume.specs.Numbers.{is_in, is_number_set}
use Rattle.logged_volume.specs.Drawn.{LeadsTo, is_first, DrawsAbove, DrawsSlots, least_set}
use Rattle.logged_volume.proofs.Members.{in_from, in_gives}
use Rattle.logged_volume.proofs.LeastSets.{least_set_closed, least_set_within, least_set_is_least, least_is_one, parent_from}
use Rattle.drawn_set.specs.declared.search.Search.{Search}
use Rattle.drawn_set.specs.Search.{IsEmpty, IsSearch, Grows, AreGoodAbove, DrawsFirst, Follows}
use Rattle.drawn_set.proofs.Sets.{set_within}

pub empty_search : (current logged : Subvolume) (is_good : ℕ → Bool) (search : Search) → IsEmpty search → IsSearch current logged is_good [] search
empty_search current logged is_good search empty = record {
  in_order = ap is_number_set empty.members;
  good = λ ino c. absurd (contains_none ino (subst (λ s. Contains s ino) empty.members c));
  fresh = λ ino c. absurd (contains_none ino (subst (λ s. Contains s ino) empty.fresh c));
  parents = λ member dir c _ _. absurd (contains_none member (subst (λ s. Contains s member) empty.members c));
  up = λ dir parent c _. absurd (contains_none dir (subst (λ s. Contains s dir) empty.above c));
  drawn = λ dir c _. absurd (contains_none dir (subst (λ s. Contains s dir) empty.above c));
}

module _ (current logged : Subvolume) (target : ℕ) where
  -- what a search has found is closed under the rule on directories above
  module _ (is_good : ℕ → Bool) (found : Search) (search : IsSearch current logged is_good [] found) where
    sure : (d : ℕ) → Contains found.above.keys d ⊎ Contains [] d → Contains found.above.keys d
    sure d (inl c) = c
    sure d (inr c) = absurd (contains_none d c)

    way_noted : (way : List FlatName) (dir up : ℕ) → Contains found.above.keys dir → LeadsTo current.names dir way up → Contains found.above.keys up
    way_noted [] dir up c leads = subst (Contains found.above.keys) leads c
    way_noted (name ∷ way) dir up c leads =
        way_noted way name.dir up (sure name.dir (search.up dir name.dir c (parent_from current.names name dir name.dir leads.0 leads.1 refl))) leads.2

    pub above_drawn : (member ino : ℕ) → Contains found.members.keys member → DrawsAbove current logged member ino → Contains found.members.keys ino
    above_drawn member ino c draws =
        let name = draws.1.0 in
        let leads = draws.1.2 in
        search.drawn ino (way_noted draws.1.1 name.dir ino (sure name.dir (search.parents member name.dir c draws.0 (parent_from current.names name member name.dir leads.0 leads.1 refl))) leads.2) draws.2

  is_least : (with_slots : Bool) → ℕ → Bool
  is_least with_slots = is_in (least_set current logged target with_slots)

  pub good_above : (with_slots : Bool) → AreGoodAbove current logged (is_in (least_set current logged target with_slots))
  good_above with_slots member ino c draws = (least_set_closed current logged target with_slots).above member ino c draws

  pub good_first : (with_slots : Bool) (ino : ℕ) → is_first current logged target ino ≡ true → is_in (least_set current logged target with_slots) ino ≡ true
  good_first with_slots = (least_set_closed current logged target with_slots).first

  pub found_is : (with_slots : Bool) (found : Search) → IsSearch current logged (is_in (least_set current logged target with_slots)) [] found → ((ino : ℕ) → is_first current logged target ino ≡ true → Contains found.members.keys ino)
      → ((member ino : ℕ) → with_slots ≡ true → Contains found.members.keys member → DrawsSlots current logged member ino → Contains found.members.keys ino) → found.members.keys ≡ least_set current logged target with_slots
  found_is with_slots found search first slots = least_is_one current logged target with_slots found.members.keys (least_set current logged target with_slots)
      (record {
        in_order = search.in_order;
        closed = record {
          first = λ ino t. in_from _ ino (first ino t);
          above = λ member ino c draws. in_from _ ino (above_drawn (is_in (least_set current logged target with_slots)) found search member ino (in_gives _ member c) draws);
          slots = λ member ino with c draws. in_from _ ino (slots member ino with (in_gives _ member c) draws);
        };
        least = λ has closed ino c. least_set_within current logged target with_slots has closed ino (search.good ino (in_gives _ ino c));
      })
      (least_set_is_least current logged target with_slots)

  -- the first inodes and what they draw without slots
  pub first_search : (with_slots : Bool) (start found : Search) → IsEmpty start → DrawsFirst current logged target start found → IsSearch current logged (is_in (least_set current logged target with_slots)) [] found
  first_search with_slots start found empty draws = draws.search (is_in (least_set current logged target with_slots)) (good_above with_slots) (good_first with_slots) (empty_search current logged _ start empty)

  pub plain_is : (start found : Search) → IsEmpty start → DrawsFirst current logged target start found → found.members.keys ≡ least_set current logged target false
  plain_is start found empty draws = found_is false found (first_search false start found empty draws) draws.has (λ member ino with _ _. absurd (true≢false (sym with)))

-- ---- going on with slots

-- a search with all first inodes, whose members draw by slots what is there, but for the fresh ones
pub record IsFollowed (current logged : Subvolume) (target : ℕ) (found : Search) : Type 0 where
  pub search : IsSearch current logged (is_in (least_set current logged target true)) [] found
  pub first : (ino : ℕ) → is_first current logged target ino ≡ true → Contains found.members.keys ino
  pub slots : (member : ℕ) → Contains found.members.keys member → Contains found.fresh.items member ⊎ ((ino : ℕ) → DrawsSlots current logged member ino → Contains found.members.keys ino)

module _ (current logged : Subvolume) (target : ℕ) where
  pub followed_first : (start found : Search) → IsEmpty start → Grows start found → DrawsFirst current logged target start found → IsFollowed current logged target found
  followed_first start found empty grows draws = record {
    search = first_search current logged target true start found empty draws;
    first = draws.has;
    slots = λ member c. elim (grows.new_fresh member c) [
      | inl before ↦ absurd (contains_none member (subst (λ s. Contains s member) empty.members before))
      | inr fresh ↦ inl fresh
    ];
  }

  -- one fresh member is taken
  taken : (old middle : Search) (member : ℕ) → middle.members.keys ≡ old.members.keys → middle.above.keys ≡ old.above.keys → old.fresh.items ≡ middle.fresh.items ++ member ∷ [] → IsFollowed current logged target old
      → IsSearch current logged (is_in (least_set current logged target true)) [] middle
  taken old middle member members above fresh followed = record {
    in_order = ap is_number_set members ∙ followed.search.in_order;
    good = λ ino c. followed.search.good ino (subst (λ s. Contains s ino) members c);
    fresh = λ ino c. subst (λ s. Contains s ino) (sym members) (followed.search.fresh ino (subst (λ s. Contains s ino) (sym fresh) (Rattle.std.proofs.lemmas.List.Elements.Contains-append_left middle.fresh.items (member ∷ []) ino c)));
    parents = λ m dir c there t. elim (followed.search.parents m dir (subst (λ s. Contains s m) members c) there t) [ inl there' ↦ inl (subst (λ s. Contains s dir) (sym above) there') | inr none ↦ inr none ];
    up = λ dir parent c t. elim (followed.search.up dir parent (subst (λ s. Contains s dir) above c) t) [ inl there' ↦ inl (subst (λ s. Contains s parent) (sym above) there') | inr none ↦ inr none ];
    drawn = λ dir c out. subst (λ s. Contains s dir) (sym members) (followed.search.drawn dir (subst (λ s. Contains s dir) above c) out);
  }

  pub followed_more : (old middle new : Search) (member : ℕ) → middle.members.keys ≡ old.members.keys → middle.above.keys ≡ old.above.keys → old.fresh.items ≡ middle.fresh.items ++ member ∷ [] → IsFollowed current logged target old
      → Grows middle new → Follows current logged member middle new → IsFollowed current logged target new
  followed_more old middle new member members above fresh followed grows follows = record {
    search = follows.search (is_in (least_set current logged target true)) (good_above current logged target true)
        (λ ino draws. (least_set_closed current logged target true).slots member ino refl (followed.search.good member (followed.search.fresh member last)) draws)
        (taken old middle member members above fresh followed);
    first = λ ino t. kept ino (followed.first ino t);
    slots = λ m c. elim (grows.new_fresh m c) [
      | inr came ↦ inl came
      | inl before ↦ elim (followed.slots m (subst (λ s. Contains s m) members before)) [
        | inr drawn ↦ inr (λ ino draws. kept ino (drawn ino draws))
        | inl waiting ↦ elim (Contains-append_cases middle.fresh.items (member ∷ []) m (subst (λ s. Contains s m) fresh waiting)) [
          | inl still ↦ inl (grows.fresh m still)
          | inr here ↦ elim (contains_cases member [] m here) [
            | inl same ↦ inr (λ ino draws. follows.has ino (subst (λ i. DrawsSlots current logged i ino) (sym same) draws))
            | inr none ↦ absurd (contains_none m none)
          ]
        ]
      ]
    ];
  }
    where
      last : Contains old.fresh.items member
      last = subst (λ s. Contains s member) (sym fresh) (Rattle.std.proofs.lemmas.List.Elements.Contains-append_right middle.fresh.items (member ∷ []) member (contains_head member []))

      kept : (ino : ℕ) → Contains old.members.keys ino → Contains new.members.keys ino
      kept ino c = grows.members ino (subst (λ s. Contains s ino) (sym members) c)

  -- how much is left to do
  pub followed_less : (old middle new : Search) (member : ℕ) → middle.members.keys ≡ old.members.keys → old.fresh.items ≡ middle.fresh.items ++ member ∷ [] → Grows middle new → IsFollowed current logged target old → IsFollowed current logged target new
      → 2 * (length (least_set current logged target true) - length new.members.keys) + length new.fresh.items < 2 * (length (least_set current logged target true) - length old.members.keys) + length old.fresh.items
  followed_less old middle new member members fresh grows followed followed' =
      let most = set_within new.members.keys (least_set current logged target true) followed'.search.in_order (λ ino c. in_gives _ ino (followed'.search.good ino c)) in
      let most' = set_within old.members.keys (least_set current logged target true) followed.search.in_order (λ ino c. in_gives _ ino (followed.search.good ino c)) in
      let more = set_within old.members.keys new.members.keys followed.search.in_order (λ ino c. grows.members ino (subst (λ s. Contains s ino) (sym members) c)) in
      omega (arith, most, most', more, grows.counts, ap length members, ap length fresh, length-append middle.fresh.items (member ∷ []))

  pub all_is : (found : Search) → IsFollowed current logged target found → found.fresh.items ≡ [] → found.members.keys ≡ least_set current logged target true
  all_is found followed none = found_is current logged target true found followed.search followed.first
      (λ member ino _ c draws. elim (followed.slots member c) [
        | inl waiting ↦ absurd (contains_none member (subst (λ s. Contains s member) none waiting))
        | inr drawn ↦ drawn ino draws
      ])
