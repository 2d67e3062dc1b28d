-- What the steps of a search add, and that the rules stay kept.
use Rattle.std.proofs.Common.{◌≡◌, ◌<◌, ◌+◌, ◌++◌, ◌⊎◌, ℕ, Bool, true, false, not, cond, List, [], ◌∷◌, length, Contains, Option, Some, None, Result, Ok, Err, refl, sym, ap, subst, ◌∙◌, arith, inl, inr, take, drop, get_or, add-one, drop-cons}
use Rattle.std.specs.Option.{IfSome}
use Rattle.std.specs.Result.{OnOk}
use Rattle.std.specs.Prelude.{nat_eq}
use Rattle.std.specs.FinMap.{keys}
use Rattle.std.proofs.lemmas.Bool.{true≢false, and_from, and_parts, or_cases, or_left, or_right, eqb-true, eq-eqb}
use Rattle.std.proofs.lemmas.List.{length-append, take_more}
use Rattle.std.proofs.lemmas.List.Elements.{Contains-append_left, Contains-append_right, Contains-append_cases, Contains-push, Contains-push_cases}
use Rattle.flat_model.specs.Names.{FlatName}
use Rattle.flat_model.specs.Volume.{Subvolume, is_dir_at}
use Rattle.flat_model.proofs.Lists.{contains_head, contains_tail, contains_none, contains_cases}
use Rattle.logged_volume.specs.Numbers.{add_number, is_in, is_number_set}
use Rattle.logged_volume.specs.Agreement.{is_there, do_names_differ}
use Rattle.logged_volume.specs.Drawn.{LeadsTo, is_parent, is_out_of_step, is_first}
use Rattle.logged_volume.proofs.Members.{add_number_cases, add_number_has, add_number_keeps, in_gives, is_set_add}
use Rattle.logged_volume.proofs.LeastSets.{leads_further, parent_gives}
use Rattle.drawn_set.specs.declared.search.Search.{Search}
use Rattle.drawn_set.specs.Names.{AreInodesInEither, AreParents, IsParentOf}
use Rattle.drawn_set.specs.Search.{IsSearch, Grows, Visits, pending_with, unnoted, IsFrom, AreGoodFrom, ClimbsAll, AreGoodAbove, DrawsEach}
use Rattle.drawn_set.proofs.Sets.{fewer_missing}

-- ---- two clauses of one result

pub ok_both : {T E : Type 0} {P Q R : Type 0} (r : Result T E) → (P → Q → R) → OnOk r P → OnOk r Q → OnOk r R
ok_both (Ok x) f p q = f p q
ok_both (Err e) f p q = tt

-- ---- growing

pub grows_none : (search : Search) → Grows search search
grows_none search = record { members = λ ino c. c; fresh = λ ino c. c; new_fresh = λ ino c. inl c; counts = omega arith }

pub grows_same : (old new : Search) → new.members.keys ≡ old.members.keys → new.fresh.items ≡ old.fresh.items → Grows old new
grows_same old new members fresh = record {
  members = λ ino c. subst (λ s. Contains s ino) (sym members) c;
  fresh = λ ino c. subst (λ s. Contains s ino) (sym fresh) c;
  new_fresh = λ ino c. inl (subst (λ s. Contains s ino) members c);
  counts = omega (arith, ap length members, ap length fresh);
}

pub grows_on : (old middle new : Search) → Grows old middle → Grows middle new → Grows old new
grows_on old middle new one two = record {
  members = λ ino c. two.members ino (one.members ino c);
  fresh = λ ino c. two.fresh ino (one.fresh ino c);
  new_fresh = λ ino c. elim (two.new_fresh ino c) [
    | inl there ↦ elim (one.new_fresh ino there) [ inl here ↦ inl here | inr came ↦ inr (two.fresh ino came) ]
    | inr came ↦ inr came
  ];
  counts = omega (arith, one.counts, two.counts);
}

-- what an `add` says
pub record IsAdded (ino : ℕ) (is_new : Bool) (old new : Search) : Type 0 where
  pub missing : is_new ≡ not (is_in old.members.keys ino)
  pub members : new.members.keys ≡ add_number ino old.members.keys
  pub count : length new.members.keys ≡ length old.members.keys + cond is_new 1 0
  pub fresh : new.fresh.items ≡ cond is_new (old.fresh.items ++ ino ∷ []) old.fresh.items

grows_by : (ino : ℕ) (b : Bool) (old new : Search) → is_in old.members.keys ino ≡ not b → IsAdded ino b old new → Grows old new
grows_by ino true old new missing added = record {
  members = λ i c. subst (λ s. Contains s i) (sym added.members) (add_number_keeps ino old.members.keys i c);
  fresh = λ i c. subst (λ s. Contains s i) (sym added.fresh) (Contains-append_left old.fresh.items (ino ∷ []) i c);
  new_fresh = λ i c. elim (add_number_cases ino old.members.keys i (subst (λ s. Contains s i) added.members c)) [
    | inl same ↦ inr (subst (λ s. Contains s i) (sym added.fresh) (Contains-append_right old.fresh.items (ino ∷ []) i (subst (Contains (ino ∷ [])) same (contains_head ino []))))
    | inr there ↦ inl there
  ];
  counts = omega (arith, added.count, ap length added.fresh, length-append old.fresh.items (ino ∷ []));
}
grows_by ino false old new there added = record {
  members = λ i c. subst (λ s. Contains s i) (sym added.members) (add_number_keeps ino old.members.keys i c);
  fresh = λ i c. subst (λ s. Contains s i) (sym added.fresh) c;
  new_fresh = λ i c. inl (elim (add_number_cases ino old.members.keys i (subst (λ s. Contains s i) added.members c)) [
    | inl same ↦ subst (Contains old.members.keys) same (in_gives old.members.keys ino there)
    | inr stays ↦ stays
  ]);
  counts = omega (arith, added.count, ap length added.fresh);
}

pub not_not : (a b : Bool) → a ≡ not b → b ≡ not a
not_not a true e = ap not (sym e)
not_not a false e = ap not (sym e)

pub grows_added : (ino : ℕ) (is_new : Bool) (old new : Search) → IsAdded ino is_new old new → Grows old new
grows_added ino is_new old new added = grows_by ino is_new old new (not_not is_new (is_in old.members.keys ino) added.missing) added

-- ---- one directory noted

-- a directory is noted, and is a member where it is out of step
pub record IsNoted (current logged : Subvolume) (dir : ℕ) (old new : Search) : Type 0 where
  pub above : new.above.keys ≡ add_number dir old.above.keys
  pub in_order : is_number_set old.members.keys ≡ true → is_number_set new.members.keys ≡ true
  pub members : (ino : ℕ) → Contains new.members.keys ino → Contains old.members.keys ino ⊎ ((dir ≡ ino) × (is_out_of_step current logged dir ≡ true))
  pub drawn : is_out_of_step current logged dir ≡ true → Contains new.members.keys dir
  pub fresh : (ino : ℕ) → Contains new.fresh.items ino → Contains old.fresh.items ino ⊎ Contains new.members.keys ino
  pub grows : Grows old new

-- no member came
pub noted_same : (current logged : Subvolume) (dir : ℕ) (old new : Search) → is_out_of_step current logged dir ≡ false → new.above.keys ≡ add_number dir old.above.keys
    → new.members.keys ≡ old.members.keys → new.fresh.items ≡ old.fresh.items → IsNoted current logged dir old new
noted_same current logged dir old new in_step above members fresh = record {
  above = above;
  in_order = λ set. ap is_number_set members ∙ set;
  members = λ ino c. inl (subst (λ s. Contains s ino) members c);
  drawn = λ out. absurd (true≢false (sym out ∙ in_step));
  fresh = λ ino c. inl (subst (λ s. Contains s ino) fresh c);
  grows = grows_same old new members fresh;
}

fresh_cases : (ino : ℕ) (b : Bool) (fresh : List ℕ) (i : ℕ) → Contains (cond b (fresh ++ ino ∷ []) fresh) i → Contains fresh i ⊎ (ino ≡ i)
fresh_cases ino true fresh i c = elim (Contains-append_cases fresh (ino ∷ []) i c) [
  | inl old ↦ inl old
  | inr new ↦ elim (contains_cases ino [] i new) [ inl same ↦ inr same | inr none ↦ absurd (contains_none i none) ]
]
fresh_cases ino false fresh i c = inl c

-- the directory came
pub noted_added : (current logged : Subvolume) (dir : ℕ) (is_new : Bool) (old new : Search) → is_out_of_step current logged dir ≡ true → new.above.keys ≡ add_number dir old.above.keys
    → IsAdded dir is_new old new → IsNoted current logged dir old new
noted_added current logged dir is_new old new out above added = record {
  above = above;
  in_order = λ set. ap is_number_set added.members ∙ is_set_add dir old.members.keys set;
  members = λ ino c. elim (add_number_cases dir old.members.keys ino (subst (λ s. Contains s ino) added.members c)) [
    | inl same ↦ inr (same, out)
    | inr there ↦ inl there
  ];
  drawn = λ _. subst (λ s. Contains s dir) (sym added.members) (add_number_has dir old.members.keys);
  fresh = λ ino c. elim (fresh_cases dir is_new old.fresh.items ino (subst (λ s. Contains s ino) added.fresh c)) [
    | inl there ↦ inl there
    | inr same ↦ inr (subst (λ s. Contains s ino) (sym added.members) (subst (Contains (add_number dir old.members.keys)) same (add_number_has dir old.members.keys)))
  ];
  grows = grows_added dir is_new old new added;
}

with_next : (next : Option ℕ) (pending : List ℕ) (d : ℕ) → Contains pending d → Contains (pending_with next pending) d
with_next None pending d c = c
with_next (Some first) pending d c = contains_tail first pending d c

next_there : (next : Option ℕ) (pending : List ℕ) (d : ℕ) → next ≡ Some d → Contains (pending_with next pending) d
next_there next pending d e = subst (λ n. Contains (pending_with n pending) d) (sym e) (contains_head d pending)

module _ (current logged : Subvolume) (dir : ℕ) (old new : Search) (noted : IsNoted current logged dir old new) (next : Option ℕ) (is_next : IsParentOf current.names dir next) (is_good : ℕ → Bool) (pending : List ℕ) where
  still : (d : ℕ) → Contains old.above.keys d ⊎ Contains (dir ∷ pending) d → Contains new.above.keys d ⊎ Contains (pending_with next pending) d
  still d (inl above) = inl (subst (λ s. Contains s d) (sym noted.above) (add_number_keeps dir old.above.keys d above))
  still d (inr waiting) = elim (contains_cases dir pending d waiting) [
    | inl same ↦ inl (subst (λ s. Contains s d) (sym noted.above) (subst (Contains (add_number dir old.above.keys)) same (add_number_has dir old.above.keys)))
    | inr later ↦ inr (with_next next pending d later)
  ]

  goes_on : (d : ℕ) → is_parent current.names dir d ≡ true → Contains new.above.keys d ⊎ Contains (pending_with next pending) d
  goes_on d t = inr (next_there next pending d ((is_next d).0 t))

  pub noted_search : (is_out_of_step current logged dir ≡ true → is_good dir ≡ true) → IsSearch current logged is_good (dir ∷ pending) old → IsSearch current logged is_good (pending_with next pending) new
  noted_search good_dir search = record {
    in_order = noted.in_order search.in_order;
    good = λ ino c. elim (noted.members ino c) [ inl there ↦ search.good ino there | inr came ↦ subst (λ i. is_good i ≡ true) came.0 (good_dir came.1) ];
    fresh = λ ino c. elim (noted.fresh ino c) [ inl there ↦ noted.grows.members ino (search.fresh ino there) | inr came ↦ came ];
    parents = λ member d c there t. elim (noted.members member c) [
      | inl stays ↦ still d (search.parents member d stays there t)
      | inr came ↦ goes_on d (subst (λ m. is_parent current.names m d ≡ true) (sym came.0) t)
    ];
    up = λ d parent c t. elim (add_number_cases dir old.above.keys d (subst (λ s. Contains s d) noted.above c)) [
      | inl same ↦ goes_on parent (subst (λ m. is_parent current.names m parent ≡ true) (sym same) t)
      | inr stays ↦ still parent (search.up d parent stays t)
    ];
    drawn = λ d c out. elim (add_number_cases dir old.above.keys d (subst (λ s. Contains s d) noted.above c)) [
      | inl same ↦ subst (Contains new.members.keys) same (noted.drawn (subst (λ m. is_out_of_step current logged m ≡ true) (sym same) out))
      | inr stays ↦ noted.grows.members d (search.drawn d stays out)
    ];
  }

-- a directory that was noted before
pub noted_before : (current logged : Subvolume) (dir : ℕ) (old new : Search) → new.members.keys ≡ old.members.keys → new.fresh.items ≡ old.fresh.items → new.above.keys ≡ old.above.keys → Contains old.above.keys dir
    → (is_good : ℕ → Bool) (pending : List ℕ) → IsSearch current logged is_good (dir ∷ pending) old → IsSearch current logged is_good pending new
noted_before current logged dir old new members fresh above there is_good pending search = record {
  in_order = ap is_number_set members ∙ search.in_order;
  good = λ ino c. search.good ino (subst (λ s. Contains s ino) members c);
  fresh = λ ino c. subst (λ s. Contains s ino) (sym members) (search.fresh ino (subst (λ s. Contains s ino) fresh c));
  parents = λ member d c here t. before d (search.parents member d (subst (λ s. Contains s member) members c) here t);
  up = λ d parent c t. before parent (search.up d parent (subst (λ s. Contains s d) above c) t);
  drawn = λ d c out. subst (λ s. Contains s d) (sym members) (search.drawn d (subst (λ s. Contains s d) above c) out);
}
  where
    before : (d : ℕ) → Contains old.above.keys d ⊎ Contains (dir ∷ pending) d → Contains new.above.keys d ⊎ Contains pending d
    before d (inl c) = inl (subst (λ s. Contains s d) (sym above) c)
    before d (inr c) = elim (contains_cases dir pending d c) [
      | inl same ↦ inl (subst (λ s. Contains s d) (sym above) (subst (Contains old.above.keys) same there))
      | inr later ↦ inr later
    ]

pub visits_before : (current logged : Subvolume) (dir : ℕ) (old new : Search) → new.members.keys ≡ old.members.keys → new.fresh.items ≡ old.fresh.items → new.above.keys ≡ old.above.keys → Contains old.above.keys dir
    → Visits current logged dir None old new
visits_before current logged dir old new members fresh above there = record {
  goes_on = tt;
  search = λ is_good pending _ search. noted_before current logged dir old new members fresh above there is_good pending search;
}

pub visits_noted : (current logged : Subvolume) (dir : ℕ) (next : Option ℕ) (old new : Search) → Contains (keys current.inodes) dir → (Contains old.above.keys dir → ⊥) → IsNoted current logged dir old new
    → IsParentOf current.names dir next → Visits current logged dir next old new
visits_noted current logged dir next old new there missing noted is_next = record {
  goes_on = on next is_next;
  search = λ is_good pending good search. noted_search current logged dir old new noted next is_next is_good pending good search;
}
  where
    on : (o : Option ℕ) → IsParentOf current.names dir o → IfSome o (λ parent. (is_parent current.names dir parent ≡ true) × (unnoted current new < unnoted current old))
    on None is = tt
    on (Some parent) is = ((is parent).1 refl, fewer_missing (keys current.inodes) old.above.keys new.above.keys dir there missing noted.above)

-- ---- going up

pub from_above : (names : List FlatName) (dir at parent : ℕ) → IsFrom names dir at → is_parent names at parent ≡ true → IsFrom names dir parent
from_above names dir at parent up t =
    let found = parent_gives names at parent t in
    (up.0 ++ found.0 ∷ [], subst (λ d. LeadsTo names dir (up.0 ++ found.0 ∷ []) d) found.3 (leads_further names up.0 dir at found.0 up.1 found.1 found.2))

-- ---- each of these directories

-- an inode that came, whose parents are all pending
pub added_search : (current logged : Subvolume) (ino : ℕ) (is_new : Bool) (dirs : List ℕ) (old new : Search) → IsAdded ino is_new old new → new.above.keys ≡ old.above.keys
    → ((dir : ℕ) → is_there current ino ≡ true → is_parent current.names ino dir ≡ true → Contains old.members.keys ino ⊎ Contains dirs dir)
    → (is_good : ℕ → Bool) → is_good ino ≡ true → IsSearch current logged is_good [] old → IsSearch current logged is_good dirs new
added_search current logged ino is_new dirs old new added above waiting is_good good_ino search = record {
  in_order = ap is_number_set added.members ∙ is_set_add ino old.members.keys search.in_order;
  good = λ i c. elim (came i c) [ inl there ↦ search.good i there | inr same ↦ subst (λ j. is_good j ≡ true) same good_ino ];
  fresh = λ i c. elim (fresh_cases ino is_new old.fresh.items i (subst (λ s. Contains s i) added.fresh c)) [
    | inl there ↦ grows.members i (search.fresh i there)
    | inr same ↦ subst (λ s. Contains s i) (sym added.members) (subst (Contains (add_number ino old.members.keys)) same (add_number_has ino old.members.keys))
  ];
  parents = λ member dir c here t. elim (came member c) [
    | inl there ↦ before dir (search.parents member dir there here t)
    | inr same ↦
        let t' = subst (λ j. is_parent current.names j dir ≡ true) (sym same) t in
        elim (waiting dir (subst (λ j. is_there current j ≡ true) (sym same) here) t') [
          | inl there ↦ before dir (search.parents member dir (subst (Contains old.members.keys) same there) here t)
          | inr later ↦ inr later
        ]
  ];
  up = λ dir parent c t. before parent (search.up dir parent (subst (λ s. Contains s dir) above c) t);
  drawn = λ dir c out. grows.members dir (search.drawn dir (subst (λ s. Contains s dir) above c) out);
}
  where
    grows : Grows old new
    grows = grows_added ino is_new old new added

    came : (i : ℕ) → Contains new.members.keys i → Contains old.members.keys i ⊎ (ino ≡ i)
    came i c = elim (add_number_cases ino old.members.keys i (subst (λ s. Contains s i) added.members c)) [ inl same ↦ inr same | inr there ↦ inl there ]

    before : (dir : ℕ) → Contains old.above.keys dir ⊎ Contains [] dir → Contains new.above.keys dir ⊎ Contains dirs dir
    before dir (inl c) = inl (subst (λ s. Contains s dir) (sym above) c)
    before dir (inr c) = absurd (contains_none dir c)

pub added_has : (ino : ℕ) (is_new : Bool) (old new : Search) → IsAdded ino is_new old new → (i : ℕ) → i ≡ ino → Contains new.members.keys i
added_has ino is_new old new added i same = subst (λ j. Contains new.members.keys j) (sym same) (subst (λ s. Contains s ino) (sym added.members) (add_number_has ino old.members.keys))

-- the directories from a parent up are above the inode
pub good_from_parent : (current logged : Subvolume) (is_good : ℕ → Bool) (ino dir : ℕ) → AreGoodAbove current logged is_good → is_good ino ≡ true → is_there current ino ≡ true → is_parent current.names ino dir ≡ true → AreGoodFrom current logged is_good dir
good_from_parent current logged is_good ino dir above good there t up from out =
    let found = parent_gives current.names ino dir t in
    above ino up good (there, (found.0, from.0, (found.1, found.2, subst (λ d. LeadsTo current.names d from.0 up) (sym found.3) from.1)), out)

-- an inode that came and draws nothing above it
pub draws_alone : (current logged : Subvolume) (ino : ℕ) (is_new : Bool) (old new : Search) → IsAdded ino is_new old new → new.above.keys ≡ old.above.keys
    → (is_new ≡ false) ⊎ (is_there current ino ≡ false) → DrawsEach current logged (λ other. other ≡ ino) old new
draws_alone current logged ino is_new old new added above why = record {
  has = added_has ino is_new old new added;
  search = λ is_good up good search. added_search current logged ino is_new [] old new added above (waiting why) is_good (good ino refl) search;
}
  where
    waiting : (is_new ≡ false) ⊎ (is_there current ino ≡ false) → (dir : ℕ) → is_there current ino ≡ true → is_parent current.names ino dir ≡ true → Contains old.members.keys ino ⊎ Contains [] dir
    waiting (inl e) dir there t = inl (in_gives old.members.keys ino (not_not is_new (is_in old.members.keys ino) added.missing ∙ ap not e))
    waiting (inr e) dir there t = absurd (true≢false (sym there ∙ e))

-- an inode that came, and the directories above it
pub draws_climbed : (current logged : Subvolume) (ino : ℕ) (is_new : Bool) (dirs : List ℕ) (old middle new : Search) → IsAdded ino is_new old middle → middle.above.keys ≡ old.above.keys → is_there current ino ≡ true
    → AreParents current.names ino dirs → Grows middle new → ClimbsAll current logged dirs middle new → DrawsEach current logged (λ other. other ≡ ino) old new
draws_climbed current logged ino is_new dirs old middle new added above there are grows climbs = record {
  has = λ i same. grows.members i (added_has ino is_new old middle added i same);
  search = λ is_good up good search. climbs is_good (λ dir c. good_from_parent current logged is_good ino dir up (good ino refl) there ((are dir).0 c))
      (added_search current logged ino is_new dirs old middle added above (λ dir _ t. inr ((are dir).1 t)) is_good (good ino refl) search);
}

-- one more of a list was drawn
pub draws_none : (current logged : Subvolume) (Wanted : ℕ → Type 0) (search : Search) → ((ino : ℕ) → Wanted ino → ⊥) → DrawsEach current logged Wanted search search
draws_none current logged Wanted search none = record { has = λ ino w. absurd (none ino w); search = λ is_good _ _ s. s }

pub draws_on : (current logged : Subvolume) (One Two Both : ℕ → Type 0) (old middle new : Search) → Grows middle new → DrawsEach current logged One old middle → DrawsEach current logged Two middle new
    → ((ino : ℕ) → Both ino → One ino ⊎ Two ino) → ((ino : ℕ) → One ino → Both ino) → ((ino : ℕ) → Two ino → Both ino) → DrawsEach current logged Both old new
draws_on current logged One Two Both old middle new grows one two split from_one from_two = record {
  has = λ ino w. elim (split ino w) [ inl first ↦ grows.members ino (one.has ino first) | inr second ↦ two.has ino second ];
  search = λ is_good above good search. two.search is_good above (λ ino w. good ino (from_two ino w)) (one.search is_good above (λ ino w. good ino (from_one ino w)) search);
}

pub draws_like : (current logged : Subvolume) (One Two : ℕ → Type 0) (old new : Search) → ((ino : ℕ) → Two ino → One ino) → ((ino : ℕ) → One ino → Two ino) → DrawsEach current logged One old new → DrawsEach current logged Two old new
draws_like current logged One Two old new to from one = record {
  has = λ ino w. one.has ino (to ino w);
  search = λ is_good above good search. one.search is_good above (λ ino w. good ino (from ino w)) search;
}

-- what an index adds to the elements before it
module _ {X : Type 0} (xs : List X) (k : ℕ) (d : X) (below : k < length xs) where
  pub taken_cases : (y : X) → Contains (take (k + 1) xs) y → Contains (take k xs) y ⊎ (get_or xs k d ≡ y)
  taken_cases y c = Contains-push_cases (take k xs) (get_or xs k d) y (subst (λ ys. Contains ys y) (take_more xs k d below) c)

  pub taken_keeps : (y : X) → Contains (take k xs) y → Contains (take (k + 1) xs) y
  taken_keeps y c = subst (λ ys. Contains ys y) (sym (take_more xs k d below)) (Contains-append_left (take k xs) (get_or xs k d ∷ []) y c)

  pub taken_last : Contains (take (k + 1) xs) (get_or xs k d)
  taken_last = subst (λ ys. Contains ys (get_or xs k d)) (sym (take_more xs k d below)) (Contains-push (take k xs) (get_or xs k d))

pub drops_more : (xs : List ℕ) (k : ℕ) → k < length xs → drop k xs ≡ get_or xs k 0 ∷ drop (k + 1) xs
drops_more xs k below = rw (add-one, drop-cons xs k 0)

-- one more of a list was drawn
pub draws_more : (current logged : Subvolume) (xs : List ℕ) (k : ℕ) (P : ℕ → Type 0) (start old new : Search) → k < length xs → Grows old new
    → DrawsEach current logged (λ i. Contains (take k xs) i × P i) start old → DrawsEach current logged (λ i. (i ≡ get_or xs k 0) × P i) old new → DrawsEach current logged (λ i. Contains (take (k + 1) xs) i × P i) start new
draws_more current logged xs k P start old new below grows one two =
    draws_on current logged (λ i. Contains (take k xs) i × P i) (λ i. (i ≡ get_or xs k 0) × P i) (λ i. Contains (take (k + 1) xs) i × P i) start old new grows one two
    (λ i w. elim (taken_cases xs k 0 below i w.0) [ inl before ↦ inl (before, w.1) | inr here ↦ inr (sym here, w.1) ])
    (λ i w. (taken_keeps xs k 0 below i w.0, w.1))
    (λ i w. (subst (Contains (take (k + 1) xs)) (sym w.0) (taken_last xs k 0 below), w.1))

-- ---- the first inodes

pub draws_target : (current logged : Subvolume) (target : ℕ) (old new : Search) → is_dir_at current target ≡ false → DrawsEach current logged (λ i. i ≡ target) old new → DrawsEach current logged (λ i. is_first current logged target i ≡ true) old new
draws_target current logged target old new other draws = draws_like current logged (λ i. i ≡ target) (λ i. is_first current logged target i ≡ true) old new
    (λ i w. elim (or_cases (nat_eq i target) _ w) [ inl same ↦ eqb-true i target same | inr named ↦ absurd (true≢false (sym (and_parts (is_dir_at current target) _ named).0 ∙ other)) ])
    (λ i same. or_left (nat_eq i target) _ (eq-eqb i target same))
    draws

pub draws_first : (current logged : Subvolume) (target : ℕ) (inos : List ℕ) (old middle new : Search) → is_dir_at current target ≡ true → AreInodesInEither current.names logged.names target inos
    → Grows middle new → DrawsEach current logged (λ i. i ≡ target) old middle → DrawsEach current logged (λ i. Contains inos i × (do_names_differ current logged i ≡ true)) middle new
    → DrawsEach current logged (λ i. is_first current logged target i ≡ true) old new
draws_first current logged target inos old middle new is_dir are grows draws draws' =
    draws_on current logged (λ i. i ≡ target) (λ i. Contains inos i × (do_names_differ current logged i ≡ true)) (λ i. is_first current logged target i ≡ true) old middle new grows draws draws'
    (λ i w. elim (or_cases (nat_eq i target) _ w) [
      | inl same ↦ inl (eqb-true i target same)
      | inr named ↦
          let rest = (and_parts (is_dir_at current target) _ named).1 in
          let parts = and_parts (do_names_differ current logged i) _ rest in
          inr ((are i).1 parts.1, parts.0)
    ])
    (λ i same. or_left (nat_eq i target) _ (eq-eqb i target same))
    (λ i w. or_right (nat_eq i target) _ (and_from (is_dir_at current target) _ is_dir (and_from (do_names_differ current logged i) _ w.1 ((are i).0 w.0))))
