-- The walk over a subvolume's names, step by step.
use Rattle.std.proofs.Common.{◌≡◌, ◌+◌, ◌++◌, ◌||◌, ◌==◌, ℕ, zero, suc, true, false, not, nat_cmp, List, [], ◌∷◌, map, length, vec_len, Option, Some, Result, Ok, Err, Vec, Global, refl, sym, ap, subst, ◌∙◌, arith}
use Rattle.std.specs.Prelude.{IfErr, MatchOption, None, OnOk, option_to_list}
use Rattle.std.specs.BTreeSet.{keys}
use Rattle.std.specs.BTreeMap.{is_at}
use Rattle.std.specs.List.{list_any}
use Rattle.std.proofs.lemmas.List.{reverse-append}
use Rattle.std.proofs.lemmas.List.Elements.{filter_agree}
use Rattle.std.proofs.lemmas.List.Filters.{length-filter_both}
use Rattle.format_laws.specs.Checks.{finds, finds_none}
use Rattle.foreign_format.specs.declared.fault.ForeignFault.{ForeignFault}
use Rattle.foreign_format.specs.declared.fault.ReadFault.{ReadFault}
use Rattle.foreign_format.specs.declared.fault.ReadFault.TheVariants.{Foreign, Disk, OutOfMemory}
use Rattle.foreign_format.specs.Answer.{Answers, and_then, then_err, then_ok}
use Rattle.foreign_items.specs.Rows.{NameValue}
use Rattle.foreign_items.specs.View.{name_view}
use Rattle.foreign_tree.specs.declared.reached.Reached.{Reached}
use Rattle.foreign_tree.specs.Reached.{HasReached}
use Rattle.foreign_tree.specs.Tree.{VolumeValue, was_reached}
use Rattle.foreign_listing.specs.declared.places.Place as code
use Rattle.foreign_listing.specs.declared.tree.Tree.{Tree}
use Rattle.foreign_listing.specs.declared.walk.Listed as code_listed
use Rattle.foreign_listing.specs.declared.walk.Walk.{Walk}
use Rattle.foreign_listing.specs.Lines.{TreeValue, incoherent, line_of}
use Rattle.foreign_listing.specs.Names.{Place, in_byte_order, is_of, places_below, rows_beside, rows_of}
use Rattle.foreign_listing.specs.Walk.{Between, Listed, Visited, enter, entered, is_dir, pass, root_place, tree_listed, visit, visit_all, with_line}
use Rattle.foreign_listing.specs.View.{HasNames, IsBetween, IsVisited, left_of, left_of_walk, listed_view, pending_view, place_view}
use Rattle.foreign_listing.proofs.Filtered.{left_all, rows_fresh, rows_left}

-- ---- steps

pub all_done : (n : ℕ) (volume : VolumeValue) (disk : List ℕ) (tree : TreeValue) (before : Between) → visit_all n volume disk tree [] before ≡ Ok before.listed
unfolding visit_all
all_done zero volume disk tree before = refl
all_done (suc n) volume disk tree before = refl

pub next_place : (n : ℕ) (volume : VolumeValue) (disk : List ℕ) (tree : TreeValue) (place : Place) (pending : List Place) (before : Between)
    → visit_all (suc n) volume disk tree (place ∷ pending) before ≡ and_then (visit volume disk tree place before) (λ after. visit_all n volume disk tree (after.below ++ pending) after.between)
unfolding visit_all
next_place n volume disk tree place pending before = refl

-- the place that was pushed last is the next one
pub popped : (front : List code.Place) (place : code.Place) → pending_view (front ++ place ∷ []) ≡ place_view place ∷ pending_view front
popped front place = ap (map place_view) (reverse-append front (place ∷ []))

-- ---- what is left of a subvolume's listing

-- the listing is that of what is left, in so many steps
pub record IsLeft (volume : VolumeValue) (disk : List ℕ) (tree : TreeValue) (rows : List NameValue) (listed : Listed) (steps : ℕ) (pending : List Place) (walk : Walk) : Type 0 where
  pub before : Between
  pub between : IsBetween rows walk before
  pub goes : tree_listed volume disk tree rows listed ≡ visit_all steps volume disk tree pending before

pub left_first : (volume : VolumeValue) (disk : List ℕ) (tree : TreeValue) (rows : List NameValue) (listed : Listed) (steps : ℕ) (pending : List Place) (walk : Walk) → IsBetween rows walk (record { listed = listed; reached = []; rows = rows })
    → pending ≡ root_place ∷ [] → steps ≡ length rows + 1 → IsLeft volume disk tree rows listed steps pending walk
unfolding tree_listed
left_first volume disk tree rows listed steps pending walk between is all = record {
  before = record { listed = listed; reached = []; rows = rows };
  between = between;
  goes = let count : suc (length rows) ≡ steps = omega arith in
      ap (λ (n : ℕ). visit_all n volume disk tree (root_place ∷ []) (record { listed = listed; reached = []; rows = rows })) count
      ∙ ap (λ (places : List Place). visit_all steps volume disk tree places (record { listed = listed; reached = []; rows = rows })) (sym is);
}

-- one place more
pub left_more : (volume : VolumeValue) (disk : List ℕ) (tree : TreeValue) (rows : List NameValue) (listed : Listed) (steps next : ℕ) (pending : List Place) (place : Place) (others now : List Place) (walk old new : Walk)
    → IsLeft volume disk tree rows listed steps pending walk → pending ≡ place ∷ others → steps ≡ suc next
    → ((before : Between) → IsBetween rows walk before → (after : Visited) × (visit volume disk tree place before ≡ Ok after) × IsBetween rows new after.between × (now ≡ after.below ++ others))
    → IsLeft volume disk tree rows listed next now new
left_more volume disk tree rows listed steps next pending place others now walk old new one is step visits =
    let (after, visited, between, pushed) = visits one.before one.between in
    record {
      before = after.between;
      between = between;
      goes = one.goes
          ∙ ap (λ (n : ℕ). visit_all n volume disk tree pending one.before) step
          ∙ ap (λ (places : List Place). visit_all (suc next) volume disk tree places one.before) is
          ∙ next_place next volume disk tree place others one.before
          ∙ then_ok (visit volume disk tree place one.before) (λ after. visit_all next volume disk tree (after.below ++ others) after.between) after visited
          ∙ ap (λ (places : List Place). visit_all next volume disk tree places after.between) (sym pushed);
    }

-- a place's fault is the listing's
pub left_bad : (volume : VolumeValue) (disk : List ℕ) (tree : TreeValue) (rows : List NameValue) (listed : Listed) (steps next : ℕ) (pending : List Place) (place : Place) (others : List Place) (walk : Walk) (fault : ForeignFault)
    → IsLeft volume disk tree rows listed steps pending walk → pending ≡ place ∷ others → steps ≡ suc next
    → ((before : Between) → IsBetween rows walk before → visit volume disk tree place before ≡ Err fault) → tree_listed volume disk tree rows listed ≡ Err fault
left_bad volume disk tree rows listed steps next pending place others walk fault one is step bad =
    one.goes
    ∙ ap (λ (n : ℕ). visit_all n volume disk tree pending one.before) step
    ∙ ap (λ (places : List Place). visit_all (suc next) volume disk tree places one.before) is
    ∙ next_place next volume disk tree place others one.before
    ∙ then_err (visit volume disk tree place one.before) (λ after. visit_all next volume disk tree (after.below ++ others) after.between) fault (bad one.before one.between)

-- nothing is left
pub left_none : (volume : VolumeValue) (disk : List ℕ) (tree : TreeValue) (rows : List NameValue) (listed : Listed) (steps : ℕ) (pending : List Place) (walk : Walk) → IsLeft volume disk tree rows listed steps pending walk → pending ≡ []
    → tree_listed volume disk tree rows listed ≡ Ok (listed_view walk.listed)
left_none volume disk tree rows listed steps pending walk one is =
    one.goes
    ∙ ap (λ (places : List Place). visit_all steps volume disk tree places one.before) is
    ∙ all_done steps volume disk tree one.before
    ∙ ap Ok (sym one.between.listed)

-- ---- what stays of a walk's parts

pub at_none : {A P : Type 0} (Q : A → Type 0) (result : Option A) → result ≡ None → MatchOption result P Q → P
at_none Q None is h = h
at_none Q (Some x) is h = absurd cc

pub pending_none : (places : List code.Place) (steps : ℕ) → steps ≡ length places → steps ≡ 0 → pending_view places ≡ []
pending_none [] steps is none = refl
pending_none (place ∷ places) steps is none = absurd (omega arith)

pub popped_some : (before after : List code.Place) (result : Option code.Place) (place : code.Place) → before ≡ after ++ option_to_list result → result ≡ Some place → pending_view before ≡ place_view place ∷ pending_view after
popped_some before after result place are is = ap pending_view (are ∙ ap (λ (r : Option code.Place). after ++ option_to_list r) is) ∙ popped after place

-- a place's fault is the listing's, whatever the fault
pub left_failed : (old new : Walk) (volume : VolumeValue) (disk : List ℕ) (tree : TreeValue) (rows : List NameValue) (listed : Listed) (steps next : ℕ) (pending : List Place) (place : Place) (others : List Place) (walk : Walk) (failed : ReadFault)
    → IsLeft volume disk tree rows listed steps pending walk → pending ≡ place ∷ others → steps ≡ suc next
    → ((before : Between) → IsBetween rows walk before → IsVisited rows old new (Err failed) (visit volume disk tree place before)) → Answers listed_view (Err failed) (tree_listed volume disk tree rows listed)
left_failed old new volume disk tree rows listed steps next pending place others walk (Foreign fault) one is step bad = left_bad volume disk tree rows listed steps next pending place others walk fault one is step bad
left_failed old new volume disk tree rows listed steps next pending place others walk Disk one is step bad = tt
left_failed old new volume disk tree rows listed steps next pending place others walk OutOfMemory one is step bad = tt

-- ---- one place

pub visited_same : (rows : List NameValue) (old new : Walk) (result : Result (Unit {0}) ReadFault) (defined other : Result Visited ForeignFault) → other ≡ defined → IsVisited rows old new result defined → IsVisited rows old new result other
visited_same rows old new result defined other same h = subst (IsVisited rows old new result) (sym same) h

pub visit_dir : (volume : VolumeValue) (disk : List ℕ) (tree : TreeValue) (place : Place) (before : Between) → is_dir place.kind ≡ true → visit volume disk tree place before ≡ enter volume disk tree place before
unfolding visit
visit_dir volume disk tree place before is = rw is refl

pub visit_other : (volume : VolumeValue) (disk : List ℕ) (tree : TreeValue) (place : Place) (before : Between) → is_dir place.kind ≡ false → visit volume disk tree place before ≡ pass volume disk tree place before
unfolding visit
visit_other volume disk tree place before is = rw is refl

-- a line's fault is the place's
pub pass_bad : {V : Type 0} (shown : V → List ℕ) (rows : List NameValue) (old new : Walk) (volume : VolumeValue) (disk : List ℕ) (tree : TreeValue) (place : Place) (before : Between) (failed : ReadFault) → Answers shown (Err failed) (line_of volume disk tree place)
    → IsVisited rows old new (Err failed) (pass volume disk tree place before)
pass_bad shown rows old new volume disk tree place before (Foreign fault) bad = then_err (line_of volume disk tree place) _ fault bad
pass_bad shown rows old new volume disk tree place before Disk bad = tt
pass_bad shown rows old new volume disk tree place before OutOfMemory bad = tt

-- a line more
pub line_more : (old new : code_listed.Listed) (before : Listed) (line : List ℕ) → listed_view old ≡ before → new.text.items ≡ old.text.items ++ line → new.lines ≡ old.lines + 1 → listed_view new ≡ with_line before line
line_more old new before line is text lines =
    (let both : listed_view new ≡ with_line (listed_view old) line = λ i. record { text = text i; lines = lines i } in both) ∙ ap (λ (l : Listed). with_line l line) is

pub pass_ok : (rows : List NameValue) (old new : Walk) (volume : VolumeValue) (disk : List ℕ) (tree : TreeValue) (place : Place) (before : Between) (line : List ℕ) (result : Result (Unit {0}) ReadFault) → line_of volume disk tree place ≡ Ok line → IsBetween rows old before
    → OnOk result (new.listed.text.items ≡ old.listed.text.items ++ line) → OnOk result (new.listed.lines ≡ old.listed.lines + 1) → new.reached ≡ old.reached → new.pending ≡ old.pending
    → IfErr result (λ fault. fault ≡ OutOfMemory) → IsVisited rows old new result (pass volume disk tree place before)
pass_ok rows old new volume disk tree place before line (Ok _) is one text lines reached pending memory = (
  record { between = record { listed = with_line before.listed line; reached = before.reached; rows = before.rows }; below = [] },
  then_ok (line_of volume disk tree place) _ line is,
  record {
    listed = line_more old.listed new.listed before.listed line one.listed text lines;
    reached = subst (λ (r : Reached). HasReached r before.reached) (sym reached) one.reached;
    rows_left = one.rows_left;
  },
  ap (λ (places : Vec code.Place Global). pending_view places.items) pending,
)
pass_ok rows old new volume disk tree place before line (Err (Foreign fault)) is one text lines reached pending memory = absurd cc
pass_ok rows old new volume disk tree place before line (Err Disk) is one text lines reached pending memory = tt
pass_ok rows old new volume disk tree place before line (Err OutOfMemory) is one text lines reached pending memory = tt

-- ---- a directory

pub enter_twice : (rows : List NameValue) (old new : Walk) (volume : VolumeValue) (disk : List ℕ) (tree : TreeValue) (place : Place) (before : Between) (fault : ForeignFault) → was_reached place.to before.reached ≡ true → fault ≡ incoherent tree.sub place.to
    → IsVisited rows old new (Err (Foreign fault)) (enter volume disk tree place before)
enter_twice rows old new volume disk tree place before fault twice is = finds _ _ _ twice ∙ ap Err (sym is)

pub enter_first : (volume : VolumeValue) (disk : List ℕ) (tree : TreeValue) (place : Place) (before : Between) → was_reached place.to before.reached ≡ false
    → enter volume disk tree place before ≡ and_then (line_of volume disk tree place) (λ line. entered place line before)
enter_first volume disk tree place before first = finds_none _ _ _ first

pub enter_bad : {V : Type 0} (shown : V → List ℕ) (rows : List NameValue) (old new : Walk) (volume : VolumeValue) (disk : List ℕ) (tree : TreeValue) (place : Place) (before : Between) (failed : ReadFault) → was_reached place.to before.reached ≡ false
    → Answers shown (Err failed) (line_of volume disk tree place) → IsVisited rows old new (Err failed) (enter volume disk tree place before)
enter_bad shown rows old new volume disk tree place before (Foreign fault) first bad = enter_first volume disk tree place before first ∙ then_err (line_of volume disk tree place) (λ line. entered place line before) fault bad
enter_bad shown rows old new volume disk tree place before Disk first bad = tt
enter_bad shown rows old new volume disk tree place before OutOfMemory first bad = tt

-- the names of a directory by its rows
entered_of : (rows : List NameValue) (old : Walk) (place : Place) (line : List ℕ) (before : Between) → was_reached place.to before.reached ≡ false → IsBetween rows old before
    → entered place line before ≡ and_then (in_byte_order [] (rows_of place.to rows)) (λ entries. Ok (record {
      between = record { listed = with_line before.listed line; reached = before.reached ++ place.to ∷ []; rows = rows_beside place.to before.rows };
      below = places_below place.path entries;
    }))
entered_of rows old place line before first one = ap (λ (of : List NameValue). and_then (in_byte_order [] of) (λ entries. Ok (record {
  between = record { listed = with_line before.listed line; reached = before.reached ++ place.to ∷ []; rows = rows_beside place.to before.rows };
  below = places_below place.path entries;
}))) (ap (rows_of place.to) (sym one.rows_left) ∙ rows_fresh place.to before.reached rows first)

pub enter_ok : (rows : List NameValue) (old lined new : Walk) (volume : VolumeValue) (disk : List ℕ) (tree : TreeValue) (place : Place) (before : Between) (line : List ℕ) (result : Result (Unit {0}) ReadFault) → line_of volume disk tree place ≡ Ok line
    → was_reached place.to before.reached ≡ false → IsBetween rows old before → lined.listed.text.items ≡ old.listed.text.items ++ line → lined.listed.lines ≡ old.listed.lines + 1 → HasReached lined.reached (before.reached ++ place.to ∷ [])
    → lined.pending ≡ old.pending → HasNames place.path (rows_of place.to rows) lined new result → new.listed ≡ lined.listed → new.reached ≡ lined.reached → IsVisited rows old new result (enter volume disk tree place before)
enter_ok rows old lined new volume disk tree place before line (Ok _) is first one text lines reached pending (entries, ordered, pushed) listed_same reached_same = (
  record {
    between = record { listed = with_line before.listed line; reached = before.reached ++ place.to ∷ []; rows = rows_beside place.to before.rows };
    below = places_below place.path entries;
  },
  enter_first volume disk tree place before first
      ∙ then_ok (line_of volume disk tree place) (λ line. entered place line before) line is
      ∙ entered_of rows old place line before first one
      ∙ then_ok (in_byte_order [] (rows_of place.to rows)) _ entries ordered,
  record {
    listed = ap listed_view listed_same ∙ line_more old.listed lined.listed before.listed line one.listed text lines;
    reached = subst (λ (r : Reached). HasReached r (before.reached ++ place.to ∷ [])) (sym reached_same) reached;
    rows_left = sym (rows_left place.to before.reached rows) ∙ ap (rows_beside place.to) one.rows_left;
  },
  pushed ∙ ap (λ (places : Vec code.Place Global). places_below place.path entries ++ pending_view places.items) pending,
)
enter_ok rows old lined new volume disk tree place before line (Err (Foreign fault)) is first one text lines reached pending bad listed_same reached_same =
    enter_first volume disk tree place before first
    ∙ then_ok (line_of volume disk tree place) (λ line. entered place line before) line is
    ∙ entered_of rows old place line before first one
    ∙ then_err (in_byte_order [] (rows_of place.to rows)) _ fault bad
enter_ok rows old lined new volume disk tree place before line (Err Disk) is first one text lines reached pending bad listed_same reached_same = tt
enter_ok rows old lined new volume disk tree place before line (Err OutOfMemory) is first one text lines reached pending bad listed_same reached_same = tt

-- ---- what a walk has before it

same_key : (at key : ℕ) → is_at (nat_cmp at) key ≡ (key == at)
same_key at key = grind arith

-- a set has exactly its keys
key_is : (at : ℕ) (keys : List ℕ) → list_any (is_at (nat_cmp at)) keys ≡ was_reached at keys
key_is at [] = refl
key_is at (key ∷ keys) = (λ i. same_key at key i || key_is at keys i)

pub has_keys : (set : Reached) → HasReached set (keys set.addresses)
has_keys set = λ at. key_is at (keys set.addresses)

-- the rows that are left are those of any list of what the set has
left_same : (set : Reached) (reached : List ℕ) (rows : List NameValue) → HasReached set reached → left_of (keys set.addresses) rows ≡ left_of reached rows
left_same set reached rows has = filter_agree _ _ (λ row. ap not (sym (has_keys set row.key.objectid) ∙ has row.key.objectid)) rows

-- none reached so far
pub none_left : (set : Reached) (rows : List NameValue) → HasReached set [] → length (left_of (keys set.addresses) rows) ≡ length rows
none_left set rows has = ap length (left_same set [] rows has ∙ sym (left_all rows))

-- a directory that is entered has as many places as rows go
pub entered_left : (old new : Reached) (to : ℕ) (rows : List NameValue) → was_reached to (keys old.addresses) ≡ false → HasReached new (keys old.addresses ++ to ∷ [])
    → length (rows_of to rows) + length (left_of (keys new.addresses) rows) ≡ length (left_of (keys old.addresses) rows)
entered_left old new to rows out has =
    let left = ap length (left_same new (keys old.addresses ++ to ∷ []) rows has ∙ sym (rows_left to (keys old.addresses) rows)) in
    let of = ap length (rows_fresh to (keys old.addresses) rows out) in
    let parts = length-filter_both (is_of to) (λ row. not (is_of to row)) (λ row. refl) (left_of (keys old.addresses) rows) in
    omega (arith, left, of, parts)

-- as many are left behind a directory that is entered
pub entered_count : (result : Result (Unit {0}) ReadFault) (old new : Walk) (tree : Tree) (to pending : ℕ) → was_reached to (keys old.reached.addresses) ≡ false → HasReached new.reached (keys old.reached.addresses ++ to ∷ [])
    → pending ≡ vec_len old.pending → OnOk result (vec_len new.pending ≡ pending + length (rows_of to (map name_view tree.names.items))) → OnOk result (left_of_walk tree new ≡ left_of_walk tree old)
entered_count (Ok _) old new tree to pending out has is more = let left = entered_left old.reached new.reached to (map name_view tree.names.items) out has in omega (arith, left, is, more)
entered_count (Err _) old new tree to pending out has is more = tt
