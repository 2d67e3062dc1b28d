-- A walk over the places of a subvolume: what is still to be listed, and that it is what the definition has.
use Rattle.std.proofs.Common.{◌≡◌, ◌≢◌, ◌<◌, ◌≤◌, ◌+◌, ◌-◌, ℕ, Bool, true, false, cond, List, [], ◌∷◌, ◌++◌, map, length, count_by, Contains, Option, Some, None, refl, sym, ap, subst, ◌∙◌, inl, inr, arith, append-nil, append_assoc, codes, length-append}
use Rattle.std.specs.FinMap.{get}
use Rattle.std.specs.List.{flat_map}
use Rattle.std.specs.Option.{is_some}
use Rattle.std.specs.Prelude.{MatchOption, option_to_list}
use Rattle.std.specs.Fmt.{decimal}
use Rattle.std.proofs.lemmas.Bool.{cases_lt, true≢false}
use Rattle.std.proofs.lemmas.Grind.{flat_map-append}
use Rattle.std.proofs.lemmas.List.{map-append, reverse-append}
use Rattle.std.proofs.lemmas.List.Folds.{flat_map-map}
use Rattle.std.proofs.lemmas.List.Sums.{sum_by-cons}
use Rattle.std.proofs.lemmas.List.Elements.{Contains-append_cases}
use Rattle.flat_model.specs.Coherent.{IsCoherent, LeadsUp}
use Rattle.flat_model.specs.Names.{FlatName}
use Rattle.flat_model.specs.Records.{InodeRecord, attributes_of, kind_of}
use Rattle.flat_model.specs.Volume.{Subvolume, is_dir_at, is_dir_there}
use Rattle.volume_image.proofs.Lists.{in_nothing, in_cons}
use Rattle.volume_image.proofs.Members.{in_map}
use Rattle.volume_image.proofs.Reaches.{head_in, tail_in}
use Rattle.volume_listing.specs.Found.{below_name}
use Rattle.volume_listing.specs.Listing.{Listed, attribute_lines, below, count_of, is_there, kind_word, line_of, lines_at, lines_of, links_shown, listed, path_shown, size_shown, step_shown, sum_shown, target_shown, word}
use Rattle.tree_listing.specs.declared.places.Place.{Place}
use Rattle.tree_listing.specs.Places.{names_shown, place_view, text_below, texts_at, texts_below, waiting_view}
use Rattle.tree_listing.proofs.Naming.{below_is, shown_is_name}
use Rattle.tree_listing.proofs.Ways.{way_fits}

-- ---- a place, and all below it

-- what is below a place, where it is a directory; no way down has more names than the subvolume
abbrev pub inner : Subvolume → Listed → List Listed
inner sub place = cond (is_dir_at sub place.ino) (below (length sub.names - length place.path) sub place.ino place.path) []

abbrev pub under : Subvolume → Listed → List Listed
under sub place = place ∷ inner sub place

abbrev pub child : Listed → List ℕ × ℕ → Listed
child place name = record { path = place.path ++ name.0 ∷ []; ino = name.1 }

abbrev pub children : Subvolume → Listed → List Listed
children sub place = cond (is_dir_at sub place.ino) (map (child place) (names_shown sub place.ino)) []

-- the inode of a place is there, and where it is a directory as many names as the place has lead up from it to the root
pub record HasWay (sub : Subvolume) (place : Listed) : Type 0 where
  pub there : is_there sub place ≡ true
  pub way : is_dir_at sub place.ino ≡ true → (way : List FlatName) × LeadsUp sub.names place.ino way × (length way ≡ length place.path)

flat_map_same : {A B : Type 0} (f g : A → List B) → ((x : A) → f x ≡ g x) → (xs : List A) → flat_map f xs ≡ flat_map g xs
flat_map_same f g same [] = refl
flat_map_same f g same (x ∷ xs) = λ i. same x i ++ flat_map_same f g same xs i

no_elements : {A : Type 0} (xs : List A) → ((x : A) → Contains xs x → ⊥) → xs ≡ []
no_elements [] none = refl
no_elements (x ∷ xs) none = absurd (none x (head_in x xs))

module _ (sub : Subvolume) (whole : IsCoherent sub) (place : Listed) (has : HasWay sub place) where
  abbrev depth : ℕ
  depth = length sub.names - length place.path

  all_below : is_dir_at sub place.ino ≡ true → flat_map (under sub) (map (child place) (names_shown sub place.ino)) ≡ below depth sub place.ino place.path
  all_below is = elim (cases_lt (length place.path) (length sub.names)) [
    | inl less ↦ (
        let some : depth ≢ 0 = λ none. omega (arith, less, none) in
        flat_map-map (under sub) (child place) (names_shown sub place.ino)
        ∙ flat_map_same (λ name. under sub (child place name)) (below_name (depth - 1) sub place.path)
        (λ name.
        let long = length-append place.path (name.0 ∷ []) in
        let deep : length sub.names - length (place.path ++ name.0 ∷ []) ≡ depth - 1 = omega (arith, long, less) in
        ap (λ (n : ℕ). child place name ∷ cond (is_dir_at sub name.1) (below n sub name.1 (place.path ++ name.0 ∷ [])) []) deep)
        (names_shown sub place.ino)
        ∙ sym (below_is depth sub place.ino place.path some)
        )
    | inr full ↦ (
        let way = has.way is in
        let none : names_shown sub place.ino ≡ [] = no_elements (names_shown sub place.ino) (λ pair c.
        let name = shown_is_name sub place.ino pair c in
        let fits = way_fits sub whole name.name way.0 name.there (subst (λ (d : ℕ). LeadsUp sub.names d way.0) (sym name.dir_is) way.1) in
        let long = way.2 in
        omega (arith, fits, long, full)) in
        let flat : depth ≡ 0 = omega (arith, full) in
        ap (λ (names : List (List ℕ × ℕ)). flat_map (under sub) (map (child place) names)) none ∙ sym (ap (λ (n : ℕ). below n sub place.ino place.path) flat)
        )
  ]

  pub under_children : flat_map (under sub) (children sub place) ≡ inner sub place
  under_children = go (is_dir_at sub place.ino) refl
    where
      go : (b : Bool) → is_dir_at sub place.ino ≡ b → flat_map (under sub) (cond b (map (child place) (names_shown sub place.ino)) []) ≡ cond b (below depth sub place.ino place.path) []
      go true is = all_below is
      go false is = refl

  child_way : is_dir_at sub place.ino ≡ true → (pair : List ℕ × ℕ) → Contains (names_shown sub place.ino) pair → HasWay sub (child place pair)
  child_way is pair c =
      let name = shown_is_name sub place.ino pair c in
      let inode = whole.leads_to_inode name.name name.there in
      let way = has.way is in
      let long = length-append place.path (pair.0 ∷ []) in
      let same = way.2 in
      record {
        there = ap (λ (n : ℕ). is_some (get sub.inodes n)) (sym name.ino_is) ∙ ap is_some inode.1;
        way = λ _. (name.name ∷ way.0, (name.there, name.ino_is, subst (λ (d : ℕ). LeadsUp sub.names d way.0) (sym name.dir_is) way.1), omega (arith, long, same));
      }

  pub children_ways : (x : Listed) → Contains (children sub place) x → HasWay sub x
  children_ways x c = go (is_dir_at sub place.ino) refl c
    where
      go : (b : Bool) → is_dir_at sub place.ino ≡ b → Contains (cond b (map (child place) (names_shown sub place.ino)) []) x → HasWay sub x
      go true is c =
          let pair = in_map (child place) (names_shown sub place.ino) x c in
          subst (HasWay sub) pair.2 (child_way is pair.0 pair.1)
      go false is c = absurd (in_nothing x c)

-- ---- places as texts

abbrev pub text_of : Listed → List ℕ × ℕ
text_of place = (flat_map step_shown place.path, place.ino)

step_more : (path : List (List ℕ)) (name : List ℕ) → flat_map step_shown (path ++ name ∷ []) ≡ flat_map step_shown path ++ step_shown name
step_more path name = flat_map-append step_shown path (name ∷ []) ∙ ap (λ (l : List ℕ). flat_map step_shown path ++ l) (append-nil (step_shown name))

children_texts : (place : Listed) (names : List (List ℕ × ℕ)) → map text_of (map (child place) names) ≡ texts_below (flat_map step_shown place.path) names
children_texts place [] = refl
children_texts place (name ∷ names) = λ i. (step_more place.path name.0 i, name.1) ∷ children_texts place names i

texts_children : (sub : Subvolume) (place : Listed) → map text_of (children sub place) ≡ texts_at sub (flat_map step_shown place.path) place.ino
texts_children sub place = go (is_dir_at sub place.ino)
  where
    go : (b : Bool) → map text_of (cond b (map (child place) (names_shown sub place.ino)) []) ≡ cond b (texts_below (flat_map step_shown place.path) (names_shown sub place.ino)) []
    go true = children_texts place (names_shown sub place.ino)
    go false = refl

-- ---- what is left of a walk

-- the lines behind the text are those of the places that wait and of all below them, and each of these is one line of an inode
pub record IsLeft (sub : Subvolume) (old : List ℕ) (texts : List (List ℕ × ℕ)) (text : List ℕ) (lines : ℕ) : Type 0 where
  pub waiting : List Listed
  pub are : texts ≡ map text_of waiting
  pub ways : (place : Listed) → Contains waiting place → HasWay sub place
  pub written : text ++ flat_map (lines_at sub) (flat_map (under sub) waiting) ≡ old ++ lines_of sub
  pub counted : lines + count_by (is_there sub) (flat_map (under sub) waiting) ≡ count_of sub
  pub few : lines ≤ length text

abbrev root : Listed
root = record { path = []; ino = 256 }

dir_is_there : (o : Option InodeRecord) → is_dir_there o ≡ true → is_some o ≡ true
dir_is_there None is = absurd (true≢false (sym is))
dir_is_there (Some inode) is = refl

all_listed : (sub : Subvolume) → IsCoherent sub → flat_map (under sub) (root ∷ []) ≡ listed sub
unfolding listed
all_listed sub whole =
    let deep : length sub.names - 0 ≡ length sub.names = omega arith in
    append-nil (under sub root)
    ∙ ap (λ (l : List Listed). root ∷ l) (ap (λ (b : Bool). cond b (below (length sub.names - 0) sub 256 []) []) whole.root_is_dir ∙ ap (λ (n : ℕ). below n sub 256 []) deep)

pub left_first : (sub : Subvolume) → IsCoherent sub → (old : List ℕ) (texts : List (List ℕ × ℕ)) → texts ≡ ([], 256) ∷ [] → IsLeft sub old texts old 0
unfolding lines_of count_of
left_first sub whole old texts first =
    let all : count_by (is_there sub) (flat_map (under sub) (root ∷ [])) ≡ count_of sub = ap (count_by (is_there sub)) (all_listed sub whole) in
    record {
      waiting = root ∷ [];
      are = first;
      ways = λ place c. elim (in_cons root place [] c) [
        | inl here ↦ subst (HasWay sub) here (record { there = dir_is_there (get sub.inodes 256) whole.root_is_dir; way = λ _. ([], refl, refl) })
        | inr none ↦ absurd (in_nothing place none)
      ];
      written = ap (λ (l : List Listed). old ++ flat_map (lines_at sub) l) (all_listed sub whole);
      counted = omega (arith, all);
      few = omega arith;
    }

count_more : {A : Type 0} (p : A → Bool) (x : A) (xs : List A) → p x ≡ true → count_by p (x ∷ xs) ≡ 1 + count_by p xs
count_more p x xs is = sum_by-cons (λ y. cond (p y) 1 0) x xs ∙ ap (λ (b : Bool). cond b 1 0 + count_by p xs) is

-- the lines of what is there are at least a byte
line_some : (front : List ℕ) → 1 ≤ length (front ++ codes "\n")
line_some front = let long = length-append front (codes "\n") in omega (arith, long)

lines_some : (sub : Subvolume) (place : Listed) → is_there sub place ≡ true → 1 ≤ length (lines_at sub place)
unfolding lines_at line_of
lines_some sub place is = go (get sub.inodes place.ino) is
  where
    go : (o : Option InodeRecord) → is_some o ≡ true → 1 ≤ length {A = ℕ} (elim o [ None ↦ [] | Some inode ↦ line_of sub place inode ++ attribute_lines (attributes_of inode) ])
    go None is = absurd (true≢false (sym is))
    go (Some inode) is =
        let front : List ℕ = word (decimal place.ino) ++ word (kind_word (kind_of inode)) ++ word (decimal (links_shown sub place.ino inode)) ++ word (decimal (size_shown sub place.ino inode)) ++ word (sum_shown inode) ++ path_shown place.path ++ target_shown inode in
        let first : 1 ≤ length (line_of sub place inode) = line_some front in
        let all = length-append (line_of sub place inode) (attribute_lines (attributes_of inode)) in
        omega (arith, first, all)

module _ (sub : Subvolume) (whole : IsCoherent sub) (old : List ℕ) (texts : List (List ℕ × ℕ)) (text : List ℕ) (lines : ℕ) (first : List ℕ × ℕ) (rest : List (List ℕ × ℕ)) (left : IsLeft sub old texts text lines) (next : texts ≡ first ∷ rest) where
  -- the place that is taken, and the others
  record Parts : Type 0 where
    place : Listed
    others : List Listed
    all : left.waiting ≡ place ∷ others
    text_is : text_of place ≡ first
    others_are : map text_of others ≡ rest

  parts : Parts
  parts = go left.waiting refl (sym left.are ∙ next)
    where
      go : (waiting : List Listed) → left.waiting ≡ waiting → map text_of waiting ≡ first ∷ rest → Parts
      go [] is same = absurd cc
      go (place ∷ others) is same =
          let head : text_of place ≡ first = cc in
          let tail : map text_of others ≡ rest = cc in
          record { place = place; others = others; all = is; text_is = head; others_are = tail }

  place_way : HasWay sub parts.place
  place_way = left.ways parts.place (subst (λ (l : List Listed). Contains l parts.place) (sym parts.all) (head_in parts.place parts.others))

  abbrev behind : List Listed
  behind = inner sub parts.place ++ flat_map (under sub) parts.others

  all_under : flat_map (under sub) left.waiting ≡ parts.place ∷ behind
  all_under = ap (flat_map (under sub)) parts.all

  pub some_left : lines < count_of sub
  some_left =
      let all = left.counted in
      let one = ap (count_by (is_there sub)) all_under ∙ count_more (is_there sub) parts.place behind place_way.there in
      omega (arith, all, one)

  next_under : flat_map (under sub) (children sub parts.place ++ parts.others) ≡ behind
  next_under =
      flat_map-append (under sub) (children sub parts.place) parts.others
      ∙ ap (λ (l : List Listed). l ++ flat_map (under sub) parts.others) (under_children sub whole parts.place place_way)

  pub left_next : (texts_now : List (List ℕ × ℕ)) (text_now : List ℕ) (lines_now : ℕ) → ((steps : List (List ℕ)) → first.0 ≡ flat_map step_shown steps → text_now ≡ text ++ lines_at sub (record { path = steps; ino = first.1 }))
      → texts_now ≡ texts_at sub first.0 first.1 ++ rest → lines_now ≡ lines + 1 → IsLeft sub old texts_now text_now lines_now
  left_next texts_now text_now lines_now says pushed more =
      let place = parts.place in
      let same : record { path = place.path; ino = first.1 } ≡ place = λ i. record { path = place.path; ino = sym (ap (λ (t : List ℕ × ℕ). t.1) parts.text_is) i } in
      let now : text_now ≡ text ++ lines_at sub place = says place.path (sym (ap (λ (t : List ℕ × ℕ). t.0) parts.text_is)) ∙ ap (λ (l : Listed). text ++ lines_at sub l) same in
      let one = ap (count_by (is_there sub)) all_under ∙ count_more (is_there sub) place behind place_way.there in
      let then = ap (count_by (is_there sub)) next_under in
      let before = left.counted in
      let some = lines_some sub place place_way.there in
      let long = ap length now ∙ length-append text (lines_at sub place) in
      let few = left.few in
      record {
        waiting = children sub place ++ parts.others;
        are = pushed
            ∙ (λ i. texts_at sub (sym parts.text_is i).0 (sym parts.text_is i).1 ++ sym parts.others_are i)
            ∙ ap (λ (l : List (List ℕ × ℕ)). l ++ map text_of parts.others) (sym (texts_children sub place))
            ∙ sym (map-append text_of (children sub place) parts.others);
        ways = λ x c. elim (Contains-append_cases (children sub place) parts.others x c) [
          | inl near ↦ children_ways sub whole place place_way x near
          | inr far ↦ left.ways x (subst (λ (l : List Listed). Contains l x) (sym parts.all) (tail_in place x parts.others far))
        ];
        written = ap (λ (l : List Listed). text_now ++ flat_map (lines_at sub) l) next_under
            ∙ ap (λ (t : List ℕ). t ++ flat_map (lines_at sub) behind) now
            ∙ append_assoc text (lines_at sub place) (flat_map (lines_at sub) behind)
            ∙ sym (ap (λ (l : List Listed). text ++ flat_map (lines_at sub) l) all_under)
            ∙ left.written;
        counted = omega (arith, one, then, before, more);
        few = omega (arith, some, long, few, more);
      }

-- nothing is left
pub left_none : (sub : Subvolume) (old : List ℕ) (texts : List (List ℕ × ℕ)) (text : List ℕ) (lines : ℕ) → IsLeft sub old texts text lines → texts ≡ [] → (text ≡ old ++ lines_of sub) × (lines ≡ count_of sub)
left_none sub old texts text lines left none = go left.waiting refl (sym left.are ∙ none)
  where
    go : (waiting : List Listed) → left.waiting ≡ waiting → map text_of waiting ≡ [] → (text ≡ old ++ lines_of sub) × (lines ≡ count_of sub)
    go [] is same =
        let counted = left.counted in
        let zero = ap (λ (l : List Listed). count_by (is_there sub) (flat_map (under sub) l)) is in (
          sym (append-nil text) ∙ sym (ap (λ (l : List Listed). text ++ flat_map (lines_at sub) (flat_map (under sub) l)) is) ∙ left.written,
          omega (arith, counted, zero),
        )
    go (place ∷ others) is same = absurd cc

-- ---- the list of places

popped : (front : List Place) (place : Place) → waiting_view (front ++ place ∷ []) ≡ place_view place ∷ waiting_view front
popped front place = ap (map place_view) (reverse-append front (place ∷ []))

pub popped_some : (before after : List Place) (result : Option Place) (place : Place) → before ≡ after ++ option_to_list result → result ≡ Some place → waiting_view before ≡ place_view place ∷ waiting_view after
popped_some before after result place are is = ap waiting_view (are ∙ ap (λ (r : Option Place). after ++ option_to_list r) is) ∙ popped after place

pub at_none : {A P : Type 0} (Q : A → Type 0) (result : Option A) → result ≡ None → MatchOption result P Q → P
at_none Q None is h = h
at_none Q (Some x) is h = absurd cc

pub no_places : (places : List Place) → length places ≡ 0 → waiting_view places ≡ []
no_places [] none = refl
no_places (place ∷ places) none = absurd (omega (arith, none))

-- the last name's place goes in front of those that wait
pub pushed_last : (path : List ℕ) (names front : List (List ℕ × ℕ)) (name : List ℕ × ℕ) (waiting : List (List ℕ × ℕ)) → names ≡ front ++ name ∷ [] → texts_below path names ++ waiting ≡ texts_below path front ++ (text_below path name ∷ waiting)
pushed_last path names front name waiting is =
    ap (λ (xs : List (List ℕ × ℕ)). texts_below path xs ++ waiting) is
    ∙ ap (λ (xs : List (List ℕ × ℕ)). xs ++ waiting) (map-append (text_below path) front (name ∷ []))
    ∙ append_assoc (texts_below path front) (text_below path name ∷ []) waiting
