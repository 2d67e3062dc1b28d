-- A walk over a subvolume's names is Ok exactly where they form a tree, and then it has the tree's lines.
use Rattle.std.proofs.Common.{◌≡◌, ◌≤◌, ◌+◌, ◌++◌, ◌==◌, ℕ, zero, suc, Bool, true, false, List, [], ◌∷◌, length, Contains, Ok, refl, sym, ap, subst, ◌∙◌, arith, inl, inr, append-nil, append_assoc, length-append}
use Rattle.std.specs.List.{concat}
use Rattle.std.proofs.lemmas.List.{length-map}
use Rattle.std.proofs.lemmas.List.Elements.{Contains-append_left, Contains-append_right, Contains-append_cases}
use Rattle.blk_base.specs.Trees.{AreApart, NoneTwice}
use Rattle.disk_model.proofs.CrashLaws.{Contains-cons_cases, Contains-none}
use Rattle.format_laws.specs.Checks.{found_none, same_ok}
use Rattle.foreign_format.specs.Answer.{then_ok}
use Rattle.foreign_format.specs.Items.{EntryValue}
use Rattle.foreign_items.specs.Rows.{NameValue}
use Rattle.foreign_tree.specs.Tree.{VolumeValue, was_reached}
use Rattle.foreign_tree.proofs.Trees.{and_then_ok}
use Rattle.foreign_listing.specs.Foreign.{AreShown, IsShown, IsShownBy, IsTreeShown, with_lines}
use Rattle.foreign_listing.specs.Lines.{TreeValue, line_of}
use Rattle.foreign_listing.specs.Names.{Place, in_byte_order, place_below, places_below, rows_beside, rows_of}
use Rattle.foreign_listing.specs.Walk.{Between, Listed, Visited, enter, entered, is_dir, pass, root_place, tree_listed, visit, visit_all, with_line}
use Rattle.foreign_listing.specs.View.{left_of}
use Rattle.foreign_listing.proofs.Filtered.{either, left_all, rows_fresh, rows_left}
use Rattle.foreign_listing.proofs.Naming.{ordered_length, parts_length}
use Rattle.foreign_listing.proofs.Reaches.{head_in, none_twice_parts, not_in, not_reached, tail_in}
use Rattle.foreign_listing.proofs.Walking.{all_done, enter_first, next_place, visit_dir, visit_other}

-- ---- lines

no_more : (listed : Listed) → listed ≡ with_lines listed []
no_more listed =
    let same : listed.lines ≡ listed.lines + 0 = omega arith in
    λ i. record { text = sym (append-nil listed.text) i; lines = same i }

line_first : (listed : Listed) (line : List ℕ) (lines : List (List ℕ)) → with_lines (with_line listed line) lines ≡ with_lines listed (line ∷ lines)
line_first listed line lines =
    let same : listed.lines + 1 + length lines ≡ listed.lines + suc (length lines) = omega arith in
    λ i. record { text = append_assoc listed.text line (concat lines) i; lines = same i }

concat_append : (xs ys : List (List ℕ)) → concat (xs ++ ys) ≡ concat xs ++ concat ys
concat_append [] ys = refl
concat_append (x ∷ xs) ys = ap (λ (rest : List ℕ). x ++ rest) (concat_append xs ys) ∙ sym (append_assoc x (concat xs) (concat ys))

lines_joined : (listed : Listed) (part rest : List (List ℕ)) → with_lines (with_lines listed part) rest ≡ with_lines listed (part ++ rest)
lines_joined listed part rest =
    let long = length-append part rest in
    let same : listed.lines + length part + length rest ≡ listed.lines + length (part ++ rest) = omega (arith, long) in
    let text : (listed.text ++ concat part) ++ concat rest ≡ listed.text ++ concat (part ++ rest) =
    append_assoc listed.text (concat part) (concat rest) ∙ ap (λ (more : List ℕ). listed.text ++ more) (sym (concat_append part rest)) in
    λ i. record { text = text i; lines = same i }

-- ---- places one behind the other

shown_map : (S T : Place → List (List ℕ) → List ℕ → Type 0) → ((place : Place) (lines : List (List ℕ)) (dirs : List ℕ) → S place lines dirs → T place lines dirs)
    → (places : List Place) (lines : List (List ℕ)) (dirs : List ℕ) → AreShown S places lines dirs → AreShown T places lines dirs
shown_map S T f [] lines dirs are = are
shown_map S T f (place ∷ places) lines dirs (part, rest, near, far, here, there, is_lines, is_dirs) = (part, rest, near, far, f place part near here, shown_map S T f places rest far there, is_lines, is_dirs)

-- what two lists of places show
record Split (S : Place → List (List ℕ) → List ℕ → Type 0) (front behind : List Place) (lines : List (List ℕ)) (dirs : List ℕ) : Type 0 where
  first : List (List ℕ)
  second : List (List ℕ)
  near : List ℕ
  far : List ℕ
  one : AreShown S front first near
  two : AreShown S behind second far
  is_lines : lines ≡ first ++ second
  is_dirs : dirs ≡ near ++ far

shown_split : (S : Place → List (List ℕ) → List ℕ → Type 0) (front behind : List Place) (lines : List (List ℕ)) (dirs : List ℕ) → AreShown S (front ++ behind) lines dirs → Split S front behind lines dirs
shown_split S [] behind lines dirs are = record { first = []; second = lines; near = []; far = dirs; one = (refl, refl); two = are; is_lines = refl; is_dirs = refl }
shown_split S (place ∷ front) behind lines dirs (part, rest, near, far, here, there, is_lines, is_dirs) =
    let more = shown_split S front behind rest far there in
    record {
      first = part ++ more.first;
      second = more.second;
      near = near ++ more.near;
      far = more.far;
      one = (part, more.first, near, more.near, here, more.one, refl, refl);
      two = more.two;
      is_lines = is_lines ∙ ap (λ (ls : List (List ℕ)). part ++ ls) more.is_lines ∙ sym (append_assoc part more.first more.second);
      is_dirs = is_dirs ∙ ap (λ (ds : List ℕ). near ++ ds) more.is_dirs ∙ sym (append_assoc near more.near more.far);
    }

-- ---- depth

by_more : (b : Bool) (S T : Place → List (List ℕ) → List ℕ → Type 0) (volume : VolumeValue) (disk : List ℕ) (tree : TreeValue) (rows : List NameValue) (place : Place) (lines : List (List ℕ)) (dirs : List ℕ)
    → ((place : Place) (lines : List (List ℕ)) (dirs : List ℕ) → S place lines dirs → T place lines dirs) → IsShownBy b S volume disk tree rows place lines dirs → IsShownBy b T volume disk tree rows place lines dirs
by_more true S T volume disk tree rows place lines dirs f is = record {
  line = is.line;
  entries = is.entries;
  under = is.under;
  inner = is.inner;
  has_line = is.has_line;
  has_names = is.has_names;
  names = shown_map S T f (places_below place.path is.entries) is.under is.inner is.names;
  all = is.all;
  reached = is.reached;
}
by_more false S T volume disk tree rows place lines dirs f is = is

deeper : (depth : ℕ) (volume : VolumeValue) (disk : List ℕ) (tree : TreeValue) (rows : List NameValue) (place : Place) (lines : List (List ℕ)) (dirs : List ℕ) → IsShown depth volume disk tree rows place lines dirs
    → IsShown (suc depth) volume disk tree rows place lines dirs
deeper zero volume disk tree rows place lines dirs is = absurd is
deeper (suc depth) volume disk tree rows place lines dirs is =
    by_more (is_dir place.kind) (IsShown depth volume disk tree rows) (IsShown (suc depth) volume disk tree rows) volume disk tree rows place lines dirs (deeper depth volume disk tree rows) is

-- ---- one place visited

pass_is : (volume : VolumeValue) (disk : List ℕ) (tree : TreeValue) (place : Place) (before : Between) (v : Visited) → pass volume disk tree place before ≡ Ok v
    → (line : List ℕ) × (line_of volume disk tree place ≡ Ok line) × (v ≡ record { between = record { listed = with_line before.listed line; reached = before.reached; rows = before.rows }; below = [] })
pass_is volume disk tree place before v h = let step = and_then_ok (line_of volume disk tree place) _ v h in (step.0, step.1, sym (same_ok step.2))

record Entered (volume : VolumeValue) (disk : List ℕ) (tree : TreeValue) (place : Place) (before : Between) (v : Visited) : Type 0 where
  out : was_reached place.to before.reached ≡ false
  line : List ℕ
  has_line : line_of volume disk tree place ≡ Ok line
  entries : List EntryValue
  has_names : in_byte_order [] (rows_of place.to before.rows) ≡ Ok entries
  is : v ≡ record { between = record { listed = with_line before.listed line; reached = before.reached ++ place.to ∷ []; rows = rows_beside place.to before.rows }; below = places_below place.path entries }

enter_is : (volume : VolumeValue) (disk : List ℕ) (tree : TreeValue) (place : Place) (before : Between) (v : Visited) → enter volume disk tree place before ≡ Ok v → Entered volume disk tree place before v
enter_is volume disk tree place before v h =
    let out = found_none _ _ _ _ h in
    let step = and_then_ok (line_of volume disk tree place) (λ line. entered place line before) v out.1 in
    let names = and_then_ok (in_byte_order [] (rows_of place.to before.rows)) _ v step.2 in
    record { out = out.0; line = step.0; has_line = step.1; entries = names.0; has_names = names.1; is = sym (same_ok names.2) }

-- how many places a directory with these rows adds, and how many rows it leaves
entered_count : (to : ℕ) (path : List ℕ) (rows : List NameValue) (entries : List EntryValue) → in_byte_order [] (rows_of to rows) ≡ Ok entries → length (places_below path entries) + length (rows_beside to rows) ≡ length rows
entered_count to path rows entries h =
    let mapped = length-map entries (place_below path) in
    let many = ordered_length [] (rows_of to rows) entries h in
    let parts = parts_length (λ row. row.key.objectid == to) rows in
    omega (arith, mapped, many, parts)

-- ---- what a walk that went well shows

record Shows (S : Place → List (List ℕ) → List ℕ → Type 0) (pending : List Place) (before : Between) (after : Listed) : Type 0 where
  lines : List (List ℕ)
  dirs : List ℕ
  are : AreShown S pending lines dirs
  once : NoneTwice dirs
  apart : AreApart before.reached dirs
  listed : after ≡ with_lines before.listed lines

forward : (n : ℕ) (volume : VolumeValue) (disk : List ℕ) (tree : TreeValue) (rows : List NameValue) (pending : List Place) (before : Between) (after : Listed) → before.rows ≡ left_of before.reached rows
    → length pending + length before.rows ≤ n → visit_all n volume disk tree pending before ≡ Ok after → Shows (IsShown n volume disk tree rows) pending before after
forward n volume disk tree rows [] before after left fits h = record {
  lines = [];
  dirs = [];
  are = (refl, refl);
  once = tt;
  apart = λ at c d. Contains-none at d;
  listed = sym (same_ok (sym (all_done n volume disk tree before) ∙ h)) ∙ no_more before.listed;
}
forward zero volume disk tree rows (place ∷ pending) before after left fits h = absurd (omega arith)
forward (suc n) volume disk tree rows (place ∷ pending) before after left fits h =
    let step = and_then_ok (visit volume disk tree place before) (λ v. visit_all n volume disk tree (v.below ++ pending) v.between) after (sym (next_place n volume disk tree place pending before) ∙ h) in
    let lift = λ (places : List Place) (lines : List (List ℕ)) (dirs : List ℕ) (are : AreShown (IsShown n volume disk tree rows) places lines dirs).
    shown_map (IsShown n volume disk tree rows) (IsShown (suc n) volume disk tree rows) (deeper n volume disk tree rows) places lines dirs are in
    elim (either (is_dir place.kind)) [
      | inr other ↦ (
          let passed = pass_is volume disk tree place before step.0 (sym (visit_other volume disk tree place before other) ∙ step.1) in
          let line = passed.0 in
          let next : Between = record { listed = with_line before.listed line; reached = before.reached; rows = before.rows } in
          let rest = forward n volume disk tree rows pending next after left (omega arith) (subst (λ (v : Visited). visit_all n volume disk tree (v.below ++ pending) v.between ≡ Ok after) passed.2 step.2) in
          let here : IsShown (suc n) volume disk tree rows place (line ∷ []) [] =
          subst (λ (b : Bool). IsShownBy b (IsShown n volume disk tree rows) volume disk tree rows place (line ∷ []) []) (sym other) (line, passed.1, refl, refl) in
          record {
            lines = line ∷ rest.lines;
            dirs = rest.dirs;
            are = (line ∷ [], rest.lines, [], rest.dirs, here, lift pending rest.lines rest.dirs rest.are, refl, refl);
            once = rest.once;
            apart = rest.apart;
            listed = rest.listed ∙ line_first before.listed line rest.lines;
          }
          )
      | inl dir ↦ (
          let is = enter_is volume disk tree place before step.0 (sym (visit_dir volume disk tree place before dir) ∙ step.1) in
          let below = places_below place.path is.entries in
          let next : Between = record { listed = with_line before.listed is.line; reached = before.reached ++ place.to ∷ []; rows = rows_beside place.to before.rows } in
          let left_now : rows_beside place.to before.rows ≡ left_of (before.reached ++ place.to ∷ []) rows = ap (rows_beside place.to) left ∙ rows_left place.to before.reached rows in
          let count = entered_count place.to place.path before.rows is.entries is.has_names in
          let long = length-append below pending in
          let rest = forward n volume disk tree rows (below ++ pending) next after left_now (omega (arith, count, long, fits))
          (subst (λ (v : Visited). visit_all n volume disk tree (v.below ++ pending) v.between ≡ Ok after) is.is step.2) in
          let parts = shown_split (IsShown n volume disk tree rows) below pending rest.lines rest.dirs rest.are in
          let names : in_byte_order [] (rows_of place.to rows) ≡ Ok is.entries =
          ap (in_byte_order []) (sym (ap (rows_of place.to) left ∙ rows_fresh place.to before.reached rows is.out)) ∙ is.has_names in
          let here : IsShown (suc n) volume disk tree rows place (is.line ∷ parts.first) (place.to ∷ parts.near) =
          subst (λ (b : Bool). IsShownBy b (IsShown n volume disk tree rows) volume disk tree rows place (is.line ∷ parts.first) (place.to ∷ parts.near)) (sym dir)
          (record { line = is.line; entries = is.entries; under = parts.first; inner = parts.near; has_line = is.has_line; has_names = names; names = parts.one; all = refl; reached = refl }) in
          record {
            lines = is.line ∷ rest.lines;
            dirs = place.to ∷ rest.dirs;
            are = (
              is.line ∷ parts.first,
              parts.second,
              place.to ∷ parts.near,
              parts.far,
              here,
              lift pending parts.second parts.far parts.two,
              ap (λ (ls : List (List ℕ)). is.line ∷ ls) parts.is_lines,
              ap (λ (ds : List ℕ). place.to ∷ ds) parts.is_dirs,
            );
            once = ((λ c. rest.apart place.to (Contains-append_right before.reached (place.to ∷ []) place.to (head_in place.to [])) c), rest.once);
            apart = λ at c d. elim (Contains-cons_cases place.to rest.dirs at d) [
              | inl here ↦ not_reached place.to before.reached is.out (rw here c)
              | inr there ↦ rest.apart at (Contains-append_left before.reached (place.to ∷ []) at c) there
            ];
            listed = rest.listed ∙ line_first before.listed is.line rest.lines;
          }
          )
    ]

-- ---- what a tree's walk gives

-- behind the lines of places the walk goes on with the others
record After (volume : VolumeValue) (disk : List ℕ) (tree : TreeValue) (all : List NameValue) (n : ℕ) (places pending : List Place) (before : Between) (lines : List (List ℕ)) (dirs : List ℕ) : Type 0 where
  m : ℕ
  rows : List NameValue
  left : rows ≡ left_of (before.reached ++ dirs) all
  fits : length pending + length rows ≤ m
  goes : visit_all n volume disk tree (places ++ pending) before ≡ visit_all m volume disk tree pending (record { listed = with_lines before.listed lines; reached = before.reached ++ dirs; rows = rows })

abbrev Goes : VolumeValue → List ℕ → TreeValue → List NameValue → List Place → List (List ℕ) → List ℕ → Type 0
Goes volume disk tree all places lines dirs =
    (pending : List Place) (before : Between) (n : ℕ) → before.rows ≡ left_of before.reached all → NoneTwice dirs → AreApart before.reached dirs → length places + (length pending + length before.rows) ≤ n
    → After volume disk tree all n places pending before lines dirs

back_all : (volume : VolumeValue) (disk : List ℕ) (tree : TreeValue) (all : List NameValue) (S : Place → List (List ℕ) → List ℕ → Type 0)
    → ((place : Place) (part : List (List ℕ)) (near : List ℕ) → S place part near → Goes volume disk tree all (place ∷ []) part near)
    → (places : List Place) (lines : List (List ℕ)) (dirs : List ℕ) → AreShown S places lines dirs → Goes volume disk tree all places lines dirs
back_all volume disk tree all S one [] lines dirs (no_lines, no_dirs) pending before n left once apart fits =
    let reached : before.reached ≡ before.reached ++ dirs = sym (append-nil before.reached) ∙ ap (λ (ds : List ℕ). before.reached ++ ds) (sym no_dirs) in
    let listed : before.listed ≡ with_lines before.listed lines = no_more before.listed ∙ ap (with_lines before.listed) (sym no_lines) in
    record {
      m = n;
      rows = before.rows;
      left = left ∙ ap (λ (r : List ℕ). left_of r all) reached;
      fits = omega arith;
      goes = ap (visit_all n volume disk tree pending) (λ i. record { listed = listed i; reached = reached i; rows = before.rows });
    }
back_all volume disk tree all S one (place ∷ places) lines dirs (part, rest, near, far, here, there, is_lines, is_dirs) pending before n left once apart fits =
    let parts = none_twice_parts near far (subst NoneTwice is_dirs once) in
    let away = subst (AreApart before.reached) is_dirs apart in
    let long = length-append places pending in
    let first = one place part near here (places ++ pending) before n left parts.0 (λ at c d. away at c (Contains-append_left near far at d)) (omega (arith, long, fits)) in
    let mid : Between = record { listed = with_lines before.listed part; reached = before.reached ++ near; rows = first.rows } in
    let room = first.fits in
    let second = back_all volume disk tree all S one places rest far there pending mid first.m first.left parts.1
    (λ at c d. elim (Contains-append_cases before.reached near at c) [
      | inl old ↦ away at old (Contains-append_right near far at d)
      | inr new ↦ parts.2 at new d
    ]) (omega (arith, long, room)) in
    let reached : (before.reached ++ near) ++ far ≡ before.reached ++ dirs = append_assoc before.reached near far ∙ ap (λ (ds : List ℕ). before.reached ++ ds) (sym is_dirs) in
    let listed : with_lines (with_lines before.listed part) rest ≡ with_lines before.listed lines = lines_joined before.listed part rest ∙ ap (with_lines before.listed) (sym is_lines) in
    record {
      m = second.m;
      rows = second.rows;
      left = second.left ∙ ap (λ (r : List ℕ). left_of r all) reached;
      fits = second.fits;
      goes = first.goes ∙ second.goes ∙ ap (visit_all second.m volume disk tree pending) (λ i. record { listed = listed i; reached = reached i; rows = second.rows });
    }

single : (listed : Listed) (line : List ℕ) → with_line listed line ≡ with_lines listed (line ∷ [])
single listed line = no_more (with_line listed line) ∙ line_first listed line []

back_one : (depth : ℕ) (volume : VolumeValue) (disk : List ℕ) (tree : TreeValue) (all : List NameValue) (place : Place) (lines : List (List ℕ)) (dirs : List ℕ) → IsShown depth volume disk tree all place lines dirs
    → Goes volume disk tree all (place ∷ []) lines dirs
back_one zero volume disk tree all place lines dirs is pending before n left once apart fits = absurd is
back_one (suc depth) volume disk tree all place lines dirs is pending before zero left once apart fits = absurd (omega arith)
back_one (suc depth) volume disk tree all place lines dirs is pending before (suc n) left once apart fits = elim (either (is_dir place.kind)) [
  | inr other ↦ (
      let shown = subst (λ (b : Bool). IsShownBy b (IsShown depth volume disk tree all) volume disk tree all place lines dirs) other is in
      let line = shown.0 in
      let v : Visited = record { between = record { listed = with_line before.listed line; reached = before.reached; rows = before.rows }; below = [] } in
      let visited : visit volume disk tree place before ≡ Ok v = visit_other volume disk tree place before other ∙ then_ok (line_of volume disk tree place) _ line shown.1 in
      let reached : before.reached ≡ before.reached ++ dirs = sym (append-nil before.reached) ∙ ap (λ (ds : List ℕ). before.reached ++ ds) (sym shown.3) in
      let listed : with_line before.listed line ≡ with_lines before.listed lines = single before.listed line ∙ ap (with_lines before.listed) (sym shown.2) in
      record {
        m = n;
        rows = before.rows;
        left = left ∙ ap (λ (r : List ℕ). left_of r all) reached;
        fits = omega arith;
        goes = next_place n volume disk tree place pending before
            ∙ then_ok (visit volume disk tree place before) (λ v. visit_all n volume disk tree (v.below ++ pending) v.between) v visited
            ∙ ap (visit_all n volume disk tree pending) (λ i. record { listed = listed i; reached = reached i; rows = before.rows });
      }
      )
  | inl dir ↦ (
      let shown = subst (λ (b : Bool). IsShownBy b (IsShown depth volume disk tree all) volume disk tree all place lines dirs) dir is in
      let below = places_below place.path shown.entries in
      let once_now = subst NoneTwice shown.reached once in
      let away = subst (AreApart before.reached) shown.reached apart in
      let out : was_reached place.to before.reached ≡ false = not_in place.to before.reached (λ c. away place.to c (head_in place.to shown.inner)) in
      let names : in_byte_order [] (rows_of place.to before.rows) ≡ Ok shown.entries =
      ap (in_byte_order []) (ap (rows_of place.to) left ∙ rows_fresh place.to before.reached all out) ∙ shown.has_names in
      let next : Between = record { listed = with_line before.listed shown.line; reached = before.reached ++ place.to ∷ []; rows = rows_beside place.to before.rows } in
      let v : Visited = record { between = next; below = below } in
      let visited : visit volume disk tree place before ≡ Ok v =
      visit_dir volume disk tree place before dir ∙ enter_first volume disk tree place before out
      ∙ then_ok (line_of volume disk tree place) (λ line. entered place line before) shown.line shown.has_line
      ∙ then_ok (in_byte_order [] (rows_of place.to before.rows)) _ shown.entries names in
      let left_now : rows_beside place.to before.rows ≡ left_of (before.reached ++ place.to ∷ []) all = ap (rows_beside place.to) left ∙ rows_left place.to before.reached all in
      let count = entered_count place.to place.path before.rows shown.entries names in
      let inner = back_all volume disk tree all (IsShown depth volume disk tree all) (back_one depth volume disk tree all) below shown.under shown.inner shown.names pending next n left_now once_now.1
      (λ at c d. elim (Contains-append_cases before.reached (place.to ∷ []) at c) [
        | inl old ↦ away at old (tail_in place.to at shown.inner d)
        | inr new ↦ elim (Contains-cons_cases place.to [] at new) [ inl here ↦ once_now.0 (subst (λ (x : ℕ). Contains shown.inner x) (sym here) d) | inr none ↦ Contains-none at none ]
      ]) (omega (arith, count, fits)) in
      let reached : (before.reached ++ place.to ∷ []) ++ shown.inner ≡ before.reached ++ dirs =
      append_assoc before.reached (place.to ∷ []) shown.inner ∙ ap (λ (ds : List ℕ). before.reached ++ ds) (sym shown.reached) in
      let listed : with_lines (with_line before.listed shown.line) shown.under ≡ with_lines before.listed lines = line_first before.listed shown.line shown.under ∙ ap (with_lines before.listed) (sym shown.all) in
      record {
        m = inner.m;
        rows = inner.rows;
        left = inner.left ∙ ap (λ (r : List ℕ). left_of r all) reached;
        fits = inner.fits;
        goes = next_place n volume disk tree place pending before
            ∙ then_ok (visit volume disk tree place before) (λ v. visit_all n volume disk tree (v.below ++ pending) v.between) v visited
            ∙ inner.goes
            ∙ ap (visit_all inner.m volume disk tree pending) (λ i. record { listed = listed i; reached = reached i; rows = inner.rows });
      }
      )
]

-- ---- a subvolume's tree

-- a listing is made exactly where the names form a tree, and it has the tree's lines
pub tree_is_shown : (volume : VolumeValue) (disk : List ℕ) (tree : TreeValue) (rows : List NameValue) (listed after : Listed) → tree_listed volume disk tree rows listed ≡ Ok after
    → (lines : List (List ℕ)) × IsTreeShown volume disk tree rows lines × (with_lines listed lines ≡ after)
unfolding tree_listed
tree_is_shown volume disk tree rows listed after h =
    let first : Between = record { listed = listed; reached = []; rows = rows } in
    let shows = forward (suc (length rows)) volume disk tree rows (root_place ∷ []) first after (left_all rows) (omega arith) h in
    let (part, rest, near, far, here, (no_lines, no_dirs), is_lines, is_dirs) = shows.are in
    let lines : shows.lines ≡ part = is_lines ∙ ap (λ (ls : List (List ℕ)). part ++ ls) no_lines ∙ append-nil part in
    let dirs : shows.dirs ≡ near = is_dirs ∙ ap (λ (ds : List ℕ). near ++ ds) no_dirs ∙ append-nil near in (
      part,
      record { depth = suc (length rows); dirs = near; shown = here; once = subst NoneTwice dirs shows.once },
      sym (shows.listed ∙ ap (with_lines listed) lines),
    )

pub shown_is_listed : (volume : VolumeValue) (disk : List ℕ) (tree : TreeValue) (rows : List NameValue) (listed : Listed) (lines : List (List ℕ)) → IsTreeShown volume disk tree rows lines
    → tree_listed volume disk tree rows listed ≡ Ok (with_lines listed lines)
unfolding tree_listed
shown_is_listed volume disk tree rows listed lines is =
    let first : Between = record { listed = listed; reached = []; rows = rows } in
    let after = back_one is.depth volume disk tree rows root_place lines is.dirs is.shown [] first (suc (length rows)) (left_all rows) is.once (λ at c d. Contains-none at c) (omega arith) in
    after.goes ∙ all_done after.m volume disk tree (record { listed = with_lines listed lines; reached = [] ++ is.dirs; rows = after.rows })
