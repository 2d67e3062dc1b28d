-- A listing is the same where each inode, its extents and the rows of each directory are.
use Rattle.std.proofs.Common.{◌≡◌, ◌++◌, ◌==◌, ℕ, zero, suc, Bool, true, false, not, List, [], ◌∷◌, length, map, Ok, Err, Result, cond, refl, sym, ap, ◌∙◌, inl, inr, eqb-true, eq-eqb, arith}
use Rattle.std.specs.Prelude.{codes}
use Rattle.std.proofs.lemmas.List.{length-map}
use Rattle.std.proofs.lemmas.Bool.{cases_Bool, false_from_ne_true, not_from_false, not_from_true, true≢false}
use Rattle.format_laws.specs.Checks.{finds}
use Rattle.io_edge.specs.Printed.{printed}
use Rattle.foreign_file.specs.File.{file_sum}
use Rattle.foreign_format.specs.declared.entry.EntryKind.{EntryKind}
use Rattle.foreign_format.specs.declared.entry.EntryKind.TheVariants.{File, Dir, Chr, Blk, Fifo, Sock, Link, Sub}
use Rattle.foreign_format.specs.declared.fault.ForeignFault.{ForeignFault}
use Rattle.foreign_format.specs.Answer.{and_then}
use Rattle.foreign_items.specs.declared.items.SubvolumeItems.{SubvolumeItems}
use Rattle.foreign_items.specs.Rows.{NameValue}
use Rattle.foreign_items.specs.View.{items_value, name_view}
use Rattle.foreign_tree.specs.Tree.{VolumeValue, was_reached}
use Rattle.foreign_listing.specs.Lines.{TreeValue, extents_from, extents_of, if_apart, incoherent, inode_in, inode_line, line_by, line_of, sum_word, target_in}
use Rattle.foreign_listing.specs.declared.tree.Tree.{Tree}
use Rattle.foreign_listing.specs.Listing.{tree_in}
use Rattle.foreign_listing.specs.View.{IsTreeOf, tree_value}
use Rattle.foreign_listing.specs.Names.{Place, in_byte_order, is_of, places_below, rows_beside, rows_of}
use Rattle.foreign_listing.specs.Walk.{Between, Listed, Visited, entered, is_dir, root_place, tree_listed, visit_all, with_line}
use Rattle.foreign_listing.proofs.Filtered.{filter_not, filter_yes}
use Rattle.foreign_listing.proofs.Naming.{rows_same}
use Rattle.foreign_listing.proofs.Rows.{extents_same, inodes_same}
use Rattle.foreign_listing.proofs.Walking.{enter_first, next_place, visit_dir, visit_other}

-- each inode and its extents are the same
pub record SameTree (a b : TreeValue) : Type 0 where
  pub number : a.sub ≡ b.sub
  pub inodes : (ino : ℕ) → inode_in a.sub a.inodes ino ≡ inode_in b.sub b.inodes ino
  pub extents : (ino : ℕ) → extents_from [] a.extents ino ≡ extents_from [] b.extents ino

-- ---- lines

same_extents : (a b : TreeValue) (ino : ℕ) → SameTree a b → extents_of a ino ≡ extents_of b ino
same_extents a b ino same = λ i. and_then (same.extents ino i) (if_apart (same.number i) ino)

same_line_by : (kind : EntryKind) (volume : VolumeValue) (disk : List ℕ) (a b : TreeValue) (place : Place) → SameTree a b → line_by kind volume disk a place ≡ line_by kind volume disk b place
same_line_by File volume disk a b place same = λ i.
    and_then (same.inodes place.to i) (λ inode.
    and_then (same_extents a b place.to same i) (λ extents.
    and_then (file_sum volume disk inode.size extents) (λ sum.
    Ok (inode_line place inode (sum_word sum) []))))
same_line_by Link volume disk a b place same = λ i.
    and_then (same.inodes place.to i) (λ inode.
    and_then (same_extents a b place.to same i) (λ extents.
    and_then (target_in disk (same.number i) place.to inode.size extents) (λ target.
    Ok (inode_line place inode (codes "-") (codes " " ++ printed target)))))
same_line_by Sub volume disk a b place same = refl
same_line_by Dir volume disk a b place same = λ i. and_then (same.inodes place.to i) (λ inode. Ok (inode_line place inode (codes "-") []))
same_line_by Chr volume disk a b place same = λ i. and_then (same.inodes place.to i) (λ inode. Ok (inode_line place inode (codes "-") []))
same_line_by Blk volume disk a b place same = λ i. and_then (same.inodes place.to i) (λ inode. Ok (inode_line place inode (codes "-") []))
same_line_by Fifo volume disk a b place same = λ i. and_then (same.inodes place.to i) (λ inode. Ok (inode_line place inode (codes "-") []))
same_line_by Sock volume disk a b place same = λ i. and_then (same.inodes place.to i) (λ inode. Ok (inode_line place inode (codes "-") []))

same_line : (volume : VolumeValue) (disk : List ℕ) (a b : TreeValue) (place : Place) → SameTree a b → line_of volume disk a place ≡ line_of volume disk b place
unfolding line_of
same_line volume disk a b place same = same_line_by place.kind volume disk a b place same

-- ---- rows

abbrev SameRows : List NameValue → List NameValue → Type 0
SameRows rows others = (dir : ℕ) → rows_of dir rows ≡ rows_of dir others

row_apart : (dir to number : ℕ) → (number == to) ≡ true → (dir == to) ≡ false → (number == dir) ≡ false
row_apart dir to number of other = false_from_ne_true _ (λ h. true≢false (sym (eq-eqb dir to (sym (eqb-true number dir h) ∙ eqb-true number to of)) ∙ other))

to_apart : (dir to number : ℕ) → (number == dir) ≡ true → (number == to) ≡ false → (dir == to) ≡ false
to_apart dir to number of other = false_from_ne_true _ (λ h. true≢false (sym (eq-eqb number to (eqb-true number dir of ∙ eqb-true dir to h)) ∙ other))

none_cond : (b : Bool) → ◌≡◌ {A = List NameValue} [] (cond b [] [])
none_cond true = refl
none_cond false = refl

of_beside : (dir to : ℕ) (rows : List NameValue) → rows_of dir (rows_beside to rows) ≡ cond (dir == to) [] (rows_of dir rows)
of_beside dir to [] = none_cond (dir == to)
of_beside dir to (row ∷ rows) = elim (cases_Bool (is_of to row)) [
  | inl of ↦ (
      ap (rows_of dir) (filter_not (λ (r : NameValue). not (is_of to r)) row rows (not_from_true (is_of to row) of))
      ∙ of_beside dir to rows
      ∙ elim (cases_Bool (dir == to)) [
        | inl same ↦ rw same refl
        | inr other ↦ (
            let apart : is_of dir row ≡ false = row_apart dir to row.key.objectid of other in
            ap (cond (dir == to) []) (sym (filter_not (is_of dir) row rows apart))
            )
      ]
      )
  | inr beside ↦ (
      ap (rows_of dir) (filter_yes (λ (r : NameValue). not (is_of to r)) row rows (not_from_false (is_of to row) beside))
      ∙ elim (cases_Bool (is_of dir row)) [
        | inl of ↦ (
            let apart : (dir == to) ≡ false = to_apart dir to row.key.objectid of beside in
            filter_yes (is_of dir) row (rows_beside to rows) of ∙ ap (λ (rest : List NameValue). row ∷ rest) (of_beside dir to rows)
            ∙ rw apart (sym (filter_yes (is_of dir) row rows of))
            )
        | inr other ↦ filter_not (is_of dir) row (rows_beside to rows) other ∙ of_beside dir to rows ∙ ap (cond (dir == to) []) (sym (filter_not (is_of dir) row rows other))
      ]
      )
]

same_beside : (to : ℕ) (rows others : List NameValue) → SameRows rows others → SameRows (rows_beside to rows) (rows_beside to others)
same_beside to rows others same = λ dir. of_beside dir to rows ∙ ap (cond (dir == to) []) (same dir) ∙ sym (of_beside dir to others)

-- ---- steps

then_then : {A B C : Type 0} (first : Result A ForeignFault) (next : A → Result B ForeignFault) (last : B → Result C ForeignFault) → and_then (and_then first next) last ≡ and_then first (λ value. and_then (next value) last)
then_then (Ok value) next last = refl
then_then (Err fault) next last = refl

abbrev behind : ℕ → VolumeValue → List ℕ → TreeValue → List Place → Visited → Result Listed ForeignFault
behind n volume disk tree pending after = visit_all n volume disk tree (after.below ++ pending) after.between

-- what comes behind a directory
dir_then : (n : ℕ) (volume : VolumeValue) (disk : List ℕ) (tree : TreeValue) (place : Place) (pending : List Place) (before : Between) → is_dir place.kind ≡ true → was_reached place.to before.reached ≡ false
    → visit_all (suc n) volume disk tree (place ∷ pending) before ≡ and_then (line_of volume disk tree place) (λ line. and_then (in_byte_order [] (rows_of place.to before.rows)) (λ entries. behind n volume disk tree pending (record {
      between = record { listed = with_line before.listed line; reached = before.reached ++ place.to ∷ []; rows = rows_beside place.to before.rows };
      below = places_below place.path entries;
    })))
dir_then n volume disk tree place pending before dir first =
    next_place n volume disk tree place pending before
    ∙ ap (λ (v : Result Visited ForeignFault). and_then v (behind n volume disk tree pending)) (visit_dir volume disk tree place before dir ∙ enter_first volume disk tree place before first)
    ∙ then_then (line_of volume disk tree place) (λ line. entered place line before) (behind n volume disk tree pending)
    ∙ (λ i. and_then (line_of volume disk tree place) (λ line. then_then (in_byte_order [] (rows_of place.to before.rows)) (λ entries. Ok (record {
      between = record { listed = with_line before.listed line; reached = before.reached ++ place.to ∷ []; rows = rows_beside place.to before.rows };
      below = places_below place.path entries;
    })) (behind n volume disk tree pending) i))

dir_twice : (n : ℕ) (volume : VolumeValue) (disk : List ℕ) (tree : TreeValue) (place : Place) (pending : List Place) (before : Between) → is_dir place.kind ≡ true → was_reached place.to before.reached ≡ true
    → visit_all (suc n) volume disk tree (place ∷ pending) before ≡ Err (incoherent tree.sub place.to)
dir_twice n volume disk tree place pending before dir twice =
    next_place n volume disk tree place pending before
    ∙ ap (λ (v : Result Visited ForeignFault). and_then v (behind n volume disk tree pending)) (visit_dir volume disk tree place before dir ∙ finds _ _ _ twice)

-- what comes behind anything else
other_then : (n : ℕ) (volume : VolumeValue) (disk : List ℕ) (tree : TreeValue) (place : Place) (pending : List Place) (before : Between) → is_dir place.kind ≡ false
    → visit_all (suc n) volume disk tree (place ∷ pending) before ≡ and_then (line_of volume disk tree place) (λ line. behind n volume disk tree pending (record {
      between = record { listed = with_line before.listed line; reached = before.reached; rows = before.rows };
      below = [];
    }))
other_then n volume disk tree place pending before other =
    next_place n volume disk tree place pending before
    ∙ ap (λ (v : Result Visited ForeignFault). and_then v (behind n volume disk tree pending)) (visit_other volume disk tree place before other)
    ∙ then_then (line_of volume disk tree place) _ (behind n volume disk tree pending)

-- ---- the listing

abbrev at_rows : Listed → List ℕ → List NameValue → Between
at_rows listed reached rows = record { listed = listed; reached = reached; rows = rows }

same_walk : (n : ℕ) (volume : VolumeValue) (disk : List ℕ) (a b : TreeValue) (pending : List Place) (listed : Listed) (reached : List ℕ) (rows others : List NameValue) → SameTree a b → SameRows rows others
    → visit_all n volume disk a pending (at_rows listed reached rows) ≡ visit_all n volume disk b pending (at_rows listed reached others)
unfolding visit_all
same_walk zero volume disk a b [] listed reached rows others same rows_same = refl
same_walk (suc n) volume disk a b [] listed reached rows others same rows_same = refl
same_walk zero volume disk a b (place ∷ pending) listed reached rows others same rows_same = refl
same_walk (suc n) volume disk a b (place ∷ pending) listed reached rows others same rows_same = elim (cases_Bool (is_dir place.kind)) [
  | inl dir ↦ elim (cases_Bool (was_reached place.to reached)) [
    | inl twice ↦ (
        dir_twice n volume disk a place pending (at_rows listed reached rows) dir twice
        ∙ ap (λ (sub : ℕ). Err (incoherent sub place.to)) same.number
        ∙ sym (dir_twice n volume disk b place pending (at_rows listed reached others) dir twice)
        )
    | inr first ↦ (
        dir_then n volume disk a place pending (at_rows listed reached rows) dir first
        ∙ (λ i. and_then (same_line volume disk a b place same i) (λ line. and_then (in_byte_order [] (rows_same place.to i)) (λ entries.
        same_walk n volume disk a b (places_below place.path entries ++ pending) (with_line listed line) (reached ++ place.to ∷ []) (rows_beside place.to rows) (rows_beside place.to others) same (same_beside place.to rows others rows_same) i)))
        ∙ sym (dir_then n volume disk b place pending (at_rows listed reached others) dir first)
        )
  ]
  | inr other ↦ (
      other_then n volume disk a place pending (at_rows listed reached rows) other
      ∙ (λ i. and_then (same_line volume disk a b place same i) (λ line. same_walk n volume disk a b pending (with_line listed line) reached rows others same rows_same i))
      ∙ sym (other_then n volume disk b place pending (at_rows listed reached others) other)
      )
]

pub same_listing : (volume : VolumeValue) (disk : List ℕ) (a b : TreeValue) (rows others : List NameValue) (listed : Listed) → SameTree a b → ((dir : ℕ) → rows_of dir rows ≡ rows_of dir others) → length rows ≡ length others
    → tree_listed volume disk a rows listed ≡ tree_listed volume disk b others listed
unfolding tree_listed
same_listing volume disk a b rows others listed same rows_same count =
    same_walk (suc (length rows)) volume disk a b (root_place ∷ []) listed [] rows others same rows_same
    ∙ ap (λ (n : ℕ). visit_all (suc n) volume disk b (root_place ∷ []) (at_rows listed [] others)) count

-- a tree with these items has their listing
pub tree_same : (sub : ℕ) (items : SubvolumeItems) (tree : Tree) (volume : VolumeValue) (disk : List ℕ) (listed : Listed) → IsTreeOf sub items tree
    → tree_listed volume disk (tree_in sub (items_value items)) (map name_view items.names.items) listed ≡ tree_listed volume disk (tree_value tree) (map name_view tree.names.items) listed
tree_same sub items tree volume disk listed of =
    let here = length-map tree.names.items name_view in
    let there = length-map items.names.items name_view in
    let one = tree.names.ok.0 in
    let other = items.names.ok.0 in
    let count : length (map name_view tree.names.items) ≡ length (map name_view items.names.items) = (let same = of.count in omega (arith, here, there, one, other, same)) in
    sym (same_listing volume disk (tree_value tree) (tree_in sub (items_value items)) (map name_view tree.names.items) (map name_view items.names.items) listed
    (record {
      number = of.number;
      inodes = λ ino. ap (λ (n : ℕ). inode_in n tree.inodes.items ino) of.number ∙ inodes_same sub items.inodes.items tree.inodes.items of.inodes ino;
      extents = extents_same items.extents.items tree.extents.items of.extents;
    }) (rows_same items.names.items tree.names.items of.names) count)
