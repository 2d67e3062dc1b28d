-- Inodes and extents found among rows, one row behind the other.
use Rattle.std.proofs.Common.{◌≡◌, ◌≤◌, ◌<◌, ◌+◌, ◌++◌, ℕ, Bool, true, false, All, subst, List, [], ◌∷◌, filter, length, drop, get_or, Ok, Err, refl, sym, ap, ◌∙◌, arith, lt-ltb, le-ltb, inl, inr}
use Rattle.std.proofs.lemmas.Bool.{and_left, cases_Bool}
use Rattle.std.proofs.lemmas.List.Elements.{All-contains, Contains-get_or, filter_passes}
use Rattle.std.specs.Prelude.{◌==◌}
use Rattle.foreign_format.specs.declared.extent.Extent.{Extent}
use Rattle.foreign_format.specs.declared.fault.ForeignFault.{ForeignFault}
use Rattle.foreign_format.specs.Answer.{and_then, then_err, then_ok}
use Rattle.foreign_format.specs.Items.{length_of}
use Rattle.foreign_format.proofs.Rows.{drop_here}
use Rattle.foreign_items.specs.declared.rows.ExtentRow.{ExtentRow}
use Rattle.foreign_items.specs.declared.rows.InodeRow.{InodeRow}
use Rattle.foreign_listing.specs.Lines.{are_apart, extents_from, incoherent, inode_in, is_item_of}
use Rattle.foreign_listing.specs.Names.{at_row}
use Rattle.foreign_listing.proofs.Filtered.{filter_not, filter_yes}

-- ---- inodes

inode_here : (sub : ℕ) (row : InodeRow) (rows : List InodeRow) (ino : ℕ) → is_item_of row ino ≡ true → inode_in sub (row ∷ rows) ino ≡ at_row row.leaf row.key row.inode
unfolding inode_in
inode_here sub row rows ino is = rw is refl

inode_later : (sub : ℕ) (row : InodeRow) (rows : List InodeRow) (ino : ℕ) → is_item_of row ino ≡ false → inode_in sub (row ∷ rows) ino ≡ inode_in sub rows ino
unfolding inode_in
inode_later sub row rows ino is = rw is refl

pub inode_end : (sub : ℕ) (rows : List InodeRow) (ino : ℕ) → rows ≡ [] → inode_in sub rows ino ≡ Err (incoherent sub ino)
unfolding inode_in
inode_end sub rows ino is = rw is refl

pub inode_found : (sub : ℕ) (rows : List InodeRow) (ino i : ℕ) (d : InodeRow) → i < length rows → is_item_of (get_or rows i d) ino ≡ true
    → inode_in sub (drop i rows) ino ≡ at_row (get_or rows i d).leaf (get_or rows i d).key (get_or rows i d).inode
inode_found sub rows ino i d within is = ap (λ (rest : List InodeRow). inode_in sub rest ino) (drop_here rows i d within) ∙ inode_here sub (get_or rows i d) (drop (i + 1) rows) ino is

pub inode_passed : (sub : ℕ) (rows : List InodeRow) (ino i : ℕ) (d : InodeRow) → i < length rows → is_item_of (get_or rows i d) ino ≡ false
    → inode_in sub (drop i rows) ino ≡ inode_in sub (drop (i + 1) rows) ino
inode_passed sub rows ino i d within is = ap (λ (rest : List InodeRow). inode_in sub rest ino) (drop_here rows i d within) ∙ inode_later sub (get_or rows i d) (drop (i + 1) rows) ino is

-- the rows of this inode are enough
pub inode_kept : (sub : ℕ) (rows : List InodeRow) (ino : ℕ) → inode_in sub (filter (λ row. row.key.objectid == ino) rows) ino ≡ inode_in sub rows ino
inode_kept sub [] ino = refl
inode_kept sub (row ∷ rows) ino = elim (cases_Bool (row.key.objectid == ino)) [
  | inl same ↦ (
      ap (λ (kept : List InodeRow). inode_in sub kept ino) (filter_yes (λ (row : InodeRow). row.key.objectid == ino) row rows same)
      ∙ elim (cases_Bool (is_item_of row ino)) [
        | inl is ↦ inode_here sub row (filter (λ row. row.key.objectid == ino) rows) ino is ∙ sym (inode_here sub row rows ino is)
        | inr isnt ↦ inode_later sub row (filter (λ row. row.key.objectid == ino) rows) ino isnt ∙ inode_kept sub rows ino ∙ sym (inode_later sub row rows ino isnt)
      ]
      )
  | inr other ↦ (
      ap (λ (kept : List InodeRow). inode_in sub kept ino) (filter_not (λ (row : InodeRow). row.key.objectid == ino) row rows other)
      ∙ inode_kept sub rows ino ∙ sym (inode_later sub row rows ino (and_left (row.key.objectid == ino) (row.key.offset == 0) other))
      )
]

-- other rows in which those of each inode are the same
pub inodes_same : (sub : ℕ) (rows others : List InodeRow) → ((ino : ℕ) → filter (λ row. row.key.objectid == ino) others ≡ filter (λ row. row.key.objectid == ino) rows) → (ino : ℕ) → inode_in sub others ino ≡ inode_in sub rows ino
inodes_same sub rows others same ino = sym (inode_kept sub others ino) ∙ ap (λ (kept : List InodeRow). inode_in sub kept ino) (same ino) ∙ inode_kept sub rows ino

-- ---- extents

extent_here : (extents : List Extent) (row : ExtentRow) (rows : List ExtentRow) (ino : ℕ) → (row.key.objectid == ino) ≡ true
    → extents_from extents (row ∷ rows) ino ≡ and_then (at_row row.leaf row.key row.extent) (λ extent. extents_from (extents ++ extent ∷ []) rows ino)
unfolding extents_from
extent_here extents row rows ino is = rw is refl

extent_later : (extents : List Extent) (row : ExtentRow) (rows : List ExtentRow) (ino : ℕ) → (row.key.objectid == ino) ≡ false → extents_from extents (row ∷ rows) ino ≡ extents_from extents rows ino
unfolding extents_from
extent_later extents row rows ino is = rw is refl

pub extents_kept : (extents : List Extent) (rows : List ExtentRow) (ino : ℕ) → extents_from extents (filter (λ row. row.key.objectid == ino) rows) ino ≡ extents_from extents rows ino
extents_kept extents [] ino = refl
extents_kept extents (row ∷ rows) ino = elim (cases_Bool (row.key.objectid == ino)) [
  | inl same ↦ (
      ap (λ (kept : List ExtentRow). extents_from extents kept ino) (filter_yes (λ (row : ExtentRow). row.key.objectid == ino) row rows same)
      ∙ extent_here extents row (filter (λ row. row.key.objectid == ino) rows) ino same
      ∙ (λ i. and_then (at_row row.leaf row.key row.extent) (λ extent. extents_kept (extents ++ extent ∷ []) rows ino i))
      ∙ sym (extent_here extents row rows ino same)
      )
  | inr other ↦ (
      ap (λ (kept : List ExtentRow). extents_from extents kept ino) (filter_not (λ (row : ExtentRow). row.key.objectid == ino) row rows other)
      ∙ extents_kept extents rows ino ∙ sym (extent_later extents row rows ino other)
      )
]

pub extents_same : (rows others : List ExtentRow) → ((ino : ℕ) → filter (λ row. row.key.objectid == ino) others ≡ filter (λ row. row.key.objectid == ino) rows) → (ino : ℕ) → extents_from [] others ino ≡ extents_from [] rows ino
extents_same rows others same ino = sym (extents_kept [] others ino) ∙ ap (λ (kept : List ExtentRow). extents_from [] kept ino) (same ino) ∙ extents_kept [] rows ino

-- each row of an inode is its
pub kept_at : {A : Type 0} (p : A → Bool) (xs kept : List A) (i : ℕ) (d : A) → kept ≡ filter p xs → i < length kept → p (get_or kept i d) ≡ true
kept_at p xs kept i d is within =
    All-contains (λ x. p x ≡ true) kept (get_or kept i d) (subst (λ (l : List _). All (λ x. p x ≡ true) l) (sym is) (filter_passes p xs)) (Contains-get_or kept i d within)

pub extents_end : (extents : List Extent) (rows : List ExtentRow) (ino : ℕ) → rows ≡ [] → extents_from extents rows ino ≡ Ok extents
unfolding extents_from
extents_end extents rows ino is = rw is refl

pub extent_more : (extents after : List Extent) (rows : List ExtentRow) (ino i : ℕ) (d : ExtentRow) (extent : Extent) → i < length rows → ((get_or rows i d).key.objectid == ino) ≡ true
    → at_row (get_or rows i d).leaf (get_or rows i d).key (get_or rows i d).extent ≡ Ok extent → after ≡ extents ++ extent ∷ [] → extents_from extents (drop i rows) ino ≡ extents_from after (drop (i + 1) rows) ino
extent_more extents after rows ino i d extent within is read more =
    ap (λ (rest : List ExtentRow). extents_from extents rest ino) (drop_here rows i d within)
    ∙ extent_here extents (get_or rows i d) (drop (i + 1) rows) ino is
    ∙ then_ok (at_row (get_or rows i d).leaf (get_or rows i d).key (get_or rows i d).extent) (λ extent. extents_from (extents ++ extent ∷ []) (drop (i + 1) rows) ino) extent read
    ∙ ap (λ (found : List Extent). extents_from found (drop (i + 1) rows) ino) (sym more)

pub extent_bad : (extents : List Extent) (rows : List ExtentRow) (ino i : ℕ) (d : ExtentRow) (fault : ForeignFault) → i < length rows → ((get_or rows i d).key.objectid == ino) ≡ true
    → at_row (get_or rows i d).leaf (get_or rows i d).key (get_or rows i d).extent ≡ Err fault → extents_from extents (drop i rows) ino ≡ Err fault
extent_bad extents rows ino i d fault within is bad =
    ap (λ (rest : List ExtentRow). extents_from extents rest ino) (drop_here rows i d within)
    ∙ extent_here extents (get_or rows i d) (drop (i + 1) rows) ino is
    ∙ then_err (at_row (get_or rows i d).leaf (get_or rows i d).key (get_or rows i d).extent) (λ extent. extents_from (extents ++ extent ∷ []) (drop (i + 1) rows) ino) fault bad

-- ---- extents that are apart

pub apart_end : (end : ℕ) (extents : List Extent) → extents ≡ [] → are_apart end extents ≡ true
unfolding are_apart
apart_end end extents is = rw is refl

apart_not : (end : ℕ) (extent : Extent) (extents : List Extent) → extent.offset < end → are_apart end (extent ∷ extents) ≡ false
unfolding are_apart
apart_not end extent extents below = rw (lt-ltb extent.offset end below) refl

apart_yet : (end : ℕ) (extent : Extent) (extents : List Extent) → end ≤ extent.offset → are_apart end (extent ∷ extents) ≡ are_apart (extent.offset + length_of extent) extents
unfolding are_apart
apart_yet end extent extents above = rw (le-ltb extent.offset end above) refl

pub apart_bad : (end : ℕ) (extents : List Extent) (i : ℕ) (d : Extent) (begin : ℕ) → i < length extents → begin ≡ (get_or extents i d).offset → begin < end → are_apart end (drop i extents) ≡ false
apart_bad end extents i d begin within is below = ap (are_apart end) (drop_here extents i d within) ∙ apart_not end (get_or extents i d) (drop (i + 1) extents) (omega arith)

pub apart_more : (end : ℕ) (extents : List Extent) (i : ℕ) (d : Extent) (begin again long wide : ℕ) → i < length extents → begin ≡ (get_or extents i d).offset → end ≤ begin → again ≡ (get_or extents i d).offset → long ≡ length_of (get_or extents i d) → wide ≡ long
    → are_apart end (drop i extents) ≡ are_apart (again + wide) (drop (i + 1) extents)
apart_more end extents i d begin again long wide within is above at much same =
    ap (are_apart end) (drop_here extents i d within) ∙ apart_yet end (get_or extents i d) (drop (i + 1) extents) (omega arith)
    ∙ ap (λ (n : ℕ). are_apart n (drop (i + 1) extents)) (let next : (get_or extents i d).offset + length_of (get_or extents i d) ≡ again + wide = omega arith in next)
