-- Lemmas on the record of a disk in memory.
use Rattle.std.specs.Prelude.{◌≡◌, ◌≢◌, ◌<◌, ◌++◌, ◌∷◌, [], ℕ, zero, suc, List, length, take, drop, All, Contains, true, false, slice_get, slice_set, slice_index_or, refl}
use Rattle.std.proofs.Common.{sym, ◌∙◌, ap, subst, inl, inr, arith, get_or-set_other, get_or-set_same}
use Rattle.std.proofs.lemmas.Bool.{cases_lt}
use Rattle.std.proofs.lemmas.List.{length-set, set_past, take-append-drop}
use Rattle.disk_model.specs.Disk.{Image, IsImage, Call, Held, Leaves, GoesOn, IsUnsettled, without, after_call, after_calls, held_first, held_now, image_now}
use Rattle.disk_model.proofs.CrashLaws.{slice_get-set_other, Contains-here, Contains-there}
use Rattle.disk_memory.specs.declared.entry.Entry.{Entry}
use Rattle.disk_memory.specs.declared.entry.Entry.TheVariants.{Write, Super, Flush}
use Rattle.disk_memory.specs.Record.{call_of, image_by, calls_of, reads_by, told_by, has_no_super}

-- one more entry
pub calls_of-push : (image : Image) (entries : List Entry) (entry : Entry) → calls_of image (entries ++ entry ∷ []) ≡ calls_of image entries ++ call_of (reads_by image entries) entry ∷ []
calls_of-push image [] entry = refl
calls_of-push image (x ∷ xs) entry =
    ap (λ (calls : List Call). call_of image x ∷ calls) (calls_of-push (image_by image (call_of image x)) xs entry)

pub reads_by-push : (image : Image) (entries : List Entry) (entry : Entry) → reads_by image (entries ++ entry ∷ []) ≡ image_by (reads_by image entries) (call_of (reads_by image entries) entry)
reads_by-push image [] entry = refl
reads_by-push image (x ∷ xs) entry = reads_by-push (image_by image (call_of image x)) xs entry

-- what is told goes on by the entry's call
pub told_by-push : (image : Image) (entries : List Entry) (entry : Entry) → GoesOn (told_by image entries) (told_by image (entries ++ entry ∷ [])) (call_of (reads_by image entries) entry ∷ [])
told_by-push image entries entry =
    record { first = refl; supers = refl; calls = calls_of-push image entries entry }

-- what a disk holds after these entries
abbrev pub run : Held → List Entry → Held
run held [] = held
run held (entry ∷ entries) = run (after_call held (call_of held.image entry)) entries

after_call-image : (held : Held) (call : Call) → (after_call held call).image ≡ image_by held.image call
after_call-image held (Call.Write at bytes ok left) = refl
after_call-image held (Call.Super bytes ok left) = refl
after_call-image held (Call.Flush ok) = refl

pub run-is : (held : Held) (entries : List Entry) → after_calls held (calls_of held.image entries) ≡ run held entries
run-is held [] = refl
run-is held (entry ∷ entries) =
    let next = after_call held (call_of held.image entry) in
    subst (λ (image : Image). after_calls next (calls_of image entries) ≡ run next entries) (after_call-image held (call_of held.image entry)) (run-is next entries)

run-image : (held : Held) (entries : List Entry) → (run held entries).image ≡ reads_by held.image entries
run-image held [] = refl
run-image held (entry ∷ entries) =
    let next = after_call held (call_of held.image entry) in
    subst (λ (image : Image). (run next entries).image ≡ reads_by image entries) (after_call-image held (call_of held.image entry)) (run-image next entries)

pub run-append : (held : Held) (xs ys : List Entry) → run held (xs ++ ys) ≡ run (run held xs) ys
run-append held [] ys = refl
run-append held (x ∷ xs) ys = run-append (after_call held (call_of held.image x)) xs ys

-- what is told leads to what the entries make
pub held_now-told : (image : Image) (entries : List Entry) → held_now (told_by image entries) ≡ run (held_first (told_by image entries)) entries
held_now-told image entries = run-is (held_first (told_by image entries)) entries

pub image_now-told : (image : Image) (entries : List Entry) → image_now (told_by image entries) ≡ reads_by image entries
image_now-told image entries =
    ap (λ (held : Held). held.image) (held_now-told image entries) ∙ run-image (held_first (told_by image entries)) entries

-- the number of blocks stays
image_by-length : (image : Image) (call : Call) → length (image_by image call) ≡ length image
image_by-length image (Call.Write at bytes ok left) = length-set image at left
image_by-length image (Call.Super bytes ok left) = length-set image 16 left
image_by-length image (Call.Flush ok) = refl

pub reads_by-length : (image : Image) (entries : List Entry) → length (reads_by image entries) ≡ length image
reads_by-length image [] = refl
reads_by-length image (entry ∷ entries) =
    reads_by-length (image_by image (call_of image entry)) entries ∙ image_by-length image (call_of image entry)

-- the superblock that a read gives is one that a crash may find
record SuperIsFound (held : Held) : Type 0 where
  there : 16 < length held.image
  found : Contains held.supers (slice_index_or held.image 16 [])

super_found-set : (held : Held) (at : ℕ) (left : List ℕ) (pending lost : List ℕ) → at ≢ 16 → SuperIsFound held → SuperIsFound (record { image = slice_set held.image at left; pending = pending; lost = lost; supers = held.supers })
super_found-set held at left pending lost other is = record {
  there = omega (arith, length-set held.image at left, is.there);
  found = subst (λ (super : List ℕ). Contains held.supers super) (sym (get_or-set_other held.image at 16 left [] (λ same. other (sym same)))) is.found;
}

super_found-call : (held : Held) (entry : Entry) → SuperIsFound held → SuperIsFound (after_call held (call_of held.image entry))
super_found-call held (Write place bytes true) is = super_found-set held place.at bytes (place.at ∷ held.pending) (without place.at held.lost) place.not_super is
super_found-call held (Write place bytes false) is =
    super_found-set held place.at (slice_index_or held.image place.at []) (place.at ∷ held.pending) held.lost place.not_super is
super_found-call held (Super bytes true) is = record {
  there = omega (arith, length-set held.image 16 bytes, is.there);
  found = subst (λ (super : List ℕ). Contains (bytes ∷ []) super) (sym (get_or-set_same held.image 16 bytes [] is.there)) (Contains-here bytes []);
}
super_found-call held (Super bytes false) is = record {
  there = omega (arith, length-set held.image 16 (slice_index_or held.image 16 []), is.there);
  found = subst (λ (super : List ℕ). Contains (bytes ∷ held.supers) super) (sym (get_or-set_same held.image 16 (slice_index_or held.image 16 []) [] is.there)) (Contains-there bytes held.supers (slice_index_or held.image 16 []) is.found);
}
super_found-call held (Flush ok) is = record { there = is.there; found = is.found }

super_found-run : (held : Held) (entries : List Entry) → SuperIsFound held → SuperIsFound (run held entries)
super_found-run held [] is = is
super_found-run held (entry ∷ entries) is = super_found-run (after_call held (call_of held.image entry)) entries (super_found-call held entry is)

-- what a read gives is an image that a crash may leave
pub leaves_as_read : (image : Image) (entries : List Entry) → 16 < length image → IsImage (reads_by image entries) → Leaves (held_now (told_by image entries)) (image_now (told_by image entries))
leaves_as_read image entries there blocks =
    let is : SuperIsFound (held_now (told_by image entries)) = subst SuperIsFound (sym (held_now-told image entries)) (super_found-run (held_first (told_by image entries)) entries (record { there = there; found = Contains-here (slice_index_or image 16 []) [] })) in
    record {
      blocks = subst IsImage (sym (image_now-told image entries)) blocks;
      size = refl;
      super = is.found;
      others = λ at other settled. refl;
    }

-- the superblock that an entry wrote, or failed to, is one that a crash may find
abbrev pub IsFound : List (List ℕ) → Entry → Type 0
IsFound supers (Write place bytes ok) = Unit {0}
IsFound supers (Super bytes ok) = Contains supers bytes
IsFound supers (Flush ok) = Unit {0}

supers_stay : (held : Held) (entries : List Entry) (super : List ℕ) → has_no_super entries ≡ true → Contains held.supers super → Contains (run held entries).supers super
supers_stay held [] super none found = found
supers_stay held (Write place bytes true ∷ entries) super none found = supers_stay (after_call held (call_of held.image (Write place bytes true))) entries super none found
supers_stay held (Write place bytes false ∷ entries) super none found = supers_stay (after_call held (call_of held.image (Write place bytes false))) entries super none found
supers_stay held (Super bytes true ∷ entries) super none found = cc
supers_stay held (Super bytes false ∷ entries) super none found =
    supers_stay (after_call held (call_of held.image (Super bytes false))) entries super none (Contains-there bytes held.supers super found)
supers_stay held (Flush ok ∷ entries) super none found = supers_stay (after_call held (call_of held.image (Flush ok))) entries super none found

found_here : (held : Held) (entry : Entry) (entries : List Entry) → has_no_super (entry ∷ entries) ≡ true → IsFound (run held (entry ∷ entries)).supers entry
found_here held (Write place bytes ok) entries none = tt
found_here held (Super bytes true) entries none = cc
found_here held (Super bytes false) entries none =
    supers_stay (after_call held (call_of held.image (Super bytes false))) entries bytes none (Contains-here bytes held.supers)
found_here held (Flush ok) entries none = tt

no_super_rest : (entry : Entry) (entries : List Entry) → has_no_super (entry ∷ entries) ≡ true → has_no_super entries ≡ true
no_super_rest (Write place bytes ok) entries none = none
no_super_rest (Super bytes true) entries none = cc
no_super_rest (Super bytes false) entries none = none
no_super_rest (Flush ok) entries none = none

pub found_each : (held : Held) (entries : List Entry) → has_no_super entries ≡ true → All (IsFound (run held entries).supers) entries
found_each held [] none k d within = absurd (omega (arith, within))
found_each held (entry ∷ entries) none zero d within = found_here held entry entries none
found_each held (entry ∷ entries) none (suc k) d within =
    found_each (after_call held (call_of held.image entry)) entries (no_super_rest entry entries none) k d (omega (arith, within))

-- an image that a crash may leave, with other bytes in a pending or lost block
pub Leaves-torn : (held : Held) (old new : Image) (at : ℕ) (block : List ℕ) → Leaves held old → IsImage new → new ≡ slice_set old at block → at ≢ 16 → IsUnsettled held at → Leaves held new
Leaves-torn held old new at block leaves blocks is other unsettled = record {
  blocks = blocks;
  size = ap length is ∙ length-set old at block ∙ leaves.size;
  super = subst (λ (super : List ℕ). Contains held.supers super) (sym (ap (λ (image : Image). slice_index_or image 16 []) is ∙ get_or-set_other old at 16 block [] (λ same. other (sym same)))) leaves.super;
  others = λ k not_super settled. ap (λ (image : Image). slice_get image k) is ∙ slice_get-set_other old at k block (λ same. settled (subst (λ (n : ℕ). IsUnsettled held n) (sym same) unsettled)) ∙ leaves.others k not_super settled;
}

-- an image that a crash may leave, with another superblock that it may find
pub Leaves-super : (held : Held) (old new : Image) (block : List ℕ) → Leaves held old → IsImage new → new ≡ slice_set old 16 block → Contains held.supers block → Leaves held new
Leaves-super held old new block leaves blocks is found =
    elim (cases_lt 16 (length old)) [
      | inr past ↦ subst (Leaves held) (sym (is ∙ set_past old 16 block past)) leaves
      | inl there ↦ record {
        blocks = blocks;
        size = ap length is ∙ length-set old 16 block ∙ leaves.size;
        super = subst (λ (super : List ℕ). Contains held.supers super) (sym (ap (λ (image : Image). slice_index_or image 16 []) is ∙ get_or-set_same old 16 block [] there)) found;
        others = λ k not_super settled. ap (λ (image : Image). slice_get image k) is ∙ slice_get-set_other old 16 k block not_super ∙ leaves.others k not_super settled;
      }
    ]

-- the entries that follow the last write of the superblock that answered Ok tried superblocks that a crash may find
pub found_since : (image : Image) (entries : List Entry) (n : ℕ) → has_no_super (drop n entries) ≡ true → All (IsFound (held_now (told_by image entries)).supers) (drop n entries)
found_since image entries n none =
    let whole : run (held_first (told_by image entries)) entries ≡ run (run (held_first (told_by image entries)) (take n entries)) (drop n entries) = ap (λ (all : List Entry). run (held_first (told_by image entries)) all) (sym (take-append-drop n entries)) ∙ run-append (held_first (told_by image entries)) (take n entries) (drop n entries) in
    subst (λ (held : Held). All (IsFound held.supers) (drop n entries)) (sym (held_now-told image entries ∙ whole)) (found_each (run (held_first (told_by image entries)) (take n entries)) (drop n entries) none)
