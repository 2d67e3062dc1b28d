-- What one more entry does to the record, the image and the places where the last flush and superblock stand.
use Rattle.std.proofs.Common.{◌≡◌, ◌≤◌, ◌+◌, ◌++◌, ◌∷◌, [], ℕ, zero, suc, List, length, drop, Option, Some, Bool, true, false, cond, refl, sym, ◌∙◌, ap, subst, arith, slice_set, slice_index_or}
use Rattle.std.proofs.lemmas.List.{length-append, set-get_or, drop-append-le}
use Rattle.disk_model.specs.Disk.{Image, Call, Held, GoesOn, after_call, held_now, lost_after, written, super_written}
use Rattle.disk_model.proofs.CrashLaws.{held_now-goes_on}
use Rattle.disk_memory.specs.declared.entry.Place.{Place}
use Rattle.disk_memory.specs.declared.entry.Entry.{Entry}
use Rattle.disk_memory.specs.declared.entry.Entry.TheVariants.{Write, Super, Flush}
use Rattle.disk_memory.specs.Record.{call_of, image_by, lost_by, reads_by, told_by, has_no_super}
use Rattle.disk_memory.specs.RecordLaws.{reads_by-push, told_by-push}

reads_after : (first image : Image) (es es' : List Entry) (entry : Entry) → image ≡ reads_by first es → es' ≡ es ++ entry ∷ [] → image_by image (call_of image entry) ≡ reads_by first es'
reads_after first image es es' entry reads more =
    ap (λ (now : Image). image_by now (call_of now entry)) reads ∙ sym (reads_by-push first es entry) ∙ ap (λ (entries : List Entry). reads_by first entries) (sym more)

told_after : (first image : Image) (es es' : List Entry) (entry : Entry) → image ≡ reads_by first es → es' ≡ es ++ entry ∷ [] → GoesOn (told_by first es) (told_by first es') (call_of image entry ∷ [])
told_after first image es es' entry reads more =
    let pushed : GoesOn (told_by first es) (told_by first es') (call_of (reads_by first es) entry ∷ []) = subst (λ (entries : List Entry). GoesOn (told_by first es) (told_by first entries) (call_of (reads_by first es) entry ∷ [])) (sym more) (told_by-push first es entry) in
    subst (λ (now : Image). GoesOn (told_by first es) (told_by first es') (call_of now entry ∷ [])) (sym reads) pushed

pub reads_after_write : (first image image' : Image) (es es' : List Entry) (place : Place) (bytes : List ℕ) (ok : Bool) → image ≡ reads_by first es → es' ≡ es ++ Write place bytes ok ∷ [] → image' ≡ cond ok (slice_set image place.at bytes) image → image' ≡ reads_by first es'
reads_after_write first image image' es es' place bytes true reads more now = now ∙ reads_after first image es es' (Write place bytes true) reads more
reads_after_write first image image' es es' place bytes false reads more now =
    now ∙ sym (set-get_or image place.at []) ∙ reads_after first image es es' (Write place bytes false) reads more

pub told_after_write : (first image image' : Image) (es es' : List Entry) (place : Place) (bytes : List ℕ) (ok : Bool) → image ≡ reads_by first es → es' ≡ es ++ Write place bytes ok ∷ [] → image' ≡ cond ok (slice_set image place.at bytes) image → GoesOn (told_by first es) (told_by first es') (written place.at bytes ok (Some image') ∷ [])
told_after_write first image image' es es' place bytes true reads more now = told_after first image es es' (Write place bytes true) reads more
told_after_write first image image' es es' place bytes false reads more now =
    subst (λ (after : Image). GoesOn (told_by first es) (told_by first es') (Call.Write place.at bytes false (slice_index_or after place.at []) ∷ [])) (sym now)
    (told_after first image es es' (Write place bytes false) reads more)

pub reads_after_super : (first image image' : Image) (es es' : List Entry) (bytes : List ℕ) (ok : Bool) → image ≡ reads_by first es → es' ≡ es ++ Super bytes ok ∷ [] → image' ≡ cond ok (slice_set image 16 bytes) image → image' ≡ reads_by first es'
reads_after_super first image image' es es' bytes true reads more now = now ∙ reads_after first image es es' (Super bytes true) reads more
reads_after_super first image image' es es' bytes false reads more now =
    now ∙ sym (set-get_or image 16 []) ∙ reads_after first image es es' (Super bytes false) reads more

pub told_after_super : (first image image' : Image) (es es' : List Entry) (bytes : List ℕ) (ok : Bool) → image ≡ reads_by first es → es' ≡ es ++ Super bytes ok ∷ [] → image' ≡ cond ok (slice_set image 16 bytes) image → GoesOn (told_by first es) (told_by first es') (super_written bytes ok (Some image') ∷ [])
told_after_super first image image' es es' bytes true reads more now = told_after first image es es' (Super bytes true) reads more
told_after_super first image image' es es' bytes false reads more now =
    subst (λ (after : Image). GoesOn (told_by first es) (told_by first es') (Call.Super bytes false (slice_index_or after 16 []) ∷ [])) (sym now)
    (told_after first image es es' (Super bytes false) reads more)

pub reads_after_flush : (first image : Image) (es es' : List Entry) (ok : Bool) → image ≡ reads_by first es → es' ≡ es ++ Flush ok ∷ [] → image ≡ reads_by first es'
reads_after_flush first image es es' ok reads more = reads_after first image es es' (Flush ok) reads more

pub told_after_flush : (first image : Image) (es es' : List Entry) (ok : Bool) → image ≡ reads_by first es → es' ≡ es ++ Flush ok ∷ [] → GoesOn (told_by first es) (told_by first es') (Call.Flush ok ∷ [])
told_after_flush first image es es' ok reads more = told_after first image es es' (Flush ok) reads more

-- nothing stands past the end
drop_everything : {A : Type 0} (n : ℕ) (xs : List A) → length xs ≤ n → drop n xs ≡ []
drop_everything zero [] le = refl
drop_everything zero (x ∷ xs) le = absurd (omega (arith, le))
drop_everything (suc n) [] le = refl
drop_everything (suc n) (x ∷ xs) le = drop_everything n xs (omega (arith, le))

-- where the last superblock stands
no_super-append : (xs ys : List Entry) → has_no_super xs ≡ true → has_no_super ys ≡ true → has_no_super (xs ++ ys) ≡ true
no_super-append [] ys first second = second
no_super-append (Write place bytes ok ∷ xs) ys first second = no_super-append xs ys first second
no_super-append (Super bytes true ∷ xs) ys first second = cc
no_super-append (Super bytes false ∷ xs) ys first second = no_super-append xs ys first second
no_super-append (Flush ok ∷ xs) ys first second = no_super-append xs ys first second

pub no_super_more : (n : ℕ) (es es' : List Entry) (entry : Entry) → n ≤ length es → has_no_super (drop n es) ≡ true → es' ≡ es ++ entry ∷ [] → has_no_super (entry ∷ []) ≡ true → has_no_super (drop n es') ≡ true
no_super_more n es es' entry within none more kind =
    ap (λ (entries : List Entry). has_no_super (drop n entries)) more ∙ ap has_no_super (drop-append-le n es (entry ∷ []) within) ∙ no_super-append (drop n es) (entry ∷ []) none kind

pub no_super_after_super : (n n' : ℕ) (es es' : List Entry) (bytes : List ℕ) (ok : Bool) → n ≤ length es → has_no_super (drop n es) ≡ true → n' ≡ cond ok (length es + 1) n → es' ≡ es ++ Super bytes ok ∷ [] → has_no_super (drop n' es') ≡ true
no_super_after_super n n' es es' bytes true within none now more =
    ap has_no_super (drop_everything n' es' (omega (arith, now, ap length more, length-append es (Super bytes true ∷ []))))
no_super_after_super n n' es es' bytes false within none now more =
    ap (λ (k : ℕ). has_no_super (drop k es')) now ∙ no_super_more n es es' (Super bytes false) within none more refl

-- which blocks are lost
lost_goes_on : (first : Image) (es es' : List Entry) (call : Call) → GoesOn (told_by first es) (told_by first es') (call ∷ []) → lost_by first es' ≡ (after_call (held_now (told_by first es)) call).lost
lost_goes_on first es es' call goes = ap (λ (held : Held). held.lost) (held_now-goes_on (told_by first es) (told_by first es') (call ∷ []) goes)

pub lost_after_write : (first : Image) (es es' : List Entry) (at : ℕ) (bytes : List ℕ) (ok : Bool) (seen : Option Image) → GoesOn (told_by first es) (told_by first es') (written at bytes ok seen ∷ []) → lost_by first es' ≡ lost_after at ok (lost_by first es)
lost_after_write first es es' at bytes true seen goes = lost_goes_on first es es' (Call.Write at bytes true bytes) goes
lost_after_write first es es' at bytes false seen goes = lost_goes_on first es es' (written at bytes false seen) goes

pub lost_after_super : (first : Image) (es es' : List Entry) (bytes : List ℕ) (ok : Bool) (seen : Option Image) → GoesOn (told_by first es) (told_by first es') (super_written bytes ok seen ∷ []) → lost_by first es' ≡ lost_by first es
lost_after_super first es es' bytes true seen goes = lost_goes_on first es es' (Call.Super bytes true bytes) goes
lost_after_super first es es' bytes false seen goes = lost_goes_on first es es' (super_written bytes false seen) goes

pub lost_after_flush : (first : Image) (es es' : List Entry) (ok : Bool) → GoesOn (told_by first es) (told_by first es') (Call.Flush ok ∷ []) → ok ≡ true → lost_by first es' ≡ lost_by first es
lost_after_flush first es es' true goes is = lost_goes_on first es es' (Call.Flush true) goes
lost_after_flush first es es' false goes is = absurd (cc)
