-- What a disk's record tells of the calls that were made, and the images that it says a crash may leave.
use Rattle.std.proofs.Common.{◌≡◌, ◌≢◌, ℕ, Bool, true, false, cond, List, [], ◌∷◌, ◌++◌, length, Contains, refl, sym, ap, subst, ◌∙◌, inl, inr, arith, zero, suc}
use Rattle.std.specs.Prelude.{slice_get, slice_set, slice_index_or}
use Rattle.std.proofs.lemmas.List.{length-set, set-get_or}
use Rattle.std.proofs.lemmas.Bool.{cases_eq}
use Rattle.disk_model.specs.Disk.{Call, GoesOn, Held, Image, IsUnsettled, Leaves, Told, after_call, after_calls, during_call, held_now, lost_after}
use Rattle.disk_model.proofs.CrashLaws.{Contains-cons_cases, Contains-here, Contains-there, Leaves-wider, held_now-goes_on, slice_get-set_other}
use Rattle.commit_device.specs.Calls.{AreTold, HoldsAtLeast, IsFailedSuper}

-- ---- calls that are told

pub told_all : (calls : List Call) → AreTold calls calls
told_all [] = refl
told_all (call ∷ calls) = inl (calls, refl, told_all calls)

pub told_joined : (made more told later : List Call) → AreTold made told → AreTold more later → AreTold (made ++ more) (told ++ later)
told_joined [] more told later one two = subst (λ (l : List Call). AreTold more (l ++ later)) (sym one) two
told_joined (call ∷ made) more told later one two = elim one [
  | inl first ↦ inl (first.0 ++ later, ap (λ (l : List Call). l ++ later) first.1, told_joined made more first.0 later first.2 two)
  | inr left_out ↦ inr (left_out.0, told_joined made more told later left_out.1 two)
]

-- a write of a superblock that failed and left no trace
pub told_none : (bytes left : List ℕ) → AreTold (Call.Super bytes false left ∷ []) []
told_none bytes left = inr (refl, refl)

-- ---- what the disk holds

more_supers : (bytes : List ℕ) (ok : Bool) (told held : List (List ℕ)) → ((super : List ℕ) → Contains told super → Contains held super) → (super : List ℕ)
    → Contains (cond ok (bytes ∷ []) (bytes ∷ told)) super → Contains (cond ok (bytes ∷ []) (bytes ∷ held)) super
more_supers bytes true told held more super c = c
more_supers bytes false told held more super c = elim (Contains-cons_cases bytes told super c) [
  | inl same ↦ subst (Contains (bytes ∷ held)) same (Contains-here bytes held)
  | inr before ↦ Contains-there bytes held super (more super before)
]

pub holds_after : (told held : Held) (call : Call) → HoldsAtLeast told held → HoldsAtLeast (after_call told call) (after_call held call)
holds_after told held (Call.Write at bytes ok left) holds = record {
  image = ap (λ (image : Image). slice_set image at left) holds.image;
  pending = ap (λ (pending : List ℕ). at ∷ pending) holds.pending;
  lost = ap (lost_after at ok) holds.lost;
  supers = holds.supers;
}
holds_after told held (Call.Super bytes ok left) holds = record {
  image = ap (λ (image : Image). slice_set image 16 left) holds.image;
  pending = holds.pending;
  lost = holds.lost;
  supers = more_supers bytes ok told.supers held.supers holds.supers;
}
holds_after told held (Call.Flush ok) holds = record {
  image = holds.image;
  pending = refl;
  lost = ap (λ (lost : List ℕ). cond ok lost (held.pending ++ lost)) holds.lost ∙ ap (λ (pending : List ℕ). cond ok told.lost (pending ++ told.lost)) holds.pending;
  supers = holds.supers;
}

pub holds_behind : (told held : Held) (calls : List Call) → HoldsAtLeast told held → HoldsAtLeast (after_calls told calls) (after_calls held calls)
holds_behind told held [] holds = holds
holds_behind told held (call ∷ calls) holds = holds_behind (after_call told call) (after_call held call) calls (holds_after told held call holds)

-- a record that went on by the calls that were made
pub holds_told : (old new : Told) (held : Held) (calls : List Call) → HoldsAtLeast (held_now old) held → GoesOn old new calls → HoldsAtLeast (held_now new) (after_calls held calls)
holds_told old new held calls holds goes =
    subst (λ (told : Held). HoldsAtLeast told (after_calls held calls)) (sym (held_now-goes_on old new calls goes)) (holds_behind (held_now old) held calls holds)

-- a write of a superblock that failed, left block 16 as it was, and isn't told
pub holds_untold : (told held : Held) (bytes : List ℕ) → HoldsAtLeast told held → HoldsAtLeast told (after_call held (Call.Super bytes false (slice_index_or held.image 16 [])))
holds_untold told held bytes holds = record {
  image = set-get_or held.image 16 [] ∙ holds.image;
  pending = holds.pending;
  lost = holds.lost;
  supers = λ super c. Contains-there bytes held.supers super (holds.supers super c);
}

-- ---- images

-- the same, but for what block 16 reads as
pub record Covers (told held : Held) : Type 0 where
  pub size : length held.image ≡ length told.image
  pub others : (at : ℕ) → at ≢ 16 → slice_get held.image at ≡ slice_get told.image at
  pub pending : held.pending ≡ told.pending
  pub lost : held.lost ≡ told.lost
  pub supers : (bytes : List ℕ) → Contains told.supers bytes → Contains held.supers bytes

pub covers : (told held : Held) → HoldsAtLeast told held → Covers told held
covers told held holds = record {
  size = ap length holds.image;
  others = λ at other. ap (λ (image : Image). slice_get image at) holds.image;
  pending = holds.pending;
  lost = holds.lost;
  supers = holds.supers;
}

unsettled_covered : (told held : Held) → Covers told held → (at : ℕ) → IsUnsettled told at → IsUnsettled held at
unsettled_covered told held is at (inl pending) = inl (subst (λ (l : List ℕ). Contains l at) (sym is.pending) pending)
unsettled_covered told held is at (inr lost) = inr (subst (λ (l : List ℕ). Contains l at) (sym is.lost) lost)

pub left_covered : (told held : Held) → Covers told held → (image : Image) → Leaves told image → Leaves held image
left_covered told held is image leaves =
    Leaves-wider told held image is.size (λ at other settled. is.others at other) (unsettled_covered told held is) is.supers leaves

pub left_by_both : (told held : Held) (image : Image) → HoldsAtLeast told held → Leaves told image → Leaves held image
left_by_both told held image holds leaves = left_covered told held (covers told held holds) image leaves

-- two lists of one length have the same at a place that is set
set_alike : {A : Type 0} (xs ys : List A) (at : ℕ) (x : A) → length xs ≡ length ys → slice_get (slice_set xs at x) at ≡ slice_get (slice_set ys at x) at
set_alike [] [] at x size = refl
set_alike [] (y ∷ ys) at x size = absurd (omega (arith, size))
set_alike (z ∷ xs) [] at x size = absurd (omega (arith, size))
set_alike (z ∷ xs) (y ∷ ys) zero x size = refl
set_alike (z ∷ xs) (y ∷ ys) (suc at) x size = set_alike xs ys at x (omega (arith, size))

-- one block of the two images is set
set_covered : (told held : Held) → Covers told held → (at : ℕ) (left : List ℕ) (k : ℕ) → k ≢ 16 → slice_get (slice_set held.image at left) k ≡ slice_get (slice_set told.image at left) k
set_covered told held is at left k other = elim (cases_eq k at) [
  | inl same ↦ subst (λ (n : ℕ). slice_get (slice_set held.image at left) n ≡ slice_get (slice_set told.image at left) n) (sym same) (set_alike held.image told.image at left is.size)
  | inr apart ↦ slice_get-set_other held.image at k left apart ∙ is.others k other ∙ sym (slice_get-set_other told.image at k left apart)
]

pub covers_after : (told held : Held) (call : Call) → Covers told held → Covers (after_call told call) (after_call held call)
covers_after told held (Call.Write at bytes ok left) is = record {
  size = length-set held.image at left ∙ is.size ∙ sym (length-set told.image at left);
  others = set_covered told held is at left;
  pending = ap (λ (pending : List ℕ). at ∷ pending) is.pending;
  lost = ap (lost_after at ok) is.lost;
  supers = is.supers;
}
covers_after told held (Call.Super bytes ok left) is = record {
  size = length-set held.image 16 left ∙ is.size ∙ sym (length-set told.image 16 left);
  others = set_covered told held is 16 left;
  pending = is.pending;
  lost = is.lost;
  supers = more_supers bytes ok told.supers held.supers is.supers;
}
covers_after told held (Call.Flush ok) is = record {
  size = is.size;
  others = is.others;
  pending = refl;
  lost = ap (λ (lost : List ℕ). cond ok lost (held.pending ++ lost)) is.lost ∙ ap (λ (pending : List ℕ). cond ok told.lost (pending ++ told.lost)) is.pending;
  supers = is.supers;
}

pub covers_during : (told held : Held) (call : Call) → Covers told held → Covers (during_call told call) (during_call held call)
covers_during told held (Call.Write at bytes ok left) is = record {
  size = is.size;
  others = is.others;
  pending = ap (λ (pending : List ℕ). at ∷ pending) is.pending;
  lost = is.lost;
  supers = is.supers;
}
covers_during told held (Call.Super bytes ok left) is = record {
  size = is.size;
  others = is.others;
  pending = is.pending;
  lost = is.lost;
  supers = more_supers bytes false told.supers held.supers is.supers;
}
covers_during told held (Call.Flush ok) is = is

pub covers_untold : (told held : Held) (call : Call) → IsFailedSuper call → Covers told held → Covers told (after_call held call)
covers_untold told held (Call.Write at bytes ok left) failed is = absurd failed
covers_untold told held (Call.Super bytes ok left) failed is = record {
  size = length-set held.image 16 left ∙ is.size;
  others = λ at other. slice_get-set_other held.image 16 at left other ∙ is.others at other;
  pending = is.pending;
  lost = is.lost;
  supers = λ super c. subst (λ (b : Bool). Contains (cond b (bytes ∷ []) (bytes ∷ held.supers)) super) (sym failed) (Contains-there bytes held.supers super (is.supers super c));
}
covers_untold told held (Call.Flush ok) failed is = absurd failed
