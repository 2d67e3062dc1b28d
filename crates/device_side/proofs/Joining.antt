-- Writes of some blocks, and then of others.
use Rattle.std.proofs.Common.{◌≡◌, ◌≢◌, ◌<◌, ◌/◌, ◌⊎◌, ℕ, List, [], ◌∷◌, ◌++◌, All, AllPairs, Contains, Option, Some, None, Result, Ok, Err, OnErr, false, is_ok, map, refl, sym, ◌∙◌, ap, subst, inl, inr, arith, append_assoc}
use Rattle.std.proofs.lemmas.List.{get_or-map, length-map, map-append}
use Rattle.std.proofs.lemmas.List.Elements.{All-append, All-contains, All-contains_itself, All-weaker, Contains-append_cases, Contains-append_left, Contains-append_right}
use Rattle.std.proofs.lemmas.List.Kept.{AllPairs-cons}
use Rattle.blk_base.specs.Trees.{AtBlock, NoneTwice}
use Rattle.blk_base.proofs.Members.{in_nothing, once_apart, once_left, once_right}
use Rattle.disk_model.specs.Disk.{Call, EveryMoment, GoesOn, GoesOnUntil, IfBoth, IfTold, Image, IsCutOff, TellsMore, Told, as_failed}
use Rattle.disk_model.proofs.CrashLaws.{EveryMoment-joins, EveryMoment-weaker, GoesOn-joins, TellsMore-joins}
use Rattle.batch_write.specs.Batch.{HasBlock, IsOldBut, IsPlace, SameOutside, numbers_of, write_call}
use Rattle.batch_write.proofs.CallLemmas.{calls_begin}
use Rattle.batch_write.proofs.ImageLemmas.{same_begins, written_begins}
use Rattle.batch_write.proofs.MomentLemmas.{IsRead, moments_now, so_far_begins}
use Rattle.device_side.specs.Written.{AreWritten, ChangesOnly, Known, MayBeWritten}

abbrev number : AtBlock → ℕ
number item = item.0.0 / 4096

-- what holds of each member holds of all
each : {X : Type 0} (P : X → Type 0) (xs : List X) → ((x : X) → Contains xs x → P x) → All P xs
each P xs f = All-weaker (Contains xs) P f xs (All-contains_itself xs)

-- ---- numbers

numbers_joined : (xs ys : List AtBlock) → numbers_of (xs ++ ys) ≡ numbers_of xs ++ numbers_of ys
numbers_joined xs ys = map-append number xs ys

once_joined : (xs ys : List AtBlock) → NoneTwice (numbers_of (xs ++ ys)) → NoneTwice (numbers_of xs ++ numbers_of ys)
once_joined xs ys once = subst NoneTwice (numbers_joined xs ys) once

among_first : (xs ys : List AtBlock) (at : ℕ) → Contains (numbers_of xs) at → Contains (numbers_of (xs ++ ys)) at
among_first xs ys at there =
    subst (λ (l : List ℕ). Contains l at) (sym (numbers_joined xs ys)) (Contains-append_left (numbers_of xs) (numbers_of ys) at there)

among_later : (xs ys : List AtBlock) (at : ℕ) → Contains (numbers_of ys) at → Contains (numbers_of (xs ++ ys)) at
among_later xs ys at there =
    subst (λ (l : List ℕ). Contains l at) (sym (numbers_joined xs ys)) (Contains-append_right (numbers_of xs) (numbers_of ys) at there)

among_cases : (xs ys : List AtBlock) (at : ℕ) → Contains (numbers_of (xs ++ ys)) at → Contains (numbers_of xs) at ⊎ Contains (numbers_of ys) at
among_cases xs ys at there =
    Contains-append_cases (numbers_of xs) (numbers_of ys) at (subst (λ (l : List ℕ). Contains l at) (numbers_joined xs ys) there)

-- the number of a block that is among them
number_in : (xs : List AtBlock) (item : AtBlock) → Contains xs item → Contains (numbers_of xs) (number item)
number_in xs item there = (there.0, subst (λ n. there.0 < n) (sym (length-map xs number)) there.1, get_or-map number xs there.0 item (number item) there.1 ∙ ap number there.2)

-- the first blocks, and those behind them, may be written where all may
pub first_may : (count : ℕ) (xs ys : List AtBlock) → MayBeWritten count (xs ++ ys) → MayBeWritten count xs
first_may count xs ys may = record {
  places = each (λ (item : AtBlock). IsPlace count item.0) xs (λ item there. All-contains (λ (one : AtBlock). IsPlace count one.0) (xs ++ ys) item may.places (Contains-append_left xs ys item there));
  once = once_left (numbers_of xs) (numbers_of ys) (once_joined xs ys may.once);
}

pub later_may : (count : ℕ) (xs ys : List AtBlock) → MayBeWritten count (xs ++ ys) → MayBeWritten count ys
later_may count xs ys may = record {
  places = each (λ (item : AtBlock). IsPlace count item.0) ys (λ item there. All-contains (λ (one : AtBlock). IsPlace count one.0) (xs ++ ys) item may.places (Contains-append_right xs ys item there));
  once = once_right (numbers_of xs) (numbers_of ys) (once_joined xs ys may.once);
}

-- no two of the blocks have one number, place by place
pub pairs_apart : (xs : List AtBlock) → NoneTwice (numbers_of xs) → AllPairs (λ one other. one.0.0 / 4096 ≢ other.0.0 / 4096) xs
pairs_apart [] once = λ i j d below within. absurd (omega (arith, within))
pairs_apart (x ∷ xs) once =
    AllPairs-cons (λ (one other : AtBlock). number one ≢ number other) x xs
    (each (λ (other : AtBlock). number x ≢ number other) xs (λ other there same. once.0 (subst (λ (n : ℕ). Contains (numbers_of xs) n) (sym same) (number_in xs other there))))
    (pairs_apart xs once.1)

-- ---- two stretches, where they are told

pub both_joined : {A : Type 0} (P Q R : A → A → Type 0) (a b c : Option A) → ((x y z : A) → P x y → Q y z → R x z) → IfBoth a b P → IfBoth b c Q → IfBoth a c R
both_joined P Q R None None None join one two = tt
both_joined P Q R None None (Some z) join one two = two
both_joined P Q R None (Some y) c join one two = absurd one
both_joined P Q R (Some x) None c join one two = absurd one
both_joined P Q R (Some x) (Some y) None join one two = absurd two
both_joined P Q R (Some x) (Some y) (Some z) join one two = join x y z one two

pub both_weaker : {A : Type 0} (P Q : A → A → Type 0) (a b : Option A) → ((x y : A) → P x y → Q x y) → IfBoth a b P → IfBoth a b Q
both_weaker P Q None None weaken one = tt
both_weaker P Q None (Some y) weaken one = one
both_weaker P Q (Some x) None weaken one = one
both_weaker P Q (Some x) (Some y) weaken one = weaken x y one

told_after : {A : Type 0} (P : A → Type 0) (R : A → A → Type 0) (a b : Option A) (Q : A → Type 0) → ((x y : A) → P x → R x y → Q y) → IfTold a P → IfBoth a b R → IfTold b Q
told_after P R None None Q step one two = tt
told_after P R None (Some y) Q step one two = absurd two
told_after P R (Some x) None Q step one two = tt
told_after P R (Some x) (Some y) Q step one two = step x y one two

-- what follows of the second of two
pub both_second : {A : Type 0} (P : A → A → Type 0) (Q : A → Type 0) (a b : Option A) → ((x y : A) → P x y → Q y) → IfBoth a b P → IfTold b Q
both_second P Q None None weaken one = tt
both_second P Q None (Some y) weaken one = absurd one
both_second P Q (Some x) None weaken one = tt
both_second P Q (Some x) (Some y) weaken one = weaken x y one

-- ---- what changes

pub same_more : (numbers more : List ℕ) (old new : Image) → ((at : ℕ) → Contains numbers at → Contains more at) → SameOutside numbers old new → SameOutside more old new
same_more numbers more old new within same = record {
  size = same.size;
  others = λ at outside. same.others at (λ there. outside (within at there));
}

pub same_joined : (numbers : List ℕ) (old mid new : Image) → SameOutside numbers old mid → SameOutside numbers mid new → SameOutside numbers old new
same_joined numbers old mid new one two = record {
  size = two.size ∙ one.size;
  others = λ at outside. two.others at outside ∙ one.others at outside;
}

but_more : (old : Told) (numbers more : List ℕ) (image : Image) → ((at : ℕ) → Contains numbers at → Contains more at) → IsOldBut old numbers image → IsOldBut old more image
but_more old numbers more image within but = record {
  base = but.base;
  left = but.left;
  blocks = but.blocks;
  size = but.size;
  others = λ at outside. but.others at (λ there. outside (within at there));
}

but_later : (old mid : Told) (numbers more : List ℕ) (image : Image) → ((at : ℕ) → Contains numbers at → Contains more at) → EveryMoment old mid (IsOldBut old more) → IsOldBut mid numbers image → IsOldBut old more image
but_later old mid numbers more image within every but =
    let before : IsOldBut old more but.base = moments_now (IsOldBut old more) old mid every but.base but.left in record {
      base = before.base;
      left = before.left;
      blocks = but.blocks;
      size = but.size ∙ before.size;
      others = λ at outside. but.others at (λ there. outside (within at there)) ∙ before.others at outside;
    }

-- writes of no block
pub changes_none : (known : Known) → IsRead known.told known.seen known.count → ChangesOnly known known []
changes_none known read = record {
  size = refl;
  same = same_begins [] known.seen;
  crash = so_far_begins [] known.told known.seen known.count read;
}

pub written_none : (known : Known) → AreWritten known known []
written_none known = record {
  written = written_begins [] known.seen;
  lost = record { fewer = λ at there. there; none = λ at there. absurd (in_nothing at there) };
  calls = calls_begin [] known.told;
}

-- writes of some of the blocks change no others
pub changes_more : (old new : Known) (xs ys : List AtBlock) → ChangesOnly old new xs → ChangesOnly old new (xs ++ ys)
changes_more old new xs ys changes = record {
  size = changes.size;
  same = both_weaker (SameOutside (numbers_of xs)) (SameOutside (numbers_of (xs ++ ys))) old.seen new.seen (λ x y same. same_more (numbers_of xs) (numbers_of (xs ++ ys)) x y (among_first xs ys) same) changes.same;
  crash = both_weaker (λ x y. EveryMoment x y (IsOldBut x (numbers_of xs))) (λ x y. EveryMoment x y (IsOldBut x (numbers_of (xs ++ ys)))) old.told new.told
      (λ x y every. EveryMoment-weaker (IsOldBut x (numbers_of xs)) (IsOldBut x (numbers_of (xs ++ ys))) x y (λ image but. but_more x (numbers_of xs) (numbers_of (xs ++ ys)) image (among_first xs ys) but) every) changes.crash;
}

pub changes_joined : (old mid new : Known) (xs ys : List AtBlock) → ChangesOnly old mid xs → ChangesOnly mid new ys → ChangesOnly old new (xs ++ ys)
changes_joined old mid new xs ys one two =
    let numbers : List ℕ = numbers_of (xs ++ ys) in
    let first : ChangesOnly old mid (xs ++ ys) = changes_more old mid xs ys one in record {
      size = two.size ∙ one.size;
      same = both_joined (SameOutside numbers) (SameOutside (numbers_of ys)) (SameOutside numbers) old.seen mid.seen new.seen
          (λ x y z here there. same_joined numbers x y z here (same_more (numbers_of ys) numbers y z (among_later xs ys) there)) first.same two.same;
      crash = both_joined (λ x y. EveryMoment x y (IsOldBut x numbers)) (λ x y. EveryMoment x y (IsOldBut x (numbers_of ys))) (λ x y. EveryMoment x y (IsOldBut x numbers)) old.told mid.told new.told
          (λ x y z here there. EveryMoment-joins (IsOldBut x numbers) x y z here
          (EveryMoment-weaker (IsOldBut y (numbers_of ys)) (IsOldBut x numbers) y z (λ image but. but_later x y (numbers_of ys) numbers image (among_later xs ys) here but) there)) first.crash two.crash;
    }

-- ---- what is written

still_there : (xs ys : List AtBlock) (count : ℕ) (mid new : Image) → MayBeWritten count (xs ++ ys) → All (HasBlock mid) xs → SameOutside (numbers_of ys) mid new → All (HasBlock new) xs
still_there xs ys count mid new may there same =
    each (HasBlock new) xs (λ item is. same.others (number item) (λ later. once_apart (numbers_of xs) (numbers_of ys) (once_joined xs ys may.once) (number item) (number_in xs item is) later)
    ∙ All-contains (HasBlock mid) xs item there is)

told_both : {A : Type 0} (P Q : A → Type 0) (a : Option A) → IfTold a P → IfTold a Q → IfTold a (λ x. P x × Q x)
told_both P Q None one two = tt
told_both P Q (Some x) one two = (one, two)

told_weaker : {A : Type 0} (P Q : A → Type 0) (a : Option A) → ((x : A) → P x → Q x) → IfTold a P → IfTold a Q
told_weaker P Q None weaken one = tt
told_weaker P Q (Some x) weaken one = weaken x one

pub written_joined : (count : ℕ) (old mid new : Known) (xs ys : List AtBlock) → MayBeWritten count (xs ++ ys) → AreWritten old mid xs → ChangesOnly mid new ys → AreWritten mid new ys → AreWritten old new (xs ++ ys)
written_joined count old mid new xs ys may one changes two = record {
  written = told_weaker (λ image. All (HasBlock image) xs × All (HasBlock image) ys) (λ image. All (HasBlock image) (xs ++ ys)) new.seen (λ image both. All-append (HasBlock image) xs ys both.0 both.1)
      (told_both (λ image. All (HasBlock image) xs) (λ image. All (HasBlock image) ys) new.seen
      (told_after (λ image. All (HasBlock image) xs) (SameOutside (numbers_of ys)) mid.seen new.seen (λ image. All (HasBlock image) xs) (λ x y there same. still_there xs ys count x y may there same) one.written changes.same)
      two.written);
  lost = record {
    fewer = λ at there. one.lost.fewer at (two.lost.fewer at there);
    none = λ at among there. elim (among_cases xs ys at among) [
      | inl first ↦ one.lost.none at first (two.lost.fewer at there)
      | inr later ↦ two.lost.none at later there
    ];
  };
  calls = subst (λ (calls : List Call). TellsMore old.told new.told calls) (sym (map-append write_call xs ys)) (TellsMore-joins old.told mid.told new.told (map write_call xs) (map write_call ys) one.calls two.calls);
}

-- ---- a stretch that was cut off

until_later : (old mid new : Told) (calls done : List Call) (failed : Call) → GoesOn old mid calls → GoesOnUntil mid new done failed → GoesOnUntil old new (calls ++ done) failed
until_later old mid new calls done failed one two = elim two [
  | inl left ↦ inl (left.0, subst (λ (all : List Call). GoesOn old new all) (sym (append_assoc calls done (as_failed failed left.0 ∷ []))) (GoesOn-joins old mid new calls (done ++ as_failed failed left.0 ∷ []) one left.1))
  | inr none ↦ inr (GoesOn-joins old mid new calls done one none)
]

cut_later : (old mid new : Told) (calls later : List Call) → GoesOn old mid calls → IsCutOff mid new later → IsCutOff old new (calls ++ later)
cut_later old mid new calls later one cut = record {
  done = calls ++ cut.done;
  failed = cut.failed;
  rest = cut.rest;
  are = ap (λ (all : List Call). calls ++ all) cut.are ∙ sym (append_assoc calls cut.done (cut.failed ∷ cut.rest));
  goes_on = until_later old mid new calls cut.done cut.failed one cut.goes_on;
}

pub cut_behind : (old mid new : Option Told) (calls later : List Call) → TellsMore old mid calls → IfBoth mid new (λ x y. IsCutOff x y later) → IfBoth old new (λ x y. IsCutOff x y (calls ++ later))
cut_behind old mid new calls later one cut =
    both_joined (λ x y. GoesOn x y calls) (λ x y. IsCutOff x y later) (λ x y. IsCutOff x y (calls ++ later)) old mid new (λ x y z here there. cut_later x y z calls later here there) one cut

pub until_behind : (old mid new : Option Told) (calls done : List Call) (failed : Call) → TellsMore old mid calls → IfBoth mid new (λ x y. GoesOnUntil x y done failed) → IfBoth old new (λ x y. GoesOnUntil x y (calls ++ done) failed)
until_behind old mid new calls done failed one two =
    both_joined (λ x y. GoesOn x y calls) (λ x y. GoesOnUntil x y done failed) (λ x y. GoesOnUntil x y (calls ++ done) failed) old mid new (λ x y z here there. until_later x y z calls done failed here there) one two

-- ---- what holds where a call failed

pub from_err : {T E P : Type 0} (result : Result T E) → is_ok result ≡ false → OnErr result P → P
from_err (Ok value) failed holds = absurd (cc)
from_err (Err fault) failed holds = holds

pub to_err : {T E P : Type 0} (result : Result T E) → (is_ok result ≡ false → P) → OnErr result P
to_err (Ok value) holds = tt
to_err (Err fault) holds = holds refl
