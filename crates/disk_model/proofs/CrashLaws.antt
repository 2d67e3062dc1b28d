-- Lemmas on what a crash may leave, for the proofs of this crate and of those above.
use Rattle.std.specs.Prelude.{◌≡◌, ◌≢◌, ◌<◌, ◌⊎◌, ◌++◌, ◌∷◌, [], ℕ, zero, suc, List, length, Contains, Option, Some, None, Bool, true, false, cond, ◌==◌, slice_get, slice_set, slice_index_or, refl}
use Rattle.std.proofs.Common.{sym, ◌∙◌, ap, subst, inl, inr, append_assoc, append-nil, eqb-true, arith}
use Rattle.std.proofs.lemmas.Bool.{eqb-false}
use Rattle.std.proofs.lemmas.List.{append_cancel_left, length-set}
use Rattle.std.proofs.lemmas.List.Elements.{Contains-append_cases, Contains-append_left, Contains-append_right}
use Rattle.disk_model.specs.Disk.{Image, Call, Told, Held, Moment, Leaves, LeavesFrom, IsSince, GoesOn, EveryMoment, AtEveryMoment, Throughout, IfTold, TellsMore, Continues, ReadGives, known, HasNoSuper, HasNoFlush, Writes, Settles, IsUnsettled, without, lost_after, after_call, during_call, after_calls, held_first, held_now, image_now}

-- calls one after another
pub after_calls-append : (held : Held) (xs ys : List Call) → after_calls held (xs ++ ys) ≡ after_calls (after_calls held xs) ys
after_calls-append held [] ys = refl
after_calls-append held (x ∷ xs) ys = after_calls-append (after_call held x) xs ys

-- the moment one call later
abbrev later : Moment → Moment
later (Moment.Between k) = Moment.Between (suc k)
later (Moment.Inside k) = Moment.Inside (suc k)

LeavesFrom-later : (held : Held) (call : Call) (calls : List Call) (moment : Moment) (image : Image) → LeavesFrom (after_call held call) calls moment image → LeavesFrom held (call ∷ calls) (later moment) image
LeavesFrom-later held call calls (Moment.Between k) image leaves = (omega (arith, leaves.0), leaves.1)
LeavesFrom-later held call calls (Moment.Inside k) image leaves = leaves

IsSince-zero : (moment : Moment) → IsSince 0 moment
IsSince-zero (Moment.Between k) = omega arith
IsSince-zero (Moment.Inside k) = omega arith

IsSince-later : (n : ℕ) (moment : Moment) → IsSince n moment → IsSince (suc n) (later moment)
IsSince-later n (Moment.Between k) since = omega arith
IsSince-later n (Moment.Inside k) since = omega arith

-- what holds call by call holds at each moment
pub each_moment_from_throughout : (P : Image → Type 0) (held : Held) (calls : List Call) → Throughout held calls P → (moment : Moment) (image : Image) → LeavesFrom held calls moment image → P image
each_moment_from_throughout P held [] all (Moment.Between zero) image leaves = all image leaves.1
each_moment_from_throughout P held [] all (Moment.Between (suc k)) image leaves = absurd (omega (arith, leaves.0))
each_moment_from_throughout P held [] all (Moment.Inside k) image leaves = absurd leaves
each_moment_from_throughout P held (call ∷ calls) all (Moment.Between zero) image leaves = all.0 image leaves.1
each_moment_from_throughout P held (call ∷ calls) all (Moment.Between (suc k)) image leaves =
    each_moment_from_throughout P (after_call held call) calls all.2 (Moment.Between k) image (omega (arith, leaves.0), leaves.1)
each_moment_from_throughout P held (call ∷ calls) all (Moment.Inside zero) image leaves = all.1 image leaves
each_moment_from_throughout P held (call ∷ calls) all (Moment.Inside (suc k)) image leaves =
    each_moment_from_throughout P (after_call held call) calls all.2 (Moment.Inside k) image leaves

-- what holds at each moment holds call by call
pub throughout_from_each_moment : (P : Image → Type 0) (held : Held) (calls : List Call) → ((moment : Moment) (image : Image) → LeavesFrom held calls moment image → P image) → Throughout held calls P
throughout_from_each_moment P held [] all = λ image leaves. all (Moment.Between zero) image (omega arith, leaves)
throughout_from_each_moment P held (call ∷ calls) all = (
  λ image leaves. all (Moment.Between zero) image (omega arith, leaves),
  λ image leaves. all (Moment.Inside zero) image leaves,
  throughout_from_each_moment P (after_call held call) calls (λ moment image leaves. all (later moment) image (LeavesFrom-later held call calls moment image leaves)),
)

since_from_throughout : (P : Image → Type 0) (held : Held) (xs ys : List Call) → Throughout (after_calls held xs) ys P → (moment : Moment) (image : Image) → IsSince (length xs) moment → LeavesFrom held (xs ++ ys) moment image → P image
since_from_throughout P held [] ys all moment image since leaves = each_moment_from_throughout P held ys all moment image leaves
since_from_throughout P held (x ∷ xs) ys all (Moment.Between zero) image since leaves = absurd (omega (arith, since))
since_from_throughout P held (x ∷ xs) ys all (Moment.Between (suc k)) image since leaves =
    since_from_throughout P (after_call held x) xs ys all (Moment.Between k) image (omega (arith, since)) (omega (arith, leaves.0), leaves.1)
since_from_throughout P held (x ∷ xs) ys all (Moment.Inside zero) image since leaves = absurd (omega (arith, since))
since_from_throughout P held (x ∷ xs) ys all (Moment.Inside (suc k)) image since leaves =
    since_from_throughout P (after_call held x) xs ys all (Moment.Inside k) image (omega (arith, since)) leaves

throughout_from_since : (P : Image → Type 0) (held : Held) (xs ys : List Call) → ((moment : Moment) (image : Image) → IsSince (length xs) moment → LeavesFrom held (xs ++ ys) moment image → P image) → Throughout (after_calls held xs) ys P
throughout_from_since P held [] ys all =
    throughout_from_each_moment P held ys (λ moment image leaves. all moment image (IsSince-zero moment) leaves)
throughout_from_since P held (x ∷ xs) ys all =
    throughout_from_since P (after_call held x) xs ys (λ moment image since leaves. all (later moment) image (IsSince-later (length xs) moment since) (LeavesFrom-later held x (xs ++ ys) moment image leaves))

-- at first a record that goes on is as it was
pub held_first-goes_on : (old new : Told) (added : List Call) → GoesOn old new added → held_first new ≡ held_first old
held_first-goes_on old new added goes =
    ap (λ (first : Image). record { image = first; pending = []; lost = []; supers = new.supers }) goes.first ∙ ap (λ (supers : Image). record { image = old.first; pending = []; lost = []; supers = supers }) goes.supers

-- what a record that goes on leads to
pub held_now-goes_on : (old new : Told) (added : List Call) → GoesOn old new added → held_now new ≡ after_calls (held_now old) added
held_now-goes_on old new added goes =
    ap (λ (held : Held). after_calls held new.calls) (held_first-goes_on old new added goes) ∙ ap (λ (calls : List Call). after_calls (held_first old) calls) goes.calls ∙ after_calls-append (held_first old) old.calls added

-- records that go on, one after the other
pub GoesOn-joins : (old mid new : Told) (xs ys : List Call) → GoesOn old mid xs → GoesOn mid new ys → GoesOn old new (xs ++ ys)
GoesOn-joins old mid new xs ys first second = record {
  first = second.first ∙ first.first;
  supers = second.supers ∙ first.supers;
  calls = second.calls ∙ ap (λ (calls : List Call). calls ++ ys) first.calls ∙ append_assoc old.calls xs ys;
}

-- a record goes on by no call
pub GoesOn-same : (told : Told) → GoesOn told told []
GoesOn-same told = record { first = refl; supers = refl; calls = sym (append-nil told.calls) }

-- calls one after the other, where they are told
pub TellsMore-joins : (old mid new : Option Told) (xs ys : List Call) → TellsMore old mid xs → TellsMore mid new ys → TellsMore old new (xs ++ ys)
TellsMore-joins None None None xs ys first second = tt
TellsMore-joins None None (Some new) xs ys first second = second
TellsMore-joins None (Some mid) new xs ys first second = absurd first
TellsMore-joins (Some old) None new xs ys first second = absurd first
TellsMore-joins (Some old) (Some mid) None xs ys first second = second
TellsMore-joins (Some old) (Some mid) (Some new) xs ys first second = GoesOn-joins old mid new xs ys first second

-- Every moment, from call by call
pub every_moment_from_throughout : (P : Image → Type 0) (old new : Told) (added : List Call) → GoesOn old new added → Throughout (held_now old) added P → EveryMoment old new P
every_moment_from_throughout P old new added goes all = record {
  added = added;
  goes_on = goes;
  each = λ moment image since leaves.
      let from_old : LeavesFrom (held_first old) new.calls moment image = subst (λ (held : Held). LeavesFrom held new.calls moment image) (held_first-goes_on old new added goes) leaves in
      let joined : LeavesFrom (held_first old) (old.calls ++ added) moment image = subst (λ (calls : List Call). LeavesFrom (held_first old) calls moment image) goes.calls from_old in
      since_from_throughout P (held_first old) old.calls added all moment image since joined;
}

-- call by call, from every moment
pub throughout_from_every_moment : (P : Image → Type 0) (old new : Told) → (every : EveryMoment old new P) → Throughout (held_now old) every.added P
throughout_from_every_moment P old new every =
    throughout_from_since P (held_first old) old.calls every.added (λ moment image since leaves.
    let from_new : LeavesFrom (held_first new) (old.calls ++ every.added) moment image = subst (λ (held : Held). LeavesFrom held (old.calls ++ every.added) moment image) (sym (held_first-goes_on old new every.added every.goes_on)) leaves in
    let whole : LeavesFrom (held_first new) new.calls moment image = subst (λ (calls : List Call). LeavesFrom (held_first new) calls moment image) (sym every.goes_on.calls) from_new in
    every.each moment image since whole)

-- calls one after another, call by call
pub Throughout-append : (P : Image → Type 0) (held : Held) (xs ys : List Call) → Throughout held xs P → Throughout (after_calls held xs) ys P → Throughout held (xs ++ ys) P
Throughout-append P held [] ys first second = second
Throughout-append P held (x ∷ xs) ys first second =
    (first.0, first.1, Throughout-append P (after_call held x) xs ys first.2 second)

-- what follows from P, call by call
pub Throughout-weaker : (P Q : Image → Type 0) (held : Held) (calls : List Call) → ((image : Image) → P image → Q image) → Throughout held calls P → Throughout held calls Q
Throughout-weaker P Q held [] weaker all = λ image leaves. weaker image (all image leaves)
Throughout-weaker P Q held (call ∷ calls) weaker all =
    (λ image leaves. weaker image (all.0 image leaves), λ image leaves. weaker image (all.1 image leaves), Throughout-weaker P Q (after_call held call) calls weaker all.2)

-- the moments of two stretches, one after the other
pub EveryMoment-joins : (P : Image → Type 0) (old mid new : Told) → EveryMoment old mid P → EveryMoment mid new P → EveryMoment old new P
EveryMoment-joins P old mid new first second =
    every_moment_from_throughout P old new (first.added ++ second.added) (GoesOn-joins old mid new first.added second.added first.goes_on second.goes_on)
    (Throughout-append P (held_now old) first.added second.added (throughout_from_every_moment P old mid first)
    (subst (λ (held : Held). Throughout held second.added P) (held_now-goes_on old mid first.added first.goes_on) (throughout_from_every_moment P mid new second)))

-- what follows from P, at every moment
pub EveryMoment-weaker : (P Q : Image → Type 0) (old new : Told) → ((image : Image) → P image → Q image) → EveryMoment old new P → EveryMoment old new Q
EveryMoment-weaker P Q old new weaker every = record {
  added = every.added;
  goes_on = every.goes_on;
  each = λ moment image since leaves. weaker image (every.each moment image since leaves);
}

-- no call: what a crash may leave now
pub EveryMoment-same : (P : Image → Type 0) (told : Told) → ((image : Image) → Leaves (held_now told) image → P image) → EveryMoment told told P
EveryMoment-same P told now = every_moment_from_throughout P told told [] (GoesOn-same told) now

-- the two forms of the same, where the calls since are known
pub throughout_from_every_moment_of : (P : Image → Type 0) (old new : Told) (added : List Call) → GoesOn old new added → EveryMoment old new P → Throughout (held_now old) added P
throughout_from_every_moment_of P old new added goes every =
    let same : every.added ≡ added = append_cancel_left old.calls every.added added (sym every.goes_on.calls ∙ goes.calls) in
    subst (λ (calls : List Call). Throughout (held_now old) calls P) same (throughout_from_every_moment P old new every)

-- one call: before it, while it runs and after it
pub EveryMoment-call : (P : Image → Type 0) (old new : Told) (ok : Bool) (call : Call) → Continues (Some old) (Some new) ok call → ((image : Image) → Leaves (held_now old) image → P image) → ((image : Image) → Leaves (during_call (held_now old) call) image → P image) → ((image : Image) → Leaves (after_call (held_now old) call) image → P image) → EveryMoment old new P
EveryMoment-call P old new true call goes before during after =
    every_moment_from_throughout P old new (call ∷ []) goes (before, during, after)
EveryMoment-call P old new false call goes before during after =
    elim goes [ inl goes ↦ every_moment_from_throughout P old new (call ∷ []) goes (before, during, after) | inr same ↦ every_moment_from_throughout P old new [] same before ]

-- the moments of two stretches, where they are told
pub AtEveryMoment-joins : (P : Image → Type 0) (old mid new : Option Told) → AtEveryMoment old mid P → AtEveryMoment mid new P → AtEveryMoment old new P
AtEveryMoment-joins P None None None first second = tt
AtEveryMoment-joins P None None (Some new) first second = second
AtEveryMoment-joins P None (Some mid) new first second = absurd first
AtEveryMoment-joins P (Some old) None new first second = absurd first
AtEveryMoment-joins P (Some old) (Some mid) None first second = second
AtEveryMoment-joins P (Some old) (Some mid) (Some new) first second = EveryMoment-joins P old mid new first second

-- what follows from P, where the moments are told
pub AtEveryMoment-weaker : (P Q : Image → Type 0) (old new : Option Told) → ((image : Image) → P image → Q image) → AtEveryMoment old new P → AtEveryMoment old new Q
AtEveryMoment-weaker P Q None None weaker every = tt
AtEveryMoment-weaker P Q None (Some new) weaker every = every
AtEveryMoment-weaker P Q (Some old) None weaker every = every
AtEveryMoment-weaker P Q (Some old) (Some new) weaker every = EveryMoment-weaker P Q old new weaker every

-- no call, where the moments are told
pub AtEveryMoment-same : (P : Image → Type 0) (told : Option Told) → IfTold told (λ old. (image : Image) → Leaves (held_now old) image → P image) → AtEveryMoment told told P
AtEveryMoment-same P None now = tt
AtEveryMoment-same P (Some told) now = EveryMoment-same P told now

-- reading another block than the one that was set
pub slice_get-set_other : {A : Type 0} (xs : List A) (i j : ℕ) (x : A) → j ≢ i → slice_get (slice_set xs i x) j ≡ slice_get xs j
slice_get-set_other [] i j x other = refl
slice_get-set_other (y ∷ ys) zero zero x other = absurd (other refl)
slice_get-set_other (y ∷ ys) zero (suc j) x other = refl
slice_get-set_other (y ∷ ys) (suc i) zero x other = refl
slice_get-set_other (y ∷ ys) (suc i) (suc j) x other = slice_get-set_other ys i j x (λ same. other (ap suc same))

-- reading the block that was set
pub slice_get-set_same : {A : Type 0} (xs : List A) (i : ℕ) (x : A) → i < length xs → slice_get (slice_set xs i x) i ≡ Some x
slice_get-set_same [] i x within = absurd (omega (arith, within))
slice_get-set_same (y ∷ ys) zero x within = refl
slice_get-set_same (y ∷ ys) (suc i) x within = slice_get-set_same ys i x (omega (arith, within))

-- a list with one more element in front
pub Contains-cons_cases : {A : Type 0} (y : A) (ys : List A) (x : A) → Contains (y ∷ ys) x → (y ≡ x) ⊎ Contains ys x
Contains-cons_cases y ys x (zero, within, same) = inl same
Contains-cons_cases y ys x (suc k, within, same) = inr (k, omega (arith, within), same)

-- a list with one element
pub Contains-single : {A : Type 0} (y x : A) → Contains (y ∷ []) x → x ≡ y
Contains-single y x (zero, within, same) = sym same
Contains-single y x (suc k, within, same) = absurd (omega (arith, within))

-- no element is in the empty list
pub Contains-none : {A : Type 0} (x : A) → Contains [] x → ⊥
Contains-none x (k, within, same) = absurd (omega (arith, within))

-- after a flush nothing is pending
unsettled_after_flush : (held : Held) (ok : Bool) (at : ℕ) → IsUnsettled (after_call held (Call.Flush ok)) at → Contains (after_call held (Call.Flush ok)).lost at
unsettled_after_flush held ok at (inl pending) = absurd (Contains-none at pending)
unsettled_after_flush held ok at (inr lost) = lost

-- after a flush that answered Ok, a crash leaves what a read gives, in every block but the superblock and the lost ones
pub leaves_after_flush : (old new : Told) (image : Image) → GoesOn old new (Call.Flush true ∷ []) → Leaves (held_now new) image → (at : ℕ) → at ≢ 16 → (Contains (held_now new).lost at → ⊥)
    → slice_get image at ≡ slice_get (image_now new) at
leaves_after_flush old new image goes leaves at other kept =
    let same : held_now new ≡ after_call (held_now old) (Call.Flush true) = held_now-goes_on old new (Call.Flush true ∷ []) goes in
    leaves.others at other (λ is. kept (subst (λ (held : Held). Contains held.lost at) (sym same) (unsettled_after_flush (held_now old) true at (subst (λ (held : Held). IsUnsettled held at) same is))))

-- a call that writes no superblock leaves those that a crash may find
supers-after_calls : (held : Held) (calls : List Call) → HasNoSuper calls → (after_calls held calls).supers ≡ held.supers
supers-after_calls held [] none = refl
supers-after_calls held (Call.Write at bytes ok left ∷ calls) none = supers-after_calls (after_call held (Call.Write at bytes ok left)) calls none
supers-after_calls held (Call.Super bytes ok left ∷ calls) none = absurd none
supers-after_calls held (Call.Flush ok ∷ calls) none = supers-after_calls (after_call held (Call.Flush ok)) calls none

-- the superblock of an image
abbrev HasSuper : List ℕ → Image → Type 0
HasSuper bytes image = slice_index_or image 16 [] ≡ bytes

leaves-super : (held : Held) (bytes : List ℕ) (image : Image) → held.supers ≡ bytes ∷ [] → Leaves held image → HasSuper bytes image
leaves-super held bytes image only leaves =
    Contains-single bytes (slice_index_or image 16 []) (subst (λ (supers : List (List ℕ)). Contains supers (slice_index_or image 16 [])) only leaves.super)

Throughout-super : (held : Held) (bytes : List ℕ) (calls : List Call) → held.supers ≡ bytes ∷ [] → HasNoSuper calls → Throughout held calls (HasSuper bytes)
Throughout-super held bytes [] only none = λ image leaves. leaves-super held bytes image only leaves
Throughout-super held bytes (Call.Write at data_ ok left ∷ calls) only none = (
  λ image leaves. leaves-super held bytes image only leaves,
  λ image leaves. leaves-super (during_call held (Call.Write at data_ ok left)) bytes image only leaves,
  Throughout-super (after_call held (Call.Write at data_ ok left)) bytes calls only none,
)
Throughout-super held bytes (Call.Super data_ ok left ∷ calls) only none = absurd none
Throughout-super held bytes (Call.Flush ok ∷ calls) only none = (
  λ image leaves. leaves-super held bytes image only leaves,
  λ image leaves. leaves-super held bytes image only leaves,
  Throughout-super (after_call held (Call.Flush ok)) bytes calls only none,
)

-- After a write of the superblock that answered Ok, and until the next such write, a crash finds these bytes.
pub super_after_ok : (old mid new : Told) (bytes left : List ℕ) (calls : List Call) → GoesOn old mid (Call.Super bytes true left ∷ []) → GoesOn mid new calls → HasNoSuper calls → EveryMoment mid new (HasSuper bytes)
super_after_ok old mid new bytes left calls wrote goes none =
    every_moment_from_throughout (HasSuper bytes) mid new calls goes
    (Throughout-super (held_now mid) bytes calls (ap (λ (held : Held). held.supers) (held_now-goes_on old mid (Call.Super bytes true left ∷ []) wrote)) none)

-- an element of a list is one where another stands in front
pub Contains-there : {A : Type 0} (y : A) (xs : List A) (x : A) → Contains xs x → Contains (y ∷ xs) x
Contains-there y xs x (k, within, same) = (suc k, omega (arith, within), same)

-- the element in front
pub Contains-here : {A : Type 0} (x : A) (xs : List A) → Contains (x ∷ xs) x
Contains-here x xs = (zero, omega arith, refl)

-- a number of those without one is one of them
pub without-less : (at : ℕ) (numbers : List ℕ) (k : ℕ) → Contains (without at numbers) k → Contains numbers k
without-less at [] k among = among
without-less at (n ∷ ns) k among = tested (n == at) (without-less at ns k) among
  where
    tested : (is : Bool) → (Contains (without at ns) k → Contains ns k) → Contains (cond is (without at ns) (n ∷ without at ns)) k → Contains (n ∷ ns) k
    tested true rest among = Contains-there n ns k (rest among)
    tested false rest among = elim (Contains-cons_cases n (without at ns) k among) [
      | inl same ↦ subst (Contains (n ∷ ns)) same (Contains-here n ns)
      | inr there ↦ Contains-there n ns k (rest there)
    ]

-- that one isn't
pub without-none : (at : ℕ) (numbers : List ℕ) → Contains (without at numbers) at → ⊥
without-none at [] among = Contains-none at among
without-none at (n ∷ ns) among = tested (n == at) refl (without-none at ns) among
  where
    tested : (is : Bool) → (n == at) ≡ is → (Contains (without at ns) at → ⊥) → Contains (cond is (without at ns) (n ∷ without at ns)) at → ⊥
    tested true eq rest among = rest among
    tested false eq rest among = elim (Contains-cons_cases n (without at ns) at among) [
      | inl same ↦ eqb-false n at eq same
      | inr there ↦ rest there
    ]

-- each other one is
pub without-other : (at : ℕ) (numbers : List ℕ) (k : ℕ) → k ≢ at → Contains numbers k → Contains (without at numbers) k
without-other at [] k other among = among
without-other at (n ∷ ns) k other among = tested (n == at) refl (without-other at ns k other)
  where
    tested : (is : Bool) → (n == at) ≡ is → (Contains ns k → Contains (without at ns) k) → Contains (cond is (without at ns) (n ∷ without at ns)) k
    tested true eq rest = elim (Contains-cons_cases n ns k among) [
      | inl same ↦ absurd (other (sym same ∙ eqb-true n at eq))
      | inr there ↦ rest there
    ]
    tested false eq rest = elim (Contains-cons_cases n ns k among) [
      | inl same ↦ subst (Contains (n ∷ without at ns)) same (Contains-here n (without at ns))
      | inr there ↦ Contains-there n (without at ns) k (rest there)
    ]

-- a block that is lost after a write was lost before
pub lost_before : (at : ℕ) (ok : Bool) (lost : List ℕ) (k : ℕ) → Contains (lost_after at ok lost) k → Contains lost k
lost_before at true lost k among = without-less at lost k among
lost_before at false lost k among = among

-- a block that isn't written is settled after a write where it was before
settled-write : (held : Held) (at : ℕ) (bytes : List ℕ) (ok : Bool) (left : List ℕ) (block : ℕ) → at ≢ block → (IsUnsettled held block → ⊥) → IsUnsettled (after_call held (Call.Write at bytes ok left)) block → ⊥
settled-write held at bytes ok left block other settled (inl pending) =
    elim (Contains-cons_cases at held.pending block pending) [ inl same ↦ other same | inr among ↦ settled (inl among) ]
settled-write held at bytes ok left block other settled (inr lost) = settled (inr (lost_before at ok held.lost block lost))

-- the same while the write runs
pub settled-writing : (held : Held) (at : ℕ) (bytes : List ℕ) (ok : Bool) (left : List ℕ) (block : ℕ) → at ≢ block → (IsUnsettled held block → ⊥) → IsUnsettled (during_call held (Call.Write at bytes ok left)) block → ⊥
settled-writing held at bytes ok left block other settled (inl pending) =
    elim (Contains-cons_cases at held.pending block pending) [ inl same ↦ other same | inr among ↦ settled (inl among) ]
settled-writing held at bytes ok left block other settled (inr lost) = settled (inr lost)

-- a settled block stays so over a flush, also over one that fails
settled-flush : (held : Held) (ok : Bool) (block : ℕ) → (IsUnsettled held block → ⊥) → IsUnsettled (after_call held (Call.Flush ok)) block → ⊥
settled-flush held ok block settled (inl pending) = Contains-none block pending
settled-flush held true block settled (inr lost) = settled (inr lost)
settled-flush held false block settled (inr lost) =
    settled (Contains-append_cases held.pending held.lost block lost)

-- A settled block that no call writes stays, call by call.
pub Throughout-stays : (held : Held) (calls : List Call) (block : ℕ) (was : Option (List ℕ)) → slice_get held.image block ≡ was → block ≢ 16 → (IsUnsettled held block → ⊥) → (Writes calls block → ⊥) → Throughout held calls (λ image. slice_get image block ≡ was)
Throughout-stays held [] block was is other settled unwritten = λ image leaves. leaves.others block other settled ∙ is
Throughout-stays held (Call.Write at bytes ok left ∷ calls) block was is other settled unwritten =
    let apart : at ≢ block = λ same. unwritten (inl same) in (
      λ image leaves. leaves.others block other settled ∙ is,
      λ image leaves. leaves.others block other (settled-writing held at bytes ok left block apart settled) ∙ is,
      Throughout-stays (after_call held (Call.Write at bytes ok left)) calls block was
          (slice_get-set_other held.image at block left (λ same. apart (sym same)) ∙ is) other (settled-write held at bytes ok left block apart settled) (λ written. unwritten (inr written)),
    )
Throughout-stays held (Call.Super bytes ok left ∷ calls) block was is other settled unwritten = (
  λ image leaves. leaves.others block other settled ∙ is,
  λ image leaves. leaves.others block other settled ∙ is,
  Throughout-stays (after_call held (Call.Super bytes ok left)) calls block was (slice_get-set_other held.image 16 block left other ∙ is) other settled unwritten,
)
Throughout-stays held (Call.Flush ok ∷ calls) block was is other settled unwritten = (
  λ image leaves. leaves.others block other settled ∙ is,
  λ image leaves. leaves.others block other settled ∙ is,
  Throughout-stays (after_call held (Call.Flush ok)) calls block was is other (settled-flush held ok block settled) unwritten,
)

-- A settled block that no call writes stays, at every moment.
pub EveryMoment-stays : (old new : Told) (calls : List Call) (block : ℕ) → GoesOn old new calls → block ≢ 16 → (IsUnsettled (held_now old) block → ⊥) → (Writes calls block → ⊥) → EveryMoment old new (λ image. slice_get image block ≡ slice_get (image_now old) block)
EveryMoment-stays old new calls block goes other settled unwritten =
    every_moment_from_throughout (λ image. slice_get image block ≡ slice_get (image_now old) block) old new calls goes
    (Throughout-stays (held_now old) calls block (slice_get (image_now old) block) refl other settled unwritten)

-- what a crash may leave, it may leave where fewer blocks are settled and more superblocks may be found
pub Leaves-wider : (less more : Held) (image : Image) → length more.image ≡ length less.image → ((at : ℕ) → at ≢ 16 → (IsUnsettled more at → ⊥) → slice_get more.image at ≡ slice_get less.image at) → ((at : ℕ) → IsUnsettled less at → IsUnsettled more at) → ((super : List ℕ) → Contains less.supers super → Contains more.supers super) → Leaves less image → Leaves more image
Leaves-wider less more image size same unsettled supers leaves = record {
  blocks = leaves.blocks;
  size = leaves.size ∙ sym size;
  super = supers (slice_index_or image 16 []) leaves.super;
  others = λ at other settled. leaves.others at other (λ is. settled (unsettled at is)) ∙ sym (same at other settled);
}

-- a block that is unsettled before a write of another is so while it runs
unsettled-writing : (held : Held) (at : ℕ) (bytes : List ℕ) (ok : Bool) (left : List ℕ) (k : ℕ) → IsUnsettled held k → IsUnsettled (during_call held (Call.Write at bytes ok left)) k
unsettled-writing held at bytes ok left k (inl pending) = inl (Contains-there at held.pending k pending)
unsettled-writing held at bytes ok left k (inr lost) = inr lost

-- and one that is unsettled after a write was so while it ran
unsettled-written : (held : Held) (at : ℕ) (bytes : List ℕ) (ok : Bool) (left : List ℕ) (k : ℕ) → IsUnsettled (after_call held (Call.Write at bytes ok left)) k → IsUnsettled (during_call held (Call.Write at bytes ok left)) k
unsettled-written held at bytes ok left k (inl pending) = inl pending
unsettled-written held at bytes ok left k (inr lost) = inr (lost_before at ok held.lost k lost)

-- one that is unsettled after a flush was so before
unsettled-flushed : (held : Held) (ok : Bool) (k : ℕ) → IsUnsettled (after_call held (Call.Flush ok)) k → IsUnsettled held k
unsettled-flushed held ok k (inl pending) = absurd (Contains-none k pending)
unsettled-flushed held true k (inr lost) = inr lost
unsettled-flushed held false k (inr lost) = Contains-append_cases held.pending held.lost k lost

-- what a crash may leave before a call, it may leave while the call runs
pub Leaves-before : (held : Held) (call : Call) (image : Image) → Leaves held image → Leaves (during_call held call) image
Leaves-before held (Call.Write at bytes ok left) image leaves =
    Leaves-wider held (during_call held (Call.Write at bytes ok left)) image refl (λ k other settled. refl) (unsettled-writing held at bytes ok left) (λ super found. found) leaves
Leaves-before held (Call.Super bytes ok left) image leaves =
    Leaves-wider held (during_call held (Call.Super bytes ok left)) image refl (λ k other settled. refl) (λ k is. is) (λ super. Contains-there bytes held.supers super) leaves
Leaves-before held (Call.Flush ok) image leaves = leaves

-- what a crash may leave after a call, it may leave while the call runs
pub Leaves-after : (held : Held) (call : Call) (image : Image) → Leaves (after_call held call) image → Leaves (during_call held call) image
Leaves-after held (Call.Write at bytes ok left) image leaves =
    Leaves-wider (after_call held (Call.Write at bytes ok left)) (during_call held (Call.Write at bytes ok left)) image (sym (length-set held.image at left))
    (λ k other settled. sym (slice_get-set_other held.image at k left (λ same. settled (inl (subst (Contains (at ∷ held.pending)) (sym same) (Contains-here at held.pending))))))
    (unsettled-written held at bytes ok left) (λ super found. found) leaves
Leaves-after held (Call.Super bytes true left) image leaves =
    Leaves-wider (after_call held (Call.Super bytes true left)) (during_call held (Call.Super bytes true left)) image (sym (length-set held.image 16 left))
    (λ k other settled. sym (slice_get-set_other held.image 16 k left other))
    (λ k is. is) (λ super found. subst (Contains (bytes ∷ held.supers)) (sym (Contains-single bytes super found)) (Contains-here bytes held.supers)) leaves
Leaves-after held (Call.Super bytes false left) image leaves =
    Leaves-wider (after_call held (Call.Super bytes false left)) (during_call held (Call.Super bytes false left)) image (sym (length-set held.image 16 left))
    (λ k other settled. sym (slice_get-set_other held.image 16 k left other))
    (λ k is. is) (λ super found. found) leaves
Leaves-after held (Call.Flush ok) image leaves =
    Leaves-wider (after_call held (Call.Flush ok)) held image refl (λ k other settled. refl) (unsettled-flushed held ok) (λ super found. found) leaves

-- one call: what holds of each image that a crash may leave while it runs holds at every moment of it
pub EveryMoment-one_call : (P : Image → Type 0) (old new : Told) (ok : Bool) (call : Call) → Continues (Some old) (Some new) ok call → ((image : Image) → Leaves (during_call (held_now old) call) image → P image) → EveryMoment old new P
EveryMoment-one_call P old new ok call goes during =
    EveryMoment-call P old new ok call goes
    (λ image leaves. during image (Leaves-before (held_now old) call image leaves))
    during
    (λ image leaves. during image (Leaves-after (held_now old) call image leaves))

-- the same, where the moments are told
pub AtEveryMoment-one_call : (P : Image → Type 0) (old new : Option Told) (ok : Bool) (call : Call) → Continues old new ok call → IfTold old (λ told. (image : Image) → Leaves (during_call (held_now told) call) image → P image) → AtEveryMoment old new P
AtEveryMoment-one_call P None None ok call goes during = tt
AtEveryMoment-one_call P None (Some new) true call goes during = absurd goes
AtEveryMoment-one_call P None (Some new) false call goes during = absurd goes
AtEveryMoment-one_call P (Some old) None true call goes during = absurd goes
AtEveryMoment-one_call P (Some old) None false call goes during = absurd goes
AtEveryMoment-one_call P (Some old) (Some new) ok call goes during = EveryMoment-one_call P old new ok call goes during

-- ---- what calls settle

-- a block reads as these bytes, and isn't lost
record IsKept (held : Held) (block : ℕ) (bytes : List ℕ) : Type 0 where
  is : slice_get held.image block ≡ Some bytes
  kept : Contains held.lost block → ⊥

kept-unflushed : (held : Held) (calls : List Call) (block : ℕ) (bytes : List ℕ) → block ≢ 16 → HasNoFlush calls → (Writes calls block → ⊥) → IsKept held block bytes → IsKept (after_calls held calls) block bytes
kept-unflushed held [] block bytes other none unwritten kept = kept
kept-unflushed held (Call.Write at data_ ok left ∷ calls) block bytes other none unwritten kept =
    kept-unflushed (after_call held (Call.Write at data_ ok left)) calls block bytes other none (λ later. unwritten (inr later)) (record {
      is = slice_get-set_other held.image at block left (λ same. unwritten (inl (sym same))) ∙ kept.is;
      kept = λ lost. kept.kept (lost_before at ok held.lost block lost);
    })
kept-unflushed held (Call.Super data_ ok left ∷ calls) block bytes other none unwritten kept =
    kept-unflushed (after_call held (Call.Super data_ ok left)) calls block bytes other none unwritten (record {
      is = slice_get-set_other held.image 16 block left other ∙ kept.is;
      kept = kept.kept;
    })
kept-unflushed held (Call.Flush ok ∷ calls) block bytes other none unwritten kept = absurd none

-- a block reads as these bytes, and is settled
record IsSettled (held : Held) (block : ℕ) (bytes : List ℕ) : Type 0 where
  is : slice_get held.image block ≡ Some bytes
  settled : IsUnsettled held block → ⊥

settled-stays : (held : Held) (calls : List Call) (block : ℕ) (bytes : List ℕ) → block ≢ 16 → (Writes calls block → ⊥) → IsSettled held block bytes → IsSettled (after_calls held calls) block bytes
settled-stays held [] block bytes other unwritten settled = settled
settled-stays held (Call.Write at data_ ok left ∷ calls) block bytes other unwritten settled =
    settled-stays (after_call held (Call.Write at data_ ok left)) calls block bytes other (λ later. unwritten (inr later)) (record {
      is = slice_get-set_other held.image at block left (λ same. unwritten (inl (sym same))) ∙ settled.is;
      settled = settled-write held at data_ ok left block (λ same. unwritten (inl same)) settled.settled;
    })
settled-stays held (Call.Super data_ ok left ∷ calls) block bytes other unwritten settled =
    settled-stays (after_call held (Call.Super data_ ok left)) calls block bytes other unwritten (record {
      is = slice_get-set_other held.image 16 block left other ∙ settled.is;
      settled = settled.settled;
    })
settled-stays held (Call.Flush ok ∷ calls) block bytes other unwritten settled =
    settled-stays (after_call held (Call.Flush ok)) calls block bytes other unwritten (record { is = settled.is; settled = settled-flush held ok block settled.settled })

-- the number of blocks stays
after_call-length : (held : Held) (call : Call) → length (after_call held call).image ≡ length held.image
after_call-length held (Call.Write at bytes ok left) = length-set held.image at left
after_call-length held (Call.Super bytes ok left) = length-set held.image 16 left
after_call-length held (Call.Flush ok) = refl

pub after_calls-length : (held : Held) (calls : List Call) → length (after_calls held calls).image ≡ length held.image
after_calls-length held [] = refl
after_calls-length held (call ∷ calls) = after_calls-length (after_call held call) calls ∙ after_call-length held call

-- calls settle a block as they say
settled_by : (held : Held) (calls : List Call) (block : ℕ) (bytes : List ℕ) → block ≢ 16 → block < length held.image → Settles calls block bytes → IsSettled (after_calls held calls) block bytes
settled_by held calls block bytes other within by =
    let start : Held = after_calls held by.before in
    let wrote : Held = after_call start (Call.Write block bytes true bytes) in
    let flushed : Held = after_calls wrote by.between in
    let begun : IsKept wrote block bytes = record {
      is = slice_get-set_same start.image block bytes (omega (arith, within, after_calls-length held by.before));
      kept = λ lost. without-none block start.lost lost;
    } in
    let kept : IsKept flushed block bytes = kept-unflushed wrote by.between block bytes other by.unflushed by.unwritten_before begun in
    let settled : IsSettled (after_call flushed (Call.Flush true)) block bytes = record { is = kept.is; settled = λ is. kept.kept (unsettled_after_flush flushed true block is) } in
    let whole : after_calls held calls ≡ after_calls (after_call flushed (Call.Flush true)) by.after = ap (λ (all : List Call). after_calls held all) by.are
    ∙ after_calls-append held by.before (Call.Write block bytes true bytes ∷ (by.between ++ Call.Flush true ∷ by.after))
    ∙ after_calls-append wrote by.between (Call.Flush true ∷ by.after) in
    subst (λ (now : Held). IsSettled now block bytes) (sym whole) (settled-stays (after_call flushed (Call.Flush true)) by.after block bytes other by.unwritten_after settled)

-- A block that calls settled, and that no later call writes, has its bytes at every later moment.
pub EveryMoment-settled : (old mid new : Told) (calls later_calls : List Call) (block : ℕ) (bytes : List ℕ) → GoesOn old mid calls → GoesOn mid new later_calls → Settles calls block bytes → (Writes later_calls block → ⊥) → block ≢ 16 → block < length (image_now old)
    → EveryMoment mid new (λ image. slice_get image block ≡ Some bytes)
EveryMoment-settled old mid new calls later_calls block bytes goes more by unwritten other within =
    let now : IsSettled (held_now mid) block bytes = subst (λ (held : Held). IsSettled held block bytes) (sym (held_now-goes_on old mid calls goes)) (settled_by (held_now old) calls block bytes other within by) in
    every_moment_from_throughout (λ image. slice_get image block ≡ Some bytes) mid new later_calls more
    (Throughout-stays (held_now mid) later_calls block (Some bytes) now.is other now.settled unwritten)

-- ---- what a failed flush loses

lost-stays : (held : Held) (calls : List Call) (block : ℕ) → (Writes calls block → ⊥) → Contains held.lost block → Contains (after_calls held calls).lost block
lost-stays held [] block unwritten lost = lost
lost-stays held (Call.Write at bytes true left ∷ calls) block unwritten lost =
    lost-stays (after_call held (Call.Write at bytes true left)) calls block (λ later. unwritten (inr later)) (without-other at held.lost block (λ same. unwritten (inl (sym same))) lost)
lost-stays held (Call.Write at bytes false left ∷ calls) block unwritten lost =
    lost-stays (after_call held (Call.Write at bytes false left)) calls block (λ later. unwritten (inr later)) lost
lost-stays held (Call.Super bytes ok left ∷ calls) block unwritten lost = lost-stays (after_call held (Call.Super bytes ok left)) calls block unwritten lost
lost-stays held (Call.Flush true ∷ calls) block unwritten lost = lost-stays (after_call held (Call.Flush true)) calls block unwritten lost
lost-stays held (Call.Flush false ∷ calls) block unwritten lost =
    lost-stays (after_call held (Call.Flush false)) calls block unwritten (Contains-append_right held.pending held.lost block lost)

-- What was pending at a failed flush is lost until it is written again, whatever other calls answer.
pub lost_after_flush : (old mid new : Told) (calls : List Call) (block : ℕ) → GoesOn old mid (Call.Flush false ∷ []) → GoesOn mid new calls → (Writes calls block → ⊥) → Contains (held_now old).pending block → Contains (held_now new).lost block
lost_after_flush old mid new calls block failed goes unwritten pending =
    let now : Contains (held_now mid).lost block = subst (λ (held : Held). Contains held.lost block) (sym (held_now-goes_on old mid (Call.Flush false ∷ []) failed)) (Contains-append_left (held_now old).pending (held_now old).lost block pending) in
    subst (λ (held : Held). Contains held.lost block) (sym (held_now-goes_on mid new calls goes)) (lost-stays (held_now mid) calls block unwritten now)

-- what a read of any block gives
pub known_read : (seen : Option Image) (lost : List ℕ) (block : ℕ) (bytes : List ℕ) → ReadGives seen lost block bytes → IfTold (known seen lost) (λ image. slice_get image block ≡ Some bytes)
known_read None [] block bytes gives = tt
known_read (Some image) [] block bytes gives = gives (Contains-none block)
known_read seen (at ∷ lost) block bytes gives = tt

-- what holds of what a read gives holds where no block is lost
pub known_told : (seen : Option Image) (lost : List ℕ) (P : Image → Type 0) → IfTold seen P → IfTold (known seen lost) P
known_told seen [] P holds = holds
known_told seen (at ∷ lost) P holds = tt

-- what a read gives stays
pub known_same : (before after : Option Image) (lost lost' : List ℕ) → after ≡ before → lost' ≡ lost → known after lost' ≡ known before lost
known_same before after lost lost' seen same = ap (λ (image : Option Image). known image lost') seen ∙ ap (known before) same

-- what a read of any block gives, where the record is told and no block is lost
pub known_as_told : (seen : Option Image) (lost : List ℕ) (told : Option Told) → IfTold told (λ record_. seen ≡ Some (image_now record_)) → IfTold told (λ record_. lost ≡ (held_now record_).lost)
    → IfTold told (λ record_. (held_now record_).lost ≡ [] → known seen lost ≡ Some (image_now record_))
known_as_told seen lost None reads same = tt
known_as_told seen lost (Some told) reads same = λ none. ap (known seen) (same ∙ none) ∙ reads
