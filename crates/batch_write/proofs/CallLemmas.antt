-- Which calls a batch makes, and which blocks are lost after them.
use Rattle.std.proofs.Common.{◌≡◌, ◌+◌, ◌/◌, ◌++◌, ◌∷◌, [], ℕ, suc, List, take, drop, map, Contains, Option, Some, None, Bool, true, false, Result, Ok, Err, OnErr, IsErrOf, is_ok, refl, sym, ◌∙◌, ap, subst, inl, inr, append_assoc, append-nil, arith}
use Rattle.std.proofs.Math.Seq.{drop-cons}
use Rattle.std.proofs.lemmas.List.{map-append, map_more, take-append-drop, take_all}
use Rattle.std.proofs.lemmas.List.Elements.{Contains-append_cases}
use Rattle.disk_model.specs.Disk.{Image, Call, Told, IfBoth, TellsMore, Continues, GoesOn, GoesOnUntil, IsCutOff, as_failed, without, written, super_written}
use Rattle.disk_model.proofs.CrashLaws.{Contains-none, Contains-single, GoesOn-joins, GoesOn-same, TellsMore-joins, without-less, without-none}
use Rattle.batch_write.specs.Batch.{AtBlock, Regained, numbers_of, super_call, write_call}
use Rattle.batch_write.proofs.ImageLemmas.{IsNext}

-- no call yet
pub calls_begin : (batch : List AtBlock) (told : Option Told) → TellsMore told told (map write_call (take 0 batch))
calls_begin batch None = tt
calls_begin batch (Some told) = GoesOn-same told

-- the write of one block more
pub calls_go_on : (batch : List AtBlock) (k : ℕ) (item : AtBlock) (before now new : Option Told) → IsNext batch k item → TellsMore before now (map write_call (take k batch))
    → Continues now new true (write_call item) → TellsMore before new (map write_call (take (k + 1) batch))
calls_go_on batch k item before now new next so_far goes =
    let more : map write_call (take (k + 1) batch) ≡ map write_call (take k batch) ++ write_call item ∷ [] =
    map_more write_call batch k item next.within ∙ ap (λ (one : AtBlock). map write_call (take k batch) ++ write_call one ∷ []) next.is in
    subst (λ (calls : List Call). TellsMore before new calls) (sym more) (TellsMore-joins before now new (map write_call (take k batch)) (write_call item ∷ []) so_far goes)

-- a call that failed
pub until_failed : (before now new : Option Told) (done : List Call) (call : Call) (left : List ℕ) → TellsMore before now done → Continues now new false (as_failed call left)
    → IfBoth before new (λ old told. GoesOnUntil old told done call)
until_failed None None None done call left so_far goes = tt
until_failed None None (Some new) done call left so_far goes = absurd goes
until_failed None (Some now) new done call left so_far goes = absurd so_far
until_failed (Some old) None new done call left so_far goes = absurd so_far
until_failed (Some old) (Some now) None done call left so_far goes = absurd goes
until_failed (Some old) (Some now) (Some new) done call left so_far goes = elim goes [
  | inl one ↦ inl (left, GoesOn-joins old now new done (as_failed call left ∷ []) so_far one)
  | inr none ↦ inr (subst (λ (calls : List Call). GoesOn old new calls) (append-nil done) (GoesOn-joins old now new done [] so_far none))
]

-- it cuts off the calls of which it is one
pub cut_off : (before new : Option Told) (calls done : List Call) (call : Call) (rest : List Call) → calls ≡ done ++ call ∷ rest → IfBoth before new (λ old told. GoesOnUntil old told done call)
    → IfBoth before new (λ old told. IsCutOff old told calls)
cut_off None None calls done call rest are goes = tt
cut_off None (Some new) calls done call rest are goes = goes
cut_off (Some old) None calls done call rest are goes = goes
cut_off (Some old) (Some new) calls done call rest are goes = record { done = done; failed = call; rest = rest; are = are; goes_on = goes }

-- and those with more behind them
pub cut_off-longer : (before new : Option Told) (calls more : List Call) → IfBoth before new (λ old told. IsCutOff old told calls) → IfBoth before new (λ old told. IsCutOff old told (calls ++ more))
cut_off-longer None None calls more cut = tt
cut_off-longer None (Some new) calls more cut = cut
cut_off-longer (Some old) None calls more cut = cut
cut_off-longer (Some old) (Some new) calls more cut = record {
  done = cut.done;
  failed = cut.failed;
  rest = cut.rest ++ more;
  are = ap (λ (all : List Call). all ++ more) cut.are ∙ append_assoc cut.done (cut.failed ∷ cut.rest) more;
  goes_on = cut.goes_on;
}

-- the write of the next block failed
pub write_failed : (batch : List AtBlock) (k : ℕ) (item : AtBlock) (before now new : Option Told) (seen : Option Image) → IsNext batch k item → TellsMore before now (map write_call (take k batch))
    → Continues now new false (written (item.0.0 / 4096) item.1 false seen) → IfBoth before new (λ old told. IsCutOff old told (map write_call batch))
write_failed batch k item before now new seen next so_far goes =
    let split : batch ≡ take k batch ++ item ∷ drop (suc k) batch = sym (take-append-drop k batch) ∙ ap (λ (rest : List AtBlock). take k batch ++ rest) (drop-cons batch k item next.within)
    ∙ ap (λ (one : AtBlock). take k batch ++ one ∷ drop (suc k) batch) next.is in
    cut_off before new (map write_call batch) (map write_call (take k batch)) (write_call item) (map write_call (drop (suc k) batch))
    (ap (map write_call) split ∙ map-append write_call (take k batch) (item ∷ drop (suc k) batch))
    (until_failed before now new (map write_call (take k batch)) (write_call item) _ so_far goes)

-- all were written
pub calls_all : (batch : List AtBlock) (k : ℕ) (before now : Option Told) → take k batch ≡ batch → TellsMore before now (map write_call (take k batch)) → TellsMore before now (map write_call batch)
calls_all batch k before now all so_far = subst (λ (items : List AtBlock). TellsMore before now (map write_call items)) all so_far

-- no block was written yet
pub regained_begins : (batch : List AtBlock) (lost : List ℕ) → Regained (numbers_of (take 0 batch)) lost lost
regained_begins batch lost = record { fewer = λ at is. is; none = λ at among is. Contains-none at among }

-- one block more was written
pub regained_goes_on : (batch : List AtBlock) (k : ℕ) (item : AtBlock) (old now new : List ℕ) → IsNext batch k item → Regained (numbers_of (take k batch)) old now → new ≡ without (item.0.0 / 4096) now
    → Regained (numbers_of (take (k + 1) batch)) old new
regained_goes_on batch k item old now new next so_far is = record {
  fewer = λ at among. so_far.fewer at (less at among);
  none = λ at written lost. elim (Contains-append_cases (numbers_of (take k batch)) (here ∷ []) at (subst (λ (numbers : List ℕ). Contains numbers at) more written)) [
    | inl before ↦ so_far.none at before (less at lost)
    | inr one ↦ without-none here now (subst (λ (n : ℕ). Contains (without here now) n) (Contains-single here at one) (subst (λ (all : List ℕ). Contains all at) is lost))
  ];
}
  where
    here : ℕ
    here = item.0.0 / 4096

    less : (at : ℕ) → Contains new at → Contains now at
    less at among = without-less here now at (subst (λ (all : List ℕ). Contains all at) is among)

    more : numbers_of (take (k + 1) batch) ≡ numbers_of (take k batch) ++ here ∷ []
    more = let number : AtBlock → ℕ = λ one. one.0.0 / 4096 in
        map_more number batch k item next.within ∙ ap (λ (one : AtBlock). numbers_of (take k batch) ++ number one ∷ []) next.is

pub regained_all : (batch : List AtBlock) (k : ℕ) (old now : List ℕ) → take k batch ≡ batch → Regained (numbers_of (take k batch)) old now → Regained (numbers_of batch) old now
regained_all batch k old now all so_far = subst (λ (items : List AtBlock). Regained (numbers_of items) old now) all so_far

-- what holds in any case holds after a fault
pub to_on_err : {T E P : Type 0} (result : Result T E) → P → OnErr result P
to_on_err (Ok value) holds = tt
to_on_err (Err fault) holds = holds

-- the superblock's write after the batch, at Ok
pub super_told : (mid new : Option Told) (superblock : List ℕ) (ok : Bool) (seen : Option Image) → true ≡ ok → Continues mid new ok (super_written superblock ok seen) → TellsMore mid new (super_call superblock ∷ [])
super_told mid new superblock true seen is goes = goes
super_told mid new superblock false seen is goes = absurd (cc)

-- and where it failed
pub super_failed : {T E : Type 0} (before mid new : Option Told) (done : List Call) (superblock : List ℕ) (result : Result T E) (fault : E) (seen : Option Image) → IsErrOf result fault → TellsMore before mid done
    → Continues mid new (is_ok result) (super_written superblock (is_ok result) seen) → IfBoth before new (λ old told. GoesOnUntil old told done (super_call superblock))
super_failed before mid new done superblock (Ok value) fault seen failed so_far goes = absurd (cc)
super_failed before mid new done superblock (Err other) fault seen failed so_far goes = until_failed before mid new done (super_call superblock) _ so_far goes
