-- The writes of a commit's blocks and the flush behind them: they may come, and make the blocks durable.
use Rattle.std.proofs.Common.{◌≡◌, ◌<◌, ◌/◌, ℕ, true, false, List, [], ◌∷◌, ◌++◌, length, map, Some, Contains, refl, sym, ap, subst, ◌∙◌, arith, inl, inr}
use Rattle.std.specs.Prelude.{slice_get}
use Rattle.std.proofs.lemmas.List.{length-append, length-set}
use Rattle.blk_base.specs.Trees.{AtBlock, NoneTwice}
use Rattle.blk_base.proofs.Members.{in_head, in_tail}
use Rattle.disk_model.specs.Disk.{Call, Held, IsUnsettled, after_call, after_calls, as_failed}
use Rattle.disk_model.proofs.CrashLaws.{Contains-cons_cases, Contains-here, Contains-none, Contains-there, after_calls-append, lost_before, slice_get-set_other, slice_get-set_same, without-none}
use Rattle.batch_write.specs.Batch.{numbers_of, settle_calls, write_call}
use Rattle.commit_images.specs.Scene.{Mounted, Scene}
use Rattle.commit_core.specs.Coming.{numbered}
use Rattle.commit_device.proofs.Steps.{Goes, IsWritable, flush_goes, goes_none, goes_on, with_held, write_goes}

-- ---- they may come

-- each of these blocks may be written
abbrev pub AreWritable : Scene → List AtBlock → Type 0
AreWritable scene pairs = (block : ℕ × List ℕ) → Contains (numbered pairs) block → IsWritable scene block

one_goes : (mounted : Mounted) (scene : Scene) (held : Held) (pair : AtBlock) (pairs : List AtBlock) → AreWritable scene (pair ∷ pairs)
    → Goes mounted (with_held scene held) (with_held scene (after_call held (write_call pair))) (write_call pair ∷ [])
one_goes mounted scene held pair pairs may =
    write_goes mounted scene held (pair.0.0 / 4096) pair.1 true pair.1 (may (pair.0.0 / 4096, pair.1) (Contains-here (pair.0.0 / 4096, pair.1) (numbered pairs))) (λ _. refl)

rest_writable : (scene : Scene) (pair : AtBlock) (pairs : List AtBlock) → AreWritable scene (pair ∷ pairs) → AreWritable scene pairs
rest_writable scene pair pairs may = λ block c. may block (Contains-there (pair.0.0 / 4096, pair.1) (numbered pairs) block c)

-- the first calls were made, and the one behind them may fail
pub record AreCutOff (mounted : Mounted) (scene : Scene) (held : Held) (done : List Call) (failed : Call) : Type 0 where
  pub before : Goes mounted (with_held scene held) (with_held scene (after_calls held done)) done
  pub last : (left : List ℕ) → Goes mounted (with_held scene (after_calls held done)) (with_held scene (after_call (after_calls held done) (as_failed failed left))) (as_failed failed left ∷ [])

pub settle_goes : (mounted : Mounted) (scene : Scene) (held : Held) (pairs : List AtBlock) → AreWritable scene pairs
    → Goes mounted (with_held scene held) (with_held scene (after_calls held (settle_calls pairs))) (settle_calls pairs)
settle_goes mounted scene held [] may = flush_goes mounted scene held true
settle_goes mounted scene held (pair ∷ pairs) may =
    let next : Held = after_call held (write_call pair) in
    goes_on mounted (with_held scene held) (with_held scene next) (with_held scene (after_calls next (settle_calls pairs))) (write_call pair ∷ []) (settle_calls pairs)
    (one_goes mounted scene held pair pairs may) (settle_goes mounted scene next pairs (rest_writable scene pair pairs may))

-- ---- lists that are equal

abbrev head_or : {A : Type 0} → A → List A → A
head_or x [] = x
head_or x (y ∷ ys) = y

abbrev tail_of : {A : Type 0} → List A → List A
tail_of [] = []
tail_of (y ∷ ys) = ys

pub same_head : {A : Type 0} (x y : A) (xs ys : List A) → x ∷ xs ≡ y ∷ ys → x ≡ y
same_head x y xs ys e = ap (head_or x) e

pub same_tail : {A : Type 0} (x y : A) (xs ys : List A) → x ∷ xs ≡ y ∷ ys → xs ≡ ys
same_tail x y xs ys e = ap tail_of e

pub not_none : {A : Type 0} (x : A) (xs ys : List A) → [] ≡ xs ++ x ∷ ys → ⊥
not_none x xs ys e = omega (arith, ap length e, length-append xs (x ∷ ys))

-- ---- they are cut off

pub settle_cut : (mounted : Mounted) (scene : Scene) (held : Held) (pairs : List AtBlock) → AreWritable scene pairs → (done : List Call) (failed : Call) (rest : List Call)
    → settle_calls pairs ≡ done ++ failed ∷ rest → AreCutOff mounted scene held done failed
settle_cut mounted scene held [] may [] failed rest are =
    subst (AreCutOff mounted scene held []) (same_head (Call.Flush true) failed [] rest are)
    (record { before = goes_none mounted (with_held scene held); last = λ left. flush_goes mounted scene held false })
settle_cut mounted scene held [] may (call ∷ done) failed rest are = absurd (not_none failed done rest (same_tail (Call.Flush true) call [] (done ++ failed ∷ rest) are))
settle_cut mounted scene held (pair ∷ pairs) may [] failed rest are =
    subst (AreCutOff mounted scene held []) (same_head (write_call pair) failed (settle_calls pairs) rest are) (record {
      before = goes_none mounted (with_held scene held);
      last = λ left. write_goes mounted scene held (pair.0.0 / 4096) pair.1 false left (may (pair.0.0 / 4096, pair.1) (Contains-here (pair.0.0 / 4096, pair.1) (numbered pairs))) (λ ok. absurd (false_true ok));
    })
  where
    false_true : false ≡ true → ⊥
    false_true e = grind (arith, e)
settle_cut mounted scene held (pair ∷ pairs) may (call ∷ done) failed rest are =
    let next : Held = after_call held (write_call pair) in
    let later : AreCutOff mounted scene next done failed =
    settle_cut mounted scene next pairs (rest_writable scene pair pairs may) done failed rest (same_tail (write_call pair) call (settle_calls pairs) (done ++ failed ∷ rest) are) in
    subst (λ (first : Call). AreCutOff mounted scene held (first ∷ done) failed) (same_head (write_call pair) call (settle_calls pairs) (done ++ failed ∷ rest) are) (record {
      before = goes_on mounted (with_held scene held) (with_held scene next) (with_held scene (after_calls next done)) (write_call pair ∷ []) done
          (one_goes mounted scene held pair pairs may) later.before;
      last = later.last;
    })

-- ---- they make the blocks durable

-- the block reads so, and isn't lost
pub record IsKept (held : Held) (block : ℕ × List ℕ) : Type 0 where
  pub reads : slice_get held.image block.0 ≡ Some block.1
  pub kept : Contains held.lost block.0 → ⊥

writes_keep : (held : Held) (pairs : List AtBlock) (block : ℕ × List ℕ) → (Contains (numbers_of pairs) block.0 → ⊥) → IsKept held block → IsKept (after_calls held (map write_call pairs)) block
writes_keep held [] block apart kept = kept
writes_keep held (pair ∷ pairs) block apart kept =
    let at : ℕ = pair.0.0 / 4096 in
    writes_keep (after_call held (write_call pair)) pairs block (λ later. apart (in_tail at block.0 (numbers_of pairs) later)) (record {
      reads = slice_get-set_other held.image at block.0 pair.1 (λ same. apart (in_head at block.0 (numbers_of pairs) (sym same))) ∙ kept.reads;
      kept = λ lost. kept.kept (lost_before at true held.lost block.0 lost);
    })

-- what is written is kept, where no block comes twice
pub writes_done : (held : Held) (pairs : List AtBlock) (block : ℕ × List ℕ) → Contains (numbered pairs) block → NoneTwice (numbers_of pairs) → block.0 < length held.image
    → IsKept (after_calls held (map write_call pairs)) block
writes_done held [] block c once within = absurd (Contains-none block c)
writes_done held (pair ∷ pairs) block c once within = elim (Contains-cons_cases first (numbered pairs) block c) [
  | inl same ↦ subst (λ (b : ℕ × List ℕ). IsKept (after_calls next (map write_call pairs)) b) same (writes_keep next pairs first once.0 (record {
    reads = slice_get-set_same held.image first.0 pair.1 (subst (λ (b : ℕ × List ℕ). b.0 < length held.image) (sym same) within);
    kept = without-none first.0 held.lost;
  }))
  | inr later ↦ writes_done next pairs block later once.1 (omega (arith, within, length-set held.image first.0 pair.1))
]
  where
    first : ℕ × List ℕ
    first = (pair.0.0 / 4096, pair.1)

    next : Held
    next = after_call held (write_call pair)

-- the block reads so, and is settled
pub record IsSettledSo (held : Held) (block : ℕ × List ℕ) : Type 0 where
  pub reads : slice_get held.image block.0 ≡ Some block.1
  pub settled : IsUnsettled held block.0 → ⊥

pub settle_done : (held : Held) (pairs : List AtBlock) (block : ℕ × List ℕ) → Contains (numbered pairs) block → NoneTwice (numbers_of pairs) → block.0 < length held.image
    → IsSettledSo (after_calls held (settle_calls pairs)) block
settle_done held pairs block c once within =
    let written : Held = after_calls held (map write_call pairs) in
    let kept : IsKept written block = writes_done held pairs block c once within in
    subst (λ (now : Held). IsSettledSo now block) (sym (after_calls-append held (map write_call pairs) (Call.Flush true ∷ []))) (record {
      reads = kept.reads;
      settled = λ unsettled. elim unsettled [ inl pending ↦ Contains-none block.0 pending | inr lost ↦ kept.kept lost ];
    })
