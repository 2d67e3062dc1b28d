-- Blocks that are left, with some let go.
use Rattle.std.proofs.Common.{◌≡◌, ◌≢◌, ◌∙◌, ◌+◌, ◌-◌, ◌≤◌, ◌<◌, ℕ, zero, suc, List, [], ◌∷◌, ◌++◌, length, refl, sym, ap, subst, arith}
use Rattle.std.specs.Prelude.{All, slice_index_or}
use Rattle.std.proofs.lemmas.List.Elements.{All-append, All-tail}
use Rattle.blk_base.specs.Address.{IsAllowed}
use Rattle.blk_base.specs.Trees.{NoneTwice}
use Rattle.block_table.specs.declared.state.SlotState.TheVariants.{LetGo}
use Rattle.block_table.specs.Slot.{BlockSlot}
use Rattle.block_table.specs.Table.{Table}
use Rattle.block_table.specs.TreeIn.{IsTaken, block_at}
use Rattle.blk_base.proofs.Members.{once_left, once_right}
use Rattle.tree_range.specs.Shape.{AreAlike}
use Rattle.tree_range.proofs.Rise.{All-left, All-right}
use Rattle.tree_frame.specs.Frame.{AreCurrent, IsEdit, TakesAtMost}
use Rattle.tree_frame.proofs.Among.{alike_left, alike_right, edit_among, once_among}
use Rattle.tree_frame.proofs.EditLaws.{edits_join, nothing_is_an_edit}
use Rattle.volume_image.specs.Subvolume.{run_addresses}
use Rattle.data_release.specs.LetGo.{AreLeft}

still_taken : (old new : Table) → length new.slots ≡ length old.slots → (at : ℕ) → block_at new at ≡ block_at old at → IsTaken old at → IsTaken new at
still_taken old new size at same was = record {
  allowed = subst (λ (n : ℕ). IsAllowed n at) (sym size) was.allowed;
  taken = λ free. was.taken (sym (ap (λ (slot : BlockSlot). slot.state) same) ∙ free);
}

pub stay_taken : (old new : Table) → length new.slots ≡ length old.slots → (reach : List ℕ) → AreAlike old new reach → All (IsTaken old) reach → All (IsTaken new) reach
stay_taken old new size reach alike all =
    λ k d within. still_taken old new size (slice_index_or reach k d) (alike k d within) (all k d within)

pub stay_current : (old new : Table) (reach : List ℕ) → AreAlike old new reach → AreCurrent old reach → AreCurrent new reach
stay_current old new reach alike current =
    λ k d within gone. current k d within (sym (ap (λ (slot : BlockSlot). slot.state) (alike k d within)) ∙ gone)

pub alike_joined : (old now next : Table) (reach : List ℕ) → AreAlike old now reach → AreAlike now next reach → AreAlike old next reach
alike_joined old now next reach one two = λ k d within. two k d within ∙ one k d within

-- all are left at the start
pub all_left : (table : Table) (whole : List ℕ) → All (IsTaken table) whole → AreCurrent table whole → NoneTwice whole → AreLeft table table whole whole
all_left table whole taken current once = record {
  edit = nothing_is_an_edit table whole;
  taken = taken;
  current = current;
  once = once;
  alike = λ k d within. refl;
  takes = record { spare = omega arith; free = omega arith };
}

-- one more is let go, the first of those that are left
pub one_less : (old now next : Table) (whole rest : List ℕ) (at : ℕ) → AreLeft old now whole (at ∷ rest) → IsEdit now next (at ∷ []) [] → TakesAtMost now next 0 → AreLeft old next whole rest
one_less old now next whole rest at left edit takes =
    let alike : AreAlike now next rest = alike_right now next [] (at ∷ []) [] rest edit left.once left.taken in
    record {
      edit = edits_join old now next whole (at ∷ rest) rest left.edit (edit_among now next [] (at ∷ []) [] rest edit left.once left.taken);
      taken = stay_taken now next edit.size rest alike (All-tail (IsTaken now) at rest left.taken);
      current = stay_current now next rest alike (All-tail (λ (a : ℕ). (block_at now a).state ≢ LetGo) at rest left.current);
      once = left.once.1;
      alike = alike_joined old now next rest (All-tail (λ (a : ℕ). block_at now a ≡ block_at old a) at rest left.alike) alike;
      takes = record { spare = omega (arith, left.takes.spare, takes.spare); free = omega (arith, left.takes.free, takes.free) };
    }

-- the first block of a run
pub run_first : (at count : ℕ) → 0 < count → run_addresses at count ≡ at ∷ run_addresses (at + 4096) (count - 1)
run_first at zero some = absurd (omega (arith, some))
run_first at (suc count) some =
    let less : count ≡ suc count - 1 = omega arith in
    ap (λ (n : ℕ). at ∷ run_addresses (at + 4096) n) less

pub run_none : (one two count : ℕ) → count ≤ 0 → run_addresses one count ≡ run_addresses two count
run_none one two zero none = refl
run_none one two (suc count) none = absurd (omega (arith, none))

-- ---- a part of those that are left

module _ (old now : Table) (whole front middle back : List ℕ) (left : AreLeft old now whole (front ++ (middle ++ back))) where
  pub middle_taken : All (IsTaken now) middle
  middle_taken =
      All-left (IsTaken now) middle back (All-right (IsTaken now) front (middle ++ back) left.taken)

  pub middle_current : AreCurrent now middle
  middle_current =
      All-left (λ (a : ℕ). (block_at now a).state ≢ LetGo) middle back (All-right (λ (a : ℕ). (block_at now a).state ≢ LetGo) front (middle ++ back) left.current)

  pub middle_once : NoneTwice middle
  middle_once = once_left middle back (once_right front (middle ++ back) left.once)

  -- it is let go
  pub middle_gone : (next : Table) → AreLeft now next middle [] → AreLeft old next whole (front ++ back)
  middle_gone next gone =
      let fronts : AreAlike now next front = alike_left now next front middle [] back gone.edit left.once left.taken in
      let backs : AreAlike now next back = alike_right now next front middle [] back gone.edit left.once left.taken in
      let both : AreAlike now next (front ++ back) = All-append (λ (a : ℕ). block_at next a ≡ block_at now a) front back fronts backs in
      let part : (P : ℕ → Type 0) → All P (front ++ (middle ++ back)) → All P (front ++ back) = λ P h. All-append P front back (All-left P front (middle ++ back) h) (All-right P middle back (All-right P front (middle ++ back) h)) in
      record {
        edit = edits_join old now next whole (front ++ (middle ++ back)) (front ++ back) left.edit (edit_among now next front middle [] back gone.edit left.once left.taken);
        taken = stay_taken now next gone.edit.size (front ++ back) both (part (IsTaken now) left.taken);
        current = stay_current now next (front ++ back) both (part (λ (a : ℕ). (block_at now a).state ≢ LetGo) left.current);
        once = once_among now next front middle [] back gone.edit left.once left.taken tt;
        alike = alike_joined old now next (front ++ back) (part (λ (a : ℕ). block_at now a ≡ block_at old a) left.alike) both;
        takes = record { spare = omega (arith, left.takes.spare, gone.takes.spare); free = omega (arith, left.takes.free, gone.takes.free) };
      }
