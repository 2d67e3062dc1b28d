-- Limits of one block, and of addresses beyond a table.
use Rattle.std.proofs.Common.{◌≡◌, ◌↔◌, ◌⊎◌, ◌≤◌, ◌<◌, ◌+◌, ◌*◌, ◌/◌, ◌%◌, ◌==◌, ℕ, Bool, true, false, cond, List, length, get_or, Some, None, refl, sym, ap, subst, ◌∙◌, arith, inl, inr}
use Rattle.std.proofs.lemmas.Bool.{cases_lt}
use Rattle.std.proofs.lemmas.List.{get_or_default, get_or_past}
use Rattle.std.specs.List.{slice_index_or}
use Rattle.std.specs.Prelude.{slice_index, IsTrue}
use Rattle.block_table.specs.Slot.{free_slot}
use Rattle.block_table.specs.Table.{Table}
use Rattle.flat_model.specs.Coherent.{AreBytes, KeepsBlockLimits}
use Rattle.table_volume.specs.Gives.{bytes_there, data_in}
use Rattle.coherent_limits.specs.Limits.{KeepRunLimits}

pub keeps_is : (size number inside : ℕ) (block : List ℕ) (answer : Bool) → number * 4096 < size → inside + number * 4096 ≡ size → length block ≡ 4096 → AreBytes block
    → IsTrue answer ↔ ((at : ℕ) → inside ≤ at → at < 4096 → slice_index block at ≡ 0) → IsTrue answer ↔ KeepsBlockLimits size number block
keeps_is size number inside block answer below is long bytes zeros = (
  λ h. record { begins_below_size = below; whole = long; are_bytes = bytes; zeros_past_size = λ at low past. zeros.0 h at (omega arith) low },
  λ keeps. zeros.1 (λ at past low. keeps.zeros_past_size at low (omega arith)),
)

pub bytes_from : (block : List ℕ) → ((i : ℕ) → get_or block i 0 < 256) → AreBytes block
bytes_from block fits k d below = let same = get_or_default block k d 0 below in let fit = fits k in omega arith

-- nothing stands beyond the table
pub nothing_beyond : (table : Table) (at : ℕ) (block : List ℕ) → length table.slots < 4294967296 → 281474976710656 ≤ at → data_in table at ≡ Some block → ⊥
nothing_beyond table at block few far there = go (at % 4096 == 0) refl
  where
    past : slice_index_or table.slots (at / 4096) free_slot ≡ free_slot
    past = get_or_past table.slots (at / 4096) free_slot (omega arith)

    none : None ≡ Some block → ⊥
    none e = cc

    go : (b : Bool) → (at % 4096 == 0) ≡ b → ⊥
    go true e = none (sym (ap bytes_there (ap (λ (b : Bool). cond b (slice_index_or table.slots (at / 4096) free_slot) free_slot) e ∙ past)) ∙ there)
    go false e = none (sym (ap bytes_there (ap (λ (b : Bool). cond b (slice_index_or table.slots (at / 4096) free_slot) free_slot) e)) ∙ there)

-- ---- runs

abbrev pub KeptBelow : Table → ℕ → ℕ → ℕ → ℕ → Type 0
KeptBelow table at number size place = (i : ℕ) → i < place → (block : List ℕ) → data_in table (at + 4096 * i) ≡ Some block → KeepsBlockLimits size (number + i) block

pub run_more : (table : Table) (at number size place here : ℕ) → here ≡ at + 4096 * place → KeptBelow table at number size place
    → ((block : List ℕ) → data_in table here ≡ Some block → KeepsBlockLimits size (number + place) block) → KeptBelow table at number size (place + 1)
run_more table at number size place here is kept now i low block there = go (cases_lt i place)
  where
    go : (i < place) ⊎ (place ≤ i) → KeepsBlockLimits size (number + i) block
    go (inl before) = kept i before block there
    go (inr from) =
        let last : place ≡ i = omega arith in
        subst (λ (n : ℕ). KeepsBlockLimits size (number + n) block) last (now block (ap (data_in table) (is ∙ ap (λ (n : ℕ). at + 4096 * n) last) ∙ there))

pub run_broken : (table : Table) (at number count size place here : ℕ) (answer : Bool) → here ≡ at + 4096 * place → place < count → answer ≡ false
    → IsTrue answer ↔ ((block : List ℕ) → data_in table here ≡ Some block → KeepsBlockLimits size (number + place) block) → IsTrue false ↔ KeepRunLimits table at number count size
run_broken table at number count size place here answer is below wrong keeps =
    (λ h. clash (sym h), λ all. clash (sym (keeps.1 (λ block there. all place below block (ap (data_in table) (sym is) ∙ there))) ∙ wrong))
  where
    clash : {A : Type 0} → true ≡ false → A
    clash e = absurd cc

pub run_far : (table : Table) (at number count size place here : ℕ) → length table.slots < 4294967296 → here ≡ at + 4096 * place → 281474976710656 ≤ here → KeptBelow table at number size place → IsTrue true ↔ KeepRunLimits table at number count size
run_far table at number count size place here few is far kept = (λ h i low block there. go i block there (cases_lt i place), λ all. refl)
  where
    go : (i : ℕ) (block : List ℕ) → data_in table (at + 4096 * i) ≡ Some block → (i < place) ⊎ (place ≤ i) → KeepsBlockLimits size (number + i) block
    go i block there (inl before) = kept i before block there
    go i block there (inr from) = absurd (nothing_beyond table (at + 4096 * i) block few (omega arith) there)

pub run_all : (table : Table) (at number count size place : ℕ) → count ≤ place → KeptBelow table at number size place → IsTrue true ↔ KeepRunLimits table at number count size
run_all table at number count size place past kept = (λ h i low block there. kept i (omega arith) block there, λ all. refl)
