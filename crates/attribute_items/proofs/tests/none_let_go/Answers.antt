use Rattle.std.proofs.Common.{◌≡◌, ◌≢◌, ◌<◌, ◌*◌, ◌/◌, ℕ, false, length, ap, sym, subst, arith}
use Rattle.block_table.specs.declared.state.SlotState.TheVariants.{LetGo}
use Rattle.block_table.specs.Slot.{is_free}
use Rattle.block_table.specs.Table.{Table}
use Rattle.block_table.specs.TreeIn.{block_at}
use Rattle.block_table.proofs.Kept.{found}
use Rattle.attribute_items.proofs.tests.none_let_go.Goals as goal

all_current : (table : Table) → ((k : ℕ) → k < length table.slots → (block_at table (k * 4096)).state ≢ LetGo) → (at : ℕ) → (block_at table at).state ≢ LetGo
all_current table h at gone =
    let taken : is_free (block_at table at).state ≡ false = ap is_free gone in
    let there = found table (record { 0 = at }) taken in
    let same : at / 4096 * 4096 ≡ at = omega (arith, there.aligned) in
    h (at / 4096) there.inside (subst (λ (a : ℕ). (block_at table a).state ≡ LetGo) (sym same) gone)

pub returns : goal.returns
returns c = λ _ at. all_current c.args.table.now (λ k inside. c.loop-number.invariant k (omega (arith, c.blocks-number-end.ensures, inside))) at
