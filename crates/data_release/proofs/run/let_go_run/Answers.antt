use Rattle.std.proofs.Common.{◌≡◌, ◌+◌, ◌-◌, ◌<◌, ℕ, List, ◌∷◌, subst, arith}
use Rattle.std.proofs.lemmas.List.Elements.{All-head}
use Rattle.block_table.specs.declared.state.SlotState.TheVariants.{LetGo}
use Rattle.block_table.specs.Table.{Table}
use Rattle.block_table.specs.TreeIn.{IsTaken, block_at}
use Rattle.tree_delete.proofs.Blocks.{IsGone, gone}
use Rattle.volume_image.specs.Subvolume.{run_addresses}
use Rattle.data_release.specs.LetGo.{AreLeft}
use Rattle.data_release.proofs.Left.{one_less, run_first, run_none}
use Rattle.data_release.proofs.run.let_go_run.Goals as goal

-- the run by its first block
shown : (old now : Table) (whole : List ℕ) (at left : ℕ) → 0 < left → AreLeft old now whole (run_addresses at left) → AreLeft old now whole (at ∷ run_addresses (at + 4096) (left - 1))
shown old now whole at left some h = subst (AreLeft old now whole) (run_first at left some) h

pub let_go-requires-clause-taken : goal.let_go-requires-clause-taken
let_go-requires-clause-taken c =
    let left = shown c.args.table.now c.loop-left.table (run_addresses c.args.at.0 c.args.count) c.loop-left.next c.loop-left.left c.loop-left-test.true c.loop-left.invariant in
    (All-head (IsTaken c.loop-left.table) c.loop-left.next (run_addresses (c.loop-left.next + 4096) (c.loop-left.left - 1)) left.taken).taken

pub let_go-requires-clause-current : goal.let_go-requires-clause-current
let_go-requires-clause-current c =
    let left = shown c.args.table.now c.loop-left.table (run_addresses c.args.at.0 c.args.count) c.loop-left.next c.loop-left.left c.loop-left-test.true c.loop-left.invariant in
    All-head (λ (a : ℕ). (block_at c.loop-left.table a).state ≡ LetGo → ⊥) c.loop-left.next (run_addresses (c.loop-left.next + 4096) (c.loop-left.left - 1)) left.current

pub overflow_add-next : goal.overflow_add-next
overflow_add-next c =
    let left = shown c.args.table.now c.loop-left.table (run_addresses c.args.at.0 c.args.count) c.loop-left.next c.loop-left.left c.loop-left-test.true c.loop-left.invariant in
    let allowed = (All-head (IsTaken c.loop-left.table) c.loop-left.next (run_addresses (c.loop-left.next + 4096) (c.loop-left.left - 1)) left.taken).allowed in
    let size = c.loop-left.invariant.edit.size in
    let few = c.blocks-blocks.type_inv in
    let many = c.blocks-blocks.ensures in
    omega (arith, allowed.inside, size, few, many)

pub loop-left-preserved-then-left-gt0 : goal.loop-left-preserved-then-left-gt0
loop-left-preserved-then-left-gt0 c =
    let whole = run_addresses c.args.at.0 c.args.count in
    let rest = run_addresses (c.loop-left.next + 4096) (c.loop-left.left - 1) in
    let left = shown c.args.table.now c.loop-left.table whole c.loop-left.next c.loop-left.left c.loop-left-test.true c.loop-left.invariant in
    let head = All-head (IsTaken c.loop-left.table) c.loop-left.next rest left.taken in
    let gone_now : IsGone c.loop-left.table c.let_go.new.self c.loop-left.next = gone c.loop-left.table c.let_go.new.self (record { 0 = c.loop-left.next }) head.allowed head.taken c.let_go.ensures.dirty c.let_go.ensures.written in
    one_less c.args.table.now c.loop-left.table c.let_go.new.self whole rest c.loop-left.next left gone_now.edit gone_now.blocks

pub loop-left-preserved : goal.loop-left-preserved
loop-left-preserved c =
    let whole = run_addresses c.args.at.0 c.args.count in
    let rest = run_addresses (c.loop-left.next + 4096) (c.loop-left.left - 1) in
    let left = shown c.args.table.now c.loop-left.table whole c.loop-left.next c.loop-left.left c.loop-left-test.true c.loop-left.invariant in
    let head = All-head (IsTaken c.loop-left.table) c.loop-left.next rest left.taken in
    let gone_now : IsGone c.loop-left.table c.let_go.new.self c.loop-left.next = gone c.loop-left.table c.let_go.new.self (record { 0 = c.loop-left.next }) head.allowed head.taken c.let_go.ensures.dirty c.let_go.ensures.written in
    subst (AreLeft c.args.table.now c.let_go.new.self whole) (run_none (c.loop-left.next + 4096) c.loop-left.next (c.loop-left.left - 1) c.if-left-gt0.false) (one_less c.args.table.now c.loop-left.table c.let_go.new.self whole rest c.loop-left.next left gone_now.edit gone_now.blocks)
