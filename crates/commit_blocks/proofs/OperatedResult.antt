-- What an operation's result says of what a volume keeps.
use Rattle.std.proofs.Common.{◌≡◌, ◌∙◌, List, length, Result, Ok, Err, Vec, Global, sym, ap, subst}
use Rattle.std.specs.Prelude.{IfOk, OnErr}
use Rattle.blk_base.specs.Bytes.{Image}
use Rattle.block_table.specs.declared.tree.SubState.{SubState}
use Rattle.block_table.specs.Blocks.{BlockList}
use Rattle.block_table.specs.Table.{Table}
use Rattle.commit_images.specs.Scene.{Scene}
use Rattle.flat_model.specs.declared.answer.Answer.{Answer}
use Rattle.flat_model.specs.declared.op.Op.{Op}
use Rattle.flat_model.specs.Volume.{RunVolume}
use Rattle.volume_ops.specs.Done.{IsDone}
use Rattle.commit_blocks.specs.declared.kept.Kept.{Kept}
use Rattle.commit_blocks.specs.Keeps.{KeepsBlocks}
use Rattle.commit_blocks.specs.Operating.{HasRoomFor, IsKeptOperated}
use Rattle.commit_blocks.specs.Steps.{IsListOut}
use Rattle.commit_blocks.proofs.OperatedKept.{is_kept_operated, list_still}
use Rattle.commit_blocks.proofs.OperatedSame.{same_kept}

module _ (old : Kept) (table : Table) (states : Vec SubState Global) (lent now : List SubState) (was : lent ≡ old.states.items) (is : states.items ≡ now) where
  abbrev pub behind : Table → Kept
  behind t = record {
    table = t;
    states = states;
    fsid = old.fsid;
    generation = old.generation;
    last = old.last;
    failed = old.failed;
    sealed = old.sealed;
    let_go = old.let_go;
  }

  done_here : (run : RunVolume) (op : Op) (answer : Answer) → IsDone old.table table lent now run op answer → IsDone old.table table old.states.items states.items run op answer
  done_here run op answer done =
      subst (λ (l : List SubState). IsDone old.table table old.states.items l run op answer) (sym is) (subst (λ (l : List SubState). IsDone old.table table l now run op answer) was done)

  pub operated : (image : Image) (run : RunVolume) (scene : Scene) (op : Op) → KeepsBlocks old image run scene → HasRoomFor old.table run op → {E : Type 0} (r : Result Answer E) → IfOk r (λ answer. IsDone old.table table lent now run op answer)
      → IfOk r (λ answer. IsKeptOperated old (behind table) image run scene op answer)
  operated image run scene op keeps room (Ok answer) done =
      is_kept_operated old image run scene op answer keeps room table states (done_here run op answer done)
  operated image run scene op keeps room (Err e) done = tt

  pub without_memory : (image : Image) (run : RunVolume) (scene : Scene) → KeepsBlocks old image run scene → {E : Type 0} (r : Result Answer E) → OnErr r ((table ≡ old.table) × (now ≡ lent)) → OnErr r (KeepsBlocks (behind table) image run scene)
  without_memory image run scene keeps (Ok answer) same = tt
  without_memory image run scene keeps (Err e) same =
      subst (λ (t : Table). KeepsBlocks (behind t) image run scene) (sym same.0) (same_kept old image run scene states (is ∙ same.1 ∙ was) keeps)

  pub unchanged : {E : Type 0} (r : Result Answer E) → OnErr r ((table ≡ old.table) × (now ≡ lent)) → OnErr r ((table ≡ old.table) × (states.items ≡ old.states.items))
  unchanged (Ok answer) same = tt
  unchanged (Err e) same = (same.0, is ∙ same.1 ∙ was)

  pub list_same : (image : Image) (run : RunVolume) (scene : Scene) (op : Op) → KeepsBlocks old image run scene → HasRoomFor old.table run op → {E : Type 0} (r : Result Answer E) → IfOk r (λ answer. IsDone old.table table lent now run op answer) → OnErr r ((table ≡ old.table) × (now ≡ lent))
      → (list : BlockList) → IsListOut old list → IsListOut (behind table) list
  list_same image run scene op keeps room (Ok answer) done same list h =
      list_still old image run scene op answer keeps room table states (done_here run op answer done) list h
  list_same image run scene op keeps room (Err e) done same list h =
      subst (λ (t : Table). IsListOut (behind t) list) (sym same.0) (record { lent = h.lent; has = h.has })

  pub size_same : (run : RunVolume) (op : Op) → {E : Type 0} (r : Result Answer E) → IfOk r (λ answer. IsDone old.table table lent now run op answer) → OnErr r ((table ≡ old.table) × (now ≡ lent)) → length table.slots ≡ length old.table.slots
  size_same run op (Ok answer) done same = done.edit.size
  size_same run op (Err e) done same = ap (λ (t : Table). length t.slots) same.0

  pub lists_same : (run : RunVolume) (op : Op) → {E : Type 0} (r : Result Answer E) → IfOk r (λ answer. IsDone old.table table lent now run op answer) → OnErr r ((table ≡ old.table) × (now ≡ lent)) → table.lists ≡ old.table.lists
  lists_same run op (Ok answer) done same = done.edit.lists
  lists_same run op (Err e) done same = ap (λ (t : Table). t.lists) same.0
