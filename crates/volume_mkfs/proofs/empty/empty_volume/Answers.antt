use Rattle.std.proofs.Common.{◌≡◌, ◌≤◌, ◌∙◌, ℕ, List, length, arith, refl, sym, ap, subst}
use Rattle.blk_base.specs.Superblock.{IsSuper, SuperValue, super_bytes}
use Rattle.block_table.specs.declared.tree.SubState.{SubState}
use Rattle.block_table.specs.Table.{Table}
use Rattle.flat_model.specs.Volume.{bare_volume, mounted}
use Rattle.volume_seal.specs.Superblock.{super_at}
use Rattle.volume_mkfs.specs.Empty.{AreFresh}
use Rattle.volume_mkfs.proofs.New.{fresh_count, fresh_ready, is_new}
use Rattle.volume_mkfs.proofs.empty.empty_volume.Goals as goal

pub seal_volume-root-requires-clause-volume : goal.seal_volume-root-requires-clause-volume
seal_volume-root-requires-clause-volume c =
    let fresh : AreFresh c.fresh_states.new.table c.deref.result.now c.args.subs = subst (λ (l : List SubState). AreFresh c.fresh_states.new.table l c.args.subs) (sym c.deref.ensures.value) c.in_ok-states.ensures.fresh in
    (mounted (bare_volume c.args.subs), fresh.given)

pub seal_volume-root-requires-clause-few : goal.seal_volume-root-requires-clause-few
seal_volume-root-requires-clause-few c =
    let fresh : AreFresh c.fresh_states.new.table c.deref.result.now c.args.subs = subst (λ (l : List SubState). AreFresh c.fresh_states.new.table l c.args.subs) (sym c.deref.ensures.value) c.in_ok-states.ensures.fresh in
    omega (arith, fresh_count c.fresh_states.new.table c.deref.result.now c.args.subs fresh, c.requires.few)

pub seal_volume-root-requires-clause-ready : goal.seal_volume-root-requires-clause-ready
seal_volume-root-requires-clause-ready c =
    let fresh : AreFresh c.fresh_states.new.table c.deref.result.now c.args.subs = subst (λ (l : List SubState). AreFresh c.fresh_states.new.table l c.args.subs) (sym c.deref.ensures.value) c.in_ok-states.ensures.fresh in
    fresh_ready c.fresh_states.new.table c.deref.result.now c.args.subs c.args.fsid.now fresh

pub returns : goal.returns
returns c =
    let old = c.fresh_states.new.table in
    let new = c.seal_volume-root.new.table in
    let states = c.deref.result.now in
    let root = c.seal_volume-root.result in
    let superblock = c.superblock_of-superblock in
    let fresh : AreFresh old states c.args.subs = subst (λ (l : List SubState). AreFresh old l c.args.subs) (sym c.deref.ensures.value) c.in_ok-states.ensures.fresh in
    let sealed = c.seal_volume-root.ensures.sealed in
    let size : length old.slots ≡ c.args.blocks = c.fresh_states.ensures.size ∙ ap (λ (table : Table). length table.slots) c.list-out.ensures.table ∙ c.in_ok-table.ensures.size in
    let slots : length new.slots ≡ c.args.blocks = sealed.kept.size ∙ size in
    let spell : (disk_blocks : ℕ) → length new.slots ≤ disk_blocks → IsSuper (super_bytes (super_at new root c.args.fsid.now 1 c.len-used.result)) disk_blocks (super_at new root c.args.fsid.now 1 c.len-used.result) = λ disk_blocks inside.
    subst (λ (value : SuperValue). IsSuper (super_bytes value) disk_blocks value) superblock.ensures.value
    (superblock.ensures.spelled disk_blocks sealed.made.tree (omega (arith, slots, c.requires.least)) (omega (arith, slots, c.requires.most)) inside) in record {
      done = refl;
      tried = refl;
      parts = c.in_ok-new.ensures;
      new = is_new old new states root c.args.fsid.now c.args.blocks c.args.subs c.len-used.result c.seal_volume-root.new.out.pairs fresh sealed size c.requires.least c.requires.some c.requires.few spell c.len-used.ensures _
          (c.encode.ensures ∙ ap super_bytes superblock.ensures.value);
    }
