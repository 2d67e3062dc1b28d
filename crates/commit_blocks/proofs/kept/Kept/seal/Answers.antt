use Rattle.std.proofs.Common.{◌≡◌, ◌∙◌, ◌-◌, ℕ, List, length, refl, sym, ap, subst, arith}
use Rattle.std.specs.Prelude.{All}
use Rattle.blk_base.specs.Superblock.{IsSuper, SuperValue, super_bytes}
use Rattle.block_table.specs.declared.tree.SubState.{SubState}
use Rattle.block_table.specs.Table.{Table, with_lists}
use Rattle.table_volume.specs.Running.{GiveVolume}
use Rattle.tree_frame.specs.Frame.{TakesAtMost}
use Rattle.tree_range.specs.Shape.{tree_reach}
use Rattle.std.proofs.lemmas.List.{with_items_is}
use Rattle.volume_image.specs.Roots.{next_generation}
use Rattle.commit_blocks.proofs.Running.{running_length}
use Rattle.volume_seal.specs.Sealed.{IsReady, IsVolumeSealed}
use Rattle.volume_seal.specs.Superblock.{super_at}
use Rattle.commit_blocks.specs.Steps.{with_running}
use Rattle.commit_blocks.proofs.Fates.{lent}
use Rattle.commit_blocks.proofs.Lent.{ready_lent, volume_lent_by}
use Rattle.commit_blocks.proofs.kept.Kept.seal.Goals as goal

pub seal_volume-root-requires-clause-volume : goal.seal_volume-root-requires-clause-volume
seal_volume-root-requires-clause-volume c =
    (c.requires.volume.0, volume_lent_by c.args.self.now.table c.list-list.new.self c.args.self.now.states.items c.deref.result.now c.requires.volume.0 c.requires.volume.1 c.list-list.ensures.table c.deref.ensures.value)

pub seal_volume-root-requires-clause-ready : goal.seal_volume-root-requires-clause-ready
seal_volume-root-requires-clause-ready c =
    subst (λ (table : Table). All (λ (state : SubState). IsReady table state.tree c.args.self.now.fsid) c.deref.result.now) (sym c.list-list.ensures.table)
    (subst (λ (l : List SubState). All (λ (state : SubState). IsReady (lent c.args.self.now.table) state.tree c.args.self.now.fsid) l) (sym c.deref.ensures.value)
    (ready_lent c.args.self.now.table c.args.self.now.states.items c.requires.volume.0 c.requires.volume.1 c.args.self.now.fsid c.requires.ready))

pub count_all-requires : goal.count_all-requires
count_all-requires c =
    let run = c.requires.volume.0 in
    let given = c.seal_volume-root.ensures.sealed.given run (volume_lent_by c.args.self.now.table c.list-list.new.self c.args.self.now.states.items c.deref.result.now run c.requires.volume.1 c.list-list.ensures.table c.deref.ensures.value) in
    (run, subst (λ (l : List SubState). GiveVolume c.seal_volume-root.new.table l run) (c.deref.ensures.value ∙ sym c.deref-2.ensures.value) given)

pub returns : goal.returns
returns c =
    let old = c.args.self.now in
    let new = c.seal_volume-root.new.table in
    let root = c.seal_volume-root.result in
    let used = c.saturating_add-used.result in
    let said = c.superblock_of-said in
    let table = c.list-list.ensures.table in
    let sealed : IsVolumeSealed (with_lists old.table (old.table.lists - 1)) new old.states.items root old.fsid old.generation c.seal_volume-root.new.out.pairs =
    subst (λ (t : Table). IsVolumeSealed t new old.states.items root old.fsid old.generation c.seal_volume-root.new.out.pairs) table
    (subst (λ (l : List SubState). IsVolumeSealed c.list-list.new.self new l root old.fsid old.generation c.seal_volume-root.new.out.pairs) c.deref.ensures.value c.seal_volume-root.ensures.sealed) in
    let taken : TakesAtMost (with_lists old.table (old.table.lists - 1)) new (length (tree_reach new root)) = subst (λ (t : Table). TakesAtMost t new (length (tree_reach new root))) table c.seal_volume-root.ensures.taken in
    let size : length new.slots ≡ length old.table.slots = sealed.kept.size in
    let value = c.superblock_of-said.ensures.value in
    let bytes : c.encode.new.into ≡ super_bytes (super_at new root old.fsid old.generation used) = c.encode.ensures ∙ ap super_bytes value in
    let listed : c.set_running.new.states ≡ with_running (next_generation old.generation) old.states.items = c.set_running.ensures ∙ ap (λ (l : List SubState). with_running (next_generation old.generation) l) c.deref_mut.ensures.value in
    record {
      root = root;
      used = used;
      is_out = refl;
      noted = c.note_let_go.ensures.noted;
      capacity = c.note_let_go.ensures.room;
      sealed = sealed;
      taken = record { spare = taken.spare; free = taken.free };
      room = c.seal_volume-root.ensures.room ∙ ap (λ (l : Rattle.block_table.specs.Blocks.BlockList). l.room) c.list-list.ensures.list;
      superblock_is = bytes;
      spelled = λ disk_blocks inside.
          subst (λ (b : List ℕ). IsSuper b disk_blocks (super_at new root old.fsid old.generation used)) (sym bytes)
          (subst (λ (v : SuperValue). IsSuper (super_bytes v) disk_blocks v) value (said.ensures.spelled disk_blocks sealed.made.tree (omega (arith, size, c.requires.least)) (omega (arith, size, c.requires.most)) inside));
      states = with_items_is old.states c.set_running.new.states (ap (λ (l : List SubState). length l) listed ∙ running_length (next_generation old.generation) old.states.items ∙ sym old.states.ok.0) ∙ listed;
      generation = refl;
      fsid = refl;
      last = refl;
      failed = refl;
    }
