use Rattle.std.proofs.Common.{◌≡◌, ℕ, ◌∙◌, ap, sym, Some}
use Rattle.std.specs.Option.{option_map}
use Rattle.std.specs.FinMap.{get}
use Rattle.flat_model.specs.Records.{kind_of}
use Rattle.flat_model.specs.Volume.{RunSub, RunVolume}
use Rattle.flat_model.proofs.Maps.{some_none}
use Rattle.flat_sub.specs.declared.sub.FlatSub.{FlatSub}
use Rattle.flat_sub.specs.View.{sub_view}
use Rattle.flat_volume.specs.Building.{at_sub, at_inode, record_in, with_block}
use Rattle.flat_volume.proofs.Views.{on_ok, on_err, view_at, view_set, view_same, view_nowhere}
use Rattle.flat_volume.proofs.Kept.{kept_set}
use Rattle.flat_volume.proofs.Changed.{record_there, record_nowhere}
use Rattle.flat_volume.proofs.volume.FlatVolume.put_block.Goals as goal

pub unreachable-requires : goal.unreachable-requires
unreachable-requires c =
    some_none _ (sym c.requires ∙ ap (option_map kind_of) (ap (λ (v : RunVolume). record_in v c.args.sub.0 c.args.ino.0) (sym c.self.view_is) ∙ record_nowhere _ c.args.sub.0 c.args.ino.0 (view_nowhere c.self.inside.subs.items c.args.sub.0 (sym c.in_default.ensures))))

pub put_block_in-requires-clause-file : goal.put_block_in-requires-clause-file
put_block_in-requires-clause-file c =
    let lent = c.index_mut-entry.result.now in
    let run : RunVolume = c.args.self.now in
    let there : get run c.args.sub.0 ≡ Some (sub_view lent.1) =
    ap (λ (v : RunVolume). get v c.args.sub.0) (sym c.self.view_is) ∙ view_at c.self.inside.subs.items c.in-Some.at c.args.sub.0 lent (sym c.in-Some.ensures) ∙ ap (λ (e : ℕ × FlatSub). Some (sub_view e.1)) (sym c.index_mut-entry.ensures.value) in
    sym (ap (option_map kind_of) (record_there run c.args.sub.0 c.args.ino.0 (sub_view lent.1) there)) ∙ c.requires

pub invariant_of-self : goal.invariant_of-self
invariant_of-self c =
    kept_set c.self.inside.subs.items c.in-Some.at c.args.sub.0 c.index_mut-entry.result.now c.put_block_in.new.sub (sym c.in-Some.ensures) c.index_mut-entry.ensures.value (λ before. c.put_block_in.ensures.kept) c.self.invariant

pub returns-clause-ok : goal.returns-clause-ok
returns-clause-ok c =
    let change : RunSub → RunSub = at_inode c.args.ino.0 (with_block c.args.number c.args.bytes.now) in
    on_ok c.put_block_in.result (λ put.
    view_set c.self.inside.subs.items c.in-Some.at c.args.sub.0 c.index_mut-entry.result.now c.put_block_in.new.sub change (sym c.in-Some.ensures) c.index_mut-entry.ensures.value put
    ∙ ap (λ (v : RunVolume). at_sub v c.args.sub.0 change) c.self.view_is) c.put_block_in.ensures.ok

pub returns-clause-err : goal.returns-clause-err
returns-clause-err c =
    on_err c.put_block_in.result (λ same.
    view_same c.self.inside.subs.items c.in-Some.at c.args.sub.0 c.index_mut-entry.result.now c.put_block_in.new.sub (sym c.in-Some.ensures) c.index_mut-entry.ensures.value same ∙ c.self.view_is) c.put_block_in.ensures.err
