use Rattle.std.proofs.Common.{All, subst}
use Rattle.std.proofs.lemmas.List.{take_all}
use Rattle.std.proofs.lemmas.List.Elements.{All-more}
use Rattle.flat_model.specs.Coherent.{IsNameBytes}
use Rattle.flat_model.specs.Step.{IsPath}
use Rattle.volume_core.proofs.spelled.read_path.Goals as goal

pub loop-name-preserved : goal.loop-name-preserved
loop-name-preserved c =
    All-more IsNameBytes c.names-name-items.result.now c.loop-name.name-index c.name-item.result c.loop-name-test.true c.loop-name.invariant
    (subst IsNameBytes c.name-item.is c.read_name.ensures)

pub returns : goal.returns
returns c =
    let names = c.names-name-items.result.now in
    let all : All IsNameBytes names = subst (All IsNameBytes) (take_all c.loop-name.name-index names c.loop-name-test.false) c.loop-name.invariant in
    let few = c.names-name-items.ensures.few in
    subst IsPath c.names-name-items.ensures.value (few, all)
