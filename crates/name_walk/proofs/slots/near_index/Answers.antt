use Rattle.std.proofs.Common.{[]}
use Rattle.name_walk.proofs.InSlots.{near_read}
use Rattle.name_walk.proofs.slots.near_index.Goals as goal

pub returns-in_err-refs : goal.returns-in_err-refs
returns-in_err-refs c = λ sub there given leads.
    near_read sub given.coherent c.args.dir c.args.name.now c.args.ino there leads [] (c.in_err-refs.ensures sub given.gives) c.from_residual.result c.from_residual.ensures

pub returns : goal.returns
returns c = λ sub there given leads.
    near_read sub given.coherent c.args.dir c.args.name.now c.args.ino there leads c.in_ok-refs.refs (c.in_ok-refs.ensures sub given.gives) c.near_named.result c.near_named.ensures
