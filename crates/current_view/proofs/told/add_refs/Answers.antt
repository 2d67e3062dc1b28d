use Rattle.std.proofs.Common.{sym}
use Rattle.blk_base.specs.Entries.{ExtRefValue, RefValue}
use Rattle.blk_base.specs.Name.{IsName}
use Rattle.item_laws.specs.ExtRefs.{extrefs_from}
use Rattle.item_laws.specs.Refs.{refs_from}
use Rattle.name_walk.proofs.Reading.{all_of, are_bytes}
use Rattle.current_view.proofs.Steps.{plain_names}
use Rattle.current_view.proofs.told.add_refs.Goals as goal

pub add_near-requires : goal.add_near-requires
add_near-requires c =
    all_of (λ (r : RefValue). IsName r.name) c.in-Ok.refs
    (plain_names c.args.key.now c.in-Ok.refs c.requires (refs_from c.args.key.now c.args.bytes.now c.in-Ok.refs (are_bytes c.args.bytes.now c.type_inv.bytes) (sym c.in-Ok.ensures)).names)

pub add_far-requires : goal.add_far-requires
add_far-requires c = all_of (λ (r : ExtRefValue). IsName r.name) c.in-Ok-open.refs (extrefs_from c.args.bytes.now c.in-Ok-open.refs (are_bytes c.args.bytes.now c.type_inv.bytes) (sym c.in-Ok-open.ensures)).names
