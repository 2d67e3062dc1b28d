-- What a state gives is coherent.
use Rattle.operation_needs.proofs.counted.removed.Goals as goal

pub gone_by_rename-requires : goal.gone_by_rename-requires
gone_by_rename-requires c = let g = c.requires.given in (g.0.sub, record { gives = g.1.gives; coherent = g.1.sound.coherent })

pub past_at-requires : goal.past_at-requires
past_at-requires c = let g = c.requires.given in (g.0.sub, record { gives = g.1.gives; coherent = g.1.sound.coherent })

pub items_at-requires : goal.items_at-requires
items_at-requires c = let g = c.requires.given in (g.0.sub, record { gives = g.1.gives; coherent = g.1.sound.coherent })

pub gone_at-requires : goal.gone_at-requires
gone_at-requires c = let g = c.requires.given in (g.0.sub, record { gives = g.1.gives; coherent = g.1.sound.coherent })
