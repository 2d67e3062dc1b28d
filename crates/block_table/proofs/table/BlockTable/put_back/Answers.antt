use Rattle.std.proofs.Common.{ap, sym, arith, ◌≡◌, ◌∙◌, [], ℕ, length}
use Rattle.std.specs.Prelude.{vec_len, vec_capacity}
use Rattle.block_table.specs.Table.{Table, IsTable, all_back}
use Rattle.block_table.proofs.Kept.{IsTable-back, IsTable-stocked}
use Rattle.block_table.proofs.table.BlockTable.put_back.Goals as goal

pub invariant_of-self : goal.invariant_of-self
invariant_of-self c =
    let back : IsTable (all_back c.self.inside.slots.items c.args.blocks.pairs) (vec_len c.self.inside.spare) (vec_capacity c.self.inside.spare) c.self.inside.stock.items (vec_capacity c.self.inside.stock) c.self.inside.free c.self.inside.low c.self.inside.groups.items = IsTable-back c.self.invariant c.args.blocks.pairs in
    let slots : IsTable c.return_all.new.slots.items (vec_len c.self.inside.spare) (vec_capacity c.self.inside.spare) c.self.inside.stock.items (vec_capacity c.self.inside.stock) c.self.inside.free c.self.inside.low c.self.inside.groups.items = rw c.return_all.ensures.slots back in
    let len : length c.return_all.new.slots.items ≡ c.args.blocks.room = omega (arith, c.return_all.ensures.len, c.return_all.new.slots.ok.0, c.self.inside.slots.ok.0, c.requires.lent, ap (λ (table : Table). length table.slots) c.self.view_is) in
    let stocked = IsTable-stocked slots c.return_all.new.blocks (vec_capacity c.push_reserved.new.self) c.push_reserved.ensures.capacity (omega (arith, c.requires.room, ap (λ (table : Table). table.lists) c.self.view_is, c.self.inside.stock.ok.0)) (c.return_all.ensures.blocks ∙ ap (λ (n : ℕ). record { pairs = []; room = n }) (sym len)) in
    rw c.push_reserved.ensures.items stocked
