use Rattle.std.proofs.Common.{ℕ, List, ◌+◌, ◌-◌, ◌^◌, min, length, Some, ap, ◌∙◌}
use Rattle.std.specs.List.{sum_by}
use Rattle.blk_base.specs.Crc.{name_hash_of}
use Rattle.flat_record.specs.AttributeShares.{share_of}
use Rattle.flat_record.proofs.Limits.{crowded_is, inserted_sum}
use Rattle.flat_record.proofs.attributes.AttributeTable.is_crowded.Goals as goal

pub returns : goal.returns
returns c =
    let es = c.self.inside.entries.items in
    let name : List ℕ = c.args.name.now in
    let value : List ℕ = c.args.value.now in
    let hash = c.name_hash.ensures ∙ ap name_hash_of c.as_bytes.ensures.value in
    let bytes = c.item_bytes.ensures ∙ (λ i. min (c.entry_bytes-more.ensures i + sum_by (share_of (hash i) (Some name)) es) (2 ^ 64 - 1)) in
    crowded_is c.fits.result c.item_bytes.result (30 + length name + length value) (sum_by (share_of (name_hash_of name) (Some name)) es) _ c.fits.ensures bytes (inserted_sum name value es c.args.self.now c.self.invariant c.self.view_is)
