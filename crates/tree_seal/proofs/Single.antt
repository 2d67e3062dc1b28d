-- One block is sealed.
use Rattle.std.proofs.Common.{◌≡◌, ℕ, true, List, ap, ◌∙◌, sym, subst}
use Rattle.blk_base.specs.declared.key.Want.{Want}
use Rattle.blk_base.specs.Leaf.{HeaderFits}
use Rattle.block_table.specs.declared.state.SlotState.TheVariants.{Dirty, Sealed}
use Rattle.block_table.specs.Slot.{BlockSlot, is_free}
use Rattle.block_table.specs.Table.{Table, slot_at, state_at, with_slot}
use Rattle.block_table.specs.TreeIn.{block_at}
use Rattle.block_table.proofs.Kept.{IsFound, found}
use Rattle.tree_blocks.proofs.Put.{put_slot, rebytes, written_slot}
use Rattle.tree_seal.specs.Sealing.{HasSameBody, IsSealedOne}

abbrev sealed_of : BlockSlot → BlockSlot
sealed_of slot = record slot { state = Sealed; out = true }

pub one_sealed : (old new : Table) (want : Want) (bytes : List ℕ) → state_at old want.at ≡ Dirty → new ≡ with_slot (rebytes old want.at bytes) want.at (record (slot_at (rebytes old want.at bytes) want.at) { state = Sealed; out = true })
    → HeaderFits want bytes → HasSameBody (slot_at old want.at).bytes bytes → IsSealedOne old new want
one_sealed old new want bytes dirty is header body =
    let mid : Table = rebytes old want.at bytes in
    let written : block_at mid want.at.0 ≡ record (slot_at old want.at) { bytes = bytes } = written_slot old want.at bytes dirty in
    let place : IsFound mid want.at = found mid want.at (ap (λ (slot : BlockSlot). is_free slot.state) written ∙ ap is_free dirty) in
    let here : block_at new want.at.0 ≡ sealed_of (slot_at mid want.at) = put_slot mid new want.at (sealed_of (slot_at mid want.at)) mid.spare is place.aligned place.inside in
    let whole : block_at new want.at.0 ≡ record (slot_at old want.at) { state = Sealed; bytes = bytes; out = true } = here ∙ ap sealed_of written in
    let bytes_are : bytes ≡ (block_at new want.at.0).bytes = sym (ap (λ (slot : BlockSlot). slot.bytes) whole) in
    record {
      slot = whole ∙ ap (λ (l : List ℕ). record (slot_at old want.at) { state = Sealed; bytes = l; out = true }) bytes_are;
      header = subst (HeaderFits want) bytes_are header;
      body = subst (HasSameBody (slot_at old want.at).bytes) bytes_are body;
    }
