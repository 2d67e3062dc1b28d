use Rattle.std.proofs.Common.{◌≡◌, ◌*◌, ◌+◌, ◌&&◌, false, length, nat_le, nat_lt, ap, sym, ◌∙◌, replicate, slice_index, unwrap_or, arith}
use Rattle.std.proofs.lemmas.Bool.{and_left, and_right, lt-leb, le-ltb}
use Rattle.flat_record.proofs.Files.{byte_in_block, unwritten}
use Rattle.flat_record.proofs.blocks.written_byte.Goals.{else-offset-place-via-then-offset-place+else-place-offset, else-offset-place-via-else-offset-place}
use Rattle.flat_record.proofs.blocks.written_byte.Goals as goal

pub returns : goal.returns
returns c = λ blocks is.
    let at = c.args.number * 4096 + c.args.at in
    let outside : (nat_le c.args.offset at && nat_lt at (c.args.offset + length c.args.text.now)) ≡ false = elim c.else-offset-place.branch [
      | else-offset-place-via-then-offset-place+else-place-offset w ↦ and_right (nat_le c.args.offset at) (nat_lt at (c.args.offset + length c.args.text.now)) (le-ltb at (c.args.offset + length c.args.text.now) (omega (arith, w.if-place-offset.false, w.len.ensures.value)))
      | else-offset-place-via-else-offset-place w ↦ and_left (nat_le c.args.offset at) (nat_lt at (c.args.offset + length c.args.text.now)) (lt-leb c.args.offset at w.if-offset-place.false)
    ] in
    c.byte_of.ensures ∙ ap (λ o. slice_index (unwrap_or o (replicate 4096 0)) c.args.at) is ∙ sym (byte_in_block blocks c.args.number c.args.at c.requires.place) ∙ sym (unwritten blocks c.args.offset c.args.text.now at outside)
