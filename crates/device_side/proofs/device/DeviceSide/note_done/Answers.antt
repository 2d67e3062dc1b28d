use Rattle.std.proofs.Common.{◌≡◌, ◌<◌, ◌+◌, ℕ, List, fold, length, take, slice_set, arith, sym, ap, ◌∙◌}
use Rattle.std.proofs.lemmas.List.Sums.{fold_more}
use Rattle.std.proofs.lemmas.Option.{get_or_from_slice_get}
use Rattle.block_table.specs.declared.batch.Part.{Part}
use Rattle.device_side.specs.Device.{with_covered}
use Rattle.device_side.proofs.device.DeviceSide.note_done.Goals as goal

pub loop-place-preserved : goal.loop-place-preserved
loop-place-preserved c =
    let parts : List Part = c.args.batch.now.parts in
    let part : Part = c.get-part.result.now in
    let place : ℕ = c.loop-place.place in
    let covered : List ℕ = c.loop-place.self-inside.covered in
    let within : place < length parts = omega (arith, c.loop-place.invariant.end) in
    let one : slice_set covered c.place_of-sub.result c.max.result ≡ with_covered covered part = cc in
    let more : fold with_covered c.args.self.now.covered (take (place + 1) parts) ≡ with_covered covered part =
    fold_more with_covered c.args.self.now.covered parts place part within
    ∙ ap (λ (p : Part). with_covered (fold with_covered c.args.self.now.covered (take place parts)) p) (get_or_from_slice_get parts place part part c.get-part.ensures)
    ∙ ap (λ (l : List ℕ). with_covered l part) (sym c.loop-place.invariant.covered) in record {
      end = c.loop-place.invariant.end;
      marks = c.loop-place.invariant.marks;
      failed = c.loop-place.invariant.failed;
      covered = one ∙ sym more;
      written = c.loop-place.invariant.written;
    }
