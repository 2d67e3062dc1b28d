use Rattle.std.proofs.Common.{◌≡◌, ◌≤◌, ◌-◌, ◌++◌, ℕ, List, length, drop, refl, ap, arith, ◌∙◌, length-drop}
use Rattle.std.proofs.lemmas.List.{length-take-le}
use Rattle.blk_base.specs.Bytes.{bytes_at, with_bytes}
use Rattle.leaf_edit.specs.Parts.{with_bytes-with_bytes, copied}
use Rattle.leaf_edit.proofs.body.make_room.Goals as goal

-- bytes that move down, and others behind them
moved : (b0 b1 b2 : List ℕ) (low bound size : ℕ) (content : List ℕ) → b1 ≡ with_bytes b0 (low - size) (bytes_at (bound - low) b0 low) → b2 ≡ with_bytes b1 (bound - size) content
    → size ≡ length content → size ≤ low → low ≤ bound → bound ≤ length b0 → b2 ≡ with_bytes b0 (low - length content) (bytes_at (bound - low) b0 low ++ content)
moved b0 b1 b2 low bound size content first second is room order inside =
    let long : length (bytes_at (bound - low) b0 low) ≡ bound - low = length-take-le (bound - low) (drop low b0) (omega (arith, length-drop low b0)) in
    second ∙ ap (λ b. with_bytes b (bound - size) content) first
    ∙ with_bytes-with_bytes b0 (low - size) (bound - size) (bytes_at (bound - low) b0 low) content (omega arith) (omega arith)
    ∙ ap (λ n. with_bytes b0 (low - n) (bytes_at (bound - low) b0 low ++ content)) is

pub returns : goal.returns
returns c =
    moved c.args.block.now c.copy_within.new.self c.put_bytes.new.bytes c.args.low c.args.bound (length c.args.content.now) c.args.content.now
    (c.copy_within.ensures.after ∙ copied c.args.block.now c.args.low c.args.bound (c.args.low - length c.args.content.now) (omega (arith, c.told-block))) c.put_bytes.ensures refl c.requires.room c.requires.order (omega (arith, c.told-block))
