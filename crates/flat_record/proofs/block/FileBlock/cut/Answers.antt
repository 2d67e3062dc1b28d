use Rattle.std.proofs.Common.{◌≡◌, ◌<◌, ◌+◌, ℕ, length, replicate, set, ap, sym, ◌∙◌, arith}
use Rattle.std.proofs.lemmas.List.{length-replicate}
use Rattle.std.proofs.lemmas.List.Edits.{fill_from_more, length-paste}
use Rattle.std.proofs.lemmas.List.Elements.{All-set}
use Rattle.flat_record.proofs.block.FileBlock.cut.Goals as goal

pub loop-past-preserved : goal.loop-past-preserved
loop-past-preserved c =
    let from = c.args.from in
    let past = c.loop-past.past in
    let long : length c.args.self.now ≡ 4096 = ap length (sym c.self.view_is) ∙ c.self.invariant.0 in (
      ap (λ xs. set xs (from + past) 0) c.loop-past.invariant.0 ∙ fill_from_more c.args.self.now from past 0 (omega (arith, long, c.loop-past-test.true, c.loop-past.auto.past-end, c.requires)),
      All-set (λ (byte : ℕ). byte < 256) c.loop-past.self-inside.bytes.items (from + past) 0 (omega arith) c.loop-past.invariant.1,
    )

pub invariant_of-self : goal.invariant_of-self
invariant_of-self c =
    let from = c.args.from in
    let past = c.loop-past.past in
    let long : length c.args.self.now ≡ 4096 = ap length (sym c.self.view_is) ∙ c.self.invariant.0 in
    let zeros : length {A = ℕ} (replicate past 0) ≡ past = length-replicate past 0 in
    let same = length-paste c.args.self.now from (replicate past 0) past (omega (arith, long, c.loop-past.auto.past-end, c.requires)) (omega (arith, zeros)) in
    (ap length c.loop-past.invariant.0 ∙ same ∙ long, c.loop-past.invariant.1)
