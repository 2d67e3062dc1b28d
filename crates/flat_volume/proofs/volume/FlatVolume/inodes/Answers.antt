use Rattle.std.proofs.Common.{◌≡◌, ◌∙◌, take, map, length, ap, subst, arith}
use Rattle.std.specs.Option.{IfSome}
use Rattle.std.proofs.Math.Seq.{take-length}
use Rattle.flat_model.specs.Volume.{RunSub}
use Rattle.flat_volume.specs.Building.{inos_of}
use Rattle.flat_volume.proofs.Each.{ino_of, inos_rising}
use Rattle.flat_volume.proofs.volume.FlatVolume.inodes.Goals as goal

pub returns : goal.returns
returns c =
    let sub = c.in-Some.sub.now in
    let all = c.deref-entry-items.result.now in
    let end : c.loop-entry.entry-index ≡ length all = omega arith in
    subst (λ o. IfSome o (λ (run : RunSub). c.loop-entry.inos.items ≡ inos_of run)) c.in-Some.ensures.view
    (c.loop-entry.invariant ∙ ap (λ n. map ino_of (take n all)) end ∙ ap (map ino_of) (take-length all ∙ c.deref-entry-items.ensures.value) ∙ inos_rising sub.inodes.items c.in-Some.ensures.kept.inodes_rise)
