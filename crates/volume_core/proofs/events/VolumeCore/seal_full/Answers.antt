use Rattle.std.proofs.Common.{refl, sym}
use Rattle.commit_core.specs.Coming.{state_of}
use Rattle.commit_blocks.proofs.SealSays.{list_out, places, says}
use Rattle.volume_core.proofs.Behind.{none_out}
use Rattle.volume_core.proofs.Handing.{is_sealed_full, no_parts}
use Rattle.volume_core.proofs.events.VolumeCore.seal_full.Goals as goal

pub returns-clause-sealed : goal.returns-clause-sealed
returns-clause-sealed c = λ mounted scene h may.
    is_sealed_full c.args.self.now _ mounted scene c.args.caller h may _ c.seal-blocks.ensures refl refl c.take.ensures.after (c.sealed.ensures mounted.volume scene.events may h.callers)

pub returns-clause-says : goal.returns-clause-says
returns-clause-says c =
    let has = c.requires.has in
    says c.args.self.now.kept c.seal-blocks.new.self has.0.image (state_of has.0 has.1).current has.1 _ c.seal-blocks.result has.2.kept (none_out c.args.self.now has.0 has.1 c.args.caller has.2 has.3) c.seal-blocks.ensures

pub returns-clause-places : goal.returns-clause-places
returns-clause-places c =
    let has = c.requires.has in
    places c.args.self.now.kept c.seal-blocks.new.self has.0.image (state_of has.0 has.1).current has.1 _ c.seal-blocks.result has.2.kept (none_out c.args.self.now has.0 has.1 c.args.caller has.2 has.3) c.seal-blocks.ensures

pub returns-clause-out : goal.returns-clause-out
returns-clause-out c =
    let has = c.requires.has in
    let none = none_out c.args.self.now has.0 has.1 c.args.caller has.2 has.3 in
    record {
      running = (c.seal-blocks.ensures.root, c.seal-blocks.ensures.is_out);
      list = list_out c.args.self.now.kept c.seal-blocks.new.self has.0.image (state_of has.0 has.1).current has.1 _ c.seal-blocks.result has.2.kept none c.seal-blocks.ensures;
      parts = no_parts c.args.self.now.kept.sealed c.args.self.now.spares c.in-Some.spares none has.2.spares (sym c.in-Some.ensures.value);
    }
