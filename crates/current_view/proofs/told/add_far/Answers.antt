use Rattle.std.proofs.Common.{subst}
use Rattle.std.specs.Prelude.{All}
use Rattle.std.proofs.lemmas.List.Elements.{All-tail}
use Rattle.blk_base.specs.Entries.{ExtRefValue}
use Rattle.blk_base.specs.Name.{IsName}
use Rattle.current_view.specs.Told.{far_told}
use Rattle.current_view.proofs.Steps.{one_more}
use Rattle.current_view.proofs.told.add_far.Goals as goal

pub loop-dir-preserved : goal.loop-dir-preserved
loop-dir-preserved c =
    let first : ExtRefValue = record { parent = c.in-Some.dir.0; index = c.in-Some.index; name = c.in-Some.name.now } in
    let rest = c.next.new.self in
    record {
      names = one_more (far_told c.args.key.now) c.loop-dir.names.items c.push.new.self.items c.loop-dir.dir-iterator rest first c.in_ok-ref_name.field-0 _ c.loop-dir.invariant.names c.in-Some.ensures.steps c.in_ok-ref_name.ensures c.in_ok-push.ensures.items;
      are_names = All-tail (λ (e : ExtRefValue). IsName e.name) first rest (subst (All (λ (e : ExtRefValue). IsName e.name)) c.in-Some.ensures.steps c.loop-dir.invariant.are_names);
      can_next = tt;
      is_finite = tt;
    }
