use Rattle.std.proofs.Common.{subst}
use Rattle.std.specs.Prelude.{All}
use Rattle.std.proofs.lemmas.List.Elements.{All-tail}
use Rattle.blk_base.specs.Entries.{RefValue}
use Rattle.blk_base.specs.Name.{IsName}
use Rattle.current_view.specs.Told.{near_told}
use Rattle.current_view.proofs.Steps.{one_more}
use Rattle.current_view.proofs.told.add_near.Goals as goal

pub loop-index-preserved : goal.loop-index-preserved
loop-index-preserved c =
    let first : RefValue = record { index = c.in-Some.index; name = c.in-Some.name.now } in
    let rest = c.next.new.self in
    record {
      names = one_more (near_told c.args.key.now) c.loop-index.names.items c.push.new.self.items c.loop-index.index-iterator rest first c.in_ok-ref_name.field-0 _ c.loop-index.invariant.names c.in-Some.ensures.steps c.in_ok-ref_name.ensures c.in_ok-push.ensures.items;
      are_names = All-tail (λ (e : RefValue). IsName e.name) first rest (subst (All (λ (e : RefValue). IsName e.name)) c.in-Some.ensures.steps c.loop-index.invariant.are_names);
      can_next = tt;
      is_finite = tt;
    }
