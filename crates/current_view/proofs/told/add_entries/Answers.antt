use Rattle.std.proofs.Common.{subst}
use Rattle.std.specs.Prelude.{All}
use Rattle.std.proofs.lemmas.List.Elements.{All-tail}
use Rattle.blk_base.specs.Entries.{EntryValue}
use Rattle.blk_base.specs.Name.{IsName}
use Rattle.item_dir.specs.Entry.{entry_view}
use Rattle.current_view.specs.Told.{entry_told}
use Rattle.current_view.proofs.Steps.{one_more}
use Rattle.current_view.proofs.told.add_entries.Goals as goal

pub loop-entry-preserved : goal.loop-entry-preserved
loop-entry-preserved c =
    let first : EntryValue = entry_view c.in-Some.entry in
    let rest = c.next.new.self in
    record {
      names = one_more (entry_told c.args.key.now) c.loop-entry.names.items c.push.new.self.items c.loop-entry.entry-iterator rest first c.in_ok-entry_name.field-0 _ c.loop-entry.invariant.names c.in-Some.ensures.steps c.in_ok-entry_name.ensures c.in_ok-push.ensures.items;
      are_names = All-tail (λ (e : EntryValue). IsName e.name) first rest (subst (All (λ (e : EntryValue). IsName e.name)) c.in-Some.ensures.steps c.loop-entry.invariant.are_names);
      can_next = tt;
      is_finite = tt;
    }
