use Rattle.std.proofs.Common.{List, map, ◌++◌, ◌∙◌, sym, subst, ap}
use Rattle.flat_model.specs.declared.view.NameAt.{NameAt}
use Rattle.std.specs.Prelude.{All}
use Rattle.std.proofs.lemmas.List.Elements.{All-head, All-tail}
use Rattle.blk_base.specs.Entries.{EntryValue}
use Rattle.blk_base.specs.Name.{IsName}
use Rattle.item_dir.specs.Entry.{entry_view}
use Rattle.flat_model.specs.Names.{FlatName}
use Rattle.name_walk.specs.Leads.{LeadsTo}
use Rattle.current_view.specs.Told.{held_told}
use Rattle.current_view.specs.View.{seen}
use Rattle.current_view.proofs.Steps.{one_more}
use Rattle.current_view.proofs.told.held_names.Goals as goal

pub loop-entry-init : goal.loop-entry-init
loop-entry-init c =
    let sub = seen c.args.table.now c.args.tree.now in
    let are = c.into_iter-entry-iterator.ensures.into_iter_gives in
    record {
      names = ap (λ (ns : List NameAt). ns ++ map (held_told sub c.args.dir.0) c.into_iter-entry-iterator.result) c.new-names.ensures.items ∙ ap (map (held_told sub c.args.dir.0)) are;
      are_names = subst (All (λ (e : EntryValue). IsName e.name)) (sym are) c.requires.names;
      leads = subst (All (λ (e : EntryValue). (there : FlatName) × LeadsTo sub c.args.dir.0 e.name e.target.objectid there)) (sym are) c.requires.leads;
      can_next = tt;
      is_finite = tt;
    }

pub held_name-requires-clause-leads : goal.held_name-requires-clause-leads
held_name-requires-clause-leads c = All-head (λ (e : EntryValue). (there : FlatName) × LeadsTo (seen c.args.table.now c.args.tree.now) c.args.dir.0 e.name e.target.objectid there) (entry_view c.in-Some.entry) c.next.new.self (subst (All (λ (e : EntryValue). (there : FlatName) × LeadsTo (seen c.args.table.now c.args.tree.now) c.args.dir.0 e.name e.target.objectid there)) c.in-Some.ensures.steps c.loop-entry.invariant.leads)

pub loop-entry-preserved : goal.loop-entry-preserved
loop-entry-preserved c =
    let first : EntryValue = entry_view c.in-Some.entry in
    let rest = c.next.new.self in
    let sub = seen c.args.table.now c.args.tree.now in
    let Leads : EntryValue → Type 0 = λ e. (there : FlatName) × LeadsTo sub c.args.dir.0 e.name e.target.objectid there in
    record {
      names = one_more (held_told sub c.args.dir.0) c.loop-entry.names.items c.push.new.self.items c.loop-entry.entry-iterator rest first c.in_ok-held_name.field-0 _ c.loop-entry.invariant.names c.in-Some.ensures.steps c.in_ok-held_name.ensures c.in_ok-push.ensures.items;
      are_names = All-tail (λ (e : EntryValue). IsName e.name) first rest (subst (All (λ (e : EntryValue). IsName e.name)) c.in-Some.ensures.steps c.loop-entry.invariant.are_names);
      leads = All-tail Leads first rest (subst (All Leads) c.in-Some.ensures.steps c.loop-entry.invariant.leads);
      can_next = tt;
      is_finite = tt;
    }
