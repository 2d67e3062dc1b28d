-- Each entry that is read off leaves fewer bytes, which are whole entries exactly where the bytes before were.
use Rattle.std.proofs.Common.{sym, ap, ◌∙◌}
use Rattle.blk_base.specs.Entries.{entry_from}
use Rattle.item_laws.specs.Readers.{entry_from-shortening}
use Rattle.item_laws.specs.Walk.{read_off, is_some-cut, is_some-none}
use Rattle.item_dir.specs.Entry.{first_entry_view}
use Rattle.item_dir.proofs.entries.is_whole.Goals as goal

pub loop-rest-smaller : goal.loop-rest-smaller
loop-rest-smaller c = (read_off entry_from entry_from-shortening _ _ _ (sym c.first_entry.ensures ∙ ap first_entry_view c.in-Some.is)).fewer

pub loop-rest-preserved : goal.loop-rest-preserved
loop-rest-preserved c = (read_off entry_from entry_from-shortening _ _ _ (sym c.first_entry.ensures ∙ ap first_entry_view c.in-Some.is)).whole ∙ c.loop-rest.invariant

pub returns-in-None : goal.returns-in-None
returns-in-None c = sym (is_some-cut entry_from entry_from-shortening _ (sym c.is_empty.ensures ∙ c.loop-rest-test.true) (sym c.first_entry.ensures ∙ ap first_entry_view c.in-None.is)) ∙ c.loop-rest.invariant

pub returns : goal.returns
returns c = sym (is_some-none entry_from entry_from-shortening _ (sym c.is_empty.ensures ∙ c.loop-rest-test.false)) ∙ c.loop-rest.invariant
