-- Each entry that is read off leaves fewer bytes, which are whole entries exactly where the bytes before were.
use Rattle.std.proofs.Common.{sym, ap, ◌∙◌}
use Rattle.blk_base.specs.Entries.{ref_from}
use Rattle.item_laws.specs.Readers.{ref_from-shortening}
use Rattle.item_laws.specs.Walk.{read_off, is_some-cut, is_some-none}
use Rattle.item_inode.specs.Names.{first_ref_view}
use Rattle.item_inode.proofs.refs.is_whole.Goals as goal

pub loop-rest-smaller : goal.loop-rest-smaller
loop-rest-smaller c = (read_off ref_from ref_from-shortening _ _ _ (sym c.first_ref.ensures ∙ ap first_ref_view c.in-Some.is)).fewer

pub loop-rest-preserved : goal.loop-rest-preserved
loop-rest-preserved c = (read_off ref_from ref_from-shortening _ _ _ (sym c.first_ref.ensures ∙ ap first_ref_view c.in-Some.is)).whole ∙ c.loop-rest.invariant

pub returns-in-None : goal.returns-in-None
returns-in-None c = sym (is_some-cut ref_from ref_from-shortening _ (sym c.is_empty.ensures ∙ c.loop-rest-test.true) (sym c.first_ref.ensures ∙ ap first_ref_view c.in-None.is)) ∙ c.loop-rest.invariant

pub returns : goal.returns
returns c = sym (is_some-none ref_from ref_from-shortening _ (sym c.is_empty.ensures ∙ c.loop-rest-test.false)) ∙ c.loop-rest.invariant
