-- Each check answers as the definition does.
use Rattle.std.proofs.Common.{sym, ◌∙◌}
use Rattle.blk_base.specs.Entries.{RefValue, all_entries, is_ref_name, ref_from, refs_of}
use Rattle.item_laws.specs.Named.{with_names-empty, with_names-cut, with_names-bad, with_names-good}
use Rattle.item_inode.specs.Names.{refs_in}
use Rattle.item_inode.proofs.refs.Refs.open.Goals as goal

pub returns-then-is_empty : goal.returns-then-is_empty
unfolding refs_of refs_in
returns-then-is_empty c =
    with_names-empty (is_ref_name c.args.key.now) (λ (r : RefValue). r.name) c.args.bytes.now (all_entries ref_from c.args.bytes.now) (sym c.is_empty.ensures ∙ c.if-is_empty.true)

pub returns-then-not-is_whole : goal.returns-then-not-is_whole
unfolding refs_of refs_in
returns-then-not-is_whole c =
    with_names-cut (is_ref_name c.args.key.now) (λ (r : RefValue). r.name) c.args.bytes.now (all_entries ref_from c.args.bytes.now) (sym c.is_empty.ensures ∙ c.if-is_empty.false) (sym c.is_whole.ensures ∙ c.if-not-is_whole.true)

pub returns-then-not-all_named : goal.returns-then-not-all_named
unfolding refs_of refs_in
returns-then-not-all_named c =
    with_names-bad (is_ref_name c.args.key.now) (λ (r : RefValue). r.name) c.args.bytes.now (all_entries ref_from c.args.bytes.now) (sym c.is_empty.ensures ∙ c.if-is_empty.false) (sym c.is_whole.ensures ∙ c.if-not-is_whole.false) (sym c.all_named.ensures ∙ c.if-not-all_named.true)

pub returns : goal.returns
unfolding refs_of refs_in
returns c =
    with_names-good (is_ref_name c.args.key.now) (λ (r : RefValue). r.name) c.args.bytes.now (all_entries ref_from c.args.bytes.now) (sym c.is_empty.ensures ∙ c.if-is_empty.false) (sym c.is_whole.ensures ∙ c.if-not-is_whole.false) (sym c.all_named.ensures ∙ c.if-not-all_named.false)
