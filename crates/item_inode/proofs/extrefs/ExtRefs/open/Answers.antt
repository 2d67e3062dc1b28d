-- Each check answers as the definition does.
use Rattle.std.proofs.Common.{sym, ◌∙◌}
use Rattle.blk_base.specs.Entries.{ExtRefValue, all_entries, extref_from, extrefs_of}
use Rattle.blk_base.specs.Name.{is_name}
use Rattle.item_laws.specs.Named.{with_names-empty, with_names-cut, with_names-bad, with_names-good}
use Rattle.item_inode.specs.Names.{extrefs_in}
use Rattle.item_inode.proofs.extrefs.ExtRefs.open.Goals as goal

pub returns-then-is_empty : goal.returns-then-is_empty
unfolding extrefs_of extrefs_in
returns-then-is_empty c =
    with_names-empty is_name (λ (r : ExtRefValue). r.name) c.args.bytes.now (all_entries extref_from c.args.bytes.now) (sym c.is_empty.ensures ∙ c.if-is_empty.true)

pub returns-then-not-is_whole : goal.returns-then-not-is_whole
unfolding extrefs_of extrefs_in
returns-then-not-is_whole c =
    with_names-cut is_name (λ (r : ExtRefValue). r.name) c.args.bytes.now (all_entries extref_from c.args.bytes.now) (sym c.is_empty.ensures ∙ c.if-is_empty.false) (sym c.is_whole.ensures ∙ c.if-not-is_whole.true)

pub returns-then-not-all_named : goal.returns-then-not-all_named
unfolding extrefs_of extrefs_in
returns-then-not-all_named c =
    with_names-bad is_name (λ (r : ExtRefValue). r.name) c.args.bytes.now (all_entries extref_from c.args.bytes.now) (sym c.is_empty.ensures ∙ c.if-is_empty.false) (sym c.is_whole.ensures ∙ c.if-not-is_whole.false) (sym c.all_named.ensures ∙ c.if-not-all_named.true)

pub returns : goal.returns
unfolding extrefs_of extrefs_in
returns c =
    with_names-good is_name (λ (r : ExtRefValue). r.name) c.args.bytes.now (all_entries extref_from c.args.bytes.now) (sym c.is_empty.ensures ∙ c.if-is_empty.false) (sym c.is_whole.ensures ∙ c.if-not-is_whole.false) (sym c.all_named.ensures ∙ c.if-not-all_named.false)
