-- Each check answers as the definition does.
use Rattle.std.proofs.Common.{sym, ◌∙◌}
use Rattle.blk_base.specs.Entries.{EntryValue, all_entries, entry_from, entries_of}
use Rattle.blk_base.specs.declared.fault.ItemFault.TheVariants.{Size, Cut, NameLen}
use Rattle.blk_base.specs.Name.{is_name}
use Rattle.item_laws.specs.Named.{with_names-empty, with_names-cut, with_names-bad, with_names-good, with_kinds-fault, with_kinds-bad, with_kinds-twice, with_kinds-good}
use Rattle.item_dir.specs.Entries.{entries_in}
use Rattle.item_dir.proofs.entries.Entries.open.Goals as goal

pub returns-then-is_empty : goal.returns-then-is_empty
unfolding entries_of entries_in
returns-then-is_empty c =
    with_kinds-fault c.args.kind Size _ (with_names-empty is_name (λ (e : EntryValue). e.name) c.args.bytes.now (all_entries entry_from c.args.bytes.now) (sym c.is_empty.ensures ∙ c.if-is_empty.true))

pub returns-then-not-is_whole : goal.returns-then-not-is_whole
unfolding entries_of entries_in
returns-then-not-is_whole c =
    with_kinds-fault c.args.kind Cut _ (with_names-cut is_name (λ (e : EntryValue). e.name) c.args.bytes.now (all_entries entry_from c.args.bytes.now) (sym c.is_empty.ensures ∙ c.if-is_empty.false) (sym c.is_whole.ensures ∙ c.if-not-is_whole.true))

pub returns-then-not-all_named : goal.returns-then-not-all_named
unfolding entries_of entries_in
returns-then-not-all_named c =
    with_kinds-fault c.args.kind NameLen _ (with_names-bad is_name (λ (e : EntryValue). e.name) c.args.bytes.now (all_entries entry_from c.args.bytes.now) (sym c.is_empty.ensures ∙ c.if-is_empty.false) (sym c.is_whole.ensures ∙ c.if-not-is_whole.false) (sym c.all_named.ensures ∙ c.if-not-all_named.true))

pub returns-then-not-all_of_kind : goal.returns-then-not-all_of_kind
unfolding entries_of entries_in
returns-then-not-all_of_kind c =
    with_kinds-bad c.args.kind (entries_in c.args.bytes.now) _ (with_names-good is_name (λ (e : EntryValue). e.name) c.args.bytes.now (all_entries entry_from c.args.bytes.now) (sym c.is_empty.ensures ∙ c.if-is_empty.false) (sym c.is_whole.ensures ∙ c.if-not-is_whole.false) (sym c.all_named.ensures ∙ c.if-not-all_named.false)) (sym c.all_of_kind.ensures ∙ c.if-not-all_of_kind.true)

pub returns-then-has_too_many : goal.returns-then-has_too_many
unfolding entries_of entries_in
returns-then-has_too_many c =
    with_kinds-twice c.args.kind (entries_in c.args.bytes.now) _ (with_names-good is_name (λ (e : EntryValue). e.name) c.args.bytes.now (all_entries entry_from c.args.bytes.now) (sym c.is_empty.ensures ∙ c.if-is_empty.false) (sym c.is_whole.ensures ∙ c.if-not-is_whole.false) (sym c.all_named.ensures ∙ c.if-not-all_named.false)) (sym c.all_of_kind.ensures ∙ c.if-not-all_of_kind.false) (sym c.has_too_many.ensures ∙ c.if-has_too_many.true)

pub returns : goal.returns
unfolding entries_of entries_in
returns c =
    with_kinds-good c.args.kind (entries_in c.args.bytes.now) _ (with_names-good is_name (λ (e : EntryValue). e.name) c.args.bytes.now (all_entries entry_from c.args.bytes.now) (sym c.is_empty.ensures ∙ c.if-is_empty.false) (sym c.is_whole.ensures ∙ c.if-not-is_whole.false) (sym c.all_named.ensures ∙ c.if-not-all_named.false)) (sym c.all_of_kind.ensures ∙ c.if-not-all_of_kind.false) (sym c.has_too_many.ensures ∙ c.if-has_too_many.false)
