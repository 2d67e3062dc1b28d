use Rattle.std.proofs.Common.{◌≡◌, ◌∙◌, ◌≤◌, ◌<◌, ◌^◌, ℕ, List, length, Some, None, Ok, sym, ap, subst, arith}
use Rattle.std.specs.Prelude.{Contains}
use Rattle.std.specs.List.{flat_map}
use Rattle.blk_base.specs.Entries.{EntryValue, entry_bytes}
use Rattle.blk_base.specs.Leaf.{Item}
use Rattle.tree_range.specs.Between.{data_under, data_view}
use Rattle.tree_range.specs.Shape.{tree_items}
use Rattle.name_items.specs.Places.{HasPlace, IsEntryNamed}
use Rattle.name_items.proofs.Opened.{entries_read, entries_there}
use Rattle.name_items.proofs.cut.entry_place_in.Goals as goal

pub entry_place-requires-clause-there : goal.entry_place-requires-clause-there
entry_place-requires-clause-there c =
    let items : List Item = tree_items c.args.table.now c.args.tree.now in
    let there : Some c.in-Some.bytes.now ≡ data_under c.args.key.now items = sym (ap data_view c.in-Some.is) ∙ c.get.ensures in
    let found : List EntryValue = c.requires.there.0 in
    let read = entries_read c.args.key.now items c.in-Some.bytes.now found there c.requires.there.1 in
    let same : Ok c.in-Ok.entries ≡ Ok found = sym c.in-Ok.is ∙ c.open.ensures ∙ read in
    let is : c.in-Ok.entries ≡ found = cc in
    subst (λ (l : List EntryValue). (e : EntryValue) × Contains l e × IsEntryNamed c.args.name.now.bytes.now e) (sym is) (c.requires.there.2, c.requires.there.3, c.requires.there.4)

pub entry_place-requires-clause-few : goal.entry_place-requires-clause-few
entry_place-requires-clause-few c =
    let items : List Item = tree_items c.args.table.now c.args.tree.now in
    let there : Some c.in-Some.bytes.now ≡ data_under c.args.key.now items = sym (ap data_view c.in-Some.is) ∙ c.get.ensures in
    let found : List EntryValue = c.requires.there.0 in
    let read = entries_read c.args.key.now items c.in-Some.bytes.now found there c.requires.there.1 in
    let same : Ok c.in-Ok.entries ≡ Ok found = sym c.in-Ok.is ∙ c.open.ensures ∙ read in
    let is : c.in-Ok.entries ≡ found = cc in
    let size : length (flat_map entry_bytes found) ≤ 3970 = subst (λ (l : List ℕ). length l ≤ 3970) c.requires.there.1.spelled c.requires.short in
    subst (λ (l : List EntryValue). length (flat_map entry_bytes l) < 2 ^ 32) (sym is) (omega (arith, size))

pub unreachable-requires : goal.unreachable-requires
unreachable-requires c =
    let items : List Item = tree_items c.args.table.now c.args.tree.now in
    let there : Some c.in-Some.bytes.now ≡ data_under c.args.key.now items = sym (ap data_view c.in-Some.is) ∙ c.get.ensures in
    let found : List EntryValue = c.requires.there.0 in
    let read = entries_read c.args.key.now items c.in-Some.bytes.now found there c.requires.there.1 in
    let err = sym c.in-Err.is ∙ c.open.ensures ∙ read in
    cc

pub returns : goal.returns
returns c = λ found is_found.
    let items : List Item = tree_items c.args.table.now c.args.tree.now in
    let there : Some c.in-Some.bytes.now ≡ data_under c.args.key.now items = sym (ap data_view c.in-Some.is) ∙ c.get.ensures in
    let read = entries_read c.args.key.now items c.in-Some.bytes.now found there is_found in
    let same : Ok c.in-Ok.entries ≡ Ok found = sym c.in-Ok.is ∙ c.open.ensures ∙ read in
    let is : c.in-Ok.entries ≡ found = cc in
    subst (λ (l : List EntryValue). HasPlace entry_bytes (IsEntryNamed c.args.name.now.bytes.now) l c.entry_place.result.0 c.entry_place.result.1) is c.entry_place.ensures

pub unreachable-requires-in-None : goal.unreachable-requires-in-None
unreachable-requires-in-None c =
    let items : List Item = tree_items c.args.table.now c.args.tree.now in
    let none : None ≡ data_under c.args.key.now items = sym (ap data_view c.in-None.is) ∙ c.get.ensures in
    entries_there c.args.key.now items c.requires.there.0 none c.requires.there.1
