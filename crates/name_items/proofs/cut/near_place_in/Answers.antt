use Rattle.std.proofs.Common.{◌≡◌, ◌∙◌, ◌≤◌, ◌<◌, ◌^◌, ℕ, List, length, Some, Ok, sym, ap, subst, arith}
use Rattle.std.specs.Prelude.{Contains}
use Rattle.std.specs.List.{flat_map}
use Rattle.blk_base.specs.Entries.{RefValue, ref_bytes}
use Rattle.blk_base.specs.Leaf.{Item}
use Rattle.tree_range.specs.Between.{data_under, data_view}
use Rattle.tree_range.specs.Shape.{tree_items}
use Rattle.name_items.specs.Places.{HasPlace, IsRefNamed}
use Rattle.name_items.proofs.Opened.{refs_read}
use Rattle.name_items.proofs.cut.near_place_in.Goals as goal

pub near_place-requires-clause-there : goal.near_place-requires-clause-there
near_place-requires-clause-there c =
    let items : List Item = tree_items c.args.table.now c.args.tree.now in
    let there : Some c.in-Some.bytes.now ≡ data_under c.args.key.now items = sym (ap data_view c.in-Some.is) ∙ c.get.ensures in
    let found : List RefValue = c.requires.there.0 in
    let read = refs_read c.args.key.now items c.in-Some.bytes.now found there c.requires.there.1 in
    let same : Ok c.in-Ok.refs ≡ Ok found = sym c.in-Ok.is ∙ c.open.ensures ∙ read in
    let is : c.in-Ok.refs ≡ found = cc in
    subst (λ (l : List RefValue). (e : RefValue) × Contains l e × IsRefNamed c.args.name.now.bytes.now e) (sym is) (c.requires.there.2, c.requires.there.3, c.requires.there.4)

pub near_place-requires-clause-few : goal.near_place-requires-clause-few
near_place-requires-clause-few c =
    let items : List Item = tree_items c.args.table.now c.args.tree.now in
    let there : Some c.in-Some.bytes.now ≡ data_under c.args.key.now items = sym (ap data_view c.in-Some.is) ∙ c.get.ensures in
    let found : List RefValue = c.requires.there.0 in
    let read = refs_read c.args.key.now items c.in-Some.bytes.now found there c.requires.there.1 in
    let same : Ok c.in-Ok.refs ≡ Ok found = sym c.in-Ok.is ∙ c.open.ensures ∙ read in
    let is : c.in-Ok.refs ≡ found = cc in
    let size : length (flat_map ref_bytes found) ≤ 3970 = subst (λ (l : List ℕ). length l ≤ 3970) c.requires.there.1.spelled c.requires.short in
    subst (λ (l : List RefValue). length (flat_map ref_bytes l) < 2 ^ 32) (sym is) (omega (arith, size))

pub unreachable-requires : goal.unreachable-requires
unreachable-requires c =
    let items : List Item = tree_items c.args.table.now c.args.tree.now in
    let there : Some c.in-Some.bytes.now ≡ data_under c.args.key.now items = sym (ap data_view c.in-Some.is) ∙ c.get.ensures in
    let found : List RefValue = c.requires.there.0 in
    let read = refs_read c.args.key.now items c.in-Some.bytes.now found there c.requires.there.1 in
    let err = sym c.in-Err.is ∙ c.open.ensures ∙ read in
    cc

pub returns : goal.returns
returns c = λ found is_found.
    let items : List Item = tree_items c.args.table.now c.args.tree.now in
    let there : Some c.in-Some.bytes.now ≡ data_under c.args.key.now items = sym (ap data_view c.in-Some.is) ∙ c.get.ensures in
    let read = refs_read c.args.key.now items c.in-Some.bytes.now found there is_found in
    let same : Ok c.in-Ok.refs ≡ Ok found = sym c.in-Ok.is ∙ c.open.ensures ∙ read in
    let is : c.in-Ok.refs ≡ found = cc in
    subst (λ (l : List RefValue). HasPlace ref_bytes (IsRefNamed c.args.name.now.bytes.now) l c.near_place.result.0 c.near_place.result.1) is c.near_place.ensures
