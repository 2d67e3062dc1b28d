use Rattle.std.proofs.Common.{◌≡◌, ◌∙◌, ◌≤◌, ◌<◌, ◌^◌, ℕ, List, length, Some, Ok, sym, ap, subst, arith}
use Rattle.std.specs.Prelude.{Contains}
use Rattle.std.specs.List.{flat_map}
use Rattle.blk_base.specs.Entries.{ExtRefValue, extref_bytes}
use Rattle.blk_base.specs.Leaf.{Item}
use Rattle.tree_range.specs.Between.{data_under, data_view}
use Rattle.tree_range.specs.Shape.{tree_items}
use Rattle.name_items.specs.Places.{HasPlace, IsFarNamed}
use Rattle.name_items.proofs.Opened.{extrefs_read}
use Rattle.name_items.proofs.cut.far_place_in.Goals as goal

pub far_place-requires-clause-there : goal.far_place-requires-clause-there
far_place-requires-clause-there c =
    let items : List Item = tree_items c.args.table.now c.args.tree.now in
    let there : Some c.in-Some.bytes.now ≡ data_under c.args.key.now items = sym (ap data_view c.in-Some.is) ∙ c.get.ensures in
    let found : List ExtRefValue = c.requires.there.0 in
    let read = extrefs_read c.args.key.now items c.in-Some.bytes.now found there c.requires.there.1 in
    let same : Ok c.in-Ok.refs ≡ Ok found = sym c.in-Ok.is ∙ c.open.ensures ∙ read in
    let is : c.in-Ok.refs ≡ found = cc in
    subst (λ (l : List ExtRefValue). (e : ExtRefValue) × Contains l e × IsFarNamed c.args.name.now.dir.0 c.args.name.now.bytes.now e) (sym is) (c.requires.there.2, c.requires.there.3, c.requires.there.4)

pub far_place-requires-clause-few : goal.far_place-requires-clause-few
far_place-requires-clause-few c =
    let items : List Item = tree_items c.args.table.now c.args.tree.now in
    let there : Some c.in-Some.bytes.now ≡ data_under c.args.key.now items = sym (ap data_view c.in-Some.is) ∙ c.get.ensures in
    let found : List ExtRefValue = c.requires.there.0 in
    let read = extrefs_read c.args.key.now items c.in-Some.bytes.now found there c.requires.there.1 in
    let same : Ok c.in-Ok.refs ≡ Ok found = sym c.in-Ok.is ∙ c.open.ensures ∙ read in
    let is : c.in-Ok.refs ≡ found = cc in
    let size : length (flat_map extref_bytes found) ≤ 3970 = subst (λ (l : List ℕ). length l ≤ 3970) c.requires.there.1.spelled c.requires.short in
    subst (λ (l : List ExtRefValue). length (flat_map extref_bytes l) < 2 ^ 32) (sym is) (omega (arith, size))

pub unreachable-requires : goal.unreachable-requires
unreachable-requires c =
    let items : List Item = tree_items c.args.table.now c.args.tree.now in
    let there : Some c.in-Some.bytes.now ≡ data_under c.args.key.now items = sym (ap data_view c.in-Some.is) ∙ c.get.ensures in
    let found : List ExtRefValue = c.requires.there.0 in
    let read = extrefs_read c.args.key.now items c.in-Some.bytes.now found there c.requires.there.1 in
    let err = sym c.in-Err.is ∙ c.open.ensures ∙ read in
    cc

pub returns : goal.returns
returns c = λ found is_found.
    let items : List Item = tree_items c.args.table.now c.args.tree.now in
    let there : Some c.in-Some.bytes.now ≡ data_under c.args.key.now items = sym (ap data_view c.in-Some.is) ∙ c.get.ensures in
    let read = extrefs_read c.args.key.now items c.in-Some.bytes.now found there is_found in
    let same : Ok c.in-Ok.refs ≡ Ok found = sym c.in-Ok.is ∙ c.open.ensures ∙ read in
    let is : c.in-Ok.refs ≡ found = cc in
    subst (λ (l : List ExtRefValue). HasPlace extref_bytes (IsFarNamed c.args.name.now.dir.0 c.args.name.now.bytes.now) l c.far_place.result.0 c.far_place.result.1) is c.far_place.ensures
