use Rattle.std.proofs.Common.{◌≡◌, List, map, filter, ◌++◌, ◌∙◌, sym, subst, ap, Contains, Some}
use Rattle.std.specs.Vec.Iter.{into_iter_items}
use Rattle.coherent_names.specs.declared.name.Name.{Name}
use Rattle.coherent_names.specs.Names.{flat_names, flat_of}
use Rattle.flat_model.specs.Names.{FlatName}
use Rattle.flat_model.specs.Unmarked.{unmarked}
use Rattle.log_image.specs.LogItems.{names_in}
use Rattle.table_volume.specs.Gives.{data_in}
use Rattle.tree_range.specs.Shape.{tree_items}
use Rattle.volume_image.proofs.Reaches.{head_in, tail_in}
use Rattle.recovered_view.specs.Log.{log_said}
use Rattle.recovered_view.specs.Wanted.{is_wanted}
use Rattle.recovered_view.proofs.Told.{all_named, all_said, one_added, one_passed}
use Rattle.recovered_view.proofs.logged.add_logged.Goals as goal

pub loop-name-init : goal.loop-name-init
loop-name-init c =
    let items = tree_items c.args.table.now c.args.log.now in
    let log = log_said c.args.table.now (Some c.args.log.now) in
    let same : flat_names (into_iter_items c.into_iter-name-iterator.result) ≡ names_in items =
    ap flat_names c.into_iter-name-iterator.ensures.into_iter_gives.0 ∙ c.in_ok-logged.ensures ∙ all_said items (data_in c.args.table.now) log c.requires.log.items c.requires.unnamed in (
      ap (λ (ns : List FlatName). c.args.names.now.items ++ map unmarked (filter (is_wanted c.args.wanted) ns)) same,
      λ name d. all_named items (data_in c.args.table.now) log c.requires.log.items c.requires.unnamed name (subst (λ (ns : List FlatName). Contains ns name) same d),
      tt,
      tt,
    )

pub copy_of-requires : goal.copy_of-requires
copy_of-requires c =
    c.loop-name.invariant.1 (flat_of c.in-Some.name)
    (subst (λ (ns : List Name). Contains (flat_names ns) (flat_of c.in-Some.name)) (sym c.in-Some.ensures.steps.0) (head_in (flat_of c.in-Some.name) (flat_names (into_iter_items c.next.new.self))))

pub loop-name-preserved-in_ok-push : goal.loop-name-preserved-in_ok-push
loop-name-preserved-in_ok-push c = (
  one_added unmarked (is_wanted c.args.wanted) flat_of c.loop-name.names.items c.push.new.self.items (into_iter_items c.loop-name.name-iterator) (into_iter_items c.next.new.self) c.in-Some.name c.in_ok-copy_of.field-0 _
      c.loop-name.invariant.0 c.in-Some.ensures.steps.0 (sym (c.is_wanted.ensures c.in-Some.name.near) ∙ c.if-is_wanted.true) (c.in_ok-copy_of.ensures c.in-Some.name.near) c.in_ok-push.ensures.items,
  λ name d. c.loop-name.invariant.1 name (subst (λ (ns : List Name). Contains (flat_names ns) name) (sym c.in-Some.ensures.steps.0) (tail_in (flat_of c.in-Some.name) name (flat_names (into_iter_items c.next.new.self)) d)),
  tt,
  tt,
)

pub loop-name-preserved : goal.loop-name-preserved
loop-name-preserved c = (
  one_passed unmarked (is_wanted c.args.wanted) flat_of c.loop-name.names.items (into_iter_items c.loop-name.name-iterator) (into_iter_items c.next.new.self) c.in-Some.name _
      c.loop-name.invariant.0 c.in-Some.ensures.steps.0 (sym (c.is_wanted.ensures c.in-Some.name.near) ∙ c.if-is_wanted.false),
  λ name d. c.loop-name.invariant.1 name (subst (λ (ns : List Name). Contains (flat_names ns) name) (sym c.in-Some.ensures.steps.0) (tail_in (flat_of c.in-Some.name) name (flat_names (into_iter_items c.next.new.self)) d)),
  tt,
  tt,
)
