use Rattle.std.proofs.Common.{false, [], take, refl, sym, subst}
use Rattle.std.specs.List.{slice_index_or}
use Rattle.image_faults.specs.Said.{said_sub}
use Rattle.tree_range.specs.Shape.{tree_items}
use Rattle.coherent_names.specs.Names.{flat_names, flat_of}
use Rattle.coherent_names.specs.declared.name.Name.{Name}
use Rattle.coherent_slots.specs.Slots.{AreSlots, IsLeastBad}
use Rattle.coherent_slots.proofs.Adding.{more_least, more_slots, taken}
use Rattle.coherent_slots.proofs.slots.slots_of.Goals as goal

-- the name that a read beyond a list's end would give
unfoldable no_name : Name
no_name = record { found = record { ino = record { 0 = 0 }; dir = record { 0 = 0 }; index = 0; name = record { ref_ptr = (0, 0); now = [] } }; near = false }

pub loop-name-preserved : goal.loop-name-preserved
unfolding no_name
loop-name-preserved c =
    let items = tree_items c.args.table.now c.args.tree.now in
    let name = slice_index_or c.args.names.now c.loop-name.name-index no_name in
    let before = flat_names (take c.loop-name.name-index c.args.names.now) in
    let longer = sym (taken c.args.names.now c.loop-name.name-index no_name c.loop-name-test.true) in
    record {
      slots = λ blocks. subst (λ ns. AreSlots items (said_sub items blocks) ns c.add.new.self) longer
          (more_slots items (said_sub items blocks) before (flat_of name) c.loop-name.slots c.add.new.self c.in_ok-alone.alone (c.loop-name.invariant.slots blocks) (c.in_ok-alone.ensures blocks));
      least = λ blocks. subst (λ ns. IsLeastBad items (said_sub items blocks) ns c.least_bad-least.result) longer
          (more_least items (said_sub items blocks) before (flat_of name) c.loop-name.slots c.add.new.self c.loop-name.least c.least_bad-least.result name.found.ino c.in_ok-alone.alone refl
          (c.loop-name.invariant.slots blocks) (c.in_ok-alone.ensures blocks) c.least_bad-least.ensures.kept c.least_bad-least.ensures.lowered (c.loop-name.invariant.least blocks));
    }
