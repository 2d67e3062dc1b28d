use Rattle.std.proofs.Common.{◌≡◌, ◌↔◌, ℕ, List, count_by, subst}
use Rattle.std.specs.Prelude.{IsTrue}
use Rattle.flat_model.specs.Coherent.{LeadsUp}
use Rattle.flat_model.specs.Names.{FlatName, leads_to}
use Rattle.image_faults.specs.Said.{said_sub}
use Rattle.tree_range.specs.Shape.{tree_items}
use Rattle.coherent_names.specs.Names.{flat_names}
use Rattle.coherent_names.specs.declared.name.Name.{Name}
use Rattle.coherent_slots.specs.Slots.{AreSlots}
use Rattle.coherent_sums.specs.Sums.{links_in}
use Rattle.coherent_ways.specs.Ways.{has_reached}
use Rattle.coherent.proofs.Surveys.{survey_is}
use Rattle.coherent.proofs.survey.survey_of.Goals as goal

pub returns-clause-survey : goal.returns-clause-survey
returns-clause-survey c = λ blocks.
    let items = tree_items c.args.table.now c.args.tree.now in
    let one : c.deref.result.now ≡ c.in_ok-names.names.items = cc in
    let two : c.deref-2.result.now ≡ c.in_ok-names.names.items = cc in
    let three : c.deref-3.result.now ≡ c.sort_by_directory.new.names.items = cc in
    survey_is items (said_sub items blocks) (record { slots = c.in_ok-slots.slots; links = c.in_ok-links.links; reached = c.in_ok-reached.reached })
    c.in_ok-names.names.items c.sort_by_directory.new.names.items c.in_ok-names.ensures
    (subst (λ (ns : List Name). AreSlots items (said_sub items blocks) (flat_names ns) c.in_ok-slots.slots) one (c.in_ok-slots.ensures.slots blocks))
    (subst (λ (ns : List Name). (ino : ℕ) → links_in c.in_ok-links.links ino ≡ count_by (leads_to ino) (flat_names ns)) two c.in_ok-links.ensures)
    c.sort_by_directory.ensures.same
    (subst (λ (ns : List Name). (ino : ℕ) → (IsTrue (has_reached c.in_ok-reached.reached ino) ↔ ((way : List FlatName) × LeadsUp (flat_names ns) ino way))) three c.in_ok-reached.ensures)
