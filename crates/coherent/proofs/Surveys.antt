-- What the names of a tree say together is a survey of them.
use Rattle.std.proofs.Common.{◌≡◌, ◌↔◌, ℕ, List, count_by, Contains, sym, ap, subst, ◌∙◌}
use Rattle.std.proofs.lemmas.List.Sorted.{Contains-permutation, IsPermutation-sym}
use Rattle.std.specs.List.Sorted.{IsPermutation}
use Rattle.std.specs.Prelude.{IsTrue}
use Rattle.blk_base.specs.Leaf.{Item}
use Rattle.flat_model.specs.Coherent.{LeadsUp}
use Rattle.flat_model.specs.Names.{FlatName, leads_to}
use Rattle.flat_model.specs.Volume.{Subvolume}
use Rattle.volume_image.proofs.Members.{in_map, map_in}
use Rattle.coherent_names.specs.Names.{all_names, flat_names, flat_of}
use Rattle.coherent_names.specs.declared.name.Name.{Name}
use Rattle.coherent_slots.specs.Slots.{AreSlots}
use Rattle.coherent_sums.specs.Sums.{links_in}
use Rattle.coherent_ways.specs.Ways.{has_reached}
use Rattle.coherent.specs.Passes.{IsSurvey}
use Rattle.coherent.specs.declared.survey.Survey.{Survey}
use Rattle.coherent.proofs.Names.{leads_by}

moved : (some others : List Name) → ((x : Name) → Contains some x → Contains others x) → (name : FlatName) → Contains (flat_names some) name → Contains (flat_names others) name
moved some others inside name c = let found = in_map flat_of some name c in subst (Contains (flat_names others)) found.2 (map_in flat_of others found.0 (inside found.0 found.1))

pub survey_is : (items : List Item) (sub : Subvolume) (survey : Survey) (names sorted : List Name) → flat_names names ≡ all_names items → AreSlots items sub (flat_names names) survey.slots
    → ((ino : ℕ) → links_in survey.links ino ≡ count_by (leads_to ino) (flat_names names)) → IsPermutation names sorted
    → ((ino : ℕ) → IsTrue (has_reached survey.reached ino) ↔ ((way : List FlatName) × LeadsUp (flat_names sorted) ino way)) → IsSurvey items sub survey
survey_is items sub survey names sorted all slots links same reached = record {
  slots = subst (λ ns. AreSlots items sub ns survey.slots) all slots;
  links = λ ino. links ino ∙ ap (count_by (leads_to ino)) all;
  reached = λ ino. (
    λ h. let up = (reached ino).0 h in (up.0, leads_by (flat_names sorted) (all_names items) (λ name c. subst (λ ns. Contains ns name) all (moved sorted names back name c)) ino up.0 up.1),
    λ up. (reached ino).1 (up.0, leads_by (all_names items) (flat_names sorted) (λ name c. moved names sorted forth name (subst (λ ns. Contains ns name) (sym all) c)) ino up.0 up.1),
  );
}
  where
    forth : (x : Name) → Contains names x → Contains sorted x
    forth x c = Contains-permutation names sorted x same c

    back : (x : Name) → Contains sorted x → Contains names x
    back x c = Contains-permutation sorted names x (IsPermutation-sym names sorted same) c
