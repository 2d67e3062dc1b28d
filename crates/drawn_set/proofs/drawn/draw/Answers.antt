use Rattle.std.proofs.Common.{◌≡◌, false, not, ℕ, List, filter, map, ap, ◌∙◌}
use Rattle.std.specs.BTreeSet.{contains}
use Rattle.std.specs.Ordering.{nat_cmp}
use Rattle.std.specs.Prelude.{find}
use Rattle.std.proofs.lemmas.List.Elements.{filter_agree}
use Rattle.logged_volume.specs.Agreement.{is_there}
use Rattle.logged_volume.specs.Drawn.{drawn_set, least_set}
use Rattle.logged_volume.specs.Numbers.{is_in}
use Rattle.drawn_set.specs.Drawn.{ino_of}
use Rattle.drawn_set.specs.Stranded.{does_strand}
use Rattle.drawn_set.proofs.Sets.{contains_is_in}
use Rattle.drawn_set.proofs.Stranding.{first_stranding}
use Rattle.drawn_set.proofs.drawn.draw.Goals as goal

pub returns : goal.returns
returns g c =
    let current = g.A.NameView.sub c.args.current.now in
    let logged = g.B.NameView.sub c.args.recovered.now in
    let target = c.args.target.0 in
    let members = c.in_ok-members.members in
    let all : members.all.keys ≡ drawn_set current logged target = c.in_ok-members.ensures.all in
    let plain : members.plain.keys ≡ least_set current logged target false = c.in_ok-members.ensures.plain in
    let gone : c.in_ok-gone.gone.items ≡ map ino_of (filter (λ ino. not (is_there current ino)) (drawn_set current logged target)) =
    c.in_ok-gone.ensures ∙ ap (λ (s : List ℕ). map ino_of (filter (λ ino. not (is_there current ino)) s)) all in
    record {
      present = c.in_ok-present.ensures ∙ ap (λ (s : List ℕ). map ino_of (filter (is_there current) s)) all;
      gone = gone;
      conflicts = c.in_ok-conflicts.ensures
          ∙ ap (map ino_of) (filter_agree (λ ino. not (contains nat_cmp members.plain ino)) (λ ino. not (is_in (least_set current logged target false) ino))
          (λ ino. ap not (contains_is_in members.plain ino ∙ ap (λ (s : List ℕ). is_in s ino) plain)) members.all.keys)
          ∙ ap (λ (s : List ℕ). map ino_of (filter (λ ino. not (is_in (least_set current logged target false) ino)) s)) all;
      stranded = c.in_ok-stranded.ensures
          ∙ ap (find (does_strand logged members.all.keys)) (c.deref.ensures.value ∙ gone)
          ∙ ap (λ (s : List ℕ). find (does_strand logged s) (map ino_of (filter (λ ino. not (is_there current ino)) (drawn_set current logged target)))) all
          ∙ first_stranding current logged (drawn_set current logged target) (drawn_set current logged target);
    }
