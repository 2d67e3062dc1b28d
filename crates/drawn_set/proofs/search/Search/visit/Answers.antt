use Rattle.std.proofs.Common.{◌≡◌, true, false, not, refl, sym, ap, ◌∙◌, subst}
use Rattle.std.proofs.lemmas.Result.{IfOk-weaker}
use Rattle.logged_volume.specs.Numbers.{is_in}
use Rattle.logged_volume.proofs.Members.{in_gives}
use Rattle.drawn_set.proofs.Parents.{dir_is_key}
use Rattle.drawn_set.proofs.Searches.{IsNoted, noted_added, noted_same, not_not, visits_before, visits_noted}
use Rattle.drawn_set.proofs.Sets.{contains_is_in, insert_is_add, not_in}
use Rattle.drawn_set.proofs.search.Search.visit.Given.{Over}
use Rattle.drawn_set.proofs.search.Search.visit.Goals as goal
use Rattle.drawn_set.proofs.search.Search.visit.Goals.{then-branch+in_ok-add, else-branch}

pub returns-then-not-branch-clause-visits : goal.returns-then-not-branch-clause-visits
returns-then-not-branch-clause-visits g c =
    let same : c.insert.new.self.keys ≡ c.args.self.now.above.keys = rw c.if-not-branch.true at c.in_ok-insert.ensures.unchanged in
    let there : is_in c.args.self.now.above.keys c.args.dir ≡ true =
    sym (contains_is_in c.args.self.now.above c.args.dir) ∙ not_not _ _ c.in_ok-insert.ensures.added ∙ ap not c.if-not-branch.true in
    visits_before (g.A.NameView.sub c.args.current.now) (g.B.NameView.sub c.args.recovered.now) c.args.dir c.args.self.now _ refl refl same (in_gives c.args.self.now.above.keys c.args.dir there)

is_noted : (g : Over) (c : goal.After-parent g) → IsNoted (g.A.NameView.sub c.args.current.now) (g.B.NameView.sub c.args.recovered.now) c.args.dir c.args.self.now c.if-branch.self
is_noted g c =
    let current = g.A.NameView.sub c.args.current.now in
    let logged = g.B.NameView.sub c.args.recovered.now in
    let keys = c.in_ok-insert.ensures.keys ∙ insert_is_add c.args.dir c.args.self.now.above.keys in
    elim c.if-branch.branch [
      | then-branch+in_ok-add w ↦
          subst (IsNoted current logged c.args.dir c.args.self.now) (sym w.self-is)
          (noted_added current logged c.args.dir w.in_ok-add.field-0 c.args.self.now _ (sym c.in_ok-is_out_of_step.ensures ∙ w.if-branch.true) (w.in_ok-add.ensures.above ∙ keys)
          (record { missing = w.in_ok-add.ensures.new; members = w.in_ok-add.ensures.members; count = w.in_ok-add.ensures.count; fresh = w.in_ok-add.ensures.fresh }))
      | else-branch w ↦
          subst (IsNoted current logged c.args.dir c.args.self.now) (sym w.self-is)
          (noted_same current logged c.args.dir c.args.self.now _ (sym c.in_ok-is_out_of_step.ensures ∙ w.if-branch.false) keys refl refl)
    ]

pub returns-clause-grows : goal.returns-clause-grows
returns-clause-grows g c = IfOk-weaker c.parent.result _ _ (λ _ _. (is_noted g c).grows) c.parent.ensures

pub returns-clause-visits : goal.returns-clause-visits
returns-clause-visits g c =
    let current = g.A.NameView.sub c.args.current.now in
    let logged = g.B.NameView.sub c.args.recovered.now in
    let missing : is_in c.args.self.now.above.keys c.args.dir ≡ false =
    sym (contains_is_in c.args.self.now.above c.args.dir) ∙ not_not _ _ c.in_ok-insert.ensures.added ∙ ap not c.if-not-branch.false in
    IfOk-weaker c.parent.result _ _ (λ next is. visits_noted current logged c.args.dir next c.args.self.now c.if-branch.self (dir_is_key current c.args.dir c.requires.dir)
    (not_in c.args.self.now.above.keys c.args.dir missing) (is_noted g c) is) c.parent.ensures
