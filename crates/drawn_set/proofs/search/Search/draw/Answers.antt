use Rattle.std.proofs.Common.{◌≡◌, ◌⊎◌, false, true, sym, ◌∙◌, subst, inl, inr}
use Rattle.std.proofs.lemmas.Result.{IfOk-weaker}
use Rattle.logged_volume.specs.Agreement.{is_there}
use Rattle.drawn_set.specs.Names.{AreParents}
use Rattle.drawn_set.specs.Search.{ClimbsAll, Grows}
use Rattle.drawn_set.proofs.Parents.{parent_is_dir}
use Rattle.drawn_set.proofs.Searches.{IsAdded, draws_alone, draws_climbed, grows_added, grows_on, ok_both}
use Rattle.drawn_set.proofs.search.Search.draw.Goals as goal
use Rattle.drawn_set.proofs.search.Search.draw.Goals.{then-not-branch-via-then-not-branch, then-not-branch-via-else-not-branch+then-not-has}

pub returns-then-not-branch-clause-grows : goal.returns-then-not-branch-clause-grows
returns-then-not-branch-clause-grows g c =
    let says = c.in_ok-add.ensures in
    let added : IsAdded c.args.ino c.in_ok-add.field-0 c.args.self.now c.add.new.self = record { missing = says.new; members = says.members; count = says.count; fresh = says.fresh } in
    grows_added c.args.ino c.in_ok-add.field-0 c.args.self.now c.add.new.self added

pub returns-then-not-branch-clause-draws : goal.returns-then-not-branch-clause-draws
returns-then-not-branch-clause-draws g c =
    let current = g.A.NameView.sub c.args.current.now in
    let logged = g.B.NameView.sub c.args.recovered.now in
    let says = c.in_ok-add.ensures in
    let added : IsAdded c.args.ino c.in_ok-add.field-0 c.args.self.now c.add.new.self = record { missing = says.new; members = says.members; count = says.count; fresh = says.fresh } in
    let why : (c.in_ok-add.field-0 ≡ false) ⊎ (is_there current c.args.ino ≡ false) = elim c.then-not-branch.branch [
      | then-not-branch-via-then-not-branch w ↦ inl w.if-not-branch.true
      | then-not-branch-via-else-not-branch+then-not-has w ↦ inr (sym w.has.ensures ∙ w.if-not-has.true)
    ] in
    draws_alone current logged c.args.ino c.in_ok-add.field-0 c.args.self.now c.add.new.self added says.above why

pub climb_all-requires-clause-dirs : goal.climb_all-requires-clause-dirs
climb_all-requires-clause-dirs g c dir there =
    let current = g.A.NameView.sub c.args.current.now in
    let are = subst (AreParents current.names c.args.ino) (sym c.deref.ensures.value) c.in_ok-dirs.ensures in
    parent_is_dir current c.requires c.args.ino dir ((are dir).0 there)

pub returns-clause-grows : goal.returns-clause-grows
returns-clause-grows g c =
    let says = c.in_ok-add.ensures in
    let added : IsAdded c.args.ino c.in_ok-add.field-0 c.args.self.now c.add.new.self = record { missing = says.new; members = says.members; count = says.count; fresh = says.fresh } in
    IfOk-weaker c.climb_all.result _ _ (λ _ grows. grows_on c.args.self.now c.add.new.self c.climb_all.new.self (grows_added c.args.ino c.in_ok-add.field-0 c.args.self.now c.add.new.self added) grows) c.climb_all.ensures.grows

pub returns-clause-draws : goal.returns-clause-draws
returns-clause-draws g c =
    let current = g.A.NameView.sub c.args.current.now in
    let logged = g.B.NameView.sub c.args.recovered.now in
    let says = c.in_ok-add.ensures in
    let added : IsAdded c.args.ino c.in_ok-add.field-0 c.args.self.now c.add.new.self = record { missing = says.new; members = says.members; count = says.count; fresh = says.fresh } in
    let are = subst (AreParents current.names c.args.ino) (sym c.deref.ensures.value) c.in_ok-dirs.ensures in
    let there : is_there current c.args.ino ≡ true = sym c.has.ensures ∙ c.if-not-has.false in
    ok_both c.climb_all.result
    (λ (grows : Grows c.add.new.self c.climb_all.new.self) (climbs : ClimbsAll current logged c.deref.result.now c.add.new.self c.climb_all.new.self).
    draws_climbed current logged c.args.ino c.in_ok-add.field-0 c.deref.result.now c.args.self.now c.add.new.self c.climb_all.new.self added says.above there are grows climbs)
    c.climb_all.ensures.grows c.climb_all.ensures.climbs
