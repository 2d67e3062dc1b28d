-- The directory to go on with is this one or one above it, and alone is pending.
use Rattle.std.proofs.Common.{ℕ, Bool, List, ◌∷◌}
use Rattle.std.specs.Prelude.{IsTrue}
use Rattle.flat_model.specs.Volume.{is_dir_at}
use Rattle.drawn_set.specs.Search.{AreGoodFrom, Grows, IsFrom, IsSearch, unnoted}
use Rattle.drawn_set.proofs.search.Search.climb.Given as goal

abbrev pub invariant-loop-parent : goal.invariant-loop-parent
invariant-loop-parent g l = record {
  dir : IsTrue (is_dir_at (g.A.NameView.sub l.current) l.at);
  from : IsFrom (g.A.NameView.sub l.current).names l.fn.dir l.at;
  grows : Grows l.fn.self l.self;
  search : (is_good : ℕ → Bool) (pending : List ℕ) → AreGoodFrom (g.A.NameView.sub l.current) (g.B.NameView.sub l.recovered) is_good l.fn.dir
      → IsSearch (g.A.NameView.sub l.current) (g.B.NameView.sub l.recovered) is_good (l.fn.dir ∷ pending) l.fn.self
      → IsSearch (g.A.NameView.sub l.current) (g.B.NameView.sub l.recovered) is_good (l.at ∷ pending) l.self;
}

abbrev pub decreases-loop-parent : goal.decreases-loop-parent
decreases-loop-parent g l = unnoted (g.A.NameView.sub l.current) l.self
