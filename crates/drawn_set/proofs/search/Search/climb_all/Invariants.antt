-- The directories from the index on are pending.
use Rattle.std.proofs.Common.{ℕ, Bool, drop, Contains}
use Rattle.drawn_set.specs.Search.{AreGoodFrom, Grows, IsSearch}
use Rattle.drawn_set.proofs.search.Search.climb_all.Given as goal

abbrev pub invariant-loop-dir : goal.invariant-loop-dir
invariant-loop-dir g l = record {
  grows : Grows l.fn.self l.self;
  search : (is_good : ℕ → Bool) → ((dir : ℕ) → Contains l.dirs dir → AreGoodFrom (g.A.NameView.sub l.current) (g.B.NameView.sub l.recovered) is_good dir)
      → IsSearch (g.A.NameView.sub l.current) (g.B.NameView.sub l.recovered) is_good l.dirs l.fn.self
      → IsSearch (g.A.NameView.sub l.current) (g.B.NameView.sub l.recovered) is_good (drop l.dir-index l.dirs) l.self;
}
