use Rattle.std.proofs.Common.{rules}
use Rattle.std.proofs.lemmas.List.Sorted.{IsNonDecreasingBy-from_sort_by_key, answers_always}
use Rattle.foreign_listing.proofs.ByInode.{sorted_same}
use Rattle.foreign_listing.proofs.by_inode.sort_by_inode.Goals as goal

pub returns-clause-sorted : goal.returns-clause-sorted
returns-clause-sorted g c = IsNonDecreasingBy-from_sort_by_key g.R.Row.owner c.sort_by_key.new.self.items c.in_ok-sort_by_key.ensures.sorted (λ a r q k. search rules)

pub returns-clause-same : goal.returns-clause-same
returns-clause-same g c = λ ino.
    sorted_same g.R.Row.owner ino c.args.rows.now.items c.sort_by_key.new.self.items (c.sort_by_key.ensures.stable g.R.Row.owner (answers_always _ _ _ (λ f a r q k. search rules)))
