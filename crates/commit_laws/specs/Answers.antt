-- Which steps of a call belong to a commit.
use Rattle.std.specs.Prelude.{Bool, true, false}
use Rattle.commit_history.specs.Calls.{Duty, Begins, TriesAgain, EndsPart, EndsRoot, EndsFull, SealsSub, SealsRoot, SealsFull, GivesUp, Asks}

-- a duty that is a step of a commit, or asks for one: all but the first event of a call and the second try of an operation
abbrev pub is_of_commit : Duty → Bool
is_of_commit Begins = false
is_of_commit (TriesAgain op) = false
is_of_commit (EndsPart sub number) = true
is_of_commit EndsRoot = true
is_of_commit EndsFull = true
is_of_commit (SealsSub sub number) = true
is_of_commit SealsRoot = true
is_of_commit SealsFull = true
is_of_commit (GivesUp sub number) = true
is_of_commit Asks = true
