-- The text of a script's run: a line for each call that has finished, and a last line.
use Rattle.std.specs.Prelude.{ℕ, List, [], ◌∷◌, ◌++◌, codes}
use Rattle.std.specs.Fmt.{decimal}
use Rattle.flat_model.specs.declared.answer.Answer.{Answer}
use Rattle.flat_model.specs.declared.answer.Answer.TheVariants as answers
use Rattle.flat_model.specs.declared.answer.Reason.{Reason}
use Rattle.flat_model.specs.declared.answer.Reason.TheVariants as reasons
use Rattle.io_edge.specs.Printed.{printed}

-- the words of bytes that were read: none behind `ok` where there are none, and else the bytes as the listing prints them (own)
abbrev pub bytes_words : List ℕ → List ℕ
bytes_words [] = codes "ok"
bytes_words (byte ∷ bytes) = codes "ok " ++ printed (byte ∷ bytes)

-- the words of a full commit that a call asked for: its reason, with numbers in decimal (own)
abbrev pub reason_words : Reason → List ℕ
reason_words (reasons.Conflicts count) = codes "ok commit conflicts " ++ decimal count
reason_words (reasons.GoneDir ino) = codes "ok commit gone " ++ decimal ino.0
reason_words (reasons.Space free need) = codes "ok commit space " ++ decimal free ++ codes " " ++ decimal need
reason_words (reasons.FailedLog count) = codes "ok commit failed " ++ decimal count

-- the words of an answer: `ok` and what was answered, or the name of the refusal in lower case (own)
abbrev pub answer_words : Answer → List ℕ
answer_words answers.Plain = codes "ok"
answer_words (answers.Number number) = codes "ok " ++ decimal number
answer_words (answers.Bytes text) = bytes_words text
answer_words answers.Already = codes "ok already"
answer_words answers.Log = codes "ok log"
answer_words (answers.Commit reason) = reason_words reason
answer_words answers.Full = codes "ok full"
answer_words answers.Sync = codes "ok sync"
answer_words answers.Xdev = codes "xdev"
answer_words answers.NoEnt = codes "noent"
answer_words answers.NotDir = codes "notdir"
answer_words answers.IsDir = codes "isdir"
answer_words answers.Exists = codes "exists"
answer_words answers.NotEmpty = codes "notempty"
answer_words answers.Loop = codes "loop"
answer_words answers.Links = codes "links"
answer_words answers.TooLarge = codes "toolarge"
answer_words answers.NoAttr = codes "noattr"
answer_words answers.Collide = codes "collide"
answer_words (answers.NoSpace free need) = codes "nospace " ++ decimal free ++ codes " " ++ decimal need
answer_words answers.Io = codes "io"

-- the line of a call that has finished: its caller in decimal, and the words of its answer (own)
abbrev pub answer_line : ℕ → Answer → List ℕ
answer_line caller answer = decimal caller ++ codes " " ++ answer_words answer ++ codes "\n"

-- the last line of a script's run: how many calls have finished (own)
abbrev pub done_line : ℕ → List ℕ
done_line count = codes "done " ++ decimal count ++ codes "\n"
