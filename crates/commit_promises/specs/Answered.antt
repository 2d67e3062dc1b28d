-- Which answers of an fsync promise that it is durable, and what a crash then leaves of it.
use Rattle.std.specs.Prelude.{◌≡◌, ℕ, ◌+◌, ◌≤◌, Bool, true, false, cond, List, [], ◌∷◌, ◌++◌, Option, Some, None, Contains, nat_eq}
use Rattle.std.specs.FinMap.{get}
use Rattle.flat_model.specs.declared.answer.Answer.{Answer}
use Rattle.flat_model.specs.declared.answer.Answer.TheVariants as answers
use Rattle.flat_model.specs.Records.{InodeRecord}
use Rattle.flat_model.specs.Names.{FlatName, names_of}
use Rattle.flat_model.specs.Step.{Operated}
use Rattle.flat_model.specs.Volume.{Subvolume, Volume}
use Rattle.commit_history.specs.declared.event.Event.{Event}
use Rattle.commit_history.specs.declared.event.Logged.{Logged}
use Rattle.commit_history.specs.declared.event.Logged.TheVariants as logged
use Rattle.commit_history.specs.Legal.{IsLegal}
use Rattle.commit_history.specs.Calls.{IsRuled, answer_of, call_of, caller_of}
use Rattle.commit_history.specs.Survival.{HasNameIn, IsAtPoint, possible_volumes}

-- the answers by which what an fsync or fdatasync asked for is durable (own)
abbrev pub is_durable : Answer → Bool
is_durable answers.Already = true
is_durable answers.Log = true
is_durable answers.Full = true
is_durable (answers.Commit reason) = true
is_durable other = false

-- the log number that a log step gave, where it gave one
abbrev pub number_given : Logged → Option ℕ
number_given logged.Already = None
number_given (logged.Ticket number) = Some number
number_given (logged.Full reason) = None

-- how many of these events are the caller's
abbrev pub events_by : ℕ → List Event → ℕ
events_by caller [] = 0
events_by caller (event ∷ events) = cond (nat_eq caller (caller_of event)) (1 + events_by caller events) (events_by caller events)

-- after all events the caller's call is still the one that the event in front of these began: all its events since then are of that call
abbrev pub IsStillCall : Volume → List Event → ℕ → List Event → Type 0
IsStillCall volume events caller back = (call_of volume events caller).events ≡ 1 + events_by caller back

-- a caller's call has answered: the events are legal and follow the rules, and the call that this event began has this answer after all of them
pub record HasAnswered (volume : Volume) (front : List Event) (first : Event) (back : List Event) (answer : Answer) : Type 0 where
  pub legal : IsLegal volume (front ++ first ∷ back)
  pub ruled : IsRuled volume (front ++ first ∷ back)
  pub still : IsStillCall volume (front ++ first ∷ back) (caller_of first) back
  pub answered : answer_of (call_of volume (front ++ first ∷ back) (caller_of first)) ≡ Some answer

-- the record of an inode is kept from a point on: it is as at a later point, and where the inode isn't there, at a later point it wasn't
pub record RecordIsSince (volume : Volume) (history : List Operated) (id ino point : ℕ) (left : Subvolume) : Type 0 where
  pub record_is : (inode : InodeRecord) → get left.inodes ino ≡ Some inode
      → (later : ℕ) × (point ≤ later) × ((there : Subvolume) × IsAtPoint volume history id later there × (get there.inodes ino ≡ Some inode))
  pub absent : get left.inodes ino ≡ None → (later : ℕ) × (point ≤ later) × ((there : Subvolume) × IsAtPoint volume history id later there × (get there.inodes ino ≡ None))

-- the names of an inode that is there are kept from a point on: they are as at a later point
abbrev pub NamesAreSince : Volume → List Operated → ℕ → ℕ → ℕ → Subvolume → Type 0
NamesAreSince volume history id ino point left =
    (inode : InodeRecord) → get left.inodes ino ≡ Some inode
    → (later : ℕ) × (point ≤ later) × ((there : Subvolume) × IsAtPoint volume history id later there × (names_of there.names ino ≡ names_of left.names ino))

-- What a directory had is kept from a point on: the names of each inode that had a name in it then are as at a later point, or the inode isn't there, as at a
-- later point; and so are the names of each inode that is left with a name in it
pub record EntriesAreSince (volume : Volume) (history : List Operated) (id dir point : ℕ) (left : Subvolume) : Type 0 where
  pub had : (ino : ℕ) (then_ : Subvolume) → IsAtPoint volume history id point then_ → HasNameIn then_ dir ino → NamesAreSince volume history id ino point left
  pub gone : (ino : ℕ) (then_ : Subvolume) → IsAtPoint volume history id point then_ → HasNameIn then_ dir ino → get left.inodes ino ≡ None
      → (later : ℕ) × (point ≤ later) × ((there : Subvolume) × IsAtPoint volume history id later there × (get there.inodes ino ≡ None))
  pub has : (name : FlatName) → Contains left.names name → name.dir ≡ dir → NamesAreSince volume history id name.ino point left

-- each subvolume that a crash may leave is so
abbrev pub EachLeft : Volume → List Event → ℕ → (Subvolume → Type 0) → Type 0
EachLeft volume events id Holds = (left : Volume) (sub : Subvolume) → Contains (possible_volumes volume events) left → get left id ≡ Some sub → Holds sub
