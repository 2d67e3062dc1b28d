use Rattle.commit_room.proofs.Counting.{short_true, space_true}
use Rattle.commit_room.proofs.room.room_of_answers.Goals as goal

pub returns-clause-short : goal.returns-clause-short
returns-clause-short c blocks use_ volume front caller op again free need indexes legal is_in_use = short_true blocks use_ volume front caller op again free need indexes legal is_in_use

pub returns-clause-space : goal.returns-clause-space
returns-clause-space c blocks use_ volume front caller sub ino datasync free need is_in_use = space_true blocks use_ volume front caller sub ino datasync free need is_in_use
