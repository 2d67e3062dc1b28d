use Rattle.image_faults.proofs.Firsts.{faulty_from, faulty_to, first_is_lowest, lowest_is_first, none_is_faulty, none_is_first}
use Rattle.image_faults.proofs.inodes.first_faulty_is_lowest.Goals as goal

pub returns-clause-told : goal.returns-clause-told
returns-clause-told c items blocks ino = (faulty_from items blocks ino, faulty_to items blocks ino)

pub returns-clause-some : goal.returns-clause-some
returns-clause-some c items blocks ino = (first_is_lowest items blocks ino, lowest_is_first items blocks ino)

pub returns-clause-none : goal.returns-clause-none
returns-clause-none c items blocks = (none_is_faulty items blocks, none_is_first items blocks)
