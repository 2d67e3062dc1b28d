use Rattle.flat_laws.proofs.Advances.{need_counted}
use Rattle.flat_laws.proofs.needs_count_what_goes.Goals as goal

pub returns : goal.returns
returns c run op indexes sound spelled limits id ino inode goes = need_counted run sound op indexes id ino inode goes
