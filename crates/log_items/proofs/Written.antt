-- An inode that is written into a log is there as it should be.
use Rattle.std.proofs.Common.{◌≡◌, ◌≢◌, ◌∙◌, ℕ, Bool, true, false, cond, Option, Some, refl, sym, ap}
use Rattle.std.specs.FinMap.{get, insert}
use Rattle.std.specs.Option.{option_map}
use Rattle.flat_model.specs.Records.{DirInode, FileInode, InodeRecord, LinkInode, at_creation, kind_of}
use Rattle.flat_model.specs.declared.view.Kind.TheVariants.{File}
use Rattle.flat_model.specs.Volume.{Subvolume}
use Rattle.flat_model.proofs.Maps.{get_insert_other, get_insert_same, get_remove_other, get_remove_same}
use Rattle.logged_volume.specs.FlatLog.{FileChanges, FlatLog, WholeFile, is_whole}
use Rattle.logged_volume.specs.Written.{IsWholeOf}
use Rattle.log_items.specs.Inode.{whole_with_had, with_inode}
use Rattle.log_items.specs.Names.{renamed}
use Rattle.log_items.specs.Written.{FileIsWritten, InodeIsWritten, IsInodeWritten}

-- what isn't a file is whole as it is
whole_as_it_is : (was : Option InodeRecord) (had : Option Rattle.logged_volume.specs.FlatLog.WholeInode) (inode : InodeRecord) → kind_of inode ≢ File → IsWholeOf was inode (whole_with_had had inode)
whole_as_it_is was had (FileInode file) other = absurd (other refl)
whole_as_it_is was had (DirInode dir) other = refl
whole_as_it_is was had (LinkInode link) other = refl

whole_written : (committed current : Subvolume) (ino : ℕ) (inode : InodeRecord) (log : FlatLog) → get current.inodes ino ≡ Some inode → kind_of inode ≢ File → IsInodeWritten committed current ino true log (renamed ino current (with_inode ino true inode log))
whole_written committed current ino inode log there other = record {
  target = λ w. record {
    inode = inode;
    whole = whole_with_had (get log.whole ino) inode;
    there = there;
    logged = get_insert_same log.whole ino (whole_with_had (get log.whole ino) inode);
    changes = whole_as_it_is (get committed.inodes ino) (get log.whole ino) inode other;
  };
  stays = λ w. cc;
  existing = get_remove_same log.existing ino;
  others_whole = λ one apart. get_insert_other log.whole ino (whole_with_had (get log.whole ino) inode) one apart;
  others_existing = λ one apart. get_remove_other log.existing ino one apart;
  names = refl;
  ranges = refl;
  entries = refl;
}

existing_written : (committed current : Subvolume) (ino : ℕ) (inode : InodeRecord) (log : FlatLog) → get current.inodes ino ≡ Some inode → IsInodeWritten committed current ino false log (renamed ino current (with_inode ino false inode log))
existing_written committed current ino inode log there = go (is_whole log ino) refl
  where
    go : (b : Bool) → is_whole log ino ≡ b → IsInodeWritten committed current ino false log (renamed ino current (cond b log (record log { existing = insert log.existing ino (at_creation inode) })))
    go true e = record {
      target = λ w. cc;
      stays = λ w. refl;
      existing = ap (λ (b : Bool). cond b (get log.existing ino) (option_map at_creation (get current.inodes ino))) (sym e);
      others_whole = λ one apart. refl;
      others_existing = λ one apart. refl;
      names = refl;
      ranges = refl;
      entries = refl;
    }
    go false e = record {
      target = λ w. cc;
      stays = λ w. refl;
      existing =
          get_insert_same log.existing ino (at_creation inode) ∙ ap (option_map at_creation) (sym there)
          ∙ ap (λ (b : Bool). cond b (get log.existing ino) (option_map at_creation (get current.inodes ino))) (sym e);
      others_whole = λ one apart. refl;
      others_existing = λ one apart. get_insert_other log.existing ino (at_creation inode) one apart;
      names = refl;
      ranges = refl;
      entries = refl;
    }

pub inode_is_written : InodeIsWritten
inode_is_written committed current ino true inode log there other = whole_written committed current ino inode log there (other refl)
inode_is_written committed current ino false inode log there other = existing_written committed current ino inode log there

pub file_is_written : FileIsWritten
file_is_written committed current ino file changes log there are =
    let had = whole_with_had (get log.whole ino) (FileInode file) in
    let first = insert log.whole ino had in
    record {
      target = λ w. record {
        inode = FileInode file;
        whole = WholeFile changes;
        there = there;
        logged = get_insert_same first ino (WholeFile changes);
        changes = are;
      };
      stays = λ w. cc;
      existing = get_remove_same log.existing ino;
      others_whole = λ one apart. get_insert_other first ino (WholeFile changes) one apart ∙ get_insert_other log.whole ino had one apart;
      others_existing = λ one apart. get_remove_other log.existing ino one apart;
      names = refl;
      ranges = refl;
      entries = refl;
    }
