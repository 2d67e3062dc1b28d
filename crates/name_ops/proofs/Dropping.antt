-- A name that goes, and its inode with it where it has no other.
use Rattle.std.proofs.Common.{◌≡◌, ◌≢◌, ◌≤◌, ◌+◌, ℕ, Bool, true, false, cond, List, Contains, nat_eq, sym, ap, subst, arith}
use Rattle.std.specs.FinMap.{get, remove}
use Rattle.std.proofs.lemmas.Bool.{eq-eqb, ne_eqb}
use Rattle.block_table.specs.declared.tree.SubState.{SubState}
use Rattle.block_table.specs.Table.{Table}
use Rattle.flat_model.specs.Coherent.{IsCoherent, IsLinkCount, most_links}
use Rattle.flat_model.specs.Names.{FlatName, is_name_set, leads_to, links_of, names_of, remove_name}
use Rattle.flat_model.specs.Needs.{blocks_and_items_there}
use Rattle.flat_model.specs.Operations.{without_name}
use Rattle.flat_model.specs.Records.{DirInode, FileInode, InodeRecord, LinkInode}
use Rattle.flat_model.specs.Volume.{Subvolume}
use Rattle.flat_model.proofs.Edits.{NamesFit, links_without_same, names_fit}
use Rattle.flat_model.proofs.Maps.{no_length}
use Rattle.flat_model.proofs.NameSets.{remove_name_gives}
use Rattle.volume_image.proofs.Lists.{in_nothing}
use Rattle.volume_image.proofs.Members.{filter_in}
use Rattle.table_volume.specs.Edited.{Makes}
use Rattle.table_volume.specs.Operated.{HasRoom}
use Rattle.name_items.specs.Names.{MayRemoveName}
use Rattle.inode_removal.specs.Removal.{MayRemoveInode, most_taken}
use Rattle.name_ops.specs.Changes.{with_names}
use Rattle.name_ops.specs.Drops.{MayDrop, gone_with_name, most_dropped}
use Rattle.name_ops.proofs.Adding.{dir_there}
use Rattle.name_ops.proofs.Stages.{makes_joined, makes_more, room_left}

pub few_links : (inode : InodeRecord) (count : ℕ) → IsLinkCount inode count → count ≤ most_links
few_links (FileInode file) count is = is.1
few_links (DirInode dir) count is = omega (arith, is)
few_links (LinkInode link) count is = is.1

-- a part of a coherent subvolume's names
pub record IsPart (sub : Subvolume) (names : List FlatName) : Type 0 where
  pub set : is_name_set names ≡ true
  pub within : (q : FlatName) → Contains names q → Contains sub.names q
  pub fit : NamesFit names
  pub links : (ino : ℕ) → links_of names ino ≤ links_of sub.names ino

pub part_itself : (sub : Subvolume) → IsCoherent sub → IsPart sub sub.names
part_itself sub coherent = record { set = coherent.in_order; within = λ q c. c; fit = names_fit sub coherent; links = λ ino. omega arith }

-- a name of a part may go
pub may_remove : (sub : Subvolume) → IsCoherent sub → (names : List FlatName) → IsPart sub names → (n : FlatName) → Contains names n → MayRemoveName (with_names sub names) n
may_remove sub coherent names part n has =
    let was = part.within n has in
    let inode = coherent.leads_to_inode n was in
    let dir = dir_there (get sub.inodes n.dir) (coherent.stands_in_dir n was) in
    let number = coherent.ino_numbers n.ino inode.0 inode.1 in
    let dir_number = coherent.ino_numbers n.dir (DirInode dir.0) dir.1 in
    let index = coherent.index_numbers n was in
    let count = few_links inode.0 (links_of sub.names n.ino) (coherent.link_counts n.ino inode.0 inode.1 (coherent.root_has_no_name n was)) in
    let fewer = part.links n.ino in
    record {
      in_order = part.set;
      is_name = (coherent.name_limits n was).0;
      index = omega (arith, index.1);
      ino_number = omega (arith, number.1);
      dir_number = omega (arith, dir_number.1);
      not_root = coherent.root_has_no_name n was;
      there = has;
      inode = inode.0;
      inode_there = inode.1;
      dir = dir.0;
      dir_there = dir.1;
      slot_once = λ q c d b. coherent.no_name_twice q n (part.within q c) was d b;
      index_once = λ q c d i. coherent.no_index_twice q n (part.within q c) was d i;
      near_fits = λ near. part.fit.refs n.ino n.dir;
      far_fits = λ far. part.fit.extrefs n.ino _;
      entry_fits = part.fit.entries n.dir _;
      links = omega (arith, count, fewer);
    }

-- ---- the last name of an inode

module _ (sub : Subvolume) (n : FlatName) (may : MayDrop sub n) where
  abbrev left : List FlatName
  left = remove_name n sub.names

  pub drop_may_remove : MayRemoveName sub n
  drop_may_remove =
      may_remove sub may.coherent sub.names (part_itself sub may.coherent) n may.there

  links_left : 1 + links_of (remove_name n sub.names) n.ino ≡ links_of sub.names n.ino
  links_left = links_without_same sub.names n may.coherent.in_order may.there

  pub drop_not_root : n.ino ≢ 256
  drop_not_root = may.coherent.root_has_no_name n may.there

  pub is_last : links_of sub.names n.ino ≡ 1 → links_of (remove_name n sub.names) n.ino ≡ 0
  is_last one = let sum = links_left in omega (arith, sum, one)

  pub drop_may_inode : links_of sub.names n.ino ≡ 1 → MayRemoveInode (with_names sub (remove_name n sub.names)) n.ino
  drop_may_inode one = record {
    not_root = drop_not_root;
    unnamed = λ q c same.
        in_nothing q (subst (λ (l : List FlatName). Contains l q) (no_length (names_of (remove_name n sub.names) n.ino) (is_last one)) (filter_in (leads_to n.ino) (remove_name n sub.names) q c (eq-eqb q.ino n.ino same)));
    without_names = λ q c. may.empty q (remove_name_gives n sub.names q c).0;
    limits = may.coherent.limits;
    names = λ q c. may.coherent.name_limits q (remove_name_gives n sub.names q c).0;
    directories = λ q c.
        let was = (remove_name_gives n sub.names q c).0 in
        let dir = dir_there (get sub.inodes q.dir) (may.coherent.stands_in_dir q was) in
        (may.coherent.ino_numbers q.dir (DirInode dir.0) dir.1).1;
    indexes = λ q c. (may.coherent.index_numbers q (remove_name_gives n sub.names q c).0).1;
  }

  gone_last : links_of sub.names n.ino ≡ 1 → gone_with_name sub n ≡ blocks_and_items_there (get sub.inodes n.ino)
  gone_last one = ap (λ (b : Bool). cond b (blocks_and_items_there (get sub.inodes n.ino)) 0) (eq-eqb (links_of (remove_name n sub.names) n.ino) 0 (is_last one))

  without_last : links_of sub.names n.ino ≡ 1 → record { inodes = remove sub.inodes n.ino; names = remove_name n sub.names } ≡ without_name sub n
  without_last one =
      ap (λ (b : Bool). record { inodes = cond b (remove sub.inodes n.ino) sub.inodes; names = remove_name n sub.names }) (sym (eq-eqb (links_of (remove_name n sub.names) n.ino) 0 (is_last one)))

  not_last : links_of sub.names n.ino ≢ 1 → nat_eq (links_of (remove_name n sub.names) n.ino) 0 ≡ false
  not_last more = ne_eqb (links_of (remove_name n sub.names) n.ino) 0 (λ none. more (let sum = links_left in omega (arith, sum, none)))

  without_other : links_of sub.names n.ino ≢ 1 → with_names sub (remove_name n sub.names) ≡ without_name sub n
  without_other more =
      ap (λ (b : Bool). record { inodes = cond b (remove sub.inodes n.ino) sub.inodes; names = remove_name n sub.names }) (sym (not_last more))

  module _ (old mid : Table) (before between : SubState) (first : Makes old mid before between 85 (with_names sub (remove_name n sub.names))) where
    pub drop_room : links_of sub.names n.ino ≡ 1 → HasRoom old (most_dropped sub n) → HasRoom mid (most_taken (with_names sub (remove_name n sub.names)) n.ino)
    drop_room one room =
        let gone = gone_last one in
        room_left old mid before between 85 (most_taken (with_names sub (remove_name n sub.names)) n.ino) (with_names sub (remove_name n sub.names))
        (record { spare = omega (arith, gone, room.spare); free = omega (arith, gone, room.free) }) first

    pub dropped_last : (new : Table) (after : SubState) → links_of sub.names n.ino ≡ 1
        → Makes mid new between after (most_taken (with_names sub (remove_name n sub.names)) n.ino) (record { inodes = remove sub.inodes n.ino; names = remove_name n sub.names }) → Makes old new before after (most_dropped sub n) (without_name sub n)
    dropped_last new after one second =
        let gone = gone_last one in
        subst (λ (s : Subvolume). Makes old new before after (most_dropped sub n) s) (without_last one)
        (makes_more old new before after (85 + most_taken (with_names sub (remove_name n sub.names)) n.ino) (most_dropped sub n) (record { inodes = remove sub.inodes n.ino; names = remove_name n sub.names })
        (makes_joined old mid new before between after 85 (most_taken (with_names sub (remove_name n sub.names)) n.ino) (with_names sub (remove_name n sub.names)) (record { inodes = remove sub.inodes n.ino; names = remove_name n sub.names }) first second) (omega (arith, gone)))

    pub dropped_other : links_of sub.names n.ino ≢ 1 → Makes old mid before between (most_dropped sub n) (without_name sub n)
    dropped_other more =
        subst (λ (s : Subvolume). Makes old mid before between (most_dropped sub n) s) (without_other more)
        (makes_more old mid before between 85 (most_dropped sub n) (with_names sub (remove_name n sub.names)) first (omega arith))
