-- What a line shows of an inode, by its kind.
use Rattle.std.proofs.Common.{◌≡◌, ◌≢◌, ℕ, ◌+◌, ◌*◌, Bool, true, false, cond, List, [], ◌∷◌, ◌++◌, length, Some, None, refl, sym, ap, ◌∙◌, codes, arith}
use Rattle.std.specs.Bool.{nat_eq}
use Rattle.std.specs.List.{flat_map, filter, sum_by}
use Rattle.std.specs.FinMap.{get}
use Rattle.std.proofs.lemmas.List.Sums.{sum_by-cons}
use Rattle.blk_base.specs.Crc.{crc32c_of}
use Rattle.flat_model.specs.declared.view.Kind.TheVariants.{File, Dir, Link}
use Rattle.flat_model.specs.declared.view.NameAt.{NameAt}
use Rattle.flat_model.specs.Records.{InodeRecord, FileInode, DirInode, LinkInode, kind_of, attributes_of}
use Rattle.flat_model.specs.Names.{FlatName, entries_of, links_of}
use Rattle.flat_model.specs.Contents.{bytes_read}
use Rattle.flat_model.specs.Operations.{file_there}
use Rattle.flat_model.specs.Volume.{Subvolume}
use Rattle.flat_sub.specs.View.{name_view, names_view}
use Rattle.io_edge.specs.Printed.{hex8, printed}
use Rattle.volume_listing.specs.Listing.{Listed, links_shown, size_shown, sum_shown, step_shown, path_shown, target_shown, line_of, attribute_lines, lines_at}
use Rattle.flat_record.specs.Reading.{target_of}
use Rattle.flat_model.proofs.Maps.{some_same}
use Rattle.std.specs.Option.{unwrap_or}

pub links_other : (sub : Subvolume) (ino : ℕ) (inode : InodeRecord) → kind_of inode ≢ Dir → links_shown sub ino inode ≡ links_of sub.names ino
links_other sub ino (FileInode file) other = refl
links_other sub ino (DirInode dir) other = absurd (other refl)
links_other sub ino (LinkInode link) other = refl

pub size_file : (sub : Subvolume) (ino : ℕ) (inode : InodeRecord) → kind_of inode ≡ File → size_shown sub ino inode ≡ (file_there (Some inode)).size
size_file sub ino (FileInode file) is = refl
size_file sub ino (DirInode dir) is = (cc)
size_file sub ino (LinkInode link) is = (cc)

pub size_dir : (sub : Subvolume) (ino : ℕ) (inode : InodeRecord) → kind_of inode ≡ Dir → size_shown sub ino inode ≡ 2 * sum_by (λ (n : FlatName). length n.bytes) (entries_of sub.names ino)
size_dir sub ino (FileInode file) is = (cc)
size_dir sub ino (DirInode dir) is = refl
size_dir sub ino (LinkInode link) is = (cc)

pub size_link : (sub : Subvolume) (ino : ℕ) (inode : InodeRecord) → kind_of inode ≡ Link → size_shown sub ino inode ≡ length (unwrap_or (target_of inode) [])
size_link sub ino (FileInode file) is = (cc)
size_link sub ino (DirInode dir) is = (cc)
size_link sub ino (LinkInode link) is = refl

pub sum_file : (inode : InodeRecord) → kind_of inode ≡ File → sum_shown inode ≡ hex8 (crc32c_of (bytes_read (file_there (Some inode)) 0 (file_there (Some inode)).size))
sum_file (FileInode file) is = refl
sum_file (DirInode dir) is = (cc)
sum_file (LinkInode link) is = (cc)

pub sum_dir : (inode : InodeRecord) → kind_of inode ≡ Dir → sum_shown inode ≡ codes "-"
sum_dir (FileInode file) is = (cc)
sum_dir (DirInode dir) is = refl
sum_dir (LinkInode link) is = refl

pub sum_link : (inode : InodeRecord) → kind_of inode ≡ Link → sum_shown inode ≡ codes "-"
sum_link (FileInode file) is = (cc)
sum_link (DirInode dir) is = refl
sum_link (LinkInode link) is = refl

pub target_none : (inode : InodeRecord) → None ≡ target_of inode → target_shown inode ≡ []
target_none (FileInode file) is = refl
target_none (DirInode dir) is = refl
target_none (LinkInode link) is = (cc)

pub target_some : (inode : InodeRecord) (target : List ℕ) → Some target ≡ target_of inode → target_shown inode ≡ codes " " ++ printed target
target_some (FileInode file) target is = (cc)
target_some (DirInode dir) target is = (cc)
target_some (LinkInode link) target is = ap (λ bytes. codes " " ++ printed bytes) (sym (some_same target link.target is))

-- the bytes of the names in a directory, as the code adds them
pub lengths_view : (dir : ℕ) (ats : List NameAt) (nears : List Bool) → length nears ≡ length ats → sum_by (λ (n : FlatName). length n.bytes) (entries_of (names_view ats nears) dir) ≡ sum_by (λ (at : NameAt). length at.name) (filter (λ (at : NameAt). nat_eq at.dir.0 dir) ats)
lengths_view dir [] nears same = refl
lengths_view dir (at ∷ ats) [] same = absurd (omega arith)
lengths_view dir (at ∷ ats) (near ∷ nears) same =
    let rest = lengths_view dir ats nears (omega arith) in
    let seen : List FlatName = entries_of (names_view ats nears) dir in
    let others : List NameAt = filter (λ (at : NameAt). nat_eq at.dir.0 dir) ats in
    elim (nat_eq at.dir.0 dir) as (λ b. sum_by (λ (n : FlatName). length n.bytes) (cond b (name_view at near ∷ seen) seen) ≡ sum_by (λ (at : NameAt). length at.name) (cond b (at ∷ others) others)) [
      | true ↦ sum_by-cons (λ (n : FlatName). length n.bytes) (name_view at near) seen ∙ ap (λ n. length at.name + n) rest ∙ sym (sum_by-cons (λ (at : NameAt). length at.name) at others)
      | false ↦ rest
    ]

-- ---- the names that lead to an inode

pub path_none : (path : List (List ℕ)) → length path ≡ 0 → path_shown path ≡ codes "/"
unfolding path_shown
path_none [] none = refl
path_none (name ∷ names) none = absurd (omega arith)

pub path_some : (path : List (List ℕ)) → length path ≢ 0 → path_shown path ≡ flat_map step_shown path
unfolding path_shown
path_some [] some = absurd (some refl)
path_some (name ∷ names) some = refl

-- ---- the lines of what is there

pub lines_some : (sub : Subvolume) (listed : Listed) (inode : InodeRecord) → Some inode ≡ get sub.inodes listed.ino → lines_at sub listed ≡ line_of sub listed inode ++ attribute_lines (attributes_of inode)
unfolding lines_at
lines_some sub listed inode is = ap (λ o. elim o [ None ↦ [] | Some inode ↦ line_of sub listed inode ++ attribute_lines (attributes_of inode) ]) (sym is)

pub lines_none : (sub : Subvolume) (listed : Listed) → None ≡ get sub.inodes listed.ino → lines_at sub listed ≡ []
unfolding lines_at
lines_none sub listed is = ap (λ o. elim o [ None ↦ [] | Some inode ↦ line_of sub listed inode ++ attribute_lines (attributes_of inode) ]) (sym is)
