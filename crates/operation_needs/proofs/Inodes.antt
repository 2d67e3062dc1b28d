-- What an inode has, by its kind.
use Rattle.std.proofs.Common.{◌≡◌, ◌≤◌, ◌+◌, ◌*◌, ℕ, true, List, Option, Some, None, filter, length, nat_le, refl, sym, ap, ◌∙◌, arith}
use Rattle.std.specs.FinMap.{entries, get, keys, len, len-empty, len-entries}
use Rattle.std.specs.Option.{option_map}
use Rattle.std.specs.Ordering.{nat_cmp}
use Rattle.std.proofs.lemmas.Bool.Decides.{nat_tests}
use Rattle.std.proofs.lemmas.List.{length-map}
use Rattle.std.proofs.lemmas.List.Elements.{All-contains_itself, All-weaker}
use Rattle.flat_model.specs.declared.view.Kind.{Kind}
use Rattle.flat_model.specs.declared.view.Kind.TheVariants.{File, Dir, Link}
use Rattle.flat_model.specs.Coherent.{IsCoherent}
use Rattle.flat_model.specs.Needs.{blocks_and_items_there, blocks_past}
use Rattle.flat_model.specs.Operations.{file_there, no_file}
use Rattle.flat_model.specs.Records.{DirInode, FileInode, FileRecord, InodeRecord, LinkInode, kind_of}
use Rattle.flat_model.specs.Volume.{Subvolume}
use Rattle.file_contents.proofs.Counting.{len_most}
use Rattle.file_contents.proofs.Given.{all_low}
use Rattle.operation_needs.specs.Items.{attribute_items_there, inline_extents_there}
use Rattle.operation_needs.proofs.Counting.{filter_less}
use Rattle.std.specs.Prelude.{Contains}
use Rattle.tree_range.proofs.Under.{filter_all}

-- ---- data blocks

pub file_is : (o : Option InodeRecord) → Some File ≡ option_map kind_of o → (file : FileRecord) × (o ≡ Some (FileInode file))
file_is None is = absurd cc
file_is (Some (FileInode file)) is = (file, refl)
file_is (Some (DirInode dir)) is = absurd cc
file_is (Some (LinkInode link)) is = absurd cc

keys_len : (file : FileRecord) → length (keys file.blocks) ≡ len file.blocks
keys_len file =
    let long = length-map (entries file.blocks) (λ (e : ℕ × List ℕ). e.0) in
    let size = len-entries file.blocks in
    omega (arith, long, size)

pub none_past : (size : ℕ) → 0 ≡ blocks_past no_file size
none_past size =
    let less = filter_less (λ (number : ℕ). nat_le size (number * 4096)) (keys no_file.blocks) in
    let long = keys_len no_file in
    let none : len no_file.blocks ≡ 0 = len-empty nat_cmp (List ℕ) in
    omega (arith, less, long, none)

pub none_past_dir : (o : Option InodeRecord) (size : ℕ) → Some Dir ≡ option_map kind_of o → 0 ≡ blocks_past (file_there o) size
none_past_dir None size is = absurd cc
none_past_dir (Some (FileInode file)) size is = absurd cc
none_past_dir (Some (DirInode dir)) size is = none_past size
none_past_dir (Some (LinkInode link)) size is = absurd cc

pub none_past_link : (o : Option InodeRecord) (size : ℕ) → Some Link ≡ option_map kind_of o → 0 ≡ blocks_past (file_there o) size
none_past_link None size is = absurd cc
none_past_link (Some (FileInode file)) size is = absurd cc
none_past_link (Some (DirInode dir)) size is = absurd cc
none_past_link (Some (LinkInode link)) size is = none_past size

pub none_past_none : (o : Option InodeRecord) (size : ℕ) → None ≡ option_map kind_of o → 0 ≡ blocks_past (file_there o) size
none_past_none None size is = none_past size
none_past_none (Some inode) size is = absurd cc

pub few_past : (sub : Subvolume) → IsCoherent sub → (ino : ℕ) (file : FileRecord) (size : ℕ) → get sub.inodes ino ≡ Some (FileInode file) → blocks_past file size ≤ 4096
few_past sub coherent ino file size there =
    let most = len_most 4096 file.blocks (all_low file (coherent.limits ino (FileInode file) there).kind) in
    let less = filter_less (λ (number : ℕ). nat_le size (number * 4096)) (keys file.blocks) in
    let long = keys_len file in
    omega (arith, most, less, long)

always : (number : ℕ) → nat_le 0 (number * 4096) ≡ true
always number = grind (arith, nat_tests)

all_past : (file : FileRecord) → blocks_past file 0 ≡ len file.blocks
all_past file =
    ap length (filter_all (λ (number : ℕ). nat_le 0 (number * 4096)) (keys file.blocks) (All-weaker (Contains (keys file.blocks)) (λ (number : ℕ). nat_le 0 (number * 4096) ≡ true) (λ number c. always number) (keys file.blocks) (All-contains_itself (keys file.blocks))))
    ∙ keys_len file

-- ---- all that an inode has

pub sum_is : (o : Option InodeRecord) → blocks_past (file_there o) 0 + inline_extents_there o + attribute_items_there o ≡ blocks_and_items_there o
sum_is None = let none = none_past 0 in omega (arith, none)
sum_is (Some (FileInode file)) = let all = all_past file in omega (arith, all)
sum_is (Some (DirInode dir)) = let none = none_past 0 in omega (arith, none)
sum_is (Some (LinkInode link)) = let none = none_past 0 in omega (arith, none)

pub inline_of : (o : Option InodeRecord) (kind : Kind) → Some kind ≡ option_map kind_of o → (elim kind [ File ↦ 0 | Dir ↦ 0 | Link ↦ 1 ]) ≡ inline_extents_there o
inline_of None kind is = absurd cc
inline_of (Some (FileInode file)) kind is = let same : kind ≡ File = cc in ap (λ (k : Kind). elim k as (λ k. ℕ) [ File ↦ 0 | Dir ↦ 0 | Link ↦ 1 ]) same
inline_of (Some (DirInode dir)) kind is = let same : kind ≡ Dir = cc in ap (λ (k : Kind). elim k as (λ k. ℕ) [ File ↦ 0 | Dir ↦ 0 | Link ↦ 1 ]) same
inline_of (Some (LinkInode link)) kind is = let same : kind ≡ Link = cc in ap (λ (k : Kind). elim k as (λ k. ℕ) [ File ↦ 0 | Dir ↦ 0 | Link ↦ 1 ]) same

pub inline_none : (o : Option InodeRecord) → None ≡ option_map kind_of o → 0 ≡ inline_extents_there o
inline_none None is = refl
inline_none (Some inode) is = absurd cc
