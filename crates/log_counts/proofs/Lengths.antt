-- How many things a flat log has.
use Rattle.std.proofs.Common.{◌≡◌, ◌≤◌, ◌+◌, ◌++◌, ℕ, List, [], ◌∷◌, length, map, Option, Some, None, flat_map, sum_by, refl, sym, ap, subst, ◌∙◌, arith, length-append}
use Rattle.std.proofs.lemmas.List.Sums.{sum_by-cons}
use Rattle.std.specs.FinMap.{FinMap, get, keys, entries, len, len-entries}
use Rattle.flat_model.specs.Records.{InodeRecord, FileInode, DirInode, LinkInode}
use Rattle.logged_volume.specs.FlatLog.{WholeInode, WholeFile, WholeDir, WholeLink, FlatLog}
use Rattle.logged_volume.specs.Weight.{change_count, made_count, logged_inodes, item_count}
use Rattle.log_counts.proofs.Things.{AName, ARange, AnEntry, AnAttribute, ARun, AHole, ATarget, things_whole, things_made, things_of_inode, things_of_log}

pub length_map : {X Y : Type 0} (f : X → Y) (xs : List X) → length (map f xs) ≡ length xs
length_map f [] = refl
length_map f (x ∷ xs) = let rest = length_map f xs in omega arith

pub length_flat_map : {X Y : Type 0} (f : X → List Y) (xs : List X) → length (flat_map f xs) ≡ sum_by (λ x. length (f x)) xs
length_flat_map f [] = refl
length_flat_map f (x ∷ xs) =
    let rest = length_flat_map f xs in
    omega (arith, length-append (f x) (flat_map f xs), sum_by-cons (λ x. length (f x)) x xs, rest)

pub length_keys : {K X : Type 0} {R : K → K → Rattle.std.proofs.Common.Ordering} (m : FinMap R X) → length (keys m) ≡ len m
length_keys m = length_map (λ e. e.0) (entries m) ∙ sym (len-entries m)

whole_length : (ino : ℕ) (whole : Option WholeInode) → length (things_whole ino whole) ≡ change_count whole
whole_length ino None = refl
whole_length ino (Some (WholeFile changes)) =
    let attributes = length_map (AnAttribute ino) (keys changes.attributes) ∙ length_keys changes.attributes in
    let blocks = length_map (ARun ino) (keys changes.blocks) ∙ length_keys changes.blocks in
    let holes = length_map (λ (hole : ℕ × ℕ). AHole ino hole.0 hole.1) changes.holes in
    let both = length-append (map (AnAttribute ino) (keys changes.attributes)) (map (ARun ino) (keys changes.blocks)) in
    let all = length-append (map (AnAttribute ino) (keys changes.attributes) ++ map (ARun ino) (keys changes.blocks)) (map (λ (hole : ℕ × ℕ). AHole ino hole.0 hole.1) changes.holes) in
    omega (arith, attributes, blocks, holes, both, all)
whole_length ino (Some (WholeDir dir)) = length_map (AnAttribute ino) (keys dir.attributes) ∙ length_keys dir.attributes
whole_length ino (Some (WholeLink link)) =
    let attributes = length_map (AnAttribute ino) (keys link.attributes) ∙ length_keys link.attributes in
    let all = length-append (map (AnAttribute ino) (keys link.attributes)) (ATarget ino ∷ []) in
    omega (arith, attributes, all)

made_length : (ino : ℕ) (inode : Option InodeRecord) → length (things_made ino inode) ≡ made_count inode
made_length ino None = refl
made_length ino (Some (FileInode file)) = refl
made_length ino (Some (DirInode dir)) = refl
made_length ino (Some (LinkInode link)) = refl

inode_length : (log : FlatLog) (ino : ℕ) → length (things_of_inode log ino) ≡ 1 + made_count (get log.existing ino) + change_count (get log.whole ino)
inode_length log ino =
    let all = length-append (things_made ino (get log.existing ino)) (things_whole ino (get log.whole ino)) in
    omega (arith, made_length ino (get log.existing ino), whole_length ino (get log.whole ino), all)

same_sums : {X : Type 0} (f g : X → ℕ) (xs : List X) → ((x : X) → f x ≡ g x) → sum_by f xs ≡ sum_by g xs
same_sums f g xs same = ap (λ (h : _). sum_by h xs) (λ i x. same x i)

pub log_length : (log : FlatLog) → length (things_of_log log) ≡ item_count log
unfolding item_count
log_length log =
    let inodes = length_flat_map (things_of_inode log) (logged_inodes log)
    ∙ same_sums (λ ino. length (things_of_inode log ino)) (λ ino. 1 + made_count (get log.existing ino) + change_count (get log.whole ino)) (logged_inodes log) (inode_length log) in
    let names = length_map AName log.names in
    let ranges = length_map ARange log.ranges in
    let entries = length_map AnEntry log.entries in
    let one = length-append (flat_map (things_of_inode log) (logged_inodes log)) (map AName log.names) in
    let two = length-append (flat_map (things_of_inode log) (logged_inodes log) ++ map AName log.names) (map ARange log.ranges) in
    let three = length-append (flat_map (things_of_inode log) (logged_inodes log) ++ map AName log.names ++ map ARange log.ranges) (map AnEntry log.entries) in
    omega (arith, inodes, names, ranges, entries, one, two, three)
