-- The keys of all items that a subvolume asks for.
use Rattle.std.proofs.Common.{◌≡◌, ◌*◌, ◌++◌, ℕ, List, [], ◌∷◌, length, map, filter, flat_map, sym, ◌∙◌, not, arith, Ordering, length-append}
use Rattle.std.specs.FinMap.{FinMap, entries, keys, len, len-entries}
use Rattle.blk_base.specs.declared.key.Key.{Key}
use Rattle.blk_base.specs.Crc.{name_hash_of, extref_hash_of}
use Rattle.blk_base.specs.Keys.{inode_item, inode_ref, inode_extref, xattr_item, dir_item, dir_index, extent_data}
use Rattle.flat_model.specs.Records.{InodeRecord, FileInode, DirInode, LinkInode, attributes_of}
use Rattle.flat_model.specs.Names.{FlatName}
use Rattle.flat_model.specs.Needs.{attribute_hashes, attribute_items, blocks_and_items}
use Rattle.flat_model.specs.Volume.{Subvolume}
use Rattle.volume_image.specs.Subvolume.{make_key}
use Rattle.commit_room.specs.Items.{count_pairs, items_of}
use Rattle.tree_counts.proofs.Lists.{length_map, length_flat_map, same_sums, each_pair, pairs_length, each_number, numbers_length}

abbrev pub pair_key : ℕ → ℕ × ℕ → Key
pair_key kind pair = make_key pair.0 kind pair.1

-- ---- the pairs of names

abbrev pub ref_pairs : List FlatName → List (ℕ × ℕ)
ref_pairs names = map (λ (name : FlatName). (name.ino, name.dir)) (filter (λ (name : FlatName). name.near) names)

abbrev pub extref_pairs : List FlatName → List (ℕ × ℕ)
extref_pairs names = map (λ (name : FlatName). (name.ino, extref_hash_of name.dir name.bytes)) (filter (λ (name : FlatName). not name.near) names)

abbrev pub entry_pairs : List FlatName → List (ℕ × ℕ)
entry_pairs names = map (λ (name : FlatName). (name.dir, name_hash_of name.bytes)) names

-- ---- the keys of each kind

abbrev pub inode_keys : Subvolume → List Key
inode_keys sub = map (λ (ino : ℕ). make_key ino inode_item 0) (keys sub.inodes)

abbrev pub dots_key : Key
dots_key = make_key 256 inode_ref 256

abbrev pub ref_keys : Subvolume → List Key
ref_keys sub = map (pair_key inode_ref) (each_pair (ref_pairs sub.names))

abbrev pub extref_keys : Subvolume → List Key
extref_keys sub = map (pair_key inode_extref) (each_pair (extref_pairs sub.names))

abbrev pub entry_keys : Subvolume → List Key
entry_keys sub = map (pair_key dir_item) (each_pair (entry_pairs sub.names))

abbrev pub index_keys : Subvolume → List Key
index_keys sub = map (λ (name : FlatName). make_key name.dir dir_index name.index) sub.names

abbrev pub extent_keys : ℕ → InodeRecord → List Key
extent_keys ino (FileInode file) = map (λ (number : ℕ). make_key ino extent_data (4096 * number)) (keys file.blocks)
extent_keys ino (DirInode dir) = []
extent_keys ino (LinkInode link) = make_key ino extent_data 0 ∷ []

abbrev pub attribute_keys : ℕ → InodeRecord → List Key
attribute_keys ino inode = map (make_key ino xattr_item) (each_number (attribute_hashes (attributes_of inode)))

abbrev pub own_keys : ℕ × InodeRecord → List Key
own_keys entry = extent_keys entry.0 entry.1 ++ attribute_keys entry.0 entry.1

abbrev pub all_own : Subvolume → List Key
all_own sub = flat_map own_keys (entries sub.inodes)

abbrev pub keys_wanted : Subvolume → List Key
keys_wanted sub = inode_keys sub ++ (dots_key ∷ (ref_keys sub ++ (extref_keys sub ++ (entry_keys sub ++ (index_keys sub ++ all_own sub)))))

-- ---- how many

length_keys : {K X : Type 0} {R : K → K → Ordering} (m : FinMap R X) → length (keys m) ≡ len m
length_keys m = length_map (λ e. e.0) (entries m) ∙ sym (len-entries m)

pairs_keyed : (kind : ℕ) (pairs : List (ℕ × ℕ)) → length (map (pair_key kind) (each_pair pairs)) ≡ count_pairs pairs
pairs_keyed kind pairs = length_map (pair_key kind) (each_pair pairs) ∙ pairs_length pairs

attributes_length : (ino : ℕ) (inode : InodeRecord) → length (attribute_keys ino inode) ≡ attribute_items (attributes_of inode)
attributes_length ino inode =
    length_map (make_key ino xattr_item) (each_number (attribute_hashes (attributes_of inode))) ∙ numbers_length (attribute_hashes (attributes_of inode))

own_length : (ino : ℕ) (inode : InodeRecord) → length (own_keys (ino, inode)) ≡ blocks_and_items inode
own_length ino (FileInode file) =
    let blocks = length_map (λ (number : ℕ). make_key ino extent_data (4096 * number)) (keys file.blocks) ∙ length_keys file.blocks in
    let all = length-append (extent_keys ino (FileInode file)) (attribute_keys ino (FileInode file)) in
    omega (arith, blocks, all, attributes_length ino (FileInode file))
own_length ino (DirInode dir) = attributes_length ino (DirInode dir)
own_length ino (LinkInode link) =
    let all = length-append (extent_keys ino (LinkInode link)) (attribute_keys ino (LinkInode link)) in
    omega (arith, all, attributes_length ino (LinkInode link))

pub wanted_length : (sub : Subvolume) → length (keys_wanted sub) ≡ items_of sub
wanted_length sub =
    let inodes = length_map (λ (ino : ℕ). make_key ino inode_item 0) (keys sub.inodes) ∙ length_keys sub.inodes in
    let refs = pairs_keyed inode_ref (ref_pairs sub.names) in
    let extrefs = pairs_keyed inode_extref (extref_pairs sub.names) in
    let hashed = pairs_keyed dir_item (entry_pairs sub.names) in
    let indexed = length_map (λ (name : FlatName). make_key name.dir dir_index name.index) sub.names in
    let own = length_flat_map own_keys (entries sub.inodes)
    ∙ same_sums (λ (entry : ℕ × InodeRecord). length (own_keys entry)) (λ (entry : ℕ × InodeRecord). blocks_and_items entry.1) (entries sub.inodes) (λ entry. own_length entry.0 entry.1) in
    let one = length-append (index_keys sub) (all_own sub) in
    let two = length-append (entry_keys sub) (index_keys sub ++ all_own sub) in
    let three = length-append (extref_keys sub) (entry_keys sub ++ (index_keys sub ++ all_own sub)) in
    let four = length-append (ref_keys sub) (extref_keys sub ++ (entry_keys sub ++ (index_keys sub ++ all_own sub))) in
    let five = length-append (inode_keys sub) (dots_key ∷ (ref_keys sub ++ (extref_keys sub ++ (entry_keys sub ++ (index_keys sub ++ all_own sub))))) in
    omega (arith, inodes, refs, extrefs, hashed, indexed, own, one, two, three, four, five)
