-- Codes of the values, by which a proof tells them apart.
use Rattle.std.specs.Prelude.{◌≡◌, ◌⊎◌, ℕ, Bool, List, refl}
use Rattle.std.specs.Coded.{Coded, code_by, coded×, coded⊎, coded_ℕ, coded_bool, coded_list}
use Rattle.std.specs.FinMap as map
use mathlib.Core.Logic.{inl, inr}
use Rattle.flat_model.specs.Records.{Attributes, Blocks, FileRecord, LinkRecord, InodeRecord, FileInode, DirInode, LinkInode}
use Rattle.flat_model.specs.Names.{FlatName}
use Rattle.flat_model.specs.Volume.{Subvolume, RunNumbers, RunSub, RunVolume}

abbrev pub bytes_code : Coded (List ℕ)
bytes_code = coded_list coded_ℕ

abbrev pub attributes_code : Coded Attributes
attributes_code = map.code bytes_code bytes_code

abbrev pub file_code : Coded FileRecord
file_code = code_by (Attributes × (ℕ × Blocks)) (coded× attributes_code (coded× coded_ℕ (map.code coded_ℕ bytes_code))) (λ f. (f.attributes, (f.size, f.blocks))) (λ p. record { attributes = p.0; size = p.1.0; blocks = p.1.1 }) (λ _. refl)

abbrev pub link_code : Coded LinkRecord
link_code = code_by (Attributes × List ℕ) (coded× attributes_code bytes_code) (λ l. (l.attributes, l.target)) (λ p. record { attributes = p.0; target = p.1 }) (λ _. refl)

abbrev split_inode : InodeRecord → FileRecord ⊎ (Attributes ⊎ LinkRecord)
split_inode (FileInode file) = inl file
split_inode (DirInode dir) = inr (inl dir.attributes)
split_inode (LinkInode link) = inr (inr link)

abbrev join_inode : FileRecord ⊎ (Attributes ⊎ LinkRecord) → InodeRecord
join_inode (inl file) = FileInode file
join_inode (inr (inl attributes)) = DirInode (record { attributes = attributes })
join_inode (inr (inr link)) = LinkInode link

pub join_split : (inode : InodeRecord) → join_inode (split_inode inode) ≡ inode
join_split (FileInode file) = refl
join_split (DirInode dir) = refl
join_split (LinkInode link) = refl

abbrev pub inode_code : Coded InodeRecord
inode_code = code_by (FileRecord ⊎ (Attributes ⊎ LinkRecord)) (coded⊎ file_code (coded⊎ attributes_code link_code)) split_inode join_inode join_split

abbrev pub name_code : Coded FlatName
name_code = code_by (ℕ × (ℕ × (List ℕ × (ℕ × Bool)))) (coded× coded_ℕ (coded× coded_ℕ (coded× bytes_code (coded× coded_ℕ coded_bool)))) (λ n. (n.dir, (n.index, (n.bytes, (n.ino, n.near)))))
    (λ p. record { dir = p.0; index = p.1.0; bytes = p.1.1.0; ino = p.1.1.1.0; near = p.1.1.1.1 }) (λ _. refl)

abbrev pub subvolume_code : Coded Subvolume
subvolume_code = code_by ((map.FinMap Rattle.std.specs.Ordering.nat_cmp InodeRecord) × List FlatName) (coded× (map.code coded_ℕ inode_code) (coded_list name_code)) (λ s. (s.inodes, s.names)) (λ p. record { inodes = p.0; names = p.1 }) (λ _. refl)

abbrev pub numbers_code : Coded RunNumbers
numbers_code = code_by (ℕ × (ℕ × map.FinMap Rattle.std.specs.Ordering.nat_cmp ℕ)) (coded× coded_ℕ (coded× coded_ℕ (map.code coded_ℕ coded_ℕ))) (λ m. (m.last_ino, (m.last_index, m.dir_indexes))) (λ p. record { last_ino = p.0; last_index = p.1.0; dir_indexes = p.1.1 }) (λ _. refl)

abbrev pub run_sub_code : Coded RunSub
run_sub_code = code_by (Subvolume × RunNumbers) (coded× subvolume_code numbers_code) (λ r. (r.sub, r.numbers)) (λ p. record { sub = p.0; numbers = p.1 }) (λ _. refl)

-- the code of a volume in a run
abbrev pub run_volume_code : Coded RunVolume
run_volume_code = map.code coded_ℕ run_sub_code
