-- The superblock is one of its volume.
use Rattle.std.proofs.Common.{◌≡◌, ◌≤◌, ◌<◌, ◌^◌, ℕ, true, List, length, refl, sym, subst, arith, lit<}
use Rattle.std.proofs.lemmas.List.Elements.{All-contains}
use Rattle.blk_base.specs.Bytes.{IsBytes}
use Rattle.blk_base.specs.Superblock.{IsSuper, SuperFits, SuperValue, super_bytes}
use Rattle.block_table.specs.declared.tree.Tree.{Tree}
use Rattle.block_table.specs.Table.{Table}
use Rattle.block_table.specs.TreeIn.{IsTaken}
use Rattle.format_laws.specs.Tables.{IsSuper-super_bytes}
use Rattle.tree_range.specs.Shape.{IsTree, tree_reach}
use Rattle.tree_frame.proofs.Reading.{reach_taken}
use Rattle.tree_seal.proofs.Walk.{reach_itself}
use Rattle.volume_seal.specs.Superblock.{super_at}

fits_here : (table : Table) (root : Tree) (fsid : List ℕ) (generation used : ℕ) → length fsid ≡ 16 → IsBytes fsid → generation < 2 ^ 64 → used < 2 ^ 32
    → IsTree table root → 4096 ≤ length table.slots → length table.slots ≤ 65536 → SuperFits (super_at table root fsid generation used)
fits_here table root fsid generation used size bytes fits few tree least most =
    let taken : IsTaken table root.root.0 = All-contains (IsTaken table) (tree_reach table root) root.root.0 (reach_taken root.level table true root.root.0 tree.shape) (reach_itself root.level table root.root.0) in
    record {
      fsid = size;
      fsid_bytes = bytes;
      generation = fits;
      root = taken.allowed;
      log_root = lit< tt;
      smallest = least;
      greatest = most;
      used = few;
      low = tree.low;
      log_low = omega arith;
      no_log = λ same. refl;
    }

-- what is said, of a copy of the uuid and so many blocks
abbrev pub super_said : Tree → List ℕ → ℕ → ℕ → ℕ → SuperValue
super_said root fsid generation blocks used = record {
  fsid = fsid;
  generation = generation;
  root = root.root.0;
  root_level = root.level;
  log_root = 0;
  log_root_level = 0;
  blocks = blocks;
  used = used;
}

pub super_spelled : (table : Table) (root : Tree) (fsid said : List ℕ) (generation used blocks : ℕ) → said ≡ fsid → blocks ≡ length table.slots → length fsid ≡ 16 → IsBytes fsid → generation < 2 ^ 64 → used < 2 ^ 32
    → (disk_blocks : ℕ) → IsTree table root → 4096 ≤ length table.slots → length table.slots ≤ 65536 → length table.slots ≤ disk_blocks → IsSuper (super_bytes (super_said root said generation blocks used)) disk_blocks (super_said root said generation blocks used)
super_spelled table root fsid said generation used blocks same count size bytes fits few disk_blocks tree least most on_disk =
    let here : IsSuper (super_bytes (super_at table root fsid generation used)) disk_blocks (super_at table root fsid generation used) = IsSuper-super_bytes (super_at table root fsid generation used) disk_blocks (fits_here table root fsid generation used size bytes fits few tree least most) on_disk in
    subst (λ (n : ℕ). IsSuper (super_bytes (super_said root said generation n used)) disk_blocks (super_said root said generation n used)) (sym count)
    (subst (λ (l : List ℕ). IsSuper (super_bytes (super_said root l generation (length table.slots) used)) disk_blocks (super_said root l generation (length table.slots) used)) (sym same) here)
