-- A volume is opened exactly where the disk has one, and so are its subvolumes.
use Rattle.std.proofs.Common.{◌≡◌, ◌↔◌, ℕ, List, [], Ok, sym, ap, subst, ◌∙◌}
use Rattle.blk_base.specs.Bytes.{Image}
use Rattle.format_laws.specs.Checks.{same_ok}
use Rattle.foreign_format.specs.declared.chunk.Chunk.{Chunk}
use Rattle.foreign_format.specs.declared.superblock.Superblock.{Superblock}
use Rattle.foreign_format.specs.Answer.{then_ok}
use Rattle.foreign_format.specs.Chunks.{in_row}
use Rattle.foreign_format.specs.Super.{super_of}
use Rattle.foreign_tree.specs.Tree.{IsTree, VolumeValue, Walked, disk_bytes, tree_of}
use Rattle.foreign_tree.proofs.Trees.{and_then_ok, tree_is_walked_lem}
use Rattle.foreign_volume.specs.declared.roots.Subvolume.{Subvolume}
use Rattle.foreign_volume.specs.Opened.{IsOpened, OpenedValue, array_chunks, chunk_root, chunk_rows, opened_of, size_of, super_bytes, tree_chunks, volume_with}
use Rattle.foreign_volume.specs.Roots.{AreSubvolumes, subs_of, subvolumes_of, top_root}

-- the chunks of the chunk tree
tree_chunks_ok : (blocks : ℕ) (image : Image) (superblock : Superblock) (first chunks : List Chunk) (walked : Walked) → tree_of (volume_with superblock first) (disk_bytes image) (chunk_root superblock) ≡ Ok walked
    → in_row (size_of blocks) 0 [] (chunk_rows walked.items) ≡ Ok chunks → tree_chunks blocks image superblock first ≡ Ok chunks
tree_chunks_ok blocks image superblock first chunks walked is mapped =
    then_ok (tree_of (volume_with superblock first) (disk_bytes image) (chunk_root superblock)) (λ walked. in_row (size_of blocks) 0 [] (chunk_rows walked.items)) walked is ∙ mapped

opened_forward : (blocks : ℕ) (image : Image) (opened : OpenedValue) → opened_of blocks image ≡ Ok opened → IsOpened blocks image opened
unfolding opened_of
opened_forward blocks image opened h =
    let super = and_then_ok (super_of (super_bytes image)) _ opened h in
    let array = and_then_ok (array_chunks blocks (super_bytes image)) _ opened super.2 in
    let tree = and_then_ok (tree_chunks blocks image super.0 array.0) _ opened array.2 in
    let walk = and_then_ok (tree_of (volume_with super.0 array.0) (disk_bytes image) (chunk_root super.0)) (λ walked. in_row (size_of blocks) 0 [] (chunk_rows walked.items)) tree.0 tree.1 in
    let same = same_ok tree.2 in
    let same_super : super.0 ≡ opened.superblock = ap (λ (o : OpenedValue). o.superblock) same in
    record {
      superblock = super.1 ∙ ap Ok same_super;
      first = array.0;
      array = array.1;
      items = walk.0.items;
      reach = walk.0.reached;
      tree = subst (λ (s : Superblock). IsTree (volume_with s array.0) (disk_bytes image) (chunk_root s) walk.0.items walk.0.reached) same_super ((tree_is_walked_lem (volume_with super.0 array.0) (disk_bytes image) (chunk_root super.0) walk.0).0 walk.1);
      chunks = tree.0;
      mapped = walk.2;
      volume = sym (ap (λ (o : OpenedValue). o.volume) same) ∙ ap (λ (s : Superblock). volume_with s tree.0) same_super;
    }

opened_back : (blocks : ℕ) (image : Image) (opened : OpenedValue) → IsOpened blocks image opened → opened_of blocks image ≡ Ok opened
unfolding opened_of
opened_back blocks image opened is =
    let walked : Walked = record { items = is.items; reached = is.reach } in
    let walk = (tree_is_walked_lem (volume_with opened.superblock is.first) (disk_bytes image) (chunk_root opened.superblock) walked).1 is.tree in
    then_ok (super_of (super_bytes image)) _ opened.superblock is.superblock
    ∙ then_ok (array_chunks blocks (super_bytes image)) _ is.first is.array
    ∙ then_ok (tree_chunks blocks image opened.superblock is.first) _ is.chunks (tree_chunks_ok blocks image opened.superblock is.first is.chunks walked walk is.mapped)
    ∙ ap Ok (λ i. record { superblock = opened.superblock; volume = sym is.volume i })

pub volume_is_opened_lem : (blocks : ℕ) (image : Image) (opened : OpenedValue) → (opened_of blocks image ≡ Ok opened) ↔ IsOpened blocks image opened
volume_is_opened_lem blocks image opened = (opened_forward blocks image opened, opened_back blocks image opened)

pub subvolumes_are_read_lem : (disk : List ℕ) (volume : VolumeValue) (superblock : Superblock) (subs : List Subvolume) → (subvolumes_of disk volume superblock ≡ Ok subs) ↔ AreSubvolumes disk volume superblock subs
unfolding subvolumes_of
subvolumes_are_read_lem disk volume superblock subs = (
  (λ h.
      let step = and_then_ok (tree_of volume disk (top_root superblock)) (λ walked. subs_of walked.items) subs h in
      record { items = step.0.items; reach = step.0.reached; tree = (tree_is_walked_lem volume disk (top_root superblock) step.0).0 step.1; are = step.2 }),
  λ are.
      let walked : Walked = record { items = are.items; reached = are.reach } in
      then_ok (tree_of volume disk (top_root superblock)) (λ walked. subs_of walked.items) walked ((tree_is_walked_lem volume disk (top_root superblock) walked).1 are.tree) ∙ are.are,
)
