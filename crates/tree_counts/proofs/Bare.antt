-- The count of a bare subvolume's items is reached: an inode and its `..`.
use Rattle.std.proofs.Common.{◌≡◌, ◌<◌, ◌^◌, ◌∙◌, ℕ, List, [], ◌∷◌, length, map, sum_by, nat_cmp, sym, ap, arith}
use Rattle.std.specs.Cmp.{nat_cmp_total}
use Rattle.std.specs.Cmp.Lexicographic.{slice_cmp}
use Rattle.std.specs.FinMap.{empty, entries, entries-insert, len-entries}
use Rattle.std.specs.FinMap.Entries.{put}
use Rattle.std.proofs.lemmas.List.Sums.{sum_by-cons}
use Rattle.blk_base.specs.Crc.{name_hash_of}
use Rattle.flat_model.specs.Records.{InodeRecord, new_dir}
use Rattle.flat_model.specs.Needs.{blocks_and_items, count_different}
use Rattle.flat_model.specs.Volume.{bare_subvolume}
use Rattle.volume_image.specs.Bare.{bare_items}
use Rattle.volume_image.specs.Subvolume.{AreItemsOf, Data}
use Rattle.volume_image.proofs.BareItems.{bare_items_are}
use Rattle.volume_image.proofs.Lists.{entries_empty}
use Rattle.commit_room.specs.Items.{items_of}

bare_entries : entries bare_subvolume.inodes ≡ (256, new_dir) ∷ []
bare_entries = entries-insert nat_cmp_total empty 256 new_dir ∙ ap (put nat_cmp 256 new_dir) (entries_empty nat_cmp)

bare_count : items_of bare_subvolume ≡ 2
bare_count =
    let size = len-entries bare_subvolume.inodes ∙ ap length bare_entries in
    let sum = ap (sum_by (λ (entry : ℕ × InodeRecord). blocks_and_items entry.1)) bare_entries in
    let none : blocks_and_items new_dir ≡ 0 = ap (λ (es : List (List ℕ × List ℕ)). count_different (map name_hash_of (map (λ (e : List ℕ × List ℕ). e.0) es))) (entries_empty (slice_cmp nat_cmp)) in
    omega (arith, size, sum, none, sum_by-cons (λ (entry : ℕ × InodeRecord). blocks_and_items entry.1) (256, new_dir) [])

pub count_reached : (blocks : Data) (generation : ℕ) → generation < 2 ^ 64 → AreItemsOf (bare_items generation) blocks bare_subvolume × (length (bare_items generation) ≡ items_of bare_subvolume)
count_reached blocks generation fits = (bare_items_are blocks generation fits, sym bare_count)
