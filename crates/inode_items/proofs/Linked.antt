-- A subvolume with one symlink more: its inode item, and its target in an extent.
use Rattle.std.proofs.Common.{◌≡◌, ◌∙◌, ◌++◌, ◌≤◌, ◌<◌, ◌^◌, ℕ, List, [], ◌∷◌, Contains, Some, None, length, refl, sym, ap, subst, arith, append_assoc}
use Rattle.std.specs.Prelude.{filter}
use Rattle.std.specs.List.{flat_map}
use Rattle.std.proofs.lemmas.Grind.{flat_map-append}
use Rattle.std.proofs.lemmas.List.Elements.{All-weaker}
use Rattle.blk_base.specs.declared.key.Key.{Key}
use Rattle.blk_base.specs.Bytes.{field, number_bytes, zeros}
use Rattle.blk_base.specs.Extents.{Inline, IsExtent, inline_bytes}
use Rattle.blk_base.specs.Keys.{KeyBelow, extent_data, inode_item, key_below}
use Rattle.blk_base.specs.Leaf.{Item}
use Rattle.blk_base.specs.Trees.{ItemsRise}
use Rattle.block_table.specs.declared.tree.Tree.{Tree}
use Rattle.block_table.specs.Table.{Table}
use Rattle.format_laws.specs.Fields.{field_front}
use Rattle.item_laws.specs.ExtentLaws.{extent_from, inline_reads_back}
use Rattle.leaf_view.specs.KeyOrder.{KeyBelow_trans}
use Rattle.leaf_view.proofs.Rising.{key_below_from}
use Rattle.tree_range.specs.Between.{AreAbove, data_under}
use Rattle.tree_range.specs.Shape.{tree_items}
use Rattle.tree_range.proofs.Rise.{rise_head, rise_tail}
use Rattle.tree_range.proofs.Under.{filter_none, not_below}
use Rattle.tree_frame.specs.Frame.{with_item}
use Rattle.flat_model.specs.Operations.{with_record}
use Rattle.flat_model.specs.Records.{InodeRecord, new_link}
use Rattle.flat_model.specs.Volume.{Subvolume}
use Rattle.flat_model.proofs.Maps.{get_insert_same, some_none, some_same}
use Rattle.volume_image.specs.Subvolume.{ExtentAsked, IsInodeOf, data_addresses, item_addresses, make_key}
use Rattle.volume_image.proofs.Reaches.{head_in, tail_in}
use Rattle.table_volume.specs.Gives.{GivesSubvolume, data_in, tree_data}
use Rattle.table_volume.specs.TreeEdit.{IsTreeEdit}
use Rattle.table_volume.proofs.Items.{Lower, Same, Side, Upper, not_both, side}
use Rattle.table_volume.proofs.Keyed.{found_under, keys_hold}
use Rattle.table_volume.proofs.SubEdits.{tree_joined}
use Rattle.item_edit.specs.ItemEdit.{BearsUnder, IsItemEdit}
use Rattle.item_edit.proofs.Files.{now_here, now_other, same_files}
use Rattle.inode_items.specs.Inodes.{MayAddInode}
use Rattle.inode_items.proofs.Added.{IsAdding, IsPlain, no_extent, target_holds}

-- ---- the target's item

pub target_said : (ino running : ℕ) (target : List ℕ) → 1 ≤ length target → length target ≤ 1023 → IsExtent (make_key ino extent_data 0) (inline_bytes running target) (Inline target)
target_said ino running target some short =
    extent_from (make_key ino extent_data 0) (inline_bytes running target) (Inline target) (inline_reads_back (make_key ino extent_data 0) running target some (omega arith) refl)

pub target_bears : (running ino : ℕ) (items : List Item) (target : List ℕ) → running < 2 ^ 64 → BearsUnder running items (make_key ino extent_data 0) (inline_bytes running target)
unfolding inline_bytes
target_bears running ino items target fits = record {
  inode = λ k. absurd (omega (arith, k));
  entries = λ found k s. absurd (grind (arith, k));
  extent = λ k. ap (λ (bytes : List ℕ). field 8 bytes 0) (append_assoc (number_bytes 8 running ++ number_bytes 8 (length target)) (zeros 5) target ∙ append_assoc (number_bytes 8 running) (number_bytes 8 (length target)) (zeros 5 ++ target)) ∙ field_front 8 running (number_bytes 8 (length target) ++ (zeros 5 ++ target)) (omega (arith, fits));
}

no_addresses : (ino running : ℕ) (target : List ℕ) → 1 ≤ length target → length target ≤ 1023 → item_addresses (make_key ino extent_data 0, inline_bytes running target) ≡ []
no_addresses ino running target some short = rw (inline_reads_back (make_key ino extent_data 0) running target some (omega arith) refl) refl

-- ---- data addresses

abbrev low : Key → List Item → List Item
low key items = filter (λ item. key_below item.0 key) items

abbrev high : Key → List Item → List Item
high key items = filter (λ item. key_below key item.0) items

abbrev files : List Item → List ℕ
files items = flat_map item_addresses items

-- the data blocks of items none of which is under the key, by the parts in front of it and behind it
parted : (key : Key) (items : List Item) → ItemsRise items → ((bytes : List ℕ) → Contains items (key, bytes) → ⊥) → files items ≡ files (low key items) ++ files (high key items)
parted key [] rise out = refl
parted key (x ∷ xs) rise out =
    by_side (side x.0 key) (parted key xs (rise_tail x xs rise) (λ bytes c. out bytes (tail_in x (key, bytes) xs c)))
  where
    by_side : Side x.0 key → files xs ≡ files (low key xs) ++ files (high key xs) → files (x ∷ xs) ≡ files (low key (x ∷ xs)) ++ files (high key (x ∷ xs))
    by_side (Lower h) rest =
        rw (key_below_from x.0 key h, not_both x.0 key h) (ap (λ (l : List ℕ). item_addresses x ++ l) rest ∙ sym (append_assoc (item_addresses x) (files (low key xs)) (files (high key xs))))
    by_side (Same h) rest = absurd (out x.1 (subst (λ (k : Key). Contains (x ∷ xs) (k, x.1)) h (head_in x xs)))
    by_side (Upper h) rest =
        let above : AreAbove key xs = All-weaker (λ (item : Item). KeyBelow x.0 item.0) (λ (item : Item). KeyBelow key item.0) (λ item k. KeyBelow_trans key x.0 item.0 h k) xs (rise_head x xs rise) in
        let none : low key xs ≡ [] = filter_none (λ (item : Item). key_below item.0 key) xs (not_below key xs above) in
        rw (key_below_from key x.0 h, not_both key x.0 h, none) (ap (λ (l : List ℕ). item_addresses x ++ l) (rest ∙ ap (λ (l : List Item). files l ++ files (high key xs)) none))

same_with : (key : Key) (bytes : List ℕ) (items : List Item) → ItemsRise items → ((other : List ℕ) → Contains items (key, other) → ⊥) → item_addresses (key, bytes) ≡ [] → data_addresses (with_item key bytes items) ≡ data_addresses items
same_with key bytes items rise out none =
    flat_map-append item_addresses (low key items) ((key, bytes) ∷ high key items) ∙ ap (λ (l : List ℕ). files (low key items) ++ (l ++ files (high key items))) none ∙ sym (parted key items rise out)

-- ---- the two edits

module _ (old mid new : Table) (before between after : Tree) (sub : Subvolume) (ino running : ℕ) (inode_said target : List ℕ) (gives : GivesSubvolume old before sub) (may : MayAddInode sub ino)
    (some : 1 ≤ length target) (short : length target ≤ 1023) (fits : running < 2 ^ 64)
    (first : IsItemEdit old mid before between (make_key ino inode_item 0) (Some inode_said)) (second : IsItemEdit mid new between after (make_key ino extent_data 0) (Some (inline_bytes running target)))
    (bears : BearsUnder running (tree_items old before) (make_key ino inode_item 0) inode_said) (right : IsInodeOf (with_record sub ino (new_link target)) ino (new_link target) inode_said) where
  no_target : data_under (make_key ino extent_data 0) (tree_items mid between) ≡ None
  no_target =
      now_other old mid before between (make_key ino inode_item 0) (make_key ino extent_data 0) (Some inode_said) first (λ same. absurd (omega (arith, ap (λ (k : Key). k.kind) same)))
      ∙ no_extent sub ino may (data_in old) (make_key ino extent_data 0) (data_under (make_key ino extent_data 0) (tree_items old before)) refl refl
      (keys_hold (tree_items old before) (data_in old) sub gives.tree_in.order gives.items (make_key ino extent_data 0))

  whole : IsTreeEdit old new before after running 34
  whole = tree_joined old mid new before between after running 17 17
      (first.edit running (λ b e. subst (BearsUnder running (tree_items old before) (make_key ino inode_item 0)) (some_same inode_said b e) bears))
      (second.edit running (λ b e. subst (BearsUnder running (tree_items mid between) (make_key ino extent_data 0)) (some_same (inline_bytes running target) b e) (target_bears running ino (tree_items mid between) target fits)))

  same : tree_data new after ≡ tree_data old before
  same =
      ap (λ (items : List Item). data_addresses items) second.items
      ∙ same_with (make_key ino extent_data 0) (inline_bytes running target) (tree_items mid between) first.tree.order
      (λ other c. absurd (some_none other (sym (found_under (tree_items mid between) (make_key ino extent_data 0) other first.tree.order c) ∙ no_target))) (no_addresses ino running target some short)
      ∙ same_files old mid before between (make_key ino inode_item 0) (Some inode_said) gives.tree_in first (λ e. absurd (omega (arith, e)))

  pub link_adding : IsAdding old new before after sub ino (new_link target) running 34 inode_said (Some (inline_bytes running target))
  link_adding = record {
    gives = gives;
    may = may;
    whole = whole;
    files = same;
    here = now_other mid new between after (make_key ino extent_data 0) (make_key ino inode_item 0) (Some (inline_bytes running target)) second (λ e. absurd (omega (arith, ap (λ (k : Key). k.kind) e)))
        ∙ now_here old mid before between (make_key ino inode_item 0) (Some inode_said) first;
    extent = now_here mid new between after (make_key ino extent_data 0) (Some (inline_bytes running target)) second;
    elsewhere = λ key one two. now_other mid new between after (make_key ino extent_data 0) key (Some (inline_bytes running target)) second two ∙ now_other old mid before between (make_key ino inode_item 0) key (Some inode_said) first one;
    right = right;
    attributes = refl;
    no_blocks = λ file e. absurd cc;
    said = record {
      only = λ bytes e. ExtentAsked (new_link target) refl (get_insert_same sub.inodes ino (new_link target))
          (subst (λ (b : List ℕ). IsExtent (make_key ino extent_data 0) b (Inline target)) (some_same (inline_bytes running target) bytes e) (target_said ino running target some short));
      all = λ asks. refl;
    };
  }

-- the edit of one item alone
pub plain_adding : (old new : Table) (before after : Tree) (sub : Subvolume) (ino : ℕ) (inode : InodeRecord) (running : ℕ) (bytes : List ℕ) → GivesSubvolume old before sub → MayAddInode sub ino → IsPlain inode
    → IsItemEdit old new before after (make_key ino inode_item 0) (Some bytes) → BearsUnder running (tree_items old before) (make_key ino inode_item 0) bytes → IsInodeOf (with_record sub ino inode) ino inode bytes
    → IsAdding old new before after sub ino inode running 17 bytes None
plain_adding old new before after sub ino inode running bytes gives may plain edit bears right = record {
  gives = gives;
  may = may;
  whole = edit.edit running (λ b e. subst (BearsUnder running (tree_items old before) (make_key ino inode_item 0)) (some_same bytes b e) bears);
  files = same_files old new before after (make_key ino inode_item 0) (Some bytes) gives.tree_in edit (λ e. absurd (omega (arith, e)));
  here = now_here old new before after (make_key ino inode_item 0) (Some bytes) edit;
  extent = now_other old new before after (make_key ino inode_item 0) (make_key ino extent_data 0) (Some bytes) edit (λ same. absurd (omega (arith, ap (λ (k : Key). k.kind) same)))
      ∙ no_extent sub ino may (data_in old) (make_key ino extent_data 0) (data_under (make_key ino extent_data 0) (tree_items old before)) refl refl
      (keys_hold (tree_items old before) (data_in old) sub gives.tree_in.order gives.items (make_key ino extent_data 0));
  elsewhere = λ key one two. now_other old new before after (make_key ino inode_item 0) key (Some bytes) edit one;
  right = right;
  attributes = plain.attributes;
  no_blocks = plain.no_blocks;
  said = target_holds sub (data_in old) ino inode plain.no_link (make_key ino extent_data 0) refl refl;
}
