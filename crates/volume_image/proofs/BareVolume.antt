-- An image whose root tree and tree of subvolume 5 have the bare items stands for the bare volume.
use Rattle.std.proofs.Common.{◌≡◌, ◌<◌, ◌≤◌, ◌^◌, ℕ, List, [], ◌∷◌, length, map, Contains, Ok, Some, None, Ordering, Less, Equal, Greater, nat_cmp, is_eq, cond, true, refl, sym, ap, subst, ◌∙◌, arith, zero-le, inl, inr}
use Rattle.std.proofs.lemmas.List.Elements.{All-nil}
use Rattle.std.specs.Cmp.{nat_cmp_total}
use Rattle.std.specs.Ordering.{eq_by_cmp}
use Rattle.std.specs.FinMap.{empty, entries, put, get-insert, get-empty, entries-insert}
use Rattle.blk_base.specs.declared.key.Want.{Want}
use Rattle.blk_base.specs.Address.{IsAllowed}
use Rattle.blk_base.specs.Leaf.{Item, IsLeaf, leaf_of}
use Rattle.blk_base.specs.Superblock.{SuperValue, IsSuper}
use Rattle.flat_model.specs.Volume.{Subvolume, bare_subvolume, bare_volume}
use Rattle.flat_model.specs.Coherent.{IsCoherent, IsCoherentVolume}
use Rattle.volume_image.specs.Tree.{Image, IsSubtree, IsTree, ItemsRise, block_of}
use Rattle.volume_image.specs.Stands.{super_block, root_want, sub_want, data_of, IsSubvolumeAt, IsCommitted, StandsBy}
use Rattle.volume_image.specs.Bare.{bare_items, bare_root, bare_root_items}
use Rattle.volume_image.proofs.Lists.{in_nothing, in_cons, entries_empty}
use Rattle.format_laws.specs.Items.{IsRoot-from_read, root_reads_back}
use Rattle.format_laws.specs.Blocks.{IsLeaf-from_read}
use Rattle.volume_image.proofs.BareSubvolume.{bare_subvolume_is_coherent}
use Rattle.volume_image.proofs.BareItems.{bare_items_are}

-- a leaf that stands alone is a tree
pub leaf_tree : (image : Image) (blocks : ℕ) (want : Want) (items : List Item) → want.level ≡ 0 → IsAllowed blocks want.at.0 → IsLeaf want (block_of image want.at.0) items → ItemsRise items
    → IsTree image blocks want items (want.at.0 ∷ [])
leaf_tree image blocks want items flat allowed leaf rise = record {
  low = omega arith;
  shape = subst (λ (level : ℕ). IsSubtree level image blocks true want items (want.at.0 ∷ [])) (sym flat) (allowed, leaf, zero-le, refl);
  order = rise;
  once = ((λ c. in_nothing want.at.0 c), tt);
}

bare_entries : entries (bare_volume 1) ≡ (5, bare_subvolume) ∷ []
bare_entries = entries-insert nat_cmp_total empty 5 bare_subvolume ∙ ap (put nat_cmp 5 bare_subvolume) (entries_empty nat_cmp)

bare_volume_is_coherent : IsCoherentVolume (bare_volume 1)
bare_volume_is_coherent id sub there = go (nat_cmp id 5) (sym (get-insert nat_cmp_total empty 5 bare_subvolume id ∙ ap (cond (eq_by_cmp nat_cmp id 5) (Some bare_subvolume)) (get-empty nat_cmp id)) ∙ there)
  where
    go : (r : Ordering) → cond (is_eq r) (Some bare_subvolume) None ≡ Some sub → IsCoherent sub
    go Less e = absurd cc
    go Equal e = let same : bare_subvolume ≡ sub = cc in subst IsCoherent same bare_subvolume_is_coherent
    go Greater e = absurd cc

bare_sub_at : (image : Image) (super : SuperValue) → 4096 ≤ super.blocks → super.generation < 2 ^ 64
    → IsLeaf (sub_want super 5 (bare_root super.generation 73728)) (block_of image 73728) (bare_items super.generation)
    → IsSubvolumeAt image super 5 (bare_root super.generation 73728) bare_subvolume (73728 ∷ [])
bare_sub_at image super big fits leaf = record {
  items = bare_items super.generation;
  tree_reach = 73728 ∷ [];
  tree = leaf_tree image super.blocks (sub_want super 5 (bare_root super.generation 73728)) (bare_items super.generation) refl
      (record { aligned = refl; inside = omega arith; behind_super = omega arith; no_copy = λ e. absurd (omega arith) }) leaf (refl, tt);
  same = bare_items_are (data_of image) super.generation fits;
  allowed = All-nil _;
  reached = refl;
}

bare_committed : (image : Image) (super : SuperValue) → IsSuper (super_block image) (length image) super → super.root ≡ 69632 → super.root_level ≡ 0 → super.generation < 2 ^ 64
    → IsLeaf (root_want super) (block_of image 69632) (bare_root_items super.generation 73728)
    → IsLeaf (sub_want super 5 (bare_root super.generation 73728)) (block_of image 73728) (bare_items super.generation)
    → IsCommitted image super (bare_volume 1) (69632 ∷ 73728 ∷ [])
bare_committed image super is_super root low fits root_leaf sub_leaf = record {
  items = bare_root_items super.generation 73728;
  roots = bare_root super.generation 73728 ∷ [];
  root_reach = 69632 ∷ [];
  sub_reach = 73728 ∷ [];
  root_tree = subst (λ (at : ℕ). IsTree image super.blocks (root_want super) (bare_root_items super.generation 73728) (at ∷ [])) root
      (leaf_tree image super.blocks (root_want super) (bare_root_items super.generation 73728) low is_super.allowed
      (subst (λ (at : ℕ). IsLeaf (root_want super) (block_of image at) (bare_root_items super.generation 73728)) (sym root) root_leaf) tt);
  least = omega arith;
  most = omega arith;
  root_items = (refl, IsRoot-from_read _ _ (root_reads_back (bare_root super.generation 73728) (record { generation = fits; at = omega arith; level = omega arith })), tt);
  ids = ap (map (λ (entry : ℕ × Subvolume). entry.0)) bare_entries;
  subvolumes = rw bare_entries (73728 ∷ [], [], bare_sub_at image super is_super.smallest fits sub_leaf, refl, refl);
  reached = refl;
  once = ((λ c. not_again c), ((λ c. in_nothing 73728 c), tt));
  coherent = bare_volume_is_coherent;
}
  where
    not_again : Contains {X = ℕ} (73728 ∷ []) 69632 → ⊥
    not_again c = elim (in_cons 73728 69632 [] c) [ inl e ↦ let differ : ◌≡◌ {A = ℕ} 73728 69632 = e in omega arith | inr none ↦ in_nothing 69632 none ]

pub bare_volume_stands_law : (image : Image) (super : SuperValue) → IsSuper (super_block image) (length image) super → super.log_root ≡ 0 → super.root ≡ 69632 → super.root_level ≡ 0 → super.generation < 2 ^ 64
    → IsLeaf (root_want super) (block_of image 69632) (bare_root_items super.generation 73728)
    → IsLeaf (sub_want super 5 (bare_root super.generation 73728)) (block_of image 73728) (bare_items super.generation)
    → StandsBy image (bare_volume 1) (69632 ∷ 73728 ∷ [])
bare_volume_stands_law image super is_super no_log root low fits root_leaf sub_leaf = record {
  super = super;
  spelled = is_super;
  committed = bare_committed image super is_super root low fits root_leaf sub_leaf;
  no_log = no_log;
  room = let smallest = is_super.smallest in omega arith;
}

-- the same, by what the two leaves are read as
pub bare_volume_read : (image : Image) (super : SuperValue) → IsSuper (super_block image) (length image) super → super.log_root ≡ 0 → super.root ≡ 69632 → super.root_level ≡ 0 → super.generation < 2 ^ 64
    → leaf_of (root_want super) (block_of image 69632) ≡ Ok (bare_root_items super.generation 73728)
    → leaf_of (sub_want super 5 (bare_root super.generation 73728)) (block_of image 73728) ≡ Ok (bare_items super.generation)
    → StandsBy image (bare_volume 1) (69632 ∷ 73728 ∷ [])
bare_volume_read image super is_super no_log root low fits root_leaf sub_leaf =
    bare_volume_stands_law image super is_super no_log root low fits (IsLeaf-from_read _ _ _ root_leaf) (IsLeaf-from_read _ _ _ sub_leaf)
