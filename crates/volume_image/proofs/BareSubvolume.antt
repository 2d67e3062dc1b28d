-- The subvolume with nothing but its root directory is coherent.
use Rattle.std.proofs.Common.{◌≡◌, ◌≤◌, ℕ, true, IsTrue, List, [], Some, None, Ordering, Less, Equal, Greater, nat_cmp, is_eq, cond, sum_by, filter, nat_eq, refl, sym, ap, subst, ◌∙◌, arith, zero-le}
use Rattle.std.specs.Cmp.{nat_cmp_total}
use Rattle.std.specs.Ordering.{eq_by_cmp}
use Rattle.std.specs.FinMap.{get, empty, get-insert, get-empty, nat_cmp-IsAntisymmetric}
use Rattle.flat_model.specs.Records.{InodeRecord, LinkInode, new_dir, attributes_of}
use Rattle.flat_model.specs.Lengths.{ref_item_length, extref_item_length, dir_item_length, xattr_item_length, attribute_length, most_item_bytes}
use Rattle.flat_model.specs.Volume.{bare_subvolume, is_dir_at, is_dir_there}
use Rattle.flat_model.specs.Coherent.{IsCoherent, ItemsFit, KeepsLimits}
use Rattle.std.specs.Cmp.Lexicographic.{slice_cmp}
use Rattle.blk_base.specs.Crc.{name_hash_of}
use Rattle.volume_image.proofs.Lists.{in_nothing, entries_empty}

-- the inodes of the bare subvolume
pub bare_inode_at : (ino : ℕ) → get bare_subvolume.inodes ino ≡ cond (eq_by_cmp nat_cmp ino 256) (Some new_dir) None
bare_inode_at ino = get-insert nat_cmp_total empty 256 new_dir ino ∙ ap (cond (eq_by_cmp nat_cmp ino 256) (Some new_dir)) (get-empty nat_cmp ino)

one_key : (r : Ordering) (x y : InodeRecord) → cond (is_eq r) (Some x) None ≡ Some y → (r ≡ Equal) × (x ≡ y)
one_key Less x y e = absurd cc
one_key Equal x y e = (refl, cc)
one_key Greater x y e = absurd cc

-- its one inode is 256, a directory without attributes
pub bare_inode_only : (ino : ℕ) (inode : InodeRecord) → get bare_subvolume.inodes ino ≡ Some inode → (ino ≡ 256) × (inode ≡ new_dir)
bare_inode_only ino inode there =
    let one = one_key (nat_cmp ino 256) new_dir inode (sym (bare_inode_at ino) ∙ there) in
    (nat_cmp-IsAntisymmetric ino 256 one.0, sym one.1)

-- its one directory is 256
pub bare_dir_only : (dir : ℕ) → IsTrue (is_dir_at bare_subvolume dir) → dir ≡ 256
bare_dir_only dir is_dir = go (nat_cmp dir 256) refl (sym (ap is_dir_there (bare_inode_at dir)) ∙ is_dir)
  where
    go : (r : Ordering) → nat_cmp dir 256 ≡ r → is_dir_there (cond (is_eq r) (Some new_dir) None) ≡ true → dir ≡ 256
    go Less e is = absurd cc
    go Equal e is = nat_cmp-IsAntisymmetric dir 256 e
    go Greater e is = absurd cc

no_attribute_bytes : (hash : ℕ) → xattr_item_length (attributes_of new_dir) hash ≡ 0
unfolding xattr_item_length
no_attribute_bytes hash = ap (λ es. sum_by attribute_length (filter (λ attribute. nat_eq (name_hash_of attribute.0) hash) es)) (entries_empty _)

bare_items_fit : ItemsFit bare_subvolume
unfolding ref_item_length extref_item_length dir_item_length
bare_items_fit = record {
  refs = λ ino dir. zero-le;
  extrefs = λ ino hash. zero-le;
  entries = λ dir hash. zero-le;
  attributes = λ ino inode there hash. subst (λ (i : InodeRecord). xattr_item_length (attributes_of i) hash ≤ most_item_bytes) (sym ((bare_inode_only ino inode there).1)) (rw no_attribute_bytes (zero-le));
  targets = λ ino link there. let one = (bare_inode_only ino (LinkInode link) there).1 in absurd cc;
}

new_dir_keeps_limits : KeepsLimits new_dir
new_dir_keeps_limits = record { attributes = λ name value there. let none : get (empty {X = List ℕ} {R = slice_cmp nat_cmp}) name ≡ None = get-empty (slice_cmp nat_cmp) name in absurd cc; kind = tt }

pub bare_subvolume_is_coherent : IsCoherent bare_subvolume
bare_subvolume_is_coherent = record {
  in_order = refl;
  root_is_dir = ap is_dir_there (bare_inode_at 256);
  root_has_no_name = λ name there. absurd (in_nothing name there);
  no_name_twice = λ one two there. absurd (in_nothing one there);
  no_index_twice = λ one two there. absurd (in_nothing one there);
  leads_to_inode = λ name there. absurd (in_nothing name there);
  stands_in_dir = λ name there. absurd (in_nothing name there);
  link_counts = λ ino inode there not_root. absurd (not_root ((bare_inode_only ino inode there).0));
  ends_at_root = λ dir is_dir. ([], bare_dir_only dir is_dir);
  limits = λ ino inode there. subst KeepsLimits (sym ((bare_inode_only ino inode there).1)) new_dir_keeps_limits;
  name_limits = λ name there. absurd (in_nothing name there);
  items_fit = bare_items_fit;
  ino_numbers = λ ino inode there. let one = (bare_inode_only ino inode there).0 in (omega arith, omega arith);
  index_numbers = λ name there. absurd (in_nothing name there);
}
