-- The bare items are those of the bare subvolume.
use Rattle.std.proofs.Common.{◌≡◌, ◌≢◌, ◌<◌, ◌^◌, ◌&&◌, ◌++◌, ◌⊎◌, ℕ, Bool, true, false, List, [], ◌∷◌, Contains, Some, None, Option, Ordering, Less, Equal, Greater, nat_cmp, is_eq, cond, filter, map, nat_eq, refl, sym, ap, subst, ◌∙◌, arith, inl, inr, eqb-true}
use Rattle.std.proofs.lemmas.List.Sorted.{IsPermutation-refl}
use Rattle.blk_base.specs.declared.key.Key.{Key}
use Rattle.blk_base.specs.Crc.{name_hash_of}
use Rattle.blk_base.specs.Keys.{inode_item, inode_ref, extent_data}
use Rattle.blk_base.specs.Leaf.{Item}
use Rattle.blk_base.specs.Items.{IsInode, inode_bytes}
use Rattle.blk_base.specs.Entries.{IsRefs, ref_bytes}
use Rattle.flat_model.specs.Records.{InodeRecord, FileInode, LinkInode, new_dir}
use Rattle.flat_model.specs.Volume.{bare_subvolume}
use Rattle.volume_image.specs.Subvolume.{Data, AreItemsOf, IsAsked, InodeAsked, RefsAsked, make_key, refs_asked, attributes_asked, attributes_there, attribute_entry}
use Rattle.volume_image.specs.Bare.{bare_inode, bare_ref, bare_items}
use Rattle.volume_image.proofs.Lists.{in_nothing, in_cons, entries_empty}
use Rattle.format_laws.specs.Items.{IsInode-from_read, inode_reads_back}
use Rattle.volume_image.proofs.BareSubvolume.{bare_inode_at, bare_inode_only}

-- an item of the bare items is the inode item or the one of the name `..`
bare_cases : (generation : ℕ) (item : Item) → Contains (bare_items generation) item
    → ((make_key 256 inode_item 0, inode_bytes (bare_inode generation)) ≡ item) ⊎ ((make_key 256 inode_ref 256, ref_bytes bare_ref) ≡ item)
bare_cases generation item there = elim (in_cons _ item ((make_key 256 inode_ref 256, ref_bytes bare_ref) ∷ []) there) [
  | inl first ↦ inl first
  | inr rest ↦ elim (in_cons _ item [] rest) [
    | inl second ↦ inr second
    | inr none ↦ absurd (in_nothing item none)
  ]
]

bare_inode_is : (generation : ℕ) → generation < 2 ^ 64 → IsInode (inode_bytes (bare_inode generation)) (bare_inode generation)
bare_inode_is generation fits = IsInode-from_read _ _ (inode_reads_back (bare_inode generation) (record { generation = fits; transid = fits; size = omega arith; nbytes = omega arith; nlink = omega arith; mode = inr (inl refl) }))

bare_inode_asked : (blocks : Data) (generation : ℕ) → generation < 2 ^ 64 → IsAsked bare_subvolume blocks (make_key 256 inode_item 0) (inode_bytes (bare_inode generation))
bare_inode_asked blocks generation fits = InodeAsked new_dir refl refl (bare_inode_at 256)
    (record { value = bare_inode generation; spelled = bare_inode_is generation fits; mode = refl; size = refl; nbytes = refl; nlink = refl })

bare_refs_are : IsRefs (make_key 256 inode_ref 256) (ref_bytes bare_ref) (bare_ref ∷ [])
bare_refs_are = record {
  some = λ e. absurd cc;
  spelled = refl;
  indexes = (omega arith, tt);
  names = (inr ((refl, refl, refl), refl), tt);
}

bare_refs_asked : (blocks : Data) → IsAsked bare_subvolume blocks (make_key 256 inode_ref 256) (ref_bytes bare_ref)
bare_refs_asked blocks = RefsAsked (bare_ref ∷ []) refl bare_refs_are (IsPermutation-refl _)

bare_asked : (blocks : Data) (generation : ℕ) → generation < 2 ^ 64 → (key : Key) (bytes : List ℕ) → Contains (bare_items generation) (key, bytes) → IsAsked bare_subvolume blocks key bytes
bare_asked blocks generation fits key bytes there = elim (bare_cases generation (key, bytes) there) [
  | inl first ↦ subst (λ (item : Item). IsAsked bare_subvolume blocks item.0 item.1) first (bare_inode_asked blocks generation fits)
  | inr second ↦ subst (λ (item : Item). IsAsked bare_subvolume blocks item.0 item.1) second (bare_refs_asked blocks)
]

-- only inode 256 has the name `..`
own_ref_only : (ino parent : ℕ) → refs_asked bare_subvolume ino parent ≢ [] → (ino ≡ 256) × (parent ≡ 256)
own_ref_only ino parent some = go (nat_eq ino 256) (nat_eq parent 256) refl refl some
  where
    go : (a b : Bool) → nat_eq ino 256 ≡ a → nat_eq parent 256 ≡ b → ((cond (a && b) (bare_ref ∷ []) []) ++ []) ≢ [] → (ino ≡ 256) × (parent ≡ 256)
    go true true p q some = (eqb-true ino 256 p, eqb-true parent 256 q)
    go true false p q some = absurd (some refl)
    go false b p q some = absurd (some refl)

no_attributes : (ino hash : ℕ) → attributes_asked bare_subvolume ino hash ≡ []
no_attributes ino hash = ap (λ (there : Option InodeRecord). map attribute_entry (filter (λ attribute. nat_eq (name_hash_of attribute.0) hash) (attributes_there there))) (bare_inode_at ino) ∙ go (nat_cmp ino 256)
  where
    go : (r : Ordering) → map attribute_entry (filter (λ attribute. nat_eq (name_hash_of attribute.0) hash) (attributes_there (cond (is_eq r) (Some new_dir) None))) ≡ []
    go Less = refl
    go Equal = ap (λ es. map attribute_entry (filter (λ attribute. nat_eq (name_hash_of attribute.0) hash) es)) (entries_empty _)
    go Greater = refl

no_extents : (generation ino offset : ℕ) (bytes : List ℕ) → Contains (bare_items generation) (make_key ino extent_data offset, bytes) → ⊥
no_extents generation ino offset bytes there = elim (bare_cases generation _ there) [
  | inl first ↦ let e : ◌≡◌ {A = ℕ} 1 108 = ap (λ (item : Item). item.0.kind) first in omega arith
  | inr second ↦ let e : ◌≡◌ {A = ℕ} 12 108 = ap (λ (item : Item). item.0.kind) second in omega arith
]

pub bare_items_are : (blocks : Data) (generation : ℕ) → generation < 2 ^ 64 → AreItemsOf (bare_items generation) blocks bare_subvolume
bare_items_are blocks generation fits = record {
  only = bare_asked blocks generation fits;
  inodes = λ ino inode there. let at = (bare_inode_only ino inode there).0 in (inode_bytes (bare_inode generation), subst (λ (n : ℕ). Contains (bare_items generation) (make_key n inode_item 0, inode_bytes (bare_inode generation))) (sym at) (0, omega arith, refl));
  refs = λ ino parent some. let at = own_ref_only ino parent some in (ref_bytes bare_ref, rw (at.0, at.1) (1, omega arith, refl));
  extrefs = λ ino hash some. absurd (some refl);
  attributes = λ ino hash some. absurd (some (no_attributes ino hash));
  hashed = λ ino hash some. absurd (some refl);
  indexed = λ ino index some. absurd (some refl);
  file_blocks = λ ino file number block there. let one = (bare_inode_only ino (FileInode file) there).1 in absurd cc;
  targets = λ ino link there. let one = (bare_inode_only ino (LinkInode link) there).1 in absurd cc;
  apart = λ ino one two first second there. absurd (no_extents generation ino one first there);
}
