-- When a name may be added.
use Rattle.std.proofs.Common.{◌≡◌, ◌≢◌, ◌≤◌, ◌<◌, ◌+◌, ◌^◌, ◌&&◌, Bool, true, false, not, List, [], ◌∷◌, Contains, Option, Some, None, nat_eq, nat_lt, refl, sym, ap, ◌∙◌, arith}
use Rattle.std.specs.FinMap.{get}
use Rattle.std.proofs.lemmas.Bool.{and_from, eq-eqb, leb-true, ltb-false, not_from_false, or_parts, true≢false}
use Rattle.blk_base.specs.Crc.{extref_hash_of, name_hash_of}
use Rattle.blk_base.specs.Name.{IsName}
use Rattle.flat_model.specs.Coherent.{most_links}
use Rattle.flat_model.specs.Lengths.{dir_item_length, entry_length, extref_item_length, extref_length, most_item_bytes, ref_item_length, ref_length}
use Rattle.flat_model.specs.Names.{FlatName, add_name, is_hashed_in, is_name_set, links_of}
use Rattle.flat_model.specs.Operations.{has_room_near, is_crowded}
use Rattle.flat_model.specs.Records.{DirRecord, InodeRecord, FileInode, DirInode, LinkInode}
use Rattle.flat_model.specs.Volume.{Subvolume, is_dir_at, is_dir_there}
use Rattle.name_items.specs.Names.{MayAddName, names_size}
use Rattle.name_ops.proofs.Totals.{total_made, total_one}

-- a directory's record
pub dir_there : (o : Option InodeRecord) → is_dir_there o ≡ true → (dir : DirRecord) × (o ≡ Some (DirInode dir))
dir_there None is = absurd (true≢false (sym is))
dir_there (Some (FileInode file)) is = absurd (true≢false (sym is))
dir_there (Some (DirInode dir)) is = (dir, refl)
dir_there (Some (LinkInode link)) is = absurd (true≢false (sym is))

-- a name that isn't crowded once it is there fits its items
pub hashed_fits : (names : List FlatName) (n : FlatName) → is_name_set names ≡ true → (Contains names n → ⊥) → is_crowded (add_name n names) n ≡ false
    → dir_item_length names n.dir (name_hash_of n.bytes) + entry_length n ≤ most_item_bytes
unfolding dir_item_length
hashed_fits names n set absent free =
    let long = ltb-false most_item_bytes (dir_item_length (add_name n names) n.dir (name_hash_of n.bytes)) (or_parts _ _ free).0 in
    let all = total_made entry_length (is_hashed_in n.dir (name_hash_of n.bytes)) (n ∷ []) names set (absent, tt) in
    let mine = total_one entry_length (is_hashed_in n.dir (name_hash_of n.bytes)) n (and_from _ _ (eq-eqb n.dir n.dir refl) (eq-eqb (name_hash_of n.bytes) (name_hash_of n.bytes) refl)) in
    omega arith

pub far_fits : (names : List FlatName) (n : FlatName) → is_name_set names ≡ true → (Contains names n → ⊥) → is_crowded (add_name n names) n ≡ false → n.near ≡ false
    → extref_item_length names n.ino (extref_hash_of n.dir n.bytes) + extref_length n ≤ most_item_bytes
unfolding extref_item_length
far_fits names n set absent free far =
    let hash = extref_hash_of n.dir n.bytes in
    let test : FlatName → Bool = λ name. not name.near && (nat_eq name.ino n.ino && nat_eq (extref_hash_of name.dir name.bytes) hash) in
    let small : nat_lt most_item_bytes (extref_item_length (add_name n names) n.ino hash) ≡ false =
    sym (ap (λ (b : Bool). b && nat_lt most_item_bytes (extref_item_length (add_name n names) n.ino hash)) (not_from_false n.near far)) ∙ (or_parts _ _ free).1 in
    let long = ltb-false most_item_bytes (extref_item_length (add_name n names) n.ino hash) small in
    let all = total_made extref_length test (n ∷ []) names set (absent, tt) in
    let mine = total_one extref_length test n (and_from _ _ (not_from_false n.near far) (and_from _ _ (eq-eqb n.ino n.ino refl) (eq-eqb hash hash refl))) in
    omega arith

pub near_fits : (names : List FlatName) (n : FlatName) → n.near ≡ has_room_near names n → n.near ≡ true → ref_item_length names n.ino n.dir + ref_length n ≤ most_item_bytes
near_fits names n mark near = let room = leb-true _ _ (sym mark ∙ near) in omega arith

-- what it takes for a name to come into a subvolume
pub record Comes (sub : Subvolume) (n : FlatName) : Type 0 where
  pub set : is_name_set sub.names ≡ true
  pub is_name : IsName n.bytes
  pub index : n.index < 2 ^ 64
  pub ino_number : n.ino < 2 ^ 64
  pub dir_number : n.dir < 2 ^ 64
  pub not_root : n.ino ≢ 256
  pub inode : InodeRecord
  pub there : get sub.inodes n.ino ≡ Some inode
  pub in_dir : is_dir_at sub n.dir ≡ true
  pub slot_free : (q : FlatName) → Contains sub.names q → n.dir ≡ q.dir → n.bytes ≢ q.bytes
  pub fresh : (q : FlatName) → Contains sub.names q → n.dir ≡ q.dir → n.index ≢ q.index
  pub links : links_of sub.names n.ino < most_links
  pub size : names_size sub n.dir < 2 ^ 63

pub absent_of : (sub : Subvolume) (n : FlatName) → Comes sub n → Contains sub.names n → ⊥
absent_of sub n comes has = comes.fresh n has refl refl

pub may_add : (sub : Subvolume) (n : FlatName) → Comes sub n → n.near ≡ has_room_near sub.names n → is_crowded (add_name n sub.names) n ≡ false → MayAddName sub n
may_add sub n comes mark free =
    let dir = dir_there (get sub.inodes n.dir) comes.in_dir in
    let short = comes.is_name.most in
    let size = comes.size in
    record {
      in_order = comes.set;
      is_name = comes.is_name;
      index = comes.index;
      ino_number = comes.ino_number;
      dir_number = comes.dir_number;
      not_root = comes.not_root;
      inode = comes.inode;
      inode_there = comes.there;
      dir = dir.0;
      dir_there = dir.1;
      slot_free = λ q has d e. comes.slot_free q has (sym d) (sym e);
      index_free = λ q has d e. comes.fresh q has (sym d) (sym e);
      near_fits = near_fits sub.names n mark;
      far_fits = far_fits sub.names n comes.set (absent_of sub n comes) free;
      entry_fits = hashed_fits sub.names n comes.set (absent_of sub n comes) free;
      links = comes.links;
      size = omega arith;
    }
