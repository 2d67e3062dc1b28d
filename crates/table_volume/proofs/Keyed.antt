-- The items of a subvolume key by key.
use Rattle.std.proofs.Common.{◌≡◌, ℕ, List, Option, Some, None, refl, sym, ap, ◌∙◌, subst}
use Rattle.std.specs.Prelude.{Contains, IsSome}
use Rattle.std.proofs.lemmas.Bool.{true≢false}
use Rattle.blk_base.specs.declared.key.Key.{Key}
use Rattle.blk_base.specs.Keys.{dir_index, dir_item, extent_data, inode_extref, inode_item, inode_ref, xattr_item}
use Rattle.blk_base.specs.Leaf.{Item}
use Rattle.blk_base.specs.Trees.{ItemsRise}
use Rattle.flat_model.specs.Volume.{Subvolume}
use Rattle.tree_range.specs.Between.{data_under}
use Rattle.tree_range.proofs.Found.{contains_under, under_contains}
use Rattle.volume_image.specs.Subvolume.{AreItemsOf, Data, HasKey, make_key}
use Rattle.table_volume.specs.Keyed.{DoesAsk, AsksInode, AsksRefs, AsksExtRefs, AsksAttributes, AsksHashed, AsksIndexed, AsksTarget, HoldsExtents, HoldsKey}

pub found_under : (items : List Item) (key : Key) (bytes : List ℕ) → ItemsRise items → Contains items (key, bytes) → data_under key items ≡ Some bytes
found_under items key bytes rise there = under_contains items key bytes there.0 rise there.1 there.2

some_of : (items : List Item) (key : Key) → ItemsRise items → HasKey items key → IsSome (data_under key items)
some_of items key rise has =
    subst (λ (o : Option (List ℕ)). IsSome o) (sym (found_under items key has.0 rise has.1)) refl

-- a key by its parts
same_key : (key : Key) (kind offset : ℕ) → key.kind ≡ kind → key.offset ≡ offset → make_key key.objectid kind offset ≡ key
same_key key kind offset k o =
    ap (λ (n : ℕ). make_key key.objectid n offset) (sym k) ∙ ap (λ (n : ℕ). make_key key.objectid key.kind n) (sym o)

asked_there : (items : List Item) (blocks : Data) (sub : Subvolume) (key : Key) → AreItemsOf items blocks sub → DoesAsk sub key → HasKey items key
asked_there items blocks sub key are (AsksInode inode kind offset there) =
    subst (HasKey items) (same_key key inode_item 0 kind offset) (are.inodes key.objectid inode there)
asked_there items blocks sub key are (AsksRefs kind some) =
    subst (HasKey items) (same_key key inode_ref key.offset kind refl) (are.refs key.objectid key.offset some)
asked_there items blocks sub key are (AsksExtRefs kind some) =
    subst (HasKey items) (same_key key inode_extref key.offset kind refl) (are.extrefs key.objectid key.offset some)
asked_there items blocks sub key are (AsksAttributes kind some) =
    subst (HasKey items) (same_key key xattr_item key.offset kind refl) (are.attributes key.objectid key.offset some)
asked_there items blocks sub key are (AsksHashed kind some) =
    subst (HasKey items) (same_key key dir_item key.offset kind refl) (are.hashed key.objectid key.offset some)
asked_there items blocks sub key are (AsksIndexed kind some) =
    subst (HasKey items) (same_key key dir_index key.offset kind refl) (are.indexed key.objectid key.offset some)
asked_there items blocks sub key are (AsksTarget link kind offset there) =
    subst (HasKey items) (same_key key extent_data 0 kind offset) (are.targets key.objectid link there)

pub keys_hold : (items : List Item) (blocks : Data) (sub : Subvolume) → ItemsRise items → AreItemsOf items blocks sub → (key : Key) → HoldsKey sub blocks key (data_under key items)
keys_hold items blocks sub rise are key = record {
  only = λ bytes found. are.only key bytes (contains_under items key bytes found);
  all = λ asks. some_of items key rise (asked_there items blocks sub key are asks);
}

pub extents_hold : (items : List Item) (blocks : Data) (sub : Subvolume) → AreItemsOf items blocks sub → (ino : ℕ) → HoldsExtents sub items ino
extents_hold items blocks sub are ino = record {
  covered = λ file number block there has. are.file_blocks ino file number block there has;
  apart = λ one two first second a b less. are.apart ino one two first second a b less;
}

has_of : (items : List Item) (key : Key) (found : Option (List ℕ)) → data_under key items ≡ found → IsSome found → HasKey items key
has_of items key (Some bytes) is some = (bytes, contains_under items key bytes is)
has_of items key None is some = absurd (true≢false (sym some))

pub items_from_keys : (items : List Item) (blocks : Data) (sub : Subvolume) → ItemsRise items → ((key : Key) → HoldsKey sub blocks key (data_under key items)) → ((ino : ℕ) → HoldsExtents sub items ino) → AreItemsOf items blocks sub
items_from_keys items blocks sub rise keys extents =
    let has : (key : Key) → DoesAsk sub key → HasKey items key = λ key asks. has_of items key (data_under key items) refl ((keys key).all asks) in
    record {
      only = λ key bytes there. (keys key).only bytes (found_under items key bytes rise there);
      inodes = λ ino inode there. has (make_key ino inode_item 0) (AsksInode inode refl refl there);
      refs = λ ino parent some. has (make_key ino inode_ref parent) (AsksRefs refl some);
      extrefs = λ ino hash some. has (make_key ino inode_extref hash) (AsksExtRefs refl some);
      attributes = λ ino hash some. has (make_key ino xattr_item hash) (AsksAttributes refl some);
      hashed = λ dir hash some. has (make_key dir dir_item hash) (AsksHashed refl some);
      indexed = λ dir index some. has (make_key dir dir_index index) (AsksIndexed refl some);
      file_blocks = λ ino file number block there has_block. (extents ino).covered file number block there has_block;
      targets = λ ino link there. has (make_key ino extent_data 0) (AsksTarget link refl refl there);
      apart = λ ino one two first second a b less. (extents ino).apart one two first second a b less;
    }
