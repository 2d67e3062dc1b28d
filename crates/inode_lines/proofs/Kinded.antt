-- The kind that the item under an inode's key says is that of the inode that the items say.
use Rattle.std.proofs.Common.{◌≡◌, ◌↔◌, ℕ, Bool, true, false, List, Contains, Option, Some, None, Result, Ok, Err, refl, sym, ap, subst, ◌∙◌}
use Rattle.std.specs.Prelude.{◌==◌, ◌||◌, IsSome, IsTrue, if◌then◌else◌}
use Rattle.std.specs.Borrow.{Bor}
use Rattle.std.specs.Option.{is_some, option_map}
use Rattle.std.specs.FinMap.{get}
use Rattle.blk_base.specs.declared.fault.ItemFault.{ItemFault}
use Rattle.blk_base.specs.declared.key.Key.{Key}
use Rattle.blk_base.specs.Extents.{ExtentValue, Hole, Inline, Regular, extent_of}
use Rattle.blk_base.specs.Items.{InodeValue, dir_mode, file_mode, inode_of}
use Rattle.blk_base.specs.Keys.{dir_index, dir_item, extent_data, inode_item}
use Rattle.blk_base.specs.Leaf.{Item}
use Rattle.blk_base.specs.Trees.{ItemsRise}
use Rattle.flat_model.specs.declared.view.Kind.{Kind}
use Rattle.flat_model.specs.declared.view.Kind.TheVariants as Kinds
use Rattle.flat_model.specs.Records.{DirInode, FileInode, InodeRecord, LinkInode, kind_of}
use Rattle.flat_model.specs.Volume.{is_dir_there}
use Rattle.image_faults.specs.Faulty.{is_extent_for, is_for_kind}
use Rattle.image_faults.specs.Said.{said_attributes, said_blocks, said_inodes, said_record, said_target}
use Rattle.image_faults.proofs.Readings.{inode_from, inode_said}
use Rattle.tree_range.specs.Between.{data_under, data_view}
use Rattle.tree_range.proofs.Found.{contains_under, under_contains}
use Rattle.volume_image.specs.Subvolume.{Data, HasKey, make_key}
use Rattle.inode_lines.specs.Kinds.{is_dir, is_extent_of, is_item_for, kind_by, kind_read, kind_under, said_kind}

-- ---- items by their keys

pub under_in : (items : List Item) (key : Key) (bytes : List ℕ) → ItemsRise items → Contains items (key, bytes) → data_under key items ≡ Some bytes
under_in items key bytes rise c = under_contains items key bytes c.0 rise c.1 c.2

some_key : (items : List Item) (key : Key) (found : Option (List ℕ)) → data_under key items ≡ found → ItemsRise items → IsSome found ↔ HasKey items key
some_key items key (Some bytes) is rise = (λ h. (bytes, contains_under items key bytes is), λ h. refl)
some_key items key None is rise = (λ h. absurd cc, λ h. absurd (let there = under_in items key h.0 rise h.1 in cc))

pub has_key : (items : List Item) (key : Key) → ItemsRise items → IsSome (data_under key items) ↔ HasKey items key
has_key items key rise = some_key items key (data_under key items) refl rise

-- ---- kinds

record_kind : (items : List Item) (blocks : Data) (ino : ℕ) (value : InodeValue) → kind_of (said_record items blocks ino value) ≡ kind_by value.mode
record_kind items blocks ino value = go (value.mode == file_mode) (value.mode == dir_mode)
  where
    file : InodeRecord
    file = FileInode (record { attributes = said_attributes items ino; size = value.size; blocks = said_blocks items blocks ino })

    dir : InodeRecord
    dir = DirInode (record { attributes = said_attributes items ino })

    link : InodeRecord
    link = LinkInode (record { attributes = said_attributes items ino; target = said_target items ino })

    go : (b c : Bool) → kind_of (if b then FileInode (record { attributes = said_attributes items ino; size = value.size; blocks = said_blocks items blocks ino }) else if c then DirInode (record { attributes = said_attributes items ino }) else LinkInode (record { attributes = said_attributes items ino; target = said_target items ino }))
        ≡ (if b then Kinds.File else if c then Kinds.Dir else Kinds.Link)
    go true c = refl
    go false true = refl
    go false false = refl

none_said : (items : List Item) (blocks : Data) (ino : ℕ) (found : Option InodeRecord) → get (said_inodes items blocks) ino ≡ found → ((inode : InodeRecord) → found ≡ Some inode → ⊥) → option_map kind_of found ≡ None
none_said items blocks ino None is not = refl
none_said items blocks ino (Some inode) is not = absurd (not inode refl)

pub kind_said : (items : List Item) (blocks : Data) (ino : ℕ) → ItemsRise items → kind_under (data_under (make_key ino inode_item 0) items) ≡ said_kind items blocks ino
kind_said items blocks ino rise = go (data_under (make_key ino inode_item 0) items) refl
  where
    read : (bytes : List ℕ) (r : Result InodeValue ItemFault) → data_under (make_key ino inode_item 0) items ≡ Some bytes → inode_of bytes ≡ r → kind_read r ≡ said_kind items blocks ino
    read bytes (Ok value) is says =
        let there = inode_said items blocks ino bytes value rise (contains_under items (make_key ino inode_item 0) bytes is) says in
        sym (ap (option_map kind_of) there ∙ ap (λ (k : Kind). Some k) (record_kind items blocks ino value))
    read bytes (Err fault) is says = sym (none_said items blocks ino (get (said_inodes items blocks) ino) refl (λ inode there.
        let i = inode_from items blocks ino inode there in
        let also = under_in items (make_key ino inode_item 0) i.bytes rise i.there in
        let same : bytes ≡ i.bytes = some_is bytes i.bytes (sym is ∙ also) in
        clash fault i.value (sym says ∙ ap inode_of same ∙ i.read)))
      where
        some_is : (a b : List ℕ) → Some a ≡ Some b → a ≡ b
        some_is a b h = cc

        clash : (fault : ItemFault) (value : InodeValue) → ◌≡◌ {A = Result InodeValue ItemFault} (Err fault) (Ok value) → ⊥
        clash fault value h = cc

    go : (found : Option (List ℕ)) → data_under (make_key ino inode_item 0) items ≡ found → kind_under found ≡ said_kind items blocks ino
    go None is = sym (none_said items blocks ino (get (said_inodes items blocks) ino) refl (λ inode there.
        let i = inode_from items blocks ino inode there in
        let also = under_in items (make_key ino inode_item 0) i.bytes rise i.there in
        absurd (let both : None ≡ Some i.bytes = sym is ∙ also in cc)))
    go (Some bytes) is = read bytes (inode_of bytes) is refl

-- ---- what goes with a kind

extent_same : (inode : Option InodeRecord) (r : Result ExtentValue ItemFault) → is_extent_of (option_map kind_of inode) r ≡ is_extent_for inode r
extent_same None (Ok (Regular at offset len)) = refl
extent_same None (Ok (Inline content)) = refl
extent_same None (Ok (Hole len)) = refl
extent_same None (Err fault) = refl
extent_same (Some (FileInode file)) (Ok (Regular at offset len)) = refl
extent_same (Some (FileInode file)) (Ok (Inline content)) = refl
extent_same (Some (FileInode file)) (Ok (Hole len)) = refl
extent_same (Some (FileInode file)) (Err fault) = refl
extent_same (Some (DirInode dir)) (Ok (Regular at offset len)) = refl
extent_same (Some (DirInode dir)) (Ok (Inline content)) = refl
extent_same (Some (DirInode dir)) (Ok (Hole len)) = refl
extent_same (Some (DirInode dir)) (Err fault) = refl
extent_same (Some (LinkInode link)) (Ok (Regular at offset len)) = refl
extent_same (Some (LinkInode link)) (Ok (Inline content)) = refl
extent_same (Some (LinkInode link)) (Ok (Hole len)) = refl
extent_same (Some (LinkInode link)) (Err fault) = refl

pub dir_same : (inode : Option InodeRecord) → is_dir (option_map kind_of inode) ≡ is_dir_there inode
dir_same None = refl
dir_same (Some (FileInode file)) = refl
dir_same (Some (DirInode dir)) = refl
dir_same (Some (LinkInode link)) = refl

pub item_same : (inode : Option InodeRecord) (key : Key) (bytes : List ℕ) → is_item_for (option_map kind_of inode) key bytes ≡ is_for_kind inode key bytes
item_same inode key bytes =
    ap (λ (b : Bool). if (key.kind == dir_item) || (key.kind == dir_index) then b else if key.kind == extent_data then is_extent_of (option_map kind_of inode) (extent_of key bytes) else true) (dir_same inode)
    ∙ ap (λ (b : Bool). if (key.kind == dir_item) || (key.kind == dir_index) then is_dir_there inode else if key.kind == extent_data then b else true) (extent_same inode (extent_of key bytes))

-- ---- what is lent

view_there : (r : Option (Bor (List ℕ))) (b : Bool) → b ≡ is_some r → IsTrue b ↔ IsSome (data_view r)
view_there None b is = (λ h. absurd (let wrong : true ≡ false = sym h ∙ is in cc), λ h. absurd cc)
view_there (Some bytes) b is = (λ h. refl, λ h. is)

pub key_there : (items : List Item) (key : Key) (r : Option (Bor (List ℕ))) (b : Bool) → ItemsRise items → b ≡ is_some r → data_view r ≡ data_under key items → IsTrue b ↔ HasKey items key
key_there items key r b rise is view =
    let seen = view_there r b is in
    let has = has_key items key rise in
    (λ h. has.0 (subst (λ (o : Option (List ℕ)). IsSome o) view (seen.0 h)), λ h. seen.1 (subst (λ (o : Option (List ℕ)). IsSome o) (sym view) (has.1 h)))
