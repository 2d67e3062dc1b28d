-- The item that is found, and that none is found, say what the attribute is.
use Rattle.std.proofs.Common.{◌≡◌, List, Option, ℕ, Some, None, sym, ap, ◌∙◌}
use Rattle.blk_base.specs.declared.key.Key.{Key}
use Rattle.blk_base.specs.Keys.{xattr_item}
use Rattle.blk_base.specs.Crc.{name_hash_of}
use Rattle.flat_model.specs.Records.{attributes_of}
use Rattle.tree_range.specs.Between.{data_under}
use Rattle.tree_range.specs.Shape.{tree_items}
use Rattle.volume_image.specs.Subvolume.{make_key}
use Rattle.table_volume.specs.Gives.{data_in}
use Rattle.attribute_items.specs.Found.{entries_there, value_of}
use Rattle.attribute_items.proofs.Hashed.{value_is}
use Rattle.attribute_items.proofs.Items.{found_there}
use Rattle.attribute_items.proofs.attributes.get_attribute.Goals as goal

pub returns-in-None-clause-value : goal.returns-in-None-clause-value
returns-in-None-clause-value c given inode gives there =
    let items = tree_items c.args.table.now c.args.sub.now.tree in
    let name = c.args.name.now in
    let key : c.attribute_key.result ≡ make_key c.args.ino.0 xattr_item (name_hash_of name) = c.attribute_key.ensures ∙ ap (λ (n : List ℕ). make_key c.args.ino.0 xattr_item (name_hash_of n)) c.as_bytes-name.ensures.value in
    let found = found_there items (data_in c.args.table.now) given c.args.ino.0 (name_hash_of name) inode gives.tree_in.order gives.items there None (sym (c.in-None.ensures ∙ ap (λ (k : Key). data_under k items) key)) in
    value_is (entries_there None) (attributes_of inode) name found.are

pub returns-in-Some-clause-value : goal.returns-in-Some-clause-value
returns-in-Some-clause-value c given inode gives there =
    let items = tree_items c.args.table.now c.args.sub.now.tree in
    let name = c.args.name.now in
    let bytes = c.in-Some.bytes.now in
    let key : c.attribute_key.result ≡ make_key c.args.ino.0 xattr_item (name_hash_of name) = c.attribute_key.ensures ∙ ap (λ (n : List ℕ). make_key c.args.ino.0 xattr_item (name_hash_of n)) c.as_bytes-name.ensures.value in
    let found = found_there items (data_in c.args.table.now) given c.args.ino.0 (name_hash_of name) inode gives.tree_in.order gives.items there (Some bytes) (sym (c.in-Some.ensures ∙ ap (λ (k : Key). data_under k items) key)) in
    c.value_in.ensures ∙ ap (λ (n : List ℕ). value_of n (entries_there (Some bytes))) c.as_bytes-name.ensures.value ∙ value_is (entries_there (Some bytes)) (attributes_of inode) name found.are

pub returns-in-None-clause-entry : goal.returns-in-None-clause-entry
returns-in-None-clause-entry c =
    let items = tree_items c.args.table.now c.args.sub.now.tree in
    let name = c.args.name.now in
    let key : c.attribute_key.result ≡ make_key c.args.ino.0 xattr_item (name_hash_of name) = c.attribute_key.ensures ∙ ap (λ (n : List ℕ). make_key c.args.ino.0 xattr_item (name_hash_of n)) c.as_bytes-name.ensures.value in
    ap (λ (o : Option (List ℕ)). value_of name (entries_there o)) (c.in-None.ensures ∙ ap (λ (k : Key). data_under k items) key)

pub returns-in-Some-clause-entry : goal.returns-in-Some-clause-entry
returns-in-Some-clause-entry c =
    let items = tree_items c.args.table.now c.args.sub.now.tree in
    let name = c.args.name.now in
    let bytes = c.in-Some.bytes.now in
    let key : c.attribute_key.result ≡ make_key c.args.ino.0 xattr_item (name_hash_of name) = c.attribute_key.ensures ∙ ap (λ (n : List ℕ). make_key c.args.ino.0 xattr_item (name_hash_of n)) c.as_bytes-name.ensures.value in
    c.value_in.ensures ∙ ap (λ (n : List ℕ). value_of n (entries_there (Some bytes))) c.as_bytes-name.ensures.value
    ∙ ap (λ (o : Option (List ℕ)). value_of name (entries_there o)) (c.in-Some.ensures ∙ ap (λ (k : Key). data_under k items) key)
