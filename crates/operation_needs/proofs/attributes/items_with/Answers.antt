-- The item under the key of the hash has another attribute, or none.
use Rattle.std.proofs.Common.{◌≡◌, ℕ, Bool, true, false, cond, not, List, Some, None, sym, ap, ◌∙◌}
use Rattle.std.specs.List.{list_any}
use Rattle.std.specs.Str.{bytes_eq}
use Rattle.blk_base.specs.declared.key.Key.{Key}
use Rattle.blk_base.specs.Crc.{name_hash_of}
use Rattle.blk_base.specs.Keys.{xattr_item}
use Rattle.tree_range.specs.Between.{data_under}
use Rattle.tree_range.specs.Shape.{tree_items}
use Rattle.volume_image.specs.Subvolume.{make_key}
use Rattle.attribute_items.specs.Found.{entries_there}
use Rattle.operation_needs.proofs.With.{with_item}
use Rattle.operation_needs.proofs.attributes.items_with.Goals as goal

pub returns-then-has_other-clause-count : goal.returns-then-has_other-clause-count
returns-then-has_other-clause-count c = λ sub given.
    let items = tree_items c.args.table.now c.args.tree.now in
    let name = c.args.name.now in
    let bytes = c.in-Some.bytes.now in
    let key : c.attribute_key-key.result ≡ make_key c.args.ino.0 xattr_item (name_hash_of name) = c.attribute_key-key.ensures ∙ ap (λ (h : ℕ). make_key c.args.ino.0 xattr_item h) (c.name_hash.ensures ∙ ap name_hash_of c.as_bytes-name.ensures.value) in
    let some : list_any (λ e. not (bytes_eq e.name name)) (entries_there (Some bytes)) ≡ true = sym (c.has_other.ensures ∙ ap (λ (n : List ℕ). list_any (λ e. not (bytes_eq e.name n)) (entries_there (Some bytes))) c.as_bytes-name.ensures.value) ∙ c.if-has_other.true in
    sym (ap (λ (b : Bool). cond b 0 1) some) ∙ with_item c.args.table.now c.args.tree.now sub c.args.ino.0 name given (Some bytes) (sym (c.in-Some.ensures ∙ ap (λ (k : Key). data_under k items) key))

pub returns-else-has_other-clause-count : goal.returns-else-has_other-clause-count
returns-else-has_other-clause-count c = λ sub given.
    let items = tree_items c.args.table.now c.args.tree.now in
    let name = c.args.name.now in
    let bytes = c.in-Some.bytes.now in
    let key : c.attribute_key-key.result ≡ make_key c.args.ino.0 xattr_item (name_hash_of name) = c.attribute_key-key.ensures ∙ ap (λ (h : ℕ). make_key c.args.ino.0 xattr_item h) (c.name_hash.ensures ∙ ap name_hash_of c.as_bytes-name.ensures.value) in
    let none : list_any (λ e. not (bytes_eq e.name name)) (entries_there (Some bytes)) ≡ false = sym (c.has_other.ensures ∙ ap (λ (n : List ℕ). list_any (λ e. not (bytes_eq e.name n)) (entries_there (Some bytes))) c.as_bytes-name.ensures.value) ∙ c.if-has_other.false in
    sym (ap (λ (b : Bool). cond b 0 1) none) ∙ with_item c.args.table.now c.args.tree.now sub c.args.ino.0 name given (Some bytes) (sym (c.in-Some.ensures ∙ ap (λ (k : Key). data_under k items) key))

pub returns-in-None-clause-count : goal.returns-in-None-clause-count
returns-in-None-clause-count c = λ sub given.
    let items = tree_items c.args.table.now c.args.tree.now in
    let name = c.args.name.now in
    let key : c.attribute_key-key.result ≡ make_key c.args.ino.0 xattr_item (name_hash_of name) = c.attribute_key-key.ensures ∙ ap (λ (h : ℕ). make_key c.args.ino.0 xattr_item h) (c.name_hash.ensures ∙ ap name_hash_of c.as_bytes-name.ensures.value) in
    with_item c.args.table.now c.args.tree.now sub c.args.ino.0 name given None (sym (c.in-None.ensures ∙ ap (λ (k : Key). data_under k items) key))
