-- What a log has of an inode by its item.
use Rattle.std.proofs.Common.{◌≡◌, ℕ, Bool, true, false, cond, not, ◌||◌, List, Contains, Option, Some, None, Result, Ok, Err, find, nat_eq, refl, sym, ap, ap₂, subst, ◌∙◌}
use Rattle.std.specs.Option.{is_some, option_map}
use Rattle.blk_base.specs.Leaf.{Item}
use Rattle.blk_base.specs.Items.{InodeValue}
use Rattle.std.specs.FinMap.{get-empty}
use Rattle.std.specs.Ordering.{nat_cmp}
use Rattle.logged_volume.specs.FlatLog.{is_logged}
use Rattle.log_image.specs.LogItems.{existing_in, existing_said, inode_in, whole_in, whole_said}
use Rattle.log_image.specs.LogRules.{log_of}
use Rattle.log_image.proofs.Accepted.{existing_of_log, whole_of_log}
use Rattle.volume_image.specs.Subvolume.{Data, make_key}
use Rattle.std.proofs.lemmas.Bool.{true≢false}
use Rattle.blk_base.specs.declared.fault.ItemFault.{ItemFault}
use Rattle.blk_base.specs.declared.key.Key.{Key}
use Rattle.blk_base.specs.Items.{IsInode, inode_value}
use Rattle.blk_base.specs.Keys.{inode_item}
use Rattle.flat_model.proofs.Ways.{find_none, find_some}
use Rattle.flat_model.specs.Names.{FlatName}
use Rattle.logged_volume.specs.FlatLog.{FlatLog, empty_log}
use Rattle.recovered_view.specs.Kept.{is_kept}
use Rattle.log_image.specs.LogItems.{AreItemsOfLog, is_at, value_of_item}
use Rattle.log_image.proofs.OneLog.{at_from, at_gives}
use Rattle.tree_range.specs.Between.{data_under}
use Rattle.tree_range.proofs.Found.{contains_under, under_contains}

-- the log has an inode exactly where it has its item
pub logged_by_item : (items : List Item) (blocks : Data) (ino : ℕ) → is_logged (log_of items blocks) ino ≡ is_some (inode_in items ino)
logged_by_item items blocks ino =
    ap₂ (λ a b. is_some a || is_some b) (whole_of_log items blocks ino) (existing_of_log items blocks ino) ∙ by (inode_in items ino)
  where
    by : (value : Option InodeValue) → (is_some (whole_said items blocks ino value) || is_some (existing_said items ino value)) ≡ is_some value
    by None = refl
    by (Some value) = go (nat_eq value.generation 0)
      where
        go : (b : Bool) → (is_some (cond b None (Some (Rattle.log_image.specs.LogItems.whole_by_mode items blocks ino value))) || is_some (cond b (Some (Rattle.log_image.specs.LogItems.made_by_mode items ino value)) None)) ≡ true
        go true = refl
        go false = refl

-- what a reader of inode items tells of the mode
abbrev pub read_mode : Result InodeValue ItemFault → Option ℕ
read_mode (Ok value) = Some value.mode
read_mode (Err fault) = None

-- the item of an inode in a log is the one under its key
pub item_by_key : (items : List Item) (blocks : Data) (log : FlatLog) (ino : ℕ) → AreItemsOfLog items blocks log → inode_in items ino ≡ option_map inode_value (data_under (make_key ino inode_item 0) items)
item_by_key items blocks log ino are = go (find (is_at ino inode_item) items) refl (data_under (make_key ino inode_item 0) items) refl
  where
    go : (o : Option Item) → find (is_at ino inode_item) items ≡ o → (d : Option (List ℕ)) → data_under (make_key ino inode_item 0) items ≡ d → value_of_item (find (is_at ino inode_item) items) ≡ option_map inode_value (data_under (make_key ino inode_item 0) items)
    go None e None f = ap value_of_item e ∙ sym (ap (option_map inode_value) f)
    go None e (Some bytes) f =
        absurd (true≢false (sym (at_from ino inode_item (make_key ino inode_item 0, bytes) refl refl) ∙ find_none (is_at ino inode_item) items e (make_key ino inode_item 0, bytes) (contains_under items (make_key ino inode_item 0) bytes f)))
    go (Some item) e d f =
        let found = find_some (is_at ino inode_item) items item e in
        let parts = at_gives ino inode_item item found.1 in
        let offset = (are.only item.0 item.1 found.0).its_key.inode parts.1 in
        let key : item.0 ≡ make_key ino inode_item 0 = λ k. record { objectid = parts.0 k; kind = parts.1 k; offset = offset k } in
        let there : Contains items (make_key ino inode_item 0, item.1) = subst (λ (z : Key). Contains items (z, item.1)) key found.0 in
        ap value_of_item e ∙ sym (ap (option_map inode_value) (under_contains items (make_key ino inode_item 0) item.1 there.0 are.rise there.1 there.2))

pub is_some_map : {X Y : Type 0} (f : X → Y) (o : Option X) → is_some (option_map f o) ≡ is_some o
is_some_map f None = refl
is_some_map f (Some x) = refl

-- the bytes of an inode's item are spelled as one, and say what is read of them
pub spelled_inode : (items : List Item) (blocks : Data) (log : FlatLog) (ino : ℕ) (bytes : List ℕ) → AreItemsOfLog items blocks log → data_under (make_key ino inode_item 0) items ≡ Some bytes → IsInode bytes (inode_value bytes)
spelled_inode items blocks log ino bytes are under =
    let there = contains_under items (make_key ino inode_item 0) bytes under in
    let spelled = (are.only (make_key ino inode_item 0) bytes there).spelled.inode refl in
    subst (IsInode bytes) (sym spelled.1.value) spelled.1

-- a log that says nothing keeps every name
pub all_kept : (name : FlatName) → true ≡ is_kept empty_log name
all_kept name = sym (ap₂ (λ a b. not (is_some a || is_some b)) (get-empty nat_cmp name.ino) (get-empty nat_cmp name.ino))
