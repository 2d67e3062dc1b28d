-- Of which kind an inode is that a log has, and which record replay gives it.
use Rattle.std.proofs.Common.{◌≡◌, ℕ, Bool, true, false, List, Option, Some, None, nat_eq, refl, sym, ap, ◌∙◌}
use Rattle.std.specs.FinMap.{get, get-empty}
use Rattle.std.specs.Ordering.{nat_cmp}
use Rattle.std.specs.Option.{option_map}
use Rattle.std.proofs.lemmas.Bool.{eqb-true}
use Rattle.std.proofs.lemmas.Option.{none-some}
use Rattle.blk_base.specs.Items.{InodeValue, dir_mode, file_mode}
use Rattle.blk_base.specs.Leaf.{Item}
use Rattle.block_table.specs.declared.tree.Tree.{Tree}
use Rattle.block_table.specs.Table.{Table}
use Rattle.flat_model.specs.declared.view.Kind.{Kind}
use Rattle.flat_model.specs.declared.view.Kind.TheVariants.{File, Dir, Link}
use Rattle.flat_model.specs.Records.{DirInode, FileInode, InodeRecord, LinkInode, is_dir_record, kind_of}
use Rattle.flat_model.specs.Volume.{Subvolume, is_dir_at, is_dir_there}
use Rattle.log_image.specs.LogItems.{existing_in, inode_in, made_by_mode, whole_by_mode, whole_in}
use Rattle.log_image.specs.LogRules.{log_of}
use Rattle.log_image.proofs.Accepted.{SaidOnce, existing_of_log, said_once_of, whole_of_log}
use Rattle.logged_volume.specs.Accepted.{IsAccepted}
use Rattle.logged_volume.specs.FlatLog.{FlatLog, WholeInode}
use Rattle.logged_volume.specs.Replay.{replayed_inode, replayed_record}
use Rattle.table_volume.specs.Gives.{data_in}
use Rattle.tree_range.specs.Shape.{tree_items}
use Rattle.volume_image.specs.Subvolume.{Data}
use Rattle.recovered_view.specs.Log.{log_said, value_said}

-- whether a kind is a directory's
abbrev pub is_dir_kind : Kind → Bool
is_dir_kind File = false
is_dir_kind Dir = true
is_dir_kind Link = false

dir_by_kind : (inode : InodeRecord) → is_dir_record inode ≡ is_dir_kind (kind_of inode)
dir_by_kind (FileInode file) = refl
dir_by_kind (DirInode dir) = refl
dir_by_kind (LinkInode link) = refl

made_dir : (items : List Item) (ino : ℕ) (value : InodeValue) → nat_eq value.mode dir_mode ≡ is_dir_record (made_by_mode items ino value)
made_dir items ino value = go (nat_eq value.mode file_mode) refl (nat_eq value.mode dir_mode) refl
  where
    go : (a : Bool) → nat_eq value.mode file_mode ≡ a → (b : Bool) → nat_eq value.mode dir_mode ≡ b → nat_eq value.mode dir_mode ≡ is_dir_record (made_by_mode items ino value)
    go true e b f = rw e (ap (λ (m : ℕ). nat_eq m dir_mode) (eqb-true value.mode file_mode e))
    go false e true f = rw (e, f) refl
    go false e false f = rw (e, f) refl

whole_dir : (items : List Item) (blocks : Data) (ino : ℕ) (value : InodeValue) (was : Option InodeRecord) → nat_eq value.mode dir_mode ≡ is_dir_record (replayed_inode was (whole_by_mode items blocks ino value))
unfolding replayed_inode
whole_dir items blocks ino value was = go (nat_eq value.mode file_mode) refl (nat_eq value.mode dir_mode) refl
  where
    go : (a : Bool) → nat_eq value.mode file_mode ≡ a → (b : Bool) → nat_eq value.mode dir_mode ≡ b → nat_eq value.mode dir_mode ≡ is_dir_record (replayed_inode was (whole_by_mode items blocks ino value))
    go true e b f = rw e (ap (λ (m : ℕ). nat_eq m dir_mode) (eqb-true value.mode file_mode e))
    go false e true f = rw (e, f) refl
    go false e false f = rw (e, f) refl

-- the record after replay by what the log has of the inode, whole or existing, and what the committed subvolume has
abbrev record_by : Option WholeInode → Option InodeRecord → Option InodeRecord → Option InodeRecord
record_by whole existing was = elim whole [
  | None ↦ elim was [ None ↦ existing | Some inode ↦ Some inode ]
  | Some changes ↦ Some (replayed_inode was changes)
]

-- an inode that the log has is a directory by its item's mode
pub logged_is_dir : (sub : Subvolume) (items : List Item) (blocks : Data) (ino : ℕ) (value : InodeValue) → IsAccepted sub (log_of items blocks) → inode_in items ino ≡ Some value
    → nat_eq value.mode dir_mode ≡ is_dir_there (replayed_record sub (log_of items blocks) ino)
logged_is_dir sub items blocks ino value accepted said = go (nat_eq value.generation 0) refl (get sub.inodes ino) refl
  where
    once : SaidOnce items blocks ino value
    once = said_once_of items blocks ino value said

    go : (b : Bool) → nat_eq value.generation 0 ≡ b → (was : Option InodeRecord) → get sub.inodes ino ≡ was → nat_eq value.mode dir_mode ≡ is_dir_there (replayed_record sub (log_of items blocks) ino)
    go false e was f =
        let whole = whole_of_log items blocks ino ∙ (once.full e).0 in
        whole_dir items blocks ino value (get sub.inodes ino) ∙ sym (ap (λ (w : Option WholeInode). is_dir_there (record_by w (get (log_of items blocks).existing ino) (get sub.inodes ino))) whole)
    go true e None f =
        let bare = once.bare (eqb-true value.generation 0 e) in
        made_dir items ino value
        ∙ sym (ap (λ (w : Option WholeInode). is_dir_there (record_by w (get (log_of items blocks).existing ino) (get sub.inodes ino))) (whole_of_log items blocks ino ∙ bare.0)
        ∙ ap (λ (was : Option InodeRecord). is_dir_there (record_by None (get (log_of items blocks).existing ino) was)) f
        ∙ ap is_dir_there (existing_of_log items blocks ino ∙ bare.1))
    go true e (Some was) f =
        let bare = once.bare (eqb-true value.generation 0 e) in
        let kinds = accepted.existing_kinds ino was (made_by_mode items ino value) f (existing_of_log items blocks ino ∙ bare.1) in
        made_dir items ino value ∙ dir_by_kind (made_by_mode items ino value) ∙ ap is_dir_kind (sym kinds) ∙ sym (dir_by_kind was)
        ∙ sym (ap (λ (w : Option WholeInode). is_dir_there (record_by w (get (log_of items blocks).existing ino) (get sub.inodes ino))) (whole_of_log items blocks ino ∙ bare.0)
        ∙ ap (λ (r : Option InodeRecord). is_dir_there (record_by None (get (log_of items blocks).existing ino) r)) f)

-- one that the log lacks stays what it was
pub unlogged_record : (sub : Subvolume) (log : FlatLog) (ino : ℕ) → get log.whole ino ≡ None → get log.existing ino ≡ None → replayed_record sub log ino ≡ get sub.inodes ino
unlogged_record sub log ino no_whole no_existing = go (get sub.inodes ino) refl
  where
    go : (was : Option InodeRecord) → get sub.inodes ino ≡ was → replayed_record sub log ino ≡ get sub.inodes ino
    go None e = ap (λ (w : Option WholeInode). record_by w (get log.existing ino) (get sub.inodes ino)) no_whole ∙ ap (λ (r : Option InodeRecord). record_by None (get log.existing ino) r) e ∙ no_existing ∙ sym e
    go (Some was) e = ap (λ (w : Option WholeInode). record_by w (get log.existing ino) (get sub.inodes ino)) no_whole ∙ ap (λ (r : Option InodeRecord). record_by None (get log.existing ino) r) e ∙ sym e

-- by the mode that is told of a log's item
pub told_dir : (table : Table) (sub : Subvolume) (log : Option Tree) (ino mode : ℕ) → IsAccepted sub (log_said table log) → Some mode ≡ option_map (λ (v : InodeValue). v.mode) (value_said table log ino)
    → nat_eq mode dir_mode ≡ is_dir_there (replayed_record sub (log_said table log) ino)
told_dir table sub None ino mode accepted told = absurd (none-some mode (sym told))
told_dir table sub (Some tree) ino mode accepted told = go (inode_in (tree_items table tree) ino) refl
  where
    go : (v : Option InodeValue) → inode_in (tree_items table tree) ino ≡ v → nat_eq mode dir_mode ≡ is_dir_there (replayed_record sub (log_said table (Some tree)) ino)
    go None e = absurd (none-some mode (sym (told ∙ ap (option_map (λ (v : InodeValue). v.mode)) e)))
    go (Some value) e =
        let same : Some mode ≡ Some value.mode = told ∙ ap (option_map (λ (v : InodeValue). v.mode)) e in
        let mode_is : mode ≡ value.mode = cc in
        ap (λ (m : ℕ). nat_eq m dir_mode) mode_is ∙ logged_is_dir sub (tree_items table tree) (data_in table) ino value accepted e

-- where no mode is told, the committed one's
pub untold_dir : (table : Table) (sub : Subvolume) (log : Option Tree) (ino : ℕ) → None ≡ option_map (λ (v : InodeValue). v.mode) (value_said table log ino)
    → is_dir_at sub ino ≡ is_dir_there (replayed_record sub (log_said table log) ino)
untold_dir table sub None ino told = ap is_dir_there (sym (unlogged_record sub (log_said table None) ino (get-empty nat_cmp ino) (get-empty nat_cmp ino)))
untold_dir table sub (Some tree) ino told = go (inode_in (tree_items table tree) ino) refl
  where
    items : List Item
    items = tree_items table tree

    go : (v : Option InodeValue) → inode_in items ino ≡ v → is_dir_at sub ino ≡ is_dir_there (replayed_record sub (log_said table (Some tree)) ino)
    go (Some value) e = absurd (none-some value.mode (told ∙ ap (option_map (λ (v : InodeValue). v.mode)) e))
    go None e =
        ap is_dir_there (sym (unlogged_record sub (log_of items (data_in table)) ino
        (whole_of_log items (data_in table) ino ∙ ap (Rattle.log_image.specs.LogItems.whole_said items (data_in table) ino) e)
        (existing_of_log items (data_in table) ino ∙ ap (Rattle.log_image.specs.LogItems.existing_said items ino) e)))
