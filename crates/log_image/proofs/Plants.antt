-- Planted logs break the rule that they are planted for, and no other.
use Rattle.std.proofs.Common.{◌≡◌, refl, ap, ap₂, ◌∙◌, ℕ, List, [], ◌∷◌, Option, Some, None, Ok, nat_cmp, nat_eq, nat_lt, cond, ◌||◌}
use Rattle.std.specs.Cmp.{nat_cmp_total}
use Rattle.std.specs.FinMap.{get, find, get-from_entries}
use Rattle.blk_base.specs.Leaf.{Item}
use Rattle.blk_base.specs.ItemFaults.{log_item_fault}
use Rattle.blk_base.specs.Items.{inode_of, inode_bytes, range_of}
use Rattle.blk_base.specs.Entries.{refs_of, extrefs_of, entries_of, all_entries, ref_from, extref_from, entry_from}
use Rattle.blk_base.specs.Bytes.{field}
use Rattle.blk_base.specs.Name.{is_name}
use Rattle.blk_base.specs.Extents.{log_extent_of}
use Rattle.blk_base.specs.Crc.{name_hash_of, register_after, crc_byte, crc_bits, crc_bit}
use Rattle.flat_model.specs.Records.{InodeRecord, new_dir, new_link}
use Rattle.flat_model.specs.Names.{name_cmp, links_of}
use Rattle.flat_model.specs.Lengths.{dir_item_length}
use Rattle.logged_volume.specs.FlatLog.{WholeInode}
use Rattle.logged_volume.specs.Replay.{replay, replayed_inode}
use Rattle.logged_volume.proofs.Replays.{replay_names, replay_record}
use Rattle.volume_image.specs.Subvolume.{Data}
use Rattle.log_image.specs.LogRules.{LogRule, StrayItem, LacksInode, OtherKind, PastLimits, MoreThanExists, WrongExtents, RootNamed, NamesClash, first_fault, first_broken, after_items, broken_rules, accepted_log, log_of, has_its_key}
use Rattle.log_image.specs.Planted.{IsRefusedFor, near_in, had, had_inodes, had_names, sound_log, stray_log, misplaced_log, orphan_log, turned_log, large_log, endowed_log, hollow_log, looped_log, crossed_log, doubled_log, repeated_log, crowded_log}
use Rattle.log_image.specs.LogItems.{whole_in, existing_in}
use Rattle.log_image.proofs.Accepted.{whole_of_log, existing_of_log}
use Rattle.log_image.proofs.Computing.{broken_is, left_is, left_by}

refused_by : (items : List Item) (ino : ℕ) (rule : LogRule) → first_fault items items ≡ None → ((blocks : Data) → broken_rules had items blocks ≡ (ino, rule) ∷ []) → IsRefusedFor items ino rule
unfolding accepted_log
refused_by items ino rule no_fault alone = record {
  no_fault = no_fault;
  alone = alone;
  refused = λ blocks. ap₂ after_items no_fault (ap (λ (broken : List (ℕ × LogRule)). first_broken broken (log_of items blocks)) (alone blocks));
}

-- ---- the log that is accepted

sound_faultless : first_fault sound_log sound_log ≡ None
unfolding log_item_fault inode_of inode_bytes range_of refs_of extrefs_of entries_of all_entries ref_from extref_from entry_from field is_name log_extent_of
sound_faultless = refl

sound_unbroken : (blocks : Data) → broken_rules had sound_log blocks ≡ []
unfolding log_item_fault inode_of inode_bytes range_of refs_of extrefs_of entries_of all_entries ref_from extref_from entry_from field is_name log_extent_of has_its_key name_cmp name_hash_of register_after crc_byte crc_bits crc_bit dir_item_length
sound_unbroken blocks = broken_is had_inodes had_names sound_log blocks

pub sound_is_accepted : (blocks : Data) → accepted_log had sound_log blocks ≡ Ok (log_of sound_log blocks)
unfolding accepted_log
sound_is_accepted blocks = ap₂ after_items sound_faultless (ap (λ (broken : List (ℕ × LogRule)). first_broken broken (log_of sound_log blocks)) (sound_unbroken blocks))

-- ---- those that are refused

stray_faultless : first_fault stray_log stray_log ≡ None
unfolding log_item_fault inode_of inode_bytes range_of refs_of extrefs_of entries_of all_entries ref_from extref_from entry_from field is_name log_extent_of
stray_faultless = refl

stray_broken : (blocks : Data) → broken_rules had stray_log blocks ≡ (258, StrayItem) ∷ []
unfolding log_item_fault inode_of inode_bytes range_of refs_of extrefs_of entries_of all_entries ref_from extref_from entry_from field is_name log_extent_of has_its_key name_cmp name_hash_of register_after crc_byte crc_bits crc_bit dir_item_length
stray_broken blocks = broken_is had_inodes had_names stray_log blocks

pub stray_is_refused : IsRefusedFor stray_log 258 StrayItem
stray_is_refused = refused_by stray_log 258 StrayItem stray_faultless stray_broken

misplaced_faultless : first_fault misplaced_log misplaced_log ≡ None
unfolding log_item_fault inode_of inode_bytes range_of refs_of extrefs_of entries_of all_entries ref_from extref_from entry_from field is_name log_extent_of
misplaced_faultless = refl

misplaced_broken : (blocks : Data) → broken_rules had misplaced_log blocks ≡ (257, StrayItem) ∷ []
unfolding log_item_fault inode_of inode_bytes range_of refs_of extrefs_of entries_of all_entries ref_from extref_from entry_from field is_name log_extent_of has_its_key name_cmp name_hash_of register_after crc_byte crc_bits crc_bit dir_item_length
misplaced_broken blocks = broken_is had_inodes had_names misplaced_log blocks

pub misplaced_is_refused : IsRefusedFor misplaced_log 257 StrayItem
misplaced_is_refused = refused_by misplaced_log 257 StrayItem misplaced_faultless misplaced_broken

orphan_faultless : first_fault orphan_log orphan_log ≡ None
unfolding log_item_fault inode_of inode_bytes range_of refs_of extrefs_of entries_of all_entries ref_from extref_from entry_from field is_name log_extent_of
orphan_faultless = refl

orphan_broken : (blocks : Data) → broken_rules had orphan_log blocks ≡ (259, LacksInode) ∷ []
unfolding log_item_fault inode_of inode_bytes range_of refs_of extrefs_of entries_of all_entries ref_from extref_from entry_from field is_name log_extent_of has_its_key name_cmp name_hash_of register_after crc_byte crc_bits crc_bit dir_item_length
orphan_broken blocks = broken_is had_inodes had_names orphan_log blocks

pub orphan_is_refused : IsRefusedFor orphan_log 259 LacksInode
orphan_is_refused = refused_by orphan_log 259 LacksInode orphan_faultless orphan_broken

turned_faultless : first_fault turned_log turned_log ≡ None
unfolding log_item_fault inode_of inode_bytes range_of refs_of extrefs_of entries_of all_entries ref_from extref_from entry_from field is_name log_extent_of
turned_faultless = refl

turned_broken : (blocks : Data) → broken_rules had turned_log blocks ≡ (257, OtherKind) ∷ []
unfolding log_item_fault inode_of inode_bytes range_of refs_of extrefs_of entries_of all_entries ref_from extref_from entry_from field is_name log_extent_of has_its_key name_cmp name_hash_of register_after crc_byte crc_bits crc_bit dir_item_length
turned_broken blocks = broken_is had_inodes had_names turned_log blocks

pub turned_is_refused : IsRefusedFor turned_log 257 OtherKind
turned_is_refused = refused_by turned_log 257 OtherKind turned_faultless turned_broken

large_faultless : first_fault large_log large_log ≡ None
unfolding log_item_fault inode_of inode_bytes range_of refs_of extrefs_of entries_of all_entries ref_from extref_from entry_from field is_name log_extent_of
large_faultless = refl

large_broken : (blocks : Data) → broken_rules had large_log blocks ≡ (257, PastLimits) ∷ []
unfolding log_item_fault inode_of inode_bytes range_of refs_of extrefs_of entries_of all_entries ref_from extref_from entry_from field is_name log_extent_of has_its_key name_cmp name_hash_of register_after crc_byte crc_bits crc_bit dir_item_length
large_broken blocks = broken_is had_inodes had_names large_log blocks

pub large_is_refused : IsRefusedFor large_log 257 PastLimits
large_is_refused = refused_by large_log 257 PastLimits large_faultless large_broken

endowed_faultless : first_fault endowed_log endowed_log ≡ None
unfolding log_item_fault inode_of inode_bytes range_of refs_of extrefs_of entries_of all_entries ref_from extref_from entry_from field is_name log_extent_of
endowed_faultless = refl

endowed_broken : (blocks : Data) → broken_rules had endowed_log blocks ≡ (257, MoreThanExists) ∷ []
unfolding log_item_fault inode_of inode_bytes range_of refs_of extrefs_of entries_of all_entries ref_from extref_from entry_from field is_name log_extent_of has_its_key name_cmp name_hash_of register_after crc_byte crc_bits crc_bit dir_item_length
endowed_broken blocks = broken_is had_inodes had_names endowed_log blocks

pub endowed_is_refused : IsRefusedFor endowed_log 257 MoreThanExists
endowed_is_refused = refused_by endowed_log 257 MoreThanExists endowed_faultless endowed_broken

hollow_faultless : first_fault hollow_log hollow_log ≡ None
unfolding log_item_fault inode_of inode_bytes range_of refs_of extrefs_of entries_of all_entries ref_from extref_from entry_from field is_name log_extent_of
hollow_faultless = refl

hollow_broken : (blocks : Data) → broken_rules had hollow_log blocks ≡ (259, WrongExtents) ∷ []
unfolding log_item_fault inode_of inode_bytes range_of refs_of extrefs_of entries_of all_entries ref_from extref_from entry_from field is_name log_extent_of has_its_key name_cmp name_hash_of register_after crc_byte crc_bits crc_bit dir_item_length
hollow_broken blocks = broken_is had_inodes had_names hollow_log blocks

pub hollow_is_refused : IsRefusedFor hollow_log 259 WrongExtents
hollow_is_refused = refused_by hollow_log 259 WrongExtents hollow_faultless hollow_broken

looped_faultless : first_fault looped_log looped_log ≡ None
unfolding log_item_fault inode_of inode_bytes range_of refs_of extrefs_of entries_of all_entries ref_from extref_from entry_from field is_name log_extent_of
looped_faultless = refl

looped_broken : (blocks : Data) → broken_rules had looped_log blocks ≡ (256, RootNamed) ∷ []
unfolding log_item_fault inode_of inode_bytes range_of refs_of extrefs_of entries_of all_entries ref_from extref_from entry_from field is_name log_extent_of has_its_key name_cmp name_hash_of register_after crc_byte crc_bits crc_bit dir_item_length
looped_broken blocks = broken_is had_inodes had_names looped_log blocks

pub looped_is_refused : IsRefusedFor looped_log 256 RootNamed
looped_is_refused = refused_by looped_log 256 RootNamed looped_faultless looped_broken

crossed_faultless : first_fault crossed_log crossed_log ≡ None
unfolding log_item_fault inode_of inode_bytes range_of refs_of extrefs_of entries_of all_entries ref_from extref_from entry_from field is_name log_extent_of
crossed_faultless = refl

crossed_broken : (blocks : Data) → broken_rules had crossed_log blocks ≡ (256, NamesClash) ∷ []
unfolding log_item_fault inode_of inode_bytes range_of refs_of extrefs_of entries_of all_entries ref_from extref_from entry_from field is_name log_extent_of has_its_key name_cmp name_hash_of register_after crc_byte crc_bits crc_bit dir_item_length
crossed_broken blocks = broken_is had_inodes had_names crossed_log blocks

pub crossed_is_refused : IsRefusedFor crossed_log 256 NamesClash
crossed_is_refused = refused_by crossed_log 256 NamesClash crossed_faultless crossed_broken

doubled_faultless : first_fault doubled_log doubled_log ≡ None
unfolding log_item_fault inode_of inode_bytes range_of refs_of extrefs_of entries_of all_entries ref_from extref_from entry_from field is_name log_extent_of
doubled_faultless = refl

doubled_broken : (blocks : Data) → broken_rules had doubled_log blocks ≡ (256, NamesClash) ∷ []
unfolding log_item_fault inode_of inode_bytes range_of refs_of extrefs_of entries_of all_entries ref_from extref_from entry_from field is_name log_extent_of has_its_key name_cmp name_hash_of register_after crc_byte crc_bits crc_bit dir_item_length
doubled_broken blocks = broken_is had_inodes had_names doubled_log blocks

pub doubled_is_refused : IsRefusedFor doubled_log 256 NamesClash
doubled_is_refused = refused_by doubled_log 256 NamesClash doubled_faultless doubled_broken

repeated_faultless : first_fault repeated_log repeated_log ≡ None
unfolding log_item_fault inode_of inode_bytes range_of refs_of extrefs_of entries_of all_entries ref_from extref_from entry_from field is_name log_extent_of
repeated_faultless = refl

repeated_broken : (blocks : Data) → broken_rules had repeated_log blocks ≡ (256, NamesClash) ∷ []
unfolding log_item_fault inode_of inode_bytes range_of refs_of extrefs_of entries_of all_entries ref_from extref_from entry_from field is_name log_extent_of has_its_key name_cmp name_hash_of register_after crc_byte crc_bits crc_bit dir_item_length
repeated_broken blocks = broken_is had_inodes had_names repeated_log blocks

pub repeated_is_refused : IsRefusedFor repeated_log 256 NamesClash
repeated_is_refused = refused_by repeated_log 256 NamesClash repeated_faultless repeated_broken

crowded_faultless : first_fault crowded_log crowded_log ≡ None
unfolding log_item_fault inode_of inode_bytes range_of refs_of extrefs_of entries_of all_entries ref_from extref_from entry_from field is_name log_extent_of
crowded_faultless = refl

crowded_broken : (blocks : Data) → broken_rules had crowded_log blocks ≡ (256, NamesClash) ∷ []
unfolding log_item_fault inode_of inode_bytes range_of refs_of extrefs_of entries_of all_entries ref_from extref_from entry_from field is_name log_extent_of has_its_key name_cmp name_hash_of register_after crc_byte crc_bits crc_bit dir_item_length
crowded_broken blocks = broken_is had_inodes had_names crowded_log blocks

pub crowded_is_refused : IsRefusedFor crowded_log 256 NamesClash
crowded_is_refused = refused_by crowded_log 256 NamesClash crowded_faultless crowded_broken

-- ---- what replay would leave

pub names_after : (items : List Item) (blocks : Data) → (replay had (log_of items blocks)).names ≡ left_by had_names items
names_after items blocks = replay_names had (log_of items blocks) ∙ left_is had_inodes had_names items blocks

pub crossed_names : (blocks : Data) → (replay had (log_of crossed_log blocks)).names ≡ near_in 256 2 97 257 ∷ near_in 256 2 98 259 ∷ near_in 256 3 100 258 ∷ []
unfolding log_item_fault inode_of inode_bytes range_of refs_of extrefs_of entries_of all_entries ref_from extref_from entry_from field is_name log_extent_of has_its_key name_cmp name_hash_of register_after crc_byte crc_bits crc_bit dir_item_length
crossed_names blocks = names_after crossed_log blocks

pub doubled_names : (blocks : Data) → (replay had (log_of doubled_log blocks)).names ≡ near_in 256 2 97 257 ∷ near_in 256 3 100 258 ∷ near_in 256 4 97 259 ∷ []
unfolding log_item_fault inode_of inode_bytes range_of refs_of extrefs_of entries_of all_entries ref_from extref_from entry_from field is_name log_extent_of has_its_key name_cmp name_hash_of register_after crc_byte crc_bits crc_bit dir_item_length
doubled_names blocks = names_after doubled_log blocks

pub looped_names : (blocks : Data) → (replay had (log_of looped_log blocks)).names ≡ near_in 256 2 97 257 ∷ near_in 256 3 100 258 ∷ near_in 258 4 114 256 ∷ []
unfolding log_item_fault inode_of inode_bytes range_of refs_of extrefs_of entries_of all_entries ref_from extref_from entry_from field is_name log_extent_of has_its_key name_cmp name_hash_of register_after crc_byte crc_bits crc_bit dir_item_length
looped_names blocks = names_after looped_log blocks

pub orphan_names : (blocks : Data) → (replay had (log_of orphan_log blocks)).names ≡ near_in 256 2 97 257 ∷ near_in 256 3 100 258 ∷ near_in 256 4 98 259 ∷ []
unfolding log_item_fault inode_of inode_bytes range_of refs_of extrefs_of entries_of all_entries ref_from extref_from entry_from field is_name log_extent_of has_its_key name_cmp name_hash_of register_after crc_byte crc_bits crc_bit dir_item_length
orphan_names blocks = names_after orphan_log blocks

-- the record of an inode after replay: of a whole one the log's, else C's, and where C lacks it the existing one's
abbrev record_by : Option WholeInode → Option InodeRecord → Option InodeRecord → Option InodeRecord
record_by whole existing was = elim whole [
  | None ↦ elim was [ None ↦ existing | Some inode ↦ Some inode ]
  | Some whole ↦ Some (replayed_inode was whole)
]

-- an inode after replay, where it has a name then
record_after : (items : List Item) (blocks : Data) (ino : ℕ) → get (replay had (log_of items blocks)).inodes ino
    ≡ cond (nat_eq ino 256 || nat_lt 0 (links_of (left_by had_names items) ino)) (record_by (whole_in items blocks ino) (existing_in items ino) (find nat_cmp ino had_inodes)) None
record_after items blocks ino =
    replay_record had (log_of items blocks) ino
    ∙ (λ i. cond (nat_eq ino 256 || nat_lt 0 (links_of (left_is had_inodes had_names items blocks i) ino))
    (record_by (whole_of_log items blocks ino i) (existing_of_log items blocks ino i) (get-from_entries nat_cmp_total had_inodes ino i)) None)

pub turned_record : (blocks : Data) → get (replay had (log_of turned_log blocks)).inodes 257 ≡ Some new_dir
unfolding log_item_fault inode_of inode_bytes range_of refs_of extrefs_of entries_of all_entries ref_from extref_from entry_from field is_name log_extent_of has_its_key name_cmp name_hash_of register_after crc_byte crc_bits crc_bit dir_item_length replayed_inode
turned_record blocks = record_after turned_log blocks 257

pub hollow_record : (blocks : Data) → get (replay had (log_of hollow_log blocks)).inodes 259 ≡ Some (new_link [])
unfolding log_item_fault inode_of inode_bytes range_of refs_of extrefs_of entries_of all_entries ref_from extref_from entry_from field is_name log_extent_of has_its_key name_cmp name_hash_of register_after crc_byte crc_bits crc_bit dir_item_length
hollow_record blocks = record_after hollow_log blocks 259

pub orphan_record : (blocks : Data) → get (replay had (log_of orphan_log blocks)).inodes 259 ≡ None
unfolding log_item_fault inode_of inode_bytes range_of refs_of extrefs_of entries_of all_entries ref_from extref_from entry_from field is_name log_extent_of has_its_key name_cmp name_hash_of register_after crc_byte crc_bits crc_bit dir_item_length
orphan_record blocks = record_after orphan_log blocks 259
