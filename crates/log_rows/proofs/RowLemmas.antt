-- The worked rows, computed.
use Rattle.std.proofs.Common.{◌≡◌, [], ◌∷◌, Some, None, true, false, refl, ap, ◌∙◌, arith}
use Rattle.std.specs.Cmp.{nat_cmp_total}
use Rattle.std.specs.FinMap.{get, empty, get-from_entries}
use Rattle.blk_base.specs.Crc.{name_hash_of, register_after, crc_byte, crc_bits, crc_bit}
use Rattle.flat_model.specs.declared.answer.Reason.TheVariants.{Conflicts, GoneDir}
use Rattle.flat_model.specs.Names.{name_cmp}
use Rattle.flat_model.proofs.Maps.{get_insert_same}
use Rattle.logged_volume.specs.Numbers.{reached}
use Rattle.logged_volume.specs.Agreement.{do_names_differ}
use Rattle.logged_volume.specs.Drawn.{dirs_above, drawn_set}
use Rattle.logged_volume.specs.LogStep.{log_step}
use Rattle.logged_volume.specs.Rules.{commit_reason}
use Rattle.logged_volume.specs.FlatLog.{WholeDir, empty_log}
use Rattle.logged_volume.specs.Replay.{replay}
use Rattle.log_rows.specs.Written.{written_log}
use Rattle.flat_model.specs.Volume.{Subvolume}
use Rattle.log_rows.specs.Rows.{again, again_inodes, again_names, ample, bare, bare_inodes, changed, changed_inodes, changed_names, crossed, crossed_names, cut, cut_inodes, cut_names, deep, deep_inodes, deep_names, emptied, emptied_inodes, emptied_log, emptied_names, file_of, filled, filled_inodes, filled_names, grown, grown_inodes, grown_log, grown_whole, left, left_inodes, left_names, made_entry, moved, moved_names, nested, nested_inodes, nested_names, pair, pair_inodes, pair_names, range, remade, remade_inodes, remade_names, removed_log, renamed, renamed_inodes, renamed_names, replaced, replaced_inodes, replaced_names, resized, resized_inodes, resized_names, row, row_inodes, row_names, shifted, shifted_names, three, three_inodes, three_names, turned, turned_names}
use Rattle.log_rows.proofs.Computing.{data_step, entries_are, least_is, names_are, ranges_are, reason_is, record_is, replayed_is, whole_is}

pub renamed_drawn : drawn_set remade renamed 258 ≡ 257 ∷ 258 ∷ []
unfolding dirs_above reached do_names_differ name_hash_of register_after crc_byte crc_bits crc_bit
renamed_drawn = least_is remade_inodes remade_names renamed_inodes renamed_names 258 true

pub renamed_reason : commit_reason remade renamed 258 false ample ≡ None
unfolding dirs_above reached do_names_differ name_hash_of register_after crc_byte crc_bits crc_bit
renamed_reason = reason_is remade_inodes remade_names renamed_inodes renamed_names 258 ample

pub renamed_after : (log_step remade renamed 258 false).names ≡ remade_names
unfolding dirs_above reached do_names_differ name_hash_of register_after crc_byte crc_bits crc_bit name_cmp
renamed_after = names_are remade_inodes remade_names renamed_inodes renamed_names 258

pub crossed_drawn : drawn_set crossed pair 258 ≡ 257 ∷ 258 ∷ []
unfolding dirs_above reached do_names_differ name_hash_of register_after crc_byte crc_bits crc_bit
crossed_drawn = least_is pair_inodes crossed_names pair_inodes pair_names 258 true

pub crossed_reason : commit_reason crossed pair 258 false ample ≡ None
unfolding dirs_above reached do_names_differ name_hash_of register_after crc_byte crc_bits crc_bit
crossed_reason = reason_is pair_inodes crossed_names pair_inodes pair_names 258 ample

pub crossed_after : (log_step crossed pair 258 false).names ≡ crossed_names
unfolding dirs_above reached do_names_differ name_hash_of register_after crc_byte crc_bits crc_bit name_cmp
crossed_after = names_are pair_inodes crossed_names pair_inodes pair_names 258

pub turned_drawn : drawn_set turned nested 257 ≡ 257 ∷ 258 ∷ []
unfolding dirs_above reached do_names_differ name_hash_of register_after crc_byte crc_bits crc_bit
turned_drawn = least_is nested_inodes turned_names nested_inodes nested_names 257 true

pub turned_reason : commit_reason turned nested 257 false ample ≡ None
unfolding dirs_above reached do_names_differ name_hash_of register_after crc_byte crc_bits crc_bit
turned_reason = reason_is nested_inodes turned_names nested_inodes nested_names 257 ample

pub turned_after : (log_step turned nested 257 false).names ≡ turned_names
unfolding dirs_above reached do_names_differ name_hash_of register_after crc_byte crc_bits crc_bit name_cmp
turned_after = names_are nested_inodes turned_names nested_inodes nested_names 257

pub moved_drawn : drawn_set moved deep 260 ≡ 257 ∷ 258 ∷ 260 ∷ []
unfolding dirs_above reached do_names_differ name_hash_of register_after crc_byte crc_bits crc_bit
moved_drawn = least_is deep_inodes moved_names deep_inodes deep_names 260 true

pub moved_reason : commit_reason moved deep 260 false ample ≡ None
unfolding dirs_above reached do_names_differ name_hash_of register_after crc_byte crc_bits crc_bit
moved_reason = reason_is deep_inodes moved_names deep_inodes deep_names 260 ample

pub moved_after : (log_step moved deep 260 false).names ≡ moved_names
unfolding dirs_above reached do_names_differ name_hash_of register_after crc_byte crc_bits crc_bit name_cmp
moved_after = names_are deep_inodes moved_names deep_inodes deep_names 260

pub emptied_drawn : drawn_set emptied filled 257 ≡ 257 ∷ 258 ∷ []
unfolding dirs_above reached do_names_differ name_hash_of register_after crc_byte crc_bits crc_bit
emptied_drawn = least_is emptied_inodes emptied_names filled_inodes filled_names 257 true

pub emptied_reason : commit_reason emptied filled 257 false ample ≡ None
unfolding dirs_above reached do_names_differ name_hash_of register_after crc_byte crc_bits crc_bit
emptied_reason = reason_is emptied_inodes emptied_names filled_inodes filled_names 257 ample

pub emptied_after : (log_step emptied filled 257 false).names ≡ emptied_names
unfolding dirs_above reached do_names_differ name_hash_of register_after crc_byte crc_bits crc_bit name_cmp
emptied_after = names_are emptied_inodes emptied_names filled_inodes filled_names 257

pub removed_drawn : drawn_set bare emptied 256 ≡ 256 ∷ 257 ∷ []
unfolding dirs_above reached do_names_differ name_hash_of register_after crc_byte crc_bits crc_bit
removed_drawn = least_is bare_inodes [] emptied_inodes emptied_names 256 true

pub removed_reason : commit_reason bare emptied 256 false ample ≡ None
unfolding dirs_above reached do_names_differ name_hash_of register_after crc_byte crc_bits crc_bit
removed_reason = reason_is bare_inodes [] emptied_inodes emptied_names 256 ample

pub removed_after : (log_step bare emptied 256 false).names ≡ []
unfolding dirs_above reached do_names_differ name_hash_of register_after crc_byte crc_bits crc_bit name_cmp
removed_after = names_are bare_inodes [] emptied_inodes emptied_names 256

pub replaced_drawn : drawn_set replaced left 260 ≡ 258 ∷ 260 ∷ []
unfolding dirs_above reached do_names_differ name_hash_of register_after crc_byte crc_bits crc_bit
replaced_drawn = least_is replaced_inodes replaced_names left_inodes left_names 260 true

pub replaced_reason : commit_reason replaced left 260 false ample ≡ Some (GoneDir (record { 0 = 258 }))
unfolding dirs_above reached do_names_differ name_hash_of register_after crc_byte crc_bits crc_bit
replaced_reason = reason_is replaced_inodes replaced_names left_inodes left_names 260 ample

pub again_drawn : drawn_set again renamed 258 ≡ 257 ∷ 258 ∷ []
unfolding dirs_above reached do_names_differ name_hash_of register_after crc_byte crc_bits crc_bit
again_drawn = least_is again_inodes again_names renamed_inodes renamed_names 258 true

pub again_reason : commit_reason again renamed 258 false ample ≡ None
unfolding dirs_above reached do_names_differ name_hash_of register_after crc_byte crc_bits crc_bit
again_reason = reason_is again_inodes again_names renamed_inodes renamed_names 258 ample

pub again_after : (log_step again renamed 258 false).names ≡ again_names
unfolding dirs_above reached do_names_differ name_hash_of register_after crc_byte crc_bits crc_bit name_cmp
again_after = names_are again_inodes again_names renamed_inodes renamed_names 258

pub cut_drawn : drawn_set cut grown 256 ≡ 256 ∷ 257 ∷ []
unfolding dirs_above reached do_names_differ name_hash_of register_after crc_byte crc_bits crc_bit
cut_drawn = least_is cut_inodes cut_names grown_inodes renamed_names 256 true

pub cut_reason : commit_reason cut grown 256 false ample ≡ None
unfolding dirs_above reached do_names_differ name_hash_of register_after crc_byte crc_bits crc_bit
cut_reason = reason_is cut_inodes cut_names grown_inodes renamed_names 256 ample

pub cut_after : (log_step cut grown 256 false).names ≡ cut_names
unfolding dirs_above reached do_names_differ name_hash_of register_after crc_byte crc_bits crc_bit name_cmp
cut_after = names_are cut_inodes cut_names grown_inodes renamed_names 256

pub emptied_ranges : (written_log filled emptied filled 257 false empty_log).ranges ≡ range 257 0 18_446_744_073_709_551_615 ∷ []
unfolding dirs_above reached do_names_differ name_hash_of register_after crc_byte crc_bits crc_bit name_cmp
emptied_ranges = ranges_are emptied_inodes emptied_names filled_inodes filled_names 257 filled_inodes filled_names empty_log

pub removed_ranges : (written_log filled bare emptied 256 false emptied_log).ranges ≡ range 256 0 18_446_744_073_709_551_615 ∷ range 257 3 3 ∷ []
unfolding dirs_above reached do_names_differ name_hash_of register_after crc_byte crc_bits crc_bit name_cmp
removed_ranges = ranges_are bare_inodes [] emptied_inodes emptied_names 256 filled_inodes filled_names emptied_log

pub again_ranges : (written_log renamed again renamed 258 false empty_log).ranges ≡ range 256 2 2 ∷ []
unfolding dirs_above reached do_names_differ name_hash_of register_after crc_byte crc_bits crc_bit name_cmp
again_ranges = ranges_are again_inodes again_names renamed_inodes renamed_names 258 renamed_inodes renamed_names empty_log

pub again_gone : get (log_step again renamed 258 false).inodes 257 ≡ None
unfolding dirs_above reached do_names_differ name_hash_of register_after crc_byte crc_bits crc_bit
again_gone = record_is again_inodes again_names renamed_inodes renamed_names 258 257

pub renamed_kept : get (log_step remade renamed 258 false).inodes 257 ≡ Some (file_of 2)
unfolding dirs_above reached do_names_differ name_hash_of register_after crc_byte crc_bits crc_bit
renamed_kept = record_is remade_inodes remade_names renamed_inodes renamed_names 258 257

pub cut_kept : get (log_step cut grown 256 false).inodes 257 ≡ Some (file_of 4096)
unfolding dirs_above reached do_names_differ name_hash_of register_after crc_byte crc_bits crc_bit
cut_kept = record_is cut_inodes cut_names grown_inodes renamed_names 256 257

pub cut_whole : get (written_log bare cut grown 256 false grown_log).whole 257 ≡ Some grown_whole
unfolding dirs_above reached do_names_differ name_hash_of register_after crc_byte crc_bits crc_bit
cut_whole = whole_is cut_inodes cut_names grown_inodes renamed_names 256 bare_inodes [] grown_log 257 (λ e. absurd (omega arith)) refl ∙ gets_whole
  where
    gets_whole : get grown_log.whole 257 ≡ Some grown_whole
    gets_whole = get-from_entries nat_cmp_total ((257, grown_whole) ∷ []) 257

pub data_names : (log_step resized renamed 257 true).names ≡ renamed_names
data_names = ap (λ (sub : Subvolume). sub.names) (data_step resized_inodes resized_names renamed_inodes renamed_names 257 (file_of 2) (file_of 9) refl refl)

pub data_record : get (log_step resized renamed 257 true).inodes 257 ≡ Some (file_of 9)
data_record =
    ap (λ (sub : Subvolume). get sub.inodes 257) (data_step resized_inodes resized_names renamed_inodes renamed_names 257 (file_of 2) (file_of 9) refl refl)
    ∙ get_insert_same renamed.inodes 257 (file_of 9)

pub eleven_reason : commit_reason (shifted 11) (row 11) 268 false ample ≡ Some (Conflicts 11)
unfolding dirs_above reached do_names_differ name_hash_of register_after crc_byte crc_bits crc_bit
eleven_reason = reason_is (row_inodes 12) (shifted_names 11) (row_inodes 11) (row_names 11) 268 ample

pub ten_reason : commit_reason (shifted 10) (row 10) 267 false ample ≡ None
unfolding dirs_above reached do_names_differ name_hash_of register_after crc_byte crc_bits crc_bit
ten_reason = reason_is (row_inodes 11) (shifted_names 10) (row_inodes 10) (row_names 10) 267 ample

pub ten_after : (log_step (shifted 10) (row 10) 267 false).names ≡ shifted_names 10
unfolding dirs_above reached do_names_differ name_hash_of register_after crc_byte crc_bits crc_bit name_cmp
ten_after = names_are (row_inodes 11) (shifted_names 10) (row_inodes 10) (row_names 10) 267

pub emptied_replayed : (replay filled emptied_log).names ≡ emptied_names
unfolding name_cmp
emptied_replayed = replayed_is filled_inodes filled_names ((257, WholeDir (record { attributes = empty })) ∷ []) emptied_log.names emptied_log.ranges

pub removed_replayed : (replay filled removed_log).names ≡ []
unfolding name_cmp
removed_replayed = replayed_is filled_inodes filled_names ((256, WholeDir (record { attributes = empty })) ∷ []) [] removed_log.ranges

pub changed_drawn : drawn_set changed three 257 ≡ 257 ∷ 259 ∷ 261 ∷ []
unfolding dirs_above reached do_names_differ name_hash_of register_after crc_byte crc_bits crc_bit
changed_drawn = least_is changed_inodes changed_names three_inodes three_names 257 true

pub changed_after : (log_step changed three 257 false).names ≡ changed_names
unfolding dirs_above reached do_names_differ name_hash_of register_after crc_byte crc_bits crc_bit name_cmp
changed_after = names_are changed_inodes changed_names three_inodes three_names 257

pub changed_ranges : (written_log three changed three 257 false empty_log).ranges ≡ range 257 4 4 ∷ range 257 6 18_446_744_073_709_551_615 ∷ []
unfolding dirs_above reached do_names_differ name_hash_of register_after crc_byte crc_bits crc_bit
changed_ranges = ranges_are changed_inodes changed_names three_inodes three_names 257 three_inodes three_names empty_log

pub changed_entries : (written_log three changed three 257 false empty_log).entries ≡ made_entry ∷ []
unfolding dirs_above reached do_names_differ name_hash_of register_after crc_byte crc_bits crc_bit
changed_entries = entries_are changed_inodes changed_names three_inodes three_names 257 three_inodes three_names empty_log
