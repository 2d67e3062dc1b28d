-- The rules of a log over a subvolume that is made of entries, computed from the entries.
use Rattle.std.proofs.Common.{◌≡◌, ◌&&◌, ◌||◌, ◌++◌, ℕ, Bool, true, false, not, cond, is_some, List, [], ◌∷◌, Option, Some, None, Result, Ok, Err, Ordering, nat_cmp, nat_eq, nat_le, filter, map, flat_map, refl, sym, ap, ap₂, ◌∙◌, arith}
use Rattle.std.specs.List.{list_all}
use Rattle.std.specs.Cmp.{IsTotalOrder, nat_cmp_total}
use Rattle.std.specs.Cmp.Lexicographic.{slice_cmp, nat_list_cmp_total}
use Rattle.std.specs.FinMap.{find, put, entries, empty, from_entries, get-from_entries, entries-insert}
use Rattle.blk_base.specs.Leaf.{Item}
use Rattle.blk_base.specs.Items.{InodeValue, file_mode, dir_mode}
use Rattle.flat_model.specs.Records.{InodeRecord}
use Rattle.flat_model.specs.Contents.{most_file_bytes}
use Rattle.flat_model.specs.Names.{FlatName, name_set}
use Rattle.logged_volume.specs.Numbers.{number_set}
use Rattle.logged_volume.specs.FlatLog.{is_logged, is_covered, has_entry}
use Rattle.logged_volume.specs.Replay.{names_left}
use Rattle.volume_image.specs.Subvolume.{Data}
use Rattle.volume_image.proofs.Lists.{entries_empty}
use Rattle.log_image.specs.LogItems.{inode_in, attributes_in, extents_in, blocks_of_extent, target_in, whole_in, whole_said, whole_by_mode, names_in, ranges_in, entries_in}
use Rattle.log_image.specs.LogRules.{LogRule, StrayItem, LacksInode, OtherKind, PastLimits, MoreThanExists, WrongExtents, RootNamed, NamesClash, all_rules, log_of, objectids_in, of_value, differs, keeps_attribute, keeps_block, are_bytes, keeps_limits, passes_limits, do_clash, does_break, broken_rules}
use Rattle.log_image.proofs.Accepted.{whole_of_log, existing_of_log}

-- ---- entries of maps that are made of entries

abbrev pub puts : {K X : Type 0} (R : K → K → Ordering) → List (K × X) → List (K × X)
puts R [] = []
puts R (e ∷ es) = put R e.0 e.1 (puts R es)

entries_made : {K X : Type 0} {R : K → K → Ordering} (o : IsTotalOrder R) (es : List (K × X)) → entries (from_entries {R = R} es) ≡ puts R es
entries_made {R = R} o [] = entries_empty R
entries_made {R = R} o (e ∷ es) = entries-insert o (from_entries es) e.0 e.1 ∙ ap (put R e.0 e.1) (entries_made o es)

-- ---- limits

abbrev attributes_keep : List Item → ℕ → Bool
attributes_keep items ino = list_all keeps_attribute (puts (slice_cmp nat_cmp) (attributes_in items ino))

abbrev blocks_keep : List Item → Data → ℕ → InodeValue → Bool
blocks_keep items blocks ino value = list_all (keeps_block value.size) (puts nat_cmp (flat_map (blocks_of_extent blocks) (extents_in items ino)))

abbrev target_keeps : List ℕ → Bool
target_keeps target = nat_le 1 (Rattle.std.proofs.Common.length target) && (nat_le (Rattle.std.proofs.Common.length target) 1023 && are_bytes target)

abbrev pub limits_by : List Item → Data → ℕ → Option InodeValue → Bool
limits_by items blocks ino None = false
limits_by items blocks ino (Some value) =
    cond (nat_eq value.generation 0) false
    (not (cond (nat_eq value.mode file_mode) (attributes_keep items ino && (nat_le value.size most_file_bytes && blocks_keep items blocks ino value))
    (cond (nat_eq value.mode dir_mode) (attributes_keep items ino) (attributes_keep items ino && target_keeps (target_in items ino)))))

limits_are : (items : List Item) (blocks : Data) (ino : ℕ) (said : Option InodeValue) → passes_limits (whole_said items blocks ino said) ≡ limits_by items blocks ino said
limits_are items blocks ino None = refl
limits_are items blocks ino (Some value) = go (nat_eq value.generation 0) (nat_eq value.mode file_mode) refl (nat_eq value.mode dir_mode) refl
  where
    attributes : list_all keeps_attribute (entries (from_entries {R = slice_cmp nat_cmp} (attributes_in items ino))) ≡ attributes_keep items ino
    attributes = ap (list_all keeps_attribute) (entries_made nat_list_cmp_total (attributes_in items ino))

    whole : (a : Bool) → nat_eq value.mode file_mode ≡ a → (b : Bool) → nat_eq value.mode dir_mode ≡ b → keeps_limits (whole_by_mode items blocks ino value)
        ≡ cond a (attributes_keep items ino && (nat_le value.size most_file_bytes && blocks_keep items blocks ino value)) (cond b (attributes_keep items ino) (attributes_keep items ino && target_keeps (target_in items ino)))
    whole true a b eb = rw a (ap₂ (λ x y. x && (nat_le value.size most_file_bytes && y)) attributes (ap (list_all (keeps_block value.size)) (entries_made nat_cmp_total (flat_map (blocks_of_extent blocks) (extents_in items ino)))))
    whole false a true b = rw (a, b) attributes
    whole false a false b = rw (a, b) (ap (λ x. x && target_keeps (target_in items ino)) attributes)

    go : (g : Bool) (a : Bool) → nat_eq value.mode file_mode ≡ a → (b : Bool) → nat_eq value.mode dir_mode ≡ b → passes_limits (cond g None (Some (whole_by_mode items blocks ino value)))
        ≡ cond g false (not (cond a (attributes_keep items ino && (nat_le value.size most_file_bytes && blocks_keep items blocks ino value))
        (cond b (attributes_keep items ino) (attributes_keep items ino && target_keeps (target_in items ino)))))
    go true a ea b eb = refl
    go false a ea b eb = ap not (whole a ea b eb)

-- ---- names that are left

logged_is : (items : List Item) (blocks : Data) (ino : ℕ) → is_logged (log_of items blocks) ino ≡ is_some (inode_in items ino)
logged_is items blocks ino = ap₂ (λ x y. is_some x || is_some y) (whole_of_log items blocks ino) (existing_of_log items blocks ino) ∙ go (inode_in items ino)
  where
    by_generation : (value : InodeValue) (g : Bool) → (is_some (cond g None (Some (whole_by_mode items blocks ino value))) || is_some (cond g (Some (Rattle.log_image.specs.LogItems.made_by_mode items ino value)) None)) ≡ true
    by_generation value true = refl
    by_generation value false = refl

    go : (said : Option InodeValue) → (is_some (whole_said items blocks ino said) || is_some (Rattle.log_image.specs.LogItems.existing_said items ino said)) ≡ is_some said
    go None = refl
    go (Some value) = by_generation value (nat_eq value.generation 0)

abbrev pub left_by : List FlatName → List Item → List FlatName
left_by names items =
    name_set (name_set (names_in items)
    ++ filter (λ name. not (is_covered (ranges_in items) name.dir name.index && not (has_entry (entries_in items) name)) && not (is_some (inode_in items name.ino))) names)

pub left_is : (inodes : List (ℕ × InodeRecord)) (names : List FlatName) (items : List Item) (blocks : Data) → names_left (record { inodes = from_entries inodes; names = names }) (log_of items blocks) ≡ left_by names items
unfolding names_left log_of
left_is inodes names items blocks =
    λ i. name_set (name_set (names_in items) ++ filter (λ name. not (is_covered (ranges_in items) name.dir name.index && not (has_entry (entries_in items) name)) && not (logged_is items blocks name.ino i)) names)

-- ---- rules

abbrev pub break_by : List (ℕ × InodeRecord) → List FlatName → List Item → Data → ℕ → LogRule → Bool
break_by inodes left items blocks ino StrayItem = does_break (record { inodes = empty; names = [] }) items blocks ino StrayItem
break_by inodes left items blocks ino LacksInode = does_break (record { inodes = empty; names = [] }) items blocks ino LacksInode
break_by inodes left items blocks ino OtherKind = of_value (differs (find nat_cmp ino inodes)) (inode_in items ino)
break_by inodes left items blocks ino PastLimits = limits_by items blocks ino (inode_in items ino)
break_by inodes left items blocks ino MoreThanExists = does_break (record { inodes = empty; names = [] }) items blocks ino MoreThanExists
break_by inodes left items blocks ino WrongExtents = does_break (record { inodes = empty; names = [] }) items blocks ino WrongExtents
break_by inodes left items blocks ino RootNamed = does_break (record { inodes = empty; names = [] }) items blocks ino RootNamed
break_by inodes left items blocks ino NamesClash = do_clash (names_in items) left ino

breaks_are : (inodes : List (ℕ × InodeRecord)) (names : List FlatName) (items : List Item) (blocks : Data) (ino : ℕ) (rule : LogRule)
    → does_break (record { inodes = from_entries inodes; names = names }) items blocks ino rule ≡ break_by inodes (left_by names items) items blocks ino rule
breaks_are inodes names items blocks ino StrayItem = refl
breaks_are inodes names items blocks ino LacksInode = refl
breaks_are inodes names items blocks ino OtherKind = ap (λ was. of_value (differs was) (inode_in items ino)) (get-from_entries nat_cmp_total inodes ino)
breaks_are inodes names items blocks ino PastLimits = limits_are items blocks ino (inode_in items ino)
breaks_are inodes names items blocks ino MoreThanExists = refl
breaks_are inodes names items blocks ino WrongExtents = refl
breaks_are inodes names items blocks ino RootNamed = refl
breaks_are inodes names items blocks ino NamesClash = ap (λ left. do_clash (names_in items) left ino) (left_is inodes names items blocks)

abbrev pub broken_by : List (ℕ × InodeRecord) → List FlatName → List Item → Data → List (ℕ × LogRule)
broken_by inodes names items blocks =
    flat_map (λ ino. map (λ rule. (ino, rule)) (filter (break_by inodes (left_by names items) items blocks ino) all_rules))
    (number_set (objectids_in items ++ map (λ (name : FlatName). name.dir) (left_by names items)))

pub broken_is : (inodes : List (ℕ × InodeRecord)) (names : List FlatName) (items : List Item) (blocks : Data) → broken_rules (record { inodes = from_entries inodes; names = names }) items blocks ≡ broken_by inodes names items blocks
unfolding broken_rules
broken_is inodes names items blocks =
    λ i. flat_map (λ ino. map (λ rule. (ino, rule)) (filter (λ rule. breaks_are inodes names items blocks ino rule i) all_rules))
    (number_set (objectids_in items ++ map (λ (name : FlatName). name.dir) (left_is inodes names items blocks i)))
