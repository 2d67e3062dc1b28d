-- The log of the items of a log with an inode's own items, whole or as existing.
use Rattle.std.proofs.Common.{◌≡◌, ◌≢◌, ◌<◌, ◌+◌, ◌≤◌, ◌∙◌, ◌++◌, ℕ, Bool, true, false, not, cond, max, List, [], ◌∷◌, Contains, Option, Some, None, nat_eq, filter, flat_map, map, refl, sym, ap, subst, inl, inr, arith}
use Rattle.std.specs.FinMap.{from_entries, get, insert}
use Rattle.std.specs.Option.{is_some}
use Rattle.std.proofs.lemmas.Bool.{eq-eqb, eqb-true, false_from_ne_true, true≢false}
use Rattle.blk_base.specs.declared.key.Key.{Key}
use Rattle.blk_base.specs.Items.{InodeValue, IsInode, dir_mode, file_mode, inode_bytes, link_mode}
use Rattle.blk_base.specs.Keys.{extent_data, inode_item, xattr_item}
use Rattle.blk_base.specs.Leaf.{Item}
use Rattle.blk_base.specs.Trees.{ItemsRise}
use Rattle.blk_base.specs.Extents.{ExtentValue, Inline}
use Rattle.flat_model.specs.Records.{FileRecord, InodeRecord, LinkRecord, DirInode, FileInode, LinkInode, at_creation, attributes_of, kind_of, new_dir, new_file, new_link}
use Rattle.flat_model.specs.Volume.{Subvolume}
use Rattle.flat_model.proofs.Maps.{get_insert_other, get_insert_same, get_remove_other, get_remove_same}
use Rattle.log_image.specs.LogItems.{AreItemsOfLog, HasItsExtents, IsLogItem, asks_inode, attribute_map, blocks_of_extent, changes_in, content_of_extent, covered_bytes, existing_said, extent_in_item, extents_in, holes_of_extent, inode_in, is_at, made_by_mode, pairs_in_item, target_in, whole_by_mode, whole_said}
use Rattle.log_image.proofs.OneLog.{at_gives}
use Rattle.log_image.proofs.Sayings.{kind_by_mode, made_mode_kind, same_mode, whole_mode_kind}
use Rattle.logged_volume.specs.FlatLog.{FileChanges, FlatLog, WholeDir, WholeFile, WholeInode, WholeLink, is_logged, is_whole}
use Rattle.tree_check.specs.Items.{HaveKeys}
use Rattle.tree_frame.specs.Frame.{with_item}
use Rattle.volume_image.specs.Subvolume.{AreItemsOf, Data, item_addresses, make_key, mode_of}
use Rattle.volume_image.proofs.Lists.{in_cons, in_nothing}
use Rattle.volume_image.proofs.Members.{flat_map_in, in_filter}
use Rattle.flat_model.proofs.Lists.{filter_empties}
use Rattle.item_edit.specs.ItemEdit.{HasInode}
use Rattle.tree_range.proofs.Found.{contains_under}
use Rattle.volume_image.specs.Subvolume.{IsInodeOf, size_of}
use Rattle.volume_image.proofs.Asked.{asked_inode}
use Rattle.volume_image.proofs.Spellings.{inode_is_one}
use Rattle.log_items.specs.Inode.{HasItsKind, with_inode, file_with_had, value_to_log, whole_with_had, with_attributes, with_existing, with_items_at, with_own_items, with_whole}
use Rattle.log_items.proofs.HasItem.{own_item}
use Rattle.log_items.proofs.Own.{AreOwn, HasOwn, attributes_now, extents_now, log_with_own, three_have}
use Rattle.cow_tree.proofs.Items.{with_rise}
use Rattle.log_items.specs.Inode.{first_at, items_at, last_at}
use Rattle.log_items.proofs.Walk.{keys_with}
use Rattle.log_items.proofs.Writings.{at_in_order, keys_between, keys_with_range}
use Rattle.log_items.proofs.Rises.{range_rises}
use Rattle.log_items.proofs.Parts.{IsPart, keeps_others, part_stays, part_with_item, part_with_items}
use Rattle.log_items.proofs.Theirs.{attribute_logged, extent_logged, link_item, their_attributes}

some_value : (x y : InodeValue) → Some x ≡ Some y → x ≡ y
some_value x y e = cc

kinds_apart : (ino one two : ℕ) → one ≢ two → (item : Item) → is_at ino one item ≡ true → is_at ino two item ≡ false
kinds_apart ino one two apart item is = false_from_ne_true (is_at ino two item) (λ e. apart (sym (at_gives ino one item is).1 ∙ (at_gives ino two item e).1))

-- ---- what the log has of the inode before

module _ (ino : ℕ) (items : List Item) (blocks : Data) (log : FlatLog) (inode : InodeRecord) (h : AreItemsOfLog items blocks log) (kind : HasItsKind log ino inode) where
  abbrev had_attributes : List Item
  had_attributes = filter (is_at ino xattr_item) items

  abbrev had_extents : List Item
  had_extents = filter (is_at ino extent_data) items

  -- without the inode's item there is none of these
  pub none_had : (type : ℕ) → asks_inode type ≡ true → inode_in items ino ≡ None → filter (is_at ino type) items ≡ []
  none_had type asks none = filter_empties (is_at ino type) items (λ item c. false_from_ne_true (is_at ino type item) (λ e.
      let at = at_gives ino type item e in
      let said = h.has_inode item.0 item.1 c (ap asks_inode at.1 ∙ asks) in
      let wrong : None ≡ Some said.0 = sym none ∙ ap (inode_in items) (sym at.0) ∙ said.1 in
      absurd cc))

  -- the item's mode is the inode's
  pub had_mode : (said : InodeValue) → inode_in items ino ≡ Some said → mode_of inode ≡ said.mode
  had_mode said is = same_mode inode said.mode (own_item items blocks log ino h said is).2.mode (sym (by_generation (nat_eq said.generation 0) refl))
    where
      by_generation : (b : Bool) → nat_eq said.generation 0 ≡ b → kind_by_mode said.mode ≡ kind_of inode
      by_generation true e =
          sym (made_mode_kind items ino said)
          ∙ kind.existing (made_by_mode items ino said) (h.existing ino ∙ ap (existing_said items ino) is ∙ ap (λ (b : Bool). cond b (Some (made_by_mode items ino said)) None) e)
      by_generation false e =
          sym (whole_mode_kind items blocks ino said)
          ∙ kind.whole (whole_by_mode items blocks ino said) (h.whole ino ∙ ap (whole_said items blocks ino) is ∙ ap (λ (b : Bool). cond b None (Some (whole_by_mode items blocks ino said))) e)

  -- one that isn't whole has generation 0
  pub had_zero : get log.whole ino ≡ None → (said : InodeValue) → inode_in items ino ≡ Some said → said.generation ≡ 0
  had_zero none said is = go (nat_eq said.generation 0) refl
    where
      go : (b : Bool) → nat_eq said.generation 0 ≡ b → said.generation ≡ 0
      go true e = eqb-true said.generation 0 e
      go false e =
          let wrong : None ≡ Some (whole_by_mode items blocks ino said) = sym none ∙ h.whole ino ∙ ap (whole_said items blocks ino) is ∙ ap (λ (b : Bool). cond b None (Some (whole_by_mode items blocks ino said))) e in
          absurd cc

  pub bare_attributes : get log.whole ino ≡ None → flat_map pairs_in_item had_attributes ≡ []
  bare_attributes none = go (inode_in items ino) refl
    where
      go : (o : Option InodeValue) → inode_in items ino ≡ o → flat_map pairs_in_item had_attributes ≡ []
      go None e = ap (flat_map pairs_in_item) (none_had xattr_item refl e)
      go (Some said) e = h.bare ino said e (had_zero none said e)

  -- of a directory there are no extents, of a file no inline ones, and of one that isn't whole none
  pub file_or_dir : (value : InodeValue) → value.mode ≡ mode_of inode → value.mode ≢ link_mode → (value.generation ≡ 0 → get log.whole ino ≡ None) → HasItsExtents value (map extent_in_item had_extents)
  file_or_dir value mode other bare = go (inode_in items ino) refl
    where
      go : (o : Option InodeValue) → inode_in items ino ≡ o → HasItsExtents value (map extent_in_item had_extents)
      go None e =
          let nothing : map extent_in_item had_extents ≡ [] = ap (map extent_in_item) (none_had extent_data refl e) in
          subst (HasItsExtents value) (sym nothing) (record {
            link = λ m. absurd (other m);
            file = λ m extent c. absurd (in_nothing extent c);
            dir = λ m. refl;
            bare = λ z m. refl;
          })
      go (Some said) e =
          let has = h.extents ino said e in
          let same : said.mode ≡ value.mode = sym (had_mode said e) ∙ sym mode in
          record {
            link = λ m. absurd (other m);
            file = λ m extent c. has.file (same ∙ m) extent c;
            dir = λ m. has.dir (same ∙ m);
            bare = λ z m. has.bare (had_zero (bare z) said e) (λ l. other (sym same ∙ l));
          }

  pub no_extents : get log.whole ino ≡ None → mode_of inode ≢ link_mode → map extent_in_item had_extents ≡ []
  no_extents none other = go (inode_in items ino) refl
    where
      go : (o : Option InodeValue) → inode_in items ino ≡ o → map extent_in_item had_extents ≡ []
      go None e = ap (map extent_in_item) (none_had extent_data refl e)
      go (Some said) e = (h.extents ino said e).bare (had_zero none said e) (λ l. other (had_mode said e ∙ l))

  -- the blocks and the holes that a file has in the log
  pub had_changes : (file : FileRecord) → inode ≡ FileInode file → (attributes : Rattle.flat_model.specs.Records.Attributes)
      → (attributes ≡ file.attributes)
      → WholeFile (record { attributes = attributes; size = file.size; blocks = from_entries (flat_map (blocks_of_extent blocks) (map extent_in_item had_extents)); holes = flat_map holes_of_extent (map extent_in_item had_extents) })
      ≡ WholeFile (file_with_had (get log.whole ino) file)
  had_changes file is attributes same = go (get log.whole ino) refl
    where
      go : (o : Option WholeInode) → get log.whole ino ≡ o
          → WholeFile (record { attributes = attributes; size = file.size; blocks = from_entries (flat_map (blocks_of_extent blocks) (map extent_in_item had_extents)); holes = flat_map holes_of_extent (map extent_in_item had_extents) }) ≡ WholeFile (file_with_had o file)
      go None e = rw (no_extents e (λ l. omega (arith, sym (ap mode_of is) ∙ l)), same) refl
      go (Some (WholeDir dir)) e = absurd (wrong_dir (kind.whole (WholeDir dir) e ∙ ap kind_of is))
        where
          wrong_dir : Rattle.flat_model.specs.declared.view.Kind.TheVariants.Dir ≡ Rattle.flat_model.specs.declared.view.Kind.TheVariants.File → ⊥
          wrong_dir q = absurd cc
      go (Some (WholeLink link)) e = absurd (wrong_link (kind.whole (WholeLink link) e ∙ ap kind_of is))
        where
          wrong_link : Rattle.flat_model.specs.declared.view.Kind.TheVariants.Link ≡ Rattle.flat_model.specs.declared.view.Kind.TheVariants.File → ⊥
          wrong_link q = absurd cc
      go (Some (WholeFile had)) e = by_item (inode_in items ino) refl
        where
          changes_of : WholeInode → FileChanges
          changes_of (WholeFile changes) = changes
          changes_of other = had

          by_item : (o : Option InodeValue) → inode_in items ino ≡ o
              → WholeFile (record { attributes = attributes; size = file.size; blocks = from_entries (flat_map (blocks_of_extent blocks) (map extent_in_item had_extents)); holes = flat_map holes_of_extent (map extent_in_item had_extents) }) ≡ WholeFile (record had { attributes = file.attributes; size = file.size })
          by_item None f = let wrong : None ≡ Some (WholeFile had) = sym (h.whole ino ∙ ap (whole_said items blocks ino) f) ∙ e in absurd cc
          by_item (Some said) f =
              let mode : said.mode ≡ file_mode = sym (had_mode said f) ∙ ap mode_of is in
              let said_is : cond (nat_eq said.generation 0) None (Some (whole_by_mode items blocks ino said)) ≡ Some (WholeFile had) = sym (h.whole ino ∙ ap (whole_said items blocks ino) f) ∙ e in
              let changed = by_generation (nat_eq said.generation 0) said_is in
              let by_mode : whole_by_mode items blocks ino said ≡ WholeFile (changes_in items blocks ino said) = rw mode refl in
              let had_is : changes_in items blocks ino said ≡ had = ap changes_of (sym by_mode ∙ changed) in
              ap WholeFile (λ i. record { attributes = same i; size = file.size; blocks = (ap (λ (c : FileChanges). c.blocks) had_is) i; holes = (ap (λ (c : FileChanges). c.holes) had_is) i })
            where
              by_generation : (b : Bool) → cond b None (Some (whole_by_mode items blocks ino said)) ≡ Some (WholeFile had) → whole_by_mode items blocks ino said ≡ WholeFile had
              by_generation true q = absurd cc
              by_generation false q = cc

-- ---- the law

by_file : {X : Type 0} (mode : ℕ) (file dir link : X) → mode ≡ file_mode → cond (nat_eq mode file_mode) file (cond (nat_eq mode dir_mode) dir link) ≡ file
by_file mode file dir link m = rw m refl

by_dir : {X : Type 0} (mode : ℕ) (file dir link : X) → mode ≡ dir_mode → cond (nat_eq mode file_mode) file (cond (nat_eq mode dir_mode) dir link) ≡ dir
by_dir mode file dir link m = rw m refl

by_link : {X : Type 0} (mode : ℕ) (file dir link : X) → mode ≡ link_mode → cond (nat_eq mode file_mode) file (cond (nat_eq mode dir_mode) dir link) ≡ link
by_link mode file dir link m = rw m refl

link_of : (inode : InodeRecord) → mode_of inode ≡ link_mode → (link : LinkRecord) × (inode ≡ LinkInode link)
link_of (FileInode file) m = absurd (omega (arith, m))
link_of (DirInode dir) m = absurd (omega (arith, m))
link_of (LinkInode link) m = (link, refl)

not_zero : (g : ℕ) → max g 1 ≡ 0 → ⊥
not_zero g z = omega (arith, z)

module _ (ino : ℕ) (items current : List Item) (blocks theirs : Data) (log : FlatLog) (sub : Subvolume) (inode : InodeRecord) (v : InodeValue) (whole : Bool) (h : AreItemsOfLog items blocks log) (kind : HasItsKind log ino inode) (keys : HaveKeys items) (their_keys : HaveKeys current) (rise : ItemsRise current)
    (are : AreItemsOf current theirs sub) (there : get sub.inodes ino ≡ Some inode) (mode : v.mode ≡ mode_of inode) (size : (file : FileRecord) → inode ≡ FileInode file → v.size ≡ file.size) (spelled : IsInode (inode_bytes (value_to_log whole v)) (value_to_log whole v)) (may : whole ≡ false → get log.whole ino ≡ None) where
  abbrev value : InodeValue
  value = value_to_log whole v

  abbrev one : List Item
  one = with_item (make_key ino inode_item 0) (inode_bytes value) items

  abbrev two : List Item
  two = with_attributes ino whole current one

  abbrev new : List Item
  new = with_own_items ino whole value current items

  abbrev attributes : List Item
  attributes = cond whole (filter (is_at ino xattr_item) current) (filter (is_at ino xattr_item) items)

  abbrev extents : List Item
  extents = cond (nat_eq v.mode link_mode) (filter (is_at ino extent_data) current) (filter (is_at ino extent_data) items)

  one_rises : ItemsRise one
  one_rises = with_rise (make_key ino inode_item 0) (inode_bytes value) items h.rise

  one_keys : HaveKeys one
  one_keys = let item = are.inodes ino inode there in keys_with (make_key ino inode_item 0) (inode_bytes value) items (their_keys (make_key ino inode_item 0) item.0 item.1) keys

  two_rises : ItemsRise two
  two_rises = go whole
    where
      go : (b : Bool) → ItemsRise (with_attributes ino b current one)
      go true = range_rises (first_at ino xattr_item) (last_at ino xattr_item) current one (at_in_order ino xattr_item) rise one_rises
      go false = one_rises

  two_keys : HaveKeys two
  two_keys = go whole
    where
      go : (b : Bool) → HaveKeys (with_attributes ino b current one)
      go true = keys_with_range (first_at ino xattr_item) (last_at ino xattr_item) (items_at ino xattr_item current) one (keys_between (first_at ino xattr_item) (last_at ino xattr_item) current their_keys) one_keys
      go false = one_keys

  first : IsPart ino inode_item items one ((make_key ino inode_item 0, inode_bytes value) ∷ [])
  first = part_with_item ino inode_item (inode_bytes value) items h.rise (λ item c is. (h.only item.0 item.1 c).its_key.inode (at_gives ino inode_item item is).1)

  second : (b : Bool) → IsPart ino xattr_item one (with_attributes ino b current one) (cond b (filter (is_at ino xattr_item) current) (filter (is_at ino xattr_item) items))
  second true = part_with_items ino xattr_item current one their_keys one_keys one_rises
  second false =
      subst (IsPart ino xattr_item one one)
      (keeps_others ino inode_item items one ((make_key ino inode_item 0, inode_bytes value) ∷ []) first (is_at ino xattr_item) (kinds_apart ino inode_item xattr_item (λ e. omega (arith, e))))
      (part_stays ino xattr_item one)

  third : (b : Bool) → IsPart ino extent_data two (cond b (with_items_at ino extent_data current two) two) (cond b (filter (is_at ino extent_data) current) (filter (is_at ino extent_data) items))
  third true = part_with_items ino extent_data current two their_keys two_keys two_rises
  third false =
      subst (IsPart ino extent_data two two)
      (keeps_others ino xattr_item one two attributes (second whole) (is_at ino extent_data) (kinds_apart ino xattr_item extent_data (λ e. omega (arith, e)))
      ∙ keeps_others ino inode_item items one ((make_key ino inode_item 0, inode_bytes value) ∷ []) first (is_at ino extent_data) (kinds_apart ino inode_item extent_data (λ e. omega (arith, e))))
      (part_stays ino extent_data two)

  has : HasOwn ino items new (inode_bytes value) attributes extents
  has = three_have ino items one two new (inode_bytes value) attributes extents first (second whole) (third (nat_eq v.mode link_mode))

  zero_bare : value.generation ≡ 0 → get log.whole ino ≡ None
  zero_bare = go whole refl
    where
      go : (b : Bool) → whole ≡ b → cond b (max v.generation 1) 0 ≡ 0 → get log.whole ino ≡ None
      go true e z = absurd (not_zero v.generation z)
      go false e z = may e

  all_attributes : (b : Bool) (key : Key) (bytes : List ℕ) → Contains (cond b (filter (is_at ino xattr_item) current) (filter (is_at ino xattr_item) items)) (key, bytes) → IsLogItem key bytes
  all_attributes true key bytes c = attribute_logged ino current theirs sub rise are inode there key bytes c
  all_attributes false key bytes c = h.only key bytes (in_filter (is_at ino xattr_item) items (key, bytes) c).0

  all_extents : (b : Bool) (key : Key) (bytes : List ℕ) → Contains (cond b (filter (is_at ino extent_data) current) (filter (is_at ino extent_data) items)) (key, bytes) → IsLogItem key bytes
  all_extents true key bytes c = extent_logged ino current theirs sub rise are inode there key bytes c
  all_extents false key bytes c = h.only key bytes (in_filter (is_at ino extent_data) items (key, bytes) c).0

  -- a symlink's one extent
  link_extents : (link : LinkRecord) → inode ≡ LinkInode link → map extent_in_item (filter (is_at ino extent_data) current) ≡ (0, Inline link.target) ∷ []
  link_extents link is =
      let item = link_item ino current theirs sub rise are inode there link is in
      ap (map extent_in_item) item.1 ∙ ap (λ (e : ℕ × ExtentValue). e ∷ []) item.2

  the_extents : (b : Bool) → nat_eq v.mode link_mode ≡ b → HasItsExtents value (map extent_in_item (cond b (filter (is_at ino extent_data) current) (filter (is_at ino extent_data) items)))
  the_extents false e =
      let other : v.mode ≢ link_mode = λ m. true≢false (sym (eq-eqb v.mode link_mode m) ∙ e) in
      file_or_dir ino items blocks log inode h kind value mode other zero_bare
  the_extents true e =
      let m : v.mode ≡ link_mode = eqb-true v.mode link_mode e in
      let link = link_of inode (sym mode ∙ m) in
      subst (HasItsExtents value) (sym (link_extents link.0 link.1)) (record {
        link = λ l. ((0, Inline link.0.target), refl, refl);
        file = λ f. absurd (omega (arith, m, f));
        dir = λ d. absurd (omega (arith, m, d));
        bare = λ z other. absurd (other m);
      })

  the_bare : value.generation ≡ 0 → flat_map pairs_in_item attributes ≡ []
  the_bare z = go whole refl z
    where
      go : (b : Bool) → whole ≡ b → cond b (max v.generation 1) 0 ≡ 0 → flat_map pairs_in_item (cond b (filter (is_at ino xattr_item) current) (filter (is_at ino xattr_item) items)) ≡ []
      go true e z = absurd (not_zero v.generation z)
      go false e z = bare_attributes ino items blocks log inode h kind (may e)

  the_apart : (b : Bool) → nat_eq v.mode link_mode ≡ b → (x y : Item) → Contains (cond b (filter (is_at ino extent_data) current) (filter (is_at ino extent_data) items)) x → Contains (cond b (filter (is_at ino extent_data) current) (filter (is_at ino extent_data) items)) y
      → x.0.offset < y.0.offset → x.0.offset + covered_bytes (extent_in_item x) ≤ y.0.offset
  the_apart false e x y c d below =
      let one = in_filter (is_at ino extent_data) items x c in
      let other = in_filter (is_at ino extent_data) items y d in
      h.apart ino x y one.0 other.0 one.1 other.1 below
  the_apart true e x y c d below =
      let link = link_of inode (sym mode ∙ eqb-true v.mode link_mode e) in
      let item = link_item ino current theirs sub rise are inode there link.0 link.1 in
      let at_zero : (z : Item) → Contains (filter (is_at ino extent_data) current) z → z.0.offset ≡ 0 = λ z f.
      elim (in_cons (make_key ino extent_data 0, item.0) z [] (subst (λ (l : List Item). Contains l z) item.1 f)) [ inl same ↦ ap (λ (w : Item). w.0.offset) (sym same) | inr none ↦ absurd (in_nothing z none) ] in
      absurd (omega (arith, at_zero x c, at_zero y d, below))

  the_blocks : (b : Bool) → nat_eq v.mode link_mode ≡ b → (item : Item) (at : ℕ) → Contains (cond b (filter (is_at ino extent_data) current) (filter (is_at ino extent_data) items)) item → Contains (item_addresses item) at → (block : List ℕ) × (blocks at ≡ Some block)
  the_blocks false e item at c d = h.blocks_there at (flat_map_in item_addresses items item at (in_filter (is_at ino extent_data) items item c).0 d)
  the_blocks true e item at c d =
      let link = link_of inode (sym mode ∙ eqb-true v.mode link_mode e) in
      let own = link_item ino current theirs sub rise are inode there link.0 link.1 in
      elim (in_cons (make_key ino extent_data 0, own.0) item [] (subst (λ (l : List Item). Contains l item) own.1 c)) [
        | inl same ↦ absurd (in_nothing at (subst (λ (l : List ℕ). Contains l at) own.3 (subst (λ (w : Item). Contains (item_addresses w) at) (sym same) d)))
        | inr none ↦ absurd (in_nothing item none)
      ]

  own : AreOwn blocks (inode_bytes value) value attributes extents
  own = record {
    spelled = spelled;
    attributes_logged = all_attributes whole;
    extents_logged = all_extents (nat_eq v.mode link_mode);
    its_extents = the_extents (nat_eq v.mode link_mode) refl;
    bare = the_bare;
    apart = the_apart (nat_eq v.mode link_mode) refl;
    blocks_there = the_blocks (nat_eq v.mode link_mode) refl;
  }

  module _ (rises : ItemsRise new) where
    attributes_said : whole ≡ true → attribute_map new ino ≡ attributes_of inode
    attributes_said w =
        ap from_entries (attributes_now ino items new blocks log (inode_bytes value) value attributes extents h rises has own
        ∙ ap (λ (b : Bool). flat_map pairs_in_item (cond b (filter (is_at ino xattr_item) current) (filter (is_at ino xattr_item) items))) w)
        ∙ their_attributes ino current theirs sub rise are inode there

    extents_said : (b : Bool) → nat_eq v.mode link_mode ≡ b → extents_in new ino ≡ map extent_in_item (cond b (filter (is_at ino extent_data) current) (filter (is_at ino extent_data) items))
    extents_said b e =
        extents_now ino items new blocks log (inode_bytes value) value attributes extents h rises has own
        ∙ ap (λ (c : Bool). map extent_in_item (cond c (filter (is_at ino extent_data) current) (filter (is_at ino extent_data) items))) e

    target_said : (link : LinkRecord) → inode ≡ LinkInode link → target_in new ino ≡ link.target
    target_said link is =
        ap (flat_map content_of_extent) (extents_said true (eq-eqb v.mode link_mode (mode ∙ ap mode_of is)) ∙ link_extents link is)
        ∙ append_nothing link.target
      where
        append_nothing : (l : List ℕ) → l ++ [] ≡ l
        append_nothing [] = refl
        append_nothing (x ∷ xs) = ap (λ (l : List ℕ). x ∷ l) (append_nothing xs)

    abbrev file_said : WholeInode
    file_said = WholeFile (changes_in new blocks ino value)

    abbrev dir_said : WholeInode
    dir_said = WholeDir (record { attributes = attribute_map new ino })

    abbrev link_said : WholeInode
    link_said = WholeLink (record { attributes = attribute_map new ino; target = target_in new ino })

    -- the inode is whole
    whole_is : whole ≡ true → (r : InodeRecord) → inode ≡ r → whole_by_mode new blocks ino value ≡ whole_with_had (get log.whole ino) r
    whole_is w (FileInode file) is =
        let m : v.mode ≡ file_mode = mode ∙ ap mode_of is in
        let not_link : nat_eq v.mode link_mode ≡ false = ap (λ (n : ℕ). nat_eq n link_mode) m in
        let said : extents_in new ino ≡ map extent_in_item (filter (is_at ino extent_data) items) = extents_said false not_link in
        by_file v.mode file_said dir_said link_said m
        ∙ ap WholeFile (λ i. record { attributes = attribute_map new ino; size = size file is i; blocks = from_entries (flat_map (blocks_of_extent blocks) (said i)); holes = flat_map holes_of_extent (said i) })
        ∙ had_changes ino items blocks log inode h kind file is (attribute_map new ino) (attributes_said w ∙ ap attributes_of is)
    whole_is w (DirInode dir) is =
        by_dir v.mode file_said dir_said link_said (mode ∙ ap mode_of is) ∙ ap WholeDir (λ i. record { attributes = (attributes_said w ∙ ap attributes_of is) i })
    whole_is w (LinkInode link) is =
        by_link v.mode file_said dir_said link_said (mode ∙ ap mode_of is)
        ∙ ap WholeLink (λ i. record { attributes = (attributes_said w ∙ ap attributes_of is) i; target = target_said link is i })

    made_is : (r : InodeRecord) → inode ≡ r → made_by_mode new ino value ≡ at_creation r
    made_is (FileInode file) is = by_file v.mode new_file new_dir (new_link (target_in new ino)) (mode ∙ ap mode_of is)
    made_is (DirInode dir) is = by_dir v.mode new_file new_dir (new_link (target_in new ino)) (mode ∙ ap mode_of is)
    made_is (LinkInode link) is = by_link v.mode new_file new_dir (new_link (target_in new ino)) (mode ∙ ap mode_of is) ∙ ap new_link (target_said link is)

    generation_is : (b : Bool) → whole ≡ b → nat_eq value.generation 0 ≡ not b
    generation_is true e = ap (λ (b : Bool). nat_eq (cond b (max v.generation 1) 0) 0) e ∙ false_from_ne_true (nat_eq (max v.generation 1) 0) (λ z. not_zero v.generation (eqb-true (max v.generation 1) 0 z))
    generation_is false e = ap (λ (b : Bool). nat_eq (cond b (max v.generation 1) 0) 0) e

    pub log_with_whole : whole ≡ true → AreItemsOfLog new blocks (with_whole ino inode log)
    log_with_whole w = log_with_own ino items new blocks log (inode_bytes value) value attributes extents h rises has own (with_whole ino inode log) (record {
      whole =
          get_insert_same log.whole ino (whole_with_had (get log.whole ino) inode) ∙ ap Some (sym (whole_is w inode refl))
          ∙ ap (λ (b : Bool). cond b None (Some (whole_by_mode new blocks ino value))) (sym (generation_is true w));
      existing = get_remove_same log.existing ino ∙ ap (λ (b : Bool). cond b (Some (made_by_mode new ino value)) None) (sym (generation_is true w));
      others_whole = λ other apart. get_insert_other log.whole ino (whole_with_had (get log.whole ino) inode) other apart;
      others_existing = λ other apart. get_remove_other log.existing ino other apart;
      names = refl;
      ranges = refl;
      entries = refl;
    })

    pub log_with_existing : whole ≡ false → AreItemsOfLog new blocks (with_existing ino inode log)
    log_with_existing w =
        subst (λ (b : Bool). AreItemsOfLog new blocks (cond b log (record log { existing = insert log.existing ino (at_creation inode) }))) (sym (ap is_some (may w)))
        (log_with_own ino items new blocks log (inode_bytes value) value attributes extents h rises has own (record log { existing = insert log.existing ino (at_creation inode) }) (record {
          whole = may w ∙ ap (λ (b : Bool). cond b None (Some (whole_by_mode new blocks ino value))) (sym (generation_is false w));
          existing =
              get_insert_same log.existing ino (at_creation inode) ∙ ap Some (sym (made_is inode refl))
              ∙ ap (λ (b : Bool). cond b (Some (made_by_mode new ino value)) None) (sym (generation_is false w));
          others_whole = λ other apart. refl;
          others_existing = λ other apart. get_insert_other log.existing ino (at_creation inode) other apart;
          names = refl;
          ranges = refl;
          entries = refl;
        }))

-- the law, for both
pub log_with_inode : (ino : ℕ) (items current : List Item) (blocks theirs : Data) (log : FlatLog) (sub : Subvolume) (inode : InodeRecord) (v : InodeValue) (whole : Bool) → AreItemsOfLog items blocks log → HasItsKind log ino inode → HaveKeys items → HaveKeys current → ItemsRise current
    → AreItemsOf current theirs sub → get sub.inodes ino ≡ Some inode → HasInode current ino v → IsInode (inode_bytes (value_to_log whole v)) (value_to_log whole v) → (whole ≡ false → is_whole log ino ≡ false) → ItemsRise (with_own_items ino whole (value_to_log whole v) current items)
    → AreItemsOfLog (with_own_items ino whole (value_to_log whole v) current items) blocks (with_inode ino whole inode log)
log_with_inode ino items current blocks theirs log sub inode v whole h kind keys their_keys rise are there says spelled bare rises = by_whole whole refl
  where
    key : Key
    key = make_key ino inode_item 0

    asked : (r : InodeRecord) × (key.offset ≡ 0) × (get sub.inodes ino ≡ Some r) × IsInodeOf sub ino r says.bytes
    asked = asked_inode sub theirs key says.bytes refl (are.only key says.bytes (contains_under current key says.bytes says.there))

    some_inode : (x y : InodeRecord) → Some x ≡ Some y → x ≡ y
    some_inode x y e = cc

    is : IsInodeOf sub ino inode says.bytes
    is = subst (λ (r : InodeRecord). IsInodeOf sub ino r says.bytes) (some_inode asked.0 inode (sym asked.2 ∙ there)) asked.3

    value_is : is.value ≡ v
    value_is = inode_is_one says.bytes is.value v is.spelled says.spelled

    mode : v.mode ≡ mode_of inode
    mode = ap (λ (w : InodeValue). w.mode) (sym value_is) ∙ is.mode

    size : (file : FileRecord) → inode ≡ FileInode file → v.size ≡ file.size
    size file same = ap (λ (w : InodeValue). w.size) (sym value_is) ∙ is.size ∙ ap (size_of sub ino) same

    none : (o : Option WholeInode) → is_some o ≡ false → o ≡ None
    none None e = refl
    none (Some had) e = absurd (true≢false e)

    may : whole ≡ false → get log.whole ino ≡ None
    may w = none (get log.whole ino) (bare w)

    by_whole : (b : Bool) → whole ≡ b → AreItemsOfLog (with_own_items ino whole (value_to_log whole v) current items) blocks (with_inode ino whole inode log)
    by_whole true w =
        subst (λ (b : Bool). AreItemsOfLog (with_own_items ino whole (value_to_log whole v) current items) blocks (with_inode ino b inode log)) (sym w)
        (log_with_whole ino items current blocks theirs log sub inode v whole h kind keys their_keys rise are there mode size spelled may rises w)
    by_whole false w =
        subst (λ (b : Bool). AreItemsOfLog (with_own_items ino whole (value_to_log whole v) current items) blocks (with_inode ino b inode log)) (sym w)
        (log_with_existing ino items current blocks theirs log sub inode v whole h kind keys their_keys rise are there mode size spelled may rises w)

-- the log has the inode then
pub inode_logged : (ino : ℕ) (whole : Bool) (inode : InodeRecord) (log : FlatLog) → is_logged (with_inode ino whole inode log) ino ≡ true
inode_logged ino true inode log = rw (get_insert_same log.whole ino (whole_with_had (get log.whole ino) inode)) refl
inode_logged ino false inode log = go (is_whole log ino) refl
  where
    go : (b : Bool) → is_whole log ino ≡ b → is_logged (cond b log (record log { existing = insert log.existing ino (at_creation inode) })) ino ≡ true
    go true e = rw e refl
    go false e = rw (e, get_insert_same log.existing ino (at_creation inode)) refl
