-- The items of a log with a range or an entry put in are those of the log with it.
use Rattle.std.proofs.Common.{◌≡◌, ◌&&◌, ◌||◌, ◌∙◌, ℕ, Bool, true, false, List, [], ◌∷◌, ◌++◌, Contains, Option, Some, None, nat_eq, filter, flat_map, map, refl, sym, ap, subst, inl, inr}
use Rattle.std.specs.Prelude.{IsTrue}
use Rattle.std.proofs.lemmas.Bool.{cases_Bool, eqb-true, false_from_ne_true, true≢false}
use Rattle.blk_base.specs.Items.{InodeValue}
use Rattle.blk_base.specs.Keys.{inode_item, inode_ref, inode_extref, xattr_item, dir_index, dir_log_index, extent_data}
use Rattle.blk_base.specs.Leaf.{Item}
use Rattle.blk_base.specs.Trees.{ItemsRise}
use Rattle.cow_tree.proofs.Items.{lower, upper, with_rise}
use Rattle.flat_model.specs.Names.{FlatName, name_set, stands_in}
use Rattle.logged_volume.specs.FlatLog.{AreDistinct, FlatLog}
use Rattle.volume_image.specs.Subvolume.{Data, data_addresses, item_addresses}
use Rattle.log_image.specs.LogItems.{AreItemsOfLog, HasItsExtents, IsLogItem, asks_inode, is_at, inode_in, extent_in_item, pairs_in_item, value_of_item, whole_said, existing_said, names_in_item, names_in}
use Rattle.dir_ranges.specs.Listing.{PutsAListing, is_listing_kind, with_listings}
use Rattle.dir_ranges.proofs.Middle.{both_sides, filter_same, find_same, flat_same, in_middle}

-- ---- an item of a listing says nothing of anything else

and_false : (a b : Bool) → b ≡ false → (a && b) ≡ false
and_false true b none = none
and_false false b none = refl

asks_nothing : (kind : ℕ) → is_listing_kind kind ≡ true → asks_inode kind ≡ false
asks_nothing kind listing = elim (cases_Bool (nat_eq kind dir_log_index)) [
  | inl range ↦ ap asks_inode (eqb-true kind dir_log_index range)
  | inr other ↦ ap asks_inode (eqb-true kind dir_index (sym (ap (λ (b : Bool). b || nat_eq kind dir_index) other) ∙ listing))
]

module _ (new : Item) (is_listing : is_listing_kind new.0.kind ≡ true) where
  other_kind : (kind : ℕ) → is_listing_kind kind ≡ false → nat_eq new.0.kind kind ≡ false
  other_kind kind apart = false_from_ne_true (nat_eq new.0.kind kind) (λ same. true≢false (sym is_listing ∙ ap is_listing_kind (eqb-true new.0.kind kind same) ∙ apart))

  not_at : (ino kind : ℕ) → is_listing_kind kind ≡ false → is_at ino kind new ≡ false
  not_at ino kind apart = and_false (nat_eq new.0.objectid ino) (nat_eq new.0.kind kind) (other_kind kind apart)

  no_names : names_in_item new ≡ []
  no_names = rw (other_kind inode_ref refl, other_kind inode_extref refl) refl

  no_addresses : item_addresses new ≡ []
  no_addresses = rw (other_kind extent_data refl) refl

  module _ (front rest : List Item) where
    abbrev old : List Item
    old = front ++ rest

    abbrev all : List Item
    all = front ++ new ∷ rest

    inode_same : (ino : ℕ) → inode_in all ino ≡ inode_in old ino
    inode_same ino = ap value_of_item (find_same new (is_at ino inode_item) front rest (not_at ino inode_item refl))

    at_same : (ino kind : ℕ) → is_listing_kind kind ≡ false → filter (is_at ino kind) all ≡ filter (is_at ino kind) old
    at_same ino kind apart = filter_same new (is_at ino kind) front rest (not_at ino kind apart)

    names_same : names_in all ≡ names_in old
    names_same = flat_same new names_in_item front rest no_names

    addresses_same : data_addresses all ≡ data_addresses old
    addresses_same = flat_same new item_addresses front rest no_addresses

    whole_same : (blocks : Data) (ino : ℕ) (value : Option InodeValue) → whole_said all blocks ino value ≡ whole_said old blocks ino value
    whole_same blocks ino None = refl
    whole_same blocks ino (Some value) = rw (at_same ino xattr_item refl, at_same ino extent_data refl) refl

    existing_same : (ino : ℕ) (value : Option InodeValue) → existing_said all ino value ≡ existing_said old ino value
    existing_same ino None = refl
    existing_same ino (Some value) = rw (at_same ino extent_data refl) refl

    not_extent : (ino : ℕ) (item : Item) → new ≡ item → IsTrue (is_at ino extent_data item) → ⊥
    not_extent ino item same at = true≢false (sym at ∙ ap (is_at ino extent_data) (sym same) ∙ not_at ino extent_data refl)

    pub listing_put : (blocks : Data) (log : FlatLog) → AreItemsOfLog old blocks log → ItemsRise all → IsLogItem new.0 new.1 → AreItemsOfLog all blocks (with_listings all log)
    listing_put blocks log h rise is_item = record {
      rise = rise;
      only = λ key bytes c. elim (in_middle new front rest (key, bytes) c) [
        | inl same ↦ subst (λ (item : Item). IsLogItem item.0 item.1) same is_item
        | inr there ↦ h.only key bytes there
      ];
      has_inode = λ key bytes c asks. elim (in_middle new front rest (key, bytes) c) [
        | inl same ↦
            let kind : is_listing_kind key.kind ≡ true = ap (λ (item : Item). is_listing_kind item.0.kind) (sym same) ∙ is_listing in
            absurd (true≢false (sym asks ∙ asks_nothing key.kind kind))
        | inr there ↦ let said = h.has_inode key bytes there asks in (said.0, inode_same key.objectid ∙ said.1)
      ];
      extents = λ ino value is. subst (λ (l : List Item). HasItsExtents value (map extent_in_item l)) (sym (at_same ino extent_data refl)) (h.extents ino value (sym (inode_same ino) ∙ is));
      bare = λ ino value is bare. ap (λ (l : List Item). flat_map pairs_in_item l) (at_same ino xattr_item refl) ∙ h.bare ino value (sym (inode_same ino) ∙ is) bare;
      apart = λ ino one two c d at_one at_two. elim (in_middle new front rest one c) [
        | inl same ↦ absurd (not_extent ino one same at_one)
        | inr there ↦ elim (in_middle new front rest two d) [
          | inl same ↦ absurd (not_extent ino two same at_two)
          | inr here ↦ h.apart ino one two there here at_one at_two
        ]
      ];
      blocks_there = λ at c. h.blocks_there at (subst (λ (l : List ℕ). Contains l at) addresses_same c);
      once = λ dir. subst (λ (l : List FlatName). AreDistinct (filter (stands_in dir) l)) (sym names_same) (h.once dir);
      whole = λ ino. h.whole ino ∙ sym (whole_same blocks ino (inode_in old ino)) ∙ ap (whole_said all blocks ino) (sym (inode_same ino));
      existing = λ ino. h.existing ino ∙ sym (existing_same ino (inode_in old ino)) ∙ ap (existing_said all ino) (sym (inode_same ino));
      names = h.names ∙ ap name_set (sym names_same);
      ranges = refl;
      entries = refl;
    }

pub puts_a_listing : PutsAListing
puts_a_listing items blocks log key bytes listing is_item absent h =
    listing_put (key, bytes) listing (lower key items) (upper key items) blocks log
    (subst (λ (l : List Item). AreItemsOfLog l blocks log) (sym (both_sides key items h.rise absent)) h)
    (with_rise key bytes items h.rise) is_item
