-- A listing is made exactly where the disk has a foreign volume, and it is that volume's.
use Rattle.std.proofs.Common.{◌≡◌, ◌↔◌, ℕ, List, [], ◌∷◌, Ok, refl, sym, ap, subst, ◌∙◌}
use Rattle.blk_base.specs.Bytes.{Image}
use Rattle.format_laws.specs.Checks.{same_ok}
use Rattle.foreign_format.specs.declared.superblock.Superblock.{Superblock}
use Rattle.foreign_format.specs.Answer.{then_ok}
use Rattle.foreign_items.specs.Rows.{AreItems, ItemsValue, items_of}
use Rattle.foreign_tree.specs.Tree.{VolumeValue, disk_bytes}
use Rattle.foreign_tree.proofs.Trees.{and_then_ok}
use Rattle.foreign_volume.specs.declared.roots.Subvolume.{Subvolume}
use Rattle.foreign_volume.specs.Opened.{IsOpened, OpenedValue, opened_of}
use Rattle.foreign_volume.specs.Roots.{AreSubvolumes, subvolumes_of}
use Rattle.foreign_listing.specs.Foreign.{AreListed, IsForeign, with_lines}
use Rattle.foreign_listing.specs.Listing.{listing_of, nothing_listed, sub_listed, subs_listed, tree_in, with_done, with_head}
use Rattle.foreign_listing.specs.Walk.{Listed, tree_listed}
use Rattle.foreign_listing.proofs.Forest.{shown_is_listed, tree_is_shown}
use Rattle.foreign_listing.proofs.Subvolumes.{subs_end, subs_here}

-- that there are rows exactly where a subvolume has a tree
abbrev ItemsLaw : Type 0
ItemsLaw = (disk : List ℕ) (volume : VolumeValue) (sub : Subvolume) (rows : ItemsValue) → (items_of disk volume sub ≡ Ok rows) ↔ AreItems disk volume sub rows

sub_parts : (volume : VolumeValue) (disk : List ℕ) (sub : Subvolume) (before after : Listed) → sub_listed volume disk sub before ≡ Ok after
    → (items : ItemsValue) × (items_of disk volume sub ≡ Ok items) × (tree_listed volume disk (tree_in sub.id items) items.names (with_head sub.id before) ≡ Ok after)
unfolding sub_listed
sub_parts volume disk sub before after h = and_then_ok (items_of disk volume sub) (λ items. tree_listed volume disk (tree_in sub.id items) items.names (with_head sub.id before)) after h

sub_whole : (volume : VolumeValue) (disk : List ℕ) (sub : Subvolume) (before after : Listed) (items : ItemsValue) → items_of disk volume sub ≡ Ok items
    → tree_listed volume disk (tree_in sub.id items) items.names (with_head sub.id before) ≡ Ok after → sub_listed volume disk sub before ≡ Ok after
unfolding sub_listed
sub_whole volume disk sub before after items is h = then_ok (items_of disk volume sub) (λ items. tree_listed volume disk (tree_in sub.id items) items.names (with_head sub.id before)) items is ∙ h

subs_forward : ItemsLaw → (volume : VolumeValue) (disk : List ℕ) (subs : List Subvolume) (before after : Listed) → subs_listed volume disk subs before ≡ Ok after → AreListed volume disk subs before after
subs_forward law volume disk [] before after h = same_ok (sym (subs_end volume disk [] before refl) ∙ h)
subs_forward law volume disk (sub ∷ subs) before after h =
    let (mid, one, rest) = and_then_ok (sub_listed volume disk sub before) (subs_listed volume disk subs) after (sym (subs_here volume disk sub subs before) ∙ h) in
    let (items, are, tree) = sub_parts volume disk sub before mid one in
    let (lines, shown, same) = tree_is_shown volume disk (tree_in sub.id items) items.names (with_head sub.id before) mid tree in
    (items, lines, (law disk volume sub items).0 are, shown, subst (λ (listed : Listed). AreListed volume disk subs listed after) (sym same) (subs_forward law volume disk subs mid after rest))

subs_back : ItemsLaw → (volume : VolumeValue) (disk : List ℕ) (subs : List Subvolume) (before after : Listed) → AreListed volume disk subs before after → subs_listed volume disk subs before ≡ Ok after
subs_back law volume disk [] before after same = subs_end volume disk [] before refl ∙ ap Ok same
subs_back law volume disk (sub ∷ subs) before after (items, lines, are, shown, rest) =
    let mid = with_lines (with_head sub.id before) lines in
    subs_here volume disk sub subs before
    ∙ then_ok (sub_listed volume disk sub before) (subs_listed volume disk subs) mid
    (sub_whole volume disk sub before mid items ((law disk volume sub items).1 are) (shown_is_listed volume disk (tree_in sub.id items) items.names (with_head sub.id before) lines shown))
    ∙ subs_back law volume disk subs mid after rest

pub volume_is_listed_lem : ((blocks : ℕ) (image : Image) (opened : OpenedValue) → (opened_of blocks image ≡ Ok opened) ↔ IsOpened blocks image opened)
    → ((disk : List ℕ) (volume : VolumeValue) (superblock : Superblock) (subs : List Subvolume) → (subvolumes_of disk volume superblock ≡ Ok subs) ↔ AreSubvolumes disk volume superblock subs)
    → ItemsLaw → (blocks : ℕ) (image : Image) (text : List ℕ) → (listing_of blocks image ≡ Ok text) ↔ IsForeign blocks image text
unfolding listing_of
volume_is_listed_lem opens roots law blocks image text = (
  (λ h.
      let (opened, is, more) = and_then_ok (opened_of blocks image) _ text h in
      let (subs, has, rest) = and_then_ok (subvolumes_of (disk_bytes image) opened.volume opened.superblock) _ text more in
      let (listed, lists, whole) = and_then_ok (subs_listed opened.volume (disk_bytes image) subs nothing_listed) (λ listed. Ok (with_done listed)) text rest in
      record {
        opened = opened;
        opens = (opens blocks image opened).0 is;
        subs = subs;
        has_subs = (roots (disk_bytes image) opened.volume opened.superblock subs).0 has;
        listed = listed;
        lists = subs_forward law opened.volume (disk_bytes image) subs nothing_listed listed lists;
        whole = sym (same_ok whole);
      }),
  λ is.
      then_ok (opened_of blocks image) _ is.opened ((opens blocks image is.opened).1 is.opens)
      ∙ then_ok (subvolumes_of (disk_bytes image) is.opened.volume is.opened.superblock) _ is.subs ((roots (disk_bytes image) is.opened.volume is.opened.superblock is.subs).1 is.has_subs)
      ∙ then_ok (subs_listed is.opened.volume (disk_bytes image) is.subs nothing_listed) (λ listed. Ok (with_done listed)) is.listed (subs_back law is.opened.volume (disk_bytes image) is.subs nothing_listed is.listed is.lists)
      ∙ ap Ok (sym is.whole),
)
