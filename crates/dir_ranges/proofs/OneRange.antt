-- The items of a log with that of a range put in are those of the log with the range.
use Rattle.std.proofs.Common.{◌≡◌, ◌<◌, ◌^◌, ◌∙◌, List, [], ◌∷◌, None, ℕ, refl, sym, ap, subst, arith}
use Rattle.blk_base.specs.Leaf.{Item}
use Rattle.blk_base.specs.Trees.{ItemsRise}
use Rattle.format_laws.specs.Items.{IsRange-from_read, range_reads_back}
use Rattle.cow_tree.proofs.Items.{lower, upper}
use Rattle.logged_volume.specs.FlatLog.{LogEntry, LogRange}
use Rattle.tree_range.specs.Between.{data_under}
use Rattle.log_image.specs.LogItems.{AreItemsOfLog, IsLogItem, read_or, ranges_in_item, ranges_in, entries_in_item, entries_in}
use Rattle.dir_ranges.specs.Ranges.{PutsARange, range_bytes, range_key, with_range}
use Rattle.dir_ranges.proofs.Middle.{both_sides, flat_same}
use Rattle.dir_ranges.proofs.OneListing.{puts_a_listing}

-- ---- the item of a range

abbrev pub item_of : LogRange → Item
item_of range = (range_key range, range_bytes range)

pub is_log_item : (range : LogRange) → range.last < 2 ^ 64 → IsLogItem (range_key range) (range_bytes range)
is_log_item range fits = record {
  kind = refl;
  spelled = record {
    inode = λ e. absurd (omega (arith, e));
    refs = λ e. absurd (omega (arith, e));
    extrefs = λ e. absurd (omega (arith, e));
    entries = λ e. absurd (omega (arith, e));
    extent = λ e. absurd (omega (arith, e));
    range = λ e. (range.last, IsRange-from_read (range_bytes range) range.last (range_reads_back range.last fits));
  };
  its_key = record {
    inode = λ e. absurd (omega (arith, e));
    extrefs = λ e. absurd (omega (arith, e));
    hashed = λ e. absurd (omega (arith, e));
    indexed = λ e. absurd (omega (arith, e));
    attributes = λ e. absurd (omega (arith, e));
  };
}

pub says_range : (range : LogRange) → range.last < 2 ^ 64 → ranges_in_item (item_of range) ≡ range ∷ []
says_range range fits = ap (λ (last : ℕ). record { dir = range.dir; first = range.first; last = last } ∷ []) (ap (read_or 0) (range_reads_back range.last fits))

-- it says no entry
no_entry : (range : LogRange) (items : List Item) → ItemsRise items → data_under (range_key range) items ≡ None → entries_in (with_range range items) ≡ entries_in items
no_entry range items rise absent =
    flat_same (item_of range) entries_in_item (lower (range_key range) items) (upper (range_key range) items) refl
    ∙ ap entries_in (both_sides (range_key range) items rise absent)

pub puts_a_range : PutsARange
puts_a_range items blocks log range fits absent h =
    subst (λ (entries : List LogEntry). AreItemsOfLog (with_range range items) blocks (record log { ranges = ranges_in (with_range range items); entries = entries }))
    (no_entry range items h.rise absent ∙ sym h.entries)
    (puts_a_listing items blocks log (range_key range) (range_bytes range) refl (is_log_item range fits) absent h)
