use Rattle.std.proofs.Common.{rules, ◌≡◌, ◌<◌, ◌^◌, ◌∙◌, ℕ, List, Option, Some, None, ap, sym, subst, refl}
use Rattle.std.specs.Prelude.{IsSome}
use Rattle.blk_base.specs.declared.key.Key.{Key}
use Rattle.log_image.specs.LogItems.{ranges_in}
use Rattle.tree_frame.specs.Frame.{with_item}
use Rattle.tree_range.specs.Between.{data_under}
use Rattle.tree_range.specs.Shape.{tree_items}
use Rattle.dir_ranges.specs.Indexes.{low_behind}
use Rattle.dir_ranges.proofs.Listed.{AreListed, IsListing, data_there, entries_from, entries_to, goes_above, item_found, listing_begins, listing_ends, listing_puts, none_yet, room_for_entry}
use Rattle.dir_ranges.proofs.Ranged.{fewer_above, still_above}
use Rattle.dir_ranges.proofs.entries.write_entries.Goals as goal

pub loop-low-init : goal.loop-low-init
loop-low-init c = listing_begins c.args.dir.0 c.args.current.now c.args.table.now c.args.log.now c.requires.tree c.requires.standing c.requires.current c.requires.apart c.requires.bare

pub put_copy-requires-clause-present : goal.put_copy-requires-clause-present
put_copy-requires-clause-present c =
    let way : IsListing c.args.dir.0 c.args.current.now (Some c.in-Some.first) c.args.table.now c.args.log.now c.loop-low.table c.loop-low.log = subst (λ (o : Option ℕ). IsListing c.args.dir.0 c.args.current.now o c.args.table.now c.args.log.now c.loop-low.table c.loop-low.log) c.in-Some.is c.loop-low.invariant in
    subst (λ (key : Key). IsSome (data_under key (tree_items c.loop-low.table c.args.current.now))) (sym c.index_key-key.ensures)
    (subst (λ (o : Option (List ℕ)). IsSome o) (sym (data_there c.args.dir.0 c.args.current.now c.in-Some.first c.args.table.now c.args.log.now c.loop-low.table c.loop-low.log way c.next_covered-found.result c.next_covered-found.ensures c.in-Some-found.index c.in-Some-found.is)) refl)

pub put_copy-requires-clause-absent : goal.put_copy-requires-clause-absent
put_copy-requires-clause-absent c =
    let way : IsListing c.args.dir.0 c.args.current.now (Some c.in-Some.first) c.args.table.now c.args.log.now c.loop-low.table c.loop-low.log = subst (λ (o : Option ℕ). IsListing c.args.dir.0 c.args.current.now o c.args.table.now c.args.log.now c.loop-low.table c.loop-low.log) c.in-Some.is c.loop-low.invariant in
    ap (λ (key : Key). data_under key (tree_items c.loop-low.table c.loop-low.log)) c.index_key-key.ensures ∙ none_yet c.args.dir.0 c.args.current.now c.in-Some.first c.args.table.now c.args.log.now c.loop-low.table c.loop-low.log way c.next_covered-found.result c.next_covered-found.ensures c.in-Some-found.index c.in-Some-found.is

pub put_copy-requires-clause-room : goal.put_copy-requires-clause-room
put_copy-requires-clause-room c =
    let way : IsListing c.args.dir.0 c.args.current.now (Some c.in-Some.first) c.args.table.now c.args.log.now c.loop-low.table c.loop-low.log = subst (λ (o : Option ℕ). IsListing c.args.dir.0 c.args.current.now o c.args.table.now c.args.log.now c.loop-low.table c.loop-low.log) c.in-Some.is c.loop-low.invariant in
    room_for_entry c.args.dir.0 c.args.current.now c.in-Some.first c.args.table.now c.args.log.now c.loop-low.table c.loop-low.log way c.next_covered-found.result c.next_covered-found.ensures c.in-Some-found.index c.in-Some-found.is c.requires.room

pub loop-low-smaller-in-Some-found : goal.loop-low-smaller-in-Some-found
loop-low-smaller-in-Some-found c =
    let way : IsListing c.args.dir.0 c.args.current.now (Some c.in-Some.first) c.args.table.now c.args.log.now c.loop-low.table c.loop-low.log = subst (λ (o : Option ℕ). IsListing c.args.dir.0 c.args.current.now o c.args.table.now c.args.log.now c.loop-low.table c.loop-low.log) c.in-Some.is c.loop-low.invariant in
    let low : c.in-Some.first < 2 ^ 64 = search rules in
    subst (λ (o : Option ℕ). still_above o < still_above c.loop-low.low) (sym c.index_behind-low.ensures)
    (subst (λ (o : Option ℕ). still_above (low_behind c.next_covered-found.result) < still_above o) (sym c.in-Some.is) (fewer_above c.in-Some.first low (low_behind c.next_covered-found.result) (goes_above c.args.dir.0 c.args.current.now c.in-Some.first c.args.table.now c.args.log.now c.loop-low.table c.loop-low.log way c.next_covered-found.result c.next_covered-found.ensures c.in-Some-found.index c.in-Some-found.is)))

pub loop-low-preserved-in-Some-found : goal.loop-low-preserved-in-Some-found
loop-low-preserved-in-Some-found c =
    let way : IsListing c.args.dir.0 c.args.current.now (Some c.in-Some.first) c.args.table.now c.args.log.now c.loop-low.table c.loop-low.log = subst (λ (o : Option ℕ). IsListing c.args.dir.0 c.args.current.now o c.args.table.now c.args.log.now c.loop-low.table c.loop-low.log) c.in-Some.is c.loop-low.invariant in
    let bytes : List ℕ = (item_found c.args.dir.0 c.args.current.now c.in-Some.first c.args.table.now c.args.log.now c.loop-low.table c.loop-low.log way c.next_covered-found.result c.next_covered-found.ensures c.in-Some-found.index c.in-Some-found.is).0.1 in
    let there : data_under c.index_key-key.result (tree_items c.loop-low.table c.args.current.now) ≡ Some bytes =
    ap (λ (key : Key). data_under key (tree_items c.loop-low.table c.args.current.now)) c.index_key-key.ensures ∙ data_there c.args.dir.0 c.args.current.now c.in-Some.first c.args.table.now c.args.log.now c.loop-low.table c.loop-low.log way c.next_covered-found.result c.next_covered-found.ensures c.in-Some-found.index c.in-Some-found.is in
    subst (λ (o : Option ℕ). IsListing c.args.dir.0 c.args.current.now o c.args.table.now c.args.log.now c.put_copy.new.table c.put_copy.new.log) (sym c.index_behind-low.ensures)
    (listing_puts c.args.dir.0 c.args.current.now c.in-Some.first c.args.table.now c.args.log.now c.loop-low.table c.loop-low.log way c.next_covered-found.result c.next_covered-found.ensures c.in-Some-found.index c.in-Some-found.is c.put_copy.new.table c.put_copy.new.log
    (record {
      tree = c.put_copy.ensures.tree;
      items = c.put_copy.ensures.items bytes there ∙ ap (λ (key : Key). with_item key bytes (tree_items c.loop-low.table c.loop-low.log)) c.index_key-key.ensures;
      owner = c.put_copy.ensures.owner;
      edit = c.put_copy.ensures.edit;
      current = c.put_copy.ensures.current;
      blocks = c.put_copy.ensures.blocks;
      buffers = c.put_copy.ensures.buffers;
      sealed = c.put_copy.ensures.sealed;
    }))

pub loop-low-preserved : goal.loop-low-preserved
loop-low-preserved c =
    let way : IsListing c.args.dir.0 c.args.current.now (Some c.in-Some.first) c.args.table.now c.args.log.now c.loop-low.table c.loop-low.log = subst (λ (o : Option ℕ). IsListing c.args.dir.0 c.args.current.now o c.args.table.now c.args.log.now c.loop-low.table c.loop-low.log) c.in-Some.is c.loop-low.invariant in
    subst (λ (o : Option ℕ). IsListing c.args.dir.0 c.args.current.now o c.args.table.now c.args.log.now c.loop-low.table c.loop-low.log) (sym (c.index_behind-low.ensures ∙ ap low_behind c.in_default-found.is))
    (listing_ends c.args.dir.0 c.args.current.now c.in-Some.first c.args.table.now c.args.log.now c.loop-low.table c.loop-low.log way c.next_covered-found.result c.next_covered-found.ensures c.in_default-found.is)

pub returns-clause-entries : goal.returns-clause-entries
returns-clause-entries c = λ entry.
    let way : AreListed (ranges_in (tree_items c.args.table.now c.args.log.now)) (tree_items c.args.table.now c.args.current.now) c.args.dir.0 None (tree_items c.args.table.now c.args.log.now) (tree_items c.loop-low.table c.loop-low.log) =
    subst (λ (o : Option ℕ). AreListed (ranges_in (tree_items c.args.table.now c.args.log.now)) (tree_items c.args.table.now c.args.current.now) c.args.dir.0 o (tree_items c.args.table.now c.args.log.now) (tree_items c.loop-low.table c.loop-low.log)) c.in_default.is c.loop-low.invariant.way in (
      entries_to (ranges_in (tree_items c.args.table.now c.args.log.now)) (tree_items c.args.table.now c.args.current.now) c.args.dir.0 (tree_items c.args.table.now c.args.log.now) (tree_items c.loop-low.table c.loop-low.log) way entry,
      entries_from (ranges_in (tree_items c.args.table.now c.args.log.now)) (tree_items c.args.table.now c.args.current.now) c.args.dir.0 (tree_items c.args.table.now c.args.log.now) (tree_items c.loop-low.table c.loop-low.log) way entry,
    )

pub returns-clause-log : goal.returns-clause-log
returns-clause-log c = λ blocks flat each h. c.loop-low.invariant.way.log each blocks flat h

pub returns-clause-keys : goal.returns-clause-keys
returns-clause-keys c = c.loop-low.invariant.way.keys (search rules)
