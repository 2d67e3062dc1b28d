use Rattle.std.proofs.Common.{ℕ, List, ◌/◌, ◌%◌, set, ap, ◌∙◌}
use Rattle.std.specs.FinMap.{from_entries}
use Rattle.flat_model.specs.Contents.{cut_block}
use Rattle.flat_record.proofs.Files.{map_cut, map_uncut, key_at, no_place, rising_set}
use Rattle.flat_record.proofs.blocks.cut_block_at.Goals as goal

pub returns-in-Some-clause-map : goal.returns-in-Some-clause-map
returns-in-Some-clause-map c =
    let es = c.args.blocks.now.items in
    let lent = c.index_mut-entry.result.now in
    let number = c.args.size / 4096 in
    let n = c.args.size % 4096 in
    let key = ap (λ (e : ℕ × List ℕ). e.0) c.index_mut-entry.ensures.value ∙ key_at number es c.in-Some.at lent c.in-Some.ensures in
    let bytes = c.cut.ensures ∙ ap (λ (e : ℕ × List ℕ). cut_block e.1 n) c.index_mut-entry.ensures.value in
    ap from_entries (λ i. set es c.in-Some.at (key i, bytes i)) ∙ map_cut es number n c.in-Some.at lent c.in-Some.ensures

pub returns-in-Some-clause-rising : goal.returns-in-Some-clause-rising
returns-in-Some-clause-rising c = λ rise. rising_set c.args.blocks.now.items c.in-Some.at c.index_mut-entry.result.now c.cut.new.self c.index_mut-entry.ensures.value ∙ rise

pub returns-in_default-clause-map : goal.returns-in_default-clause-map
returns-in_default-clause-map c = map_uncut c.args.blocks.now.items (c.args.size / 4096) (c.args.size % 4096) (no_place c.place_of.result c.in_default.not-Some ∙ c.place_of.ensures)
