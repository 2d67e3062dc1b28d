-- Each entry that is read off leaves fewer bytes, and the entries behind it.
use Rattle.std.proofs.Common.{◌≡◌, true, false, Bool, ◌||◌, List, ◌∷◌, sym, ap, ◌∙◌}
use Rattle.std.specs.List.{list_any}
use Rattle.std.specs.Str.{bytes_eq}
use Rattle.blk_base.specs.Entries.{EntryValue, entry_from, has_twice as twice_test}
use Rattle.item_laws.specs.Readers.{entry_from-shortening}
use Rattle.item_laws.specs.Walk.{read_off, unwrap-none}
use Rattle.item_dir.specs.Entries.{entries_in}
use Rattle.item_dir.specs.Entry.{first_entry_view}
use Rattle.item_dir.proofs.entries.has_twice.Goals as goal

twice-more : (entry : EntryValue) (entries others : List EntryValue) (found : Bool) → entries ≡ entry ∷ others → found ≡ list_any (λ other. bytes_eq other.name entry.name) others
    → twice_test entries ≡ (found || twice_test others)
twice-more entry entries others found e f = ap twice_test e ∙ ap (λ (b : Bool). b || twice_test others) (sym f)

pub invariant_of-has_name : goal.invariant_of-has_name
invariant_of-has_name c = (read_off entry_from entry_from-shortening _ _ _ (sym c.first_entry.ensures ∙ ap first_entry_view c.in-Some.is)).whole ∙ c.loop-entry.invariant.0

pub returns-then-has_name : goal.returns-then-has_name
unfolding entries_in
returns-then-has_name c =
    let first = (read_off entry_from entry_from-shortening _ _ _ (sym c.first_entry.ensures ∙ ap first_entry_view c.in-Some.is)).entries c.loop-entry.invariant.0 in
    sym (twice-more _ _ _ true first (sym c.if-has_name.true ∙ c.has_name.ensures)) ∙ c.loop-entry.invariant.1

pub loop-entry-smaller : goal.loop-entry-smaller
loop-entry-smaller c = (read_off entry_from entry_from-shortening _ _ _ (sym c.first_entry.ensures ∙ ap first_entry_view c.in-Some.is)).fewer

pub loop-entry-preserved : goal.loop-entry-preserved
unfolding entries_in
loop-entry-preserved c =
    let off = read_off entry_from entry_from-shortening _ _ _ (sym c.first_entry.ensures ∙ ap first_entry_view c.in-Some.is) in
    (off.whole ∙ c.loop-entry.invariant.0, sym (twice-more _ _ _ false (off.entries c.loop-entry.invariant.0) (sym c.if-has_name.false ∙ c.has_name.ensures)) ∙ c.loop-entry.invariant.1)

pub returns : goal.returns
unfolding entries_in
returns c =
    let none = unwrap-none entry_from entry_from-shortening _ (sym c.first_entry.ensures ∙ ap first_entry_view c.in_default.is) c.loop-entry.invariant.0 in
    sym (ap twice_test none) ∙ c.loop-entry.invariant.1
