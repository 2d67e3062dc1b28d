use Rattle.std.proofs.Common.{◌≡◌, ℕ, [], ◌∷◌, ◌++◌, length, ap, ◌∙◌, arith}
use Rattle.std.specs.Ordering.{nat_cmp}
use Rattle.std.specs.FinMap.{from_entries, is_sorted}
use Rattle.flat_model.specs.Names.{is_name_set}
use Rattle.flat_sub.specs.View.{names_view}
use Rattle.flat_sub.proofs.Marks.{last_in, marked_none}
use Rattle.flat_sub.proofs.sub.FlatSub.bare.Goals as goal

pub returns-clause-kept : goal.returns-clause-kept
returns-clause-kept c =
    let none : (dir : ℕ) → last_in (from_entries c.new-4.result.items) dir ≡ 1 = λ dir. ap (λ es. last_in (from_entries es) dir) c.new-4.ensures.items ∙ marked_none dir in
    record {
      marked = omega (arith, ap length c.new-2.ensures.items, ap length c.new-3.ensures.items);
      in_order = λ i. is_name_set (names_view (c.new-2.ensures.items i) (c.new-3.ensures.items i));
      inodes_rise = ap (is_sorted nat_cmp) (c.in_ok-push.ensures.items ∙ ap (λ es. es ++ (256, c.new.result) ∷ []) c.new-inodes.ensures.items);
      indexes_rise = ap (is_sorted nat_cmp) c.new-4.ensures.items;
      covered = λ dir. omega (arith, none dir);
      least = omega arith;
      each_least = λ dir. omega (arith, none dir);
    }
