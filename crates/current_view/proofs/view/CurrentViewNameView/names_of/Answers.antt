use Rattle.std.proofs.Common.{map, subst}
use Rattle.std.specs.List.Sorted.{IsPermutation}
use Rattle.flat_model.specs.Names.{names_of}
use Rattle.flat_model.specs.Unmarked.{unmarked}
use Rattle.flat_model.specs.Volume.{Subvolume}
use Rattle.current_view.proofs.Results.{if_ok}
use Rattle.current_view.proofs.view.CurrentViewNameView.names_of.Goals as goal

pub returns : goal.returns
returns c = if_ok c.ref_names.result (λ names is. subst (λ (s : Subvolume). IsPermutation (map unmarked (names_of s.names c.args.ino.0)) names.items) c.self.view_is is) c.ref_names.ensures
