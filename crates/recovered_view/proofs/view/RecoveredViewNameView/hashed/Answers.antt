use Rattle.std.proofs.Common.{IsPermutation, Vec, Global, map, subst}
use Rattle.std.specs.Result.{IfOk}
use Rattle.flat_model.specs.declared.view.NameAt.{NameAt}
use Rattle.flat_model.specs.Names.{hashed_of}
use Rattle.flat_model.specs.Unmarked.{unmarked}
use Rattle.flat_model.specs.Volume.{Subvolume}
use Rattle.recovered_view.proofs.view.RecoveredViewNameView.hashed.Goals as goal

pub returns : goal.returns
returns c = subst (λ (sub : Subvolume). IfOk c.names_after.result (λ (names : Vec NameAt Global). IsPermutation (map unmarked (hashed_of sub.names c.args.dir.0 c.args.hash)) names.items)) c.self.view_is c.names_after.ensures
