use Rattle.std.proofs.Common.{◌≡◌, ℕ, List, ◌-◌, length, get_or, ap, ◌∙◌, subst}
use Rattle.std.specs.Result.{IfOk}
use Rattle.flat_sub.specs.Lists.{last_of}
use Rattle.flat_sub.proofs.Walks.{last_read}
use Rattle.flat_sub.proofs.making.last_name.Goals as goal

pub returns : goal.returns
returns c =
    let path : List (List ℕ) = c.args.path.now in
    let last : List ℕ = c.index-names-names.result in
    let is : last ≡ last_of path = last_read path last c.requires (c.index-names-names.is ∙ ap (λ (l : List (List ℕ)). get_or l (length l - 1) last) c.names-names.ensures.value) in
    subst (λ l. IfOk c.copy.result (λ name. name ≡ l)) is c.copy.ensures
