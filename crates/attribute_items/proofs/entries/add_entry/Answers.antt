use Rattle.std.proofs.Common.{◌≡◌, ◌+◌, ◌-◌, ◌++◌, ℕ, List, length, take, ap, ◌∙◌, arith}
use Rattle.std.proofs.lemmas.Slice.{take-put_mid}
use Rattle.attribute_items.proofs.entries.add_entry.Goals as goal

pub returns-clause-bytes : goal.returns-clause-bytes
returns-clause-bytes c =
    let into = c.args.into.now in
    let at = c.args.at in
    let n = c.args.at + 30 + length c.args.entry.now.name.now + length c.args.entry.now.value.now in
    let written : List ℕ = c.put_entry.new.into in
    let size : n ≡ at + length written = omega (arith, c.put_entry.auto.into, c.requires) in
    take-put_mid at (n - at) into written n size (omega (arith, c.requires)) ∙ ap (λ (l : List ℕ). take at into ++ l) c.put_entry.ensures
