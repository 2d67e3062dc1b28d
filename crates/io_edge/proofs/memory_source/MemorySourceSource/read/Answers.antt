use Rattle.std.proofs.Common.{◌≡◌, ℕ, ◌+◌, ◌++◌, List, take, drop, sym, ap, ◌∙◌, arith}
use Rattle.std.proofs.lemmas.List.{take-append-drop, drop-drop}
use Rattle.std.proofs.lemmas.Grind.{common_steps}
use Rattle.io_edge.specs.Memory.{SourceState}
use Rattle.io_edge.proofs.memory_source.MemorySourceSource.read.Goals as goal

split : (xs ys : List ℕ) (at n : ℕ) → take n ys ≡ take n (drop at xs) → drop at xs ≡ take n ys ++ drop (at + n) xs
split xs ys at n same =
    sym (take-append-drop n (drop at xs)) ∙ ap (λ (rest : List ℕ). take n (drop at xs) ++ rest) (drop-drop n at xs) ∙ ap (λ (front : List ℕ). front ++ drop (at + n) xs) (sym same)

pub returns-clause-bytes : goal.returns-clause-bytes
returns-clause-bytes c =
    let n = c.copy_front-count.result in
    let front : take n c.copy_front-count.new.into ≡ take n (drop c.self.inside.at c.self.inside.bytes.items) = grind (arith, common_steps) in
    ap (λ (state : SourceState). state.left) (sym c.self.view_is) ∙ split c.self.inside.bytes.items c.copy_front-count.new.into c.self.inside.at n front
