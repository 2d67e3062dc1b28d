use Rattle.std.proofs.Common.{◌≡◌, ℕ, ◌+◌, ◌<◌, ◌++◌, ◌∷◌, [], List, replicate, ap, subst, sym, ◌∙◌, arith}
use Rattle.std.proofs.lemmas.List.{replicate-append-replicate, length-replicate}
use Rattle.std.proofs.lemmas.List.Elements.{All-replicate}
use Rattle.disk_model.specs.Disk.{IsBlock, IsImage}
use Rattle.disk_memory.proofs.blocks.Blocks.zeros.Goals as goal

replicate_push : {A : Type 0} (n : ℕ) (x : A) (xs ys : List A) → xs ≡ replicate n x → ys ≡ xs ++ x ∷ [] → ys ≡ replicate (n + 1) x
replicate_push n x xs ys all more =
    more ∙ ap (λ (zs : List _). zs ++ x ∷ []) all ∙ replicate-append-replicate n 1 x

IsBlock-zeros : IsBlock (replicate 4096 0)
IsBlock-zeros = record { size = length-replicate {A = ℕ} 4096 0; range = All-replicate (λ byte. byte < 256) 4096 0 (omega arith) }

pub loop-index-preserved : goal.loop-index-preserved
loop-index-preserved c = (
  replicate_push c.loop-index.index (replicate 4096 0) c.loop-index.items.items c.push_reserved.new.self.items c.loop-index.invariant.0 c.push_reserved.ensures.items,
  omega arith,
)

pub invariant_of-result : goal.invariant_of-result
invariant_of-result c = record {
  are_blocks = subst IsImage (sym c.loop-index.invariant.0) (All-replicate IsBlock c.loop-index.index (replicate 4096 0) IsBlock-zeros);
}
