-- Lists of blocks that are handed out to be written.
use Rattle.std.specs.Prelude.{◌++◌, ◌∷◌, ℕ, List, [], map}
use Rattle.std.specs.declared.boxed.Box.{Box}
use Rattle.blk_base.specs.declared.key.Addr.{Addr}
use Rattle.blk_base.specs.Trees.{AtBlock}

-- the blocks in order, and how many the list has room for (own)
pub record BlockList : Type 0 where
  pub pairs : List AtBlock
  pub room : ℕ

abbrev pub pairs_of : {A : Type 0} → List (Addr × Box (List ℕ) A) → List AtBlock
pairs_of items = map (λ item. (item.0, item.1.value)) items

-- the list with one more block at its end (own)
abbrev pub with_block : BlockList → Addr → List ℕ → BlockList
with_block blocks at bytes = record { pairs = blocks.pairs ++ (at, bytes) ∷ []; room = blocks.room }
