-- The first faulty inode of no item, and of one.
use Rattle.std.proofs.Common.{◌≡◌, ◌<◌, ℕ, List, [], ◌∷◌, Some, refl, ap, ◌∙◌, arith, inl, inr}
use Rattle.blk_base.specs.declared.key.Key.{Key}
use Rattle.blk_base.specs.Leaf.{Item}
use Rattle.volume_image.specs.Subvolume.{Data, make_key}
use Rattle.volume_image.proofs.Lists.{in_nothing, in_cons}
use Rattle.volume_image.proofs.Reaches.{head_in}
use Rattle.image_faults.specs.Faulty.{IsThere}
use Rattle.image_faults.specs.Lowest.{first_faulty}
use Rattle.image_faults.proofs.Firsts.{no_fault_elsewhere, lowest_is_first}

-- the one item's number is the only one that is there
only_there : (key : Key) (bytes : List ℕ) (ino : ℕ) → IsThere ((key, bytes) ∷ []) ino → key.objectid ≡ ino
only_there key bytes ino (item, c, same) = elim (in_cons (key, bytes) item [] c) [
  | inl here ↦ ap (λ (o : Item). o.0.objectid) here ∙ same
  | inr none ↦ absurd (in_nothing item none)
]

pub of_nothing : (blocks : Data) → first_faulty [] blocks ≡ Some 256
of_nothing blocks = lowest_is_first [] blocks 256 (record {
  faulty = λ right. let item = right.root refl in in_nothing (make_key 256 1 0, item.0) item.1;
  lowest = λ other below. no_fault_elsewhere [] blocks other (λ there. in_nothing there.0 there.1) (λ same. omega arith);
})

pub of_one_above : (blocks : Data) (key : Key) (bytes : List ℕ) → 256 < key.objectid → first_faulty ((key, bytes) ∷ []) blocks ≡ Some 256
of_one_above blocks key bytes above = lowest_is_first ((key, bytes) ∷ []) blocks 256 (record {
  faulty = λ right. let item = right.root refl in let same = only_there key bytes 256 ((make_key 256 1 0, item.0), item.1, refl) in omega arith;
  lowest = λ other below. no_fault_elsewhere ((key, bytes) ∷ []) blocks other (λ there. let same = only_there key bytes other there in omega arith) (λ same. omega arith);
})

pub of_one_below : (blocks : Data) (key : Key) (bytes : List ℕ) → key.objectid < 256 → first_faulty ((key, bytes) ∷ []) blocks ≡ Some key.objectid
of_one_below blocks key bytes low = lowest_is_first ((key, bytes) ∷ []) blocks key.objectid (record {
  faulty = λ right. let number = right.number ((key, bytes), head_in (key, bytes) [], refl) in let least = number.0 in omega arith;
  lowest = λ other below. no_fault_elsewhere ((key, bytes) ∷ []) blocks other (λ there. let same = only_there key bytes other there in omega arith) (λ same. omega arith);
})
