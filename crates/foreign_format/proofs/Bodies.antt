-- What the checks of a body say of its counts and bounds.
use Rattle.std.proofs.Common.{◌≡◌, ◌≤◌, ◌<◌, ◌+◌, ◌-◌, ◌*◌, ◌/◌, ℕ, Bool, true, false, ◌||◌, not, leb, ltb, List, map, length, refl, arith, Result, Ok, Err, if◌then◌else◌, nat_lt}
use Rattle.std.proofs.lemmas.Bool.{and_parts, leb-true, ltb-false, or_parts}
use Rattle.std.specs.Prelude.{◌==◌}
use Rattle.std.specs.List.{list_all}
use Rattle.blk_base.specs.declared.fault.BlockFault.{BlockFault}
use Rattle.blk_base.specs.declared.fault.BlockFault.TheVariants.{Count, Order, Bounds, Overlap}
use Rattle.blk_base.specs.Keys.{key_at, keys_rise}
use Rattle.blk_base.specs.Leaf.{apart_before, below, count_of, item_end, item_key, item_offset}
use Rattle.foreign_format.specs.Block.{in_bounds, leaf_body, node_body}
use Rattle.foreign_format.proofs.Below.{each_below}

chain : Bool → Bool → Bool → Bool → Result (Unit {0}) BlockFault
chain a b c d = if a then Err Count else if not b then Err Order else if not c then Err Bounds else if not d then Err Overlap else Ok tt

chain_ok : (a b c d : Bool) → chain a b c d ≡ Ok tt → (a ≡ false) × (c ≡ true)
unfolding chain
chain_ok true b c d h = absurd cc
chain_ok false false c d h = absurd cc
chain_ok false true false d h = absurd cc
chain_ok false true true d h = (refl, refl)

-- a leaf that passes has no more items than room for their headers, and their data lie inside it
pub record LeafFits (bytes : List ℕ) : Type 0 where
  pub count : count_of bytes ≤ (length bytes - 101) / 25
  pub inside : (i : ℕ) → i < count_of bytes → 101 + item_end bytes i ≤ length bytes

pub leaf_fits : (bytes : List ℕ) → leaf_body bytes ≡ Ok tt → LeafFits bytes
unfolding leaf_body chain
leaf_fits bytes h =
    let parts = chain_ok (nat_lt ((length bytes - 101) / 25) (count_of bytes)) (keys_rise (map (item_key bytes) (below (count_of bytes)))) (list_all (in_bounds bytes) (below (count_of bytes))) (list_all (apart_before bytes) (below (count_of bytes))) h in
    record {
      count = ltb-false ((length bytes - 101) / 25) (count_of bytes) parts.0;
      inside = λ i within.
          let both = and_parts (leb (25 * count_of bytes) (item_offset bytes i)) (leb (101 + item_end bytes i) (length bytes)) (each_below (in_bounds bytes) (count_of bytes) parts.1 i within) in
          leb-true (101 + item_end bytes i) (length bytes) both.1;
    }

node_chain : Bool → Bool → Result (Unit {0}) BlockFault
node_chain a b = if a then Err Count else if not b then Err Order else Ok tt

node_chain_ok : (a b : Bool) → node_chain a b ≡ Ok tt → a ≡ false
unfolding node_chain
node_chain_ok true b h = absurd cc
node_chain_ok false b h = refl

-- a node that passes has no more pointers than room for them
pub node_fits : (bytes : List ℕ) → node_body bytes ≡ Ok tt → count_of bytes ≤ (length bytes - 101) / 33
unfolding node_body node_chain
node_fits bytes h =
    let some = node_chain_ok ((count_of bytes == 0) || nat_lt ((length bytes - 101) / 33) (count_of bytes)) (keys_rise (map (λ i. key_at bytes (101 + 33 * i)) (below (count_of bytes)))) h in
    let parts = or_parts (count_of bytes == 0) (ltb ((length bytes - 101) / 33) (count_of bytes)) some in
    ltb-false ((length bytes - 101) / 33) (count_of bytes) parts.1
