-- How many leaves, nodes and blocks stand below a block.
use Rattle.std.proofs.Common.{◌≡◌, ◌≤◌, ◌+◌, ◌*◌, ◌/◌, ◌^◌, ◌∙◌, ℕ, zero, suc, Bool, true, false, List, [], ◌∷◌, length, refl, ap, arith, length-append}
use Rattle.std.proofs.Math.Nat.{pow-suc, mul-le-mul_right}
use Rattle.std.specs.Prelude.{All}
use Rattle.std.specs.List.{flat_map, sum_by}
use Rattle.std.proofs.lemmas.List.Elements.{All-head, All-tail, All-weaker}
use Rattle.std.proofs.lemmas.List.Sums.{sum_by-cons}
use Rattle.blk_base.specs.Leaf.{Pointer, node_body_of}
use Rattle.block_table.specs.Table.{Table}
use Rattle.block_table.specs.TreeIn.{block_at}
use Rattle.tree_range.specs.Shape.{AreAlike, IsSubtree, listed, items_below, reach_below, node_pointers}
use Rattle.tree_range.proofs.Law.{Child}
use Rattle.tree_frame.specs.Frame.{AreReadable, leaves_below, nodes_below}
use Rattle.tree_frame.proofs.Reading.{IsReadable, all_parts}

-- ---- sums

sum_same : {X : Type 0} (f g : X → ℕ) (xs : List X) → All (λ x. f x ≡ g x) xs → sum_by f xs ≡ sum_by g xs
sum_same f g [] h = refl
sum_same f g (x ∷ xs) h =
    omega (arith, sum_by-cons f x xs, sum_by-cons g x xs, All-head (λ y. f y ≡ g y) x xs h, sum_same f g xs (All-tail (λ y. f y ≡ g y) x xs h))

sum_least : {X : Type 0} (least : ℕ) (f : X → ℕ) (xs : List X) → All (λ x. least ≤ f x) xs → length xs * least ≤ sum_by f xs
sum_least least f [] h = omega arith
sum_least least f (x ∷ xs) h =
    omega (arith, sum_by-cons f x xs, All-head (λ y. least ≤ f y) x xs h, sum_least least f xs (All-tail (λ y. least ≤ f y) x xs h))

-- each has 29 times as many of the one as of the other, and one more
sum_few : {X : Type 0} (f g : X → ℕ) (xs : List X) → All (λ x. 29 * g x + 1 ≤ f x) xs → length xs + 29 * sum_by g xs ≤ sum_by f xs
sum_few f g [] h = omega arith
sum_few f g (x ∷ xs) h =
    omega (arith, sum_by-cons f x xs, sum_by-cons g x xs, All-head (λ y. 29 * g y + 1 ≤ f y) x xs h, sum_few f g xs (All-tail (λ y. 29 * g y + 1 ≤ f y) x xs h))

length_both : {X A : Type 0} (part : X → List A) (f g : X → ℕ) (xs : List X) → ((x : X) → length (part x) ≡ f x + g x) → length (flat_map part xs) ≡ sum_by f xs + sum_by g xs
length_both part f g [] h = refl
length_both part f g (x ∷ xs) h =
    omega (arith, length-append (part x) (flat_map part xs), sum_by-cons f x xs, sum_by-cons g x xs, h x, length_both part f g xs h)

length_most : {X A : Type 0} (part : X → List A) (f : X → ℕ) (xs : List X) → All (λ x. f x ≤ length (part x)) xs → sum_by f xs ≤ length (flat_map part xs)
length_most part f [] h = omega arith
length_most part f (x ∷ xs) h =
    omega (arith, length-append (part x) (flat_map part xs), sum_by-cons f x xs, All-head (λ y. f y ≤ length (part y)) x xs h, length_most part f xs (All-tail (λ y. f y ≤ length (part y)) x xs h))

-- ---- the numbers depend on the bytes of the blocks alone

abbrev pub HaveSameBytes : Table → Table → List ℕ → Type 0
HaveSameBytes old new reach = All (λ (at : ℕ). (block_at new at).bytes ≡ (block_at old at).bytes) reach

pointers_by_bytes : (old new : Table) (at : ℕ) → (block_at new at).bytes ≡ (block_at old at).bytes → node_pointers new at ≡ node_pointers old at
unfolding node_pointers
pointers_by_bytes old new at same = ap (λ (bytes : List ℕ). listed (node_body_of bytes)) same

pub record IsCountedAlike (level : ℕ) (old new : Table) (at : ℕ) : Type 0 where
  pub leaves : leaves_below level new at ≡ leaves_below level old at
  pub nodes : nodes_below level new at ≡ nodes_below level old at

pub counted_by_bytes : (level : ℕ) (old new : Table) (at : ℕ) → HaveSameBytes old new (reach_below level old at) → IsCountedAlike level old new at
counted_by_bytes zero old new at h = record { leaves = refl; nodes = refl }
counted_by_bytes (suc level) old new at h =
    let P : ℕ → Type 0 = λ (place : ℕ). (block_at new place).bytes ≡ (block_at old place).bytes in
    let pointers = node_pointers old at in
    let behind = flat_map (λ pointer. reach_below level old pointer.at) pointers in
    let same = pointers_by_bytes old new at (All-head P at behind h) in
    let parts : All (λ (pointer : Pointer). All P (reach_below level old pointer.at)) pointers = all_parts P (λ (pointer : Pointer). reach_below level old pointer.at) pointers (All-tail P at behind h) in
    let each : All (λ (pointer : Pointer). IsCountedAlike level old new pointer.at) pointers = All-weaker (λ (pointer : Pointer). All P (reach_below level old pointer.at)) (λ (pointer : Pointer). IsCountedAlike level old new pointer.at) (λ pointer k. counted_by_bytes level old new pointer.at k) pointers parts in
    record {
      leaves = ap (sum_by (λ (pointer : Pointer). leaves_below level new pointer.at)) same ∙ sum_same (λ (pointer : Pointer). leaves_below level new pointer.at) (λ (pointer : Pointer). leaves_below level old pointer.at) pointers (All-weaker (λ (pointer : Pointer). IsCountedAlike level old new pointer.at) (λ (pointer : Pointer). leaves_below level new pointer.at ≡ leaves_below level old pointer.at) (λ pointer k. k.leaves) pointers each);
      nodes = ap (λ (n : ℕ). 1 + n) (ap (sum_by (λ (pointer : Pointer). nodes_below level new pointer.at)) same ∙ sum_same (λ (pointer : Pointer). nodes_below level new pointer.at) (λ (pointer : Pointer). nodes_below level old pointer.at) pointers (All-weaker (λ (pointer : Pointer). IsCountedAlike level old new pointer.at) (λ (pointer : Pointer). nodes_below level new pointer.at ≡ nodes_below level old pointer.at) (λ pointer k. k.nodes) pointers each));
    }

pub counted_alike : (level : ℕ) (old new : Table) (at : ℕ) → AreAlike old new (reach_below level old at) → IsCountedAlike level old new at
counted_alike level old new at h =
    counted_by_bytes level old new at (All-weaker (λ (place : ℕ). block_at new place ≡ block_at old place) (λ (place : ℕ). (block_at new place).bytes ≡ (block_at old place).bytes) (λ place same. ap (λ slot. slot.bytes) same) (reach_below level old at) h)

pub counted_readable : (level : ℕ) (old new : Table) (at : ℕ) → AreReadable old new (reach_below level old at) → IsCountedAlike level old new at
counted_readable level old new at h =
    counted_by_bytes level old new at (All-weaker (IsReadable old new) (λ (place : ℕ). (block_at new place).bytes ≡ (block_at old place).bytes) (λ place read. read.1) (reach_below level old at) h)

-- ---- one number against another

-- every block is a leaf or a node
pub blocks_are_leaves_and_nodes : (level : ℕ) (table : Table) (at : ℕ) → length (reach_below level table at) ≡ leaves_below level table at + nodes_below level table at
blocks_are_leaves_and_nodes zero table at = refl
blocks_are_leaves_and_nodes (suc level) table at =
    omega (arith, length_both (λ (pointer : Pointer). reach_below level table pointer.at) (λ (pointer : Pointer). leaves_below level table pointer.at) (λ (pointer : Pointer). nodes_below level table pointer.at) (node_pointers table at) (λ pointer. blocks_are_leaves_and_nodes level table pointer.at))

-- below a block that is no root: each node has 30 pointers at least
pub few_nodes : (level : ℕ) (table : Table) (at : ℕ) → IsSubtree level table false at → 29 * nodes_below level table at + 1 ≤ leaves_below level table at
few_nodes zero table at h = omega arith
few_nodes (suc level) table at h =
    let few = sum_few (λ (pointer : Pointer). leaves_below level table pointer.at) (λ (pointer : Pointer). nodes_below level table pointer.at) (node_pointers table at) (All-weaker (Child level table) (λ (pointer : Pointer). 29 * nodes_below level table pointer.at + 1 ≤ leaves_below level table pointer.at) (λ pointer k. few_nodes level table pointer.at k.0) (node_pointers table at) h.3) in
    omega (arith, few, h.2)

pub few_nodes_in_tree : (level : ℕ) (table : Table) (at : ℕ) → IsSubtree level table true at → nodes_below level table at ≤ leaves_below level table at / 29 + 1
few_nodes_in_tree zero table at h = omega arith
few_nodes_in_tree (suc level) table at h =
    let few = sum_few (λ (pointer : Pointer). leaves_below level table pointer.at) (λ (pointer : Pointer). nodes_below level table pointer.at) (node_pointers table at) (All-weaker (Child level table) (λ (pointer : Pointer). 29 * nodes_below level table pointer.at + 1 ≤ leaves_below level table pointer.at) (λ pointer k. few_nodes level table pointer.at k.0) (node_pointers table at) h.3) in
    omega (arith, few)

-- each leaf that is no root has an item at least
pub few_leaves : (level : ℕ) (table : Table) (at : ℕ) → IsSubtree level table false at → leaves_below level table at ≤ length (items_below level table at)
few_leaves zero table at h = h.2
few_leaves (suc level) table at h =
    length_most (λ (pointer : Pointer). items_below level table pointer.at) (λ (pointer : Pointer). leaves_below level table pointer.at) (node_pointers table at) (All-weaker (Child level table) (λ (pointer : Pointer). leaves_below level table pointer.at ≤ length (items_below level table pointer.at)) (λ pointer k. few_leaves level table pointer.at k.0) (node_pointers table at) h.3)

pub few_blocks_in_tree : (level : ℕ) (table : Table) (at : ℕ) → IsSubtree level table true at → length (reach_below level table at) ≤ 2 * length (items_below level table at) + 1
few_blocks_in_tree zero table at h = omega arith
few_blocks_in_tree (suc level) table at h =
    let few = sum_few (λ (pointer : Pointer). leaves_below level table pointer.at) (λ (pointer : Pointer). nodes_below level table pointer.at) (node_pointers table at) (All-weaker (Child level table) (λ (pointer : Pointer). 29 * nodes_below level table pointer.at + 1 ≤ leaves_below level table pointer.at) (λ pointer k. few_nodes level table pointer.at k.0) (node_pointers table at) h.3) in
    let leaves = length_most (λ (pointer : Pointer). items_below level table pointer.at) (λ (pointer : Pointer). leaves_below level table pointer.at) (node_pointers table at) (All-weaker (Child level table) (λ (pointer : Pointer). leaves_below level table pointer.at ≤ length (items_below level table pointer.at)) (λ pointer k. few_leaves level table pointer.at k.0) (node_pointers table at) h.3) in
    omega (arith, few, leaves, h.2, blocks_are_leaves_and_nodes (suc level) table at)

-- a tall tree is wide
pub many_leaves : (level : ℕ) (table : Table) (at : ℕ) → IsSubtree level table false at → 30 ^ level ≤ leaves_below level table at
many_leaves zero table at h = omega arith
many_leaves (suc level) table at h =
    let many = sum_least (30 ^ level) (λ (pointer : Pointer). leaves_below level table pointer.at) (node_pointers table at) (All-weaker (Child level table) (λ (pointer : Pointer). 30 ^ level ≤ leaves_below level table pointer.at) (λ pointer k. many_leaves level table pointer.at k.0) (node_pointers table at) h.3) in
    let whole : 30 * 30 ^ level ≤ length (node_pointers table at) * 30 ^ level = mul-le-mul_right (30 ^ level) h.2 in
    rw (pow-suc 30 level) (omega (arith, many, whole))

pub many_leaves_by_pointers : (level : ℕ) (table : Table) (is_root : Bool) (at : ℕ) → IsSubtree (suc level) table is_root at → length (node_pointers table at) * 30 ^ level ≤ leaves_below (suc level) table at
many_leaves_by_pointers level table is_root at h =
    sum_least (30 ^ level) (λ (pointer : Pointer). leaves_below level table pointer.at) (node_pointers table at) (All-weaker (Child level table) (λ (pointer : Pointer). 30 ^ level ≤ leaves_below level table pointer.at) (λ pointer k. many_leaves level table pointer.at k.0) (node_pointers table at) h.3)
