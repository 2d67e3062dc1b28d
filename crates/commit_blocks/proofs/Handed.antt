-- With which bytes blocks were handed out last.
use Rattle.std.proofs.Common.{◌≡◌, ◌∙◌, ◌++◌, ◌/◌, ◌%◌, ℕ, Bool, cond, List, [], ◌∷◌, map, Some, refl, ap, arith, inl, inr}
use Rattle.std.specs.Prelude.{Contains}
use Rattle.std.proofs.lemmas.Bool.{cases_eq, eq-eqb, ne_eqb}
use Rattle.blk_base.specs.Bytes.{Image}
use Rattle.blk_base.proofs.Members.{in_cons, in_head, in_nothing, in_tail}
use Rattle.block_table.specs.Table.{Table}
use Rattle.block_table.specs.TreeIn.{block_at}
use Rattle.commit_core.specs.Coming.{numbered}
use Rattle.commit_images.specs.Admissible.{last_bytes}
use Rattle.tree_seal.specs.Sealing.{as_handed}
use Rattle.commit_blocks.specs.Keeps.{numbered_at}

pub handed_numbered : (table : Table) (order : List ℕ) → numbered (map (as_handed table) order) ≡ map (numbered_at table) order
handed_numbered table [] = refl
handed_numbered table (at ∷ order) = ap (λ (l : List (ℕ × List ℕ)). numbered_at table at ∷ l) (handed_numbered table order)

abbrev AreWhole : List ℕ → Type 0
AreWhole order = (x : ℕ) → Contains order x → x % 4096 ≡ 0

pub same_place : (one two : ℕ) → one % 4096 ≡ 0 → two % 4096 ≡ 0 → one / 4096 ≡ two / 4096 → one ≡ two
same_place one two a b same = omega (arith, a, b, same)

pub last_in : (table : Table) (order : List ℕ) (handed : List (ℕ × List ℕ)) (image : Image) (at : ℕ) → AreWhole order → at % 4096 ≡ 0 → Contains order at → last_bytes (map (numbered_at table) order ++ handed) image (at / 4096) ≡ Some (block_at table at).bytes
last_in table [] handed image at all whole there = absurd (in_nothing at there)
last_in table (first ∷ order) handed image at all whole there = elim (cases_eq (first / 4096) (at / 4096)) [
  | inl same ↦
      let is : first ≡ at = same_place first at (all first (in_head first first order refl)) whole same in
      ap (λ (b : Bool). cond b (Some (block_at table first).bytes) (last_bytes (map (numbered_at table) order ++ handed) image (at / 4096))) (eq-eqb (first / 4096) (at / 4096) same)
      ∙ ap (λ (x : ℕ). Some (block_at table x).bytes) is
  | inr other ↦
      ap (λ (b : Bool). cond b (Some (block_at table first).bytes) (last_bytes (map (numbered_at table) order ++ handed) image (at / 4096))) (ne_eqb (first / 4096) (at / 4096) other)
      ∙ last_in table order handed image at (λ x k. all x (in_tail first x order k)) whole (elim (in_cons first at order there) [
        | inl same ↦ absurd (other (ap (λ (x : ℕ). x / 4096) same))
        | inr later ↦ later
      ])
]

pub last_out : (table : Table) (order : List ℕ) (handed : List (ℕ × List ℕ)) (image : Image) (at : ℕ) → AreWhole order → at % 4096 ≡ 0 → (Contains order at → ⊥) → last_bytes (map (numbered_at table) order ++ handed) image (at / 4096) ≡ last_bytes handed image (at / 4096)
last_out table [] handed image at all whole none = refl
last_out table (first ∷ order) handed image at all whole none =
    ap (λ (b : Bool). cond b (Some (block_at table first).bytes) (last_bytes (map (numbered_at table) order ++ handed) image (at / 4096)))
    (ne_eqb (first / 4096) (at / 4096) (λ same. none (in_head first at order (same_place first at (all first (in_head first first order refl)) whole same))))
    ∙ last_out table order handed image at (λ x k. all x (in_tail first x order k)) whole (λ k. none (in_tail first at order k))

-- a block of these, and where it stands
pub in_numbered : (table : Table) (order : List ℕ) (at : ℕ) → Contains order at → Contains (map (numbered_at table) order) (numbered_at table at)
in_numbered table order at there = Rattle.volume_image.proofs.Members.map_in (numbered_at table) order at there

pub numbered_in : (table : Table) (order : List ℕ) (block : ℕ × List ℕ) → Contains (map (numbered_at table) order) block → (at : ℕ) × Contains order at × (numbered_at table at ≡ block)
numbered_in table order block there = Rattle.volume_image.proofs.Members.in_map (numbered_at table) order block there
