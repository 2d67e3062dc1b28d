-- Root items put one behind the other.
use Rattle.std.proofs.Common.{◌≡◌, ◌∙◌, ◌<◌, ◌+◌, ◌^◌, ℕ, zero, suc, List, [], ◌∷◌, ◌++◌, length, take, set, slice_get, Some, refl, sym, ap, subst, arith, add-one}
use Rattle.std.specs.Prelude.{All, slice_index_or}
use Rattle.std.proofs.lemmas.List.{map-append, take_all}
use Rattle.std.proofs.lemmas.List.Elements.{All-append, All-cons, All-nil}
use Rattle.blk_base.specs.declared.key.Key.{Key}
use Rattle.blk_base.specs.Leaf.{Item}
use Rattle.block_table.specs.declared.tree.SubState.{SubState}
use Rattle.block_table.specs.Table.{Table}
use Rattle.tree_seal.proofs.Cuts.{cut_at}
use Rattle.volume_format.specs.declared.root_item.RootItem.{RootItem}
use Rattle.root_tree.specs.Roots.{root_entries, root_entry}
use Rattle.volume_seal.specs.Roots.{root_of, state_entries, state_entry}

set_next : {X : Type 0} (xs : List X) (place : ℕ) (v : X) → place < length xs → take (place + 1) (set xs place v) ≡ take place xs ++ v ∷ []
set_next {X} xs place v less = ap (λ (n : ℕ). take n (set xs place v)) (add-one place) ∙ go xs place less
  where
    go : (xs : List X) (place : ℕ) → place < length xs → take (suc place) (set xs place v) ≡ take place xs ++ v ∷ []
    go [] place less = absurd (omega (arith, less))
    go (x ∷ xs) zero less = refl
    go (x ∷ xs) (suc place) less = ap (λ (l : List X). x ∷ l) (go xs place (omega (arith, less)))

pub there_at : (states : List SubState) (place : ℕ) (d : SubState) → place < length states → slice_get states place ≡ Some (slice_index_or states place d)
there_at [] place d less = absurd (omega (arith, less))
there_at (state ∷ states) zero d less = refl
there_at (state ∷ states) (suc place) d less = there_at states place d (omega (arith, less))

-- the roots of the first so many states
pub record AreRooted (table : Table) (states : List SubState) (roots : List (Key × RootItem)) (count : ℕ) : Type 0 where
  pub front : root_entries (take count roots) ≡ state_entries table (take count states)
  pub fits : All (λ state. (root_of table state.tree).generation < 2 ^ 64) (take count states)

pub rooted_none : (table : Table) (states : List SubState) (roots : List (Key × RootItem)) → AreRooted table states roots 0
rooted_none table states roots = record { front = refl; fits = All-nil _ }

pub rooted_more : (table : Table) (states : List SubState) (roots : List (Key × RootItem)) (place : ℕ) (d : SubState) (root : Key × RootItem) → AreRooted table states roots place → place < length states → place < length roots
    → root_entry root ≡ state_entry table (slice_index_or states place d) → (root_of table (slice_index_or states place d).tree).generation < 2 ^ 64 → AreRooted table states (set roots place root) (place + 1)
rooted_more table states roots place d root before within room is fits =
    let state : SubState = slice_index_or states place d in
    let more : take (place + 1) states ≡ take place states ++ state ∷ [] = (cut_at states place state (there_at states place d within)).more in
    record {
      front = ap root_entries (set_next roots place root room) ∙ map-append root_entry (take place roots) (root ∷ []) ∙ ap (λ (l : List Item). l ++ root_entry root ∷ []) before.front ∙ ap (λ (item : Item). state_entries table (take place states) ++ item ∷ []) is
          ∙ sym (map-append (state_entry table) (take place states) (state ∷ [])) ∙ ap (state_entries table) (sym more);
      fits = subst (All (λ (s : SubState). (root_of table s.tree).generation < 2 ^ 64)) (sym more) (All-append (λ (s : SubState). (root_of table s.tree).generation < 2 ^ 64) (take place states) (state ∷ []) before.fits (All-cons (λ (s : SubState). (root_of table s.tree).generation < 2 ^ 64) state [] fits (All-nil _)));
    }

pub rooted_all : (table : Table) (states : List SubState) (roots : List (Key × RootItem)) (count : ℕ) → count ≡ length states → AreRooted table states roots count → AreRooted table states roots (length states)
rooted_all table states roots count is h = subst (AreRooted table states roots) is h

pub all_front : (table : Table) (states : List SubState) (roots : List (Key × RootItem)) → AreRooted table states roots (length states) → root_entries (take (length states) roots) ≡ state_entries table states
all_front table states roots h = h.front ∙ ap (state_entries table) (take_all (length states) states (omega arith))

pub all_fits : (table : Table) (states : List SubState) (roots : List (Key × RootItem)) → AreRooted table states roots (length states) → All (λ (s : SubState). (root_of table s.tree).generation < 2 ^ 64) states
all_fits table states roots h =
    subst (All (λ (s : SubState). (root_of table s.tree).generation < 2 ^ 64)) (take_all (length states) states (omega arith)) h.fits
