-- The check of data blocks, one block and one run after another.
use Rattle.std.proofs.Common.{◌≡◌, ◌≤◌, ◌<◌, ◌+◌, ◌-◌, ◌*◌, ℕ, zero, suc, Bool, true, false, List, [], ◌∷◌, ◌++◌, length, take, drop, slice_get, get_or, append-nil, Some, Err, refl, sym, ap, ◌∙◌, arith, inl, inr}
use Rattle.std.specs.Prelude.{◌||◌, ◌==◌}
use Rattle.std.proofs.lemmas.Bool.{cases_Bool}
use Rattle.std.proofs.lemmas.List.Concat.{flat_map-append}
use Rattle.std.proofs.lemmas.Option.{slice_get-get_or}
use Rattle.blk_base.specs.Address.{is_allowed}
use Rattle.block_table.specs.Table.{Table}
use Rattle.format_laws.specs.Checks.{fails, finds, finds_none, passes}
use Rattle.tree_load.specs.Loaded.{AreTaken}
use Rattle.tree_range.proofs.Cuts.{cut_at}
use Rattle.volume_image.specs.Subvolume.{run_addresses}
use Rattle.volume_image.specs.Tree.{was_reached}
use Rattle.volume_image.proofs.Reaches.{not_reached, not_in, was_reached-in, was_reached-true}
use Rattle.tree_check.specs.declared.fault.TreeFault.TheVariants.{Outside, Twice}
use Rattle.tree_check.specs.declared.runs.Run.{Run}
use Rattle.tree_check.proofs.Places.{to_end, to_here}
use Rattle.tree_check.specs.Blocks.{blocks_checked, run_of, runs_of}

-- ---- one block

pub is_outside : (blocks at : ℕ) (reached rest : List ℕ) → is_allowed blocks at ≡ false → blocks_checked blocks reached (at ∷ rest) ≡ Err (Outside (record { 0 = at }))
is_outside blocks at reached rest out = fails _ _ _ out

pub is_twice : (blocks at : ℕ) (reached rest : List ℕ) → is_allowed blocks at ≡ true → was_reached at reached ≡ true → blocks_checked blocks reached (at ∷ rest) ≡ Err (Twice (record { 0 = at }))
is_twice blocks at reached rest allowed before = passes _ _ _ allowed ∙ finds _ _ _ before

pub is_fresh : (blocks at : ℕ) (reached rest : List ℕ) → is_allowed blocks at ≡ true → was_reached at reached ≡ false → blocks_checked blocks reached (at ∷ rest) ≡ blocks_checked blocks (at ∷ reached) rest
is_fresh blocks at reached rest allowed none = passes _ _ _ allowed ∙ finds_none _ _ _ none

-- ---- what was reached before counts as a set

pub same_reached : (blocks : ℕ) (one two addresses : List ℕ) → ((at : ℕ) → was_reached at one ≡ was_reached at two) → blocks_checked blocks one addresses ≡ blocks_checked blocks two addresses
same_reached blocks one two [] same = refl
same_reached blocks one two (at ∷ addresses) same =
    go (is_allowed blocks at) (was_reached at one) (was_reached at two) refl refl refl (same at)
    (same_reached blocks (at ∷ one) (at ∷ two) addresses (λ other. ap (λ (b : Bool). (at == other) || b) (same other)))
  where
    go : (allowed before after : Bool) → is_allowed blocks at ≡ allowed → was_reached at one ≡ before → was_reached at two ≡ after → was_reached at one ≡ was_reached at two
        → blocks_checked blocks (at ∷ one) addresses ≡ blocks_checked blocks (at ∷ two) addresses → blocks_checked blocks one (at ∷ addresses) ≡ blocks_checked blocks two (at ∷ addresses)
    go false before after a b c e later = is_outside blocks at one addresses a ∙ sym (is_outside blocks at two addresses a)
    go true true after a b c e later = is_twice blocks at one addresses a b ∙ sym (is_twice blocks at two addresses a (sym e ∙ b))
    go true false after a b c e later = is_fresh blocks at one addresses a b ∙ later ∙ sym (is_fresh blocks at two addresses a (sym e ∙ b))

pub same_taken : (table : Table) (one two : List ℕ) → AreTaken table one → AreTaken table two → (at : ℕ) → was_reached at one ≡ was_reached at two
same_taken table one two taken again at = elim (cases_Bool (was_reached at one)) [
  | inl there ↦ there ∙ sym (was_reached-in at two ((again at).1 ((taken at).0 (was_reached-true at one there))))
  | inr out ↦ out ∙ sym (not_in at two (λ c. not_reached at one out ((taken at).1 ((again at).0 c))))
]

-- ---- runs

pub run_split : (at n k m : ℕ) → m ≡ n + k → run_addresses at m ≡ run_addresses at n ++ run_addresses (at + 4096 * n) k
run_split at zero k m is = let count : m ≡ k = omega arith in let begin : at ≡ at + 4096 * 0 = omega arith in ap (run_addresses at) count ∙ ap (λ (a : ℕ). run_addresses a k) begin
run_split at (suc n) k zero is = absurd (omega arith)
run_split at (suc n) k (suc m) is =
    let begin : (at + 4096) + 4096 * n ≡ at + 4096 * suc n = omega arith in
    ap (λ (l : List ℕ). at ∷ l) (run_split (at + 4096) n k m (omega arith) ∙ ap (λ (a : ℕ). run_addresses (at + 4096) n ++ run_addresses a k) begin)

-- one block more
pub run_next : (at place now : ℕ) → now ≡ at + 4096 * place → run_addresses at (place + 1) ≡ run_addresses at place ++ now ∷ []
run_next at place now is = run_split at place 1 (place + 1) refl ∙ ap (λ (a : ℕ). run_addresses at place ++ a ∷ []) (sym is)

-- the blocks in front of one, that one, and those behind it
pub run_cut : (at count place now : ℕ) → place < count → now ≡ at + 4096 * place → run_addresses at count ≡ run_addresses at place ++ ((now ∷ []) ++ run_addresses (now + 4096) (count - place - 1))
run_cut at count place now inside is =
    run_split at place (suc (count - place - 1)) count (omega arith) ∙ ap (λ (a : ℕ). run_addresses at place ++ run_addresses a (suc (count - place - 1))) (sym is)

-- the run at a place of a list
abbrev pub run_at : List Run → ℕ → Run
run_at runs place = get_or runs place (record { at = record { 0 = 0 }; count = 0 })

there : (runs : List Run) (place : ℕ) → place < length runs → slice_get runs place ≡ Some (run_at runs place)
there runs place inside = slice_get-get_or runs place (record { at = record { 0 = 0 }; count = 0 }) inside

-- one run more
pub runs_next : (runs : List Run) (place : ℕ) → place < length runs → runs_of (take (place + 1) runs) ≡ runs_of (take place runs) ++ run_of (run_at runs place)
runs_next runs place inside =
    let run = run_at runs place in
    ap runs_of (to_here runs place run (there runs place inside)) ∙ flat_map-append run_of (take place runs) (run ∷ []) ∙ ap (λ (l : List ℕ). runs_of (take place runs) ++ l) (append-nil (run_of run))

pub runs_cut : (runs : List Run) (place : ℕ) → place < length runs → runs_of runs ≡ runs_of (take place runs) ++ (run_of (run_at runs place) ++ runs_of (drop (suc place) runs))
runs_cut runs place inside =
    ap runs_of (cut_at runs place (run_at runs place) (there runs place inside)) ∙ flat_map-append run_of (take place runs) (run_at runs place ∷ drop (suc place) runs)

pub runs_all : (runs : List Run) (place : ℕ) → length runs ≤ place → runs_of (take place runs) ≡ runs_of runs
runs_all runs place past = ap runs_of (to_end runs place past)
