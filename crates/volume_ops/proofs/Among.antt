-- Where a subvolume's state stands among all.
use Rattle.std.proofs.Common.{◌≡◌, ◌∙◌, ◌<◌, ◌==◌, ℕ, zero, suc, Bool, true, false, cond, List, [], ◌∷◌, ◌++◌, length, map, take, drop, set, get_or, slice_get, Option, Some, None, refl, sym, ap, arith, inl, inr}
use Rattle.std.specs.Prelude.{Contains, position}
use Rattle.std.specs.Bool.{nat_lt}
use Rattle.std.specs.List.{position_or_len}
use Rattle.std.specs.FinMap.{get}
use Rattle.std.proofs.lemmas.Bool.{eqb-true, eq-eqb, ltb-false, true≢false}
use Rattle.std.proofs.lemmas.List.Quantifiers.{position-Some}
use Rattle.std.proofs.lemmas.List.Sums.{fails_before_first}
use Rattle.blk_base.specs.declared.key.SubId.{SubId}
use Rattle.blk_base.proofs.Members.{in_cons, in_nothing}
use Rattle.block_table.specs.declared.tree.SubState.{SubState}
use Rattle.block_table.specs.Table.{Table}
use Rattle.flat_model.specs.Volume.{RunSub, RunVolume}
use Rattle.flat_model.proofs.Maps.{some_none}
use Rattle.tree_range.proofs.Cuts.{cut_at}
use Rattle.table_volume.specs.Running.{GiveVolume, id_of}

-- no state has the number
none_passes : {X : Type 0} (p : X → Bool) (xs : List X) → position p xs ≡ None → (k : ℕ) (d : X) → k < length xs → p (get_or xs k d) ≡ false
none_passes p xs e k d less =
    elim (nat_lt (position_or_len p xs) (length xs)) as (λ b. nat_lt (position_or_len p xs) (length xs) ≡ b → cond b (Some (position_or_len p xs)) None ≡ None → p (get_or xs k d) ≡ false) [
      | true ↦ λ t s. absurd (some_none _ s)
      | false ↦ λ f s. let past = ltb-false _ _ f in fails_before_first p xs k d (omega (arith, less, past))
    ] refl e

not_among : (states : List SubState) (id : ℕ) → ((k : ℕ) (d : SubState) → k < length states → ((get_or states k d).tree.owner == id) ≡ false) → Contains (map id_of states) id → ⊥
not_among [] id each there = in_nothing id there
not_among (state ∷ states) id each there = elim (in_cons (id_of state) id (map id_of states) there) [
  | inl here ↦ true≢false (sym (eq-eqb (id_of state) id here) ∙ each 0 state (omega arith))
  | inr later ↦ not_among states id (λ k d less. each (suc k) d (omega (arith, less))) later
]

pub nowhere : (table : Table) (states : List SubState) (run : RunVolume) (id : ℕ) → GiveVolume table states run → position (λ (s : SubState). s.tree.owner == id) states ≡ None → get run id ≡ None
nowhere table states run id volume none = go (get run id) refl
  where
    go : (o : Option RunSub) → get run id ≡ o → o ≡ None
    go None is = refl
    go (Some sub) is = absurd (not_among states id (none_passes (λ (s : SubState). s.tree.owner == id) states none) (volume.only id sub is))

-- the state that has it, with those in front of it and behind it
pub record IsAmong (states : List SubState) (place id : ℕ) (state : SubState) : Type 0 where
  pub cut : states ≡ take place states ++ state ∷ drop (suc place) states
  pub owner : id_of state ≡ id

got : {X : Type 0} (xs : List X) (k : ℕ) (d : X) → k < length xs → slice_get xs k ≡ Some (get_or xs k d)
got [] k d less = absurd (omega (arith, less))
got (x ∷ xs) zero d less = refl
got (x ∷ xs) (suc k) d less = got xs k d (omega (arith, less))

among : (states : List SubState) (place id : ℕ) (d : SubState) → position (λ (s : SubState). s.tree.owner == id) states ≡ Some place → IsAmong states place id (get_or states place d)
among states place id d is =
    let at = position-Some (λ (s : SubState). s.tree.owner == id) states place d is in
    record { cut = cut_at states place (get_or states place d) (got states place d at.0); owner = eqb-true _ _ at.1 }

-- another state in its place
pub set_cut : (states : List SubState) (place : ℕ) (state : SubState) → place < length states → set states place state ≡ take place states ++ state ∷ drop (suc place) states
set_cut [] place state less = absurd (omega (arith, less))
set_cut (x ∷ xs) zero state less = refl
set_cut (x ∷ xs) (suc place) state less = ap (λ (l : List SubState). x ∷ l) (set_cut xs place state (omega (arith, less)))

inside : (states : List SubState) (place id : ℕ) → position (λ (s : SubState). s.tree.owner == id) states ≡ Some place → place < length states
inside [] place id is = absurd (some_none place (sym is))
inside (state ∷ states) place id is = (position-Some (λ (s : SubState). s.tree.owner == id) (state ∷ states) place state is).0

-- ---- the search for it

abbrev pub no_state : SubState
no_state = record { tree = record { root = record { 0 = 0 }; level = 0; owner = 0 }; next_ino = 0; next_index = 0; running = 0 }

-- the subvolume's number, as the search was told it
pub found_at : (states : List SubState) (place : Option ℕ) (told : SubId) (id : SubId) → told ≡ id → place ≡ position (λ (s : SubState). s.tree.owner == told.0) states → position (λ (s : SubState). s.tree.owner == id.0) states ≡ place
found_at states place told id same is = ap (λ (i : SubId). position (λ (s : SubState). s.tree.owner == i.0) states) (sym same) ∙ sym is

-- the state at the place that it found
pub found_among : (states : List SubState) (place : ℕ) (told id : SubId) → told ≡ id → Some place ≡ position (λ (s : SubState). s.tree.owner == told.0) states → IsAmong states place id.0 (get_or states place no_state)
found_among states place told id same is = among states place id.0 no_state (found_at states (Some place) told id same is)

pub found_inside : (states : List SubState) (place : ℕ) (told id : SubId) → told ≡ id → Some place ≡ position (λ (s : SubState). s.tree.owner == told.0) states → place < length states
found_inside states place told id same is = inside states place id.0 (found_at states (Some place) told id same is)
