-- An edit of one subvolume's blocks, in the volume that all states give.
use Rattle.std.proofs.Common.{◌≡◌, ◌≢◌, ◌<◌, ◌+◌, ◌∙◌, ℕ, List, [], ◌∷◌, ◌++◌, length, map, suc, Some, sym, ap, subst, inl, inr, arith}
use Rattle.std.specs.Prelude.{All, Contains, slice_index_or}
use Rattle.std.specs.List.{flat_map}
use Rattle.std.specs.List.Sorted.{IsStrictlyIncreasing}
use Rattle.std.specs.FinMap.{get, insert}
use Rattle.std.proofs.lemmas.Grind.{flat_map-append}
use Rattle.std.proofs.lemmas.List.{get_or_append_left, get_or-append-add, length-append, map-append}
use Rattle.std.proofs.lemmas.List.Elements.{All-append, All-cons, All-nil, All-tail, All-weaker, Contains-append_left, Contains-append_right}
use Rattle.std.proofs.lemmas.List.Kept.{AllPairs-from_increasing}
use Rattle.std.proofs.Math.Seq.{get_or-append_seam}
use Rattle.blk_base.specs.Trees.{NoneTwice}
use Rattle.blk_base.proofs.Members.{once_apart, once_right}
use Rattle.block_table.specs.declared.tree.SubState.{SubState}
use Rattle.block_table.specs.Table.{Table}
use Rattle.block_table.specs.TreeIn.{IsTaken}
use Rattle.tree_range.proofs.Cuts.{All-unmap}
use Rattle.tree_range.proofs.Rise.{All-left, All-right}
use Rattle.tree_frame.specs.Frame.{IsEdit}
use Rattle.tree_frame.proofs.Among.{once_among}
use Rattle.tree_frame.proofs.Reading.{all_joined, flat_map_same}
use Rattle.flat_model.specs.Volume.{RunSub, RunVolume}
use Rattle.flat_model.proofs.Maps.{get_insert_other, get_insert_same, insert_cases}
use Rattle.table_volume.specs.Gives.{sub_reach}
use Rattle.table_volume.specs.Running.{GiveVolume, GivesPart, GivesRun, id_of}
use Rattle.table_volume.proofs.Giving.{subvolume_taken}
use Rattle.table_volume.proofs.Editing.{state_given, state_reach}

-- ---- numbers that rise: one of them is none of the others

below_isnt : (a b : ℕ) → a < b → a ≡ b → ⊥
below_isnt a b less e = omega (arith, less, e)

above_isnt : (a b : ℕ) → b < a → a ≡ b → ⊥
above_isnt a b more e = omega (arith, more, e)

lefts_differ : (xs ys : List ℕ) (x : ℕ) → IsStrictlyIncreasing (xs ++ x ∷ ys) → All (λ y. y ≢ x) xs
lefts_differ xs ys x rising k d within =
    let whole : length (xs ++ x ∷ ys) ≡ length xs + suc (length ys) = length-append xs (x ∷ ys) in
    let less = AllPairs-from_increasing (xs ++ x ∷ ys) rising k (length xs) d within (omega (arith, whole)) in
    below_isnt _ _ (subst (λ (b : ℕ). slice_index_or xs k d < b) (get_or-append_seam xs x ys d) (subst (λ (a : ℕ). a < slice_index_or (xs ++ x ∷ ys) (length xs) d) (get_or_append_left xs (x ∷ ys) d k within) less))

rights_differ : (xs ys : List ℕ) (x : ℕ) → IsStrictlyIncreasing (xs ++ x ∷ ys) → All (λ y. y ≢ x) ys
rights_differ xs ys x rising k d within =
    let whole : length (xs ++ x ∷ ys) ≡ length xs + suc (length ys) = length-append xs (x ∷ ys) in
    let more = AllPairs-from_increasing (xs ++ x ∷ ys) rising (length xs) (length xs + suc k) d (omega arith) (omega (arith, whole, within)) in
    above_isnt _ _ (subst (λ (a : ℕ). a < slice_index_or ys k d) (get_or-append_seam xs x ys d) (subst (λ (b : ℕ). slice_index_or (xs ++ x ∷ ys) (length xs) d < b) (get_or-append-add xs (x ∷ ys) (suc k) d) more))

-- ---- parts of a joined list

parts_in : {X : Type 0} (g : X → List ℕ) (xs : List X) → All (λ x. (at : ℕ) → Contains (g x) at → Contains (flat_map g xs) at) xs
parts_in g [] = All-nil _
parts_in {X} g (x ∷ xs) =
    All-cons (λ (y : X). (at : ℕ) → Contains (g y) at → Contains (g x ++ flat_map g xs) at) x xs (λ at there. Contains-append_left (g x) (flat_map g xs) at there) (All-weaker (λ (y : X). (at : ℕ) → Contains (g y) at → Contains (flat_map g xs) at) (λ (y : X). (at : ℕ) → Contains (g y) at → Contains (g x ++ flat_map g xs) at) (λ y h at there. Contains-append_right (g x) (flat_map g xs) at (h at there)) xs (parts_in g xs))

abbrev reach_in : Table → SubState → List ℕ
reach_in table state = sub_reach table state.tree

part_taken : (table : Table) (run : RunVolume) (states : List SubState) → All (GivesPart table run) states → All (IsTaken table) (flat_map (reach_in table) states)
part_taken table run states each =
    all_joined (IsTaken table) (reach_in table) states (All-weaker (GivesPart table run) (λ (state : SubState). All (IsTaken table) (reach_in table state)) (λ state part. subvolume_taken table state.tree part.sub.sub part.gives.gives) states each)

-- ---- the other states

-- a state that the edit leaves as it is, with the blocks that it had
record IsLeftAlone (old new : Table) (run : RunVolume) (state : SubState) : Type 0 where
  part : GivesPart new run state
  reach : reach_in new state ≡ reach_in old state

others_stay : (old new : Table) (before after : List ℕ) (id : ℕ) (run : RunVolume) (next : RunSub) (states : List SubState) → IsEdit old new before after → All (GivesPart old run) states → All (λ other. other ≢ id) (map id_of states) → ((at : ℕ) → Contains (flat_map (reach_in old) states) at → Contains before at → ⊥) → All (IsLeftAlone old new (insert run id next)) states
others_stay old new before after id run next states edit each differ apart k d within =
    let state = slice_index_or states k d in
    let part : GivesPart old run state = each k d within in
    let out : (at : ℕ) → Contains (sub_reach old state.tree) at → Contains before at → ⊥ = λ at there. apart at (parts_in (reach_in old) states k d within at there) in
    let other : id_of state ≢ id = All-unmap (λ (n : ℕ). n ≢ id) id_of states differ k d within in
    record {
      part = record {
        sub = part.sub;
        there = get_insert_other run id next (id_of state) other ∙ part.there;
        gives = state_given old new before after state part.sub edit part.gives out;
      };
      reach = state_reach old new before after state part.sub edit part.gives out;
    }

parts_of : (old new : Table) (run : RunVolume) (states : List SubState) → All (IsLeftAlone old new run) states → All (GivesPart new run) states
parts_of old new run states h = λ k d within. (h k d within).part

reaches_of : (old new : Table) (run : RunVolume) (states : List SubState) → All (IsLeftAlone old new run) states → flat_map (reach_in new) states ≡ flat_map (reach_in old) states
reaches_of old new run states h =
    flat_map_same (reach_in new) (reach_in old) states (λ k d within. (h k d within).reach)

-- ---- the volume

module _ (old new : Table) (lefts rights : List SubState) (before after : SubState) (run : RunVolume) (next : RunSub) (volume : GiveVolume old (lefts ++ before ∷ rights) run) (edit : IsEdit old new (sub_reach old before.tree) (sub_reach new after.tree)) (same : id_of after ≡ id_of before) (gives : GivesRun new after next) where
  ids_split : (state : SubState) → map id_of (lefts ++ state ∷ rights) ≡ map id_of lefts ++ id_of state ∷ map id_of rights
  ids_split state = map-append id_of lefts (state ∷ rights)

  ids_same : map id_of (lefts ++ after ∷ rights) ≡ map id_of (lefts ++ before ∷ rights)
  ids_same =
      ids_split after ∙ (ap (λ (n : ℕ). map id_of lefts ++ n ∷ map id_of rights) same ∙ sym (ids_split before))

  rising : IsStrictlyIncreasing (map id_of lefts ++ id_of before ∷ map id_of rights)
  rising = subst IsStrictlyIncreasing (ids_split before) volume.rising

  split : (table : Table) (state : SubState) → flat_map (reach_in table) (lefts ++ state ∷ rights) ≡ flat_map (reach_in table) lefts ++ (reach_in table state ++ flat_map (reach_in table) rights)
  split table state = flat_map-append (reach_in table) lefts (state ∷ rights)

  once : NoneTwice (flat_map (reach_in old) lefts ++ (reach_in old before ++ flat_map (reach_in old) rights))
  once = subst NoneTwice (split old before) volume.once

  taken : All (IsTaken old) (flat_map (reach_in old) lefts ++ (reach_in old before ++ flat_map (reach_in old) rights))
  taken = subst (λ (l : List ℕ). All (IsTaken old) l) (split old before) (part_taken old run (lefts ++ before ∷ rights) volume.each)

  lefts_stay : All (IsLeftAlone old new (insert run (id_of before) next)) lefts
  lefts_stay =
      others_stay old new (sub_reach old before.tree) (sub_reach new after.tree) (id_of before) run next lefts edit (All-left (GivesPart old run) lefts (before ∷ rights) volume.each) (lefts_differ (map id_of lefts) (map id_of rights) (id_of before) rising)
      (λ at there here. once_apart (flat_map (reach_in old) lefts) (reach_in old before ++ flat_map (reach_in old) rights) once at there (Contains-append_left (reach_in old before) (flat_map (reach_in old) rights) at here))

  rights_stay : All (IsLeftAlone old new (insert run (id_of before) next)) rights
  rights_stay =
      others_stay old new (sub_reach old before.tree) (sub_reach new after.tree) (id_of before) run next rights edit (All-tail (GivesPart old run) before rights (All-right (GivesPart old run) lefts (before ∷ rights) volume.each)) (rights_differ (map id_of lefts) (map id_of rights) (id_of before) rising)
      (λ at there here. once_apart (reach_in old before) (flat_map (reach_in old) rights) (once_right (flat_map (reach_in old) lefts) (reach_in old before ++ flat_map (reach_in old) rights) once) at here there)

  edited : GivesPart new (insert run (id_of before) next) after
  edited = record {
    sub = next;
    there = subst (λ (n : ℕ). get (insert run (id_of before) next) n ≡ Some next) (sym same) (get_insert_same run (id_of before) next);
    gives = gives;
  }

  once_now : NoneTwice (flat_map (reach_in new) (lefts ++ after ∷ rights))
  once_now =
      let among : NoneTwice (flat_map (reach_in old) lefts ++ (reach_in new after ++ flat_map (reach_in old) rights)) = once_among old new (flat_map (reach_in old) lefts) (reach_in old before) (reach_in new after) (flat_map (reach_in old) rights) edit once taken gives.gives.once in
      let left : flat_map (reach_in new) lefts ≡ flat_map (reach_in old) lefts = reaches_of old new (insert run (id_of before) next) lefts lefts_stay in
      let right : flat_map (reach_in new) rights ≡ flat_map (reach_in old) rights = reaches_of old new (insert run (id_of before) next) rights rights_stay in
      let joined : flat_map (reach_in new) (lefts ++ after ∷ rights) ≡ flat_map (reach_in old) lefts ++ (reach_in new after ++ flat_map (reach_in old) rights) = split new after ∙ (ap (λ (l : List ℕ). l ++ (reach_in new after ++ flat_map (reach_in new) rights)) left ∙ ap (λ (l : List ℕ). flat_map (reach_in old) lefts ++ (reach_in new after ++ l)) right) in
      subst NoneTwice (sym joined) among

  only_these : (id : ℕ) (sub : RunSub) → get (insert run (id_of before) next) id ≡ Some sub → Contains (map id_of (lefts ++ before ∷ rights)) id
  only_these id sub there =
      elim (insert_cases run (id_of before) next id sub there) [
        | inl here ↦ subst (λ (l : List ℕ). Contains l id) (sym (ids_split before)) (Contains-append_right (map id_of lefts) (id_of before ∷ map id_of rights) id (0, omega arith, sym here.0))
        | inr other ↦ volume.only id sub other.1
      ]

  pub volume_given : GiveVolume new (lefts ++ after ∷ rights) (insert run (id_of before) next)
  volume_given = record {
    rising = subst IsStrictlyIncreasing (sym ids_same) volume.rising;
    each = All-append (GivesPart new (insert run (id_of before) next)) lefts (after ∷ rights) (parts_of old new (insert run (id_of before) next) lefts lefts_stay)
        (All-cons (GivesPart new (insert run (id_of before) next)) after rights edited (parts_of old new (insert run (id_of before) next) rights rights_stay));
    only = λ id sub there. subst (λ (l : List ℕ). Contains l id) (sym ids_same) (only_these id sub there);
    once = once_now;
  }
