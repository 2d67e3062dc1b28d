-- The volume that states give, by the subvolumes that are seen.
use Rattle.std.proofs.Common.{◌≡◌, ◌<◌, ◌+◌, ◌&&◌, ℕ, suc, true, List, [], ◌∷◌, ◌++◌, map, Contains, Option, Some, None, refl, sym, ap, subst, ◌∙◌, arith}
use Rattle.std.specs.Prelude.{All}
use Rattle.std.specs.Ordering.{nat_cmp, is_lt}
use Rattle.std.specs.Cmp.{nat_cmp_total}
use Rattle.std.specs.FinMap.{entries, get, is_sorted, nat_cmp-IsAntisymmetric}
use Rattle.std.specs.FinMap.Entries.{below_all}
use Rattle.std.specs.List.{flat_map, sum_by}
use Rattle.std.specs.List.Sorted.{IsStrictlyIncreasing}
use Rattle.std.specs.Option.{option_map}
use Rattle.block_table.specs.declared.tree.SubState.{SubState}
use Rattle.block_table.specs.Table.{Table}
use Rattle.current_view.specs.View.{seen}
use Rattle.flat_model.specs.Volume.{RunSub, RunVolume, Subvolume, volume_of}
use Rattle.flat_model.proofs.Histories.{get_volume_of}
use Rattle.flat_record.proofs.Tables.{entries_rising}
use Rattle.image_faults.specs.Lists.{gives_map}
use Rattle.table_volume.specs.Running.{GiveVolume, GivesPart, id_of}
use Rattle.volume_image.proofs.Members.{in_map, map_in}
use Rattle.volume_listing.specs.Listing.{count_of, done_line, listing_of, part_of}
use Rattle.tree_listing.specs.Given.{IsGiven, count_at, part_at}
use Rattle.tree_listing.proofs.Given.{run_is_seen}
use Rattle.std.proofs.lemmas.Bool.Decides.{nat_tests}
use Rattle.std.proofs.lemmas.List.Elements.{All-weaker}
use Rattle.std.proofs.lemmas.List.Folds.{flat_map-map}
use Rattle.std.proofs.lemmas.List.Kept.{AllPairs-from_increasing}
use Rattle.std.proofs.lemmas.List.Sums.{sum_by-cons}
use Rattle.volume_image.proofs.Reaches.{head_in, tail_in}
use Rattle.std.specs.Prelude.{slice_index}

-- the subvolume of a state with its number
abbrev as_part : Table → SubState → ℕ × Subvolume
as_part table state = (id_of state, seen table state.tree)

-- ---- rising numbers

less_is : (a b : ℕ) → a < b → is_lt (nat_cmp a b) ≡ true
less_is a b h = grind (arith, nat_tests)

below_is : (table : Table) (low : ℕ) (states : List SubState) → ((state : SubState) → Contains states state → low < id_of state) → below_all nat_cmp low (map (as_part table) states) ≡ true
below_is table low [] above = refl
below_is table low (state ∷ states) above =
    (λ i. less_is low (id_of state) (above state (head_in state states)) i && below_all nat_cmp low (map (as_part table) states))
    ∙ below_is table low states (λ other c. above other (tail_in state other states c))

rest_rises : (first : ℕ) (rest : List ℕ) → IsStrictlyIncreasing (first ∷ rest) → IsStrictlyIncreasing rest
rest_rises first rest rise k within =
    let next : suc k + 1 ≡ suc (k + 1) = omega arith in
    subst (λ (n : ℕ). slice_index rest k < slice_index (first ∷ rest) n) next (rise (suc k) (omega (arith, within)))

first_below : (first : ℕ) (rest : List ℕ) → IsStrictlyIncreasing (first ∷ rest) → (other : ℕ) → Contains rest other → first < other
first_below first rest rise other c =
    let within = c.1 in
    subst (λ (n : ℕ). first < n) c.2 (AllPairs-from_increasing (first ∷ rest) rise 0 (suc c.0) other (omega arith) (omega (arith, within)))

rises : (table : Table) (states : List SubState) → IsStrictlyIncreasing (map id_of states) → is_sorted nat_cmp (map (as_part table) states) ≡ true
rises table [] rise = refl
rises table (state ∷ states) rise =
    (λ i. below_is table (id_of state) states (λ other c. first_below (id_of state) (map id_of states) rise (id_of other) (map_in id_of states other c)) i && is_sorted nat_cmp (map (as_part table) states))
    ∙ rises table states (rest_rises (id_of state) (map id_of states) rise)

-- ---- the volume

sub_there : (o : Option RunSub) (sub : Subvolume) → option_map (λ (r : RunSub). r.sub) o ≡ Some sub → (r : RunSub) × (o ≡ Some r) × (r.sub ≡ sub)
sub_there None sub is = absurd cc
sub_there (Some r) sub is = (r, refl, let same : r.sub ≡ sub = cc in same)

module _ (table : Table) (states : List SubState) (run : RunVolume) (give : GiveVolume table states run) where
  part_of_state : (state : SubState) → Contains states state → GivesPart table run state
  part_of_state state c = subst (GivesPart table run) c.2 (give.each c.0 state c.1)

  there : (id : ℕ) (sub : Subvolume) → Contains (map (as_part table) states) (id, sub) → get (volume_of run) id ≡ Some sub
  there id sub c =
      let state = in_map (as_part table) states (id, sub) c in
      let part = part_of_state state.0 state.1 in
      let number : id ≡ id_of state.0 = sym (ap (λ (p : ℕ × Subvolume). p.0) state.2) in
      get_volume_of run id ∙ ap (λ (n : ℕ). option_map (λ (r : RunSub). r.sub) (get run n)) number ∙ ap (option_map (λ (r : RunSub). r.sub)) part.there
      ∙ ap Some (sym (run_is_seen table state.0 part.sub part.gives) ∙ ap (λ (p : ℕ × Subvolume). p.1) state.2)

  back : (id : ℕ) (sub : Subvolume) → get (volume_of run) id ≡ Some sub → Contains (map (as_part table) states) (id, sub)
  back id sub h =
      let r = sub_there (get run id) sub (sym (get_volume_of run id) ∙ h) in
      let state = in_map id_of states id (give.only id r.0 r.1) in
      let part = part_of_state state.0 state.1 in
      let same : Some part.sub ≡ Some r.0 = sym part.there ∙ ap (get run) state.2 ∙ r.1 in
      let one : part.sub ≡ r.0 = cc in
      let is : as_part table state.0 ≡ (id, sub) = λ i. (state.2 i, (run_is_seen table state.0 part.sub part.gives ∙ ap (λ (x : RunSub). x.sub) one ∙ r.2) i) in
      subst (Contains (map (as_part table) states)) is (map_in (as_part table) states state.0 state.1)

  entries_are : entries (volume_of run) ≡ map (as_part table) states
  entries_are =
      sym (ap entries (gives_map nat_cmp_total nat_cmp-IsAntisymmetric (map (as_part table) states) (volume_of run) there back))
      ∙ entries_rising nat_cmp_total (map (as_part table) states) (rises table states give.rising)

  sum_by_map : {A B : Type 0} (f : B → ℕ) (g : A → B) (xs : List A) → sum_by f (map g xs) ≡ sum_by (λ x. f (g x)) xs
  sum_by_map f g [] = refl
  sum_by_map f g (x ∷ xs) = sum_by-cons f (g x) (map g xs) ∙ ap (λ n. f (g x) + n) (sum_by_map f g xs) ∙ sym (sum_by-cons (λ y. f (g y)) x xs)

  -- the listing is that of the subvolumes that are seen, in the order of the states
  pub listing_is : listing_of (volume_of run) ≡ flat_map (part_at table) states ++ done_line (sum_by (count_at table) states)
  unfolding listing_of
  listing_is =
      ap (λ (es : List (ℕ × Subvolume)). flat_map part_of es ++ done_line (sum_by (λ (e : ℕ × Subvolume). count_of e.1) es)) entries_are
      ∙ (λ i. flat_map-map part_of (as_part table) states i ++ done_line (sum_by_map (λ (e : ℕ × Subvolume). count_of e.1) (as_part table) states i))

-- each of the states gives a subvolume
pub all_given : (table : Table) (states : List SubState) → (run : RunVolume) × GiveVolume table states run → All (IsGiven table) states
all_given table states (run, give) = All-weaker (GivesPart table run) (IsGiven table) (λ state part. (part.sub, part.gives)) states give.each
