-- How many blocks are Free behind a change, and lists of addresses in which none stands twice.
use Rattle.std.proofs.Common.{◌≡◌, ◌≢◌, ◌≤◌, ◌+◌, ◌*◌, ◌/◌, ◌&&◌, ℕ, suc, Bool, true, false, not, List, [], ◌∷◌, Contains, filter, length, nat_eq, nat_le, slice_index_or, refl, sym, ap, subst, ◌∙◌, arith, inl, inr, if◌then◌else◌}
use Rattle.std.specs.Prelude.{◌==◌}
use Rattle.std.proofs.lemmas.Bool.{cases_Bool, eq-eqb, eqb-true, le-leb, leb-true, ne_eqb, true≢false}
use Rattle.std.proofs.lemmas.List.Elements.{All-contains_itself, All-weaker}
use Rattle.blk_base.specs.declared.format.TheConstants.{COPY_BLOCK, FIRST_BLOCK}
use Rattle.blk_base.specs.Trees.{NoneTwice}
use Rattle.blk_base.proofs.Members.{in_cons, in_head, in_nothing}
use Rattle.block_table.specs.declared.state.SlotState.{SlotState}
use Rattle.block_table.specs.declared.state.SlotState.TheVariants.{Dirty, Free, LetGo, Live, Sealed}
use Rattle.block_table.specs.Slot.{BlockSlot, free_slot, is_free}
use Rattle.block_table.specs.Table.{Table, free_blocks, free_from, free_one, is_free_block}
use Rattle.block_table.specs.TreeIn.{block_at}
use Rattle.tree_range.proofs.Under.{filter_all}
use Rattle.volume_image.proofs.Members.{in_filter}
use Rattle.table_commit.proofs.Settled.{block_of}

-- ---- lists

others : ℕ → List ℕ → List ℕ
others n xs = filter (λ x. not (nat_eq n x)) xs

once_filter : (p : ℕ → Bool) (xs : List ℕ) → NoneTwice xs → NoneTwice (filter p xs)
once_filter p [] once = tt
once_filter p (x ∷ xs) once = elim (cases_Bool (p x)) [
  | inl kept ↦ rw kept ((λ c. once.0 (in_filter p xs x c).0), once_filter p xs once.1)
  | inr gone ↦ rw gone (once_filter p xs once.1)
]

one_less : (n : ℕ) (xs : List ℕ) → NoneTwice xs → length xs ≤ 1 + length (others n xs)
unfolding others
one_less n [] once = omega arith
one_less n (x ∷ xs) once = elim (cases_Bool (nat_eq n x)) [
  | inl same ↦
      let is = eqb-true n x same in
      let rest : others n xs ≡ xs = filter_all (λ y. not (nat_eq n y)) xs (All-weaker (Contains xs) (λ (y : ℕ). not (nat_eq n y) ≡ true) (λ y c. ap not (ne_eqb n y (λ e. once.0 (subst (λ (m : ℕ). Contains xs m) (sym e ∙ is) c)))) xs (All-contains_itself xs)) in
      let long = ap length rest in
      rw same (omega arith)
  | inr other ↦ let rest = one_less n xs once.1 in rw other (omega arith)
]

-- a list in which none stands twice is no longer than one that has all of its addresses
pub once_fits : (within xs : List ℕ) → NoneTwice xs → ((x : ℕ) → Contains xs x → Contains within x) → length xs ≤ length within
unfolding others
once_fits [] [] once all = omega arith
once_fits [] (x ∷ xs) once all = absurd (in_nothing x (all x (in_head x x xs refl)))
once_fits (n ∷ ns) xs once all =
    let rest = once_fits ns (others n xs) (once_filter (λ x. not (nat_eq n x)) xs once) (λ x c.
    let kept = in_filter (λ y. not (nat_eq n y)) xs x c in
    elim (in_cons n x ns (all x kept.0)) [
      | inl same ↦ absurd (true≢false (sym kept.1 ∙ ap not (eq-eqb n x same)))
      | inr later ↦ later
    ]) in
    let less = one_less n xs once in
    omega arith

-- ---- Free blocks

one : Bool → ℕ
one b = if b then 1 else 0

one_true : (b : Bool) → b ≡ true → one b ≡ 1
unfolding one
one_true true e = refl
one_true false e = absurd cc

one_false : (b : Bool) → b ≡ false → one b ≡ 0
unfolding one
one_false false e = refl
one_false true e = absurd cc

one_most : (b : Bool) → one b ≤ 1
unfolding one
one_most true = omega arith
one_most false = omega arith

-- how many of these addresses have this number or a greater one
above : ℕ → List ℕ → ℕ
above n [] = 0
above n (at ∷ ats) = one (nat_le n (at / 4096)) + above n ats

above_none : (n : ℕ) → above n [] ≡ 0
unfolding above
above_none n = refl

above_first : (n at : ℕ) (ats : List ℕ) → above n (at ∷ ats) ≡ one (nat_le n (at / 4096)) + above n ats
unfolding above
above_first n at ats = refl

above_length : (n : ℕ) (ats : List ℕ) → above n ats ≤ length ats
above_length n [] = omega (arith, above_none n)
above_length n (at ∷ ats) =
    omega (arith, above_first n at ats, one_most (nat_le n (at / 4096)), above_length n ats)

one_falls : (n k : ℕ) → one (nat_le (n + 1) k) ≤ one (nat_le n k)
one_falls n k = elim (cases_Bool (nat_le (n + 1) k)) [
  | inl is_low ↦
      let low : n + 1 ≤ k = leb-true (n + 1) k is_low in
      omega (arith, one_most (nat_le (n + 1) k), one_true (nat_le n k) (le-leb n k (omega (arith, low))))
  | inr past_it ↦ omega (arith, one_false (nat_le (n + 1) k) past_it)
]

above_falls : (n : ℕ) (ats : List ℕ) → above (n + 1) ats ≤ above n ats
above_falls n [] = omega (arith, above_none n, above_none (n + 1))
above_falls n (at ∷ ats) =
    omega (arith, above_first n at ats, above_first (n + 1) at ats, one_falls n (at / 4096), above_falls n ats)

above_less : (n : ℕ) (ats : List ℕ) → Contains ats (n * 4096) → above (n + 1) ats + 1 ≤ above n ats
above_less n [] there = absurd (in_nothing (n * 4096) there)
above_less n (at ∷ ats) there = elim (in_cons at (n * 4096) ats there) [
  | inl same ↦
      let number : at / 4096 ≡ n = omega (arith, same) in
      let here : one (nat_le n (at / 4096)) ≡ 1 = one_true (nat_le n (at / 4096)) (le-leb n (at / 4096) (omega (arith, number))) in
      let past : one (nat_le (n + 1) (at / 4096)) ≡ 0 = elim (cases_Bool (nat_le (n + 1) (at / 4096))) [
        | inl is_low ↦ absurd (let low : n + 1 ≤ at / 4096 = leb-true (n + 1) (at / 4096) is_low in omega (arith, low, number))
        | inr past_it ↦ one_false (nat_le (n + 1) (at / 4096)) past_it
      ] in
      omega (arith, above_first n at ats, above_first (n + 1) at ats, here, past, above_falls n ats)
  | inr later ↦ omega (arith, above_first n at ats, above_first (n + 1) at ats, one_falls n (at / 4096), above_less n ats later)
]

free_counts : (n : ℕ) (slot : BlockSlot) → free_one n slot ≡ one (is_free_block n slot)
unfolding one
free_counts n slot = refl

free_falls_from : (n : ℕ) (xs ys : List BlockSlot) (fresh : List ℕ) → length xs ≡ length ys → ((k : ℕ) → is_free_block (n + k) (slice_index_or xs k free_slot) ≡ true → is_free_block (n + k) (slice_index_or ys k free_slot) ≡ false → Contains fresh ((n + k) * 4096)) → free_from n xs ≤ free_from n ys + above n fresh
free_falls_from n [] ys fresh size taken = omega arith
free_falls_from n (x ∷ xs) [] fresh size taken = absurd (omega (arith, size))
free_falls_from n (x ∷ xs) (y ∷ ys) fresh size taken =
    let next : (k : ℕ) → n + suc k ≡ n + 1 + k = λ k. omega arith in
    let rest : free_from (n + 1) xs ≤ free_from (n + 1) ys + above (n + 1) fresh = free_falls_from (n + 1) xs ys fresh (omega (arith, size)) (λ k was is.
    subst (λ (m : ℕ). Contains fresh (m * 4096)) (next k) (taken (suc k)
    (subst (λ (m : ℕ). is_free_block m (slice_index_or xs k free_slot) ≡ true) (sym (next k)) was)
    (subst (λ (m : ℕ). is_free_block m (slice_index_or ys k free_slot) ≡ false) (sym (next k)) is))) in
    let zero_more : n + 0 ≡ n = omega arith in
    elim (cases_Bool (is_free_block n x)) [
      | inr not_free ↦ omega (arith, rest, free_counts n x, one_false (is_free_block n x) not_free, above_falls n fresh)
      | inl free ↦ elim (cases_Bool (is_free_block n y)) [
        | inl still ↦ omega (arith, rest, free_counts n x, free_counts n y, one_true (is_free_block n x) free, one_true (is_free_block n y) still, above_falls n fresh)
        | inr gone ↦
            let there : Contains fresh (n * 4096) = subst (λ (m : ℕ). Contains fresh (m * 4096)) zero_more (taken 0 (subst (λ (m : ℕ). is_free_block m x ≡ true) (sym zero_more) free) (subst (λ (m : ℕ). is_free_block m y ≡ false) (sym zero_more) gone)) in
            omega (arith, rest, free_counts n x, one_true (is_free_block n x) free, above_less n fresh there)
      ]
    ]

last_true : (a b : Bool) → (a && b) ≡ true → b ≡ true
last_true true b e = e
last_true false b e = absurd cc

last_false : (a b c : Bool) → (a && b) ≡ true → (a && c) ≡ false → c ≡ false
last_false true b c e f = f
last_false false b c e f = absurd cc

free_state : (state : SlotState) → is_free state ≡ true → state ≡ Free
free_state Free e = refl
free_state Dirty e = absurd cc
free_state Sealed e = absurd cc
free_state Live e = absurd cc
free_state LetGo e = absurd cc

not_free_state : (state : SlotState) → is_free state ≡ false → state ≢ Free
not_free_state state e free = true≢false (sym (ap is_free free) ∙ e)

-- a change takes at most the blocks that it makes something else of than Free
pub free_falls : (old new : Table) (fresh : List ℕ) → length new.slots ≡ length old.slots → ((at : ℕ) → (block_at old at).state ≡ Free → (block_at new at).state ≢ Free → Contains fresh at) → free_blocks old ≤ free_blocks new + length fresh
free_falls old new fresh size taken =
    let counted = free_falls_from 0 old.slots new.slots fresh (sym size) (λ k was is.
    let usable : Bool = nat_le FIRST_BLOCK (0 + k) && not ((0 + k) == COPY_BLOCK) in
    let same : k ≡ 0 + k = omega arith in
    let before : (block_at old (k * 4096)).state ≡ Free = ap (λ (slot : BlockSlot). slot.state) (block_of old k) ∙ free_state (slice_index_or old.slots k free_slot).state (last_true usable (is_free (slice_index_or old.slots k free_slot).state) was) in
    let behind : (block_at new (k * 4096)).state ≢ Free = λ free. not_free_state (slice_index_or new.slots k free_slot).state (last_false usable (is_free (slice_index_or old.slots k free_slot).state) (is_free (slice_index_or new.slots k free_slot).state) was is) (ap (λ (slot : BlockSlot). slot.state) (sym (block_of new k)) ∙ free) in
    subst (λ (m : ℕ). Contains fresh (m * 4096)) same (taken (k * 4096) before behind)) in
    omega (arith, counted, above_length 0 fresh)
