-- Blocks that were let go, by their byte addresses.
use Rattle.std.proofs.Common.{◌≡◌, ◌≢◌, ◌∙◌, ◌⊎◌, ◌+◌, ◌*◌, ◌/◌, ◌<◌, ◌≤◌, ℕ, zero, suc, Bool, true, false, List, [], ◌∷◌, ◌++◌, length, drop, slice_index_or, if◌then◌else◌, refl, sym, ap, subst, inl, inr, arith, le_of_suc-le-suc}
use Rattle.std.specs.Prelude.{◌↔◌, All, Contains}
use Rattle.std.proofs.lemmas.List.{append-nil, append_assoc, drop_all, drop_more, length_push}
use Rattle.std.proofs.lemmas.List.Elements.{All-contains_itself, All-map, All-weaker}
use Rattle.blk_base.specs.declared.key.Addr.{Addr}
use Rattle.blk_base.specs.Trees.{NoneTwice}
use Rattle.blk_base.proofs.Members.{in_cons, in_nothing}
use Rattle.block_table.specs.declared.state.SlotState.{SlotState}
use Rattle.block_table.specs.declared.state.SlotState.TheVariants.{Free, Dirty, Sealed, Live, LetGo}
use Rattle.block_table.specs.Slot.{BlockSlot, free_slot, is_free}
use Rattle.block_table.specs.Table.{Table, state_at}
use Rattle.block_table.specs.TreeIn.{block_at}
use Rattle.block_table.proofs.Kept.{found}
use Rattle.table_commit.specs.Commit.{AreReleasable, IsReleasable, NoneOut, addresses_of, at_number, is_let_go, let_go_addresses, let_go_from, settled, with_each}
use Rattle.table_commit.proofs.Settled.{block_of, none_out_at, settled_at, settled_other}

-- ---- lists of any kind

contains_none : {X : Type 0} (x : X) → Contains [] x → ⊥
contains_none x h = let inside = h.1 in omega arith

contains_cons : {X : Type 0} (x y : X) (xs : List X) → Contains (x ∷ xs) y → (x ≡ y) ⊎ Contains xs y
contains_cons x y xs h = go h.0 h.1 h.2
  where
    go : (k : ℕ) → k < length (x ∷ xs) → slice_index_or (x ∷ xs) k y ≡ y → (x ≡ y) ⊎ Contains xs y
    go zero inside is = inl is
    go (suc k) inside is = inr (k, le_of_suc-le-suc inside, is)

contains_head : {X : Type 0} (x : X) (xs : List X) → Contains (x ∷ xs) x
contains_head x xs = (0, omega arith, refl)

contains_tail : {X : Type 0} (x y : X) (xs : List X) → Contains xs y → Contains (x ∷ xs) y
contains_tail x y xs h = (suc h.0, omega (arith, h.1), h.2)

-- ---- the first block

is_let_go_true : (state : SlotState) → is_let_go state ≡ true → state ≡ LetGo
is_let_go_true Free h = absurd cc
is_let_go_true Dirty h = absurd cc
is_let_go_true Sealed h = absurd cc
is_let_go_true Live h = absurd cc
is_let_go_true LetGo h = refl

not_let_go : (state : SlotState) → state ≢ LetGo → is_let_go state ≡ false
not_let_go Free h = refl
not_let_go Dirty h = refl
not_let_go Sealed h = refl
not_let_go Live h = refl
not_let_go LetGo h = absurd (h refl)

first_let_go : (number : ℕ) (slot : BlockSlot) (slots : List BlockSlot) → slot.state ≡ LetGo → let_go_from number (slot ∷ slots) ≡ at_number number ∷ let_go_from (number + 1) slots
first_let_go number slot slots is =
    ap (λ (b : Bool). if b then at_number number ∷ let_go_from (number + 1) slots else let_go_from (number + 1) slots) (ap is_let_go is)

first_other : (number : ℕ) (slot : BlockSlot) (slots : List BlockSlot) → slot.state ≢ LetGo → let_go_from number (slot ∷ slots) ≡ let_go_from (number + 1) slots
first_other number slot slots other =
    ap (λ (b : Bool). if b then at_number number ∷ let_go_from (number + 1) slots else let_go_from (number + 1) slots) (not_let_go slot.state other)

pub is_gone : (state : SlotState) → (state ≡ LetGo) ⊎ (state ≢ LetGo)
is_gone Free = inr (λ h. absurd cc)
is_gone Dirty = inr (λ h. absurd cc)
is_gone Sealed = inr (λ h. absurd cc)
is_gone Live = inr (λ h. absurd cc)
is_gone LetGo = inl refl

-- ---- which addresses are noted

pub record IsGoneNumber (number : ℕ) (slots : List BlockSlot) (at : Addr) : Type 0 where
  pub place : ℕ
  pub inside : place < length slots
  pub state : (slice_index_or slots place free_slot).state ≡ LetGo
  pub is : at ≡ at_number (number + place)

behind_first : (number : ℕ) (slot : BlockSlot) (slots : List BlockSlot) (at : Addr) → IsGoneNumber (number + 1) slots at → IsGoneNumber number (slot ∷ slots) at
behind_first number slot slots at h =
    let same : number + 1 + h.place ≡ number + suc h.place = omega arith in
    record { place = suc h.place; inside = omega (arith, h.inside); state = h.state; is = h.is ∙ ap at_number same }

gone_number : (number : ℕ) (slots : List BlockSlot) (at : Addr) → Contains (let_go_from number slots) at → IsGoneNumber number slots at
gone_number number [] at h = absurd (contains_none at h)
gone_number number (slot ∷ slots) at h = elim (is_gone slot.state) [
  | inl is ↦ elim (contains_cons (at_number number) at (let_go_from (number + 1) slots) (subst (λ (l : List Addr). Contains l at) (first_let_go number slot slots is) h)) [
    | inl here ↦ let same : number ≡ number + 0 = omega arith in record { place = 0; inside = omega arith; state = is; is = sym here ∙ ap at_number same }
    | inr behind ↦ behind_first number slot slots at (gone_number (number + 1) slots at behind)
  ]
  | inr other ↦ behind_first number slot slots at (gone_number (number + 1) slots at (subst (λ (l : List Addr). Contains l at) (first_other number slot slots other) h))
]

number_gone : (number : ℕ) (slots : List BlockSlot) (place : ℕ) → place < length slots → (slice_index_or slots place free_slot).state ≡ LetGo → Contains (let_go_from number slots) (at_number (number + place))
number_gone number [] place inside state = absurd (omega arith)
number_gone number (slot ∷ slots) zero inside state =
    let same : number ≡ number + 0 = omega arith in
    subst (λ (n : ℕ). Contains (let_go_from number (slot ∷ slots)) (at_number n)) same (subst (λ (l : List Addr). Contains l (at_number number)) (sym (first_let_go number slot slots state)) (contains_head (at_number number) (let_go_from (number + 1) slots)))
number_gone number (slot ∷ slots) (suc place) inside state =
    let same : number + 1 + place ≡ number + suc place = omega arith in
    let behind : Contains (let_go_from (number + 1) slots) (at_number (number + suc place)) = subst (λ (n : ℕ). Contains (let_go_from (number + 1) slots) (at_number n)) same (number_gone (number + 1) slots place (omega (arith, inside)) state) in
    elim (is_gone slot.state) [
      | inl is ↦ subst (λ (l : List Addr). Contains l (at_number (number + suc place))) (sym (first_let_go number slot slots is)) (contains_tail (at_number number) (at_number (number + suc place)) (let_go_from (number + 1) slots) behind)
      | inr other ↦ subst (λ (l : List Addr). Contains l (at_number (number + suc place))) (sym (first_other number slot slots other)) behind
    ]

is_taken : (state : SlotState) → state ≡ LetGo → is_free state ≡ false
is_taken state h = ap is_free h

gone_state : (table : Table) (at : Addr) → Contains (let_go_addresses table) at → state_at table at ≡ LetGo
gone_state table at h =
    let there = gone_number 0 table.slots at h in
    let same : 0 + there.place ≡ there.place = omega arith in
    ap (λ (a : Addr). state_at table a) (there.is ∙ ap at_number same) ∙ ap (λ (slot : BlockSlot). slot.state) (block_of table there.place) ∙ there.state

state_gone : (table : Table) (at : Addr) → state_at table at ≡ LetGo → Contains (let_go_addresses table) at
state_gone table at h =
    let there = found table at (is_taken (state_at table at) h) in
    let whole : (0 + at.0 / 4096) * 4096 ≡ at.0 = omega (arith, there.aligned) in
    subst (λ (n : ℕ). Contains (let_go_addresses table) (record { 0 = n })) whole
    (number_gone 0 table.slots (at.0 / 4096) there.inside (ap (λ (slot : BlockSlot). slot.state) (sym there.is) ∙ h))

-- the addresses that are noted are those of the LetGo blocks
pub noted_is : (table : Table) (at : Addr) → Contains (let_go_addresses table) at ↔ (state_at table at ≡ LetGo)
noted_is table at = (gone_state table at, state_gone table at)

-- ---- none is noted twice

noted_above : (number : ℕ) (slots : List BlockSlot) (at : ℕ) → Contains (addresses_of (let_go_from number slots)) at → number * 4096 ≤ at
noted_above number [] at h = absurd (in_nothing at h)
noted_above number (slot ∷ slots) at h = elim (is_gone slot.state) [
  | inl is ↦ elim (in_cons (number * 4096) at (addresses_of (let_go_from (number + 1) slots)) (subst (λ (l : List Addr). Contains (addresses_of l) at) (first_let_go number slot slots is) h)) [
    | inl here ↦ omega (arith, here)
    | inr behind ↦ let above = noted_above (number + 1) slots at behind in omega (arith, above)
  ]
  | inr other ↦ let above = noted_above (number + 1) slots at (subst (λ (l : List Addr). Contains (addresses_of l) at) (first_other number slot slots other) h) in omega (arith, above)
]

once_from : (number : ℕ) (slots : List BlockSlot) → NoneTwice (addresses_of (let_go_from number slots))
once_from number [] = tt
once_from number (slot ∷ slots) = elim (is_gone slot.state) [
  | inl is ↦ subst (λ (l : List Addr). NoneTwice (addresses_of l)) (sym (first_let_go number slot slots is)) (λ there. let above = noted_above (number + 1) slots (number * 4096) there in omega (arith, above), once_from (number + 1) slots)
  | inr other ↦ subst (λ (l : List Addr). NoneTwice (addresses_of l)) (sym (first_other number slot slots other)) (once_from (number + 1) slots)
]

pub noted_once : (table : Table) → NoneTwice (addresses_of (let_go_addresses table))
noted_once table = once_from 0 table.slots

-- ---- they may be released where no list has a block of the table

pub noted_ready : (table : Table) → NoneOut table → AreReleasable table (addresses_of (let_go_addresses table))
noted_ready table none =
    let each : All (λ (at : Addr). IsReleasable (block_at table at.0)) (let_go_addresses table) = All-weaker (Contains (let_go_addresses table)) (λ (at : Addr). IsReleasable (block_at table at.0)) (λ at there. record { let_go = gone_state table at there; back = (none_out_at table none at.0).let_go (gone_state table at there) }) (let_go_addresses table) (All-contains_itself (let_go_addresses table)) in
    All-map (λ (at : ℕ). IsReleasable (block_at table at)) (λ (at : Addr). at.0) (let_go_addresses table) each

-- as Sealed blocks are settled, such blocks stay as they are
pub settled_ready : (table : Table) (reach : List ℕ) → AreReleasable table reach → AreReleasable (with_each settled table) reach
settled_ready table reach ready =
    All-weaker (λ (at : ℕ). IsReleasable (block_at table at)) (λ (at : ℕ). IsReleasable (block_at (with_each settled table) at))
    (λ at is. subst IsReleasable (sym (settled_at table at ∙ settled_other (block_at table at) (λ sealed. gone_apart (block_at table at).state is.let_go sealed))) is) reach ready
  where
    gone_apart : (state : SlotState) → state ≡ LetGo → state ≡ Sealed → ⊥
    gone_apart state gone sealed = cc

-- ---- the list as it grows

-- those of the blocks in front of a number are noted
pub record AreNoted (table : Table) (items : List Addr) (number : ℕ) : Type 0 where
  pub whole : let_go_addresses table ≡ items ++ let_go_from number (drop number table.slots)
  pub few : length items ≤ number

pub noted_none : (table : Table) (items : List Addr) → items ≡ [] → AreNoted table items 0
noted_none table items none = record {
  whole = ap (λ (l : List Addr). l ++ let_go_addresses table) (sym none);
  few = let long = ap (λ (l : List Addr). length l) none in omega (arith, long);
}

pub noted_all : (table : Table) (items : List Addr) (number : ℕ) → length table.slots ≤ number → AreNoted table items number → items ≡ let_go_addresses table
noted_all table items number past h =
    sym (h.whole ∙ ap (λ (l : List BlockSlot). items ++ let_go_from number l) (drop_all number table.slots past) ∙ append-nil items)

module _ (table : Table) (items : List Addr) (number : ℕ) (h : AreNoted table items number) (inside : number < length table.slots) (at : Addr) (at_is : at ≡ at_number number) where
  abbrev slot : BlockSlot
  slot = slice_index_or table.slots number free_slot

  state_is : state_at table at ≡ slot.state
  state_is = ap (λ (a : Addr). state_at table a) at_is ∙ ap (λ (s : BlockSlot). s.state) (block_of table number)

  cut : drop number table.slots ≡ slot ∷ drop (number + 1) table.slots
  cut = drop_more table.slots number free_slot inside

  pub noted_more : state_at table at ≡ LetGo → AreNoted table (items ++ at ∷ []) (number + 1)
  noted_more is = record {
    whole = h.whole ∙ ap (λ (l : List BlockSlot). items ++ let_go_from number l) cut ∙ ap (λ (l : List Addr). items ++ l) (first_let_go number slot (drop (number + 1) table.slots) (sym state_is ∙ is))
        ∙ ap (λ (a : Addr). items ++ a ∷ let_go_from (number + 1) (drop (number + 1) table.slots)) (sym at_is) ∙ sym (append_assoc items (at ∷ []) (let_go_from (number + 1) (drop (number + 1) table.slots)));
    few = omega (arith, h.few, length_push items at);
  }

  pub noted_past : state_at table at ≢ LetGo → AreNoted table items (number + 1)
  noted_past other = record {
    whole = h.whole ∙ ap (λ (l : List BlockSlot). items ++ let_go_from number l) cut ∙ ap (λ (l : List Addr). items ++ l) (first_other number slot (drop (number + 1) table.slots) (λ is. other (state_is ∙ is)));
    few = omega (arith, h.few);
  }
