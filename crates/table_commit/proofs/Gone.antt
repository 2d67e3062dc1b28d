-- Blocks that go: one, and some behind others.
use Rattle.std.proofs.Common.{◌≡◌, ◌≢◌, ◌∙◌, ◌⊎◌, ◌+◌, ◌<◌, ◌/◌, ◌%◌, ◌==◌, ◌&&◌, ℕ, Bool, true, false, not, nat_le, nat_lt, List, [], ◌∷◌, ◌++◌, length, slice_index_or, if◌then◌else◌, None, refl, sym, ap, subst, inl, inr, arith}
use Rattle.std.specs.Prelude.{◌↔◌, All, Contains}
use Rattle.std.specs.List.{sum_by}
use Rattle.std.proofs.lemmas.Bool.{eq-eqb, lt-ltb}
use Rattle.std.proofs.lemmas.List.{append-nil, append_assoc, map-append}
use Rattle.std.proofs.lemmas.List.Elements.{All-contains, All-contains_itself, All-head, All-tail, All-weaker, Contains-append_right}
use Rattle.std.proofs.lemmas.List.Sums.{sum_by-cons}
use Rattle.blk_base.specs.declared.format.TheConstants.{COPY_BLOCK, FIRST_BLOCK}
use Rattle.blk_base.specs.declared.key.Addr.{Addr}
use Rattle.blk_base.specs.Address.{IsAllowed, is_allowed}
use Rattle.blk_base.specs.Trees.{NoneTwice}
use Rattle.blk_base.proofs.AddressLemmas.{is_allowed-true}
use Rattle.blk_base.proofs.Members.{in_cons, in_head, in_nothing, in_one, in_tail, once_right}
use Rattle.block_table.specs.declared.state.SlotState.{SlotState}
use Rattle.block_table.specs.declared.state.SlotState.TheVariants.{Free, Dirty, Sealed, Live, LetGo}
use Rattle.block_table.specs.Slot.{BlockSlot, free_slot, is_free}
use Rattle.block_table.specs.Table.{Table, free_blocks, free_one, slot_at, state_at, with_slot, with_spare}
use Rattle.block_table.specs.TreeIn.{block_at}
use Rattle.block_table.proofs.Counts.{free_one-taken}
use Rattle.block_table.proofs.Kept.{IsFound, found, taken_state}
use Rattle.block_table.proofs.Laws.{free_blocks-with_slot}
use Rattle.tree_range.specs.Shape.{AreAlike}
use Rattle.tree_blocks.specs.Steps.{IsSameBut}
use Rattle.tree_blocks.proofs.Put.{put_last, put_others, put_slot, put_taken}
use Rattle.tree_frame.specs.Frame.{IsEdit, IsLeft, TakesAtMost}
use Rattle.tree_frame.proofs.EditLaws.{is_dirty}
use Rattle.table_commit.specs.Commit as commit
use Rattle.table_commit.specs.Commit.{AreGone, AreLetGo, AreReleasable, AreReleased, IsReleased, IsReleasable, addresses_of, allowed_in, dirty_in, dirty_one}

-- ---- sums over blocks

pub sum_same : (f g : ℕ → ℕ) (xs : List ℕ) → All (λ x. f x ≡ g x) xs → sum_by f xs ≡ sum_by g xs
sum_same f g [] h = refl
sum_same f g (x ∷ xs) h =
    omega (arith, sum_by-cons f x xs, sum_by-cons g x xs, All-head (λ y. f y ≡ g y) x xs h, sum_same f g xs (All-tail (λ y. f y ≡ g y) x xs h))

pub sum_ones : (f : ℕ → ℕ) (xs : List ℕ) → All (λ x. f x ≡ 1) xs → sum_by f xs ≡ length xs
sum_ones f [] h = refl
sum_ones f (x ∷ xs) h =
    omega (arith, sum_by-cons f x xs, All-head (λ y. f y ≡ 1) x xs h, sum_ones f xs (All-tail (λ y. f y ≡ 1) x xs h))

pub sum_none : (f : ℕ → ℕ) (xs : List ℕ) → All (λ x. f x ≡ 0) xs → sum_by f xs ≡ 0
sum_none f [] h = refl
sum_none f (x ∷ xs) h =
    omega (arith, sum_by-cons f x xs, All-head (λ y. f y ≡ 0) x xs h, sum_none f xs (All-tail (λ y. f y ≡ 0) x xs h))

sum_one : (f : ℕ → ℕ) (x : ℕ) → sum_by f (x ∷ []) ≡ f x
sum_one f x = let is = sum_by-cons f x [] in let none : sum_by f [] ≡ 0 = refl in omega (arith, is, none)

-- a list with one more address in front has it, or the address alone
pub in_either : (x : ℕ) (xs : List ℕ) (at : ℕ) → Contains (x ∷ xs) at ↔ (Contains xs at ⊎ Contains (x ∷ []) at)
in_either x xs at = (
  λ h. elim (in_cons x at xs h) [ inl here ↦ inr (in_head x at [] here) | inr behind ↦ inl behind ],
  λ h. elim h [ inl behind ↦ in_tail x at xs behind | inr here ↦ in_head x at xs (in_one x at here) ],
)

-- ---- how many blocks come back

abbrev usable : ℕ → ℕ → ℕ
usable blocks at = if is_allowed blocks at then 1 else 0

pub all_allowed : (blocks : ℕ) (reach : List ℕ) → All (IsAllowed blocks) reach → allowed_in blocks reach ≡ length reach
all_allowed blocks reach all =
    sum_ones (usable blocks) reach (All-weaker (IsAllowed blocks) (λ (at : ℕ). usable blocks at ≡ 1) (λ at is. ap (λ (b : Bool). if b then 1 else 0) (is_allowed-true blocks at is)) reach all)

dirty_is : (state : SlotState) → state ≢ Dirty → commit.is_dirty state ≡ false
dirty_is Free h = refl
dirty_is Dirty h = absurd (h refl)
dirty_is Sealed h = refl
dirty_is Live h = refl
dirty_is LetGo h = refl

one_dirty : (slot : BlockSlot) → slot.state ≡ Dirty → dirty_one slot ≡ 1
one_dirty slot h = ap (λ (state : SlotState). if commit.is_dirty state then 1 else 0) h

none_dirty : (slot : BlockSlot) → slot.state ≢ Dirty → dirty_one slot ≡ 0
none_dirty slot h = ap (λ (b : Bool). if b then 1 else 0) (dirty_is slot.state h)

pub all_dirty : (table : Table) (reach : List ℕ) → All (λ (at : ℕ). (block_at table at).state ≡ Dirty) reach → dirty_in table reach ≡ length reach
all_dirty table reach all =
    sum_ones (λ (at : ℕ). dirty_one (block_at table at)) reach (All-weaker (λ (at : ℕ). (block_at table at).state ≡ Dirty) (λ (at : ℕ). dirty_one (block_at table at) ≡ 1) (λ at is. one_dirty (block_at table at) is) reach all)

pub all_clean : (table : Table) (reach : List ℕ) → All (λ (at : ℕ). (block_at table at).state ≢ Dirty) reach → dirty_in table reach ≡ 0
all_clean table reach all =
    sum_none (λ (at : ℕ). dirty_one (block_at table at)) reach (All-weaker (λ (at : ℕ). (block_at table at).state ≢ Dirty) (λ (at : ℕ). dirty_one (block_at table at) ≡ 0) (λ at is. none_dirty (block_at table at) is) reach all)

-- ---- blocks that go behind others

module _ (becomes : BlockSlot → BlockSlot → Type 0) where
  pub gone_none : (table : Table) → AreGone becomes table table [] 0 0
  gone_none table = record {
    size = refl;
    lists = refl;
    each = λ at there. absurd (in_nothing at there);
    others = λ at none. refl;
    spare = omega arith;
    free = omega arith;
  }

  pub gone_recounted : (old new : Table) (reach : List ℕ) (buffers usable buffers' usable' : ℕ) → AreGone becomes old new reach buffers usable → buffers ≡ buffers' → usable ≡ usable' → AreGone becomes old new reach buffers' usable'
  gone_recounted old new reach buffers usable buffers' usable' gone same also =
      record { size = gone.size; lists = gone.lists; each = gone.each; others = gone.others; spare = omega (arith, gone.spare, same); free = omega (arith, gone.free, also) }

  pub gone_joined : (old mid new : Table) (one two all : List ℕ) (buffers usable buffers' usable' : ℕ) → AreGone becomes old mid one buffers usable → AreGone becomes mid new two buffers' usable'
      → ((at : ℕ) → Contains one at → Contains two at → ⊥) → ((at : ℕ) → Contains all at ↔ (Contains one at ⊎ Contains two at)) → AreGone becomes old new all (buffers + buffers') (usable + usable')
  gone_joined old mid new one two all buffers usable buffers' usable' first later apart is = record {
    size = later.size ∙ first.size;
    lists = later.lists ∙ first.lists;
    each = λ at there. elim ((is at).0 there) [
      | inl here ↦ subst (becomes (block_at old at)) (sym (later.others at (apart at here))) (first.each at here)
      | inr here ↦ subst (λ (slot : BlockSlot). becomes slot (block_at new at)) (first.others at (λ also. apart at also here)) (later.each at here)
    ];
    others = λ at none. later.others at (λ here. none ((is at).1 (inr here))) ∙ first.others at (λ here. none ((is at).1 (inl here)));
    spare = omega (arith, first.spare, later.spare);
    free = omega (arith, first.free, later.free);
  }

  -- blocks apart from these stay as they were
  pub gone_alike : (old new : Table) (reach others : List ℕ) (buffers usable : ℕ) → AreGone becomes old new reach buffers usable → ((at : ℕ) → Contains reach at → Contains others at → ⊥) → AreAlike old new others
  gone_alike old new reach others buffers usable gone apart =
      All-weaker (Contains others) (λ (at : ℕ). block_at new at ≡ block_at old at) (λ at there. gone.others at (λ here. apart at here there)) others (All-contains_itself others)

  -- one block goes
  pub gone_one : (old new : Table) (at : Addr) (slot : BlockSlot) (spare buffers usable : ℕ) → is_free (state_at old at) ≡ false → new ≡ with_spare (with_slot old at slot) spare → spare ≡ old.spare + buffers → becomes (slot_at old at) slot → free_blocks new ≡ free_blocks old + usable → AreGone becomes old new (at.0 ∷ []) buffers usable
  gone_one old new at slot spare buffers usable taken is more so free =
      let place : IsFound old at = found old at taken in
      let rest : IsSameBut old new (at.0 ∷ []) = put_others old new at slot spare is place.aligned place.inside in
      let here : block_at new at.0 ≡ slot = put_slot old new at slot spare is place.aligned place.inside in
      record {
        size = rest.size;
        lists = rest.lists;
        each = λ a there. subst (λ (b : ℕ). becomes (block_at old b) (block_at new b)) (in_one at.0 a there) (subst (becomes (block_at old at.0)) (sym here) so);
        others = rest.others;
        spare = ap (λ (t : Table). t.spare) is ∙ more;
        free = free;
      }

-- ---- a block is released

by_tests : (a b c d : Bool) → a ≡ true → b ≡ true → ◌≡◌ {A = ℕ} (if c && d && true then 1 else 0) (if a && b && c && d then 1 else 0)
by_tests true true true true p q = refl
by_tests true true true false p q = refl
by_tests true true false d p q = refl
by_tests true false c d p q = absurd cc
by_tests false b c d p q = absurd cc

usable_one : (blocks at : ℕ) → at % 4096 ≡ 0 → at / 4096 < blocks → free_one (at / 4096) free_slot ≡ usable blocks at
usable_one blocks at aligned inside =
    by_tests (at % 4096 == 0) (nat_lt (at / 4096) blocks) (nat_le FIRST_BLOCK (at / 4096)) (not (at / 4096 == COPY_BLOCK)) (eq-eqb (at % 4096) 0 aligned) (lt-ltb (at / 4096) blocks inside)

more_usable : (a b x y z : ℕ) → a + x ≡ b + y → x ≡ 0 → y ≡ z → a ≡ b + z
more_usable a b x y z h p q = omega (arith, h, p, q)

pub released_one : (old new : Table) (at : Addr) → state_at old at ≡ LetGo → new ≡ with_spare (with_slot old at free_slot) (old.spare + 1) → AreGone IsReleased old new (at.0 ∷ []) 1 (allowed_in (length old.slots) (at.0 ∷ []))
released_one old new at state is =
    let taken : is_free (state_at old at) ≡ false = ap is_free state in
    let place : IsFound old at = found old at taken in
    let number : ℕ = at.0 / 4096 in
    let was : free_one number (slice_index_or old.slots number free_slot) ≡ 0 = free_one-taken number (slice_index_or old.slots number free_slot) (subst (λ (slot : BlockSlot). is_free slot.state ≡ false) place.is taken) in
    let counted : free_one number free_slot ≡ allowed_in (length old.slots) (at.0 ∷ []) = usable_one (length old.slots) at.0 place.aligned place.inside ∙ sym (sum_one (usable (length old.slots)) at.0) in
    let free : free_blocks new ≡ free_blocks old + allowed_in (length old.slots) (at.0 ∷ []) = ap free_blocks is ∙ more_usable (free_blocks (with_slot old at free_slot)) (free_blocks old) _ _ (allowed_in (length old.slots) (at.0 ∷ [])) (free_blocks-with_slot old at free_slot place.inside) was counted in
    gone_one IsReleased old new at free_slot (old.spare + 1) 1 (allowed_in (length old.slots) (at.0 ∷ [])) taken is refl refl free

-- ---- a block is let go

let_go_dirty : (old new : Table) (at : Addr) → IsAllowed (length old.slots) at.0 → state_at old at ≡ Dirty → new ≡ with_spare (with_slot old at free_slot) (old.spare + 1) → AreLetGo old new (at.0 ∷ [])
let_go_dirty old new at allowed dirty is =
    let taken : is_free (state_at old at) ≡ false = ap is_free dirty in
    let left : IsLeft (slot_at old at) free_slot = record { dirty = λ _. refl; written = λ other. absurd (other dirty) } in
    let count : 1 ≡ dirty_in old (at.0 ∷ []) = sym (sum_one (λ (a : ℕ). dirty_one (block_at old a)) at.0 ∙ one_dirty (slot_at old at) dirty) in
    gone_recounted IsLeft old new (at.0 ∷ []) 1 1 (dirty_in old (at.0 ∷ [])) (dirty_in old (at.0 ∷ [])) (gone_one IsLeft old new at free_slot (old.spare + 1) 1 1 taken is refl left (put_last old new at (old.spare + 1) is allowed taken)) count count

let_go_written : (old new : Table) (at : Addr) → state_at old at ≢ Free → state_at old at ≢ Dirty → new ≡ with_slot old at (record (slot_at old at) { state = LetGo; stood = None }) → AreLetGo old new (at.0 ∷ [])
let_go_written old new at there other is =
    let taken : is_free (state_at old at) ≡ false = taken_state (state_at old at) there in
    let slot : BlockSlot = record (slot_at old at) { state = LetGo; stood = None } in
    let left : IsLeft (slot_at old at) slot = record { dirty = λ dirty. absurd (other dirty); written = λ _. refl } in
    let count : 0 ≡ dirty_in old (at.0 ∷ []) = sym (sum_one (λ (a : ℕ). dirty_one (block_at old a)) at.0 ∙ none_dirty (slot_at old at) other) in
    let free = put_taken old new at slot old.spare is taken refl in
    gone_recounted IsLeft old new (at.0 ∷ []) 0 0 (dirty_in old (at.0 ∷ [])) (dirty_in old (at.0 ∷ [])) (gone_one IsLeft old new at slot old.spare 0 0 taken is (omega arith) left (omega (arith, free))) count count

pub let_go_one : (old new : Table) (at : Addr) → IsAllowed (length old.slots) at.0 → state_at old at ≢ Free → (state_at old at ≡ Dirty → new ≡ with_spare (with_slot old at free_slot) (old.spare + 1)) → (state_at old at ≢ Dirty → new ≡ with_slot old at (record (slot_at old at) { state = LetGo; stood = None })) → AreLetGo old new (at.0 ∷ [])
let_go_one old new at allowed there dirty written = elim (is_dirty (state_at old at)) [
  | inl is ↦ let_go_dirty old new at allowed is (dirty is)
  | inr other ↦ let_go_written old new at there other (written other)
]

-- blocks that were let go were edited: nothing is left of the tree or the data that they were
pub let_go_is_an_edit : (old new : Table) (reach : List ℕ) → AreLetGo old new reach → IsEdit old new reach []
let_go_is_an_edit old new reach gone = record {
  size = gone.size;
  lists = gone.lists;
  fresh = λ at here none. absurd (in_nothing at here);
  left = λ at there none. gone.each at there;
  kept = λ at there here. absurd (in_nothing at here);
  kept_whole = λ at there here written. absurd (in_nothing at here);
  others = λ at none gone_too. inl (gone.others at none);
}

pub let_go_takes_none : (old new : Table) (reach : List ℕ) → AreLetGo old new reach → TakesAtMost old new 0
let_go_takes_none old new reach gone = record { spare = omega (arith, gone.spare); free = omega (arith, gone.free) }

-- ---- the addresses of a list from its end are released

-- those that the list has no more are released
pub record AreReleasedTo (old now : Table) (whole left : List Addr) : Type 0 where
  pub done : List Addr
  pub cut : whole ≡ left ++ done
  pub gone : AreReleased old now (addresses_of done) (allowed_in (length old.slots) (addresses_of done))

pub released_none : (table : Table) (whole : List Addr) → AreReleasedTo table table whole whole
released_none table whole =
    record { done = []; cut = sym (append-nil whole); gone = gone_none IsReleased table }

pub released_all : (old now : Table) (whole left : List Addr) → left ≡ [] → AreReleasedTo old now whole left → AreReleased old now (addresses_of whole) (allowed_in (length old.slots) (addresses_of whole))
released_all old now whole left none h =
    subst (λ (l : List Addr). AreReleased old now (addresses_of l) (allowed_in (length old.slots) (addresses_of l))) (sym (h.cut ∙ ap (λ (l : List Addr). l ++ h.done) none)) h.gone

module _ (old now : Table) (whole left rest : List Addr) (at : Addr) (h : AreReleasedTo old now whole left) (last : left ≡ rest ++ at ∷ []) (once : NoneTwice (addresses_of whole)) (ready : AreReleasable old (addresses_of whole)) where
  cut_here : whole ≡ rest ++ at ∷ h.done
  cut_here = h.cut ∙ ap (λ (l : List Addr). l ++ h.done) last ∙ append_assoc rest (at ∷ []) h.done

  addresses_here : addresses_of whole ≡ addresses_of rest ++ at.0 ∷ addresses_of h.done
  addresses_here = ap addresses_of cut_here ∙ map-append (λ (a : Addr). a.0) rest (at ∷ h.done)

  apart : Contains (addresses_of h.done) at.0 → ⊥
  apart =
      (once_right (addresses_of rest) (at.0 ∷ addresses_of h.done) (subst NoneTwice addresses_here once)).0

  there : Contains (addresses_of whole) at.0
  there =
      subst (λ (l : List ℕ). Contains l at.0) (sym addresses_here) (Contains-append_right (addresses_of rest) (at.0 ∷ addresses_of h.done) at.0 (in_head at.0 at.0 (addresses_of h.done) refl))

  pub last_ready : IsReleasable (slot_at now at)
  last_ready =
      subst IsReleasable (sym (h.gone.others at.0 apart)) (All-contains (λ (a : ℕ). IsReleasable (block_at old a)) (addresses_of whole) at.0 ready there)

  pub last_released : (next : Table) → next ≡ with_spare (with_slot now at free_slot) (now.spare + 1) → AreReleasedTo old next whole rest
  last_released next is =
      let one : AreGone IsReleased now next (at.0 ∷ []) 1 (allowed_in (length old.slots) (at.0 ∷ [])) = subst (λ (n : ℕ). AreGone IsReleased now next (at.0 ∷ []) 1 (allowed_in n (at.0 ∷ []))) h.gone.size (released_one now next at last_ready.let_go is) in
      let both = gone_joined IsReleased old now next (addresses_of h.done) (at.0 ∷ []) (addresses_of (at ∷ h.done)) (length (addresses_of h.done)) (allowed_in (length old.slots) (addresses_of h.done)) 1 (allowed_in (length old.slots) (at.0 ∷ [])) h.gone one
      (λ a here also. apart (subst (Contains (addresses_of h.done)) (sym (in_one at.0 a also)) here)) (in_either at.0 (addresses_of h.done)) in
      record {
        done = at ∷ h.done;
        cut = cut_here;
        gone = gone_recounted IsReleased old next (addresses_of (at ∷ h.done)) _ _ (length (addresses_of (at ∷ h.done))) (allowed_in (length old.slots) (addresses_of (at ∷ h.done))) both (omega arith) (omega (arith, sum_by-cons (usable (length old.slots)) at.0 (addresses_of h.done), sum_one (usable (length old.slots)) at.0));
      }
