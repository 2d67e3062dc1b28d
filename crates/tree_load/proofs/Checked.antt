-- The checks of one block, in the order of a walk.
use Rattle.std.proofs.Common.{◌≡◌, ◌≢◌, ◌≤◌, ◌<◌, ◌↔◌, ℕ, zero, suc, Bool, true, false, not, nat_lt, if◌then◌else◌, List, [], ◌∷◌, length, slice_get, Option, Some, None, Result, Ok, Err, refl, sym, ap, ◌∙◌, arith}
use Rattle.std.specs.Prelude.{◌&&◌}
use Rattle.std.proofs.lemmas.Bool.{false_from_ne_true, lt-ltb, le-ltb}
use Rattle.blk_base.specs.declared.key.Key.{Key}
use Rattle.blk_base.specs.declared.key.Want.{Want}
use Rattle.blk_base.specs.declared.fault.BlockFault.TheVariants as block_faults
use Rattle.blk_base.specs.Address.{IsAllowed, is_allowed}
use Rattle.blk_base.specs.Leaf.{Item}
use Rattle.block_table.specs.declared.state.SlotState.TheVariants.{Free}
use Rattle.block_table.specs.Table.{Table}
use Rattle.block_table.specs.TreeIn.{block_at}
use Rattle.format_laws.specs.Checks.{fails, finds, finds_none, passes}
use Rattle.format_laws.specs.Superblock.{IsAllowed-from_test, is_allowed-true}
use Rattle.volume_image.specs.declared.fault.LoadFault.{LoadFault}
use Rattle.volume_image.specs.declared.fault.LoadFault.TheVariants.{Block, Outside, Twice, Level, Thin}
use Rattle.volume_image.specs.Tree.{Walked, ◌>>=◌, entered, is_above_last, is_first_key, is_full_and_first, key_eq, was_reached}
use Rattle.volume_image.proofs.Reaches.{not_in, was_reached-in}
use Rattle.leaf_view.specs.Search.{keys_of}
use Rattle.tree_load.specs.Loaded.{AreTaken}
use Rattle.tree_load.specs.Below.{EndsWith, is_above, last_key}

-- ---- checks, and what comes after them

-- what comes after some checks, where they pass
abbrev pub after_check : {A : Type 0} → Result (Unit {0}) LoadFault → Result A LoadFault → Result A LoadFault
after_check check rest = ◌>>=◌ check (λ (_ : Unit {0}). rest)

unless_not : {A : Type 0} (b : Bool) (fault : LoadFault) (check : Result (Unit {0}) LoadFault) (whole rest : Result A LoadFault) → whole ≡ after_check check rest
    → (if not b then Err fault else whole) ≡ after_check (if not b then Err fault else check) rest
unless_not true fault check whole rest h = h
unless_not false fault check whole rest h = refl

unless : {A : Type 0} (b : Bool) (fault : LoadFault) (check : Result (Unit {0}) LoadFault) (whole rest : Result A LoadFault) → whole ≡ after_check check rest
    → (if b then Err fault else whole) ≡ after_check (if b then Err fault else check) rest
unless true fault check whole rest h = refl
unless false fault check whole rest h = h

pub entered_then : {A : Type 0} (blocks : ℕ) (want : Want) (before : Walked) (rest : Result A LoadFault) → entered blocks want before rest ≡ after_check (entered blocks want before (Ok tt)) rest
entered_then blocks want before rest =
    unless_not (is_allowed blocks want.at.0) (Outside want.at) _ _ rest
    (unless (was_reached want.at.0 before.reached) (Twice want.at) _ _ rest
    (unless (nat_lt 7 want.level) (Level want.at) (Ok tt) rest rest refl))

pub filled_then : {A : Type 0} (want : Want) (least count : ℕ) (under : Option Key) (before : List Item) (first : Option Key) (rest : Result A LoadFault)
    → is_full_and_first want least count under before first rest ≡ after_check (is_full_and_first want least count under before first (Ok tt)) rest
filled_then want least count under before first rest =
    unless (nat_lt count least) (Thin want.at) _ _ rest (unless_not (is_first_key under before first) (Block want.at block_faults.Order) (Ok tt) rest rest refl)

-- ---- an address that a walk enters

pub allowed_test : (blocks at : ℕ) (answer : Bool) → (answer ≡ true) ↔ IsAllowed blocks at → is_allowed blocks at ≡ answer
allowed_test blocks at true h = is_allowed-true blocks at (h.0 refl)
allowed_test blocks at false h = false_from_ne_true _ (λ is. let test = h.1 (IsAllowed-from_test blocks at is) in absurd cc)

pub is_outside : (blocks : ℕ) (want : Want) (before : Walked) → is_allowed blocks want.at.0 ≡ false → Err (Outside want.at) ≡ entered {A = Unit {0}} blocks want before (Ok tt)
is_outside blocks want before outside = sym (fails _ _ _ outside)

pub is_twice : (table : Table) (want : Want) (before : Walked) → AreTaken table before.reached → is_allowed (length table.slots) want.at.0 ≡ true → (block_at table want.at.0).state ≢ Free
    → Err (Twice want.at) ≡ entered {A = Unit {0}} (length table.slots) want before (Ok tt)
is_twice table want before taken allowed used =
    sym (passes _ _ _ allowed ∙ finds _ _ _ (was_reached-in want.at.0 before.reached ((taken want.at.0).1 used)))

fresh : (table : Table) (at : ℕ) (reached : List ℕ) → AreTaken table reached → (block_at table at).state ≡ Free → was_reached at reached ≡ false
fresh table at reached taken free = not_in at reached (λ c. (taken at).0 c free)

pub is_high : (table : Table) (want : Want) (before : Walked) → AreTaken table before.reached → is_allowed (length table.slots) want.at.0 ≡ true → (block_at table want.at.0).state ≡ Free → 7 < want.level
    → Err (Level want.at) ≡ entered {A = Unit {0}} (length table.slots) want before (Ok tt)
is_high table want before taken allowed free high =
    sym (passes _ _ _ allowed ∙ finds_none _ _ _ (fresh table want.at.0 before.reached taken free) ∙ finds _ _ _ (lt-ltb 7 want.level high))

pub is_entered : (table : Table) (want : Want) (before : Walked) → AreTaken table before.reached → is_allowed (length table.slots) want.at.0 ≡ true → (block_at table want.at.0).state ≡ Free → want.level ≤ 7
    → Ok tt ≡ entered {A = Unit {0}} (length table.slots) want before (Ok tt)
is_entered table want before taken allowed free low =
    sym (passes _ _ _ allowed ∙ finds_none _ _ _ (fresh table want.at.0 before.reached taken free) ∙ finds_none _ _ _ (le-ltb 7 want.level low))

-- ---- first keys

last_of : (item : Item) (items : List Item) (key : Key) → is_above_last (item ∷ items) key ≡ is_above (last_key (Some item.0) items) key
last_of item [] key = refl
last_of item (next ∷ items) key = last_of next items key

pub above_last : (before : Walked) (last : Option Key) (key : Key) → EndsWith before last → is_above_last before.items key ≡ is_above last key
above_last before last key ends = above before.items ∙ ap (λ (l : Option Key). is_above l key) ends
  where
    above : (items : List Item) → is_above_last items key ≡ is_above (last_key None items) key
    above [] = refl
    above (item ∷ items) = last_of item items key

-- the first key of a block below a pointer
pub right_key : (under first : Option Key) (before : List Item) (key found : Key) (answer : Bool) → under ≡ Some key → first ≡ Some found → key_eq found key ≡ true → answer ≡ is_above_last before found → answer ≡ is_first_key under before first
right_key under first before key found answer u f same above =
    above ∙ sym (ap (λ (b : Bool). b && is_above_last before found) same) ∙ sym both
  where
    both : is_first_key under before first ≡ (key_eq found key && is_above_last before found)
    both = rw (u, f) refl

-- the last item of a list gives its last key
pub last_key_at : (items : List Item) (last : Option Key) (key : Key) (n : ℕ) → suc n ≡ length items → slice_get (keys_of items) n ≡ Some key → Some key ≡ last_key last items
last_key_at [] last key n some is = absurd (omega arith)
last_key_at (item ∷ []) last key zero some is = sym is
last_key_at (item ∷ []) last key (suc n) some is = absurd (omega arith)
last_key_at (item ∷ next ∷ items) last key zero some is = absurd (omega arith)
last_key_at (item ∷ next ∷ items) last key (suc n) some is = last_key_at (next ∷ items) (Some item.0) key n (omega arith) is
