-- Which blocks of a table are in use, and that each of them has a use.
use Rattle.std.proofs.Common.{◌≡◌, ◌≢◌, ◌∙◌, ◌≤◌, ◌+◌, ◌*◌, ◌/◌, ◌++◌, ◌⊎◌, ◌&&◌, ◌==◌, ℕ, Bool, true, false, cond, not, List, [], ◌∷◌, Option, None, Some, length, refl, sym, ap, subst, inl, inr, arith}
use Rattle.std.specs.Prelude.{Contains, nat_le}
use Rattle.std.proofs.lemmas.Bool.{le-leb, ne_eqb, true≢false}
use Rattle.std.proofs.lemmas.List.Elements.{Contains-append_cases, Contains-append_left, Contains-append_right}
use Rattle.blk_base.specs.Address.{IsAllowed}
use Rattle.blk_base.specs.Bytes.{Image}
use Rattle.blk_base.specs.Trees.{NoneTwice}
use Rattle.blk_base.proofs.Members.{in_cons, in_head, in_nothing, in_tail, once_append}
use Rattle.block_table.specs.declared.state.SlotState.TheVariants.{Free, LetGo, Sealed}
use Rattle.block_table.specs.declared.tree.Tree.{Tree}
use Rattle.block_table.specs.Slot.{BlockSlot, is_free}
use Rattle.block_table.specs.Table.{Table}
use Rattle.block_table.specs.TreeIn.{block_at}
use Rattle.commit_images.specs.Scene.{Commit, Scene}
use Rattle.flat_model.specs.Volume.{RunVolume}
use Rattle.image_faults.specs.Faulty.{StandOnce}
use Rattle.image_faults.specs.Lists.{fewer}
use Rattle.table_commit.proofs.Addresses.{noted_once}
use Rattle.tree_load.specs.Loaded.{taken_from}
use Rattle.tree_load.proofs.Taken.{taken_are}
use Rattle.tree_range.specs.Shape.{tree_reach}
use Rattle.commit_blocks.specs.declared.kept.Kept.{Kept}
use Rattle.commit_blocks.specs.Keeps.{IsTurn, KeepsBlocks, numbered_at, reach_there}
use Rattle.commit_blocks.specs.Steps.{AreLetGoBehind}
use Rattle.commit_blocks.proofs.Fates.{states_current, states_taken}
use Rattle.commit_blocks.proofs.MountCount.{to_once}
use Rattle.commit_blocks.proofs.SealKeeps.{from_addresses, in_addresses}
use Rattle.table_commit.specs.Commit.{addresses_of}
use Rattle.volume_core.specs.InUse.{AreInUse, AreOfVolumeOrReached, NoneLetGoSince, in_use, let_go_in, used_from, volume_reach}

-- ---- which blocks are in use

used_taken : (number : ℕ) (slots : List BlockSlot) (at : ℕ) → Contains (used_from number slots) at → Contains (taken_from number slots) at
used_taken number [] at c = absurd (in_nothing at c)
used_taken number (slot ∷ slots) at c = go (nat_le 17 number && not (number == 16384)) (is_free slot.state) (used_taken (number + 1) slots at) c
  where
    go : (may free : Bool) → (Contains (used_from (number + 1) slots) at → Contains (taken_from (number + 1) slots) at)
        → Contains (cond (may && not free) (number * 4096 ∷ used_from (number + 1) slots) (used_from (number + 1) slots)) at → Contains (cond free (taken_from (number + 1) slots) (4096 * number ∷ taken_from (number + 1) slots)) at
    go true true later c = later c
    go false true later c = later c
    go false false later c = in_tail (4096 * number) at (taken_from (number + 1) slots) (later c)
    go true false later c = elim (in_cons (number * 4096) at (used_from (number + 1) slots) c) [
      | inl here ↦ in_head (4096 * number) at (taken_from (number + 1) slots) (omega (arith, here))
      | inr there ↦ in_tail (4096 * number) at (taken_from (number + 1) slots) (later there)
    ]

-- a volume may use the block of this number
may_use : (number : ℕ) → 17 ≤ number → number ≢ 16384 → (nat_le 17 number && not (number == 16384)) ≡ true
may_use number high other = let one = le-leb 17 number high in let two = ap not (ne_eqb number 16384 other) in λ i. one i && two i

taken_used : (number : ℕ) (slots : List BlockSlot) (at : ℕ) → 17 ≤ at / 4096 → at / 4096 ≢ 16384 → Contains (taken_from number slots) at → Contains (used_from number slots) at
taken_used number [] at high other c = absurd (in_nothing at c)
taken_used number (slot ∷ slots) at high other c = go (nat_le 17 number && not (number == 16384)) (is_free slot.state) may (taken_used (number + 1) slots at high other) c
  where
    may : 4096 * number ≡ at → (nat_le 17 number && not (number == 16384)) ≡ true
    may here = let same : at / 4096 ≡ number = omega (arith, here) in may_use number (omega (arith, high, same)) (λ copy. other (same ∙ copy))

    go : (may free : Bool) → (4096 * number ≡ at → may ≡ true) → (Contains (taken_from (number + 1) slots) at → Contains (used_from (number + 1) slots) at)
        → Contains (cond free (taken_from (number + 1) slots) (4096 * number ∷ taken_from (number + 1) slots)) at → Contains (cond (may && not free) (number * 4096 ∷ used_from (number + 1) slots) (used_from (number + 1) slots)) at
    go true true is later c = later c
    go false true is later c = later c
    go true false is later c = elim (in_cons (4096 * number) at (taken_from (number + 1) slots) c) [
      | inl here ↦ in_head (number * 4096) at (used_from (number + 1) slots) (omega (arith, here))
      | inr there ↦ in_tail (number * 4096) at (used_from (number + 1) slots) (later there)
    ]
    go false false is later c = elim (in_cons (4096 * number) at (taken_from (number + 1) slots) c) [
      | inl here ↦ absurd (true≢false (sym (is here)))
      | inr there ↦ later there
    ]

is_used : (table : Table) (at : ℕ) → Contains (in_use table) at → (block_at table at).state ≢ Free
is_used table at c = (taken_are table at).0 (used_taken 0 table.slots at c)

in_use_at : (table : Table) (at : ℕ) → IsAllowed (length table.slots) at → (block_at table at).state ≢ Free → Contains (in_use table) at
in_use_at table at allowed taken = taken_used 0 table.slots at allowed.behind_super allowed.no_copy ((taken_are table at).1 taken)

-- ---- each once

above : (number : ℕ) (slots : List BlockSlot) (at : ℕ) → Contains (used_from number slots) at → number * 4096 ≤ at
above number [] at c = absurd (in_nothing at c)
above number (slot ∷ slots) at c = go (nat_le 17 number && not (number == 16384) && not (is_free slot.state)) (above (number + 1) slots at) c
  where
    go : (b : Bool) → (Contains (used_from (number + 1) slots) at → (number + 1) * 4096 ≤ at) → Contains (cond b (number * 4096 ∷ used_from (number + 1) slots) (used_from (number + 1) slots)) at → number * 4096 ≤ at
    go false later c = let low = later c in omega (arith, low)
    go true later c = elim (in_cons (number * 4096) at (used_from (number + 1) slots) c) [ inl here ↦ omega (arith, here) | inr there ↦ let low = later there in omega (arith, low) ]

used_once : (number : ℕ) (slots : List BlockSlot) → StandOnce (used_from number slots)
used_once number [] = tt
used_once number (slot ∷ slots) = go (nat_le 17 number && not (number == 16384) && not (is_free slot.state)) (used_once (number + 1) slots)
  where
    go : (b : Bool) → StandOnce (used_from (number + 1) slots) → StandOnce (cond b (number * 4096 ∷ used_from (number + 1) slots) (used_from (number + 1) slots))
    go false later = later
    go true later = ((λ c. let low = above (number + 1) slots (number * 4096) c in omega (arith, low)), later)

are_in_use : (table : Table) (blocks : List ℕ) → NoneTwice blocks → ((at : ℕ) → Contains (in_use table) at → Contains blocks at) → ((at : ℕ) → Contains blocks at → Contains (in_use table) at) → AreInUse table blocks
are_in_use table blocks once there here =
    let few = fewer (in_use table) blocks (used_once 0 table.slots) there in
    let many = fewer blocks (in_use table) (to_once blocks once) here in
    record { each = λ at. (there at, here at); many = omega (arith, few, many) }

-- ---- each of them has a use

-- the root tree of a full commit, if one runs: its blocks stand once, they are Sealed, and none is of the volume
record IsRootApart (kept : Kept) (root : List ℕ) : Type 0 where
  pub once : NoneTwice root
  pub is_sealed : (at : ℕ) → Contains root at → (block_at kept.table at).state ≡ Sealed
  pub apart : (at : ℕ) → Contains (volume_reach kept) at → Contains root at → ⊥

root_apart : (kept : Kept) (scene : Scene) (sealed : Option Tree) → IsTurn kept scene sealed → IsRootApart kept (reach_there kept.table sealed)
root_apart kept scene None h = record { once = tt; is_sealed = λ at c. absurd (in_nothing at c); apart = λ at _ c. in_nothing at c }
root_apart kept scene (Some root) h = record { once = h.tree_in.once; is_sealed = h.root_sealed; apart = λ at there here. h.root_apart at here there }

let_go_or_not : (table : Table) (at : ℕ) → ((block_at table at).state ≡ LetGo) ⊎ ((block_at table at).state ≢ LetGo)
let_go_or_not table at = Rattle.table_commit.proofs.Addresses.is_gone (block_at table at).state

module _ (kept : Kept) (image : Image) (run : RunVolume) (scene : Scene) (keeps : KeepsBlocks kept image run scene) where
  volume_used : (at : ℕ) → Contains (volume_reach kept) at → Contains (in_use kept.table) at
  volume_used at there = let was = states_taken kept.table kept.states.items run keeps.current.given at there in in_use_at kept.table at was.allowed was.taken

  let_go_used : (at : ℕ) → (block_at kept.table at).state ≡ LetGo → Contains (in_use kept.table) at
  let_go_used at gone = let taken : (block_at kept.table at).state ≢ Free = (λ free. let w : LetGo ≡ Free = sym gone ∙ free in cc) in in_use_at kept.table at (keeps.current.allowed at taken) taken

  volume_not_gone : (at : ℕ) → Contains (volume_reach kept) at → (block_at kept.table at).state ≢ LetGo
  volume_not_gone = states_current kept.table kept.states.items run keeps.current.given

  abbrev root : List ℕ
  root = reach_there kept.table kept.sealed

  root_is : IsRootApart kept (reach_there kept.table kept.sealed)
  root_is = root_apart kept scene kept.sealed keeps.turn

  root_used : (at : ℕ) → Contains root at → Contains (in_use kept.table) at
  root_used at here = let taken : (block_at kept.table at).state ≢ Free = (λ free. let w : Sealed ≡ Free = sym (root_is.is_sealed at here) ∙ free in cc) in in_use_at kept.table at (keeps.current.allowed at taken) taken

  abbrev current : List ℕ
  current = volume_reach kept ++ root

  current_once : NoneTwice (volume_reach kept ++ root)
  current_once = once_append (volume_reach kept) root keeps.current.given.once root_is.once root_is.apart

  not_gone : (at : ℕ) → Contains (volume_reach kept ++ root) at → (block_at kept.table at).state ≢ LetGo
  not_gone at c = elim (Contains-append_cases (volume_reach kept) root at c) [
    | inl there ↦ volume_not_gone at there
    | inr here ↦ λ gone. let w : Sealed ≡ LetGo = sym (root_is.is_sealed at here) ∙ gone in cc
  ]

  all_once : NoneTwice (volume_reach kept ++ root ++ let_go_in kept.table)
  all_once = once_append current (let_go_in kept.table) current_once (noted_once kept.table) (λ at c gone. not_gone at c (from_addresses kept.table at gone))

  used_in : (at : ℕ) → Contains (in_use kept.table) at → Contains (volume_reach kept ++ root ++ let_go_in kept.table) at
  used_in at c = elim (let_go_or_not kept.table at) [
    | inl gone ↦ Contains-append_right current (let_go_in kept.table) at (in_addresses kept.table at gone)
    | inr stays ↦ Contains-append_left current (let_go_in kept.table) at (elim (keeps.current.used at (is_used kept.table at c) stays) [
      | inl there ↦ Contains-append_left (volume_reach kept) root at there
      | inr here ↦ Contains-append_right (volume_reach kept) root at here
    ])
  ]

  current_used : (at : ℕ) → Contains (volume_reach kept ++ root) at → Contains (in_use kept.table) at
  current_used at c = elim (Contains-append_cases (volume_reach kept) root at c) [ inl there ↦ volume_used at there | inr here ↦ root_used at here ]

  pub all_in_use : AreInUse kept.table (volume_reach kept ++ root ++ let_go_in kept.table)
  all_in_use = are_in_use kept.table (volume_reach kept ++ root ++ let_go_in kept.table) all_once used_in (λ at c. elim (Contains-append_cases current (let_go_in kept.table) at c) [
    | inl there ↦ current_used at there
    | inr gone ↦ let_go_used at (from_addresses kept.table at gone)
  ])

  -- where all that is let go is of this superblock, which a crash may find
  pub volume_or_reached : (commit : Commit) → Contains scene.found commit → kept.sealed ≡ None → ((at : ℕ) → (block_at kept.table at).state ≡ LetGo → Contains commit.blocks (numbered_at kept.table at)) → AreOfVolumeOrReached kept commit
  volume_or_reached commit there none gone_reached = record {
    only = λ at c. elim (let_go_or_not kept.table at) [
      | inl gone ↦ inr (numbered_at kept.table at, gone_reached at gone, refl)
      | inr stays ↦ elim (keeps.current.used at (is_used kept.table at c) stays) [
        | inl here ↦ inl here
        | inr other ↦ absurd (in_nothing at (subst (λ (tree : Option Tree). Contains (reach_there kept.table tree) at) none other))
      ]
    ];
    volume = volume_used;
    reached = λ block within.
        let held = keeps.found.held commit there block within in
        in_use_at kept.table (block.0 * 4096) (keeps.current.allowed (block.0 * 4096) held.not_free) held.not_free;
  }

  -- while none runs and nothing but the root tree of the last superblock is let go
  pub last_in_use : kept.sealed ≡ None → ((at : ℕ) → (block_at kept.table at).state ≡ LetGo → Contains (tree_reach kept.table kept.last) at) → AreInUse kept.table (volume_reach kept ++ tree_reach kept.table kept.last)
  last_in_use none only = are_in_use kept.table (volume_reach kept ++ tree_reach kept.table kept.last)
      (once_append (volume_reach kept) (tree_reach kept.table kept.last) keeps.current.given.once keeps.found.last.tree_in.once (λ at there here. volume_not_gone at there (keeps.found.last.ready at here)))
      (λ at c. elim (let_go_or_not kept.table at) [
        | inl gone ↦ Contains-append_right (volume_reach kept) (tree_reach kept.table kept.last) at (only at gone)
        | inr stays ↦ elim (keeps.current.used at (is_used kept.table at c) stays) [
          | inl there ↦ Contains-append_left (volume_reach kept) (tree_reach kept.table kept.last) at there
          | inr here ↦ absurd (in_nothing at (subst (λ (tree : Option Tree). Contains (reach_there kept.table tree) at) none here))
        ]
      ])
      (λ at c. elim (Contains-append_cases (volume_reach kept) (tree_reach kept.table kept.last) at c) [ inl there ↦ volume_used at there | inr here ↦ let_go_used at (keeps.found.last.ready at here) ])

-- where nothing was let go since the seal
pub only_last : (old new : Kept) → AreLetGoBehind old.table new.table (tree_reach new.table new.last) (addresses_of old.let_go.items) → NoneLetGoSince old → (at : ℕ) → (block_at new.table at).state ≡ LetGo → Contains (tree_reach new.table new.last) at
only_last old new behind none at gone = elim (behind.only at gone) [ inl here ↦ here | inr was ↦ absurd (was.1 (none at was.0)) ]
