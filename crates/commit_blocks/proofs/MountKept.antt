-- A mounted volume is kept with the superblock that was found.
use Rattle.std.proofs.Common.{◌≡◌, ◌≢◌, ◌≤◌, ◌+◌, ◌*◌, ◌/◌, ◌%◌, ◌++◌, ℕ, zero, suc, List, [], ◌∷◌, length, Some, None, Vec, Global, refl, sym, ap, subst, ◌∙◌, arith, inl, inr, append-nil, length-append}
use Rattle.std.specs.Prelude.{◌⊎◌, Contains, slice_get, vec_capacity, false, Bool, if◌then◌else◌}
use Rattle.std.proofs.lemmas.List.Elements.{Contains-append_cases, Contains-append_right}
use Rattle.std.proofs.lemmas.Option.{slice_get-get_or}
use Rattle.std.proofs.lemmas.Bool.{cases_lt, le-leb, lt-leb}
use Rattle.blk_base.specs.declared.key.Addr.{Addr}
use Rattle.blk_base.specs.Address.{IsAllowed}
use Rattle.blk_base.specs.Bytes.{Image}
use Rattle.blk_base.specs.Leaf.{Pointer}
use Rattle.blk_base.specs.Trees.{NoneTwice}
use Rattle.blk_base.proofs.Members.{in_nothing, is_in, once_left}
use Rattle.block_table.specs.declared.state.SlotState.TheVariants.{Dirty, Free, LetGo, Live, Sealed}
use Rattle.block_table.specs.declared.tree.SubState.{SubState}
use Rattle.block_table.specs.Slot.{BlockSlot}
use Rattle.block_table.specs.Table.{Table}
use Rattle.block_table.specs.TreeIn.{block_at}
use Rattle.commit_core.specs.Sealed.{IsOfNewest}
use Rattle.commit_images.specs.Scene.{Commit, first_scene}
use Rattle.disk_model.specs.Disk.{Held}
use Rattle.flat_model.specs.Volume.{RunVolume}
use Rattle.table_commit.specs.Commit.{AreLetGo}
use Rattle.tree_mount.specs.declared.mounted.Mounted.{Mounted}
use Rattle.tree_mount.specs.Mounted.{IsReadyMount, mount_reach}
use Rattle.tree_range.specs.Shape.{node_pointers, reach_below, tree_reach}
use Rattle.volume_image.proofs.Members.{in_map, map_in}
use Rattle.volume_seal.specs.Sealed.{states_reach}
use Rattle.commit_blocks.specs.declared.kept.Kept.{Kept}
use Rattle.commit_blocks.specs.Keeps.{BusyIsAbove, HoldsCommit, IsBusy, IsCurrent, IsFound, IsHeld, IsQuiet, KeepsBlocks, numbered_at, roots_room}
use Rattle.commit_blocks.specs.Mounting.{IsMountOf}
use Rattle.commit_blocks.specs.Steps.{AreLetGoBehind}
use Rattle.commit_blocks.proofs.MountBlocks.{bytes_same, enough, gives_now, known, others_now, reach_same, root_gone, root_now, root_same, seals_now, state_now, taken, used_before}
use Rattle.commit_blocks.proofs.Read.{each}

none_above : (level : ℕ) (table : Table) (at : ℕ) → ((block : ℕ) → IsBusy (block_at table block).state → ⊥) → BusyIsAbove level table at
none_above zero table at none = tt
none_above (suc level) table at none =
    each (λ (pointer : Pointer). (IsBusy (block_at table pointer.at).state → IsBusy (block_at table at).state) × BusyIsAbove level table pointer.at) (node_pointers table at)
    (λ pointer there. ((λ busy. absurd (none pointer.at busy)), none_above level table pointer.at none))

some_below : (level : ℕ) (table : Table) (at : ℕ) → 1 ≤ length (reach_below level table at)
some_below zero table at = omega arith
some_below (suc level) table at = omega arith

module _ (m : Mounted) (count : ℕ) (ready : IsReadyMount m count) (new : Table) (gone : AreLetGo m.table new (tree_reach m.table m.root))
    (let_go : Vec Addr Global) (empty : let_go.items ≡ []) (room : length m.table.slots ≤ vec_capacity let_go) where
  abbrev old : Table
  old = m.table

  abbrev states : List SubState
  states = m.states.items

  abbrev pub kept : Kept
  kept = record {
    table = new;
    states = m.states;
    fsid = m.superblock.fsid;
    generation = (m.superblock.generation + 1) % 18446744073709551616;
    last = m.root;
    failed = None;
    sealed = None;
    let_go = let_go;
  }

  -- ---- states of blocks
  kinds : (at : ℕ) → ((block_at new at).state ≡ Free) ⊎ (((block_at new at).state ≡ LetGo) ⊎ ((block_at new at).state ≡ Live))
  kinds at = elim (is_in (tree_reach old m.root) at) [
    | inl there ↦ inr (inl (ap (λ (slot : BlockSlot). slot.state) (root_now m count ready new gone at there)))
    | inr out ↦
        let same = ap (λ (slot : BlockSlot). slot.state) (others_now m count ready new gone at out) in
        elim (ready.live at) [ inl free ↦ inl (same ∙ free) | inr live ↦ inr (inr (same ∙ live)) ]
  ]

  not_dirty : (at : ℕ) → (block_at new at).state ≢ Dirty
  not_dirty at dirty = elim (kinds at) [
    | inl free ↦ let wrong : Free ≡ Dirty = sym free ∙ dirty in cc
    | inr used ↦ elim used [
      | inl let_go ↦ let wrong : LetGo ≡ Dirty = sym let_go ∙ dirty in cc
      | inr live ↦ let wrong : Live ≡ Dirty = sym live ∙ dirty in cc
    ]
  ]

  not_sealed : (at : ℕ) → (block_at new at).state ≢ Sealed
  not_sealed at is = elim (kinds at) [
    | inl free ↦ let wrong : Free ≡ Sealed = sym free ∙ is in cc
    | inr used ↦ elim used [
      | inl let_go ↦ let wrong : LetGo ≡ Sealed = sym let_go ∙ is in cc
      | inr live ↦ let wrong : Live ≡ Sealed = sym live ∙ is in cc
    ]
  ]

  back : (at : ℕ) → (block_at new at).out ≡ false
  back at = elim (is_in (tree_reach old m.root) at) [
    | inl there ↦ ap (λ (slot : BlockSlot). slot.out) (root_now m count ready new gone at there) ∙ ready.back at
    | inr out ↦ ap (λ (slot : BlockSlot). slot.out) (others_now m count ready new gone at out) ∙ ready.back at
  ]

  in_reach : (at : ℕ) → (block_at new at).state ≢ Free → Contains (mount_reach m) at
  in_reach at used = known m count ready new gone at (used_before m count ready new gone at used)

  allowed_at : (at : ℕ) → Contains (mount_reach m) at → IsAllowed (length old.slots) at
  allowed_at at there = (taken m count ready new gone at there).allowed

  not_free : (at : ℕ) → Contains (mount_reach m) at → (block_at new at).state ≢ Free
  not_free at there free = elim (state_now m count ready new gone at there) [
    | inl let_go ↦ let wrong : LetGo ≡ Free = sym let_go ∙ free in cc
    | inr live ↦ let wrong : Live ≡ Free = sym live ∙ free in cc
  ]

  pub mount_let_go : AreLetGoBehind old new (tree_reach new m.root) []
  mount_let_go = record {
    only = λ at let_go_now. elim (is_in (tree_reach old m.root) at) [
      | inl there ↦ inl (subst (λ (l : List ℕ). Contains l at) (sym (root_same m count ready new gone)) there)
      | inr out ↦ inr (ap (λ (slot : BlockSlot). slot.state) (sym (others_now m count ready new gone at out)) ∙ let_go_now, in_nothing at)
    ];
    made_so = λ at here. ap (λ (slot : BlockSlot). slot.state) (root_now m count ready new gone at (subst (λ (l : List ℕ). Contains l at) (root_same m count ready new gone) here));
    stays = λ at was _. elim (ready.live at) [
      | inl free ↦ absurd (let w : Free ≡ LetGo = sym free ∙ was in cc)
      | inr live ↦ absurd (let w : Live ≡ LetGo = sym live ∙ was in cc)
    ];
  }

  -- no block leaks: all that the image has is of the root tree or of the volume
  accounted : (at : ℕ) → (block_at new at).state ≢ Free → (block_at new at).state ≢ LetGo → Contains (states_reach new states) at
  accounted at used kept_now = elim (Contains-append_cases (tree_reach old m.root) (states_reach old states) at (in_reach at used)) [
    | inl root ↦ absurd (kept_now (ap (λ (slot : BlockSlot). slot.state) (root_now m count ready new gone at root)))
    | inr state ↦ subst (λ (l : List ℕ). Contains l at) (sym (reach_same m count ready new gone)) state
  ]

  -- ---- how much there is
  root_some : 1 ≤ length (tree_reach old m.root)
  root_some = some_below m.root.level old m.root.root.0

  fits : (n : ℕ) → n ≤ length (tree_reach old m.root) → length (states_reach new states) + (198 + n) ≤ length new.slots
  fits n least =
      let same = ap length (reach_same m count ready new gone) in
      let both = length-append (tree_reach old m.root) (states_reach old states) in
      let room = ready.room in
      let size = gone.size in
      let blocks = ready.size in
      omega (arith, same, both, room, size, blocks, least)

  roots_least : roots_room (length states) ≤ length (tree_reach old m.root)
  roots_least = elim (cases_lt 8 (length states)) [
    | inl many ↦ subst (λ (b : Bool). (if b then 1 else 3) ≤ length (tree_reach old m.root)) (sym (lt-leb (length states) 8 many)) (ready.root_many many)
    | inr less ↦ subst (λ (b : Bool). (if b then 1 else 3) ≤ length (tree_reach old m.root)) (sym (le-leb (length states) 8 less)) root_some
  ]

  -- ---- the current volume
  module _ (run : RunVolume) (given : Rattle.table_volume.specs.Running.GiveVolume old states run) where
    is_current : IsCurrent kept run
    is_current = record {
      least = subst (λ (n : ℕ). 4096 ≤ n) (sym (gone.size ∙ ready.size)) ready.least;
      most = subst (λ (n : ℕ). n ≤ 65536) (sym (gone.size ∙ ready.size)) ready.most;
      given = gives_now m count ready new gone run given;
      ids = ready.ids;
      some = ready.at_least_one;
      few = ready.at_most_16;
      running = ready.running;
      ready = seals_now m count ready new gone;
      above = each (λ (state : SubState). BusyIsAbove state.tree.level new state.tree.root.0) states (λ state there. none_above state.tree.level new state.tree.root.0 (λ block busy. elim busy [ inl dirty ↦ absurd (not_dirty block dirty) | inr is ↦ absurd (not_sealed block is) ]));
      allowed = λ at used. subst (λ (n : ℕ). IsAllowed n at) (sym gone.size) (allowed_at at (in_reach at used));
      used = λ at used kept_now. inl (accounted at used kept_now);
      fits = subst (λ (n : ℕ). n ≤ length new.slots) (let r : ℕ = roots_room (length states) in let e : length (states_reach new states) + (198 + r) ≡ length (states_reach new states) + r + 198 = omega arith in e) (fits (roots_room (length states)) roots_least);
      last_few = subst (λ (l : List ℕ). length l ≤ 33) (sym (root_same m count ready new gone)) ready.root_few;
      failed_few = omega arith;
      sealed_few = omega arith;
      spare = let more = gone.spare in let enough = ready.spare in omega (arith, more, enough);
      free = let free = enough m count ready new gone in omega (arith, free);
    }

  -- ---- what the superblock reaches
  bytes_at : (at : ℕ) → numbered_at new at ≡ numbered_at old at
  bytes_at at = ap (λ (bytes : List ℕ). (at / 4096, bytes)) (bytes_same m count ready new gone at)

  holds : (at : ℕ) → Contains (mount_reach m) at → IsHeld new (numbered_at old at)
  holds at there =
      let whole : at % 4096 ≡ 0 = (allowed_at at there).aligned in
      let same : at ≡ at / 4096 * 4096 = omega (arith, whole) in
      record {
        not_free = subst (λ (a : ℕ). (block_at new a).state ≢ Free) same (not_free at there);
        not_dirty = subst (λ (a : ℕ). (block_at new a).state ≢ Dirty) same (not_dirty at);
        bytes = subst (λ (a : ℕ). (block_at new a).bytes ≡ (block_at old at).bytes) same (bytes_same m count ready new gone at);
      }

  -- ---- with the superblock that was found
  module _ (image : Image) (run : RunVolume) (held : Held) (commit : Commit) (of : IsMountOf image m run commit) where
    holds_commit : HoldsCommit new commit
    holds_commit block there =
        let one : (at : ℕ) × Contains (mount_reach m) at × (numbered_at old at ≡ block) = in_map (numbered_at old) (mount_reach m) block (subst (λ (l : List (ℕ × List ℕ)). Contains l block) of.blocks there) in
        subst (IsHeld new) one.2 (holds one.0 one.1)

    holds_found : (other : Commit) → Contains (commit ∷ []) other → HoldsCommit new other
    holds_found other there = subst (HoldsCommit new) (the_one other there) holds_commit
      where
        the_one : (other : Commit) → Contains (commit ∷ []) other → commit ≡ other
        the_one other (zero, within, is) = cc
        the_one other (suc place, within, is) = absurd (omega (arith, within))

    is_newest : (at : ℕ) → Contains (states_reach new states) at → IsOfNewest (commit ∷ []) (numbered_at new at)
    is_newest at there =
        let here : Contains (mount_reach m) at = Contains-append_right (tree_reach old m.root) (states_reach old states) at (subst (λ (l : List ℕ). Contains l at) (reach_same m count ready new gone) there) in
        subst (Contains commit.blocks) (sym (bytes_at at)) (subst (λ (l : List (ℕ × List ℕ)). Contains l (numbered_at old at)) (sym of.blocks) (map_in (numbered_at old) (mount_reach m) at here))

    is_told : (at : ℕ) → (block_at new at).state ≢ Free → slice_get image (at / 4096) ≡ Some (block_at new at).bytes
    is_told at used =
        let there : Contains (mount_reach m) at = in_reach at used in
        let inside = (allowed_at at there).inside in
        let fits = of.on_image in
        slice_get-get_or image (at / 4096) [] (omega (arith, inside, fits)) ∙ ap Some (of.bytes at there ∙ sym (bytes_same m count ready new gone at))

    root_once : NoneTwice (tree_reach new m.root ++ [])
    root_once = subst NoneTwice (sym (append-nil (tree_reach new m.root))) (subst NoneTwice (sym (root_same m count ready new gone)) (once_left (tree_reach old m.root) (states_reach old states) ready.once))

    is_found : IsFound kept image (first_scene held commit)
    is_found = record {
      on_image = subst (λ (n : ℕ). n ≤ length image) (sym gone.size) of.on_image;
      held = holds_found;
      newest = λ at there live. is_newest at there;
      told = λ at used clean. is_told at used;
      clear = λ at live. back at;
      last = root_gone m count ready new gone;
      failed = λ tree is. absurd cc;
      apart = root_once;
      capacity = subst (λ (n : ℕ). n ≤ vec_capacity let_go) (sym gone.size) room;
    }

    is_quiet : IsQuiet kept (first_scene held commit)
    is_quiet = record {
      batch = refl;
      lists = gone.lists ∙ ready.lists;
      none_sealed = not_sealed;
      back = λ at is. back at;
      noted = empty;
      spared = λ tree is. absurd cc;
    }

    pub is_kept : KeepsBlocks kept image run (first_scene held commit)
    is_kept = record { current = is_current run of.gives; found = is_found; turn = is_quiet }
