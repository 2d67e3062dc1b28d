-- An operation keeps what a volume keeps of blocks.
use Rattle.std.proofs.Common.{◌≡◌, ◌≢◌, ◌∙◌, ◌≤◌, ◌+◌, ◌/◌, ◌++◌, ℕ, List, length, map, Option, Some, None, Vec, Global, refl, sym, ap, subst, arith, inl, inr}
use Rattle.std.specs.Prelude.{◌⊎◌, Contains, vec_capacity, false, true, Bool, nat_le, if◌then◌else◌}
use Rattle.std.proofs.lemmas.Bool.{cases_eq}
use Rattle.std.proofs.lemmas.List.{length-map}
use Rattle.std.proofs.lemmas.List.Elements.{All-contains}
use Rattle.blk_base.specs.Address.{IsAllowed}
use Rattle.blk_base.specs.Bytes.{Image}
use Rattle.blk_base.specs.Trees.{AtBlock, NoneTwice}
use Rattle.block_table.specs.Blocks.{BlockList}
use Rattle.blk_base.proofs.Members.{is_in}
use Rattle.block_table.specs.declared.state.SlotState.{SlotState}
use Rattle.block_table.specs.declared.state.SlotState.TheVariants.{Dirty, Free, LetGo, Live, Sealed}
use Rattle.block_table.specs.declared.tree.SubState.{SubState}
use Rattle.block_table.specs.declared.tree.Tree.{Tree}
use Rattle.block_table.specs.Slot.{BlockSlot}
use Rattle.block_table.specs.Table.{Table, free_blocks}
use Rattle.block_table.specs.TreeIn.{IsTaken, block_at}
use Rattle.commit_core.specs.Sealed.{IsOfNewest}
use Rattle.commit_images.specs.Scene.{Commit, Scene}
use Rattle.flat_model.specs.declared.answer.Answer.{Answer}
use Rattle.flat_model.specs.declared.op.Op.{Op}
use Rattle.flat_model.specs.Needs.{need}
use Rattle.flat_model.specs.Step.{step}
use Rattle.flat_model.specs.Volume.{RunVolume, subvolume_ids}
use Rattle.table_commit.specs.Commit.{IsReleasable, addresses_of}
use Rattle.table_volume.specs.Gives.{sub_reach}
use Rattle.table_volume.specs.Running.{GiveVolume, id_of}
use Rattle.tree_frame.proofs.EditLaws.{is_dirty}
use Rattle.tree_frame.proofs.Reading.{all_joined}
use Rattle.tree_range.specs.Shape.{IsTree, tree_reach}
use Rattle.volume_ops.specs.Done.{IsDone}
use Rattle.volume_seal.specs.Sealed.{states_reach}
use Rattle.volume_seal.proofs.States.{all_taken}
use Rattle.commit_blocks.specs.declared.kept.Kept.{Kept}
use Rattle.commit_blocks.specs.Keeps.{AreApart, AreApartFromFirst, HoldsCommit, IsCurrent, IsFound, IsOut, IsQuiet, IsTried, IsTurn, IsUntried, KeepsBlocks, numbered_at, old_roots, reach_there, roots_room}
use Rattle.commit_blocks.specs.Operating.{HasRoomFor, IsKeptOperated, LetsGoLeft}
use Rattle.commit_blocks.specs.Steps.{IsListOut}
use Rattle.commit_blocks.proofs.MountCount.{used_and_free_fit}
use Rattle.commit_blocks.proofs.OperatedBlocks.{CameFrom, came_from, gone_same, gone_still, gone_there, holds_still, let_go_stays, same_state, stood_so, unedited}
use Rattle.commit_blocks.proofs.OperatedRoom.{stays_free, stays_spare}
use Rattle.commit_blocks.proofs.OperatedStates.{next_above, next_ids, next_running}
use Rattle.commit_blocks.proofs.Read.{each}

kinds : (state : SlotState) → (state ≡ Free) ⊎ ((state ≡ Dirty) ⊎ ((state ≡ Sealed) ⊎ ((state ≡ Live) ⊎ (state ≡ LetGo))))
kinds Free = inl refl
kinds Dirty = inr (inl refl)
kinds Sealed = inr (inr (inl refl))
kinds Live = inr (inr (inr (inl refl)))
kinds LetGo = inr (inr (inr (inr refl)))

roots_few : (subs : ℕ) → roots_room subs ≤ 3
roots_few subs = go (nat_le subs 8)
  where
    go : (b : Bool) → (if b then 1 else 3) ≤ 3
    go true = omega arith
    go false = omega arith

-- all blocks of a volume are there, and current
volume_current : (table : Table) (states : List SubState) (run : RunVolume) → GiveVolume table states run → (at : ℕ) → Contains (states_reach table states) at → (block_at table at).state ≢ LetGo
volume_current table states run volume at there =
    All-contains (λ (a : ℕ). (block_at table a).state ≢ LetGo) (states_reach table states) at
    (all_joined (λ (a : ℕ). (block_at table a).state ≢ LetGo) (λ (state : SubState). sub_reach table state.tree) states (λ k d within. (volume.each k d within).gives.current)) there

module _ (old : Kept) (image : Image) (run : RunVolume) (scene : Scene) (op : Op) (answer : Answer) (keeps : KeepsBlocks old image run scene) (room : HasRoomFor old.table run op)
    (table : Table) (states : Vec SubState Global) (done : IsDone old.table table old.states.items states.items run op answer) where
  abbrev pub new : Kept
  new = record {
    table = table;
    states = states;
    fsid = old.fsid;
    generation = old.generation;
    last = old.last;
    failed = old.failed;
    sealed = old.sealed;
    let_go = old.let_go;
  }

  abbrev next : RunVolume
  next = (step run op done.indexes).next

  abbrev before : List ℕ
  before = states_reach old.table old.states.items

  abbrev after : List ℕ
  after = states_reach table states.items

  was_taken : (at : ℕ) → Contains before at → IsTaken old.table at
  was_taken at there = All-contains (IsTaken old.table) before at (all_taken old.table old.states.items run keeps.current.given) there

  is_taken : (at : ℕ) → Contains after at → IsTaken table at
  is_taken at here = All-contains (IsTaken table) after at (all_taken table states.items next done.given) here

  current : (at : ℕ) → Contains before at → (block_at old.table at).state ≢ LetGo
  current = volume_current old.table old.states.items run keeps.current.given

  used : (at : ℕ) → Contains before at → (block_at old.table at).state ≢ Free
  used at there = (was_taken at there).taken

  -- ---- blocks
  came : (at : ℕ) → (block_at table at).state ≢ Free → (block_at table at).state ≢ Dirty → CameFrom old.table table before at
  came = came_from old.table table before after done.edit current used

  stands_so : (at : ℕ) (state : SlotState) → (block_at table at).state ≡ state → (state ≡ Free → ⊥) → (state ≡ Dirty → ⊥) → (LetGo ≡ state → ⊥) → block_at table at ≡ block_at old.table at
  stands_so = stood_so old.table table before after done.edit current used

  sealed_so : (at : ℕ) → (block_at table at).state ≡ Sealed → block_at table at ≡ block_at old.table at
  sealed_so at is = stands_so at Sealed is (λ e. cc) (λ e. cc) (λ e. cc)

  sealed_before : (at : ℕ) → (block_at table at).state ≡ Sealed → (block_at old.table at).state ≡ Sealed
  sealed_before at is = sym (same_state old.table table at (sealed_so at is)) ∙ is

  let_go_so : (at : ℕ) → (block_at old.table at).state ≡ LetGo → block_at table at ≡ block_at old.table at
  let_go_so = let_go_stays old.table table before after done.edit current used

  -- a block of the volume that isn't Dirty was one, as it is
  clean_before : (at : ℕ) → Contains after at → (block_at table at).state ≢ Dirty → Contains before at × (block_at table at ≡ block_at old.table at)
  clean_before at here clean = elim (is_in before at) [
    | inl there ↦ (there, done.edit.kept_whole at there here (λ dirty. clean (done.edit.kept at there here ∙ dirty)))
    | inr none ↦ absurd (clean (done.edit.fresh at here none).1)
  ]

  same_number : (at : ℕ) → block_at table at ≡ block_at old.table at → numbered_at table at ≡ numbered_at old.table at
  same_number at same = ap (λ (slot : BlockSlot). (at / 4096, slot.bytes)) same

  holds : (commit : Commit) → HoldsCommit old.table commit → HoldsCommit table commit
  holds = holds_still old.table table before after done.edit current used

  -- ---- how much there is
  nothing_or_much : ((table ≡ old.table) × (states.items ≡ old.states.items)) ⊎ ((1024 ≤ free_blocks table) × (80 ≤ table.spare))
  nothing_or_much = elim (cases_eq (need run op) 0) [
    | inl none ↦ inl (done.idle none)
    | inr some ↦ inr (stays_free old.table table run op room done.taken some, stays_spare old.table table run op room done.taken some)
  ]

  ids_same : map id_of states.items ≡ map id_of old.states.items
  ids_same = next_ids old.table table old.states.items states.items done.states

  as_many : length states.items ≡ length old.states.items
  as_many = sym (length-map states.items id_of) ∙ ap length ids_same ∙ length-map old.states.items id_of

  fits : length after + roots_room (length states.items) + 198 ≤ length table.slots
  fits = elim nothing_or_much [
    | inl same ↦ subst (λ (t : Table). length (states_reach t states.items) + roots_room (length states.items) + 198 ≤ length t.slots) (sym same.0) (subst (λ (l : List SubState). length (states_reach old.table l) + roots_room (length l) + 198 ≤ length old.table.slots) (sym same.1) keeps.current.fits)
    | inr much ↦ let all = used_and_free_fit table after done.given.once (λ at here. (is_taken at here).taken) in let few = roots_few (length states.items) in let free = much.0 in omega (arith, free, all, few)
  ]

  -- ---- old root trees
  last_same : tree_reach table old.last ≡ tree_reach old.table old.last
  last_same = gone_same old.table table before after done.edit current used old.last keeps.found.last

  failed_same : reach_there table old.failed ≡ reach_there old.table old.failed
  failed_same = gone_there old.table table before after done.edit current used old.failed keeps.found.failed

  roots_same : old_roots new ≡ old_roots old
  roots_same = λ i. last_same i ++ failed_same i

  enough : 100 ≤ free_blocks table + length (old_roots new) + length (reach_there table old.sealed)
  enough = elim nothing_or_much [
    | inl same ↦ subst (λ (t : Table). 100 ≤ free_blocks t + length (tree_reach t old.last ++ reach_there t old.failed) + length (reach_there t old.sealed)) (sym same.0) keeps.current.free
    | inr much ↦ let free = much.0 in omega (arith, free)
  ]

  buffers : 80 ≤ table.spare + length (old_roots new) + length (reach_there table old.sealed)
  buffers = elim nothing_or_much [
    | inl same ↦ subst (λ (t : Table). 80 ≤ t.spare + length (tree_reach t old.last ++ reach_there t old.failed) + length (reach_there t old.sealed)) (sym same.0) keeps.current.spare
    | inr much ↦ let spare = much.1 in omega (arith, spare)
  ]

  -- ---- the root tree of the commit that runs
  module _ (root : Tree) (h : IsOut old scene root) where
    root_so : (at : ℕ) → Contains (tree_reach old.table root) at → block_at table at ≡ block_at old.table at
    root_so at there = elim (is_in after at) [
      | inl here ↦ absurd ((let fresh = done.edit.fresh at here (h.root_apart at there) in let wrong : Sealed ≡ Free = sym (h.root_sealed at there) ∙ fresh.0 in cc))
      | inr none ↦ elim (done.edit.others at (h.root_apart at there) none) [
        | inl same ↦ same
        | inr both ↦ let wrong : Sealed ≡ Free = sym (h.root_sealed at there) ∙ both.before in absurd cc
      ]
    ]

    root_alike : (Rattle.tree_range.specs.Shape.tree_items table root ≡ Rattle.tree_range.specs.Shape.tree_items old.table root) × (tree_reach table root ≡ tree_reach old.table root) × (IsTree old.table root → IsTree table root)
    root_alike = Rattle.tree_range.proofs.Local.tree_alike old.table table root (each (λ (at : ℕ). block_at table at ≡ block_at old.table at) (tree_reach old.table root) root_so)

  sealed_same : (sealed : Option Tree) → IsTurn old scene sealed → reach_there table sealed ≡ reach_there old.table sealed
  sealed_same None h = refl
  sealed_same (Some root) h = (root_alike root h).1

  allowed : (at : ℕ) → (block_at table at).state ≢ Free → IsAllowed (length table.slots) at
  allowed at not_free = elim (is_in after at) [
    | inl here ↦ (is_taken at here).allowed
    | inr none ↦ subst (λ (n : ℕ). IsAllowed n at) (sym done.edit.size) (elim (is_in before at) [
      | inl there ↦ (was_taken at there).allowed
      | inr out ↦ elim (done.edit.others at out none) [
        | inl same ↦ keeps.current.allowed at (λ free. not_free (same_state old.table table at same ∙ free))
        | inr both ↦ absurd (not_free both.after)
      ]
    ])
  ]

  -- no block leaks: one that is left is Free or let go
  accounted : (at : ℕ) → (block_at table at).state ≢ Free → (block_at table at).state ≢ LetGo → Contains after at ⊎ Contains (reach_there table old.sealed) at
  accounted at taken kept = elim (is_in after at) [
    | inl here ↦ inl here
    | inr none ↦ elim (is_in before at) [
      | inl there ↦ elim (is_dirty (block_at old.table at).state) [
        | inl dirty ↦ absurd (taken ((done.edit.left at there none).dirty dirty))
        | inr was ↦ absurd (kept (ap (λ (slot : BlockSlot). slot.state) ((done.edit.left at there none).written was)))
      ]
      | inr out ↦ elim (done.edit.others at out none) [
        | inl same ↦ elim (keeps.current.used at (λ free. taken (same_state old.table table at same ∙ free)) (λ gone. kept (same_state old.table table at same ∙ gone))) [
          | inl there ↦ absurd (out there)
          | inr root ↦ inr (subst (λ (l : List ℕ). Contains l at) (sym (sealed_same old.sealed keeps.turn)) root)
        ]
        | inr both ↦ absurd (taken both.after)
      ]
    ]
  ]

  is_current : IsCurrent new next
  is_current = record {
    least = subst (λ (n : ℕ). 4096 ≤ n) (sym done.edit.size) keeps.current.least;
    most = subst (λ (n : ℕ). n ≤ 65536) (sym done.edit.size) keeps.current.most;
    given = done.given;
    ids = ids_same ∙ keeps.current.ids ∙ ap subvolume_ids (sym as_many);
    some = subst (λ (n : ℕ). 1 ≤ n) (sym as_many) keeps.current.some;
    few = subst (λ (n : ℕ). n ≤ 16) (sym as_many) keeps.current.few;
    running = next_running old.table table old.generation old.states.items states.items done.states keeps.current.running;
    ready = done.ready old.fsid keeps.current.ready;
    above = next_above old.table table old.fsid run next old.states.items states.items done.states keeps.current.given.each done.given.each keeps.current.ready (done.ready old.fsid keeps.current.ready) (λ at there here. done.edit.kept at there here) keeps.current.above;
    allowed = allowed;
    used = accounted;
    fits = fits;
    free = enough;
    last_few = subst (λ (l : List ℕ). length l ≤ 33) (sym last_same) keeps.current.last_few;
    failed_few = subst (λ (l : List ℕ). length l ≤ 33) (sym failed_same) keeps.current.failed_few;
    sealed_few = subst (λ (l : List ℕ). length l ≤ 33) (sym (sealed_same old.sealed keeps.turn)) keeps.current.sealed_few;
    spare = buffers;
  }

  -- ---- blocks that lists have
  clear_now : (at : ℕ) → (block_at table at).state ≡ Live → (block_at table at).out ≡ false
  clear_now at live =
      let same = stands_so at Live live (λ e. cc) (λ e. cc) (λ e. cc) in
      ap (λ (slot : BlockSlot). slot.out) same ∙ keeps.found.clear at (sym (same_state old.table table at same) ∙ live)

  -- one that is let go was Sealed, Live or let go before
  pub let_go_back : (at : ℕ) → (block_at table at).state ≡ LetGo → ((block_at old.table at).state ≡ Sealed → (block_at old.table at).out ≡ false) → ((block_at old.table at).state ≡ LetGo → (block_at old.table at).out ≡ false) → (block_at table at).out ≡ false
  let_go_back at is sealed gone =
      let from = came at (λ free. let wrong : LetGo ≡ Free = sym is ∙ free in cc) (λ dirty. let wrong : LetGo ≡ Dirty = sym is ∙ dirty in cc) in
      let still = unedited old.table table before after done.edit current used at from.not_free from.not_dirty in
      still.3 ∙ elim (kinds (block_at old.table at).state) [
        | inl free ↦ absurd (from.not_free free)
        | inr some ↦ elim some [
          | inl dirty ↦ absurd (from.not_dirty dirty)
          | inr other ↦ elim other [
            | inl was ↦ sealed was
            | inr last ↦ elim last [ inl live ↦ keeps.found.clear at live | inr let_go ↦ gone let_go ]
          ]
        ]
      ]

  -- ---- what superblocks reach
  is_found : IsFound new image scene
  is_found = record {
    on_image = subst (λ (n : ℕ). n ≤ length image) (sym done.edit.size) keeps.found.on_image;
    held = λ commit there. holds commit (keeps.found.held commit there);
    newest = λ at here live.
        let was = clean_before at here (λ dirty. let wrong : Live ≡ Dirty = sym live ∙ dirty in cc) in
        subst (IsOfNewest scene.found) (sym (same_number at was.1)) (keeps.found.newest at was.0 (sym (same_state old.table table at was.1) ∙ live));
    told = λ at not_free clean.
        let from = came at not_free clean in
        let still = unedited old.table table before after done.edit current used at from.not_free from.not_dirty in
        keeps.found.told at from.not_free from.not_dirty ∙ ap Some (sym still.2);
    clear = λ at live. clear_now at live;
    last = gone_still old.table table before after done.edit current used old.last keeps.found.last;
    failed = λ tree is. gone_still old.table table before after done.edit current used tree (keeps.found.failed tree is);
    apart = subst NoneTwice (sym roots_same) keeps.found.apart;
    capacity = subst (λ (n : ℕ). n ≤ vec_capacity old.let_go) (sym done.edit.size) keeps.found.capacity;
  }

  -- ---- the full commit
  spared_first : (tree : Tree) → AreApartFromFirst (tree_reach old.table old.last) scene.found → AreApartFromFirst (tree_reach table old.last) scene.found
  spared_first tree h = subst (λ (l : List ℕ). AreApartFromFirst l scene.found) (sym last_same) h

  is_quiet : IsQuiet old scene → IsQuiet new scene
  is_quiet h = record {
    batch = h.batch;
    lists = done.edit.lists ∙ h.lists;
    none_sealed = λ at is. h.none_sealed at (sealed_before at is);
    back = λ at is. let_go_back at is (λ was. absurd (h.none_sealed at was)) (λ was. h.back at was);
    noted = h.noted;
    spared = λ tree is. spared_first tree (h.spared tree is);
  }

  is_untried : IsUntried old scene → IsUntried new scene
  is_untried h = record {
    fresh = λ at is. h.fresh at (sealed_before at is);
    spared = λ tree is. spared_first tree (h.spared tree is);
  }

  is_tried : (commit : Commit) → IsTried old scene commit → IsTried new scene commit
  is_tried commit h = record {
    others = h.others;
    found = h.found;
    spared = λ tree is other there. subst (λ (l : List ℕ). AreApart l other) (sym last_same) (h.spared tree is other there);
    written = h.written;
  }

  module _ (root : Tree) (h : IsOut old scene root) where
    in_root : (at : ℕ) → Contains (tree_reach table root) at → Contains (tree_reach old.table root) at
    in_root at there = subst (λ (l : List ℕ). Contains l at) (root_alike root h).1 there

    -- what is let go now was of the volume, and not Dirty
    since : (at : ℕ) → (block_at table at).state ≡ LetGo → (Contains (addresses_of old.let_go.items) at → ⊥) → Contains h.commit.blocks (numbered_at table at)
    since at gone not_noted =
        let from = came at (λ free. let w : LetGo ≡ Free = sym gone ∙ free in cc) (λ dirty. let w : LetGo ≡ Dirty = sym gone ∙ dirty in cc) in
        elim from.fate [
          | inl same ↦ subst (Contains h.commit.blocks) (sym (same_number at same)) (h.since at (sym (same_state old.table table at same) ∙ gone) not_noted)
          | inr left ↦ subst (λ (bytes : List ℕ). Contains h.commit.blocks (at / 4096, bytes)) (ap (λ (slot : BlockSlot). slot.bytes) (sym left.1)) (h.reaches at left.0 from.not_dirty)
        ]

    is_out : IsOut new scene root
    is_out = record {
      commit = h.commit;
      runs = h.runs;
      lists = done.edit.lists ∙ h.lists;
      tree_in = (root_alike root h).2 h.tree_in;
      root_sealed = λ at there. same_state old.table table at (root_so root h at (in_root at there)) ∙ h.root_sealed at (in_root at there);
      root_apart = λ at there here.
          let fresh = done.edit.fresh at here (h.root_apart at (in_root at there)) in
          let wrong : Sealed ≡ Free = sym (h.root_sealed at (in_root at there)) ∙ fresh.0 in
          cc;
      held = holds h.commit h.held;
      reaches = λ at here clean.
          let was = clean_before at here clean in
          subst (Contains h.commit.blocks) (sym (same_number at was.1)) (h.reaches at was.0 (λ dirty. clean (same_state old.table table at was.1 ∙ dirty)));
      root_reached = λ at there. subst (Contains h.commit.blocks) (sym (same_number at (root_so root h at (in_root at there)))) (h.root_reached at (in_root at there));
      since = since;
      noted_once = h.noted_once;
      noted = each (λ (at : ℕ). IsReleasable (block_at table at)) (addresses_of old.let_go.items) (λ at there.
          let was : IsReleasable (block_at old.table at) = All-contains (λ (a : ℕ). IsReleasable (block_at old.table a)) (addresses_of old.let_go.items) at h.noted there in
          subst IsReleasable (sym (let_go_so at was.let_go)) was);
      noted_apart = h.noted_apart;
      old_noted = λ at there. h.old_noted at (subst (λ (l : List ℕ). Contains l at) roots_same there);
      untried = λ is. is_untried (h.untried is);
      tried = λ is. is_tried h.commit (h.tried is);
    }

  is_turn : (sealed : Option Tree) → IsTurn old scene sealed → IsTurn new scene sealed
  is_turn None h = is_quiet h
  is_turn (Some root) h = is_out root h

  -- ---- the list that is out may come back
  abbrev IsBackOrHas : BlockList → ℕ → Bool → Type 0
  IsBackOrHas list at out = (out ≡ false) ⊎ Contains (map (λ (pair : AtBlock). pair.0.0) list.pairs) at

  sealed_still : (list : BlockList) → IsListOut old list → (at : ℕ) → (block_at table at).state ≡ Sealed → IsBackOrHas list at (block_at table at).out
  sealed_still list h at is =
      subst (IsBackOrHas list at) (ap (λ (slot : BlockSlot). slot.out) (sym (sealed_so at is))) (h.has at (inl (sealed_before at is)))

  let_go_still : (list : BlockList) → IsListOut old list → (at : ℕ) → (block_at table at).state ≡ LetGo → IsBackOrHas list at (block_at table at).out
  let_go_still list h at is =
      let from = came at (λ free. let wrong : LetGo ≡ Free = sym is ∙ free in cc) (λ dirty. let wrong : LetGo ≡ Dirty = sym is ∙ dirty in cc) in
      let still = unedited old.table table before after done.edit current used at from.not_free from.not_dirty in
      subst (IsBackOrHas list at) (sym still.3) (elim (kinds (block_at old.table at).state) [
        | inl free ↦ absurd (from.not_free free)
        | inr some ↦ elim some [
          | inl dirty ↦ absurd (from.not_dirty dirty)
          | inr other ↦ elim other [
            | inl was ↦ h.has at (inl was)
            | inr last ↦ elim last [ inl live ↦ inl (keeps.found.clear at live) | inr let_go ↦ h.has at (inr let_go) ]
          ]
        ]
      ])

  pub list_still : (list : BlockList) → IsListOut old list → IsListOut new list
  list_still list h = record {
    lent = h.lent ∙ sym done.edit.size;
    has = λ at handed. elim handed [ inl is ↦ sealed_still list h at is | inr is ↦ let_go_still list h at is ];
  }

  -- ---- blocks that were let go
  lets_go : LetsGoLeft old new
  lets_go = record {
    only = λ at gone. elim (came at (λ free. let w : LetGo ≡ Free = sym gone ∙ free in cc) (λ dirty. let w : LetGo ≡ Dirty = sym gone ∙ dirty in cc)).fate [
      | inl same ↦ inl (sym (same_state old.table table at same) ∙ gone)
      | inr left ↦ inr (left.0, λ here. volume_current table states.items next done.given at here gone)
    ];
    stays = λ at gone. same_state old.table table at (let_go_so at gone) ∙ gone;
    dirty = λ at there none is. (done.edit.left at there none).dirty is;
    written = λ at there none was. ap (λ (slot : BlockSlot). slot.state) ((done.edit.left at there none).written was);
  }

  pub is_kept_operated : IsKeptOperated old new image run scene op answer
  is_kept_operated = record {
    indexes = done.indexes;
    choice = done.choice;
    newest = done.newest;
    said = done.said;
    keeps = record { current = is_current; found = is_found; turn = is_turn old.sealed keeps.turn };
    taken = done.taken;
    let_go = lets_go;
  }
