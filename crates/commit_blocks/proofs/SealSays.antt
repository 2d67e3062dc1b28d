-- What a seal hands out, and when it may be written.
use Rattle.std.proofs.Common.{◌≡◌, ◌≢◌, ◌∙◌, ◌≤◌, ◌<◌, ◌+◌, ◌/◌, ◌%◌, ◌++◌, Bool, if◌then◌else◌, ℕ, zero, suc, List, [], ◌∷◌, None, Some, length, length-append, map, slice_get, slice_index_or, refl, sym, ap, subst, inl, inr, arith}
use Rattle.std.specs.Prelude.{◌⊎◌, All, Contains}
use Rattle.std.proofs.lemmas.List.Elements.{Contains-append_cases, Contains-append_left, Contains-append_right}
use Rattle.std.proofs.lemmas.Option.{get_or_from_slice_get}
use Rattle.blk_base.specs.Bytes.{Image, zeros}
use Rattle.blk_base.specs.Superblock.{IsSuper}
use Rattle.blk_base.specs.Trees.{AtBlock, NoneTwice}
use Rattle.blk_base.proofs.Members.{in_cons, in_nothing}
use Rattle.batch_write.specs.Batch.{IsPlace, numbers_of}
use Rattle.block_table.specs.declared.state.SlotState.TheVariants.{Dirty, Free, LetGo, Live, Sealed}
use Rattle.block_table.specs.Blocks.{BlockList}
use Rattle.block_table.specs.Slot.{BlockSlot}
use Rattle.block_table.specs.Table.{Table}
use Rattle.block_table.specs.TreeIn.{block_at}
use Rattle.commit_core.specs.Coming.{numbered}
use Rattle.commit_core.specs.Sealed.{HavePlaces, IsOfNewest, IsReadyToWrite, SaysCommit, StandsWhole}
use Rattle.commit_history.specs.declared.event.Event.{Event}
use Rattle.commit_images.specs.Admissible.{HandsOut, last_bytes}
use Rattle.commit_images.specs.Scene.{Commit, HasCommit, Reaches, Scene, scene_after_event}
use Rattle.commit_images.specs.Scene as scenes
use Rattle.flat_model.specs.Volume.{RunVolume, Volume, volume_of}
use Rattle.tree_range.specs.Shape.{tree_reach}
use Rattle.tree_seal.specs.OnImage.{HasBlocks}
use Rattle.tree_seal.specs.Sealing.{as_handed}
use Rattle.volume_image.specs.Stands.{super_block}
use Rattle.volume_seal.specs.Sealed.{states_reach}
use Rattle.volume_seal.specs.Superblock.{super_at}
use Rattle.volume_seal.proofs.Standing.{stands_now}
use Rattle.commit_blocks.specs.declared.kept.Kept.{Kept}
use Rattle.commit_blocks.specs.Keeps.{KeepsBlocks, numbered_at, roots_room}
use Rattle.commit_blocks.specs.Steps.{IsKeptSealed, IsListOut}
use Rattle.commit_blocks.proofs.Fates.{AreBothFree, IsNew, Stays, WasDirty, fate, new_reach, reach_of, sealed_reach, size, taken}
use Rattle.commit_blocks.proofs.Handed.{in_numbered, numbered_in, same_place}
use Rattle.commit_blocks.proofs.Read.{each}
use Rattle.commit_blocks.proofs.SealKeeps.{commit_of, fresh_at, given_states, in_order, numbers, on_image, order_whole, reached_clean, reached_taken, sealed_all, told}

there_at : {X : Type 0} (xs : List X) (place : ℕ) (d : X) → place < length xs → slice_get xs place ≡ Some (slice_index_or xs place d)
there_at [] place d inside = absurd (omega (arith, inside))
there_at (x ∷ xs) zero d inside = refl
there_at (x ∷ xs) (suc place) d inside = there_at xs place d (omega (arith, inside))

root_fits : (subs count : ℕ) → count ≤ 3 → (subs ≤ 8 → count ≡ 1) → count ≤ roots_room subs
root_fits subs count few small = elim (Rattle.std.proofs.lemmas.Bool.cases_Bool (Rattle.std.specs.Prelude.nat_le subs 8)) [
  | inl least ↦
      let one = small (Rattle.std.proofs.lemmas.Bool.leb-true subs 8 least) in
      let room : roots_room subs ≡ 1 = ap (λ (b : Bool). if b then 1 else 3) least in
      omega (arith, one, room)
  | inr more ↦ let room : roots_room subs ≡ 3 = ap (λ (b : Bool). if b then 1 else 3) more in omega (arith, few, room)
]

once_numbers : (table : Table) (order : List ℕ) → ((x : ℕ) → Contains order x → x % 4096 ≡ 0) → NoneTwice order → NoneTwice (numbers_of (map (as_handed table) order))
once_numbers table [] whole once = tt
once_numbers table (at ∷ order) whole once = (λ there. once.0 (found order (λ x k. whole x (Rattle.blk_base.proofs.Members.in_tail at x order k)) there), once_numbers table order (λ x k. whole x (Rattle.blk_base.proofs.Members.in_tail at x order k)) once.1)
  where
    first_whole : at % 4096 ≡ 0
    first_whole = whole at (Rattle.blk_base.proofs.Members.in_head at at order refl)

    found : (rest : List ℕ) → ((x : ℕ) → Contains rest x → x % 4096 ≡ 0) → Contains (numbers_of (map (as_handed table) rest)) (at / 4096) → Contains rest at
    found [] all there = absurd (in_nothing (at / 4096) there)
    found (x ∷ rest) all there = elim (in_cons (x / 4096) (at / 4096) (numbers_of (map (as_handed table) rest)) there) [
      | inl same ↦ Rattle.blk_base.proofs.Members.in_head x at rest (same_place x at (all x (Rattle.blk_base.proofs.Members.in_head x x rest refl)) first_whole same)
      | inr later ↦ Rattle.blk_base.proofs.Members.in_tail x at rest (found rest (λ y k. all y (Rattle.blk_base.proofs.Members.in_tail x y rest k)) later)
    ]

module _ (old new : Kept) (image : Image) (run : RunVolume) (scene : Scene) (superblock : List ℕ) (out : BlockList) (keeps : KeepsBlocks old image run scene) (none : old.sealed ≡ None) (s : IsKeptSealed old new superblock out) where
  commit : Commit
  commit = commit_of new s.root superblock (volume_of run)

  long : length (tree_reach new.table s.root ++ reach_of new) + 198 ≤ length new.table.slots
  long =
      let both = length-append (tree_reach new.table s.root) (reach_of new) in
      let same = ap length (new_reach old new image run scene superblock out keeps none s) in
      let slots = size old new image run scene superblock out keeps none s in
      omega (arith, both, same, slots, root_fits (length old.states.items) (length (tree_reach new.table s.root)) s.sealed.made.few s.sealed.made.small, keeps.current.fits)

  -- an image that has the commit stands for the volume, by what it reaches
  pub stands : StandsWhole (length image) (commit_of new s.root superblock (volume_of run))
  stands other is_image same_size has =
      let inside : 16 < length other = omega (arith, same_size, on_image old new image run scene superblock out keeps none s, size old new image run scene superblock out keeps none s, keeps.current.least) in
      let read : super_block other ≡ superblock = super_same other inside ∙ has.superblock in
      let is_super : IsSuper (super_block other) (length other) (super_at new.table s.root old.fsid old.generation s.used) =
      subst (λ (bytes : List ℕ). IsSuper bytes (length other) (super_at new.table s.root old.fsid old.generation s.used)) (sym read) (s.spelled (length other) (omega (arith, same_size, on_image old new image run scene superblock out keeps none s))) in
      let has_new : HasBlocks other new.table (tree_reach new.table s.root ++ reach_of new) = each (λ (at : ℕ). slice_get other (at / 4096) ≡ Some (block_at new.table at).bytes) (tree_reach new.table s.root ++ reach_of new) (λ at there. has.blocks (numbered_at new.table at) (in_numbered new.table (tree_reach new.table s.root ++ reach_of new) at there)) in
      let same : states_reach new.table old.states.items ≡ reach_of new = sealed_all old new image run scene superblock out keeps none s in
      let has_states : HasBlocks other new.table (tree_reach new.table s.root ++ states_reach new.table old.states.items) = subst (λ (l : List ℕ). HasBlocks other new.table (tree_reach new.table s.root ++ l)) (sym same) has_new in
      let fits : length (tree_reach new.table s.root ++ states_reach new.table old.states.items) + 198 ≤ length new.table.slots = subst (λ (l : List ℕ). length (tree_reach new.table s.root ++ l) + 198 ≤ length new.table.slots) (sym same) long in
      record {
        reach = tree_reach new.table s.root ++ states_reach new.table old.states.items;
        within = λ at there. (
          numbered_at new.table at,
          in_numbered new.table (tree_reach new.table s.root ++ reach_of new) at
              (subst (λ (l : List ℕ). Contains (tree_reach new.table s.root ++ l) at) same there),
          refl,
        );
        by_reach = stands_now _ new.table old.states.items run s.root old.fsid old.generation s.used out.pairs other (given_states old new image run scene superblock out keeps none s) s.sealed keeps.current.some keeps.current.few keeps.current.ids is_super has_states (omega (arith, fits));
      }
    where
      super_same : (other : Image) → 16 < length other → super_block other ≡ slice_index_or other 16 []
      super_same other inside = get_or_from_slice_get other 16 (slice_index_or other 16 []) (zeros 4096) (there_at other 16 [] inside)

  pub hands_out : HandsOut image scene (scenes.Batch (numbered out.pairs) (commit_of new s.root superblock (volume_of run))) (volume_of run)
  hands_out = record {
    blocks = numbered out.pairs;
    commit = commit_of new s.root superblock (volume_of run);
    is = refl;
    makes = refl;
    content = λ block there.
        let found = numbered_in new.table (tree_reach new.table s.root ++ reach_of new) block there in
        subst (λ (b : ℕ × List ℕ). last_bytes (numbered out.pairs ++ scene.handed) image b.0 ≡ Some b.1) found.2
        (told old new image run scene superblock out keeps none s found.0 (reached_taken old new image run scene superblock out keeps none s found.0 found.1).taken (reached_clean old new image run scene superblock out keeps none s found.0 found.1));
  }

  -- ---- what is handed out
  pub handed_in : (block : ℕ × List ℕ) → Contains (numbered out.pairs) block → (at : ℕ) × Contains s.sealed.written.order at × (numbered_at new.table at ≡ block)
  handed_in block there = numbered_in new.table s.sealed.written.order block (subst (λ (l : List (ℕ × List ℕ)). Contains l block) (numbers old new image run scene superblock out keeps none s) there)

  in_all : (at : ℕ) → Contains s.sealed.written.order at → Contains (tree_reach new.table s.root ++ reach_of new) at
  in_all at there = elim (in_order old new image run scene superblock out keeps none s at there) [
    | inl here ↦ Contains-append_left (tree_reach new.table s.root) (reach_of new) at here
    | inr later ↦ Contains-append_right (tree_reach new.table s.root) (reach_of new) at (subst (λ (l : List ℕ). Contains l at) (sym (new_reach old new image run scene superblock out keeps none s)) later.0)
  ]

  is_sealed : (at : ℕ) → Contains s.sealed.written.order at → (block_at new.table at).state ≡ Sealed
  is_sealed at there = elim (fate old new image run scene superblock out keeps none s at) [
    | IsNew here free now ↦ now
    | WasDirty here dirty now ↦ now
    | Stays same not_root clean ↦ absurd (elim (in_order old new image run scene superblock out keeps none s at there) [ inl here ↦ not_root here | inr later ↦ clean later.0 later.1 ])
    | AreBothFree before behind ↦ absurd ((reached_taken old new image run scene superblock out keeps none s at (in_all at there)).taken behind)
  ]

  pub of_commit : (block : ℕ × List ℕ) → Contains (numbered out.pairs) block → Contains (commit_of new s.root superblock (volume_of run)).blocks block
  of_commit block there =
      let found = handed_in block there in
      subst (λ (b : ℕ × List ℕ). Contains (commit_of new s.root superblock (volume_of run)).blocks b) found.2 (in_numbered new.table (tree_reach new.table s.root ++ reach_of new) found.0 (in_all found.0 found.1))

  ready_reached : (at : ℕ) → Contains (tree_reach new.table s.root ++ reach_of new) at → Contains (numbered out.pairs) (numbered_at new.table at) ⊎ IsOfNewest scene.found (numbered_at new.table at)
  ready_reached at there = elim (fate old new image run scene superblock out keeps none s at) [
    | IsNew here free now ↦ inl (handed at ((s.sealed.written.each at).1 (inl here)))
    | WasDirty here dirty now ↦ inl (handed at ((s.sealed.written.each at).1 (inr (subst (λ (l : List ℕ). Contains l at) (sym (Rattle.commit_blocks.proofs.Fates.lent_reach old new image run scene superblock out keeps none s)) here, dirty))))
    | Stays same not_root clean ↦ elim (Contains-append_cases (tree_reach new.table s.root) (reach_of new) at there) [
      | inl here ↦ absurd (not_root here)
      | inr later ↦ inr (newest at same (subst (λ (l : List ℕ). Contains l at) (new_reach old new image run scene superblock out keeps none s) later) (clean (subst (λ (l : List ℕ). Contains l at) (new_reach old new image run scene superblock out keeps none s) later)))
    ]
    | AreBothFree before behind ↦ absurd ((reached_taken old new image run scene superblock out keeps none s at there).taken behind)
  ]
    where
      handed : (at : ℕ) → Contains s.sealed.written.order at → Contains (numbered out.pairs) (numbered_at new.table at)
      handed at k = subst (λ (l : List (ℕ × List ℕ)). Contains l (numbered_at new.table at)) (sym (numbers old new image run scene superblock out keeps none s)) (in_numbered new.table s.sealed.written.order at k)

      live : (state : Rattle.block_table.specs.declared.state.SlotState.SlotState) → state ≢ Free → state ≢ Dirty → state ≢ Sealed → state ≢ LetGo → state ≡ Live
      live Free a b c d = absurd (a refl)
      live Dirty a b c d = absurd (b refl)
      live Sealed a b c d = absurd (c refl)
      live Live a b c d = refl
      live LetGo a b c d = absurd (d refl)

      newest : (at : ℕ) → block_at new.table at ≡ block_at old.table at → Contains (reach_of old) at → (block_at old.table at).state ≢ Dirty → IsOfNewest scene.found (numbered_at new.table at)
      newest at same k clean =
          let is_live : (block_at old.table at).state ≡ Live = live (block_at old.table at).state (taken old new image run scene superblock out keeps none s at k).taken clean
          ((Rattle.commit_blocks.proofs.Fates.quiet old new image run scene superblock out keeps none s).none_sealed at) (Rattle.commit_blocks.proofs.Fates.current_at old new image run scene superblock out keeps none s at k) in
          subst (λ (bytes : List ℕ). IsOfNewest scene.found (at / 4096, bytes)) (ap (λ (slot : BlockSlot). slot.bytes) (sym same)) (keeps.found.newest at k is_live)

  module _ (mounted : Volume) (came : Event) where
    abbrev next : Scene
    next = scene_after_event mounted scene came (scenes.Batch (numbered out.pairs) (commit_of new s.root superblock (volume_of run)))

    pub ready : IsReadyToWrite next (numbered out.pairs) (commit_of new s.root superblock (volume_of run))
    ready = record {
      runs = refl;
      first_time = refl;
      not_super = λ block there.
          let found = handed_in block there in
          let low = (reached_taken old new image run scene superblock out keeps none s found.0 (in_all found.0 found.1)).allowed.behind_super in
          λ wrong. absurd (let number : found.0 / 4096 ≡ block.0 = ap (λ (b : ℕ × List ℕ). b.0) found.2 in omega (arith, low, number, wrong));
      writable = λ block there. Contains-append_left (numbered out.pairs) scene.writable block there;
      unreached = λ block there other is reached.
          let found = handed_in block there in
          let number : block.0 ≡ found.0 / 4096 = sym (ap (λ (b : ℕ × List ℕ). b.0) found.2) in
          fresh_at old new image run scene superblock out keeps none s found.0 (is_sealed found.0 found.1) other is (reached.0, reached.1, reached.2 ∙ number);
      reached = λ block there.
          let found = numbered_in new.table (tree_reach new.table s.root ++ reach_of new) block there in
          subst (λ (b : ℕ × List ℕ). Contains (numbered out.pairs) b ⊎ IsOfNewest scene.found b) found.2 (ready_reached found.0 found.1);
    }

  pub places : HavePlaces (length old.table.slots) out.pairs
  places = subst (λ (l : List AtBlock). HavePlaces (length old.table.slots) l) (sym s.sealed.written.handed) (record {
    places = each (λ (pair : AtBlock). IsPlace (length old.table.slots) pair.0) (map (as_handed new.table) s.sealed.written.order) (λ pair there.
        let found = Rattle.volume_image.proofs.Members.in_map (as_handed new.table) s.sealed.written.order pair there in
        let ok = (reached_taken old new image run scene superblock out keeps none s found.0 (in_all found.0 found.1)).allowed in
        let same = size old new image run scene superblock out keeps none s in
        subst (λ (p : AtBlock). IsPlace (length old.table.slots) p.0) found.2 (record {
          inside = let low = ok.inside in omega (arith, low, same);
          not_super = λ wrong. absurd (let low = ok.behind_super in omega (arith, low, wrong));
          whole = ok.aligned;
        }));
    once = once_numbers new.table s.sealed.written.order (order_whole old new image run scene superblock out keeps none s) s.sealed.written.once;
  })

  pub says : SaysCommit superblock (length old.table.slots) old.fsid old.generation
  says = record {
    super = super_at new.table s.root old.fsid old.generation s.used;
    spelled = s.spelled (length old.table.slots) (let same = size old new image run scene superblock out keeps none s in omega (arith, same));
    fsid_is = refl;
    generation_is = refl;
    blocks_are = size old new image run scene superblock out keeps none s;
    no_log = refl;
  }

-- the list that was handed out may come back
module _ (old new : Kept) (image : Image) (run : RunVolume) (scene : Scene) (superblock : List ℕ) (out : BlockList) (keeps : KeepsBlocks old image run scene) (none : old.sealed ≡ None) (s : IsKeptSealed old new superblock out) where
  in_pairs : (at : ℕ) → Contains s.sealed.written.order at → Contains (map (λ (pair : AtBlock). pair.0.0) out.pairs) at
  in_pairs at there =
      subst (λ (l : List AtBlock). Contains (map (λ (pair : AtBlock). pair.0.0) l) at) (sym s.sealed.written.handed)
      (Rattle.volume_image.proofs.Members.map_in (λ (pair : AtBlock). pair.0.0) (map (as_handed new.table) s.sealed.written.order) (as_handed new.table at) (Rattle.volume_image.proofs.Members.map_in (as_handed new.table) s.sealed.written.order at there))

  pub list_out : IsListOut new out
  list_out = record {
    lent = s.room ∙ sym (size old new image run scene superblock out keeps none s);
    has = λ at handed. elim (fate old new image run scene superblock out keeps none s at) [
      | IsNew here free now ↦ inr (in_pairs at ((s.sealed.written.each at).1 (inl here)))
      | WasDirty here dirty now ↦ inr (in_pairs at ((s.sealed.written.each at).1 (inr (subst (λ (l : List ℕ). Contains l at) (sym (Rattle.commit_blocks.proofs.Fates.lent_reach old new image run scene superblock out keeps none s)) here, dirty))))
      | Stays same not_root clean ↦ inl (ap (λ (slot : BlockSlot). slot.out) same ∙ (Rattle.commit_blocks.proofs.Fates.quiet old new image run scene superblock out keeps none s).back at (elim handed [
        | inl is ↦ absurd ((Rattle.commit_blocks.proofs.Fates.quiet old new image run scene superblock out keeps none s).none_sealed at (ap (λ (slot : BlockSlot). slot.state) (sym same) ∙ is))
        | inr gone ↦ ap (λ (slot : BlockSlot). slot.state) (sym same) ∙ gone
      ]))
      | AreBothFree before behind ↦ absurd (elim handed [ inl is ↦ (let w : Free ≡ Sealed = sym behind ∙ is in cc) | inr gone ↦ (let w : Free ≡ LetGo = sym behind ∙ gone in cc) ])
    ];
  }
