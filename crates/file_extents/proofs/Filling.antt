-- Holes of a file that get blocks, as an edit of its extents.
use Rattle.std.proofs.Common.{◌≡◌, ◌≢◌, ◌↔◌, ◌⊎◌, ◌≤◌, ◌<◌, ◌+◌, ◌*◌, ◌++◌, ℕ, List, [], Option, Some, None, Ok, refl, sym, ap, subst, ◌∙◌, arith, inl, inr, append_assoc}
use Rattle.std.specs.Prelude.{All, Contains}
use Rattle.std.proofs.lemmas.List.{append-nil}
use Rattle.std.proofs.lemmas.List.Elements.{All-append, All-contains, All-contains_itself, All-weaker, Contains-append_left, Contains-append_right}
use Rattle.blk_base.specs.Address.{IsAllowed}
use Rattle.blk_base.specs.declared.key.Key.{Key}
use Rattle.blk_base.specs.Extents.{Regular, extent_of}
use Rattle.blk_base.specs.Keys.{extent_data}
use Rattle.blk_base.specs.Leaf.{Item}
use Rattle.blk_base.specs.Trees.{NoneTwice}
use Rattle.blk_base.proofs.Members.{in_nothing, once_append}
use Rattle.block_table.specs.declared.state.SlotState.TheVariants.{Dirty, Free, LetGo}
use Rattle.block_table.specs.declared.tree.Tree.{Tree}
use Rattle.block_table.specs.Slot.{BlockSlot}
use Rattle.block_table.specs.Table.{Table}
use Rattle.block_table.specs.TreeIn.{IsSealedTree, IsTaken, block_at}
use Rattle.flat_model.proofs.Maps.{some_none}
use Rattle.tree_blocks.specs.Steps.{IsTakenAt}
use Rattle.tree_range.specs.Between.{data_under}
use Rattle.tree_range.specs.Part.{times_in}
use Rattle.tree_range.specs.Shape.{AreAlike, tree_items, tree_reach}
use Rattle.tree_range.proofs.Local.{tree_alike}
use Rattle.tree_range.proofs.Rise.{All-left, All-right}
use Rattle.tree_range.proofs.Times.{times_append}
use Rattle.tree_frame.specs.Frame.{AreCurrent, IsEdit, with_item}
use Rattle.tree_frame.proofs.Among.{apart_alike, edit_among}
use Rattle.tree_frame.proofs.EditLaws.{edits_join}
use Rattle.tree_frame.proofs.Sealed.{sealed_alike}
use Rattle.data_release.proofs.Left.{stay_current, stay_taken}
use Rattle.table_volume.specs.Edited.{BearGeneration}
use Rattle.table_volume.proofs.SubEdits.{alike_keeps_clean, clean_joined, tree_keeps_clean}
use Rattle.table_volume.specs.Gives.{data_in, sub_reach, tree_data}
use Rattle.table_volume.specs.TreeEdit.{IsTreeEdit}
use Rattle.table_volume.proofs.Giving.{data_at}
use Rattle.volume_image.specs.Subvolume.{data_addresses, make_key, run_addresses}
use Rattle.file_extents.specs.Extents.{Alone, AreHoles, AreTakenAt, Contents, HasRun, HoldContents, IsContentEdit, IsHeld, Joins, Longer, StandsBefore, with_blocks}
use Rattle.file_extents.proofs.Runs.{grow_holds}
use Rattle.file_extents.proofs.Items.{are_sole, are_written, each_written, have_some, under_other}
use Rattle.file_extents.proofs.Times.{addresses_there, run_addresses_are, run_split, times_put}
use Rattle.file_extents.proofs.Held.{IsHeldWith, data_same, edited, files_alike, held_after, run_in_data, same_block, tree_and_files}
use Rattle.file_extents.proofs.Cutting.{beside_other}
use Rattle.file_extents.proofs.Taking.{in_run, run_once, run_place}

-- ---- the run that blocks make

-- the run has so many blocks more than the one in front of it, or is one of its own
pub record IsGrown (Runs : ℕ → ℕ → ℕ → Type 0) (number place k begin at blocks : ℕ) : Type 0 where
  pub count : ℕ
  pub blocks_is : blocks ≡ count + k
  pub front : (count ≡ 0) ⊎ Runs begin at count
  pub follows : begin + count ≡ number
  pub next : at + 4096 * count ≡ place

pub grown : (Runs : ℕ → ℕ → ℕ → Type 0) (begin at count number place begin' at' one blocks k : ℕ) → StandsBefore Runs begin at count → Joins begin at count number place begin' at' one → blocks + 1 ≡ one + k
    → IsGrown Runs number place k begin' at' blocks
grown Runs begin at count number place begin' at' one blocks k stands (Longer some most follows next same same_at more) sum = record {
  count = count;
  blocks_is = omega (arith, more, sum);
  front = elim stands [
    | inl none ↦ absurd (omega (arith, none, some))
    | inr run ↦ inr (subst (λ (n : ℕ). Runs n at' count) (sym same) (subst (λ (n : ℕ). Runs begin n count) (sym same_at) run))
  ];
  follows = omega (arith, same, follows);
  next = omega (arith, same_at, next);
}
grown Runs begin at count number place begin' at' one blocks k stands (Alone apart own own_at alone) sum = record {
  count = 0;
  blocks_is = omega (arith, alone, sum);
  front = inl refl;
  follows = omega (arith, own);
  next = omega (arith, own_at);
}

-- it ends with the block
pub joins_end : (begin at count number place begin' at' one : ℕ) → Joins begin at count number place begin' at' one → begin' + one ≡ number + 1
joins_end begin at count number place begin' at' one (Longer some few follows next same same_at more) = omega (arith, same, follows, more)
joins_end begin at count number place begin' at' one (Alone apart own own_at alone) = omega (arith, own, alone)

-- ---- the blocks are taken

module _ (old mid : Table) (tree : Tree) (a k : ℕ) (bytes : ℕ → List ℕ) (held : IsHeld old tree) (taken : AreTakenAt old mid a k bytes) where
  abbrev sub : List ℕ
  sub = sub_reach old tree

  abbrev fresh : List ℕ
  fresh = run_addresses a k

  abbrev files : List ℕ
  files = tree_data old tree ++ fresh

  taken_there : (x : ℕ) → Contains fresh x → IsTakenAt old mid x
  taken_there x c = let p = run_place a k x c in subst (IsTakenAt old mid) (sym p.is) (taken.taken p.place p.low)

  not_there : (x : ℕ) → Contains fresh x → Contains sub x → ⊥
  not_there x new c = (All-contains (IsTaken old) sub x held.taken c).taken (taken_there x new).was_free

  one : IsEdit old mid [] fresh
  one = record {
    size = taken.others.size;
    lists = taken.others.lists;
    fresh = λ x here none. let t = taken_there x here in (t.was_free, ap (λ (slot : BlockSlot). slot.state) t.dirty);
    left = λ x there none. absurd (in_nothing x there);
    kept = λ x there here. absurd (in_nothing x there);
    kept_whole = λ x there here _. absurd (in_nothing x there);
    others = λ x none gone. inl (taken.others.others x gone);
  }

  pub sub_alike : AreAlike old mid sub
  sub_alike = apart_alike old mid [] fresh sub one (λ at there. ((λ c. in_nothing at c), (All-contains (IsTaken old) sub at held.taken there).taken))

  alike_reach : AreAlike old mid (tree_reach old tree)
  alike_reach = All-left (λ (at : ℕ). block_at mid at ≡ block_at old at) (tree_reach old tree) (tree_data old tree) sub_alike

  pub items_mid : tree_items mid tree ≡ tree_items old tree
  items_mid = (tree_alike old mid tree alike_reach).0

  reach_mid : tree_reach mid tree ≡ tree_reach old tree
  reach_mid = (tree_alike old mid tree alike_reach).1

  whole : tree_reach old tree ++ files ≡ sub ++ fresh
  whole = sym (append_assoc (tree_reach old tree) (tree_data old tree) fresh)

  taken_now : (x : ℕ) → Contains fresh x → IsTaken mid x
  taken_now x c =
      let t = taken_there x c in
      record {
        allowed = subst (λ (n : ℕ). IsAllowed n x) (sym taken.others.size) t.allowed;
        taken = λ free. dirty_not_free (sym (ap (λ (slot : BlockSlot). slot.state) t.dirty) ∙ free);
      }
    where
      dirty_not_free : Dirty ≡ Free → ⊥
      dirty_not_free e = cc

  current_now : (x : ℕ) → Contains fresh x → (block_at mid x).state ≢ LetGo
  current_now x c gone = dirty_not_gone (sym (ap (λ (slot : BlockSlot). slot.state) (taken_there x c).dirty) ∙ gone)
    where
      dirty_not_gone : Dirty ≡ LetGo → ⊥
      dirty_not_gone e = cc

  all_fresh : (P : ℕ → Type 0) → ((x : ℕ) → Contains fresh x → P x) → All P fresh
  all_fresh P h = All-weaker (Contains fresh) P h fresh (All-contains_itself fresh)

  moved : (P : List ℕ → Type 0) → P (sub ++ fresh) → P (tree_reach mid tree ++ files)
  moved P h = subst (λ (l : List ℕ). P (l ++ files)) (sym reach_mid) (subst P (sym whole) h)

  pub held_mid : IsHeldWith mid tree files
  held_mid = record {
    stands = (tree_alike old mid tree alike_reach).2 held.stands;
    taken = moved (λ (l : List ℕ). All (IsTaken mid) l) (All-append (IsTaken mid) sub fresh (stay_taken old mid taken.others.size sub sub_alike held.taken) (all_fresh (IsTaken mid) taken_now));
    current = moved (λ (l : List ℕ). AreCurrent mid l)
        (All-append (λ (at : ℕ). (block_at mid at).state ≢ LetGo) sub fresh (stay_current old mid sub sub_alike held.current) (all_fresh (λ (at : ℕ). (block_at mid at).state ≢ LetGo) current_now));
    once = moved NoneTwice (once_append sub fresh held.once (run_once a k) (λ at here there. not_there at there here));
  }

  pub edit_mid : IsEdit old mid sub (tree_reach mid tree ++ files)
  edit_mid =
      let none : sub ++ [] ≡ sub = append-nil sub in
      let more : fresh ++ [] ≡ fresh = append-nil fresh in
      let both : IsEdit old mid (sub ++ ([] ++ [])) (sub ++ (fresh ++ [])) = edit_among old mid sub [] fresh [] one (subst NoneTwice (sym none) held.once) (subst (λ (l : List ℕ). All (IsTaken old) l) (sym none) held.taken) in
      moved (λ (l : List ℕ). IsEdit old mid sub l)
      (subst (λ (l : List ℕ). IsEdit old mid l (sub ++ fresh)) none (subst (λ (l : List ℕ). IsEdit old mid (sub ++ []) (sub ++ l)) more both))

  pub sealed_mid : (fsid : List ℕ) (was : ℕ) → IsSealedTree old tree fsid was → IsSealedTree mid tree fsid was
  sealed_mid fsid was h = sealed_alike tree.level old mid (record { fsid = fsid; at = tree.root; generation = was; owner = tree.owner; level = tree.level }) alike_reach h

-- ---- the blocks and their run

module _ (old mid new : Table) (tree after : Tree) (running ino number a k begin at blocks : ℕ) (content : ℕ → List ℕ) (said : List ℕ) (held : IsHeld old tree) (taken : AreTakenAt old mid a k (λ i. content (number + i))) (some : 1 ≤ k)
    (run : IsGrown (HasRun (tree_items old tree) ino) number a k begin at blocks)
    (edit : IsTreeEdit mid new tree after running 17) (items_are : tree_items new after ≡ with_item (make_key ino extent_data (4096 * begin)) said (tree_items mid tree))
    (read : extent_of (make_key ino extent_data (4096 * begin)) said ≡ Ok (Regular at 0 (4096 * blocks)))
    (known : Contents) (known_holds : HoldContents (tree_items old tree) (data_in old) ino known) (holes : AreHoles known number (number + k)) where
  abbrev items : List Item
  items = tree_items old tree

  abbrev key : Key
  key = make_key ino extent_data (4096 * begin)

  abbrev count : ℕ
  count = run.count

  now_files : List ℕ
  now_files = tree_data old tree ++ run_addresses a k

  items_now : tree_items new after ≡ with_item key said items
  items_now = items_are ∙ ap (with_item key said) (items_mid old mid tree a k (λ i. content (number + i)) held taken)

  read_now : extent_of key said ≡ Ok (Regular at 0 (4096 * (count + k)))
  read_now = read ∙ ap (λ (n : ℕ). Ok (Regular at 0 (4096 * n))) run.blocks_is

  none_begins : begin ≡ number → data_under key items ≡ None
  none_begins same = by (data_under key items) refl
    where
      by : (o : Option (List ℕ)) → data_under key items ≡ o → o ≡ None
      by None h = refl
      by (Some bytes) h =
          let r = known_holds.each (4096 * begin) bytes h in
          let full = have_some items ino r.begin r.at r.count r.run in
          let block = known_holds.are.holds r.begin r.at r.count 0 r.run (omega (arith, full)) in
          let place : r.begin + 0 ≡ number = omega (arith, r.offset_is, same) in
          absurd (some_none block.0 (sym block.2 ∙ ap known place ∙ holes number (omega arith) (omega (arith, some))))

  under_was : (x : ℕ) → times_in x (addresses_there key (data_under key items)) ≡ times_in x (run_addresses at count)
  under_was x = elim run.front [
    | inl none ↦
        let a = ap (λ (o : Option (List ℕ)). times_in x (addresses_there key o)) (none_begins (omega (arith, none, run.follows))) in
        let b = ap (λ (n : ℕ). times_in x (run_addresses at n)) none in
        omega (arith, a, b)
    | inr r ↦
        let a = ap (λ (o : Option (List ℕ)). times_in x (addresses_there key o)) r.there in
        let b = ap (times_in x) (run_addresses_are ino begin at count r.bytes r.read) in
        omega (arith, a, b)
  ]

  same : (x : ℕ) → times_in x (tree_data old tree ++ run_addresses a k) ≡ times_in x (tree_data new after)
  same x =
      let p = times_put x key said items held.stands.order in
      let e = ap (λ (l : List Item). times_in x (data_addresses l)) items_now in
      let u = under_was x in
      let w = ap (times_in x) (run_addresses_are ino begin at (count + k) said read_now) in
      let split = run_split x at count k in
      let last = ap (λ (n : ℕ). times_in x (run_addresses n k)) run.next in
      let both = times_append x (tree_data old tree) (run_addresses a k) in
      omega (arith, p, e, u, w, split, last, both)

  abbrev held_then : IsHeldWith mid tree (tree_data old tree ++ run_addresses a k)
  held_then = held_mid old mid tree a k (λ i. content (number + i)) held taken

  -- a data block that was there stays
  stays_there : (x : ℕ) → Contains (tree_data old tree) x → block_at new x ≡ block_at old x
  stays_there x c =
      let more : Contains (tree_data old tree ++ run_addresses a k) x = Contains-append_left (tree_data old tree) (run_addresses a k) x c in
      same_block mid new (tree_data old tree ++ run_addresses a k) x (files_alike mid new tree after running 17 (tree_data old tree ++ run_addresses a k) held_then edit) more
      ∙ same_block old mid (tree_data old tree) x (All-right (λ (y : ℕ). block_at mid y ≡ block_at old y) (tree_reach old tree) (tree_data old tree) (sub_alike old mid tree a k (λ i. content (number + i)) held taken)) c

  pub fill_edit : IsContentEdit old new tree after running ino (17 + k)
  fill_edit =
      edited old new tree after running ino (17 + k) (tree_data old tree ++ run_addresses a k) (held_after mid new tree after running 17 (tree_data old tree ++ run_addresses a k) held_then edit) same
      (edits_join old mid new (sub_reach old tree) (tree_reach mid tree ++ (tree_data old tree ++ run_addresses a k)) (tree_reach new after ++ (tree_data old tree ++ run_addresses a k)) (edit_mid old mid tree a k (λ i. content (number + i)) held taken) (tree_and_files mid new tree after running 17 (tree_data old tree ++ run_addresses a k) held_then edit))
      edit.owner (clean_joined old mid new tree tree after (alike_keeps_clean old mid tree (alike_reach old mid tree a k (λ i. content (number + i)) held taken)) (tree_keeps_clean mid new tree after edit.edit)) (λ fsid was h. edit.sealed fsid was (sealed_mid old mid tree a k (λ i. content (number + i)) held taken fsid was h))
      (subst (λ (l : List Item). BearGeneration running l (tree_items new after)) (items_mid old mid tree a k (λ i. content (number + i)) held taken) edit.bear)
      (record { spare = omega (arith, edit.taken.spare, taken.spare); free = omega (arith, edit.taken.free, taken.free) })
      (λ other beside. under_other items (tree_items new after) ino begin at (count + k) said items_now read_now other (beside_other ino (4096 * begin) other beside))
      (λ x was is. stays_there x was)

  pub fill_run : HasRun (tree_items new after) ino begin at blocks
  fill_run = (are_written items (tree_items new after) ino begin at blocks said items_now read).here

  pub fill_others : (b x c : ℕ) → b ≢ begin → HasRun (tree_items new after) ino b x c ↔ HasRun items ino b x c
  fill_others b x c other =
      let w = are_written items (tree_items new after) ino begin at blocks said items_now read in (
        λ r. elim (w.from b x c r) [ inl same ↦ absurd (other same.0) | inr old ↦ old.1 ],
        λ r. w.stays b x c other r,
      )

  new_block : (i : ℕ) → i < k → data_in new (at + 4096 * (count + i)) ≡ Some (content (number + i))
  new_block i low =
      let x : ℕ = a + 4096 * i in
      let place : at + 4096 * (count + i) ≡ x = omega (arith, run.next) in
      let there : Contains (tree_data old tree ++ run_addresses a k) x = Contains-append_right (tree_data old tree) (run_addresses a k) x (in_run a k x i low (omega arith)) in
      let same_slot : block_at new x ≡ block_at mid x = same_block mid new (tree_data old tree ++ run_addresses a k) x (files_alike mid new tree after running 17 (tree_data old tree ++ run_addresses a k) held_then edit) there in
      let stands : IsTaken new x =
      All-contains (IsTaken new) (tree_data old tree ++ run_addresses a k) x (All-right (IsTaken new) (tree_reach new after) (tree_data old tree ++ run_addresses a k) (held_after mid new tree after running 17 (tree_data old tree ++ run_addresses a k) held_then edit).taken) there in
      ap (data_in new) place ∙ data_at new x stands ∙ ap (λ (slot : BlockSlot). Some slot.bytes) same_slot ∙ ap (λ (b : List ℕ). Some b) (taken.filled i low)

  pub fill_contents : (contents : Contents) → HoldContents items (data_in old) ino contents → AreHoles contents number (number + k) → HoldContents (tree_items new after) (data_in new) ino (with_blocks contents content number (number + k))
  fill_contents contents hold none = record {
    each = each_written items (tree_items new after) ino begin at (count + k) said items_now read_now hold.each;
    are = grow_holds (HasRun items ino) (HasRun (tree_items new after) ino) (data_in old) (data_in new) contents begin at count number k content (are_sole items ino) (have_some items ino) hold.are none some run.front run.follows
        (are_written items (tree_items new after) ino begin at (count + k) said items_now read_now) new_block
        (λ b x c i r less. data_same old new (x + 4096 * i) (stays_there (x + 4096 * i) (run_in_data items ino b x c i r less)));
  }
