-- Data blocks and inodes: what the table has where the image has the same.
use Rattle.std.proofs.Common.{◌≡◌, ◌≢◌, ◌↔◌, ◌+◌, ◌/◌, ◌++◌, ◌==◌, ◌&&◌, ℕ, zero, suc, Bool, true, false, cond, not, List, [], ◌∷◌, flat_map, Contains, Option, Some, None, Result, Ok, Err, refl, sym, ap, subst, ◌∙◌, inl, inr}
use Rattle.std.proofs.lemmas.Bool.{and_parts, cases_Bool}
use Rattle.std.proofs.lemmas.List.Elements.{Contains-append_cases, Contains-append_left, Contains-append_right}
use Rattle.std.specs.FinMap.{from_entries}
use Rattle.blk_base.specs.declared.fault.ItemFault.{ItemFault}
use Rattle.blk_base.specs.Address.{is_allowed}
use Rattle.blk_base.specs.Bytes.{Image}
use Rattle.blk_base.specs.Extents.{ExtentValue, Hole, Inline, Regular, extent_of}
use Rattle.blk_base.specs.Items.{InodeValue, inode_of}
use Rattle.blk_base.specs.Keys.{extent_data, inode_item}
use Rattle.blk_base.specs.Leaf.{Item}
use Rattle.flat_model.specs.Volume.{Subvolume}
use Rattle.volume_image.specs.declared.fault.LoadFault.TheVariants as loads
use Rattle.volume_image.specs.Stands.{data_of}
use Rattle.volume_image.specs.Subvolume.{Data, data_addresses, item_addresses, run_addresses}
use Rattle.volume_image.specs.Tree.{was_reached}
use Rattle.volume_image.proofs.Lists.{in_cons, in_nothing}
use Rattle.volume_image.proofs.Members.{flat_map_in}
use Rattle.volume_image.proofs.Reaches.{head_in, not_reached, tail_in, was_reached-in, was_reached-true}
use Rattle.image_faults.specs.Faulty.{HasNoFault, IsRightInode}
use Rattle.image_faults.specs.Lowest.{first_faulty}
use Rattle.image_faults.specs.Said.{block_there, blocks_in, extent_blocks, inode_in, is_item_of, record_by, run_blocks, said_blocks, said_inodes, said_names, said_record, said_sub}
use Rattle.image_faults.proofs.Firsts.{first_is_lowest, lowest_is_first, none_is_faulty, none_is_first}
use Rattle.image_order.specs.FirstFault.{BadTree, data_after, incoherent}
use Rattle.tree_check.specs.declared.fault.TreeFault.{TreeFault}
use Rattle.tree_check.specs.declared.fault.TreeFault.TheVariants as trees
use Rattle.tree_check.specs.Blocks.{blocks_checked}
use Rattle.coherent.specs.Answer.{IsCoherentAnswer}
use Rattle.fault_laws.specs.Told.{fault_of_data, image_fault}

-- ---- data blocks

abbrev AreSame : List ℕ → List ℕ → Type 0
AreSame reached before = (at : ℕ) → Contains reached at ↔ Contains before at

reached_same : (reached before : List ℕ) (at : ℕ) → ((x : ℕ) → Contains reached x ↔ Contains before x) → was_reached at reached ≡ was_reached at before
reached_same reached before at same = elim (cases_Bool (was_reached at reached)) [
  | inl yes' ↦ yes' ∙ sym (was_reached-in at before ((same at).0 (was_reached-true at reached yes')))
  | inr no' ↦ elim (cases_Bool (was_reached at before)) [
    | inl also ↦ absurd (not_reached at reached no' ((same at).1 (was_reached-true at before also)))
    | inr neither ↦ no' ∙ sym neither
  ]
]

more_same : (reached before : List ℕ) (at : ℕ) → ((x : ℕ) → Contains reached x ↔ Contains before x) → (x : ℕ) → Contains (at ∷ reached) x ↔ Contains (before ++ at ∷ []) x
more_same reached before at same x = (
  λ c. elim (in_cons at x reached c) [
    | inl here ↦ Contains-append_right before (at ∷ []) x (subst (Contains (at ∷ [])) here (head_in at []))
    | inr there ↦ Contains-append_left before (at ∷ []) x ((same x).0 there)
  ],
  λ c. elim (Contains-append_cases before (at ∷ []) x c) [
    | inl there ↦ tail_in at x reached ((same x).1 there)
    | inr last ↦ elim (in_cons at x [] last) [ inl here ↦ subst (Contains (at ∷ reached)) here (head_in at reached) | inr none ↦ absurd (in_nothing x none) ]
  ],
)

pub data_fault_is_first : (id blocks : ℕ) (reached before addresses : List ℕ) → ((at : ℕ) → Contains reached at ↔ Contains before at)
    → image_fault id (blocks_checked blocks reached addresses) ≡ fault_of_data (data_after blocks addresses before)
data_fault_is_first id blocks reached before [] same = refl
data_fault_is_first id blocks reached before (at ∷ addresses) same =
    go (not (is_allowed blocks at)) (was_reached at reached) (data_fault_is_first id blocks (at ∷ reached) (before ++ at ∷ []) addresses (more_same reached before at same))
    ∙ ap (λ (t : Bool). fault_of_data (cond (not (is_allowed blocks at)) (Err (BadTree (loads.Outside (record { 0 = at })))) (cond t (Err (BadTree (loads.Twice (record { 0 = at })))) (data_after blocks addresses (before ++ at ∷ []))))) (reached_same reached before at same)
  where
    go : (outside twice : Bool) → image_fault id (blocks_checked blocks (at ∷ reached) addresses) ≡ fault_of_data (data_after blocks addresses (before ++ at ∷ [])) → image_fault id (cond outside (Err (trees.Outside (record { 0 = at }))) (cond twice (Err (trees.Twice (record { 0 = at }))) (blocks_checked blocks (at ∷ reached) addresses)))
        ≡ fault_of_data (cond outside (Err (BadTree (loads.Outside (record { 0 = at })))) (cond twice (Err (BadTree (loads.Twice (record { 0 = at })))) (data_after blocks addresses (before ++ at ∷ []))))
    go true twice rest = refl
    go false true rest = refl
    go false false rest = rest

-- ---- what items say, by two readings of the same data blocks

flat_same : {X Y : Type 0} (f g : X → List Y) (xs : List X) → ((x : X) → Contains xs x → f x ≡ g x) → flat_map f xs ≡ flat_map g xs
flat_same f g [] each = refl
flat_same f g (x ∷ xs) each = (λ i. each x (head_in x xs) i ++ flat_same f g xs (λ y c. each y (tail_in x y xs c)) i)

module _ (items : List Item) (one two : Data) (agree : (at : ℕ) → Contains (data_addresses items) at → one at ≡ two at) where
  run_same : (count number at : ℕ) → ((x : ℕ) → Contains (run_addresses at count) x → one x ≡ two x) → run_blocks one number at count ≡ run_blocks two number at count
  run_same zero number at each = refl
  run_same (suc count) number at each =
      (λ i. block_there number (each at (head_in at (run_addresses (at + 4096) count)) i) ++ run_same count (number + 1) (at + 4096) (λ x c. each x (tail_in at x (run_addresses (at + 4096) count) c)) i)

  -- the blocks that an item says
  item_same : (ino : ℕ) (item : Item) → Contains items item → blocks_in one ino item ≡ blocks_in two ino item
  item_same ino item c = go (is_item_of extent_data ino item.0) refl (extent_of item.0 item.1) refl
    where
      inside : (at offset len x : ℕ) → (item.0.kind == extent_data) ≡ true → extent_of item.0 item.1 ≡ Ok (Regular at offset len) → Contains (run_addresses at (len / 4096)) x → Contains (data_addresses items) x
      inside at offset len x kind read d =
          flat_map_in item_addresses items item x c (subst (λ (addresses : List ℕ). Contains addresses x) (sym (rw (kind, read) refl)) d)

      go : (t : Bool) → is_item_of extent_data ino item.0 ≡ t → (r : Result ExtentValue ItemFault) → extent_of item.0 item.1 ≡ r → cond t (extent_blocks one (item.0.offset / 4096) r) [] ≡ cond t (extent_blocks two (item.0.offset / 4096) r) []
      go false e r read = refl
      go true e (Ok (Regular at offset len)) read =
          run_same (len / 4096) (item.0.offset / 4096) at (λ x d. agree x (inside at offset len x (and_parts _ _ e).0 read d))
      go true e (Ok (Inline content)) read = refl
      go true e (Ok (Hole len)) read = refl
      go true e (Err fault) read = refl

  blocks_same : (ino : ℕ) → said_blocks items one ino ≡ said_blocks items two ino
  unfolding said_blocks
  blocks_same ino = ap from_entries (flat_same (blocks_in one ino) (blocks_in two ino) items (λ item c. item_same ino item c))

  inode_same : (item : Item) → inode_in items one item ≡ inode_in items two item
  inode_same item = go (inode_of item.1)
    where
      record_same : (ino : ℕ) (value : InodeValue) → said_record items one ino value ≡ said_record items two ino value
      record_same ino value = simp (blocks_same ino)

      go : (r : Result InodeValue ItemFault) → cond ((item.0.kind == inode_item) && (item.0.offset == 0)) (record_by items one item.0.objectid r) [] ≡ cond ((item.0.kind == inode_item) && (item.0.offset == 0)) (record_by items two item.0.objectid r) []
      go (Ok value) = ap (λ r. cond ((item.0.kind == inode_item) && (item.0.offset == 0)) ((item.0.objectid, r) ∷ []) []) (record_same item.0.objectid value)
      go (Err fault) = refl

  inodes_same : said_inodes items one ≡ said_inodes items two
  unfolding said_inodes
  inodes_same = ap from_entries (flat_same (inode_in items one) (inode_in items two) items (λ item c. inode_same item))

  pub subs_same : said_sub items one ≡ said_sub items two
  subs_same = λ i. record { inodes = inodes_same i; names = said_names items }

  pub faulty_same : first_faulty items one ≡ first_faulty items two
  faulty_same = go (first_faulty items one) refl
    where
      forth : (ino : ℕ) → HasNoFault items one ino → HasNoFault items two ino
      forth ino whole = subst (λ (s : Subvolume). IsRightInode items s ino) subs_same whole

      back : (ino : ℕ) → HasNoFault items two ino → HasNoFault items one ino
      back ino whole = subst (λ (s : Subvolume). IsRightInode items s ino) (sym subs_same) whole

      go : (o : Option ℕ) → first_faulty items one ≡ o → first_faulty items one ≡ first_faulty items two
      go None e = e ∙ sym (none_is_first items two (λ ino. forth ino (none_is_faulty items one e ino)))
      go (Some ino) e =
          let first = first_is_lowest items one ino e in
          e ∙ sym (lowest_is_first items two ino (record { faulty = λ whole. first.faulty (back ino whole); lowest = λ other below. forth other (first.lowest other below) }))

-- ---- the answer

pub incoherent_is_first : (id : ℕ) (image : Image) (items : List Item) (blocks : Data) (answer : Result (Unit {0}) TreeFault) → ((at : ℕ) → Contains (data_addresses items) at → blocks at ≡ data_of image at)
    → IsCoherentAnswer items blocks answer → answer ≢ Err TreeFault.OutOfMemory → image_fault id answer ≡ incoherent id (first_faulty items (data_of image))
incoherent_is_first id image items blocks answer agree is other = go answer refl is
  where
    says : first_faulty items blocks ≡ first_faulty items (data_of image)
    says = faulty_same items blocks (data_of image) agree

    go : (r : Result (Unit {0}) TreeFault) → answer ≡ r → IsCoherentAnswer items blocks r → image_fault id r ≡ incoherent id (first_faulty items (data_of image))
    go (Ok none) e h = sym (ap (incoherent id) (sym says ∙ h))
    go (Err (trees.Incoherent ino)) e h = sym (ap (incoherent id) (sym says ∙ h))
    go (Err trees.OutOfMemory) e h = absurd (other e)
    go (Err (trees.Item at key why)) e h = absurd h
    go (Err (trees.Outside at)) e h = absurd h
    go (Err (trees.Twice at)) e h = absurd h
    go (Err trees.Disk) e h = absurd h
