-- The names of an inode are those that its refs tell.
use Rattle.std.proofs.Common.{◌≡◌, ◌≢◌, ◌⊎◌, ◌<◌, ◌-◌, ◌^◌, ◌==◌, ℕ, Bool, true, false, List, map, flat_map, Contains, IsPermutation, refl, sym, ap, subst, ◌∙◌, arith, inl, inr}
use Rattle.std.proofs.lemmas.Bool.{eqb-true, eq-eqb, true≢false}
use Rattle.block_table.specs.declared.tree.Tree.{Tree}
use Rattle.block_table.specs.Table.{Table}
use Rattle.blk_base.specs.declared.key.Key.{Key}
use Rattle.blk_base.specs.Crc.{extref_hash_of}
use Rattle.blk_base.proofs.CrcLemmas.{extref_hash_of-fits}
use Rattle.blk_base.specs.Entries.{ExtRefValue, RefValue, extrefs_of, refs_of as refs_read_of}
use Rattle.blk_base.specs.Keys.{KeyBelow, inode_extref, inode_ref}
use Rattle.blk_base.specs.Leaf.{Item}
use Rattle.tree_range.specs.Shape.{tree_items}
use Rattle.flat_model.specs.declared.view.NameAt.{NameAt}
use Rattle.flat_model.specs.Names.{FlatName, leads_to, names_of}
use Rattle.flat_model.specs.Unmarked.{unmarked}
use Rattle.flat_model.specs.Volume.{Subvolume}
use Rattle.volume_image.specs.Subvolume.{extref_of, extrefs_asked, make_key, ref_of, refs_asked}
use Rattle.volume_image.proofs.Members.{filter_in, flat_map_in, in_filter, in_map, map_in}
use Rattle.std.proofs.lemmas.List.Sorted.{Contains-permutation}
use Rattle.image_faults.specs.Faulty.{StandOnce}
use Rattle.image_faults.specs.Lists.{in_flat_map, once_map, once_permuted, permuted}
use Rattle.image_faults.specs.Said.{far_name, is_own_ref, near_name, read_list}
use Rattle.image_faults.proofs.Asking.{far_asked, own_ref_parts}
use Rattle.image_faults.proofs.ExtentSums.{once_rising_in}
use Rattle.image_faults.proofs.OfNames.{extrefs_read, refs_read}
use Rattle.image_faults.proofs.Once.{far_once, near_once}
use Rattle.image_faults.proofs.Readings.{FarItem, NearItem, far_said, near_said, said_from}
use Rattle.image_faults.proofs.Rising.{not_below_itself}
use Rattle.name_walk.specs.Given.{GivesCoherent}
use Rattle.table_volume.specs.Gives.{data_in}
use Rattle.current_view.specs.Told.{far_told, near_told, refs_of, refs_told}
use Rattle.current_view.specs.View.{seen}
use Rattle.current_view.proofs.Between.{LiesBetween, between_gives, between_has, between_rises}
use Rattle.current_view.proofs.Hashed.{all_from}
use Rattle.current_view.proofs.Once.{once_unmarked}
use Rattle.std.specs.Prelude.{All}

-- what an item of near names tells, and one of far names
pub near_items : (ino dir : ℕ) (bytes : List ℕ) → refs_told (make_key ino inode_ref dir, bytes) ≡ map (near_told (make_key ino inode_ref dir)) (read_list (refs_read_of (make_key ino inode_ref dir) bytes))
near_items ino dir bytes = refl

pub far_items : (ino hash : ℕ) (bytes : List ℕ) → refs_told (make_key ino inode_extref hash, bytes) ≡ map (far_told (make_key ino inode_extref hash)) (read_list (extrefs_of bytes))
far_items ino hash bytes = refl

-- an item of an inode's refs, near or far
pub data IsRefItem (items : List Item) (ino : ℕ) (item : Item) : Type 0 where
  IsNear : (dir : ℕ) (key : item.0 ≡ make_key ino inode_ref dir) (there : Contains items (make_key ino inode_ref dir, item.1)) → IsRefItem items ino item
  IsFar : (hash : ℕ) (key : item.0 ≡ make_key ino inode_extref hash) (there : Contains items (make_key ino inode_extref hash, item.1)) → IsRefItem items ino item

module _ (table : Table) (tree : Tree) (given : GivesCoherent table tree (seen table tree)) (ino : ℕ) (not_root : ino ≢ 256) where
  abbrev items : List Item
  items = tree_items table tree

  abbrev sub : Subvolume
  sub = seen table tree

  ref_item : (item : Item) → Contains (refs_of items ino) item → IsRefItem items ino item
  ref_item item c = go (item.0.kind == inode_ref) refl
    where
      parts : Contains items item × LiesBetween ino inode_ref inode_extref item.0
      parts = between_gives items ino inode_ref inode_extref (2 ^ 64 - 1) item c

      go : (b : Bool) → (item.0.kind == inode_ref) ≡ b → IsRefItem items ino item
      go true e =
          let kind = eqb-true item.0.kind inode_ref e in
          let key : item.0 ≡ make_key ino inode_ref item.0.offset = λ k. record { objectid = parts.1.objectid k; kind = kind k; offset = item.0.offset } in
          IsNear item.0.offset key (subst (λ (key : Key). Contains items (key, item.1)) key parts.0)
      go false e =
          let other : item.0.kind ≢ inode_ref = λ same. true≢false (sym (eq-eqb item.0.kind inode_ref same) ∙ e) in
          let kind : item.0.kind ≡ inode_extref = omega (arith, other, parts.1.low, parts.1.high) in
          let key : item.0 ≡ make_key ino inode_extref item.0.offset = λ k. record { objectid = parts.1.objectid k; kind = kind k; offset = item.0.offset } in
          IsFar item.0.offset key (subst (λ (key : Key). Contains items (key, item.1)) key parts.0)

  not_own : (dir : ℕ) (ref : RefValue) → is_own_ref (make_key ino inode_ref dir) ref ≡ false
  not_own dir ref = go (is_own_ref (make_key ino inode_ref dir) ref) refl
    where
      go : (b : Bool) → is_own_ref (make_key ino inode_ref dir) ref ≡ b → is_own_ref (make_key ino inode_ref dir) ref ≡ false
      go false e = e
      go true e = absurd (not_root (own_ref_parts ino dir ref e).0)

  near_key_told : (item : Item) (dir : ℕ) → item.0 ≡ make_key ino inode_ref dir → refs_told item ≡ map (near_told (make_key ino inode_ref dir)) (read_list (refs_read_of (make_key ino inode_ref dir) item.1))
  near_key_told item dir key = ap (λ (k : Key). refs_told (k, item.1)) key

  far_key_told : (item : Item) (hash : ℕ) → item.0 ≡ make_key ino inode_extref hash → refs_told item ≡ map (far_told (make_key ino inode_extref hash)) (read_list (extrefs_of item.1))
  far_key_told item hash key = ap (λ (k : Key). refs_told (k, item.1)) key

  -- the name that an item of refs tells, and the mark that it has by its item
  pub record TellsName (item : Item) (x : NameAt) : Type 0 where
    pub name : FlatName
    pub there : Contains sub.names name
    pub ino_is : name.ino ≡ ino
    pub told : unmarked name ≡ x
    pub near : name.near ≡ true → item.0 ≡ make_key ino inode_ref name.dir
    pub far : name.near ≡ false → item.0 ≡ make_key ino inode_extref (extref_hash_of name.dir name.bytes)

  hash_is : (hash : ℕ) (bytes : List ℕ) (ref : ExtRefValue) → Contains items (make_key ino inode_extref hash, bytes) → Contains (read_list (extrefs_of bytes)) ref → extref_hash_of ref.parent ref.name ≡ hash
  hash_is hash bytes ref there has =
      let asked = Contains-permutation (read_list (extrefs_of bytes)) (extrefs_asked sub ino hash) ref (extrefs_read items (data_in table) sub given.gives.items ino hash bytes there) has in
      let name = far_asked sub ino hash ref asked in
      ap (λ (r : ExtRefValue). extref_hash_of r.parent r.name) (sym name.5) ∙ name.4

  tells : (item : Item) (x : NameAt) → Contains (refs_of items ino) item → Contains (refs_told item) x → TellsName item x
  tells item x c told = go (ref_item item c)
    where
      go : IsRefItem items ino item → TellsName item x
      go (IsNear dir key there) =
          let ref = in_map (near_told (make_key ino inode_ref dir)) (read_list (refs_read_of (make_key ino inode_ref dir) item.1)) x (subst (λ (xs : List NameAt). Contains xs x) (near_key_told item dir key) told) in
          record {
            name = near_name (make_key ino inode_ref dir) ref.0;
            there = near_said items ino dir item.1 ref.0 there ref.1 (not_own dir ref.0);
            ino_is = refl;
            told = ref.2;
            near = λ e. key;
            far = λ e. absurd cc;
          }
      go (IsFar hash key there) =
          let ref = in_map (far_told (make_key ino inode_extref hash)) (read_list (extrefs_of item.1)) x (subst (λ (xs : List NameAt). Contains xs x) (far_key_told item hash key) told) in
          let is_hash = hash_is hash item.1 ref.0 there ref.1 in
          record {
            name = far_name (make_key ino inode_extref hash) ref.0;
            there = far_said items ino hash item.1 ref.0 there ref.1;
            ino_is = refl;
            told = ref.2;
            near = λ e. absurd cc;
            far = λ e. key ∙ ap (make_key ino inode_extref) (sym is_hash);
          }

  has : (x : NameAt) → Contains (map unmarked (names_of sub.names ino)) x → Contains (flat_map refs_told (refs_of items ino)) x
  has x c =
      let from = in_map unmarked (names_of sub.names ino) x c in
      let name = from.0 in
      let kept = in_filter (leads_to ino) sub.names name from.1 in
      let leads = eqb-true name.ino ino kept.1 in
      subst (Contains (flat_map refs_told (refs_of items ino))) from.2 (go name kept.0 leads (said_from items name kept.0))
    where
      go : (name : FlatName) → Contains sub.names name → name.ino ≡ ino → NearItem items name ⊎ FarItem items name → Contains (flat_map refs_told (refs_of items ino)) (unmarked name)
      go name c leads (inl item) =
          let between = between_has items name.ino inode_ref inode_extref (2 ^ 64 - 1) inode_ref name.dir item.bytes item.there (omega arith) (omega arith) (λ e. absurd (omega (arith, e))) in
          flat_map_in refs_told (refs_of items ino) (make_key name.ino inode_ref name.dir, item.bytes) (unmarked name)
          (subst (λ (i : ℕ). Contains (refs_of items i) (make_key name.ino inode_ref name.dir, item.bytes)) leads between)
          (map_in (near_told (make_key name.ino inode_ref name.dir)) (read_list (refs_read_of (make_key name.ino inode_ref name.dir) item.bytes)) (ref_of name) item.ref)
      go name c leads (inr item) =
          let asked = Contains-permutation (read_list (extrefs_of item.bytes)) (extrefs_asked sub name.ino item.hash) (extref_of name) (extrefs_read items (data_in table) sub given.gives.items name.ino item.hash item.bytes item.there) item.ref in
          let other = far_asked sub name.ino item.hash (extref_of name) asked in
          let fits : item.hash < 2 ^ 32 = subst (λ (h : ℕ). h < 2 ^ 32) other.4 (extref_hash_of-fits other.0.dir other.0.bytes (given.coherent.name_limits other.0 other.1).1) in
          let between = between_has items name.ino inode_ref inode_extref (2 ^ 64 - 1) inode_extref item.hash item.bytes item.there (omega arith) (omega arith) (λ e. omega (arith, fits)) in
          flat_map_in refs_told (refs_of items ino) (make_key name.ino inode_extref item.hash, item.bytes) (unmarked name)
          (subst (λ (i : ℕ). Contains (refs_of items i) (make_key name.ino inode_extref item.hash, item.bytes)) leads between)
          (map_in (far_told (make_key name.ino inode_extref item.hash)) (read_list (extrefs_of item.bytes)) (extref_of name) item.ref)

  gives : (x : NameAt) → Contains (flat_map refs_told (refs_of items ino)) x → Contains (map unmarked (names_of sub.names ino)) x
  gives x c =
      let item = in_flat_map refs_told (refs_of items ino) x c in
      let name = tells item.0 x item.1 item.2 in
      subst (Contains (map unmarked (names_of sub.names ino))) name.told
      (map_in unmarked (names_of sub.names ino) name.name (filter_in (leads_to ino) sub.names name.name name.there (eq-eqb name.name.ino ino name.ino_is)))

  pub refs_are : IsPermutation (map unmarked (names_of sub.names ino)) (flat_map refs_told (refs_of items ino))
  refs_are =
      permuted (map unmarked (names_of sub.names ino)) (flat_map refs_told (refs_of items ino)) (once_unmarked sub given.coherent (leads_to ino))
      (once_rising_in refs_told (refs_of items ino) (between_rises items (make_key ino inode_ref 0) (make_key ino inode_extref (2 ^ 64 - 1)) given.gives.tree_in.order) each apart) has gives
    where
      each : (item : Item) → Contains (refs_of items ino) item → StandOnce (refs_told item)
      each item c = go (ref_item item c)
        where
          go : IsRefItem items ino item → StandOnce (refs_told item)
          go (IsNear dir key there) =
              let once = once_permuted (refs_asked sub ino dir) (read_list (refs_read_of (make_key ino inode_ref dir) item.1)) (near_once sub given.coherent.in_order given.coherent.root_has_no_name ino dir)
              (refs_read items (data_in table) sub given.gives.items ino dir item.1 there) in
              subst StandOnce (sym (near_key_told item dir key))
              (once_map (near_told (make_key ino inode_ref dir)) (read_list (refs_read_of (make_key ino inode_ref dir) item.1))
              (λ a b ca cb e. λ k. record { index = ap (λ (n : NameAt). n.index) e k; name = ap (λ (n : NameAt). n.name) e k }) once)
          go (IsFar hash key there) =
              let once = once_permuted (extrefs_asked sub ino hash) (read_list (extrefs_of item.1)) (far_once sub given.coherent.in_order ino hash) (extrefs_read items (data_in table) sub given.gives.items ino hash item.1 there) in
              subst StandOnce (sym (far_key_told item hash key))
              (once_map (far_told (make_key ino inode_extref hash)) (read_list (extrefs_of item.1))
              (λ a b ca cb e. λ k. record { parent = ap (λ (n : NameAt). n.dir.0) e k; index = ap (λ (n : NameAt). n.index) e k; name = ap (λ (n : NameAt). n.name) e k }) once)

      apart : (one two : Item) (x : NameAt) → Contains (refs_of items ino) one → Contains (refs_of items ino) two → KeyBelow one.0 two.0 → Contains (refs_told one) x → Contains (refs_told two) x → ⊥
      apart one two x c d below a b = go first.name.near refl
        where
          first : TellsName one x
          first = tells one x c a

          second : TellsName two x
          second = tells two x d b

          same_told : unmarked first.name ≡ unmarked second.name
          same_told = first.told ∙ sym second.told

          same : first.name ≡ second.name
          same = given.coherent.no_name_twice first.name second.name first.there second.there (ap (λ (n : NameAt). n.dir.0) same_told) (ap (λ (n : NameAt). n.name) same_told)

          go : (near : Bool) → first.name.near ≡ near → ⊥
          go true e =
              let other = second.near (ap (λ (n : FlatName). n.near) (sym same) ∙ e) in
              not_below_itself one.0 two.0 (first.near e ∙ ap (λ (n : FlatName). make_key ino inode_ref n.dir) same ∙ sym other) below
          go false e =
              let other = second.far (ap (λ (n : FlatName). n.near) (sym same) ∙ e) in
              not_below_itself one.0 two.0 (first.far e ∙ ap (λ (n : FlatName). make_key ino inode_extref (extref_hash_of n.dir n.bytes)) same ∙ sym other) below

-- none of these items is the root directory's
pub never_root : (all : List Item) (ino : ℕ) → ino ≢ 256 → All (λ (item : Item). item.0.objectid ≢ 256) (refs_of all ino)
never_root all ino other = all_from {P = λ (item : Item). item.0.objectid ≢ 256} (refs_of all ino) (λ item c e. other (sym (between_gives all ino inode_ref inode_extref (2 ^ 64 - 1) item c).1.objectid ∙ e))
