-- What the items of a log say: which item says it, and what is read of items that are spelled.
use Rattle.std.proofs.Common.{◌≡◌, ◌≢◌, ◌⊎◌, ℕ, Bool, true, false, cond, List, [], ◌∷◌, Contains, Option, Some, None, Result, Ok, nat_eq, map, find, flat_map, refl, sym, ap, subst, ◌∙◌, inl, inr}
use Rattle.std.proofs.lemmas.Bool.{eqb-true, eq-eqb}
use Rattle.std.proofs.lemmas.List.Elements.{Contains-append_cases}
use Rattle.blk_base.specs.declared.fault.ItemFault.{ItemFault}
use Rattle.blk_base.specs.Keys.{inode_item, inode_ref, inode_extref}
use Rattle.blk_base.specs.Leaf.{Item}
use Rattle.blk_base.specs.Items.{InodeValue, inode_value, file_mode, dir_mode, link_mode}
use Rattle.blk_base.specs.Entries.{RefValue, ExtRefValue, refs_of, extrefs_of}
use Rattle.blk_base.specs.ItemFaults.{IsLogSpelled}
use Rattle.item_laws.specs.Refs.{refs_to}
use Rattle.item_laws.specs.ExtRefs.{extrefs_to}
use Rattle.flat_model.specs.declared.view.Kind.{Kind}
use Rattle.flat_model.specs.declared.view.Kind.TheVariants.{File, Dir, Link}
use Rattle.flat_model.specs.Records.{InodeRecord, FileInode, DirInode, LinkInode, kind_of, at_creation}
use Rattle.flat_model.specs.Names.{FlatName}
use Rattle.logged_volume.specs.Accepted.{kind_of_whole}
use Rattle.volume_image.specs.Subvolume.{Data, mode_of}
use Rattle.volume_image.proofs.Lists.{in_nothing}
use Rattle.volume_image.proofs.Reaches.{head_in, tail_in}
use Rattle.volume_image.proofs.Members.{in_map, flat_map_in}
use Rattle.log_image.specs.LogItems.{read_or, is_at, value_of_item, inode_in, near_name, far_name, names_in_item, names_in, whole_by_mode, made_by_mode}
use Rattle.log_image.proofs.OneLog.{at_gives}

-- ---- lists

pub find_gives : {X : Type 0} (p : X → Bool) (xs : List X) (x : X) → find p xs ≡ Some x → Contains xs x × (p x ≡ true)
find_gives p [] x h = absurd cc
find_gives {X} p (y ∷ xs) x h = go (find_gives p xs x) (p y) refl h
  where
    go : (find p xs ≡ Some x → Contains xs x × (p x ≡ true)) → (b : Bool) → p y ≡ b → cond b (Some y) (find p xs) ≡ Some x → Contains (y ∷ xs) x × (p x ≡ true)
    go later true e h = let same : y ≡ x = cc in (subst (λ (z : X). Contains (y ∷ xs) z) same (head_in y xs), ap p (sym same) ∙ e)
    go later false e h = let rest = later h in (tail_in y x xs rest.0, rest.1)

pub in_flat_map : {X Y : Type 0} (f : X → List Y) (xs : List X) (y : Y) → Contains (flat_map f xs) y → (x : X) × Contains xs x × Contains (f x) y
in_flat_map f [] y c = absurd (in_nothing y c)
in_flat_map f (x ∷ xs) y c = elim (Contains-append_cases (f x) (flat_map f xs) y c) [
  | inl here ↦ (x, head_in x xs, here)
  | inr there ↦ let rest = in_flat_map f xs y there in (rest.0, tail_in x rest.0 xs rest.1, rest.2)
]

-- ---- inode items

-- the item that says what the inode is
pub record SaidBy (items : List Item) (ino : ℕ) (value : InodeValue) : Type 0 where
  pub item : Item
  pub there : Contains items item
  pub objectid : item.0.objectid ≡ ino
  pub kind : item.0.kind ≡ inode_item
  pub says : value ≡ inode_value item.1

pub said_by : (items : List Item) (ino : ℕ) (value : InodeValue) → inode_in items ino ≡ Some value → SaidBy items ino value
said_by items ino value h = go (find (is_at ino inode_item) items) refl h
  where
    go : (found : Option Item) → find (is_at ino inode_item) items ≡ found → value_of_item found ≡ Some value → SaidBy items ino value
    go None e h = absurd cc
    go (Some item) e h =
        let found = find_gives (is_at ino inode_item) items item e in
        let at = at_gives ino inode_item item found.1 in
        record { item = item; there = found.0; objectid = at.0; kind = at.1; says = cc }

-- the kind of a mode
abbrev pub kind_by_mode : ℕ → Kind
kind_by_mode mode = cond (nat_eq mode file_mode) File (cond (nat_eq mode dir_mode) Dir Link)

pub whole_mode_kind : (items : List Item) (blocks : Data) (ino : ℕ) (value : InodeValue) → kind_of_whole (whole_by_mode items blocks ino value) ≡ kind_by_mode value.mode
whole_mode_kind items blocks ino value = go (nat_eq value.mode file_mode) refl (nat_eq value.mode dir_mode) refl
  where
    go : (a : Bool) → nat_eq value.mode file_mode ≡ a → (b : Bool) → nat_eq value.mode dir_mode ≡ b → kind_of_whole (whole_by_mode items blocks ino value) ≡ kind_by_mode value.mode
    go true a b eb = rw a refl
    go false a true b = rw (a, b) refl
    go false a false b = rw (a, b) refl

pub made_mode_kind : (items : List Item) (ino : ℕ) (value : InodeValue) → kind_of (made_by_mode items ino value) ≡ kind_by_mode value.mode
made_mode_kind items ino value = go (nat_eq value.mode file_mode) refl (nat_eq value.mode dir_mode) refl
  where
    go : (a : Bool) → nat_eq value.mode file_mode ≡ a → (b : Bool) → nat_eq value.mode dir_mode ≡ b → kind_of (made_by_mode items ino value) ≡ kind_by_mode value.mode
    go true a b eb = rw a refl
    go false a true b = rw (a, b) refl
    go false a false b = rw (a, b) refl

pub made_twice : (items : List Item) (ino : ℕ) (value : InodeValue) → at_creation (made_by_mode items ino value) ≡ made_by_mode items ino value
made_twice items ino value = go (nat_eq value.mode file_mode) refl (nat_eq value.mode dir_mode) refl
  where
    go : (a : Bool) → nat_eq value.mode file_mode ≡ a → (b : Bool) → nat_eq value.mode dir_mode ≡ b → at_creation (made_by_mode items ino value) ≡ made_by_mode items ino value
    go true a b eb = rw a refl
    go false a true b = rw (a, b) refl
    go false a false b = rw (a, b) refl

pub record_mode_kind : (inode : InodeRecord) → kind_by_mode (mode_of inode) ≡ kind_of inode
record_mode_kind (FileInode file) = refl
record_mode_kind (DirInode dir) = refl
record_mode_kind (LinkInode link) = refl

-- a mode of an inode, and of a record of that kind, is the record's
pub same_mode : (inode : InodeRecord) (mode : ℕ) → (mode ≡ file_mode) ⊎ (mode ≡ dir_mode) ⊎ (mode ≡ link_mode) → kind_of inode ≡ kind_by_mode mode → mode_of inode ≡ mode
same_mode (FileInode file) mode (inl m) k = sym m
same_mode (FileInode file) mode (inr (inl m)) k = let wrong : File ≡ Dir = k ∙ ap kind_by_mode m in absurd cc
same_mode (FileInode file) mode (inr (inr m)) k = let wrong : File ≡ Link = k ∙ ap kind_by_mode m in absurd cc
same_mode (DirInode dir) mode (inl m) k = let wrong : Dir ≡ File = k ∙ ap kind_by_mode m in absurd cc
same_mode (DirInode dir) mode (inr (inl m)) k = sym m
same_mode (DirInode dir) mode (inr (inr m)) k = let wrong : Dir ≡ Link = k ∙ ap kind_by_mode m in absurd cc
same_mode (LinkInode link) mode (inl m) k = let wrong : Link ≡ File = k ∙ ap kind_by_mode m in absurd cc
same_mode (LinkInode link) mode (inr (inl m)) k = let wrong : Link ≡ Dir = k ∙ ap kind_by_mode m in absurd cc
same_mode (LinkInode link) mode (inr (inr m)) k = sym m

-- ---- names

-- the item that says the name
pub record NamedBy (items : List Item) (name : FlatName) : Type 0 where
  pub item : Item
  pub there : Contains items item
  pub ino : item.0.objectid ≡ name.ino
  pub kind : (item.0.kind ≡ inode_ref) ⊎ (item.0.kind ≡ inode_extref)

pub named_by : (items : List Item) (name : FlatName) → Contains (names_in items) name → NamedBy items name
named_by items name c =
    let found = in_flat_map names_in_item items name c in
    go found.0 found.1 found.2 (nat_eq found.0.0.kind inode_ref) refl (nat_eq found.0.0.kind inode_extref) refl
  where
    go : (item : Item) → Contains items item → Contains (names_in_item item) name → (a : Bool) → nat_eq item.0.kind inode_ref ≡ a → (b : Bool) → nat_eq item.0.kind inode_extref ≡ b → NamedBy items name
    go item there c true a b eb =
        let ref = in_map (near_name item.0) (read_or [] (refs_of item.0 item.1)) name (subst (λ (names : List FlatName). Contains names name) (near_case a) c) in
        record { item = item; there = there; ino = ap (λ (n : FlatName). n.ino) ref.2; kind = inl (eqb-true item.0.kind inode_ref a) }
      where
        near_case : nat_eq item.0.kind inode_ref ≡ true → names_in_item item ≡ map (near_name item.0) (read_or [] (refs_of item.0 item.1))
        near_case a = rw a refl
    go item there c false a true b =
        let ref = in_map (far_name item.0) (read_or [] (extrefs_of item.1)) name (subst (λ (names : List FlatName). Contains names name) (far_case a b) c) in
        record { item = item; there = there; ino = ap (λ (n : FlatName). n.ino) ref.2; kind = inr (eqb-true item.0.kind inode_extref b) }
      where
        far_case : nat_eq item.0.kind inode_ref ≡ false → nat_eq item.0.kind inode_extref ≡ true → names_in_item item ≡ map (far_name item.0) (read_or [] (extrefs_of item.1))
        far_case a b = rw (a, b) refl
    go item there c false a false b = absurd (in_nothing name (subst (λ (names : List FlatName). Contains names name) (no_case a b) c))
      where
        no_case : nat_eq item.0.kind inode_ref ≡ false → nat_eq item.0.kind inode_extref ≡ false → names_in_item item ≡ []
        no_case a b = rw (a, b) refl

-- an item of names has a name of its inode
pub first_near : (items : List Item) (item : Item) → Contains items item → item.0.kind ≡ inode_ref → IsLogSpelled item.0 item.1 → (name : FlatName) × Contains (names_in items) name × (name.ino ≡ item.0.objectid)
first_near items item there kind spelled = let refs = spelled.refs kind in go refs.0 (refs_to item.0 item.1 refs.0 refs.1) refs.1.some
  where
    near_case : nat_eq item.0.kind inode_ref ≡ true → names_in_item item ≡ map (near_name item.0) (read_or [] (refs_of item.0 item.1))
    near_case a = rw a refl

    go : (refs : List RefValue) → refs_of item.0 item.1 ≡ Ok refs → refs ≢ [] → (name : FlatName) × Contains (names_in items) name × (name.ino ≡ item.0.objectid)
    go [] is some = absurd (some refl)
    go (ref ∷ refs) is some =
        let said : names_in_item item ≡ map (near_name item.0) (ref ∷ refs) = near_case (eq-eqb item.0.kind inode_ref kind) ∙ ap (λ (r : Result (List RefValue) ItemFault). map (near_name item.0) (read_or [] r)) is in
        let name = near_name item.0 ref in
        (name, flat_map_in names_in_item items item name there (subst (λ (names : List FlatName). Contains names name) (sym said) (head_in name (map (near_name item.0) refs))), refl)

pub first_far : (items : List Item) (item : Item) → Contains items item → item.0.kind ≡ inode_extref → IsLogSpelled item.0 item.1 → (name : FlatName) × Contains (names_in items) name × (name.ino ≡ item.0.objectid)
first_far items item there kind spelled = let refs = spelled.extrefs kind in go refs.0 (extrefs_to item.1 refs.0 refs.1) refs.1.some
  where
    far_case : item.0.kind ≡ inode_extref → names_in_item item ≡ map (far_name item.0) (read_or [] (extrefs_of item.1))
    far_case k = rw k refl

    go : (refs : List ExtRefValue) → extrefs_of item.1 ≡ Ok refs → refs ≢ [] → (name : FlatName) × Contains (names_in items) name × (name.ino ≡ item.0.objectid)
    go [] is some = absurd (some refl)
    go (ref ∷ refs) is some =
        let said : names_in_item item ≡ map (far_name item.0) (ref ∷ refs) = far_case kind ∙ ap (λ (r : Result (List ExtRefValue) ItemFault). map (far_name item.0) (read_or [] r)) is in
        let name = far_name item.0 ref in
        (name, flat_map_in names_in_item items item name there (subst (λ (names : List FlatName). Contains names name) (sym said) (head_in name (map (far_name item.0) refs))), refl)
