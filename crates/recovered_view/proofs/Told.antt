-- The names that a log's items say, as they are lent.
use Rattle.std.proofs.Common.{◌≡◌, ◌≢◌, ℕ, Bool, true, false, cond, not, List, [], ◌∷◌, ◌++◌, map, filter, Contains, Result, Ok, Err, nat_eq, refl, sym, ap, subst, ◌∙◌, inl, inr}
use Rattle.std.specs.List.{AllByRecursion}
use Rattle.std.proofs.lemmas.Bool.{eqb-true, eq-eqb}
use Rattle.std.proofs.lemmas.List.{append_assoc}
use Rattle.blk_base.specs.declared.fault.ItemFault.{ItemFault}
use Rattle.blk_base.specs.Entries.{ExtRefValue, RefValue, extrefs_of, refs_of}
use Rattle.blk_base.specs.Keys.{inode_extref, inode_ref}
use Rattle.blk_base.specs.Leaf.{Item}
use Rattle.blk_base.specs.Name.{IsName}
use Rattle.coherent_names.specs.Names.{all_names}
use Rattle.flat_model.specs.Names.{FlatName, stands_in}
use Rattle.image_faults.specs.Faulty.{StandOnce}
use Rattle.image_faults.specs.Lists.{in_flat_map}
use Rattle.image_faults.specs.Said.{is_own_ref, read_list}
use Rattle.item_laws.specs.ExtRefs.{extrefs_to}
use Rattle.item_laws.specs.Refs.{refs_to}
use Rattle.log_image.specs.LogItems.{AreItemsOfLog, far_name, names_in, names_in_item, near_name, read_or}
use Rattle.log_image.proofs.OneLog.{flat_map_same}
use Rattle.log_image.proofs.Sayings.{first_near}
use Rattle.logged_volume.specs.FlatLog.{AreDistinct, FlatLog}
use Rattle.logged_volume.proofs.Members.{name_set_has}
use Rattle.volume_image.proofs.Lists.{in_cons, in_nothing}
use Rattle.volume_image.proofs.Members.{filter_in, in_map}
use Rattle.volume_image.specs.Subvolume.{Data}
use Rattle.current_view.proofs.Steps.{plain_names}

in_all : {X : Type 0} (P : X → Type 0) (xs : List X) → AllByRecursion P xs → (x : X) → Contains xs x → P x
in_all P [] all x c = absurd (in_nothing x c)
in_all {X} P (y ∷ xs) all x c = elim (in_cons y x xs c) [
  | inl same ↦ subst P same all.0
  | inr there ↦ in_all P xs all.1 x there
]

read_same : {V : Type 0} (r : Result (List V) ItemFault) → read_list r ≡ read_or [] r
read_same (Ok values) = refl
read_same (Err fault) = refl

-- a key that isn't the root directory's has no name for itself
own_none : (item : Item) → item.0.objectid ≢ 256 → (refs : List RefValue) → filter (λ ref. not (is_own_ref item.0 ref)) refs ≡ refs
own_none item other [] = refl
own_none item other (ref ∷ refs) = rw (not_own (nat_eq item.0.objectid 256) refl) (ap (λ (rs : List RefValue). ref ∷ rs) (own_none item other refs))
  where
    not_own : (b : Bool) → nat_eq item.0.objectid 256 ≡ b → is_own_ref item.0 ref ≡ false
    not_own true e = absurd (other (eqb-true item.0.objectid 256 e))
    not_own false e = rw e refl

module _ (items : List Item) (blocks : Data) (log : FlatLog) (are : AreItemsOfLog items blocks log) (unnamed : (name : FlatName) → Contains log.names name → name.ino ≢ 256) where
  -- no item of near names is the root directory's
  not_root : (item : Item) → Contains items item → item.0.kind ≡ inode_ref → item.0.objectid ≢ 256
  not_root item c kind same =
      let first = first_near items item c kind (are.only item.0 item.1 c).spelled in
      unnamed first.0 (subst (λ (ns : List FlatName). Contains ns first.0) (sym are.names) (name_set_has (names_in items) first.0 first.1)) (first.2 ∙ same)

  item_same : (item : Item) → Contains items item → Rattle.image_faults.specs.Said.names_in item ≡ names_in_item item
  item_same item c = go (nat_eq item.0.kind inode_ref) refl (nat_eq item.0.kind inode_extref) refl
    where
      go : (a : Bool) → nat_eq item.0.kind inode_ref ≡ a → (b : Bool) → nat_eq item.0.kind inode_extref ≡ b → Rattle.image_faults.specs.Said.names_in item ≡ names_in_item item
      go true e b f =
          ap (λ (z : Bool). cond z (map (near_name item.0) (filter (λ ref. not (is_own_ref item.0 ref)) (read_list (refs_of item.0 item.1)))) (cond (nat_eq item.0.kind inode_extref) (map (far_name item.0) (read_list (extrefs_of item.1))) [])) e
          ∙ ap (map (near_name item.0)) (own_none item (not_root item c (eqb-true item.0.kind inode_ref e)) (read_list (refs_of item.0 item.1)) ∙ read_same (refs_of item.0 item.1))
          ∙ sym (ap (λ (z : Bool). cond z (map (near_name item.0) (read_or [] (refs_of item.0 item.1))) (cond (nat_eq item.0.kind inode_extref) (map (far_name item.0) (read_or [] (extrefs_of item.1))) [])) e)
      go false e true f = rw (e, f) (ap (map (far_name item.0)) (read_same (extrefs_of item.1)))
      go false e false f = rw (e, f) refl

  -- so all names are those that the log's items say
  pub all_said : all_names items ≡ names_in items
  all_said = flat_map_same Rattle.image_faults.specs.Said.names_in names_in_item items item_same

  item_named : (item : Item) → Contains items item → (name : FlatName) → Contains (names_in_item item) name → IsName name.bytes
  item_named item c name d = go (nat_eq item.0.kind inode_ref) refl (nat_eq item.0.kind inode_extref) refl
    where
      near_case : nat_eq item.0.kind inode_ref ≡ true → names_in_item item ≡ map (near_name item.0) (read_or [] (refs_of item.0 item.1))
      near_case e = rw e refl

      far_case : nat_eq item.0.kind inode_ref ≡ false → nat_eq item.0.kind inode_extref ≡ true → names_in_item item ≡ map (far_name item.0) (read_or [] (extrefs_of item.1))
      far_case e f = rw (e, f) refl

      no_case : nat_eq item.0.kind inode_ref ≡ false → nat_eq item.0.kind inode_extref ≡ false → names_in_item item ≡ []
      no_case e f = rw (e, f) refl

      go : (a : Bool) → nat_eq item.0.kind inode_ref ≡ a → (b : Bool) → nat_eq item.0.kind inode_extref ≡ b → IsName name.bytes
      go true e b f =
          let kind = eqb-true item.0.kind inode_ref e in
          let refs = (are.only item.0 item.1 c).spelled.refs kind in
          let is : names_in_item item ≡ map (near_name item.0) refs.0 = near_case e ∙ ap (λ (r : Result (List RefValue) ItemFault). map (near_name item.0) (read_or [] r)) (refs_to item.0 item.1 refs.0 refs.1) in
          let ref = in_map (near_name item.0) refs.0 name (subst (λ (ns : List FlatName). Contains ns name) is d) in
          subst (λ (n : FlatName). IsName n.bytes) ref.2
          (in_all (λ (r : RefValue). IsName r.name) refs.0 (plain_names item.0 refs.0 (not_root item c kind) refs.1.names) ref.0 ref.1)
      go false e true f =
          let kind = eqb-true item.0.kind inode_extref f in
          let refs = (are.only item.0 item.1 c).spelled.extrefs kind in
          let is : names_in_item item ≡ map (far_name item.0) refs.0 = far_case e f ∙ ap (λ (r : Result (List ExtRefValue) ItemFault). map (far_name item.0) (read_or [] r)) (extrefs_to item.1 refs.0 refs.1) in
          let ref = in_map (far_name item.0) refs.0 name (subst (λ (ns : List FlatName). Contains ns name) is d) in
          subst (λ (n : FlatName). IsName n.bytes) ref.2 (in_all (λ (r : ExtRefValue). IsName r.name) refs.0 refs.1.names ref.0 ref.1)
      go false e false f = absurd (in_nothing name (subst (λ (ns : List FlatName). Contains ns name) (no_case e f) d))

  -- and each is a name
  pub all_named : (name : FlatName) → Contains (names_in items) name → IsName name.bytes
  all_named name c = let item = in_flat_map names_in_item items name c in item_named item.0 item.1 name item.2

-- ---- one name more

pub one_added : {X Y Z : Type 0} (f : Y → Z) (p : Y → Bool) (g : X → Y) (before now : List Z) (left rest : List X) (x : X) (z : Z) (whole : List Z) → before ++ map f (filter p (map g left)) ≡ whole → left ≡ x ∷ rest → p (g x) ≡ true → z ≡ f (g x)
    → now ≡ before ++ z ∷ [] → now ++ map f (filter p (map g rest)) ≡ whole
one_added f p g before now left rest x z whole is step holds told pushed =
    ap (λ zs. zs ++ map f (filter p (map g rest))) pushed ∙ append_assoc before (z ∷ []) (map f (filter p (map g rest))) ∙ ap (λ y. before ++ y ∷ map f (filter p (map g rest))) told
    ∙ sym (ap (λ b. before ++ map f (cond b (g x ∷ filter p (map g rest)) (filter p (map g rest)))) holds) ∙ sym (ap (λ xs. before ++ map f (filter p (map g xs))) step) ∙ is

pub one_passed : {X Y Z : Type 0} (f : Y → Z) (p : Y → Bool) (g : X → Y) (before : List Z) (left rest : List X) (x : X) (whole : List Z) → before ++ map f (filter p (map g left)) ≡ whole → left ≡ x ∷ rest → p (g x) ≡ false
    → before ++ map f (filter p (map g rest)) ≡ whole
one_passed f p g before left rest x whole is step misses =
    sym (ap (λ b. before ++ map f (cond b (g x ∷ filter p (map g rest)) (filter p (map g rest)))) misses) ∙ sym (ap (λ xs. before ++ map f (filter p (map g xs))) step) ∙ is

-- ---- no name stands twice

-- names of which no directory has one twice
pub said_once : (names : List FlatName) → ((dir : ℕ) → AreDistinct (filter (stands_in dir) names)) → StandOnce names
said_once [] each = tt
said_once (name ∷ names) each = (λ c. (head_parts.0) (filter_in (stands_in name.dir) names name c here), said_once names rest)
  where
    here : stands_in name.dir name ≡ true
    here = eq-eqb name.dir name.dir refl

    head_parts : AreDistinct (name ∷ filter (stands_in name.dir) names)
    head_parts = subst (λ (b : Bool). AreDistinct (cond b (name ∷ filter (stands_in name.dir) names) (filter (stands_in name.dir) names))) here (each name.dir)

    rest : (dir : ℕ) → AreDistinct (filter (stands_in dir) names)
    rest dir = go (stands_in dir name) (each dir)
      where
        go : (b : Bool) → AreDistinct (cond b (name ∷ filter (stands_in dir) names) (filter (stands_in dir) names)) → AreDistinct (filter (stands_in dir) names)
        go true all = all.1
        go false all = all
