-- The test of an item's key says that it is the one that the format gives.
use Rattle.std.proofs.Common.{◌≡◌, ◌≢◌, ◌&&◌, ℕ, Bool, true, false, cond, List, [], ◌∷◌, Contains, Result, Ok, Err, nat_eq, refl, sym, ap, subst, ◌∙◌, arith}
use Rattle.std.specs.List.{list_all, AllByRecursion}
use Rattle.std.proofs.lemmas.Bool.{and_parts, and_from, eqb-true, eq-eqb}
use Rattle.blk_base.specs.declared.key.Key.{Key}
use Rattle.blk_base.specs.declared.fault.ItemFault.{ItemFault}
use Rattle.blk_base.specs.Crc.{name_hash_of, extref_hash_of}
use Rattle.blk_base.specs.Keys.{inode_item, inode_extref, xattr_item, dir_item, dir_index}
use Rattle.blk_base.specs.Entries.{ExtRefValue, EntryValue, IsEntries, extrefs_of, entries_of}
use Rattle.blk_base.specs.ItemFaults.{HasItsKey, IsLogSpelled, LeadsToInode, LeadsNowhere, is_log_kind}
use Rattle.item_laws.specs.ExtRefs.{extrefs_to}
use Rattle.item_laws.specs.Directories.{entries_to}
use Rattle.log_image.specs.LogItems.{read_or}
use Rattle.log_image.specs.LogRules.{has_its_key, leads_to_inode, leads_nowhere}

module _ {X : Type 0} (P : X → Type 0) (p : X → Bool) where
  each_gives : ((x : X) → p x ≡ true → P x) → (xs : List X) → list_all p xs ≡ true → AllByRecursion P xs
  each_gives f [] h = tt
  each_gives f (x ∷ xs) h = let both = and_parts (p x) (list_all p xs) h in (f x both.0, each_gives f xs both.1)

  each_from : ((x : X) → P x → p x ≡ true) → (xs : List X) → AllByRecursion P xs → list_all p xs ≡ true
  each_from f [] h = refl
  each_from f (x ∷ xs) h = and_from (p x) (list_all p xs) (f x h.0) (each_from f xs h.1)

-- ---- what each test says

to_inode_gives : (e : EntryValue) → leads_to_inode e ≡ true → LeadsToInode e
to_inode_gives e h =
    let both = and_parts (nat_eq e.target.kind inode_item) (nat_eq e.target.offset 0) h in
    record { kind = eqb-true e.target.kind inode_item both.0; offset = eqb-true e.target.offset 0 both.1 }

to_inode_from : (e : EntryValue) → LeadsToInode e → leads_to_inode e ≡ true
to_inode_from e leads = and_from _ _ (eq-eqb e.target.kind inode_item leads.kind) (eq-eqb e.target.offset 0 leads.offset)

nowhere_gives : (e : EntryValue) → leads_nowhere e ≡ true → LeadsNowhere e
nowhere_gives e h =
    let one = and_parts (nat_eq e.target.objectid 0) (nat_eq e.target.kind 0 && nat_eq e.target.offset 0) h in
    let two = and_parts (nat_eq e.target.kind 0) (nat_eq e.target.offset 0) one.1 in
    record { objectid = eqb-true e.target.objectid 0 one.0; kind = eqb-true e.target.kind 0 two.0; offset = eqb-true e.target.offset 0 two.1 }

nowhere_from : (e : EntryValue) → LeadsNowhere e → leads_nowhere e ≡ true
nowhere_from e leads =
    and_from _ _ (eq-eqb e.target.objectid 0 leads.objectid) (and_from _ _ (eq-eqb e.target.kind 0 leads.kind) (eq-eqb e.target.offset 0 leads.offset))

abbrev extref_test : ℕ → ExtRefValue → Bool
extref_test hash ref = nat_eq (extref_hash_of ref.parent ref.name) hash

abbrev attribute_test : ℕ → EntryValue → Bool
attribute_test hash e = nat_eq (name_hash_of e.name) hash && leads_nowhere e

attribute_gives : (hash : ℕ) (e : EntryValue) → attribute_test hash e ≡ true → (name_hash_of e.name ≡ hash) × LeadsNowhere e
attribute_gives hash e h =
    let both = and_parts (nat_eq (name_hash_of e.name) hash) (leads_nowhere e) h in (eqb-true (name_hash_of e.name) hash both.0, nowhere_gives e both.1)

attribute_from : (hash : ℕ) (e : EntryValue) → (name_hash_of e.name ≡ hash) × LeadsNowhere e → attribute_test hash e ≡ true
attribute_from hash e both = and_from _ _ (eq-eqb (name_hash_of e.name) hash both.0) (nowhere_from e both.1)

-- what is read is what was read
read_ok : {V : Type 0} (other value : V) (result : Result V ItemFault) → result ≡ Ok value → read_or other result ≡ value
read_ok other value result e = ap (read_or other) e

-- ---- by types

inode_case : (key : Key) (bytes : List ℕ) → key.kind ≡ inode_item → has_its_key key bytes ≡ nat_eq key.offset 0
unfolding has_its_key
inode_case key bytes k = rw k refl

extref_case : (key : Key) (bytes : List ℕ) → key.kind ≡ inode_extref → has_its_key key bytes ≡ list_all (extref_test key.offset) (read_or [] (extrefs_of bytes))
unfolding has_its_key
extref_case key bytes k = rw k refl

index_case : (key : Key) (bytes : List ℕ) → key.kind ≡ dir_index → has_its_key key bytes ≡ list_all leads_to_inode (read_or [] (entries_of dir_index bytes))
unfolding has_its_key
index_case key bytes k = rw k refl

xattr_case : (key : Key) (bytes : List ℕ) → key.kind ≡ xattr_item → has_its_key key bytes ≡ list_all (attribute_test key.offset) (read_or [] (entries_of xattr_item bytes))
unfolding has_its_key
xattr_case key bytes k = rw k refl

other_case : (key : Key) (bytes : List ℕ) → nat_eq key.kind inode_item ≡ false → nat_eq key.kind inode_extref ≡ false → nat_eq key.kind dir_index ≡ false → nat_eq key.kind xattr_item ≡ false
    → has_its_key key bytes ≡ true
unfolding has_its_key
other_case key bytes a b c d = rw (a, b, c, d) refl

no_dir_item : (kind : ℕ) → is_log_kind kind ≡ true → kind ≡ dir_item → ⊥
no_dir_item kind h k = let range : is_log_kind dir_item ≡ true = subst (λ (n : ℕ). is_log_kind n ≡ true) k h in absurd cc

pub key_gives : (key : Key) (bytes : List ℕ) → is_log_kind key.kind ≡ true → has_its_key key bytes ≡ true → HasItsKey key bytes
key_gives key bytes in_log h = record {
  inode = λ k. eqb-true key.offset 0 (sym (inode_case key bytes k) ∙ h);
  extrefs = λ k refs is. each_gives (λ (ref : ExtRefValue). extref_hash_of ref.parent ref.name ≡ key.offset) (extref_test key.offset) (λ ref t. eqb-true _ key.offset t) refs
      (ap (list_all (extref_test key.offset)) (sym (read_ok [] refs (extrefs_of bytes) (extrefs_to bytes refs is))) ∙ sym (extref_case key bytes k) ∙ h);
  hashed = λ k. absurd (no_dir_item key.kind in_log k);
  indexed = λ k entries is. each_gives LeadsToInode leads_to_inode to_inode_gives entries
      (ap (list_all leads_to_inode) (sym (read_ok [] entries (entries_of dir_index bytes) (entries_to dir_index bytes entries is))) ∙ sym (index_case key bytes k) ∙ h);
  attributes = λ k entries is. each_gives (λ (e : EntryValue). (name_hash_of e.name ≡ key.offset) × LeadsNowhere e) (attribute_test key.offset) (attribute_gives key.offset) entries
      (ap (list_all (attribute_test key.offset)) (sym (read_ok [] entries (entries_of xattr_item bytes) (entries_to xattr_item bytes entries is))) ∙ sym (xattr_case key bytes k) ∙ h);
}

-- what the spelling says of far names and entries is what is read
module _ (key : Key) (bytes : List ℕ) (spelled : IsLogSpelled key bytes) (its : HasItsKey key bytes) where
  extref_right : key.kind ≡ inode_extref → has_its_key key bytes ≡ true
  extref_right k =
      let refs = spelled.extrefs k in
      extref_case key bytes k ∙ ap (list_all (extref_test key.offset)) (read_ok [] refs.0 (extrefs_of bytes) (extrefs_to bytes refs.0 refs.1))
      ∙ each_from (λ (ref : ExtRefValue). extref_hash_of ref.parent ref.name ≡ key.offset) (extref_test key.offset) (λ ref e. eq-eqb _ key.offset e) refs.0 (its.extrefs k refs.0 refs.1)

  index_right : key.kind ≡ dir_index → has_its_key key bytes ≡ true
  index_right k =
      let entries = spelled.entries (Rattle.std.proofs.Common.inr (Rattle.std.proofs.Common.inl k)) in
      let is = subst (λ (n : ℕ). IsEntries n bytes entries.0) k entries.1 in
      index_case key bytes k ∙ ap (list_all leads_to_inode) (read_ok [] entries.0 (entries_of dir_index bytes) (entries_to dir_index bytes entries.0 is))
      ∙ each_from LeadsToInode leads_to_inode to_inode_from entries.0 (its.indexed k entries.0 is)

  xattr_right : key.kind ≡ xattr_item → has_its_key key bytes ≡ true
  xattr_right k =
      let entries = spelled.entries (Rattle.std.proofs.Common.inr (Rattle.std.proofs.Common.inr k)) in
      let is = subst (λ (n : ℕ). IsEntries n bytes entries.0) k entries.1 in
      xattr_case key bytes k ∙ ap (list_all (attribute_test key.offset)) (read_ok [] entries.0 (entries_of xattr_item bytes) (entries_to xattr_item bytes entries.0 is))
      ∙ each_from (λ (e : EntryValue). (name_hash_of e.name ≡ key.offset) × LeadsNowhere e) (attribute_test key.offset) (attribute_from key.offset) entries.0 (its.attributes k entries.0 is)

  pub key_from : has_its_key key bytes ≡ true
  key_from = go (nat_eq key.kind inode_item) refl (nat_eq key.kind inode_extref) refl (nat_eq key.kind dir_index) refl (nat_eq key.kind xattr_item) refl
    where
      go : (a : Bool) → nat_eq key.kind inode_item ≡ a → (b : Bool) → nat_eq key.kind inode_extref ≡ b → (c : Bool) → nat_eq key.kind dir_index ≡ c → (d : Bool) → nat_eq key.kind xattr_item ≡ d
          → has_its_key key bytes ≡ true
      go true a b eb c ec d ed = let k = eqb-true key.kind inode_item a in inode_case key bytes k ∙ eq-eqb key.offset 0 (its.inode k)
      go false a true b c ec d ed = extref_right (eqb-true key.kind inode_extref b)
      go false a false b true c d ed = index_right (eqb-true key.kind dir_index c)
      go false a false b false c true d = xattr_right (eqb-true key.kind xattr_item d)
      go false a false b false c false d = other_case key bytes a b c d
