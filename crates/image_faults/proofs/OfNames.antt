-- The names that the items of a coherent subvolume say are its names.
use Rattle.std.proofs.Common.{◌≡◌, ◌⊎◌, ℕ, Bool, true, false, List, Contains, IsPermutation, refl, sym, ap, subst, ◌∙◌, inl, inr}
use Rattle.std.proofs.lemmas.Bool.{false_from_ne_true}
use Rattle.std.proofs.lemmas.List.Sorted.{IsPermutation-sym, Contains-permutation}
use Rattle.blk_base.specs.Crc.{extref_hash_of}
use Rattle.blk_base.specs.Keys.{inode_ref, inode_extref}
use Rattle.blk_base.specs.Leaf.{Item}
use Rattle.blk_base.specs.Entries.{RefValue, ExtRefValue, refs_of, extrefs_of}
use Rattle.item_laws.specs.Refs.{refs_to}
use Rattle.item_laws.specs.ExtRefs.{extrefs_to}
use Rattle.flat_model.specs.Names.{FlatName}
use Rattle.flat_model.specs.Volume.{Subvolume}
use Rattle.flat_model.specs.Coherent.{IsCoherent}
use Rattle.flat_model.proofs.NameSets.{same_name_set}
use Rattle.volume_image.specs.Subvolume.{Data, AreItemsOf, make_key, refs_asked, extrefs_asked, ref_of, extref_of}
use Rattle.volume_image.proofs.Members.{not_empty}
use Rattle.volume_image.proofs.Asked.{asked_refs, asked_extrefs}
use Rattle.image_faults.specs.Said.{read_list, is_own_ref, said_names}
use Rattle.image_faults.proofs.Readings.{NearItem, FarItem, near_said, far_said, said_from, said_in_order}
use Rattle.image_faults.proofs.Asking.{ref_asked, asked_near, far_asked, asked_far, own_ref_parts}

module _ (items : List Item) (blocks : Data) (sub : Subvolume) (are : AreItemsOf items blocks sub) where
  -- what was read of an item of near names is what is asked for
  pub refs_read : (ino dir : ℕ) (bytes : List ℕ) → Contains items (make_key ino inode_ref dir, bytes) → IsPermutation (read_list (refs_of (make_key ino inode_ref dir) bytes)) (refs_asked sub ino dir)
  refs_read ino dir bytes there =
      let key = make_key ino inode_ref dir in
      let asked = asked_refs sub blocks key bytes refl (are.only key bytes there) in
      subst (λ (found : List RefValue). IsPermutation found (refs_asked sub ino dir)) (sym (ap read_list (refs_to key bytes asked.0 asked.1))) asked.2

  pub extrefs_read : (ino hash : ℕ) (bytes : List ℕ) → Contains items (make_key ino inode_extref hash, bytes) → IsPermutation (read_list (extrefs_of bytes)) (extrefs_asked sub ino hash)
  extrefs_read ino hash bytes there =
      let key = make_key ino inode_extref hash in
      let asked = asked_extrefs sub blocks key bytes refl (are.only key bytes there) in
      subst (λ (found : List ExtRefValue). IsPermutation found (extrefs_asked sub ino hash)) (sym (ap read_list (extrefs_to bytes asked.0 asked.1))) asked.2

  one_near : (name other : FlatName) → other.near ≡ true → other.ino ≡ name.ino → other.dir ≡ name.dir → ref_of other ≡ ref_of name → name.near ≡ true → other ≡ name
  one_near name other near ino dir same mark = λ i. record { dir = dir i; index = ap (λ (r : RefValue). r.index) same i; bytes = ap (λ (r : RefValue). r.name) same i; ino = ino i; near = (near ∙ sym mark) i }

  one_far : (name other : FlatName) → other.near ≡ false → other.ino ≡ name.ino → extref_of other ≡ extref_of name → name.near ≡ false → other ≡ name
  one_far name other far ino same mark =
      λ i. record { dir = ap (λ (r : ExtRefValue). r.parent) same i; index = ap (λ (r : ExtRefValue). r.index) same i; bytes = ap (λ (r : ExtRefValue). r.name) same i; ino = ino i; near = (far ∙ sym mark) i }

  said_is_name : (name : FlatName) → Contains (said_names items) name → Contains sub.names name
  said_is_name name c = go (said_from items name c)
    where
      go : NearItem items name ⊎ FarItem items name → Contains sub.names name
      go (inl item) =
          let asked = Contains-permutation _ (refs_asked sub name.ino name.dir) (ref_of name) (refs_read name.ino name.dir item.bytes item.there) item.ref in
          elim (ref_asked sub name.ino name.dir (ref_of name) asked) [
            | inl own ↦ let no : true ≡ false = sym own ∙ item.other in absurd cc
            | inr found ↦ subst (λ (n : FlatName). Contains sub.names n) (one_near name found.0 found.2 found.3 found.4 found.5 item.near) found.1
          ]
      go (inr item) =
          let asked = Contains-permutation _ (extrefs_asked sub name.ino item.hash) (extref_of name) (extrefs_read name.ino item.hash item.bytes item.there) item.ref in
          let found = far_asked sub name.ino item.hash (extref_of name) asked in
          subst (λ (n : FlatName). Contains sub.names n) (one_far name found.0 found.2 found.3 found.5 item.far) found.1

  module _ (whole : IsCoherent sub) where
    name_is_said : (name : FlatName) → Contains sub.names name → Contains (said_names items) name
    name_is_said name c = go name.near refl
      where
        go : (mark : Bool) → name.near ≡ mark → Contains (said_names items) name
        go true near =
            let asked = asked_near sub name c near in
            let item = are.refs name.ino name.dir (not_empty (ref_of name) _ asked) in
            let found = Contains-permutation (refs_asked sub name.ino name.dir) _ (ref_of name) (IsPermutation-sym _ (refs_asked sub name.ino name.dir) (refs_read name.ino name.dir item.0 item.1)) asked in
            let other = false_from_ne_true (is_own_ref (make_key name.ino inode_ref name.dir) (ref_of name)) (λ e. whole.root_has_no_name name c (own_ref_parts name.ino name.dir (ref_of name) e).0) in
            subst (λ (n : FlatName). Contains (said_names items) n) (λ i. record { dir = name.dir; index = name.index; bytes = name.bytes; ino = name.ino; near = sym near i })
            (near_said items name.ino name.dir item.0 (ref_of name) item.1 found other)
        go false far =
            let hash = extref_hash_of name.dir name.bytes in
            let asked = asked_far sub name c far in
            let item = are.extrefs name.ino hash (not_empty (extref_of name) _ asked) in
            let found = Contains-permutation (extrefs_asked sub name.ino hash) _ (extref_of name) (IsPermutation-sym _ (extrefs_asked sub name.ino hash) (extrefs_read name.ino hash item.0 item.1)) asked in
            subst (λ (n : FlatName). Contains (said_names items) n) (λ i. record { dir = name.dir; index = name.index; bytes = name.bytes; ino = name.ino; near = sym far i })
            (far_said items name.ino hash item.0 (extref_of name) item.1 found)

    pub names_are_said : said_names items ≡ sub.names
    names_are_said = same_name_set (said_names items) sub.names (said_in_order items) whole.in_order said_is_name name_is_said
