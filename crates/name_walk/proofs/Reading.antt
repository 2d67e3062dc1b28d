-- What is found under a key is what the subvolume asks for there.
use Rattle.std.proofs.Common.{◌≡◌, ◌≢◌, ℕ, List, [], ◌∷◌, Option, Some, None, map, IsPermutation, refl, sym, subst, Fits, w8, get_or, arith}
use Rattle.std.specs.Prelude.{All, Contains, IsSome}
use Rattle.std.specs.List.{AllByRecursion}
use Rattle.std.proofs.lemmas.List.Elements.{All-cons, All-nil}
use Rattle.blk_base.specs.Bytes.{IsBytes}
use Rattle.std.proofs.lemmas.Bool.{true≢false}
use Rattle.std.proofs.lemmas.List.Sorted.{IsPermutation-refl}
use Rattle.std.specs.FinMap.{get}
use Rattle.std.specs.Option.{unwrap_or}
use Rattle.blk_base.specs.declared.key.Key.{Key}
use Rattle.blk_base.specs.Keys.{dir_item, inode_extref, inode_item, inode_ref}
use Rattle.blk_base.specs.Entries.{EntryValue, ExtRefValue, RefValue, IsEntries, IsExtRefs, IsRefs}
use Rattle.block_table.specs.declared.tree.Tree.{Tree}
use Rattle.block_table.specs.Table.{Table}
use Rattle.flat_model.specs.Records.{InodeRecord}
use Rattle.flat_model.specs.Volume.{Subvolume}
use Rattle.tree_range.specs.Between.{data_under}
use Rattle.tree_range.specs.Shape.{tree_items}
use Rattle.tree_range.proofs.Found.{contains_under}
use Rattle.volume_image.specs.Subvolume.{HasEntries, IsInodeOf, extrefs_asked, hashed_asked, make_key, refs_asked, without_transid}
use Rattle.volume_image.proofs.Asked.{asked_extrefs, asked_hashed, asked_inode, asked_refs}
use Rattle.table_volume.specs.Gives.{GivesSubvolume, data_in}
use Rattle.table_volume.specs.Keyed.{AsksInode, AsksRefs, AsksExtRefs, AsksHashed, HoldsKey}
use Rattle.table_volume.proofs.Keyed.{keys_hold}

-- where nothing is found, nothing is asked for
nothing_asked : {X : Type 0} (xs : List X) (found : Option (List ℕ)) → found ≡ None → (xs ≢ [] → IsSome found) → xs ≡ []
nothing_asked [] found none asks = refl
nothing_asked (x ∷ xs) found none asks = absurd (true≢false (sym (subst (λ (o : Option (List ℕ)). IsSome o) none (asks (λ e. cc)))))

no_inode : (o : Option InodeRecord) (found : Option (List ℕ)) → found ≡ None → ((inode : InodeRecord) → o ≡ Some inode → IsSome found) → o ≡ None
no_inode None found none asks = refl
no_inode (Some inode) found none asks = absurd (true≢false (sym (subst (λ (o : Option (List ℕ)). IsSome o) none (asks inode refl))))

module _ (table : Table) (tree : Tree) (sub : Subvolume) (gives : GivesSubvolume table tree sub) where
  -- what stands under a key
  pub under : (key : Key) → HoldsKey sub (data_in table) key (data_under key (tree_items table tree))
  under key = keys_hold (tree_items table tree) (data_in table) sub gives.tree_in.order gives.items key

  pub in_items : (key : Key) (bytes : List ℕ) → data_under key (tree_items table tree) ≡ Some bytes → Contains (tree_items table tree) (key, bytes)
  in_items key bytes found = contains_under (tree_items table tree) key bytes found

  -- ---- entries

  pub hashed_there : (dir hash : ℕ) (bytes : List ℕ) → data_under (make_key dir dir_item hash) (tree_items table tree) ≡ Some bytes → HasEntries dir_item bytes (hashed_asked sub dir hash)
  hashed_there dir hash bytes found = asked_hashed sub (data_in table) (make_key dir dir_item hash) bytes refl ((under (make_key dir dir_item hash)).only bytes found)

  pub hashed_nowhere : (dir hash : ℕ) → data_under (make_key dir dir_item hash) (tree_items table tree) ≡ None → hashed_asked sub dir hash ≡ []
  hashed_nowhere dir hash none = nothing_asked (hashed_asked sub dir hash) _ none (λ some. (under (make_key dir dir_item hash)).all (AsksHashed refl some))

  pub entries_read : (dir hash : ℕ) (bytes : List ℕ) (read : Option (List EntryValue)) → data_under (make_key dir dir_item hash) (tree_items table tree) ≡ Some bytes
      → ((found : List EntryValue) → IsEntries dir_item bytes found → read ≡ Some found) → IsPermutation (map without_transid (unwrap_or read [])) (hashed_asked sub dir hash)
  entries_read dir hash bytes read found reads =
      let has = hashed_there dir hash bytes found in
      subst (λ (o : Option (List EntryValue)). IsPermutation (map without_transid (unwrap_or o [])) (hashed_asked sub dir hash)) (sym (reads has.found has.spelled)) has.same

  pub no_entries_read : (dir hash : ℕ) → data_under (make_key dir dir_item hash) (tree_items table tree) ≡ None → IsPermutation [] (hashed_asked sub dir hash)
  no_entries_read dir hash none = subst (λ (asked : List EntryValue). IsPermutation [] asked) (sym (hashed_nowhere dir hash none)) (IsPermutation-refl [])

  -- ---- near names

  pub refs_there : (ino dir : ℕ) (bytes : List ℕ) → data_under (make_key ino inode_ref dir) (tree_items table tree) ≡ Some bytes
      → (found : List RefValue) × IsRefs (make_key ino inode_ref dir) bytes found × IsPermutation found (refs_asked sub ino dir)
  refs_there ino dir bytes found = asked_refs sub (data_in table) (make_key ino inode_ref dir) bytes refl ((under (make_key ino inode_ref dir)).only bytes found)

  pub refs_nowhere : (ino dir : ℕ) → data_under (make_key ino inode_ref dir) (tree_items table tree) ≡ None → refs_asked sub ino dir ≡ []
  refs_nowhere ino dir none = nothing_asked (refs_asked sub ino dir) _ none (λ some. (under (make_key ino inode_ref dir)).all (AsksRefs refl some))

  pub refs_read : (ino dir : ℕ) (bytes : List ℕ) (read : Option (List RefValue)) → data_under (make_key ino inode_ref dir) (tree_items table tree) ≡ Some bytes
      → ((found : List RefValue) → IsRefs (make_key ino inode_ref dir) bytes found → read ≡ Some found) → IsPermutation (unwrap_or read []) (refs_asked sub ino dir)
  refs_read ino dir bytes read found reads =
      let has = refs_there ino dir bytes found in
      subst (λ (o : Option (List RefValue)). IsPermutation (unwrap_or o []) (refs_asked sub ino dir)) (sym (reads has.0 has.1)) has.2

  pub no_refs_read : (ino dir : ℕ) → data_under (make_key ino inode_ref dir) (tree_items table tree) ≡ None → IsPermutation [] (refs_asked sub ino dir)
  no_refs_read ino dir none = subst (λ (asked : List RefValue). IsPermutation [] asked) (sym (refs_nowhere ino dir none)) (IsPermutation-refl [])

  -- ---- far names

  pub extrefs_there : (ino hash : ℕ) (bytes : List ℕ) → data_under (make_key ino inode_extref hash) (tree_items table tree) ≡ Some bytes
      → (found : List ExtRefValue) × IsExtRefs bytes found × IsPermutation found (extrefs_asked sub ino hash)
  extrefs_there ino hash bytes found = asked_extrefs sub (data_in table) (make_key ino inode_extref hash) bytes refl ((under (make_key ino inode_extref hash)).only bytes found)

  pub extrefs_nowhere : (ino hash : ℕ) → data_under (make_key ino inode_extref hash) (tree_items table tree) ≡ None → extrefs_asked sub ino hash ≡ []
  extrefs_nowhere ino hash none = nothing_asked (extrefs_asked sub ino hash) _ none (λ some. (under (make_key ino inode_extref hash)).all (AsksExtRefs refl some))

  pub extrefs_read : (ino hash : ℕ) (bytes : List ℕ) (read : Option (List ExtRefValue)) → data_under (make_key ino inode_extref hash) (tree_items table tree) ≡ Some bytes
      → ((found : List ExtRefValue) → IsExtRefs bytes found → read ≡ Some found) → IsPermutation (unwrap_or read []) (extrefs_asked sub ino hash)
  extrefs_read ino hash bytes read found reads =
      let has = extrefs_there ino hash bytes found in
      subst (λ (o : Option (List ExtRefValue)). IsPermutation (unwrap_or o []) (extrefs_asked sub ino hash)) (sym (reads has.0 has.1)) has.2

  pub no_extrefs_read : (ino hash : ℕ) → data_under (make_key ino inode_extref hash) (tree_items table tree) ≡ None → IsPermutation [] (extrefs_asked sub ino hash)
  no_extrefs_read ino hash none = subst (λ (asked : List ExtRefValue). IsPermutation [] asked) (sym (extrefs_nowhere ino hash none)) (IsPermutation-refl [])

  -- ---- inode items

  pub inode_there : (ino : ℕ) (bytes : List ℕ) → data_under (make_key ino inode_item 0) (tree_items table tree) ≡ Some bytes
      → (inode : InodeRecord) × (get sub.inodes ino ≡ Some inode) × IsInodeOf sub ino inode bytes
  inode_there ino bytes found =
      let asked = asked_inode sub (data_in table) (make_key ino inode_item 0) bytes refl ((under (make_key ino inode_item 0)).only bytes found) in
      (asked.0, asked.2, asked.3)

  pub inode_nowhere : (ino : ℕ) → data_under (make_key ino inode_item 0) (tree_items table tree) ≡ None → get sub.inodes ino ≡ None
  inode_nowhere ino none = no_inode (get sub.inodes ino) _ none (λ inode there. (under (make_key ino inode_item 0)).all (AsksInode inode refl refl there))

-- ---- lists

-- the bytes of a slice are bytes
pub are_bytes : (bytes : List ℕ) → ((i : ℕ) → Fits w8 (get_or bytes i 0)) → IsBytes bytes
are_bytes bytes each i = let h = each i in omega arith

-- what holds of each element by recursion holds of all
pub all_of : {X : Type 0} (P : X → Type 0) (xs : List X) → AllByRecursion P xs → All P xs
all_of P [] each = All-nil P
all_of P (x ∷ xs) each = All-cons P x xs each.0 (all_of P xs each.1)
