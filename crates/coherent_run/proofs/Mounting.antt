-- The numbers that the items of a subvolume say are those of its mount.
use Rattle.std.proofs.Common.{◌≡◌, ◌≤◌, ◌<◌, ◌+◌, ◌⊎◌, ◌==◌, ℕ, max, Bool, true, false, cond, List, [], ◌∷◌, map, fold, Contains, Some, refl, sym, ap, subst, ◌∙◌, arith, inl, inr}
use Rattle.std.proofs.lemmas.Bool.{cases_Bool, eqb-true}
use Rattle.std.specs.Cmp.{nat_cmp_total}
use Rattle.std.specs.FinMap.{entries, get, keys, nat_cmp-IsAntisymmetric}
use Rattle.blk_base.specs.Entries.{EntryValue}
use Rattle.blk_base.specs.Keys.{dir_index, inode_item}
use Rattle.blk_base.specs.Leaf.{Item}
use Rattle.flat_model.specs.Coherent.{IsCoherent, greatest_number}
use Rattle.flat_model.specs.Names.{FlatName}
use Rattle.flat_model.specs.Records.{InodeRecord}
use Rattle.flat_model.specs.Volume.{RunNumbers, Subvolume, bare_numbers, note_ino, note_name, numbers_at_mount}
use Rattle.volume_image.specs.Subvolume.{AreItemsOf, Data, IndexedAsked, InodeAsked, IsAsked, RefsAsked, ExtRefsAsked, AttributesAsked, HashedAsked, ExtentAsked, entry_of, indexed_asked, make_key}
use Rattle.volume_image.proofs.Lists.{in_cons, in_nothing}
use Rattle.volume_image.proofs.Members.{get_in, in_get, in_map, map_in, not_empty}
use Rattle.volume_image.proofs.Reaches.{head_in, tail_in}
use Rattle.coherent_run.specs.Greatest.{greatest_index, greatest_ino, index_in, ino_in}

-- ---- the greatest of numbers

module _ {X : Type 0} (f : X → ℕ) where
  at_least_start : (start : ℕ) (xs : List X) → start ≤ fold (λ (most : ℕ) (x : X). max most (f x)) start xs
  at_least_start start [] = omega arith
  at_least_start start (x ∷ xs) = let rest = at_least_start (max start (f x)) xs in omega arith

  at_least_each : (start : ℕ) (xs : List X) (x : X) → Contains xs x → f x ≤ fold (λ (most : ℕ) (y : X). max most (f y)) start xs
  at_least_each start [] x c = absurd (in_nothing x c)
  at_least_each start (y ∷ xs) x c = elim (in_cons y x xs c) [
    | inl here ↦ let same = ap f here in let rest = at_least_start (max start (f y)) xs in omega arith
    | inr there ↦ at_least_each (max start (f y)) xs x there
  ]

  at_most : (start bound : ℕ) (xs : List X) → start ≤ bound → ((x : X) → Contains xs x → f x ≤ bound) → fold (λ (most : ℕ) (x : X). max most (f x)) start xs ≤ bound
  at_most start bound [] low each = low
  at_most start bound (x ∷ xs) low each = let here = each x (head_in x xs) in at_most (max start (f x)) bound xs (omega arith) (λ y c. each y (tail_in x y xs c))

-- ---- the numbers at the mount

noted_inos : (inos : List ℕ) (numbers : RunNumbers) → (fold note_ino numbers inos).last_ino ≡ fold (λ (most ino : ℕ). max most ino) numbers.last_ino inos
noted_inos [] numbers = refl
noted_inos (ino ∷ inos) numbers = noted_inos inos (note_ino numbers ino)

kept_index : (inos : List ℕ) (numbers : RunNumbers) → (fold note_ino numbers inos).last_index ≡ numbers.last_index
kept_index [] numbers = refl
kept_index (ino ∷ inos) numbers = kept_index inos (note_ino numbers ino)

kept_ino : (names : List FlatName) (numbers : RunNumbers) → (fold note_name numbers names).last_ino ≡ numbers.last_ino
kept_ino [] numbers = refl
kept_ino (name ∷ names) numbers = kept_ino names (note_name numbers name)

noted_names : (names : List FlatName) (numbers : RunNumbers) → (fold note_name numbers names).last_index ≡ fold (λ (most : ℕ) (name : FlatName). max most name.index) numbers.last_index names
noted_names [] numbers = refl
noted_names (name ∷ names) numbers = noted_names names (note_name numbers name)

pub last_ino_is : (sub : Subvolume) → (numbers_at_mount sub).last_ino ≡ fold (λ (most ino : ℕ). max most ino) 256 (keys sub.inodes)
unfolding numbers_at_mount
last_ino_is sub = kept_ino sub.names (fold note_ino bare_numbers (keys sub.inodes)) ∙ noted_inos (keys sub.inodes) bare_numbers

pub last_index_is : (sub : Subvolume) → (numbers_at_mount sub).last_index ≡ fold (λ (most : ℕ) (name : FlatName). max most name.index) 1 sub.names
unfolding numbers_at_mount
last_index_is sub =
    noted_names sub.names (fold note_ino bare_numbers (keys sub.inodes)) ∙ ap (λ (n : ℕ). fold (λ (most : ℕ) (name : FlatName). max most name.index) n sub.names) (kept_index (keys sub.inodes) bare_numbers)

-- ---- by the items

module _ (items : List Item) (blocks : Data) (sub : Subvolume) (are : AreItemsOf items blocks sub) where
  same_most : (a b : ℕ) → a ≤ b → b ≤ a → a ≡ b
  same_most a b low high = omega arith

  inode_there : (item : Item) → Contains items item → item.0.kind ≡ inode_item → (inode : InodeRecord) × (get sub.inodes item.0.objectid ≡ Some inode)
  inode_there item c kind = go (are.only item.0 item.1 c)
    where
      go : IsAsked sub blocks item.0 item.1 → (inode : InodeRecord) × (get sub.inodes item.0.objectid ≡ Some inode)
      go (InodeAsked inode k offset there is) = (inode, there)
      go (RefsAsked found k spelled same) = absurd (omega arith)
      go (ExtRefsAsked found k spelled same) = absurd (omega arith)
      go (AttributesAsked k has) = absurd (omega arith)
      go (HashedAsked k has) = absurd (omega arith)
      go (IndexedAsked k has) = absurd (omega arith)
      go (ExtentAsked inode k there is) = absurd (omega arith)

  name_there : (item : Item) → Contains items item → item.0.kind ≡ dir_index → (name : FlatName) × Contains sub.names name × (name.index ≡ item.0.offset)
  name_there item c kind = go (are.only item.0 item.1 c)
    where
      first : (found : List EntryValue) → Rattle.std.proofs.Common.length found ≡ 1 → (e : EntryValue) × Contains found e
      first [] e = absurd (omega arith)
      first (entry ∷ found) e = (entry, head_in entry found)

      go : IsAsked sub blocks item.0 item.1 → (name : FlatName) × Contains sub.names name × (name.index ≡ item.0.offset)
      go (IndexedAsked k has) =
          let entry = first has.found (has.spelled.single refl) in
          let asked = Rattle.std.proofs.lemmas.List.Sorted.Contains-permutation (map Rattle.volume_image.specs.Subvolume.without_transid has.found) (indexed_asked sub item.0.objectid item.0.offset)
          (Rattle.volume_image.specs.Subvolume.without_transid entry.0) has.same (map_in Rattle.volume_image.specs.Subvolume.without_transid has.found entry.0 entry.1) in
          let name = Rattle.image_faults.proofs.Asking.at_index sub item.0.objectid item.0.offset (Rattle.volume_image.specs.Subvolume.without_transid entry.0) asked in
          (name.0, name.1, name.3)
      go (InodeAsked inode k offset there is) = absurd (omega arith)
      go (RefsAsked found k spelled same) = absurd (omega arith)
      go (ExtRefsAsked found k spelled same) = absurd (omega arith)
      go (AttributesAsked k has) = absurd (omega arith)
      go (HashedAsked k has) = absurd (omega arith)
      go (ExtentAsked inode k there is) = absurd (omega arith)

  ino_by : (item : Item) (bound : ℕ) → (item.0.kind ≡ inode_item → item.0.objectid ≤ bound) → ino_in item.0 ≤ bound
  ino_by item bound low = elim (cases_Bool (item.0.kind == inode_item)) [
    | inl same ↦ let is : ino_in item.0 ≡ item.0.objectid = ap (λ (b : Bool). cond b item.0.objectid 0) same in let most = low (eqb-true item.0.kind inode_item same) in omega arith
    | inr other ↦ let is : ino_in item.0 ≡ 0 = ap (λ (b : Bool). cond b item.0.objectid 0) other in omega arith
  ]

  index_by : (item : Item) (bound : ℕ) → (item.0.kind ≡ dir_index → item.0.offset ≤ bound) → index_in item.0 ≤ bound
  index_by item bound low = elim (cases_Bool (item.0.kind == dir_index)) [
    | inl same ↦ let is : index_in item.0 ≡ item.0.offset = ap (λ (b : Bool). cond b item.0.offset 0) same in let most = low (eqb-true item.0.kind dir_index same) in omega arith
    | inr other ↦ let is : index_in item.0 ≡ 0 = ap (λ (b : Bool). cond b item.0.offset 0) other in omega arith
  ]

  key_of : (ino : ℕ) (inode : InodeRecord) → get sub.inodes ino ≡ Some inode → Contains (keys sub.inodes) ino
  key_of ino inode there = map_in (λ (e : ℕ × InodeRecord). e.0) (entries sub.inodes) (ino, inode) (get_in nat_cmp_total nat_cmp-IsAntisymmetric sub.inodes ino inode there)

  of_key : (ino : ℕ) → Contains (keys sub.inodes) ino → (inode : InodeRecord) × (get sub.inodes ino ≡ Some inode)
  of_key ino c =
      let e = in_map (λ (e : ℕ × InodeRecord). e.0) (entries sub.inodes) ino c in
      (e.0.1, in_get nat_cmp_total nat_cmp-IsAntisymmetric sub.inodes ino e.0.1 (subst (λ (n : ℕ). Contains (entries sub.inodes) (n, e.0.1)) e.2 e.1))

  pub greatest_ino_is : greatest_ino 256 items ≡ (numbers_at_mount sub).last_ino
  greatest_ino_is =
      same_most (greatest_ino 256 items) (fold (λ (most ino : ℕ). max most ino) 256 (keys sub.inodes))
      (at_most (λ (item : Item). ino_in item.0) 256 (fold (λ (most ino : ℕ). max most ino) 256 (keys sub.inodes)) items (at_least_start (λ (n : ℕ). n) 256 (keys sub.inodes))
      (λ item c. ino_by item (fold (λ (most ino : ℕ). max most ino) 256 (keys sub.inodes)) (λ kind. let inode = inode_there item c kind in at_least_each (λ (n : ℕ). n) 256 (keys sub.inodes) item.0.objectid (key_of item.0.objectid inode.0 inode.1))))
      (at_most (λ (n : ℕ). n) 256 (greatest_ino 256 items) (keys sub.inodes) (at_least_start (λ (item : Item). ino_in item.0) 256 items)
      (λ ino c. let inode = of_key ino c in let item = are.inodes ino inode.0 inode.1 in at_least_each (λ (i : Item). ino_in i.0) 256 items (make_key ino inode_item 0, item.0) item.1))
      ∙ sym (last_ino_is sub)

  pub greatest_index_is : greatest_index 1 items ≡ (numbers_at_mount sub).last_index
  greatest_index_is =
      same_most (greatest_index 1 items) (fold (λ (most : ℕ) (name : FlatName). max most name.index) 1 sub.names)
      (at_most (λ (item : Item). index_in item.0) 1 (fold (λ (most : ℕ) (name : FlatName). max most name.index) 1 sub.names) items (at_least_start (λ (name : FlatName). name.index) 1 sub.names)
      (λ item c. index_by item (fold (λ (most : ℕ) (name : FlatName). max most name.index) 1 sub.names)
      (λ kind. let name = name_there item c kind in let low = at_least_each (λ (n : FlatName). n.index) 1 sub.names name.0 name.1 in let same = name.2 in omega arith)))
      (at_most (λ (name : FlatName). name.index) 1 (greatest_index 1 items) sub.names (at_least_start (λ (item : Item). index_in item.0) 1 items)
      (λ name c.
      let asked = Rattle.image_faults.proofs.Asking.asked_index sub name c in
      let item = are.indexed name.dir name.index (not_empty (entry_of sub name) (indexed_asked sub name.dir name.index) asked) in
      at_least_each (λ (i : Item). index_in i.0) 1 items (make_key name.dir dir_index name.index, item.0) item.1))
      ∙ sym (last_index_is sub)

-- ---- they are in their ranges

pub ino_low : (sub : Subvolume) → IsCoherent sub → (numbers_at_mount sub).last_ino ≤ greatest_number
ino_low sub coherent =
    let most = at_most (λ (n : ℕ). n) 256 greatest_number (keys sub.inodes) (omega arith) (λ ino c. let inode = of_key_in sub ino c in (coherent.ino_numbers ino inode.0 inode.1).1) in
    subst (λ (n : ℕ). n ≤ greatest_number) (sym (last_ino_is sub)) most
  where
    of_key_in : (sub : Subvolume) (ino : ℕ) → Contains (keys sub.inodes) ino → (inode : InodeRecord) × (get sub.inodes ino ≡ Some inode)
    of_key_in sub ino c =
        let e = in_map (λ (e : ℕ × InodeRecord). e.0) (entries sub.inodes) ino c in
        (e.0.1, in_get nat_cmp_total nat_cmp-IsAntisymmetric sub.inodes ino e.0.1 (subst (λ (n : ℕ). Contains (entries sub.inodes) (n, e.0.1)) e.2 e.1))

pub index_low : (sub : Subvolume) → IsCoherent sub → (numbers_at_mount sub).last_index ≤ greatest_number
index_low sub coherent =
    let most = at_most (λ (name : FlatName). name.index) 1 greatest_number sub.names (omega arith) (λ name c. (coherent.index_numbers name c).1) in
    subst (λ (n : ℕ). n ≤ greatest_number) (sym (last_index_is sub)) most
