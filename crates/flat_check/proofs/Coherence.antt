-- A subvolume is coherent exactly where its names are in order, inode 256 is a directory, and each name and each inode is right.
use Rattle.std.proofs.Common.{◌≡◌, ℕ, ◌≤◌, Bool, true, ◌&&◌, not, List, [], ◌∷◌, length, Option, Some, None, refl, sym, ap, subst, ◌∙◌, arith}
use Rattle.std.specs.Bool.{nat_eq}
use Rattle.std.specs.Option.{is_some}
use Rattle.std.specs.List.{Contains, filter, sum_by}
use Rattle.std.specs.FinMap.{get}
use Rattle.std.proofs.lemmas.Bool.{true≢false, and_parts, and_from, eqb-true, eq-eqb}
use Rattle.blk_base.specs.Crc.{name_hash_of, extref_hash_of}
use Rattle.flat_model.specs.Records.{InodeRecord}
use Rattle.flat_model.specs.Names.{FlatName, is_name_set, is_in_slot}
use Rattle.flat_model.specs.Lengths.{most_item_bytes, ref_length, extref_length, entry_length, ref_item_length, extref_item_length, dir_item_length}
use Rattle.flat_model.specs.Volume.{Subvolume, is_dir_at, is_dir_there}
use Rattle.flat_model.specs.Coherent.{IsCoherent, ItemsFit}
use Rattle.flat_model.proofs.Lists.{contains_head, contains_tail, contains_none, contains_filter, filter_contains}
use Rattle.flat_model.proofs.NameSets.{is_name_set_filter, set_head_once}
use Rattle.flat_model.proofs.Ways.{one_member, dir_record, is_in_slot_from, is_in_slot_gives}
use Rattle.flat_model.proofs.Edits.{link_fits}
use Rattle.flat_check.specs.Parts.{IsAlone, HasItemsThatFit, IsRightName, IsRightInode, is_at_index}
use Rattle.flat_check.proofs.Steps.{way_from, coherent_reaches}

-- ---- at most one name

at_most_one : {X : Type 0} (xs : List X) → length xs ≤ 1 → (a b : X) → Contains xs a → Contains xs b → a ≡ b
at_most_one [] few a b ca cb = absurd (contains_none a ca)
at_most_one (x ∷ []) few a b ca cb = one_member (x ∷ []) refl a b ca cb
at_most_one (x ∷ y ∷ ys) few a b ca cb = absurd (omega arith)

few_by : (names : List FlatName) (name : FlatName) → is_name_set names ≡ true → ((other : FlatName) → Contains names other → other ≡ name) → length names ≤ 1
few_by [] name set each = omega arith
few_by (one ∷ []) name set each = omega arith
few_by (one ∷ two ∷ names) name set each =
    let same : one ≡ two = each one (contains_head one (two ∷ names)) ∙ sym (each two (contains_tail one (two ∷ names) two (contains_head two names))) in
    absurd (set_head_once one (two ∷ names) set (subst (Contains (two ∷ names)) (sym same) (contains_head two names)))

is_at_index_from : (dir index : ℕ) (name : FlatName) → name.dir ≡ dir → name.index ≡ index → is_at_index dir index name ≡ true
is_at_index_from dir index name same_dir same_index = and_from _ _ (eq-eqb name.dir dir same_dir) (eq-eqb name.index index same_index)

is_at_index_gives : (dir index : ℕ) (name : FlatName) → is_at_index dir index name ≡ true → (name.dir ≡ dir) × (name.index ≡ index)
is_at_index_gives dir index name is = let parts = and_parts _ _ is in (eqb-true name.dir dir parts.0, eqb-true name.index index parts.1)

-- ---- items without names

-- a sum over the names that pass is within a bound, if it is where one passes
within_by : (f : FlatName → ℕ) (p : FlatName → Bool) (names : List FlatName) (most : ℕ) → ((name : FlatName) → Contains names name → p name ≡ true → sum_by f (filter p names) ≤ most) → sum_by f (filter p names) ≤ most
within_by f p names most each =
    elim (filter p names) as (λ (kept : List FlatName). filter p names ≡ kept → sum_by f (filter p names) ≤ most) [
      | [] ↦ λ none. let nothing = ap (sum_by f) none in omega (arith, nothing)
      | name ∷ kept ↦ λ some.
          let member = filter_contains p names name (subst (λ (l : List FlatName). Contains l name) (sym some) (contains_head name kept)) in
          each name member.0 member.1
    ] refl

some_there : {X : Type 0} (o : Option X) → is_some o ≡ true → (x : X) × (o ≡ Some x)
some_there None is = absurd (true≢false (sym is))
some_there (Some x) is = (x, refl)

module _ (names : List FlatName) (fit : (name : FlatName) → Contains names name → HasItemsThatFit names name) where
  refs_within : (ino dir : ℕ) → ref_item_length names ino dir ≤ most_item_bytes
  unfolding ref_item_length
  refs_within ino dir = within_by ref_length (λ name. name.near && (nat_eq name.ino ino && nat_eq name.dir dir)) names most_item_bytes (λ name c is.
      let parts = and_parts (nat_eq name.ino ino) (nat_eq name.dir dir) (and_parts name.near _ is).1 in
      let same_ino = eqb-true name.ino ino parts.0 in
      let same_dir = eqb-true name.dir dir parts.1 in
      subst (λ i. ref_item_length names i dir ≤ most_item_bytes) same_ino (subst (λ d. ref_item_length names name.ino d ≤ most_item_bytes) same_dir (fit name c).refs))

  extrefs_within : (ino hash : ℕ) → extref_item_length names ino hash ≤ most_item_bytes
  unfolding extref_item_length
  extrefs_within ino hash = within_by extref_length (λ name. not name.near && (nat_eq name.ino ino && nat_eq (extref_hash_of name.dir name.bytes) hash)) names most_item_bytes (λ name c is.
      let parts = and_parts (nat_eq name.ino ino) (nat_eq (extref_hash_of name.dir name.bytes) hash) (and_parts (not name.near) _ is).1 in
      let same_ino = eqb-true name.ino ino parts.0 in
      let same_hash = eqb-true (extref_hash_of name.dir name.bytes) hash parts.1 in
      subst (λ i. extref_item_length names i hash ≤ most_item_bytes) same_ino (subst (λ h. extref_item_length names name.ino h ≤ most_item_bytes) same_hash (fit name c).extref))

  entries_within : (dir hash : ℕ) → dir_item_length names dir hash ≤ most_item_bytes
  unfolding dir_item_length
  entries_within dir hash = within_by entry_length (λ name. nat_eq name.dir dir && nat_eq (name_hash_of name.bytes) hash) names most_item_bytes (λ name c is.
      let parts = and_parts (nat_eq name.dir dir) (nat_eq (name_hash_of name.bytes) hash) is in
      let same_dir = eqb-true name.dir dir parts.0 in
      let same_hash = eqb-true (name_hash_of name.bytes) hash parts.1 in
      subst (λ d. dir_item_length names d hash ≤ most_item_bytes) same_dir (subst (λ h. dir_item_length names name.dir h ≤ most_item_bytes) same_hash (fit name c).entry))

-- ---- from right parts to coherence

module _ (sub : Subvolume) (in_order : is_name_set sub.names ≡ true) (root : is_dir_at sub 256 ≡ true) (names : (name : FlatName) → Contains sub.names name → IsRightName sub name) (inodes : (ino : ℕ) (inode : InodeRecord) → get sub.inodes ino ≡ Some inode → IsRightInode sub.names ino inode) where
  slot_once : (one two : FlatName) → Contains sub.names one → Contains sub.names two → one.dir ≡ two.dir → one.bytes ≡ two.bytes → one ≡ two
  slot_once one two c d same_dir same_bytes =
      at_most_one (filter (is_in_slot one.dir one.bytes) sub.names) (names one c).alone.slot one two
      (contains_filter (is_in_slot one.dir one.bytes) sub.names one (is_in_slot_from one.dir one.bytes one refl refl) c)
      (contains_filter (is_in_slot one.dir one.bytes) sub.names two (is_in_slot_from one.dir one.bytes two (sym same_dir) (sym same_bytes)) d)

  index_once : (one two : FlatName) → Contains sub.names one → Contains sub.names two → one.dir ≡ two.dir → one.index ≡ two.index → one ≡ two
  index_once one two c d same_dir same_index =
      at_most_one (filter (is_at_index one.dir one.index) sub.names) (names one c).alone.index one two
      (contains_filter (is_at_index one.dir one.index) sub.names one (is_at_index_from one.dir one.index one refl refl) c)
      (contains_filter (is_at_index one.dir one.index) sub.names two (is_at_index_from one.dir one.index two (sym same_dir) (sym same_index)) d)

  fit : ItemsFit sub
  fit = record {
    refs = refs_within sub.names (λ name c. (names name c).items);
    extrefs = extrefs_within sub.names (λ name c. (names name c).items);
    entries = entries_within sub.names (λ name c. (names name c).items);
    attributes = λ ino inode is. (inodes ino inode is).attributes;
    targets = λ ino link is. link_fits link (inodes ino _ is).limits;
  }

  pub coherent_from : IsCoherent sub
  coherent_from = record {
    in_order = in_order;
    root_is_dir = root;
    root_has_no_name = λ name c. (names name c).placed.below_root;
    no_name_twice = slot_once;
    no_index_twice = index_once;
    leads_to_inode = λ name c. some_there (get sub.inodes name.ino) (names name c).placed.leads;
    stands_in_dir = λ name c. (names name c).placed.stands;
    link_counts = λ ino inode is. (inodes ino inode is).linked.links;
    ends_at_root = λ dir is_dir. let found = dir_record (get sub.inodes dir) is_dir in way_from sub.names (length sub.names) dir ((inodes dir found.0 found.1).linked.way found.2);
    limits = λ ino inode is. (inodes ino inode is).limits;
    name_limits = λ name c. (names name c).placed.bytes;
    items_fit = fit;
    ino_numbers = λ ino inode is. (inodes ino inode is).linked.number;
    index_numbers = λ name c. (names name c).placed.index;
  }

-- ---- from coherence to right parts

module _ (sub : Subvolume) (coherent : IsCoherent sub) where
  alone : (name : FlatName) → Contains sub.names name → IsAlone sub.names name
  alone name c = record {
    slot = few_by (filter (is_in_slot name.dir name.bytes) sub.names) name (is_name_set_filter (is_in_slot name.dir name.bytes) sub.names coherent.in_order) (λ other d.
        let member = filter_contains (is_in_slot name.dir name.bytes) sub.names other d in
        let same = is_in_slot_gives name.dir name.bytes other member.1 in
        coherent.no_name_twice other name member.0 c same.0 same.1);
    index = few_by (filter (is_at_index name.dir name.index) sub.names) name (is_name_set_filter (is_at_index name.dir name.index) sub.names coherent.in_order) (λ other d.
        let member = filter_contains (is_at_index name.dir name.index) sub.names other d in
        let same = is_at_index_gives name.dir name.index other member.1 in
        coherent.no_index_twice other name member.0 c same.0 same.1);
  }

  pub right_name : (name : FlatName) → Contains sub.names name → IsRightName sub name
  right_name name c = record {
    placed = record {
      leads = ap is_some (coherent.leads_to_inode name c).1;
      below_root = coherent.root_has_no_name name c;
      stands = coherent.stands_in_dir name c;
      index = coherent.index_numbers name c;
      bytes = coherent.name_limits name c;
    };
    alone = alone name c;
    items = record {
      refs = coherent.items_fit.refs name.ino name.dir;
      extref = coherent.items_fit.extrefs name.ino (extref_hash_of name.dir name.bytes);
      entry = coherent.items_fit.entries name.dir (name_hash_of name.bytes);
    };
  }

  pub right_inode : (ino : ℕ) (inode : InodeRecord) → get sub.inodes ino ≡ Some inode → IsRightInode sub.names ino inode
  right_inode ino inode is = record {
    linked = record {
      number = coherent.ino_numbers ino inode is;
      links = coherent.link_counts ino inode is;
      way = λ is_dir. coherent_reaches sub coherent ino (ap is_dir_there is ∙ is_dir);
    };
    limits = coherent.limits ino inode is;
    attributes = coherent.items_fit.attributes ino inode is;
  }
