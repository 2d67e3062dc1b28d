-- Edits of a subvolume that leave it coherent.
use Rattle.std.proofs.Common.{◌≡◌, ◌≢◌, ℕ, ◌≤◌, ◌+◌, Bool, true, false, cond, not, List, length, Some, refl, sym, ap, subst, ◌∙◌, arith, inl, inr, ◌⊎◌}
use Rattle.std.specs.Bool.{nat_eq}
use Rattle.std.specs.List.{Contains, filter, sum_by}
use Rattle.std.specs.FinMap.{get, insert, remove}
use Rattle.std.proofs.lemmas.Bool.{cases_eq, eqb-true, eqb-false, eq-eqb, ne_eqb}
use Rattle.flat_model.specs.Records.{InodeRecord, LinkRecord, FileInode, DirInode, LinkInode, is_dir_record, attributes_of}
use Rattle.flat_model.specs.Names.{FlatName, is_name_set, is_same_name, remove_name, leads_to, links_of, names_of}
use Rattle.flat_model.specs.Lengths.{most_item_bytes, ref_item_length, extref_item_length, dir_item_length, xattr_item_length, link_extent_length}
use Rattle.flat_model.specs.Volume.{Subvolume, is_dir_at, is_dir_there}
use Rattle.flat_model.specs.Coherent.{IsCoherent, KeepsLimits, IsLinkCount, IsInoNumber, IsIndexNumber, IsNameBytes, LeadsUp}
use Rattle.flat_model.specs.Operations.{with_record, without_name}
use Rattle.flat_model.proofs.Lists.{contains_none, contains_filter}
use Rattle.flat_model.proofs.Maps.{some_same, some_none, get_insert_same, get_insert_other, get_remove_same, get_remove_other, insert_cases, remove_cases, sum_filter_le}
use Rattle.flat_model.proofs.NameSets.{add_name_cases, remove_name_gives, remove_name_keeps, is_name_set_remove, filter_remove_name, filter_remove_other, length_remove_name}
use Rattle.flat_model.proofs.Ways.{way_rerouted, dir_record, dir_link_count}

-- a symlink that keeps its limits fits into a leaf
pub link_fits : (link : LinkRecord) → KeepsLimits (LinkInode link) → link_extent_length link ≤ most_item_bytes
link_fits link keeps = let most = keeps.kind.at_most_1023 in omega arith

-- ---- another record of an inode

module _ (sub : Subvolume) (ino : ℕ) (old new : InodeRecord) (there : get sub.inodes ino ≡ Some old) (same_kind : is_dir_record new ≡ is_dir_record old) where
  pub is_dir_with_record : (dir : ℕ) → is_dir_at (with_record sub ino new) dir ≡ is_dir_at sub dir
  is_dir_with_record dir =
      elim (cases_eq dir ino) [
        | inl same ↦ subst (λ d. is_dir_at (with_record sub ino new) d ≡ is_dir_at sub d) (sym same)
            (ap is_dir_there (get_insert_same sub.inodes ino new) ∙ same_kind ∙ sym (ap is_dir_there there))
        | inr other ↦ ap is_dir_there (get_insert_other sub.inodes ino new dir other)
      ]

pub coherent_with_record : (sub : Subvolume) → IsCoherent sub → (ino : ℕ) (old new : InodeRecord) → get sub.inodes ino ≡ Some old → is_dir_record new ≡ is_dir_record old → ((count : ℕ) → IsLinkCount old count → IsLinkCount new count) → KeepsLimits new → ((hash : ℕ) → xattr_item_length (attributes_of new) hash ≤ most_item_bytes) → IsCoherent (with_record sub ino new)
coherent_with_record sub coherent ino old new there same_kind counts keeps fits =
    let limits : (i : ℕ) (inode : InodeRecord) → get (insert sub.inodes ino new) i ≡ Some inode → KeepsLimits inode =
    λ i inode e. elim (insert_cases sub.inodes ino new i inode e) [
      | inl new_one ↦ subst KeepsLimits (sym new_one.1) keeps
      | inr old_one ↦ coherent.limits i inode old_one.1
    ] in
    record {
      in_order = coherent.in_order;
      root_is_dir = is_dir_with_record sub ino old new there same_kind 256 ∙ coherent.root_is_dir;
      root_has_no_name = coherent.root_has_no_name;
      no_name_twice = coherent.no_name_twice;
      no_index_twice = coherent.no_index_twice;
      leads_to_inode = λ name c. elim (cases_eq name.ino ino) [
        | inl same ↦ (new, subst (λ i. get (insert sub.inodes ino new) i ≡ Some new) (sym same) (get_insert_same sub.inodes ino new))
        | inr other ↦ let found = coherent.leads_to_inode name c in (found.0, get_insert_other sub.inodes ino new name.ino other ∙ found.1)
      ];
      stands_in_dir = λ name c. is_dir_with_record sub ino old new there same_kind name.dir ∙ coherent.stands_in_dir name c;
      link_counts = λ i inode e other. elim (insert_cases sub.inodes ino new i inode e) [
        | inl new_one ↦ subst (λ r. IsLinkCount r (links_of sub.names i)) (sym new_one.1) (counts _ (coherent.link_counts i old (ap (get sub.inodes) new_one.0 ∙ there) other))
        | inr old_one ↦ coherent.link_counts i inode old_one.1 other
      ];
      ends_at_root = λ dir is_dir. coherent.ends_at_root dir (sym (is_dir_with_record sub ino old new there same_kind dir) ∙ is_dir);
      limits = limits;
      name_limits = coherent.name_limits;
      items_fit = record {
        refs = coherent.items_fit.refs;
        extrefs = coherent.items_fit.extrefs;
        entries = coherent.items_fit.entries;
        attributes = λ i inode e hash. elim (insert_cases sub.inodes ino new i inode e) [
          | inl new_one ↦ subst (λ r. xattr_item_length (attributes_of r) hash ≤ most_item_bytes) (sym new_one.1) (fits hash)
          | inr old_one ↦ coherent.items_fit.attributes i inode old_one.1 hash
        ];
        targets = λ i link e. link_fits link (limits i (LinkInode link) e);
      };
      ino_numbers = λ i inode e. elim (insert_cases sub.inodes ino new i inode e) [
        | inl new_one ↦ coherent.ino_numbers i old (ap (get sub.inodes) new_one.0 ∙ there)
        | inr old_one ↦ coherent.ino_numbers i inode old_one.1
      ];
      index_numbers = coherent.index_numbers;
    }

-- ---- a name goes

fewer_links : (inode : InodeRecord) (count left : ℕ) → 1 + left ≡ count → left ≢ 0 → IsLinkCount inode count → IsLinkCount inode left
fewer_links (FileInode file) count left e some c = let low = c.0 in let high = c.1 in (omega (arith, some), omega arith)
fewer_links (DirInode dir) count left e some c = absurd (some (omega (arith, e, c)))
fewer_links (LinkInode link) count left e some c = let low = c.0 in let high = c.1 in (omega (arith, some), omega arith)

-- the inodes without the one that has no name left
module _ (sub : Subvolume) (name : FlatName) where
  pub without_gives : (ino : ℕ) (inode : InodeRecord) → get (without_name sub name).inodes ino ≡ Some inode → (get sub.inodes ino ≡ Some inode) × (ino ≡ name.ino → links_of (remove_name name sub.names) name.ino ≢ 0)
  without_gives ino inode e =
      elim (nat_eq (links_of (remove_name name sub.names) name.ino) 0) as (λ b. nat_eq (links_of (remove_name name sub.names) name.ino) 0 ≡ b → get (cond b (remove sub.inodes name.ino) sub.inodes) ino ≡ Some inode → (get sub.inodes ino ≡ Some inode) × (ino ≡ name.ino → links_of (remove_name name sub.names) name.ino ≢ 0)) [
        | true ↦ λ t s. let parts = remove_cases sub.inodes name.ino ino inode s in (parts.1, λ same. absurd (parts.0 same))
        | false ↦ λ f s. (s, λ same none. eqb-false _ _ f none)
      ] refl e

  pub without_keeps : (ino : ℕ) → (ino ≡ name.ino → links_of (remove_name name sub.names) name.ino ≢ 0) → get (without_name sub name).inodes ino ≡ get sub.inodes ino
  without_keeps ino other =
      elim (nat_eq (links_of (remove_name name sub.names) name.ino) 0) as (λ b. nat_eq (links_of (remove_name name sub.names) name.ino) 0 ≡ b → get (cond b (remove sub.inodes name.ino) sub.inodes) ino ≡ get sub.inodes ino) [
        | true ↦ λ t. get_remove_other sub.inodes name.ino ino (λ same. other same (eqb-true _ _ t))
        | false ↦ λ f. refl
      ] refl

pub links_without_same : (names : List FlatName) (name : FlatName) → is_name_set names ≡ true → Contains names name → 1 + links_of (remove_name name names) name.ino ≡ links_of names name.ino
links_without_same names name set c =
    ap (λ ns. 1 + length ns) (filter_remove_name (leads_to name.ino) name names)
    ∙ length_remove_name name (names_of names name.ino) (Rattle.flat_model.proofs.NameSets.is_name_set_filter (leads_to name.ino) names set) (contains_filter (leads_to name.ino) names name (eq-eqb name.ino name.ino refl) c)

pub links_without_other : (names : List FlatName) (name : FlatName) (ino : ℕ) → ino ≢ name.ino → links_of (remove_name name names) ino ≡ links_of names ino
links_without_other names name ino other = ap length (filter_remove_other (leads_to ino) name names (ne_eqb name.ino ino (λ e. other (sym e))))

sum_without : (f : FlatName → ℕ) (p : FlatName → Bool) (name : FlatName) (names : List FlatName) (most : ℕ) → sum_by f (filter p names) ≤ most → sum_by f (filter p (remove_name name names)) ≤ most
sum_without f p name names most fits =
    let fewer = sum_filter_le f (λ other. not (is_same_name name other)) (filter p names) in
    let same = ap (sum_by f) (filter_remove_name p name names) in
    omega (arith, fewer, same, fits)

-- the three items of names fit
pub record NamesFit (names : List FlatName) : Type 0 where
  pub refs : (ino dir : ℕ) → ref_item_length names ino dir ≤ most_item_bytes
  pub extrefs : (ino hash : ℕ) → extref_item_length names ino hash ≤ most_item_bytes
  pub entries : (dir hash : ℕ) → dir_item_length names dir hash ≤ most_item_bytes

pub names_fit : (sub : Subvolume) → IsCoherent sub → NamesFit sub.names
names_fit sub coherent = record { refs = coherent.items_fit.refs; extrefs = coherent.items_fit.extrefs; entries = coherent.items_fit.entries }

pub names_fit_without : (names : List FlatName) (name : FlatName) → NamesFit names → NamesFit (remove_name name names)
unfolding ref_item_length extref_item_length dir_item_length
names_fit_without names name fit = record {
  refs = λ ino dir. sum_without _ _ name names _ (fit.refs ino dir);
  extrefs = λ ino hash. sum_without _ _ name names _ (fit.extrefs ino hash);
  entries = λ dir hash. sum_without _ _ name names _ (fit.entries dir hash);
}

-- a name may go where no name stands in its inode, and the inode goes with its last name
pub coherent_without_name : (sub : Subvolume) → IsCoherent sub → (name : FlatName) → Contains sub.names name → ((q : FlatName) → Contains sub.names q → q.dir ≢ name.ino) → IsCoherent (without_name sub name)
coherent_without_name sub coherent name c empty =
    let left_links = links_without_same sub.names name coherent.in_order c in
    let some_left : (q : FlatName) → Contains (remove_name name sub.names) q → q.ino ≡ name.ino → links_of (remove_name name sub.names) name.ino ≢ 0 =
    λ q d same none.
    let member = contains_filter (leads_to name.ino) (remove_name name sub.names) q (eq-eqb q.ino name.ino same) d in
    contains_none q (subst (λ ns. Contains ns q) (Rattle.flat_model.proofs.Maps.no_length _ none) member) in
    let is_dir_kept : (dir : ℕ) → dir ≢ name.ino → is_dir_at (without_name sub name) dir ≡ is_dir_at sub dir =
    λ dir other. ap is_dir_there (without_keeps sub name dir (λ same. absurd (other same))) in
    let dir_is_other : (dir : ℕ) → is_dir_at (without_name sub name) dir ≡ true → dir ≢ name.ino =
    λ dir is_dir same.
    let found = dir_record _ is_dir in
    let old = without_gives sub name dir found.0 found.1 in
    let named : get sub.inodes name.ino ≡ Some found.0 = subst (λ d. get sub.inodes d ≡ Some found.0) same old.0 in
    let one = dir_link_count found.0 _ found.2 (coherent.link_counts name.ino found.0 named (coherent.root_has_no_name name c)) in
    old.1 same (omega (arith, one, left_links)) in
    let old_record : (ino : ℕ) (inode : InodeRecord) → get (without_name sub name).inodes ino ≡ Some inode → get sub.inodes ino ≡ Some inode =
    λ ino inode e. (without_gives sub name ino inode e).0 in
    let fit = names_fit_without sub.names name (names_fit sub coherent) in
    record {
      in_order = is_name_set_remove name sub.names coherent.in_order;
      root_is_dir = is_dir_kept 256 (λ same. coherent.root_has_no_name name c (sym same)) ∙ coherent.root_is_dir;
      root_has_no_name = λ q d. coherent.root_has_no_name q (remove_name_gives name sub.names q d).0;
      no_name_twice = λ a b ca cb. coherent.no_name_twice a b (remove_name_gives name sub.names a ca).0 (remove_name_gives name sub.names b cb).0;
      no_index_twice = λ a b ca cb. coherent.no_index_twice a b (remove_name_gives name sub.names a ca).0 (remove_name_gives name sub.names b cb).0;
      leads_to_inode = λ q d. let found = coherent.leads_to_inode q (remove_name_gives name sub.names q d).0 in (found.0, without_keeps sub name q.ino (some_left q d) ∙ found.1);
      stands_in_dir = λ q d. let old = (remove_name_gives name sub.names q d).0 in is_dir_kept q.dir (empty q old) ∙ coherent.stands_in_dir q old;
      link_counts = λ ino inode e other.
          let old = without_gives sub name ino inode e in
          let count = coherent.link_counts ino inode old.0 other in
          elim (cases_eq ino name.ino) [
            | inl same ↦ subst (λ i. IsLinkCount inode (links_of (remove_name name sub.names) i)) (sym same)
                (fewer_links inode _ _ left_links (old.1 same) (subst (λ i. IsLinkCount inode (links_of sub.names i)) same count))
            | inr apart ↦ subst (IsLinkCount inode) (sym (links_without_other sub.names name ino apart)) count
          ];
      ends_at_root = λ dir is_dir.
          let other = dir_is_other dir is_dir in
          let way = coherent.ends_at_root dir (sym (is_dir_kept dir other) ∙ is_dir) in
          way_rerouted (λ d. d ≢ name.ino) sub.names (remove_name name sub.names) empty
          (λ q d p. inl (remove_name_keeps name sub.names q d (λ same. p (ap (λ (n : FlatName). n.ino) (sym same))))) dir other way.0 way.1;
      limits = λ ino inode e. coherent.limits ino inode (old_record ino inode e);
      name_limits = λ q d. coherent.name_limits q (remove_name_gives name sub.names q d).0;
      items_fit = record {
        refs = fit.refs;
        extrefs = fit.extrefs;
        entries = fit.entries;
        attributes = λ ino inode e. coherent.items_fit.attributes ino inode (old_record ino inode e);
        targets = λ ino link e. coherent.items_fit.targets ino link (old_record ino (LinkInode link) e);
      };
      ino_numbers = λ ino inode e. coherent.ino_numbers ino inode (old_record ino inode e);
      index_numbers = λ q d. coherent.index_numbers q (remove_name_gives name sub.names q d).0;
    }

-- ---- names come, others go

-- what holds of a name that comes into a subvolume
pub record IsFit (sub new : Subvolume) (name : FlatName) : Type 0 where
  pub inode : InodeRecord
  pub there : get new.inodes name.ino ≡ Some inode
  pub not_root : name.ino ≢ 256
  pub in_dir : is_dir_at new name.dir ≡ true
  pub bytes : IsNameBytes name.bytes
  pub index : IsIndexNumber name.index

-- what holds of an inode that comes into a subvolume
pub record IsFitInode (ino : ℕ) (inode : InodeRecord) : Type 0 where
  pub keeps : KeepsLimits inode
  pub number : IsInoNumber ino
  pub fits : (hash : ℕ) → xattr_item_length (attributes_of inode) hash ≤ most_item_bytes

-- from one subvolume to the other these names went and those came, and inodes only came
pub record Rewires (sub new : Subvolume) (removed added : List FlatName) : Type 0 where
  pub set : is_name_set new.names ≡ true
  pub cases : (q : FlatName) → Contains new.names q → Contains added q ⊎ (Contains sub.names q × (Contains removed q → ⊥))
  pub kept : (ino : ℕ) (inode : InodeRecord) → get sub.inodes ino ≡ Some inode → get new.inodes ino ≡ Some inode
  pub inodes : (ino : ℕ) (inode : InodeRecord) → get new.inodes ino ≡ Some inode → (get sub.inodes ino ≡ Some inode) ⊎ IsFitInode ino inode
  pub counts : (ino : ℕ) (inode : InodeRecord) → get new.inodes ino ≡ Some inode → ino ≢ 256 → IsLinkCount inode (links_of new.names ino)
  pub fit_names : (a : FlatName) → Contains added a → IsFit sub new a
  pub names_apart : (a q : FlatName) → Contains added a → Contains sub.names q → (Contains removed q → ⊥) → a.dir ≡ q.dir → a.bytes ≢ q.bytes
  pub indexes_apart : (a q : FlatName) → Contains added a → Contains sub.names q → a.dir ≡ q.dir → a.index ≢ q.index
  pub added_names : (a b : FlatName) → Contains added a → Contains added b → a.dir ≡ b.dir → a.bytes ≡ b.bytes → a ≡ b
  pub added_indexes : (a b : FlatName) → Contains added a → Contains added b → a.dir ≡ b.dir → a.index ≡ b.index → a ≡ b
  pub ways : (dir : ℕ) → is_dir_at new dir ≡ true → (way : List FlatName) × LeadsUp new.names dir way
  pub fit : NamesFit new.names

dir_still : (sub new : Subvolume) → ((ino : ℕ) (inode : InodeRecord) → get sub.inodes ino ≡ Some inode → get new.inodes ino ≡ Some inode) → (dir : ℕ) → is_dir_at sub dir ≡ true → is_dir_at new dir ≡ true
dir_still sub new kept dir is_dir = let found = dir_record _ is_dir in ap is_dir_there (kept dir found.0 found.1) ∙ found.2

pub coherent_rewired : (sub new : Subvolume) (removed added : List FlatName) → IsCoherent sub → Rewires sub new removed added → IsCoherent new
coherent_rewired sub new removed added coherent w =
    let limits : (i : ℕ) (inode : InodeRecord) → get new.inodes i ≡ Some inode → KeepsLimits inode =
    λ i inode e. elim (w.inodes i inode e) [ inl old ↦ coherent.limits i inode old | inr fit ↦ fit.keeps ] in
    record {
      in_order = w.set;
      root_is_dir = dir_still sub new w.kept 256 coherent.root_is_dir;
      root_has_no_name = λ q c. elim (w.cases q c) [ inl a ↦ (w.fit_names q a).not_root | inr old ↦ coherent.root_has_no_name q old.0 ];
      no_name_twice = λ one two c d same_dir same_bytes. elim (w.cases one c) [
        | inl a ↦ elim (w.cases two d) [ inl b ↦ w.added_names one two a b same_dir same_bytes | inr old ↦ absurd (w.names_apart one two a old.0 old.1 same_dir same_bytes) ]
        | inr old ↦ elim (w.cases two d) [ inl b ↦ absurd (w.names_apart two one b old.0 old.1 (sym same_dir) (sym same_bytes)) | inr other ↦ coherent.no_name_twice one two old.0 other.0 same_dir same_bytes ]
      ];
      no_index_twice = λ one two c d same_dir same_index. elim (w.cases one c) [
        | inl a ↦ elim (w.cases two d) [ inl b ↦ w.added_indexes one two a b same_dir same_index | inr old ↦ absurd (w.indexes_apart one two a old.0 same_dir same_index) ]
        | inr old ↦ elim (w.cases two d) [ inl b ↦ absurd (w.indexes_apart two one b old.0 (sym same_dir) (sym same_index)) | inr other ↦ coherent.no_index_twice one two old.0 other.0 same_dir same_index ]
      ];
      leads_to_inode = λ q c. elim (w.cases q c) [
        | inl a ↦ ((w.fit_names q a).inode, (w.fit_names q a).there)
        | inr old ↦ let found = coherent.leads_to_inode q old.0 in (found.0, w.kept q.ino found.0 found.1)
      ];
      stands_in_dir = λ q c. elim (w.cases q c) [
        | inl a ↦ (w.fit_names q a).in_dir
        | inr old ↦ dir_still sub new w.kept q.dir (coherent.stands_in_dir q old.0)
      ];
      link_counts = w.counts;
      ends_at_root = w.ways;
      limits = limits;
      name_limits = λ q c. elim (w.cases q c) [ inl a ↦ (w.fit_names q a).bytes | inr old ↦ coherent.name_limits q old.0 ];
      items_fit = record {
        refs = w.fit.refs;
        extrefs = w.fit.extrefs;
        entries = w.fit.entries;
        attributes = λ i inode e hash. elim (w.inodes i inode e) [ inl old ↦ coherent.items_fit.attributes i inode old hash | inr fit ↦ fit.fits hash ];
        targets = λ i link e. link_fits link (limits i (LinkInode link) e);
      };
      ino_numbers = λ i inode e. elim (w.inodes i inode e) [ inl old ↦ coherent.ino_numbers i inode old | inr fit ↦ fit.number ];
      index_numbers = λ q c. elim (w.cases q c) [ inl a ↦ (w.fit_names q a).index | inr old ↦ coherent.index_numbers q old.0 ];
    }
