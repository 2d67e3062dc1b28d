-- A part of the names of a coherent subvolume: names may go from it, and no item of it is longer.
use Rattle.std.proofs.Common.{◌≡◌, ◌≤◌, ◌&&◌, ℕ, Bool, true, false, not, List, [], ◌∷◌, length, filter, Contains, nat_eq, nat_lt, refl, arith}
use Rattle.std.specs.List.{sum_by}
use Rattle.std.specs.FinMap.{get}
use Rattle.std.proofs.lemmas.List.Sums.{sum_by-cons}
use Rattle.std.proofs.lemmas.Bool.{le-ltb, ltb-false, or_parts}
use Rattle.blk_base.specs.Crc.{extref_hash_of, name_hash_of}
use Rattle.flat_model.specs.Coherent.{IsCoherent, IsLinkCount, most_links}
use Rattle.flat_model.specs.Lengths.{dir_item_length, entry_length, extref_item_length, extref_length, most_item_bytes, ref_item_length, ref_length}
use Rattle.flat_model.specs.Names.{FlatName, add_name, is_hashed_in, is_name_set, leads_to, links_of, remove_name}
use Rattle.flat_model.specs.Operations.{is_crowded}
use Rattle.flat_model.specs.Records.{InodeRecord, FileInode, DirInode, LinkInode}
use Rattle.flat_model.specs.Volume.{Subvolume}
use Rattle.flat_model.proofs.NameSets.{remove_name_gives}
use Rattle.name_items.specs.Names.{MayRemoveName}
use Rattle.name_ops.specs.Changes.{AreThere, remove_names, with_names}
use Rattle.name_ops.proofs.Adding.{dir_there}
use Rattle.name_ops.proofs.Totals.{set_gone, total, total_gone, total_made}

-- these names are some of those
pub record IsPart (names part : List FlatName) : Type 0 where
  pub set : is_name_set part ≡ true
  pub within : (q : FlatName) → Contains part q → Contains names q
  pub totals : (f : FlatName → ℕ) (p : FlatName → Bool) → total f p part ≤ total f p names

pub all_is_part : (names : List FlatName) → is_name_set names ≡ true → IsPart names names
all_is_part names set = record { set = set; within = λ q c. c; totals = λ f p. omega arith }

gone_within : (gone names : List FlatName) (q : FlatName) → Contains (remove_names names gone) q → Contains names q
gone_within [] names q c = c
gone_within (name ∷ gone) names q c = (remove_name_gives name names q (gone_within gone (remove_name name names) q c)).0

pub rest_is_part : (gone names : List FlatName) → is_name_set names ≡ true → AreThere names gone → IsPart names (remove_names names gone)
rest_is_part gone names set there = record {
  set = set_gone gone names set;
  within = gone_within gone names;
  totals = λ f p. let all = total_gone f p gone names set there in omega arith;
}

pub part_of_more : (names : List FlatName) (name : FlatName) → is_name_set names ≡ true → (Contains names name → ⊥) → (f : FlatName → ℕ) (p : FlatName → Bool) → total f p names ≤ total f p (add_name name names)
part_of_more names name set absent f p = let all = total_made f p (name ∷ []) names set (absent, tt) in omega arith

-- ---- numbers of links

pub count_is_total : (ino : ℕ) (names : List FlatName) → links_of names ino ≡ total (λ name. 1) (leads_to ino) names
count_is_total ino names = ones (filter (leads_to ino) names)
  where
    ones : (xs : List FlatName) → length xs ≡ sum_by (λ (name : FlatName). 1) xs
    ones [] = refl
    ones (x ∷ xs) = let rest = ones xs in let step = sum_by-cons (λ (name : FlatName). 1) x xs in omega arith

few_links : (inode : InodeRecord) (count : ℕ) → IsLinkCount inode count → count ≤ most_links
few_links (FileInode file) count is = is.1
few_links (DirInode dir) count is = omega (arith, is)
few_links (LinkInode link) count is = is.1

pub most_links_of : (sub : Subvolume) → IsCoherent sub → (name : FlatName) → Contains sub.names name → links_of sub.names name.ino ≤ most_links
most_links_of sub coherent name has =
    let inode = coherent.leads_to_inode name has in
    few_links inode.0 (links_of sub.names name.ino) (coherent.link_counts name.ino inode.0 inode.1 (coherent.root_has_no_name name has))

-- ---- names that go

module _ (sub : Subvolume) (coherent : IsCoherent sub) (part : List FlatName) (is_part : IsPart sub.names part) where
  ref_fits : (ino dir : ℕ) → ref_item_length part ino dir ≤ most_item_bytes
  unfolding ref_item_length
  ref_fits ino dir = let less = is_part.totals ref_length (λ name. name.near && (nat_eq name.ino ino && nat_eq name.dir dir)) in let fits = coherent.items_fit.refs ino dir in omega arith

  extref_fits : (ino hash : ℕ) → extref_item_length part ino hash ≤ most_item_bytes
  unfolding extref_item_length
  extref_fits ino hash =
      let less = is_part.totals extref_length (λ name. not name.near && (nat_eq name.ino ino && nat_eq (extref_hash_of name.dir name.bytes) hash)) in
      let fits = coherent.items_fit.extrefs ino hash in
      omega arith

  hashed_fits : (dir hash : ℕ) → dir_item_length part dir hash ≤ most_item_bytes
  unfolding dir_item_length
  hashed_fits dir hash = let less = is_part.totals entry_length (is_hashed_in dir hash) in let fits = coherent.items_fit.entries dir hash in omega arith

  pub may_remove_part : (name : FlatName) → Contains part name → MayRemoveName (with_names sub part) name
  may_remove_part name c =
      let has = is_part.within name c in
      let limits = coherent.name_limits name has in
      let inode = coherent.leads_to_inode name has in
      let dir = dir_there (get sub.inodes name.dir) (coherent.stands_in_dir name has) in
      let index = coherent.index_numbers name has in
      let number = coherent.ino_numbers name.ino inode.0 inode.1 in
      let dir_number = coherent.ino_numbers name.dir (DirInode dir.0) dir.1 in
      let links = is_part.totals (λ name. 1) (leads_to name.ino) in
      let fewer = most_links_of sub coherent name has in
      let part_links = count_is_total name.ino part in
      let all_links = count_is_total name.ino sub.names in
      record {
        in_order = is_part.set;
        is_name = limits.0;
        index = omega (arith, index.1);
        ino_number = omega (arith, number.1);
        dir_number = omega (arith, dir_number.1);
        not_root = coherent.root_has_no_name name has;
        there = c;
        inode = inode.0;
        inode_there = inode.1;
        dir = dir.0;
        dir_there = dir.1;
        slot_once = λ other there d b. coherent.no_name_twice other name (is_part.within other there) has d b;
        index_once = λ other there d i. coherent.no_index_twice other name (is_part.within other there) has d i;
        near_fits = λ near. ref_fits name.ino name.dir;
        far_fits = λ far. extref_fits name.ino (extref_hash_of name.dir name.bytes);
        entry_fits = hashed_fits name.dir (name_hash_of name.bytes);
        links = omega (arith, links, fewer, part_links, all_links);
      }

-- ---- names that come

-- where a name isn't crowded among more names it isn't among these
pub less_crowded : (names more : List FlatName) (name : FlatName) → ((f : FlatName → ℕ) (p : FlatName → Bool) → total f p names ≤ total f p more) → is_crowded more name ≡ false → is_crowded names name ≡ false
unfolding extref_item_length dir_item_length
less_crowded names more name less free =
    let hash = extref_hash_of name.dir name.bytes in
    let parts = or_parts _ _ free in
    let near = less entry_length (is_hashed_in name.dir (name_hash_of name.bytes)) in
    let small = ltb-false most_item_bytes (dir_item_length more name.dir (name_hash_of name.bytes)) parts.0 in
    let first : nat_lt most_item_bytes (dir_item_length names name.dir (name_hash_of name.bytes)) ≡ false = le-ltb most_item_bytes (dir_item_length names name.dir (name_hash_of name.bytes)) (omega arith) in
    let far = less extref_length (λ other. not other.near && (nat_eq other.ino name.ino && nat_eq (extref_hash_of other.dir other.bytes) hash)) in
    rw first (second name.near parts.1 far)
  where
    second : (near : Bool) → (not near && nat_lt most_item_bytes (extref_item_length more name.ino (extref_hash_of name.dir name.bytes))) ≡ false
        → extref_item_length names name.ino (extref_hash_of name.dir name.bytes) ≤ extref_item_length more name.ino (extref_hash_of name.dir name.bytes)
        → (not near && nat_lt most_item_bytes (extref_item_length names name.ino (extref_hash_of name.dir name.bytes))) ≡ false
    second true e less = refl
    second false e less =
        let small = ltb-false most_item_bytes (extref_item_length more name.ino (extref_hash_of name.dir name.bytes)) e in
        le-ltb most_item_bytes (extref_item_length names name.ino (extref_hash_of name.dir name.bytes)) (omega (arith, small, less))
