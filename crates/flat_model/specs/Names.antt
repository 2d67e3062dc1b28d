-- Names: which directory has them, at which index, and which inode they lead to; and finite sets of names.
use Rattle.std.specs.Prelude.{ℕ, Bool, true, not, ◌&&◌, List, [], ◌∷◌, Option, length, filter, find, nat_eq, bytes_eq}
use Rattle.std.specs.declared.cmp.Ordering.{Ordering}
use Rattle.std.specs.Ordering.{nat_cmp, bool_cmp, on, then_cmp, is_lt, is_eq, match_ordering}
use Rattle.std.specs.Cmp.{IsTotalOrder, then_total, on_total, nat_cmp_total, bool_cmp_total}
use Rattle.std.specs.Cmp.Lexicographic.{slice_cmp, nat_list_cmp_total}
use Rattle.std.specs.List.{list_all}
use Rattle.blk_base.specs.Crc.{name_hash_of}

-- a name: the directory that has it, its index there, its bytes, the inode that it leads to, and whether it is near, which
-- is held in an INODE_REF item, or far, which is held in an INODE_EXTREF item ("INODE_REF", "INODE_EXTREF", "DIR_INDEX")
pub record FlatName : Type 0 where
  pub dir : ℕ
  pub index : ℕ
  pub bytes : List ℕ
  pub ino : ℕ
  pub near : Bool

-- the order in which a list of names stands: by directory, index, bytes, inode and mark, far before near (own)
unfoldable pub name_cmp : FlatName → FlatName → Ordering
name_cmp = then_cmp (on (λ (n : FlatName). n.dir) nat_cmp) (then_cmp (on (λ (n : FlatName). n.index) nat_cmp) (then_cmp (on (λ (n : FlatName). n.bytes) (slice_cmp nat_cmp)) (then_cmp (on (λ (n : FlatName). n.ino) nat_cmp) (on (λ (n : FlatName). n.near) bool_cmp))))

-- whether the name stands before each name of the list (own)
abbrev pub is_below_all : FlatName → List FlatName → Bool
is_below_all name names = list_all (λ other. is_lt (name_cmp name other)) names

-- whether the list is a set of names: in order, and no name twice; so equal sets are equal lists (own)
abbrev pub is_name_set : List FlatName → Bool
is_name_set [] = true
is_name_set (name ∷ names) = is_below_all name names && is_name_set names

-- whether two names are one (own)
abbrev pub is_same_name : FlatName → FlatName → Bool
is_same_name one two = is_eq (name_cmp one two)

-- the set with this name in it (own)
abbrev pub add_name : FlatName → List FlatName → List FlatName
add_name name [] = name ∷ []
add_name name (other ∷ names) = match_ordering (name_cmp name other) (name ∷ other ∷ names) (other ∷ names) (other ∷ add_name name names)

-- the set without this name (own)
abbrev pub remove_name : FlatName → List FlatName → List FlatName
remove_name name names = filter (λ other. not (is_same_name name other)) names

-- the set of the names in a list (own)
abbrev pub name_set : List FlatName → List FlatName
name_set [] = []
name_set (name ∷ names) = add_name name (name_set names)

-- whether a name leads to the inode ("INODE_REF")
abbrev pub leads_to : ℕ → FlatName → Bool
leads_to ino name = nat_eq name.ino ino

-- whether a directory has the name ("DIR_INDEX")
abbrev pub stands_in : ℕ → FlatName → Bool
stands_in dir name = nat_eq name.dir dir

-- whether a name stands in a slot, which is a directory and bytes ("DIR_ITEM")
abbrev pub is_in_slot : ℕ → List ℕ → FlatName → Bool
is_in_slot dir bytes name = nat_eq name.dir dir && bytes_eq name.bytes bytes

-- the names of an inode ("INODE_REF", "INODE_EXTREF")
abbrev pub names_of : List FlatName → ℕ → List FlatName
names_of names ino = filter (leads_to ino) names

-- the names in a directory ("DIR_INDEX")
abbrev pub entries_of : List FlatName → ℕ → List FlatName
entries_of names dir = filter (stands_in dir) names

-- whether a directory has the name, and its bytes have this hash ("DIR_ITEM": key offset)
abbrev pub is_hashed_in : ℕ → ℕ → FlatName → Bool
is_hashed_in dir hash name = nat_eq name.dir dir && nat_eq (name_hash_of name.bytes) hash

-- the names in a directory whose bytes have this hash ("DIR_ITEM": key offset)
abbrev pub hashed_of : List FlatName → ℕ → ℕ → List FlatName
hashed_of names dir hash = filter (is_hashed_in dir hash) names

-- the name in a slot, where there is one ("DIR_ITEM")
abbrev pub name_in_slot : List FlatName → ℕ → List ℕ → Option FlatName
name_in_slot names dir bytes = find (is_in_slot dir bytes) names

-- how many names an inode has ("INODE_ITEM": nlink)
abbrev pub links_of : List FlatName → ℕ → ℕ
links_of names ino = length (names_of names ino)

-- the order of names is total
pub name_cmp_total : IsTotalOrder name_cmp
unfolding name_cmp
name_cmp_total = then_total (on_total (λ (n : FlatName). n.dir) nat_cmp_total) (then_total (on_total (λ (n : FlatName). n.index) nat_cmp_total) (then_total (on_total (λ (n : FlatName). n.bytes) nat_list_cmp_total) (then_total (on_total (λ (n : FlatName). n.ino) nat_cmp_total) (on_total (λ (n : FlatName). n.near) bool_cmp_total))))
