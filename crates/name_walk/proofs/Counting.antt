-- How many names an inode and a directory have, by what the inode item says.
use Rattle.std.proofs.Common.{◌≡◌, ◌≢◌, ◌≤◌, ◌*◌, ℕ, zero, suc, true, false, List, [], ◌∷◌, length, Contains, Some, None, nat_lt, refl, sym, ap, ◌∙◌, arith}
use Rattle.std.specs.List.{sum_by}
use Rattle.std.proofs.lemmas.List.Sums.{sum_by-cons}
use Rattle.std.proofs.lemmas.Bool.{eqb-true, lt-ltb, true≢false}
use Rattle.std.specs.FinMap.{get}
use Rattle.blk_base.specs.Items.{dir_mode}
use Rattle.flat_model.specs.Coherent.{IsCoherent}
use Rattle.flat_model.specs.Names.{FlatName, entries_of, leads_to, links_of, names_of, stands_in}
use Rattle.flat_model.specs.Records.{InodeRecord, FileInode, DirInode, LinkInode}
use Rattle.flat_model.specs.Volume.{Subvolume, is_dir_at, is_dir_there}
use Rattle.volume_image.proofs.Reaches.{head_in, tail_in}
use Rattle.volume_image.proofs.Members.{in_filter}
use Rattle.volume_image.specs.Subvolume.{mode_of, nlink_of, size_of}
use Rattle.name_walk.specs.Given.{SaysInode}
use Rattle.blk_base.specs.Items.{InodeValue}

-- a list of which nothing is a member is empty
no_members : {X : Type 0} (xs : List X) → ((x : X) → Contains xs x → ⊥) → xs ≡ []
no_members [] none = refl
no_members (x ∷ xs) none = absurd (none x (head_in x xs))

-- ---- names of an inode

pub links_said : (sub : Subvolume) → IsCoherent sub → (ino : ℕ) (value : InodeValue) → ino ≢ 256 → SaysInode sub ino value → value.nlink ≡ links_of sub.names ino
links_said sub coherent ino value other said = go said.inode said.there said.nlink
  where
    go : (inode : InodeRecord) → get sub.inodes ino ≡ Some inode → value.nlink ≡ nlink_of sub ino inode → value.nlink ≡ links_of sub.names ino
    go (FileInode file) there is = is
    go (DirInode dir) there is = is ∙ sym (coherent.link_counts ino (DirInode dir) there other)
    go (LinkInode link) there is = is

pub no_links : (sub : Subvolume) → IsCoherent sub → (ino : ℕ) → get sub.inodes ino ≡ None → links_of sub.names ino ≡ 0
no_links sub coherent ino none =
    ap length (no_members (names_of sub.names ino) (λ n c.
    let kept = in_filter (leads_to ino) sub.names n c in
    let inode = coherent.leads_to_inode n kept.0 in
    let e : Some inode.0 ≡ None = sym inode.1 ∙ ap (get sub.inodes) (eqb-true n.ino ino kept.1) ∙ none in cc))

-- ---- names in a directory

pub no_entries : (sub : Subvolume) → IsCoherent sub → (ino : ℕ) → is_dir_at sub ino ≡ false → nat_lt 0 (length (entries_of sub.names ino)) ≡ false
no_entries sub coherent ino no_dir =
    ap (λ (names : List FlatName). nat_lt 0 (length names)) (no_members (entries_of sub.names ino) (λ n c.
    let kept = in_filter (stands_in ino) sub.names n c in
    let dir : is_dir_at sub n.dir ≡ true = coherent.stands_in_dir n kept.0 in
    true≢false (sym dir ∙ ap (is_dir_at sub) (eqb-true n.dir ino kept.1) ∙ no_dir)))

some_bytes : (names : List FlatName) → ((n : FlatName) → Contains names n → 1 ≤ length n.bytes) → length names ≤ sum_by (λ (name : FlatName). length name.bytes) names
some_bytes [] each = omega arith
some_bytes (n ∷ names) each =
    let rest = some_bytes names (λ m c. each m (tail_in n m names c)) in
    let first = each n (head_in n names) in
    let sum = sum_by-cons (λ (name : FlatName). length name.bytes) n names in
    omega arith

both_zero : (a b : ℕ) → a ≤ b → (a ≡ 0 → b ≡ 0) → nat_lt 0 (2 * b) ≡ nat_lt 0 a
both_zero zero b least same = ap (λ n. nat_lt 0 (2 * n)) (same refl)
both_zero (suc a) b least same = lt-ltb 0 (2 * b) (omega arith) ∙ sym (lt-ltb 0 (suc a) (omega arith))

pub entries_by_size : (sub : Subvolume) → IsCoherent sub → (ino : ℕ) → nat_lt 0 (2 * sum_by (λ (name : FlatName). length name.bytes) (entries_of sub.names ino)) ≡ nat_lt 0 (length (entries_of sub.names ino))
entries_by_size sub coherent ino =
    let names = entries_of sub.names ino in
    both_zero (length names) (sum_by (λ (name : FlatName). length name.bytes) names)
    (some_bytes names (λ n c. (coherent.name_limits n (in_filter (stands_in ino) sub.names n c).0).0.least))
    (empty names)
  where
    empty : (names : List FlatName) → length names ≡ 0 → sum_by (λ (name : FlatName). length name.bytes) names ≡ 0
    empty [] is = refl
    empty (n ∷ names) is = absurd (omega arith)

-- a directory's size tells whether it has names
pub entries_said : (sub : Subvolume) → IsCoherent sub → (ino : ℕ) (value : InodeValue) → SaysInode sub ino value → value.mode ≡ dir_mode → nat_lt 0 value.size ≡ nat_lt 0 (length (entries_of sub.names ino))
entries_said sub coherent ino value said mode = go said.inode said.mode said.size
  where
    go : (inode : InodeRecord) → value.mode ≡ mode_of inode → value.size ≡ size_of sub ino inode → nat_lt 0 value.size ≡ nat_lt 0 (length (entries_of sub.names ino))
    go (FileInode file) is size = absurd (omega arith)
    go (DirInode dir) is size = ap (nat_lt 0) size ∙ entries_by_size sub coherent ino
    go (LinkInode link) is size = absurd (omega arith)

pub no_entries_said : (sub : Subvolume) → IsCoherent sub → (ino : ℕ) (value : InodeValue) → SaysInode sub ino value → value.mode ≢ dir_mode → nat_lt 0 (length (entries_of sub.names ino)) ≡ false
no_entries_said sub coherent ino value said mode = no_entries sub coherent ino (go said.inode said.there said.mode)
  where
    go : (inode : InodeRecord) → get sub.inodes ino ≡ Some inode → value.mode ≡ mode_of inode → is_dir_at sub ino ≡ false
    go (FileInode file) there is = ap is_dir_there there
    go (DirInode dir) there is = absurd (mode is)
    go (LinkInode link) there is = ap is_dir_there there
