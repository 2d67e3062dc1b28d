-- The tests of limits say that the limits are kept.
use Rattle.std.proofs.Common.{◌≡◌, ◌≢◌, ◌<◌, ◌≤◌, ◌+◌, ◌-◌, ◌*◌, ◌&&◌, ℕ, zero, suc, Bool, true, false, List, [], ◌∷◌, length, drop, All, Contains, Option, Some, None, nat_eq, nat_lt, nat_le, nat_cmp, refl, sym, ap, ◌∙◌, arith}
use Rattle.std.specs.Prelude.{slice_index}
use Rattle.std.specs.List.{list_all}
use Rattle.std.proofs.lemmas.Bool.{and_parts, and_from, eqb-true, eq-eqb, leb-true, le-leb, ltb-true, lt-ltb}
use Rattle.std.proofs.lemmas.List.Elements.{All-contains, All-contains_itself, All-weaker}
use Rattle.std.specs.Cmp.{nat_cmp_total}
use Rattle.std.specs.Cmp.Lexicographic.{slice_cmp, nat_list_cmp_total}
use Rattle.std.specs.FinMap.{get, entries, nat_cmp-IsAntisymmetric, slice_cmp-IsAntisymmetric}
use Rattle.blk_base.specs.Name.{is_name}
use Rattle.blk_base.proofs.NameLemmas.{is_name_decides}
use Rattle.flat_model.specs.Records.{Attributes, Blocks}
use Rattle.flat_model.specs.Contents.{block_bytes, most_file_bytes}
use Rattle.flat_model.specs.Coherent.{AreBytes, IsNameBytes, KeepAttributeLimits, KeepsBlockLimits}
use Rattle.logged_volume.specs.FlatLog.{WholeInode, WholeFile, WholeDir, WholeLink}
use Rattle.logged_volume.specs.Accepted.{KeepsWholeLimits}
use Rattle.logged_volume.proofs.Members.{all_gives, all_from}
use Rattle.volume_image.proofs.Members.{get_in, in_get}
use Rattle.log_image.specs.LogRules.{are_bytes, keeps_attribute, keep_attributes, keeps_block, keeps_limits}

-- the bytes of names have one order
abbrev bytes_one : (x y : List ℕ) → slice_cmp nat_cmp x y ≡ Rattle.std.proofs.Common.Equal → x ≡ y
bytes_one = slice_cmp-IsAntisymmetric nat_cmp-IsAntisymmetric

-- what holds of all that stands in a list
pub all_of : {X : Type 0} (P : X → Type 0) (xs : List X) → ((x : X) → Contains xs x → P x) → All P xs
all_of P xs h = All-weaker (Contains xs) P h xs (All-contains_itself xs)

bytes_gives : (bytes : List ℕ) → are_bytes bytes ≡ true → AreBytes bytes
bytes_gives bytes h = all_of (λ byte. byte < 256) bytes (λ x c. ltb-true x 256 (all_gives (λ byte. nat_lt byte 256) bytes h x c))

bytes_from : (bytes : List ℕ) → AreBytes bytes → are_bytes bytes ≡ true
bytes_from bytes all = all_from (λ byte. nat_lt byte 256) bytes (λ x c. lt-ltb x 256 (All-contains (λ byte. byte < 256) bytes x all c))

-- ---- attributes

attribute_gives : (name value : List ℕ) → keeps_attribute (name, value) ≡ true → IsNameBytes name × (1 ≤ length value) × (length value ≤ 1024) × AreBytes value
attribute_gives name value h =
    let one = and_parts (is_name name) (are_bytes name && (nat_le 1 (length value) && (nat_le (length value) 1024 && are_bytes value))) h in
    let two = and_parts (are_bytes name) (nat_le 1 (length value) && (nat_le (length value) 1024 && are_bytes value)) one.1 in
    let three = and_parts (nat_le 1 (length value)) (nat_le (length value) 1024 && are_bytes value) two.1 in
    let four = and_parts (nat_le (length value) 1024) (are_bytes value) three.1 in
    (((is_name_decides name).0 one.0, bytes_gives name two.0), leb-true 1 (length value) three.0, leb-true (length value) 1024 four.0, bytes_gives value four.1)

attribute_from : (name value : List ℕ) → IsNameBytes name × (1 ≤ length value) × (length value ≤ 1024) × AreBytes value → keeps_attribute (name, value) ≡ true
attribute_from name value (is, least, most, all) =
    and_from _ _ ((is_name_decides name).1 is.0) (and_from _ _ (bytes_from name is.1)
    (and_from _ _ (le-leb 1 (length value) least) (and_from _ _ (le-leb (length value) 1024 most) (bytes_from value all))))

pub attributes_give : (attributes : Attributes) → keep_attributes attributes ≡ true → KeepAttributeLimits attributes
attributes_give attributes h name value there =
    attribute_gives name value (all_gives keeps_attribute (entries attributes) h (name, value) (get_in nat_list_cmp_total bytes_one attributes name value there))

pub attributes_from : (attributes : Attributes) → KeepAttributeLimits attributes → keep_attributes attributes ≡ true
attributes_from attributes keep =
    all_from keeps_attribute (entries attributes)
    (λ entry c. attribute_from entry.0 entry.1 (keep entry.0 entry.1 (in_get nat_list_cmp_total bytes_one attributes entry.0 entry.1 c)))

-- ---- blocks

zeros_give : (bytes : List ℕ) (n at : ℕ) → list_all (nat_eq 0) (drop n bytes) ≡ true → n ≤ at → at < length bytes → slice_index bytes at ≡ 0
zeros_give [] n at h from below = absurd (omega arith)
zeros_give (byte ∷ bytes) zero zero h from below = sym (eqb-true 0 byte (and_parts (nat_eq 0 byte) (list_all (nat_eq 0) bytes) h).0)
zeros_give (byte ∷ bytes) zero (suc at) h from below = zeros_give bytes zero at (and_parts (nat_eq 0 byte) (list_all (nat_eq 0) bytes) h).1 (omega arith) (omega arith)
zeros_give (byte ∷ bytes) (suc n) zero h from below = absurd (omega arith)
zeros_give (byte ∷ bytes) (suc n) (suc at) h from below = zeros_give bytes n at h (omega arith) (omega arith)

zeros_from : (bytes : List ℕ) (n : ℕ) → ((at : ℕ) → n ≤ at → at < length bytes → slice_index bytes at ≡ 0) → list_all (nat_eq 0) (drop n bytes) ≡ true
zeros_from [] zero zeros = refl
zeros_from [] (suc n) zeros = refl
zeros_from (byte ∷ bytes) zero zeros =
    and_from (nat_eq 0 byte) (list_all (nat_eq 0) bytes) (eq-eqb 0 byte (sym (zeros 0 (omega arith) (omega arith))))
    (zeros_from bytes zero (λ at from below. zeros (suc at) (omega arith) (omega arith)))
zeros_from (byte ∷ bytes) (suc n) zeros = zeros_from bytes n (λ at from below. zeros (suc at) (omega arith) (omega arith))

block_gives : (size number : ℕ) (bytes : List ℕ) → keeps_block size (number, bytes) ≡ true → KeepsBlockLimits size number bytes
block_gives size number bytes h =
    let one = and_parts (nat_lt (number * block_bytes) size) (nat_eq (length bytes) block_bytes && (are_bytes bytes && list_all (nat_eq 0) (drop (size - number * block_bytes) bytes))) h in
    let two = and_parts (nat_eq (length bytes) block_bytes) (are_bytes bytes && list_all (nat_eq 0) (drop (size - number * block_bytes) bytes)) one.1 in
    let three = and_parts (are_bytes bytes) (list_all (nat_eq 0) (drop (size - number * block_bytes) bytes)) two.1 in
    let whole : length bytes ≡ block_bytes = eqb-true (length bytes) block_bytes two.0 in
    record {
      begins_below_size = ltb-true (number * block_bytes) size one.0;
      whole = whole;
      are_bytes = bytes_gives bytes three.0;
      zeros_past_size = λ at below past. zeros_give bytes (size - number * block_bytes) at three.1 (omega arith) (omega arith);
    }

block_from : (size number : ℕ) (bytes : List ℕ) → KeepsBlockLimits size number bytes → keeps_block size (number, bytes) ≡ true
block_from size number bytes keeps =
    let below = keeps.begins_below_size in
    let whole = keeps.whole in
    and_from _ _ (lt-ltb (number * block_bytes) size below) (and_from _ _ (eq-eqb (length bytes) block_bytes whole)
    (and_from _ _ (bytes_from bytes keeps.are_bytes)
    (zeros_from bytes (size - number * block_bytes) (λ at from under. keeps.zeros_past_size at (omega arith) (omega arith)))))

blocks_give : (size : ℕ) (blocks : Blocks) → list_all (keeps_block size) (entries blocks) ≡ true → (number : ℕ) (bytes : List ℕ) → get blocks number ≡ Some bytes → KeepsBlockLimits size number bytes
blocks_give size blocks h number bytes there =
    block_gives size number bytes (all_gives (keeps_block size) (entries blocks) h (number, bytes) (get_in nat_cmp_total nat_cmp-IsAntisymmetric blocks number bytes there))

blocks_from : (size : ℕ) (blocks : Blocks) → ((number : ℕ) (bytes : List ℕ) → get blocks number ≡ Some bytes → KeepsBlockLimits size number bytes) → list_all (keeps_block size) (entries blocks) ≡ true
blocks_from size blocks keep =
    all_from (keeps_block size) (entries blocks)
    (λ entry c. block_from size entry.0 entry.1 (keep entry.0 entry.1 (in_get nat_cmp_total nat_cmp-IsAntisymmetric blocks entry.0 entry.1 c)))

-- ---- whole inodes

pub limits_give : (whole : WholeInode) → keeps_limits whole ≡ true → KeepsWholeLimits whole
limits_give (WholeFile changes) h =
    let one = and_parts (keep_attributes changes.attributes) (nat_le changes.size most_file_bytes && list_all (keeps_block changes.size) (entries changes.blocks)) h in
    let two = and_parts (nat_le changes.size most_file_bytes) (list_all (keeps_block changes.size) (entries changes.blocks)) one.1 in
    (attributes_give changes.attributes one.0, record { size = leb-true changes.size most_file_bytes two.0; blocks = blocks_give changes.size changes.blocks two.1 })
limits_give (WholeDir dir) h = attributes_give dir.attributes h
limits_give (WholeLink link) h =
    let one = and_parts (keep_attributes link.attributes) (nat_le 1 (length link.target) && (nat_le (length link.target) 1023 && are_bytes link.target)) h in
    let two = and_parts (nat_le 1 (length link.target)) (nat_le (length link.target) 1023 && are_bytes link.target) one.1 in
    let three = and_parts (nat_le (length link.target) 1023) (are_bytes link.target) two.1 in
    (attributes_give link.attributes one.0, record { at_least_one = leb-true 1 (length link.target) two.0; at_most_1023 = leb-true (length link.target) 1023 three.0; are_bytes = bytes_gives link.target three.1 })

pub limits_from : (whole : WholeInode) → KeepsWholeLimits whole → keeps_limits whole ≡ true
limits_from (WholeFile changes) (attributes, keeps) =
    and_from _ _ (attributes_from changes.attributes attributes)
    (and_from _ _ (le-leb changes.size most_file_bytes keeps.size) (blocks_from changes.size changes.blocks keeps.blocks))
limits_from (WholeDir dir) keeps = attributes_from dir.attributes keeps
limits_from (WholeLink link) (attributes, keeps) =
    and_from _ _ (attributes_from link.attributes attributes)
    (and_from _ _ (le-leb 1 (length link.target) keeps.at_least_one)
    (and_from _ _ (le-leb (length link.target) 1023 keeps.at_most_1023) (bytes_from link.target keeps.are_bytes)))
