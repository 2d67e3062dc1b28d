-- Far names of an inode: what the reader accepts is what the names spell.
use Rattle.std.proofs.Common.{◌≡◌, ℕ, ◌+◌, ◌<◌, ◌≤◌, ◌^◌, List, [], ◌++◌, length, drop, Some, Ok, refl, ap, sym, subst, ◌∙◌, arith, length-append}
use Rattle.blk_base.specs.Bytes.{IsBytes, field, bytes_at, number_bytes}
use Rattle.blk_base.specs.Name.{IsName, is_name}
use Rattle.blk_base.proofs.NameLemmas.{is_name_decides}
use Rattle.blk_base.specs.Entries.{ExtRefValue, IsExtRefs, extref_bytes, extref_from, extrefs_of}
use Rattle.item_laws.specs.Fields.{field-fits, front_none, front_bytes, front_field, front_all, Begins, begins_less, begins_drop, begins_length, begins_field, begins_bytes, length-bytes_at}
use Rattle.item_laws.specs.Readers.{entry_within-some, entry_within-room, extref_from-shortening}
use Rattle.item_laws.specs.Spelling.{IsSpelling, SpellsNamed, named_takes, named_again, all_from_test, test_from_all, all_weaker, all_both}

-- ---- one name

abbrev pub ExtRefFits : ExtRefValue → Type 0
ExtRefFits r = (r.parent < 2 ^ 64) × (r.index < 2 ^ 64) × (length r.name < 2 ^ 16)

abbrev name_count : List ℕ → ℕ
name_count bytes = field 2 bytes 16

abbrev extref_value : List ℕ → ExtRefValue
extref_value bytes = record { parent = field 8 bytes 0; index = field 8 bytes 8; name = bytes_at (field 2 bytes 16) bytes 18 }

extref_takes : (bytes : List ℕ) (r : ExtRefValue) (rest : List ℕ) → IsBytes bytes → extref_from bytes ≡ Some (r, rest) → (bytes ≡ extref_bytes r ++ rest) × ExtRefFits r
unfolding extref_from
extref_takes bytes r rest b e =
    let w = entry_within-some 18 name_count extref_value bytes r rest e in
    let n = field 2 bytes 16 in
    let room : 18 + n ≤ length bytes = w.room in
    let size : length (bytes_at n bytes 18) ≡ n = length-bytes_at n bytes 18 room in
    let parent = front_field 8 b (front_none bytes) (omega arith) in
    let index = front_field 8 b parent (omega arith) in
    let count = front_field 2 b index (omega arith) in
    let all = front_all (front_bytes n count room) in
    let value = extref_value bytes in
    let spelled : extref_bytes value ≡ number_bytes 8 (field 8 bytes 0) ++ number_bytes 8 (field 8 bytes 8) ++ number_bytes 2 n ++ bytes_at n bytes 18 =
    ap (λ (k : ℕ). number_bytes 8 (field 8 bytes 0) ++ number_bytes 8 (field 8 bytes 8) ++ number_bytes 2 k ++ bytes_at n bytes 18) size in
    let fits : ExtRefFits value = (field-fits 8 bytes 0 b, field-fits 8 bytes 8 b, subst (λ (k : ℕ). k < 2 ^ 16) (sym size) (field-fits 2 bytes 16 b)) in
    let whole : bytes ≡ extref_bytes value ++ drop (18 + n) bytes = all ∙ ap (λ (f : List ℕ). f ++ drop (18 + n) bytes) (sym spelled) in
    let behind : bytes ≡ extref_bytes value ++ rest = whole ∙ ap (λ (t : List ℕ). extref_bytes value ++ t) w.behind in
    (behind ∙ ap (λ (v : ExtRefValue). extref_bytes v ++ rest) w.is, subst ExtRefFits w.is fits)

extref_again : (r : ExtRefValue) (rest : List ℕ) → ExtRefFits r → extref_from (extref_bytes r ++ rest) ≡ Some (r, rest)
unfolding extref_from
extref_again r rest f =
    let bytes = extref_bytes r ++ rest in
    let parent_bytes = number_bytes 8 r.parent in
    let index_bytes = number_bytes 8 r.index in
    let count_bytes = number_bytes 2 (length r.name) in
    let whole : Begins bytes (parent_bytes ++ index_bytes ++ count_bytes ++ r.name) rest (18 + length r.name) = record { is = refl; size = length-append (parent_bytes ++ index_bytes ++ count_bytes) r.name } in
    let before_name = begins_less (parent_bytes ++ index_bytes ++ count_bytes) r.name 18 whole refl in
    let before_count = begins_less (parent_bytes ++ index_bytes) count_bytes 16 before_name refl in
    let before_index = begins_less parent_bytes index_bytes 8 before_count refl in
    let before_parent = begins_less [] parent_bytes 0 before_index refl in
    let parent : field 8 bytes 0 ≡ r.parent = begins_field 8 r.parent _ before_parent f.0 in
    let index : field 8 bytes 8 ≡ r.index = begins_field 8 r.index _ before_index f.1 in
    let count : field 2 bytes 16 ≡ length r.name = begins_field 2 (length r.name) _ before_count f.2 in
    let name : bytes_at (length r.name) bytes 18 ≡ r.name = begins_bytes (length r.name) r.name rest before_name refl in
    let size : length bytes ≡ 18 + length r.name + length rest = begins_length whole in
    let behind : drop (18 + length r.name) bytes ≡ rest = begins_drop whole in
    let room : 18 + name_count bytes ≤ length bytes = rw count (omega (arith, size)) in
    let value : extref_value bytes ≡ r = rw (parent, index, count, name) refl in
    let end : drop (18 + name_count bytes) bytes ≡ rest = rw count behind in
    entry_within-room 18 name_count extref_value bytes r rest room value end

pub extref_spelling : IsSpelling extref_from extref_bytes ExtRefFits
extref_spelling = record { short = extref_from-shortening; takes = extref_takes; again = extref_again }

-- ---- all names of an item

-- no name is longer than 255 bytes
pub name_short : (name : List ℕ) → IsName name → length name < 2 ^ 16
name_short name n = let most = n.most in omega arith

abbrev extrefs_named : List ℕ → List ExtRefValue → Type 0
extrefs_named bytes refs = SpellsNamed extref_bytes ExtRefFits (λ (r : ExtRefValue). is_name r.name) bytes refs

pub extrefs_from : (bytes : List ℕ) (refs : List ExtRefValue) → IsBytes bytes → extrefs_of bytes ≡ Ok refs → IsExtRefs bytes refs
unfolding extrefs_of
extrefs_from bytes refs b e =
    let n : extrefs_named bytes refs = named_takes extref_from extref_bytes ExtRefFits extref_spelling is_name (λ (r : ExtRefValue). r.name) bytes refs b e in
    record {
      some = n.some;
      spelled = n.spells.spelled;
      numbers = all_weaker ExtRefFits (λ (r : ExtRefValue). (r.parent < 2 ^ 64) × (r.index < 2 ^ 64)) (λ r f. (f.0, f.1)) refs n.spells.fit;
      names = all_from_test (λ (r : ExtRefValue). is_name r.name) (λ (r : ExtRefValue). IsName r.name) (λ r. is_name_decides r.name) refs n.all;
    }

pub extrefs_to : (bytes : List ℕ) (refs : List ExtRefValue) → IsExtRefs bytes refs → extrefs_of bytes ≡ Ok refs
unfolding extrefs_of
extrefs_to bytes refs h =
    let fit = all_both (λ (r : ExtRefValue). (r.parent < 2 ^ 64) × (r.index < 2 ^ 64)) (λ (r : ExtRefValue). IsName r.name) ExtRefFits (λ r i n. (i.0, i.1, name_short r.name n)) refs h.numbers h.names in
    let n : extrefs_named bytes refs = record {
      some = h.some;
      spells = record { spelled = h.spelled; fit = fit };
      all = test_from_all (λ (r : ExtRefValue). is_name r.name) (λ (r : ExtRefValue). IsName r.name) (λ r. is_name_decides r.name) refs h.names;
    } in
    named_again extref_from extref_bytes ExtRefFits extref_spelling is_name (λ (r : ExtRefValue). r.name) bytes refs n
