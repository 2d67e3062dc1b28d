-- Names of an inode: what the readers accept is what the names spell.
use Rattle.std.proofs.Common.{◌≡◌, ⊎_elim, ℕ, ◌+◌, ◌<◌, ◌≤◌, ◌^◌, ◌&&◌, eqb, List, [], ◌++◌, length, drop, Some, Ok, refl, ap, sym, subst, ◌∙◌, arith, length-append}
use Rattle.std.specs.Bool.{Decides}
use Rattle.std.specs.Str.{bytes_eq}
use Rattle.std.proofs.lemmas.Bool.Decides.{Decides-and, Decides-or, Decides-eqb, Decides-like}
use Rattle.std.proofs.lemmas.Slice.Eq.{bytes_eq-Decides}
use Rattle.blk_base.specs.declared.key.Key.{Key}
use Rattle.blk_base.specs.Bytes.{IsBytes, field, bytes_at, number_bytes}
use Rattle.blk_base.specs.Keys.{inode_ref}
use Rattle.blk_base.specs.Name.{IsName, is_name}
use Rattle.blk_base.proofs.NameLemmas.{is_name_decides}
use Rattle.blk_base.specs.Entries.{RefValue, IsDotsPlace, is_dots_place, IsRefName, is_ref_name, dots, IsRefs, ref_bytes, ref_from, refs_of}
use Rattle.item_laws.specs.Fields.{field-fits, front_none, front_bytes, front_field, front_all, Begins, begins_less, begins_drop, begins_length, begins_field, begins_bytes, length-bytes_at}
use Rattle.item_laws.specs.Readers.{entry_within-some, entry_within-room, ref_from-shortening}
use Rattle.item_laws.specs.Spelling.{IsSpelling, SpellsNamed, named_takes, named_again, all_from_test, test_from_all, all_weaker, all_both}

-- ---- one name

abbrev pub RefFits : RefValue → Type 0
RefFits r = (r.index < 2 ^ 64) × (length r.name < 2 ^ 16)

abbrev name_count : List ℕ → ℕ
name_count bytes = field 2 bytes 8

abbrev ref_value : List ℕ → RefValue
ref_value bytes = record { index = field 8 bytes 0; name = bytes_at (field 2 bytes 8) bytes 10 }

ref_takes : (bytes : List ℕ) (r : RefValue) (rest : List ℕ) → IsBytes bytes → ref_from bytes ≡ Some (r, rest) → (bytes ≡ ref_bytes r ++ rest) × RefFits r
unfolding ref_from
ref_takes bytes r rest b e =
    let w = entry_within-some 10 name_count ref_value bytes r rest e in
    let n = field 2 bytes 8 in
    let room : 10 + n ≤ length bytes = w.room in
    let size : length (bytes_at n bytes 10) ≡ n = length-bytes_at n bytes 10 room in
    let index = front_field 8 b (front_none bytes) (omega arith) in
    let count = front_field 2 b index (omega arith) in
    let all = front_all (front_bytes n count room) in
    let value = ref_value bytes in
    let spelled : ref_bytes value ≡ number_bytes 8 (field 8 bytes 0) ++ number_bytes 2 n ++ bytes_at n bytes 10 =
    ap (λ (k : ℕ). number_bytes 8 (field 8 bytes 0) ++ number_bytes 2 k ++ bytes_at n bytes 10) size in
    let fits : RefFits value = (field-fits 8 bytes 0 b, subst (λ (k : ℕ). k < 2 ^ 16) (sym size) (field-fits 2 bytes 8 b)) in
    let whole : bytes ≡ ref_bytes value ++ drop (10 + n) bytes = all ∙ ap (λ (f : List ℕ). f ++ drop (10 + n) bytes) (sym spelled) in
    let behind : bytes ≡ ref_bytes value ++ rest = whole ∙ ap (λ (t : List ℕ). ref_bytes value ++ t) w.behind in
    (behind ∙ ap (λ (v : RefValue). ref_bytes v ++ rest) w.is, subst RefFits w.is fits)

ref_again : (r : RefValue) (rest : List ℕ) → RefFits r → ref_from (ref_bytes r ++ rest) ≡ Some (r, rest)
unfolding ref_from
ref_again r rest f =
    let bytes = ref_bytes r ++ rest in
    let index_bytes = number_bytes 8 r.index in
    let count_bytes = number_bytes 2 (length r.name) in
    let whole : Begins bytes (index_bytes ++ count_bytes ++ r.name) rest (10 + length r.name) = record { is = refl; size = length-append (index_bytes ++ count_bytes) r.name } in
    let before_name = begins_less (index_bytes ++ count_bytes) r.name 10 whole refl in
    let before_count = begins_less index_bytes count_bytes 8 before_name refl in
    let before_index = begins_less [] index_bytes 0 before_count refl in
    let index : field 8 bytes 0 ≡ r.index = begins_field 8 r.index _ before_index f.0 in
    let count : field 2 bytes 8 ≡ length r.name = begins_field 2 (length r.name) _ before_count f.1 in
    let name : bytes_at (length r.name) bytes 10 ≡ r.name = begins_bytes (length r.name) r.name rest before_name refl in
    let size : length bytes ≡ 10 + length r.name + length rest = begins_length whole in
    let behind : drop (10 + length r.name) bytes ≡ rest = begins_drop whole in
    let room : 10 + name_count bytes ≤ length bytes = rw count (omega (arith, size)) in
    let value : ref_value bytes ≡ r = rw (index, count, name) refl in
    let end : drop (10 + name_count bytes) bytes ≡ rest = rw count behind in
    entry_within-room 10 name_count ref_value bytes r rest room value end

pub ref_spelling : IsSpelling ref_from ref_bytes RefFits
ref_spelling = record { short = ref_from-shortening; takes = ref_takes; again = ref_again }

-- ---- all names of an item

dots_place_decides : (key : Key) → Decides (is_dots_place key) (IsDotsPlace key)
dots_place_decides key =
    Decides-like (is_dots_place key) (λ p. (p.0.0, p.0.1, p.1)) (λ p. ((p.0, p.1), p.2))
    (Decides-and (eqb key.objectid 256 && eqb key.kind inode_ref) (eqb key.offset 256)
    (Decides-and (eqb key.objectid 256) (eqb key.kind inode_ref) (Decides-eqb key.objectid 256) (Decides-eqb key.kind inode_ref)) (Decides-eqb key.offset 256))

pub ref_name_decides : (key : Key) (name : List ℕ) → Decides (is_ref_name key name) (IsRefName key name)
ref_name_decides key name =
    Decides-or (is_name name) (is_dots_place key && bytes_eq name dots) (is_name_decides name)
    (Decides-and (is_dots_place key) (bytes_eq name dots) (dots_place_decides key) (bytes_eq-Decides name dots))

-- no name is longer than 255 bytes
pub ref_name_short : (key : Key) (name : List ℕ) → IsRefName key name → length name < 2 ^ 16
ref_name_short key name h = ⊎_elim (λ (n : IsName name). let most = n.most in omega arith) (λ p. let size : length name ≡ 2 = ap length p.1 in omega arith) h

abbrev refs_named : Key → List ℕ → List RefValue → Type 0
refs_named key bytes refs = SpellsNamed ref_bytes RefFits (λ (r : RefValue). is_ref_name key r.name) bytes refs

pub refs_from : (key : Key) (bytes : List ℕ) (refs : List RefValue) → IsBytes bytes → refs_of key bytes ≡ Ok refs → IsRefs key bytes refs
unfolding refs_of
refs_from key bytes refs b e =
    let n : refs_named key bytes refs = named_takes ref_from ref_bytes RefFits ref_spelling (is_ref_name key) (λ (r : RefValue). r.name) bytes refs b e in
    record {
      some = n.some;
      spelled = n.spells.spelled;
      indexes = all_weaker RefFits (λ (r : RefValue). r.index < 2 ^ 64) (λ r f. f.0) refs n.spells.fit;
      names = all_from_test (λ (r : RefValue). is_ref_name key r.name) (λ (r : RefValue). IsRefName key r.name) (λ r. ref_name_decides key r.name) refs n.all;
    }

pub refs_to : (key : Key) (bytes : List ℕ) (refs : List RefValue) → IsRefs key bytes refs → refs_of key bytes ≡ Ok refs
unfolding refs_of
refs_to key bytes refs h =
    let fit = all_both (λ (r : RefValue). r.index < 2 ^ 64) (λ (r : RefValue). IsRefName key r.name) RefFits (λ r i n. (i, ref_name_short key r.name n)) refs h.indexes h.names in
    let n : refs_named key bytes refs = record {
      some = h.some;
      spells = record { spelled = h.spelled; fit = fit };
      all = test_from_all (λ (r : RefValue). is_ref_name key r.name) (λ (r : RefValue). IsRefName key r.name) (λ r. ref_name_decides key r.name) refs h.names;
    } in
    named_again ref_from ref_bytes RefFits ref_spelling (is_ref_name key) (λ (r : RefValue). r.name) bytes refs n
