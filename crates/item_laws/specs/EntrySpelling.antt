-- One entry of a directory, or an attribute: what the reader accepts is what the entry spells.
use Rattle.std.proofs.Common.{◌≡◌, ℕ, ◌+◌, ◌<◌, ◌≤◌, ◌^◌, List, [], ◌++◌, length, drop, Some, refl, ap, sym, subst, ◌∙◌, arith, add_assoc, length-append}
use Rattle.blk_base.specs.declared.key.Key.{Key}
use Rattle.blk_base.specs.Bytes.{IsBytes, field, bytes_at, number_bytes}
use Rattle.blk_base.specs.Keys.{KeyFits, key_at, key_bytes}
use Rattle.blk_base.specs.Entries.{EntryFits, EntryValue, entry_bytes, entry_from}
use Rattle.item_laws.specs.Fields.{field-fits, IsFront, front_none, front_bytes, front_field, front_all, Begins, begins_less, begins_drop, begins_length, begins_field, begins_bytes, length-bytes_at}
use Rattle.item_laws.specs.Readers.{entry_within-some, entry_within-room, entry_from-shortening}
use Rattle.item_laws.specs.Spelling.{IsSpelling}

-- an entry that has a spelling
pub record HasSpelling (e : EntryValue) : Type 0 where
  pub fields : EntryFits e
  pub kind : e.kind < 2 ^ 8
  pub name : length e.name < 2 ^ 16

abbrev value_count : List ℕ → ℕ
value_count bytes = field 2 bytes 25

abbrev name_count : List ℕ → ℕ
name_count bytes = field 2 bytes 27

abbrev more : List ℕ → ℕ
more bytes = field 2 bytes 27 + field 2 bytes 25

abbrev entry_value : List ℕ → EntryValue
entry_value bytes = record {
  target = key_at bytes 0;
  transid = field 8 bytes 17;
  kind = field 1 bytes 29;
  name = bytes_at (field 2 bytes 27) bytes 30;
  value = bytes_at (field 2 bytes 25) bytes (30 + field 2 bytes 27);
}

-- the fields before the name
abbrev head_bytes : Key → ℕ → ℕ → ℕ → ℕ → List ℕ
head_bytes target transid values names kind = key_bytes target ++ number_bytes 8 transid ++ number_bytes 2 values ++ number_bytes 2 names ++ number_bytes 1 kind

head_front : (bytes : List ℕ) → IsBytes bytes → 30 ≤ length bytes → IsFront bytes (head_bytes (key_at bytes 0) (field 8 bytes 17) (field 2 bytes 25) (field 2 bytes 27) (field 1 bytes 29)) 30
head_front bytes b h =
    let objectid = front_field 8 b (front_none bytes) (omega arith) in
    let kind = front_field 1 b objectid (omega arith) in
    let offset = front_field 8 b kind (omega arith) in
    let transid = front_field 8 b offset (omega arith) in
    let values = front_field 2 b transid (omega arith) in
    let names = front_field 2 b values (omega arith) in
    front_field 1 b names (omega arith)

entry_takes : (bytes : List ℕ) (e : EntryValue) (rest : List ℕ) → IsBytes bytes → entry_from bytes ≡ Some (e, rest) → (bytes ≡ entry_bytes e ++ rest) × HasSpelling e
unfolding entry_from
entry_takes bytes e rest b read =
    let w = entry_within-some 30 more entry_value bytes e rest read in
    let n = field 2 bytes 27 in
    let v = field 2 bytes 25 in
    let room : 30 + (n + v) ≤ length bytes = w.room in
    let head = head_front bytes b (omega arith) in
    let name_size : length (bytes_at n bytes 30) ≡ n = length-bytes_at n bytes 30 (omega arith) in
    let value_size : length (bytes_at v bytes (30 + n)) ≡ v = length-bytes_at v bytes (30 + n) (omega arith) in
    let all = front_all (front_bytes v (front_bytes n head (omega arith)) (omega arith)) in
    let value = entry_value bytes in
    let spelled : entry_bytes value ≡ head_bytes (key_at bytes 0) (field 8 bytes 17) v n (field 1 bytes 29) ++ bytes_at n bytes 30 ++ bytes_at v bytes (30 + n) =
    ap (λ (k : ℕ). head_bytes (key_at bytes 0) (field 8 bytes 17) k (length (bytes_at n bytes 30)) (field 1 bytes 29) ++ bytes_at n bytes 30 ++ bytes_at v bytes (30 + n)) value_size
    ∙ ap (λ (k : ℕ). head_bytes (key_at bytes 0) (field 8 bytes 17) v k (field 1 bytes 29) ++ bytes_at n bytes 30 ++ bytes_at v bytes (30 + n)) name_size in
    let key : KeyFits (key_at bytes 0) = record { objectid = field-fits 8 bytes 0 b; kind = field-fits 1 bytes 8 b; offset = field-fits 8 bytes 9 b } in
    let fields : EntryFits value = record { target = key; transid = field-fits 8 bytes 17 b; value = subst (λ (k : ℕ). k < 2 ^ 16) (sym value_size) (field-fits 2 bytes 25 b) } in
    let fits : HasSpelling value = record { fields = fields; kind = field-fits 1 bytes 29 b; name = subst (λ (k : ℕ). k < 2 ^ 16) (sym name_size) (field-fits 2 bytes 27 b) } in
    let end : drop (30 + n + v) bytes ≡ rest = ap (λ (k : ℕ). drop k bytes) (add_assoc 30 n v) ∙ w.behind in
    let behind : bytes ≡ entry_bytes value ++ rest = all ∙ ap (λ (f : List ℕ). f ++ drop (30 + n + v) bytes) (sym spelled) ∙ ap (λ (t : List ℕ). entry_bytes value ++ t) end in
    (behind ∙ ap (λ (x : EntryValue). entry_bytes x ++ rest) w.is, subst HasSpelling w.is fits)

-- the fields before the name are read back
record HeadReads (bytes : List ℕ) (e : EntryValue) : Type 0 where
  pub target : key_at bytes 0 ≡ e.target
  pub transid : field 8 bytes 17 ≡ e.transid
  pub values : field 2 bytes 25 ≡ length e.value
  pub names : field 2 bytes 27 ≡ length e.name
  pub kind : field 1 bytes 29 ≡ e.kind

head_reads : (bytes : List ℕ) (e : EntryValue) (rest : List ℕ) → HasSpelling e
    → Begins bytes (head_bytes e.target e.transid (length e.value) (length e.name) e.kind) rest 30 → HeadReads bytes e
head_reads bytes e rest f whole =
    let objectid_bytes = number_bytes 8 e.target.objectid in
    let type_bytes = number_bytes 1 e.target.kind in
    let offset_bytes = number_bytes 8 e.target.offset in
    let transid_bytes = number_bytes 8 e.transid in
    let values_bytes = number_bytes 2 (length e.value) in
    let names_bytes = number_bytes 2 (length e.name) in
    let kind_bytes = number_bytes 1 e.kind in
    let before_kind = begins_less (objectid_bytes ++ type_bytes ++ offset_bytes ++ transid_bytes ++ values_bytes ++ names_bytes) kind_bytes 29 whole refl in
    let before_names = begins_less (objectid_bytes ++ type_bytes ++ offset_bytes ++ transid_bytes ++ values_bytes) names_bytes 27 before_kind refl in
    let before_values = begins_less (objectid_bytes ++ type_bytes ++ offset_bytes ++ transid_bytes) values_bytes 25 before_names refl in
    let before_transid = begins_less (objectid_bytes ++ type_bytes ++ offset_bytes) transid_bytes 17 before_values refl in
    let before_offset = begins_less (objectid_bytes ++ type_bytes) offset_bytes 9 before_transid refl in
    let before_type = begins_less objectid_bytes type_bytes 8 before_offset refl in
    let before_objectid = begins_less [] objectid_bytes 0 before_type refl in
    let objectid : field 8 bytes 0 ≡ e.target.objectid = begins_field 8 e.target.objectid _ before_objectid f.fields.target.objectid in
    let type : field 1 bytes 8 ≡ e.target.kind = begins_field 1 e.target.kind _ before_type f.fields.target.kind in
    let offset : field 8 bytes 9 ≡ e.target.offset = begins_field 8 e.target.offset _ before_offset f.fields.target.offset in
    record {
      target = rw (objectid, type, offset) refl;
      transid = begins_field 8 e.transid _ before_transid f.fields.transid;
      values = begins_field 2 (length e.value) _ before_values f.fields.value;
      names = begins_field 2 (length e.name) _ before_names f.name;
      kind = begins_field 1 e.kind _ before_kind f.kind;
    }

entry_again : (e : EntryValue) (rest : List ℕ) → HasSpelling e → entry_from (entry_bytes e ++ rest) ≡ Some (e, rest)
unfolding entry_from
entry_again e rest f =
    let bytes = entry_bytes e ++ rest in
    let head = head_bytes e.target e.transid (length e.value) (length e.name) e.kind in
    let whole : Begins bytes (head ++ e.name ++ e.value) rest (30 + length e.name + length e.value) =
    record { is = refl; size = length-append (head ++ e.name) e.value ∙ ap (λ (k : ℕ). k + length e.value) (length-append head e.name) } in
    let before_value = begins_less (head ++ e.name) e.value (30 + length e.name) whole (length-append head e.name) in
    let before_name = begins_less head e.name 30 before_value refl in
    let reads = head_reads bytes e (e.name ++ (e.value ++ rest)) f before_name in
    let name : bytes_at (length e.name) bytes 30 ≡ e.name = begins_bytes (length e.name) e.name _ before_name refl in
    let value : bytes_at (length e.value) bytes (30 + length e.name) ≡ e.value = begins_bytes (length e.value) e.value rest before_value refl in
    let size : length bytes ≡ 30 + length e.name + length e.value + length rest = begins_length whole in
    let behind : drop (30 + length e.name + length e.value) bytes ≡ rest = begins_drop whole in
    let count : more bytes ≡ length e.name + length e.value = rw (reads.names, reads.values) refl in
    let room : 30 + more bytes ≤ length bytes = rw count (omega (arith, size)) in
    let same : entry_value bytes ≡ e = rw (reads.target, reads.transid, reads.kind, reads.names, reads.values, name, value) refl in
    let end : drop (30 + more bytes) bytes ≡ rest = ap (λ (k : ℕ). drop (30 + k) bytes) count ∙ ap (λ (k : ℕ). drop k bytes) (sym (add_assoc 30 (length e.name) (length e.value))) ∙ behind in
    entry_within-room 30 more entry_value bytes e rest room same end

pub entry_spelling : IsSpelling entry_from entry_bytes HasSpelling
entry_spelling = record { short = entry_from-shortening; takes = entry_takes; again = entry_again }
