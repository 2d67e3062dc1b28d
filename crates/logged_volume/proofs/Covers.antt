-- Facts on ranges and entries of a log.
use Rattle.std.proofs.Common.{◌≡◌, ℕ, ◌≤◌, true, ◌&&◌, List, refl, sym, subst, ◌∙◌}
use Rattle.std.specs.Bool.{nat_eq, nat_le}
use Rattle.std.specs.Str.{bytes_eq}
use Rattle.std.specs.List.{Contains}
use Rattle.std.proofs.lemmas.Bool.{true≢false, and_parts, and_from, eqb-true, eq-eqb, leb-true, le-leb, not-true, not_from_false, false_from_ne_true}
use Rattle.flat_model.specs.Names.{FlatName}
use Rattle.flat_model.proofs.Ways.{same_bytes_eq, bytes_eq_same}
use Rattle.logged_volume.specs.FlatLog.{LogRange, LogEntry, FlatLog, is_covered, entry_of, has_entry, is_dropped}
use Rattle.logged_volume.proofs.Members.{any_from, any_gives}

-- the range covers the index of the directory
pub record Covers (range : LogRange) (dir index : ℕ) : Type 0 where
  pub dir_is : range.dir ≡ dir
  pub from : range.first ≤ index
  pub to : index ≤ range.last

pub covered_gives : (ranges : List LogRange) (dir index : ℕ) → is_covered ranges dir index ≡ true → (range : LogRange) × Contains ranges range × Covers range dir index
covered_gives ranges dir index t =
    let found = any_gives (λ (range : LogRange). nat_eq range.dir dir && (nat_le range.first index && nat_le index range.last)) ranges t in
    let parts = and_parts _ _ found.2 in
    let ends = and_parts _ _ parts.1 in
    (found.0, found.1, record { dir_is = eqb-true found.0.dir dir parts.0; from = leb-true found.0.first index ends.0; to = leb-true index found.0.last ends.1 })

pub covered_from : (ranges : List LogRange) (dir index : ℕ) (range : LogRange) → Contains ranges range → Covers range dir index → is_covered ranges dir index ≡ true
covered_from ranges dir index range c covers =
    any_from (λ (range : LogRange). nat_eq range.dir dir && (nat_le range.first index && nat_le index range.last)) ranges range c
    (and_from _ _ (eq-eqb range.dir dir covers.dir_is) (and_from _ _ (le-leb range.first index covers.from) (le-leb index range.last covers.to)))

pub entry_gives : (entries : List LogEntry) (name : FlatName) → has_entry entries name ≡ true → Contains entries (entry_of name)
entry_gives entries name t =
    let found = any_gives (λ (entry : LogEntry). nat_eq entry.dir name.dir && (nat_eq entry.index name.index && (bytes_eq entry.bytes name.bytes && nat_eq entry.ino name.ino))) entries t in
    let entry : LogEntry = found.0 in
    let one = and_parts _ _ found.2 in
    let two = and_parts _ _ one.1 in
    let three = and_parts _ _ two.1 in
    let dir_is = eqb-true entry.dir name.dir one.0 in
    let index_is = eqb-true entry.index name.index two.0 in
    let bytes_is = same_bytes_eq entry.bytes name.bytes three.0 in
    let ino_is = eqb-true entry.ino name.ino three.1 in
    let same : entry ≡ entry_of name = λ i. record { dir = dir_is i; index = index_is i; bytes = bytes_is i; ino = ino_is i } in
    subst (Contains entries) same found.1

pub entry_from : (entries : List LogEntry) (name : FlatName) → Contains entries (entry_of name) → has_entry entries name ≡ true
entry_from entries name c =
    any_from (λ (entry : LogEntry). nat_eq entry.dir name.dir && (nat_eq entry.index name.index && (bytes_eq entry.bytes name.bytes && nat_eq entry.ino name.ino))) entries (entry_of name) c
    (and_from _ _ (eq-eqb name.dir name.dir refl) (and_from _ _ (eq-eqb name.index name.index refl) (and_from _ _ (bytes_eq_same name.bytes name.bytes refl) (eq-eqb name.ino name.ino refl))))

pub dropped_gives : (log : FlatLog) (name : FlatName) → is_dropped log name ≡ true → ((range : LogRange) × Contains log.ranges range × Covers range name.dir name.index) × (Contains log.entries (entry_of name) → ⊥)
dropped_gives log name t =
    let parts = and_parts _ _ t in
    (covered_gives log.ranges name.dir name.index parts.0, λ c. true≢false (sym (entry_from log.entries name c) ∙ not-true _ parts.1))

pub dropped_from : (log : FlatLog) (name : FlatName) (range : LogRange) → Contains log.ranges range → Covers range name.dir name.index → (Contains log.entries (entry_of name) → ⊥) → is_dropped log name ≡ true
dropped_from log name range c covers none =
    and_from _ _ (covered_from log.ranges name.dir name.index range c covers)
    (not_from_false _ (false_from_ne_true _ (λ t. none (entry_gives log.entries name t))))
