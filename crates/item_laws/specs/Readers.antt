-- The readers of one entry: a name of an inode, a far name, an entry of a directory.
use Rattle.std.proofs.Common.{◌≡◌, ℕ, ◌+◌, ◌<◌, ◌≤◌, Bool, true, false, cond, ltb, List, length, drop, Option, Some, None, refl, ap, arith, length-drop}
use Rattle.std.proofs.lemmas.Bool.{ltb-false, le-ltb}
use Rattle.std.proofs.lemmas.Option.{none-some, some_pair_parts}
use Rattle.blk_base.specs.Entries.{entry_within, ref_from, extref_from, entry_from}
use Rattle.item_laws.specs.Walk.{IsShortening}

-- an option behind a test that has to fail
guarded : {X : Type 0} (b : Bool) (o : Option X) (x : X) → cond b None o ≡ Some x → (b ≡ false) × (o ≡ Some x)
guarded true o x e = absurd (none-some x e)
guarded false o x e = (refl, e)

-- what an entry that was read says of the bytes
pub record IsEntryWithin {E : Type 0} (fixed more : ℕ) (value : E) (bytes : List ℕ) (entry : E) (rest : List ℕ) : Type 0 where
  pub room : fixed + more ≤ length bytes
  pub is : value ≡ entry
  pub behind : drop (fixed + more) bytes ≡ rest

pub entry_within-some : {E : Type 0} (fixed : ℕ) (more : List ℕ → ℕ) (value : List ℕ → E) (bytes : List ℕ) (entry : E) (rest : List ℕ)
    → entry_within fixed more value bytes ≡ Some (entry, rest) → IsEntryWithin fixed (more bytes) (value bytes) bytes entry rest
entry_within-some {E} fixed more value bytes entry rest e =
    let first = guarded (ltb (length bytes) fixed) _ (entry, rest) e in
    let second = guarded (ltb (length bytes) (fixed + more bytes)) _ (entry, rest) first.1 in
    let parts = some_pair_parts (value bytes) entry (drop (fixed + more bytes) bytes) rest second.1 in
    record { room = ltb-false (length bytes) (fixed + more bytes) second.0; is = parts.0; behind = parts.1 }

pub entry_within-shortening : {E : Type 0} (fixed : ℕ) (more : List ℕ → ℕ) (value : List ℕ → E) → 0 < fixed → IsShortening (entry_within fixed more value)
entry_within-shortening {E} fixed more value h = record {
  fewer = λ bytes entry rest e.
      let w = entry_within-some fixed more value bytes entry rest e in
      let size = length-drop (fixed + more bytes) bytes in
      let room : fixed + more bytes ≤ length bytes = w.room in
      let same : length (drop (fixed + more bytes) bytes) ≡ length rest = ap length w.behind in
      omega (arith, size, room, same);
}

pub ref_from-shortening : IsShortening ref_from
unfolding ref_from
ref_from-shortening = entry_within-shortening 10 _ _ (omega arith)

pub extref_from-shortening : IsShortening extref_from
unfolding extref_from
extref_from-shortening = entry_within-shortening 18 _ _ (omega arith)

pub entry_from-shortening : IsShortening entry_from
unfolding entry_from
entry_from-shortening = entry_within-shortening 30 _ _ (omega arith)

-- an entry that has its bytes is read
pub entry_within-room : {E : Type 0} (fixed : ℕ) (more : List ℕ → ℕ) (value : List ℕ → E) (bytes : List ℕ) (entry : E) (rest : List ℕ)
    → fixed + more bytes ≤ length bytes → value bytes ≡ entry → drop (fixed + more bytes) bytes ≡ rest → entry_within fixed more value bytes ≡ Some (entry, rest)
entry_within-room {E} fixed more value bytes entry rest h v b = rw (le-ltb (length bytes) fixed (omega arith), le-ltb (length bytes) (fixed + more bytes) h, v, b) refl
