-- Entries read one behind the other: how the entries of an item follow from its first entry and the bytes behind it.
use Rattle.std.proofs.Common.{◌≡◌, ℕ, suc, zero, ◌<◌, ◌≤◌, List, [], ◌∷◌, length, Option, Some, None, true, false, eqb, refl, ap, sym, ◌∙◌, arith}
use Rattle.std.specs.Option.{option_and_then, option_map, is_some, unwrap_or}
use Rattle.std.proofs.lemmas.Bool.{false≢true, eqb-true, eqb-false}
use Rattle.std.proofs.lemmas.List.{nil_from_length}
use Rattle.blk_base.specs.Entries.{entries_within, all_entries}

-- each entry takes a byte at least
pub record IsShortening {E : Type 0} (read : List ℕ → Option (E × List ℕ)) : Type 0 where
  pub fewer : (bytes : List ℕ) (entry : E) (rest : List ℕ) → read bytes ≡ Some (entry, rest) → length rest < length bytes

-- an entry in front of those that were read behind it
abbrev pub with_first : {E : Type 0} → E → Option (List E) → Option (List E)
with_first {E} entry entries = option_map (λ (others : List E). entry ∷ others) entries

-- the entries by the first one
abbrev pub by_first : {E : Type 0} → (List ℕ → Option (E × List ℕ)) → (List ℕ → Option (List E)) → List ℕ → Option (List E)
by_first {E} read behind bytes = option_and_then (λ (x : E × List ℕ). with_first x.0 (behind x.1)) (read bytes)

option_and_then-same : {X Y : Type 0} (f g : X → Option Y) (o : Option X) → ((x : X) → o ≡ Some x → f x ≡ g x) → option_and_then f o ≡ option_and_then g o
option_and_then-same f g None h = refl
option_and_then-same f g (Some x) h = h x refl

module _ {E : Type 0} (read : List ℕ → Option (E × List ℕ)) (short : IsShortening read) where
  -- how many entries may come is of no weight, where it is no less than the number of bytes
  pub entries_within-enough : (m n : ℕ) (bytes : List ℕ) → length bytes ≤ m → length bytes ≤ n → entries_within read m bytes ≡ entries_within read n bytes
  entries_within-enough m n [] hm hn = refl
  entries_within-enough zero n (b ∷ bytes) hm hn = absurd (omega arith)
  entries_within-enough (suc m) zero (b ∷ bytes) hm hn = absurd (omega arith)
  entries_within-enough (suc m) (suc n) (b ∷ bytes) hm hn =
      option_and_then-same (λ (x : E × List ℕ). with_first x.0 (entries_within read m x.1)) (λ (x : E × List ℕ). with_first x.0 (entries_within read n x.1)) (read (b ∷ bytes))
      (λ x e. let h : length x.1 < suc (length bytes) = short.fewer (b ∷ bytes) x.0 x.1 e in
      ap (with_first x.0) (entries_within-enough m n x.1 (omega arith) (omega arith)))

  pub all_entries-none : all_entries read [] ≡ Some []
  unfolding all_entries
  all_entries-none = refl

  pub all_entries-some : (bytes : List ℕ) (entry : E) (rest : List ℕ) → read bytes ≡ Some (entry, rest) → all_entries read bytes ≡ with_first entry (all_entries read rest)
  unfolding all_entries
  all_entries-some [] entry rest e = let h = short.fewer [] entry rest e in absurd (omega (arith, h))
  all_entries-some (b ∷ bytes) entry rest e =
      let h = short.fewer (b ∷ bytes) entry rest e in
      ap (λ (o : Option (E × List ℕ)). option_and_then (λ (x : E × List ℕ). with_first x.0 (entries_within read (length bytes) x.1)) o) e
      ∙ ap (with_first entry) (entries_within-enough (length bytes) (length rest) rest (omega (arith, h)) (omega arith))

  pub all_entries-cut : (bytes : List ℕ) → 0 < length bytes → read bytes ≡ None → all_entries read bytes ≡ None
  unfolding all_entries
  all_entries-cut [] h e = absurd (omega arith)
  all_entries-cut (b ∷ bytes) h e = ap (λ (o : Option (E × List ℕ)). option_and_then (λ (x : E × List ℕ). with_first x.0 (entries_within read (length bytes) x.1)) o) e

with_first-is_some : {E : Type 0} (entry : E) (o : Option (List E)) → is_some (with_first entry o) ≡ is_some o
with_first-is_some entry None = refl
with_first-is_some entry (Some x) = refl

with_first-unwrap : {E : Type 0} (entry : E) (o : Option (List E)) → is_some o ≡ true → unwrap_or (with_first entry o) [] ≡ entry ∷ unwrap_or o []
with_first-unwrap entry None h = absurd (false≢true h)
with_first-unwrap entry (Some x) h = refl

-- what an entry that was read off the front leaves
pub record IsReadOff {E : Type 0} (read : List ℕ → Option (E × List ℕ)) (bytes : List ℕ) (entry : E) (rest : List ℕ) : Type 0 where
  pub fewer : length rest < length bytes
  pub whole : is_some (all_entries read rest) ≡ is_some (all_entries read bytes)
  pub entries : is_some (all_entries read bytes) ≡ true → unwrap_or (all_entries read bytes) [] ≡ entry ∷ unwrap_or (all_entries read rest) []

module _ {E : Type 0} (read : List ℕ → Option (E × List ℕ)) (short : IsShortening read) where
  pub read_off : (bytes : List ℕ) (entry : E) (rest : List ℕ) → read bytes ≡ Some (entry, rest) → IsReadOff read bytes entry rest
  read_off bytes entry rest e =
      let more = all_entries-some read short bytes entry rest e in
      let whole : is_some (all_entries read bytes) ≡ is_some (all_entries read rest) = ap is_some more ∙ with_first-is_some entry (all_entries read rest) in
      record {
        fewer = short.fewer bytes entry rest e;
        whole = sym whole;
        entries = λ h. ap (λ (o : Option (List E)). unwrap_or o []) more ∙ with_first-unwrap entry (all_entries read rest) (sym whole ∙ h);
      }

  -- where no entry stands at the front of whole entries there are none
  pub unwrap-none : (bytes : List ℕ) → read bytes ≡ None → is_some (all_entries read bytes) ≡ true → unwrap_or (all_entries read bytes) [] ≡ []
  unwrap-none [] e h = ap (λ (o : Option (List E)). unwrap_or o []) (all_entries-none read short)
  unwrap-none (b ∷ bytes) e h = absurd (false≢true (sym (ap is_some (all_entries-cut read short (b ∷ bytes) (omega arith) e)) ∙ h))

  -- where no entry stands at the front of some bytes they aren't whole entries
  pub is_some-cut : (bytes : List ℕ) → eqb (length bytes) 0 ≡ false → read bytes ≡ None → is_some (all_entries read bytes) ≡ false
  is_some-cut bytes h e = let some = eqb-false (length bytes) 0 h in ap is_some (all_entries-cut read short bytes (omega (arith, some)) e)

  -- no bytes are whole entries
  pub is_some-none : (bytes : List ℕ) → eqb (length bytes) 0 ≡ true → is_some (all_entries read bytes) ≡ true
  is_some-none bytes h = ap (λ (b : List ℕ). is_some (all_entries read b)) (nil_from_length bytes (eqb-true (length bytes) 0 h)) ∙ ap is_some (all_entries-none read short)
