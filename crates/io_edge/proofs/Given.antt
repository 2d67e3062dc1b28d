-- What a source has given, piece behind piece.
use Rattle.std.proofs.Common.{◌≡◌, ◌≤◌, ◌+◌, ◌++◌, [], ℕ, List, length, take, Option, Some, None, Result, Ok, Err, refl, sym, ap, ◌∙◌, append_assoc, length-append, arith}
use Rattle.std.proofs.lemmas.List.{length-take}
use Rattle.io_edge.specs.declared.reading.ReadFault.{ReadFault}
use Rattle.io_edge.specs.declared.reading.ReadFault.TheVariants.{Failed, OutOfMemory}
use Rattle.io_edge.specs.Reading.{HasGiven}
use Rattle.io_edge.specs.Edge.{Gives}

pub Gives-none : (left : Option (List ℕ)) → Gives left [] left
Gives-none None = tt
Gives-none (Some bytes) = refl

pub Gives-joins : (old mid new : Option (List ℕ)) (xs ys : List ℕ) → Gives old xs mid → Gives mid ys new → Gives old (xs ++ ys) new
Gives-joins None None None xs ys first second = tt
Gives-joins None None (Some new) xs ys first second = second
Gives-joins None (Some mid) new xs ys first second = absurd first
Gives-joins (Some old) None new xs ys first second = absurd first
Gives-joins (Some old) (Some mid) None xs ys first second = second
Gives-joins (Some old) (Some mid) (Some new) xs ys first second = first ∙ ap (λ (bytes : List ℕ). xs ++ bytes) second ∙ sym (append_assoc xs ys new)

-- how many bytes a failed reading tells
taken_of : {A : Type 0} → Result A ReadFault → ℕ
taken_of (Ok bytes) = 0
taken_of (Err (Failed taken)) = taken
taken_of (Err OutOfMemory) = 0

abbrev failed : (A : Type 0) → ℕ → Result A ReadFault
failed A taken = Err (Failed taken)

pub taken_same : (A : Type 0) (one two : ℕ) → failed A one ≡ failed A two → one ≡ two
unfolding taken_of
taken_same A one two same = ap taken_of same

-- one byte more than are read
pub one_more : (old mid new : Option (List ℕ)) (bytes part : List ℕ) (count : ℕ) → length bytes ≡ 16777216 → count ≤ 1 → (count ≡ 0 → ⊥) → length part ≡ 1 → Gives old bytes mid → Gives mid (take count part) new → HasGiven old (16777216 + 1) new
one_more old mid new bytes part count long few some one first second =
    let length_is : length (take count part) ≡ 1 = omega (arith, some, length-take count part) in
    (bytes ++ take count part, omega (arith, length-append bytes (take count part), length_is), Gives-joins old mid new bytes (take count part) first second)
