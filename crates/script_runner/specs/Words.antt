-- Words of a command: decimal numbers and the text of a uuid.
use Rattle.std.specs.Prelude.{◌≡◌, ◌≢◌, ◌≤◌, ◌<◌, ◌+◌, ◌-◌, ◌*◌, ◌⊎◌, ℕ, List, [], ◌∷◌, length, All, slice_index}

-- a byte that is a decimal digit (own)
abbrev pub IsDigit : ℕ → Type 0
IsDigit byte = (48 ≤ byte) × (byte ≤ 57)

-- the number that these digits spell behind those that spell `front` (own)
abbrev pub number_behind : ℕ → List ℕ → ℕ
number_behind front [] = front
number_behind front (digit ∷ digits) = number_behind (10 * front + (digit - 48)) digits

-- The word is this number: decimal digits without a sign, and without a zero in front of others (own).
pub record IsNumber (word : List ℕ) (value : ℕ) : Type 0 where
  pub some : 1 ≤ length word
  pub digits : All IsDigit word
  pub shortest : (length word ≡ 1) ⊎ (48 < slice_index word 0)
  pub spells : number_behind 0 word ≡ value

-- a byte that is a hexadecimal digit of either case (own)
abbrev pub IsHexDigit : ℕ → Type 0
IsHexDigit byte = ((48 ≤ byte) × (byte ≤ 57)) ⊎ ((97 ≤ byte) × (byte ≤ 102)) ⊎ ((65 ≤ byte) × (byte ≤ 70))

-- The word is the text of a uuid: 36 bytes, a hyphen behind the 8th, 12th, 16th and 20th digit, and hexadecimal digits else (own).
pub record IsUuidText (word : List ℕ) : Type 0 where
  pub size : length word ≡ 36
  pub hyphens : All (λ place. slice_index word place ≡ 45) (8 ∷ 13 ∷ 18 ∷ 23 ∷ [])
  pub digits : (place : ℕ) → place < 36 → place ≢ 8 → place ≢ 13 → place ≢ 18 → place ≢ 23 → IsHexDigit (slice_index word place)
