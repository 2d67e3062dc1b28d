-- Answers of a test along a list: how many say yes, and how often they turn from one to the next.
use Rattle.std.proofs.Common.{◌≡◌, ◌≤◌, ◌<◌, ◌+◌, ◌*◌, ℕ, suc, Bool, true, false, List, [], ◌∷◌, ◌++◌, length, min, inl, inr, arith, length-append}
use Rattle.std.proofs.Math.Nat.{mul-le-mul_left, suc-mul}
use Rattle.std.specs.Prelude.{All}
use Rattle.std.specs.List.{flat_map, sum_by}
use Rattle.std.proofs.lemmas.Bool.{cases_lt}
use Rattle.std.proofs.lemmas.List.Elements.{All-head, All-tail}
use Rattle.std.proofs.lemmas.List.Sums.{sum_by-cons}

-- how many say yes
abbrev pub yes : List Bool → ℕ
yes [] = 0
yes (true ∷ answers) = 1 + yes answers
yes (false ∷ answers) = yes answers

-- how often they turn, where this is the answer in front of them
abbrev pub turns_from : Bool → List Bool → ℕ
turns_from before [] = 0
turns_from true (true ∷ answers) = turns_from true answers
turns_from true (false ∷ answers) = 1 + turns_from false answers
turns_from false (true ∷ answers) = 1 + turns_from true answers
turns_from false (false ∷ answers) = turns_from false answers

abbrev pub turns : List Bool → ℕ
turns [] = 0
turns (answer ∷ answers) = turns_from answer answers

pub yes_append : (xs ys : List Bool) → yes (xs ++ ys) ≡ yes xs + yes ys
yes_append [] ys = omega arith
yes_append (true ∷ xs) ys = omega (arith, yes_append xs ys)
yes_append (false ∷ xs) ys = yes_append xs ys

yes_most : (xs : List Bool) → yes xs ≤ length xs
yes_most [] = omega arith
yes_most (true ∷ xs) = omega (arith, yes_most xs)
yes_most (false ∷ xs) = omega (arith, yes_most xs)

turns_behind : (before : Bool) (xs : List Bool) → turns xs ≤ turns_from before xs
turns_behind before [] = omega arith
turns_behind true (true ∷ xs) = omega arith
turns_behind true (false ∷ xs) = omega arith
turns_behind false (true ∷ xs) = omega arith
turns_behind false (false ∷ xs) = omega arith

turns_from_append : (before : Bool) (xs ys : List Bool) → turns_from before xs + turns ys ≤ turns_from before (xs ++ ys)
turns_from_append before [] ys = omega (arith, turns_behind before ys)
turns_from_append true (true ∷ xs) ys = turns_from_append true xs ys
turns_from_append true (false ∷ xs) ys = omega (arith, turns_from_append false xs ys)
turns_from_append false (true ∷ xs) ys = omega (arith, turns_from_append true xs ys)
turns_from_append false (false ∷ xs) ys = turns_from_append false xs ys

pub turns_append : (xs ys : List Bool) → turns xs + turns ys ≤ turns (xs ++ ys)
turns_append [] ys = omega arith
turns_append (x ∷ xs) ys = turns_from_append x xs ys

-- where they don't turn, they stay
all_yes : (xs : List Bool) → turns_from true xs < 1 → length xs ≤ yes xs
all_yes [] h = omega arith
all_yes (true ∷ xs) h = omega (arith, all_yes xs h)
all_yes (false ∷ xs) h = absurd (omega arith)

all_no : (xs : List Bool) → turns_from false xs < 1 → yes xs < 1
all_no [] h = omega arith
all_no (true ∷ xs) h = absurd (omega arith)
all_no (false ∷ xs) h = all_no xs h

-- where some say yes and some say no, they turn
pub turns_once : (xs : List Bool) → turns xs < 1 → 0 < yes xs → length xs ≤ yes xs
turns_once [] h some = omega arith
turns_once (true ∷ xs) h some = omega (arith, all_yes xs h)
turns_once (false ∷ xs) h some = absurd (omega (arith, all_no xs h))

-- ---- parts of a list, each with a number

-- the number, and 1 where some answer of a part is yes, is at most how many say yes, and so often how often they turn
pub record IsFew (often number : ℕ) (answers : List Bool) : Type 0 where
  pub few : number + min (yes answers) 1 ≤ yes answers + often * turns answers

-- the sums over parts of a list
pub record AreFew {X : Type 0} (often : ℕ) (number : X → ℕ) (part : X → List Bool) (xs : List X) : Type 0 where
  pub few : sum_by number xs + sum_by (λ x. min (yes (part x)) 1) xs ≤ yes (flat_map part xs) + often * turns (flat_map part xs)
  pub some : min (yes (flat_map part xs)) 1 ≤ sum_by (λ x. min (yes (part x)) 1) xs
  pub long : yes (flat_map part xs) + length xs ≤ length (flat_map part xs) + sum_by (λ x. min (yes (part x)) 1) xs

-- each part has an answer, and few of the number
abbrev pub IsFewPart : {X : Type 0} → ℕ → (X → ℕ) → (X → List Bool) → X → Type 0
IsFewPart often number part x = IsFew often (number x) (part x) × (0 < length (part x))

pub are_few : {X : Type 0} (often : ℕ) (number : X → ℕ) (part : X → List Bool) (xs : List X) → All (IsFewPart often number part) xs → AreFew often number part xs
are_few often number part [] h = record { few = omega arith; some = omega arith; long = omega arith }
are_few {X} often number part (x ∷ xs) h =
    let here : IsFewPart often number part x = All-head (IsFewPart often number part) x xs h in
    let rest : AreFew often number part xs = are_few often number part xs (All-tail (IsFewPart often number part) x xs h) in
    let mine = part x in
    let others = flat_map part xs in
    let product : often * (turns mine + turns others) ≤ often * turns (mine ++ others) = mul-le-mul_left often (turns_append mine others) in
    let numbers = sum_by-cons number x xs in
    let hits = sum_by-cons (λ (y : X). min (yes (part y)) 1) x xs in
    let counted = yes_append mine others in
    record {
      few = omega (arith, here.0.few, rest.few);
      some = omega (arith, rest.some);
      long = omega (arith, rest.long, here.1, yes_most mine, length-append mine others);
    }

-- what stands above two parts at least has one more
pub few_above : {X : Type 0} (often one : ℕ) (number : X → ℕ) (part : X → List Bool) (xs : List X) → AreFew often number part xs → 2 ≤ length xs → one ≤ min (yes (flat_map part xs)) 1 → IsFew (suc often) (one + sum_by number xs) (flat_map part xs)
few_above {X} often one number part xs h two least =
    let answers = flat_map part xs in
    let one_more : suc often * turns answers ≡ often * turns answers + turns answers = suc-mul often (turns answers) in
    let numbers = h.few in
    record {
      few = elim (cases_lt (turns answers) 1) [
        | inl never ↦ elim (cases_lt 0 (yes answers)) [
          | inl some ↦ omega (arith, one_more, turns_once answers never some, h.some, h.long)
          | inr none ↦ omega (arith, one_more, h.some)
        ]
        | inr turned ↦ elim (cases_lt 0 (yes answers)) [
          | inl some ↦ omega (arith, one_more, h.some)
          | inr none ↦ omega (arith, one_more, h.some)
        ]
      ];
    }
