-- Runs of blocks that are cut, taken out and added: which contents they have then.
use Rattle.std.proofs.Common.{◌≡◌, ◌≢◌, ◌⊎◌, ◌≤◌, ◌<◌, ◌+◌, ◌-◌, ◌*◌, ◌&&◌, ℕ, Bool, true, false, List, Some, None, sym, ap, subst, ◌∙◌, arith, inl, inr, nat_lt}
use Rattle.std.specs.Prelude.{nat_le, if◌then◌else◌}
use Rattle.std.proofs.lemmas.Bool.{and_from, cases_Bool, cases_eq, cases_lt, eq-eqb, le-leb, lt-ltb, ne_eqb, true≢false}
use Rattle.std.proofs.lemmas.Bool.Decides.{nat_tests}
use Rattle.blk_base.specs.Leaf.{Item}
use Rattle.flat_model.proofs.Maps.{some_none}
use Rattle.volume_image.specs.Subvolume.{Data}
use Rattle.file_extents.specs.Extents.{AreHoles, AreRunsOf, Contents, HoldContents, IsCovered, IsOver, NoneOver, cleared, with_block, with_blocks}

-- one run is written in place of the one that begins where it does; every other one stays
pub record AreWritten (old new : ℕ → ℕ → ℕ → Type 0) (begin at count : ℕ) : Type 0 where
  pub here : new begin at count
  pub from : (b a c : ℕ) → new b a c → ((b ≡ begin) × (a ≡ at) × (c ≡ count)) ⊎ ((b ≢ begin) × old b a c)
  pub stays : (b a c : ℕ) → b ≢ begin → old b a c → new b a c

-- two runs that begin with one block are one
abbrev pub AreSole : (ℕ → ℕ → ℕ → Type 0) → Type 0
AreSole Runs = (b a c a' c' : ℕ) → Runs b a c → Runs b a' c' → (a ≡ a') × (c ≡ c')

-- each run has a block
abbrev pub HaveSome : (ℕ → ℕ → ℕ → Type 0) → Type 0
HaveSome Runs = (b a c : ℕ) → Runs b a c → 1 ≤ c

-- ---- a run that is cut

module _ (R0 R1 R2 : ℕ → ℕ → ℕ → Type 0) (blocks : Data) (number begin at count : ℕ) (over : IsOver R0 number begin at count)
    (one : AreWritten R0 R1 number (at + 4096 * (number - begin)) (count - (number - begin))) (two : AreWritten R1 R2 begin at (number - begin)) where
  data Piece (b a c : ℕ) : Type 0 where
    Front : (b ≡ begin) → (a ≡ at) → (c ≡ number - begin) → Piece b a c
    Back : (b ≡ number) → (a ≡ at + 4096 * (number - begin)) → (c ≡ count - (number - begin)) → Piece b a c
    Other : (b ≢ begin) → (b ≢ number) → R0 b a c → Piece b a c

  piece : (b a c : ℕ) → R2 b a c → Piece b a c
  piece b a c r = elim (two.from b a c r) [
    | inl e ↦ Front e.0 e.1 e.2
    | inr other ↦ elim (one.from b a c other.1) [
      | inl e ↦ Back e.0 e.1 e.2
      | inr more ↦ Other other.0 more.0 more.1
    ]
  ]

  back_stands : R2 number (at + 4096 * (number - begin)) (count - (number - begin))
  back_stands = two.stays number (at + 4096 * (number - begin)) (count - (number - begin)) (omega (arith, over.before)) one.here

  other_stands : (b a c : ℕ) → b ≢ begin → b ≢ number → R0 b a c → R2 b a c
  other_stands b a c x y r = two.stays b a c x (one.stays b a c y r)

  module _ (contents : Contents) (sole : AreSole R0) (are : AreRunsOf R0 blocks contents) where
    holds : (b a c i : ℕ) → Piece b a c → i < c → (block : List ℕ) × (blocks (a + 4096 * i) ≡ Some block) × (contents (b + i) ≡ Some block)
    holds b a c i (Front e f g) less =
        let h = are.holds begin at count i over.run (omega (arith, over.over, g, less)) in
        (h.0, ap blocks (omega (arith, f)) ∙ h.1, ap contents (omega (arith, e)) ∙ h.2)
    holds b a c i (Back e f g) less =
        let h = are.holds begin at count ((number - begin) + i) over.run (omega (arith, over.before, g, less)) in
        (h.0, ap blocks (omega (arith, f)) ∙ h.1, ap contents (omega (arith, e, over.before)) ∙ h.2)
    holds b a c i (Other x y r) less = are.holds b a c i r less

    covers : (n : ℕ) → IsCovered R0 n → IsCovered R2 n
    covers n cover = elim (cases_eq cover.begin begin) [
      | inl same ↦
          let count_is : cover.count ≡ count = (sole begin cover.at cover.count at count (subst (λ (b : ℕ). R0 b cover.at cover.count) same cover.run) over.run).1 in
          elim (cases_lt n number) [
            | inl less ↦ record { begin = begin; at = at; count = number - begin; run = two.here; from = omega (arith, same, cover.from); to = omega (arith, less, over.before) }
            | inr more ↦ record { begin = number; at = at + 4096 * (number - begin); count = count - (number - begin); run = back_stands; from = more; to = omega (arith, same, count_is, cover.to, over.before) }
          ]
      | inr other ↦ elim (cases_eq cover.begin number) [
        | inl same ↦
            let apart = are.apart begin at count cover.begin cover.at cover.count over.run cover.run (omega (arith, same, over.before)) in
            absurd (omega (arith, apart, over.over, same))
        | inr differs ↦ record { begin = cover.begin; at = cover.at; count = cover.count; run = other_stands cover.begin cover.at cover.count other differs cover.run; from = cover.from; to = cover.to }
      ]
    ]

    apart_pieces : (b a c b' a' c' : ℕ) → Piece b a c → Piece b' a' c' → b < b' → b + c ≤ b'
    apart_pieces b a c b' a' c' (Front e f g) (Front e' f' g') less = absurd (omega (arith, e, e', less))
    apart_pieces b a c b' a' c' (Front e f g) (Back e' f' g') less = omega (arith, e, g, e', over.before)
    apart_pieces b a c b' a' c' (Front e f g) (Other x' y' r') less =
        let apart = are.apart begin at count b' a' c' over.run r' (omega (arith, e, less)) in
        omega (arith, apart, e, g, over.over, over.before)
    apart_pieces b a c b' a' c' (Back e f g) (Front e' f' g') less = absurd (omega (arith, e, e', less, over.before))
    apart_pieces b a c b' a' c' (Back e f g) (Back e' f' g') less = absurd (omega (arith, e, e', less))
    apart_pieces b a c b' a' c' (Back e f g) (Other x' y' r') less =
        let apart = are.apart begin at count b' a' c' over.run r' (omega (arith, e, less, over.before)) in
        omega (arith, apart, e, g, over.over, over.before)
    apart_pieces b a c b' a' c' (Other x y r) (Front e' f' g') less =
        let apart = are.apart b a c begin at count r over.run (omega (arith, e', less)) in
        omega (arith, apart, e')
    apart_pieces b a c b' a' c' (Other x y r) (Back e' f' g') less = elim (cases_lt b begin) [
      | inl low ↦ let apart = are.apart b a c begin at count r over.run low in omega (arith, apart, e', over.before)
      | inr high ↦ let apart = are.apart begin at count b a c over.run r (omega (arith, high, x)) in absurd (omega (arith, apart, over.over, less, e'))
    ]
    apart_pieces b a c b' a' c' (Other x y r) (Other x' y' r') less = are.apart b a c b' a' c' r r' less

    pub cut_holds : AreRunsOf R2 blocks contents
    cut_holds = record {
      holds = λ b a c i r less. holds b a c i (piece b a c r) less;
      covered = λ n block h. covers n (are.covered n block h);
      apart = λ b a c b' a' c' r r' less. apart_pieces b a c b' a' c' (piece b a c r) (piece b' a' c' r') less;
    }

    none_piece : (b a c : ℕ) → Piece b a c → b < number → b + c ≤ number
    none_piece b a c (Front e f g) less = omega (arith, e, g, over.before)
    none_piece b a c (Back e f g) less = absurd (omega (arith, e, less))
    none_piece b a c (Other x y r) less = elim (cases_lt b begin) [
      | inl low ↦ let apart = are.apart b a c begin at count r over.run low in omega (arith, apart, over.before)
      | inr high ↦ let apart = are.apart begin at count b a c over.run r (omega (arith, high, x)) in absurd (omega (arith, apart, over.over, less))
    ]

    pub cut_none : NoneOver R2 number
    cut_none b a c r less = none_piece b a c (piece b a c r) less

  none_other : (other b a c : ℕ) → NoneOver R0 other → Piece b a c → b < other → b + c ≤ other
  none_other other b a c none (Front e f g) less =
      let h = none begin at count over.run (omega (arith, e, less)) in omega (arith, h, e, g, over.over, over.before)
  none_other other b a c none (Back e f g) less =
      let h = none begin at count over.run (omega (arith, e, less, over.before)) in omega (arith, h, e, g, over.over, over.before)
  none_other other b a c none (Other x y r) less = none b a c r less

  pub cut_others : (other : ℕ) → NoneOver R0 other → NoneOver R2 other
  cut_others other none b a c r less = none_other other b a c none (piece b a c r) less

-- ---- runs that go

pub outside : (from to n : ℕ) → (n < from) ⊎ (to ≤ n) → (nat_le from n && nat_lt n to) ≡ false
outside from to n h = grind (arith, nat_tests)

inside_test : (from to n : ℕ) → (nat_le from n && nat_lt n to) ≡ false → (n < from) ⊎ (to ≤ n)
inside_test from to n h = elim (cases_lt n from) [
  | inl low ↦ inl low
  | inr high ↦ elim (cases_lt n to) [
    | inl low ↦ absurd (true≢false (sym (and_from _ _ (le-leb from n high) (lt_test n to low)) ∙ h))
    | inr past ↦ inr past
  ]
]
  where
    lt_test : (a b : ℕ) → a < b → nat_lt a b ≡ true
    lt_test a b h = grind (arith, nat_tests)

pub cleared_out : (contents : Contents) (from to n : ℕ) → (n < from) ⊎ (to ≤ n) → cleared contents from to n ≡ contents n
cleared_out contents from to n h =
    ap (λ (b : Bool). if b then None else contents n) (outside from to n h)

record WasOutside (contents : Contents) (from to n : ℕ) (block : List ℕ) : Type 0 where
  out : (n < from) ⊎ (to ≤ n)
  was : contents n ≡ Some block

was_outside : (contents : Contents) (from to n : ℕ) (block : List ℕ) → cleared contents from to n ≡ Some block → WasOutside contents from to n block
was_outside contents from to n block h = elim (cases_Bool (nat_le from n && nat_lt n to)) [
  | inl inside ↦ absurd (some_none block (sym h ∙ ap (λ (b : Bool). if b then None else contents n) inside))
  | inr outside ↦ record { out = inside_test from to n outside; was = sym (ap (λ (b : Bool). if b then None else contents n) outside) ∙ h }
]

module _ (R0 R2 : ℕ → ℕ → ℕ → Type 0) (was is : Data) (contents : Contents) (from to : ℕ) (are : AreRunsOf R0 was contents) (none_from : NoneOver R0 from) (none_to : NoneOver R0 to)
    (comes : (b a c : ℕ) → R2 b a c → R0 b a c × ((b < from) ⊎ (to ≤ b))) (stays : (b a c : ℕ) → R0 b a c → (b < from) ⊎ (to ≤ b) → R2 b a c)
    (same : (b a c i : ℕ) → R2 b a c → i < c → is (a + 4096 * i) ≡ was (a + 4096 * i)) where
  block_out : (b a c i : ℕ) → R0 b a c → (b < from) ⊎ (to ≤ b) → i < c → (b + i < from) ⊎ (to ≤ b + i)
  block_out b a c i r (inl low) less = let h = none_from b a c r low in inl (omega (arith, h, less))
  block_out b a c i r (inr high) less = inr (omega (arith, high))

  holds_left : (b a c i : ℕ) → R2 b a c → i < c → (block : List ℕ) × (is (a + 4096 * i) ≡ Some block) × (cleared contents from to (b + i) ≡ Some block)
  holds_left b a c i r less =
      let old = comes b a c r in
      let h = are.holds b a c i old.0 less in
      (h.0, same b a c i r less ∙ h.1, cleared_out contents from to (b + i) (block_out b a c i old.0 old.1 less) ∙ h.2)

  cover_left : (n : ℕ) → (n < from) ⊎ (to ≤ n) → IsCovered R0 n → IsCovered R2 n
  cover_left n out cover = elim (cases_lt cover.begin from) [
    | inl low ↦ record { begin = cover.begin; at = cover.at; count = cover.count; run = stays cover.begin cover.at cover.count cover.run (inl low); from = cover.from; to = cover.to }
    | inr high ↦ elim (cases_lt cover.begin to) [
      | inl inside ↦
          let ends = none_to cover.begin cover.at cover.count cover.run inside in
          absurd (elim out [ inl a ↦ omega (arith, a, high, cover.from) | inr b ↦ omega (arith, b, ends, cover.to) ])
      | inr past ↦ record { begin = cover.begin; at = cover.at; count = cover.count; run = stays cover.begin cover.at cover.count cover.run (inr past); from = cover.from; to = cover.to }
    ]
  ]

  pub clear_holds : AreRunsOf R2 is (cleared contents from to)
  clear_holds = record {
    holds = holds_left;
    covered = λ n block h. let w = was_outside contents from to n block h in cover_left n w.out (are.covered n block w.was);
    apart = λ b a c b' a' c' r r' less. are.apart b a c b' a' c' (comes b a c r).0 (comes b' a' c' r').0 less;
  }

-- ---- blocks put among contents

pub with_here : (contents : Contents) (place n : ℕ) (bytes : List ℕ) → n ≡ place → with_block contents place bytes n ≡ Some bytes
with_here contents place n bytes e = ap (λ (b : Bool). if b then Some bytes else contents n) (eq-eqb n place e)

pub with_other : (contents : Contents) (place n : ℕ) (bytes : List ℕ) → n ≢ place → with_block contents place bytes n ≡ contents n
with_other contents place n bytes e = ap (λ (b : Bool). if b then Some bytes else contents n) (ne_eqb n place e)

pub inside : (from to k : ℕ) → from ≤ k → k < to → (nat_le from k && nat_lt k to) ≡ true
inside from to k low high = and_from (nat_le from k) (nat_lt k to) (le-leb from k low) (lt-ltb k to high)

module _ (contents : Contents) (blocks : ℕ → List ℕ) where
  pub with_in : (from to k : ℕ) → from ≤ k → k < to → with_blocks contents blocks from to k ≡ Some (blocks k)
  with_in from to k low high = ap (λ (b : Bool). if b then Some (blocks k) else contents k) (inside from to k low high)

  pub with_out : (from to k : ℕ) → (k < from) ⊎ (to ≤ k) → with_blocks contents blocks from to k ≡ contents k
  with_out from to k h = ap (λ (b : Bool). if b then Some (blocks k) else contents k) (outside from to k h)

-- one block put is one of blocks put
pub with_one : (contents : Contents) (block : List ℕ) (number k : ℕ) → with_blocks contents (λ n. block) number (number + 1) k ≡ with_block contents number block k
with_one contents block number k = elim (cases_eq k number) [
  | inl same ↦ with_in contents (λ n. block) number (number + 1) k (omega (arith, same)) (omega (arith, same)) ∙ sym (with_here contents number k block same)
  | inr other ↦ with_out contents (λ n. block) number (number + 1) k (elim (cases_lt k number) [ inl low ↦ inl low | inr high ↦ inr (omega (arith, high, other)) ]) ∙ sym (with_other contents number k block other)
]

pub hole_one : (contents : Contents) (number : ℕ) → contents number ≡ None → AreHoles contents number (number + 1)
hole_one contents number none n low high = ap contents (omega (arith, low, high)) ∙ none

-- the same contents by other words
pub hold_same : (items : List Item) (data_at : Data) (ino : ℕ) (one two : Contents) → ((k : ℕ) → one k ≡ two k) → HoldContents items data_at ino one → HoldContents items data_at ino two
hold_same items data_at ino one two same hold = record {
  each = hold.each;
  are = record {
    holds = λ b a c i r less. let h = hold.are.holds b a c i r less in (h.0, h.1, sym (same (b + i)) ∙ h.2);
    covered = λ number block has. hold.are.covered number block (same number ∙ has);
    apart = hold.are.apart;
  };
}

-- ---- a run that grows

module _ (R0 R2 : ℕ → ℕ → ℕ → Type 0) (was is : Data) (contents : Contents) (begin at count number k : ℕ) (blocks : ℕ → List ℕ) (sole : AreSole R0) (some : HaveSome R0) (are : AreRunsOf R0 was contents)
    (holes : AreHoles contents number (number + k)) (one : 1 ≤ k) (front : (count ≡ 0) ⊎ R0 begin at count) (follows : begin + count ≡ number) (written : AreWritten R0 R2 begin at (count + k))
    (new : (i : ℕ) → i < k → is (at + 4096 * (count + i)) ≡ Some (blocks (number + i))) (same : (b a c i : ℕ) → R0 b a c → i < c → is (a + 4096 * i) ≡ was (a + 4096 * i)) where
  no_hole : (n : ℕ) (block : List ℕ) → contents n ≡ Some block → (n < number) ⊎ (number + k ≤ n)
  no_hole n block h = elim (cases_lt n number) [
    | inl low ↦ inl low
    | inr high ↦ elim (cases_lt n (number + k)) [
      | inl within ↦ absurd (some_none block (sym h ∙ holes n high within))
      | inr past ↦ inr past
    ]
  ]

  -- a run that begins below their end ends in front of them
  none_has : (b a c : ℕ) → R0 b a c → b < number + k → b + c ≤ number
  none_has b a c r low = elim (cases_lt number (b + c)) [
    | inl inside ↦ elim (cases_lt b number) [
      | inl before ↦
          let h = are.holds b a c (number - b) r (omega (arith, before, inside)) in
          absurd (some_none h.0 (sym h.2 ∙ holes (b + (number - b)) (omega (arith, before)) (omega (arith, before, one))))
      | inr within ↦
          let h = are.holds b a c 0 r (some b a c r) in
          absurd (some_none h.0 (sym h.2 ∙ holes (b + 0) (omega (arith, within)) (omega (arith, low))))
    ]
    | inr past ↦ past
  ]

  was_there : 1 ≤ count → R0 begin at count
  was_there more = elim front [ inl none ↦ absurd (omega (arith, none, more)) | inr there ↦ there ]

  grown_at : (b a c i : ℕ) → (b ≡ begin) × (a ≡ at) × (c ≡ count + k) → i < c → (block : List ℕ) × (is (a + 4096 * i) ≡ Some block) × (with_blocks contents blocks number (number + k) (b + i) ≡ Some block)
  grown_at b a c i e less = elim (cases_lt i count) [
    | inl low ↦
        let r = was_there (omega (arith, low)) in
        let h = are.holds begin at count i r low in
        let place : b + i ≡ begin + i = omega (arith, e.0) in
        let address : a + 4096 * i ≡ at + 4096 * i = omega (arith, e.1) in
        (h.0, ap is address ∙ same begin at count i r low ∙ h.1, with_out contents blocks number (number + k) (b + i) (inl (omega (arith, place, follows, low))) ∙ ap contents place ∙ h.2)
    | inr high ↦
        let address : a + 4096 * i ≡ at + 4096 * (count + (i - count)) = omega (arith, e.1, high) in
        let place : number + (i - count) ≡ b + i = omega (arith, e.0, follows, high) in (
          blocks (b + i),
          ap is address ∙ new (i - count) (omega (arith, less, e.2, high)) ∙ ap (λ (n : ℕ). Some (blocks n)) place,
          with_in contents blocks number (number + k) (b + i) (omega (arith, place)) (omega (arith, place, less, e.2, high)),
        )
  ]

  other_at : (b a c i : ℕ) → R0 b a c → i < c → (block : List ℕ) × (is (a + 4096 * i) ≡ Some block) × (with_blocks contents blocks number (number + k) (b + i) ≡ Some block)
  other_at b a c i r less =
      let h = are.holds b a c i r less in
      (h.0, same b a c i r less ∙ h.1, with_out contents blocks number (number + k) (b + i) (no_hole (b + i) h.0 h.2) ∙ h.2)

  cover_old : (n : ℕ) → IsCovered R0 n → IsCovered R2 n
  cover_old n cover = elim (cases_eq cover.begin begin) [
    | inl same ↦ elim (cases_lt 0 count) [
      | inl more ↦
          let count_is : cover.count ≡ count = (sole begin cover.at cover.count at count (subst (λ (b : ℕ). R0 b cover.at cover.count) same cover.run) (was_there more)).1 in
          record { begin = begin; at = at; count = count + k; run = written.here; from = omega (arith, same, cover.from); to = omega (arith, same, count_is, cover.to) }
      | inr none ↦
          let past = none_has cover.begin cover.at cover.count cover.run (omega (arith, same, follows, one)) in
          absurd (omega (arith, past, same, follows, none, cover.from, cover.to))
    ]
    | inr differs ↦ record { begin = cover.begin; at = cover.at; count = cover.count; run = written.stays cover.begin cover.at cover.count differs cover.run; from = cover.from; to = cover.to }
  ]

  covered_now : (n : ℕ) (block : List ℕ) → with_blocks contents blocks number (number + k) n ≡ Some block → IsCovered R2 n
  covered_now n block h = elim (cases_lt n number) [
    | inl low ↦ cover_old n (are.covered n block (sym (with_out contents blocks number (number + k) n (inl low)) ∙ h))
    | inr high ↦ elim (cases_lt n (number + k)) [
      | inl within ↦ record { begin = begin; at = at; count = count + k; run = written.here; from = omega (arith, high, follows); to = omega (arith, within, follows) }
      | inr past ↦ cover_old n (are.covered n block (sym (with_out contents blocks number (number + k) n (inr past)) ∙ h))
    ]
  ]

  behind_new : (b a c : ℕ) → R0 b a c → begin < b → begin + (count + k) ≤ b
  behind_new b a c r less = elim (cases_lt b (number + k)) [
    | inl low ↦
        let ends = none_has b a c r low in
        let more = some b a c r in
        elim (cases_lt 0 count) [
          | inl there ↦ let apart = are.apart begin at count b a c (was_there there) r less in absurd (omega (arith, apart, ends, more, follows))
          | inr none ↦ absurd (omega (arith, none, less, ends, more, follows))
        ]
    | inr past ↦ omega (arith, past, follows)
  ]

  before_new : (b a c : ℕ) → R0 b a c → b < begin → b + c ≤ begin
  before_new b a c r less = elim (cases_lt 0 count) [
    | inl more ↦ are.apart b a c begin at count r (was_there more) less
    | inr none ↦ let h = none_has b a c r (omega (arith, less, follows)) in omega (arith, h, none, follows)
  ]

  pub grow_holds : AreRunsOf R2 is (with_blocks contents blocks number (number + k))
  grow_holds = record {
    holds = λ b a c i r less. elim (written.from b a c r) [ inl e ↦ grown_at b a c i e less | inr old ↦ other_at b a c i old.1 less ];
    covered = covered_now;
    apart = λ b a c b' a' c' r r' less. elim (written.from b a c r) [
      | inl e ↦ elim (written.from b' a' c' r') [
        | inl e' ↦ absurd (omega (arith, e.0, e'.0, less))
        | inr old' ↦ let h = behind_new b' a' c' old'.1 (omega (arith, e.0, less)) in omega (arith, h, e.0, e.2)
      ]
      | inr old ↦ elim (written.from b' a' c' r') [
        | inl e' ↦ let h = before_new b a c old.1 (omega (arith, e'.0, less)) in omega (arith, h, e'.0)
        | inr old' ↦ are.apart b a c b' a' c' old.1 old'.1 less
      ]
    ];
  }
