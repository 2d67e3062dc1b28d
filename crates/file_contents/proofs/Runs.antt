-- Runs of a file's blocks: the last one in front of a block, and those that a block more makes.
use Rattle.std.proofs.Common.{◌≡◌, ◌≢◌, ◌↔◌, ◌≤◌, ◌<◌, ◌+◌, ◌-◌, ◌*◌, ℕ, List, Option, Some, None, max, min, refl, sym, ap, subst, ◌∙◌, arith, inl, inr}
use Rattle.std.specs.Option.{is_some}
use Rattle.std.proofs.lemmas.Bool.{cases_eq, cases_lt}
use Rattle.blk_base.specs.Leaf.{Item}
use Rattle.volume_image.specs.Subvolume.{Data}
use Rattle.flat_model.proofs.Maps.{some_none}
use Rattle.file_extents.specs.Extents.{Alone, Contents, HasRun, HoldContents, IsLastRun, Joins, Longer, NoneBegins, held_between}
use Rattle.file_extents.proofs.Items.{are_sole, have_some}
use Rattle.file_extents.proofs.Runs.{AreSole, HaveSome}
use Rattle.file_contents.specs.Joined.{AreJoined, IsInFront}
use Rattle.file_contents.proofs.Counting.{held_all, held_none, held_split}

module _ (items : List Item) (blocks : Data) (ino : ℕ) (contents : Contents) (hold : HoldContents items blocks ino contents) where
  abbrev Runs : ℕ → ℕ → ℕ → Type 0
  Runs = HasRun items ino

  -- behind the last run is a hole
  none_past : (end begin at count k : ℕ) → IsLastRun Runs (end - 1) begin at count → begin + count ≤ k → k < end → contents k ≡ None
  none_past end begin at count k last past low = by (contents k) refl
    where
      by : (o : Option (List ℕ)) → contents k ≡ o → o ≡ None
      by None h = refl
      by (Some block) h =
          let cover = hold.are.covered k block h in
          let up = last.last cover.begin cover.at cover.count cover.run (omega (arith, cover.from, low)) in
          absurd (elim (cases_eq cover.begin begin) [
            | inl same ↦
                let is = are_sole items ino begin cover.at cover.count at count (subst (λ (n : ℕ). Runs n cover.at cover.count) same cover.run) last.run in
                omega (arith, is.1, same, cover.to, past)
            | inr other ↦
                let apart = hold.are.apart cover.begin cover.at cover.count begin at count cover.run last.run (omega (arith, up, other)) in
                omega (arith, apart, cover.to, past)
          ])

  -- the blocks that the last run has
  pub held_step : (from end begin at count : ℕ) → from < end → IsLastRun Runs (end - 1) begin at count
      → held_between contents (max begin from) (end - max begin from) ≡ min (count - (max begin from - begin)) (end - max begin from)
  held_step from end begin at count less last =
      let low = max begin from in
      let n = min (count - (low - begin)) (end - low) in
      let split = held_split contents low n (end - low - n) in
      let whole : n + (end - low - n) ≡ end - low = omega arith in
      let sum = ap (held_between contents low) whole in
      let all = held_all contents n low (λ k above below.
      let block = hold.are.holds begin at count (k - begin) last.run (omega (arith, above, below)) in
      ap (λ (j : ℕ). is_some (contents j)) (omega (arith, above)) ∙ ap (λ (o : Option (List ℕ)). is_some o) block.2) in
      let none = held_none contents (end - low - n) (low + n) (λ k above below. none_past end begin at count k last (omega (arith, above, below)) (omega (arith, above, below))) in
      omega (arith, split, sum, all, none)

  pub none_held : (from end : ℕ) → from < end → NoneBegins Runs (end - 1) → held_between contents from (end - from) ≡ 0
  none_held from end less none = held_none contents (end - from) from (λ k above below. by k (omega (arith, below)) (contents k) refl)
    where
      by : (k : ℕ) → k < end → (o : Option (List ℕ)) → contents k ≡ o → o ≡ None
      by k low None h = refl
      by k low (Some block) h =
          let cover = hold.are.covered k block h in
          absurd (none cover.begin cover.at cover.count cover.run (omega (arith, cover.from, low)))

  -- no run begins with a hole
  pub none_at : (number at count : ℕ) → contents number ≡ None → Runs number at count → ⊥
  none_at number at count none run =
      let block = hold.are.holds number at count 0 run (have_some items ino number at count run) in
      some_none block.0 (sym block.2 ∙ ap contents (omega arith) ∙ none)

  pub in_front : (number begin at count : ℕ) → contents number ≡ None → IsLastRun Runs number begin at count → IsInFront Runs number begin at count
  in_front number begin at count none last = record {
    stands = inr last.run;
    ends = λ other place more r ends.
        let up = last.last other place more r (omega (arith, ends)) in
        elim (cases_eq other begin) [
          | inl same ↦
              let is = are_sole items ino begin place more at count (subst (λ (n : ℕ). Runs n place more) same r) last.run in
              (same, is.0, is.1)
          | inr differs ↦
              let apart = hold.are.apart other place more begin at count r last.run (omega (arith, up, differs)) in
              let here : begin ≡ number = omega (arith, apart, ends, last.before) in
              absurd (none_at number at count none (subst (λ (n : ℕ). Runs n at count) here last.run))
        ];
  }

  pub none_in_front : (number : ℕ) → NoneBegins Runs number → IsInFront Runs number 0 0 0
  none_in_front number none = record {
    stands = inl refl;
    ends = λ other place more r ends. absurd (none other place more r (omega (arith, ends)));
  }

-- ---- blocks more

module _ (was now : ℕ → ℕ → ℕ → Type 0) (from number begin at count place begin' at' one count' end : ℕ) (sole : AreSole now) (some_was : HaveSome was) (some_now : HaveSome now)
    (apart : (b x n b' y m : ℕ) → now b x n → now b' y m → b < b' → b + n ≤ b') (none : (x n : ℕ) → was number x n → ⊥)
    (here : now begin' at' count') (others : (b x n : ℕ) → b ≢ begin' → now b x n ↔ was b x n) (joins : Joins begin at count number place begin' at' one)
    (ends_is : begin' + count' ≡ end) (more : number < end) (front : IsInFront was number begin at count) where
  -- the run that the blocks are in begins with the first of them or in front of it
  begins_low : Joins begin at count number place begin' at' one → begin' ≤ number
  begins_low (Longer some few follows next same same_at longer) = omega (arith, same, follows)
  begins_low (Alone none_joins own own_at alone) = omega (arith, own)

  pub front_more : IsInFront now end begin' at' count'
  front_more = record {
    stands = inr here;
    ends = λ other x n r ends. elim (cases_eq other begin') [
      | inl same ↦
          let is = sole begin' x n at' count' (subst (λ (b : ℕ). now b x n) same r) here in
          (same, is.0, is.1)
      | inr differs ↦ absurd (elim (cases_lt other begin') [
        | inl less ↦ let h = apart other x n begin' at' count' r here less in omega (arith, h, ends, begins_low joins, more)
        | inr past ↦
            let h = apart begin' at' count' other x n here r (omega (arith, past, differs)) in
            let s = some_now other x n r in
            omega (arith, h, ends, ends_is, s)
      ])
    ];
  }

  -- a run that ends in front of them is an old one
  old_run : (b x n : ℕ) → now b x n → b + n ≤ number → was b x n
  old_run b x n r ends = (others b x n (λ same.
      let is = sole begin' x n at' count' (subst (λ (m : ℕ). now m x n) same r) here in
      absurd (omega (arith, is.1, same, ends_is, ends, more)))).0 r

  before_it : (b x n : ℕ) → b ≤ number → was b x n → b < number
  before_it b x n high r = elim (cases_eq b number) [
    | inl same ↦ absurd (none x n (subst (λ (m : ℕ). was m x n) same r))
    | inr other ↦ omega (arith, high, other)
  ]

  joined_by : AreJoined was from number → Joins begin at count number place begin' at' one → (b x n b2 x2 n2 : ℕ) → now b x n → now b2 x2 n2 → b + n ≡ b2 → from ≤ b2 → b2 ≤ number → x + 4096 * n ≡ x2 → 4096 ≤ n
  joined_by before (Longer some few follows next same same_at longer) b x n b2 x2 n2 r r2 ends low high on =
      let first = old_run b x n r (omega (arith, ends, high)) in
      elim (cases_eq b2 begin') [
        | inl is ↦ elim front.stands [
          | inl nothing ↦ absurd (omega (arith, nothing, some))
          | inr run ↦
              let told = sole begin' x2 n2 at' count' (subst (λ (m : ℕ). now m x2 n2) is r2) here in
              before b x n begin at count first run (omega (arith, ends, is, same)) (omega (arith, low, is, same)) (omega (arith, some, follows)) (omega (arith, on, told.0, same_at))
        ]
        | inr differs ↦
            let second = (others b2 x2 n2 differs).0 r2 in
            before b x n b2 x2 n2 first second ends low (before_it b2 x2 n2 high second) on
      ]
  joined_by before (Alone none_joins own own_at alone) b x n b2 x2 n2 r r2 ends low high on =
      let first = old_run b x n r (omega (arith, ends, high)) in
      elim (cases_eq b2 begin') [
        | inl is ↦
            let told = sole begin' x2 n2 at' count' (subst (λ (m : ℕ). now m x2 n2) is r2) here in
            let last = front.ends b x n first (omega (arith, ends, is, own)) in
            let some = some_was b x n first in
            let most = none_joins (omega (arith, some, last.2)) (omega (arith, last.0, last.2, ends, is, own)) (omega (arith, on, last.1, last.2, told.0, own_at)) in
            omega (arith, most, last.2)
        | inr differs ↦
            let second = (others b2 x2 n2 differs).0 r2 in
            before b x n b2 x2 n2 first second ends low (omega (arith, high, differs, own)) on
      ]

  pub joined_more : AreJoined was from number → AreJoined now from end
  joined_more before b x n b2 x2 n2 r r2 ends low high on = elim (cases_lt number b2) [
    | inl within ↦
        let h = apart begin' at' count' b2 x2 n2 here r2 (omega (arith, begins_low joins, within)) in
        absurd (omega (arith, h, ends_is, high))
    | inr first ↦ joined_by before joins b x n b2 x2 n2 r r2 ends low first on
  ]
