-- What a refusal names: the first faulty item, or the lowest objectid that breaks a rule.
use Rattle.std.proofs.Common.{◌≡◌, ◌≤◌, ◌++◌, ◌↔◌, ℕ, true, List, [], ◌∷◌, Contains, Option, Some, None, Result, Err, nat_lt, filter, map, flat_map, refl, sym, ap, subst, ◌∙◌, inl, inr, arith}
use Rattle.std.specs.List.{list_all}
use Rattle.std.proofs.lemmas.Bool.{and_parts, ltb-true}
use Rattle.std.proofs.lemmas.List.Elements.{Contains-append_cases}
use Rattle.blk_base.specs.declared.key.Key.{Key}
use Rattle.blk_base.specs.declared.fault.ItemFault.{ItemFault}
use Rattle.blk_base.specs.Leaf.{Item}
use Rattle.flat_model.specs.Names.{FlatName}
use Rattle.flat_model.specs.Volume.{Subvolume}
use Rattle.logged_volume.specs.Numbers.{is_number_set}
use Rattle.logged_volume.specs.FlatLog.{FlatLog}
use Rattle.logged_volume.specs.Replay.{names_left}
use Rattle.logged_volume.proofs.Members.{all_gives, is_set_number_set}
use Rattle.volume_image.specs.Subvolume.{Data}
use Rattle.volume_image.proofs.Lists.{in_nothing}
use Rattle.volume_image.proofs.Reaches.{head_in}
use Rattle.volume_image.proofs.Members.{in_map, in_filter}
use Rattle.log_image.specs.LogRules.{LogFault, FaultyItem, Unaccepted, LogRule, all_rules, first_fault, first_broken, after_items, accepted_log, broken_rules, objectids_left, objectids_in, log_of, does_break}
use Rattle.log_image.proofs.Sayings.{in_flat_map}
use Rattle.log_image.proofs.Broken.{broken_has}

fault_gives : (first : Option (Key × ItemFault)) (accepted : Result FlatLog LogFault) (key : Key) (fault : ItemFault) → ((accepted ≡ Err (FaultyItem key fault)) → ⊥)
    → after_items first accepted ≡ Err (FaultyItem key fault) → first ≡ Some (key, fault)
fault_gives None accepted key fault other h = absurd (other h)
fault_gives (Some found) accepted key fault other h =
    let same : FaultyItem found.0 found.1 ≡ FaultyItem key fault = cc in
    let key_is : found.0 ≡ key = cc in
    let fault_is : found.1 ≡ fault = cc in
    λ i. Some (key_is i, fault_is i)

no_item : (broken : List (ℕ × LogRule)) (log : FlatLog) (key : Key) (fault : ItemFault) → first_broken broken log ≡ Err (FaultyItem key fault) → ⊥
no_item [] log key fault h = cc
no_item (b ∷ broken) log key fault h = let wrong : Unaccepted b.0 ≡ FaultyItem key fault = cc in cc

pub fault_is_first : (committed : Subvolume) (items : List Item) (blocks : Data) (key : Key) (fault : ItemFault) → (accepted_log committed items blocks ≡ Err (FaultyItem key fault)) ↔ (first_fault items items ≡ Some (key, fault))
unfolding accepted_log
fault_is_first committed items blocks key fault = (
  fault_gives (first_fault items items) (first_broken (broken_rules committed items blocks) (log_of items blocks)) key fault (no_item (broken_rules committed items blocks) (log_of items blocks) key fault),
  λ h. ap (λ (f : Option (Key × ItemFault)). after_items f (first_broken (broken_rules committed items blocks) (log_of items blocks))) h,
)

-- ---- the lowest objectid

-- the first of a list is the one with which it begins
pub record BeginsWith (broken : List (ℕ × LogRule)) (ino : ℕ) : Type 0 where
  pub rule : LogRule
  pub others : List (ℕ × LogRule)
  pub is : broken ≡ (ino, rule) ∷ others

first_gives : (first : Option (Key × ItemFault)) (broken : List (ℕ × LogRule)) (log : FlatLog) (ino : ℕ) → after_items first (first_broken broken log) ≡ Err (Unaccepted ino) → BeginsWith broken ino
first_gives None [] log ino h = absurd cc
first_gives None (b ∷ broken) log ino h =
    let same : Unaccepted b.0 ≡ Unaccepted ino = cc in
    let ino_is : b.0 ≡ ino = cc in
    record { rule = b.1; others = broken; is = λ i. (ino_is i, b.1) ∷ broken }
first_gives (Some found) broken log ino h = let wrong : FaultyItem found.0 found.1 ≡ Unaccepted ino = cc in absurd cc

module _ (committed : Subvolume) (items : List Item) (blocks : Data) where
  abbrev breaks_at : ℕ → List (ℕ × LogRule)
  breaks_at ino = map (λ rule. (ino, rule)) (filter (does_break committed items blocks ino) all_rules)

  at_is : (ino : ℕ) (q : ℕ × LogRule) → Contains (breaks_at ino) q → (q.0 ≡ ino) × (does_break committed items blocks q.0 q.1 ≡ true)
  at_is ino q c =
      let found = in_map (λ (rule : LogRule). (ino, rule)) (filter (does_break committed items blocks ino) all_rules) q c in
      let kept = in_filter (does_break committed items blocks ino) all_rules found.0 found.1 in
      (ap (λ (p : ℕ × LogRule). p.0) (sym found.2), subst (λ (p : ℕ × LogRule). does_break committed items blocks p.0 p.1 ≡ true) found.2 kept.1)

  breaks_from : (inos : List ℕ) (q : ℕ × LogRule) → Contains (flat_map breaks_at inos) q → Contains inos q.0 × (does_break committed items blocks q.0 q.1 ≡ true)
  breaks_from inos q c =
      let found = in_flat_map breaks_at inos q c in
      let is = at_is found.0 q found.2 in
      (subst (λ (n : ℕ). Contains inos n) (sym is.0) found.1, is.1)

  lowest : (inos : List ℕ) → is_number_set inos ≡ true → (b : ℕ × LogRule) (others : List (ℕ × LogRule)) → flat_map breaks_at inos ≡ b ∷ others → (q : ℕ × LogRule) → Contains (flat_map breaks_at inos) q → b.0 ≤ q.0
  lowest [] set b others e q c = absurd (in_nothing q c)
  lowest (ino ∷ inos) set b others e q c =
      let parts = and_parts (list_all (nat_lt ino) inos) (is_number_set inos) set in
      go (breaks_at ino) refl (λ e d. lowest inos parts.1 b others e q d) parts.0
    where
      go : (here : List (ℕ × LogRule)) → breaks_at ino ≡ here → (flat_map breaks_at inos ≡ b ∷ others → Contains (flat_map breaks_at inos) q → b.0 ≤ q.0) → list_all (nat_lt ino) inos ≡ true → b.0 ≤ q.0
      go [] is later above =
          let same : breaks_at ino ++ flat_map breaks_at inos ≡ flat_map breaks_at inos = ap (λ (xs : List (ℕ × LogRule)). xs ++ flat_map breaks_at inos) is in
          later (sym same ∙ e) (subst (λ (xs : List (ℕ × LogRule)). Contains xs q) same c)
      go (p ∷ here) is later above =
          let same : breaks_at ino ++ flat_map breaks_at inos ≡ p ∷ (here ++ flat_map breaks_at inos) = ap (λ (xs : List (ℕ × LogRule)). xs ++ flat_map breaks_at inos) is in
          let heads : p ∷ (here ++ flat_map breaks_at inos) ≡ b ∷ others = sym same ∙ e in
          let first : p ≡ b = cc in
          let ino_is : b.0 ≡ ino = ap (λ (x : ℕ × LogRule). x.0) (sym first) ∙ (at_is ino p (subst (λ (xs : List (ℕ × LogRule)). Contains xs p) (sym is) (head_in p here))).0 in
          elim (Contains-append_cases (breaks_at ino) (flat_map breaks_at inos) q c) [
            | inl near ↦ let q_is = (at_is ino q near).0 in omega arith
            | inr far ↦ let below = ltb-true ino q.0 (all_gives (nat_lt ino) inos above q.0 (breaks_from inos q far).0) in omega arith
          ]

  pub broken_is_lowest : (ino : ℕ) → accepted_log committed items blocks ≡ Err (Unaccepted ino)
      → ((rule : LogRule) × (does_break committed items blocks ino rule ≡ true)) × ((other : ℕ) (rule : LogRule) → does_break committed items blocks other rule ≡ true → ino ≤ other)
  unfolding accepted_log broken_rules
  broken_is_lowest ino h =
      let begins = first_gives (first_fault items items) (broken_rules committed items blocks) (log_of items blocks) ino h in
      let all = objectids_left committed items blocks in
      let here : Contains (flat_map breaks_at all) (ino, begins.rule) = subst (λ (xs : List (ℕ × LogRule)). Contains xs (ino, begins.rule)) (sym begins.is) (head_in (ino, begins.rule) begins.others) in (
        (begins.rule, (breaks_from all (ino, begins.rule) here).1),
        λ other rule breaks. lowest all (is_set_number_set (objectids_in items ++ map (λ (name : FlatName). name.dir) (names_left committed (log_of items blocks)))) (ino, begins.rule) begins.others begins.is (other, rule) (broken_has committed items blocks other rule breaks),
      )
