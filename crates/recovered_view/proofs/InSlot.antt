-- What stands in a slot after replay.
use Rattle.std.proofs.Common.{◌≡◌, ◌⊎◌, ℕ, Bool, true, false, cond, not, ◌&&◌, List, Contains, Option, Some, None, refl, sym, ap, ◌∙◌, inl, inr}
use Rattle.std.specs.List.{find}
use Rattle.std.specs.Option.{option_map}
use Rattle.std.proofs.lemmas.Bool.{and_from, and_parts, not-true, not_from_false, true≢false}
use Rattle.std.proofs.lemmas.Option.{none-some}
use Rattle.block_table.specs.declared.tree.Tree.{Tree}
use Rattle.block_table.specs.Table.{Table}
use Rattle.flat_model.specs.Coherent.{IsCoherent}
use Rattle.flat_model.specs.Names.{FlatName, is_in_slot, name_in_slot}
use Rattle.flat_model.specs.Volume.{Subvolume}
use Rattle.flat_model.proofs.Ways.{find_none, find_some, is_in_slot_gives}
use Rattle.logged_volume.specs.FlatLog.{FlatLog, is_dropped, is_logged}
use Rattle.logged_volume.specs.Replay.{names_left, replay}
use Rattle.logged_volume.proofs.Replays.{left_cases, left_has, left_keeps, replay_names}
use Rattle.name_walk.specs.declared.found.Held.{Held}
use Rattle.name_walk.specs.Ends.{name_held}
use Rattle.current_view.specs.View.{seen}
use Rattle.recovered_view.specs.Kept.{is_kept, name_of_parts}
use Rattle.recovered_view.specs.Log.{IsRecovered, log_said, logged_names}
use Rattle.recovered_view.proofs.Led.{in_said, said_in}

-- whether two tests hold
abbrev pub both : {X : Type 0} → (X → Bool) → (X → Bool) → X → Bool
both p q x = p x && q x

abbrev pub ino_of : Option FlatName → Option ℕ
ino_of o = option_map (λ (n : FlatName). n.ino) o

-- ---- the first of a list for which two tests hold

pub narrowed_none : {X : Type 0} (p q : X → Bool) (xs : List X) → find p xs ≡ None → find (both p q) xs ≡ None
narrowed_none {X} p q xs none = go (find (both p q) xs) refl
  where
    go : (o : Option X) → find (both p q) xs ≡ o → find (both p q) xs ≡ None
    go None e = e
    go (Some x) e =
        let found = find_some (both p q) xs x e in
        absurd (true≢false (sym (and_parts (p x) (q x) found.1).0 ∙ find_none p xs none x found.0))

-- where the first test holds of one element alone
pub narrowed_some : {X : Type 0} (p q : X → Bool) (xs : List X) (x : X) → ((y : X) → Contains xs y → p y ≡ true → y ≡ x) → find p xs ≡ Some x → find (both p q) xs ≡ cond (q x) (Some x) None
narrowed_some {X} p q xs x alone found = go (find (both p q) xs) refl (q x) refl
  where
    go : (o : Option X) → find (both p q) xs ≡ o → (b : Bool) → q x ≡ b → find (both p q) xs ≡ cond (q x) (Some x) None
    go None e false f = e ∙ sym (ap (λ (b : Bool). cond b (Some x) None) f)
    go None e true f =
        let there = find_some p xs x found in
        absurd (true≢false (sym (and_from (p x) (q x) there.1 f) ∙ find_none (both p q) xs e x there.0))
    go (Some y) e b f =
        let other = find_some (both p q) xs y e in
        let parts = and_parts (p y) (q y) other.1 in
        let same = alone y other.0 parts.0 in
        e ∙ ap (λ (z : X). Some z) same ∙ sym (ap (λ (c : Bool). cond c (Some x) None) (sym (ap q same) ∙ parts.1))

-- ---- slots

module _ (sub : Subvolume) (log : FlatLog) (coherent : IsCoherent sub) (dir : ℕ) (bytes : List ℕ) where
  abbrev slot : FlatName → Bool
  slot = is_in_slot dir bytes

  held_alone : (one two : FlatName) → Contains sub.names one → Contains sub.names two → slot one ≡ true → slot two ≡ true → one ≡ two
  held_alone one two c d e f =
      let here = is_in_slot_gives dir bytes one e in
      let there = is_in_slot_gives dir bytes two f in
      coherent.no_name_twice one two c d (here.0 ∙ sym there.0) (here.1 ∙ sym there.1)

  pub no_held : None ≡ name_in_slot sub.names dir bytes → None ≡ ino_of (find (both slot (is_kept log)) sub.names)
  no_held none = ap ino_of (sym (narrowed_none slot (is_kept log) sub.names (sym none)))

  -- the name that stands in the slot is kept or dropped whatever its mark is
  pub held_kept : (held : Held) (answer : Bool) → Some (name_held dir bytes held) ≡ name_in_slot sub.names dir bytes → answer ≡ is_kept log (name_of_parts dir held.index bytes held.ino)
      → cond answer (Some held.ino) None ≡ ino_of (find (both slot (is_kept log)) sub.names)
  held_kept held answer is kept =
      let name = name_held dir bytes held in
      let found = find_some slot sub.names name (sym is) in
      let narrow = narrowed_some slot (is_kept log) sub.names name (λ other c e. held_alone other name c found.0 e found.1) (sym is) in
      go answer kept ∙ sym (ap ino_of narrow)
    where
      go : (b : Bool) → b ≡ is_kept log (name_of_parts dir held.index bytes held.ino) → cond b (Some held.ino) None ≡ ino_of (cond (is_kept log (name_held dir bytes held)) (Some (name_held dir bytes held)) None)
      go true e = sym (ap (λ (b : Bool). ino_of (cond b (Some (name_held dir bytes held)) None)) (sym e))
      go false e = sym (ap (λ (b : Bool). ino_of (cond b (Some (name_held dir bytes held)) None)) (sym e))

module _ (table : Table) (tree : Tree) (log : Option Tree) (given : IsRecovered table tree log) (dir : ℕ) (bytes : List ℕ) where
  abbrev committed : Subvolume
  committed = seen table tree

  abbrev flat : FlatLog
  flat = log_said table log

  abbrev in_slot : FlatName → Bool
  in_slot = is_in_slot dir bytes

  left_alone : (one two : FlatName) → Contains (names_left committed flat) one → Contains (names_left committed flat) two → in_slot one ≡ true → in_slot two ≡ true → one ≡ two
  left_alone one two c d e f =
      let here = is_in_slot_gives dir bytes one e in
      let there = is_in_slot_gives dir bytes two f in
      given.accepted.apart.bytes one two c d (here.0 ∙ sym there.0) (here.1 ∙ sym there.1)

  slot_left : name_in_slot (replay committed flat).names dir bytes ≡ find in_slot (names_left committed flat)
  slot_left = ap (find in_slot) (replay_names committed flat)

  is_left : (name : FlatName) → Contains (names_left committed flat) name → in_slot name ≡ true → find in_slot (names_left committed flat) ≡ Some name
  is_left name c e = go (find in_slot (names_left committed flat)) refl
    where
      go : (o : Option FlatName) → find in_slot (names_left committed flat) ≡ o → find in_slot (names_left committed flat) ≡ Some name
      go None f = absurd (true≢false (sym e ∙ find_none in_slot (names_left committed flat) f name c))
      go (Some other) f =
          let there = find_some in_slot (names_left committed flat) other f in
          f ∙ ap (λ (n : FlatName). Some n) (left_alone other name there.0 c there.1 e)

  -- the log's name in the slot is the one there after replay
  pub logged_there : (ino : ℕ) → Some ino ≡ ino_of (find in_slot (logged_names table log)) → Some ino ≡ ino_of (name_in_slot (replay committed flat).names dir bytes)
  logged_there ino told = go (find in_slot (logged_names table log)) refl
    where
      go : (o : Option FlatName) → find in_slot (logged_names table log) ≡ o → Some ino ≡ ino_of (name_in_slot (replay committed flat).names dir bytes)
      go None e = absurd (none-some ino (sym (told ∙ ap ino_of e)))
      go (Some name) e =
          let found = find_some in_slot (logged_names table log) name e in
          told ∙ ap ino_of (e ∙ sym (slot_left ∙ is_left name (left_has committed flat name (said_in table log name found.0)) found.1))

  kept_left : (name : FlatName) → Contains committed.names name → is_kept flat name ≡ true → Contains (names_left committed flat) name
  kept_left name c e =
      let parts = and_parts (not (is_dropped flat name)) (not (is_logged flat name.ino)) e in
      left_keeps committed flat name c (not-true (is_dropped flat name) parts.0) (not-true (is_logged flat name.ino) parts.1)

  none_told : (o : Option FlatName) → None ≡ ino_of o → o ≡ None
  none_told None e = refl
  none_told (Some name) e = absurd (none-some name.ino e)

  -- where the log has none there, the committed one that replay keeps is
  pub kept_there : None ≡ ino_of (find in_slot (logged_names table log)) → ino_of (find (both in_slot (is_kept flat)) committed.names) ≡ ino_of (name_in_slot (replay committed flat).names dir bytes)
  kept_there none = ap ino_of (go (find (both in_slot (is_kept flat)) committed.names) refl (find in_slot (names_left committed flat)) refl ∙ sym slot_left)
    where
      unlogged : find in_slot (logged_names table log) ≡ None
      unlogged = none_told (find in_slot (logged_names table log)) none

      go : (o : Option FlatName) → find (both in_slot (is_kept flat)) committed.names ≡ o → (l : Option FlatName) → find in_slot (names_left committed flat) ≡ l → find (both in_slot (is_kept flat)) committed.names ≡ find in_slot (names_left committed flat)
      go None e None f = e ∙ sym f
      go (Some name) e l f =
          let found = find_some (both in_slot (is_kept flat)) committed.names name e in
          let parts = and_parts (in_slot name) (is_kept flat name) found.1 in
          e ∙ sym (is_left name (kept_left name found.0 parts.1) parts.0)
      go None e (Some name) f =
          let found = find_some in_slot (names_left committed flat) name f in
          absurd (by name found.1 (left_cases committed flat name found.0))
        where
          by : (name : FlatName) → in_slot name ≡ true → Contains flat.names name ⊎ (Contains committed.names name × (is_dropped flat name ≡ false) × (is_logged flat name.ino ≡ false)) → ⊥
          by name here (inl ours) = true≢false (sym here ∙ find_none in_slot (logged_names table log) unlogged name (in_said table log name ours))
          by name here (inr theirs) =
              let kept = and_from (not (is_dropped flat name)) (not (is_logged flat name.ino)) (not_from_false (is_dropped flat name) theirs.1) (not_from_false (is_logged flat name.ino) theirs.2) in
              true≢false (sym (and_from (in_slot name) (is_kept flat name) here kept) ∙ find_none (both in_slot (is_kept flat)) committed.names e name theirs.0)
