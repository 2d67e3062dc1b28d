-- The reach has each address once, allowed ones alone, and leaves room.
use Rattle.std.proofs.Common.{◌≡◌, ◌≤◌, ◌+◌, ◌++◌, ℕ, Bool, true, false, not, List, [], ◌∷◌, length, filter, Contains, All, nat_eq, refl, sym, subst, inl, inr, arith}
use Rattle.std.proofs.lemmas.Bool.{eqb-true, eqb-false, not-true}
use Rattle.std.proofs.lemmas.List.Elements.{All-append, All-contains, All-contains_itself, All-weaker, Contains-append_left, Contains-append_right, Contains-append_cases}
use Rattle.blk_base.specs.Address.{IsAllowed}
use Rattle.blk_base.specs.Superblock.{SuperValue}
use Rattle.flat_model.specs.Volume.{Volume}
use Rattle.logged_volume.specs.Numbers.{is_in}
use Rattle.logged_volume.specs.FlatLog.{AreDistinct}
use Rattle.logged_volume.proofs.Members.{in_from, number_set_gives, is_set_number_set}
use Rattle.logged_volume.proofs.Counts.{set_distinct}
use Rattle.volume_image.specs.Tree.{Image, NoneTwice}
use Rattle.volume_image.specs.Roots.{log_root_want, log_want}
use Rattle.volume_image.specs.Stands.{IsCommitted}
use Rattle.volume_image.proofs.Members.{in_filter}
use Rattle.volume_image.proofs.Reaches.{none_twice_joined}
use Rattle.volume_image.proofs.Trees.{tree_allowed}
use Rattle.volume_image.proofs.Standing.{committed_allowed}
use Rattle.log_image.proofs.Sayings.{in_flat_map}
use Rattle.log_stands.specs.StandsWithLog.{LogAt, trees_reach, logs_reach, logs_data, fresh_data, IsLogged, StandsWith, StandsByLog}

distinct_once : (xs : List ℕ) → AreDistinct xs → NoneTwice xs
distinct_once [] d = tt
distinct_once (x ∷ xs) d = (d.0, distinct_once xs d.1)

fresh_gives : (near : List ℕ) (logs : List LogAt) (at : ℕ) → Contains (fresh_data near logs) at → Contains (logs_data logs) at × (is_in near at ≡ false)
fresh_gives near logs at c =
    let found = in_filter (λ x. not (is_in near x)) (logs_data logs) at (number_set_gives (filter (λ x. not (is_in near x)) (logs_data logs)) at c) in
    (found.0, not-true (is_in near at) found.1)

module _ (image : Image) (super : SuperValue) (committed : Volume) (near : List ℕ) (is : IsCommitted image super committed near) (volume : Volume) (reach : List ℕ) (logged : IsLogged image super committed near is volume reach) where
  apart : (at : ℕ) → Contains (near ++ logged.root_reach ++ logs_reach logged.logs) at → Contains (fresh_data near logged.logs) at → ⊥
  apart at c d =
      let fresh = fresh_gives near logged.logs at d in
      elim (Contains-append_cases (near ++ logged.root_reach) (logs_reach logged.logs) at c) [
        | inl first ↦ elim (Contains-append_cases near logged.root_reach at first) [
          | inl here ↦ let found = in_from near at here in let lacks = fresh.1 in absurd cc
          | inr root ↦ logged.no_tree_block at fresh.0 (Contains-append_left (is.root_reach ++ trees_reach logged.trees ++ logged.root_reach) (logs_reach logged.logs) at (Contains-append_right (is.root_reach ++ trees_reach logged.trees) logged.root_reach at root))
        ]
        | inr log ↦ logged.no_tree_block at fresh.0 (Contains-append_right (is.root_reach ++ trees_reach logged.trees ++ logged.root_reach) (logs_reach logged.logs) at log)
      ]

  logged_once : NoneTwice reach
  logged_once =
      subst NoneTwice (sym logged.reached)
      (none_twice_joined (near ++ logged.root_reach ++ logs_reach logged.logs) (fresh_data near logged.logs) logged.blocks_once
      (distinct_once (fresh_data near logged.logs) (set_distinct (fresh_data near logged.logs) (is_set_number_set (filter (λ x. not (is_in near x)) (logs_data logged.logs))))) apart)

  all_where : (xs : List ℕ) → ((at : ℕ) → Contains xs at → IsAllowed super.blocks at) → All (IsAllowed super.blocks) xs
  all_where xs each = All-weaker (Contains xs) (IsAllowed super.blocks) each xs (All-contains_itself xs)

  logs_allowed : (at : ℕ) → Contains (logs_reach logged.logs) at → IsAllowed super.blocks at
  logs_allowed at c =
      let log = in_flat_map (λ (log : LogAt). log.reach) logged.logs at c in
      let tree = (logged.are_logs log.0 log.1).tree in
      All-contains (IsAllowed super.blocks) log.0.reach at (tree_allowed image super.blocks (log_want super log.0.root) log.0.items log.0.reach tree) log.2

  logged_allowed : All (IsAllowed super.blocks) reach
  logged_allowed =
      subst (All (IsAllowed super.blocks)) (sym logged.reached)
      (All-append (IsAllowed super.blocks) (near ++ logged.root_reach ++ logs_reach logged.logs) (fresh_data near logged.logs)
      (All-append (IsAllowed super.blocks) (near ++ logged.root_reach) (logs_reach logged.logs)
      (All-append (IsAllowed super.blocks) near logged.root_reach (committed_allowed image super committed near is)
      (tree_allowed image super.blocks (log_root_want super) logged.root_items logged.root_reach logged.root_tree)) (all_where (logs_reach logged.logs) logs_allowed))
      (all_where (fresh_data near logged.logs) (λ at c. All-contains (IsAllowed super.blocks) (logs_data logged.logs) at logged.data_allowed (fresh_gives near logged.logs at c).0)))

  logged_room : length reach + 198 ≤ super.blocks
  logged_room = let room = logged.room in omega arith

module _ (image : Image) (volume : Volume) (reach : List ℕ) (stands : StandsByLog image volume reach) where
  with_super : StandsWith image stands.super volume reach
  with_super = stands.stands

  pub reach_once : NoneTwice reach
  reach_once = go (nat_eq stands.super.log_root 0) refl
    where
      go : (empty : Bool) → nat_eq stands.super.log_root 0 ≡ empty → NoneTwice reach
      go true e = subst NoneTwice (sym (with_super.unlogged (eqb-true stands.super.log_root 0 e)).reached) with_super.is_committed.once
      go false e = logged_once image stands.super with_super.committed with_super.near with_super.is_committed volume reach (with_super.logged (eqb-false stands.super.log_root 0 e))

  pub reach_allowed : All (IsAllowed stands.super.blocks) reach
  reach_allowed = go (nat_eq stands.super.log_root 0) refl
    where
      go : (empty : Bool) → nat_eq stands.super.log_root 0 ≡ empty → All (IsAllowed stands.super.blocks) reach
      go true e =
          subst (All (IsAllowed stands.super.blocks)) (sym (with_super.unlogged (eqb-true stands.super.log_root 0 e)).reached)
          (committed_allowed image stands.super with_super.committed with_super.near with_super.is_committed)
      go false e = logged_allowed image stands.super with_super.committed with_super.near with_super.is_committed volume reach (with_super.logged (eqb-false stands.super.log_root 0 e))

  pub reach_room : length reach + 198 ≤ stands.super.blocks
  reach_room = go (nat_eq stands.super.log_root 0) refl
    where
      go : (empty : Bool) → nat_eq stands.super.log_root 0 ≡ empty → length reach + 198 ≤ stands.super.blocks
      go true e = let room = (with_super.unlogged (eqb-true stands.super.log_root 0 e)).room in omega arith
      go false e = logged_room image stands.super with_super.committed with_super.near with_super.is_committed volume reach (with_super.logged (eqb-false stands.super.log_root 0 e))
