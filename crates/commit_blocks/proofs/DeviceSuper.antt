-- A write of a superblock keeps what a volume keeps: of the commit that runs, or again of one whose write failed.
use Rattle.std.proofs.Common.{◌≡◌, ◌≢◌, ◌/◌, ℕ, List, [], ◌∷◌, Option, Some, None, sym, ap, subst, ◌∙◌, inl, inr}
use Rattle.std.specs.Prelude.{◌⊎◌, Contains}
use Rattle.std.proofs.lemmas.List.Elements.{Contains-append_left}
use Rattle.blk_base.specs.Bytes.{Image}
use Rattle.block_table.specs.declared.state.SlotState.TheVariants.{Dirty, Free, Live}
use Rattle.block_table.specs.declared.tree.Tree.{Tree}
use Rattle.block_table.specs.TreeIn.{block_at}
use Rattle.commit_core.specs.Sealed.{IsOfNewest}
use Rattle.disk_model.proofs.CrashLaws.{Contains-cons_cases, Contains-here}
use Rattle.commit_images.specs.Admissible.{last_bytes}
use Rattle.commit_images.specs.Scene.{Commit, IsWritten, NotTried, Reaches, Scene}
use Rattle.flat_model.specs.Volume.{RunVolume}
use Rattle.tree_range.specs.Shape.{tree_reach}
use Rattle.volume_seal.specs.Sealed.{states_reach}
use Rattle.commit_blocks.specs.declared.kept.Kept.{Kept}
use Rattle.commit_blocks.specs.Keeps.{AreApart, AreApartFromFirst, HoldsCommit, IsFound, IsOut, IsTried, IsTurn, IsUntried, KeepsBlocks, numbered_at, reach_there}

-- what is found has this one first, and no other than before
pub record FindsFirst (one other : Scene) (first : Commit) (rest others : List Commit) : Type 0 where
  pub was : one.found ≡ first ∷ rest
  pub found : other.found ≡ first ∷ others
  pub fewer : (commit : Commit) → Contains (first ∷ others) commit → Contains (first ∷ rest) commit
  pub alone : rest ≡ [] → others ≡ []
  pub batch : other.batch ≡ one.batch
  pub progress : other.progress ≡ one.progress
  pub handed : other.handed ≡ one.handed

-- the superblock of the commit that runs was tried, where one was found alone
pub record TriesSuper (one other : Scene) (commit first : Commit) (others : List Commit) : Type 0 where
  pub runs : one.batch ≡ Some commit
  pub was : one.found ≡ first ∷ []
  pub first_time : one.progress ≡ NotTried
  pub found : other.found ≡ commit ∷ others
  pub fewer : (other : Commit) → Contains others other → other ≡ first
  pub tried : other.progress ≢ NotTried
  pub written : other.progress ≡ IsWritten → others ≡ []
  pub batch : other.batch ≡ one.batch
  pub handed : other.handed ≡ one.handed

head_of : {X : Type 0} → X → List X → X
head_of x [] = x
head_of x (y ∷ ys) = y

tail_of : {X : Type 0} → List X → List X
tail_of [] = []
tail_of (y ∷ ys) = ys

there_of : {X : Type 0} → X → Option X → X
there_of x None = x
there_of x (Some y) = y

heads : {X : Type 0} (x y : X) (xs ys : List X) → x ∷ xs ≡ y ∷ ys → x ≡ y
unfolding head_of
heads x y xs ys same = ap (head_of x) same

tails : {X : Type 0} (x y : X) (xs ys : List X) → x ∷ xs ≡ y ∷ ys → xs ≡ ys
unfolding tail_of
tails x y xs ys same = ap tail_of same

somes : {X : Type 0} (x y : X) → Some x ≡ Some y → x ≡ y
unfolding there_of
somes x y same = ap (there_of x) same

module _ (kept : Kept) (image : Image) (run : RunVolume) (one other : Scene) where
  -- ---- one of those that were found is written again

  module _ (first : Commit) (rest others : List Commit) (f : FindsFirst one other first rest others) where
    was_found : (commit : Commit) → Contains other.found commit → Contains one.found commit
    was_found commit there = subst (λ (l : List Commit). Contains l commit) (sym f.was) (f.fewer commit (subst (λ (l : List Commit). Contains l commit) f.found there))

    newest_still : (block : ℕ × List ℕ) → IsOfNewest one.found block → IsOfNewest other.found block
    newest_still block h = subst (λ (l : List Commit). IsOfNewest l block) (sym f.found) (subst (λ (l : List Commit). IsOfNewest l block) f.was h)

    apart_still : (reach : List ℕ) → AreApartFromFirst reach one.found → AreApartFromFirst reach other.found
    apart_still reach h = subst (AreApartFromFirst reach) (sym f.found) (subst (AreApartFromFirst reach) f.was h)

    found_still : IsFound kept image one → IsFound kept image other
    found_still h = record {
      on_image = h.on_image;
      held = λ commit there. h.held commit (was_found commit there);
      newest = λ at there live. newest_still (numbered_at kept.table at) (h.newest at there live);
      told = subst (λ (l : List (ℕ × List ℕ)). (at : ℕ) → (block_at kept.table at).state ≢ Free → (block_at kept.table at).state ≢ Dirty → last_bytes l image (at / 4096) ≡ Some (block_at kept.table at).bytes) (sym f.handed) h.told;
      clear = h.clear;
      last = h.last;
      failed = h.failed;
      apart = h.apart;
      capacity = h.capacity;
    }

    untried_still : IsUntried kept one → IsUntried kept other
    untried_still h = record {
      fresh = λ at sealed commit there reaches. h.fresh at sealed commit (was_found commit there) reaches;
      spared = λ tree is. apart_still (tree_reach kept.table kept.last) (h.spared tree is);
    }

    tried_still : (commit : Commit) → IsTried kept one commit → IsTried kept other commit
    tried_still commit h =
        let same : commit ∷ h.others ≡ first ∷ rest = sym h.found ∙ f.was in
        record {
          others = others;
          found = f.found ∙ ap (λ (c : Commit). c ∷ others) (sym (heads commit first h.others rest same));
          spared = λ tree is found there. h.spared tree is found (was_found found there);
          written = λ is. f.alone (sym (tails commit first h.others rest same) ∙ h.written (sym f.progress ∙ is));
        }

    turn_still : (sealed : Option Tree) → IsTurn kept one sealed → IsTurn kept other sealed
    turn_still None h = record {
      batch = f.batch ∙ h.batch;
      lists = h.lists;
      none_sealed = h.none_sealed;
      back = h.back;
      noted = h.noted;
      spared = λ tree is. apart_still (tree_reach kept.table kept.last) (h.spared tree is);
    }
    turn_still (Some root) h = record {
      commit = h.commit;
      runs = f.batch ∙ h.runs;
      lists = h.lists;
      tree_in = h.tree_in;
      root_sealed = h.root_sealed;
      root_apart = h.root_apart;
      held = h.held;
      reaches = h.reaches;
      root_reached = h.root_reached;
      since = h.since;
      noted_once = h.noted_once;
      noted = h.noted;
      noted_apart = h.noted_apart;
      old_noted = h.old_noted;
      untried = λ is. untried_still (h.untried (sym f.progress ∙ is));
      tried = λ is. tried_still h.commit (h.tried (λ not. is (f.progress ∙ not)));
    }

    pub again_keeps : KeepsBlocks kept image run one → KeepsBlocks kept image run other
    again_keeps h = record { current = h.current; found = found_still h.found; turn = turn_still kept.sealed h.turn }

  -- ---- the superblock of the commit that runs is tried

  module _ (commit first : Commit) (others : List Commit) (t : TriesSuper one other commit first others) (h : KeepsBlocks kept image run one) where
    one_of : (found : Commit) → Contains other.found found → (found ≡ commit) ⊎ (found ≡ first)
    one_of found there = elim (Contains-cons_cases commit others found (subst (λ (l : List Commit). Contains l found) t.found there)) [
      | inl is ↦ inl (sym is)
      | inr behind ↦ inr (t.fewer found behind)
    ]

    first_there : Contains one.found first
    first_there = subst (λ (l : List Commit). Contains l first) (sym t.was) (Contains-here first [])

    module _ (root : Tree) (out : IsOut kept one root) where
      same : out.commit ≡ commit
      same = somes out.commit commit (sym out.runs ∙ t.runs)

      held : (found : Commit) → Contains other.found found → HoldsCommit kept.table found
      held found there = elim (one_of found there) [
        | inl is ↦ subst (HoldsCommit kept.table) (same ∙ sym is) out.held
        | inr is ↦ subst (HoldsCommit kept.table) (sym is) (h.found.held first first_there)
      ]

      newest : (at : ℕ) → Contains (states_reach kept.table kept.states.items) at → (block_at kept.table at).state ≡ Live → IsOfNewest other.found (numbered_at kept.table at)
      newest at there live =
          subst (λ (l : List Commit). IsOfNewest l (numbered_at kept.table at)) (sym t.found)
          (subst (λ (c : Commit). Contains c.blocks (numbered_at kept.table at)) same (out.reaches at there (λ dirty. (let wrong : Live ≡ Dirty = sym live ∙ dirty in cc))))

      found_behind : IsFound kept image other
      found_behind = record {
        on_image = h.found.on_image;
        held = held;
        newest = newest;
        told = subst (λ (l : List (ℕ × List ℕ)). (at : ℕ) → (block_at kept.table at).state ≢ Free → (block_at kept.table at).state ≢ Dirty → last_bytes l image (at / 4096) ≡ Some (block_at kept.table at).bytes) (sym t.handed) h.found.told;
        clear = h.found.clear;
        last = h.found.last;
        failed = h.found.failed;
        apart = h.found.apart;
        capacity = h.found.capacity;
      }

      last_apart : AreApart (tree_reach kept.table kept.last) commit
      last_apart at there reaches =
          out.noted_apart at (out.old_noted at (Contains-append_left (tree_reach kept.table kept.last) (reach_there kept.table kept.failed) at there))
          (subst (λ (c : Commit). Reaches c (at / 4096)) (sym same) reaches)

      spared : (tree : Tree) → kept.failed ≡ Some tree → (found : Commit) → Contains other.found found → AreApart (tree_reach kept.table kept.last) found
      spared tree is found there = elim (one_of found there) [
        | inl it ↦ subst (AreApart (tree_reach kept.table kept.last)) (sym it) last_apart
        | inr it ↦ subst (AreApart (tree_reach kept.table kept.last)) (sym it) (subst (AreApartFromFirst (tree_reach kept.table kept.last)) t.was ((out.untried t.first_time).spared tree is))
      ]

      tried : IsTried kept other out.commit
      tried = record {
        others = others;
        found = t.found ∙ ap (λ (c : Commit). c ∷ others) (sym same);
        spared = spared;
        written = t.written;
      }

      out_behind : IsOut kept other root
      out_behind = record {
        commit = out.commit;
        runs = t.batch ∙ out.runs;
        lists = out.lists;
        tree_in = out.tree_in;
        root_sealed = out.root_sealed;
        root_apart = out.root_apart;
        held = out.held;
        reaches = out.reaches;
        root_reached = out.root_reached;
        since = out.since;
        noted_once = out.noted_once;
        noted = out.noted;
        noted_apart = out.noted_apart;
        old_noted = out.old_noted;
        untried = λ is. absurd (t.tried is);
        tried = λ is. tried;
      }

    behind : (sealed : Option Tree) → IsTurn kept one sealed → IsFound kept image other × IsTurn kept other sealed
    behind None quiet = let wrong : None ≡ Some commit = sym quiet.batch ∙ t.runs in absurd cc
    behind (Some root) out = (found_behind root out, out_behind root out)

    pub tried_keeps : KeepsBlocks kept image run other
    tried_keeps = let next = behind kept.sealed h.turn in record { current = h.current; found = next.0; turn = next.1 }
