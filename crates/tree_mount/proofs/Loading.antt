-- Trees that are loaded one behind the other, and how what is read later leaves them.
use Rattle.std.proofs.Common.{◌≡◌, ◌++◌, ℕ, Bool, true, false, List, [], ◌∷◌, map, Contains, refl, sym, ap, subst, ◌∙◌, append-nil}
use Rattle.std.proofs.lemmas.List.Concat.{flat_map-append}
use Rattle.std.proofs.lemmas.List.Elements.{All-weaker}
use Rattle.blk_base.specs.declared.key.Want.{Want}
use Rattle.blk_base.specs.Trees.{NoneTwice}
use Rattle.block_table.specs.declared.tree.Tree.{Tree}
use Rattle.block_table.specs.Table.{Table}
use Rattle.block_table.specs.TreeIn.{IsSealedTree, IsTaken, block_at}
use Rattle.tree_check.specs.Blocks.{tree_data}
use Rattle.tree_frame.proofs.Sealed.{sealed_alike}
use Rattle.tree_load.specs.Loaded.{IsLoad, tree_wanted}
use Rattle.tree_load.proofs.Tables.{load_more, load_none}
use Rattle.tree_range.specs.Shape.{AreAlike, IsTree, tree_reach}
use Rattle.tree_range.proofs.Local.{tree_alike}
use Rattle.tree_range.proofs.Times.{reach_taken}
use Rattle.volume_image.specs.Subvolume.{data_addresses}
use Rattle.volume_image.proofs.Lists.{in_nothing}
use Rattle.volume_image.proofs.Reaches.{head_in, none_twice_joined, tail_in}
use Rattle.volume_image.specs.Tree as of_image
use Rattle.tree_mount.specs.Trees.{AreLoaded, found_tree, items_of, reach_of, wants_data, wants_reach}
use Rattle.tree_mount.proofs.Lists.{each_alone, each_joined}

-- ---- a tree that stands while more is read

pub beside : (is_data : Bool) (old new : Table) (tree : Tree) (addresses : List ℕ) → IsLoad is_data old new addresses → IsTree old tree → AreAlike old new (tree_reach old tree)
beside is_data old new tree addresses load is = All-weaker (IsTaken old) (λ (at : ℕ). block_at new at ≡ block_at old at) (λ at taken. load.others at (λ c. taken.taken (load.fresh at c))) (tree_reach old tree) (reach_taken tree.level old true tree.root.0 is.shape)

-- a tree in two tables, the same in both
pub record IsKept (old new : Table) (want : Want) : Type 0 where
  pub items : items_of new want ≡ items_of old want
  pub reach : reach_of new want ≡ reach_of old want
  pub tree : IsTree new (tree_wanted want)
  pub alike : AreAlike old new (reach_of old want)

pub kept_by : (is_data : Bool) (old new : Table) (want : Want) (addresses : List ℕ) → IsLoad is_data old new addresses → IsTree old (tree_wanted want) → IsKept old new want
kept_by is_data old new want addresses load is =
    let alike = beside is_data old new (tree_wanted want) addresses load is in
    let same = tree_alike old new (tree_wanted want) alike in
    record { items = same.0; reach = same.1; tree = same.2 is; alike = alike }

pub sealed_kept : (old new : Table) (want : Want) → IsKept old new want → IsSealedTree old (tree_wanted want) want.fsid want.generation → IsSealedTree new (tree_wanted want) want.fsid want.generation
sealed_kept old new want kept sealed = sealed_alike want.level old new (record { fsid = want.fsid; at = want.at; generation = want.generation; owner = want.owner; level = want.level }) kept.alike sealed

-- all of them
module _ (old new : Table) where
  pub reach_kept : (wants : List Want) → ((want : Want) → Contains wants want → IsKept old new want) → wants_reach new wants ≡ wants_reach old wants
  reach_kept [] each = refl
  reach_kept (want ∷ wants) each = λ i. (each want (head_in want wants)).reach i ++ reach_kept wants (λ other c. each other (tail_in want other wants c)) i

  pub data_kept : (wants : List Want) → ((want : Want) → Contains wants want → IsKept old new want) → wants_data new wants ≡ wants_data old wants
  data_kept [] each = refl
  data_kept (want ∷ wants) each = λ i. data_addresses ((each want (head_in want wants)).items i) ++ data_kept wants (λ other c. each other (tail_in want other wants c)) i

  pub found_kept : (wants : List Want) → ((want : Want) → Contains wants want → IsKept old new want) → map (found_tree new) wants ≡ map (found_tree old) wants
  found_kept [] each = refl
  found_kept (want ∷ wants) each = λ i. record { id = want.owner; want = want; items = (each want (head_in want wants)).items i } ∷ found_kept wants (λ other c. each other (tail_in want other wants c)) i

pub reach_joined : (table : Table) (near far : List Want) → wants_reach table (near ++ far) ≡ wants_reach table near ++ wants_reach table far
reach_joined table near far = flat_map-append (reach_of table) near far

pub data_joined : (table : Table) (near far : List Want) → wants_data table (near ++ far) ≡ wants_data table near ++ wants_data table far
data_joined table near far = flat_map-append (λ (want : Want). tree_data table (tree_wanted want)) near far

pub reach_alone : (table : Table) (want : Want) → wants_reach table (want ∷ []) ≡ reach_of table want
reach_alone table want = append-nil (reach_of table want)

-- ---- loads, one behind the other

pub loaded_none : (table : Table) → AreLoaded table table []
loaded_none table = record {
  load = load_none false table;
  each = λ want c. absurd (in_nothing want c);
  sealed = λ want c. absurd (in_nothing want c);
  once = tt;
}

pub loaded_one : (old new : Table) (want : Want) → IsTree new (tree_wanted want) → IsSealedTree new (tree_wanted want) want.fsid want.generation → IsLoad false old new (reach_of new want) → AreLoaded old new (want ∷ [])
loaded_one old new want is sealed load = record {
  load = subst (IsLoad false old new) (sym (reach_alone new want)) load;
  each = each_alone (λ (w : Want). IsTree new (tree_wanted w)) want is;
  sealed = each_alone (λ (w : Want). IsSealedTree new (tree_wanted w) w.fsid w.generation) want sealed;
  once = subst NoneTwice (sym (reach_alone new want)) is.once;
}

module _ (old mid new : Table) (near far : List Want) (one : AreLoaded old mid near) (two : AreLoaded mid new far) where
  pub near_kept : (want : Want) → Contains near want → IsKept mid new want
  near_kept want c = kept_by false mid new want (wants_reach new far) two.load (one.each want c)

  pub near_reach : wants_reach new near ≡ wants_reach mid near
  near_reach = reach_kept mid new near near_kept

  whole_reach : wants_reach new (near ++ far) ≡ wants_reach mid near ++ wants_reach new far
  whole_reach = reach_joined new near far ∙ ap (λ (l : List ℕ). l ++ wants_reach new far) near_reach

  apart : of_image.AreApart (wants_reach mid near) (wants_reach new far)
  apart at c d = Rattle.tree_load.proofs.Tables.live_not_free mid at (Rattle.tree_load.proofs.Tables.live_state mid at (one.load.live at c)) (two.load.fresh at d)

  pub loaded_more : AreLoaded old new (near ++ far)
  loaded_more = record {
    load = subst (IsLoad false old new) (sym whole_reach) (load_more old mid new (wants_reach mid near) (wants_reach new far) one.load two.load);
    each = each_joined (λ (w : Want). IsTree new (tree_wanted w)) near far (λ want c. (near_kept want c).tree) two.each;
    sealed = each_joined (λ (w : Want). IsSealedTree new (tree_wanted w) w.fsid w.generation) near far (λ want c. sealed_kept mid new want (near_kept want c) (one.sealed want c)) two.sealed;
    once = subst NoneTwice (sym whole_reach) (none_twice_joined (wants_reach mid near) (wants_reach new far) one.once two.once apart);
  }
