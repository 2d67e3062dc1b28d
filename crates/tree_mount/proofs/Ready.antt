-- What a mount answers.
use Rattle.std.proofs.Common.{◌≡◌, ◌≤◌, ◌+◌, ◌++◌, ℕ, List, ◌∷◌, length, map, Contains, Option, Some, None, refl, sym, ap, subst, ◌∙◌, arith}
use Rattle.blk_base.specs.declared.key.Want.{Want}
use Rattle.blk_base.specs.Bytes.{Image, IsImage}
use Rattle.blk_base.specs.Superblock.{SuperValue}
use Rattle.block_table.specs.declared.tree.SubState.{SubState}
use Rattle.block_table.specs.declared.tree.Tree.{Tree}
use Rattle.block_table.specs.Table.{Table, empty_table, free_blocks}
use Rattle.disk_model.specs.Disk.{IfTold}
use Rattle.flat_model.specs.Volume.{mounted}
use Rattle.flat_model.specs.Coherent.{IsCoherentVolume}
use Rattle.flat_model.proofs.Histories.{volume_of_mounted}
use Rattle.tree_load.specs.Loaded.{tree_wanted}
use Rattle.tree_range.specs.Shape.{IsTree, tree_items, tree_reach}
use Rattle.block_table.specs.TreeIn.{IsSealedTree}
use Rattle.volume_format.specs.Views.{super_view}
use Rattle.volume_image.specs.Roots.{next_generation, root_want}
use Rattle.volume_image.specs.Stands.{free_of, mount_need}
use Rattle.volume_image.proofs.Reaches.{head_in}
use Rattle.volume_seal.specs.Sealed.{states_reach}
use Rattle.blk_base.specs.Trees.{NoneTwice}
use Rattle.table_volume.specs.Running.{GiveVolume}
use Rattle.tree_mount.specs.declared.mounted.Mounted.{Mounted}
use Rattle.tree_mount.specs.Mounted.{AreSubWants, AreWhole, IsMountedAs, IsReadyMount, IsRunState, LeadsToVolume, mount_reach}
use Rattle.tree_mount.specs.Roots.{AreRootsRead}
use Rattle.tree_mount.specs.Trees.{AreLoaded, items_of, reach_of, wants_data, wants_reach}
use Rattle.tree_mount.proofs.Given.{accounted, all, each_long, each_once, each_reach, free_or_live, none_out, given_volume, ids, lists, long, reach_is, root_items, root_stands, sealed, size, state_ready, state_running, subs_reach, used, volume_by, volume_coherent}
use Rattle.tree_mount.proofs.RootSize.{few_roots, many_roots}
use Rattle.tree_mount.proofs.Spared.{mount_same, mounted_as, reach_same, spared, states_ready, tree_sealed, tree_stands, volume_given}
use Rattle.tree_mount.proofs.Standing.{as_mounted}

subs_by : (super : SuperValue) (items : List Rattle.blk_base.specs.Leaf.Item) (wants : List Want) → AreRootsRead super items wants → AreSubWants super wants
subs_by super items wants read = record { fsids = read.fsids; least = read.least; most = read.most; ids = read.ids }

module _ (m : Mounted) (mid : Table) (wants : List Want) (loaded : AreLoaded (empty_table m.superblock.blocks) mid (root_want (super_view m.superblock) ∷ wants)) (whole : AreWhole mid m.table wants) (read : AreRootsRead (super_view m.superblock) (items_of mid (root_want (super_view m.superblock))) wants) (running : ℕ)
    (trees : map (λ (state : SubState). state.tree) m.states.items ≡ map tree_wanted wants) (each : (state : SubState) → Contains m.states.items state → IsRunState m.table running state) (root : m.root ≡ tree_wanted (root_want (super_view m.superblock)))
    (enough : mount_need ≤ free_of m.superblock.blocks (length (wants_reach m.table (root_want (super_view m.superblock) ∷ wants) ++ wants_data m.table wants))) where
  abbrev s : SuperValue
  s = super_view m.superblock

  subs : AreSubWants s wants
  subs = subs_by s (items_of mid (root_want s)) wants read

  states_are : states_reach m.table m.states.items ≡ subs_reach m.table wants
  states_are = reach_is s mid m.table wants loaded whole subs running m.states.items trees each

  reach : mount_reach m ≡ each_reach s mid m.table wants loaded whole
  reach = ap (λ (t : Tree). tree_reach m.table t ++ states_reach m.table m.states.items) root ∙ ap (λ (l : List ℕ). reach_of m.table (root_want s) ++ l) states_are

  volume : GiveVolume m.table m.states.items (mounted (volume_by m.table wants))
  volume = given_volume s mid m.table wants loaded whole subs running m.states.items trees each

  -- ---- the root tree

  root_in : IsTree m.table m.root
  root_in = subst (IsTree m.table) (sym root) (root_stands s mid m.table wants loaded whole)

  root_read : AreRootsRead s (tree_items m.table m.root) wants
  root_read =
      subst (λ (t : Tree). AreRootsRead s (tree_items m.table t) wants) (sym root)
      (subst (λ (items : List Rattle.blk_base.specs.Leaf.Item). AreRootsRead s items wants) (sym (root_items s mid m.table wants loaded whole)) read)

  -- ---- with so many buffers spare

  pub is_ready : (spare : ℕ) → 80 ≤ spare → (count : ℕ) → 4096 ≤ m.superblock.blocks → m.superblock.blocks ≤ 65536 → m.superblock.blocks ≤ count → running ≡ next_generation m.superblock.generation → IsReadyMount (spared m spare) count
  is_ready spare buffers count least most on_disk next = record {
    least = least;
    most = most;
    on_disk = on_disk;
    size = size s mid m.table wants loaded whole;
    run = mounted (volume_by m.table wants);
    given = volume_given m spare (mounted (volume_by m.table wants)) volume;
    begun = ap mounted (sym (volume_of_mounted (volume_by m.table wants)));
    coherent = subst IsCoherentVolume (sym (volume_of_mounted (volume_by m.table wants))) (volume_coherent s mid m.table wants loaded whole subs running m.states.items trees each);
    ids = ids s mid m.table wants loaded whole subs running m.states.items trees each;
    at_least_one = let n = long s mid m.table wants loaded whole subs running m.states.items trees each in let few = subs.least in omega arith;
    at_most_16 = let n = long s mid m.table wants loaded whole subs running m.states.items trees each in let few = subs.most in omega arith;
    running = subst (λ (n : ℕ). Rattle.std.specs.Prelude.All (λ (state : SubState). state.running ≡ n) m.states.items) next (state_running s mid m.table wants loaded whole subs running m.states.items trees each);
    ready = states_ready m spare m.superblock.fsid (state_ready s mid m.table wants loaded whole subs running m.states.items trees each);
    root = tree_stands m spare m.root root_in;
    owner = ap (λ (t : Tree). t.owner) root;
    sealed = tree_sealed m spare m.root m.superblock.fsid m.superblock.generation (subst (λ (t : Tree). IsSealedTree m.table t m.superblock.fsid m.superblock.generation) (sym root) (sealed s mid m.table wants loaded whole (root_want s) (head_in (root_want s) wants)));
    root_few = subst (λ (l : List ℕ). length l ≤ 33) (sym (reach_same m spare m.root)) (few_roots s m.table m.root wants root_in root_read);
    root_many = λ many.
        let n = long s mid m.table wants loaded whole subs running m.states.items trees each in
        subst (λ (l : List ℕ). 3 ≤ length l) (sym (reach_same m spare m.root)) (many_roots s m.table m.root wants root_in root_read (omega (arith, n, many)));
    once = subst NoneTwice (sym (mount_same m spare ∙ reach)) (each_once s mid m.table wants loaded whole);
    accounted = λ at used kept. subst (λ (l : List ℕ). Contains l at) (sym (mount_same m spare ∙ reach)) (accounted s mid m.table wants loaded whole at used kept);
    live = free_or_live s mid m.table wants loaded whole;
    back = none_out s mid m.table wants loaded whole;
    lists = lists s mid m.table wants loaded whole;
    room = subst (λ (n : ℕ). mount_need ≤ free_of m.superblock.blocks n) (sym (ap length (mount_same m spare ∙ reach) ∙ each_long s mid m.table wants loaded whole)) enough;
    spare = buffers;
  }

  pub is_mounted : (spare : ℕ) (seen : Option Image) → IfTold seen IsImage → IfTold seen (λ image. LeadsToVolume image s m.table wants) → IfTold seen (λ image. IsMountedAs image (spared m spare))
  is_mounted spare None is leads = tt
  is_mounted spare (Some image) is leads = mounted_as m spare image (as_mounted image is s mid m.table wants loaded whole leads enough m refl refl root states_are volume)

-- ---- as the calls say it

pub loaded_in : (super : SuperValue) (old mid : Table) (wants : List Want) → old ≡ empty_table super.blocks → AreLoaded old mid (root_want super ∷ wants) → AreLoaded (empty_table super.blocks) mid (root_want super ∷ wants)
loaded_in super old mid wants empty loaded = subst (λ (t : Table). AreLoaded t mid (root_want super ∷ wants)) empty loaded

pub whole_by : (mid new : Table) (lent wants : List Want) → lent ≡ wants → AreWhole mid new lent → AreWhole mid new wants
whole_by mid new lent wants same whole = subst (AreWhole mid new) same whole

pub found_by : (seen told : Option Image) (super : SuperValue) (new : Table) (lent wants : List Want) → told ≡ seen → lent ≡ wants → IfTold told (λ image. LeadsToVolume image super new lent) → IfTold seen (λ image. LeadsToVolume image super new wants)
found_by seen told super new lent wants same is found = subst (λ (ws : List Want). IfTold seen (λ image. LeadsToVolume image super new ws)) is (subst (λ (s : Option Image). IfTold s (λ image. LeadsToVolume image super new lent)) same found)

pub trees_by : (lent wants : List Want) (states : List SubState) → lent ≡ wants → map (λ (state : SubState). state.tree) states ≡ map tree_wanted lent → map (λ (state : SubState). state.tree) states ≡ map tree_wanted wants
trees_by lent wants states same trees = trees ∙ ap (map tree_wanted) same

pub enough_by : (blocks used all : ℕ) → used ≡ all → mount_need ≤ free_of blocks used → mount_need ≤ free_of blocks all
enough_by blocks used all same enough = subst (λ (n : ℕ). mount_need ≤ free_of blocks n) same enough

-- how many blocks are used
pub used_by : (super : SuperValue) (old mid new : Table) (wants : List Want) (first now : ℕ) → old ≡ empty_table super.blocks → AreLoaded (empty_table super.blocks) mid (root_want super ∷ wants) → AreWhole mid new wants → first ≡ free_blocks old → now ≡ free_blocks new
    → first ≡ now + length (wants_reach new (root_want super ∷ wants) ++ wants_data new wants)
used_by super old mid new wants first now empty loaded whole first_is now_is =
    first_is ∙ ap free_blocks empty ∙ used super mid new wants loaded whole ∙ ap (λ (n : ℕ). n + length (wants_reach new (root_want super ∷ wants) ++ wants_data new wants)) (sym now_is)
