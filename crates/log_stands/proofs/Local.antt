-- An image stands for a volume by the blocks of its reach alone.
use Rattle.std.proofs.Common.{◌≡◌, ◌++◌, ◌/◌, ℕ, Bool, true, false, not, List, [], ◌∷◌, length, map, filter, Contains, Option, nat_eq, slice_get, unwrap_or, refl, sym, ap, subst, ◌∙◌, inl, inr}
use Rattle.std.proofs.lemmas.Bool.{not_from_false, eqb-true, eqb-false}
use Rattle.std.proofs.lemmas.List.Elements.{All-contains, All-contains_itself, All-weaker, Contains-append_left, Contains-append_right, Contains-append_cases}
use Rattle.std.proofs.lemmas.Option.{unwrap_or-slice_get}
use Rattle.std.specs.FinMap.{entries}
use Rattle.blk_base.specs.Bytes.{zeros}
use Rattle.blk_base.specs.Items.{RootValue}
use Rattle.blk_base.specs.Superblock.{SuperValue, IsSuper}
use Rattle.flat_model.specs.Volume.{Subvolume, Volume, subvolume_ids}
use Rattle.logged_volume.specs.Numbers.{is_in}
use Rattle.logged_volume.proofs.Members.{number_set_has, in_gives}
use Rattle.volume_image.specs.Tree.{Image, IsTree, block_of}
use Rattle.volume_image.specs.Roots.{root_want, sub_want, log_root_want, log_want}
use Rattle.volume_image.specs.Subvolume.{data_addresses}
use Rattle.volume_image.specs.Stands.{super_block, data_of, IsSubvolumeAt, AreSubvolumesAt, IsCommitted, AgreesOn}
use Rattle.volume_image.proofs.Lists.{in_nothing}
use Rattle.volume_image.proofs.Trees.{SameBlocks, tree_is_one_lem, tree_local}
use Rattle.volume_image.proofs.Members.{filter_in, flat_map_in}
use Rattle.volume_image.proofs.Standing.{items_local}
use Rattle.log_image.proofs.OneLog.{log_is_local}
use Rattle.log_stands.specs.StandsWithLog.{TreeAt, AreTreesAt, LogAt, IsLogAt, trees_reach, logs_reach, logs_data, fresh_data, IsLogged, StandsWith, StandsByLog}

-- two images have the same block, or none, at each address that stands in the list
abbrev pub SameAt : Image → Image → List ℕ → Type 0
SameAt one two reach = (at : ℕ) → Contains reach at → slice_get one (at / 4096) ≡ slice_get two (at / 4096)

pub same_blocks : (one two : Image) (reach : List ℕ) → SameAt one two reach → SameBlocks one two reach
same_blocks one two reach same =
    All-weaker (Contains reach) (λ at. block_of one at ≡ block_of two at)
    (λ at c. sym (unwrap_or-slice_get one (at / 4096) []) ∙ ap (λ (o : Option (List ℕ)). unwrap_or o []) (same at c) ∙ unwrap_or-slice_get two (at / 4096) []) reach (All-contains_itself reach)

pub near_of : (one two : Image) (near far : List ℕ) → SameAt one two (near ++ far) → SameAt one two near
near_of one two near far same at c = same at (Contains-append_left near far at c)

pub far_of : (one two : Image) (near far : List ℕ) → SameAt one two (near ++ far) → SameAt one two far
far_of one two near far same at c = same at (Contains-append_right near far at c)

-- ---- what a superblock commits to

pub subvolume_local : (one two : Image) (super : SuperValue) (id : ℕ) (root : RootValue) (sub : Subvolume) (reach : List ℕ) → IsSubvolumeAt one super id root sub reach → SameAt one two reach → IsSubvolumeAt two super id root sub reach
subvolume_local one two super id root sub reach at same =
    let all = subst (SameAt one two) at.reached same in
    record {
      items = at.items;
      tree_reach = at.tree_reach;
      tree = tree_local one two super.blocks (sub_want super id root) at.items at.tree_reach at.tree (same_blocks one two at.tree_reach (near_of one two at.tree_reach (data_addresses at.items) all));
      same = items_local (data_of one) (data_of two) at.items sub at.same (far_of one two at.tree_reach (data_addresses at.items) all);
      allowed = at.allowed;
      reached = at.reached;
    }

pub subvolumes_local : (one two : Image) (super : SuperValue) (roots : List RootValue) (subs : List (ℕ × Subvolume)) (reach : List ℕ) → AreSubvolumesAt one super roots subs reach → SameAt one two reach → AreSubvolumesAt two super roots subs reach
subvolumes_local one two super [] [] reach at same = at
subvolumes_local one two super [] (sub ∷ subs) reach at same = absurd at
subvolumes_local one two super (root ∷ roots) [] reach at same = absurd at
subvolumes_local one two super (root ∷ roots) (sub ∷ subs) reach (near, far, here, there, is_reach) same =
    let all = subst (SameAt one two) is_reach same in
    (near, far, subvolume_local one two super sub.0 root sub.1 near here (near_of one two near far all), subvolumes_local one two super roots subs far there (far_of one two near far all), is_reach)

abbrev pub committed_local : (one two : Image) (super : SuperValue) (volume : Volume) (reach : List ℕ) → IsCommitted one super volume reach → SameAt one two reach → IsCommitted two super volume reach
committed_local one two super volume reach is same = record {
  items = is.items;
  roots = is.roots;
  root_reach = is.root_reach;
  sub_reach = is.sub_reach;
  root_tree = tree_local one two super.blocks (root_want super) is.items is.root_reach is.root_tree
      (same_blocks one two is.root_reach (near_of one two is.root_reach is.sub_reach (subst (SameAt one two) is.reached same)));
  least = is.least;
  most = is.most;
  root_items = is.root_items;
  ids = is.ids;
  subvolumes = subvolumes_local one two super is.roots (entries volume) is.sub_reach is.subvolumes (far_of one two is.root_reach is.sub_reach (subst (SameAt one two) is.reached same));
  reached = is.reached;
  once = is.once;
  coherent = is.coherent;
}

-- ---- the trees of subvolumes

-- the blocks of the subvolumes' trees are reached by them
pub trees_inside : (image : Image) (super : SuperValue) (ids : List ℕ) (roots : List RootValue) (trees : List TreeAt) (subs : List (ℕ × Subvolume)) (reach : List ℕ) → AreTreesAt image super ids roots trees
    → AreSubvolumesAt image super roots subs reach → map (λ (entry : ℕ × Subvolume). entry.0) subs ≡ ids → (at : ℕ) → Contains (trees_reach trees) at → Contains reach at
trees_inside image super [] [] [] subs reach are at same x c = absurd (in_nothing x c)
trees_inside image super [] [] (tree ∷ trees) subs reach are at same x c = absurd are
trees_inside image super [] (root ∷ roots) trees subs reach are at same x c = absurd are
trees_inside image super (id ∷ ids) [] trees subs reach are at same x c = absurd are
trees_inside image super (id ∷ ids) (root ∷ roots) [] subs reach are at same x c = absurd are
trees_inside image super (id ∷ ids) (root ∷ roots) (tree ∷ trees) [] reach are at same x c = absurd at
trees_inside image super (id ∷ ids) (root ∷ roots) (tree ∷ trees) (sub ∷ subs) reach are (near, far, here, there, is_reach) same x c =
    let id_is : sub.0 ≡ id = cc in
    let others : map (λ (entry : ℕ × Subvolume). entry.0) subs ≡ ids = cc in
    let tree_is = subst (λ (n : ℕ). IsTree image super.blocks (sub_want super n root) tree.items tree.reach) (sym id_is) are.1 in
    let one = tree_is_one_lem image super.blocks (sub_want super sub.0 root) tree.items here.items tree.reach here.tree_reach tree_is here.tree in
    subst (λ (r : List ℕ). Contains r x) (sym is_reach) (elim (Contains-append_cases tree.reach (trees_reach trees) x c) [
      | inl near_it ↦ Contains-append_left near far x (subst (λ (r : List ℕ). Contains r x) (sym here.reached) (Contains-append_left here.tree_reach (data_addresses here.items) x (subst (λ (r : List ℕ). Contains r x) one.1 near_it)))
      | inr later ↦ Contains-append_right near far x (trees_inside image super ids roots trees subs far are.2 there others x later)
    ])

trees_local : (one two : Image) (super : SuperValue) (ids : List ℕ) (roots : List RootValue) (trees : List TreeAt) → AreTreesAt one super ids roots trees → SameAt one two (trees_reach trees) → AreTreesAt two super ids roots trees
trees_local one two super [] [] [] are same = are
trees_local one two super [] [] (tree ∷ trees) are same = absurd are
trees_local one two super [] (root ∷ roots) trees are same = absurd are
trees_local one two super (id ∷ ids) [] trees are same = absurd are
trees_local one two super (id ∷ ids) (root ∷ roots) [] are same = absurd are
trees_local one two super (id ∷ ids) (root ∷ roots) (tree ∷ trees) are same = (
  are.0,
  tree_local one two super.blocks (sub_want super id root) tree.items tree.reach are.1 (same_blocks one two tree.reach (near_of one two tree.reach (trees_reach trees) same)),
  trees_local one two super ids roots trees are.2 (far_of one two tree.reach (trees_reach trees) same),
)

-- ---- logs

-- a data block of a log is reached by the committed volume, or else beside it
data_inside : (near : List ℕ) (logs : List LogAt) (at : ℕ) → Contains (logs_data logs) at → Contains (near ++ fresh_data near logs) at
data_inside near logs at c = go (is_in near at) refl
  where
    go : (found : Bool) → is_in near at ≡ found → Contains (near ++ fresh_data near logs) at
    go true e = Contains-append_left near (fresh_data near logs) at (in_gives near at e)
    go false e =
        Contains-append_right near (fresh_data near logs) at
        (number_set_has (filter (λ x. not (is_in near x)) (logs_data logs)) at (filter_in (λ x. not (is_in near x)) (logs_data logs) at c (not_from_false (is_in near at) e)))

module _ (one two : Image) (super : SuperValue) (committed : Volume) (near : List ℕ) (is : IsCommitted one super committed near) (volume : Volume) (reach : List ℕ) (logged : IsLogged one super committed near is volume reach) (same : SameAt one two reach) where
  all : SameAt one two (near ++ logged.root_reach ++ logs_reach logged.logs ++ fresh_data near logged.logs)
  all = subst (SameAt one two) logged.reached same

  same_trees_all : SameAt one two (near ++ logged.root_reach ++ logs_reach logged.logs)
  same_trees_all = near_of one two (near ++ logged.root_reach ++ logs_reach logged.logs) (fresh_data near logged.logs) all

  same_fresh : SameAt one two (fresh_data near logged.logs)
  same_fresh = far_of one two (near ++ logged.root_reach ++ logs_reach logged.logs) (fresh_data near logged.logs) all

  same_logs : SameAt one two (logs_reach logged.logs)
  same_logs = far_of one two (near ++ logged.root_reach) (logs_reach logged.logs) same_trees_all

  same_first : SameAt one two (near ++ logged.root_reach)
  same_first = near_of one two (near ++ logged.root_reach) (logs_reach logged.logs) same_trees_all

  same_root : SameAt one two logged.root_reach
  same_root = far_of one two near logged.root_reach same_first

  pub same_near : SameAt one two near
  same_near = near_of one two near logged.root_reach same_first

  same_data : SameAt one two (logs_data logged.logs)
  same_data at c = elim (Contains-append_cases near (fresh_data near logged.logs) at (data_inside near logged.logs at c)) [
    | inl here ↦ same_near at here
    | inr there ↦ same_fresh at there
  ]

  log_local : (log : LogAt) → Contains logged.logs log → IsLogAt one super committed log → IsLogAt two super committed log
  log_local log c at = record {
    sub = at.sub;
    there = at.there;
    tree = tree_local one two super.blocks (log_want super log.root) log.items log.reach at.tree
        (same_blocks one two log.reach (λ x d. same_logs x (flat_map_in (λ (l : LogAt). l.reach) logged.logs log x c d)));
    same = log_is_local (data_of one) (data_of two) log.items log.log at.same (λ x d. same_data x (flat_map_in (λ (l : LogAt). data_addresses l.items) logged.logs log x c d));
    accepted = at.accepted;
  }

  same_trees : SameAt one two (trees_reach logged.trees)
  same_trees at c =
      let inside = trees_inside one super (subvolume_ids (length is.roots)) is.roots logged.trees (entries committed) is.sub_reach logged.are_trees is.subvolumes is.ids at c in
      same_near at (subst (λ (r : List ℕ). Contains r at) (sym is.reached) (Contains-append_right is.root_reach is.sub_reach at inside))

  pub logged_local : IsLogged two super committed near (committed_local one two super committed near is same_near) volume reach
  logged_local = record {
    trees = logged.trees;
    are_trees = trees_local one two super (subvolume_ids (length is.roots)) is.roots logged.trees logged.are_trees same_trees;
    root_items = logged.root_items;
    root_reach = logged.root_reach;
    root_tree = tree_local one two super.blocks (log_root_want super) logged.root_items logged.root_reach logged.root_tree (same_blocks one two logged.root_reach same_root);
    logs = logged.logs;
    are_roots = logged.are_roots;
    are_logs = λ log c. log_local log c (logged.are_logs log c);
    replayed = logged.replayed;
    coherent = logged.coherent;
    blocks_once = logged.blocks_once;
    data_allowed = logged.data_allowed;
    no_tree_block = logged.no_tree_block;
    data_once = logged.data_once;
    reached = logged.reached;
    room = logged.room;
  }

-- ---- both

pub stands_is_local : (one two : Image) (volume : Volume) (reach : List ℕ) → StandsByLog one volume reach → AgreesOn reach one two → StandsByLog two volume reach
stands_is_local one two volume reach stands agrees =
    let block : super_block one ≡ super_block two = sym (unwrap_or-slice_get one 16 (zeros 4096)) ∙ ap (λ (o : Option (List ℕ)). unwrap_or o (zeros 4096)) agrees.super ∙ unwrap_or-slice_get two 16 (zeros 4096) in
    record {
      super = stands.super;
      spelled = subst (λ (size : ℕ). IsSuper (super_block two) size stands.super) agrees.size (subst (λ (bytes : List ℕ). IsSuper bytes (length one) stands.super) block stands.spelled);
      stands = go (nat_eq stands.super.log_root 0) refl;
    }
  where
    same : SameAt one two reach
    same at c = All-contains (λ at. slice_get one (at / 4096) ≡ slice_get two (at / 4096)) reach at agrees.blocks c

    with_super : StandsWith one stands.super volume reach
    with_super = stands.stands

    go : (empty : Bool) → nat_eq stands.super.log_root 0 ≡ empty → StandsWith two stands.super volume reach
    go true e =
        let none = eqb-true stands.super.log_root 0 e in
        let unlogged = with_super.unlogged none in
        record {
          committed = with_super.committed;
          near = with_super.near;
          is_committed = committed_local one two stands.super with_super.committed with_super.near with_super.is_committed (subst (SameAt one two) unlogged.reached same);
          unlogged = λ z. unlogged;
          logged = λ some. absurd (some none);
        }
    go false e =
        let some = eqb-false stands.super.log_root 0 e in
        let logged = with_super.logged some in
        record {
          committed = with_super.committed;
          near = with_super.near;
          is_committed = committed_local one two stands.super with_super.committed with_super.near with_super.is_committed
              (same_near one two stands.super with_super.committed with_super.near with_super.is_committed volume reach logged same);
          unlogged = λ none. absurd (some none);
          logged = λ z. logged_local one two stands.super with_super.committed with_super.near with_super.is_committed volume reach logged same;
        }
