-- Walks over trees one after another: what they meet together, and their first fault.
use Rattle.std.proofs.Common.{◌≡◌, ◌++◌, ℕ, List, [], ◌∷◌, length, map, Contains, Option, Some, None, Result, Ok, Err, refl, sym, ap, subst, ◌∙◌, append-nil, append_assoc}
use Rattle.std.proofs.lemmas.List.{map-append}
use Rattle.blk_base.specs.declared.key.Want.{Want}
use Rattle.blk_base.specs.Bytes.{Image}
use Rattle.blk_base.specs.Items.{RootValue}
use Rattle.blk_base.specs.Superblock.{SuperValue}
use Rattle.block_table.specs.Table.{Table}
use Rattle.disk_model.specs.Disk.{IfTold}
use Rattle.block_table.specs.declared.tree.Tree.{Tree}
use Rattle.tree_range.specs.Shape.{tree_items, tree_reach}
use Rattle.image_order.specs.FirstFault.{BadTree, FoundTree, FoundTrees, ImageFault, ◌>>=◌, or_fault, trees_of, with_tree}
use Rattle.image_order.proofs.Steps.{bind_ok}
use Rattle.tree_load.specs.Loaded.{AreTaken, HasBytes, IsWalkAfter, IsWalkFault, taken_of, tree_wanted}
use Rattle.tree_load.proofs.Taken.{taken_are}
use Rattle.blk_base.specs.Leaf.{Item}
use Rattle.std.proofs.lemmas.List.{append_cancel_left}
use Rattle.volume_image.proofs.Walk.{walked_lem}
use Rattle.tree_mount.proofs.Lists.{each_alone, each_joined}
use Rattle.tree_load.proofs.Tables.{bytes_joined, taken_more}
use Rattle.volume_image.specs.declared.fault.LoadFault.{LoadFault}
use Rattle.volume_image.specs.declared.fault.LoadFault.TheVariants as loads
use Rattle.volume_image.specs.Roots.{sub_want}
use Rattle.volume_image.specs.Tree.{HasWalked, IsTree as IsTreeOn, Walked, tree_of}
use Rattle.tree_mount.specs.declared.fault.MountFault.{MountFault}
use Rattle.tree_mount.specs.declared.fault.MountFault.TheVariants.{Super, Log, Load, Incoherent, NoRoom, Disk, OutOfMemory}
use Rattle.tree_mount.specs.declared.fault.MountFault.TheVariants as mounts
use Rattle.tree_mount.specs.Faults.{load_fault}
use Rattle.tree_mount.specs.Trees.{AreLoaded, AreWalked, HasWalksFault, IsWalksFault, found_tree, items_of, reach_of, sub_wants, walks_of, wants_reach}
use Rattle.tree_mount.proofs.Loading.{found_kept, near_kept, near_reach, reach_alone, reach_joined}

-- ---- by wants, and by numbers and roots

pub by_wants : (image : Image) (super : SuperValue) (ids : List ℕ) (roots : List RootValue) (reached : List ℕ) → trees_of image super ids roots reached ≡ walks_of image super.blocks (sub_wants super ids roots) reached
by_wants image super [] roots reached = refl
by_wants image super (id ∷ ids) [] reached = refl
by_wants image super (id ∷ ids) (root ∷ roots) reached = go (λ now. by_wants image super ids roots now) (or_fault BadTree (tree_of image super.blocks (sub_want super id root) reached))
  where
    go : ((now : List ℕ) → trees_of image super ids roots now ≡ walks_of image super.blocks (sub_wants super ids roots) now) → (r : Result Walked ImageFault)
        → (r >>= (λ walked. trees_of image super ids roots walked.reached >>= (λ rest. Ok (with_tree (record { id = id; want = sub_want super id root; items = walked.items }) rest))))
        ≡ (r >>= (λ walked. walks_of image super.blocks (sub_wants super ids roots) walked.reached >>= (λ rest. Ok (with_tree (record { id = id; want = sub_want super id root; items = walked.items }) rest))))
    go later (Ok walked) = ap (λ (r : Result FoundTrees ImageFault). r >>= (λ rest. Ok (with_tree (record { id = id; want = sub_want super id root; items = walked.items }) rest))) (later walked.reached)
    go later (Err fault) = refl

-- ---- walks joined

same_ok : {A : Type 0} (x y : A) → ◌≡◌ {A = Result A ImageFault} (Ok x) (Ok y) → x ≡ y
same_ok x y e = cc

err_bind : {A B : Type 0} (r : Result A ImageFault) (f : A → Result B ImageFault) (fault : ImageFault) → r ≡ Err fault → ◌>>=◌ r f ≡ Err fault
err_bind r f fault e = ap (λ q. ◌>>=◌ q f) e

pub walks_joined : (image : Image) (blocks : ℕ) (near far : List Want) (reached : List ℕ) (a b : FoundTrees) → walks_of image blocks near reached ≡ Ok a → walks_of image blocks far a.reached ≡ Ok b
    → walks_of image blocks (near ++ far) reached ≡ Ok (record { trees = a.trees ++ b.trees; reached = b.reached })
walks_joined image blocks [] far reached a b one two =
    let same : record { trees = []; reached = reached } ≡ a = same_ok _ a one in
    subst (λ (x : FoundTrees). walks_of image blocks far reached ≡ Ok (record { trees = x.trees ++ b.trees; reached = b.reached })) same
    (ap (walks_of image blocks far) (ap (λ (x : FoundTrees). x.reached) same) ∙ two)
walks_joined image blocks (want ∷ near) far reached a b one two =
    let first = bind_ok {A = Walked} _ _ a one in
    let walked = first.0 in
    let second = bind_ok {A = FoundTrees} _ _ a first.2 in
    let rest = second.0 in
    let same : with_tree (record { id = want.owner; want = want; items = walked.items }) rest ≡ a = same_ok _ a second.2 in
    let later = walks_joined image blocks near far walked.reached rest b second.1 (ap (walks_of image blocks far) (ap (λ (x : FoundTrees). x.reached) same) ∙ two) in
    ap (λ (r : Result Walked ImageFault). r >>= (λ w. walks_of image blocks (near ++ far) w.reached >>= (λ others. Ok (with_tree (record { id = want.owner; want = want; items = w.items }) others)))) first.1
    ∙ ap (λ (r : Result FoundTrees ImageFault). r >>= (λ others. Ok (with_tree (record { id = want.owner; want = want; items = walked.items }) others))) later
    ∙ ap (λ (x : FoundTrees). Ok (record { trees = x.trees ++ b.trees; reached = b.reached })) same

pub walks_fail : (image : Image) (blocks : ℕ) (near far : List Want) (reached : List ℕ) (fault : ImageFault) → walks_of image blocks near reached ≡ Err fault → walks_of image blocks (near ++ far) reached ≡ Err fault
walks_fail image blocks [] far reached fault e = absurd cc
walks_fail image blocks (want ∷ near) far reached fault e = go (or_fault BadTree (tree_of image blocks want reached)) (λ now. walks_fail image blocks near far now fault) e
  where
    rest_fails : (walked : Walked) (r s : Result FoundTrees ImageFault) → (r ≡ Err fault → s ≡ Err fault) → (r >>= (λ rest. Ok (with_tree (record { id = want.owner; want = want; items = walked.items }) rest))) ≡ Err fault
        → (s >>= (λ rest. Ok (with_tree (record { id = want.owner; want = want; items = walked.items }) rest))) ≡ Err fault
    rest_fails walked (Ok rest) s later h = absurd cc
    rest_fails walked (Err other) s later h = let same : other ≡ fault = cc in err_bind s _ fault (later (ap Err same))

    go : (r : Result Walked ImageFault) → ((now : List ℕ) → walks_of image blocks near now ≡ Err fault → walks_of image blocks (near ++ far) now ≡ Err fault)
        → (r >>= (λ walked. walks_of image blocks near walked.reached >>= (λ rest. Ok (with_tree (record { id = want.owner; want = want; items = walked.items }) rest)))) ≡ Err fault
        → (r >>= (λ walked. walks_of image blocks (near ++ far) walked.reached >>= (λ rest. Ok (with_tree (record { id = want.owner; want = want; items = walked.items }) rest)))) ≡ Err fault
    go (Ok walked) later h = rest_fails walked (walks_of image blocks near walked.reached) (walks_of image blocks (near ++ far) walked.reached) (later walked.reached) h
    go (Err other) later h = h

pub walks_fail_later : (image : Image) (blocks : ℕ) (near far : List Want) (reached : List ℕ) (a : FoundTrees) (fault : ImageFault) → walks_of image blocks near reached ≡ Ok a → walks_of image blocks far a.reached ≡ Err fault
    → walks_of image blocks (near ++ far) reached ≡ Err fault
walks_fail_later image blocks [] far reached a fault one two = ap (walks_of image blocks far) (ap (λ (x : FoundTrees). x.reached) (same_ok (record { trees = []; reached = reached }) a one)) ∙ two
walks_fail_later image blocks (want ∷ near) far reached a fault one two =
    let first = bind_ok {A = Walked} _ _ a one in
    let walked = first.0 in
    let second = bind_ok {A = FoundTrees} _ _ a first.2 in
    let rest = second.0 in
    let same : with_tree (record { id = want.owner; want = want; items = walked.items }) rest ≡ a = same_ok _ a second.2 in
    let later = walks_fail_later image blocks near far walked.reached rest fault second.1 (ap (walks_of image blocks far) (ap (λ (x : FoundTrees). x.reached) same) ∙ two) in
    ap (λ (r : Result Walked ImageFault). r >>= (λ w. walks_of image blocks (near ++ far) w.reached >>= (λ others. Ok (with_tree (record { id = want.owner; want = want; items = w.items }) others)))) first.1
    ∙ err_bind _ _ fault later

-- ---- walks over what was loaded

pub walked_none : (image : Image) (table : Table) → AreWalked image table table []
walked_none image table = record { bytes = λ at c. absurd (Rattle.volume_image.proofs.Lists.in_nothing at c); trees = λ want c. absurd (Rattle.volume_image.proofs.Lists.in_nothing want c); walked = λ reached taken. ap (λ (l : List ℕ). Ok (record { trees = []; reached = l })) (sym (append-nil reached)) }

pub walked_one : (image : Image) (old new : Table) (want : Want) → HasBytes image new (reach_of new want) → IsWalkAfter image old want (items_of new want) (reach_of new want) → AreWalked image old new (want ∷ [])
walked_one image old new want bytes walk = record {
  bytes = subst (HasBytes image new) (sym (reach_alone new want)) bytes;
  trees = each_alone (λ (w : Want). IsTreeOn image (length old.slots) w (items_of new w) (reach_of new w)) want tree;
  walked = λ reached taken.
      ap (λ (r : Result Walked LoadFault). or_fault BadTree r >>= (λ walked. walks_of image (length old.slots) [] walked.reached >>= (λ rest. Ok (with_tree (record { id = want.owner; want = want; items = walked.items }) rest)))) (walk reached taken)
      ∙ ap (λ (l : List ℕ). Ok (record { trees = found_tree new want ∷ []; reached = reached ++ l })) (sym (reach_alone new want));
}
  where
    tree : IsTreeOn image (length old.slots) want (items_of new want) (reach_of new want)
    tree =
        let walked : Walked = record { items = items_of new want; reached = taken_of old ++ reach_of new want } in
        let is : HasWalked image (length old.slots) want (taken_of old) walked = (walked_lem image (length old.slots) want (taken_of old) walked).0 (walk (taken_of old) (taken_are old)) in
        subst (IsTreeOn image (length old.slots) want (items_of new want)) (append_cancel_left (taken_of old) is.reach (reach_of new want) (sym is.reached)) is.tree

module _ (image : Image) (old mid new : Table) (near far : List Want) (one : AreLoaded old mid near) (two : AreLoaded mid new far) where
  pub walked_more : AreWalked image old mid near → AreWalked image mid new far → AreWalked image old new (near ++ far)
  walked_more before behind = record {
    bytes = subst (HasBytes image new) (sym whole_reach) (bytes_joined image old mid new (wants_reach mid near) (wants_reach new far) one.load two.load before.bytes behind.bytes);
    trees = each_joined (λ (w : Want). IsTreeOn image (length old.slots) w (items_of new w) (reach_of new w)) near far first_trees
        (λ want c. subst (λ (n : ℕ). IsTreeOn image n want (items_of new want) (reach_of new want)) one.load.size (behind.trees want c));
    walked = λ reached taken.
        let again = taken_more old mid reached (wants_reach mid near) one.load taken in
        let later = ap (λ (n : ℕ). walks_of image n far (reached ++ wants_reach mid near)) (sym one.load.size) ∙ behind.walked (reached ++ wants_reach mid near) again in
        walks_joined image (length old.slots) near far reached _ _ (before.walked reached taken) later
        ∙ (λ i. Ok (record { trees = trees_are i; reached = reached_is reached i }));
  }
    where
      first_trees : (want : Want) → Contains near want → IsTreeOn image (length old.slots) want (items_of new want) (reach_of new want)
      first_trees want c =
          let kept = near_kept old mid new near far one two want c in
          let with_items = subst (λ (l : List Item). IsTreeOn image (length old.slots) want l (reach_of mid want)) (sym kept.items) (before.trees want c) in
          subst (IsTreeOn image (length old.slots) want (items_of new want)) (sym kept.reach) with_items

      whole_reach : wants_reach new (near ++ far) ≡ wants_reach mid near ++ wants_reach new far
      whole_reach = reach_joined new near far ∙ ap (λ (l : List ℕ). l ++ wants_reach new far) (near_reach old mid new near far one two)

      trees_are : map (found_tree mid) near ++ map (found_tree new) far ≡ map (found_tree new) (near ++ far)
      trees_are = ap (λ (l : List FoundTree). l ++ map (found_tree new) far) (sym (found_kept mid new near (near_kept old mid new near far one two))) ∙ sym (map-append (found_tree new) near far)

      reached_is : (reached : List ℕ) → (reached ++ wants_reach mid near) ++ wants_reach new far ≡ reached ++ wants_reach new (near ++ far)
      reached_is reached = append_assoc reached (wants_reach mid near) (wants_reach new far) ∙ ap (λ (l : List ℕ). reached ++ l) (sym whole_reach)

-- ---- faults

-- the fault of one tree
pub one_fails : (image : Image) (table : Table) (want : Want) (fault : LoadFault) → IsWalkFault image table want fault → IsWalksFault image table (want ∷ []) (load_fault fault)
one_fails image table want fault = go fault
  where
    carry : (found : LoadFault) → ((reached : List ℕ) → AreTaken table reached → tree_of image (length table.slots) want reached ≡ Err found) → (reached : List ℕ) → AreTaken table reached → walks_of image (length table.slots) (want ∷ []) reached ≡ Err (BadTree found)
    carry found fails reached taken =
        ap (λ (r : Result Walked LoadFault). or_fault BadTree r >>= (λ walked. walks_of image (length table.slots) [] walked.reached >>= (λ rest. Ok (with_tree (record { id = want.owner; want = want; items = walked.items }) rest)))) (fails reached taken)

    go : (found : LoadFault) → IsWalkFault image table want found → IsWalksFault image table (want ∷ []) (load_fault found)
    go (loads.Block at why) h = carry (loads.Block at why) h
    go (loads.Outside at) h = carry (loads.Outside at) h
    go (loads.Twice at) h = carry (loads.Twice at) h
    go (loads.Level at) h = carry (loads.Level at) h
    go (loads.Thin at) h = carry (loads.Thin at) h
    go loads.Disk h = tt
    go loads.OutOfMemory h = tt

-- that of some trees is that of all, where those in front of them were loaded
pub part_fails : (image : Image) (old mid : Table) (near part far all : List Want) (fault : MountFault) → AreLoaded old mid near → AreWalked image old mid near → all ≡ near ++ (part ++ far) → IsWalksFault image mid part fault → IsWalksFault image old all fault
part_fails image old mid near part far all fault one before split = go fault
  where
    go : (found : MountFault) → IsWalksFault image mid part found → IsWalksFault image old all found
    go (Load found) h = λ reached taken.
        let again = taken_more old mid reached (wants_reach mid near) one.load taken in
        let here = ap (λ (n : ℕ). walks_of image n part (reached ++ wants_reach mid near)) (sym one.load.size) ∙ h (reached ++ wants_reach mid near) again in
        ap (λ (l : List Want). walks_of image (length old.slots) l reached) split
        ∙ walks_fail_later image (length old.slots) near (part ++ far) reached _ (BadTree found) (before.walked reached taken) (walks_fail image (length old.slots) part far (reached ++ wants_reach mid near) (BadTree found) here)
    go Disk h = tt
    go OutOfMemory h = tt
    go (Super found) h = absurd h
    go Log h = absurd h
    go (mounts.Item at key why) h = absurd h
    go (Incoherent id ino) h = absurd h
    go (NoRoom free need) h = absurd h

-- ---- where the disk tells its image

pub told_part_fails : (seen told : Option Image) (old mid : Table) (near part far all : List Want) (fault : MountFault) → told ≡ seen → AreLoaded old mid near → IfTold seen (λ image. AreWalked image old mid near) → IfTold told (λ image. HasWalksFault image mid part fault)
    → all ≡ near ++ (part ++ far) → IfTold seen (λ image. HasWalksFault image old all fault)
told_part_fails seen told old mid near part far all fault same one before h split = go seen before (subst (λ (s : Option Image). IfTold s (λ image. HasWalksFault image mid part fault)) same h)
  where
    go : (s : Option Image) → IfTold s (λ image. AreWalked image old mid near) → IfTold s (λ image. HasWalksFault image mid part fault) → IfTold s (λ image. HasWalksFault image old all fault)
    go None b h = tt
    go (Some image) b h = record { is = part_fails image old mid near part far all fault one b split h.is }

pub told_walked_more : (seen told : Option Image) (old mid new : Table) (near far : List Want) → told ≡ seen → AreLoaded old mid near → AreLoaded mid new far → IfTold seen (λ image. AreWalked image old mid near) → IfTold told (λ image. AreWalked image mid new far)
    → IfTold seen (λ image. AreWalked image old new (near ++ far))
told_walked_more seen told old mid new near far same one two before behind = go seen before (subst (λ (s : Option Image). IfTold s (λ image. AreWalked image mid new far)) same behind)
  where
    go : (s : Option Image) → IfTold s (λ image. AreWalked image old mid near) → IfTold s (λ image. AreWalked image mid new far) → IfTold s (λ image. AreWalked image old new (near ++ far))
    go None b h = tt
    go (Some image) b h = walked_more image old mid new near far one two b h

pub told_walked_one : (seen : Option Image) (old new : Table) (want : Want) (tree : Tree) → tree ≡ tree_wanted want → IfTold seen (λ image. HasBytes image new (tree_reach new tree)) → IfTold seen (λ image. IsWalkAfter image old want (tree_items new tree) (tree_reach new tree))
    → IfTold seen (λ image. AreWalked image old new (want ∷ []))
told_walked_one None old new want tree is bytes walk = tt
told_walked_one (Some image) old new want tree is bytes walk =
    walked_one image old new want (subst (λ (t : Tree). HasBytes image new (tree_reach new t)) is bytes) (subst (λ (t : Tree). IsWalkAfter image old want (tree_items new t) (tree_reach new t)) is walk)

pub told_one_fails : (seen : Option Image) (table : Table) (want : Want) (fault : LoadFault) → IfTold seen (λ image. IsWalkFault image table want fault) → IfTold seen (λ image. HasWalksFault image table (want ∷ []) (load_fault fault))
told_one_fails None table want fault h = tt
told_one_fails (Some image) table want fault h = record { is = one_fails image table want fault h }
