-- An image stands for one volume, by one reach.
use Rattle.std.proofs.Common.{◌≡◌, ◌++◌, ℕ, Bool, true, false, List, [], ◌∷◌, length, map, Contains, nat_eq, refl, sym, ap, ap₂, subst, ◌∙◌}
use Rattle.std.specs.Option.{option_map}
use Rattle.std.specs.FinMap.{get}
use Rattle.std.proofs.lemmas.Bool.{eqb-true, eqb-false}
use Rattle.blk_base.specs.Leaf.{Item}
use Rattle.blk_base.specs.Items.{RootValue, root_value}
use Rattle.blk_base.specs.Superblock.{SuperValue}
use Rattle.format_laws.specs.Checks.{same_ok}
use Rattle.format_laws.specs.Superblock.{super_of-Ok}
use Rattle.flat_model.specs.Volume.{Volume, subvolume_ids}
use Rattle.volume_image.specs.Tree.{Image, IsTree}
use Rattle.volume_image.specs.Roots.{LogRoot, AreRootItems, AreLogRootItems, log_root_want, log_want}
use Rattle.volume_image.specs.Stands.{super_block, data_of, IsCommitted, StandsBy}
use Rattle.volume_image.proofs.Trees.{tree_is_one_lem}
use Rattle.volume_image.proofs.Standing.{committed_same}
use Rattle.volume_image.proofs.Reaches.{head_in, tail_in}
use Rattle.log_image.specs.LogItems.{AreItemsOfLog}
use Rattle.log_image.proofs.OneLog.{log_is_one, same_gets}
use Rattle.log_stands.specs.StandsWithLog.{LogAt, root_of_log, IsLogAt, logs_reach, fresh_data, replayed_sub, IsLogged, IsUnlogged, StandsWith, StandsByLog}

roots_are : (items : List Item) (ids : List ℕ) (roots : List RootValue) → AreRootItems items ids roots → roots ≡ map (λ (item : Item). root_value item.1) items
roots_are [] [] [] a = refl
roots_are [] [] (root ∷ roots) a = absurd a
roots_are [] (id ∷ ids) roots a = absurd a
roots_are (item ∷ items) [] roots a = absurd a
roots_are (item ∷ items) (id ∷ ids) [] a = absurd a
roots_are (item ∷ items) (id ∷ ids) (root ∷ roots) a =
    let rest = roots_are items ids roots a.2 in
    λ i. sym a.1.value i ∷ rest i

-- the roots of logs are what the items of the log root tree say
log_roots_are : (ids : List ℕ) (items : List Item) (logs : List LogRoot) → AreLogRootItems ids items logs → logs ≡ map (λ (item : Item). (item.0.offset, root_value item.1)) items
log_roots_are ids [] [] a = refl
log_roots_are ids [] (log ∷ logs) a = absurd a
log_roots_are ids (item ∷ items) [] a = absurd a
log_roots_are ids (item ∷ items) (log ∷ logs) a =
    let rest = log_roots_are ids items logs a.3 in
    let id : log.0 ≡ item.0.offset = ap (λ (key : Rattle.blk_base.specs.declared.key.Key.Key). key.offset) (sym a.0) in
    λ i. (id i, sym a.2.value i) ∷ rest i

log_at_same : (image : Image) (super : SuperValue) (v w : Volume) (a b : LogAt) → root_of_log a ≡ root_of_log b → IsLogAt image super v a → IsLogAt image super w b → a ≡ b
log_at_same image super v w a b same x y =
    let id : a.id ≡ b.id = ap (λ (p : LogRoot). p.0) same in
    let root : a.root ≡ b.root = ap (λ (p : LogRoot). p.1) same in
    let tree = tree_is_one_lem image super.blocks (log_want super a.root) a.items b.items a.reach b.reach x.tree
    (subst (λ (r : RootValue). IsTree image super.blocks (log_want super r) b.items b.reach) (sym root) y.tree) in
    let log : a.log ≡ b.log = log_is_one a.items (data_of image) a.log b.log x.same (subst (λ (items : List Item). AreItemsOfLog items (data_of image) b.log) (sym tree.0) y.same) in
    λ i. record { id = id i; root = root i; items = tree.0 i; reach = tree.1 i; log = log i }

logs_same : (image : Image) (super : SuperValue) (v w : Volume) (xs ys : List LogAt) → map root_of_log xs ≡ map root_of_log ys → ((log : LogAt) → Contains xs log → IsLogAt image super v log)
    → ((log : LogAt) → Contains ys log → IsLogAt image super w log) → xs ≡ ys
logs_same image super v w [] [] e a b = refl
logs_same image super v w [] (y ∷ ys) e a b = absurd cc
logs_same image super v w (x ∷ xs) [] e a b = absurd cc
logs_same image super v w (x ∷ xs) (y ∷ ys) e a b =
    let first : root_of_log x ≡ root_of_log y = cc in
    let others : map root_of_log xs ≡ map root_of_log ys = cc in
    let here = log_at_same image super v w x y first (a x (head_in x xs)) (b y (head_in y ys)) in
    let rest = logs_same image super v w xs ys others (λ log c. a log (tail_in x log xs c)) (λ log c. b log (tail_in y log ys c)) in
    λ i. here i ∷ rest i

logged_same : (image : Image) (super : SuperValue) (c d : Volume) (near far : List ℕ) (x : IsCommitted image super c near) (y : IsCommitted image super d far) (v w : Volume) (r s : List ℕ)
    → IsLogged image super c near x v r → IsLogged image super d far y w s → (v ≡ w) × (r ≡ s)
logged_same image super c d near far x y v w r s a b =
    let same = committed_same image super c d near far x y in
    let tree = tree_is_one_lem image super.blocks (log_root_want super) a.root_items b.root_items a.root_reach b.root_reach a.root_tree b.root_tree in
    let roots : map root_of_log a.logs ≡ map root_of_log b.logs =
    log_roots_are (subvolume_ids (length x.roots)) a.root_items (map root_of_log a.logs) a.are_roots
    ∙ ap (map (λ (item : Item). (item.0.offset, root_value item.1))) tree.0
    ∙ sym (log_roots_are (subvolume_ids (length y.roots)) b.root_items (map root_of_log b.logs) b.are_roots) in
    let logs = logs_same image super c d a.logs b.logs roots a.are_logs b.are_logs in
    let volume = same_gets v w (λ id. a.replayed id ∙ ap₂ (λ (ls : List LogAt) (before : Volume). option_map (replayed_sub ls id) (get before id)) logs same.0 ∙ sym (b.replayed id)) in
    let reach : r ≡ s =
    a.reached
    ∙ ap₂ (λ (n : List ℕ) (ls : List LogAt). n ++ a.root_reach ++ logs_reach ls ++ fresh_data n ls) same.1 logs
    ∙ ap (λ (root : List ℕ). far ++ root ++ logs_reach b.logs ++ fresh_data far b.logs) tree.1
    ∙ sym b.reached in
    (volume, reach)

unlogged_same : (image : Image) (super : SuperValue) (c d : Volume) (near far : List ℕ) (x : IsCommitted image super c near) (y : IsCommitted image super d far) (v w : Volume) (r s : List ℕ)
    → IsUnlogged super c near v r → IsUnlogged super d far w s → (v ≡ w) × (r ≡ s)
unlogged_same image super c d near far x y v w r s a b =
    let same = committed_same image super c d near far x y in (a.same ∙ same.0 ∙ sym b.same, a.reached ∙ same.1 ∙ sym b.reached)

with_same : (image : Image) (super : SuperValue) (v w : Volume) (r s : List ℕ) → StandsWith image super v r → StandsWith image super w s → (v ≡ w) × (r ≡ s)
with_same image super v w r s a b = go (nat_eq super.log_root 0) refl
  where
    go : (empty : Bool) → nat_eq super.log_root 0 ≡ empty → (v ≡ w) × (r ≡ s)
    go true e =
        let none = eqb-true super.log_root 0 e in
        unlogged_same image super a.committed b.committed a.near b.near a.is_committed b.is_committed v w r s (a.unlogged none) (b.unlogged none)
    go false e =
        let some = eqb-false super.log_root 0 e in
        logged_same image super a.committed b.committed a.near b.near a.is_committed b.is_committed v w r s (a.logged some) (b.logged some)

pub stands_for_one : (image : Image) (v w : Volume) (r s : List ℕ) → StandsByLog image v r → StandsByLog image w s → (v ≡ w) × (r ≡ s)
stands_for_one image v w r s a b =
    let super : a.super ≡ b.super = same_ok (sym (super_of-Ok (super_block image) (length image) a.super a.spelled) ∙ super_of-Ok (super_block image) (length image) b.super b.spelled) in
    with_same image a.super v w r s a.stands (subst (λ (x : SuperValue). StandsWith image x w s) (sym super) b.stands)

-- ---- without a log

pub unlogged_stands : (image : Image) (volume : Volume) (reach : List ℕ) (stands : StandsByLog image volume reach) → stands.super.log_root ≡ 0 → StandsBy image volume reach
unlogged_stands image volume reach stands none =
    let unlogged = stands.stands.unlogged none in
    record {
      super = stands.super;
      spelled = stands.spelled;
      committed = subst (λ (v : Volume). IsCommitted image stands.super v reach) (sym unlogged.same)
          (subst (λ (r : List ℕ). IsCommitted image stands.super stands.stands.committed r) (sym unlogged.reached) stands.stands.is_committed);
      no_log = none;
      room = unlogged.room;
    }

pub stands_unlogged : (image : Image) (volume : Volume) (reach : List ℕ) → StandsBy image volume reach → StandsByLog image volume reach
stands_unlogged image volume reach stands = record {
  super = stands.super;
  spelled = stands.spelled;
  stands = record {
    committed = volume;
    near = reach;
    is_committed = stands.committed;
    unlogged = λ none. record { same = refl; reached = refl; room = stands.room };
    logged = λ some. absurd (some stands.no_log);
  };
}
