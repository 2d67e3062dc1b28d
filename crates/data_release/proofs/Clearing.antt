-- One step over the items of a range: the data blocks of the first of them are let go.
use Rattle.std.proofs.Common.{◌≡◌, ◌∙◌, ◌<◌, ◌++◌, ℕ, Bool, true, false, not, List, [], ◌∷◌, length, Option, Some, None, refl, sym, ap, subst, arith, append_assoc}
use Rattle.std.specs.Prelude.{All, Contains, MatchOption}
use Rattle.blk_base.specs.declared.key.Key.{Key}
use Rattle.blk_base.specs.Keys.{KeyBelow, key_below}
use Rattle.blk_base.specs.Leaf.{Item}
use Rattle.blk_base.specs.Trees.{NoneTwice}
use Rattle.block_table.specs.declared.tree.Tree.{Tree}
use Rattle.block_table.specs.Table.{Table}
use Rattle.block_table.specs.TreeIn.{IsTaken, block_at}
use Rattle.tree_range.specs.Between.{items_between, items_from}
use Rattle.tree_range.specs.Shape.{AreAlike, IsTree, tree_items, tree_reach}
use Rattle.tree_range.proofs.Local.{tree_alike}
use Rattle.tree_range.proofs.Rise.{All-left}
use Rattle.tree_frame.specs.Frame.{AreCurrent}
use Rattle.volume_image.specs.Subvolume.{item_addresses}
use Rattle.volume_image.proofs.Members.{in_filter}
use Rattle.volume_image.proofs.Reaches.{head_in}
use Rattle.table_volume.specs.Gives.{tree_data}
use Rattle.data_release.specs.LetGo.{AreLeft, behind, files, in_front}
use Rattle.data_release.proofs.Left.{all_left, middle_current, middle_gone, middle_once, middle_taken}
use Rattle.data_release.proofs.Ranges.{between_next, key_after, parts_of}

apart : (r a x f b : List ℕ) → r ++ (a ++ ((x ++ f) ++ b)) ≡ (r ++ a) ++ (x ++ (f ++ b))
apart r a x f b = simp append_assoc

joined : (r a f b : List ℕ) → (r ++ a) ++ (f ++ b) ≡ r ++ (a ++ (f ++ b))
joined r a f b = append_assoc r a (f ++ b)

not_true : (b : Bool) → not b ≡ true → b ≡ false
not_true true e = cc
not_true false e = refl

-- what is left of a subvolume's blocks, from a key on in a range
abbrev pub IsCleared : Table → Table → Tree → Key → Key → Key → Type 0
IsCleared old now tree first last from =
    AreLeft old now (tree_reach old tree ++ tree_data old tree)
    (tree_reach old tree ++ (files (in_front first (tree_items old tree)) ++ (files (items_between from last (tree_items old tree)) ++ files (behind last (tree_items old tree)))))

pub cleared_none : (old : Table) (tree : Tree) (first last : Key) → IsTree old tree → KeyBelow first last → All (IsTaken old) (tree_reach old tree ++ tree_data old tree) → AreCurrent old (tree_reach old tree ++ tree_data old tree) → NoneTwice (tree_reach old tree ++ tree_data old tree) → IsCleared old old tree first last first
cleared_none old tree first last stands order taken current once =
    let whole : List ℕ = tree_reach old tree ++ tree_data old tree in
    subst (AreLeft old old whole) (ap (λ (l : List ℕ). tree_reach old tree ++ l) (parts_of first last order (tree_items old tree) stands.order)) (all_left old whole taken current once)

module _ (old now : Table) (tree : Tree) (first last from : Key) (stands : IsTree old tree) (cleared : IsCleared old now tree first last from) where
  alike : AreAlike old now (tree_reach old tree)
  alike =
      All-left (λ (a : ℕ). block_at now a ≡ block_at old a) (tree_reach old tree) (files (in_front first (tree_items old tree)) ++ (files (items_between from last (tree_items old tree)) ++ files (behind last (tree_items old tree)))) cleared.alike

  pub tree_now : IsTree now tree
  tree_now = (tree_alike old now tree alike).2 stands

  pub items_now : tree_items now tree ≡ tree_items old tree
  items_now = (tree_alike old now tree alike).0

  module _ (key : Key) (bytes run : List ℕ) (rest : List Item) (shown : items_between from last (tree_items now tree) ≡ (key, bytes) ∷ rest) (run_is : run ≡ item_addresses (key, bytes)) where
    shown_old : items_between from last (tree_items old tree) ≡ (key, bytes) ∷ rest
    shown_old = ap (items_between from last) (sym items_now) ∙ shown

    split : AreLeft old now (tree_reach old tree ++ tree_data old tree) ((tree_reach old tree ++ files (in_front first (tree_items old tree))) ++ (run ++ (files rest ++ files (behind last (tree_items old tree)))))
    split =
        let r : List ℕ = tree_reach old tree in
        let a : List ℕ = files (in_front first (tree_items old tree)) in
        let b : List ℕ = files (behind last (tree_items old tree)) in
        let is : files (items_between from last (tree_items old tree)) ≡ run ++ files rest = ap files shown_old ∙ ap (λ (l : List ℕ). l ++ files rest) (sym run_is) in
        subst (AreLeft old now (r ++ tree_data old tree)) (ap (λ (l : List ℕ). r ++ (a ++ (l ++ b))) is ∙ apart r a run (files rest) b) cleared

    pub run_taken : All (IsTaken now) run
    run_taken =
        middle_taken old now (tree_reach old tree ++ tree_data old tree) (tree_reach old tree ++ files (in_front first (tree_items old tree))) run (files rest ++ files (behind last (tree_items old tree))) split

    pub run_current : AreCurrent now run
    run_current =
        middle_current old now (tree_reach old tree ++ tree_data old tree) (tree_reach old tree ++ files (in_front first (tree_items old tree))) run (files rest ++ files (behind last (tree_items old tree))) split

    pub run_once : NoneTwice run
    run_once =
        middle_once old now (tree_reach old tree ++ tree_data old tree) (tree_reach old tree ++ files (in_front first (tree_items old tree))) run (files rest ++ files (behind last (tree_items old tree))) split

    first_there : Contains (items_from from (tree_items old tree)) (key, bytes)
    first_there =
        (in_filter (λ (item : Item). not (key_below last item.0)) (items_from from (tree_items old tree)) (key, bytes) (subst (λ (l : List Item). Contains l (key, bytes)) (sym shown_old) (head_in (key, bytes) rest))).0

    pub item_there : Contains (tree_items old tree) (key, bytes)
    item_there = (in_filter (λ (item : Item). not (key_below item.0 from)) (tree_items old tree) (key, bytes) first_there).0

    not_before : key_below key from ≡ false
    not_before =
        not_true (key_below key from) (in_filter (λ (item : Item). not (key_below item.0 from)) (tree_items old tree) (key, bytes) first_there).1

    rest_is : items_between (key_after key) last (tree_items old tree) ≡ rest
    rest_is = between_next from last (tree_items old tree) rest (key, bytes) stands.order shown_old not_before

    pub fewer : length (items_between (key_after key) last (tree_items old tree)) < length (items_between from last (tree_items old tree))
    fewer = let a = ap length rest_is in let b = ap length shown_old in omega (arith, a, b)

    pub cleared_more : (next : Table) → AreLeft now next run [] → IsCleared old next tree first last (key_after key)
    cleared_more next gone =
        let r : List ℕ = tree_reach old tree in
        let a : List ℕ = files (in_front first (tree_items old tree)) in
        let b : List ℕ = files (behind last (tree_items old tree)) in
        let made : AreLeft old next (r ++ tree_data old tree) ((r ++ a) ++ (files rest ++ b)) = middle_gone old now (r ++ tree_data old tree) (r ++ a) run (files rest ++ b) split next gone in
        subst (AreLeft old next (r ++ tree_data old tree)) (joined r a (files rest) b ∙ ap (λ (l : List Item). r ++ (a ++ (files l ++ b))) (sym rest_is)) made

  -- where no item is left in the range, all of its blocks are gone
  pub cleared_all : items_between from last (tree_items now tree) ≡ [] → AreLeft old now (tree_reach old tree ++ tree_data old tree) (tree_reach old tree ++ (files (in_front first (tree_items old tree)) ++ files (behind last (tree_items old tree))))
  cleared_all none =
      let is : items_between from last (tree_items old tree) ≡ [] = ap (items_between from last) (sym items_now) ∙ none in
      subst (AreLeft old now (tree_reach old tree ++ tree_data old tree)) (ap (λ (l : List Item). tree_reach old tree ++ (files (in_front first (tree_items old tree)) ++ (files l ++ files (behind last (tree_items old tree))))) is) cleared

-- an answer that is no Some is None
pub none_is : {T : Type 0} (o : Option T) (P : Type 0) (Q : T → Type 0) → ((x : T) → o ≡ Some x → ⊥) → MatchOption o P Q → P
none_is None P Q h m = m
none_is (Some x) P Q h m = absurd (h x refl)
