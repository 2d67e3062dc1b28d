-- Places of items in leaves of a tree, and the items that are left from there on.
use Rattle.std.proofs.Common.{◌≡◌, ◌≤◌, ◌<◌, ◌+◌, ℕ, zero, suc, false, List, [], ◌∷◌, ◌++◌, length, take, drop, slice_get, refl, ap, ◌∙◌, sym, subst, Option, Some, None, inl, inr, arith, append_assoc}
use Rattle.std.specs.Prelude.{All}
use Rattle.std.proofs.lemmas.Bool.{cases_lt}
use Rattle.std.proofs.lemmas.List.{take-append-drop}
use Rattle.std.proofs.lemmas.List.Elements.{All-append, All-head}
use Rattle.std.proofs.lemmas.Option.{slice_get_within}
use Rattle.blk_base.specs.declared.key.Key.{Key}
use Rattle.blk_base.specs.declared.key.Addr.{Addr}
use Rattle.blk_base.specs.Keys.{KeyBelow, key_below}
use Rattle.blk_base.specs.Leaf.{Item}
use Rattle.block_table.specs.declared.tree.Tree.{Tree}
use Rattle.block_table.specs.Table.{Table}
use Rattle.blk_base.specs.Trees.{ItemsRise, first_key}
use Rattle.leaf_view.specs.KeyOrder.{KeyBelow_irrefl}
use Rattle.tree_range.specs.Shape.{IsTree, leaf_items, tree_items}
use Rattle.tree_range.specs.Between.{AreBelow, AreAbove, items_from, items_from_some, items_up_to}
use Rattle.tree_range.specs.Path.{IsPath, IsStart, key_here}
use Rattle.tree_range.specs.Spot.{IsItemSpot, IsSpot, leaf_rest, spot_items}
use Rattle.tree_range.specs.declared.spot.Spot.{Spot}
use Rattle.tree_range.proofs.Cuts.{drop_here}
use Rattle.tree_range.proofs.Rise.{rise_right}
use Rattle.tree_range.proofs.Under.{from_key, not_below, rest_is, up_to_none, up_to_more}

key_here_first : (items after : List Item) (next : Option Key) → next ≡ first_key after → key_here items next ≡ first_key (items ++ after)
key_here_first [] after next is = is
key_here_first (x ∷ xs) after next is = refl

drop_all : {A : Type 0} (xs : List A) (place : ℕ) → length xs ≤ place → drop place xs ≡ []
drop_all [] zero h = refl
drop_all [] (suc place) h = refl
drop_all (x ∷ xs) zero h = absurd (omega arith)
drop_all (x ∷ xs) (suc place) h = drop_all xs place (omega arith)

-- what is left from a place on, as the rest of its leaf and what is behind
pub rest_of : (table : Table) (tree : Tree) (spot : Spot) (s : IsSpot table tree spot) → IsTree table tree → spot_items table tree spot ≡ leaf_rest table spot ++ s.after
rest_of table tree spot s is_tree =
    let rest = leaf_rest table spot ++ s.after in
    let first : key_here (leaf_rest table spot) spot.next ≡ first_key rest = key_here_first (leaf_rest table spot) s.after spot.next s.next_is in
    let all = tree_items table tree in
    let rise : ItemsRise (s.front ++ rest) = subst ItemsRise s.items is_tree.order in
    ap (λ (k : Option Key). items_from_some k all) first ∙ ap (items_from_some (first_key rest)) s.items ∙ rest_is s.front rest rise

regroup : {A : Type 0} (before t d after : List A) → before ++ ((t ++ d) ++ after) ≡ (before ++ t) ++ (d ++ after)
regroup before t d after = simp append_assoc

-- ---- the place where the items from a key on begin

pub record IsBegun (table : Table) (tree : Tree) (key : Key) (spot : Spot) : Type 0 where
  pub is : IsSpot table tree spot
  pub items : spot_items table tree spot ≡ items_from key (tree_items table tree)

pub begun : (table : Table) (tree : Tree) (key : Key) (at : Addr) (place : ℕ) (next : Option Key) → IsTree table tree → IsPath table tree 0 key at.0 next → IsStart (leaf_items table at.0) key place → IsBegun table tree key (record { leaf = at; place = place; next = next })
begun table tree key at place next is_tree path start =
    let leaf = leaf_items table at.0 in
    let spot : Spot = record { leaf = at; place = place; next = next } in
    let shown : tree_items table tree ≡ (path.before ++ take place leaf) ++ (drop place leaf ++ path.after) =
    path.items ∙ ap (λ (l : List Item). path.before ++ (l ++ path.after)) (sym (take-append-drop place leaf)) ∙ regroup path.before (take place leaf) (drop place leaf) path.after in
    let is : IsSpot table tree spot = record { is_root = path.is_root; shape = path.shape; inside = start.inside; front = path.before ++ take place leaf; after = path.after; items = shown; next_is = path.next_is } in
    let below : AreBelow key (path.before ++ take place leaf) = All-append (λ (item : Item). KeyBelow item.0 key) path.before (take place leaf) path.below start.below in
    let above : All (λ (item : Item). key_below item.0 key ≡ false) (drop place leaf ++ path.after) = All-append (λ (item : Item). key_below item.0 key ≡ false) (drop place leaf) path.after start.from (not_below key path.after path.above) in
    let from : items_from key (tree_items table tree) ≡ drop place leaf ++ path.after = ap (items_from key) shown ∙ from_key key (path.before ++ take place leaf) (drop place leaf ++ path.after) below above in
    record { is = is; items = rest_of table tree spot is is_tree ∙ sym from }

first_above : (key next : Key) (after : List Item) → AreAbove key after → first_key after ≡ Some next → KeyBelow key next
first_above key next [] above h = absurd cc
first_above key next (x ∷ xs) above h =
    let same : x.0 ≡ next = cc in subst (λ (k : Key). KeyBelow key k) same (All-head (λ (item : Item). KeyBelow key item.0) x xs above)

pub next_above : (table : Table) (tree : Tree) (key : Key) (at : ℕ) (next : Option Key) (first : Key) → IsPath table tree 0 key at next → next ≡ Some first → KeyBelow key first
next_above table tree key at next first path h = first_above key first path.after path.above (sym path.next_is ∙ h)

-- ---- the place of the next item

pub here : (table : Table) (tree : Tree) (spot : Spot) → IsSpot table tree spot → spot.place < length (leaf_items table spot.leaf.0) → IsItemSpot table tree (spot_items table tree spot) spot
here table tree spot s within = record { is = s; holds = within; same = refl }

none_first : (after : List Item) → first_key after ≡ None → after ≡ []
none_first [] h = refl
none_first (x ∷ xs) h = absurd cc

pub none_left : (table : Table) (tree : Tree) (spot : Spot) → IsTree table tree → IsSpot table tree spot → length (leaf_items table spot.leaf.0) ≤ spot.place → spot.next ≡ None → spot_items table tree spot ≡ []
none_left table tree spot is_tree s past none =
    let end : leaf_rest table spot ≡ [] = drop_all (leaf_items table spot.leaf.0) spot.place past in
    ap (λ (k : Option Key). items_from_some k (tree_items table tree)) (ap (λ (l : List Item). key_here l spot.next) end ∙ none)

-- at a leaf's end what is left begins with the next key
at_end : (table : Table) (tree : Tree) (spot : Spot) (next : Key) → length (leaf_items table spot.leaf.0) ≤ spot.place → spot.next ≡ Some next → spot_items table tree spot ≡ items_from next (tree_items table tree)
at_end table tree spot next past some =
    let end : leaf_rest table spot ≡ [] = drop_all (leaf_items table spot.leaf.0) spot.place past in
    ap (λ (k : Option Key). items_from_some k (tree_items table tree)) (ap (λ (l : List Item). key_here l spot.next) end ∙ some)

left_first : (table : Table) (tree : Tree) (spot : Spot) → IsTree table tree → IsSpot table tree spot → length (leaf_items table spot.leaf.0) ≤ spot.place → first_key (spot_items table tree spot) ≡ spot.next
left_first table tree spot is_tree s past =
    let end : leaf_rest table spot ≡ [] = drop_all (leaf_items table spot.leaf.0) spot.place past in
    ap first_key (rest_of table tree spot s is_tree ∙ ap (λ (l : List Item). l ++ s.after) end) ∙ sym s.next_is

pub there : (table : Table) (tree : Tree) (spot new : Spot) (next : Key) → IsTree table tree → IsSpot table tree spot → length (leaf_items table spot.leaf.0) ≤ spot.place → spot.next ≡ Some next
    → IsSpot table tree new → spot_items table tree new ≡ items_from next (tree_items table tree) → ((first : Key) → new.next ≡ Some first → KeyBelow next first)
    → IsItemSpot table tree (spot_items table tree spot) new
there table tree spot new next is_tree s past some is items above =
    let same : spot_items table tree new ≡ spot_items table tree spot = items ∙ sym (at_end table tree spot next past some) in
    record {
      is = is;
      same = same;
      holds = elim (cases_lt new.place (length (leaf_items table new.leaf.0))) [
        | inl within ↦ within
        | inr end ↦
            let first : new.next ≡ Some next = sym (left_first table tree new is_tree is end) ∙ ap first_key same ∙ left_first table tree spot is_tree s past ∙ some in
            absurd (KeyBelow_irrefl next (above next first))
      ];
    }

-- ---- one item further

further_group : {A : Type 0} (front : List A) (x : A) (rest after : List A) → front ++ ((x ∷ rest) ++ after) ≡ (front ++ x ∷ []) ++ (rest ++ after)
further_group front x rest after = simp append_assoc

rest_more : (table : Table) (spot : Spot) (x : Item) → slice_get (leaf_items table spot.leaf.0) spot.place ≡ Some x → leaf_rest table spot ≡ x ∷ drop (spot.place + 1) (leaf_items table spot.leaf.0)
rest_more table spot x h =
    let one : suc spot.place ≡ spot.place + 1 = omega arith in
    drop_here (leaf_items table spot.leaf.0) spot.place x h ∙ ap (λ (n : ℕ). x ∷ drop n (leaf_items table spot.leaf.0)) one

pub further : (table : Table) (tree : Tree) (spot : Spot) (x : Item) → IsSpot table tree spot → slice_get (leaf_items table spot.leaf.0) spot.place ≡ Some x → IsSpot table tree (record { leaf = spot.leaf; place = spot.place + 1; next = spot.next })
further table tree spot x s h =
    let rest = drop (spot.place + 1) (leaf_items table spot.leaf.0) in
    record {
      is_root = s.is_root;
      shape = s.shape;
      inside = omega (arith, slice_get_within (leaf_items table spot.leaf.0) spot.place x h);
      front = s.front ++ x ∷ [];
      after = s.after;
      items = s.items ∙ ap (λ (l : List Item). s.front ++ (l ++ s.after)) (rest_more table spot x h) ∙ further_group s.front x rest s.after;
      next_is = s.next_is;
    }

pub further_items : (table : Table) (tree : Tree) (spot : Spot) (x : Item) → IsTree table tree → IsSpot table tree spot → slice_get (leaf_items table spot.leaf.0) spot.place ≡ Some x
    → spot_items table tree spot ≡ x ∷ spot_items table tree (record { leaf = spot.leaf; place = spot.place + 1; next = spot.next })
unfolding further
further_items table tree spot x is_tree s h =
    rest_of table tree spot s is_tree ∙ ap (λ (l : List Item). l ++ s.after) (rest_more table spot x h)
    ∙ ap (λ (l : List Item). x ∷ l) (sym (rest_of table tree (record { leaf = spot.leaf; place = spot.place + 1; next = spot.next }) (further table tree spot x s h) is_tree))

-- what is left rises
rest_rises : (table : Table) (tree : Tree) (spot : Spot) → IsTree table tree → IsSpot table tree spot → ItemsRise (spot_items table tree spot)
rest_rises table tree spot is_tree s =
    subst ItemsRise (sym (rest_of table tree spot s is_tree)) (rise_right s.front (leaf_rest table spot ++ s.after) (subst ItemsRise s.items is_tree.order))

-- where the item there has a key above the last one, none is left up to it
pub none_up_to : (table : Table) (tree : Tree) (spot : Spot) (x : Item) (last : Key) → IsTree table tree → IsSpot table tree spot → slice_get (leaf_items table spot.leaf.0) spot.place ≡ Some x → KeyBelow last x.0 → items_up_to last (spot_items table tree spot) ≡ []
none_up_to table tree spot x last is_tree s h above =
    let rest = spot_items table tree (record { leaf = spot.leaf; place = spot.place + 1; next = spot.next }) in
    let shown : spot_items table tree spot ≡ x ∷ rest = further_items table tree spot x is_tree s h in
    ap (items_up_to last) shown ∙ up_to_none last x rest (subst ItemsRise shown (rest_rises table tree spot is_tree s)) above

-- else it is the first of these
pub one_up_to : (table : Table) (tree : Tree) (spot : Spot) (x : Item) (last : Key) → IsTree table tree → IsSpot table tree spot → slice_get (leaf_items table spot.leaf.0) spot.place ≡ Some x → key_below last x.0 ≡ false
    → items_up_to last (spot_items table tree spot) ≡ x ∷ items_up_to last (spot_items table tree (record { leaf = spot.leaf; place = spot.place + 1; next = spot.next }))
one_up_to table tree spot x last is_tree s h low =
    let rest = spot_items table tree (record { leaf = spot.leaf; place = spot.place + 1; next = spot.next }) in
    ap (items_up_to last) (further_items table tree spot x is_tree s h) ∙ up_to_more last x rest low
