-- A step down a tree keeps to the way to the leaf where a key belongs.
use Rattle.std.proofs.Common.{arith, Ok, ◌-◌, ◌<◌, ◌≤◌, ◌≡◌, ℕ, suc, true, false, List, [], ◌∷◌, ◌++◌, length, refl, ap, ◌∙◌, sym, subst, Option, Some, None, ◌⊎◌, inl, inr, append_assoc}
use Rattle.std.specs.Prelude.{All}
use Rattle.std.specs.List.{flat_map}
use Rattle.std.proofs.lemmas.List.{append-nil}
use Rattle.std.proofs.lemmas.List.Elements.{All-nil, All-head, All-tail, All-same, All-append, All-weaker}
use Rattle.std.proofs.lemmas.List.Concat.{flat_map-append}
use Rattle.blk_base.specs.declared.key.Key.{Key}
use Rattle.blk_base.specs.Keys.{KeyBelow}
use Rattle.blk_base.specs.Leaf.{Item, Pointer, node_body_of}
use Rattle.block_table.specs.declared.tree.Tree.{Tree}
use Rattle.block_table.specs.Table.{Table}
use Rattle.blk_base.specs.Trees.{ItemsRise, first_key}
use Rattle.block_table.specs.TreeIn.{block_at}
use Rattle.leaf_view.specs.KeyOrder.{KeyBelow_trans}
use Rattle.tree_range.specs.Shape.{IsTree, items_below, reach_below, node_pointers, tree_items, tree_reach}
use Rattle.tree_range.specs.Between.{AreBelow, AreAbove}
use Rattle.tree_range.specs.Path.{IsChild, IsPath, key_behind}
use Rattle.leaf_view.proofs.NodeLaws.{node_body_means}
use Rattle.tree_range.proofs.Bodies.{node_pointers_are}
use Rattle.tree_range.proofs.Law.{Child}
use Rattle.tree_range.proofs.Rise.{All-right, HasFirst, first_is, first_append, above_from_first, rise_before, rise_head, rise_right}

-- the way begins at the root
pub start : (table : Table) (tree : Tree) (key : Key) → IsTree table tree → IsPath table tree tree.level key tree.root.0 None
start table tree key h = record {
  is_root = true;
  shape = h.shape;
  before = [];
  after = [];
  items = sym (append-nil (tree_items table tree));
  next_is = refl;
  below = All-nil (λ (item : Item). KeyBelow item.0 key);
  above = All-nil (λ (item : Item). KeyBelow key item.0);
  reach_before = [];
  reach_after = [];
  reach = sym (append-nil (tree_reach table tree));
}

-- the list of a node's children, cut around one of them
cut : {A : Type 0} (f : Pointer → List A) (pointers lefts : List Pointer) (pointer : Pointer) (rights : List Pointer) → pointers ≡ lefts ++ pointer ∷ rights → flat_map f pointers ≡ flat_map f lefts ++ (f pointer ++ flat_map f rights)
cut f pointers lefts pointer rights split = ap (flat_map f) split ∙ flat_map-append f lefts (pointer ∷ rights)

regroup : {A : Type 0} (before l m r after : List A) → before ++ ((l ++ (m ++ r)) ++ after) ≡ (before ++ l) ++ (m ++ (r ++ after))
regroup before l m r after = simp append_assoc

-- the first key behind a child
behind_first : (f : Pointer → List Item) (rights : List Pointer) (after : List Item) (next : Option Key) → All (λ (p : Pointer). first_key (f p) ≡ Some p.key) rights → next ≡ first_key after → key_behind rights next ≡ first_key (flat_map f rights ++ after)
behind_first f [] after next firsts is = is
behind_first f (p ∷ ps) after next firsts is =
    sym (first_append (f p ++ flat_map f ps) after p.key (first_append (f p) (flat_map f ps) p.key (All-head (λ (q : Pointer). first_key (f q) ≡ Some q.key) p ps firsts)))

-- all items behind a child are above the key where their first key is
above_behind : (f : Pointer → List Item) (key : Key) (rights : List Pointer) (after : List Item) → All (λ (p : Pointer). first_key (f p) ≡ Some p.key) rights → ItemsRise (flat_map f rights ++ after) → All (λ (p : Pointer). KeyBelow key p.key) rights → AreAbove key after
    → AreAbove key (flat_map f rights ++ after)
above_behind f key [] after firsts rise high above = above
above_behind f key (p ∷ ps) after firsts rise high above =
    above_from_first key p.key ((f p ++ flat_map f ps) ++ after) rise (sym (behind_first f (p ∷ ps) after (first_key after) firsts refl)) (All-head (λ (q : Pointer). KeyBelow key q.key) p ps high)

-- what a child is, among the tree's items
pub record IsCut (items before l m r after : List Item) (key : Key) : Type 0 where
  pub is : items ≡ (before ++ l) ++ (m ++ (r ++ after))
  pub rise : ItemsRise items
  pub first : HasFirst m key

-- all in front of a child whose first key isn't above the key are below it
below_front : (items before l m r after : List Item) (first key : Key) → IsCut items before l m r after first → (first ≡ key) ⊎ KeyBelow first key → AreBelow key (before ++ l)
below_front items before l m r after first key c low =
    let y = c.first.first in
    let shown : items ≡ (before ++ l) ++ y ∷ (c.first.others ++ (r ++ after)) = c.is ∙ ap (λ (part : List Item). (before ++ l) ++ (part ++ (r ++ after))) c.first.items_are in
    let under : AreBelow y.0 (before ++ l) = rise_before (before ++ l) y (c.first.others ++ (r ++ after)) (subst ItemsRise shown c.rise) in
    let under_first : AreBelow first (before ++ l) = subst (λ (k : Key). AreBelow k (before ++ l)) c.first.key_is under in
    elim low [
      | inl e ↦ subst (λ (k : Key). AreBelow k (before ++ l)) e under_first
      | inr k ↦ All-weaker (λ (item : Item). KeyBelow item.0 first) (λ (item : Item). KeyBelow item.0 key) (λ item j. KeyBelow_trans item.0 first key j k) (before ++ l) under_first
    ]

-- all behind a child that begins with the key are above it
above_rest : (items before l m r after : List Item) (first : Key) → IsCut items before l m r after first → AreAbove first (r ++ after)
above_rest items before l m r after first c =
    let y = c.first.first in
    let shown : items ≡ (before ++ l) ++ y ∷ (c.first.others ++ (r ++ after)) = c.is ∙ ap (λ (part : List Item). (before ++ l) ++ (part ++ (r ++ after))) c.first.items_are in
    let all : AreAbove y.0 (c.first.others ++ (r ++ after)) = rise_head y (c.first.others ++ (r ++ after)) (rise_right (before ++ l) (y ∷ (c.first.others ++ (r ++ after))) (subst ItemsRise shown c.rise)) in
    subst (λ (k : Key). AreAbove k (r ++ after)) c.first.key_is (All-right (λ (item : Item). KeyBelow y.0 item.0) c.first.others (r ++ after) all)

-- the way goes on through the child where the key belongs
pub step : (table : Table) (tree : Tree) (level : ℕ) (key : Key) (at : ℕ) (next : Option Key) (child : ℕ) (behind : Option Key) → IsTree table tree → IsPath table tree (suc level) key at next → IsChild (node_pointers table at) key next child behind
    → IsPath table tree level key child behind
step table tree level key at next child behind is_tree path is_child =
    let f : Pointer → List Item = λ (pointer : Pointer). items_below level table pointer.at in
    let g : Pointer → List ℕ = λ (pointer : Pointer). reach_below level table pointer.at in
    let c = is_child.is_place in
    let pointers = node_pointers table at in
    let children : All (Child level table) (c.lefts ++ c.pointer ∷ c.rights) = All-same (Child level table) (c.lefts ++ c.pointer ∷ c.rights) pointers (sym c.split) path.shape.3 in
    let right_ones = All-right (Child level table) c.lefts (c.pointer ∷ c.rights) children in
    let here = All-head (Child level table) c.pointer c.rights right_ones in
    let rights = All-tail (Child level table) c.pointer c.rights right_ones in
    let firsts : All (λ (p : Pointer). first_key (f p) ≡ Some p.key) c.rights = All-weaker (Child level table) (λ (p : Pointer). first_key (f p) ≡ Some p.key) (λ p k. k.1) c.rights rights in
    let left = flat_map f c.lefts in
    let middle = f c.pointer in
    let right = flat_map f c.rights in
    let items : tree_items table tree ≡ (path.before ++ left) ++ (middle ++ (right ++ path.after)) =
    path.items ∙ ap (λ (l : List Item). path.before ++ (l ++ path.after)) (cut f pointers c.lefts c.pointer c.rights c.split) ∙ regroup path.before left middle right path.after in
    let is_cut : IsCut (tree_items table tree) path.before left middle right path.after c.pointer.key =
    record { is = items; rise = is_tree.order; first = first_is middle c.pointer.key here.1 } in
    let rise_behind : ItemsRise (right ++ path.after) = rise_right middle (right ++ path.after) (rise_right (path.before ++ left) (middle ++ (right ++ path.after)) (subst ItemsRise items is_tree.order)) in
    let below : AreBelow key (path.before ++ left) = elim c.low [
      | inl e ↦ All-append (λ (item : Item). KeyBelow item.0 key) path.before left path.below (All-same (λ (item : Item). KeyBelow item.0 key) left [] (ap (flat_map f) e) (All-nil (λ (item : Item). KeyBelow item.0 key)))
      | inr low ↦ below_front (tree_items table tree) path.before left middle right path.after c.pointer.key key is_cut low
    ] in
    let above : AreAbove key (right ++ path.after) = elim c.high [
      | inl e ↦ subst (λ (k : Key). AreAbove k (right ++ path.after)) e (above_rest (tree_items table tree) path.before left middle right path.after c.pointer.key is_cut)
      | inr high ↦ above_behind f key c.rights path.after firsts rise_behind high path.above
    ] in
    let made : IsPath table tree level key c.pointer.at (key_behind c.rights next) = record {
      is_root = false;
      shape = here.0;
      before = path.before ++ left;
      after = right ++ path.after;
      items = items;
      next_is = behind_first f c.rights path.after next firsts path.next_is;
      below = below;
      above = above;
      reach_before = path.reach_before ++ at ∷ flat_map g c.lefts;
      reach_after = flat_map g c.rights ++ path.reach_after;
      reach = path.reach ∙ ap (λ (l : List ℕ). path.reach_before ++ ((at ∷ l) ++ path.reach_after)) (cut g pointers c.lefts c.pointer c.rights c.split) ∙ regroup path.reach_before (at ∷ flat_map g c.lefts) (g c.pointer) (flat_map g c.rights) path.reach_after;
    } in
    subst (λ (a : ℕ). IsPath table tree level key a behind) (sym is_child.at_is) (subst (λ (k : Option Key). IsPath table tree level key c.pointer.at k) (sym is_child.behind_is) made)

-- the same where the node is read from the bytes of its block
pub stepped : (table : Table) (tree : Tree) (level : ℕ) (key : Key) (at : ℕ) (next : Option Key) (child : ℕ) (behind : Option Key) (bytes : List ℕ) (pointers : List Pointer) → IsTree table tree → IsPath table tree level key at next → 0 < level
    → bytes ≡ (block_at table at).bytes → node_body_of bytes ≡ Ok pointers → IsChild pointers key next child behind → IsPath table tree (level - 1) key child behind
stepped table tree level key at next child behind bytes pointers is_tree path high bytes_are body is_child =
    let one : level ≡ suc (level - 1) = omega arith in
    let same : node_pointers table at ≡ pointers = node_pointers_are table at pointers (subst (λ (b : List ℕ). node_body_of b ≡ Ok pointers) bytes_are body) in
    step table tree (level - 1) key at next child behind is_tree (subst (λ (n : ℕ). IsPath table tree n key at next) one path) (subst (λ (l : List Pointer). IsChild l key next child behind) (sym same) is_child)

pub least_of : (bytes : List ℕ) (pointers : List Pointer) → node_body_of bytes ≡ Ok pointers → 1 ≤ length pointers
least_of bytes pointers body = (node_body_means bytes pointers body).least
