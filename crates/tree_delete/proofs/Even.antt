-- Two children of a node share their pointers, and the node has pointers to what they become.
use Rattle.std.proofs.Common.{◌≡◌, ◌≢◌, ◌≤◌, ◌<◌, ◌+◌, ℕ, suc, true, List, [], ◌∷◌, ◌++◌, length, slice_get, refl, ap, ◌∙◌, sym, subst, Option, Some, None, arith, inl, inr, append_assoc}
use Rattle.std.specs.Prelude.{All, Contains, insert, remove}
use Rattle.std.specs.List.{flat_map}
use Rattle.std.proofs.lemmas.Option.{same_Some}
use Rattle.std.proofs.lemmas.List.{append-nil, length-append, length-map}
use Rattle.std.proofs.lemmas.List.Elements.{All-nil, All-cons, All-head, All-tail, All-append, All-same, All-weaker, All-map}
use Rattle.blk_base.specs.declared.key.Key.{Key}
use Rattle.blk_base.specs.Address.{IsAllowed}
use Rattle.blk_base.specs.Keys.{KeyBelow, keys_rise}
use Rattle.blk_base.specs.Leaf.{Pointer}
use Rattle.block_table.specs.declared.state.SlotState.TheVariants.{Free, LetGo}
use Rattle.block_table.specs.Table.{Table, free_blocks}
use Rattle.blk_base.specs.Trees.{NoneTwice}
use Rattle.block_table.specs.TreeIn.{block_at}
use Rattle.leaf_view.specs.KeyOrder.{KeyBelow_trans}
use Rattle.leaf_view.specs.Search.{IsPlace, children_of, pointer_keys}
use Rattle.node_edit.specs.Pointers.{with_child}
use Rattle.tree_range.specs.Path.{key_behind}
use Rattle.tree_range.specs.Part.{times_in}
use Rattle.tree_range.specs.Shape.{AreAlike}
use Rattle.tree_blocks.specs.Steps.{IsDirtyNode, node_at}
use Rattle.tree_blocks.proofs.Orders.{node_rise, pointer_keys-append}
use Rattle.tree_frame.specs.Frame.{IsEdit}
use Rattle.tree_delete.specs.Steps.{HasPair, IsDirtyPair, IsEven, IsPair, IsShared, ats_of}
use Rattle.tree_frame.proofs.EditLaws.{edits_join}
use Rattle.tree_range.proofs.Cuts.{All-unmap, at_cut}
use Rattle.tree_delete.proofs.Edits.{IsCarried, IsWhole, carry}
use Rattle.tree_delete.proofs.Lists.{contains_behind, contains_first, contains_two, times_append}
use Rattle.tree_delete.proofs.Pairs.{dirty_node, node_most, keys_before, one_once, place_between, same_allowed, same_dirty, same_node, two_once}

three_once : (a b c : ℕ) → a ≢ b → a ≢ c → b ≢ c → NoneTwice (a ∷ b ∷ c ∷ [])
three_once a b c ab ac bc = ((λ there. elim (contains_two b c a there) [ inl e ↦ ab (sym e) | inr e ↦ ac (sym e) ]), two_once b c bc)

three_all : (P : ℕ → Type 0) (a b c : ℕ) → P a → P b → P c → All P (a ∷ b ∷ c ∷ [])
three_all P a b c x y z = All-cons P a (b ∷ c ∷ []) x (All-cons P b (c ∷ []) y (All-cons P c [] z (All-nil P)))

first_last : (a : ℕ) (xs : List ℕ) (x : ℕ) → times_in x (a ∷ xs) ≡ times_in x (xs ++ a ∷ [])
first_last a xs x = omega (arith, times_append x (a ∷ []) xs, times_append x xs (a ∷ []))

pair_whole_at : (table : Table) (at place : ℕ) (h : HasPair table at place) → IsWhole table (at ∷ h.left.at ∷ h.right.at ∷ [])
pair_whole_at table at place h =
    let here = dirty_node table at h.allowed h.node in
    record {
      once = three_once at h.left.at h.right.at h.left_apart h.right_apart h.pair.apart;
      used = three_all (λ (a : ℕ). (block_at table a).state ≢ Free) at h.left.at h.right.at here.taken h.pair.left_node.taken h.pair.right_node.taken;
      current = three_all (λ (a : ℕ). (block_at table a).state ≢ LetGo) at h.left.at h.right.at here.current h.pair.left_node.current h.pair.right_node.current;
    }

-- the node stays while its children share
pub record IsSharedUnder (old mid : Table) (at : ℕ) (before made : List ℕ) : Type 0 where
  pub edit : IsEdit old mid (at ∷ before) (at ∷ made)
  pub whole : IsWhole mid (at ∷ made)
  pub same : block_at mid at ≡ block_at old at

pub shared_under : (old mid : Table) (at place : ℕ) (h : HasPair old at place) (made : List ℕ) → IsShared old mid h.left.at h.right.at made → IsSharedUnder old mid at (h.left.at ∷ h.right.at ∷ []) made
shared_under old mid at place h made shared =
    let two = h.left.at ∷ h.right.at ∷ [] in
    let c = carry old mid two made (at ∷ []) (at ∷ two) (at ∷ made) shared.edit shared.once (pair_whole_at old at place h) (first_last at two) (first_last at made) in
    record { edit = c.edit; whole = c.whole; same = All-head (λ (a : ℕ). block_at mid a ≡ block_at old a) at [] c.alike }

-- the lists of what was made stay while the node is written
lists_same : (mid new : Table) (pointers : List Pointer) → AreAlike mid new (ats_of pointers) → flat_map (λ (p : Pointer). node_at new p.at) pointers ≡ flat_map (node_at mid) (ats_of pointers)
lists_same mid new [] h = refl
lists_same mid new (p ∷ pointers) h =
    let P : ℕ → Type 0 = λ (a : ℕ). block_at new a ≡ block_at mid a in
    let here = same_node mid new p.at (All-head P p.at (ats_of pointers) h) in
    ap (λ (l : List Pointer). l ++ flat_map (λ (q : Pointer). node_at new q.at) pointers) here ∙ ap (λ (l : List Pointer). node_at mid p.at ++ l) (lists_same mid new pointers (All-tail P p.at (ats_of pointers) h))

-- what holds of each made block by its bytes and state still does
still : (P : Table → Pointer → Type 0) (mid new : Table) (pointers : List Pointer) → ((p : Pointer) → block_at new p.at ≡ block_at mid p.at → P mid p → P new p) → AreAlike mid new (ats_of pointers) → All (P mid) pointers → All (P new) pointers
still P mid new [] step h all = All-nil (P new)
still P mid new (p ∷ pointers) step h all =
    let Q : ℕ → Type 0 = λ (a : ℕ). block_at new a ≡ block_at mid a in
    All-cons (P new) p pointers (step p (All-head Q p.at (ats_of pointers) h) (All-head (P mid) p pointers all)) (still P mid new pointers step (All-tail Q p.at (ats_of pointers) h) (All-tail (P mid) p pointers all))

pub evened : (old mid new : Table) (at place : ℕ) (h : HasPair old at place) (pointers : List Pointer) → IsShared old mid h.left.at h.right.at (ats_of pointers) → All (λ (p : Pointer). key_behind (node_at mid p.at) None ≡ Some p.key) pointers → 1 ≤ length pointers → length pointers ≤ 2
    → IsEdit mid new (at ∷ []) (at ∷ []) → IsDirtyNode new at → node_at new at ≡ h.lefts ++ (pointers ++ h.rights) → new.spare ≡ mid.spare → free_blocks new ≡ free_blocks mid → IsEven old new at place h
evened old mid new at place h pointers shared firsts some few edit node is spare free =
    let made = ats_of pointers in
    let under = shared_under old mid at place h made shared in
    let c = carry mid new (at ∷ []) (at ∷ []) made (at ∷ made) (at ∷ made) edit (one_once at) under.whole (λ x. refl) (λ x. refl) in
    let size : length new.slots ≡ length mid.slots = edit.size in
    record {
      node = node;
      made = pointers;
      pointers = is;
      lists = lists_same mid new pointers c.alike ∙ shared.lists;
      nodes = still (λ t p. IsDirtyNode t p.at) mid new pointers (λ p same k. same_dirty mid new p.at same k) c.alike (All-unmap (IsDirtyNode mid) (λ (p : Pointer). p.at) pointers shared.nodes);
      least = still (λ t p. 30 ≤ length (node_at t p.at)) mid new pointers (λ p same k. subst (λ (l : List Pointer). 30 ≤ length l) (sym (same_node mid new p.at same)) k) c.alike (All-unmap (λ (a : ℕ). 30 ≤ length (node_at mid a)) (λ (p : Pointer). p.at) pointers shared.least);
      allowed = still (λ t p. IsAllowed (length t.slots) p.at) mid new pointers (λ p same k. same_allowed mid new p.at size k) c.alike (All-unmap (λ (a : ℕ). IsAllowed (length mid.slots) a) (λ (p : Pointer). p.at) pointers shared.allowed);
      firsts = still (λ t p. key_behind (node_at t p.at) None ≡ Some p.key) mid new pointers (λ p same k. ap (λ (l : List Pointer). key_behind l None) (same_node mid new p.at same) ∙ k) c.alike firsts;
      some = some;
      few = few;
      once = c.whole.once;
      edit = edits_join old mid new (at ∷ h.left.at ∷ h.right.at ∷ []) (at ∷ made) (at ∷ made) under.edit c.edit;
      blocks = let long = length-map pointers (λ (p : Pointer). p.at) in record { spare = omega (arith, shared.blocks.spare, spare, long); free = omega (arith, shared.blocks.free, free, long); balance = omega (arith, shared.blocks.balance, spare, free) };
    }

-- ---- the node's list of pointers

abbrev pub left_to : Pointer → ℕ → Pointer
left_to pointer at = record pointer { at = at; generation = 0 }

pub with_left : (lefts : List Pointer) (a : Pointer) (rest : List Pointer) (at : ℕ) → with_child (lefts ++ a ∷ rest) (length lefts) at 0 ≡ lefts ++ left_to a at ∷ rest
with_left [] a rest at = refl
with_left (p ∷ lefts) a rest at = ap (λ (l : List Pointer). p ∷ l) (with_left lefts a rest at)

remove_cut : (lefts : List Pointer) (a b : Pointer) (rights : List Pointer) → remove (lefts ++ a ∷ b ∷ rights) (suc (length lefts)) ≡ lefts ++ a ∷ rights
remove_cut [] a b rights = refl
remove_cut (p ∷ lefts) a b rights = ap (λ (l : List Pointer). p ∷ l) (remove_cut lefts a b rights)

pub pointed : (pointers lefts : List Pointer) (a b : Pointer) (rights : List Pointer) (place at : ℕ) → pointers ≡ lefts ++ a ∷ b ∷ rights → length lefts ≡ place → remove (with_child pointers place at 0) (place + 1) ≡ lefts ++ left_to a at ∷ rights
pointed pointers lefts a b rights place at split long =
    let one : place + 1 ≡ suc (length lefts) = omega (arith, long) in
    ap (λ (n : ℕ). remove (with_child pointers place at 0) n) one ∙ ap (λ (n : ℕ). remove (with_child pointers n at 0) (suc (length lefts))) (sym long) ∙ ap (λ (l : List Pointer). remove (with_child l (length lefts) at 0) (suc (length lefts))) split ∙ ap (λ (l : List Pointer). remove l (suc (length lefts))) (with_left lefts a (b ∷ rights) at) ∙ remove_cut lefts (left_to a at) b rights

insert_cut : (lefts : List Pointer) (a x : Pointer) (rights : List Pointer) → insert (lefts ++ a ∷ rights) (suc (length lefts)) x ≡ lefts ++ a ∷ x ∷ rights
insert_cut [] a x rights = refl
insert_cut (p ∷ lefts) a x rights = ap (λ (l : List Pointer). p ∷ l) (insert_cut lefts a x rights)

pub inserted : (pointers lefts : List Pointer) (a x : Pointer) (rights : List Pointer) (place : ℕ) → pointers ≡ lefts ++ a ∷ rights → length lefts ≡ place → insert pointers (place + 1) x ≡ lefts ++ a ∷ x ∷ rights
inserted pointers lefts a x rights place split long =
    let one : place + 1 ≡ suc (length lefts) = omega (arith, long) in
    ap (λ (n : ℕ). insert pointers n x) one ∙ ap (λ (l : List Pointer). insert l (suc (length lefts)) x) split ∙ insert_cut lefts a x rights

-- ---- keys

head_of : (front back all : List Pointer) (key : Key) → 1 ≤ length front → front ++ back ≡ all → key_behind all None ≡ Some key → key_behind front None ≡ Some key
head_of [] back all key some is h = absurd (omega (arith, some))
head_of (p ∷ front) back all key some is h = ap (λ (l : List Pointer). key_behind l None) is ∙ h

-- where the first list has a key, its first one is the first of both
pub first_of : (front back : List Pointer) (key : Key) → key_behind front None ≡ Some key → key_behind (front ++ back) None ≡ Some key
first_of [] back key h = absurd cc
first_of (p ∷ front) back key h = h

pub left_first : (front back left right : List Pointer) (key : Key) → 1 ≤ length front → front ++ back ≡ left ++ right → key_behind left None ≡ Some key → key_behind front None ≡ Some key
left_first front back left right key some is h = head_of front back (left ++ right) key some is (first_of left right key h)

-- a later pointer's key is above the first one
behind_head : (front back : List Pointer) (low key : Key) → keys_rise (pointer_keys (front ++ back)) ≡ true → key_behind front None ≡ Some low → key_behind back None ≡ Some key → KeyBelow low key
behind_head [] back low key rise h k = absurd cc
behind_head (p ∷ front) [] low key rise h k = absurd cc
behind_head (p ∷ front) (q ∷ back) low key rise h k =
    let low_is : p.key ≡ low = same_Some p.key low h in
    let key_is : q.key ≡ key = same_Some q.key key k in
    let keys : keys_rise (p.key ∷ (pointer_keys front ++ q.key ∷ pointer_keys back)) ≡ true = subst (λ (l : List Key). keys_rise (p.key ∷ l) ≡ true) (pointer_keys-append front (q ∷ back)) rise in
    let below : KeyBelow p.key q.key = All-head (λ (x : Key). KeyBelow x q.key) p.key (pointer_keys front) (keys_before (p.key ∷ pointer_keys front) q.key (pointer_keys back) keys) in
    subst (λ (x : Key). KeyBelow x key) low_is (subst (λ (y : Key). KeyBelow p.key y) key_is below)

-- a key of the back part is below what all of them are below
back_before : (front back rights : List Pointer) (key : Key) → All (λ (inner : Pointer). All (λ (other : Pointer). KeyBelow inner.key other.key) rights) (front ++ back) → key_behind back None ≡ Some key → All (λ (other : Pointer). KeyBelow key other.key) rights
back_before [] [] rights key all h = absurd cc
back_before [] (q ∷ back) rights key all h =
    let same : q.key ≡ key = same_Some q.key key h in
    subst (λ (k : Key). All (λ (other : Pointer). KeyBelow k other.key) rights) same (All-head (λ (inner : Pointer). All (λ (other : Pointer). KeyBelow inner.key other.key) rights) q back all)
back_before (p ∷ front) back rights key all h = back_before front back rights key (All-tail (λ (inner : Pointer). All (λ (other : Pointer). KeyBelow inner.key other.key) rights) p (front ++ back) all) h

-- the second pointer's place in the node
pub right_place : (old : Table) (at place : ℕ) (h : HasPair old at place) (front back : List Pointer) (key : Key) (left : ℕ) → front ++ back ≡ node_at old h.left.at ++ node_at old h.right.at → 1 ≤ length front → key_behind back None ≡ Some key → IsPlace (pointer_keys (h.lefts ++ left_to h.left left ∷ h.rights)) key (place + 1)
right_place old at place h front back key left is some first =
    let pointer_rise : keys_rise (pointer_keys (h.lefts ++ h.left ∷ h.right ∷ h.rights)) ≡ true = subst (λ (l : List Pointer). keys_rise (pointer_keys l) ≡ true) h.split (node_rise (block_at old at).bytes h.node.body) in
    let row : keys_rise (pointer_keys h.lefts ++ h.left.key ∷ pointer_keys (h.right ∷ h.rights)) ≡ true = subst (λ (l : List Key). keys_rise l ≡ true) (pointer_keys-append h.lefts (h.left ∷ h.right ∷ h.rights)) pointer_rise in
    let low = left_first front back (node_at old h.left.at) (node_at old h.right.at) h.left.key some is h.first in
    let inner : keys_rise (pointer_keys (front ++ back)) ≡ true = subst (λ (l : List Pointer). keys_rise (pointer_keys l) ≡ true) (sym is) h.pair.rise in
    let above : KeyBelow h.left.key key = behind_head front back h.left.key key inner low first in
    let before : All (λ (x : Key). KeyBelow x key) (pointer_keys h.lefts) = All-weaker (λ (x : Key). KeyBelow x h.left.key) (λ (x : Key). KeyBelow x key) (λ x k. KeyBelow_trans x h.left.key key k above) (pointer_keys h.lefts) (keys_before (pointer_keys h.lefts) h.left.key (pointer_keys (h.right ∷ h.rights)) row) in
    let all_behind = All-same (λ (p : Pointer). All (λ (other : Pointer). KeyBelow p.key other.key) h.rights) (front ++ back) (node_at old h.left.at ++ node_at old h.right.at) is h.behind in
    let behind : All (λ (y : Key). KeyBelow key y) (pointer_keys h.rights) = All-map (λ (y : Key). KeyBelow key y) (λ (p : Pointer). p.key) h.rights (back_before front back h.rights key all_behind first) in
    let fronts : List Key = pointer_keys h.lefts ++ h.left.key ∷ [] in
    let long : length fronts ≡ place + 1 = length-append (pointer_keys h.lefts) (h.left.key ∷ []) ∙ ap (λ (n : ℕ). n + 1) (length-map h.lefts (λ (p : Pointer). p.key) ∙ h.long) in
    let made : IsPlace (fronts ++ pointer_keys h.rights) key (place + 1) = place_between fronts (pointer_keys h.rights) key (place + 1) long (All-append (λ (x : Key). KeyBelow x key) (pointer_keys h.lefts) (h.left.key ∷ []) before (All-cons (λ (x : Key). KeyBelow x key) h.left.key [] above (All-nil (λ (x : Key). KeyBelow x key)))) behind in
    let shown : fronts ++ pointer_keys h.rights ≡ pointer_keys (h.lefts ++ left_to h.left left ∷ h.rights) = append_assoc (pointer_keys h.lefts) (h.left.key ∷ []) (pointer_keys h.rights) ∙ sym (pointer_keys-append h.lefts (left_to h.left left ∷ h.rights)) in
    subst (λ (l : List Key). IsPlace l key (place + 1)) shown made

-- ---- the two children of a node

pub pair_inside : (table : Table) (at place : ℕ) → HasPair table at place → place + 1 < length (node_at table at)
pair_inside table at place h = omega (arith, ap (λ (l : List Pointer). length l) h.split, length-append h.lefts (h.left ∷ h.right ∷ h.rights), h.long)

abbrev child_pair : Pointer → ℕ × ℕ
child_pair pointer = (pointer.at, pointer.generation)

address_same : (a b x y : ℕ) → ◌≡◌ {A = Option (ℕ × ℕ)} (Some (a, b)) (Some (x, y)) → a ≡ x
address_same a b x y h = ap (λ (pair : ℕ × ℕ). pair.0) (same_Some (a, b) (x, y) h)

pub left_child : (table : Table) (at place : ℕ) (h : HasPair table at place) (x g : ℕ) → slice_get (children_of (node_at table at)) place ≡ Some (x, g) → h.left.at ≡ x
left_child table at place h x g is =
    let there : slice_get (children_of (node_at table at)) place ≡ Some (child_pair h.left) =
    subst (λ (n : ℕ). slice_get (children_of (node_at table at)) n ≡ Some (child_pair h.left)) h.long (subst (λ (l : List Pointer). slice_get (children_of l) (length h.lefts) ≡ Some (child_pair h.left)) (sym h.split) (at_cut child_pair h.lefts h.left (h.right ∷ h.rights))) in
    address_same h.left.at h.left.generation x g (sym there ∙ is)

pub right_child : (table : Table) (at place : ℕ) (h : HasPair table at place) (x g : ℕ) → slice_get (children_of (node_at table at)) (place + 1) ≡ Some (x, g) → h.right.at ≡ x
right_child table at place h x g is =
    let fronts = h.lefts ++ h.left ∷ [] in
    let long : length fronts ≡ place + 1 = length-append h.lefts (h.left ∷ []) ∙ ap (λ (n : ℕ). n + 1) h.long in
    let split : node_at table at ≡ fronts ++ h.right ∷ h.rights = h.split ∙ sym (append_assoc h.lefts (h.left ∷ []) (h.right ∷ h.rights)) in
    let there : slice_get (children_of (node_at table at)) (place + 1) ≡ Some (child_pair h.right) =
    subst (λ (n : ℕ). slice_get (children_of (node_at table at)) n ≡ Some (child_pair h.right)) long (subst (λ (l : List Pointer). slice_get (children_of l) (length fronts) ≡ Some (child_pair h.right)) (sym split) (at_cut child_pair fronts h.right h.rights)) in
    address_same h.right.at h.right.generation x g (sym there ∙ is)

pub pair_here : (table : Table) (at place : ℕ) (h : HasPair table at place) (x y : ℕ) → h.left.at ≡ x → h.right.at ≡ y → IsPair table x y
pair_here table at place h x y e f = subst (λ (b : ℕ). IsPair table x b) f (subst (λ (a : ℕ). IsPair table a h.right.at) e h.pair)

pub shared_here : (old mid : Table) (at place : ℕ) (h : HasPair old at place) (x y : ℕ) (made : List ℕ) → h.left.at ≡ x → h.right.at ≡ y → IsShared old mid x y made → IsShared old mid h.left.at h.right.at made
shared_here old mid at place h x y made e f shared = subst (λ (a : ℕ). IsShared old mid a h.right.at made) (sym e) (subst (λ (b : ℕ). IsShared old mid x b made) (sym f) shared)

has_first : (pointers : List Pointer) → 1 ≤ length pointers → (key : Key) × (key_behind pointers None ≡ Some key)
has_first [] h = absurd (omega (arith, h))
has_first (p ∷ pointers) h = (p.key, refl)

module _ (old mid : Table) (at place : ℕ) (h : HasPair old at place) (made : List ℕ) (shared : IsShared old mid h.left.at h.right.at made) where
  under : IsSharedUnder old mid at (h.left.at ∷ h.right.at ∷ []) made
  under = shared_under old mid at place h made shared

  pub even_node : IsDirtyNode mid at
  even_node = same_dirty old mid at under.same h.node

  pub even_pointers : node_at mid at ≡ h.lefts ++ h.left ∷ h.right ∷ h.rights
  even_pointers = same_node old mid at under.same ∙ h.split

  pub even_inside : place + 1 < length (node_at mid at)
  even_inside = omega (arith, ap (λ (l : List Pointer). length l) (same_node old mid at under.same), pair_inside old at place h)

  module _ (then : Table) (left : ℕ) (edit : IsEdit mid then (at ∷ []) (at ∷ [])) (node : IsDirtyNode then at) (pointers : node_at then at ≡ remove (with_child (node_at mid at) place left 0) (place + 1)) where
    pub then_pointers : node_at then at ≡ h.lefts ++ left_to h.left left ∷ h.rights
    then_pointers = pointers ∙ pointed (node_at mid at) h.lefts h.left h.right h.rights place left even_pointers h.long

    carried : IsCarried mid then made (at ∷ made) (at ∷ made)
    carried = carry mid then (at ∷ []) (at ∷ []) made (at ∷ made) (at ∷ made) edit (one_once at) under.whole (λ x. refl) (λ x. refl)

    pub then_room : length (node_at then at) < 121
    then_room =
        omega (arith, ap (λ (l : List Pointer). length l) then_pointers, length-append h.lefts (left_to h.left left ∷ h.rights), ap (λ (l : List Pointer). length l) h.split, length-append h.lefts (h.left ∷ h.right ∷ h.rights), node_most old at h.node.body)

    pub then_whole : NoneTwice (at ∷ made)
    then_whole = carried.whole.once

    pub then_alike : AreAlike mid then made
    then_alike = carried.alike

-- one child is left
pub even_one : (old mid new : Table) (at place left : ℕ) (h : HasPair old at place) → IsShared old mid h.left.at h.right.at (left ∷ []) → IsEdit mid new (at ∷ []) (at ∷ []) → IsDirtyNode new at → node_at new at ≡ remove (with_child (node_at mid at) place left 0) (place + 1) → new.spare ≡ mid.spare → free_blocks new ≡ free_blocks mid → IsEven old new at place h
even_one old mid new at place left h shared edit node pointers spare free =
    let B : Pointer → Type 0 = λ (p : Pointer). key_behind (node_at mid p.at) None ≡ Some p.key in
    let least = All-head (λ (a : ℕ). 30 ≤ length (node_at mid a)) left [] shared.least in
    let first : key_behind (node_at mid left) None ≡ Some h.left.key = left_first (node_at mid left) [] (node_at old h.left.at) (node_at old h.right.at) h.left.key (omega (arith, least)) shared.lists h.first in
    evened old mid new at place h (left_to h.left left ∷ []) shared (All-cons B (left_to h.left left) [] first (All-nil B)) (omega arith) (omega arith) edit node (then_pointers old mid at place h (left ∷ []) shared new left edit node pointers) spare free

module _ (old mid then : Table) (at place left right : ℕ) (h : HasPair old at place) (shared : IsShared old mid h.left.at h.right.at (left ∷ right ∷ [])) (edit : IsEdit mid then (at ∷ []) (at ∷ [])) (node : IsDirtyNode then at) (pointers : node_at then at ≡ remove (with_child (node_at mid at) place left 0) (place + 1)) where
  alike_right : block_at then right ≡ block_at mid right
  alike_right =
      let P : ℕ → Type 0 = λ (a : ℕ). block_at then a ≡ block_at mid a in
      All-head P right [] (All-tail P left (right ∷ []) (then_alike old mid at place h (left ∷ right ∷ []) shared then left edit node pointers))

  pub right_pair : IsDirtyPair then at right
  right_pair =
      let once = then_whole old mid at place h (left ∷ right ∷ []) shared then left edit node pointers in
      let right_dirty = All-head (IsDirtyNode mid) right [] (All-tail (IsDirtyNode mid) left (right ∷ []) shared.nodes) in
      let Q : ℕ → Type 0 = λ (a : ℕ). IsAllowed (length mid.slots) a in
      record {
        left_node = node;
        right_node = same_dirty mid then right alike_right right_dirty;
        apart = λ e. once.0 (subst (λ (x : ℕ). Contains (left ∷ right ∷ []) x) (sym e) (contains_behind left (right ∷ []) right (contains_first right [])));
        left_allowed = same_allowed old then at (edit.size ∙ shared.edit.size) h.allowed;
        right_allowed = same_allowed mid then right edit.size (All-head Q right [] (All-tail Q left (right ∷ []) shared.allowed));
      }

  both_lists : node_at mid left ++ node_at mid right ≡ node_at old h.left.at ++ node_at old h.right.at
  both_lists = ap (λ (l : List Pointer). node_at mid left ++ l) (sym (append-nil (node_at mid right))) ∙ shared.lists

  left_some : 1 ≤ length (node_at mid left)
  left_some = let least = All-head (λ (a : ℕ). 30 ≤ length (node_at mid a)) left (right ∷ []) shared.least in omega (arith, least)

  pub right_order : (first : Key) → key_behind (node_at then right) None ≡ Some first → IsPlace (pointer_keys (node_at then at)) first (place + 1)
  right_order first is =
      let first_mid : key_behind (node_at mid right) None ≡ Some first = ap (λ (l : List Pointer). key_behind l None) (sym (same_node mid then right alike_right)) ∙ is in
      subst (λ (l : List Pointer). IsPlace (pointer_keys l) first (place + 1)) (sym (then_pointers old mid at place h (left ∷ right ∷ []) shared then left edit node pointers)) (right_place old at place h (node_at mid left) (node_at mid right) first left both_lists left_some first_mid)

  -- two children are left
  pub even_two : (new : Table) → then.spare ≡ mid.spare → free_blocks then ≡ free_blocks mid → IsEdit then new (at ∷ []) (at ∷ []) → IsDirtyNode new at → ((first : Key) → key_behind (node_at then right) None ≡ Some first → node_at new at ≡ insert (node_at then at) (place + 1) (record { key = first; at = right; generation = 0 })) → new.spare ≡ then.spare → free_blocks new ≡ free_blocks then → IsEven old new at place h
  even_two new spare free edit_new node_new inserted_at spare_new free_new =
      let B : Pointer → Type 0 = λ (p : Pointer). key_behind (node_at mid p.at) None ≡ Some p.key in
      let least = All-head (λ (a : ℕ). 30 ≤ length (node_at mid a)) right [] (All-tail (λ (a : ℕ). 30 ≤ length (node_at mid a)) left (right ∷ []) shared.least) in
      let first = has_first (node_at mid right) (omega (arith, least)) in
      let first_then : key_behind (node_at then right) None ≡ Some first.0 = ap (λ (l : List Pointer). key_behind l None) (same_node mid then right alike_right) ∙ first.1 in
      let left_key : key_behind (node_at mid left) None ≡ Some h.left.key = left_first (node_at mid left) (node_at mid right) (node_at old h.left.at) (node_at old h.right.at) h.left.key left_some both_lists h.first in
      let q : Pointer = record { key = first.0; at = right; generation = 0 } in
      let row : node_at new at ≡ h.lefts ++ left_to h.left left ∷ q ∷ h.rights = inserted_at first.0 first_then ∙ inserted (node_at then at) h.lefts (left_to h.left left) q h.rights place (then_pointers old mid at place h (left ∷ right ∷ []) shared then left edit node pointers) h.long in
      evened old mid new at place h (left_to h.left left ∷ q ∷ []) shared (All-cons B (left_to h.left left) (q ∷ []) left_key (All-cons B q [] first.1 (All-nil B))) (omega arith) (omega arith) (edits_join mid then new (at ∷ []) (at ∷ []) (at ∷ []) edit edit_new) node_new row (spare_new ∙ spare) (free_new ∙ free)
