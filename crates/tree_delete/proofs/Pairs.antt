-- Two nodes side by side share their pointers.
use Rattle.std.proofs.Common.{◌≡◌, ◌≢◌, ◌≤◌, ◌<◌, ◌+◌, ℕ, zero, suc, true, List, [], ◌∷◌, ◌++◌, length, take, drop, slice_get, refl, ap, ◌∙◌, sym, subst, Some, arith, append_assoc}
use Rattle.std.specs.Prelude.{All, Contains, insert, remove, option_map}
use Rattle.std.proofs.lemmas.Bool.{and_parts}
use Rattle.std.proofs.lemmas.Option.{same_Some, slice_get-map}
use Rattle.std.proofs.lemmas.List.{append-nil, length-append, length-map, take_all, drop_all, drop_at, take_at}
use Rattle.std.proofs.lemmas.List.Edits.{length-insert, length-remove}
use Rattle.std.proofs.lemmas.List.Elements.{All-nil, All-cons, All-head, All-tail, All-same, All-weaker}
use Rattle.blk_base.specs.declared.key.Key.{Key}
use Rattle.blk_base.specs.Address.{IsAllowed}
use Rattle.blk_base.specs.Keys.{KeyBelow, key_below, keys_rise}
use Rattle.blk_base.specs.Leaf.{Pointer}
use Rattle.block_table.specs.declared.state.SlotState.TheVariants.{Free, Dirty, LetGo}
use Rattle.block_table.specs.Slot.{BlockSlot, free_slot}
use Rattle.block_table.specs.Table.{Table, free_blocks}
use Rattle.blk_base.specs.Trees.{NoneTwice}
use Rattle.block_table.specs.TreeIn.{block_at}
use Rattle.leaf_view.specs.KeyOrder.{KeyBelow_trans}
use Rattle.leaf_view.specs.Search.{IsPlace, children_of, pointer_keys}
use Rattle.leaf_view.proofs.NodeLaws.{node_body_means}
use Rattle.leaf_view.proofs.Rising.{key_below_means}
use Rattle.tree_range.specs.Part.{times_in}
use Rattle.node_edit.specs.Pointers.{with_child}
use Rattle.tree_blocks.specs.Lists.{node_list, IsNodeBlock}
use Rattle.tree_blocks.specs.Steps.{HasNewBytes, IsDirtyNode, IsNodeAt, IsSameBut, node_at}
use Rattle.tree_blocks.proofs.Orders.{pointer_keys-append}
use Rattle.tree_frame.specs.Frame.{IsEdit}
use Rattle.tree_delete.specs.Steps.{IsCurrentNode, IsDirtyPair, IsOwnedPair, IsPair, IsShared}
use Rattle.tree_frame.proofs.EditLaws.{edits_join}
use Rattle.blk_base.proofs.Members.{in_nothing, in_one}
use Rattle.tree_frame.proofs.StepLaws.{join_is_an_edit, new_bytes_are_an_edit}
use Rattle.tree_delete.proofs.Ahead.{takes_one}
use Rattle.tree_delete.proofs.Blocks.{IsOwned}
use Rattle.tree_range.proofs.Cuts.{cut_at, at_within}
use Rattle.tree_delete.proofs.Edits.{IsWhole, carry}
use Rattle.tree_delete.proofs.Lists.{contains_first, times_append}

-- ---- two blocks

swap_two : (a b x : ℕ) → times_in x (a ∷ b ∷ []) ≡ times_in x (b ∷ a ∷ [])
swap_two a b x = omega (arith, times_append x (a ∷ []) (b ∷ []), times_append x (b ∷ []) (a ∷ []))

pub two_once : (a b : ℕ) → a ≢ b → NoneTwice (a ∷ b ∷ [])
two_once a b apart = ((λ there. apart (sym (in_one b a there))), ((λ there. in_nothing b there), tt))

pub one_once : (a : ℕ) → NoneTwice (a ∷ [])
one_once a = ((λ there. in_nothing a there), tt)

pub once_apart : (a b : ℕ) (rest : List ℕ) → NoneTwice (a ∷ b ∷ rest) → a ≢ b
once_apart a b rest once e = once.0 (subst (λ (x : ℕ). Contains (b ∷ rest) x) (sym e) (contains_first b rest))

two_all : (P : ℕ → Type 0) (a b : ℕ) → P a → P b → All P (a ∷ b ∷ [])
two_all P a b h k = All-cons P a (b ∷ []) h (All-cons P b [] k (All-nil P))

pair_whole : (table : Table) (left right : ℕ) → IsCurrentNode table left → IsCurrentNode table right → left ≢ right → IsWhole table (left ∷ right ∷ [])
pair_whole table left right l r apart = record {
  once = two_once left right apart;
  used = two_all (λ (at : ℕ). (block_at table at).state ≢ Free) left right l.taken r.taken;
  current = two_all (λ (at : ℕ). (block_at table at).state ≢ LetGo) left right l.current r.current;
}

pub dirty_used : (table : Table) (at : ℕ) → (block_at table at).state ≡ Dirty → (block_at table at).state ≢ Free
dirty_used table at dirty free = let wrong : Dirty ≡ Free = sym dirty ∙ free in absurd cc

dirty_current : (table : Table) (at : ℕ) → (block_at table at).state ≡ Dirty → (block_at table at).state ≢ LetGo
dirty_current table at dirty gone = let wrong : Dirty ≡ LetGo = sym dirty ∙ gone in absurd cc

pub dirty_node : (table : Table) (at : ℕ) → IsAllowed (length table.slots) at → IsDirtyNode table at → IsCurrentNode table at
dirty_node table at allowed h = record { body = h.body; allowed = allowed; taken = dirty_used table at h.dirty; current = dirty_current table at h.dirty }

dirty_pair : (table : Table) (left right : ℕ) → IsDirtyPair table left right → IsWhole table (left ∷ right ∷ [])
dirty_pair table left right h = pair_whole table left right (dirty_node table left h.left_allowed h.left_node) (dirty_node table right h.right_allowed h.right_node) h.apart

-- a node elsewhere
pub same_node : (old new : Table) (at : ℕ) → block_at new at ≡ block_at old at → node_at new at ≡ node_at old at
same_node old new at same = ap (λ (slot : BlockSlot). node_list slot.bytes) same

pub same_dirty : (old new : Table) (at : ℕ) → block_at new at ≡ block_at old at → IsDirtyNode old at → IsDirtyNode new at
same_dirty old new at same h = record {
  dirty = ap (λ (slot : BlockSlot). slot.state) same ∙ h.dirty;
  body = subst (λ (slot : BlockSlot). IsNodeBlock slot.bytes) (sym same) h.body;
}

pub same_allowed : (old new : Table) (at : ℕ) → length new.slots ≡ length old.slots → IsAllowed (length old.slots) at → IsAllowed (length new.slots) at
same_allowed old new at size h = subst (λ (n : ℕ). IsAllowed n at) (sym size) h

copied_node : (old new : Table) (at copy : ℕ) → (block_at new copy).state ≡ Dirty → (block_at new copy).bytes ≡ (block_at old at).bytes → IsNodeAt old at → IsDirtyNode new copy
copied_node old new at copy dirty bytes body = record { dirty = dirty; body = subst (λ (b : List ℕ). IsNodeBlock b) (sym bytes) body }

-- the left one is being edited, and the right one is copied
pub own_right : (old new : Table) (left right copy : ℕ) → IsPair old left right → (block_at old left).state ≡ Dirty → IsOwned old new right copy → (block_at new copy).state ≡ Dirty → (block_at new copy).bytes ≡ (block_at old right).bytes → IsOwnedPair old new left right left copy
own_right old new left right copy pair left_dirty own dirty bytes =
    let c = carry old new (right ∷ []) (copy ∷ []) (left ∷ []) (left ∷ right ∷ []) (left ∷ copy ∷ []) own.edit (one_once copy) (pair_whole old left right pair.left_node pair.right_node pair.apart) (swap_two left right) (swap_two left copy) in
    let same = All-head (λ (at : ℕ). block_at new at ≡ block_at old at) left [] c.alike in
    record {
      dirty = record {
        left_node = same_dirty old new left same (record { dirty = left_dirty; body = pair.left_node.body });
        right_node = copied_node old new right copy dirty bytes pair.right_node.body;
        apart = once_apart left copy [] c.whole.once;
        left_allowed = same_allowed old new left own.edit.size pair.left_node.allowed;
        right_allowed = own.allowed (same_allowed old new right own.edit.size pair.right_node.allowed);
      };
      left_same = same_node old new left same;
      right_same = ap node_list bytes;
      edit = c.edit;
      blocks = takes_one old new (block_at old right).state own.blocks;
      balance = own.balance;
    }

pub own_left : (old new : Table) (left right copy : ℕ) → IsPair old left right → (block_at old right).state ≡ Dirty → IsOwned old new left copy → (block_at new copy).state ≡ Dirty → (block_at new copy).bytes ≡ (block_at old left).bytes → IsOwnedPair old new left right copy right
own_left old new left right copy pair right_dirty own dirty bytes =
    let c = carry old new (left ∷ []) (copy ∷ []) (right ∷ []) (left ∷ right ∷ []) (copy ∷ right ∷ []) own.edit (one_once copy) (pair_whole old left right pair.left_node pair.right_node pair.apart) (λ x. refl) (λ x. refl) in
    let same = All-head (λ (at : ℕ). block_at new at ≡ block_at old at) right [] c.alike in
    record {
      dirty = record {
        left_node = copied_node old new left copy dirty bytes pair.left_node.body;
        right_node = same_dirty old new right same (record { dirty = right_dirty; body = pair.right_node.body });
        apart = once_apart copy right [] c.whole.once;
        left_allowed = own.allowed (same_allowed old new left own.edit.size pair.left_node.allowed);
        right_allowed = same_allowed old new right own.edit.size pair.right_node.allowed;
      };
      left_same = ap node_list bytes;
      right_same = same_node old new right same;
      edit = c.edit;
      blocks = takes_one old new (block_at old left).state own.blocks;
      balance = own.balance;
    }

-- ---- one node of two has other pointers, and then the other

pub record IsBothWritten (old mid new : Table) (from to : ℕ) : Type 0 where
  pub edit : IsEdit old new (from ∷ to ∷ []) (from ∷ to ∷ [])
  pub pair : IsDirtyPair new from to
  pub to_same : node_at mid to ≡ node_at old to
  pub from_same : node_at new from ≡ node_at mid from

pub to_kept : (old mid : Table) (from to : ℕ) → IsDirtyPair old from to → IsSameBut old mid (from ∷ []) → block_at mid to ≡ block_at old to
to_kept old mid from to pair others = others.others to (λ there. pair.apart (in_one from to there))

from_kept : (mid new : Table) (from to : ℕ) → from ≢ to → IsSameBut mid new (to ∷ []) → block_at new from ≡ block_at mid from
from_kept mid new from to apart others = others.others from (λ there. apart (sym (in_one to from there)))

pub both_written : (old mid new : Table) (from to : ℕ) → IsDirtyPair old from to → IsDirtyNode mid from → HasNewBytes old mid from → IsSameBut old mid (from ∷ []) → IsDirtyNode new to → HasNewBytes mid new to → IsSameBut mid new (to ∷ []) → IsBothWritten old mid new from to
both_written old mid new from to pair from_node from_bytes from_others to_node to_bytes to_others =
    let kept = to_kept old mid from to pair from_others in
    let kept_from = from_kept mid new from to pair.apart to_others in
    let to_mid = same_dirty old mid to kept pair.right_node in
    let first = carry old mid (from ∷ []) (from ∷ []) (to ∷ []) (from ∷ to ∷ []) (from ∷ to ∷ []) (new_bytes_are_an_edit old mid from pair.left_node.dirty from_bytes from_others) (one_once from) (dirty_pair old from to pair) (λ x. refl) (λ x. refl) in
    let second = carry mid new (to ∷ []) (to ∷ []) (from ∷ []) (from ∷ to ∷ []) (from ∷ to ∷ []) (new_bytes_are_an_edit mid new to to_mid.dirty to_bytes to_others) (one_once to) first.whole (swap_two from to) (swap_two from to) in
    record {
      edit = edits_join old mid new (from ∷ to ∷ []) (from ∷ to ∷ []) (from ∷ to ∷ []) first.edit second.edit;
      pair = record {
        left_node = same_dirty mid new from kept_from from_node;
        right_node = to_node;
        apart = pair.apart;
        left_allowed = same_allowed old new from (to_others.size ∙ from_others.size) pair.left_allowed;
        right_allowed = same_allowed old new to (to_others.size ∙ from_others.size) pair.right_allowed;
      };
      to_same = same_node old mid to kept;
      from_same = same_node mid new from kept_from;
    }

-- a pointer by its parts
abbrev child_of : Pointer → ℕ × ℕ
child_of pointer = (pointer.at, pointer.generation)

abbrev key_of : Pointer → Key
key_of pointer = pointer.key

pub pointer_is : (pointers : List Pointer) (place : ℕ) (pointer : Pointer) (key : Key) (at generation : ℕ) → slice_get pointers place ≡ Some pointer → slice_get (pointer_keys pointers) place ≡ Some key → slice_get (children_of pointers) place ≡ Some (at, generation) → record { key = key; at = at; generation = generation } ≡ pointer
pointer_is pointers place pointer key at generation h key_is child_is =
    let same_key : pointer.key ≡ key = same_Some pointer.key key (sym (slice_get-map key_of pointers place ∙ ap (option_map key_of) h) ∙ key_is) in
    let same_child : child_of pointer ≡ (at, generation) = same_Some (child_of pointer) (at, generation) (sym (slice_get-map child_of pointers place ∙ ap (option_map child_of) h) ∙ child_is) in
    let make : Key → ℕ × ℕ → Pointer = λ k pair. record { key = k; at = pair.0; generation = pair.1 } in
    sym (ap (λ (k : Key). make k (child_of pointer)) same_key ∙ ap (λ (pair : ℕ × ℕ). make key pair) same_child)

pub key_is : (pointers : List Pointer) (place : ℕ) (pointer : Pointer) (key : Key) → slice_get pointers place ≡ Some pointer → slice_get (pointer_keys pointers) place ≡ Some key → pointer.key ≡ key
key_is pointers place pointer key h is = same_Some pointer.key key (sym (slice_get-map key_of pointers place ∙ ap (option_map key_of) h) ∙ is)

-- ---- keys that rise

rise_next : (a b : Key) (keys : List Key) → keys_rise (a ∷ b ∷ keys) ≡ true → KeyBelow a b × (keys_rise (b ∷ keys) ≡ true)
rise_next a b keys h = let both = and_parts (key_below a b) (keys_rise (b ∷ keys)) h in (key_below_means a b both.0, both.1)

pub keys_above : (a : Key) (keys : List Key) → keys_rise (a ∷ keys) ≡ true → All (λ (k : Key). KeyBelow a k) keys
keys_above a [] h = All-nil (λ (k : Key). KeyBelow a k)
keys_above a (b ∷ keys) h =
    let next = rise_next a b keys h in
    All-cons (λ (k : Key). KeyBelow a k) b keys next.0 (All-weaker (λ (k : Key). KeyBelow b k) (λ (k : Key). KeyBelow a k) (λ k j. KeyBelow_trans a b k next.0 j) keys (keys_above b keys next.1))

pub keys_tail : (a : Key) (keys : List Key) → keys_rise (a ∷ keys) ≡ true → keys_rise keys ≡ true
keys_tail a [] h = refl
keys_tail a (b ∷ keys) h = (rise_next a b keys h).1

pub keys_right : (xs ys : List Key) → keys_rise (xs ++ ys) ≡ true → keys_rise ys ≡ true
keys_right [] ys h = h
keys_right (x ∷ xs) ys h = keys_right xs ys (keys_tail x (xs ++ ys) h)

all_left : (P : Key → Type 0) (xs ys : List Key) → All P (xs ++ ys) → All P xs
all_left P [] ys h = All-nil P
all_left P (x ∷ xs) ys h = All-cons P x xs (All-head P x (xs ++ ys) h) (all_left P xs ys (All-tail P x (xs ++ ys) h))

all_right : (P : Key → Type 0) (xs ys : List Key) → All P (xs ++ ys) → All P ys
all_right P [] ys h = h
all_right P (x ∷ xs) ys h = all_right P xs ys (All-tail P x (xs ++ ys) h)

-- those in front of a key are below it
pub keys_before : (xs : List Key) (k : Key) (ys : List Key) → keys_rise (xs ++ k ∷ ys) ≡ true → All (λ (x : Key). KeyBelow x k) xs
keys_before [] k ys h = All-nil (λ (x : Key). KeyBelow x k)
keys_before (x ∷ xs) k ys h =
    All-cons (λ (z : Key). KeyBelow z k) x xs
    (All-head (λ (z : Key). KeyBelow x z) k ys (all_right (λ (z : Key). KeyBelow x z) xs (k ∷ ys) (keys_above x (xs ++ k ∷ ys) h)))
    (keys_before xs k ys (keys_tail x (xs ++ k ∷ ys) h))

-- a key between two lists has its place there
pub place_between : (xs ys : List Key) (k : Key) (place : ℕ) → length xs ≡ place → All (λ (x : Key). KeyBelow x k) xs → All (λ (y : Key). KeyBelow k y) ys → IsPlace (xs ++ ys) k place
place_between xs ys k place long below above = record {
  within = omega (arith, length-append xs ys, long);
  below = All-same (λ (x : Key). KeyBelow x k) (take place (xs ++ ys)) xs (take_at xs ys place long) below;
  above = All-same (λ (y : Key). KeyBelow k y) (drop place (xs ++ ys)) ys (drop_at xs ys place long) above;
}

-- ---- a pointer goes over the border

-- the first one of the right node goes behind the left one's
pub to_left_place : (left right : List Pointer) (pointer : Pointer) → keys_rise (pointer_keys (left ++ right)) ≡ true → slice_get right 0 ≡ Some pointer → IsPlace (pointer_keys left) pointer.key (length left)
to_left_place left [] pointer rise h = absurd cc
to_left_place left (p ∷ right) pointer rise h =
    let same : p ≡ pointer = same_Some p pointer h in
    let keys : keys_rise (pointer_keys left ++ p.key ∷ pointer_keys right) ≡ true = subst (λ (l : List Key). keys_rise l ≡ true) (pointer_keys-append left (p ∷ right)) rise in
    let place = place_between (pointer_keys left) [] p.key (length left) (length-map left key_of) (keys_before (pointer_keys left) p.key (pointer_keys right) keys) (All-nil (λ (y : Key). KeyBelow p.key y)) in
    subst (λ (q : Pointer). IsPlace (pointer_keys left) q.key (length left)) same (subst (λ (l : List Key). IsPlace l p.key (length left)) (append-nil (pointer_keys left)) place)

pub to_left_lists : (left right : List Pointer) (pointer : Pointer) → slice_get right 0 ≡ Some pointer → insert left (length left) pointer ++ (remove right 0 ++ []) ≡ left ++ right
to_left_lists left [] pointer h = absurd cc
to_left_lists left (p ∷ right) pointer h =
    let same : p ≡ pointer = same_Some p pointer h in
    let front : insert left (length left) pointer ≡ left ++ pointer ∷ [] = ap (λ (l : List Pointer). l ++ pointer ∷ drop (length left) left) (take_all (length left) left (omega arith)) ∙ ap (λ (l : List Pointer). left ++ pointer ∷ l) (drop_all (length left) left (omega arith)) in
    ap (λ (l : List Pointer). l ++ (right ++ [])) front ∙ append_assoc left (pointer ∷ []) (right ++ []) ∙ ap (λ (l : List Pointer). left ++ pointer ∷ l) (append-nil right) ∙ ap (λ (q : Pointer). left ++ q ∷ right) (sym same)

-- the last one of the left node goes in front of the right one's
pub to_right_place : (left right : List Pointer) (pointer : Pointer) (place : ℕ) → keys_rise (pointer_keys (left ++ right)) ≡ true → slice_get left place ≡ Some pointer → place + 1 ≡ length left → IsPlace (pointer_keys right) pointer.key 0
to_right_place left right pointer place rise h last =
    let cut = cut_at left place pointer h in
    let none : drop (suc place) left ≡ [] = drop_all (suc place) left (omega arith) in
    let shown : left ++ right ≡ take place left ++ pointer ∷ right = ap (λ (l : List Pointer). l ++ right) (cut ∙ ap (λ (l : List Pointer). take place left ++ pointer ∷ l) none) ∙ append_assoc (take place left) (pointer ∷ []) right in
    let keys : keys_rise (pointer_keys (take place left) ++ pointer.key ∷ pointer_keys right) ≡ true = subst (λ (l : List Key). keys_rise l ≡ true) (ap pointer_keys shown ∙ pointer_keys-append (take place left) (pointer ∷ right)) rise in
    place_between [] (pointer_keys right) pointer.key 0 refl (All-nil (λ (x : Key). KeyBelow x pointer.key)) (keys_above pointer.key (pointer_keys right) (keys_right (pointer_keys (take place left)) (pointer.key ∷ pointer_keys right) keys))

pub to_right_lists : (left right : List Pointer) (pointer : Pointer) (place : ℕ) → slice_get left place ≡ Some pointer → place + 1 ≡ length left → remove left place ++ (insert right 0 pointer ++ []) ≡ left ++ right
to_right_lists left right pointer place h last =
    let cut = cut_at left place pointer h in
    let none : drop (suc place) left ≡ [] = drop_all (suc place) left (omega arith) in
    let shown : left ++ right ≡ take place left ++ pointer ∷ right = ap (λ (l : List Pointer). l ++ right) (cut ∙ ap (λ (l : List Pointer). take place left ++ pointer ∷ l) none) ∙ append_assoc (take place left) (pointer ∷ []) right in
    ap (λ (l : List Pointer). (take place left ++ l) ++ (pointer ∷ right ++ [])) none ∙ ap (λ (l : List Pointer). l ++ (pointer ∷ right ++ [])) (append-nil (take place left)) ∙ ap (λ (l : List Pointer). take place left ++ pointer ∷ l) (append-nil right) ∙ sym shown

-- ---- what two nodes become

pub shared_one : (old mid new : Table) (left right new_left new_right : ℕ) → IsPair old left right → IsOwnedPair old mid left right new_left new_right → node_at new new_left ≡ node_at mid new_left ++ node_at mid new_right → IsDirtyNode new new_left → HasNewBytes mid new new_left → block_at new new_right ≡ free_slot → IsSameBut mid new (new_left ∷ new_right ∷ [])
    → new.spare ≡ mid.spare + 1 → free_blocks new ≡ free_blocks mid + 1 → IsShared old new left right (new_left ∷ [])
shared_one old mid new left right new_left new_right pair own joined node kept gone others spare free =
    let edit = join_is_an_edit mid new new_left new_right own.dirty.left_node.dirty own.dirty.right_node.dirty kept gone others in
    let lists : node_at new new_left ≡ node_at old left ++ node_at old right = joined ∙ ap (λ (l : List Pointer). l ++ node_at mid new_right) own.left_same ∙ ap (λ (l : List Pointer). node_at old left ++ l) own.right_same in
    let long : 30 ≤ length (node_at new new_left) = omega (arith, ap length lists, length-append (node_at old left) (node_at old right), pair.least) in
    record {
      lists = append-nil (node_at new new_left) ∙ lists;
      least = All-cons (λ (at : ℕ). 30 ≤ length (node_at new at)) new_left [] long (All-nil (λ (at : ℕ). 30 ≤ length (node_at new at)));
      nodes = All-cons (IsDirtyNode new) new_left [] node (All-nil (IsDirtyNode new));
      allowed = All-cons (λ (at : ℕ). IsAllowed (length new.slots) at) new_left [] (same_allowed mid new new_left others.size own.dirty.left_allowed) (All-nil (λ (at : ℕ). IsAllowed (length new.slots) at));
      once = one_once new_left;
      edit = edits_join old mid new (left ∷ right ∷ []) (new_left ∷ new_right ∷ []) (new_left ∷ []) own.edit edit;
      blocks = record { spare = omega (arith, own.blocks.spare, spare); free = omega (arith, own.blocks.free, free); balance = omega (arith, own.balance, spare, free) };
    }

pub shared_two : (old mid new : Table) (left right new_left new_right : ℕ) → IsOwnedPair old mid left right new_left new_right → IsDirtyPair new new_left new_right → node_at new new_left ++ (node_at new new_right ++ []) ≡ node_at mid new_left ++ node_at mid new_right → 30 ≤ length (node_at new new_left) → 30 ≤ length (node_at new new_right)
    → IsEdit mid new (new_left ∷ new_right ∷ []) (new_left ∷ new_right ∷ []) → new.spare ≡ mid.spare → free_blocks new ≡ free_blocks mid → IsShared old new left right (new_left ∷ new_right ∷ [])
shared_two old mid new left right new_left new_right own pair lists left_least right_least edit spare free = record {
  lists = lists ∙ ap (λ (l : List Pointer). l ++ node_at mid new_right) own.left_same ∙ ap (λ (l : List Pointer). node_at old left ++ l) own.right_same;
  least = two_all (λ (at : ℕ). 30 ≤ length (node_at new at)) new_left new_right left_least right_least;
  nodes = two_all (IsDirtyNode new) new_left new_right pair.left_node pair.right_node;
  allowed = two_all (λ (at : ℕ). IsAllowed (length new.slots) at) new_left new_right pair.left_allowed pair.right_allowed;
  once = two_once new_left new_right pair.apart;
  edit = edits_join old mid new (left ∷ right ∷ []) (new_left ∷ new_right ∷ []) (new_left ∷ new_right ∷ []) own.edit edit;
  blocks = record { spare = omega (arith, own.blocks.spare, spare); free = omega (arith, own.blocks.free, free); balance = omega (arith, own.balance, spare, free) };
}

-- the same two nodes the other way round
pub pair_back : (table : Table) (left right : ℕ) → IsDirtyPair table left right → IsDirtyPair table right left
pair_back table left right h = record { left_node = h.right_node; right_node = h.left_node; apart = λ e. h.apart (sym e); left_allowed = h.right_allowed; right_allowed = h.left_allowed }

pub edit_back : (old new : Table) (left right : ℕ) → IsDirtyPair old left right → IsDirtyPair new left right → IsEdit old new (right ∷ left ∷ []) (right ∷ left ∷ []) → IsEdit old new (left ∷ right ∷ []) (left ∷ right ∷ [])
edit_back old new left right pair pair_new edit =
    (carry old new (right ∷ left ∷ []) (right ∷ left ∷ []) [] (left ∷ right ∷ []) (left ∷ right ∷ []) edit (two_once right left (λ e. pair.apart (sym e))) (dirty_pair old left right pair) (λ x. swap_two left right x ∙ ap (times_in x) (sym (append-nil (right ∷ left ∷ [])))) (λ x. swap_two left right x ∙ ap (times_in x) (sym (append-nil (right ∷ left ∷ []))))).edit

-- a node has 121 pointers at most
pub node_most : (table : Table) (at : ℕ) → IsNodeAt table at → length (node_at table at) ≤ 121
node_most table at h = (node_body_means (block_at table at).bytes (node_at table at) h).most

pub node_some : (table : Table) (at : ℕ) → IsNodeAt table at → 1 ≤ length (node_at table at)
node_some table at h = (node_body_means (block_at table at).bytes (node_at table at) h).least

pub own_rise : (old mid : Table) (left right new_left new_right : ℕ) → IsPair old left right → IsOwnedPair old mid left right new_left new_right → keys_rise (pointer_keys (node_at mid new_left ++ node_at mid new_right)) ≡ true
own_rise old mid left right new_left new_right pair own =
    let same : node_at mid new_left ++ node_at mid new_right ≡ node_at old left ++ node_at old right = ap (λ (l : List Pointer). l ++ node_at mid new_right) own.left_same ∙ ap (λ (l : List Pointer). node_at old left ++ l) own.right_same in
    ap (λ (l : List Pointer). keys_rise (pointer_keys l)) same ∙ pair.rise

-- the left node gets the right one's first pointer
pub moved_left : (old mid new : Table) (left right new_left new_right count : ℕ) → IsPair old left right → IsOwnedPair old mid left right new_left new_right → count ≡ length (node_at mid new_left) → length (node_at mid new_left) < length (node_at mid new_right) → 121 < length (node_at mid new_left) + length (node_at mid new_right) → IsDirtyPair new new_right new_left
    → node_at new new_right ≡ remove (node_at mid new_right) 0 → ((pointer : Pointer) → slice_get (node_at mid new_right) 0 ≡ Some pointer → node_at new new_left ≡ insert (node_at mid new_left) count pointer) → IsEdit mid new (new_right ∷ new_left ∷ []) (new_right ∷ new_left ∷ []) → new.spare ≡ mid.spare → free_blocks new ≡ free_blocks mid
    → IsShared old new left right (new_left ∷ new_right ∷ [])
moved_left old mid new left right new_left new_right count pair own count_is shorter many dirty from to edit spare free =
    let pl = node_at mid new_left in
    let pr = node_at mid new_right in
    let there : 0 < length pr = omega (arith, shorter) in
    let p = at_within pr 0 there in
    let left_is : node_at new new_left ≡ insert pl (length pl) p.0 = to p.0 p.1 ∙ ap (λ (n : ℕ). insert pl n p.0) count_is in
    let lists : node_at new new_left ++ (node_at new new_right ++ []) ≡ pl ++ pr = ap (λ (l : List Pointer). l ++ (node_at new new_right ++ [])) left_is ∙ ap (λ (l : List Pointer). insert pl (length pl) p.0 ++ (l ++ [])) from ∙ to_left_lists pl pr p.0 p.1 in
    let left_long = ap (λ (l : List Pointer). length l) left_is in
    let right_long = ap (λ (l : List Pointer). length l) from in
    shared_two old mid new left right new_left new_right own (pair_back new new_right new_left dirty) lists
    (omega (arith, left_long, length-insert pl (length pl) p.0 (omega arith), ap (λ (l : List Pointer). length l) own.left_same, pair.left_least))
    (omega (arith, right_long, length-remove pr 0 there, shorter, many))
    (edit_back mid new new_left new_right own.dirty (pair_back new new_right new_left dirty) edit) spare free

-- the right node gets the left one's last pointer
pub moved_right : (old mid new : Table) (left right new_left new_right place : ℕ) → IsPair old left right → IsOwnedPair old mid left right new_left new_right → place + 1 ≡ length (node_at mid new_left) → length (node_at mid new_right) ≤ length (node_at mid new_left) → 121 < length (node_at mid new_left) + length (node_at mid new_right) → IsDirtyPair new new_left new_right
    → node_at new new_left ≡ remove (node_at mid new_left) place → ((pointer : Pointer) → slice_get (node_at mid new_left) place ≡ Some pointer → node_at new new_right ≡ insert (node_at mid new_right) 0 pointer) → IsEdit mid new (new_left ∷ new_right ∷ []) (new_left ∷ new_right ∷ []) → new.spare ≡ mid.spare → free_blocks new ≡ free_blocks mid
    → IsShared old new left right (new_left ∷ new_right ∷ [])
moved_right old mid new left right new_left new_right place pair own last longer many dirty from to edit spare free =
    let pl = node_at mid new_left in
    let pr = node_at mid new_right in
    let there : place < length pl = omega (arith, last) in
    let p = at_within pl place there in
    let right_is : node_at new new_right ≡ insert pr 0 p.0 = to p.0 p.1 in
    let lists : node_at new new_left ++ (node_at new new_right ++ []) ≡ pl ++ pr = ap (λ (l : List Pointer). l ++ (node_at new new_right ++ [])) from ∙ ap (λ (l : List Pointer). remove pl place ++ (l ++ [])) right_is ∙ to_right_lists pl pr p.0 place p.1 last in
    let left_long = ap (λ (l : List Pointer). length l) from in
    let right_long = ap (λ (l : List Pointer). length l) right_is in
    shared_two old mid new left right new_left new_right own dirty lists
    (omega (arith, left_long, length-remove pl place there, longer, many))
    (omega (arith, right_long, length-insert pr 0 p.0 (omega arith), ap (λ (l : List Pointer). length l) own.right_same, pair.right_least))
    edit spare free

pub length_with_child : (pointers : List Pointer) (place at generation : ℕ) → length (with_child pointers place at generation) ≡ length pointers
length_with_child [] place at generation = refl
length_with_child (p ∷ pointers) zero at generation = refl
length_with_child (p ∷ pointers) (suc place) at generation = ap (λ (n : ℕ). suc n) (length_with_child pointers place at generation)
