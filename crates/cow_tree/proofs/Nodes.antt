-- Nodes edited: what stands in place of one.
use Rattle.std.proofs.Common.{◌≡◌, ◌≤◌, ◌<◌, ◌+◌, ℕ, zero, suc, List, [], ◌∷◌, ◌++◌, length, take, drop, refl, ap, ◌∙◌, sym, subst, arith, length-append}
use Rattle.std.specs.Prelude.{None, Some, insert, slice_get, true}
use Rattle.std.proofs.lemmas.List.{append-nil}
use Rattle.std.proofs.lemmas.List.Elements.{All-nil, All-cons}
use Rattle.blk_base.specs.declared.key.Key.{Key}
use Rattle.blk_base.specs.Leaf.{Pointer}
use Rattle.block_table.specs.Slot.{BlockSlot}
use Rattle.block_table.specs.Table.{Table}
use Rattle.block_table.specs.TreeIn.{block_at}
use Rattle.blk_base.specs.Keys.{keys_rise}
use Rattle.leaf_view.specs.Search.{pointer_keys}
use Rattle.tree_range.specs.Path.{key_behind}
use Rattle.tree_blocks.specs.declared.child.Child.{Child}
use Rattle.tree_blocks.specs.Lists.{IsNodeBlock, node_list, pointer_to}
use Rattle.tree_blocks.specs.Steps.{IsDirtyNode, node_at}
use Rattle.cow_tree.specs.declared.pieces.Pieces.{Pieces}
use Rattle.cow_tree.specs.declared.pieces.Pieces.TheVariants.{One, Two, Three}
use Rattle.cow_tree.specs.Change.{IsChange}
use Rattle.cow_tree.specs.Pieces.{ats_of, pointers_of}
use Rattle.cow_tree.specs.Spread.{IsNodePiece, IsNodeSpread}
use Rattle.cow_tree.proofs.Changes.{at_most_lists, join_lists}
use Rattle.cow_tree.proofs.Pointers.{insert_cut, length_front}

pub node_same : (old new : Table) (at : ℕ) → block_at new at ≡ block_at old at → node_at new at ≡ node_at old at
node_same old new at same = ap (λ (slot : BlockSlot). node_list slot.bytes) same

pub node_kept : (old new : Table) (at : ℕ) → block_at new at ≡ block_at old at → IsDirtyNode old at → IsDirtyNode new at
node_kept old new at same h = record {
  dirty = ap (λ (slot : BlockSlot). slot.state) same ∙ h.dirty;
  body = subst (λ (slot : BlockSlot). IsNodeBlock slot.bytes) (sym same) h.body;
}

pub some_pieces : (pieces : Pieces) → 1 ≤ length (pointers_of pieces)
some_pieces (One a) = omega arith
some_pieces (Two a b) = omega arith
some_pieces (Three a b c) = omega arith

pub most_pieces : (pieces : Pieces) → length (pointers_of pieces) ≤ 3
most_pieces (One a) = omega arith
most_pieces (Two a b) = omega arith
most_pieces (Three a b c) = omega arith

pub one_node : (old new : Table) (at x : ℕ) (a : Child) (pointers : List Pointer) (most : ℕ) → a.at.0 ≡ x → node_at new x ≡ pointers → IsNodePiece new (pointer_to a) → IsChange old new (at ∷ []) (x ∷ []) most → IsNodeSpread old new at pointers (pointer_to a ∷ []) most
one_node old new at x a pointers most p is piece changes = record {
  pointers_are = append-nil (node_at new a.at.0) ∙ ap (node_at new) p ∙ is;
  each = All-cons (IsNodePiece new) (pointer_to a) [] piece (All-nil (IsNodePiece new));
  changes = subst (λ (n : ℕ). IsChange old new (at ∷ []) (n ∷ []) most) (sym p) changes;
  large = λ several. absurd (omega (arith, several));
  one = λ short. refl;
}

pub two_nodes : (old new : Table) (at x y : ℕ) (a b : Child) (pointers : List Pointer) (most : ℕ) → a.at.0 ≡ x → b.at.0 ≡ y → node_at new x ++ node_at new y ≡ pointers → 30 ≤ length (node_at new x) → 30 ≤ length (node_at new y) → 122 ≤ length pointers → IsNodePiece new (pointer_to a) → IsNodePiece new (pointer_to b) → IsChange old new (at ∷ []) (x ∷ y ∷ []) most
    → IsNodeSpread old new at pointers (pointer_to a ∷ pointer_to b ∷ []) most
two_nodes old new at x y a b pointers most p q is large other_large long piece other changes = record {
  pointers_are = ap (λ (l : List Pointer). node_at new a.at.0 ++ l) (append-nil (node_at new b.at.0)) ∙ ap (λ (n : ℕ). node_at new n ++ node_at new b.at.0) p ∙ ap (λ (n : ℕ). node_at new x ++ node_at new n) q ∙ is;
  each = All-cons (IsNodePiece new) (pointer_to a) (pointer_to b ∷ []) piece (All-cons (IsNodePiece new) (pointer_to b) [] other (All-nil (IsNodePiece new)));
  changes = subst (λ (n : ℕ). IsChange old new (at ∷ []) (n ∷ b.at.0 ∷ []) most) (sym p) (subst (λ (n : ℕ). IsChange old new (at ∷ []) (x ∷ n ∷ []) most) (sym q) changes);
  large = λ several.
      let P : Pointer → Type 0 = λ (node : Pointer). 30 ≤ length (node_at new node.at) in
      All-cons P (pointer_to a) (pointer_to b ∷ []) (subst (λ (n : ℕ). 30 ≤ length (node_at new n)) (sym p) large) (All-cons P (pointer_to b) [] (subst (λ (n : ℕ). 30 ≤ length (node_at new n)) (sym q) other_large) (All-nil P));
  one = λ short. absurd (omega (arith, short, long));
}

pub behind_from : (pointers : List Pointer) (key : Key) → slice_get (pointer_keys pointers) 0 ≡ Some key → key_behind pointers None ≡ Some key
behind_from [] key h = absurd cc
behind_from (p ∷ ps) key h = h

-- ---- a few pointers put in place of one, the last one first

pub long_front : (pointers : List Pointer) (place : ℕ) → place < length pointers → length (take place pointers) ≡ place
long_front pointers place within = length_front place pointers (omega arith)

-- the list of a node behind each step
pub put_first : (pointers : List Pointer) (place : ℕ) (before after rest : List Pointer) (p : Pointer) → place < length pointers → before ≡ take place pointers ++ rest → after ≡ insert before place p → after ≡ take place pointers ++ p ∷ rest
put_first pointers place before after rest p within was is =
    is ∙ ap (λ (l : List Pointer). insert l place p) was ∙ insert_cut (take place pointers) rest p place (long_front pointers place within)

-- the keys rise behind each step
pub first_rises : (pointers : List Pointer) (place : ℕ) (before rest : List Pointer) (p : Pointer) → place < length pointers → before ≡ take place pointers ++ rest → keys_rise (pointer_keys (take place pointers ++ p ∷ rest)) ≡ true → keys_rise (pointer_keys (insert before place p)) ≡ true
first_rises pointers place before rest p within was rise =
    ap (λ (l : List Pointer). keys_rise (pointer_keys l)) (put_first pointers place before (insert before place p) rest p within was refl) ∙ rise

pub length_put : (pointers : List Pointer) (place : ℕ) (before rest : List Pointer) → place < length pointers → before ≡ take place pointers ++ rest → length before ≡ place + length rest
length_put pointers place before rest within was = ap length was ∙ length-append (take place pointers) rest ∙ ap (λ (n : ℕ). n + length rest) (long_front pointers place within)

pub length_rest : (pointers : List Pointer) (place : ℕ) → place < length pointers → place + length (drop (suc place) pointers) + 1 ≡ length pointers
length_rest [] place h = absurd (omega (arith, h))
length_rest (p ∷ ps) zero h = omega arith
length_rest (p ∷ ps) (suc place) h = omega (arith, length_rest ps place (omega (arith, h)))

-- the same where the block was first made one that may be edited
pub node_owned : (old mine new : Table) (at own : ℕ) (pointers same nodes : List Pointer) (m n : ℕ) → 1 + m ≤ n → same ≡ pointers → IsChange old mine (at ∷ []) (own ∷ []) 1 → IsNodeSpread mine new own same nodes m → IsNodeSpread old new at pointers nodes n
node_owned old mine new at own pointers same nodes m n most is changes h = record {
  pointers_are = h.pointers_are ∙ is;
  each = h.each;
  changes = at_most_lists old new (at ∷ []) (ats_of nodes) (1 + m) n most (join_lists old mine new (at ∷ []) (own ∷ []) (ats_of nodes) 1 m changes h.changes);
  large = h.large;
  one = λ short. h.one (omega (arith, short, ap length is));
}

-- two pieces or three
pub several_pieces : (pieces : Pieces) → ((only : Child) → pieces ≡ One only → ⊥) → 2 ≤ length (pointers_of pieces)
several_pieces (One a) h = absurd (h a refl)
several_pieces (Two a b) h = omega arith
several_pieces (Three a b c) h = omega arith
