-- What an editor of a node shows before and after an edit.
use Rattle.std.proofs.Common.{◌≡◌, ◌≤◌, ℕ, true, List, [], ◌++◌, length, drop, ap, arith, ◌∙◌, sym, Ok}
use Rattle.std.proofs.lemmas.List.{drop-map}
use Rattle.blk_base.specs.Keys.{keys_rise}
use Rattle.blk_base.specs.Leaf.{Pointer, node_body_of, count_of}
use Rattle.leaf_view.specs.Listed.{pointers_in}
use Rattle.leaf_view.specs.Search.{pointer_keys}
use Rattle.leaf_edit.specs.Rises.{rise-drop}
use Rattle.node_edit.specs.Pointers.{HasPointers}
use Rattle.node_edit.proofs.Parts.{has_listed, has_itself, has_passes, pointer_in_back}

-- with a pointer, the list is a node's body
pub passes_itself : (bytes : List ℕ) (pointers : List Pointer) → HasPointers bytes pointers → 1 ≤ length (pointers_in bytes) → node_body_of bytes ≡ Ok (pointers_in bytes)
passes_itself bytes pointers h some = has_passes bytes (pointers_in bytes) (has_itself bytes pointers h) some

pub split_order : (bytes : List ℕ) (pointers others : List Pointer) (at : ℕ) → HasPointers bytes pointers → others ≡ [] → keys_rise (pointer_keys (others ++ drop at pointers)) ≡ true
split_order bytes pointers others at h empty = rw empty (ap keys_rise (sym (drop-map (λ p. p.key) at pointers)) ∙ rise-drop (pointer_keys pointers) at h.rise)

pub split_back : (new : List ℕ) (pointers others : List Pointer) (at : ℕ) → others ≡ [] → HasPointers new (others ++ drop at pointers) → pointers_in new ≡ drop at pointers
split_back new pointers others at empty h = has_listed new (others ++ drop at pointers) h ∙ ap (λ list. list ++ drop at pointers) empty

-- a seal leaves the pointers as they were
pub sealed_has : (old new : List ℕ) (pointers : List Pointer) → length new ≡ 4096 → count_of new ≡ count_of old → drop 101 new ≡ drop 101 old → HasPointers old pointers → HasPointers new pointers
sealed_has old new pointers long same_count same_body h = record {
  size = long;
  count = same_count ∙ h.count;
  most = h.most;
  rise = h.rise;
  each = λ i d within. pointer_in_back new old 101 i same_body (omega arith) ∙ h.each i d within;
}
