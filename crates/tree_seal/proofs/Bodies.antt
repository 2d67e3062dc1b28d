-- A block whose number of items and whose bytes behind the header stay has the body that it had.
use Rattle.std.proofs.Common.{◌≡◌, ◌≤◌, ◌<◌, ◌+◌, ◌*◌, ℕ, List, length, drop, ap, ◌∙◌, sym, subst, arith, Some}
use Rattle.blk_base.specs.declared.key.Key.{Key}
use Rattle.blk_base.specs.Bytes.{bytes_at, field}
use Rattle.blk_base.specs.Keys.{KeyBelow, key_at}
use Rattle.blk_base.specs.Leaf.{Item, Pointer, HasByte, IsLeafBody, IsNodeBody, count_of, header_at, item_end, item_key, item_of, item_offset, item_size, pointer_at, pointer_of}
use Rattle.leaf_edit.specs.Parts.{field_part, part_in_back}
use Rattle.leaf_edit.specs.Fronts.{key_part}
use Rattle.node_edit.proofs.Parts.{pointer_in_back}
use Rattle.tree_seal.specs.Sealing.{HasSameBody}

module _ (old new : List ℕ) (same_count : count_of new ≡ count_of old) (same : drop 101 new ≡ drop 101 old) where
  part : (at m : ℕ) → 101 ≤ at → bytes_at m new at ≡ bytes_at m old at
  part at m h = part_in_back new old 101 at m same h

  number : (n at : ℕ) → 101 ≤ at → field n new at ≡ field n old at
  number n at h = field_part n new old at at (part at n h)

  key : (at : ℕ) → 101 ≤ at → key_at new at ≡ key_at old at
  key at h = key_part new old at at (part at 17 h)

  item_key_kept : (i : ℕ) → item_key new i ≡ item_key old i
  item_key_kept i = key (header_at i) (omega arith)

  offset_kept : (i : ℕ) → item_offset new i ≡ item_offset old i
  offset_kept i = number 4 (header_at i + 17) (omega arith)

  size_kept : (i : ℕ) → item_size new i ≡ item_size old i
  size_kept i = number 4 (header_at i + 21) (omega arith)

  end_kept : (i : ℕ) → item_end new i ≡ item_end old i
  end_kept i = ap (λ (n : ℕ). n + item_size new i) (offset_kept i) ∙ ap (λ (n : ℕ). item_offset old i + n) (size_kept i)

  content_kept : (i : ℕ) → bytes_at (item_size new i) new (101 + item_offset new i) ≡ bytes_at (item_size old i) old (101 + item_offset old i)
  content_kept i =
      ap (λ (n : ℕ). bytes_at n new (101 + item_offset new i)) (size_kept i) ∙ ap (λ (n : ℕ). bytes_at (item_size old i) new (101 + n)) (offset_kept i) ∙ part (101 + item_offset old i) (item_size old i) (omega arith)

  pair : (a b : Key) (x y : List ℕ) → a ≡ b → x ≡ y → ◌≡◌ {A = Item} (a, x) (b, y)
  pair a b x y p q = ap (λ (k : Key). (k, x)) p ∙ ap (λ (l : List ℕ). (b, l)) q

  item_kept : (i : ℕ) → item_of new i ≡ item_of old i
  item_kept i = pair (item_key new i) (item_key old i) _ _ (item_key_kept i) (content_kept i)

  byte_kept : (i at : ℕ) → HasByte new i at → HasByte old i at
  byte_kept i at h = record { from = subst (λ (n : ℕ). n ≤ at) (offset_kept i) h.from; below = subst (λ (n : ℕ). at < n) (end_kept i) h.below }

  leaf_kept : (items : List Item) → IsLeafBody old items → IsLeafBody new items
  leaf_kept items h = record {
    count = same_count ∙ h.count;
    most = h.most;
    each = λ i within. h.each i within ∙ ap (λ (item : Item). Some item) (sym (item_kept i));
    order = λ i within. subst (λ (k : Key). KeyBelow k (item_key new (i + 1))) (sym (item_key_kept i)) (subst (λ (k : Key). KeyBelow (item_key old i) k) (sym (item_key_kept (i + 1))) (h.order i within));
    behind_headers = λ i within. subst (λ (n : ℕ). 25 * length items ≤ n) (sym (offset_kept i)) (h.behind_headers i within);
    inside = λ i within. subst (λ (n : ℕ). n ≤ 3995) (sym (end_kept i)) (h.inside i within);
    apart = λ i j at first second one two. h.apart i j at first second (byte_kept i at one) (byte_kept j at two);
  }

  pointer_kept : (i : ℕ) → pointer_of new i ≡ pointer_of old i
  pointer_kept i = pointer_in_back new old 101 i same (omega arith)

  pointer_key_kept : (i : ℕ) → key_at new (pointer_at i) ≡ key_at old (pointer_at i)
  pointer_key_kept i = key (pointer_at i) (omega arith)

  node_kept : (pointers : List Pointer) → IsNodeBody old pointers → IsNodeBody new pointers
  node_kept pointers h = record {
    count = same_count ∙ h.count;
    least = h.least;
    most = h.most;
    each = λ i within. h.each i within ∙ ap (λ (pointer : Pointer). Some pointer) (sym (pointer_kept i));
    order = λ i within. subst (λ (k : Key). KeyBelow k (key_at new (pointer_at (i + 1)))) (sym (pointer_key_kept i)) (subst (λ (k : Key). KeyBelow (key_at old (pointer_at i)) k) (sym (pointer_key_kept (i + 1))) (h.order i within));
  }

  pub body_kept : HasSameBody old new
  body_kept = record { leaf = leaf_kept; node = node_kept }
