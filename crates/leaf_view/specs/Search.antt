-- Lists of items and pointers by their keys.
use Rattle.std.specs.Prelude.{◌≤◌, ◌<◌, ℕ, List, map, take, drop, length, All}
use Rattle.blk_base.specs.declared.key.Key.{Key}
use Rattle.blk_base.specs.Keys.{KeyBelow}
use Rattle.blk_base.specs.Leaf.{Item, Pointer}

-- the keys of items, in order (own)
abbrev pub keys_of : List Item → List Key
keys_of items = map (λ item. item.0) items

-- the data of items, in order (own)
abbrev pub contents_of : List Item → List (List ℕ)
contents_of items = map (λ item. item.1) items

-- the first keys of children, in order (own)
abbrev pub pointer_keys : List Pointer → List Key
pointer_keys pointers = map (λ pointer. pointer.key) pointers

-- the addresses and generations of children, in order (own)
abbrev pub children_of : List Pointer → List (ℕ × ℕ)
children_of pointers = map (λ pointer. (pointer.at, pointer.generation)) pointers

-- where a key that isn't there belongs: the keys before it are below it, and those from there on above it (own)
pub record IsPlace (keys : List Key) (key : Key) (place : ℕ) : Type 0 where
  pub within : place ≤ length keys
  pub below : All (λ k. KeyBelow k key) (take place keys)
  pub above : All (λ k. KeyBelow key k) (drop place keys)

-- the same by places: what a search among n keys, of which the i-th is f i, answers where it doesn't find the key (own)
pub record IsGap (f : ℕ → Key) (n : ℕ) (key : Key) (place : ℕ) : Type 0 where
  pub within : place ≤ n
  pub below : (i : ℕ) → i < place → KeyBelow (f i) key
  pub above : (i : ℕ) → place ≤ i → i < n → KeyBelow key (f i)
