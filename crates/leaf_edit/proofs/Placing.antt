-- A key put in where a search says that it belongs.
use Rattle.std.proofs.Common.{◌≡◌, ℕ, suc, zero, true, List, [], ◌∷◌, take, refl, ap, arith, ◌∙◌}
use Rattle.std.specs.Prelude.{insert}
use Rattle.std.proofs.lemmas.List.Elements.{All-head, All-tail}
use Rattle.blk_base.specs.declared.key.Key.{Key}
use Rattle.blk_base.specs.Keys.{KeyBelow, keys_rise}
use Rattle.blk_base.specs.Leaf.{Item, Pointer}
use Rattle.leaf_view.specs.Search.{keys_of, pointer_keys, IsPlace}
use Rattle.leaf_edit.specs.Rises.{rise_head, rise_tail, rise_cons}

pub rise-insert : (keys : List Key) (at : ℕ) (key : Key) → keys_rise keys ≡ true → IsPlace keys key at → keys_rise (insert keys at key) ≡ true
rise-insert [] zero key h place = refl
rise-insert [] (suc at) key h place = absurd (let w = place.within in omega arith)
rise-insert (a ∷ keys) zero key h place = rise_cons key a keys (All-head (KeyBelow key) a keys place.above) h
rise-insert (a ∷ []) (suc zero) key h place = rise_cons a key [] (All-head (λ k. KeyBelow k key) a [] place.below) refl
rise-insert (a ∷ []) (suc (suc at)) key h place = absurd (let w = place.within in omega arith)
rise-insert (a ∷ b ∷ keys) (suc zero) key h place =
    rise_cons a key (b ∷ keys) (All-head (λ k. KeyBelow k key) a [] place.below) (rise_cons key b keys (All-head (KeyBelow key) b keys place.above) (rise_tail a (b ∷ keys) h))
rise-insert (a ∷ b ∷ keys) (suc (suc at)) key h place =
    let rest : IsPlace (b ∷ keys) key (suc at) = record {
      within = let w = place.within in omega arith;
      below = All-tail (λ k. KeyBelow k key) a (take (suc at) (b ∷ keys)) place.below;
      above = place.above;
    } in
    rise_cons a b (insert keys at key) (rise_head a b keys h) (rise-insert (b ∷ keys) (suc at) key (rise_tail a (b ∷ keys) h) rest)

keys_of-insert : (items : List Item) (at : ℕ) (item : Item) → keys_of (insert items at item) ≡ insert (keys_of items) at item.0
keys_of-insert items zero item = refl
keys_of-insert [] (suc at) item = refl
keys_of-insert (x ∷ items) (suc at) item = ap (λ keys. x.0 ∷ keys) (keys_of-insert items at item)

-- the order that an insert asks for
pub order-insert : (items : List Item) (at : ℕ) (key : Key) (content : List ℕ) → keys_rise (keys_of items) ≡ true → IsPlace (keys_of items) key at → keys_rise (keys_of (insert items at (key, content))) ≡ true
order-insert items at key content h place = ap keys_rise (keys_of-insert items at (key, content)) ∙ rise-insert (keys_of items) at key h place

pointer_keys-insert : (pointers : List Pointer) (at : ℕ) (pointer : Pointer) → pointer_keys (insert pointers at pointer) ≡ insert (pointer_keys pointers) at pointer.key
pointer_keys-insert pointers zero pointer = refl
pointer_keys-insert [] (suc at) pointer = refl
pointer_keys-insert (x ∷ pointers) (suc at) pointer = ap (λ keys. x.key ∷ keys) (pointer_keys-insert pointers at pointer)

pub pointer_order-insert : (pointers : List Pointer) (at : ℕ) (pointer : Pointer) → keys_rise (pointer_keys pointers) ≡ true → IsPlace (pointer_keys pointers) pointer.key at → keys_rise (pointer_keys (insert pointers at pointer)) ≡ true
pointer_order-insert pointers at pointer h place = ap keys_rise (pointer_keys-insert pointers at pointer) ∙ rise-insert (pointer_keys pointers) at pointer.key h place
