-- Keys of items that rise, as the list is edited.
use Rattle.std.proofs.Common.{◌≡◌, ℕ, suc, zero, true, List, [], ◌∷◌, take, drop, refl}
use Rattle.std.specs.Prelude.{remove}
use Rattle.std.proofs.lemmas.Bool.{and_parts, and_from}
use Rattle.blk_base.specs.declared.key.Key.{Key}
use Rattle.blk_base.specs.Keys.{KeyBelow, key_below, keys_rise}
use Rattle.blk_base.specs.Leaf.{Item}
use Rattle.leaf_view.specs.KeyOrder.{KeyBelow_trans}
use Rattle.leaf_view.specs.Search.{keys_of}
use Rattle.leaf_view.proofs.Rising.{key_below_means, key_below_from}

-- the first key is below the next, and the rest rise
pub rise_head : (a b : Key) (keys : List Key) → keys_rise (a ∷ b ∷ keys) ≡ true → KeyBelow a b
rise_head a b keys h = key_below_means a b (and_parts (key_below a b) (keys_rise (b ∷ keys)) h).0

pub rise_tail : (a : Key) (keys : List Key) → keys_rise (a ∷ keys) ≡ true → keys_rise keys ≡ true
rise_tail a [] h = refl
rise_tail a (b ∷ keys) h = (and_parts (key_below a b) (keys_rise (b ∷ keys)) h).1

pub rise_cons : (a b : Key) (keys : List Key) → KeyBelow a b → keys_rise (b ∷ keys) ≡ true → keys_rise (a ∷ b ∷ keys) ≡ true
rise_cons a b keys below h = and_from (key_below a b) (keys_rise (b ∷ keys)) (key_below_from a b below) h

-- without the second key they still rise
rise_skip : (a b : Key) (keys : List Key) → keys_rise (a ∷ b ∷ keys) ≡ true → keys_rise (a ∷ keys) ≡ true
rise_skip a b [] h = refl
rise_skip a b (c ∷ keys) h =
    let rest = rise_tail a (b ∷ c ∷ keys) h in
    rise_cons a c keys (KeyBelow_trans a b c (rise_head a b (c ∷ keys) h) (rise_head b c keys rest)) (rise_tail b (c ∷ keys) rest)

pub rise-remove : (items : List Item) (at : ℕ) → keys_rise (keys_of items) ≡ true → keys_rise (keys_of (remove items at)) ≡ true
rise-remove [] zero h = refl
rise-remove [] (suc at) h = refl
rise-remove (a ∷ items) zero h = rise_tail a.0 (keys_of items) h
rise-remove (a ∷ []) (suc zero) h = refl
rise-remove (a ∷ []) (suc (suc at)) h = refl
rise-remove (a ∷ b ∷ items) (suc zero) h = rise_skip a.0 b.0 (keys_of items) h
rise-remove (a ∷ b ∷ items) (suc (suc at)) h = rise_cons a.0 b.0 (keys_of (remove items at)) (rise_head a.0 b.0 (keys_of items) h) (rise-remove (b ∷ items) (suc at) (rise_tail a.0 (keys_of (b ∷ items)) h))

-- a front and a back of keys that rise
pub rise-take : (keys : List Key) (n : ℕ) → keys_rise keys ≡ true → keys_rise (take n keys) ≡ true
rise-take keys zero h = refl
rise-take [] (suc n) h = refl
rise-take (a ∷ []) (suc zero) h = refl
rise-take (a ∷ []) (suc (suc n)) h = refl
rise-take (a ∷ b ∷ keys) (suc zero) h = refl
rise-take (a ∷ b ∷ keys) (suc (suc n)) h = rise_cons a b (take n keys) (rise_head a b keys h) (rise-take (b ∷ keys) (suc n) (rise_tail a (b ∷ keys) h))

pub rise-drop : (keys : List Key) (n : ℕ) → keys_rise keys ≡ true → keys_rise (drop n keys) ≡ true
rise-drop keys zero h = h
rise-drop [] (suc n) h = refl
rise-drop (a ∷ keys) (suc n) h = rise-drop keys n (rise_tail a keys h)
