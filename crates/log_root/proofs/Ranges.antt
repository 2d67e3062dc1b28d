-- The root items of logs in a list of items, and the ids that were read so far.
use Rattle.std.proofs.Common.{◌≡◌, ◌∙◌, ◌≤◌, ◌<◌, ◌+◌, ◌^◌, ℕ, zero, suc, Bool, true, false, not, cond, List, [], ◌∷◌, ◌++◌, length, drop, map, filter, slice_set, refl, sym, ap, subst, arith}
use Rattle.std.specs.Prelude.{All}
use Rattle.std.proofs.lemmas.Bool.Decides.{nat_tests}
use Rattle.std.proofs.lemmas.List.{append_assoc, length-append, length-map, map-append}
use Rattle.std.proofs.lemmas.List.Elements.{All-head, All-tail, All-weaker}
use Rattle.blk_base.specs.declared.key.SubId.{SubId}
use Rattle.blk_base.specs.Keys.{key_below}
use Rattle.blk_base.specs.Leaf.{Item}
use Rattle.tree_range.specs.Between.{items_up_to}
use Rattle.volume_format.specs.declared.root_item.RootItem.{RootItem}
use Rattle.log_root.specs.Entries.{AreIds, HasId, ids_of, log_entries, log_entry, log_key, log_roots, log_subs}

not_low : (id : ℕ) → key_below (log_key id) (log_key 0) ≡ false
not_low id = grind (arith, nat_tests)

not_high : (id : ℕ) → id < 2 ^ 64 → key_below (log_key 18446744073709551615) (log_key id) ≡ false
not_high id less = grind (arith, nat_tests)

kept_all : (p : Item → Bool) (subs : List (SubId × RootItem)) → All (λ (sub : SubId × RootItem). p (log_entry sub) ≡ true) subs → filter p (log_entries subs) ≡ log_entries subs
kept_all p [] h = refl
kept_all p (sub ∷ subs) h =
    ap (λ (b : Bool). cond b (log_entry sub ∷ filter p (log_entries subs)) (filter p (log_entries subs))) (All-head (λ (s : SubId × RootItem). p (log_entry s) ≡ true) sub subs h)
    ∙ ap (λ (zs : List Item). log_entry sub ∷ zs) (kept_all p subs (All-tail (λ (s : SubId × RootItem). p (log_entry s) ≡ true) sub subs h))

pub all_roots : (subs : List (SubId × RootItem)) → AreIds subs → log_roots (log_entries subs) ≡ log_entries subs
all_roots subs h =
    ap (items_up_to (log_key 18446744073709551615)) (kept_all (λ item. not (key_below item.0 (log_key 0))) subs (All-weaker HasId (λ (sub : SubId × RootItem). not (key_below (log_entry sub).0 (log_key 0)) ≡ true) (λ sub less. ap not (not_low sub.0.0)) subs h))
    ∙ kept_all (λ item. not (key_below (log_key 18446744073709551615) item.0)) subs (All-weaker HasId (λ (sub : SubId × RootItem). not (key_below (log_key 18446744073709551615) (log_entry sub).0) ≡ true) (λ sub less. ap not (not_high sub.0.0 less)) subs h)

abbrev sub_of : Item → SubId
sub_of item = record { 0 = item.0.offset }

ids_are : (subs : List (SubId × RootItem)) → map sub_of (log_entries subs) ≡ ids_of subs
ids_are [] = refl
ids_are (sub ∷ subs) = ap (λ (l : List SubId). sub.0 ∷ l) (ids_are subs)

pub all_ids : (subs : List (SubId × RootItem)) → AreIds subs → log_subs (log_entries subs) ≡ ids_of subs
all_ids subs h = ap (map sub_of) (all_roots subs h) ∙ ids_are subs

-- ---- ids are written one by one

-- some items are done, and the others are left; the ids of those that are done stand in front of what was there
pub record IsReadTo (all left : List Item) (count : ℕ) (old now : List SubId) : Type 0 where
  pub done : List Item
  pub split : done ++ left ≡ all
  pub long : length done ≡ count
  pub ids : now ≡ map sub_of done ++ drop count old

put_next : (done old : List SubId) (count : ℕ) (x : SubId) → length done ≡ count → count < length old → slice_set (done ++ drop count old) count x ≡ (done ++ x ∷ []) ++ drop (count + 1) old
put_next done old count x long less =
    subst (λ (n : ℕ). slice_set (done ++ drop n old) n x ≡ (done ++ x ∷ []) ++ drop (n + 1) old) long (behind done (drop (length done) old) ∙ sym (append_assoc done (x ∷ []) (drop (length done + 1) old)))
  where
    here : (n : ℕ) (l : List SubId) → n < length l → slice_set (drop n l) 0 x ≡ x ∷ drop (suc n) l
    here n [] h = absurd (omega (arith, h))
    here zero (y ∷ l) h = refl
    here (suc n) (y ∷ l) h = here n l (omega (arith, h))

    set_behind : (front back : List SubId) → slice_set (front ++ back) (length front) x ≡ front ++ slice_set back 0 x
    set_behind [] back = refl
    set_behind (y ∷ front) back = ap (λ (l : List SubId). y ∷ l) (set_behind front back)

    plus : suc (length done) ≡ length done + 1
    plus = omega arith

    behind : (front back : List SubId) → slice_set (done ++ drop (length done) old) (length done) x ≡ done ++ (x ∷ drop (length done + 1) old)
    behind front back =
        set_behind done (drop (length done) old) ∙ ap (λ (l : List SubId). done ++ l) (here (length done) old (omega (arith, long, less)) ∙ ap (λ (n : ℕ). x ∷ drop n old) plus)

pub read_more : (all left : List Item) (item : Item) (count : ℕ) (old now : List SubId) → IsReadTo all (item ∷ left) count old now → length all ≤ 16 → length old ≡ 16 → IsReadTo all left (count + 1) old (slice_set now count (record { 0 = item.0.offset }))
read_more all left item count old now h few size = record {
  done = h.done ++ item ∷ [];
  split = append_assoc h.done (item ∷ []) left ∙ h.split;
  long = length-append h.done (item ∷ []) ∙ ap (λ (n : ℕ). n + 1) h.long;
  ids = ap (λ (l : List SubId). slice_set l count (sub_of item)) h.ids ∙ put_next (map sub_of h.done) old count (sub_of item) (length-map h.done sub_of ∙ h.long) (omega (arith, left_some all left item count old now h, few, size)) ∙ ap (λ (l : List SubId). l ++ drop (count + 1) old) (sym (map-append sub_of h.done (item ∷ [])));
}
  where
    left_some : (all left : List Item) (item : Item) (count : ℕ) (old now : List SubId) → IsReadTo all (item ∷ left) count old now → count < length all
    left_some all left item count old now h =
        let size = sym (length-append h.done (item ∷ left)) ∙ ap length h.split in
        let long = h.long in
        omega (arith, size, long)
