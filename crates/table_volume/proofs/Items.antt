-- Lists of items with one item put and with one gone, key by key; and the generation that what is new bears.
use Rattle.std.proofs.Common.{◌≡◌, ◌≢◌, ◌⊎◌, ◌∙◌, ℕ, Bool, true, false, List, [], ◌∷◌, ◌++◌, Option, Some, None, refl, sym, ap, subst, inl, inr}
use Rattle.std.specs.Prelude.{All, Contains, filter, if◌then◌else◌}
use Rattle.std.specs.declared.cmp.Ordering.{Ordering}
use Rattle.std.specs.declared.cmp.Ordering.TheVariants.{Less, Equal, Greater}
use Rattle.std.proofs.lemmas.Bool.{cases_Bool, false_from_ne_true, true≢false}
use Rattle.std.proofs.lemmas.List.Elements.{All-contains, All-contains_itself, All-weaker, Contains-append_cases}
use Rattle.blk_base.specs.declared.key.Key.{Key}
use Rattle.blk_base.specs.Bytes.{field}
use Rattle.blk_base.specs.Entries.{EntryValue, IsEntries}
use Rattle.blk_base.specs.ItemFaults.{IsEntriesKind}
use Rattle.blk_base.specs.Keys.{KeyBelow, extent_data, inode_item, key_below, key_cmp}
use Rattle.blk_base.specs.Leaf.{Item}
use Rattle.leaf_view.specs.KeyOrder.{KeyBelow_irrefl, KeyBelow_swap, KeyBelow_trans, same_key}
use Rattle.leaf_view.proofs.Rising.{key_below_from, key_below_means}
use Rattle.tree_range.specs.Between.{data_under, has_key}
use Rattle.tree_range.proofs.Under.{has_key_means, under_here}
use Rattle.tree_frame.specs.Frame.{with_item, without_item}
use Rattle.flat_model.proofs.Maps.{some_none}
use Rattle.volume_image.proofs.Lists.{in_cons}
use Rattle.volume_image.proofs.Members.{in_filter}
use Rattle.table_volume.specs.Edited.{BearGeneration, HadEntry}

-- ---- what stands under a key of a part

pub under_kept : (key : Key) (p : Item → Bool) (items : List Item) → ((item : Item) → has_key key item ≡ true → p item ≡ true) → data_under key (filter p items) ≡ data_under key items
under_kept key p [] h = refl
under_kept key p (x ∷ xs) h = elim (cases_Bool (has_key key x)) [
  | inl same ↦ rw (h x same) (rw same refl)
  | inr out ↦ elim (cases_Bool (p x)) [
    | inl kept ↦ rw kept (rw out (under_kept key p xs h))
    | inr gone ↦ rw gone (rw out (under_kept key p xs h))
  ]
]

pub under_out : (key : Key) (p : Item → Bool) (items : List Item) → ((item : Item) → has_key key item ≡ true → p item ≡ false) → data_under key (filter p items) ≡ None
under_out key p [] h = refl
under_out key p (x ∷ xs) h = elim (cases_Bool (p x)) [
  | inl kept ↦ let out : has_key key x ≡ false = false_from_ne_true (has_key key x) (λ same. true≢false (sym kept ∙ h x same)) in rw kept (rw out (under_out key p xs h))
  | inr gone ↦ rw gone (under_out key p xs h)
]

pub front_none : (key : Key) (front rest : List Item) → data_under key front ≡ None → data_under key (front ++ rest) ≡ data_under key rest
front_none key [] rest h = refl
front_none key (x ∷ xs) rest h = elim (cases_Bool (has_key key x)) [
  | inl same ↦ absurd (some_none x.1 (ap (λ (b : Bool). if b then Some x.1 else data_under key xs) (sym same) ∙ h))
  | inr out ↦ ap (λ (b : Bool). if b then Some x.1 else data_under key (xs ++ rest)) out ∙ front_none key xs rest (ap (λ (b : Bool). if b then Some x.1 else data_under key xs) (sym out) ∙ h)
]

pub behind_none : (key : Key) (front rest : List Item) → data_under key rest ≡ None → data_under key (front ++ rest) ≡ data_under key front
behind_none key [] rest h = h
behind_none key (x ∷ xs) rest h =
    ap (λ (o : Option (List ℕ)). if has_key key x then Some x.1 else o) (behind_none key xs rest h)

-- ---- the parts in front of a key and behind it

abbrev is_below : Key → Item → Bool
is_below key item = key_below item.0 key

abbrev is_above : Key → Item → Bool
is_above key item = key_below key item.0

pub not_itself : (key : Key) → key_below key key ≡ false
not_itself key = false_from_ne_true (key_below key key) (λ k. KeyBelow_irrefl key (key_below_means key key k))

pub not_both : (a b : Key) → KeyBelow a b → key_below b a ≡ false
not_both a b h = false_from_ne_true (key_below b a) (λ k. KeyBelow_irrefl a (KeyBelow_trans a b a h (key_below_means b a k)))

-- an item with a key is judged as the key is
judged : (key : Key) (f : Key → Bool) (b : Bool) → f key ≡ b → (item : Item) → has_key key item ≡ true → f item.0 ≡ b
judged key f b is item same = ap f (has_key_means key item same) ∙ is

own_below : (key : Key) (items : List Item) → data_under key (filter (is_below key) items) ≡ None
own_below key items =
    under_out key (is_below key) items (judged key (λ (k : Key). key_below k key) false (not_itself key))

own_above : (key : Key) (items : List Item) → data_under key (filter (is_above key) items) ≡ None
own_above key items =
    under_out key (is_above key) items (judged key (λ (k : Key). key_below key k) false (not_itself key))

pub data Side (other key : Key) : Type 0 where
  Lower : KeyBelow other key → Side other key
  Same : other ≡ key → Side other key
  Upper : KeyBelow key other → Side other key

pub side : (other key : Key) → Side other key
side other key = by (key_cmp other key) refl
  where
    by : (o : Ordering) → key_cmp other key ≡ o → Side other key
    by Less h = Lower h
    by Equal h = Same (same_key other key h)
    by Greater h = Upper (KeyBelow_swap other key h)

other_item : (key other : Key) (bytes : List ℕ) (rest : List Item) → other ≢ key → data_under other ((key, bytes) ∷ rest) ≡ data_under other rest
other_item key other bytes rest ne =
    let out : has_key other (key, bytes) ≡ false = false_from_ne_true (has_key other (key, bytes)) (λ same. ne (sym (has_key_means other (key, bytes) same))) in
    ap (λ (b : Bool). if b then Some bytes else data_under other rest) out

-- what the two parts have under another key
record Parts (key other : Key) (items : List Item) : Type 0 where
  lower_above : KeyBelow other key → data_under other (filter (is_above key) items) ≡ None
  lower_below : KeyBelow other key → data_under other (filter (is_below key) items) ≡ data_under other items
  upper_below : KeyBelow key other → data_under other (filter (is_below key) items) ≡ None
  upper_above : KeyBelow key other → data_under other (filter (is_above key) items) ≡ data_under other items

parts : (key other : Key) (items : List Item) → Parts key other items
parts key other items = record {
  lower_above = λ h. under_out other (is_above key) items (judged other (λ (k : Key). key_below key k) false (not_both other key h));
  lower_below = λ h. under_kept other (is_below key) items (judged other (λ (k : Key). key_below k key) true (key_below_from other key h));
  upper_below = λ h. under_out other (is_below key) items (judged other (λ (k : Key). key_below k key) false (not_both key other h));
  upper_above = λ h. under_kept other (is_above key) items (judged other (λ (k : Key). key_below key k) true (key_below_from key other h));
}

pub with_here : (key : Key) (bytes : List ℕ) (items : List Item) → data_under key (with_item key bytes items) ≡ Some bytes
with_here key bytes items =
    front_none key (filter (is_below key) items) ((key, bytes) ∷ filter (is_above key) items) (own_below key items) ∙ under_here (key, bytes) (filter (is_above key) items)

pub with_other : (key other : Key) (bytes : List ℕ) (items : List Item) → other ≢ key → data_under other (with_item key bytes items) ≡ data_under other items
with_other key other bytes items ne =
    let low = filter (is_below key) items in
    let high = filter (is_above key) items in
    let p : Parts key other items = parts key other items in
    elim (side other key) [
      | Lower h ↦ behind_none other low ((key, bytes) ∷ high) (other_item key other bytes high ne ∙ p.lower_above h) ∙ p.lower_below h
      | Same h ↦ absurd (ne h)
      | Upper h ↦ front_none other low ((key, bytes) ∷ high) (p.upper_below h) ∙ (other_item key other bytes high ne ∙ p.upper_above h)
    ]

pub without_here : (key : Key) (items : List Item) → data_under key (without_item key items) ≡ None
without_here key items =
    front_none key (filter (is_below key) items) (filter (is_above key) items) (own_below key items) ∙ own_above key items

pub without_other : (key other : Key) (items : List Item) → other ≢ key → data_under other (without_item key items) ≡ data_under other items
without_other key other items ne =
    let low = filter (is_below key) items in
    let high = filter (is_above key) items in
    let p : Parts key other items = parts key other items in
    elim (side other key) [
      | Lower h ↦ behind_none other low high (p.lower_above h) ∙ p.lower_below h
      | Same h ↦ absurd (ne h)
      | Upper h ↦ front_none other low high (p.upper_below h) ∙ p.upper_above h
    ]

-- ---- which items there are

pub with_cases : (key : Key) (bytes : List ℕ) (items : List Item) (item : Item) → Contains (with_item key bytes items) item → ((key, bytes) ≡ item) ⊎ Contains items item
with_cases key bytes items item there = elim (Contains-append_cases (filter (is_below key) items) ((key, bytes) ∷ filter (is_above key) items) item there) [
  | inl low ↦ inr (in_filter (is_below key) items item low).0
  | inr rest ↦ elim (in_cons (key, bytes) item (filter (is_above key) items) rest) [
    | inl same ↦ inl same
    | inr high ↦ inr (in_filter (is_above key) items item high).0
  ]
]

-- ---- generations

-- entries of an item that was there were there
old_entries : (running : ℕ) (items : List Item) (key : Key) (bytes : List ℕ) (found : List EntryValue) → Contains items (key, bytes) → IsEntries key.kind bytes found → All (λ entry. HadEntry items key entry ⊎ (entry.transid ≡ running)) found
old_entries running items key bytes found there spelled =
    All-weaker (Contains found) (λ (entry : EntryValue). HadEntry items key entry ⊎ (entry.transid ≡ running)) (λ entry has. inl (record { bytes = bytes; found = found; there = there; spelled = spelled; has = has })) found (All-contains_itself found)

pub fewer_bear : (running : ℕ) (old new : List Item) → ((item : Item) → Contains new item → Contains old item) → BearGeneration running old new
fewer_bear running old new fewer = record {
  inodes = λ key bytes kind there. inl (fewer (key, bytes) there);
  entries = λ key bytes found kind there spelled. old_entries running old key bytes found (fewer (key, bytes) there) spelled;
  extents = λ key bytes kind there. inl (fewer (key, bytes) there);
}

pub nothing_bears : (running : ℕ) (items : List Item) → BearGeneration running items items
nothing_bears running items = fewer_bear running items items (λ item there. there)

pub bear_joined : (running : ℕ) (old mid new : List Item) → BearGeneration running old mid → BearGeneration running mid new → BearGeneration running old new
bear_joined running old mid new one two = record {
  inodes = λ key bytes kind there. elim (two.inodes key bytes kind there) [ inl was ↦ one.inodes key bytes kind was | inr is ↦ inr is ];
  entries = λ key bytes found kind there spelled. All-weaker (λ (entry : EntryValue). HadEntry mid key entry ⊎ (entry.transid ≡ running)) (λ (entry : EntryValue). HadEntry old key entry ⊎ (entry.transid ≡ running))
      (λ entry h. elim h [
        | inl had ↦ All-contains (λ (e : EntryValue). HadEntry old key e ⊎ (e.transid ≡ running)) had.found entry (one.entries key had.bytes had.found kind had.there had.spelled) had.has
        | inr is ↦ inr is
      ]) found (two.entries key bytes found kind there spelled);
  extents = λ key bytes kind there. elim (two.extents key bytes kind there) [ inl was ↦ one.extents key bytes kind was | inr is ↦ inr is ];
}

pub put_bears : (running : ℕ) (items : List Item) (key : Key) (bytes : List ℕ) → (key.kind ≡ inode_item → field 8 bytes 8 ≡ running)
    → ((found : List EntryValue) → IsEntriesKind key.kind → IsEntries key.kind bytes found → All (λ entry. HadEntry items key entry ⊎ (entry.transid ≡ running)) found)
    → (key.kind ≡ extent_data → field 8 bytes 0 ≡ running) → BearGeneration running items (with_item key bytes items)
put_bears running items key bytes inode entries extent = record {
  inodes = λ k b kind there. elim (with_cases key bytes items (k, b) there) [
    | inl same ↦ inr (subst (λ (item : Item). item.0.kind ≡ inode_item → field 8 item.1 8 ≡ running) same inode kind)
    | inr was ↦ inl was
  ];
  entries = λ k b found kind there spelled. elim (with_cases key bytes items (k, b) there) [
    | inl same ↦ subst (λ (item : Item). (xs : List EntryValue) → IsEntriesKind item.0.kind → IsEntries item.0.kind item.1 xs → All (λ entry. HadEntry items item.0 entry ⊎ (entry.transid ≡ running)) xs) same entries found kind spelled
    | inr was ↦ old_entries running items k b found was spelled
  ];
  extents = λ k b kind there. elim (with_cases key bytes items (k, b) there) [
    | inl same ↦ inr (subst (λ (item : Item). item.0.kind ≡ extent_data → field 8 item.1 0 ≡ running) same extent kind)
    | inr was ↦ inl was
  ];
}
