-- How many different numbers a list has, by another that has each of them, and how many items there are of one inode and kind.
use Rattle.std.proofs.Common.{◌≡◌, ◌≤◌, ◌<◌, ◌+◌, ℕ, Bool, true, false, cond, not, List, [], ◌∷◌, ◌||◌, Contains, filter, length, map, nat_eq, sym, ap, ◌∙◌, arith, inl, inr}
use Rattle.std.specs.List.{list_any}
use Rattle.std.proofs.lemmas.Bool.{cases_Bool, eq-eqb, true≢false}
use Rattle.std.proofs.lemmas.List.Elements.{All-contains}
use Rattle.blk_base.specs.Keys.{KeyBelow}
use Rattle.blk_base.specs.Leaf.{Item}
use Rattle.blk_base.specs.Trees.{ItemsRise, NoneTwice}
use Rattle.leaf_view.specs.KeyOrder.{KeyBelow_parts}
use Rattle.tree_range.proofs.Rise.{rise_head, rise_tail}
use Rattle.flat_model.specs.Needs.{count_different}
use Rattle.volume_image.proofs.Lists.{in_cons, in_nothing}
use Rattle.volume_image.proofs.Members.{filter_in, in_map}
use Rattle.volume_image.proofs.Reaches.{head_in, tail_in}

-- ---- different numbers

-- the list without a number
others : ℕ → List ℕ → List ℕ
others n xs = filter (λ x. not (nat_eq n x)) xs

pub filter_less : {X : Type 0} (p : X → Bool) (xs : List X) → length (filter p xs) ≤ length xs
filter_less p [] = omega arith
filter_less p (x ∷ xs) =
    let rest = filter_less p xs in
    elim (cases_Bool (p x)) [ inl kept ↦ rw kept (omega arith) | inr gone ↦ rw gone (omega arith) ]

one_more : (n : ℕ) (xs : List ℕ) → Contains xs n → 1 + length (others n xs) ≤ length xs
unfolding others
one_more n [] c = absurd (in_nothing n c)
one_more n (x ∷ xs) c = elim (cases_Bool (nat_eq n x)) [
  | inl same ↦ let less = filter_less (λ x. not (nat_eq n x)) xs in rw same (omega arith)
  | inr other ↦ elim (in_cons x n xs c) [
    | inl is ↦ absurd (true≢false (sym (eq-eqb n x (sym is)) ∙ other))
    | inr later ↦ let rest = one_more n xs later in rw other (omega arith)
  ]
]

apart : (n : ℕ) (ns : List ℕ) (x : ℕ) → list_any (nat_eq n) ns ≡ false → Contains ns x → nat_eq n x ≡ false
apart n [] x none c = absurd (in_nothing x c)
apart n (y ∷ ns) x none c = elim (cases_Bool (nat_eq n y)) [
  | inl here ↦ absurd (true≢false (sym (ap (λ (b : Bool). b || list_any (nat_eq n) ns) here) ∙ none))
  | inr out ↦ elim (in_cons y x ns c) [
    | inl is ↦ ap (nat_eq n) (sym is) ∙ out
    | inr later ↦ apart n ns x (sym (ap (λ (b : Bool). b || list_any (nat_eq n) ns) out) ∙ none) later
  ]
]

pub many_different : (within xs : List ℕ) → ((x : ℕ) → Contains within x → Contains xs x) → count_different within ≤ length xs
unfolding others
many_different [] xs all = omega arith
many_different (n ∷ ns) xs all = elim (cases_Bool (list_any (nat_eq n) ns)) [
  | inl there ↦ rw there (many_different ns xs (λ x c. all x (tail_in n x ns c)))
  | inr new ↦
      let rest = many_different ns (others n xs) (λ x c. filter_in (λ y. not (nat_eq n y)) xs x (all x (tail_in n x ns c)) (ap not (apart n ns x new c))) in
      let more = one_more n xs (all n (head_in n ns)) in
      rw new (omega arith)
]

-- ---- items of one inode and kind

-- the items are of one inode and kind, with offsets from one number on and below another
pub record AreWithin (ino kind low high : ℕ) (items : List Item) : Type 0 where
  pub rise : ItemsRise items
  pub objectid : (item : Item) → Contains items item → item.0.objectid ≡ ino
  pub kind_is : (item : Item) → Contains items item → item.0.kind ≡ kind
  pub from : (item : Item) → Contains items item → low ≤ item.0.offset
  pub to : (item : Item) → Contains items item → item.0.offset < high

above : (ino kind low high : ℕ) (x : Item) (xs : List Item) → AreWithin ino kind low high (x ∷ xs) → (item : Item) → Contains xs item → x.0.offset < item.0.offset
above ino kind low high x xs are item c =
    let below = All-contains (λ (item : Item). KeyBelow x.0 item.0) xs item (rise_head x xs are.rise) c in
    let parts = KeyBelow_parts x.0 item.0 below in
    let one = are.objectid x (head_in x xs) in
    let two = are.kind_is x (head_in x xs) in
    let three = are.objectid item (tail_in x item xs c) in
    let four = are.kind_is item (tail_in x item xs c) in
    grind (arith, parts, one, two, three, four)

pub few_within : (ino kind low high : ℕ) (items : List Item) → AreWithin ino kind low high items → low ≤ high → length items + low ≤ high
few_within ino kind low high [] are most = omega arith
few_within ino kind low high (x ∷ xs) are most =
    let first = are.from x (head_in x xs) in
    let last = are.to x (head_in x xs) in
    let rest = few_within ino kind (low + 1) high xs (record {
      rise = rise_tail x xs are.rise;
      objectid = λ item c. are.objectid item (tail_in x item xs c);
      kind_is = λ item c. are.kind_is item (tail_in x item xs c);
      from = λ item c. let more = above ino kind low high x xs are item c in omega (arith, more, first);
      to = λ item c. are.to item (tail_in x item xs c);
    }) (omega (arith, first, last)) in
    omega (arith, rest)

pub once_within : (ino kind low high : ℕ) (items : List Item) → AreWithin ino kind low high items → NoneTwice (map (λ (item : Item). item.0.offset) items)
once_within ino kind low high [] are = tt
once_within ino kind low high (x ∷ xs) are = (
  λ twice.
      let from = in_map (λ (item : Item). item.0.offset) xs x.0.offset twice in
      let more = above ino kind low high x xs are from.0 from.1 in
      let same = from.2 in
      absurd (omega (arith, more, same)),
  once_within ino kind low high xs (record {
    rise = rise_tail x xs are.rise;
    objectid = λ item c. are.objectid item (tail_in x item xs c);
    kind_is = λ item c. are.kind_is item (tail_in x item xs c);
    from = λ item c. are.from item (tail_in x item xs c);
    to = λ item c. are.to item (tail_in x item xs c);
  }),
)
