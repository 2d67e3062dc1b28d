-- Blocks of a file that become holes, as an edit of its extents.
use Rattle.std.proofs.Common.{◌≡◌, ◌≢◌, ◌⊎◌, ◌≤◌, ◌<◌, ◌+◌, ◌-◌, ◌*◌, ◌^◌, ◌||◌, ◌++◌, ℕ, zero, suc, Bool, true, false, not, List, [], ◌∷◌, length, Option, Some, refl, sym, ap, subst, ◌∙◌, arith, inl, inr}
use Rattle.std.specs.Prelude.{All, Contains, is_some, if◌then◌else◌}
use Rattle.std.proofs.lemmas.Bool.{cases_Bool, cases_eq, true≢false}
use Rattle.std.proofs.lemmas.Bool.Decides.{nat_tests}
use Rattle.std.proofs.lemmas.List.Elements.{All-contains}
use Rattle.blk_base.specs.declared.key.Key.{Key}
use Rattle.blk_base.specs.Keys.{KeyBelow, extent_data, key_below}
use Rattle.blk_base.specs.Leaf.{Item}
use Rattle.blk_base.specs.Trees.{ItemsRise, NoneTwice}
use Rattle.block_table.specs.declared.tree.Tree.{Tree}
use Rattle.block_table.specs.Table.{Table}
use Rattle.block_table.specs.TreeIn.{IsSealedTree, IsTaken, block_at}
use Rattle.leaf_view.specs.KeyOrder.{KeyBelow_parts}
use Rattle.leaf_view.proofs.Rising.{key_below_means}
use Rattle.tree_range.specs.Between.{data_under, has_key, items_between, items_from}
use Rattle.tree_range.specs.Part.{times_in}
use Rattle.tree_range.specs.Shape.{AreAlike, IsTree, tree_items, tree_reach}
use Rattle.tree_range.proofs.Found.{contains_under}
use Rattle.tree_range.proofs.Local.{tree_alike}
use Rattle.table_volume.specs.Edited.{BearGeneration}
use Rattle.table_volume.proofs.SubEdits.{alike_keeps_clean, clean_joined, tree_keeps_clean}
use Rattle.tree_range.proofs.Rise.{All-left, All-right, rise_head, rise_tail}
use Rattle.tree_range.proofs.Under.{has_key_means}
use Rattle.tree_delete_range.specs.Outside.{items_outside}
use Rattle.tree_frame.specs.Frame.{AreCurrent, IsEdit, TakesAtMost}
use Rattle.tree_frame.proofs.EditLaws.{edits_join}
use Rattle.tree_frame.proofs.Sealed.{sealed_alike}
use Rattle.file_extents.proofs.Items.{have_some}
use Rattle.cow_tree.proofs.Items.{rise_filter}
use Rattle.table_volume.specs.Gives.{data_in, sub_reach, tree_data}
use Rattle.table_volume.specs.TreeEdit.{IsTreeEdit}
use Rattle.table_volume.proofs.Items.{fewer_bear, under_kept}
use Rattle.table_volume.proofs.Keyed.{found_under}
use Rattle.volume_image.specs.Subvolume.{data_addresses, make_key}
use Rattle.volume_image.proofs.Lists.{in_cons}
use Rattle.volume_image.proofs.Members.{in_filter}
use Rattle.volume_image.proofs.Reaches.{head_in, tail_in}
use Rattle.data_release.specs.LetGo.{AreLeft, behind, files, in_front}
use Rattle.data_release.proofs.Ranges.{outside_of}
use Rattle.file_extents.specs.Extents.{Contents, HasRun, HoldContents, IsBeside, IsContentEdit, IsHeld, IsRunItem, NoneOver, cleared, held_between}
use Rattle.file_extents.proofs.Runs.{clear_holds}
use Rattle.file_extents.proofs.Held.{IsHeldWith, data_same, edited, files_alike, held_after, in_files, run_in_data, same_block, tree_and_files}

-- ---- how many items are in a range

record IsIn (ino : ℕ) (contents : Contents) (low count : ℕ) (item : Item) : Type 0 where
  begin : ℕ
  key : item.0 ≡ make_key ino extent_data (4096 * begin)
  from : low ≤ begin
  to : begin < low + count
  has : is_some (contents begin) ≡ true

key_up : (ino a b : ℕ) → KeyBelow (make_key ino extent_data (4096 * a)) (make_key ino extent_data (4096 * b)) → a < b
key_up ino a b h = let p = KeyBelow_parts (make_key ino extent_data (4096 * a)) (make_key ino extent_data (4096 * b)) h in grind (arith, p)

held_first : (contents : Contents) (low count : ℕ) → is_some (contents low) ≡ true → held_between contents low (suc count) ≡ 1 + held_between contents (suc low) count
held_first contents low count h = ap (λ (b : Bool). (if b then 1 else 0) + held_between contents (suc low) count) h

few_step : (ino : ℕ) (contents : Contents) (count low : ℕ) (x : Item) (xs : List Item) → ItemsRise (x ∷ xs) → ((y : Item) → Contains (x ∷ xs) y → IsIn ino contents low (suc count) y)
    → ((ys : List Item) → ItemsRise ys → ((y : Item) → Contains ys y → IsIn ino contents (suc low) count y) → length ys ≤ held_between contents (suc low) count) → length (x ∷ xs) ≤ held_between contents low (suc count)
few_step ino contents count low x xs rise each next = by (cases_eq is.begin low)
  where
    is : IsIn ino contents low (suc count) x
    is = each x (head_in x xs)

    above : (y : Item) → (c : Contains xs y) → is.begin < (each y (tail_in x y xs c)).begin
    above y c =
        let that = each y (tail_in x y xs c) in
        let h : KeyBelow x.0 y.0 = All-contains (λ (item : Item). KeyBelow x.0 item.0) xs y (rise_head x xs rise) c in
        key_up ino is.begin that.begin (subst (λ (k : Key). KeyBelow k (make_key ino extent_data (4096 * that.begin))) is.key (subst (λ (k : Key). KeyBelow x.0 k) that.key h))

    rest : (y : Item) → Contains xs y → IsIn ino contents (suc low) count y
    rest y c =
        let that = each y (tail_in x y xs c) in
        let up = above y c in
        record { begin = that.begin; key = that.key; from = omega (arith, up, is.from); to = omega (arith, that.to); has = that.has }

    by : (is.begin ≡ low) ⊎ (is.begin ≢ low) → length (x ∷ xs) ≤ held_between contents low (suc count)
    by (inl same) =
        let more = next xs (rise_tail x xs rise) rest in
        let one = held_first contents low count (ap (λ (n : ℕ). is_some (contents n)) (sym same) ∙ is.has) in
        omega (arith, more, one)
    by (inr other) =
        let mine : IsIn ino contents (suc low) count x = record { begin = is.begin; key = is.key; from = omega (arith, is.from, other); to = omega (arith, is.to); has = is.has } in
        let more = next (x ∷ xs) rise (λ y c. elim (in_cons x y xs c) [
          | inl same ↦ subst (λ (item : Item). IsIn ino contents (suc low) count item) same mine
          | inr there ↦ rest y there
        ]) in
        omega (arith, more)

few : (ino : ℕ) (contents : Contents) (count low : ℕ) (xs : List Item) → ItemsRise xs → ((x : Item) → Contains xs x → IsIn ino contents low count x) → length xs ≤ held_between contents low count
few ino contents zero low [] rise each = omega arith
few ino contents zero low (x ∷ xs) rise each =
    let is = each x (head_in x xs) in absurd (omega (arith, is.from, is.to))
few ino contents (suc count) low [] rise each = omega arith
few ino contents (suc count) low (x ∷ xs) rise each =
    few_step ino contents count low x xs rise each (λ ys r e. few ino contents count (suc low) ys r e)

not_true : (b : Bool) → not b ≡ true → b ≡ false
not_true true h = sym h
not_true false h = refl

not_false : (b : Bool) → b ≡ false → not b ≡ true
not_false b h = ap not h

objectid_of : (ino low high : ℕ) (key : Key) → key_below key (make_key ino extent_data low) ≡ false → key_below (make_key ino extent_data high) key ≡ false → key.objectid ≡ ino
objectid_of ino low high key a b = grind (arith, nat_tests)

kind_of : (ino low high : ℕ) (key : Key) → key.objectid ≡ ino → key_below key (make_key ino extent_data low) ≡ false → key_below (make_key ino extent_data high) key ≡ false → key.kind ≡ extent_data
kind_of ino low high key o a b = grind (arith, nat_tests)

low_of : (ino low : ℕ) (key : Key) → key.objectid ≡ ino → key.kind ≡ extent_data → key_below key (make_key ino extent_data low) ≡ false → low ≤ key.offset
low_of ino low key o k a = grind (arith, nat_tests)

high_of : (ino high : ℕ) (key : Key) → key.objectid ≡ ino → key.kind ≡ extent_data → key_below (make_key ino extent_data high) key ≡ false → key.offset ≤ high
high_of ino high key o k a = grind (arith, nat_tests)

below_test : (ino a b : ℕ) → a < b → key_below (make_key ino extent_data a) (make_key ino extent_data b) ≡ true
below_test ino a b h = grind (arith, nat_tests)

not_below_test : (ino a b : ℕ) → b ≤ a → key_below (make_key ino extent_data a) (make_key ino extent_data b) ≡ false
not_below_test ino a b h = grind (arith, nat_tests)

pub range_order : (ino from to : ℕ) → from < to → KeyBelow (make_key ino extent_data (4096 * from)) (make_key ino extent_data (4096 * to - 1))
range_order ino from to h = key_below_means (make_key ino extent_data (4096 * from)) (make_key ino extent_data (4096 * to - 1)) (below_test ino (4096 * from) (4096 * to - 1) (omega (arith, h)))

key_parts : (key : Key) (ino : ℕ) → key.objectid ≡ ino → key.kind ≡ extent_data → key ≡ make_key ino extent_data key.offset
key_parts key ino o k i = record { objectid = o i; kind = k i; offset = key.offset }

pub few_between : (items : List Item) (table : Table) (ino from to : ℕ) (contents : Contents) → ItemsRise items → HoldContents items (data_in table) ino contents → from < to
    → length (items_between (make_key ino extent_data (4096 * from)) (make_key ino extent_data (4096 * to - 1)) items) ≤ held_between contents from (to - from)
few_between items table ino from to contents rise hold order =
    few ino contents (to - from) from (items_between first last items) (rise_filter (λ (x : Item). not (key_below last x.0)) (items_from first items) (rise_filter (λ (x : Item). not (key_below x.0 first)) items rise)) is_in
  where
    first : Key
    first = make_key ino extent_data (4096 * from)

    last : Key
    last = make_key ino extent_data (4096 * to - 1)

    is_in : (x : Item) → Contains (items_between first last items) x → IsIn ino contents from (to - from) x
    is_in x c =
        let up = in_filter (λ (y : Item). not (key_below last y.0)) (items_from first items) x c in
        let down = in_filter (λ (y : Item). not (key_below y.0 first)) items x up.0 in
        let a = not_true (key_below x.0 first) down.1 in
        let b = not_true (key_below last x.0) up.1 in
        let o = objectid_of ino (4096 * from) (4096 * to - 1) x.0 a b in
        let k = kind_of ino (4096 * from) (4096 * to - 1) x.0 o a b in
        let low = low_of ino (4096 * from) x.0 o k a in
        let high = high_of ino (4096 * to - 1) x.0 o k b in
        let key_is = key_parts x.0 ino o k in
        let under : data_under (make_key ino extent_data x.0.offset) items ≡ Some x.1 = ap (λ (key : Key). data_under key items) (sym key_is) ∙ found_under items x.0 x.1 rise down.0 in
        let run : IsRunItem items ino x.0.offset = hold.each x.0.offset x.1 under in
        let some = have_some items ino run.begin run.at run.count run.run in
        let block = hold.are.holds run.begin run.at run.count 0 run.run (omega (arith, some)) in
        record {
          begin = run.begin;
          key = key_is ∙ ap (make_key ino extent_data) run.offset_is;
          from = omega (arith, low, run.offset_is);
          to = omega (arith, high, run.offset_is, order);
          has = ap (λ (n : ℕ). is_some (contents n)) (zero_more run.begin) ∙ ap (λ (o : Option (List ℕ)). is_some o) block.2;
        }
      where
        zero_more : (n : ℕ) → n ≡ n + 0
        zero_more n = omega arith

-- behind an edit of a file's extents each key is as small as before
pub offsets_stay : (old new : Table) (before after : Tree) (running ino most : ℕ) (contents : Contents) → IsHeld old before → IsContentEdit old new before after running ino most → HoldContents (tree_items new after) (data_in new) ino contents
    → ((number : ℕ) (block : List ℕ) → contents number ≡ Some block → number < 2 ^ 52) → ((key : Key) (bytes : List ℕ) → Contains (tree_items old before) (key, bytes) → key.offset + 1 < 2 ^ 64)
    → (key : Key) (bytes : List ℕ) → Contains (tree_items new after) (key, bytes) → key.offset + 1 < 2 ^ 64
offsets_stay old new before after running ino most contents held edit hold small offsets key bytes c = elim (cases_eq key.objectid ino) [
  | inl o ↦ elim (cases_eq key.kind extent_data) [
    | inl k ↦
        let under : data_under (make_key ino extent_data key.offset) (tree_items new after) ≡ Some bytes = ap (λ (x : Key). data_under x (tree_items new after)) (sym (key_parts key ino o k)) ∙ found_under (tree_items new after) key bytes edit.held.stands.order c in
        let run = hold.each key.offset bytes under in
        let some = have_some (tree_items new after) ino run.begin run.at run.count run.run in
        let block = hold.are.holds run.begin run.at run.count 0 run.run (omega (arith, some)) in
        let low = small (run.begin + 0) block.0 block.2 in
        omega (arith, low, run.offset_is)
    | inr k ↦ was (λ o' k'. k k')
  ]
  | inr o ↦ was (λ o' k'. o o')
]
  where
    was : IsBeside ino key → key.offset + 1 < 2 ^ 64
    was beside = offsets key bytes (contains_under (tree_items old before) key bytes (sym (edit.others key beside) ∙ found_under (tree_items new after) key bytes edit.held.stands.order c))

-- ---- the edit

either_true : (a b : Bool) → (a || b) ≡ true → (a ≡ true) ⊎ (b ≡ true)
either_true true b h = inl refl
either_true false b h = inr h

or_true_left : (a b : Bool) → a ≡ true → (a || b) ≡ true
or_true_left true b h = refl
or_true_left false b h = absurd (true≢false (sym h))

or_true_right : (a b : Bool) → b ≡ true → (a || b) ≡ true
or_true_right true b h = refl
or_true_right false b h = h

module _ (old mid : Table) (tree : Tree) (rest : List ℕ) (held : IsHeld old tree) (left : AreLeft old mid (tree_reach old tree ++ tree_data old tree) (tree_reach old tree ++ rest)) where
  pub alike_tree : AreAlike old mid (tree_reach old tree)
  alike_tree = All-left (λ (a : ℕ). block_at mid a ≡ block_at old a) (tree_reach old tree) rest left.alike

  pub items_mid : tree_items mid tree ≡ tree_items old tree
  items_mid = (tree_alike old mid tree alike_tree).0

  pub reach_mid : tree_reach mid tree ≡ tree_reach old tree
  reach_mid = (tree_alike old mid tree alike_tree).1

  pub held_mid : IsHeldWith mid tree rest
  held_mid = record {
    stands = (tree_alike old mid tree alike_tree).2 held.stands;
    taken = subst (λ (l : List ℕ). All (IsTaken mid) (l ++ rest)) (sym reach_mid) left.taken;
    current = subst (λ (l : List ℕ). AreCurrent mid (l ++ rest)) (sym reach_mid) left.current;
    once = subst (λ (l : List ℕ). NoneTwice (l ++ rest)) (sym reach_mid) left.once;
  }

module _ (old mid new : Table) (tree after : Tree) (running ino from to most : ℕ) (order : from < to) (held : IsHeld old tree)
    (left : AreLeft old mid (tree_reach old tree ++ tree_data old tree)
    (tree_reach old tree ++ (files (in_front (make_key ino extent_data (4096 * from)) (tree_items old tree)) ++ files (behind (make_key ino extent_data (4096 * to - 1)) (tree_items old tree)))))
    (stands : IsTree new after) (items_are : tree_items new after ≡ items_outside (make_key ino extent_data (4096 * from)) (make_key ino extent_data (4096 * to - 1)) (tree_items mid tree))
    (owner : after.owner ≡ tree.owner) (edit : IsEdit mid new (tree_reach mid tree) (tree_reach new after)) (current : AreCurrent new (tree_reach new after)) (blocks : TakesAtMost mid new most)
    (sealed : (fsid : List ℕ) (was : ℕ) → IsSealedTree mid tree fsid was → (now : ℕ) × IsSealedTree new after fsid now) where
  abbrev first : Key
  first = make_key ino extent_data (4096 * from)

  abbrev last : Key
  last = make_key ino extent_data (4096 * to - 1)

  abbrev items : List Item
  items = tree_items old tree

  abbrev rest : List ℕ
  rest = files (in_front first items) ++ files (behind last items)

  abbrev same_items : tree_items mid tree ≡ items
  same_items = items_mid old mid tree rest held left

  abbrev same_reach : tree_reach mid tree ≡ tree_reach old tree
  same_reach = reach_mid old mid tree rest held left

  abbrev with_rest : IsHeldWith mid tree rest
  with_rest = held_mid old mid tree rest held left

  items_now : tree_items new after ≡ items_outside first last items
  items_now = items_are ∙ ap (items_outside first last) same_items

  fewer : (item : Item) → Contains (tree_items new after) item → Contains (tree_items mid tree) item
  fewer item c = subst (λ (l : List Item). Contains l item) (sym same_items) (in_filter (λ (x : Item). key_below x.0 first || key_below last x.0) items item (subst (λ (l : List Item). Contains l item) items_now c)).0

  tree_edit : IsTreeEdit mid new tree after running most
  tree_edit = record {
    tree = stands;
    owner = owner;
    edit = edit;
    current = current;
    sealed = sealed;
    bear = fewer_bear running (tree_items mid tree) (tree_items new after) fewer;
    taken = blocks;
  }

  same : (x : ℕ) → times_in x rest ≡ times_in x (tree_data new after)
  same x = ap (times_in x) (sym (outside_of first last (range_order ino from to order) items held.stands.order)) ∙ ap (λ (l : List Item). times_in x (data_addresses l)) (sym items_now)

  -- a data block that is left stays
  stays_there : (x : ℕ) → Contains (tree_data new after) x → block_at new x ≡ block_at old x
  stays_there x c =
      let there = in_files rest (tree_data new after) same x c in
      same_block mid new rest x (files_alike mid new tree after running most rest with_rest tree_edit) there
      ∙ same_block old mid rest x (All-right (λ (a : ℕ). block_at mid a ≡ block_at old a) (tree_reach old tree) rest left.alike) there

  test_kept : (key other : Key) → ((key_below key first || key_below last key) ≡ true) → (item : Item) → has_key key item ≡ true → (key_below item.0 first || key_below last item.0) ≡ true
  test_kept key other h item same_key = ap (λ (k : Key). key_below k first || key_below last k) (has_key_means key item same_key) ∙ h

  under_outside : (key : Key) → (key_below key first || key_below last key) ≡ true → data_under key (tree_items new after) ≡ data_under key items
  under_outside key h = ap (data_under key) items_now ∙ under_kept key (λ (x : Item). key_below x.0 first || key_below last x.0) items (test_kept key key h)

  beside_outside : (key : Key) → IsBeside ino key → (key_below key first || key_below last key) ≡ true
  beside_outside key beside = elim (cases_Bool (key_below key first)) [
    | inl low ↦ or_true_left (key_below key first) (key_below last key) low
    | inr in_front_not ↦ elim (cases_Bool (key_below last key)) [
      | inl high ↦ or_true_right (key_below key first) (key_below last key) high
      | inr behind_not ↦
          let o = objectid_of ino (4096 * from) (4096 * to - 1) key in_front_not behind_not in
          absurd (beside o (kind_of ino (4096 * from) (4096 * to - 1) key o in_front_not behind_not))
    ]
  ]

  pub clear_edit : IsContentEdit old new tree after running ino most
  clear_edit =
      edited old new tree after running ino most rest (held_after mid new tree after running most rest with_rest tree_edit) same
      (edits_join old mid new (sub_reach old tree) (tree_reach mid tree ++ rest) (tree_reach new after ++ rest)
      (subst (λ (l : List ℕ). IsEdit old mid (sub_reach old tree) (l ++ rest)) (sym same_reach) left.edit) (tree_and_files mid new tree after running most rest with_rest tree_edit))
      owner (clean_joined old mid new tree tree after (alike_keeps_clean old mid tree (alike_tree old mid tree rest held left)) (tree_keeps_clean mid new tree after edit)) (λ fsid was h. sealed fsid was (sealed_alike tree.level old mid (record { fsid = fsid; at = tree.root; generation = was; owner = tree.owner; level = tree.level }) (alike_tree old mid tree rest held left) h))
      (subst (λ (l : List Item). BearGeneration running l (tree_items new after)) same_items tree_edit.bear)
      (record { spare = omega (arith, left.takes.spare, blocks.spare); free = omega (arith, left.takes.free, blocks.free) })
      (λ key beside. under_outside key (beside_outside key beside))
      (λ x was is. stays_there x is)

  -- ---- its contents

  comes_from : (offset : ℕ) (bytes : List ℕ) → data_under (make_key ino extent_data offset) (tree_items new after) ≡ Some bytes
      → (data_under (make_key ino extent_data offset) items ≡ Some bytes) × ((offset < 4096 * from) ⊎ (4096 * to - 1 < offset))
  comes_from offset bytes there =
      let key = make_key ino extent_data offset in
      let c : Contains (items_outside first last items) (key, bytes) = contains_under (items_outside first last items) key bytes (ap (data_under key) (sym items_now) ∙ there) in
      let was = in_filter (λ (x : Item). key_below x.0 first || key_below last x.0) items (key, bytes) c in (
        found_under items key bytes held.stands.order was.0,
        elim (either_true (key_below key first) (key_below last key) was.1) [
          | inl low ↦ inl (test_below offset (4096 * from) low)
          | inr high ↦ inr (test_below (4096 * to - 1) offset high)
        ],
      )
    where
      test_below : (a b : ℕ) → key_below (make_key ino extent_data a) (make_key ino extent_data b) ≡ true → a < b
      test_below a b h = grind (arith, nat_tests)

  comes : (b a c : ℕ) → HasRun (tree_items new after) ino b a c → HasRun items ino b a c × ((b < from) ⊎ (to ≤ b))
  comes b a c run =
      let was = comes_from (4096 * b) run.bytes run.there in (
        record { bytes = run.bytes; there = was.0; read = run.read },
        elim was.1 [ inl low ↦ inl (omega (arith, low)) | inr high ↦ inr (omega (arith, high)) ],
      )

  stays : (b a c : ℕ) → HasRun items ino b a c → (b < from) ⊎ (to ≤ b) → HasRun (tree_items new after) ino b a c
  stays b a c run out =
      let key = make_key ino extent_data (4096 * b) in
      let test : (key_below key first || key_below last key) ≡ true = elim out [
        | inl low ↦ or_true_left (key_below key first) (key_below last key) (below_test ino (4096 * b) (4096 * from) (omega (arith, low)))
        | inr high ↦ or_true_right (key_below key first) (key_below last key) (below_test ino (4096 * to - 1) (4096 * b) (omega (arith, high, order)))
      ] in
      record { bytes = run.bytes; there = under_outside key test ∙ run.there; read = run.read }

  pub clear_contents : (contents : Contents) → NoneOver (HasRun items ino) from → NoneOver (HasRun items ino) to → HoldContents items (data_in old) ino contents → HoldContents (tree_items new after) (data_in new) ino (cleared contents from to)
  clear_contents contents none_from none_to hold = record {
    each = λ offset bytes there.
        let was = comes_from offset bytes there in
        let run = hold.each offset bytes was.0 in
        record {
          begin = run.begin;
          at = run.at;
          count = run.count;
          offset_is = run.offset_is;
          run = stays run.begin run.at run.count run.run (elim was.1 [ inl low ↦ inl (omega (arith, low, run.offset_is)) | inr high ↦ inr (omega (arith, high, run.offset_is)) ]);
        };
    are = clear_holds (HasRun items ino) (HasRun (tree_items new after) ino) (data_in old) (data_in new) contents from to hold.are none_from none_to comes stays
        (λ b a c i r less. data_same old new (a + 4096 * i) (stays_there (a + 4096 * i) (run_in_data (tree_items new after) ino b a c i r less)));
  }
