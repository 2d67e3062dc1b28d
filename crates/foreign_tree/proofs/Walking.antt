-- Items that a visitor was shown, and walks that go on from block to block.
use Rattle.std.proofs.Common.{◌≡◌, ◌≤◌, ◌<◌, ◌+◌, ◌-◌, ◌++◌, ℕ, zero, suc, List, [], ◌∷◌, map, drop, take, Option, Some, Result, Ok, Err, sym, ap, subst, ◌∙◌, arith, append-nil, append_assoc, nat_lt}
use Rattle.std.specs.Prelude.{IfErr, OnOk}
use Rattle.std.specs.List.{range_with_len}
use Rattle.std.proofs.lemmas.Bool.{le-ltb, lt-ltb}
use Rattle.std.proofs.lemmas.List.FromFn.{map-range_with_len_more}
use Rattle.blk_base.specs.declared.key.Key.{Key}
use Rattle.blk_base.specs.Bytes.{Image}
use Rattle.blk_base.specs.Leaf.{Pointer, below, count_of, item_end, item_key, item_offset, item_size, pointer_of}
use Rattle.disk_model.specs.Disk.{IfTold}
use Rattle.format_laws.specs.Checks.{finds, finds_none}
use Rattle.foreign_format.specs.declared.fault.ForeignFault.{ForeignFault}
use Rattle.foreign_format.specs.declared.fault.ForeignFault.TheVariants.{Level}
use Rattle.foreign_format.specs.declared.fault.ReadFault.{ReadFault}
use Rattle.foreign_format.specs.declared.fault.ReadFault.TheVariants.{Foreign, Disk, OutOfMemory}
use Rattle.foreign_format.specs.Answer.{and_then}
use Rattle.foreign_tree.specs.declared.reached.Reached.{Reached}
use Rattle.foreign_tree.specs.declared.volume.Wanted.{Wanted}
use Rattle.foreign_tree.specs.Answers.{HasMetMore, IsFaultBelow, IsNotOpened, IsWalk, IsWalkedBelow, child_wanted, walk_at}
use Rattle.foreign_tree.specs.Reached.{HasReached}
use Rattle.foreign_tree.specs.Tree.{VolumeValue, Found, Walked, disk_bytes, item_found, items_of, node_at, nothing_walked, opened, pointers_of, tree_of, walk_children, walk_from}
use Rattle.foreign_tree.proofs.Told.{told_always, told_from}

-- nothing was shown yet
pub met_none : {V : Type 0} (has_met : V → List Found → Type 0) (visitor : V) → HasMetMore has_met visitor visitor []
met_none has_met visitor before met = rw append-nil met

-- more was shown
pub met_more : {V : Type 0} (has_met : V → List Found → Type 0) (old mid new : V) (near far : List Found) → HasMetMore has_met old mid near → HasMetMore has_met mid new far → HasMetMore has_met old new (near ++ far)
met_more has_met old mid new near far one two before met = subst (has_met new) (append_assoc before near far) (two (before ++ near) (one before met))

-- one item more of a leaf
pub met_next : {V : Type 0} (has_met : V → List Found → Type 0) (old mid new : V) (leaf place : ℕ) (bytes : List ℕ) (i : ℕ) (found : Found)
    → HasMetMore has_met old mid (map (item_found leaf place bytes) (below i)) → HasMetMore has_met mid new (found ∷ []) → found ≡ item_found leaf place bytes i
    → HasMetMore has_met old new (map (item_found leaf place bytes) (below (i + 1)))
met_next has_met old mid new leaf place bytes i found one two is =
    subst (HasMetMore has_met old new) (ap (λ (next : Found). map (item_found leaf place bytes) (below i) ++ next ∷ []) is ∙ sym (map-range_with_len_more (item_found leaf place bytes) 0 i i (omega arith)))
    (met_more has_met old mid new (map (item_found leaf place bytes) (below i)) (found ∷ []) one two)

-- an item as it is shown
abbrev found_as : ℕ → ℕ → Key → List ℕ → Found
found_as leaf place key content = record { leaf = leaf; place = place; key = key; content = content }

-- an item by where its content begins and ends in the leaf
pub found_is : (leaf place : ℕ) (bytes read sliced : List ℕ) (i start end : ℕ) (key : Key) → read ≡ bytes → sliced ≡ bytes → key ≡ item_key read i → start ≡ 101 + item_offset read i → end ≡ 101 + item_end read i
    → found_as leaf (place + start) key (take (end - start) (drop start sliced)) ≡ item_found leaf place bytes i
found_is leaf place bytes read sliced i start end key same same' is_key is_start is_end =
    let size : end - start ≡ item_size read i = omega arith in
    (λ j. found_as leaf (place + is_start j) (is_key j) (take (size j) (drop (is_start j) (same' j))))
    ∙ ap (λ (found : List ℕ). found_as leaf (place + (101 + item_offset found i)) (item_key found i) (take (item_size found i) (drop (101 + item_offset found i) bytes))) same

-- ---- one block

-- what is met at a child, on this level
abbrev pub child_walk : ℕ → VolumeValue → List ℕ → Pointer → Walked → Result Walked ForeignFault
child_walk level volume disk = λ pointer met. walk_from level volume disk pointer.at (Some pointer.generation) met

-- what was met before, with these items at these addresses behind it
abbrev pub with_more : Walked → List Found → List ℕ → Walked
with_more before items reach = record { items = before.items ++ items; reached = before.reached ++ reach }

-- the block was reached
abbrev pub with_block : Walked → ℕ → Walked
with_block before at = record { items = before.items; reached = before.reached ++ at ∷ [] }

leaf_walk : (level : ℕ) (volume : VolumeValue) (disk : List ℕ) (at : ℕ) (generation : Option ℕ) (before : Walked) (place : ℕ) → level ≡ 0
    → opened volume disk level at generation before.reached ≡ Ok place
    → walk_from level volume disk at generation before ≡ Ok (record { items = before.items ++ items_of at place (node_at volume disk place); reached = before.reached ++ at ∷ [] })
leaf_walk zero volume disk at generation before place low is =
    ap (λ (r : Result ℕ ForeignFault). and_then r (λ place. Ok (with_more before (items_of at place (node_at volume disk place)) (at ∷ [])))) is
leaf_walk (suc level) volume disk at generation before place low is = absurd (omega arith)

node_walk : (level : ℕ) (volume : VolumeValue) (disk : List ℕ) (at : ℕ) (generation : Option ℕ) (before : Walked) (place : ℕ) → 0 < level
    → opened volume disk level at generation before.reached ≡ Ok place
    → walk_from level volume disk at generation before ≡ walk_children (child_walk (level - 1) volume disk) (pointers_of (node_at volume disk place)) (with_block before at)
node_walk zero volume disk at generation before place above is = absurd (omega arith)
node_walk (suc level) volume disk at generation before place above is =
    let same : suc level - 1 ≡ level = omega arith in
    ap (λ (r : Result ℕ ForeignFault). and_then r (λ place. walk_children (child_walk level volume disk) (pointers_of (node_at volume disk place)) (with_block before at))) is
    ∙ ap (λ (n : ℕ). walk_children (child_walk n volume disk) (pointers_of (node_at volume disk place)) (with_block before at)) (sym same)

refused_walk : (level : ℕ) (volume : VolumeValue) (disk : List ℕ) (at : ℕ) (generation : Option ℕ) (before : Walked) (fault : ForeignFault)
    → opened volume disk level at generation before.reached ≡ Err fault → walk_from level volume disk at generation before ≡ Err fault
refused_walk zero volume disk at generation before fault is =
    ap (λ (r : Result ℕ ForeignFault). and_then r (λ place. Ok (with_more before (items_of at place (node_at volume disk place)) (at ∷ [])))) is
refused_walk (suc level) volume disk at generation before fault is =
    ap (λ (r : Result ℕ ForeignFault). and_then r (λ place. walk_children (child_walk level volume disk) (pointers_of (node_at volume disk place)) (with_block before at))) is

-- a block that isn't opened is the walk's fault
pub not_opened : (volume : VolumeValue) (disk : List ℕ) (wanted : Wanted) (old : Reached) (fault : ReadFault) → IsNotOpened volume disk wanted old fault → IsFaultBelow volume disk wanted old fault
not_opened volume disk wanted old (Foreign fault) h = λ before there. refused_walk wanted.level volume disk wanted.at wanted.generation before fault (h before.reached there)
not_opened volume disk wanted old Disk h = tt
not_opened volume disk wanted old OutOfMemory h = tt

-- the block was opened, whatever was reached before (own)
abbrev pub IsOpened : VolumeValue → List ℕ → Wanted → Reached → ℕ → Type 0
IsOpened volume disk wanted old place = (before : List ℕ) → HasReached old before → opened volume disk wanted.level wanted.at wanted.generation before ≡ Ok place

-- the addresses were added to those from before (own)
abbrev pub HasReachedMore : Reached → Reached → List ℕ → Type 0
HasReachedMore old new reach = (before : List ℕ) → HasReached old before → HasReached new (before ++ reach)

-- a leaf whose items were shown
pub leaf_walked : {V : Type 0} (has_met : V → List Found → Type 0) (volume : VolumeValue) (disk : List ℕ) (wanted : Wanted) (old new : Reached) (from to : V) (place : ℕ) (bytes : List ℕ) → wanted.level ≡ 0
    → IsOpened volume disk wanted old place → bytes ≡ node_at volume disk place → HasReachedMore old new (wanted.at ∷ []) → HasMetMore has_met from to (items_of wanted.at place bytes)
    → IsWalkedBelow has_met volume disk wanted old new from to
leaf_walked has_met volume disk wanted old new from to place bytes low opens is reached met = record {
  items = items_of wanted.at place bytes;
  reach = wanted.at ∷ [];
  walks = λ before there. leaf_walk wanted.level volume disk wanted.at wanted.generation before place low (opens before.reached there)
      ∙ ap (λ (found : List ℕ). Ok (with_more before (items_of wanted.at place found) (wanted.at ∷ []))) (sym is);
  reached = reached;
  met = met;
}

-- ---- the children of a node

-- The children of a node up to a place were walked: the walk goes on with those from there on, behind what they added.
pub record IsWalking {V : Type 0} (has_met : V → List Found → Type 0) (volume : VolumeValue) (disk : List ℕ) (wanted : Wanted) (old now : Reached) (from to : V) (rest : List Pointer) : Type 0 where
  pub items : List Found
  pub reach : List ℕ
  pub walks : (before : Walked) → HasReached old before.reached
      → walk_at volume disk wanted before ≡ walk_children (child_walk (wanted.level - 1) volume disk) rest (record { items = before.items ++ items; reached = before.reached ++ reach })
  pub reached : HasReachedMore old now reach
  pub met : HasMetMore has_met from to items

-- the pointers of a node from a place on
abbrev pub rest_of : List ℕ → ℕ → List Pointer
rest_of bytes i = map (pointer_of bytes) (range_with_len i (count_of bytes - i))

rest_next : (bytes : List ℕ) (i : ℕ) → i < count_of bytes → rest_of bytes i ≡ pointer_of bytes i ∷ rest_of bytes (i + 1)
rest_next bytes i there =
    let left : count_of bytes - i ≡ suc (count_of bytes - (i + 1)) = omega arith in
    ap (λ (n : ℕ). map (pointer_of bytes) (range_with_len i n)) left

rest_none : (bytes : List ℕ) (i : ℕ) → count_of bytes ≤ i → rest_of bytes i ≡ []
rest_none bytes i all = let left : count_of bytes - i ≡ 0 = omega arith in ap (λ (n : ℕ). map (pointer_of bytes) (range_with_len i n)) left

-- none of a node's children was walked
pub walking_none : {V : Type 0} (has_met : V → List Found → Type 0) (volume : VolumeValue) (disk : List ℕ) (wanted : Wanted) (old now : Reached) (visitor : V) (place : ℕ) (bytes : List ℕ) → 0 < wanted.level
    → IsOpened volume disk wanted old place → bytes ≡ node_at volume disk place → HasReachedMore old now (wanted.at ∷ []) → IsWalking has_met volume disk wanted old now visitor visitor (rest_of bytes 0)
walking_none has_met volume disk wanted old now visitor place bytes above opens is reached = record {
  items = [];
  reach = wanted.at ∷ [];
  walks = λ before there. node_walk wanted.level volume disk wanted.at wanted.generation before place above (opens before.reached there)
      ∙ ap (λ (found : List ℕ). walk_children (child_walk (wanted.level - 1) volume disk) (pointers_of found) (with_block before wanted.at)) (sym is)
      ∙ ap (λ (n : ℕ). walk_children (child_walk (wanted.level - 1) volume disk) (map (pointer_of bytes) (range_with_len 0 n)) (with_block before wanted.at)) (let left : count_of bytes ≡ count_of bytes - 0 = omega arith in left)
      ∙ ap (λ (met : List Found). walk_children (child_walk (wanted.level - 1) volume disk) (rest_of bytes 0) (record { items = met; reached = before.reached ++ wanted.at ∷ [] })) (sym (append-nil before.items));
  reached = reached;
  met = met_none has_met visitor;
}

-- one child more was walked
pub walking_more : {V : Type 0} (has_met : V → List Found → Type 0) (volume : VolumeValue) (disk : List ℕ) (wanted : Wanted) (old mid new : Reached) (from on to : V) (bytes : List ℕ) (i : ℕ) (child : Wanted)
    → i < count_of bytes → child ≡ child_wanted wanted.level (pointer_of bytes i) → IsWalking has_met volume disk wanted old mid from on (rest_of bytes i) → IsWalkedBelow has_met volume disk child mid new on to
    → IsWalking has_met volume disk wanted old new from to (rest_of bytes (i + 1))
walking_more has_met volume disk wanted old mid new from on to bytes i child there is one two = record {
  items = one.items ++ two.items;
  reach = one.reach ++ two.reach;
  walks = λ before has.
      let walked : Walked = record { items = before.items ++ one.items; reached = before.reached ++ one.reach } in
      let step = child_walk (wanted.level - 1) volume disk in
      let here : step (pointer_of bytes i) walked ≡ Ok (record { items = walked.items ++ two.items; reached = walked.reached ++ two.reach }) =
      ap (λ (w : Wanted). walk_at volume disk w walked) (sym is) ∙ two.walks walked (one.reached before.reached has) in
      one.walks before has
      ∙ ap (λ (pointers : List Pointer). walk_children step pointers walked) (rest_next bytes i there)
      ∙ ap (λ (r : Result Walked ForeignFault). and_then r (walk_children step (rest_of bytes (i + 1)))) here
      ∙ (λ j. walk_children step (rest_of bytes (i + 1)) (record { items = append_assoc before.items one.items two.items j; reached = append_assoc before.reached one.reach two.reach j }));
  reached = λ before has. subst (HasReached new) (append_assoc before one.reach two.reach) (two.reached (before ++ one.reach) (one.reached before has));
  met = met_more has_met from on to one.items two.items one.met two.met;
}

-- a child's fault is the node's
pub walking_fails : {V : Type 0} (has_met : V → List Found → Type 0) (volume : VolumeValue) (disk : List ℕ) (wanted : Wanted) (old mid : Reached) (from on : V) (bytes : List ℕ) (i : ℕ) (child : Wanted) (fault : ReadFault)
    → i < count_of bytes → child ≡ child_wanted wanted.level (pointer_of bytes i) → IsWalking has_met volume disk wanted old mid from on (rest_of bytes i) → IsFaultBelow volume disk child mid fault → IsFaultBelow volume disk wanted old fault
walking_fails has_met volume disk wanted old mid from on bytes i child (Foreign fault) there is one two = λ before has.
    let walked : Walked = record { items = before.items ++ one.items; reached = before.reached ++ one.reach } in
    let step = child_walk (wanted.level - 1) volume disk in
    let here : step (pointer_of bytes i) walked ≡ Err fault = ap (λ (w : Wanted). walk_at volume disk w walked) (sym is) ∙ two walked (one.reached before.reached has) in
    one.walks before has
    ∙ ap (λ (pointers : List Pointer). walk_children step pointers walked) (rest_next bytes i there)
    ∙ ap (λ (r : Result Walked ForeignFault). and_then r (walk_children step (rest_of bytes (i + 1)))) here
walking_fails has_met volume disk wanted old mid from on bytes i child Disk there is one two = tt
walking_fails has_met volume disk wanted old mid from on bytes i child OutOfMemory there is one two = tt

-- all children were walked
pub walking_all : {V : Type 0} (has_met : V → List Found → Type 0) (volume : VolumeValue) (disk : List ℕ) (wanted : Wanted) (old new : Reached) (from to : V) (bytes : List ℕ) (i : ℕ)
    → count_of bytes ≤ i → IsWalking has_met volume disk wanted old new from to (rest_of bytes i) → IsWalkedBelow has_met volume disk wanted old new from to
walking_all has_met volume disk wanted old new from to bytes i all one = record {
  items = one.items;
  reach = one.reach;
  walks = λ before has. one.walks before has
      ∙ ap (λ (pointers : List Pointer). walk_children (child_walk (wanted.level - 1) volume disk) pointers (record { items = before.items ++ one.items; reached = before.reached ++ one.reach })) (rest_none bytes i all);
  reached = one.reached;
  met = one.met;
}

-- ---- the whole tree

-- a root that is too high
pub too_high : (volume : VolumeValue) (disk : List ℕ) (root : Wanted) → 7 < root.level → tree_of volume disk root ≡ Err (Level root.at)
unfolding tree_of
too_high volume disk root high = finds (nat_lt 7 root.level) _ _ (lt-ltb 7 root.level high)

tree_walk : (volume : VolumeValue) (disk : List ℕ) (root : Wanted) → root.level ≤ 7 → tree_of volume disk root ≡ walk_at volume disk root nothing_walked
unfolding tree_of
tree_walk volume disk root low = finds_none (nat_lt 7 root.level) _ _ (le-ltb 7 root.level low)

-- what was walked from the root on is the answer
pub walk_answers : {V : Type 0} (has_met : V → List Found → Type 0) (seen : Option Image) (volume : VolumeValue) (root : Wanted) (old new : Reached) (from to : V) (result : Result (Unit {0}) ReadFault) → root.level ≤ 7 → HasReached old []
    → OnOk result (IfTold seen (λ image. IsWalkedBelow has_met volume (disk_bytes image) root old new from to)) → IfErr result (λ fault. IfTold seen (λ image. IsFaultBelow volume (disk_bytes image) root old fault))
    → IfTold seen (λ image. IsWalk has_met from to result (tree_of volume (disk_bytes image) root))
walk_answers has_met seen volume root old new from to (Ok _) low none ok err =
    told_from seen _ _ ok (λ image one. (with_more nothing_walked one.items one.reach, tree_walk volume (disk_bytes image) root low ∙ one.walks nothing_walked none, one.met))
walk_answers has_met seen volume root old new from to (Err (Foreign fault)) low none ok err =
    told_from seen _ _ err (λ image one. tree_walk volume (disk_bytes image) root low ∙ one nothing_walked none)
walk_answers has_met seen volume root old new from to (Err Disk) low none ok err = told_always seen _ (λ image. tt)
walk_answers has_met seen volume root old new from to (Err OutOfMemory) low none ok err = told_always seen _ (λ image. tt)
