-- The items of a root tree, one after another, and what they say together.
use Rattle.std.proofs.Common.{◌≡◌, ◌≤◌, ◌<◌, ◌+◌, ◌-◌, ◌++◌, ◌==◌, ◌&&◌, ℕ, zero, suc, Bool, true, false, cond, not, nat_lt, List, [], ◌∷◌, length, map, take, drop, slice_get, Contains, Some, Result, Ok, Err, refl, sym, ap, subst, ◌∙◌, arith, inl, inr, append-nil, append_assoc, length-append}
use Rattle.std.specs.List.{flat_map, range_with_len}
use Rattle.std.proofs.lemmas.Bool.{cases_Bool, ltb-true, ltb-false, lt-ltb, le-ltb}
use Rattle.blk_base.specs.declared.fault.ItemFault.{ItemFault}
use Rattle.blk_base.specs.declared.fault.ItemFault.TheVariants.{Kind, Size}
use Rattle.blk_base.specs.declared.fault.RootFault.{RootFault}
use Rattle.blk_base.specs.declared.key.Key.{Key}
use Rattle.blk_base.specs.declared.key.Want.{Want}
use Rattle.blk_base.specs.Items.{RootValue, root_of, root_value}
use Rattle.blk_base.specs.Leaf.{Item, Pointer, leaf_body_of, node_body_of}
use Rattle.blk_base.specs.Superblock.{SuperValue}
use Rattle.block_table.specs.Table.{Table}
use Rattle.block_table.specs.TreeIn.{block_at}
use Rattle.flat_model.specs.Volume.{subvolume_ids}
use Rattle.format_laws.specs.Items.{IsRoot-from_read}
use Rattle.leaf_view.specs.Search.{children_of}
use Rattle.std.proofs.lemmas.Bool.{eq-eqb}
use Rattle.tree_check.specs.Items.{leaves_below}
use Rattle.tree_check.proofs.Places.{above, from_child, from_here, node_is, none_from}
use Rattle.tree_range.specs.Shape.{items_below, leaf_items}
use Rattle.tree_range.proofs.Bodies.{leaf_items_are}
use Rattle.volume_image.specs.Roots.{NoRoot, OtherPair, RootsFault, roots_in, roots_of, sub_want, with_root}
use Rattle.volume_image.proofs.Lists.{in_cons, in_nothing}
use Rattle.volume_image.proofs.Reaches.{head_in, tail_in}
use Rattle.volume_image.proofs.RootItems.{first_ids, length-subvolume_ids, roots_are_read}
use Rattle.std.proofs.lemmas.List.Elements.{Contains-append_left, Contains-append_right}
use Rattle.tree_mount.specs.declared.fault.MountFault.{MountFault}
use Rattle.tree_mount.specs.declared.fault.MountFault.TheVariants.{Super, Log, Load, NoRoom, Disk, OutOfMemory}
use Rattle.tree_mount.specs.declared.fault.MountFault.TheVariants as mounts
use Rattle.tree_mount.specs.Roots.{AreRootsRead, IsOtherBelow, IsOtherOf, IsRootsFault, as_found, is_root_key, roots_then, sub_id, with_item, with_items}
use Rattle.tree_mount.specs.Trees.{sub_wants}

-- ---- numbers of subvolumes

range_drop : (a m n : ℕ) → n < m → drop n (range_with_len a m) ≡ (a + n) ∷ drop (suc n) (range_with_len a m)
range_drop a zero n h = absurd (omega arith)
range_drop a (suc m) zero h = let e : a ≡ a + 0 = omega arith in ap (λ (x : ℕ). x ∷ range_with_len (a + 1) m) e
range_drop a (suc m) (suc n) h =
    range_drop (a + 1) m n (omega arith) ∙ (let e : a + 1 + n ≡ a + suc n = omega arith in ap (λ (x : ℕ). x ∷ drop (suc n) (range_with_len (a + 1) m)) e)

ids_from : (n : ℕ) → n < 16 → drop n (subvolume_ids 16) ≡ sub_id n ∷ drop (suc n) (subvolume_ids 16)
ids_from zero h = refl
ids_from (suc n) h = range_drop 256 15 n (omega arith)

none_wants : (super : SuperValue) (ids : List ℕ) → sub_wants super ids [] ≡ []
none_wants super [] = refl
none_wants super (id ∷ ids) = refl

wants_cut : (super : SuperValue) (ids : List ℕ) (roots : List RootValue) → sub_wants super ids roots ≡ sub_wants super (take (length roots) ids) roots
wants_cut super [] [] = refl
wants_cut super [] (root ∷ roots) = refl
wants_cut super (id ∷ ids) [] = refl
wants_cut super (id ∷ ids) (root ∷ roots) = ap (λ (l : List Want). sub_want super id root ∷ l) (wants_cut super ids roots)

pub wants_long : (super : SuperValue) (ids : List ℕ) (roots : List RootValue) → length ids ≡ length roots → length (sub_wants super ids roots) ≡ length roots
wants_long super [] [] e = refl
wants_long super [] (root ∷ roots) e = absurd (omega arith)
wants_long super (id ∷ ids) [] e = absurd (omega arith)
wants_long super (id ∷ ids) (root ∷ roots) e = ap suc (wants_long super ids roots (omega arith))

wants_owners : (super : SuperValue) (ids : List ℕ) (roots : List RootValue) → length ids ≡ length roots → map (λ (want : Want). want.owner) (sub_wants super ids roots) ≡ ids
wants_owners super [] [] e = refl
wants_owners super [] (root ∷ roots) e = absurd (omega arith)
wants_owners super (id ∷ ids) [] e = absurd (omega arith)
wants_owners super (id ∷ ids) (root ∷ roots) e = ap (λ (l : List ℕ). id ∷ l) (wants_owners super ids roots (omega arith))

wants_fsids : (super : SuperValue) (ids : List ℕ) (roots : List RootValue) (want : Want) → Contains (sub_wants super ids roots) want → want.fsid ≡ super.fsid
wants_fsids super [] roots want c = absurd (in_nothing want c)
wants_fsids super (id ∷ ids) [] want c = absurd (in_nothing want c)
wants_fsids super (id ∷ ids) (root ∷ roots) want c = elim (in_cons (sub_want super id root) want (sub_wants super ids roots) c) [
  | inl here ↦ ap (λ (w : Want). w.fsid) (sym here)
  | inr there ↦ wants_fsids super ids roots want there
]

-- ---- one item

-- what comes of the tests of a key and of a length
abbrev tested : Bool → Bool → Key → List Want → Want → Result (List Want) RootsFault
tested right whole key found want = cond (not right) (Err (OtherPair key Kind)) (cond (not whole) (Err (OtherPair key Size)) (Ok (found ++ want ∷ [])))

both_right : (a b : Bool) → a ≡ true → b ≡ true → (a && b) ≡ true
both_right true b e h = h
both_right false b e h = absurd cc

pub too_many : (super : SuperValue) (found : List Want) (item : Item) → 16 ≤ length found → as_found found item.0 (Err Kind) ≡ with_item super found item
too_many super found item many =
    sym (ap (λ (t : Bool). tested (t && is_root_key item.0 (sub_id (length found))) (length item.1 == 439) item.0 found (sub_want super (sub_id (length found)) (root_value item.1))) (le-ltb (length found) 16 many))

pub other_key : (super : SuperValue) (found : List Want) (item : Item) → is_root_key item.0 (sub_id (length found)) ≡ false → as_found found item.0 (Err Kind) ≡ with_item super found item
other_key super found item other = go (nat_lt (length found) 16)
  where
    go : (t : Bool) → Err (OtherPair item.0 Kind) ≡ tested (t && is_root_key item.0 (sub_id (length found))) (length item.1 == 439) item.0 found (sub_want super (sub_id (length found)) (root_value item.1))
    go true = sym (ap (λ (k : Bool). tested k (length item.1 == 439) item.0 found (sub_want super (sub_id (length found)) (root_value item.1))) other)
    go false = refl

pub other_size : (super : SuperValue) (found : List Want) (item : Item) (fault : RootFault) → length found < 16 → is_root_key item.0 (sub_id (length found)) ≡ true → Err fault ≡ root_of item.1 → as_found found item.0 (Err Size) ≡ with_item super found item
unfolding root_of
other_size super found item fault few key read =
    sym (ap (λ (k : Bool). tested k (length item.1 == 439) item.0 found (sub_want super (sub_id (length found)) (root_value item.1))) (both_right _ _ (lt-ltb (length found) 16 few) key) ∙ go (length item.1 == 439) read)
  where
    go : (s : Bool) → Err fault ≡ cond (not s) (Err Rattle.blk_base.specs.declared.fault.RootFault.TheVariants.Size) (Ok (root_value item.1)) → tested true s item.0 found (sub_want super (sub_id (length found)) (root_value item.1)) ≡ Err (OtherPair item.0 Size)
    go true e = absurd cc
    go false e = refl

pub next_root : (super : SuperValue) (found : List Want) (item : Item) (root : RootValue) → length found < 16 → is_root_key item.0 (sub_id (length found)) ≡ true → Ok root ≡ root_of item.1
    → as_found found item.0 (Ok (sub_want super (sub_id (length found)) root)) ≡ with_item super found item
next_root super found item root few key read =
    let is = IsRoot-from_read item.1 root (sym read) in
    sym (ap (λ (k : Bool). tested k (length item.1 == 439) item.0 found (sub_want super (sub_id (length found)) (root_value item.1))) (both_right _ _ (lt-ltb (length found) 16 few) key)
    ∙ ap (λ (s : Bool). tested true s item.0 found (sub_want super (sub_id (length found)) (root_value item.1))) (eq-eqb (length item.1) 439 is.size)
    ∙ ap (λ (r : RootValue). Ok (found ++ sub_want super (sub_id (length found)) r ∷ [])) is.value)

-- ---- all items

-- the wants of roots behind those that were found
abbrev as_wants : SuperValue → List Want → Result (List RootValue) RootsFault → Result (List Want) RootsFault
as_wants super found (Ok roots) = Ok (found ++ sub_wants super (drop (length found) (subvolume_ids 16)) roots)
as_wants super found (Err fault) = Err fault

read_from : (super : SuperValue) (found : List Want) (items : List Item) → length found ≤ 16 → with_items super found items ≡ as_wants super found (roots_in (drop (length found) (subvolume_ids 16)) items)
read_from super found [] few = ap Ok (sym (append-nil found) ∙ ap (λ (l : List Want). found ++ l) (sym (none_wants super (drop (length found) (subvolume_ids 16)))))
read_from super found (item ∷ items) few = elim (cases_Bool (nat_lt (length found) 16)) [
  | inl fewer ↦ go (λ more fit. read_from super more items fit) (ltb-true (length found) 16 fewer) fewer
  | inr many ↦
      let full : length found ≡ 16 = let past = ltb-false (length found) 16 many in omega arith in
      ap (λ (r : Result (List Want) RootsFault). roots_then r (λ more. with_items super more items)) (sym (too_many super found item (omega arith)))
      ∙ sym (ap (λ (n : ℕ). as_wants super found (roots_in (drop n (subvolume_ids 16)) (item ∷ items))) full)
]
  where
    go : ((more : List Want) → length more ≤ 16 → with_items super more items ≡ as_wants super more (roots_in (drop (length more) (subvolume_ids 16)) items)) → length found < 16 → nat_lt (length found) 16 ≡ true
        → with_items super found (item ∷ items) ≡ as_wants super found (roots_in (drop (length found) (subvolume_ids 16)) (item ∷ items))
    go again below fewer =
        ap (λ (t : Bool). roots_then (tested (t && is_root_key item.0 id) (length item.1 == 439) item.0 found want) (λ more. with_items super more items)) fewer
        ∙ by (is_root_key item.0 id) (length item.1 == 439)
        ∙ sym (ap (λ (ids : List ℕ). as_wants super found (roots_in ids (item ∷ items))) here)
      where
        id : ℕ
        id = sub_id (length found)

        want : Want
        want = sub_want super id (root_value item.1)

        ids : List ℕ
        ids = drop (suc (length found)) (subvolume_ids 16)

        here : drop (length found) (subvolume_ids 16) ≡ id ∷ ids
        here = ids_from (length found) below

        long : length (found ++ want ∷ []) ≡ suc (length found)
        long = length-append found (want ∷ []) ∙ (let e : length found + 1 ≡ suc (length found) = omega arith in e)

        join : (r : Result (List RootValue) RootsFault) → as_wants super (found ++ want ∷ []) r ≡ as_wants super found (with_root (root_value item.1) r)
        join (Err fault) = refl
        join (Ok roots) =
            ap (λ (n : ℕ). Ok ((found ++ want ∷ []) ++ sub_wants super (drop n (subvolume_ids 16)) roots)) long
            ∙ ap Ok (append_assoc found (want ∷ []) (sub_wants super ids roots))
            ∙ sym (ap (λ (l : List ℕ). Ok (found ++ sub_wants super l (root_value item.1 ∷ roots))) here)

        later : with_items super (found ++ want ∷ []) items ≡ as_wants super found (with_root (root_value item.1) (roots_in ids items))
        later =
            again (found ++ want ∷ []) (omega (arith, long))
            ∙ ap (λ (n : ℕ). as_wants super (found ++ want ∷ []) (roots_in (drop n (subvolume_ids 16)) items)) long
            ∙ join (roots_in ids items)

        by : (key whole : Bool) → roots_then (tested key whole item.0 found want) (λ more. with_items super more items)
            ≡ as_wants super found (cond (not key) (Err (OtherPair item.0 Kind)) (cond (not whole) (Err (OtherPair item.0 Size)) (with_root (root_value item.1) (roots_in ids items))))
        by false whole = refl
        by true false = refl
        by true true = later

read_all : (super : SuperValue) (items : List Item) → with_items super [] items ≡ as_wants super [] (roots_in (subvolume_ids 16) items)
read_all super items = read_from super [] items (omega arith)

-- the wants of all items
pub roots_read : (super : SuperValue) (items : List Item) (wants : List Want) → with_items super [] items ≡ Ok wants → 1 ≤ length wants → AreRootsRead super items wants
roots_read super [] wants is some = absurd (let none : [] ≡ wants = cc in let long = ap length none in omega arith)
roots_read super (item ∷ items) wants is some = go (roots_of (item ∷ items)) refl
  where
    go : (r : Result (List RootValue) RootsFault) → roots_of (item ∷ items) ≡ r → AreRootsRead super (item ∷ items) wants
    go (Err fault) e = absurd (let no : Ok wants ≡ Err fault = sym is ∙ read_all super (item ∷ items) ∙ ap (as_wants super []) e in cc)
    go (Ok roots) e =
        let same : Ok wants ≡ Ok (sub_wants super (subvolume_ids 16) roots) = sym is ∙ read_all super (item ∷ items) ∙ ap (as_wants super []) e in
        let all : wants ≡ sub_wants super (subvolume_ids 16) roots = cc in
        let read = (roots_are_read (item ∷ items) roots).0 e in
        let are : wants ≡ sub_wants super (subvolume_ids (length roots)) roots = all ∙ wants_cut super (subvolume_ids 16) roots ∙ ap (λ (ids : List ℕ). sub_wants super ids roots) (first_ids (length roots) read.1) in
        let long : length wants ≡ length roots = ap length are ∙ wants_long super (subvolume_ids (length roots)) roots (length-subvolume_ids (length roots)) in
        record {
          roots = roots;
          read = e;
          wants_are = are;
          fsids = λ want c. wants_fsids super (subvolume_ids (length roots)) roots want (subst (λ (l : List Want). Contains l want) are c);
          least = some;
          most = omega (arith, read.1, long);
          ids = ap (map (λ (want : Want). want.owner)) are ∙ wants_owners super (subvolume_ids (length roots)) roots (length-subvolume_ids (length roots)) ∙ sym (ap subvolume_ids long);
        }

-- no items at all
pub roots_none : (super : SuperValue) (items : List Item) (wants : List Want) → with_items super [] items ≡ Ok wants → length wants ≡ 0 → roots_of items ≡ Err NoRoot
roots_none super [] wants is none = refl
roots_none super (item ∷ items) wants is none = go (roots_of (item ∷ items)) refl
  where
    go : (r : Result (List RootValue) RootsFault) → roots_of (item ∷ items) ≡ r → roots_of (item ∷ items) ≡ Err NoRoot
    go (Err fault) e = absurd (let no : Ok wants ≡ Err fault = sym is ∙ read_all super (item ∷ items) ∙ ap (as_wants super []) e in cc)
    go (Ok roots) e =
        let same : Ok wants ≡ Ok (sub_wants super (subvolume_ids 16) roots) = sym is ∙ read_all super (item ∷ items) ∙ ap (as_wants super []) e in
        let all : wants ≡ sub_wants super (subvolume_ids 16) roots = cc in
        let read = (roots_are_read (item ∷ items) roots).0 e in
        let are : wants ≡ sub_wants super (subvolume_ids (length roots)) roots = all ∙ wants_cut super (subvolume_ids 16) roots ∙ ap (λ (ids : List ℕ). sub_wants super ids roots) (first_ids (length roots) read.1) in
        let long : length wants ≡ length roots = ap length are ∙ wants_long super (subvolume_ids (length roots)) roots (length-subvolume_ids (length roots)) in
        absurd (omega (arith, read.0, long, none))

turned : (fault other : RootsFault) → ◌≡◌ {A = Result (List Want) RootsFault} (Err fault) (Err other) → ◌≡◌ {A = Result (List RootValue) RootsFault} (Err fault) (Err other)
turned fault other h = let same : fault ≡ other = cc in ap Err same

other_first : (super : SuperValue) (items : List Item) (key : Key) (why : ItemFault) → with_items super [] items ≡ Err (OtherPair key why) → roots_of items ≡ Err (OtherPair key why)
other_first super [] key why is = absurd cc
other_first super (item ∷ items) key why is = go (roots_of (item ∷ items)) refl
  where
    go : (r : Result (List RootValue) RootsFault) → roots_of (item ∷ items) ≡ r → roots_of (item ∷ items) ≡ Err (OtherPair key why)
    go (Ok roots) e = absurd (let no : Err (OtherPair key why) ≡ Ok (sub_wants super (subvolume_ids 16) roots) = sym is ∙ read_all super (item ∷ items) ∙ ap (as_wants super []) e in cc)
    go (Err fault) e = e ∙ turned fault (OtherPair key why) (sym (ap (as_wants super []) e) ∙ sym (read_all super (item ∷ items)) ∙ is)

-- the fault below a root is that of the root tree
pub roots_fail : (super : SuperValue) (table : Table) (level at : ℕ) (fault : MountFault) → IsOtherBelow (with_items super [] (items_below level table at)) table level at fault → IsRootsFault table level at fault
roots_fail super table level at (mounts.Item place key why) h = (other_first super (items_below level table at) key why h.0, h.1)
roots_fail super table level at OutOfMemory h = tt
roots_fail super table level at Disk h = absurd h
roots_fail super table level at Log h = absurd h
roots_fail super table level at (Super found) h = absurd h
roots_fail super table level at (Load found) h = absurd h
roots_fail super table level at (mounts.Incoherent id ino) h = absurd h
roots_fail super table level at (NoRoom free need) h = absurd h

-- ---- one after another

then_then : {A B C : Type 0} (r : Result A RootsFault) (f : A → Result B RootsFault) (g : B → Result C RootsFault) → roots_then (roots_then r f) g ≡ roots_then r (λ x. roots_then (f x) g)
then_then (Ok x) f g = refl
then_then (Err fault) f g = refl

pub items_joined : (super : SuperValue) (found : List Want) (near far : List Item) → with_items super found (near ++ far) ≡ roots_then (with_items super found near) (λ more. with_items super more far)
items_joined super found [] far = refl
items_joined super found (item ∷ near) far = go (λ more. items_joined super more near far) (with_item super found item) ∙ sym (then_then (with_item super found item) (λ more. with_items super more near) (λ more. with_items super more far))
  where
    go : ((more : List Want) → with_items super more (near ++ far) ≡ roots_then (with_items super more near) (λ last. with_items super last far)) → (r : Result (List Want) RootsFault)
        → roots_then r (λ more. with_items super more (near ++ far)) ≡ roots_then r (λ more. roots_then (with_items super more near) (λ last. with_items super last far))
    go later (Ok more) = later more
    go later (Err fault) = refl

-- ---- the items of a leaf

pub item_passes : (super : SuperValue) (found : List Want) (want : Want) (leaf : List Item) (place : ℕ) (item : Item) → slice_get leaf place ≡ Some item → as_found found item.0 (Ok want) ≡ with_item super found item
    → with_items super found (drop place leaf) ≡ with_items super (found ++ want ∷ []) (drop (place + 1) leaf)
item_passes super found want leaf place item is passes =
    ap (with_items super found) (from_here leaf place item is) ∙ ap (λ (r : Result (List Want) RootsFault). roots_then r (λ more. with_items super more (drop (place + 1) leaf))) (sym passes)

pub item_fails : (super : SuperValue) (found : List Want) (why : ItemFault) (leaf : List Item) (place : ℕ) (item : Item) → slice_get leaf place ≡ Some item → as_found found item.0 (Err why) ≡ with_item super found item
    → with_items super found (drop place leaf) ≡ Err (OtherPair item.0 why)
item_fails super found why leaf place item is fails =
    ap (with_items super found) (from_here leaf place item is) ∙ ap (λ (r : Result (List Want) RootsFault). roots_then r (λ more. with_items super more (drop (place + 1) leaf))) (sym fails)

pub items_end : (super : SuperValue) (found : List Want) (leaf : List Item) (place : ℕ) → length leaf ≤ place → with_items super found (drop place leaf) ≡ Ok found
items_end super found leaf place past = ap (with_items super found) (none_from leaf place past)

pub held_at : (leaf : List Item) (place : ℕ) (item : Item) → slice_get leaf place ≡ Some item → Contains leaf item
held_at [] place item is = absurd cc
held_at (first ∷ leaf) zero item is = let same : first ≡ item = cc in subst (Contains (first ∷ leaf)) same (head_in first leaf)
held_at (first ∷ leaf) (suc place) item is = tail_in first item leaf (held_at leaf place item is)

-- ---- below a block

-- the items below the children of a node from this one on
abbrev pub items_behind : ℕ → Table → List Pointer → ℕ → List Item
items_behind below table pointers place = flat_map (λ (pointer : Pointer). items_below below table pointer.at) (drop place pointers)

abbrev leaves_behind : ℕ → Table → List Pointer → ℕ → List ℕ
leaves_behind below table pointers place = flat_map (λ (pointer : Pointer). leaves_below below table pointer.at) (drop place pointers)

pub leaf_alone : (table : Table) (at level : ℕ) (bytes : List ℕ) (leaf : List Item) → level ≡ 0 → bytes ≡ (block_at table at).bytes → leaf_body_of bytes ≡ Ok leaf → items_below level table at ≡ leaf
leaf_alone table at level bytes leaf low bytes_are body =
    ap (λ (n : ℕ). items_below n table at) low ∙ leaf_items_are table at leaf (subst (λ (b : List ℕ). leaf_body_of b ≡ Ok leaf) bytes_are body)

pub leaf_fails : (super : SuperValue) (found : List Want) (table : Table) (at : Rattle.blk_base.specs.declared.key.Addr.Addr) (level : ℕ) (bytes : List ℕ) (leaf : List Item) (fault : MountFault) → level ≡ 0 → bytes ≡ (block_at table at.0).bytes → leaf_body_of bytes ≡ Ok leaf
    → IsOtherOf (with_items super found leaf) leaf at fault → IsOtherBelow (with_items super found (items_below level table at.0)) table level at.0 fault
leaf_fails super found table at level bytes leaf fault low bytes_are body = go fault
  where
    same : leaf_items table at.0 ≡ leaf
    same = leaf_items_are table at.0 leaf (subst (λ (b : List ℕ). leaf_body_of b ≡ Ok leaf) bytes_are body)

    go : (f : MountFault) → IsOtherOf (with_items super found leaf) leaf at f → IsOtherBelow (with_items super found (items_below level table at.0)) table level at.0 f
    go (mounts.Item place key why) h = (
      ap (with_items super found) (leaf_alone table at.0 level bytes leaf low bytes_are body) ∙ h.0,
      record {
        leaf = subst (λ (n : ℕ). Contains (leaves_below n table at.0) place.0) (sym low) (subst (Contains (at.0 ∷ [])) (sym (ap (λ (a : Rattle.blk_base.specs.declared.key.Addr.Addr). a.0) h.1)) (head_in at.0 []));
        bytes = h.2.0;
        held = subst (λ (a : Rattle.blk_base.specs.declared.key.Addr.Addr). Contains (leaf_items table a.0) (key, h.2.0)) (sym h.1) (subst (λ (l : List Item). Contains l (key, h.2.0)) (sym same) h.2.1);
      },
    )
    go OutOfMemory h = tt
    go Disk h = absurd h
    go Log h = absurd h
    go (Super f) h = absurd h
    go (Load f) h = absurd h
    go (mounts.Incoherent id ino) h = absurd h
    go (NoRoom free need) h = absurd h

pub children_begin : (table : Table) (at level : ℕ) (bytes : List ℕ) (pointers : List Pointer) → 0 < level → bytes ≡ (block_at table at).bytes → node_body_of bytes ≡ Ok pointers → items_below level table at ≡ items_behind (level - 1) table pointers 0
children_begin table at level bytes pointers high bytes_are body =
    above (λ (n : ℕ). items_below n table at ≡ items_behind (level - 1) table pointers 0) level high
    (ap (λ (found : List Pointer). flat_map (λ (pointer : Pointer). items_below (level - 1) table pointer.at) found) (node_is table at bytes pointers bytes_are body))

child_first : (super : SuperValue) (found : List Want) (below : ℕ) (table : Table) (pointers : List Pointer) (place child generation : ℕ) → slice_get (children_of pointers) place ≡ Some (child, generation)
    → with_items super found (items_behind below table pointers place) ≡ roots_then (with_items super found (items_below below table child)) (λ more. with_items super more (items_behind below table pointers (place + 1)))
child_first super found below table pointers place child generation is =
    ap (with_items super found) (from_child (items_below below table) pointers place child generation is) ∙ items_joined super found (items_below below table child) (items_behind below table pointers (place + 1))

pub child_passes : (super : SuperValue) (found more : List Want) (below : ℕ) (table : Table) (pointers : List Pointer) (place child generation : ℕ) → slice_get (children_of pointers) place ≡ Some (child, generation)
    → with_items super found (items_below below table child) ≡ Ok more → with_items super found (items_behind below table pointers place) ≡ with_items super more (items_behind below table pointers (place + 1))
child_passes super found more below table pointers place child generation is passes =
    child_first super found below table pointers place child generation is ∙ ap (λ (r : Result (List Want) RootsFault). roots_then r (λ later. with_items super later (items_behind below table pointers (place + 1)))) passes

pub children_end : (super : SuperValue) (found : List Want) (below : ℕ) (table : Table) (pointers : List Pointer) (place : ℕ) → length pointers ≤ place → with_items super found (items_behind below table pointers place) ≡ Ok found
children_end super found below table pointers place past = ap (λ (rest : List Pointer). with_items super found (flat_map (λ (pointer : Pointer). items_below below table pointer.at) rest)) (none_from pointers place past)

dropped : {X Y : Type 0} (f : X → List Y) (xs : List X) (place : ℕ) (y : Y) → Contains (flat_map f (drop place xs)) y → Contains (flat_map f xs) y
dropped f [] zero y c = c
dropped f [] (suc place) y c = c
dropped f (x ∷ xs) zero y c = c
dropped f (x ∷ xs) (suc place) y c = Contains-append_right (f x) (flat_map f xs) y (dropped f xs place y c)

pub child_fails : (super : SuperValue) (first found : List Want) (table : Table) (at level : ℕ) (bytes : List ℕ) (pointers : List Pointer) (place child generation : ℕ) (fault : MountFault) → 0 < level → bytes ≡ (block_at table at).bytes → node_body_of bytes ≡ Ok pointers
    → slice_get (children_of pointers) place ≡ Some (child, generation) → with_items super first (items_below level table at) ≡ with_items super found (items_behind (level - 1) table pointers place)
    → IsOtherBelow (with_items super found (items_below (level - 1) table child)) table (level - 1) child fault → IsOtherBelow (with_items super first (items_below level table at)) table level at fault
child_fails super first found table at level bytes pointers place child generation fault high bytes_are body is so_far = go fault
  where
    inside : (leaf : ℕ) → Contains (leaves_below (level - 1) table child) leaf → Contains (leaves_below level table at) leaf
    inside leaf c =
        let here : Contains (leaves_behind (level - 1) table pointers place) leaf = subst (λ (l : List ℕ). Contains l leaf) (sym (from_child (leaves_below (level - 1) table) pointers place child generation is)) (Contains-append_left (leaves_below (level - 1) table child) (leaves_behind (level - 1) table pointers (place + 1)) leaf c) in
        let all : Contains (flat_map (λ (pointer : Pointer). leaves_below (level - 1) table pointer.at) pointers) leaf = dropped (λ (pointer : Pointer). leaves_below (level - 1) table pointer.at) pointers place leaf here in
        above (λ (n : ℕ). Contains (leaves_below n table at) leaf) level high (subst (λ (ps : List Pointer). Contains (flat_map (λ (pointer : Pointer). leaves_below (level - 1) table pointer.at) ps) leaf) (sym (node_is table at bytes pointers bytes_are body)) all)

    go : (f : MountFault) → IsOtherBelow (with_items super found (items_below (level - 1) table child)) table (level - 1) child f → IsOtherBelow (with_items super first (items_below level table at)) table level at f
    go (mounts.Item leaf key why) h = (
      so_far ∙ child_first super found (level - 1) table pointers place child generation is ∙ ap (λ (r : Result (List Want) RootsFault). roots_then r (λ later. with_items super later (items_behind (level - 1) table pointers (place + 1)))) h.0,
      record { leaf = inside leaf.0 h.1.leaf; bytes = h.1.bytes; held = h.1.held },
    )
    go OutOfMemory h = tt
    go Disk h = absurd h
    go Log h = absurd h
    go (Super f) h = absurd h
    go (Load f) h = absurd h
    go (mounts.Incoherent id ino) h = absurd h
    go (NoRoom free need) h = absurd h
