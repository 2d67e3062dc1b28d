-- A block that was read, and what stands below it: what a walk meets there.
use Rattle.std.proofs.Common.{◌≡◌, ◌≤◌, ◌<◌, ◌+◌, ◌++◌, ℕ, zero, suc, false, List, [], ◌∷◌, length, drop, slice_get, Option, Some, None, Result, Ok, Err, IfErr, refl, sym, ap, subst, ◌∙◌, arith, add-one, append-nil, append_assoc}
use Rattle.std.specs.Prelude.{OnOk}
use Rattle.std.specs.Result.{is_err}
use Rattle.blk_base.specs.declared.key.Key.{Key}
use Rattle.blk_base.specs.declared.key.Want.{Want}
use Rattle.blk_base.specs.declared.fault.BlockFault.{BlockFault}
use Rattle.blk_base.specs.Bytes.{Image}
use Rattle.blk_base.specs.Leaf.{Item, Pointer, leaf_of, node_of}
use Rattle.block_table.specs.Table.{Table}
use Rattle.block_table.specs.TreeIn.{block_at}
use Rattle.disk_model.specs.Disk.{IfTold}
use Rattle.volume_image.specs.declared.fault.LoadFault.{LoadFault}
use Rattle.volume_image.specs.declared.fault.LoadFault.TheVariants.{Block, Outside, Twice, Level, Thin, Disk, OutOfMemory}
use Rattle.volume_image.specs.Tree.{Walked, ◌>>=◌, at_block, block_of, child_want, entered, first_key, first_pointer_key, is_full_and_first, is_top, least_items, least_pointers, walk_children, walk_from}
use Rattle.volume_image.proofs.Reaches.{head_in}
use Rattle.leaf_view.specs.Search.{pointer_keys}
use Rattle.tree_load.specs.Loaded.{AreTaken, HasBytes, IsLoad}
use Rattle.tree_load.specs.Below.{EndsWith, IsFaultBelow, IsLeafMet, IsLeafRefused, IsLoadedBelow, leaf_filled, last_key, node_filled}
use Rattle.tree_load.proofs.Checked.{after_check, entered_then, filled_then}
use Rattle.tree_load.proofs.Tables.{bytes_before, bytes_behind, bytes_joined, bytes_of_one, load_more, taken_more}

-- ---- one block

-- what a leaf's list adds
abbrev leaf_rest : Want → Option Key → Walked → List Item → Result Walked LoadFault
leaf_rest want under before items =
    is_full_and_first want (least_items (is_top under)) (length items) under before.items (first_key items)
    (Ok (record { items = before.items ++ items; reached = before.reached ++ want.at.0 ∷ [] }))

-- what a node's list adds
abbrev node_rest : ℕ → Image → ℕ → Want → Option Key → Walked → List Pointer → Result Walked LoadFault
node_rest below image blocks want under before pointers =
    is_full_and_first want (least_pointers (is_top under)) (length pointers) under before.items (first_pointer_key pointers)
    (walk_children (λ pointer met. walk_from below image blocks (Some pointer.key) (child_want want pointer below) met) pointers
    (record { items = before.items; reached = before.reached ++ want.at.0 ∷ [] }))

-- the walk at a block that may be entered
entered_leaf : (image : Image) (blocks : ℕ) (under : Option Key) (want : Want) (before : Walked) (bytes : List ℕ) → Ok tt ≡ entered {A = Unit {0}} blocks want before (Ok tt) → block_of image want.at.0 ≡ bytes
    → walk_from zero image blocks under want before ≡ ◌>>=◌ (at_block want.at.0 (leaf_of want bytes)) (leaf_rest want under before)
entered_leaf image blocks under want before bytes enters is =
    entered_then blocks want before _ ∙ ap (λ (check : Result (Unit {0}) LoadFault). after_check check (◌>>=◌ (at_block want.at.0 (leaf_of want (block_of image want.at.0))) (leaf_rest want under before))) (sym enters)
    ∙ ap (λ (found : List ℕ). ◌>>=◌ (at_block want.at.0 (leaf_of want found)) (leaf_rest want under before)) is

entered_node : (below : ℕ) (image : Image) (blocks : ℕ) (under : Option Key) (want : Want) (before : Walked) (bytes : List ℕ) → Ok tt ≡ entered {A = Unit {0}} blocks want before (Ok tt) → block_of image want.at.0 ≡ bytes
    → walk_from (suc below) image blocks under want before ≡ ◌>>=◌ (at_block want.at.0 (node_of want bytes)) (node_rest below image blocks want under before)
entered_node below image blocks under want before bytes enters is =
    entered_then blocks want before _ ∙ ap (λ (check : Result (Unit {0}) LoadFault). after_check check (◌>>=◌ (at_block want.at.0 (node_of want (block_of image want.at.0))) (node_rest below image blocks want under before))) (sym enters)
    ∙ ap (λ (found : List ℕ). ◌>>=◌ (at_block want.at.0 (node_of want found)) (node_rest below image blocks want under before)) is

-- the walk at a block that may not be entered
pub not_entered : (level : ℕ) (image : Image) (blocks : ℕ) (under : Option Key) (want : Want) (before : Walked) (fault : LoadFault) → Err fault ≡ entered {A = Unit {0}} blocks want before (Ok tt)
    → walk_from level image blocks under want before ≡ Err fault
not_entered zero image blocks under want before fault refused =
    entered_then blocks want before _ ∙ ap (λ (check : Result (Unit {0}) LoadFault). after_check check (◌>>=◌ (at_block want.at.0 (leaf_of want (block_of image want.at.0))) (leaf_rest want under before))) (sym refused)
not_entered (suc below) image blocks under want before fault refused =
    entered_then blocks want before _ ∙ ap (λ (check : Result (Unit {0}) LoadFault). after_check check (◌>>=◌ (at_block want.at.0 (node_of want (block_of image want.at.0))) (node_rest below image blocks want under before))) (sym refused)

-- ---- faults

-- what a walk answers whatever it met before is its fault
pub fault_below : (image : Image) (table : Table) (want : Want) (under last : Option Key) (fault : LoadFault)
    → ((before : Walked) → AreTaken table before.reached → EndsWith before last → walk_from want.level image (length table.slots) under want before ≡ Err fault) → IsFaultBelow image table want under last fault
fault_below image table want under last (Block at why) h = h
fault_below image table want under last (Outside at) h = h
fault_below image table want under last (Twice at) h = h
fault_below image table want under last (Level at) h = h
fault_below image table want under last (Thin at) h = h
fault_below image table want under last Disk h = tt
fault_below image table want under last OutOfMemory h = tt

-- a fault of a child's walk is one of the node's
fault_carried : (image : Image) (now old : Table) (child want : Want) (near under met last : Option Key) (fault : LoadFault)
    → (((before : Walked) → AreTaken now before.reached → EndsWith before met → walk_from child.level image (length now.slots) near child before ≡ Err fault)
    → (before : Walked) → AreTaken old before.reached → EndsWith before last → walk_from want.level image (length old.slots) under want before ≡ Err fault)
    → IsFaultBelow image now child near met fault → IsFaultBelow image old want under last fault
fault_carried image now old child want near under met last (Block at why) carry h = carry h
fault_carried image now old child want near under met last (Outside at) carry h = carry h
fault_carried image now old child want near under met last (Twice at) carry h = carry h
fault_carried image now old child want near under met last (Level at) carry h = carry h
fault_carried image now old child want near under met last (Thin at) carry h = carry h
fault_carried image now old child want near under met last Disk carry h = tt
fault_carried image now old child want near under met last OutOfMemory carry h = tt

-- what holds of every image holds of the one that is told
pub told_always : {A : Type 0} (seen : Option A) (P : A → Type 0) → ((image : A) → P image) → IfTold seen P
told_always None P h = tt
told_always (Some image) P h = h image

pub told_both : {A : Type 0} (seen : Option A) (P Q R : A → Type 0) → IfTold seen P → IfTold seen Q → ((image : A) → P image → Q image → R image) → IfTold seen R
told_both None P Q R p q h = tt
told_both (Some image) P Q R p q h = h image p q

pub told_from : {A : Type 0} (seen : Option A) (P Q : A → Type 0) → IfTold seen P → ((image : A) → P image → Q image) → IfTold seen Q
told_from None P Q p h = tt
told_from (Some image) P Q p h = h image p

-- a step that is refused refuses what goes on behind it
refused_then : {A B : Type 0} (r : Result A LoadFault) (f : A → Result (Unit {0}) LoadFault) (g rest : A → Result B LoadFault) (fault : LoadFault) → ((x : A) → g x ≡ after_check (f x) (rest x)) → ◌>>=◌ r f ≡ Err fault → ◌>>=◌ r g ≡ Err fault
refused_then (Ok x) f g rest fault goes h = goes x ∙ ap (λ (check : Result (Unit {0}) LoadFault). after_check check (rest x)) h
refused_then (Err other) f g rest fault goes h = let same : other ≡ fault = cc in ap Err same

leaf_goes : (want : Want) (under : Option Key) (before : Walked) (items : List Item) → leaf_rest want under before items ≡ after_check (leaf_filled want under before.items items) (Ok (record { items = before.items ++ items; reached = before.reached ++ want.at.0 ∷ [] }))
leaf_goes want under before items = filled_then want (least_items (is_top under)) (length items) under before.items (first_key items) _

-- ---- leaves

module _ (image : Image) (table : Table) (want : Want) (under last : Option Key) (bytes : List ℕ) (level : want.level ≡ 0)
    (enters : (before : Walked) → AreTaken table before.reached → Ok tt ≡ entered {A = Unit {0}} (length table.slots) want before (Ok tt)) (is : block_of image want.at.0 ≡ bytes) where
  leaf_walk : (before : Walked) → AreTaken table before.reached → walk_from want.level image (length table.slots) under want before ≡ ◌>>=◌ (at_block want.at.0 (leaf_of want bytes)) (leaf_rest want under before)
  leaf_walk before taken = subst (λ (n : ℕ). walk_from n image (length table.slots) under want before ≡ ◌>>=◌ (at_block want.at.0 (leaf_of want bytes)) (leaf_rest want under before)) (sym level) (entered_leaf image (length table.slots) under want before bytes (enters before taken) is)

  pub leaf_refused : (fault : LoadFault) → IsLeafRefused want bytes under last fault → IsFaultBelow image table want under last fault
  leaf_refused fault refused = fault_below image table want under last fault
      (λ before taken ends. leaf_walk before taken ∙ refused_then _ (leaf_filled want under before.items) (leaf_rest want under before) _ fault (leaf_goes want under before) (refused before ends))

  pub leaf_walked : (after : Option Key) (met : IsLeafMet want bytes under last after) (before : Walked) → AreTaken table before.reached → EndsWith before last
      → walk_from want.level image (length table.slots) under want before ≡ Ok (record { items = before.items ++ met.items; reached = before.reached ++ want.at.0 ∷ [] })
  leaf_walked after met before taken ends =
      leaf_walk before taken ∙ ap (λ (found : Result (List Item) BlockFault). ◌>>=◌ (at_block want.at.0 found) (leaf_rest want under before)) met.read
      ∙ leaf_goes want under before met.items ∙ ap (λ (check : Result (Unit {0}) LoadFault). after_check check (Ok (record { items = before.items ++ met.items; reached = before.reached ++ want.at.0 ∷ [] }))) (met.full before ends)

-- a leaf that stands in the table now
pub leaf_loaded : (seen : Option Image) (old new : Table) (want : Want) (under last after : Option Key) (bytes : List ℕ) → want.level ≡ 0
    → ((before : Walked) → AreTaken old before.reached → Ok tt ≡ entered {A = Unit {0}} (length old.slots) want before (Ok tt)) → IfTold seen (λ image. block_of image want.at.0 ≡ bytes)
    → IsLeafMet want bytes under last after → IsLoad false old new (want.at.0 ∷ []) → (block_at new want.at.0).bytes ≡ bytes → IsLoadedBelow seen old new want under last after
leaf_loaded seen old new want under last after bytes level enters read met load has = record {
  items = met.items;
  reach = want.at.0 ∷ [];
  load = load;
  told = told_from seen _ _ read (λ image is. bytes_of_one image new want.at.0 bytes is has);
  last_is = met.last_is;
  walks = λ image there before taken ends. leaf_walked image old want under last bytes level enters (there want.at.0 (head_in want.at.0 []) ∙ has) after met before taken ends;
}

-- ---- nodes

-- a child's walk
abbrev pub child_walk : ℕ → Image → ℕ → Want → Pointer → Walked → Result Walked LoadFault
child_walk below image blocks want = λ pointer met. walk_from below image blocks (Some pointer.key) (child_want want pointer below) met

-- The children of a node up to a place were loaded: the walk goes on with those from there on, behind what they added.
pub record IsLoading (below : ℕ) (seen : Option Image) (old now : Table) (want : Want) (under last met : Option Key) (rest : List Pointer) : Type 0 where
  pub items : List Item
  pub reach : List ℕ
  pub load : IsLoad false old now (want.at.0 ∷ reach)
  pub told : IfTold seen (λ image. HasBytes image now (want.at.0 ∷ reach))
  pub met_is : met ≡ last_key last items
  pub walks : (image : Image) → HasBytes image now (want.at.0 ∷ reach) → (before : Walked) → AreTaken old before.reached → EndsWith before last
      → walk_from want.level image (length old.slots) under want before ≡ walk_children (child_walk below image (length old.slots) want) rest (record { items = before.items ++ items; reached = before.reached ++ want.at.0 ∷ reach })

node_goes : (below : ℕ) (image : Image) (blocks : ℕ) (want : Want) (under : Option Key) (before : Walked) (pointers : List Pointer)
    → node_rest below image blocks want under before pointers
    ≡ after_check (node_filled want under before.items pointers) (walk_children (child_walk below image blocks want) pointers (record { items = before.items; reached = before.reached ++ want.at.0 ∷ [] }))
node_goes below image blocks want under before pointers = filled_then want (least_pointers (is_top under)) (length pointers) under before.items (first_pointer_key pointers) _

module _ (below : ℕ) (image : Image) (table : Table) (want : Want) (under last : Option Key) (bytes : List ℕ) (level : want.level ≡ suc below)
    (enters : (before : Walked) → AreTaken table before.reached → Ok tt ≡ entered {A = Unit {0}} (length table.slots) want before (Ok tt)) (is : block_of image want.at.0 ≡ bytes) where
  node_walk : (before : Walked) → AreTaken table before.reached → walk_from want.level image (length table.slots) under want before ≡ ◌>>=◌ (at_block want.at.0 (node_of want bytes)) (node_rest below image (length table.slots) want under before)
  node_walk before taken = subst (λ (n : ℕ). walk_from n image (length table.slots) under want before ≡ ◌>>=◌ (at_block want.at.0 (node_of want bytes)) (node_rest below image (length table.slots) want under before)) (sym level) (entered_node below image (length table.slots) under want before bytes (enters before taken) is)

  -- the node's own fault
  pub node_broken : (fault : BlockFault) → node_of want bytes ≡ Err fault → IsFaultBelow image table want under last (Block want.at fault)
  node_broken fault broken before taken ends =
      node_walk before taken ∙ ap (λ (found : Result (List Pointer) BlockFault). ◌>>=◌ (at_block want.at.0 found) (node_rest below image (length table.slots) want under before)) broken

  node_read : (pointers : List Pointer) → node_of want bytes ≡ Ok pointers → (before : Walked) → AreTaken table before.reached
      → walk_from want.level image (length table.slots) under want before
      ≡ after_check (node_filled want under before.items pointers) (walk_children (child_walk below image (length table.slots) want) pointers (record { items = before.items; reached = before.reached ++ want.at.0 ∷ [] }))
  node_read pointers read before taken =
      node_walk before taken ∙ ap (λ (found : Result (List Pointer) BlockFault). ◌>>=◌ (at_block want.at.0 found) (node_rest below image (length table.slots) want under before)) read
      ∙ node_goes below image (length table.slots) want under before pointers

  -- it has too little in it, or the wrong first key
  pub node_refused : (pointers : List Pointer) (fault : LoadFault) → node_of want bytes ≡ Ok pointers → ((before : Walked) → EndsWith before last → Err fault ≡ node_filled want under before.items pointers) → IsFaultBelow image table want under last fault
  node_refused pointers fault read refused = fault_below image table want under last fault
      (λ before taken ends. node_read pointers read before taken
      ∙ ap (λ (check : Result (Unit {0}) LoadFault). after_check check (walk_children (child_walk below image (length table.slots) want) pointers (record { items = before.items; reached = before.reached ++ want.at.0 ∷ [] }))) (sym (refused before ends)))

  pub node_walked : (pointers : List Pointer) → node_of want bytes ≡ Ok pointers → ((before : Walked) → EndsWith before last → Ok tt ≡ node_filled want under before.items pointers) → (before : Walked) → AreTaken table before.reached → EndsWith before last
      → walk_from want.level image (length table.slots) under want before ≡ walk_children (child_walk below image (length table.slots) want) pointers (record { items = before.items; reached = before.reached ++ want.at.0 ∷ [] })
  node_walked pointers read full before taken ends =
      node_read pointers read before taken
      ∙ ap (λ (check : Result (Unit {0}) LoadFault). after_check check (walk_children (child_walk below image (length table.slots) want) pointers (record { items = before.items; reached = before.reached ++ want.at.0 ∷ [] }))) (sym (full before ends))

-- a node stands in the table, and none of its children yet
pub loading_none : (below : ℕ) (seen : Option Image) (old new : Table) (want : Want) (under last : Option Key) (bytes : List ℕ) (pointers : List Pointer) → want.level ≡ suc below
    → ((before : Walked) → AreTaken old before.reached → Ok tt ≡ entered {A = Unit {0}} (length old.slots) want before (Ok tt)) → IfTold seen (λ image. block_of image want.at.0 ≡ bytes)
    → node_of want bytes ≡ Ok pointers → ((before : Walked) → EndsWith before last → Ok tt ≡ node_filled want under before.items pointers)
    → IsLoad false old new (want.at.0 ∷ []) → (block_at new want.at.0).bytes ≡ bytes → IsLoading below seen old new want under last last pointers
loading_none below seen old new want under last bytes pointers level enters read list full load has = record {
  items = [];
  reach = [];
  load = load;
  told = told_from seen _ _ read (λ image is. bytes_of_one image new want.at.0 bytes is has);
  met_is = refl;
  walks = λ image there before taken ends. node_walked below image old want under last bytes level enters (there want.at.0 (head_in want.at.0 []) ∙ has) pointers list full before taken ends
      ∙ ap (λ (items : List Item). walk_children (child_walk below image (length old.slots) want) pointers (record { items = items; reached = before.reached ++ want.at.0 ∷ [] })) (sym (append-nil before.items));
}

-- the last key of a list behind another
last_key_joined : (last : Option Key) (front back : List Item) → last_key last (front ++ back) ≡ last_key (last_key last front) back
last_key_joined last [] back = refl
last_key_joined last (item ∷ front) back = last_key_joined (Some item.0) front back

-- where a child's walk begins
module _ (below : ℕ) (seen : Option Image) (old now : Table) (want : Want) (under last met : Option Key) (rest : List Pointer) (loading : IsLoading below seen old now want under last met rest) where
  abbrev met_so_far : Walked → Walked
  met_so_far before = record { items = before.items ++ loading.items; reached = before.reached ++ want.at.0 ∷ loading.reach }

  taken_so_far : (before : Walked) → AreTaken old before.reached → AreTaken now (met_so_far before).reached
  taken_so_far before taken = taken_more old now before.reached (want.at.0 ∷ loading.reach) loading.load taken

  ends_so_far : (before : Walked) → EndsWith before last → EndsWith (met_so_far before) met
  ends_so_far before ends = last_key_joined None before.items loading.items ∙ ap (λ (key : Option Key). last_key key loading.items) ends ∙ sym loading.met_is

  -- the walk goes on with a child
  child_next : (pointer : Pointer) (others : List Pointer) (image : Image) → rest ≡ pointer ∷ others → HasBytes image now (want.at.0 ∷ loading.reach) → (before : Walked) → AreTaken old before.reached → EndsWith before last
      → walk_from want.level image (length old.slots) under want before ≡ ◌>>=◌ (child_walk below image (length old.slots) want pointer (met_so_far before)) (walk_children (child_walk below image (length old.slots) want) others)
  child_next pointer others image next there before taken ends =
      loading.walks image there before taken ends ∙ ap (λ (pointers : List Pointer). walk_children (child_walk below image (length old.slots) want) pointers (met_so_far before)) next

  -- a child's fault is the walk's
  pub child_fails : (pointer : Pointer) (others : List Pointer) (fault : LoadFault) → rest ≡ pointer ∷ others
      → IfTold seen (λ image. IsFaultBelow image now (child_want want pointer below) (Some pointer.key) met fault) → IfTold seen (λ image. IsFaultBelow image old want under last fault)
  child_fails pointer others fault next fails = told_both seen _ _ _ loading.told fails
      (λ image there failed. fault_carried image now old (child_want want pointer below) want (Some pointer.key) under met last fault
      (λ walk before taken ends. child_next pointer others image next there before taken ends
      ∙ ap (λ (r : Result Walked LoadFault). ◌>>=◌ r (walk_children (child_walk below image (length old.slots) want) others))
      (subst (λ (blocks : ℕ). child_walk below image blocks want pointer (met_so_far before) ≡ Err fault) loading.load.size (walk (met_so_far before) (taken_so_far before taken) (ends_so_far before ends)))) failed)

  -- a child was loaded
  pub loading_more : (pointer : Pointer) (others : List Pointer) (new : Table) (after : Option Key) → rest ≡ pointer ∷ others
      → IsLoadedBelow seen now new (child_want want pointer below) (Some pointer.key) met after → IsLoading below seen old new want under last after others
  loading_more pointer others new after next child = record {
    items = loading.items ++ child.items;
    reach = loading.reach ++ child.reach;
    load = load_more old now new (want.at.0 ∷ loading.reach) child.reach loading.load child.load;
    told = told_both seen _ _ _ loading.told child.told (λ image. bytes_joined image old now new (want.at.0 ∷ loading.reach) child.reach loading.load child.load);
    met_is = child.last_is ∙ ap (λ (key : Option Key). last_key key child.items) loading.met_is ∙ sym (last_key_joined last loading.items child.items);
    walks = λ image there before taken ends.
        let all = walk_children (child_walk below image (length old.slots) want) in
        let here = bytes_before image old now new (want.at.0 ∷ loading.reach) child.reach loading.load child.load there in
        let behind = bytes_behind image new (want.at.0 ∷ loading.reach) child.reach there in
        let walked = child.walks image behind (met_so_far before) (taken_so_far before taken) (ends_so_far before ends) in
        child_next pointer others image next here before taken ends
        ∙ ap (λ (r : Result Walked LoadFault). ◌>>=◌ r (all others)) (subst (λ (blocks : ℕ). child_walk below image blocks want pointer (met_so_far before) ≡ Ok (record { items = (before.items ++ loading.items) ++ child.items; reached = (before.reached ++ want.at.0 ∷ loading.reach) ++ child.reach })) loading.load.size walked)
        ∙ (λ i. all others (record { items = append_assoc before.items loading.items child.items i; reached = append_assoc before.reached (want.at.0 ∷ loading.reach) child.reach i }));
  }

  -- all children were loaded
  pub loading_all : rest ≡ [] → IsLoadedBelow seen old now want under last met
  loading_all none = record {
    items = loading.items;
    reach = want.at.0 ∷ loading.reach;
    load = loading.load;
    told = loading.told;
    last_is = loading.met_is;
    walks = λ image there before taken ends. loading.walks image there before taken ends ∙ ap (λ (pointers : List Pointer). walk_children (child_walk below image (length old.slots) want) pointers (met_so_far before)) none;
  }

-- the pointer at a place, and those behind it
pub next_pointer : (pointers : List Pointer) (place : ℕ) → place < length pointers → (pointer : Pointer) × (slice_get pointers place ≡ Some pointer) × (drop place pointers ≡ pointer ∷ drop (place + 1) pointers)
next_pointer [] place inside = absurd (omega arith)
next_pointer (pointer ∷ pointers) zero inside = (pointer, refl, refl)
next_pointer (pointer ∷ pointers) (suc place) inside = let rest = next_pointer pointers place (omega arith) in (rest.0, rest.1, rest.2 ∙ ap (λ (n : ℕ). rest.0 ∷ drop n (pointer ∷ pointers)) (sym (add-one (suc place) ∙ ap suc (sym (add-one place)))))

-- its key
pub key_there : (pointers : List Pointer) (place : ℕ) (pointer : Pointer) (key : Key) → slice_get pointers place ≡ Some pointer → slice_get (pointer_keys pointers) place ≡ Some key → key ≡ pointer.key
key_there [] place pointer key is there = absurd cc
key_there (first ∷ pointers) zero pointer key is there = cc
key_there (first ∷ pointers) (suc place) pointer key is there = key_there pointers place pointer key is there

-- a fault that is handed on
pub at_exit : {T E : Type 0} (r : Result T E) (Q : E → Type 0) (fault : E) → r ≡ Err fault → Q fault → IfErr r Q
at_exit r Q fault is q = rw is q

-- what holds of an Ok holds where the test says that it isn't an Err
pub at_ok : {T E P : Type 0} (r : Result T E) → is_err r ≡ false → OnOk r P → P
at_ok (Ok x) is p = p
at_ok (Err e) is p = absurd cc

-- ---- the child at a place

module _ (below : ℕ) (seen : Option Image) (old now : Table) (want : Want) (under last met : Option Key) (pointers : List Pointer) (place : ℕ) (loading : IsLoading below seen old now want under last met (drop place pointers))
    (inside : place < length pointers) (child : Want) (key : Key) (read : (pointer : Pointer) → slice_get pointers place ≡ Some pointer → child ≡ child_want want pointer below) (there : slice_get (pointer_keys pointers) place ≡ Some key) where
  pub fails_at : (told : Option Image) (fault : LoadFault) → told ≡ seen → IfTold told (λ image. IsFaultBelow image now child (Some key) met fault) → IfTold seen (λ image. IsFaultBelow image old want under last fault)
  fails_at told fault same fails =
      let next = next_pointer pointers place inside in
      let pointer : Pointer = next.0 in
      let by_seen = subst (λ (s : Option Image). IfTold s (λ image. IsFaultBelow image now child (Some key) met fault)) same fails in
      let by_child = subst (λ (w : Want). IfTold seen (λ image. IsFaultBelow image now w (Some key) met fault)) (read pointer next.1) by_seen in
      let by_key = subst (λ (k : Key). IfTold seen (λ image. IsFaultBelow image now (child_want want pointer below) (Some k) met fault)) (key_there pointers place pointer key next.1 there) by_child in
      child_fails below seen old now want under last met (drop place pointers) loading pointer (drop (place + 1) pointers) fault next.2 by_key

  pub more_at : (told : Option Image) (new : Table) (after : Option Key) → told ≡ seen → IsLoadedBelow told now new child (Some key) met after → IsLoading below seen old new want under last after (drop (place + 1) pointers)
  more_at told new after same loaded =
      let next = next_pointer pointers place inside in
      let pointer : Pointer = next.0 in
      let by_seen = subst (λ (s : Option Image). IsLoadedBelow s now new child (Some key) met after) same loaded in
      let by_child = subst (λ (w : Want). IsLoadedBelow seen now new w (Some key) met after) (read pointer next.1) by_seen in
      let by_key = subst (λ (k : Key). IsLoadedBelow seen now new (child_want want pointer below) (Some k) met after) (key_there pointers place pointer key next.1 there) by_child in
      loading_more below seen old now want under last met (drop place pointers) loading pointer (drop (place + 1) pointers) new after next.2 by_key

-- all pointers are in front of a place past the end
pub none_left : (pointers : List Pointer) (place : ℕ) → length pointers ≤ place → drop place pointers ≡ []
none_left [] zero past = refl
none_left [] (suc place) past = refl
none_left (pointer ∷ pointers) zero past = absurd (omega arith)
none_left (pointer ∷ pointers) (suc place) past = none_left pointers place (omega arith)
