-- The checks of trees, one tree after another.
use Rattle.std.proofs.Common.{◌≡◌, ◌≤◌, ◌<◌, ◌+◌, ◌++◌, ℕ, zero, suc, Bool, true, false, not, List, [], ◌∷◌, length, take, drop, Contains, Option, Some, None, Result, Ok, Err, refl, sym, ap, subst, ◌∙◌, inl, inr}
use Rattle.std.specs.Prelude.{slice_index_or}
use Rattle.blk_base.specs.declared.fault.ItemFault.{ItemFault}
use Rattle.blk_base.specs.declared.key.Addr.{Addr}
use Rattle.blk_base.specs.declared.key.Key.{Key}
use Rattle.blk_base.specs.declared.key.Want.{Want}
use Rattle.blk_base.specs.Address.{is_allowed}
use Rattle.blk_base.specs.Leaf.{Item}
use Rattle.block_table.specs.Table.{Table}
use Rattle.coherent.specs.Answer.{IsCoherentAnswer}
use Rattle.fault_laws.specs.Told.{fault_of_data, image_fault}
use Rattle.fault_laws.proofs.Agreeing.{data_fault_is_first}
use Rattle.image_faults.specs.Lowest.{first_faulty}
use Rattle.image_order.specs.FirstFault.{BadItem, BadTree, ImageFault, ◌>>=◌, data_after, first_given, first_of, incoherent}
use Rattle.image_order.specs.FirstFault as faults
use Rattle.image_order.proofs.Reached.{data_found}
use Rattle.table_volume.specs.Gives.{data_in}
use Rattle.tree_check.specs.declared.fault.TreeFault.{TreeFault}
use Rattle.tree_check.specs.declared.fault.TreeFault.TheVariants as trees
use Rattle.fault_laws.proofs.Checked.{End}
use Rattle.tree_check.specs.Blocks.{IsDataAnswer, blocks_checked, tree_data}
use Rattle.tree_check.specs.Items.{AreBytes, HaveKeys, and_then, fault_behind, items_answer, leaf_checked, leaves_below, leaves_checked, unless_fault}
use Rattle.tree_check.proofs.Places.{from_here}
use Rattle.tree_load.specs.Loaded.{AreTaken, IsLoad, taken_of, tree_wanted}
use Rattle.tree_load.proofs.Tables.{bytes_joined, load_more, taken_more}
use Rattle.block_table.specs.declared.tree.Tree.{Tree}
use Rattle.disk_model.specs.Disk.{IfTold}
use Rattle.std.proofs.Common.{append-nil}
use Rattle.tree_range.specs.Shape.{IsTree, tree_items}
use Rattle.volume_image.specs.Subvolume.{data_addresses}
use Rattle.volume_image.specs.Tree.{Image}
use Rattle.tree_load.specs.Loaded.{HasBytes}
use Rattle.tree_mount.specs.Checks.{AreItemsRight}
use Rattle.tree_mount.specs.Trees.{wants_data}
use Rattle.tree_mount.proofs.Lists.{at_place, cut_here, one_more}
use Rattle.tree_mount.proofs.Loading.{data_joined, kept_by}
use Rattle.tree_load.proofs.Taken.{taken_are}
use Rattle.tree_range.specs.Shape.{leaf_items}
use Rattle.volume_image.specs.declared.fault.LoadFault.{LoadFault}
use Rattle.volume_image.specs.declared.fault.LoadFault.TheVariants as loads
use Rattle.volume_image.specs.Tree.{was_reached}
use Rattle.tree_mount.specs.declared.fault.MountFault.{MountFault}
use Rattle.tree_mount.specs.Checks.{AreReachable, IsInodeFault, IsItemsFault, IsReadFault, inode_fault, items_fault}
use Rattle.tree_mount.specs.Faults.{tree_fault}
use Rattle.tree_mount.specs.Trees.{items_of}
use Rattle.tree_mount.proofs.Lists.{placed}

-- ---- the first that a function gives

module _ {X Y : Type 0} (f : X → Option Y) (xs : List X) (place : ℕ) (d : X) (inside : place < length xs) where
  here : first_given f (drop place xs) ≡ first_of (f (slice_index_or xs place d)) (first_given f (drop (place + 1) xs))
  here = ap (first_given f) (from_here xs place (slice_index_or xs place d) (placed xs place d inside))

  pub given_passes : f (slice_index_or xs place d) ≡ None → first_given f (drop place xs) ≡ first_given f (drop (place + 1) xs)
  given_passes none = here ∙ ap (λ (o : Option Y). first_of o (first_given f (drop (place + 1) xs))) none

  pub given_found : (y : Y) → f (slice_index_or xs place d) ≡ Some y → first_given f (drop place xs) ≡ Some y
  given_found y some = here ∙ ap (λ (o : Option Y). first_of o (first_given f (drop (place + 1) xs))) some

-- ---- items

-- the check of items has faults of items alone
record IsOfItem (fault : TreeFault) : Type 0 where
  at : Addr
  key : Key
  why : ItemFault
  is : fault ≡ trees.Item at key why

leaf_only : (at : Addr) (before : End) (items : List Item) (fault : TreeFault) → leaf_checked at before items ≡ Err fault → IsOfItem fault
leaf_only at before [] fault e = absurd cc
leaf_only at before (item ∷ items) fault e = go (fault_behind before item) (leaf_only at (Rattle.tree_check.specs.Items.end_of item) items fault) e
  where
    go : (o : Option ItemFault) → (leaf_checked at (Rattle.tree_check.specs.Items.end_of item) items ≡ Err fault → IsOfItem fault) → unless_fault at item.0 o (leaf_checked at (Rattle.tree_check.specs.Items.end_of item) items) ≡ Err fault → IsOfItem fault
    go None later h = later h
    go (Some why) later h = record { at = at; key = item.0; why = why; is = (let same : trees.Item at item.0 why ≡ fault = cc in sym same) }

leaves_only : (table : Table) (before : End) (leaves : List ℕ) (fault : TreeFault) → leaves_checked table before leaves ≡ Err fault → IsOfItem fault
leaves_only table before [] fault e = absurd cc
leaves_only table before (at ∷ leaves) fault e = go (λ after. leaves_only table after leaves fault) (leaf_checked (record { 0 = at }) before (leaf_items table at)) refl e
  where
    go : ((after : End) → leaves_checked table after leaves ≡ Err fault → IsOfItem fault) → (r : Result (End) TreeFault) → leaf_checked (record { 0 = at }) before (leaf_items table at) ≡ r
        → and_then r (λ after. leaves_checked table after leaves) ≡ Err fault → IsOfItem fault
    go later (Ok after) is h = later after h
    go later (Err other) is h = leaf_only (record { 0 = at }) before (leaf_items table at) fault (is ∙ (let same : other ≡ fault = cc in ap Err same))

items_only : (table : Table) (want : Want) (fault : TreeFault) → items_answer table (tree_wanted want) ≡ Err fault → IsOfItem fault
items_only table want fault e = go (leaves_checked table None (leaves_below want.level table want.at.0)) refl e
  where
    go : (r : Result (End) TreeFault) → leaves_checked table None (leaves_below want.level table want.at.0) ≡ r → and_then {B = Unit {0}} r (λ after. Ok tt) ≡ Err fault → IsOfItem fault
    go (Ok after) is h = absurd cc
    go (Err other) is h = leaves_only table None (leaves_below want.level table want.at.0) fault (is ∙ (let same : other ≡ fault = cc in ap Err same))

pub items_fail : (table : Table) (wants : List Want) (place : ℕ) (d : Want) (fault : TreeFault) → place < length wants → items_fault table wants ≡ items_fault table (drop place wants)
    → Err fault ≡ items_answer table (tree_wanted (slice_index_or wants place d)) → IsItemsFault table wants (tree_fault (slice_index_or wants place d).owner fault)
items_fail table wants place d fault inside so_far is = go (items_only table (slice_index_or wants place d) fault (sym is))
  where
    want : Want
    want = slice_index_or wants place d

    f : Want → Option ImageFault
    f = λ (w : Want). image_fault w.owner (items_answer table (tree_wanted w))

    go : IsOfItem fault → IsItemsFault table wants (tree_fault want.owner fault)
    go of = subst (λ (t : TreeFault). IsItemsFault table wants (tree_fault want.owner t)) (sym of.is)
        (so_far ∙ given_found f wants place d inside (BadItem of.at.0 of.key of.why) (ap (image_fault want.owner) (sym is ∙ ap Err of.is)))

pub items_pass : (table : Table) (wants : List Want) (place : ℕ) (d : Want) → place < length wants → items_fault table wants ≡ items_fault table (drop place wants)
    → Ok tt ≡ items_answer table (tree_wanted (slice_index_or wants place d)) → items_fault table wants ≡ items_fault table (drop (place + 1) wants)
items_pass table wants place d inside so_far is =
    so_far ∙ given_passes (λ (w : Want). image_fault w.owner (items_answer table (tree_wanted w))) wants place d inside (ap (image_fault (slice_index_or wants place d).owner) (sym is))

-- ---- inodes

pub inodes_pass : (table : Table) (wants : List Want) (place : ℕ) (d : Want) → place < length wants → inode_fault table wants ≡ inode_fault table (drop place wants)
    → first_faulty (items_of table (slice_index_or wants place d)) (data_in table) ≡ None → inode_fault table wants ≡ inode_fault table (drop (place + 1) wants)
inodes_pass table wants place d inside so_far none =
    so_far ∙ given_passes (λ (w : Want). incoherent w.owner (first_faulty (items_of table w) (data_in table))) wants place d inside (ap (incoherent (slice_index_or wants place d).owner) none)

pub inodes_fail : (table : Table) (wants : List Want) (place : ℕ) (d : Want) (fault : TreeFault) → place < length wants → inode_fault table wants ≡ inode_fault table (drop place wants)
    → IsCoherentAnswer (items_of table (slice_index_or wants place d)) (data_in table) (Err fault) → IsInodeFault table wants (tree_fault (slice_index_or wants place d).owner fault)
inodes_fail table wants place d fault inside so_far = go fault
  where
    want : Want
    want = slice_index_or wants place d

    go : (t : TreeFault) → IsCoherentAnswer (items_of table want) (data_in table) (Err t) → IsInodeFault table wants (tree_fault want.owner t)
    go (trees.Incoherent ino) h =
        so_far ∙ given_found (λ (w : Want). incoherent w.owner (first_faulty (items_of table w) (data_in table))) wants place d inside (faults.Incoherent want.owner ino.0) (ap (incoherent want.owner) h)
    go trees.OutOfMemory h = tt
    go (trees.Item at key why) h = absurd h
    go (trees.Outside at) h = absurd h
    go (trees.Twice at) h = absurd h
    go trees.Disk h = absurd h

-- ---- data blocks

pub data_append : (blocks : ℕ) (near far reached : List ℕ) → data_after blocks (near ++ far) reached ≡ (data_after blocks near reached >>= data_after blocks far)
data_append blocks [] far reached = refl
data_append blocks (at ∷ near) far reached = go (not (is_allowed blocks at)) (was_reached at reached) (data_append blocks near far (reached ++ at ∷ []))
  where
    go : (outside twice : Bool) → data_after blocks (near ++ far) (reached ++ at ∷ []) ≡ (data_after blocks near (reached ++ at ∷ []) >>= data_after blocks far)
        → Rattle.std.proofs.Common.cond outside (Err (BadTree (loads.Outside (record { 0 = at })))) (Rattle.std.proofs.Common.cond twice (Err (BadTree (loads.Twice (record { 0 = at })))) (data_after blocks (near ++ far) (reached ++ at ∷ [])))
        ≡ (Rattle.std.proofs.Common.cond outside (Err (BadTree (loads.Outside (record { 0 = at })))) (Rattle.std.proofs.Common.cond twice (Err (BadTree (loads.Twice (record { 0 = at })))) (data_after blocks near (reached ++ at ∷ []))) >>= data_after blocks far)
    go true twice later = refl
    go false true later = refl
    go false false later = later

-- the check of data blocks has faults of addresses alone
data_only : (blocks : ℕ) (addresses reached : List ℕ) (fault : ImageFault) → data_after blocks addresses reached ≡ Err fault → (of : LoadFault) × (fault ≡ BadTree of)
data_only blocks [] reached fault e = absurd cc
data_only blocks (at ∷ others) reached fault e = go (not (is_allowed blocks at)) (was_reached at reached) (data_only blocks others (reached ++ at ∷ []) fault) e
  where
    go : (outside twice : Bool) → (data_after blocks others (reached ++ at ∷ []) ≡ Err fault → (of : LoadFault) × (fault ≡ BadTree of))
        → Rattle.std.proofs.Common.cond outside (Err (BadTree (loads.Outside (record { 0 = at })))) (Rattle.std.proofs.Common.cond twice (Err (BadTree (loads.Twice (record { 0 = at })))) (data_after blocks others (reached ++ at ∷ []))) ≡ Err fault
        → (of : LoadFault) × (fault ≡ BadTree of)
    go true twice later h = (loads.Outside (record { 0 = at }), (let same : BadTree (loads.Outside (record { 0 = at })) ≡ fault = cc in sym same))
    go false true later h = (loads.Twice (record { 0 = at }), (let same : BadTree (loads.Twice (record { 0 = at })) ≡ fault = cc in sym same))
    go false false later h = later h

-- by the check of a table's data blocks
told_by_check : (table : Table) (addresses reached : List ℕ) (answer : Result (Unit {0}) TreeFault) → AreTaken table reached → blocks_checked (length table.slots) reached addresses ≡ answer
    → image_fault 0 answer ≡ fault_of_data (data_after (length table.slots) addresses reached)
told_by_check table addresses reached answer taken is =
    ap (image_fault 0) (sym is) ∙ data_fault_is_first 0 (length table.slots) reached reached addresses (λ at. (λ c. c, λ c. c))

no_fault : (r : Result (List ℕ) ImageFault) → None ≡ fault_of_data r → (out : List ℕ) × (r ≡ Ok out)
no_fault (Ok out) e = (out, refl)
no_fault (Err fault) e = absurd cc

some_fault : (r : Result (List ℕ) ImageFault) (fault : ImageFault) → Some fault ≡ fault_of_data r → r ≡ Err fault
some_fault (Ok out) fault e = absurd cc
some_fault (Err other) fault e = let same : fault ≡ other = cc in ap Err (sym same)

pub reachable_one : (table : Table) (addresses : List ℕ) → IsDataAnswer table addresses (Ok tt) → AreReachable table addresses
reachable_one table addresses answer reached taken =
    let out = no_fault (data_after (length table.slots) addresses reached) (told_by_check table addresses reached (Ok tt) taken (answer reached taken)) in
    out.1 ∙ ap Ok (data_found (length table.slots) addresses reached out.0 out.1).reached

pub reachable_none : (table : Table) → AreReachable table []
reachable_none table reached taken = ap Ok (sym (Rattle.std.proofs.Common.append-nil reached))

pub reachable_more : (old mid : Table) (near far : List ℕ) → IsLoad true old mid near → AreReachable old near → AreReachable mid far → AreReachable old (near ++ far)
reachable_more old mid near far load one two reached taken =
    let later = ap (λ (n : ℕ). data_after n far (reached ++ near)) (sym load.size) ∙ two (reached ++ near) (taken_more old mid reached near load taken) in
    data_append (length old.slots) near far reached ∙ ap (λ (r : Result (List ℕ) ImageFault). r >>= data_after (length old.slots) far) (one reached taken)
    ∙ later ∙ ap Ok (Rattle.std.proofs.Common.append_assoc reached near far)

pub read_fails : (old mid : Table) (near part far all : List ℕ) (id : ℕ) (fault : TreeFault) → IsLoad true old mid near → AreReachable old near → all ≡ near ++ (part ++ far) → IsDataAnswer mid part (Err fault) → IsReadFault old all (tree_fault id fault)
read_fails old mid near part far all id fault load before split = go fault
  where
    carry : (found : TreeFault) (of : ImageFault) → image_fault 0 (Err found) ≡ Some of → ((reached : List ℕ) → AreTaken mid reached → blocks_checked (length mid.slots) reached part ≡ Err found) → (reached : List ℕ) → AreTaken old reached → data_after (length old.slots) all reached ≡ Err of
    carry found of is fails reached taken =
        let again = taken_more old mid reached near load taken in
        let here : data_after (length mid.slots) part (reached ++ near) ≡ Err of = some_fault _ of (sym is ∙ told_by_check mid part (reached ++ near) (Err found) again (fails (reached ++ near) again)) in
        let there : data_after (length old.slots) part (reached ++ near) ≡ Err of = ap (λ (n : ℕ). data_after n part (reached ++ near)) (sym load.size) ∙ here in
        ap (λ (l : List ℕ). data_after (length old.slots) l reached) split ∙ data_append (length old.slots) near (part ++ far) reached
        ∙ ap (λ (r : Result (List ℕ) ImageFault). r >>= data_after (length old.slots) (part ++ far)) (before reached taken)
        ∙ data_append (length old.slots) part far (reached ++ near) ∙ ap (λ (r : Result (List ℕ) ImageFault). r >>= data_after (length old.slots) far) there

    go : (found : TreeFault) → IsDataAnswer mid part (Err found) → IsReadFault old all (tree_fault id found)
    go (trees.Outside at) h = carry (trees.Outside at) (BadTree (loads.Outside at)) refl h
    go (trees.Twice at) h = carry (trees.Twice at) (BadTree (loads.Twice at)) refl h
    go trees.Disk h = tt
    go trees.OutOfMemory h = tt
    go (trees.Item at key why) h =
        let no = data_only (length old.slots) all (taken_of old) (BadItem at.0 key why) (carry (trees.Item at key why) (BadItem at.0 key why) refl h (taken_of old) (taken_are old)) in
        absurd (let is = no.1 in cc)
    go (trees.Incoherent ino) h =
        let no = data_only (length old.slots) all (taken_of old) (faults.Incoherent 0 ino.0) (carry (trees.Incoherent ino) (faults.Incoherent 0 ino.0) refl h (taken_of old) (taken_are old)) in
        absurd (let is = no.1 in cc)

-- ---- as the calls say it

pub right_by : (table : Table) (want : Want) (tree : Tree) → tree ≡ tree_wanted want → Ok tt ≡ items_answer table tree → AreBytes (tree_items table tree) → HaveKeys (tree_items table tree) → AreItemsRight table want
right_by table want tree is answer bytes keys = record {
  answer = ap (items_answer table) (sym is) ∙ sym answer;
  bytes = subst (λ (t : Tree). AreBytes (tree_items table t)) is bytes;
  keys = subst (λ (t : Tree). HaveKeys (tree_items table t)) is keys;
}

pub items_fail_by : (table : Table) (wants : List Want) (place : ℕ) (d : Want) (tree : Tree) (fault : TreeFault) (found : MountFault) → tree ≡ tree_wanted (slice_index_or wants place d) → place < length wants → items_fault table wants ≡ items_fault table (drop place wants)
    → Err fault ≡ items_answer table tree → found ≡ tree_fault (slice_index_or wants place d).owner fault → IsItemsFault table wants found
items_fail_by table wants place d tree fault found is inside so_far answer found_is = subst (IsItemsFault table wants) (sym found_is) (items_fail table wants place d fault inside so_far (answer ∙ ap (items_answer table) is))

pub read_fails_by : (old mid : Table) (wants : List Want) (place : ℕ) (d : Want) (tree : Tree) (fault : TreeFault) (found : MountFault) → tree ≡ tree_wanted (slice_index_or wants place d) → place < length wants → ((want : Want) → Contains wants want → IsTree old (tree_wanted want))
    → IsLoad true old mid (wants_data old (take place wants)) → AreReachable old (wants_data old (take place wants)) → IsDataAnswer mid (tree_data mid tree) (Err fault) → found ≡ tree_fault (slice_index_or wants place d).owner fault → IsReadFault old (wants_data old wants) found
read_fails_by old mid wants place d tree fault found is inside trees load before answer found_is =
    let want : Want = slice_index_or wants place d in
    let kept = kept_by true old mid want (wants_data old (take place wants)) load (at_place (λ (w : Want). IsTree old (tree_wanted w)) wants place d inside trees) in
    let same : tree_data mid tree ≡ tree_data old (tree_wanted want) = ap (tree_data mid) is ∙ ap (λ (l : List Item). data_addresses l) kept.items in
    let split : wants_data old wants ≡ wants_data old (take place wants) ++ (tree_data mid tree ++ wants_data old (drop (suc place) wants)) =
    ap (wants_data old) (cut_here wants place d inside) ∙ data_joined old (take place wants) (want ∷ drop (suc place) wants) ∙ ap (λ (l : List ℕ). wants_data old (take place wants) ++ (l ++ wants_data old (drop (suc place) wants))) (sym same) in
    subst (IsReadFault old (wants_data old wants)) (sym found_is) (read_fails old mid (wants_data old (take place wants)) (tree_data mid tree) (wants_data old (drop (suc place) wants)) (wants_data old wants) want.owner fault load before split answer)

pub kept_tree_by : (old mid : Table) (wants : List Want) (place : ℕ) (d : Want) (tree : Tree) (addresses : List ℕ) → tree ≡ tree_wanted (slice_index_or wants place d) → place < length wants → ((want : Want) → Contains wants want → IsTree old (tree_wanted want)) → IsLoad true old mid addresses → IsTree mid tree
kept_tree_by old mid wants place d tree addresses is inside trees load =
    subst (IsTree mid) (sym is) (kept_by true old mid (slice_index_or wants place d) addresses load (at_place (λ (w : Want). IsTree old (tree_wanted w)) wants place d inside trees)).tree

-- one tree's data more
pub record MoreRead (seen : Option Image) (old new : Table) (wants : List Want) : Type 0 where
  pub load : IsLoad true old new (wants_data old wants)
  pub reachable : AreReachable old (wants_data old wants)
  pub bytes : IfTold seen (λ image. HasBytes image new (wants_data old wants))

told_joined : (seen told : Option Image) (old mid new : Table) (near far : List ℕ) → told ≡ seen → IsLoad true old mid near → IsLoad true mid new far → IfTold seen (λ image. HasBytes image mid near) → IfTold told (λ image. HasBytes image new far)
    → IfTold seen (λ image. HasBytes image new (near ++ far))
told_joined seen told old mid new near far same load more before behind = go seen before (subst (λ (s : Option Image). IfTold s (λ image. HasBytes image new far)) same behind)
  where
    go : (s : Option Image) → IfTold s (λ image. HasBytes image mid near) → IfTold s (λ image. HasBytes image new far) → IfTold s (λ image. HasBytes image new (near ++ far))
    go None a b = tt
    go (Some image) a b = bytes_joined image old mid new near far load more a b

pub read_more_by : (seen told : Option Image) (old mid new : Table) (wants : List Want) (place : ℕ) (d : Want) (tree : Tree) → tree ≡ tree_wanted (slice_index_or wants place d) → place < length wants → told ≡ seen → ((want : Want) → Contains wants want → IsTree old (tree_wanted want))
    → IsLoad true old mid (wants_data old (take place wants)) → AreReachable old (wants_data old (take place wants)) → IfTold seen (λ image. HasBytes image mid (wants_data old (take place wants))) → IsDataAnswer mid (tree_data mid tree) (Ok tt) → IsLoad true mid new (tree_data mid tree)
    → IfTold told (λ image. HasBytes image new (tree_data mid tree)) → MoreRead seen old new (take (place + 1) wants)
read_more_by seen told old mid new wants place d tree is inside same_told trees load before bytes answer more behind =
    let want : Want = slice_index_or wants place d in
    let near : List ℕ = wants_data old (take place wants) in
    let far : List ℕ = tree_data mid tree in
    let kept = kept_by true old mid want near load (at_place (λ (w : Want). IsTree old (tree_wanted w)) wants place d inside trees) in
    let same : far ≡ tree_data old (tree_wanted want) = ap (tree_data mid) is ∙ ap (λ (l : List Item). data_addresses l) kept.items in
    let whole : wants_data old (take place wants ++ want ∷ []) ≡ near ++ far = data_joined old (take place wants) (want ∷ []) ∙ ap (λ (l : List ℕ). near ++ l) (append-nil (tree_data old (tree_wanted want)) ∙ sym same) in
    subst (MoreRead seen old new) (sym (one_more wants place d inside)) (record {
      load = subst (IsLoad true old new) (sym whole) (load_more old mid new near far load more);
      reachable = subst (AreReachable old) (sym whole) (reachable_more old mid near far load before (reachable_one mid far answer));
      bytes = subst (λ (l : List ℕ). IfTold seen (λ image. HasBytes image new l)) (sym whole) (told_joined seen told old mid new near far same_told load more bytes behind);
    })
