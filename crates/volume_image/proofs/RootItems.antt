-- The items of a root tree and of a log root tree are read exactly where they are such items.
use Rattle.std.proofs.Common.{◌≡◌, ◌+◌, ◌≤◌, ◌&&◌, ◌==◌, ℕ, zero, suc, Bool, true, List, [], ◌∷◌, length, map, take, Contains, Result, Ok, Err, refl, sym, ap, subst, ◌∙◌, arith}
use Rattle.std.specs.List.{range_with_len}
use Rattle.std.specs.FinMap.{entries}
use Rattle.std.proofs.lemmas.Bool.{and_parts, and_from, eqb-true, eq-eqb}
use Rattle.std.proofs.lemmas.List.{length-map}
use Rattle.std.proofs.lemmas.List.FromFn.{length-range_with_len}
use Rattle.blk_base.specs.declared.key.Key.{Key}
use Rattle.blk_base.specs.Keys.{tree_log, root_item}
use Rattle.blk_base.specs.Leaf.{Item}
use Rattle.blk_base.specs.Items.{RootValue, IsRoot, root_value}
use Rattle.flat_model.specs.Volume.{Subvolume, Volume, subvolume_ids}
use Rattle.format_laws.specs.Checks.{passed, passes}
use Rattle.volume_image.specs.Subvolume.{make_key}
use Rattle.volume_image.specs.Roots.{RootsFault, with_root, root_pair, is_key, roots_in, roots_of, AreRootItems, LogRoot, AreLogRootItems, is_one_of, log_roots_of}
use Rattle.volume_image.specs.Stands.{Stands}
use Rattle.volume_image.specs.Tree.{Image}
use Rattle.volume_image.proofs.Reaches.{was_reached-true, was_reached-in}

-- ---- one pair

key_from_test : (key : Key) (objectid kind offset : ℕ) → is_key key objectid kind offset ≡ true → key ≡ make_key objectid kind offset
key_from_test key objectid kind offset h =
    let p = and_parts _ _ h in
    let q = and_parts _ _ p.0 in
    let a = eqb-true key.objectid objectid q.0 in
    let b = eqb-true key.kind kind q.1 in
    let c = eqb-true key.offset offset p.1 in
    λ i. record { objectid = a i; kind = b i; offset = c i }

test_from_key : (key : Key) (objectid kind offset : ℕ) → key ≡ make_key objectid kind offset → is_key key objectid kind offset ≡ true
test_from_key key objectid kind offset h =
    and_from _ _ (and_from _ _ (eq-eqb _ _ (ap (λ (k : Key). k.objectid) h)) (eq-eqb _ _ (ap (λ (k : Key). k.kind) h))) (eq-eqb _ _ (ap (λ (k : Key). k.offset) h))

-- a pair that was read, and what was read behind it
record IsPairRead {R : Type 0} (is_its_key : Bool) (item : Item) (root : R) (rest : Result (List R) RootsFault) (roots : List R) : Type 0 where
  key : is_its_key ≡ true
  size : IsRoot item.1 (root_value item.1)
  others : List R
  read : rest ≡ Ok others
  roots_are : root ∷ others ≡ roots

behind : {R : Type 0} (root : R) (rest : Result (List R) RootsFault) (roots : List R) → with_root root rest ≡ Ok roots → (others : List R) × (rest ≡ Ok others) × (root ∷ others ≡ roots)
behind root (Err fault) roots h = absurd cc
behind root (Ok others) roots h = (others, refl, cc)

pair_read : {R : Type 0} (is_its_key : Bool) (item : Item) (root : R) (rest : Result (List R) RootsFault) (roots : List R) → root_pair is_its_key item root rest ≡ Ok roots → IsPairRead is_its_key item root rest roots
pair_read is_its_key item root rest roots h =
    let a = passed _ _ _ _ h in
    let b = passed _ _ _ _ a.1 in
    let c = behind root rest roots b.1 in
    record { key = a.0; size = record { size = eqb-true _ _ b.0; value = refl }; others = c.0; read = c.1; roots_are = c.2 }

read_pair : {R : Type 0} (is_its_key : Bool) (item : Item) (root : R) (rest : Result (List R) RootsFault) (others : List R) (v : RootValue) → is_its_key ≡ true → IsRoot item.1 v → rest ≡ Ok others → root_pair is_its_key item root rest ≡ Ok (root ∷ others)
read_pair is_its_key item root rest others v key is read = passes _ _ _ key ∙ passes _ _ _ (eq-eqb _ _ is.size) ∙ ap (with_root root) read

-- ---- the root tree

roots_in-read : (ids : List ℕ) (items : List Item) (roots : List RootValue) → roots_in ids items ≡ Ok roots → (length roots ≤ length ids) × AreRootItems items (take (length roots) ids) roots
roots_in-read ids [] [] h = (omega arith, tt)
roots_in-read ids [] (root ∷ roots) h = absurd cc
roots_in-read [] (item ∷ items) roots h = absurd cc
roots_in-read (id ∷ ids) (item ∷ items) roots h =
    let a = pair_read _ item (root_value item.1) (roots_in ids items) roots h in
    let b = roots_in-read ids items a.others a.read in
    subst (λ (rs : List RootValue). (length rs ≤ length (id ∷ ids)) × AreRootItems (item ∷ items) (take (length rs) (id ∷ ids)) rs) a.roots_are
    (omega (arith, b.0), (key_from_test item.0 id root_item 0 a.key, a.size, b.1))

read-roots_in : (ids : List ℕ) (items : List Item) (roots : List RootValue) → length roots ≤ length ids → AreRootItems items (take (length roots) ids) roots → roots_in ids items ≡ Ok roots
read-roots_in ids [] [] few are = refl
read-roots_in [] [] (root ∷ roots) few are = absurd are
read-roots_in (id ∷ ids) [] (root ∷ roots) few are = absurd are
read-roots_in [] (item ∷ items) [] few are = absurd are
read-roots_in (id ∷ ids) (item ∷ items) [] few are = absurd are
read-roots_in [] (item ∷ items) (root ∷ roots) few are = absurd are
read-roots_in (id ∷ ids) (item ∷ items) (root ∷ roots) few are =
    read_pair _ item (root_value item.1) (roots_in ids items) roots root (test_from_key item.0 id root_item 0 are.0) are.1 (read-roots_in ids items roots (omega (arith, few)) are.2)
    ∙ ap (λ (r : RootValue). Ok (r ∷ roots)) are.1.value

take_range : (from many few : ℕ) → few ≤ many → take few (range_with_len from many) ≡ range_with_len from few
take_range from many zero h = refl
take_range from zero (suc few) h = absurd (omega (arith, h))
take_range from (suc many) (suc few) h = ap (λ (ids : List ℕ). from ∷ ids) (take_range (from + 1) many few (omega (arith, h)))

pub first_ids : (few : ℕ) → few ≤ 16 → take few (subvolume_ids 16) ≡ subvolume_ids few
first_ids zero h = refl
first_ids (suc few) h = ap (λ (ids : List ℕ). 5 ∷ ids) (take_range 256 15 few (omega (arith, h)))

pub length-subvolume_ids : (count : ℕ) → length (subvolume_ids count) ≡ count
length-subvolume_ids zero = refl
length-subvolume_ids (suc count) = ap suc (length-range_with_len 256 count)

roots_of-read : (items : List Item) (roots : List RootValue) → roots_of items ≡ Ok roots → (1 ≤ length roots) × (length roots ≤ 16) × AreRootItems items (subvolume_ids (length roots)) roots
roots_of-read [] roots h = absurd cc
roots_of-read (item ∷ items) roots h =
    let a = roots_in-read (subvolume_ids 16) (item ∷ items) roots h in
    let few : length roots ≤ 16 = a.0 in
    (some (take (length roots) (subvolume_ids 16)) roots a.1, few, subst (λ (ids : List ℕ). AreRootItems (item ∷ items) ids roots) (first_ids (length roots) few) a.1)
  where
    some : (ids : List ℕ) (rs : List RootValue) → AreRootItems (item ∷ items) ids rs → 1 ≤ length rs
    some [] [] are = absurd are
    some (id ∷ ids) [] are = absurd are
    some [] (r ∷ rs) are = absurd are
    some (id ∷ ids) (r ∷ rs) are = omega arith

read-roots_of : (items : List Item) (roots : List RootValue) → (1 ≤ length roots) × (length roots ≤ 16) × AreRootItems items (subvolume_ids (length roots)) roots → roots_of items ≡ Ok roots
read-roots_of [] [] are = absurd (omega (arith, are.0))
read-roots_of [] (root ∷ roots) are = absurd are.2
read-roots_of (item ∷ items) roots are =
    read-roots_in (subvolume_ids 16) (item ∷ items) roots are.1 (subst (λ (ids : List ℕ). AreRootItems (item ∷ items) ids roots) (sym (first_ids (length roots) are.1)) are.2)

pub roots_are_read : (items : List Item) (roots : List RootValue) → (roots_of items ≡ Ok roots → (1 ≤ length roots) × (length roots ≤ 16) × AreRootItems items (subvolume_ids (length roots)) roots) × ((1 ≤ length roots) × (length roots ≤ 16) × AreRootItems items (subvolume_ids (length roots)) roots → roots_of items ≡ Ok roots)
roots_are_read items roots = (roots_of-read items roots, read-roots_of items roots)

-- ---- the log root tree

log_roots-read : (ids : List ℕ) (items : List Item) (logs : List LogRoot) → log_roots_of ids items ≡ Ok logs → AreLogRootItems ids items logs
log_roots-read ids [] [] h = tt
log_roots-read ids [] (log ∷ logs) h = absurd cc
log_roots-read ids (item ∷ items) logs h =
    let a = pair_read _ item (item.0.offset, root_value item.1) (log_roots_of ids items) logs h in
    let b = and_parts _ _ a.key in
    subst (AreLogRootItems ids (item ∷ items)) a.roots_are (key_from_test item.0 tree_log root_item item.0.offset b.0, was_reached-true item.0.offset ids b.1, a.size, log_roots-read ids items a.others a.read)

read-log_roots : (ids : List ℕ) (items : List Item) (logs : List LogRoot) → AreLogRootItems ids items logs → log_roots_of ids items ≡ Ok logs
read-log_roots ids [] [] are = refl
read-log_roots ids [] (log ∷ logs) are = absurd are
read-log_roots ids (item ∷ items) [] are = absurd are
read-log_roots ids (item ∷ items) (log ∷ logs) are =
    let offset : item.0.offset ≡ log.0 = ap (λ (k : Key). k.offset) are.0 in
    let kept : is_key item.0 tree_log root_item item.0.offset ≡ true = test_from_key item.0 tree_log root_item item.0.offset (are.0 ∙ ap (make_key tree_log root_item) (sym offset)) in
    let known : is_one_of ids item.0.offset ≡ true = was_reached-in item.0.offset ids (subst (Contains ids) (sym offset) are.1) in
    read_pair _ item (item.0.offset, root_value item.1) (log_roots_of ids items) logs log.1 (and_from _ _ kept known) are.2 (read-log_roots ids items logs are.3)
    ∙ (λ i. Ok ((offset i, are.2.value i) ∷ logs))

pub log_roots_are_read : (ids : List ℕ) (items : List Item) (logs : List LogRoot) → (log_roots_of ids items ≡ Ok logs → AreLogRootItems ids items logs) × (AreLogRootItems ids items logs → log_roots_of ids items ≡ Ok logs)
log_roots_are_read ids items logs = (log_roots-read ids items logs, read-log_roots ids items logs)

-- ---- the volumes that an image stands for

pub few_subvolumes : (image : Image) (volume : Volume) → Stands image volume → (1 ≤ length (entries volume)) × (length (entries volume) ≤ 16)
few_subvolumes image volume stands =
    let held = stands.by_reach.committed in
    let many : length (entries volume) ≡ length held.roots =
    sym (length-map (entries volume) (λ (entry : ℕ × Subvolume). entry.0)) ∙ ap length held.ids ∙ length-subvolume_ids (length held.roots) in
    (omega (arith, many, held.least), omega (arith, many, held.most))
