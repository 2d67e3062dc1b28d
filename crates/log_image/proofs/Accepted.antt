-- A log without a fault is that of its items and accepted, and the other way round.
use Rattle.std.proofs.Common.{◌≡◌, ◌≢◌, ◌⊎◌, ◌&&◌, ◌||◌, ℕ, Bool, true, false, not, cond, List, [], ◌∷◌, Contains, Option, Some, None, nat_eq, refl, sym, ap, ap₂, ◌∙◌, inl, inr}
use Rattle.std.specs.List.{list_any}
use Rattle.std.proofs.lemmas.Bool.{or_parts, eqb-true, eq-eqb, eqb-false, not-false, false_from_ne_true}
use Rattle.std.specs.FinMap.{get}
use Rattle.blk_base.specs.Leaf.{Item}
use Rattle.blk_base.specs.Items.{InodeValue, file_mode, dir_mode, link_mode}
use Rattle.blk_base.specs.Extents.{ExtentValue}
use Rattle.flat_model.specs.Records.{InodeRecord}
use Rattle.flat_model.specs.Names.{name_set}
use Rattle.logged_volume.specs.FlatLog.{WholeInode}
use Rattle.logged_volume.proofs.Members.{none_from, none_gives, get_map_of_all}
use Rattle.volume_image.specs.Subvolume.{Data}
use Rattle.log_image.specs.LogItems.{HasItsExtents, inode_in, is_inline_extent, whole_in, whole_said, whole_by_mode, existing_in, existing_said, made_by_mode, names_in, ranges_in, entries_in}
use Rattle.log_image.specs.LogRules.{objectids_in, log_of, is_empty, has_more, is_one, has_wrong_extents}
use Rattle.log_image.proofs.Broken.{said_objectid, whole_objectid}

-- ---- the log of items

existing_objectid : (items : List Item) (ino : ℕ) (inode : InodeRecord) → existing_in items ino ≡ Some inode → Contains (objectids_in items) ino
existing_objectid items ino inode h = go (inode_in items ino) refl h
  where
    go : (said : Option InodeValue) → inode_in items ino ≡ said → existing_said items ino said ≡ Some inode → Contains (objectids_in items) ino
    go None e h = absurd cc
    go (Some value) e h = said_objectid items ino value e

pub whole_of_log : (items : List Item) (blocks : Data) (ino : ℕ) → get (log_of items blocks).whole ino ≡ whole_in items blocks ino
unfolding log_of
whole_of_log items blocks ino = get_map_of_all (objectids_in items) (whole_in items blocks) (whole_objectid items blocks) ino

pub existing_of_log : (items : List Item) (blocks : Data) (ino : ℕ) → get (log_of items blocks).existing ino ≡ existing_in items ino
unfolding log_of
existing_of_log items blocks ino = get_map_of_all (objectids_in items) (existing_in items) (existing_objectid items) ino

pub names_of_log : (items : List Item) (blocks : Data) → (log_of items blocks).names ≡ name_set (names_in items)
unfolding log_of
names_of_log items blocks = refl

pub ranges_of_log : (items : List Item) (blocks : Data) → (log_of items blocks).ranges ≡ ranges_in items
unfolding log_of
ranges_of_log items blocks = refl

pub entries_of_log : (items : List Item) (blocks : Data) → (log_of items blocks).entries ≡ entries_in items
unfolding log_of
entries_of_log items blocks = refl

-- ---- what is said of an inode

-- of an inode with an item the log has one or the other
pub record SaidOnce (items : List Item) (blocks : Data) (ino : ℕ) (value : InodeValue) : Type 0 where
  pub bare : value.generation ≡ 0 → (whole_in items blocks ino ≡ None) × (existing_in items ino ≡ Some (made_by_mode items ino value))
  pub full : nat_eq value.generation 0 ≡ false → (whole_in items blocks ino ≡ Some (whole_by_mode items blocks ino value)) × (existing_in items ino ≡ None)

pub said_once_of : (items : List Item) (blocks : Data) (ino : ℕ) (value : InodeValue) → inode_in items ino ≡ Some value → SaidOnce items blocks ino value
said_once_of items blocks ino value h = record {
  bare = λ g. (
    ap (whole_said items blocks ino) h ∙ ap (λ (b : Bool). cond b None (Some (whole_by_mode items blocks ino value))) (eq-eqb value.generation 0 g),
    ap (existing_said items ino) h ∙ ap (λ (b : Bool). cond b (Some (made_by_mode items ino value)) None) (eq-eqb value.generation 0 g),
  );
  full = λ g. (
    ap (whole_said items blocks ino) h ∙ ap (λ (b : Bool). cond b None (Some (whole_by_mode items blocks ino value))) g,
    ap (existing_said items ino) h ∙ ap (λ (b : Bool). cond b (Some (made_by_mode items ino value)) None) g,
  );
}

-- what an inode that the log has was said by
pub record SaidWhole (items : List Item) (blocks : Data) (ino : ℕ) (whole : WholeInode) : Type 0 where
  pub value : InodeValue
  pub said : inode_in items ino ≡ Some value
  pub full : nat_eq value.generation 0 ≡ false
  pub is : whole ≡ whole_by_mode items blocks ino value

pub whole_by : (items : List Item) (blocks : Data) (ino : ℕ) (whole : WholeInode) → whole_in items blocks ino ≡ Some whole → SaidWhole items blocks ino whole
whole_by items blocks ino whole h = go (inode_in items ino) refl h
  where
    of_value_here : (value : InodeValue) → inode_in items ino ≡ Some value → (g : Bool) → nat_eq value.generation 0 ≡ g → cond g None (Some (whole_by_mode items blocks ino value)) ≡ Some whole → SaidWhole items blocks ino whole
    of_value_here value e true g h = absurd cc
    of_value_here value e false g h = record { value = value; said = e; full = g; is = cc }

    go : (said : Option InodeValue) → inode_in items ino ≡ said → whole_said items blocks ino said ≡ Some whole → SaidWhole items blocks ino whole
    go None e h = absurd cc
    go (Some value) e h = of_value_here value e (nat_eq value.generation 0) refl h

pub record SaidExisting (items : List Item) (ino : ℕ) (inode : InodeRecord) : Type 0 where
  pub value : InodeValue
  pub said : inode_in items ino ≡ Some value
  pub bare : nat_eq value.generation 0 ≡ true
  pub is : inode ≡ made_by_mode items ino value

pub existing_by : (items : List Item) (ino : ℕ) (inode : InodeRecord) → existing_in items ino ≡ Some inode → SaidExisting items ino inode
existing_by items ino inode h = go (inode_in items ino) refl h
  where
    of_value_here : (value : InodeValue) → inode_in items ino ≡ Some value → (g : Bool) → nat_eq value.generation 0 ≡ g → cond g (Some (made_by_mode items ino value)) None ≡ Some inode → SaidExisting items ino inode
    of_value_here value e true g h = record { value = value; said = e; bare = g; is = cc }
    of_value_here value e false g h = absurd cc

    go : (said : Option InodeValue) → inode_in items ino ≡ said → existing_said items ino said ≡ Some inode → SaidExisting items ino inode
    go None e h = absurd cc
    go (Some value) e h = of_value_here value e (nat_eq value.generation 0) refl h

-- ---- extents

empty_gives : {X : Type 0} (xs : List X) → is_empty xs ≡ true → xs ≡ []
empty_gives [] h = refl
empty_gives (x ∷ xs) h = absurd cc

one_gives : {X : Type 0} (test : X → Bool) (xs : List X) → is_one test xs ≡ true → (x : X) × (xs ≡ x ∷ []) × (test x ≡ true)
one_gives test [] h = absurd cc
one_gives test (x ∷ []) h = (x, refl, h)
one_gives test (x ∷ y ∷ xs) h = absurd cc

any_none : {X : Type 0} (xs : List X) (p : X → Bool) → list_any p xs ≡ false → ((x : X) → p x ≡ true) → xs ≡ []
any_none [] p h all = refl
any_none (x ∷ xs) p h all = let parts = or_parts (p x) (list_any p xs) h in let here = all x in absurd cc

pub extents_give : (attributes : List (List ℕ × List ℕ)) (extents : List (ℕ × ExtentValue)) (value : InodeValue) → has_more attributes extents value ≡ false → has_wrong_extents extents value ≡ false → HasItsExtents value extents
extents_give attributes extents value more wrong = record {
  link = λ m. one_gives is_inline_extent extents (not-false (is_one is_inline_extent extents) (sym (link_case m) ∙ wrong));
  file = λ m extent c. none_gives is_inline_extent extents (sym (file_case m) ∙ wrong) extent c;
  dir = λ m. empty_gives extents (not-false (is_empty extents) (sym (dir_case m) ∙ wrong));
  bare = λ g m.
      let parts = or_parts (not (is_empty attributes)) (list_any (more_test value.mode) extents) (sym (bare_case g) ∙ more) in
      any_none extents (more_test value.mode) parts.1 (λ extent. other_mode extent m);
}
  where
    more_test : ℕ → ℕ × ExtentValue → Bool
    more_test mode extent = not (nat_eq mode link_mode && is_inline_extent extent)

    other_mode : (extent : ℕ × ExtentValue) → value.mode ≢ link_mode → more_test value.mode extent ≡ true
    other_mode extent m = ap (λ (b : Bool). not (b && is_inline_extent extent)) (false_from_ne_true (nat_eq value.mode link_mode) (λ h. m (eqb-true value.mode link_mode h)))

    bare_case : value.generation ≡ 0 → has_more attributes extents value ≡ (not (is_empty attributes) || list_any (more_test value.mode) extents)
    bare_case g = rw g refl

    link_case : value.mode ≡ link_mode → has_wrong_extents extents value ≡ not (is_one is_inline_extent extents)
    link_case m = rw m refl

    file_case : value.mode ≡ file_mode → has_wrong_extents extents value ≡ list_any is_inline_extent extents
    file_case m = rw m refl

    dir_case : value.mode ≡ dir_mode → has_wrong_extents extents value ≡ not (is_empty extents)
    dir_case m = rw m refl

pub bare_gives : (attributes : List (List ℕ × List ℕ)) (extents : List (ℕ × ExtentValue)) (value : InodeValue) → has_more attributes extents value ≡ false → value.generation ≡ 0 → attributes ≡ []
bare_gives attributes extents value more g = empty_gives attributes (not-false (is_empty attributes) (or_parts (not (is_empty attributes)) (tests extents) (sym (bare_case g) ∙ more)).0)
  where
    tests : List (ℕ × ExtentValue) → Bool
    tests extents = list_any (λ extent. not (nat_eq value.mode link_mode && is_inline_extent extent)) extents

    bare_case : value.generation ≡ 0 → has_more attributes extents value ≡ (not (is_empty attributes) || tests extents)
    bare_case g = rw g refl

pub wrong_from : (extents : List (ℕ × ExtentValue)) (value : InodeValue) → HasItsExtents value extents → (value.mode ≡ file_mode) ⊎ (value.mode ≡ dir_mode) ⊎ (value.mode ≡ link_mode) → has_wrong_extents extents value ≡ false
wrong_from extents value has (inl m) = file_case m ∙ none_from is_inline_extent extents (has.file m)
  where
    file_case : value.mode ≡ file_mode → has_wrong_extents extents value ≡ list_any is_inline_extent extents
    file_case m = rw m refl
wrong_from extents value has (inr (inl m)) = dir_case m ∙ ap (λ (xs : List (ℕ × ExtentValue)). not (is_empty xs)) (has.dir m)
  where
    dir_case : value.mode ≡ dir_mode → has_wrong_extents extents value ≡ not (is_empty extents)
    dir_case m = rw m refl
wrong_from extents value has (inr (inr m)) =
    let one = has.link m in
    link_case m ∙ ap (λ (xs : List (ℕ × ExtentValue)). not (is_one is_inline_extent xs)) one.1 ∙ ap not one.2
  where
    link_case : value.mode ≡ link_mode → has_wrong_extents extents value ≡ not (is_one is_inline_extent extents)
    link_case m = rw m refl

pub more_from : (attributes : List (List ℕ × List ℕ)) (extents : List (ℕ × ExtentValue)) (value : InodeValue) → HasItsExtents value extents → (value.generation ≡ 0 → attributes ≡ []) → has_more attributes extents value ≡ false
more_from attributes extents value has bare = go (nat_eq value.generation 0) refl (nat_eq value.mode link_mode) refl
  where
    full_case : nat_eq value.generation 0 ≡ false → has_more attributes extents value ≡ false
    full_case g = rw g refl

    tests : Bool → List (ℕ × ExtentValue) → Bool
    tests is_link extents = list_any (λ extent. not (is_link && is_inline_extent extent)) extents

    bare_case : nat_eq value.generation 0 ≡ true → (is_link : Bool) → nat_eq value.mode link_mode ≡ is_link → has_more attributes extents value ≡ (not (is_empty attributes) || tests is_link extents)
    bare_case g is_link m = rw (g, m) refl

    go : (g : Bool) → nat_eq value.generation 0 ≡ g → (m : Bool) → nat_eq value.mode link_mode ≡ m → has_more attributes extents value ≡ false
    go false g m em = full_case g
    go true g true m =
        let one = has.link (eqb-true value.mode link_mode m) in
        bare_case g true m ∙ ap₂ (λ (xs : List (List ℕ × List ℕ)) (ys : List (ℕ × ExtentValue)). not (is_empty xs) || tests true ys) (bare (eqb-true value.generation 0 g)) one.1
        ∙ ap (λ (b : Bool). not b || false) one.2
    go true g false m =
        bare_case g false m ∙ ap₂ (λ (xs : List (List ℕ × List ℕ)) (ys : List (ℕ × ExtentValue)). not (is_empty xs) || tests false ys) (bare (eqb-true value.generation 0 g))
        (has.bare (eqb-true value.generation 0 g) (eqb-false value.mode link_mode m))
