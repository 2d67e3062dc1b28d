-- Which inodes have a name after replay, and which are there.
use Rattle.std.proofs.Common.{◌≡◌, ◌≢◌, ◌⊎◌, ◌≤◌, ◌-◌, ◌^◌, ℕ, suc, Bool, true, false, cond, not, ◌||◌, List, [], ◌∷◌, map, filter, length, Contains, Option, Some, None, Result, Ok, Err, nat_eq, nat_lt, refl, sym, ap, subst, ◌∙◌, arith, inl, inr}
use Rattle.std.specs.List.{find, flat_map, list_any}
use Rattle.std.specs.FinMap.{get}
use Rattle.std.specs.Option.{is_some}
use Rattle.std.proofs.lemmas.Bool.{and_from, and_parts, eq-eqb, eqb-true, lt-ltb, ne_eqb, not-true, not_from_false, true≢false}
use Rattle.std.proofs.lemmas.List.Sorted.{Contains-permutation, IsPermutation-sym}
use Rattle.blk_base.specs.declared.fault.ItemFault.{ItemFault}
use Rattle.blk_base.specs.declared.key.Key.{Key}
use Rattle.blk_base.specs.Entries.{ExtRefValue, RefValue, extrefs_of, refs_of as refs_read}
use Rattle.blk_base.specs.Keys.{inode_extref, inode_ref}
use Rattle.blk_base.specs.Leaf.{Item}
use Rattle.block_table.specs.declared.tree.Tree.{Tree}
use Rattle.block_table.specs.Table.{Table}
use Rattle.tree_range.specs.Shape.{tree_items}
use Rattle.table_volume.specs.Gives.{data_in}
use Rattle.flat_model.specs.declared.view.NameAt.{NameAt}
use Rattle.flat_model.specs.Coherent.{IsCoherent}
use Rattle.flat_model.specs.Names.{FlatName, leads_to, links_of, names_of}
use Rattle.flat_model.specs.Records.{InodeRecord}
use Rattle.flat_model.specs.Unmarked.{unmarked}
use Rattle.flat_model.specs.Volume.{Subvolume, is_dir_at}
use Rattle.image_faults.specs.Lists.{in_flat_map}
use Rattle.image_faults.specs.Said.{read_list}
use Rattle.volume_image.proofs.Lists.{in_nothing}
use Rattle.volume_image.proofs.Members.{filter_in, flat_map_in, in_filter, in_map, map_in}
use Rattle.logged_volume.specs.Accepted.{IsAccepted}
use Rattle.logged_volume.specs.FlatLog.{FlatLog, WholeInode, is_dropped, is_logged}
use Rattle.logged_volume.specs.Replay.{names_left, replay, replayed_inode, replayed_record}
use Rattle.logged_volume.proofs.Members.{any_from, any_gives, name_set_gives, name_set_has, none_gives}
use Rattle.logged_volume.proofs.Replays.{left_cases, left_has, left_keeps, replay_record}
use Rattle.log_image.specs.LogItems.{far_name, names_in, names_in_item, near_name, read_or}
use Rattle.log_image.proofs.Accepted.{names_of_log}
use Rattle.current_view.specs.Told.{far_told, near_told, refs_of, refs_told}
use Rattle.current_view.specs.View.{seen}
use Rattle.current_view.proofs.Between.{between_gives}
use Rattle.current_view.proofs.Refs.{refs_are}
use Rattle.recovered_view.specs.Kept.{is_kept, is_kept_at}
use Rattle.recovered_view.specs.Log.{IsRecovered, log_said, logged_names}

-- ---- tests over lists

any_length : {X : Type 0} (p : X → Bool) (xs : List X) → nat_lt 0 (length (filter p xs)) ≡ list_any p xs
any_length p [] = refl
any_length {X} p (x ∷ xs) = go (p x) (any_length p xs)
  where
    go : (b : Bool) → nat_lt 0 (length (filter p xs)) ≡ list_any p xs → nat_lt 0 (length (cond b (x ∷ filter p xs) (filter p xs))) ≡ (b || list_any p xs)
    go true rest = lt-ltb 0 (suc (length (filter p xs))) (omega arith)
    go false rest = rest

pub any_found : {X : Type 0} (p : X → Bool) (xs : List X) → is_some (find p xs) ≡ list_any p xs
any_found p [] = refl
any_found {X} p (x ∷ xs) = go (p x) (any_found p xs)
  where
    go : (b : Bool) → is_some (find p xs) ≡ list_any p xs → is_some (cond b (Some x) (find p xs)) ≡ (b || list_any p xs)
    go true rest = refl
    go false rest = rest

pub same_truth : (a b : Bool) → (a ≡ true → b ≡ true) → (b ≡ true → a ≡ true) → a ≡ b
same_truth true b to from = sym (to refl)
same_truth false true to from = from refl
same_truth false false to from = refl

-- ---- names of a log

pub said_in : (table : Table) (log : Option Tree) (name : FlatName) → Contains (logged_names table log) name → Contains (log_said table log).names name
said_in table None name c = absurd (in_nothing name c)
said_in table (Some tree) name c =
    subst (λ (ns : List FlatName). Contains ns name) (sym (names_of_log (tree_items table tree) (data_in table))) (name_set_has (names_in (tree_items table tree)) name c)

pub in_said : (table : Table) (log : Option Tree) (name : FlatName) → Contains (log_said table log).names name → Contains (logged_names table log) name
in_said table None name c = absurd (in_nothing name c)
in_said table (Some tree) name c =
    name_set_gives (names_in (tree_items table tree)) name (subst (λ (ns : List FlatName). Contains ns name) (names_of_log (tree_items table tree) (data_in table)) c)

-- a name that replay leaves leads to its inode
pub leads : (sub : Subvolume) (log : FlatLog) (ino : ℕ) (name : FlatName) → Contains (names_left sub log) name → leads_to ino name ≡ true → nat_lt 0 (links_of (names_left sub log) ino) ≡ true
leads sub log ino name c e = any_length (leads_to ino) (names_left sub log) ∙ any_from (leads_to ino) (names_left sub log) name c e

pub has_lead : (sub : Subvolume) (log : FlatLog) (ino : ℕ) → nat_lt 0 (links_of (names_left sub log) ino) ≡ true → (name : FlatName) × Contains (names_left sub log) name × (leads_to ino name ≡ true)
has_lead sub log ino e = any_gives (leads_to ino) (names_left sub log) (sym (any_length (leads_to ino) (names_left sub log)) ∙ e)

pub logged_leads : (table : Table) (sub : Subvolume) (log : Option Tree) (ino : ℕ) → is_some (find (leads_to ino) (logged_names table log)) ≡ true → nat_lt 0 (links_of (names_left sub (log_said table log)) ino) ≡ true
logged_leads table sub log ino e =
    let name = any_gives (leads_to ino) (logged_names table log) (sym (any_found (leads_to ino) (logged_names table log)) ∙ e) in
    leads sub (log_said table log) ino name.0 (left_has sub (log_said table log) name.0 (said_in table log name.0 name.1)) name.2

-- ---- names of the committed subvolume

read_same : {V : Type 0} (r : Result (List V) ItemFault) → read_or [] r ≡ read_list r
read_same (Ok values) = refl
read_same (Err fault) = refl

near_same : (key : Key) (refs : List RefValue) → map unmarked (map (near_name key) refs) ≡ map (near_told key) refs
near_same key [] = refl
near_same key (ref ∷ refs) = ap (λ (xs : List NameAt). near_told key ref ∷ xs) (near_same key refs)

far_same : (key : Key) (refs : List ExtRefValue) → map unmarked (map (far_name key) refs) ≡ map (far_told key) refs
far_same key [] = refl
far_same key (ref ∷ refs) = ap (λ (xs : List NameAt). far_told key ref ∷ xs) (far_same key refs)

-- an item of refs tells the names that it has, without their marks
item_told : (item : Item) → inode_ref ≤ item.0.kind → item.0.kind ≤ inode_extref → map unmarked (names_in_item item) ≡ refs_told item
item_told item low high = go (nat_eq item.0.kind inode_ref) refl
  where
    near_case : nat_eq item.0.kind inode_ref ≡ true → map unmarked (map (near_name item.0) (read_or [] (refs_read item.0 item.1))) ≡ refs_told item → map unmarked (names_in_item item) ≡ refs_told item
    near_case e = rw e (λ h. h)

    go : (b : Bool) → nat_eq item.0.kind inode_ref ≡ b → map unmarked (names_in_item item) ≡ refs_told item
    go true e =
        let kind = eqb-true item.0.kind inode_ref e in
        rw e (ap (λ (refs : List RefValue). map unmarked (map (near_name item.0) refs)) (read_same (refs_read item.0 item.1)) ∙ near_same item.0 (read_list (refs_read item.0 item.1)))
    go false e =
        let other : item.0.kind ≢ inode_ref = λ same. true≢false (sym (eq-eqb item.0.kind inode_ref same) ∙ e) in
        let kind : item.0.kind ≡ inode_extref = omega (arith, other, low, high) in
        rw (e, eq-eqb item.0.kind inode_extref kind) (ap (λ (refs : List ExtRefValue). map unmarked (map (far_name item.0) refs)) (read_same (extrefs_of item.1)) ∙ far_same item.0 (read_list (extrefs_of item.1)))

module _ (table : Table) (tree : Tree) (log : Option Tree) (given : IsRecovered table tree log) (ino : ℕ) (not_root : ino ≢ 256) where
  abbrev items : List Item
  items = tree_items table tree

  abbrev sub : Subvolume
  sub = seen table tree

  abbrev flat : FlatLog
  flat = log_said table log

  abbrev told : List FlatName
  told = flat_map names_in_item (refs_of items ino)

  in_item : (item : Item) → Contains (refs_of items ino) item → map unmarked (names_in_item item) ≡ refs_told item
  in_item item c =
      let parts = between_gives items ino inode_ref inode_extref (2 ^ 64 - 1) item c in
      item_told item parts.1.low parts.1.high

  -- what is told of it without marks is what the committed subvolume has of it
  told_gives : (name : FlatName) → Contains told name → (other : FlatName) × Contains sub.names other × (leads_to ino other ≡ true) × (unmarked other ≡ unmarked name)
  told_gives name c =
      let item = in_flat_map names_in_item (refs_of items ino) name c in
      let here : Contains (refs_told item.0) (unmarked name) = subst (λ (xs : List NameAt). Contains xs (unmarked name)) (in_item item.0 item.1) (map_in unmarked (names_in_item item.0) name item.2) in
      let all = flat_map_in refs_told (refs_of items ino) item.0 (unmarked name) item.1 here in
      let perm = refs_are table tree given.committed ino not_root in
      let there = Contains-permutation (flat_map refs_told (refs_of items ino)) (map unmarked (names_of sub.names ino)) (unmarked name) (IsPermutation-sym (map unmarked (names_of sub.names ino)) (flat_map refs_told (refs_of items ino)) perm) all in
      let other = in_map unmarked (names_of sub.names ino) (unmarked name) there in
      let found = in_filter (leads_to ino) sub.names other.0 other.1 in
      (other.0, found.0, found.1, other.2)

  told_has : (name : FlatName) → Contains sub.names name → leads_to ino name ≡ true → (other : FlatName) × Contains told other × (unmarked other ≡ unmarked name)
  told_has name c e =
      let perm = refs_are table tree given.committed ino not_root in
      let all = Contains-permutation (map unmarked (names_of sub.names ino)) (flat_map refs_told (refs_of items ino)) (unmarked name) perm (map_in unmarked (names_of sub.names ino) name (filter_in (leads_to ino) sub.names name c e)) in
      let item = in_flat_map refs_told (refs_of items ino) (unmarked name) all in
      let other = in_map unmarked (names_in_item item.0) (unmarked name) (subst (λ (xs : List NameAt). Contains xs (unmarked name)) (sym (in_item item.0 item.1)) item.2) in
      (other.0, flat_map_in names_in_item (refs_of items ino) item.0 other.0 item.1 other.1, other.2)

  kept_same : (one two : FlatName) → unmarked one ≡ unmarked two → is_kept flat one ≡ is_kept flat two
  kept_same one two same = ap (is_kept_at flat) same

  -- where the log has no name of it, one leads to it exactly where the committed subvolume has one that replay keeps
  pub kept_leads : is_some (find (leads_to ino) (logged_names table log)) ≡ false → is_some (find (is_kept flat) told) ≡ nat_lt 0 (links_of (names_left sub flat) ino)
  kept_leads none = any_found (is_kept flat) told ∙ same_truth (list_any (is_kept flat) told) (nat_lt 0 (links_of (names_left sub flat) ino)) to from
    where
      to : list_any (is_kept flat) told ≡ true → nat_lt 0 (links_of (names_left sub flat) ino) ≡ true
      to e =
          let name = any_gives (is_kept flat) told e in
          let other = told_gives name.0 name.1 in
          let parts = and_parts (not (is_dropped flat other.0)) (not (is_logged flat other.0.ino)) (kept_same other.0 name.0 other.3 ∙ name.2) in
          leads sub flat ino other.0 (left_keeps sub flat other.0 other.1 (not-true (is_dropped flat other.0) parts.0) (not-true (is_logged flat other.0.ino) parts.1)) other.2

      from : nat_lt 0 (links_of (names_left sub flat) ino) ≡ true → list_any (is_kept flat) told ≡ true
      from e = let name = has_lead sub flat ino e in go name.0 name.2 (left_cases sub flat name.0 name.1)
        where
          go : (name : FlatName) → leads_to ino name ≡ true → Contains flat.names name ⊎ (Contains sub.names name × (is_dropped flat name ≡ false) × (is_logged flat name.ino ≡ false)) → list_any (is_kept flat) told ≡ true
          go name leads (inl ours) =
              absurd (true≢false (sym leads ∙ none_gives (leads_to ino) (logged_names table log) (sym (any_found (leads_to ino) (logged_names table log)) ∙ none) name (in_said table log name ours)))
          go name leads (inr theirs) =
              let other = told_has name theirs.0 leads in
              any_from (is_kept flat) told other.0 other.1
              (kept_same other.0 name other.2 ∙ and_from (not (is_dropped flat name)) (not (is_logged flat name.ino)) (not_from_false (is_dropped flat name) theirs.1) (not_from_false (is_logged flat name.ino) theirs.2))

-- ---- inodes

-- an inode has a record after replay where the log or the committed subvolume has one
record_some : (sub : Subvolume) (log : FlatLog) (ino : ℕ) → is_some (replayed_record sub log ino) ≡ (is_logged log ino || is_some (get sub.inodes ino))
record_some sub log ino = go (get log.whole ino) (get log.existing ino) (get sub.inodes ino)
  where
    go : (whole : Option WholeInode) (existing was : Option InodeRecord)
        → is_some (elim whole [ None ↦ elim was [ None ↦ existing | Some inode ↦ Some inode ] | Some changes ↦ Some (replayed_inode (get sub.inodes ino) changes) ]) ≡ ((is_some whole || is_some existing) || is_some was)
    go (Some changes) existing was = refl
    go None None None = refl
    go None None (Some inode) = refl
    go None (Some made) None = refl
    go None (Some made) (Some inode) = refl

or_false_right : (a b : Bool) → b ≡ true → (a || b) ≡ true
or_false_right true b e = refl
or_false_right false b e = e

or_true_left : (a b : Bool) → a ≡ true → (a || b) ≡ true
or_true_left true b e = refl
or_true_left false b e = absurd (true≢false (sym e))

some_from : {X : Type 0} (o : Option X) (x : X) → o ≡ Some x → is_some o ≡ true
some_from o x e = ap is_some e

named_record : (sub : Subvolume) (log : FlatLog) → IsCoherent sub → IsAccepted sub log → (ino : ℕ) → nat_lt 0 (links_of (names_left sub log) ino) ≡ true → is_some (replayed_record sub log ino) ≡ true
named_record sub log coherent accepted ino e = let name = has_lead sub log ino e in go name.0 (eqb-true name.0.ino ino name.2) (left_cases sub log name.0 name.1)
  where
    go : (name : FlatName) → name.ino ≡ ino → Contains log.names name ⊎ (Contains sub.names name × (is_dropped log name ≡ false) × (is_logged log name.ino ≡ false)) → is_some (replayed_record sub log ino) ≡ true
    go name same (inl ours) = record_some sub log ino ∙ or_true_left (is_logged log ino) (is_some (get sub.inodes ino)) (sym (ap (is_logged log) same) ∙ accepted.named name ours)
    go name same (inr theirs) =
        let there = coherent.leads_to_inode name theirs.0 in
        record_some sub log ino ∙ or_false_right (is_logged log ino) (is_some (get sub.inodes ino)) (some_from (get sub.inodes ino) there.0 (sym (ap (λ (i : ℕ). get sub.inodes i) same) ∙ there.1))

dir_there : (o : Option InodeRecord) → Rattle.flat_model.specs.Volume.is_dir_there o ≡ true → is_some o ≡ true
dir_there None e = absurd (true≢false (sym e))
dir_there (Some inode) e = refl

-- the root directory is there after replay
pub root_there : (sub : Subvolume) (log : FlatLog) → IsCoherent sub → (ino : ℕ) → ino ≡ 256 → is_some (get (replay sub log).inodes ino) ≡ true
root_there sub log coherent ino is =
    ap is_some (replay_record sub log ino)
    ∙ ap (λ (b : Bool). is_some (cond (b || nat_lt 0 (links_of (names_left sub log) ino)) (replayed_record sub log ino) None)) (eq-eqb ino 256 is)
    ∙ record_some sub log ino
    ∙ or_false_right (is_logged log ino) (is_some (get sub.inodes ino)) (dir_there (get sub.inodes ino) (ap (is_dir_at sub) is ∙ coherent.root_is_dir))

-- any other inode is there exactly where a name leads to it
pub named_there : (sub : Subvolume) (log : FlatLog) → IsCoherent sub → IsAccepted sub log → (ino : ℕ) → ino ≢ 256 → nat_lt 0 (links_of (names_left sub log) ino) ≡ is_some (get (replay sub log).inodes ino)
named_there sub log coherent accepted ino other =
    go (nat_lt 0 (links_of (names_left sub log) ino)) refl
    ∙ sym (ap is_some (replay_record sub log ino) ∙ ap (λ (b : Bool). is_some (cond (b || nat_lt 0 (links_of (names_left sub log) ino)) (replayed_record sub log ino) None)) (ne_eqb ino 256 other))
  where
    go : (b : Bool) → nat_lt 0 (links_of (names_left sub log) ino) ≡ b → nat_lt 0 (links_of (names_left sub log) ino) ≡ is_some (cond (nat_lt 0 (links_of (names_left sub log) ino)) (replayed_record sub log ino) None)
    go true e = e ∙ sym (ap (λ (b : Bool). is_some (cond b (replayed_record sub log ino) None)) e ∙ named_record sub log coherent accepted ino e)
    go false e = e ∙ sym (ap (λ (b : Bool). is_some (cond b (replayed_record sub log ino) None)) e)

-- one that is there has the record that replay gives it
pub record_there : (sub : Subvolume) (log : FlatLog) (ino : ℕ) → is_some (get (replay sub log).inodes ino) ≡ true → get (replay sub log).inodes ino ≡ replayed_record sub log ino
record_there sub log ino e = go (nat_eq ino 256 || nat_lt 0 (links_of (names_left sub log) ino)) (replay_record sub log ino)
  where
    go : (b : Bool) → get (replay sub log).inodes ino ≡ cond b (replayed_record sub log ino) None → get (replay sub log).inodes ino ≡ replayed_record sub log ino
    go true is = is
    go false is = absurd (true≢false (sym e ∙ ap is_some is))
