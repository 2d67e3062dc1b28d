-- The item of an inode in a log, found by its key.
use Rattle.std.proofs.Common.{◌≡◌, ◌∙◌, ℕ, Bool, true, false, not, cond, List, [], ◌∷◌, Contains, Option, Some, None, nat_eq, find, refl, sym, ap, subst, inl, inr}
use Rattle.std.specs.Option.{is_some}
use Rattle.std.proofs.lemmas.Bool.{true≢false}
use Rattle.blk_base.specs.declared.key.Key.{Key}
use Rattle.blk_base.specs.Items.{InodeValue, IsInode, inode_value}
use Rattle.blk_base.specs.Keys.{inode_item}
use Rattle.blk_base.specs.Leaf.{Item}
use Rattle.image_faults.proofs.Rising.{key_once}
use Rattle.logged_volume.specs.FlatLog.{FlatLog, is_whole}
use Rattle.log_image.specs.LogItems.{AreItemsOfLog, inode_in, is_at, value_of_item, whole_said}
use Rattle.log_image.proofs.OneLog.{at_from}
use Rattle.log_image.proofs.Sayings.{said_by}
use Rattle.tree_range.specs.Between.{data_under}
use Rattle.tree_range.proofs.Found.{contains_under, under_contains}
use Rattle.volume_image.specs.Subvolume.{Data, make_key}
use Rattle.volume_image.proofs.Lists.{in_cons, in_nothing}

pub find_some : {X : Type 0} (p : X → Bool) (xs : List X) (x : X) → Contains xs x → p x ≡ true → (y : X) × (find p xs ≡ Some y)
find_some p [] x c is = absurd (in_nothing x c)
find_some {X} p (y ∷ xs) x c is = go (λ there. find_some p xs x there is) (p y) refl
  where
    go : (Contains xs x → (z : X) × (find p xs ≡ Some z)) → (b : Bool) → p y ≡ b → (z : X) × (cond (p y) (Some y) (find p xs) ≡ Some z)
    go later true e = (y, ap (λ (b : Bool). cond b (Some y) (find p xs)) e)
    go later false e = elim (in_cons y x xs c) [
      | inl here ↦ absurd (true≢false (sym is ∙ sym (ap p here) ∙ e))
      | inr there ↦ let rest = later there in (rest.0, ap (λ (b : Bool). cond b (Some y) (find p xs)) e ∙ rest.1)
    ]

-- what the inode's item says in a log
module _ (items : List Item) (blocks : Data) (flat : FlatLog) (ino : ℕ) (h : AreItemsOfLog items blocks flat) where
  abbrev key : Key
  key = make_key ino inode_item 0

  pub own_item : (value : InodeValue) → inode_in items ino ≡ Some value → (bytes : List ℕ) × Contains items (key, bytes) × IsInode bytes value
  own_item value is =
      let by = said_by items ino value is in
      let logged = h.only by.item.0 by.item.1 by.there in
      let offset : by.item.0.offset ≡ 0 = logged.its_key.inode by.kind in
      let place : by.item.0 ≡ key = λ i. record { objectid = by.objectid i; kind = by.kind i; offset = offset i } in
      let spelled = logged.spelled.inode by.kind in
      (by.item.1, subst (λ (k : Key). Contains items (k, by.item.1)) place by.there, subst (IsInode by.item.1) (sym spelled.1.value ∙ sym by.says) spelled.1)

  pub no_item : data_under key items ≡ None → inode_in items ino ≡ None
  no_item none = go (inode_in items ino) refl
    where
      go : (o : Option InodeValue) → inode_in items ino ≡ o → inode_in items ino ≡ None
      go None e = e
      go (Some value) e =
          let own = own_item value e in
          let there : data_under key items ≡ Some own.0 = under_contains items key own.0 own.1.0 h.rise own.1.1 own.1.2 in
          let wrong : None ≡ Some own.0 = sym none ∙ there in
          absurd cc

  pub item_said : (bytes : List ℕ) → data_under key items ≡ Some bytes → (value : InodeValue) × IsInode bytes value × (inode_in items ino ≡ Some value)
  item_said bytes under = go (inode_in items ino) refl
    where
      there : Contains items (key, bytes)
      there = contains_under items key bytes under

      go : (o : Option InodeValue) → inode_in items ino ≡ o → (value : InodeValue) × IsInode bytes value × (inode_in items ino ≡ Some value)
      go None e =
          let found = find_some (is_at ino inode_item) items (key, bytes) there (at_from ino inode_item (key, bytes) refl refl) in
          let wrong : Some (inode_value found.0.1) ≡ None = sym (ap value_of_item found.1) ∙ e in
          absurd cc
      go (Some value) e =
          let own = own_item value e in
          (value, subst (λ (b : List ℕ). IsInode b value) (key_once items key own.0 bytes h.rise own.1 there) own.2, e)

  pub whole_none : inode_in items ino ≡ None → is_whole flat ino ≡ false
  whole_none e = ap is_some (h.whole ino ∙ ap (whole_said items blocks ino) e)

  pub whole_some : (value : InodeValue) → inode_in items ino ≡ Some value → is_whole flat ino ≡ not (nat_eq value.generation 0)
  whole_some value e = ap is_some (h.whole ino ∙ ap (whole_said items blocks ino) e) ∙ by_generation (nat_eq value.generation 0)
    where
      by_generation : (b : Bool) → is_some (cond b None (Some (Rattle.log_image.specs.LogItems.whole_by_mode items blocks ino value))) ≡ not b
      by_generation true = refl
      by_generation false = refl
