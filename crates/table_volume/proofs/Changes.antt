-- Changes of one name and of one inode, and one change behind another.
use Rattle.std.proofs.Common.{◌≡◌, ◌≢◌, ◌∙◌, ℕ, Bool, false, List, [], ◌∷◌, ◌++◌, Some, refl, sym, ap, subst, inl, inr, arith}
use Rattle.std.specs.Prelude.{All, Contains, filter}
use Rattle.std.specs.FinMap.{get, insert, remove}
use Rattle.std.proofs.lemmas.Bool.{cases_eq}
use Rattle.std.proofs.lemmas.List.Elements.{All-contains_itself, All-head, All-weaker, Contains-append_left, Contains-append_right}
use Rattle.flat_model.specs.Names.{FlatName, add_name, is_same_name, remove_name}
use Rattle.flat_model.specs.Operations.{with_record}
use Rattle.flat_model.specs.Records.{InodeRecord}
use Rattle.flat_model.specs.Volume.{Subvolume}
use Rattle.flat_model.proofs.Maps.{get_insert_other, get_insert_same, get_remove_other}
use Rattle.flat_model.proofs.NameSets.{filter_add_other, filter_remove_other, is_same_name_false, is_same_name_itself}
use Rattle.tree_range.proofs.Rise.{All-left, All-right}
use Rattle.volume_image.specs.Subvolume.{entry_kind_of}
use Rattle.volume_image.proofs.Members.{filter_in, in_filter}
use Rattle.table_volume.specs.Keyed.{ChangesOnly}

pub name_added : (sub : Subvolume) (name : FlatName) → ChangesOnly sub (record sub { names = add_name name sub.names }) (name ∷ []) []
name_added sub name = record {
  names_stay = λ p none. filter_add_other p name sub.names (All-head (λ (n : FlatName). p n ≡ false) name [] none);
  inodes_stay = λ ino out. refl;
  kinds_stay = λ other before after out. refl;
}

pub name_removed : (sub : Subvolume) (name : FlatName) → ChangesOnly sub (record sub { names = remove_name name sub.names }) (name ∷ []) []
name_removed sub name = record {
  names_stay = λ p none. filter_remove_other p name sub.names (All-head (λ (n : FlatName). p n ≡ false) name [] none);
  inodes_stay = λ ino out. refl;
  kinds_stay = λ other before after out. refl;
}

outside : (ino other : ℕ) → (Contains (ino ∷ []) other → ⊥) → other ≢ ino
outside ino other out same = out (0, omega arith, sym same)

pub record_written : (sub : Subvolume) (ino : ℕ) (inode : InodeRecord) → ((name : FlatName) → Contains sub.names name → name.ino ≡ ino → entry_kind_of (Some inode) ≡ entry_kind_of (get sub.inodes ino)) → ChangesOnly sub (with_record sub ino inode) [] (ino ∷ [])
record_written sub ino inode kinds = record {
  names_stay = λ p none. refl;
  inodes_stay = λ other out. get_insert_other sub.inodes ino inode other (outside ino other out);
  kinds_stay = λ name before after out. elim (cases_eq name.ino ino) [
    | inl same ↦ subst (λ (n : ℕ). entry_kind_of (get (insert sub.inodes ino inode) n) ≡ entry_kind_of (get sub.inodes n)) (sym same) (ap entry_kind_of (get_insert_same sub.inodes ino inode) ∙ kinds name before same)
    | inr other ↦ ap entry_kind_of (get_insert_other sub.inodes ino inode name.ino other)
  ];
}

pub inode_removed : (sub : Subvolume) (ino : ℕ) → ((name : FlatName) → Contains sub.names name → name.ino ≢ ino) → ChangesOnly sub (record sub { inodes = remove sub.inodes ino }) [] (ino ∷ [])
inode_removed sub ino none_leads = record {
  names_stay = λ p none. refl;
  inodes_stay = λ other out. get_remove_other sub.inodes ino other (outside ino other out);
  kinds_stay = λ name before after out. ap entry_kind_of (get_remove_other sub.inodes ino name.ino (none_leads name before));
}

-- a name that a change doesn't name stays
stays_there : (old new : Subvolume) (names : List FlatName) (inos : List ℕ) (name : FlatName) → ChangesOnly old new names inos → (Contains names name → ⊥) → Contains old.names name → Contains new.names name
stays_there old new names inos name changes out there =
    let p : FlatName → Bool = λ other. is_same_name name other in
    let none : All (λ other. p other ≡ false) names = All-weaker (Contains names) (λ (other : FlatName). p other ≡ false) (λ other changed. is_same_name_false name other (λ same. out (subst (λ (n : FlatName). Contains names n) (sym same) changed))) names (All-contains_itself names) in
    let kept : Contains (filter p old.names) name = filter_in p old.names name there (is_same_name_itself name) in
    (in_filter p new.names name (subst (λ (l : List FlatName). Contains l name) (sym (changes.names_stay p none)) kept)).0

pub changes_join : (first middle last : Subvolume) (names more_names : List FlatName) (inos more_inos : List ℕ) → ChangesOnly first middle names inos → ChangesOnly middle last more_names more_inos → ChangesOnly first last (names ++ more_names) (inos ++ more_inos)
changes_join first middle last names more_names inos more_inos one two = record {
  names_stay = λ p none. two.names_stay p (All-right (λ (n : FlatName). p n ≡ false) names more_names none) ∙ one.names_stay p (All-left (λ (n : FlatName). p n ≡ false) names more_names none);
  inodes_stay = λ ino out. two.inodes_stay ino (λ there. out (Contains-append_right inos more_inos ino there)) ∙ one.inodes_stay ino (λ there. out (Contains-append_left inos more_inos ino there));
  kinds_stay = λ name before after out.
      let early : Contains names name → ⊥ = λ there. out (Contains-append_left names more_names name there) in
      let late : Contains more_names name → ⊥ = λ there. out (Contains-append_right names more_names name there) in
      let between : Contains middle.names name = stays_there first middle names inos name one early before in
      two.kinds_stay name between after late ∙ one.kinds_stay name before between early;
}
