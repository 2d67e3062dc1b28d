-- A directory has one parent or none.
use Rattle.std.proofs.Common.{◌≡◌, ◌≢◌, ◌↔◌, ◌<◌, ◌++◌, ℕ, true, List, [], ◌∷◌, length, Contains, Option, Some, None, IsSome, option_to_list, refl, sym, ap, subst, ◌∙◌, arith, inl, inr}
use Rattle.std.specs.FinMap.{get, keys}
use Rattle.std.proofs.lemmas.Bool.{true≢false, eq-eqb}
use Rattle.std.proofs.lemmas.List.Elements.{Contains-append_right}
use Rattle.flat_model.specs.Records.{InodeRecord, FileInode, DirInode, LinkInode}
use Rattle.flat_model.specs.Names.{FlatName, leads_to, links_of, names_of}
use Rattle.flat_model.specs.Volume.{Subvolume, is_dir_at, is_dir_there}
use Rattle.flat_model.specs.Coherent.{IsCoherent}
use Rattle.flat_model.proofs.Lists.{contains_head, contains_none, contains_cases, contains_filter}
use Rattle.logged_volume.specs.Drawn.{is_parent}
use Rattle.logged_volume.proofs.Members.{key_is_in}
use Rattle.logged_volume.proofs.LeastSets.{parent_gives}
use Rattle.drawn_set.specs.Names.{AreParents, IsParentOf}

only_one : {X : Type 0} (xs : List X) (x y : X) → length xs ≡ 1 → Contains xs x → Contains xs y → x ≡ y
only_one [] x y one c d = absurd (contains_none x c)
only_one (z ∷ []) x y one c d = elim (contains_cases z [] x c) [
  | inl here ↦ elim (contains_cases z [] y d) [ inl there ↦ sym here ∙ there | inr none ↦ absurd (contains_none y none) ]
  | inr none ↦ absurd (contains_none x none)
]
only_one (z ∷ w ∷ xs) x y one c d = absurd (omega (arith, one))

same_some : {d e : ℕ} → Some d ≡ Some e → d ≡ e
same_some {d} e = ap (λ o. elim o [ None ↦ d | Some x ↦ x ]) e

module _ (sub : Subvolume) (coherent : IsCoherent sub) where
  there_dir : (dir : ℕ) (found : Option InodeRecord) → get sub.inodes dir ≡ found → is_dir_there found ≡ true → dir ≢ 256 → links_of sub.names dir ≡ 1
  there_dir dir None e t other = absurd (true≢false (sym t))
  there_dir dir (Some (FileInode file)) e t other = absurd (true≢false (sym t))
  there_dir dir (Some (DirInode record_of)) e t other = coherent.link_counts dir (DirInode record_of) e other
  there_dir dir (Some (LinkInode link)) e t other = absurd (true≢false (sym t))

  pub one_parent : (dir one two : ℕ) → is_dir_at sub dir ≡ true → is_parent sub.names dir one ≡ true → is_parent sub.names dir two ≡ true → one ≡ two
  one_parent dir one two is_dir first second =
      let a = parent_gives sub.names dir one first in
      let b = parent_gives sub.names dir two second in
      let not_root : dir ≢ 256 = λ root. coherent.root_has_no_name a.0 a.1 (a.2 ∙ root) in
      let count = there_dir dir (get sub.inodes dir) refl is_dir not_root in
      let in_names = λ (n : FlatName) (c : Contains sub.names n) (e : n.ino ≡ dir). contains_filter (leads_to dir) sub.names n (eq-eqb n.ino dir e) c in
      let same = only_one (names_of sub.names dir) a.0 b.0 count (in_names a.0 a.1 a.2) (in_names b.0 b.1 b.2) in
      sym a.3 ∙ ap (λ (n : FlatName). n.dir) same ∙ b.3

  -- the last of the parents of a directory is the one
  pub last_is_parent : (dir : ℕ) (dirs rest : List ℕ) (count : ℕ) (parent : Option ℕ) → count ≡ length dirs → is_dir_at sub dir ≡ true → AreParents sub.names dir dirs → dirs ≡ rest ++ option_to_list parent → (IsSome parent ↔ (0 < count)) → IsParentOf sub.names dir parent
  last_is_parent dir dirs rest count None counted is_dir are items some above = (
    λ t. let place = (are above).1 t in absurd (true≢false (sym (some.1 (omega (arith, counted, place.1))))),
    λ e. absurd cc,
  )
  last_is_parent dir dirs rest count (Some d) counted is_dir are items some above =
      let last = subst (λ ds. Contains ds d) (sym items) (Contains-append_right rest (d ∷ []) d (contains_head d [])) in (
        λ t. ap Some (one_parent dir d above is_dir ((are d).0 last) t),
        λ e. (are above).0 (subst (Contains dirs) (same_some e) last),
      )

pub parent_is_dir : (sub : Subvolume) → IsCoherent sub → (ino dir : ℕ) → is_parent sub.names ino dir ≡ true → is_dir_at sub dir ≡ true
parent_is_dir sub coherent ino dir t =
    let a = parent_gives sub.names ino dir t in
    subst (λ d. is_dir_at sub d ≡ true) a.3 (coherent.stands_in_dir a.0 a.1)

pub dir_is_key : (sub : Subvolume) (dir : ℕ) → is_dir_at sub dir ≡ true → Contains (keys sub.inodes) dir
dir_is_key sub dir t = found (get sub.inodes dir) refl t
  where
    found : (o : Option InodeRecord) → get sub.inodes dir ≡ o → is_dir_there o ≡ true → Contains (keys sub.inodes) dir
    found None e f = absurd (true≢false (sym f))
    found (Some inode) e f = key_is_in sub.inodes dir inode e
