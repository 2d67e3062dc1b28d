-- Ways up from directories to the root: there is one of each, and no name stands twice in it.
use Rattle.std.proofs.Common.{◌≡◌, ◌≢◌, ◌<◌, ◌≤◌, ℕ, suc, true, List, [], ◌∷◌, length, Contains, Option, Some, None, refl, sym, ap, subst, ◌∙◌, inl, inr, arith}
use Rattle.std.specs.FinMap.{get}
use Rattle.std.proofs.lemmas.Bool.{eq-eqb, true≢false}
use Rattle.flat_model.specs.Coherent.{IsCoherent, LeadsUp}
use Rattle.flat_model.specs.Names.{FlatName, leads_to, links_of, names_of}
use Rattle.flat_model.specs.Records.{InodeRecord, DirInode, FileInode, LinkInode}
use Rattle.flat_model.specs.Volume.{Subvolume, is_dir_at, is_dir_there}
use Rattle.image_faults.specs.Faulty.{StandOnce}
use Rattle.image_faults.specs.Lists.{fewer, one_member}
use Rattle.volume_image.proofs.Lists.{in_nothing, in_cons}
use Rattle.volume_image.proofs.Members.{filter_in}

module _ (sub : Subvolume) (whole : IsCoherent sub) where
  -- a directory that isn't the root has one name
  one_link : (dir : ℕ) → is_dir_at sub dir ≡ true → dir ≢ 256 → links_of sub.names dir ≡ 1
  one_link dir is other = go (get sub.inodes dir) refl is
    where
      go : (o : Option InodeRecord) → get sub.inodes dir ≡ o → is_dir_there o ≡ true → links_of sub.names dir ≡ 1
      go None there is = absurd (true≢false (sym is))
      go (Some (FileInode file)) there is = absurd (true≢false (sym is))
      go (Some (DirInode found)) there is = whole.link_counts dir (DirInode found) there other
      go (Some (LinkInode link)) there is = absurd (true≢false (sym is))

  same_name : (dir : ℕ) (one two : FlatName) → is_dir_at sub dir ≡ true → Contains sub.names one → Contains sub.names two → one.ino ≡ dir → two.ino ≡ dir → one ≡ two
  same_name dir one two is c d first second =
      one_member (names_of sub.names dir) one two (one_link dir is (λ root. whole.root_has_no_name one c (first ∙ root)))
      (filter_in (leads_to dir) sub.names one c (eq-eqb one.ino dir first)) (filter_in (leads_to dir) sub.names two d (eq-eqb two.ino dir second))

  same_way : (dir : ℕ) (one two : List FlatName) → LeadsUp sub.names dir one → LeadsUp sub.names dir two → is_dir_at sub dir ≡ true → one ≡ two
  same_way dir [] [] first second is = refl
  same_way dir [] (name ∷ two) first (there, up, rest) is = absurd (whole.root_has_no_name name there (up ∙ first))
  same_way dir (name ∷ one) [] (there, up, rest) second is = absurd (whole.root_has_no_name name there (up ∙ second))
  same_way dir (name ∷ one) (other ∷ two) (there, up, rest) (there_too, up_too, rest_too) is =
      let same = same_name dir name other is there there_too up up_too in
      let behind = same_way name.dir one two rest (subst (λ (x : FlatName). LeadsUp sub.names x.dir two) (sym same) rest_too) (whole.stands_in_dir name there) in
      λ i. same i ∷ behind i

  -- what is behind a name of a way
  behind_name : (dir : ℕ) (way : List FlatName) (name : FlatName) → LeadsUp sub.names dir way → Contains way name → (rest : List FlatName) × LeadsUp sub.names name.dir rest × (length rest < length way)
  behind_name dir [] name up c = absurd (in_nothing name c)
  behind_name dir (first ∷ way) name (there, up, rest) c = elim (in_cons first name way c) [
    | inl here ↦ (way, subst (λ (x : FlatName). LeadsUp sub.names x.dir way) here rest, omega arith)
    | inr later ↦ let more = behind_name first.dir way name rest later in let less = more.2 in (more.0, more.1, omega (arith, less))
  ]

  not_behind : (name : FlatName) (way : List FlatName) → Contains sub.names name → LeadsUp sub.names name.dir way → Contains way name → ⊥
  not_behind name way there up c =
      let more = behind_name name.dir way name up c in
      let same = same_way name.dir way more.0 up more.1 (whole.stands_in_dir name there) in
      let less = more.2 in
      let long = ap length same in
      omega (arith, less, long)

  once : (dir : ℕ) (way : List FlatName) → LeadsUp sub.names dir way → StandOnce way
  once dir [] up = tt
  once dir (name ∷ way) (there, up, rest) = (not_behind name way there rest, once name.dir way rest)

  all_there : (dir : ℕ) (way : List FlatName) → LeadsUp sub.names dir way → (name : FlatName) → Contains way name → Contains sub.names name
  all_there dir [] up name c = absurd (in_nothing name c)
  all_there dir (first ∷ way) (there, up, rest) name c = elim (in_cons first name way c) [
    | inl here ↦ subst (Contains sub.names) here there
    | inr later ↦ all_there first.dir way rest name later
  ]

  -- so a way has no more names than the subvolume
  pub way_fits : (name : FlatName) (way : List FlatName) → Contains sub.names name → LeadsUp sub.names name.dir way → suc (length way) ≤ length sub.names
  way_fits name way there up =
      fewer (name ∷ way) sub.names (not_behind name way there up, once name.dir way up)
      (λ x c. elim (in_cons name x way c) [
        | inl here ↦ subst (Contains sub.names) here there
        | inr later ↦ all_there name.dir way up x later
      ])
