-- A whole inode of the log restores the record that was logged.
use Rattle.std.proofs.Common.{◌≡◌, ℕ, ◌+◌, ◌-◌, ◌*◌, ◌<◌, ◌≤◌, true, false, cond, ◌||◌, ◌&&◌, List, ◌++◌, Option, Some, None, refl, sym, ap, subst, ◌∙◌, arith}
use Rattle.std.specs.Bool.{nat_le, nat_lt}
use Rattle.std.specs.Option.{is_some}
use Rattle.std.specs.Ordering.{nat_cmp}
use Rattle.std.specs.Cmp.{nat_cmp_total, unsigned_tied}
use Rattle.std.specs.List.{Contains}
use Rattle.std.specs.FinMap.{FinMap, get, keys, same_map, nat_cmp-IsAntisymmetric, contains_key-keys}
use Rattle.std.proofs.lemmas.Bool.{true≢false, or_cases, or_from, and_parts, and_from, leb-true, ltb-true, le-leb, lt-ltb, lt-leb, eq-eqb, cases_Bool, false_from_ne_true}
use Rattle.std.proofs.lemmas.List.Elements.{Contains-append_left, Contains-append_right}
use Rattle.flat_model.specs.Records.{Blocks, FileRecord, InodeRecord, FileInode, DirInode, LinkInode, kind_of, at_creation}
use Rattle.flat_model.specs.Contents.{block_bytes}
use Rattle.flat_model.specs.Coherent.{KeepsLimits, KeepsFileLimits, KeepsBlockLimits}
use Rattle.flat_model.proofs.Maps.{some_none}
use Rattle.logged_volume.specs.Numbers.{gaps_with}
use Rattle.logged_volume.specs.FlatLog.{FileChanges, WholeInode, WholeFile, WholeDir, WholeLink}
use Rattle.logged_volume.specs.Replay.{blocks_of, is_in_hole, replayed_block, replayed_inode}
use Rattle.logged_volume.specs.Accepted.{kind_of_whole, KeepsWholeLimits}
use Rattle.logged_volume.specs.Written.{blocks_in, holes_of, IsChangesOf, IsWholeOf}
use Rattle.logged_volume.proofs.Members.{any_from, any_gives, key_is_in, get_map_of_all}
use Rattle.logged_volume.proofs.Gaps.{map_has, map_gives, gaps_with_has, gaps_with_lacks}

pub key_has : {A : Type 0} (m : FinMap nat_cmp A) (q : ℕ) → Contains (keys m) q → (x : A) × (get m q ≡ Some x)
key_has m q c =
    given (get m q) (contains_key-keys m q ∙ any_from (λ k. Rattle.std.specs.Ordering.eq_by_cmp nat_cmp q k) (keys m) q c (unsigned_tied q q ∙ eq-eqb q q refl))
  where
    given : {A : Type 0} (o : Option A) → is_some o ≡ true → (x : A) × (o ≡ Some x)
    given None t = absurd (true≢false (sym t))
    given (Some x) t = (x, refl)

module _ (old : Blocks) (file : FileRecord) (changes : FileChanges) (is : IsChangesOf old file changes) (keeps : KeepsFileLimits file) where
  -- a block below the size that the record lacks and C has lies in a hole
  hole_has : (number : ℕ) (bytes : List ℕ) → get file.blocks number ≡ None → get old number ≡ Some bytes → number * block_bytes < file.size → is_in_hole changes.holes number ≡ true
  hole_has number bytes none there below =
      let found = gaps_with_has (keys file.blocks) (keys old) (blocks_in file.size) number (omega arith)
      (λ c. let has = key_has file.blocks number c in some_none has.0 (sym has.1 ∙ none))
      (key_is_in old number bytes there) in
      let from = found.2 in
      let to = found.3 in
      subst (λ holes. is_in_hole holes number ≡ true) (sym is.holes)
      (any_from (λ (hole : ℕ × ℕ). nat_le hole.0 number && nat_lt number (hole.0 + hole.1)) (holes_of old file) (found.0.0, found.0.1 - found.0.0)
      (map_has (λ (gap : ℕ × ℕ). (gap.0, gap.1 - gap.0)) (gaps_with (keys file.blocks) (keys old) (blocks_in file.size)) found.0 found.1)
      (and_from _ _ (le-leb found.0.0 number from) (lt-ltb number (found.0.0 + (found.0.1 - found.0.0)) (omega arith))))

  -- in a hole lies no block of the record
  hole_lacks : (number : ℕ) (bytes : List ℕ) → is_in_hole changes.holes number ≡ true → get file.blocks number ≡ Some bytes → ⊥
  hole_lacks number bytes t there =
      let found = any_gives (λ (hole : ℕ × ℕ). nat_le hole.0 number && nat_lt number (hole.0 + hole.1)) (holes_of old file) (subst (λ holes. is_in_hole holes number ≡ true) is.holes t) in
      let gap = map_gives (λ (gap : ℕ × ℕ). (gap.0, gap.1 - gap.0)) (gaps_with (keys file.blocks) (keys old) (blocks_in file.size)) found.0 found.1 in
      let parts = and_parts _ _ found.2 in
      let first : gap.0.0 ≡ found.0.0 = ap (λ (g : ℕ × ℕ). g.0) gap.2 in
      let count : gap.0.1 - gap.0.0 ≡ found.0.1 = ap (λ (g : ℕ × ℕ). g.1) gap.2 in
      let from = leb-true found.0.0 number parts.0 in
      let to = ltb-true number (found.0.0 + found.0.1) parts.1 in
      gaps_with_lacks (keys file.blocks) (keys old) (blocks_in file.size) number gap.0 gap.1 (omega arith) (omega arith) (key_is_in file.blocks number bytes there)

  -- a block that the log doesn't bring is C's where the record has it, and none where it doesn't
  left_block : (number : ℕ) → get changes.blocks number ≡ None → cond (is_in_hole changes.holes number || nat_le changes.size (number * block_bytes)) None (get old number) ≡ get file.blocks number
  left_block number unbrought =
      elim (get file.blocks number) as (λ o. get file.blocks number ≡ o → cond (is_in_hole changes.holes number || nat_le changes.size (number * block_bytes)) None (get old number) ≡ o) [
        | Some bytes ↦ λ there.
            let was = is.left number bytes there unbrought in
            let below = (keeps.blocks number bytes there).begins_below_size in
            let size = is.size in
            let no_cause : (is_in_hole changes.holes number || nat_le changes.size (number * block_bytes)) ≡ false =
            or_from _ _ (false_from_ne_true _ (λ t. hole_lacks number bytes t there)) (lt-leb changes.size (number * block_bytes) (omega arith)) in
            ap (λ b. cond b None (get old number)) no_cause ∙ was
        | None ↦ λ none.
            elim (is_in_hole changes.holes number || nat_le changes.size (number * block_bytes)) as (λ b. (is_in_hole changes.holes number || nat_le changes.size (number * block_bytes)) ≡ b → cond b None (get old number) ≡ None) [
              | true ↦ λ _. refl
              | false ↦ λ f. elim (get old number) as (λ o. get old number ≡ o → o ≡ None) [
                | None ↦ λ _. refl
                | Some bytes ↦ λ was.
                    let parts = Rattle.std.proofs.lemmas.Bool.or_parts _ _ f in
                    let size = is.size in
                    let below = Rattle.std.proofs.lemmas.Bool.leb-false changes.size (number * block_bytes) parts.1 in
                    absurd (true≢false (sym (hole_has number bytes none was (omega arith)) ∙ parts.0))
              ] refl
            ] refl
      ] refl

  block_restored : (number : ℕ) → replayed_block old changes number ≡ get file.blocks number
  block_restored number =
      elim (get changes.blocks number) as (λ o. get changes.blocks number ≡ o → (elim o [ None ↦ cond (is_in_hole changes.holes number || nat_le changes.size (number * block_bytes)) None (get old number) | Some bytes ↦ Some bytes ]) ≡ get file.blocks number) [
        | None ↦ left_block number
        | Some bytes ↦ λ brought. sym (is.brought number bytes brought)
      ] refl

  block_only : (number : ℕ) (bytes : List ℕ) → replayed_block old changes number ≡ Some bytes → Contains (keys changes.blocks ++ keys old) number
  block_only number bytes e =
      elim (get changes.blocks number) as (λ o. get changes.blocks number ≡ o → (elim o [ None ↦ cond (is_in_hole changes.holes number || nat_le changes.size (number * block_bytes)) None (get old number) | Some bytes ↦ Some bytes ]) ≡ Some bytes → Contains (keys changes.blocks ++ keys old) number) [
        | Some brought ↦ λ there _. Contains-append_left (keys changes.blocks) (keys old) number (key_is_in changes.blocks number brought there)
        | None ↦ λ _ s. elim (is_in_hole changes.holes number || nat_le changes.size (number * block_bytes)) as (λ b. cond b None (get old number) ≡ Some bytes → Contains (keys changes.blocks ++ keys old) number) [
          | true ↦ λ t. absurd (some_none bytes (sym t))
          | false ↦ λ t. Contains-append_right (keys changes.blocks) (keys old) number (key_is_in old number bytes t)
        ] s
      ] refl e

  pub blocks_restored : Rattle.logged_volume.specs.Numbers.map_of (keys changes.blocks ++ keys old) (replayed_block old changes) ≡ file.blocks
  blocks_restored =
      same_map nat_cmp_total nat_cmp-IsAntisymmetric _ file.blocks
      (λ number. get_map_of_all (keys changes.blocks ++ keys old) (replayed_block old changes) block_only number ∙ block_restored number)

-- what replay makes of a whole inode is the record that was logged
pub whole_restored : (was : Option InodeRecord) (inode : InodeRecord) (whole : WholeInode) → IsWholeOf was inode whole → KeepsLimits inode → replayed_inode was whole ≡ inode
unfolding replayed_inode
whole_restored was (FileInode file) (WholeFile changes) is keeps =
    let blocks = blocks_restored (blocks_of was) file changes is keeps.kind in
    λ i. FileInode (record { attributes = is.attributes i; size = is.size i; blocks = blocks i })
whole_restored was (FileInode file) (WholeDir dir) is keeps = absurd is
whole_restored was (FileInode file) (WholeLink link) is keeps = absurd is
whole_restored was (DirInode dir) (WholeFile changes) is keeps = absurd is
whole_restored was (DirInode dir) (WholeDir whole) is keeps = ap DirInode is
whole_restored was (DirInode dir) (WholeLink link) is keeps = absurd is
whole_restored was (LinkInode link) (WholeFile changes) is keeps = absurd is
whole_restored was (LinkInode link) (WholeDir dir) is keeps = absurd is
whole_restored was (LinkInode link) (WholeLink whole) is keeps = ap LinkInode is

-- it is of the record's kind
pub whole_kind : (was : Option InodeRecord) (inode : InodeRecord) (whole : WholeInode) → IsWholeOf was inode whole → kind_of inode ≡ kind_of_whole whole
whole_kind was (FileInode file) (WholeFile changes) is = refl
whole_kind was (FileInode file) (WholeDir dir) is = absurd is
whole_kind was (FileInode file) (WholeLink link) is = absurd is
whole_kind was (DirInode dir) (WholeFile changes) is = absurd is
whole_kind was (DirInode dir) (WholeDir whole) is = refl
whole_kind was (DirInode dir) (WholeLink link) is = absurd is
whole_kind was (LinkInode link) (WholeFile changes) is = absurd is
whole_kind was (LinkInode link) (WholeDir dir) is = absurd is
whole_kind was (LinkInode link) (WholeLink whole) is = refl

-- and it keeps its limits
pub whole_limits : (was : Option InodeRecord) (inode : InodeRecord) (whole : WholeInode) → IsWholeOf was inode whole → KeepsLimits inode → KeepsWholeLimits whole
whole_limits was (FileInode file) (WholeFile changes) is keeps =
    let limits = keeps.kind in (
      subst Rattle.flat_model.specs.Coherent.KeepAttributeLimits (sym is.attributes) keeps.attributes,
      record {
        size = subst (λ s. s ≤ Rattle.flat_model.specs.Contents.most_file_bytes) (sym is.size) limits.size;
        blocks = λ number bytes e. subst (λ s. KeepsBlockLimits s number bytes) (sym is.size) (limits.blocks number bytes (is.brought number bytes e));
      },
    )
whole_limits was (FileInode file) (WholeDir dir) is keeps = absurd is
whole_limits was (FileInode file) (WholeLink link) is keeps = absurd is
whole_limits was (DirInode dir) (WholeFile changes) is keeps = absurd is
whole_limits was (DirInode dir) (WholeDir whole) is keeps = subst (λ d. Rattle.flat_model.specs.Coherent.KeepAttributeLimits d.attributes) (sym is) keeps.attributes
whole_limits was (DirInode dir) (WholeLink link) is keeps = absurd is
whole_limits was (LinkInode link) (WholeFile changes) is keeps = absurd is
whole_limits was (LinkInode link) (WholeDir dir) is keeps = absurd is
whole_limits was (LinkInode link) (WholeLink whole) is keeps =
    subst (λ l. Rattle.flat_model.specs.Coherent.KeepAttributeLimits l.attributes × Rattle.flat_model.specs.Coherent.KeepsLinkLimits l) (sym is) (keeps.attributes, keeps.kind)

pub creation_twice : (inode : InodeRecord) → at_creation (at_creation inode) ≡ at_creation inode
creation_twice (FileInode file) = refl
creation_twice (DirInode dir) = refl
creation_twice (LinkInode link) = refl
