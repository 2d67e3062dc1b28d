-- A superblock is read exactly where it is one.
use Rattle.std.proofs.Common.{◌≡◌, inl, inr, ◌*◌, ◌/◌, ◌%◌, ℕ, true, false, not, ◌&&◌, ◌||◌, nat_lt, ◌==◌, List, Ok, refl, ap, ◌∙◌, arith}
use Rattle.std.proofs.lemmas.Bool.{and_parts, and_from, and_left, and_right, or_parts, or_from, cases_Bool, eqb-true, eqb-false, ltb-true, ltb-false, leb-true, lt-ltb, le-leb, le-ltb, eq-eqb, ne_eqb, not-true, not-false, not_from_true, not_from_false}
use Rattle.std.proofs.lemmas.Slice.Eq.{bytes_eq-Decides}
use Rattle.blk_base.specs.Address.{IsAllowed, is_allowed}
use Rattle.blk_base.specs.Bytes.{field}
use Rattle.blk_base.specs.Crc.{block_sum}
use Rattle.blk_base.specs.Superblock.{SuperValue, IsSuper, IsProfile, super_of, super_value, is_profile, is_size, profile_flags}
use Rattle.format_laws.specs.Checks.{passed, passes, found_none, finds_none, same_ok}

-- ---- addresses

pub IsAllowed-from_test : (blocks at : ℕ) → is_allowed blocks at ≡ true → IsAllowed blocks at
IsAllowed-from_test blocks at h =
    let p = and_parts _ _ h in
    let q = and_parts _ _ p.0 in
    let r = and_parts _ _ q.0 in
    record {
      aligned = eqb-true _ _ r.0;
      inside = ltb-true _ _ r.1;
      behind_super = leb-true _ _ q.1;
      no_copy = eqb-false _ _ (not-true _ p.1);
    }

pub is_allowed-true : (blocks at : ℕ) → IsAllowed blocks at → is_allowed blocks at ≡ true
is_allowed-true blocks at a =
    and_from _ _ (and_from _ _ (and_from _ _ (eq-eqb _ _ a.aligned) (lt-ltb _ _ a.inside)) (le-leb _ _ a.behind_super)) (not_from_false _ (ne_eqb _ _ a.no_copy))

-- ---- the fields that say which kind of volume it is

-- those of them that aren't the magic and the sum
record HasProfile (bytes : List ℕ) : Type 0 where
  sum_kind : field 2 bytes 0xc4 ≡ 0
  own_address : field 8 bytes 0x30 ≡ 65536
  devices : field 8 bytes 0x88 ≡ 1
  sector_size : field 4 bytes 0x90 ≡ 4096
  node_size : field 4 bytes 0x94 ≡ 4096
  flags : field 8 bytes 0xbc ≡ profile_flags
  chunk_root : field 8 bytes 0x58 ≡ 0
  chunk_array : field 4 bytes 0xa0 ≡ 0

HasProfile-from_test : (bytes : List ℕ) → is_profile bytes ≡ true → HasProfile bytes
HasProfile-from_test bytes h =
    let a = and_parts _ _ h in
    let b = and_parts _ _ a.0 in
    let c = and_parts _ _ b.0 in
    let d = and_parts _ _ c.0 in
    let e = and_parts _ _ d.0 in
    let f = and_parts _ _ e.0 in
    let g = and_parts _ _ f.0 in
    record {
      sum_kind = eqb-true _ _ g.0;
      own_address = eqb-true _ _ g.1;
      devices = eqb-true _ _ f.1;
      sector_size = eqb-true _ _ e.1;
      node_size = eqb-true _ _ d.1;
      flags = eqb-true _ _ c.1;
      chunk_root = eqb-true _ _ b.1;
      chunk_array = eqb-true _ _ a.1;
    }

is_profile-true : (bytes : List ℕ) → IsProfile bytes → is_profile bytes ≡ true
is_profile-true bytes p = rw (p.sum_kind, p.own_address, p.devices, p.sector_size, p.node_size, p.flags, p.chunk_root, p.chunk_array) refl

-- ---- the whole

sum-true : (bytes : List ℕ) → field 2 bytes 0xc4 ≡ 0 → ((field 2 bytes 0xc4 == 0) && not (field 4 bytes 0 == block_sum bytes)) ≡ false → field 4 bytes 0 ≡ block_sum bytes
sum-true bytes e h =
    let kind = eq-eqb (field 2 bytes 0xc4) 0 e in
    let differs = rw kind at h in
    eqb-true _ _ (not-false _ differs)

-- a multiple of 4096
whole_blocks : (n : ℕ) → n % 4096 ≡ 0 → n ≡ n / 4096 * 4096
whole_blocks n h = omega arith

blocks_of : (n blocks : ℕ) → n ≡ blocks * 4096 → (n % 4096 ≡ 0) × (n / 4096 ≡ blocks)
blocks_of n blocks h = (omega arith, omega arith)

pub IsSuper-from_read : (bytes : List ℕ) (disk_blocks : ℕ) (v : SuperValue) → super_of bytes disk_blocks ≡ Ok v → IsSuper bytes disk_blocks v
unfolding super_of
IsSuper-from_read bytes disk_blocks v h =
    let a = passed _ _ _ _ h in
    let b = found_none _ _ _ _ a.1 in
    let c = passed _ _ _ _ b.1 in
    let d = passed _ _ _ _ c.1 in
    let e = passed _ _ _ _ d.1 in
    let f = found_none _ _ _ _ e.1 in
    let g = found_none _ _ _ _ f.1 in
    let profile = HasProfile-from_test bytes c.0 in
    let size = and_parts _ _ d.0 in
    let size2 = and_parts _ _ size.0 in
    let size3 = and_parts _ _ size2.0 in
    let whole = eqb-true _ _ size3.0 in
    let log = or_parts _ _ g.0 in
    let s : IsSuper bytes disk_blocks (super_value bytes) = record {
      profile = record {
        magic = (bytes_eq-Decides _ _).0 a.0;
        sum_kind = profile.sum_kind;
        sum = sum-true bytes profile.sum_kind b.0;
        own_address = profile.own_address;
        devices = profile.devices;
        sector_size = profile.sector_size;
        node_size = profile.node_size;
        flags = profile.flags;
        chunk_root = profile.chunk_root;
        chunk_array = profile.chunk_array;
      };
      fsid = refl;
      generation = refl;
      root = refl;
      log_root = refl;
      size = whole_blocks _ whole;
      used = refl;
      root_level = refl;
      log_root_level = refl;
      smallest = leb-true _ _ size3.1;
      greatest = leb-true _ _ size2.1;
      on_disk = leb-true _ _ size.1;
      allowed = IsAllowed-from_test _ _ e.0;
      low = ltb-false _ _ f.0;
      log_low = ltb-false _ _ log.0;
      no_log = λ z. no_level _ _ log.1 z;
    } in
    rw (same_ok g.1) at s
  where
    no_level : (at level : ℕ) → ((at == 0) && not (level == 0)) ≡ false → at ≡ 0 → level ≡ 0
    no_level at level h z =
        let none = eq-eqb at 0 z in
        let differs = rw none at h in
        eqb-true _ _ (not-false _ differs)

pub super_of-Ok : (bytes : List ℕ) (disk_blocks : ℕ) (v : SuperValue) → IsSuper bytes disk_blocks v → super_of bytes disk_blocks ≡ Ok v
unfolding super_of
super_of-Ok bytes disk_blocks v s =
    let size = blocks_of _ _ s.size in
    let value : super_value bytes ≡ v =
    rw (s.fsid, s.generation, s.root, s.root_level, s.log_root, s.log_root_level, size.1, s.used) refl in
    let t = rw (← value) at s in
    let a = (bytes_eq-Decides _ _).1 s.profile.magic in
    let b : ((field 2 bytes 0xc4 == 0) && not (field 4 bytes 0 == block_sum bytes)) ≡ false =
    and_right _ _ (not_from_true _ (eq-eqb _ _ s.profile.sum)) in
    let c = is_profile-true bytes s.profile in
    let d : is_size (field 8 bytes 0x70) disk_blocks ≡ true =
    and_from _ _ (and_from _ _ (and_from _ _ (eq-eqb _ _ size.0) (le-leb _ _ t.smallest)) (le-leb _ _ t.greatest)) (le-leb _ _ t.on_disk) in
    let e = is_allowed-true _ _ t.allowed in
    let f : nat_lt 7 (field 1 bytes 0xc6) ≡ false = le-ltb _ _ t.low in
    let g : (nat_lt 7 (field 1 bytes 0xc8) || ((field 8 bytes 0x60 == 0) && not (field 1 bytes 0xc8 == 0))) ≡ false =
    or_from _ _ (le-ltb _ _ t.log_low) (no_bad_level _ _ t.no_log) in
    passes _ _ _ a ∙ finds_none _ _ _ b ∙ passes _ _ _ c ∙ passes _ _ _ d ∙ passes _ _ _ e ∙ finds_none _ _ _ f ∙ finds_none _ _ _ g ∙ ap Ok value
  where
    no_bad_level : (at level : ℕ) → (at ≡ 0 → level ≡ 0) → ((at == 0) && not (level == 0)) ≡ false
    no_bad_level at level h = elim (cases_Bool (at == 0)) [
      | inl zero ↦ and_right _ _ (not_from_true _ (eq-eqb _ _ (h (eqb-true _ _ zero))))
      | inr more ↦ and_left _ _ more
    ]
