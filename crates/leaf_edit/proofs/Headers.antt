-- The header of a block, field by field.
use Rattle.std.proofs.Common.{◌≡◌, ◌≤◌, ◌<◌, ◌+◌, ◌%◌, ◌^◌, ℕ, List, [], ◌∷◌, ◌++◌, length, take, drop, refl, ap, arith, ◌∙◌, sym, length-append, append_assoc}
use Rattle.std.proofs.lemmas.List.{take_at}
use Rattle.blk_base.specs.declared.key.Want.{Want}
use Rattle.blk_base.specs.Bytes.{field, bytes_at, with_bytes, number_bytes, zeros}
use Rattle.blk_base.specs.Crc.{block_sum, crc32c_of}
use Rattle.blk_base.specs.Leaf.{header_fields, count_of}
use Rattle.blk_base.specs.Superblock.{with_fields}
use Rattle.leaf_edit.proofs.Sealing.{HasFields, IsSealed}
use Rattle.leaf_edit.specs.Fronts.{behind, number_reads_back}
use Rattle.leaf_edit.specs.Parts.{part_in_front, part_in_back, back_in_back, field_part, take-with_bytes, drop-with_bytes, drop-with_bytes_here, length-with_bytes, with_bytes-with_bytes, three_writes}

-- the writes, one right behind the other up to byte 96, and the level
pub record Writes (b0 b1 b2 b3 b4 b5 b6 b7 b8 z i a f u g o l : List ℕ) : Type 0 where
  pub long : length b0 ≡ 4096
  pub long_z : length z ≡ 28
  pub long_i : length i ≡ 16
  pub long_a : length a ≡ 8
  pub long_f : length f ≡ 8
  pub long_u : length u ≡ 16
  pub long_g : length g ≡ 8
  pub long_o : length o ≡ 8
  pub long_l : length l ≡ 1
  pub w1 : b1 ≡ with_bytes b0 4 z
  pub w2 : b2 ≡ with_bytes b1 32 i
  pub w3 : b3 ≡ with_bytes b2 48 a
  pub w4 : b4 ≡ with_bytes b3 56 f
  pub w5 : b5 ≡ with_bytes b4 64 u
  pub w6 : b6 ≡ with_bytes b5 80 g
  pub w7 : b7 ≡ with_bytes b6 88 o
  pub w8 : b8 ≡ with_bytes b7 100 l

module _ (b0 b1 b2 b3 b4 b5 b6 b7 b8 z i a f u g o l : List ℕ) (h : Writes b0 b1 b2 b3 b4 b5 b6 b7 b8 z i a f u g o l) where
  abbrev front : List ℕ
  front = z ++ i ++ a

  abbrev middle : List ℕ
  middle = f ++ u ++ g

  long_front : length front ≡ 52
  long_front = let p = h.long_z in let q = h.long_i in let r = h.long_a in omega (arith, length-append (z ++ i) a, length-append z i)

  long_middle : length middle ≡ 32
  long_middle = let p = h.long_f in let q = h.long_u in let r = h.long_g in omega (arith, length-append (f ++ u) g, length-append f u)

  first : b3 ≡ with_bytes b0 4 front
  first = let n = h.long in let p = h.long_z in let q = h.long_i in let r = h.long_a in three_writes b0 b1 b2 b3 4 32 48 z i a h.w1 h.w2 h.w3 (omega arith) (omega arith) (omega arith)

  long3 : length b3 ≡ 4096
  long3 = let n = h.long in rw first (length-with_bytes b0 4 front (omega (arith, long_front)) ∙ n)

  second : b6 ≡ with_bytes b3 56 middle
  second = let p = h.long_f in let q = h.long_u in let r = h.long_g in three_writes b3 b4 b5 b6 56 64 80 f u g h.w4 h.w5 h.w6 (omega arith) (omega arith) (omega (arith, long3))

  both : b6 ≡ with_bytes b0 4 (front ++ middle)
  both = let n = h.long in second ∙ ap (λ b. with_bytes b 56 middle) first ∙ with_bytes-with_bytes b0 4 56 front middle (omega (arith, long_front)) (omega (arith, long_front, long_middle))

  long_both : length (front ++ middle) ≡ 84
  long_both = omega (arith, length-append front middle, long_front, long_middle)

  all : b7 ≡ with_bytes b0 4 ((front ++ middle) ++ o)
  all = let n = h.long in let p = h.long_o in h.w7 ∙ ap (λ b. with_bytes b 88 o) both ∙ with_bytes-with_bytes b0 4 88 (front ++ middle) o (omega (arith, long_both)) (omega (arith, long_both))

  long_all : length ((front ++ middle) ++ o) ≡ 92
  long_all = let p = h.long_o in omega (arith, length-append (front ++ middle) o, long_both)

  abbrev rest : List ℕ
  rest = drop (4 + length ((front ++ middle) ++ o)) b0

  at4 : drop 4 b7 ≡ z ++ (i ++ (a ++ (f ++ (u ++ (g ++ (o ++ rest))))))
  at4 = let n = h.long in ap (drop 4) all ∙ drop-with_bytes_here b0 4 ((front ++ middle) ++ o) (omega arith) ∙ simp append_assoc

  at32 : drop 32 b7 ≡ i ++ (a ++ (f ++ (u ++ (g ++ (o ++ rest)))))
  at32 = let p = h.long_z in behind b7 4 32 z (i ++ (a ++ (f ++ (u ++ (g ++ (o ++ rest)))))) at4 (omega arith)

  at48 : drop 48 b7 ≡ a ++ (f ++ (u ++ (g ++ (o ++ rest))))
  at48 = let p = h.long_i in behind b7 32 48 i (a ++ (f ++ (u ++ (g ++ (o ++ rest))))) at32 (omega arith)

  at56 : drop 56 b7 ≡ f ++ (u ++ (g ++ (o ++ rest)))
  at56 = let p = h.long_a in behind b7 48 56 a (f ++ (u ++ (g ++ (o ++ rest)))) at48 (omega arith)

  at64 : drop 64 b7 ≡ u ++ (g ++ (o ++ rest))
  at64 = let p = h.long_f in behind b7 56 64 f (u ++ (g ++ (o ++ rest))) at56 (omega arith)

  at80 : drop 80 b7 ≡ g ++ (o ++ rest)
  at80 = let p = h.long_u in behind b7 64 80 u (g ++ (o ++ rest)) at64 (omega arith)

  at88 : drop 88 b7 ≡ o ++ rest
  at88 = let p = h.long_g in behind b7 80 88 g (o ++ rest) at80 (omega arith)

  long7 : length b7 ≡ 4096
  long7 = let n = h.long in rw all (length-with_bytes b0 4 ((front ++ middle) ++ o) (omega (arith, long_all)) ∙ n)

  before_level : (n p : ℕ) → p + n ≤ 100 → bytes_at n b8 p ≡ bytes_at n b7 p
  before_level n p within = part_in_front b8 b7 100 p n (ap (take 100) h.w8 ∙ take-with_bytes b7 100 l 100 (omega arith) (omega (arith, long7))) within

  pub zeros_there : bytes_at 28 b8 4 ≡ z
  zeros_there = before_level 28 4 (omega arith) ∙ ap (take 28) at4 ∙ take_at z _ 28 h.long_z

  pub fsid_there : bytes_at 16 b8 32 ≡ i
  fsid_there = before_level 16 32 (omega arith) ∙ ap (take 16) at32 ∙ take_at i _ 16 h.long_i

  pub uuid_there : bytes_at 16 b8 64 ≡ u
  uuid_there = before_level 16 64 (omega arith) ∙ ap (take 16) at64 ∙ take_at u _ 16 h.long_u

  number_there : (p v : ℕ) (back : List ℕ) → p + 8 ≤ 100 → drop p b7 ≡ number_bytes 8 v ++ back → v < 256 ^ 8 → field 8 b8 p ≡ v
  number_there p v back within is fits = field_part 8 b8 b7 p p (before_level 8 p within) ∙ number_reads_back 8 b7 p v back is fits

  pub level_there : (v : ℕ) → l ≡ v ∷ [] → field 1 b8 100 ≡ v
  unfolding field
  level_there v is =
      let whole : drop 100 b8 ≡ v ∷ drop (100 + length l) b7 = ap (drop 100) h.w8 ∙ drop-with_bytes_here b7 100 l (omega (arith, long7)) ∙ ap (λ x. x ++ drop (100 + length l) b7) is in
      rw whole (omega arith)

  pub body_there : drop 101 b8 ≡ drop 101 b0
  body_there =
      let n = h.long in
      let p = h.long_l in
      ap (drop 101) h.w8 ∙ drop-with_bytes b7 100 l 101 (omega arith) (omega (arith, long7)) ∙ ap (drop 101) all ∙ drop-with_bytes b0 4 ((front ++ middle) ++ o) 101 (omega (arith, long_all)) (omega arith)

  pub count_there : count_of b8 ≡ count_of b0
  count_there =
      let n = h.long in
      field_part 4 b8 b0 96 96 (before_level 4 96 (omega arith) ∙ ap (bytes_of 96) all ∙ part_in_back (with_bytes b0 4 ((front ++ middle) ++ o)) b0 96 96 4 (drop-with_bytes b0 4 ((front ++ middle) ++ o) 96 (omega (arith, long_all)) (omega arith)) (omega arith))
    where
      bytes_of : ℕ → List ℕ → List ℕ
      bytes_of p b = bytes_at 4 b p

pub fields_there : (b0 b1 b2 b3 b4 b5 b6 b7 b8 i : List ℕ) (address generation owner level : ℕ) → length b0 ≡ 4096 → length i ≡ 16
    → address < 2 ^ 64 → generation < 2 ^ 64 → owner < 2 ^ 64
    → b1 ≡ with_bytes b0 4 (zeros 28) → b2 ≡ with_bytes b1 32 i → b3 ≡ with_bytes b2 48 (number_bytes 8 address) → b4 ≡ with_bytes b3 56 (number_bytes 8 (1 + 2 ^ 56))
    → b5 ≡ with_bytes b4 64 (zeros 16) → b6 ≡ with_bytes b5 80 (number_bytes 8 generation) → b7 ≡ with_bytes b6 88 (number_bytes 8 owner) → b8 ≡ with_bytes b7 100 (level ∷ [])
    → HasFields i address generation owner level b0 b8
fields_there b0 b1 b2 b3 b4 b5 b6 b7 b8 i address generation owner level long long_i fits_a fits_g fits_o w1 w2 w3 w4 w5 w6 w7 w8 =
    let z = zeros 28 in
    let a = number_bytes 8 address in
    let f = number_bytes 8 (1 + 2 ^ 56) in
    let u = zeros 16 in
    let g = number_bytes 8 generation in
    let o = number_bytes 8 owner in
    let l = level ∷ [] in
    let h : Writes b0 b1 b2 b3 b4 b5 b6 b7 b8 z i a f u g o l = record {
      long = long;
      long_z = refl;
      long_i = long_i;
      long_a = refl;
      long_f = refl;
      long_u = refl;
      long_g = refl;
      long_o = refl;
      long_l = refl;
      w1 = w1;
      w2 = w2;
      w3 = w3;
      w4 = w4;
      w5 = w5;
      w6 = w6;
      w7 = w7;
      w8 = w8;
    } in record {
      has_behind_sum = zeros_there b0 b1 b2 b3 b4 b5 b6 b7 b8 z i a f u g o l h;
      has_fsid = fsid_there b0 b1 b2 b3 b4 b5 b6 b7 b8 z i a f u g o l h;
      has_address = number_there b0 b1 b2 b3 b4 b5 b6 b7 b8 z i a f u g o l h 48 address _ (omega arith) (at48 b0 b1 b2 b3 b4 b5 b6 b7 b8 z i a f u g o l h) (omega arith);
      has_flags = number_there b0 b1 b2 b3 b4 b5 b6 b7 b8 z i a f u g o l h 56 (1 + 2 ^ 56) _ (omega arith) (at56 b0 b1 b2 b3 b4 b5 b6 b7 b8 z i a f u g o l h) (omega arith);
      has_uuid = uuid_there b0 b1 b2 b3 b4 b5 b6 b7 b8 z i a f u g o l h;
      has_generation = number_there b0 b1 b2 b3 b4 b5 b6 b7 b8 z i a f u g o l h 80 generation _ (omega arith) (at80 b0 b1 b2 b3 b4 b5 b6 b7 b8 z i a f u g o l h) (omega arith);
      has_owner = number_there b0 b1 b2 b3 b4 b5 b6 b7 b8 z i a f u g o l h 88 owner _ (omega arith) (at88 b0 b1 b2 b3 b4 b5 b6 b7 b8 z i a f u g o l h) (omega arith);
      has_level = level_there b0 b1 b2 b3 b4 b5 b6 b7 b8 z i a f u g o l h level refl;
      has_count = count_there b0 b1 b2 b3 b4 b5 b6 b7 b8 z i a f u g o l h;
      has_body = body_there b0 b1 b2 b3 b4 b5 b6 b7 b8 z i a f u g o l h;
    }

-- the writes are those of the header's fields
pub fields_written : (b0 b1 b2 b3 b4 b5 b6 b7 b8 i : List ℕ) (address generation owner level : ℕ) → level < 2 ^ 8
    → b1 ≡ with_bytes b0 4 (zeros 28) → b2 ≡ with_bytes b1 32 i → b3 ≡ with_bytes b2 48 (number_bytes 8 address) → b4 ≡ with_bytes b3 56 (number_bytes 8 (1 + 2 ^ 56))
    → b5 ≡ with_bytes b4 64 (zeros 16) → b6 ≡ with_bytes b5 80 (number_bytes 8 generation) → b7 ≡ with_bytes b6 88 (number_bytes 8 owner) → b8 ≡ with_bytes b7 100 (level ∷ [])
    → b8 ≡ with_fields b0 (header_fields (record { fsid = i; at = record { 0 = address }; generation = generation; owner = owner; level = level }))
fields_written b0 b1 b2 b3 b4 b5 b6 b7 b8 i address generation owner level small w1 w2 w3 w4 w5 w6 w7 w8 =
    let byte : level % 256 ≡ level = omega arith in
    w8 ∙ ap (λ n. with_bytes b7 100 (n ∷ [])) (sym byte) ∙ ap (λ b. with_bytes b 100 (number_bytes 1 level)) (
    w7 ∙ ap (λ b. with_bytes b 88 (number_bytes 8 owner)) (
    w6 ∙ ap (λ b. with_bytes b 80 (number_bytes 8 generation)) (
    w5 ∙ ap (λ b. with_bytes b 64 (zeros 16)) (
    w4 ∙ ap (λ b. with_bytes b 56 (number_bytes 8 (1 + 2 ^ 56))) (
    w3 ∙ ap (λ b. with_bytes b 48 (number_bytes 8 address)) (w2 ∙ ap (λ b. with_bytes b 32 i) w1))))))

-- what stands in the fields that are written
pub fields_hold : (b0 b8 : List ℕ) (want : Want) → length b0 ≡ 4096 → length want.fsid ≡ 16 → want.at.0 < 2 ^ 64 → want.generation < 2 ^ 64 → want.owner < 2 ^ 64 → want.level < 2 ^ 8
    → b8 ≡ with_fields b0 (header_fields want) → HasFields want.fsid want.at.0 want.generation want.owner want.level b0 b8
fields_hold b0 b8 want long long_i fits_a fits_g fits_o fits_l written =
    let b1 = with_bytes b0 4 (zeros 28) in
    let b2 = with_bytes b1 32 want.fsid in
    let b3 = with_bytes b2 48 (number_bytes 8 want.at.0) in
    let b4 = with_bytes b3 56 (number_bytes 8 (1 + 2 ^ 56)) in
    let b5 = with_bytes b4 64 (zeros 16) in
    let b6 = with_bytes b5 80 (number_bytes 8 want.generation) in
    let b7 = with_bytes b6 88 (number_bytes 8 want.owner) in
    let byte : want.level % 256 ≡ want.level = omega arith in
    fields_there b0 b1 b2 b3 b4 b5 b6 b7 b8 want.fsid want.at.0 want.generation want.owner want.level long long_i fits_a fits_g fits_o refl refl refl refl refl refl refl (written ∙ ap (λ n. with_bytes b7 100 (n ∷ [])) byte)

-- the sum over the rest
pub has_seal : (b0 b8 b9 : List ℕ) (want : Want) (sum : ℕ) → length b8 ≡ 4096 → HasFields want.fsid want.at.0 want.generation want.owner want.level b0 b8
    → sum < 2 ^ 32 → sum ≡ block_sum b8 → b9 ≡ with_bytes b8 0 (number_bytes 4 sum) → IsSealed want b0 b9
unfolding block_sum
has_seal b0 b8 b9 want sum long h small is made =
    let back : drop 4 b9 ≡ drop 4 b8 = ap (drop 4) made ∙ drop-with_bytes b8 0 (number_bytes 4 sum) 4 (omega arith) (omega arith) in
    let part : (n p : ℕ) → 4 ≤ p → bytes_at n b9 p ≡ bytes_at n b8 p = λ n p from. part_in_back b9 b8 4 p n back from in
    let whole : drop 0 b9 ≡ number_bytes 4 sum ++ drop (0 + 4) b8 = ap (drop 0) made ∙ drop-with_bytes_here b8 0 (number_bytes 4 sum) (omega arith) in record {
      header = record {
        sum = number_reads_back 4 b9 0 sum (drop (0 + 4) b8) whole (omega arith) ∙ is ∙ ap sum_of (sym (back_in_back b9 b8 4 32 back (omega arith)));
        fsid = part 16 32 (omega arith) ∙ h.has_fsid;
        address = field_part 8 b9 b8 48 48 (part 8 48 (omega arith)) ∙ h.has_address;
        generation = field_part 8 b9 b8 80 80 (part 8 80 (omega arith)) ∙ h.has_generation;
        owner = field_part 8 b9 b8 88 88 (part 8 88 (omega arith)) ∙ h.has_owner;
        level = field_part 1 b9 b8 100 100 (part 1 100 (omega arith)) ∙ h.has_level;
      };
      behind_sum = part 28 4 (omega arith) ∙ h.has_behind_sum;
      flags = field_part 8 b9 b8 56 56 (part 8 56 (omega arith)) ∙ h.has_flags;
      uuid = part 16 64 (omega arith) ∙ h.has_uuid;
      count = field_part 4 b9 b8 96 96 (part 4 96 (omega arith)) ∙ h.has_count;
      body = back_in_back b9 b8 4 101 back (omega arith) ∙ h.has_body;
    }
  where
    sum_of : List ℕ → ℕ
    sum_of bytes = crc32c_of bytes
