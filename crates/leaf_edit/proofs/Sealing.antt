-- What a seal leaves of a block.
use Rattle.std.specs.Prelude.{◌≡◌, ◌+◌, ◌^◌, ℕ, List, drop}
use Rattle.blk_base.specs.declared.key.Want.{Want}
use Rattle.blk_base.specs.Bytes.{field, bytes_at, zeros}
use Rattle.blk_base.specs.Leaf.{HeaderFits, count_of}

-- the header is what a reader wants, with bit 0 for "written" and back reference revision 1 as flags ("Header"), zeros
-- for the uuid of the chunk tree and behind the sum, and the body as it was
pub record IsSealed (want : Want) (old new : List ℕ) : Type 0 where
  pub header : HeaderFits want new
  pub behind_sum : bytes_at 28 new 4 ≡ zeros 28
  pub flags : field 8 new 56 ≡ 1 + 2 ^ 56
  pub uuid : bytes_at 16 new 64 ≡ zeros 16
  pub count : count_of new ≡ count_of old
  pub body : drop 101 new ≡ drop 101 old

-- the fields of the header behind the sum are these, and the body is as it was
pub record HasFields (fsid : List ℕ) (address generation owner level : ℕ) (old new : List ℕ) : Type 0 where
  pub has_behind_sum : bytes_at 28 new 4 ≡ zeros 28
  pub has_fsid : bytes_at 16 new 32 ≡ fsid
  pub has_address : field 8 new 48 ≡ address
  pub has_flags : field 8 new 56 ≡ 1 + 2 ^ 56
  pub has_uuid : bytes_at 16 new 64 ≡ zeros 16
  pub has_generation : field 8 new 80 ≡ generation
  pub has_owner : field 8 new 88 ≡ owner
  pub has_level : field 1 new 100 ≡ level
  pub has_count : count_of new ≡ count_of old
  pub has_body : drop 101 new ≡ drop 101 old
