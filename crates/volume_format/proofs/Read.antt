-- The tests of `decode` on what the fields say, as functions of that value.
use Rattle.std.proofs.Common.{Bool, nat_lt, not, ◌||◌, ◌&&◌, ◌==◌}
use Rattle.blk_base.specs.Address.{is_allowed}
use Rattle.blk_base.specs.Superblock.{SuperValue}

-- the root tree's address is allowed
abbrev pub allowed : SuperValue → Bool
allowed v = is_allowed v.blocks v.root

-- the root tree is too high
abbrev pub high : SuperValue → Bool
high v = nat_lt 7 v.root_level

-- the log root tree is too high, or has a level and no address
abbrev pub log_wrong : SuperValue → Bool
log_wrong v = nat_lt 7 v.log_root_level || ((v.log_root == 0) && not (v.log_root_level == 0))
