-- The steps of rename and exchange.
use Rattle.std.specs.Prelude.{ℕ, max, Bool, false, cond, List, Option, Some, None, unwrap_or, nat_eq}
use Rattle.std.specs.FinMap.{FinMap, get, insert, remove}
use Rattle.std.specs.Ordering.{nat_cmp}
use Rattle.flat_model.specs.Records.{InodeRecord}
use Rattle.flat_model.specs.Names.{FlatName, links_of}
use Rattle.flat_model.specs.Walk.{WalkEnd, AtRoot, AtSlot, Missing, Blocked}

-- whether the name in the slot at the end of a walk leads to this inode
abbrev pub leads_there : WalkEnd → ℕ → Bool
leads_there AtRoot ino = false
leads_there (AtSlot dir bytes None) ino = false
leads_there (AtSlot dir bytes (Some name)) ino = nat_eq ino name.ino
leads_there Missing ino = false
leads_there Blocked ino = false

-- the inode that lost its last name with the one in the slot at the end of a walk, where these names are left
abbrev pub lost_inode : List FlatName → WalkEnd → Option ℕ
lost_inode names AtRoot = None
lost_inode names (AtSlot dir bytes None) = None
lost_inode names (AtSlot dir bytes (Some name)) = cond (nat_eq (links_of names name.ino) 0) (Some name.ino) None
lost_inode names Missing = None
lost_inode names Blocked = None

-- the inodes without one that lost its last name, where there is one
abbrev pub without_lost : FinMap nat_cmp InodeRecord → Option ℕ → FinMap nat_cmp InodeRecord
without_lost inodes None = inodes
without_lost inodes (Some ino) = remove inodes ino

-- the greatest index that each directory has had, once one has had this one
abbrev pub noted_index : FinMap nat_cmp ℕ → ℕ → ℕ → FinMap nat_cmp ℕ
noted_index indexes dir index = insert indexes dir (max (unwrap_or (get indexes dir) 1) index)
