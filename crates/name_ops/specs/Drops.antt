-- Names that go, their inodes with them where they have no other, and the room for it.
use Rattle.std.specs.Prelude.{◌≢◌, ◌+◌, ◌*◌, ℕ, cond, Contains, nat_eq}
use Rattle.std.specs.FinMap.{get}
use Rattle.flat_model.specs.Coherent.{IsCoherent}
use Rattle.flat_model.specs.Names.{FlatName, links_of, remove_name}
use Rattle.flat_model.specs.Needs.{blocks_and_items_there, gone_with}
use Rattle.flat_model.specs.Operations.{Outcome}
use Rattle.flat_model.specs.Refusal.{is_refusal}
use Rattle.flat_model.specs.Volume.{Subvolume}
use Rattle.flat_model.specs.Walk.{WalkEnd, is_one_inode}

-- a name may go, and its inode with it: it is there, and no name stands in its inode
pub record MayDrop (sub : Subvolume) (name : FlatName) : Type 0 where
  pub coherent : IsCoherent sub
  pub there : Contains sub.names name
  pub empty : (other : FlatName) → Contains sub.names other → other.dir ≢ name.ino

-- how many data blocks, inline extents and XATTR items go with a name: its inode's, where that has no other name
abbrev pub gone_with_name : Subvolume → FlatName → ℕ
gone_with_name sub name = cond (nat_eq (links_of (remove_name name sub.names) name.ino) 0) (blocks_and_items_there (get sub.inodes name.ino)) 0

-- the most blocks and buffers that are taken where a name goes (own)
abbrev pub most_dropped : Subvolume → FlatName → ℕ
most_dropped sub name = 121 + 2 * gone_with_name sub name

-- the most blocks and buffers that an operation takes which removes so many data blocks, inline extents and XATTR items (own)
abbrev pub most_for : ℕ → ℕ
most_for removed = 512 + 2 * removed

-- the room that an operation has to have: none where it is refused (own)
abbrev pub room_for : Outcome → ℕ → ℕ
room_for outcome removed = cond (is_refusal outcome.answer) 0 (most_for removed)

-- how many data blocks, inline extents and XATTR items go where the name at the end of one walk moves to that of another
abbrev pub gone_by_move : Subvolume → WalkEnd → WalkEnd → ℕ
gone_by_move sub from to = cond (is_one_inode from to) 0 (gone_with sub to)
