-- Where no inode is faulty: runs of blocks and targets are those that the said subvolume asks for.
use Rattle.std.proofs.Common.{◌≡◌, ◌≤◌, ◌<◌, ◌+◌, ◌*◌, ◌/◌, ◌%◌, ◌⊎◌, ℕ, Bool, true, false, cond, List, [], ◌∷◌, length, Contains, Some, Result, Ok, Err, refl, sym, ap, subst, ◌∙◌, arith, inl, inr}
use Rattle.std.proofs.lemmas.Bool.{cases_order, and_parts, eqb-true, eq-eqb}
use Rattle.std.specs.Cmp.{nat_cmp_total}
use Rattle.std.specs.FinMap.{get, nat_cmp-IsAntisymmetric}
use Rattle.blk_base.specs.declared.key.Key.{Key}
use Rattle.blk_base.specs.declared.fault.ItemFault.{ItemFault}
use Rattle.blk_base.specs.Keys.{extent_data}
use Rattle.blk_base.specs.Leaf.{Item}
use Rattle.blk_base.specs.Extents.{ExtentValue, Inline, Regular, IsExtent, extent_of}
use Rattle.item_laws.specs.ExtentLaws.{extent_from}
use Rattle.flat_model.specs.Records.{InodeRecord, FileRecord, LinkRecord, FileInode, DirInode, LinkInode}
use Rattle.volume_image.specs.Subvolume.{Data, HasKey, CoversBlock, IsExtentOf, make_key}
use Rattle.volume_image.proofs.Extents.{extent_len_regular, run_is_reached}
use Rattle.image_faults.specs.Said.{is_item_of, said_blocks, said_target, target_in, inline_content, said_sub}
use Rattle.image_faults.specs.Faulty.{AreReadable, HasData, is_extent_for, HasNoFault}
use Rattle.image_faults.specs.Lists.{taken, given}
use Rattle.image_faults.proofs.Rising.{key_once}
use Rattle.image_faults.proofs.Readings.{file_blocks_list, BlockItem, block_in, block_from, target_from, inode_from}
use Rattle.image_faults.proofs.OfInodes.{flat_one}
use Rattle.image_faults.proofs.FromItems.{record_blocks, record_target, for_file, for_link, extent_for}

some_same : {X : Type 0} (x y : X) → Some x ≡ Some y → x ≡ y
some_same x y e = cc

-- a block isn't both in a run and in one behind its end
runs_apart : (one two len number i j : ℕ) → one % 4096 ≡ 0 → two % 4096 ≡ 0 → len % 4096 ≡ 0 → one + len ≤ two → i < len / 4096 → number ≡ one / 4096 + i → number ≡ two / 4096 + j → ⊥
runs_apart one two len number i j a b c apart below is is' = omega arith

covered_from : (offset len number i : ℕ) → offset % 4096 ≡ 0 → len % 4096 ≡ 0 → i < len / 4096 → number ≡ offset / 4096 + i → offset ≤ 4096 * number
covered_from offset len number i a b below is = omega arith

covered_to : (offset len number i : ℕ) → offset % 4096 ≡ 0 → len % 4096 ≡ 0 → i < len / 4096 → number ≡ offset / 4096 + i → 4096 * number < offset + len
covered_to offset len number i a b below is = omega arith

module _ (items : List Item) (blocks : Data) (ok : AreReadable items) where
  -- the extent of a block
  run_of : (ino number : ℕ) (block : List ℕ) (item : BlockItem items blocks ino number block) → IsExtent (make_key ino extent_data item.offset) item.bytes (Regular item.at item.from item.len)
  run_of ino number block item = extent_from (make_key ino extent_data item.offset) item.bytes (Regular item.at item.from item.len) item.read

  -- a block of a file is in one extent
  pub behind : (ino number : ℕ) (b c : List ℕ) (one : BlockItem items blocks ino number b) (two : BlockItem items blocks ino number c) → one.offset < two.offset → ⊥
  behind ino number b c one two less =
      let is = run_of ino number b one in
      let is' = run_of ino number c two in
      let apart = ok.apart ino one.offset two.offset one.bytes two.bytes one.there two.there less in
      let apart_by : one.offset + one.len ≤ two.offset = rw (extent_len_regular (make_key ino extent_data one.offset) one.bytes one.at one.from one.len is) at apart in
      runs_apart one.offset two.offset one.len number one.i two.i is.10 is'.10 is.9.0 apart_by one.below one.number_is two.number_is

  block_once : (ino number : ℕ) (b c : List ℕ) → BlockItem items blocks ino number b → BlockItem items blocks ino number c → b ≡ c
  block_once ino number b c one two = go (cases_order one.offset two.offset)
    where
      go : (one.offset ≡ two.offset) ⊎ ((one.offset < two.offset) ⊎ (two.offset < one.offset)) → b ≡ c
      go (inl same) =
          let bytes = key_once items (make_key ino extent_data two.offset) one.bytes two.bytes ok.rise (subst (λ (n : ℕ). Contains items (make_key ino extent_data n, one.bytes)) same one.there) two.there in
          let read : Ok (Regular one.at one.from one.len) ≡ Ok (Regular two.at two.from two.len) =
          sym one.read ∙ (λ i. extent_of (make_key ino extent_data (same i)) (bytes i)) ∙ two.read in
          let at : one.at ≡ two.at = cc in
          let first = one.number_is in
          let second = two.number_is in
          let place : one.i ≡ two.i = omega arith in
          some_same b c (sym one.block_is ∙ (λ i. blocks (at i + 4096 * place i)) ∙ two.block_is)
      go (inr (inl less)) = absurd (behind ino number b c one two less)
      go (inr (inr more)) = absurd (behind ino number c b two one more)

  block_said : (ino number : ℕ) (block : List ℕ) → Contains (file_blocks_list items blocks ino) (number, block) → get (said_blocks items blocks ino) number ≡ Some block
  unfolding said_blocks
  block_said ino number block c = given nat_cmp_total nat_cmp-IsAntisymmetric (file_blocks_list items blocks ino) number block
      (λ w d. block_once ino number w block (block_from items blocks ino number w d) (block_from items blocks ino number block c)) c

  said_block : (ino number : ℕ) (block : List ℕ) → get (said_blocks items blocks ino) number ≡ Some block → BlockItem items blocks ino number block
  unfolding said_blocks
  said_block ino number block h = block_from items blocks ino number block (taken nat_cmp_total nat_cmp-IsAntisymmetric (file_blocks_list items blocks ino) number block h)

module _ (items : List Item) (blocks : Data) (ok : AreReadable items) (right : (ino : ℕ) → HasNoFault items blocks ino) (ino : ℕ) (inode : InodeRecord) (there : get (said_sub items blocks).inodes ino ≡ Some inode) where
  file_extent : HasData items blocks → (file : FileRecord) → inode ≡ FileInode file → (offset : ℕ) (bytes : List ℕ) → Contains items (make_key ino extent_data offset, bytes) → IsExtentOf blocks (FileInode file) (make_key ino extent_data offset) bytes
  file_extent held file is offset bytes has =
      let key = make_key ino extent_data offset in
      let run = for_file file (extent_of key bytes) (subst (λ (r : InodeRecord). is_extent_for (Some r) (extent_of key bytes) ≡ true) is (extent_for items blocks ok right ino inode there offset bytes has)) in
      let at = run.0 in
      let len = run.2 in
      let extent = extent_from key bytes (Regular at run.1 len) run.3 in
      let record_is = record_blocks items blocks ino (inode_from items blocks ino inode there).value file (sym (inode_from items blocks ino inode there).is ∙ is) in (
        at,
        len,
        subst (λ (n : ℕ). IsExtent key bytes (Regular at n len)) extent.5 extent,
        λ i below.
            let block = held (at + 4096 * i) (run_is_reached items key bytes at run.1 len i has refl extent below) in
            (block.0, block.1, ap (λ m. get m (offset / 4096 + i)) record_is ∙ block_said items blocks ok ino (offset / 4096 + i) block.0 (block_in items blocks ino offset bytes at run.1 len i block.0 has run.3 below block.1)),
      )

  -- the extent of a symlink is its target, at offset 0
  link_inline : (link : LinkRecord) → inode ≡ LinkInode link → (offset : ℕ) (bytes : List ℕ) → Contains items (make_key ino extent_data offset, bytes) → (content : List ℕ) × (extent_of (make_key ino extent_data offset) bytes ≡ Ok (Inline content)) × (offset ≡ 0)
  link_inline link is offset bytes has =
      let key = make_key ino extent_data offset in
      let inline = for_link link (extent_of key bytes) (subst (λ (r : InodeRecord). is_extent_for (Some r) (extent_of key bytes) ≡ true) is (extent_for items blocks ok right ino inode there offset bytes has)) in
      (inline.0, inline.1, (extent_from key bytes (Inline inline.0) inline.1).5)

  target_is : (link : LinkRecord) → inode ≡ LinkInode link → (bytes : List ℕ) → Contains items (make_key ino extent_data 0, bytes) → (content : List ℕ) → extent_of (make_key ino extent_data 0) bytes ≡ Ok (Inline content) → said_target items ino ≡ content
  unfolding said_target
  target_is link is bytes has content read =
      let key = make_key ino extent_data 0 in
      flat_one (target_in ino) items (key, bytes) ok.rise has none
      ∙ ap (λ (b : Bool). cond b (inline_content (extent_of key bytes)) []) (eq-eqb ino ino refl)
      ∙ ap inline_content read
    where
      none : (other : Item) → Contains items other → (other.0 ≡ make_key ino extent_data 0 → ⊥) → target_in ino other ≡ []
      none other c differs = go (is_item_of extent_data ino other.0) refl
        where
          go : (b : Bool) → is_item_of extent_data ino other.0 ≡ b → cond b (inline_content (extent_of other.0 other.1)) [] ≡ []
          go true e =
              let parts = and_parts _ _ e in
              let objectid : other.0.objectid ≡ ino = eqb-true other.0.objectid ino parts.1 in
              let kind : other.0.kind ≡ extent_data = eqb-true other.0.kind extent_data parts.0 in
              let key : other.0 ≡ make_key ino extent_data other.0.offset = λ i. record { objectid = objectid i; kind = kind i; offset = other.0.offset } in
              let inline = link_inline link is other.0.offset other.1 (subst (λ (k : Key). Contains items (k, other.1)) key c) in
              absurd (differs (key ∙ (λ i. record { objectid = ino; kind = extent_data; offset = inline.2 i })))
          go false e = refl

  link_extent : (link : LinkRecord) → inode ≡ LinkInode link → (offset : ℕ) (bytes : List ℕ) → Contains items (make_key ino extent_data offset, bytes) → IsExtentOf blocks (LinkInode link) (make_key ino extent_data offset) bytes
  link_extent link is offset bytes has =
      let key = make_key ino extent_data offset in
      let inline = link_inline link is offset bytes has in
      let zero : make_key ino extent_data offset ≡ make_key ino extent_data 0 = λ i. record { objectid = ino; kind = extent_data; offset = inline.2 i } in
      let target = target_is link is bytes (subst (λ (k : Key). Contains items (k, bytes)) zero has) inline.0 (subst (λ (k : Key). extent_of k bytes ≡ Ok (Inline inline.0)) zero inline.1) in
      let record_is = record_target items blocks ino (inode_from items blocks ino inode there).value link (sym (inode_from items blocks ino inode there).is ∙ is) in
      subst (λ (t : List ℕ). IsExtent key bytes (Inline t)) (sym (record_is ∙ target)) (extent_from key bytes (Inline inline.0) inline.1)

  pub extent_is : HasData items blocks → (offset : ℕ) (bytes : List ℕ) → Contains items (make_key ino extent_data offset, bytes) → IsExtentOf blocks inode (make_key ino extent_data offset) bytes
  extent_is held offset bytes has = go inode refl
    where
      go : (r : InodeRecord) → inode ≡ r → IsExtentOf blocks inode (make_key ino extent_data offset) bytes
      go (FileInode file) is = subst (λ (r : InodeRecord). IsExtentOf blocks r (make_key ino extent_data offset) bytes) (sym is) (file_extent held file is offset bytes has)
      go (DirInode dir) is =
          let no : false ≡ true = sym (none (extent_of (make_key ino extent_data offset) bytes)) ∙ ap (λ (r : InodeRecord). is_extent_for (Some r) (extent_of (make_key ino extent_data offset) bytes)) (sym is) ∙ extent_for items blocks ok right ino inode there offset bytes has in absurd cc
        where
          none : (r : Result ExtentValue ItemFault) → is_extent_for (Some (DirInode dir)) r ≡ false
          none (Ok value) = refl
          none (Err fault) = refl
      go (LinkInode link) is = subst (λ (r : InodeRecord). IsExtentOf blocks r (make_key ino extent_data offset) bytes) (sym is) (link_extent link is offset bytes has)

  -- a block of the file is covered by an extent
  pub block_is_covered : (file : FileRecord) → inode ≡ FileInode file → (number : ℕ) (block : List ℕ) → get file.blocks number ≡ Some block → CoversBlock items ino number
  block_is_covered file is number block h =
      let from = inode_from items blocks ino inode there in
      let record_is = record_blocks items blocks ino from.value file (sym from.is ∙ is) in
      let item = said_block items blocks ok ino number block (ap (λ m. get m number) (sym record_is) ∙ h) in
      let key = make_key ino extent_data item.offset in
      let run = run_of items blocks ok ino number block item in
      record {
        offset = item.offset;
        bytes = item.bytes;
        there = item.there;
        from = covered_from item.offset item.len number item.i run.10 run.9.0 item.below item.number_is;
        to = subst (λ (n : ℕ). 4096 * number < item.offset + n) (sym (extent_len_regular key item.bytes item.at item.from item.len run)) (covered_to item.offset item.len number item.i run.10 run.9.0 item.below item.number_is);
      }

  -- a symlink that has a target has its item
  pub target_is_there : (link : LinkRecord) → inode ≡ LinkInode link → 1 ≤ length link.target → HasKey items (make_key ino extent_data 0)
  target_is_there link is some =
      let from = inode_from items blocks ino inode there in
      let record_is = record_target items blocks ino from.value link (sym from.is ∙ is) in
      let byte = first link.target some in
      let item = target_from items ino byte.0 (subst (λ (t : List ℕ). Contains t byte.0) record_is byte.1) in
      (item.1, subst (λ (n : ℕ). Contains items (make_key ino extent_data n, item.1)) (extent_from (make_key ino extent_data item.0) item.1 (Inline item.3) item.4).5 item.2)
    where
      first : (bytes : List ℕ) → 1 ≤ length bytes → (byte : ℕ) × Contains bytes byte
      first [] e = absurd (omega arith)
      first (byte ∷ bytes) e = (byte, Rattle.volume_image.proofs.Reaches.head_in byte bytes)
