-- What a read gives, block by block, while a batch is written.
use Rattle.std.proofs.Common.{◌≡◌, ◌≢◌, ◌≤◌, ◌<◌, ◌+◌, ◌/◌, ◌⊎◌, ℕ, zero, suc, List, length, take, All, AllPairs, Contains, Option, Some, None, Bool, true, false, Result, Ok, Err, OnOk, is_ok, slice_get, slice_set, slice_index_or, refl, sym, ◌∙◌, ap, subst, inl, inr, arith}
use Rattle.std.proofs.lemmas.List.{get_or-map, get_or-take, get_or_default, length-map, length-set, length-take-le, take_all}
use Rattle.std.proofs.lemmas.List.Elements.{All-more}
use Rattle.std.specs.declared.boxed.Box.{Box}
use Rattle.blk_base.specs.declared.key.Addr.{Addr}
use Rattle.disk_model.specs.Disk.{Image, IfBoth, IfTold, Changes, SameBut}
use Rattle.disk_model.proofs.CrashLaws.{slice_get-set_other, slice_get-set_same}
use Rattle.batch_write.specs.Batch.{AtBlock, HasBlock, HasWritten, NoSuper, SameOutside, blocks_of, numbers_of}

-- two numbers are the same or not
pub same_or_other : (a b : ℕ) → (a ≡ b) ⊎ (a ≢ b)
same_or_other zero zero = inl refl
same_or_other zero (suc b) = inr (λ same. absurd (omega (arith, same)))
same_or_other (suc a) zero = inr (λ same. absurd (omega (arith, same)))
same_or_other (suc a) (suc b) =
    elim (same_or_other a b) [ inl same ↦ inl (ap suc same) | inr other ↦ inr (λ same. other (omega (arith, same))) ]

-- what holds after Ok
pub from_ok : {T E P : Type 0} (result : Result T E) → true ≡ is_ok result → OnOk result P → P
from_ok (Ok value) ok holds = holds
from_ok (Err fault) ok holds = absurd (cc)

pub to_on_ok : {T E P : Type 0} (result : Result T E) → (true ≡ is_ok result → P) → OnOk result P
to_on_ok (Ok value) holds = holds refl
to_on_ok (Err fault) holds = tt

-- this is the block at a place of the batch
pub record IsNext (batch : List AtBlock) (k : ℕ) (item : AtBlock) : Type 0 where
  pub within : k < length batch
  pub is : slice_index_or batch k item ≡ item

pub length-blocks_of : {A : Type 0} (items : List (Addr × Box (List ℕ) A)) → length (blocks_of items) ≡ length items
length-blocks_of items = length-map items _

pub next_block : {A : Type 0} (items : List (Addr × Box (List ℕ) A)) (k : ℕ) (item : Addr × Box (List ℕ) A) → k < length items → item ≡ slice_index_or items k item → IsNext (blocks_of items) k (item.0, item.1.value)
next_block {A} items k item within is =
    let block : Addr × Box (List ℕ) A → AtBlock = λ one. (one.0, one.1.value) in record {
      within = subst (λ n. k < n) (sym (length-blocks_of items)) within;
      is = get_or-map block items k item (block item) within ∙ ap block (sym is);
    }

-- what holds of each block of the batch holds of this one
pub of_next : (P : AtBlock → Type 0) (batch : List AtBlock) (k : ℕ) (item : AtBlock) → IsNext batch k item → All P batch → P item
of_next P batch k item next all = subst P next.is (all k item next.within)

-- its number is one of the batch's
pub number_among : (batch : List AtBlock) (k : ℕ) (item : AtBlock) → IsNext batch k item → Contains (numbers_of batch) (item.0.0 / 4096)
number_among batch k item next =
    let number : AtBlock → ℕ = λ one. one.0.0 / 4096 in
    (k, subst (λ n. k < n) (sym (length-map batch number)) next.within, get_or-map number batch k item (number item) next.within ∙ ap number next.is)

-- no block changed yet
pub SameOutside-same : (numbers : List ℕ) (image : Image) → SameOutside numbers image image
SameOutside-same numbers image = record { size = refl; others = λ at outside. refl }

-- a block with one of these numbers changed more
pub SameOutside-more : (numbers : List ℕ) (at : ℕ) (old now new : Image) → Contains numbers at → SameOutside numbers old now → SameBut at now new → SameOutside numbers old new
SameOutside-more numbers at old now new among so_far one = record {
  size = one.size ∙ so_far.size;
  others = λ k outside. one.others k (λ same. outside (subst (Contains numbers) (sym same) among)) ∙ so_far.others k outside;
}

-- what a write changes, whether it answered Ok or not
Changes-at_most : (at : ℕ) (bytes : List ℕ) (before after : Option Image) (ok : Bool) → Changes before after at bytes ok → IfBoth before after (SameBut at)
Changes-at_most at bytes None None true changes = tt
Changes-at_most at bytes None None false changes = tt
Changes-at_most at bytes None (Some new) true changes = absurd changes
Changes-at_most at bytes None (Some new) false changes = absurd changes
Changes-at_most at bytes (Some old) None true changes = absurd changes
Changes-at_most at bytes (Some old) None false changes = absurd changes
Changes-at_most at bytes (Some old) (Some new) true changes = record {
  size = ap (λ (image : Image). length image) changes ∙ length-set old at bytes;
  others = λ k other. ap (λ (image : Image). slice_get image k) changes ∙ slice_get-set_other old at k bytes other;
}
Changes-at_most at bytes (Some old) (Some new) false changes = changes

same_joins : (numbers : List ℕ) (at : ℕ) (before now new : Option Image) → Contains numbers at → IfBoth before now (SameOutside numbers) → IfBoth now new (SameBut at) → IfBoth before new (SameOutside numbers)
same_joins numbers at None None None among so_far one = tt
same_joins numbers at None None (Some new) among so_far one = one
same_joins numbers at None (Some now) new among so_far one = absurd so_far
same_joins numbers at (Some old) None new among so_far one = absurd so_far
same_joins numbers at (Some old) (Some now) None among so_far one = one
same_joins numbers at (Some old) (Some now) (Some new) among so_far one = SameOutside-more numbers at old now new among so_far one

-- the same, where it is told
pub same_begins : (numbers : List ℕ) (seen : Option Image) → IfBoth seen seen (SameOutside numbers)
same_begins numbers None = tt
same_begins numbers (Some image) = SameOutside-same numbers image

pub same_goes_on : (batch : List AtBlock) (k : ℕ) (item : AtBlock) (before now new : Option Image) (bytes : List ℕ) (ok : Bool) → IsNext batch k item → IfBoth before now (SameOutside (numbers_of batch))
    → Changes now new (item.0.0 / 4096) bytes ok → IfBoth before new (SameOutside (numbers_of batch))
same_goes_on batch k item before now new bytes ok next so_far changes =
    same_joins (numbers_of batch) (item.0.0 / 4096) before now new (number_among batch k item next) so_far (Changes-at_most (item.0.0 / 4096) bytes now new ok changes)

-- no two blocks of the batch have one number
abbrev pub NoneTwice : List AtBlock → Type 0
NoneTwice batch = AllPairs (λ one other. one.0.0 / 4096 ≢ other.0.0 / 4096) batch

-- the first blocks are written, and the next one now
next_written : (batch : List AtBlock) (k : ℕ) (item : AtBlock) (now : Image) → NoneTwice batch → IsNext batch k item → item.0.0 / 4096 < length now → All (HasBlock now) (take k batch)
    → All (HasBlock (slice_set now (item.0.0 / 4096) item.1)) (take (k + 1) batch)
next_written batch k item now once next inside so_far =
    let number : AtBlock → ℕ = λ one. one.0.0 / 4096 in
    let new : Image = slice_set now (number item) item.1 in
    let size : length (take k batch) ≡ k = let within = next.within in length-take-le k batch (omega arith) in
    let here : HasBlock new item = slice_get-set_same now (number item) item.1 inside in
    All-more (HasBlock new) batch k item next.within
    (λ j e before.
    let below : j < k = omega (arith, before, size) in
    let earlier : slice_index_or (take k batch) j e ≡ slice_index_or batch j e = get_or-take k batch j e below in
    let last : slice_index_or batch k e ≡ item = get_or_default batch k e item next.within ∙ next.is in
    let apart : number (slice_index_or batch j e) ≢ number (slice_index_or batch k e) = once j k e below next.within in
    let other : number (slice_index_or (take k batch) j e) ≢ number item = λ same. apart (ap number (sym earlier) ∙ same ∙ ap number (sym last)) in
    slice_get-set_other now (number item) (number (slice_index_or (take k batch) j e)) item.1 other ∙ so_far j e before)
    (subst (HasBlock new) (sym next.is) here)

-- no block is written yet
pub written_begins : (batch : List AtBlock) (seen : Option Image) → IfTold seen (λ image. All (HasBlock image) (take 0 batch))
written_begins batch None = tt
written_begins batch (Some image) = λ k d within. absurd (omega (arith, within))

-- one more is
pub written_goes_on : (batch : List AtBlock) (k : ℕ) (item : AtBlock) (count : ℕ) (now new : Option Image) → NoneTwice batch → IsNext batch k item → item.0.0 / 4096 < count
    → IfTold now (λ image. length image ≡ count) → IfTold now (λ image. All (HasBlock image) (take k batch)) → Changes now new (item.0.0 / 4096) item.1 true
    → IfTold new (λ image. All (HasBlock image) (take (k + 1) batch))
written_goes_on batch k item count None None once next inside size so_far changes = tt
written_goes_on batch k item count None (Some new) once next inside size so_far changes = absurd changes
written_goes_on batch k item count (Some now) None once next inside size so_far changes = tt
written_goes_on batch k item count (Some now) (Some new) once next inside size so_far changes =
    subst (λ (image : Image). All (HasBlock image) (take (k + 1) batch)) (sym changes) (next_written batch k item now once next (omega (arith, inside, size)) so_far)

-- all are
pub written_all : (batch : List AtBlock) (k : ℕ) (seen : Option Image) → length batch ≤ k → IfTold seen (λ image. All (HasBlock image) (take k batch)) → IfTold seen (λ image. All (HasBlock image) batch)
written_all batch k seen past so_far = subst (λ (items : List AtBlock). IfTold seen (λ image. All (HasBlock image) items)) (take_all k batch past) so_far

-- after all blocks of the batch, and then the superblock or its failed write
pub HasWritten-super : (batch : List AtBlock) (old mid new : Image) → NoSuper batch → SameOutside (numbers_of batch) old mid → All (HasBlock mid) batch → SameBut 16 mid new → HasWritten batch old new
HasWritten-super batch old mid new none same written one = record {
  size = one.size ∙ same.size;
  written = λ k d within. one.others ((slice_index_or batch k d).0.0 / 4096) (none k d within) ∙ written k d within;
  others = λ at other outside. one.others at other ∙ same.others at outside;
}

pub written_by : (batch : List AtBlock) (superblock : List ℕ) (before mid new : Option Image) (ok : Bool) → NoSuper batch → IfBoth before mid (SameOutside (numbers_of batch)) → IfTold mid (λ image. All (HasBlock image) batch)
    → Changes mid new 16 superblock ok → IfBoth before new (HasWritten batch)
written_by batch superblock before mid new ok none same written changes =
    joined before mid new same written (Changes-at_most 16 superblock mid new ok changes)
  where
    joined : (before mid new : Option Image) → IfBoth before mid (SameOutside (numbers_of batch)) → IfTold mid (λ image. All (HasBlock image) batch) → IfBoth mid new (SameBut 16) → IfBoth before new (HasWritten batch)
    joined None None None same written one = tt
    joined None None (Some new) same written one = one
    joined None (Some mid) new same written one = absurd same
    joined (Some old) None new same written one = absurd same
    joined (Some old) (Some mid) None same written one = one
    joined (Some old) (Some mid) (Some new) same written one = HasWritten-super batch old mid new none same written one

pub written_whole : (batch : List AtBlock) (superblock : List ℕ) (count : ℕ) (before mid new : Option Image) (ok : Bool) → NoSuper batch → 16 < count → IfTold mid (λ image. length image ≡ count) → IfBoth before mid (SameOutside (numbers_of batch)) → IfTold mid (λ image. All (HasBlock image) batch)
    → Changes mid new 16 superblock ok → true ≡ ok → IfBoth before new (λ old new. HasWritten batch old new × (slice_get new 16 ≡ Some superblock))
written_whole batch superblock count before mid new false none inside size same written changes is = absurd (cc)
written_whole batch superblock count before mid new true none inside size same written changes is =
    with_super before mid new size (written_by batch superblock before mid new true none same written changes) same changes
  where
    with_super : (before mid new : Option Image) → IfTold mid (λ image. length image ≡ count) → IfBoth before new (HasWritten batch) → IfBoth before mid (SameOutside (numbers_of batch)) → Changes mid new 16 superblock true
        → IfBoth before new (λ old new. HasWritten batch old new × (slice_get new 16 ≡ Some superblock))
    with_super None mid None size it same changes = tt
    with_super None mid (Some new) size it same changes = it
    with_super (Some old) mid None size it same changes = it
    with_super (Some old) None (Some new) size it same changes = absurd changes
    with_super (Some old) (Some mid) (Some new) size it same changes =
        (it, ap (λ (image : Image). slice_get image 16) changes ∙ slice_get-set_same mid 16 superblock (omega (arith, inside, size)))
