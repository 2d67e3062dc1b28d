-- Facts on tests of items' lengths.
use Rattle.std.proofs.Common.{◌≡◌, ◌↔◌, ◌≤◌, ℕ, Bool, List, IsTrue, sym, ap, ◌∙◌, arith}
use Rattle.std.specs.Bool.{nat_le}
use Rattle.std.specs.List.{sum_by}
use Rattle.std.proofs.lemmas.Bool.{leb-true, le-leb}
use Rattle.blk_base.specs.Crc.{name_hash_of, extref_hash_of}
use Rattle.flat_model.specs.Names.{FlatName}
use Rattle.flat_model.specs.Lengths.{most_item_bytes, ref_item_length, extref_item_length, dir_item_length}
use Rattle.flat_sub.specs.declared.list.Item.TheVariants as items
use Rattle.flat_sub.specs.Lists.{share_of}
use Rattle.flat_sub.proofs.Shares.{ref_share, extref_share, entry_share}

within : (sum length : ℕ) (r : Bool) → length ≡ sum → r ≡ nat_le sum most_item_bytes → IsTrue r ↔ (length ≤ most_item_bytes)
within sum length r is test = (
  λ yes. let le = leb-true sum most_item_bytes (sym test ∙ yes) in omega (arith, is, le),
  λ le. test ∙ le-leb sum most_item_bytes (omega (arith, is, le)),
)

pub ref_fits : (all : List FlatName) (ino dir : ℕ) (r : Bool) → r ≡ nat_le (sum_by (share_of (items.Ref ino dir)) all) most_item_bytes → IsTrue r ↔ (ref_item_length all ino dir ≤ most_item_bytes)
ref_fits all ino dir r test = within _ _ r (ref_share all ino dir) test

pub extref_fits : (all : List FlatName) (ino dir hash : ℕ) (bytes name : List ℕ) (r : Bool) → bytes ≡ name → hash ≡ extref_hash_of dir bytes → r ≡ nat_le (sum_by (share_of (items.Extref ino hash)) all) most_item_bytes → IsTrue r ↔ (extref_item_length all ino (extref_hash_of dir name) ≤ most_item_bytes)
extref_fits all ino dir hash bytes name r same is test =
    within _ _ r (ap (extref_item_length all ino) (sym (is ∙ ap (extref_hash_of dir) same)) ∙ extref_share all ino hash) test

pub entry_fits : (all : List FlatName) (dir hash : ℕ) (bytes name : List ℕ) (r : Bool) → bytes ≡ name → hash ≡ name_hash_of bytes → r ≡ nat_le (sum_by (share_of (items.Entry dir hash)) all) most_item_bytes → IsTrue r ↔ (dir_item_length all dir (name_hash_of name) ≤ most_item_bytes)
entry_fits all dir hash bytes name r same is test =
    within _ _ r (ap (dir_item_length all dir) (sym (is ∙ ap name_hash_of same)) ∙ entry_share all dir hash) test
