-- What a reader of an item opens is what its bytes spell.
use Rattle.std.proofs.Common.{◌≡◌, ◌∙◌, ℕ, List, [], ◌∷◌, length, Some, None, Ok, refl, sym, ap, subst, arith}
use Rattle.blk_base.specs.declared.key.Key.{Key}
use Rattle.blk_base.specs.Entries.{EntryValue, ExtRefValue, IsEntries, IsExtRefs, IsRefs, RefValue, entries_of, extrefs_of, refs_of}
use Rattle.blk_base.specs.Keys.{dir_item}
use Rattle.blk_base.specs.Leaf.{Item}
use Rattle.item_laws.specs.Directories.{entries_to}
use Rattle.item_laws.specs.ExtRefs.{extrefs_to}
use Rattle.item_laws.specs.Refs.{refs_to}
use Rattle.tree_range.specs.Between.{data_under}
use Rattle.item_edit.specs.ItemEdit.{bytes_under}
use Rattle.item_edit.proofs.Changed.{bytes_there, no_bytes}

pub refs_read : (key : Key) (items : List Item) (bytes : List ℕ) (found : List RefValue) → Some bytes ≡ data_under key items → IsRefs key (bytes_under key items) found → refs_of key bytes ≡ Ok found
refs_read key items bytes found there is =
    refs_to key bytes found (subst (λ (b : List ℕ). IsRefs key b found) (sym (bytes_there key items bytes there)) is)

pub extrefs_read : (key : Key) (items : List Item) (bytes : List ℕ) (found : List ExtRefValue) → Some bytes ≡ data_under key items → IsExtRefs (bytes_under key items) found → extrefs_of bytes ≡ Ok found
extrefs_read key items bytes found there is =
    extrefs_to bytes found (subst (λ (b : List ℕ). IsExtRefs b found) (sym (bytes_there key items bytes there)) is)

pub entries_read : (key : Key) (items : List Item) (bytes : List ℕ) (found : List EntryValue) → Some bytes ≡ data_under key items → IsEntries dir_item (bytes_under key items) found → entries_of dir_item bytes ≡ Ok found
entries_read key items bytes found there is =
    entries_to dir_item bytes found (subst (λ (b : List ℕ). IsEntries dir_item b found) (sym (bytes_there key items bytes there)) is)

-- an item of entries has bytes
pub entries_there : (key : Key) (items : List Item) (found : List EntryValue) → None ≡ data_under key items → IsEntries dir_item (bytes_under key items) found → ⊥
entries_there key items [] none is = is.some refl
entries_there key items (e ∷ es) none is =
    let size = ap length (no_bytes key items none ∙ is.spelled) in
    absurd (omega (arith, size))
