use Rattle.std.proofs.Common.{◌≡◌, ℕ, ◌+◌, Bool, not, ◌&&◌, ◌||◌, List, ◌∙◌, ap, sym, zero-add, nat_lt}
use Rattle.std.specs.List.{sum_by}
use Rattle.blk_base.specs.Crc.{name_hash_of, extref_hash_of}
use Rattle.flat_model.specs.declared.view.NameAt.{NameAt}
use Rattle.flat_sub.specs.declared.list.Item.TheVariants as items
use Rattle.flat_model.specs.Names.{FlatName}
use Rattle.flat_model.specs.Lengths.{dir_item_length, extref_item_length}
use Rattle.flat_sub.specs.Lists.{list_view, share_of}
use Rattle.flat_sub.proofs.Shares.{entry_share, extref_share, exceeds, fits_in, not_within}
use Rattle.flat_sub.proofs.list.NameList.is_crowded.Goals as goal

-- the bytes of the DIR_ITEM, as they are summed
entry_sum : (all : List FlatName) (dir hash : ℕ) (bytes name : List ℕ) → bytes ≡ name → hash ≡ name_hash_of bytes → dir_item_length all dir (name_hash_of name) ≡ 0 + sum_by (share_of (items.Entry dir hash)) all
entry_sum all dir hash bytes name same is = entry_share all dir (name_hash_of name) ∙ ap (λ h. sum_by (share_of (items.Entry dir h)) all) (sym (is ∙ ap name_hash_of same)) ∙ sym (zero-add _)

-- the bytes of the INODE_EXTREF, as they are summed
extref_sum : (all : List FlatName) (ino dir hash : ℕ) (bytes name : List ℕ) → bytes ≡ name → hash ≡ extref_hash_of dir bytes → extref_item_length all ino (extref_hash_of dir name) ≡ 0 + sum_by (share_of (items.Extref ino hash)) all
extref_sum all ino dir hash bytes name same is = extref_share all ino (extref_hash_of dir name) ∙ ap (λ h. sum_by (share_of (items.Extref ino h)) all) (sym (is ∙ ap (extref_hash_of dir) same)) ∙ sym (zero-add _)

pub returns-then-not-fits : goal.returns-then-not-fits
returns-then-not-fits c =
    let all : List FlatName = list_view c.args.self.now in
    let name : NameAt = c.args.name.now in
    let sum = entry_sum all name.dir.0 c.name_hash.result c.as_bytes-bytes.result.now name.name c.as_bytes-bytes.ensures.value c.name_hash.ensures in
    let full = ap (nat_lt 3970) sum ∙ exceeds _ 3970 (sym c.fits.ensures ∙ c.if-not-fits.true) in
    sym (ap (λ b. b || (not c.args.near && nat_lt 3970 (extref_item_length all name.ino.0 (extref_hash_of name.dir.0 name.name)))) full)

pub returns-then-near : goal.returns-then-near
returns-then-near c =
    let all : List FlatName = list_view c.args.self.now in
    let name : NameAt = c.args.name.now in
    let more : Bool = nat_lt 3970 (extref_item_length all name.ino.0 (extref_hash_of name.dir.0 name.name)) in
    let sum = entry_sum all name.dir.0 c.name_hash.result c.as_bytes-bytes.result.now name.name c.as_bytes-bytes.ensures.value c.name_hash.ensures in
    let room = ap (nat_lt 3970) sum ∙ fits_in _ 3970 (sym c.fits.ensures ∙ c.if-not-fits.false) in
    sym (ap (λ b. b || (not c.args.near && more)) room ∙ ap (λ n. not n && more) c.if-near.true)

pub returns : goal.returns
returns c =
    let all : List FlatName = list_view c.args.self.now in
    let name : NameAt = c.args.name.now in
    let more : Bool = nat_lt 3970 (extref_item_length all name.ino.0 (extref_hash_of name.dir.0 name.name)) in
    let sum = entry_sum all name.dir.0 c.name_hash.result c.as_bytes-bytes.result.now name.name c.as_bytes-bytes.ensures.value c.name_hash.ensures in
    let far = extref_sum all name.ino.0 name.dir.0 c.extref_hash.result c.as_bytes-bytes.result.now name.name c.as_bytes-bytes.ensures.value c.extref_hash.ensures in
    let room = ap (nat_lt 3970) sum ∙ fits_in _ 3970 (sym c.fits.ensures ∙ c.if-not-fits.false) in
    ap not c.fits-2.ensures ∙ not_within _ 3970 ∙ sym (ap (λ b. b || (not c.args.near && more)) room ∙ ap (λ n. not n && more) c.if-near.false ∙ ap (nat_lt 3970) far)
