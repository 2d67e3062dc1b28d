-- What an entry since the last superblock says of what a crash may leave.
use Rattle.std.proofs.Common.{◌≡◌, ◌<◌, ◌-◌, ℕ, List, length, get_or, take, drop, Contains, Bool, true, sym, ◌∙◌, ap, subst, arith}
use Rattle.std.proofs.lemmas.Slice.{between_to_end}
use Rattle.disk_model.specs.Disk.{Image, held_now}
use Rattle.disk_memory.specs.declared.entry.Entry.{Entry}
use Rattle.disk_memory.specs.declared.entry.Entry.TheVariants.{Super}
use Rattle.disk_memory.specs.Record.{told_by, has_no_super}
use Rattle.disk_memory.specs.RecordLaws.{IsFound, found_since}

-- the part from n on
pub part : {A : Type 0} (xs ys : List A) (n : ℕ) → ys ≡ xs → take (length ys - n) (drop n ys) ≡ drop n xs
part xs ys n same = between_to_end ys n (length ys) (omega arith) ∙ ap (λ (zs : List _). drop n zs) same

pub tried_found : (first : Image) (entries slice : List Entry) (n k : ℕ) (entry : Entry) (bytes : List ℕ) (ok : Bool) → has_no_super (drop n entries) ≡ true → slice ≡ drop n entries → k < length slice → entry ≡ get_or slice k entry → entry ≡ Super bytes ok → Contains (held_now (told_by first entries)).supers bytes
tried_found first entries slice n k entry bytes ok none same within read is =
    let supers = (held_now (told_by first entries)).supers in
    let here : entry ≡ get_or (drop n entries) k entry = read ∙ ap (λ (es : List Entry). get_or es k entry) same in
    subst (IsFound supers) (sym here ∙ is) (found_since first entries n none k entry (omega (arith, within, ap length same)))
