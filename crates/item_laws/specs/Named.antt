-- The answer of a reader of names, case by case.
use Rattle.std.proofs.Common.{◌≡◌, ℕ, suc, Bool, true, false, eqb, ltb, ◌&&◌, ◌||◌, List, [], ◌∷◌, length, Option, Some, None, Result, Ok, Err, refl, ap, sym, ◌∙◌, arith}
use Rattle.std.proofs.lemmas.Bool.{false≢true, eqb-true}
use Rattle.std.specs.List.{list_all}
use Rattle.std.specs.Option.{is_some, unwrap_or}
use Rattle.blk_base.specs.declared.fault.ItemFault.{ItemFault}
use Rattle.blk_base.specs.declared.fault.ItemFault.TheVariants.{Size, NameLen, Cut, Kind, Twice}
use Rattle.blk_base.specs.Keys.{dir_index}
use Rattle.blk_base.specs.Entries.{EntryValue, has_twice, is_entry_kind, with_kinds, with_names}

module _ {E : Type 0} (good : List ℕ → Bool) (name : E → List ℕ) where
  abbrev all_good : List E → Bool
  all_good entries = list_all (λ (e : E). good (name e)) entries

  pub with_names-empty : (bytes : List ℕ) (o : Option (List E)) → eqb (length bytes) 0 ≡ true → Err Size ≡ with_names good name bytes o
  with_names-empty [] o h = refl
  with_names-empty (b ∷ bytes) o h = let e : suc (length bytes) ≡ 0 = eqb-true (suc (length bytes)) 0 h in absurd (omega (arith, e))

  pub with_names-cut : (bytes : List ℕ) (o : Option (List E)) → eqb (length bytes) 0 ≡ false → is_some o ≡ false → Err Cut ≡ with_names good name bytes o
  with_names-cut [] o h s = absurd (false≢true (sym h))
  with_names-cut (b ∷ bytes) None h s = refl
  with_names-cut (b ∷ bytes) (Some x) h s = absurd (false≢true (sym s))

  pub with_names-bad : (bytes : List ℕ) (o : Option (List E)) → eqb (length bytes) 0 ≡ false → is_some o ≡ true → all_good (unwrap_or o []) ≡ false → Err NameLen ≡ with_names good name bytes o
  with_names-bad [] o h s a = absurd (false≢true (sym h))
  with_names-bad (b ∷ bytes) None h s a = absurd (false≢true s)
  with_names-bad (b ∷ bytes) (Some x) h s a = rw a refl

  pub with_names-good : (bytes : List ℕ) (o : Option (List E)) → eqb (length bytes) 0 ≡ false → is_some o ≡ true → all_good (unwrap_or o []) ≡ true → Ok (unwrap_or o []) ≡ with_names good name bytes o
  with_names-good [] o h s a = absurd (false≢true (sym h))
  with_names-good (b ∷ bytes) None h s a = absurd (false≢true s)
  with_names-good (b ∷ bytes) (Some x) h s a = rw a refl

-- a fault of a name comes before that of a type
pub with_kinds-fault : (kind : ℕ) (fault : ItemFault) (r : Result (List EntryValue) ItemFault) → Err fault ≡ r → Err fault ≡ with_kinds kind r
with_kinds-fault kind fault r e = ap (with_kinds kind) e

pub with_kinds-bad : (kind : ℕ) (entries : List EntryValue) (r : Result (List EntryValue) ItemFault) → Ok entries ≡ r → list_all (is_entry_kind kind) entries ≡ false → Err Kind ≡ with_kinds kind r
with_kinds-bad kind entries r e a =
    let bad : Err Kind ≡ with_kinds kind (Ok entries) = rw a refl in bad ∙ ap (with_kinds kind) e

pub with_kinds-twice : (kind : ℕ) (entries : List EntryValue) (r : Result (List EntryValue) ItemFault) → Ok entries ≡ r → list_all (is_entry_kind kind) entries ≡ true
    → (has_twice entries || (eqb kind dir_index && ltb 1 (length entries))) ≡ true → Err Twice ≡ with_kinds kind r
with_kinds-twice kind entries r e a t =
    let twice : Err Twice ≡ with_kinds kind (Ok entries) = rw (a, t) refl in twice ∙ ap (with_kinds kind) e

pub with_kinds-good : (kind : ℕ) (entries : List EntryValue) (r : Result (List EntryValue) ItemFault) → Ok entries ≡ r → list_all (is_entry_kind kind) entries ≡ true
    → (has_twice entries || (eqb kind dir_index && ltb 1 (length entries))) ≡ false → Ok entries ≡ with_kinds kind r
with_kinds-good kind entries r e a t =
    let good : Ok entries ≡ with_kinds kind (Ok entries) = rw (a, t) refl in good ∙ ap (with_kinds kind) e
