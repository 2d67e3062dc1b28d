-- Marks of data blocks, set one after another, and the first fault.
use Rattle.std.proofs.Common.{◌≡◌, ◌≢◌, ◌<◌, ◌/◌, ℕ, zero, suc, Bool, true, false, List, [], ◌∷◌, ◌++◌, length, take, replicate, refl, sym, ap, subst, ◌≤◌, ◌∙◌, arith, inl, inr, append_assoc, append-nil, get_or-set_other, get_or-set_same, Result, Ok, Err}
use Rattle.std.specs.Prelude.{◌||◌, slice_set, slice_index_or, IfErr, OnOk}
use Rattle.std.proofs.lemmas.Bool.{cases_eq, eq-eqb, ne_eqb}
use Rattle.blk_base.specs.Address.{IsAllowed, is_allowed}
use Rattle.block_table.specs.declared.tree.Tree.{Tree}
use Rattle.block_table.specs.Table.{Table}
use Rattle.format_laws.specs.Superblock.{is_allowed-true}
use Rattle.volume_image.specs.Tree.{was_reached}
use Rattle.tree_check.specs.declared.fault.TreeFault.{TreeFault}
use Rattle.tree_check.specs.declared.fault.TreeFault.TheVariants.{Item, Outside, Twice, Incoherent, Disk, OutOfMemory}
use Rattle.tree_check.specs.declared.runs.Run.{Run}
use Rattle.tree_check.specs.Blocks.{AreMarked, AreMore, IsMarkFault, IsOnceAnswer, blocks_checked, runs_of, trees_data}
use Rattle.tree_check.proofs.Places.{to_end}
use Rattle.tree_check.proofs.Checking.{is_fresh, is_outside, is_twice}

pub mark_none : (blocks : ℕ) (marks : List Bool) → AreMore blocks marks marks []
mark_none blocks marks reached marked = record { now = reached; marked = marked; goes_on = λ rest. refl }

pub mark_more : (blocks : ℕ) (old mid new : List Bool) (near far : List ℕ) → AreMore blocks old mid near → AreMore blocks mid new far → AreMore blocks old new (near ++ far)
mark_more blocks old mid new near far one two reached marked =
    let first = one reached marked in
    let second = two first.now first.marked in
    record {
      now = second.now;
      marked = second.marked;
      goes_on = λ rest. ap (blocks_checked blocks reached) (append_assoc near far rest) ∙ first.goes_on (far ++ rest) ∙ second.goes_on rest;
    }

-- the fault of a part is that of the whole, where what is in front of the part was marked
pub mark_within : (blocks : ℕ) (old mid : List Bool) (near part far all : List ℕ) (fault : TreeFault) → AreMore blocks old mid near → all ≡ near ++ (part ++ far) → IsMarkFault blocks mid part fault → IsMarkFault blocks old all fault
mark_within blocks old mid near part far all fault more split fails reached rest marked =
    let first = more reached marked in
    ap (λ (l : List ℕ). blocks_checked blocks reached (l ++ rest)) split
    ∙ ap (blocks_checked blocks reached) (append_assoc near (part ++ far) rest ∙ ap (λ (l : List ℕ). near ++ l) (append_assoc part far rest))
    ∙ first.goes_on (part ++ (far ++ rest)) ∙ fails first.now (far ++ rest) first.marked

-- ---- one block

pub mark_outside : (blocks at : ℕ) (marks : List Bool) → is_allowed blocks at ≡ false → IsMarkFault blocks marks (at ∷ []) (Outside (record { 0 = at }))
mark_outside blocks at marks out reached rest marked = is_outside blocks at reached rest out

pub mark_twice : (blocks at : ℕ) (marks : List Bool) → IsAllowed blocks at → slice_index_or marks (at / 4096) false ≡ true → IsMarkFault blocks marks (at ∷ []) (Twice (record { 0 = at }))
mark_twice blocks at marks allowed mark reached rest marked = is_twice blocks at reached rest (is_allowed-true blocks at allowed) (sym (marked at allowed) ∙ mark)

pub mark_one : (blocks at : ℕ) (marks : List Bool) → IsAllowed blocks at → length marks ≡ blocks → slice_index_or marks (at / 4096) false ≡ false → AreMore blocks marks (slice_set marks (at / 4096) true) (at ∷ [])
mark_one blocks at marks allowed size none reached marked = record {
  now = at ∷ reached;
  marked = now_marked;
  goes_on = λ rest. is_fresh blocks at reached rest (is_allowed-true blocks at allowed) (sym (marked at allowed) ∙ none);
}
  where
    now_marked : AreMarked blocks (slice_set marks (at / 4096) true) (at ∷ reached)
    now_marked other right = elim (cases_eq (other / 4096) (at / 4096)) [
      | inl same ↦
          let whole = allowed.aligned in
          let other_whole = right.aligned in
          let is : at ≡ other = omega arith in
          let inside : at / 4096 < length marks = let below = allowed.inside in omega arith in
          ap (λ (n : ℕ). slice_index_or (slice_set marks (at / 4096) true) n false) same ∙ get_or-set_same marks (at / 4096) true false inside ∙ sym (ap (λ (b : Bool). b || was_reached other reached) (eq-eqb at other is))
      | inr apart ↦
          let differ : at ≢ other = λ is. apart (ap (λ (n : ℕ). n / 4096) (sym is)) in
          get_or-set_other marks (at / 4096) (other / 4096) true false apart ∙ marked other right ∙ sym (ap (λ (b : Bool). b || was_reached other reached) (ne_eqb at other differ))
    ]

-- ---- all

-- no mark is set yet
pub mark_start : (blocks : ℕ) → AreMarked blocks (replicate blocks false) []
mark_start blocks at allowed = none blocks (at / 4096)
  where
    none : (n i : ℕ) → slice_index_or (replicate n false) i false ≡ false
    none zero i = refl
    none (suc n) zero = refl
    none (suc n) (suc i) = none n i

pub all_marked : (blocks : ℕ) (new : List Bool) (addresses : List ℕ) → AreMore blocks (replicate blocks false) new addresses → blocks_checked blocks [] addresses ≡ Ok tt
all_marked blocks new addresses more = let last = more [] (mark_start blocks) in ap (blocks_checked blocks []) (sym (append-nil addresses)) ∙ last.goes_on []

pub none_marked : (blocks : ℕ) (addresses : List ℕ) (fault : TreeFault) → IsMarkFault blocks (replicate blocks false) addresses fault → blocks_checked blocks [] addresses ≡ Err fault
none_marked blocks addresses fault fails = ap (blocks_checked blocks []) (sym (append-nil addresses)) ∙ fails [] [] (mark_start blocks)

-- ---- what the check of trees answers

whole : (table : Table) (trees : List Tree) (place : ℕ) (runs : List Run) → length trees ≤ place → runs_of runs ≡ trees_data table (take place trees) → runs_of runs ≡ trees_data table trees
whole table trees place runs past is = is ∙ ap (trees_data table) (to_end trees place past)

fails_so : (table : Table) (trees : List Tree) (fault : TreeFault) → blocks_checked (length table.slots) [] (trees_data table trees) ≡ Err fault → IsOnceAnswer table trees (Err fault)
fails_so table trees (Item at key why) h = h
fails_so table trees (Outside at) h = h
fails_so table trees (Twice at) h = h
fails_so table trees (Incoherent ino) h = h
fails_so table trees Disk h = h
fails_so table trees OutOfMemory h = tt

pub once_is : (table : Table) (trees : List Tree) (place blocks : ℕ) (old new : List Bool) (lent runs : List Run) (result : Result (Unit {0}) TreeFault) → length trees ≤ place → runs_of runs ≡ trees_data table (take place trees) → lent ≡ runs
    → blocks ≡ length table.slots → old ≡ replicate blocks false → OnOk result (AreMore blocks old new (runs_of lent)) → IfErr result (IsMarkFault blocks old (runs_of lent)) → IsOnceAnswer table trees result
once_is table trees place blocks old new lent runs (Ok done) past are same size start more fails =
    ap (λ (n : ℕ). blocks_checked n [] (trees_data table trees)) (sym size) ∙ ap (blocks_checked blocks []) (sym (ap runs_of same ∙ whole table trees place runs past are))
    ∙ all_marked blocks new (runs_of lent) (subst (λ (marks : List Bool). AreMore blocks marks new (runs_of lent)) start more)
once_is table trees place blocks old new lent runs (Err fault) past are same size start more fails =
    fails_so table trees fault
    (ap (λ (n : ℕ). blocks_checked n [] (trees_data table trees)) (sym size) ∙ ap (blocks_checked blocks []) (sym (ap runs_of same ∙ whole table trees place runs past are))
    ∙ none_marked blocks (runs_of lent) fault (subst (λ (marks : List Bool). IsMarkFault blocks marks (runs_of lent) fault) start fails))
