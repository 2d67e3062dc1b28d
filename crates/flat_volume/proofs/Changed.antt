-- A subvolume in which one inode's record was changed, and a volume in which an operation was carried out.
use Rattle.std.proofs.Common.{◌≡◌, ℕ, ◌+◌, true, List, set, get_or, Some, None, refl, sym, ap, subst, ◌∙◌}
use Rattle.std.specs.Bool.{◌==◌}
use Rattle.std.specs.Ordering.{nat_cmp}
use Rattle.std.specs.Cmp.{nat_cmp_total}
use Rattle.std.specs.List.{position}
use Rattle.std.specs.FinMap.{get, insert, from_entries, get-from_entries}
use Rattle.blk_base.specs.declared.key.SubId.{SubId}
use Rattle.flat_model.specs.declared.answer.Answer.{Answer}
use Rattle.flat_model.specs.declared.op.Op.{Op}
use Rattle.flat_model.specs.Records.{InodeRecord}
use Rattle.flat_model.specs.Names.{FlatName}
use Rattle.flat_model.specs.Volume.{RunNumbers, RunSub, RunVolume}
use Rattle.flat_model.specs.Step.{is_within_sub, outcome_of, place_of}
use Rattle.flat_model.proofs.Maps.{insert_same}
use Rattle.flat_record.proofs.Tables.{position_first, position_none, position_below, find_first, find_nowhere, map_set}
use Rattle.flat_sub.specs.declared.sub.FlatSub.{FlatSub}
use Rattle.flat_sub.specs.View.{sub_view, IsWellKept}
use Rattle.flat_sub.specs.Ends.{ComesTo}
use Rattle.flat_volume.specs.View.{volume_view, AreWellKept}
use Rattle.flat_volume.specs.Building.{at_inode, record_in}
use Rattle.flat_volume.specs.Indexes.{indexes_above}
use Rattle.flat_volume.specs.Applying.{IsApplied}
use Rattle.flat_volume.proofs.Views.{key_at, view_at, view_set}
use Rattle.flat_volume.proofs.Choosing.{applied_within}

-- the value at its place, and where there is none
module _ {X : Type 0} (es : List (ℕ × X)) (key : ℕ) where
  pub entry_at : (i : ℕ) (lent : ℕ × X) → position (λ (e : ℕ × X). e.0 == key) es ≡ Some i → lent ≡ get_or es i lent → get (from_entries {R = nat_cmp} es) key ≡ Some lent.1
  entry_at i lent at is = get-from_entries nat_cmp_total es key ∙ find_first key es i lent (position_first _ es i at) ∙ ap (λ (e : ℕ × X). Some e.1) (sym is)

  pub entry_nowhere : position (λ (e : ℕ × X). e.0 == key) es ≡ None → get (from_entries {R = nat_cmp} es) key ≡ None
  entry_nowhere none = get-from_entries nat_cmp_total es key ∙ find_nowhere key es (position_none _ es none)

abbrev run_of : List (ℕ × InodeRecord) → List FlatName → RunNumbers → RunSub
run_of es names numbers = record { sub = record { inodes = from_entries es; names = names }; numbers = numbers }

-- another record in place of one
pub inode_set : (es : List (ℕ × InodeRecord)) (names : List FlatName) (numbers : RunNumbers) (i key : ℕ) (lent : ℕ × InodeRecord) (inode : InodeRecord) (change : InodeRecord → InodeRecord)
    → position (λ (e : ℕ × InodeRecord). e.0 == key) es ≡ Some i → lent ≡ get_or es i lent → inode ≡ change lent.1 → run_of (set es i (lent.0, inode)) names numbers ≡ at_inode key change (run_of es names numbers)
inode_set es names numbers i key lent inode change at is changed =
    let key_is : lent.0 ≡ key = ap (λ (e : ℕ × InodeRecord). e.0) is ∙ key_at key es i lent (position_first _ es i at) in
    let run : RunSub = run_of es names numbers in
    ap (λ k. run_of (set es i (k, inode)) names numbers) key_is
    ∙ ap (λ inodes. record { sub = record { inodes = inodes; names = names }; numbers = numbers }) (map_set key inode es i at)
    ∙ ap (λ made. record { sub = record { inodes = insert (from_entries es) key made; names = names }; numbers = numbers }) changed
    ∙ sym (ap (λ o. elim o [ None ↦ run | Some here ↦ record { sub = record { inodes = insert (from_entries es) key (change here); names = names }; numbers = numbers } ]) (entry_at es key i lent at is))

-- the same record in place of one
pub inode_same : (es : List (ℕ × InodeRecord)) (names : List FlatName) (numbers : RunNumbers) (i key : ℕ) (lent : ℕ × InodeRecord) (inode : InodeRecord)
    → position (λ (e : ℕ × InodeRecord). e.0 == key) es ≡ Some i → lent ≡ get_or es i lent → inode ≡ lent.1 → run_of (set es i (lent.0, inode)) names numbers ≡ run_of es names numbers
inode_same es names numbers i key lent inode at is same =
    let run : RunSub = run_of es names numbers in
    inode_set es names numbers i key lent inode (λ here. here) at is same
    ∙ ap (λ o. elim o [ None ↦ run | Some here ↦ record { sub = record { inodes = insert (from_entries es) key here; names = names }; numbers = numbers } ]) (entry_at es key i lent at is)
    ∙ ap (λ inodes. record { sub = record { inodes = inodes; names = names }; numbers = numbers }) (insert_same (from_entries es) key lent.1 (entry_at es key i lent at is))

-- the record of an inode in a subvolume that is there, and in none
pub record_there : (run : RunVolume) (id ino : ℕ) (sub : RunSub) → get run id ≡ Some sub → record_in run id ino ≡ get sub.sub.inodes ino
record_there run id ino sub there = ap (λ o. elim o [ None ↦ None | Some s ↦ get s.sub.inodes ino ]) there

pub record_nowhere : (run : RunVolume) (id ino : ℕ) → get run id ≡ None → record_in run id ino ≡ None
record_nowhere run id ino nowhere = ap (λ o. elim o [ None ↦ None | Some s ↦ get s.sub.inodes ino ]) nowhere

-- an operation was carried out in the subvolume of its places
pub applied_at : (subs : List (ℕ × FlatSub)) (at : ℕ) (op : Op) (id : SubId) (lent : ℕ × FlatSub) (new : FlatSub) (answer : Answer)
    → id ≡ (place_of op).sub → is_within_sub op ≡ true → position (λ (e : ℕ × FlatSub). e.0 == id.0) subs ≡ Some at → lent ≡ get_or subs at lent → AreWellKept subs
    → ComesTo (outcome_of (sub_view lent.1) op (indexes_above lent.1.last_index)) (sub_view new) answer → IsApplied (volume_view subs) (volume_view (set subs at (lent.0, new))) op answer
applied_at subs at op id lent new answer id_is within place is kept comes =
    let run : RunVolume = volume_view subs in
    let key_is : id.0 ≡ (place_of op).sub.0 = ap (λ (s : SubId). s.0) id_is in
    let there : get run id.0 ≡ Some (sub_view lent.1) = view_at subs at id.0 lent place ∙ ap (λ (e : ℕ × FlatSub). Some (sub_view e.1)) (sym is) in
    let well : IsWellKept lent.1 = subst (λ (e : ℕ × FlatSub). IsWellKept e.1) (sym is) (kept.each at lent (position_below _ subs at place)) in
    applied_within run (sub_view lent.1) op (ap (get run) (sym key_is) ∙ there) within well.covered (volume_view (set subs at (lent.0, new))) (sub_view new) answer
    (view_set subs at id.0 lent new (λ _. sub_view new) place is refl ∙ ap (λ o. elim o [ None ↦ run | Some s ↦ insert run id.0 (sub_view new) ]) there ∙ ap (λ k. insert run k (sub_view new)) key_is)
    comes.next comes.answer
