-- Facts on how a volume's fields are seen, after an edit of one subvolume.
use Rattle.std.proofs.Common.{◌≡◌, ℕ, true, List, [], ◌∷◌, set, get_or, Some, None, Ok, Err, Result, sym, ap, ◌∙◌}
use Rattle.std.specs.Bool.{◌==◌}
use Rattle.std.specs.Option.{option_map, is_some}
use Rattle.std.specs.Result.{OnOk, OnErr}
use Rattle.std.specs.Cmp.{nat_cmp_total}
use Rattle.std.specs.List.{position}
use Rattle.std.specs.FinMap.{get, insert, get-from_entries}
use Rattle.std.proofs.lemmas.Bool.{eqb-true}
use Rattle.flat_sub.specs.declared.sub.FlatSub.{FlatSub}
use Rattle.flat_model.specs.Volume.{RunSub}
use Rattle.flat_volume.specs.Building.{at_sub}
use Rattle.flat_sub.specs.View.{sub_view}
use Rattle.flat_volume.specs.View.{volume_view}
use Rattle.flat_model.proofs.Maps.{insert_same, some_none}
use Rattle.flat_record.proofs.Tables.{FirstAt, position_first, position_none, find_first, find_nowhere, map_set, insert_seen, get_seen}

pub on_ok : {T E : Type 0} {P Q : Type 0} (r : Result T E) → (P → Q) → OnOk r P → OnOk r Q
on_ok (Ok x) f p = f p
on_ok (Err e) f p = p

pub on_err : {T E : Type 0} {P Q : Type 0} (r : Result T E) → (P → Q) → OnErr r P → OnErr r Q
on_err (Ok x) f p = p
on_err (Err e) f p = f p

pub key_at : {X : Type 0} (key : ℕ) (es : List (ℕ × X)) (i : ℕ) (d : ℕ × X) → FirstAt (λ (e : ℕ × X). e.0 == key) es i → (get_or es i d).0 ≡ key
key_at key [] i d at = absurd at
key_at key (e ∷ es) Prim.Native.Nat.zero d at = eqb-true e.0 key at
key_at key (e ∷ es) (Prim.Native.Nat.suc i) d at = key_at key es i d at.1

-- the subvolume at its place
pub view_at : (subs : List (ℕ × FlatSub)) (i key : ℕ) (d : ℕ × FlatSub) → position (λ (e : ℕ × FlatSub). e.0 == key) subs ≡ Some i → get (volume_view subs) key ≡ Some (sub_view (get_or subs i d).1)
view_at subs i key d at = get_seen sub_view subs key ∙ ap (option_map sub_view) (get-from_entries nat_cmp_total subs key ∙ find_first key subs i d (position_first _ subs i at))

-- and where there is none
pub view_nowhere : (subs : List (ℕ × FlatSub)) (key : ℕ) → position (λ (e : ℕ × FlatSub). e.0 == key) subs ≡ None → get (volume_view subs) key ≡ None
view_nowhere subs key none = get_seen sub_view subs key ∙ ap (option_map sub_view) (get-from_entries nat_cmp_total subs key ∙ find_nowhere key subs (position_none _ subs none))

-- another subvolume in place of one
pub view_set : (subs : List (ℕ × FlatSub)) (i key : ℕ) (lent : ℕ × FlatSub) (new : FlatSub) (change : RunSub → RunSub) → position (λ (e : ℕ × FlatSub). e.0 == key) subs ≡ Some i → lent ≡ get_or subs i lent → sub_view new ≡ change (sub_view lent.1) → volume_view (set subs i (lent.0, new)) ≡ at_sub (volume_view subs) key change
view_set subs i key lent new change at is changed =
    let key_is : lent.0 ≡ key = ap (λ (e : ℕ × FlatSub). e.0) is ∙ key_at key subs i lent (position_first _ subs i at) in
    let there : get (volume_view subs) key ≡ Some (sub_view lent.1) = view_at subs i key lent at ∙ ap (λ (e : ℕ × FlatSub). Some (sub_view e.1)) (sym is) in
    ap (λ k. volume_view (set subs i (k, new))) key_is
    ∙ insert_seen sub_view (set subs i (key, new)) subs key new (map_set key new subs i at)
    ∙ ap (insert (volume_view subs) key) changed
    ∙ sym (ap (λ o. elim o [ None ↦ volume_view subs | Some sub ↦ insert (volume_view subs) key (change sub) ]) there)

-- the same subvolume in place of one
pub view_same : (subs : List (ℕ × FlatSub)) (i key : ℕ) (lent : ℕ × FlatSub) (new : FlatSub) → position (λ (e : ℕ × FlatSub). e.0 == key) subs ≡ Some i → lent ≡ get_or subs i lent → sub_view new ≡ sub_view lent.1 → volume_view (set subs i (lent.0, new)) ≡ volume_view subs
view_same subs i key lent new at is same =
    let there : get (volume_view subs) key ≡ Some (sub_view lent.1) = view_at subs i key lent at ∙ ap (λ (e : ℕ × FlatSub). Some (sub_view e.1)) (sym is) in
    view_set subs i key lent new (λ sub. sub) at is same
    ∙ ap (λ o. elim o [ None ↦ volume_view subs | Some sub ↦ insert (volume_view subs) key sub ]) there
    ∙ insert_same (volume_view subs) key (sub_view lent.1) there

-- where there is a place, there is a subvolume
pub view_somewhere : (subs : List (ℕ × FlatSub)) (i key : ℕ) → position (λ (e : ℕ × FlatSub). e.0 == key) subs ≡ Some i → is_some (get (volume_view subs) key) ≡ true
view_somewhere [] i key at = absurd (some_none i (sym at))
view_somewhere (first ∷ subs) i key at = ap is_some (view_at (first ∷ subs) i key first at)
