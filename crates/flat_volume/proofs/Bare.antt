-- The bare volume, and lists of names without their marks.
use Rattle.std.proofs.Common.{◌≡◌, ℕ, zero, suc, ◌+◌, Bool, true, false, cond, List, [], ◌∷◌, ◌++◌, map, length, Option, Some, None, refl, sym, ap, subst, ◌∙◌, arith}
use Rattle.std.specs.Ordering.{nat_cmp}
use Rattle.std.specs.Cmp.{nat_cmp_total}
use Rattle.std.specs.List.{range_with_len, fold}
use Rattle.std.specs.FinMap.{FinMap, get, empty, from_entries, entries, keys, entries-insert, len-entries, len-empty, len, same_map, nat_cmp-IsAntisymmetric}
use Rattle.std.specs.FinMap.Entries.{put}
use Rattle.std.proofs.lemmas.List.FromFn.{map-range_with_len_more}
use Rattle.flat_model.specs.declared.view.NameAt.{NameAt}
use Rattle.flat_model.specs.Records.{InodeRecord, new_dir}
use Rattle.flat_model.specs.Volume.{Subvolume, RunSub, bare_subvolume, bare_volume, bare_numbers, numbers_at_mount, mounted, subvolume_ids, note_ino}
use Rattle.flat_sub.specs.Building.{bare_run}
use Rattle.flat_model.specs.Unmarked.{unmarked}
use Rattle.std.specs.Bool.{nat_eq}
use Rattle.flat_sub.specs.declared.sub.FlatSub.{FlatSub}
use Rattle.flat_sub.specs.View.{names_view, sub_view}
use Rattle.flat_model.proofs.Maps.{no_length}
use Rattle.flat_record.proofs.Tables.{get_seen}
use Rattle.flat_model.proofs.Histories.{get_mounted}

empty_entries : (m : FinMap nat_cmp InodeRecord) → m ≡ empty → entries m ≡ []
empty_entries m e = no_length (entries m) (sym (len-entries m) ∙ ap len e ∙ len-empty _ _)

bare_keys : keys (bare_subvolume.inodes) ≡ 256 ∷ []
bare_keys = ap (map (λ (e : ℕ × InodeRecord). e.0)) (entries-insert nat_cmp_total empty 256 new_dir ∙ ap (put nat_cmp 256 new_dir) (empty_entries empty refl))

pub bare_numbers_at_mount : numbers_at_mount bare_subvolume ≡ bare_numbers
unfolding numbers_at_mount
bare_numbers_at_mount = ap (fold note_ino bare_numbers) bare_keys

abbrev pub bare_entry : ℕ → ℕ × RunSub
bare_entry id = (id, bare_run)

-- the first so many entries of a bare volume
abbrev pub listed : ℕ → List (ℕ × RunSub)
listed count = map bare_entry (subvolume_ids count)

abbrev bare_pair : ℕ → ℕ × Subvolume
bare_pair id = (id, bare_subvolume)

abbrev mount_pair : ℕ × Subvolume → ℕ × RunSub
mount_pair e = (e.0, record { sub = e.1; numbers = numbers_at_mount e.1 })

-- the entries of bare subvolumes at the mount
pub bare_mounted : (count : ℕ) → mounted (bare_volume count) ≡ from_entries {R = nat_cmp} (listed count)
bare_mounted count = same_map nat_cmp_total nat_cmp-IsAntisymmetric _ _ (λ q.
    get_mounted (bare_volume count) q
    ∙ sym (get_seen (λ (sub : Subvolume). record { sub = sub; numbers = numbers_at_mount sub }) (map bare_pair (subvolume_ids count)) q)
    ∙ ap (λ es. get (from_entries {R = nat_cmp} es) q) (twice (subvolume_ids count)))
  where
    twice : (ids : List ℕ) → map mount_pair (map bare_pair ids) ≡ map bare_entry ids
    twice [] = refl
    twice (id ∷ ids) = λ i. (id, record { sub = bare_subvolume; numbers = bare_numbers_at_mount i }) ∷ twice ids i

range_more : (a n : ℕ) → range_with_len a (n + 1) ≡ range_with_len a n ++ (a + n) ∷ []
range_more a n = sym (same (range_with_len a (n + 1))) ∙ map-range_with_len_more (λ (k : ℕ). k) a n (a + n) refl ∙ ap (λ xs. xs ++ (a + n) ∷ []) (same (range_with_len a n))
  where
    same : (xs : List ℕ) → map (λ (k : ℕ). k) xs ≡ xs
    same [] = refl
    same (x ∷ xs) = λ i. x ∷ same xs i

-- the numbers of one subvolume more
pub ids_first : subvolume_ids (0 + 1) ≡ subvolume_ids 0 ++ 5 ∷ []
ids_first = refl

pub ids_more : (count id : ℕ) → id ≡ 256 + count → subvolume_ids (suc count + 1) ≡ subvolume_ids (suc count) ++ id ∷ []
ids_more count id is = ap subvolume_ids (Rattle.std.proofs.Common.add-one (suc count)) ∙ ap (λ xs. 5 ∷ xs) (ap (range_with_len 256) (sym (Rattle.std.proofs.Common.add-one count)) ∙ range_more 256 count ∙ ap (λ k. range_with_len 256 count ++ k ∷ []) (sym is))

-- the names without their marks
pub unmarked_names : (ats : List NameAt) (nears : List Bool) → length nears ≡ length ats → map unmarked (names_view ats nears) ≡ ats
unmarked_names [] nears e = refl
unmarked_names (at ∷ ats) [] e = absurd (omega arith)
unmarked_names (at ∷ ats) (near ∷ nears) e = ap (λ xs. at ∷ xs) (unmarked_names ats nears (omega arith))

-- the subvolumes that were made so far
abbrev pub seen : List (ℕ × FlatSub) → List (ℕ × RunSub)
seen made = map (λ (e : ℕ × FlatSub). (e.0, sub_view e.1)) made

pub seen_push : (made : List (ℕ × FlatSub)) (entry : ℕ × FlatSub) → seen (made ++ entry ∷ []) ≡ seen made ++ (entry.0, sub_view entry.1) ∷ []
seen_push [] entry = refl
seen_push (first ∷ made) entry = ap (λ es. (first.0, sub_view first.1) ∷ es) (seen_push made entry)

listed_push : (ids : List ℕ) (id : ℕ) → map bare_entry (ids ++ id ∷ []) ≡ map bare_entry ids ++ bare_entry id ∷ []
listed_push [] id = refl
listed_push (first ∷ ids) id = ap (λ es. bare_entry first ∷ es) (listed_push ids id)

ids_push : (count id : ℕ) → id ≡ cond (nat_eq count 0) 5 (255 + count) → subvolume_ids (count + 1) ≡ subvolume_ids count ++ id ∷ []
ids_push zero id is = ap (λ k. k ∷ []) (sym is)
ids_push (suc count) id is = let plain : id ≡ 255 + suc count = is ∙ ap (λ b. cond b 5 (255 + suc count)) (Rattle.std.proofs.lemmas.Bool.ne_eqb (suc count) 0 (λ e. omega (arith, e))) in ids_more count id (omega (arith, plain))

pub bare_more : (count id : ℕ) (made new : List (ℕ × FlatSub)) (sub : FlatSub) → new ≡ made ++ (id, sub) ∷ [] → id ≡ cond (nat_eq count 0) 5 (255 + count) → sub_view sub ≡ bare_run → seen made ≡ listed count → seen new ≡ listed (count + 1)
bare_more count id made new sub is id_is view before =
    ap seen is ∙ seen_push made (id, sub) ∙ (λ i. before i ++ (id, view i) ∷ []) ∙ sym (ap (map bare_entry) (ids_push count id id_is) ∙ listed_push (subvolume_ids count) id)
