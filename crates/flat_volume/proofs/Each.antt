-- What holds of each subvolume, by the list and by the numbers, and the entries of a list whose numbers rise.
use Rattle.std.proofs.Common.{◌≡◌, ◌≢◌, ℕ, zero, suc, ◌<◌, Bool, true, false, cond, ◌&&◌, List, [], ◌∷◌, map, length, get_or, Option, Some, None, refl, sym, ap, subst, ◌∙◌, arith}
use Rattle.std.specs.Option.{option_map}
use Rattle.std.specs.Ordering.{nat_cmp, is_lt, eq_by_cmp}
use Rattle.std.specs.Cmp.{nat_cmp_total, tied_itself, unsigned_tied}
use Rattle.std.specs.List.{All}
use Rattle.std.specs.FinMap.{get, len, keys, from_entries, is_sorted, get-from_entries, len-entries}
use Rattle.std.specs.FinMap.Entries.{find, below_all}
use Rattle.std.proofs.lemmas.Bool.{and_parts, true≢false, ne_eqb, eq-eqb}
use Rattle.blk_base.specs.declared.key.Ino.{Ino}
use Rattle.flat_model.specs.Records.{InodeRecord}
use Rattle.flat_model.specs.Volume.{Subvolume, RunSub, volume_of}
use Rattle.flat_model.specs.Coherent.{IsCoherent, IsCoherentVolume}
use Rattle.flat_model.proofs.Histories.{get_volume_of}
use Rattle.flat_sub.specs.declared.sub.FlatSub.{FlatSub}
use Rattle.flat_sub.specs.View.{sub_view}
use Rattle.flat_volume.specs.View.{volume_view}
use Rattle.flat_model.proofs.Maps.{some_same, some_none}
use Rattle.flat_record.proofs.Tables.{get_seen, entries_rising}

-- whether the numbers rise depends on the numbers alone
module _ {X Y : Type 0} (f : X → Y) where
  below_map : (key : ℕ) (es : List (ℕ × X)) → below_all nat_cmp key (map (λ (e : ℕ × X). (e.0, f e.1)) es) ≡ below_all nat_cmp key es
  below_map key [] = refl
  below_map key (e ∷ es) = ap (λ b. is_lt (nat_cmp key e.0) && b) (below_map key es)

  pub rising_map : (es : List (ℕ × X)) → is_sorted nat_cmp (map (λ (e : ℕ × X). (e.0, f e.1)) es) ≡ is_sorted nat_cmp es
  rising_map [] = refl
  rising_map (e ∷ es) = λ i. below_map e.0 es i && rising_map es i

  length_map : (es : List (ℕ × X)) → length {A = ℕ × Y} (map (λ (e : ℕ × X). (e.0, f e.1)) es) ≡ length es
  length_map [] = refl
  length_map (e ∷ es) = ap suc (length_map es)

  -- how many entries a map has that was made of them
  pub len_rising : (es : List (ℕ × X)) → is_sorted nat_cmp es ≡ true → len (from_entries {R = nat_cmp} (map (λ (e : ℕ × X). (e.0, f e.1)) es)) ≡ length es
  len_rising es rises = len-entries _ ∙ ap (length {A = ℕ × Y}) (entries_rising nat_cmp_total (map (λ (e : ℕ × X). (e.0, f e.1)) es) (rising_map es ∙ rises)) ∙ length_map es

-- the numbers of inodes, in rising order
abbrev pub ino_of : ℕ × InodeRecord → Ino
ino_of e = record { 0 = e.0 }

numbers_mapped : (es : List (ℕ × InodeRecord)) → map ino_of es ≡ map (λ (ino : ℕ). record { 0 = ino }) (map (λ (e : ℕ × InodeRecord). e.0) es)
numbers_mapped [] = refl
numbers_mapped (e ∷ es) = ap (λ inos. ino_of e ∷ inos) (numbers_mapped es)

pub inos_rising : (es : List (ℕ × InodeRecord)) → is_sorted nat_cmp es ≡ true → map ino_of es ≡ map (λ (ino : ℕ). record { 0 = ino }) (keys (from_entries {R = nat_cmp} es))
inos_rising es rises = numbers_mapped es ∙ ap (λ all. map (λ (ino : ℕ). record { 0 = ino }) (map (λ (e : ℕ × InodeRecord). e.0) all)) (sym (entries_rising nat_cmp_total es rises))

-- ---- entries by their numbers

-- the entry of a number is one of the list
module _ {X : Type 0} (P : X → Type 0) where
  found_from : (b : Bool) (here : X) (q : ℕ) (es : List (ℕ × X)) (x : X) → P here → (find nat_cmp q es ≡ Some x → P x) → cond b (Some here) (find nat_cmp q es) ≡ Some x → P x
  found_from true here q es x p rest e = subst P (some_same here x e) p
  found_from false here q es x p rest e = rest e

  pub each_found : (es : List (ℕ × X)) → All (λ (e : ℕ × X). P e.1) es → (q : ℕ) (x : X) → find nat_cmp q es ≡ Some x → P x
  each_found [] each q x e = absurd (some_none x (sym e))
  each_found (first ∷ es) each q x e = found_from (eq_by_cmp nat_cmp q first.0) first.1 q es x (each 0 first (omega arith)) (each_found es (λ k d below. each (suc k) d (omega arith)) q x) e

-- and where the numbers rise, each entry is the one of its number
below_each : {X : Type 0} (key : ℕ) (es : List (ℕ × X)) → below_all nat_cmp key es ≡ true → (k : ℕ) (d : ℕ × X) → k < length es → is_lt (nat_cmp key (get_or es k d).0) ≡ true
below_each key [] below k d less = absurd (omega arith)
below_each key (e ∷ es) below zero d less = (and_parts _ _ below).0
below_each key (e ∷ es) below (suc k) d less = below_each key es (and_parts _ _ below).1 k d (omega arith)

less_apart : (a b : ℕ) → is_lt (nat_cmp a b) ≡ true → b ≢ a
less_apart a b less same = true≢false (sym less ∙ ap (λ x. is_lt (nat_cmp a x)) same ∙ ap is_lt (tied_itself nat_cmp_total a))

pub found_each : {X : Type 0} (es : List (ℕ × X)) → is_sorted nat_cmp es ≡ true → (k : ℕ) (d : ℕ × X) → k < length es → find nat_cmp (get_or es k d).0 es ≡ Some (get_or es k d).1
found_each [] rises k d less = absurd (omega arith)
found_each (e ∷ es) rises zero d less = ap (λ b. cond b (Some e.1) (find nat_cmp e.0 es)) (unsigned_tied e.0 e.0 ∙ eq-eqb e.0 e.0 refl)
found_each (e ∷ es) rises (suc k) d less =
    let parts = and_parts _ _ rises in
    let q = (get_or es k d).0 in
    ap (λ b. cond b (Some e.1) (find nat_cmp q es)) (unsigned_tied q e.0 ∙ ne_eqb q e.0 (less_apart e.0 q (below_each e.0 es parts.0 k d (omega arith)))) ∙ found_each es parts.1 k d (omega arith)

-- ---- coherence

abbrev IsCoherentEntry : FlatSub → Type 0
IsCoherentEntry sub = IsCoherent (sub_view sub).sub

there : (id : ℕ) (subs : List (ℕ × FlatSub)) → get (volume_of (volume_view subs)) id ≡ option_map (λ (run : RunSub). run.sub) (option_map sub_view (find nat_cmp id subs))
there id subs = get_volume_of (volume_view subs) id ∙ ap (option_map (λ (run : RunSub). run.sub)) (get_seen sub_view subs id ∙ ap (option_map sub_view) (get-from_entries nat_cmp_total subs id))

found_there : (o : Option FlatSub) (sub : Subvolume) → option_map (λ (run : RunSub). run.sub) (option_map sub_view o) ≡ Some sub → ((found : FlatSub) → o ≡ Some found → IsCoherentEntry found) → IsCoherent sub
found_there None sub e each = absurd (some_none sub (sym e))
found_there (Some found) sub e each = subst IsCoherent (some_same _ sub e) (each found refl)

pub coherent_all : (subs : List (ℕ × FlatSub)) → All (λ (e : ℕ × FlatSub). IsCoherentEntry e.1) subs → IsCoherentVolume (volume_of (volume_view subs))
coherent_all subs each id sub is = found_there (find nat_cmp id subs) sub (sym (there id subs) ∙ is) (λ found e. each_found IsCoherentEntry subs each id found e)

pub all_coherent : (subs : List (ℕ × FlatSub)) → is_sorted nat_cmp subs ≡ true → IsCoherentVolume (volume_of (volume_view subs)) → All (λ (e : ℕ × FlatSub). IsCoherentEntry e.1) subs
all_coherent subs rises coherent k d below =
    coherent (get_or subs k d).0 (sub_view (get_or subs k d).1).sub (there (get_or subs k d).0 subs ∙ ap (λ o. option_map (λ (run : RunSub). run.sub) (option_map sub_view o)) (found_each subs rises k d below))
