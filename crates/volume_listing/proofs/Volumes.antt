-- The listing of a volume by its subvolumes as the code has them.
use Rattle.std.proofs.Common.{◌≡◌, ℕ, ◌+◌, ◌&&◌, List, [], ◌∷◌, ◌++◌, map, refl, sym, ap, ◌∙◌}
use Rattle.std.specs.Ordering.{nat_cmp, is_lt}
use Rattle.std.specs.Cmp.{nat_cmp_total}
use Rattle.std.specs.List.{flat_map, sum_by}
use Rattle.std.specs.FinMap.{entries, entries_sorted, is_sorted}
use Rattle.std.specs.FinMap.Entries.{below_all}
use Rattle.std.proofs.lemmas.List.Sums.{sum_by-cons}
use Rattle.flat_model.specs.Volume.{Subvolume, RunSub, RunVolume, volume_of}
use Rattle.flat_sub.specs.declared.sub.FlatSub.{FlatSub}
use Rattle.flat_sub.specs.View.{sub_view}
use Rattle.flat_record.proofs.Tables.{is_true, entries_rising}
use Rattle.volume_listing.specs.Listing.{part_of, count_of, done_line, listing_of}
use Rattle.volume_listing.specs.Parts.{part_at, count_at}
use Rattle.volume_listing.proofs.Ways.{flat_map_map}

-- whether the numbers rise depends on the numbers alone
below_seen : (k : ℕ) (es : List (ℕ × RunSub)) → below_all nat_cmp k (map (λ (e : ℕ × RunSub). (e.0, e.1.sub)) es) ≡ below_all nat_cmp k es
below_seen k [] = refl
below_seen k (e ∷ es) = ap (λ b. is_lt (nat_cmp k e.0) && b) (below_seen k es)

rising_seen : (es : List (ℕ × RunSub)) → is_sorted nat_cmp (map (λ (e : ℕ × RunSub). (e.0, e.1.sub)) es) ≡ is_sorted nat_cmp es
rising_seen [] = refl
rising_seen (e ∷ es) = λ i. below_seen e.0 es i && rising_seen es i

-- the subvolumes of a volume in its run
volume_entries : (run : RunVolume) → entries (volume_of run) ≡ map (λ (e : ℕ × RunSub). (e.0, e.1.sub)) (entries run)
unfolding volume_of
volume_entries run = entries_rising nat_cmp_total (map (λ (e : ℕ × RunSub). (e.0, e.1.sub)) (entries run)) (rising_seen (entries run) ∙ is_true _ (entries_sorted run))

sum_by_map : {A B : Type 0} (f : B → ℕ) (g : A → B) (xs : List A) → sum_by f (map g xs) ≡ sum_by (λ x. f (g x)) xs
sum_by_map f g [] = refl
sum_by_map f g (x ∷ xs) = sum_by-cons f (g x) (map g xs) ∙ ap (λ n. f (g x) + n) (sum_by_map f g xs) ∙ sym (sum_by-cons (λ y. f (g y)) x xs)

map_map : {A B C : Type 0} (f : B → C) (g : A → B) (xs : List A) → map f (map g xs) ≡ map (λ x. f (g x)) xs
map_map f g [] = refl
map_map f g (x ∷ xs) = ap (λ l. f (g x) ∷ l) (map_map f g xs)

abbrev as_sub : ℕ × FlatSub → ℕ × Subvolume
as_sub e = (e.0, (sub_view e.1).sub)

pub listing_from : (run : RunVolume) (subs : List (ℕ × FlatSub)) → map (λ (e : ℕ × FlatSub). (e.0, sub_view e.1)) subs ≡ entries run → listing_of (volume_of run) ≡ flat_map part_at subs ++ done_line (sum_by count_at subs)
unfolding listing_of
listing_from run subs is =
    let seen = volume_entries run ∙ ap (map (λ (e : ℕ × RunSub). (e.0, e.1.sub))) (sym is) ∙ map_map (λ (e : ℕ × RunSub). (e.0, e.1.sub)) (λ (e : ℕ × FlatSub). (e.0, sub_view e.1)) subs in
    ap (λ (es : List (ℕ × Subvolume)). flat_map part_of es ++ done_line (sum_by (λ (e : ℕ × Subvolume). count_of e.1) es)) seen
    ∙ (λ i. flat_map_map part_of as_sub subs i ++ done_line (sum_by_map (λ (e : ℕ × Subvolume). count_of e.1) as_sub subs i))
