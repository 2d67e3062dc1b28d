-- Whether a way leads up from a directory to inode 256.
use Rattle.std.specs.Prelude.{◌≡◌, ◌≤◌, ◌⊎◌, ℕ, zero, suc, List, [], ◌∷◌, ◌++◌, length, Contains}
use Rattle.std.proofs.Common.{refl, subst, arith, inl, inr}
use Rattle.flat_model.specs.Names.{FlatName}
use Rattle.flat_model.specs.Coherent.{LeadsUp}
use Rattle.volume_image.proofs.Lists.{in_cons, in_nothing}
use Rattle.image_faults.specs.Faulty.{StandOnce}
use Rattle.image_faults.specs.Decisions.{map_told, both_told, either_told, same_number, one_in, is_in}
use Rattle.image_faults.specs.Lists.{split_at, fewer}

-- ---- a way without a name twice

-- what leads up from where a name on the way stands
rest_leads : (names : List FlatName) (dir : ℕ) (front : List FlatName) (name : FlatName) (back : List FlatName) → LeadsUp names dir (front ++ (name ∷ back)) → LeadsUp names name.ino (name ∷ back)
rest_leads names dir [] name back up = (up.0, refl, up.2)
rest_leads names dir (first ∷ front) name back up = rest_leads names first.dir front name back up.2

rest_once : (front : List FlatName) (name : FlatName) (back : List FlatName) → StandOnce (front ++ (name ∷ back)) → StandOnce (name ∷ back)
rest_once [] name back once = once
rest_once (first ∷ front) name back once = rest_once front name back once.1

-- a way can be gone without a name twice
short_way : ((a b : FlatName) → Dec (a ≡ b)) → (names : List FlatName) (dir : ℕ) (way : List FlatName) → LeadsUp names dir way → (short : List FlatName) × LeadsUp names dir short × StandOnce short
short_way same names dir [] up = ([], up, tt)
short_way same names dir (name ∷ way) up =
    let rest = short_way same names name.dir way up.2 in go rest.0 rest.1 rest.2 (is_in same rest.0 name)
  where
    go : (short : List FlatName) → LeadsUp names name.dir short → StandOnce short → Dec (Contains short name) → (short : List FlatName) × LeadsUp names dir short × StandOnce short
    go short leads once (no h) = (name ∷ short, (up.0, up.1, leads), (h, once))
    go short leads once (yes c) =
        let parts = split_at short name c in
        let back = rest_leads names name.dir parts.0 name parts.1 (subst (LeadsUp names name.dir) parts.2 leads) in
        (name ∷ parts.1, (back.0, up.1, back.2), rest_once parts.0 name parts.1 (subst StandOnce parts.2 once))

way_names : (names : List FlatName) (dir : ℕ) (way : List FlatName) → LeadsUp names dir way → (name : FlatName) → Contains way name → Contains names name
way_names names dir [] up name c = absurd (in_nothing name c)
way_names names dir (first ∷ way) up name c = elim (in_cons first name way c) [
  | inl here ↦ subst (λ (n : FlatName). Contains names n) here up.0
  | inr there ↦ way_names names first.dir way up.2 name there
]

-- ---- ways of so many names

way_within : (names : List FlatName) (most dir : ℕ) → Dec ((way : List FlatName) × LeadsUp names dir way × (length way ≤ most))
way_within names zero dir = map_told (λ e. ([], e, omega arith)) (λ w. none w.0 w.1 w.2) (same_number dir 256)
  where
    none : (way : List FlatName) → LeadsUp names dir way → length way ≤ 0 → dir ≡ 256
    none [] up short = up
    none (name ∷ way) up short = absurd (omega arith)
way_within names (suc most) dir = map_told forth back
    (either_told (same_number dir 256) (one_in (λ (name : FlatName). (name.ino ≡ dir) × ((way : List FlatName) × LeadsUp names name.dir way × (length way ≤ most))) (λ name. both_told (same_number name.ino dir) (way_within names most name.dir)) names))
  where
    forth : (dir ≡ 256) ⊎ ((name : FlatName) × Contains names name × ((name.ino ≡ dir) × ((way : List FlatName) × LeadsUp names name.dir way × (length way ≤ most)))) → (way : List FlatName) × LeadsUp names dir way × (length way ≤ suc most)
    forth (inl root) = ([], root, omega arith)
    forth (inr up) = let short = up.2.1.2 in (up.0 ∷ up.2.1.0, (up.1, up.2.0, up.2.1.1), omega arith)

    back : (way : List FlatName) × LeadsUp names dir way × (length way ≤ suc most) → (dir ≡ 256) ⊎ ((name : FlatName) × Contains names name × ((name.ino ≡ dir) × ((way : List FlatName) × LeadsUp names name.dir way × (length way ≤ most))))
    back w = go w.0 w.1 w.2
      where
        go : (way : List FlatName) → LeadsUp names dir way → length way ≤ suc most → (dir ≡ 256) ⊎ ((name : FlatName) × Contains names name × ((name.ino ≡ dir) × ((way : List FlatName) × LeadsUp names name.dir way × (length way ≤ most))))
        go [] up short = inl up
        go (name ∷ way) up short = inr (name, up.0, (up.1, (way, up.2, omega arith)))

-- whether a way leads up
pub way_told : ((a b : FlatName) → Dec (a ≡ b)) → (names : List FlatName) (dir : ℕ) → Dec ((way : List FlatName) × LeadsUp names dir way)
way_told same names dir = map_told (λ w. (w.0, w.1))
    (λ w. let short = short_way same names dir w.0 w.1 in (short.0, short.1, fewer short.0 names short.2 (way_names names dir short.0 short.1)))
    (way_within names (length names) dir)
