-- What a set of names asks for under one key stands once.
use Rattle.std.proofs.Common.{◌≡◌, ◌≢◌, ◌&&◌, ℕ, Bool, true, false, cond, nat_eq, [], ◌∷◌, filter, map, Contains, sym, ap, ◌∙◌}
use Rattle.std.proofs.lemmas.Bool.{and_parts, eqb-true, not-true}
use Rattle.blk_base.specs.Entries.{RefValue, ExtRefValue}
use Rattle.flat_model.specs.Names.{FlatName, is_name_set}
use Rattle.flat_model.specs.Volume.{Subvolume}
use Rattle.volume_image.specs.Subvolume.{refs_asked, extrefs_asked, ref_of, extref_of}
use Rattle.volume_image.proofs.Members.{in_filter, in_map}
use Rattle.image_faults.specs.Faulty.{StandOnce}
use Rattle.image_faults.specs.Lists.{once_map, once_filter, once_names, once_append, one_once}
use Rattle.image_faults.proofs.Asking.{is_near_at, is_far_at, own_ref, in_own}

module _ (sub : Subvolume) (set : is_name_set sub.names ≡ true) where
  pub near_once : ((name : FlatName) → Contains sub.names name → name.ino ≢ 256) → (ino dir : ℕ) → StandOnce (refs_asked sub ino dir)
  near_once root ino dir = once_append (cond (nat_eq ino 256 && nat_eq dir 256) (own_ref ∷ []) []) (map ref_of (filter (is_near_at ino dir) sub.names)) (own_once (nat_eq ino 256 && nat_eq dir 256))
      (once_map ref_of (filter (is_near_at ino dir) sub.names) same_name (once_filter (is_near_at ino dir) sub.names (once_names sub.names set))) apart
    where
      own_once : (b : Bool) → StandOnce (cond b (own_ref ∷ []) [])
      own_once true = one_once own_ref
      own_once false = tt

      parts : (n : FlatName) → Contains (filter (is_near_at ino dir) sub.names) n → Contains sub.names n × (n.near ≡ true) × (n.ino ≡ ino) × (n.dir ≡ dir)
      parts n c =
          let kept = in_filter (is_near_at ino dir) sub.names n c in
          let one = and_parts n.near _ kept.1 in
          let two = and_parts (nat_eq n.ino ino) _ one.1 in
          (kept.0, one.0, eqb-true n.ino ino two.0, eqb-true n.dir dir two.1)

      same_name : (n m : FlatName) → Contains (filter (is_near_at ino dir) sub.names) n → Contains (filter (is_near_at ino dir) sub.names) m → ref_of n ≡ ref_of m → n ≡ m
      same_name n m c d e =
          let p = parts n c in
          let q = parts m d in
          λ i. record { dir = (p.3 ∙ sym q.3) i; index = ap (λ (r : RefValue). r.index) e i; bytes = ap (λ (r : RefValue). r.name) e i; ino = (p.2 ∙ sym q.2) i; near = (p.1 ∙ sym q.1) i }

      apart : (r : RefValue) → Contains (cond (nat_eq ino 256 && nat_eq dir 256) (own_ref ∷ []) []) r → Contains (map ref_of (filter (is_near_at ino dir) sub.names)) r → ⊥
      apart r own named =
          let is = in_own (nat_eq ino 256 && nat_eq dir 256) r own in
          let place = and_parts _ _ is.0 in
          let found = in_map ref_of (filter (is_near_at ino dir) sub.names) r named in
          let p = parts found.0 found.1 in
          root found.0 p.0 (p.2 ∙ eqb-true ino 256 place.0)

  pub far_once : (ino hash : ℕ) → StandOnce (extrefs_asked sub ino hash)
  far_once ino hash = once_map extref_of (filter (is_far_at ino hash) sub.names) same_name (once_filter (is_far_at ino hash) sub.names (once_names sub.names set))
    where
      parts : (n : FlatName) → Contains (filter (is_far_at ino hash) sub.names) n → (n.near ≡ false) × (n.ino ≡ ino)
      parts n c =
          let kept = in_filter (is_far_at ino hash) sub.names n c in
          let one = and_parts _ _ kept.1 in
          let two = and_parts (nat_eq n.ino ino) _ one.1 in
          (not-true _ one.0, eqb-true n.ino ino two.0)

      same_name : (n m : FlatName) → Contains (filter (is_far_at ino hash) sub.names) n → Contains (filter (is_far_at ino hash) sub.names) m → extref_of n ≡ extref_of m → n ≡ m
      same_name n m c d e =
          let p = parts n c in
          let q = parts m d in
          λ i. record { dir = ap (λ (r : ExtRefValue). r.parent) e i; index = ap (λ (r : ExtRefValue). r.index) e i; bytes = ap (λ (r : ExtRefValue). r.name) e i; ino = (p.1 ∙ sym q.1) i; near = (p.0 ∙ sym q.0) i }
