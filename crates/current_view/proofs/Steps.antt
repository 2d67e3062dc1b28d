-- One name more, and one item's names more.
use Rattle.std.proofs.Common.{◌≡◌, ◌≢◌, inl, inr, List, [], ◌∷◌, ◌++◌, map, flat_map, sym, ap, ◌∙◌}
use Rattle.std.specs.List.{AllByRecursion}
use Rattle.std.proofs.lemmas.List.{append_assoc}
use Rattle.blk_base.specs.declared.key.Key.{Key}
use Rattle.blk_base.specs.Entries.{IsRefName, RefValue}
use Rattle.blk_base.specs.Name.{IsName}

pub one_more : {X Y : Type 0} (f : X → Y) (before now : List Y) (left rest : List X) (x : X) (y : Y) (whole : List Y) → before ++ map f left ≡ whole → left ≡ x ∷ rest → y ≡ f x → now ≡ before ++ y ∷ [] → now ++ map f rest ≡ whole
one_more f before now left rest x y whole is step told pushed =
    ap (λ ys. ys ++ map f rest) pushed ∙ append_assoc before (y ∷ []) (map f rest) ∙ ap (λ z. before ++ z ∷ map f rest) told ∙ sym (ap (λ xs. before ++ map f xs) step) ∙ is

pub some_more : {X Y : Type 0} (f : X → List Y) (before now : List Y) (left rest : List X) (x : X) (whole : List Y) → before ++ flat_map f left ≡ whole → left ≡ x ∷ rest → now ≡ before ++ f x → now ++ flat_map f rest ≡ whole
some_more f before now left rest x whole is step added =
    ap (λ ys. ys ++ flat_map f rest) added ∙ append_assoc before (f x) (flat_map f rest) ∙ sym (ap (λ xs. before ++ flat_map f xs) step) ∙ is

-- where the key isn't that of the root directory's own name, each ref's name is one
pub plain_names : (key : Key) (refs : List RefValue) → key.objectid ≢ 256 → AllByRecursion (λ (r : RefValue). IsRefName key r.name) refs → AllByRecursion (λ (r : RefValue). IsName r.name) refs
plain_names key [] other each = tt
plain_names key (ref ∷ refs) other each = (plain each.0, plain_names key refs other each.1)
  where
    plain : IsRefName key ref.name → IsName ref.name
    plain (inl is) = is
    plain (inr own) = absurd (other own.0.0)
