-- Names without their marks, chosen by a test.
use Rattle.std.proofs.Common.{◌≡◌, Bool, true, false, cond, List, [], ◌∷◌, map, length, Option, Some, Result, Ok, Err, refl, sym, ap, ◌∙◌, arith}
use Rattle.std.specs.Result.{IfOk}
use Rattle.std.specs.Option.{option_map}
use Rattle.std.specs.List.{filter, find}
use Rattle.blk_base.specs.declared.key.Ino.{Ino}
use Rattle.flat_model.specs.declared.view.NameAt.{NameAt}
use Rattle.flat_model.specs.Names.{FlatName}
use Rattle.flat_model.specs.Unmarked.{unmarked}
use Rattle.flat_sub.specs.View.{name_view, names_view}

-- a test of names that pays no heed to their marks
module _ (p : FlatName → Bool) (q : NameAt → Bool) (same : (at : NameAt) (near : Bool) → p (name_view at near) ≡ q at) where
  filter_step : (at : NameAt) (near : Bool) (names : List FlatName) (ats : List NameAt) → map unmarked names ≡ ats → (b : Bool) → map unmarked (cond b (name_view at near ∷ names) names) ≡ cond b (at ∷ ats) ats
  filter_step at near names ats rest true = ap (λ xs. at ∷ xs) rest
  filter_step at near names ats rest false = rest

  pub filter_unmarked : (ats : List NameAt) (nears : List Bool) → length nears ≡ length ats → map unmarked (filter p (names_view ats nears)) ≡ filter q ats
  filter_unmarked [] nears e = refl
  filter_unmarked (at ∷ ats) [] e = absurd (omega arith)
  filter_unmarked (at ∷ ats) (near ∷ nears) e =
      filter_step at near (filter p (names_view ats nears)) (filter q ats) (filter_unmarked ats nears (omega arith)) (p (name_view at near))
      ∙ ap (λ b. cond b (at ∷ filter q ats) (filter q ats)) (same at near)

  find_step : (at : NameAt) (near : Bool) (here : Option FlatName) (found : Option NameAt) → option_map (λ (ino : Ino). ino.0) (option_map (λ (at : NameAt). at.ino) found) ≡ option_map (λ (name : FlatName). name.ino) here
      → (b : Bool) → option_map (λ (ino : Ino). ino.0) (option_map (λ (at : NameAt). at.ino) (cond b (Some at) found)) ≡ option_map (λ (name : FlatName). name.ino) (cond b (Some (name_view at near)) here)
  find_step at near here found rest true = refl
  find_step at near here found rest false = rest

  pub find_unmarked : (ats : List NameAt) (nears : List Bool) → length nears ≡ length ats → option_map (λ (ino : Ino). ino.0) (option_map (λ (at : NameAt). at.ino) (find q ats)) ≡ option_map (λ (name : FlatName). name.ino) (find p (names_view ats nears))
  find_unmarked [] nears e = refl
  find_unmarked (at ∷ ats) [] e = absurd (omega arith)
  find_unmarked (at ∷ ats) (near ∷ nears) e =
      find_step at near (find p (names_view ats nears)) (find q ats) (find_unmarked ats nears (omega arith)) (q at)
      ∙ ap (λ b. option_map (λ (name : FlatName). name.ino) (cond b (Some (name_view at near)) (find p (names_view ats nears)))) (sym (same at near))

pub if_ok : {T E : Type 0} {P Q : T → Type 0} (r : Result T E) → ((x : T) → P x → Q x) → IfOk r P → IfOk r Q
if_ok (Ok x) f p = f x p
if_ok (Err e) f p = p
