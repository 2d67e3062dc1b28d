-- The root directory's name for itself is among the names of its item.
use Rattle.std.proofs.Common.{◌≡◌, ◌↔◌, ℕ, Bool, true, false, List, [], ◌∷◌, Contains, Some, None, sym, ap, subst, ◌∙◌, inl, inr}
use Rattle.std.specs.Prelude.{◌||◌, IsTrue}
use Rattle.std.specs.List.{list_any}
use Rattle.std.proofs.lemmas.Bool.{and_from, and_parts, cases_Bool, eq-eqb, eqb-true}
use Rattle.std.proofs.lemmas.Slice.Eq.{bytes_eq-Decides}
use Rattle.blk_base.specs.Entries.{RefValue, dots, refs_of}
use Rattle.blk_base.specs.Keys.{inode_ref}
use Rattle.blk_base.specs.Leaf.{Item}
use Rattle.blk_base.specs.Trees.{ItemsRise}
use Rattle.image_faults.specs.Faulty.{HasOwnRef}
use Rattle.image_faults.specs.Said.{read_list}
use Rattle.tree_range.specs.Between.{data_under}
use Rattle.tree_range.proofs.Found.{contains_under}
use Rattle.volume_image.specs.Subvolume.{make_key}
use Rattle.volume_image.proofs.Lists.{in_cons, in_nothing}
use Rattle.volume_image.proofs.Reaches.{head_in, tail_in}
use Rattle.inode_lines.specs.Kinds.{is_dots_ref}
use Rattle.inode_lines.proofs.Kinded.{under_in}

test_to : (ref : RefValue) → is_dots_ref ref ≡ true → ref ≡ record { index = 0; name = dots }
test_to ref h =
    let parts = and_parts _ _ h in
    let index : ref.index ≡ 0 = eqb-true ref.index 0 parts.0 in
    let name : ref.name ≡ dots = (bytes_eq-Decides ref.name dots).0 parts.1 in
    λ i. record { index = index i; name = name i }

test_from : (ref : RefValue) → ref ≡ record { index = 0; name = dots } → is_dots_ref ref ≡ true
test_from ref is = and_from _ _ (eq-eqb ref.index 0 (ap (λ (r : RefValue). r.index) is)) ((bytes_eq-Decides ref.name dots).1 (ap (λ (r : RefValue). r.name) is))

found : (refs : List RefValue) → list_any is_dots_ref refs ≡ true → Contains refs (record { index = 0; name = dots })
found [] h = absurd cc
found (ref ∷ refs) h = elim (cases_Bool (is_dots_ref ref)) [
  | inl here ↦ subst (Contains (ref ∷ refs)) (test_to ref here) (head_in ref refs)
  | inr other ↦ tail_in ref (record { index = 0; name = dots }) refs (found refs (sym (ap (λ (b : Bool). b || list_any is_dots_ref refs) other) ∙ h))
]

find : (refs : List RefValue) → Contains refs (record { index = 0; name = dots }) → list_any is_dots_ref refs ≡ true
find [] c = absurd (in_nothing (record { index = 0; name = dots }) c)
find (ref ∷ refs) c = elim (in_cons ref (record { index = 0; name = dots }) refs c) [
  | inl here ↦ ap (λ (b : Bool). b || list_any is_dots_ref refs) (test_from ref here)
  | inr later ↦ elim (cases_Bool (is_dots_ref ref)) [
    | inl here ↦ ap (λ (b : Bool). b || list_any is_dots_ref refs) here
    | inr other ↦ ap (λ (b : Bool). b || list_any is_dots_ref refs) other ∙ find refs later
  ]
]

pub own_there : (items : List Item) (bytes : List ℕ) (answer : Bool) → ItemsRise items → Some bytes ≡ data_under (make_key 256 inode_ref 256) items → answer ≡ list_any is_dots_ref (read_list (refs_of (make_key 256 inode_ref 256) bytes)) → IsTrue answer ↔ HasOwnRef items
own_there items bytes answer rise is says = (
  λ h. record { bytes = bytes; there = contains_under items (make_key 256 inode_ref 256) bytes (sym is); dots = found (read_list (refs_of (make_key 256 inode_ref 256) bytes)) (sym says ∙ h) },
  λ has.
      let also = under_in items (make_key 256 inode_ref 256) has.bytes rise has.there in
      let same : has.bytes ≡ bytes = same_bytes has.bytes bytes (sym also ∙ sym is) in
      says ∙ find (read_list (refs_of (make_key 256 inode_ref 256) bytes)) (subst (λ (b : List ℕ). Contains (read_list (refs_of (make_key 256 inode_ref 256) b)) (record { index = 0; name = dots })) same has.dots),
)
  where
    same_bytes : (a b : List ℕ) → Some a ≡ Some b → a ≡ b
    same_bytes a b h = cc

pub own_absent : (items : List Item) → ItemsRise items → None ≡ data_under (make_key 256 inode_ref 256) items → IsTrue false ↔ HasOwnRef items
own_absent items rise is = (λ h. absurd cc, λ has. absurd (let also = under_in items (make_key 256 inode_ref 256) has.bytes rise has.there in clash has.bytes (is ∙ also)))
  where
    clash : (a : List ℕ) → None ≡ Some a → ⊥
    clash a h = cc
