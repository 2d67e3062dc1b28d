-- Facts on what takes names and inodes away.
use Rattle.std.proofs.Common.{◌≡◌, ◌≢◌, ℕ, zero, suc, ◌<◌, ◌≤◌, inl, inr, subst, ◌+◌, Bool, true, false, cond, not, List, [], ◌∷◌, length, drop, refl, sym, ap, ◌∙◌, arith, length-drop}
use Rattle.std.specs.List.{filter, remove, count_by, Contains}
use Rattle.std.specs.FinMap as map
use Rattle.std.specs.Ordering.{nat_cmp}
use Rattle.std.proofs.lemmas.Bool.{eq-eqb, ne_eqb, cases_lt}
use Rattle.std.proofs.lemmas.List.Sums.{sum_by-cons}
use Rattle.flat_model.specs.declared.view.NameAt.{NameAt}
use Rattle.flat_model.specs.Records.{InodeRecord}
use Rattle.flat_model.specs.Names.{FlatName, is_name_set, remove_name, links_of}
use Rattle.flat_model.specs.Volume.{RunSub}
use Rattle.flat_model.specs.Operations.{without_name}
use Rattle.flat_sub.specs.Ends.{with_names, with_sub}
use Rattle.flat_sub.specs.View.{name_view, names_view}
use Rattle.flat_model.proofs.Lists.{contains_head, contains_tail}
use Rattle.flat_model.proofs.NameSets.{is_name_set_remove, is_same_name_itself, is_same_name_false, remove_name_absent, set_head_once, set_tail}

-- how many names pass, seen with their marks
pub count_view : (p : NameAt → Bool) (q : FlatName → Bool) → ((at : NameAt) (near : Bool) → q (name_view at near) ≡ p at) → (ats : List NameAt) (nears : List Bool) → length nears ≡ length ats → length (filter q (names_view ats nears)) ≡ count_by p ats
count_view p q same [] nears long = refl
count_view p q same (at ∷ ats) [] long = absurd (omega arith)
count_view p q same (at ∷ ats) (near ∷ nears) long =
    let rest = count_view p q same ats nears (omega arith) in
    let others : List FlatName = filter q (names_view ats nears) in
    let here : length (cond (p at) (name_view at near ∷ others) others) ≡ cond (p at) 1 0 + count_by p ats = elim (p at) as (λ b. length (cond b (name_view at near ∷ others) others) ≡ cond b 1 0 + count_by p ats) [ true ↦ omega (arith, rest) | false ↦ omega (arith, rest) ] in
    ap (λ b. length (cond b (name_view at near ∷ others) others)) (same at near) ∙ here ∙ sym (sum_by-cons (λ x. cond (p x) 1 0) at ats)

pub drop_below : (at : ℕ) (names : List FlatName) (name : FlatName) (rest : List FlatName) → drop at names ≡ name ∷ rest → at < length names
drop_below at names name rest is = omega (arith, ap length is, length-drop at names)

pub drop_contains : (names : List FlatName) (at : ℕ) (name : FlatName) (rest : List FlatName) → drop at names ≡ name ∷ rest → Contains names name
drop_contains [] zero name rest is = absurd (let long = ap length is in omega arith)
drop_contains [] (suc at) name rest is = absurd (let long = ap length is in omega arith)
drop_contains (first ∷ names) zero name rest is = let same : first ≡ name = cc in subst (Contains (first ∷ names)) same (contains_head first names)
drop_contains (first ∷ names) (suc at) name rest is = contains_tail first names name (drop_contains names at name rest is)

-- the set without the name at a place
pub remove_at : (names : List FlatName) (at : ℕ) (name : FlatName) (rest : List FlatName) → is_name_set names ≡ true → drop at names ≡ name ∷ rest → remove names at ≡ remove_name name names
remove_at [] at name rest set is = absurd (let below = drop_below at [] name rest is in omega arith)
remove_at (first ∷ names) zero name rest set is =
    let same : first ≡ name = cc in
    sym (remove_name_absent first names (set_head_once first names set)) ∙ sym (ap (λ b. cond (not b) (first ∷ remove_name first names) (remove_name first names)) (is_same_name_itself first)) ∙ ap (λ n. remove_name n (first ∷ names)) same
remove_at (first ∷ names) (suc at) name rest set is =
    let there = drop_contains names at name rest is in
    let other : name ≢ first = λ same. set_head_once first names set (subst (Contains names) same there) in
    ap (λ ns. first ∷ ns) (remove_at names at name rest (set_tail first names set) is) ∙ sym (ap (λ b. cond (not b) (first ∷ remove_name name names) (remove_name name names)) (is_same_name_false name first other))

pub remove_view : (ats : List NameAt) (nears : List Bool) (at : ℕ) → length nears ≡ length ats → names_view (remove ats at) (remove nears at) ≡ remove (names_view ats nears) at
remove_view [] [] zero same = refl
remove_view [] [] (suc at) same = refl
remove_view [] (mark ∷ nears) at same = absurd (omega arith)
remove_view (first ∷ ats) [] at same = absurd (omega arith)
remove_view (first ∷ ats) (mark ∷ nears) zero same = refl
remove_view (first ∷ ats) (mark ∷ nears) (suc at) same = ap (λ ns. name_view first mark ∷ ns) (remove_view ats nears at (omega arith))

module _ (run one : RunSub) (name : FlatName) (ino links : ℕ) (is : one ≡ with_names run (remove_name name run.sub.names)) (leads : ino ≡ name.ino) (counted : links ≡ links_of one.sub.names ino) where
  counts : links ≡ links_of (remove_name name run.sub.names) name.ino
  counts = counted ∙ ap (λ (r : RunSub). links_of r.sub.names ino) is ∙ ap (links_of (remove_name name run.sub.names)) leads

  -- the last name of an inode went, and the inode with it
  pub last_gone : links ≡ 0 → (inodes : map.FinMap nat_cmp InodeRecord) → inodes ≡ map.remove one.sub.inodes ino → record { sub = record { inodes = inodes; names = one.sub.names }; numbers = one.numbers } ≡ with_sub run (without_name run.sub name)
  last_gone none inodes gone =
      let left : List FlatName = remove_name name run.sub.names in
      ap (λ (m : map.FinMap nat_cmp InodeRecord). record { sub = record { inodes = m; names = one.sub.names }; numbers = one.numbers }) gone
      ∙ ap (λ (r : RunSub). record { sub = record { inodes = map.remove r.sub.inodes ino; names = r.sub.names }; numbers = r.numbers }) is
      ∙ ap (λ k. record { sub = record { inodes = map.remove run.sub.inodes k; names = left }; numbers = run.numbers }) leads
      ∙ sym (ap (λ b. record { sub = record { inodes = cond b (map.remove run.sub.inodes name.ino) run.sub.inodes; names = left }; numbers = run.numbers }) (eq-eqb (links_of left name.ino) 0 (sym counts ∙ none)))

  -- a name of an inode went that has others
  pub other_left : links ≢ 0 → one ≡ with_sub run (without_name run.sub name)
  other_left some =
      let left : List FlatName = remove_name name run.sub.names in
      is ∙ sym (ap (λ b. record { sub = record { inodes = cond b (map.remove run.sub.inodes name.ino) run.sub.inodes; names = left }; numbers = run.numbers }) (ne_eqb (links_of left name.ino) 0 (λ none. some (counts ∙ none))))

drop_first : (names : List FlatName) (at : ℕ) → at < length names → (name : FlatName) × (drop at names ≡ name ∷ drop (suc at) names)
drop_first [] at below = absurd (omega arith)
drop_first (first ∷ names) zero below = (first, refl)
drop_first (first ∷ names) (suc at) below = drop_first names at (omega arith)

remove_past : (names : List FlatName) (at : ℕ) → length names ≤ at → remove names at ≡ names
remove_past [] zero above = refl
remove_past [] (suc at) above = refl
remove_past (first ∷ names) zero above = absurd (omega arith)
remove_past (first ∷ names) (suc at) above = ap (λ ns. first ∷ ns) (remove_past names at (omega arith))

-- a set without what is at a place is a set
pub is_name_set_at : (names : List FlatName) (at : ℕ) → is_name_set names ≡ true → is_name_set (remove names at) ≡ true
is_name_set_at names at set =
    elim (cases_lt at (length names)) [
      | inl below ↦ let here = drop_first names at below in ap is_name_set (remove_at names at here.0 (drop (suc at) names) set here.1) ∙ is_name_set_remove here.0 names set
      | inr above ↦ ap is_name_set (remove_past names at above) ∙ set
    ]
