-- What a walk has reached: one step of it, how many steps it has, and what it has reached in the end.
use Rattle.std.proofs.Common.{◌≡◌, ◌≢◌, ◌↔◌, ◌⊎◌, ◌≤◌, ◌<◌, ◌+◌, ◌++◌, ℕ, suc, Bool, true, false, cond, nat_eq, get_or, slice_index, slice_index_or, List, [], ◌∷◌, length, map, Contains, refl, sym, ap, subst, ◌∙◌, arith, inl, inr}
use Rattle.std.proofs.lemmas.Bool.{cases_lt, eqb-true, eq-eqb}
use Rattle.std.proofs.lemmas.Grind.{get_or_default_zero}
use Rattle.std.proofs.lemmas.List.{get_or_append_left, get_or_default, length-map}
use Rattle.std.proofs.lemmas.List.Elements.{Contains-get_or, Contains-append_left, Contains-append_right, Contains-append_cases}
use Rattle.flat_model.specs.Coherent.{LeadsUp}
use Rattle.flat_model.specs.Names.{FlatName}
use Rattle.image_faults.specs.Lists.{fewer, once_append, one_once}
use Rattle.volume_image.proofs.Lists.{in_cons, in_nothing}
use Rattle.volume_image.proofs.Members.{in_map, map_in}
use Rattle.volume_image.proofs.Reaches.{head_in, tail_in}
use Rattle.coherent_names.specs.Names.{flat_names, flat_of}
use Rattle.coherent_names.specs.declared.name.Name.{Name}
use Rattle.coherent_ways.specs.Ways.{AreByDirectory, Extends, IsWalk, dir_of}

one_in : (x y : ℕ) → Contains (x ∷ []) y → x ≡ y
one_in x y c = elim (in_cons x y [] c) [ inl here ↦ here | inr none ↦ absurd (in_nothing y none) ]

clash : {A : Type 0} → true ≡ false → A
clash e = absurd cc

-- ---- the root directory alone

pub walk_begins : (names : List FlatName) (has : ℕ → Bool) (queue : List ℕ) → queue ≡ 256 ∷ [] → ((q : ℕ) → has q ≡ nat_eq 256 q) → IsWalk names has queue
walk_begins names has queue is set = subst (IsWalk names has) (sym is) (record {
  same = λ ino. (λ h. subst (Contains (256 ∷ [])) (eqb-true 256 ino (sym (set ino) ∙ h)) (head_in 256 []), λ c. set ino ∙ eq-eqb 256 ino (one_in 256 ino c));
  once = one_once 256;
  leads = λ ino c. ([], sym (one_in 256 ino c));
  root = head_in 256 [];
})

-- ---- one name more

pub walk_goes_on : (names : List FlatName) (has new_has : ℕ → Bool) (queue new_queue : List ℕ) (name : FlatName) → IsWalk names has queue → Contains names name → Contains queue name.dir
    → new_queue ≡ cond (has name.ino) queue (queue ++ name.ino ∷ []) → ((q : ℕ) → new_has q ≡ cond (nat_eq name.ino q) true (has q)) → IsWalk names new_has new_queue
walk_goes_on names has new_has queue new_queue name walk there above is set = go (has name.ino) refl
  where
    told : (ino : ℕ) (b : Bool) → nat_eq name.ino ino ≡ b → new_has ino ≡ cond b true (has ino)
    told ino b e = set ino ∙ ap (λ (x : Bool). cond x true (has ino)) e

    go : (b : Bool) → has name.ino ≡ b → IsWalk names new_has new_queue
    go true e = subst (IsWalk names new_has) (sym (is ∙ ap (λ (b : Bool). cond b queue (queue ++ name.ino ∷ [])) e)) (record {
      same = λ ino. (λ h. first ino (nat_eq name.ino ino) refl h, λ c. second ino c (nat_eq name.ino ino) refl);
      once = walk.once;
      leads = walk.leads;
      root = walk.root;
    })
      where
        first : (ino : ℕ) (b : Bool) → nat_eq name.ino ino ≡ b → new_has ino ≡ true → Contains queue ino
        first ino true same h = subst (Contains queue) (eqb-true name.ino ino same) ((walk.same name.ino).0 e)
        first ino false other h = (walk.same ino).0 (sym (told ino false other) ∙ h)

        second : (ino : ℕ) → Contains queue ino → (b : Bool) → nat_eq name.ino ino ≡ b → new_has ino ≡ true
        second ino c true same = told ino true same
        second ino c false other = told ino false other ∙ (walk.same ino).1 c
    go false e = subst (IsWalk names new_has) (sym (is ∙ ap (λ (b : Bool). cond b queue (queue ++ name.ino ∷ [])) e)) (record {
      same = λ ino. (λ h. first ino (nat_eq name.ino ino) refl h, λ c. second ino (Contains-append_cases queue (name.ino ∷ []) ino c) (nat_eq name.ino ino) refl);
      once = once_append queue (name.ino ∷ []) walk.once (one_once name.ino) (λ y c d. clash (sym ((walk.same name.ino).1 (subst (Contains queue) (sym (one_in name.ino y d)) c)) ∙ e));
      leads = λ ino c. lead ino (Contains-append_cases queue (name.ino ∷ []) ino c);
      root = Contains-append_left queue (name.ino ∷ []) 256 walk.root;
    })
      where
        first : (ino : ℕ) (b : Bool) → nat_eq name.ino ino ≡ b → new_has ino ≡ true → Contains (queue ++ name.ino ∷ []) ino
        first ino true same h = Contains-append_right queue (name.ino ∷ []) ino (subst (Contains (name.ino ∷ [])) (eqb-true name.ino ino same) (head_in name.ino []))
        first ino false other h = Contains-append_left queue (name.ino ∷ []) ino ((walk.same ino).0 (sym (told ino false other) ∙ h))

        second : (ino : ℕ) → Contains queue ino ⊎ Contains (name.ino ∷ []) ino → (b : Bool) → nat_eq name.ino ino ≡ b → new_has ino ≡ true
        second ino place true same = told ino true same
        second ino (inl before) false other = told ino false other ∙ (walk.same ino).1 before
        second ino (inr here) false other = clash (sym (eq-eqb name.ino ino (one_in name.ino ino here)) ∙ other)

        lead : (ino : ℕ) → Contains queue ino ⊎ Contains (name.ino ∷ []) ino → (way : List FlatName) × LeadsUp names ino way
        lead ino (inl before) = walk.leads ino before
        lead ino (inr here) = let up = walk.leads name.dir above in (name ∷ up.0, (there, one_in name.ino ino here, up.1))

pub has_more : (has : Bool) (queue new_queue : List ℕ) (ino : ℕ) → new_queue ≡ cond has queue (queue ++ ino ∷ []) → Extends queue new_queue
has_more true queue new_queue ino is = ([], is ∙ sym (Rattle.std.proofs.Common.append-nil queue))
has_more false queue new_queue ino is = (ino ∷ [], is)

pub extends_over : (old middle new : List ℕ) → Extends old middle → Extends middle new → Extends old new
extends_over old middle new a b = (a.0 ++ b.0, b.1 ∙ ap (λ zs. zs ++ b.0) a.1 ∙ Rattle.std.proofs.Common.append_assoc old a.0 b.0)

pub extends_has : (old new : List ℕ) (x : ℕ) → Extends old new → Contains old x → Contains new x
extends_has old new x more c = subst (λ zs. Contains zs x) (sym more.1) (Contains-append_left old more.0 x c)

-- ---- the end

pub walk_is_short : (names : List FlatName) (has : ℕ → Bool) (queue : List ℕ) → IsWalk names has queue → length queue ≤ suc (length names)
walk_is_short names has queue walk =
    let short = fewer queue (256 ∷ map (λ (n : FlatName). n.ino) names) walk.once (λ x c. go x (walk.leads x c)) in
    let long = same_long names in
    omega arith
  where
    same_long : (ns : List FlatName) → length (map (λ (n : FlatName). n.ino) ns) ≡ length ns
    same_long [] = refl
    same_long (n ∷ ns) = ap suc (same_long ns)

    go : (x : ℕ) → (way : List FlatName) × LeadsUp names x way → Contains (256 ∷ map (λ (n : FlatName). n.ino) names) x
    go x ([], root) = subst (Contains (256 ∷ map (λ (n : FlatName). n.ino) names)) (sym root) (head_in 256 (map (λ (n : FlatName). n.ino) names))
    go x (name ∷ way, up) = tail_in 256 x (map (λ (n : FlatName). n.ino) names) (subst (Contains (map (λ (n : FlatName). n.ino) names)) up.1 (map_in (λ (n : FlatName). n.ino) names name up.0))

pub walk_ends : (names : List FlatName) (has : ℕ → Bool) (queue : List ℕ) → IsWalk names has queue → ((name : FlatName) → Contains names name → Contains queue name.dir → Contains queue name.ino)
    → (ino : ℕ) → (has ino ≡ true) ↔ ((way : List FlatName) × LeadsUp names ino way)
walk_ends names has queue walk closed ino = (λ h. walk.leads ino ((walk.same ino).0 h), λ up. (walk.same ino).1 (down up.0 ino up.1))
  where
    down : (way : List FlatName) (x : ℕ) → LeadsUp names x way → Contains queue x
    down [] x root = subst (Contains queue) (sym root) walk.root
    down (name ∷ way) x up = subst (Contains queue) up.1 (closed name up.0 (down way name.dir up.2))

-- ---- the names of one directory

-- all names in a directory are among those that were gone through
pub all_below : (names : List Name) (queue : List ℕ) (first place dir : ℕ)
    → ((k : ℕ) (d : Name) → k < first → dir_of (slice_index_or names k d) < dir) → ((k : ℕ) (d : Name) → first ≤ k → k < place → Contains queue (slice_index_or names k d).found.ino.0)
    → ((k : ℕ) (d : Name) → place ≤ k → k < length names → dir < dir_of (slice_index_or names k d))
    → (name : FlatName) → Contains (flat_names names) name → name.dir ≡ dir → Contains queue name.ino
all_below names queue first place dir before seen behind name c same =
    let found = in_map flat_of names name c in
    at found.0 found.2 found.1.0 found.1.1 found.1.2
  where
    at : (x : Name) → flat_of x ≡ name → (k : ℕ) → k < length names → slice_index_or names k x ≡ x → Contains queue name.ino
    at x is k below here = go (cases_lt k first) (cases_lt k place)
      where
        dir_is : dir_of (slice_index_or names k x) ≡ dir
        dir_is = ap dir_of here ∙ ap (λ (n : FlatName). n.dir) is ∙ same

        go : (k < first) ⊎ (first ≤ k) → (k < place) ⊎ (place ≤ k) → Contains queue name.ino
        go (inl low) p = let less = before k x low in absurd (omega (arith, dir_is))
        go (inr from) (inl low) = subst (Contains queue) (ap (λ (n : Name). n.found.ino.0) here ∙ ap (λ (n : FlatName). n.ino) is) (seen k x from low)
        go (inr from) (inr high) = let more = behind k x high below in absurd (omega (arith, dir_is))

-- what stands behind a name of another directory
pub behind_other : (names : List Name) (first place dir : ℕ) (d : Name) → AreByDirectory names → ((k : ℕ) (d : Name) → first ≤ k → k < length names → dir ≤ dir_of (slice_index_or names k d))
    → first ≤ place → place < length names → dir_of (slice_index_or names place d) ≢ dir → (k : ℕ) (e : Name) → place ≤ k → k < length names → dir < dir_of (slice_index_or names k e)
behind_other names first place dir d sorted above low inside other k e from below =
    let here = above place d low inside in
    let next = sorted place k d from below in
    let same = get_or_default names k d e below in
    let moved = ap dir_of same in
    omega arith

-- one name more was gone through
pub record IsAfter (names : List Name) (has : ℕ → Bool) (start queue : List ℕ) (first place : ℕ) : Type 0 where
  pub walk : IsWalk (flat_names names) has queue
  pub extends : Extends start queue
  pub seen : (k : ℕ) (d : Name) → first ≤ k → k < place → Contains queue (slice_index_or names k d).found.ino.0

pub one_more : (names : List Name) (has new_has : ℕ → Bool) (start queue new_queue : List ℕ) (first place dir : ℕ) (d : Name) → place < length names → IsWalk (flat_names names) has queue → Extends start queue
    → ((k : ℕ) (d : Name) → first ≤ k → k < place → Contains queue (slice_index_or names k d).found.ino.0) → Contains start dir → dir_of (slice_index_or names place d) ≡ dir
    → new_queue ≡ cond (has (slice_index_or names place d).found.ino.0) queue (queue ++ (slice_index_or names place d).found.ino.0 ∷ [])
    → ((q : ℕ) → new_has q ≡ cond (nat_eq (slice_index_or names place d).found.ino.0 q) true (has q)) → IsAfter names new_has start new_queue first (place + 1)
one_more names has new_has start queue new_queue first place dir d below walk extends seen inside same is set = record {
  walk = after;
  extends = extends_over start queue new_queue extends more;
  seen = λ k e from low. go k e from (cases_lt k place) low;
}
  where
    here : Name
    here = slice_index_or names place d

    after : IsWalk (flat_names names) new_has new_queue
    after = walk_goes_on (flat_names names) has new_has queue new_queue (flat_of here) walk (map_in flat_of names here (Contains-get_or names place d below))
        (subst (Contains queue) (sym same) (extends_has start queue dir extends inside)) is set

    more : Extends queue new_queue
    more = has_more (has here.found.ino.0) queue new_queue here.found.ino.0 is

    now : Contains new_queue here.found.ino.0
    now = (after.same here.found.ino.0).0 (set here.found.ino.0 ∙ ap (λ (b : Bool). cond b true (has here.found.ino.0)) (eq-eqb here.found.ino.0 here.found.ino.0 refl))

    go : (k : ℕ) (e : Name) → first ≤ k → (k < place) ⊎ (place ≤ k) → k < place + 1 → Contains new_queue (slice_index_or names k e).found.ino.0
    go k e from (inl low) near = extends_has queue new_queue _ more (seen k e from low)
    go k e from (inr high) near =
        let at : place ≡ k = omega arith in
        subst (λ (n : ℕ). Contains new_queue (slice_index_or names n e).found.ino.0) at (subst (λ (n : Name). Contains new_queue n.found.ino.0) (get_or_default names place d e below) now)

-- ---- one number more was gone through

abbrev pub IsClosed : List FlatName → List ℕ → ℕ → Type 0
IsClosed names queue at = (k : ℕ) (name : FlatName) → k < at → Contains names name → name.dir ≡ slice_index queue k → Contains queue name.ino

read_early : (old new : List ℕ) (k : ℕ) → Extends old new → k < length old → slice_index new k ≡ slice_index old k
read_early old new k more below = ap (λ zs. slice_index zs k) more.1 ∙ get_or_append_left old more.0 0 k below

pub more_closed : (names : List FlatName) (old new : List ℕ) (at dir : ℕ) → at < length old → dir ≡ get_or old at dir → Extends old new → IsClosed names old at
    → ((name : FlatName) → Contains names name → name.dir ≡ dir → Contains new name.ino) → IsClosed names new (at + 1)
more_closed names old new at dir below read more closed here k name low c is = go (cases_lt k at)
  where
    go : (k < at) ⊎ (at ≤ k) → Contains new name.ino
    go (inl before) = extends_has old new name.ino more (closed k name before c (is ∙ read_early old new k more (omega arith)))
    go (inr from) =
        let last : k ≡ at = omega arith in
        here name c (is ∙ ap (slice_index new) last ∙ read_early old new at more below ∙ sym (get_or_default_zero old at dir below) ∙ sym read)

pub all_closed : (names : List FlatName) (queue : List ℕ) (at : ℕ) → length queue ≤ at → IsClosed names queue at → (name : FlatName) → Contains names name → Contains queue name.dir → Contains queue name.ino
all_closed names queue at past closed name c above = closed above.0 name (let low = above.1 in omega arith) c (sym above.2 ∙ get_or_default_zero queue above.0 name.dir above.1)

pub walk_fits : (names : List Name) (has : ℕ → Bool) (queue : List ℕ) → IsWalk (flat_names names) has queue → length queue ≤ suc (length names)
walk_fits names has queue walk = let short = walk_is_short (flat_names names) has queue walk in let long = length-map names flat_of in omega arith
