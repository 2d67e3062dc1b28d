-- Subvolumes in ascending order, and those that a walk of the root tree met.
use Rattle.std.proofs.Common.{◌≡◌, ◌≢◌, ◌≤◌, ◌<◌, ℕ, suc, zero, List, [], ◌∷◌, length, get_or, insert, Result, Ok, Err, refl, ap, ◌∙◌, arith, le-ltb, lt-ltb}
use Rattle.std.proofs.Math.ListN.{set}
use Rattle.std.proofs.lemmas.Bool.{eq-eqb, ne_eqb}
use Rattle.foreign_format.specs.declared.fault.ReadFault.{ReadFault}
use Rattle.foreign_format.specs.declared.fault.ReadFault.TheVariants.{Foreign, Disk, OutOfMemory}
use Rattle.foreign_format.specs.declared.superblock.Superblock.{Superblock}
use Rattle.foreign_format.specs.Answer.{Answers, answers_then, then_err}
use Rattle.foreign_tree.specs.Answers.{IsWalk}
use Rattle.foreign_tree.specs.Tree.{Found, VolumeValue, Walked, tree_of}
use Rattle.foreign_volume.specs.declared.roots.Subvolume.{Subvolume}
use Rattle.foreign_volume.specs.Roots.{put_sub, subs_of, subvolumes_of, top_root}

-- the subvolumes before a place have lower numbers
abbrev pub AreBefore : List Subvolume → ℕ → ℕ → Type 0
AreBefore subs place id = (k : ℕ) (d : Subvolume) → k < place → (get_or subs k d).id < id

behind : (sub other : Subvolume) (subs : List Subvolume) → other.id < sub.id → put_sub sub (other ∷ subs) ≡ other ∷ put_sub sub subs
unfolding put_sub
behind sub other subs above =
    let differ : sub.id ≢ other.id = λ same. absurd (omega (arith, same)) in
    rw (le-ltb sub.id other.id (omega arith), ne_eqb sub.id other.id differ) refl

pub put_new : (sub : Subvolume) (subs : List Subvolume) (place : ℕ) → place ≤ length subs → AreBefore subs place sub.id → ((d : Subvolume) → place < length subs → sub.id < (get_or subs place d).id) → put_sub sub subs ≡ insert subs place sub
unfolding put_sub
put_new sub [] zero within before after = refl
put_new sub [] (suc place) within before after = absurd (omega arith)
put_new sub (other ∷ subs) zero within before after = rw (lt-ltb sub.id other.id (after other (omega arith))) refl
put_new sub (other ∷ subs) (suc place) within before after =
    behind sub other subs (before 0 other (omega arith))
    ∙ ap (λ rest. other ∷ rest) (put_new sub subs place (omega arith) (λ k d lower. before (suc k) d (omega arith)) (λ d inside. after d (omega arith)))

pub put_over : (sub : Subvolume) (subs : List Subvolume) (place : ℕ) (d : Subvolume) → place < length subs → AreBefore subs place sub.id → sub.id ≡ (get_or subs place d).id → (get_or subs place d).root.offset ≤ sub.root.offset → put_sub sub subs ≡ set subs place sub
unfolding put_sub
put_over sub [] place d within before same least = absurd (omega arith)
put_over sub (other ∷ subs) zero d within before same least =
    rw (le-ltb sub.id other.id (omega arith), eq-eqb sub.id other.id same, le-ltb sub.root.offset other.root.offset least) refl
put_over sub (other ∷ subs) (suc place) d within before same least =
    behind sub other subs (before 0 other (omega arith))
    ∙ ap (λ rest. other ∷ rest) (put_over sub subs place d (omega arith) (λ k d lower. before (suc k) d (omega arith)) same least)

pub put_under : (sub : Subvolume) (subs : List Subvolume) (place : ℕ) (d : Subvolume) → place < length subs → AreBefore subs place sub.id → sub.id ≡ (get_or subs place d).id → sub.root.offset < (get_or subs place d).root.offset → put_sub sub subs ≡ subs
unfolding put_sub
put_under sub [] place d within before same above = absurd (omega arith)
put_under sub (other ∷ subs) zero d within before same above =
    rw (le-ltb sub.id other.id (omega arith), eq-eqb sub.id other.id same, lt-ltb sub.root.offset other.root.offset above) refl
put_under sub (other ∷ subs) (suc place) d within before same above =
    behind sub other subs (before 0 other (omega arith))
    ∙ ap (λ rest. other ∷ rest) (put_under sub subs place d (omega arith) (λ k d lower. before (suc k) d (omega arith)) same above)

get_or_any : {X : Type 0} (xs : List X) (place : ℕ) (d e : X) → place < length xs → get_or xs place d ≡ get_or xs place e
get_or_any [] place d e within = absurd (omega arith)
get_or_any (x ∷ xs) zero d e within = refl
get_or_any (x ∷ xs) (suc place) d e within = get_or_any xs place d e (omega arith)

-- ---- the same at a place that was looked for

pub over_at : (subs : List Subvolume) (place id : ℕ) (d e sub : Subvolume) → sub.id ≡ id → place < length subs → (get_or subs place d).id ≡ id → AreBefore subs place id → (get_or subs place e).root.offset ≤ sub.root.offset → put_sub sub subs ≡ set subs place sub
over_at subs place id d e sub is within here before least =
    let same : (get_or subs place d).id ≡ (get_or subs place e).id = ap (λ (s : Subvolume). s.id) (get_or_any subs place d e within) in
    put_over sub subs place e within (λ k d lower. let low = before k d lower in omega arith) (omega arith) least

pub under_at : (subs : List Subvolume) (place id : ℕ) (d e sub : Subvolume) → sub.id ≡ id → place < length subs → (get_or subs place d).id ≡ id → AreBefore subs place id → sub.root.offset < (get_or subs place e).root.offset → put_sub sub subs ≡ subs
under_at subs place id d e sub is within here before above =
    let same : (get_or subs place d).id ≡ (get_or subs place e).id = ap (λ (s : Subvolume). s.id) (get_or_any subs place d e within) in
    put_under sub subs place e within (λ k d lower. let low = before k d lower in omega arith) (omega arith) above

pub new_at : (subs : List Subvolume) (place id : ℕ) (d sub : Subvolume) → sub.id ≡ id → place < length subs → id < (get_or subs place d).id → AreBefore subs place id → put_sub sub subs ≡ insert subs place sub
new_at subs place id d sub is within here before =
    put_new sub subs place (omega arith) (λ k d lower. let low = before k d lower in omega arith)
    (λ e inside. let same : (get_or subs place d).id ≡ (get_or subs place e).id = ap (λ (s : Subvolume). s.id) (get_or_any subs place d e within) in omega arith)

pub new_last : (subs : List Subvolume) (place id : ℕ) (sub : Subvolume) → sub.id ≡ id → length subs ≤ place → AreBefore subs place id → put_sub sub subs ≡ insert subs (length subs) sub
new_last subs place id sub is past before =
    put_new sub subs (length subs) (omega arith) (λ k d lower. let low = before k d (omega arith) in omega arith) (λ e inside. absurd (omega arith))

-- ---- a walk over the root tree

-- the answer where the walk met all items
pub subs_walked : {C : Type 0} (shown : C → List Subvolume) (disk : List ℕ) (volume : VolumeValue) (superblock : Superblock) (walked : Walked) (result : Result C ReadFault) → tree_of volume disk (top_root superblock) ≡ Ok walked
    → Answers shown result (subs_of walked.items) → Answers shown result (subvolumes_of disk volume superblock)
unfolding subvolumes_of
subs_walked shown disk volume superblock walked result is answer = answers_then shown result (tree_of volume disk (top_root superblock)) (λ walked. subs_of walked.items) walked is answer

pub subs_failed : {C V : Type 0} (shown : C → List Subvolume) (has_met : V → List Found → Type 0) (old new : V) (disk : List ℕ) (volume : VolumeValue) (superblock : Superblock) (failed : ReadFault)
    → IsWalk has_met old new (Err failed) (tree_of volume disk (top_root superblock)) → Answers shown (Err failed) (subvolumes_of disk volume superblock)
unfolding subvolumes_of
subs_failed shown has_met old new disk volume superblock (Foreign fault) h = then_err (tree_of volume disk (top_root superblock)) (λ walked. subs_of walked.items) fault h
subs_failed shown has_met old new disk volume superblock Disk h = tt
subs_failed shown has_met old new disk volume superblock OutOfMemory h = tt
