-- The trees of the subvolumes one after the other, and their data behind them: each address is reached once.
use Rattle.std.proofs.Common.{◌≡◌, ◌++◌, ℕ, List, [], ◌∷◌, length, Contains, All, Result, Ok, refl, sym, ap, subst, ◌∙◌, arith, inl, inr, append-nil, append_assoc}
use Rattle.std.proofs.lemmas.List.Elements.{All-nil, All-cons, All-head, All-tail}
use Rattle.blk_base.specs.Address.{IsAllowed}
use Rattle.blk_base.specs.Items.{RootValue}
use Rattle.blk_base.specs.Superblock.{SuperValue}
use Rattle.format_laws.specs.Superblock.{IsAllowed-from_test, is_allowed-true}
use Rattle.volume_image.specs.Tree.{Image, Walked, IsTree, NoneTwice}
use Rattle.volume_image.specs.Roots.{sub_want}
use Rattle.volume_image.proofs.Lists.{in_nothing, in_cons}
use Rattle.volume_image.proofs.Reaches.{head_in, not_reached, not_in, none_twice_joined, none_twice_parts}
use Rattle.volume_image.proofs.Walk.{walked_lem}
use Rattle.image_order.specs.FirstFault.{ImageFault, BadTree, FoundTree, FoundTrees, with_tree, trees_of, data_after}
use Rattle.image_order.proofs.Steps.{bind_ok, ok_bind, fault_ok, ok_fault, passed, passes, not_found, finds_none}

-- each of these is the tree of its root; the reaches stand one behind the other
abbrev pub AreFound : Image → SuperValue → List ℕ → List RootValue → List FoundTree → List ℕ → Type 0
AreFound image super [] [] [] reach = reach ≡ []
AreFound image super (id ∷ ids) (root ∷ roots) (tree ∷ trees) reach =
    (near : List ℕ) × (far : List ℕ) × (tree.id ≡ id) × (tree.want ≡ sub_want super id root) × IsTree image super.blocks (sub_want super id root) tree.items near
    × AreFound image super ids roots trees far × (reach ≡ near ++ far)
AreFound image super ids roots trees reach = ⊥

-- what a walk over trees adds
pub record FindsTrees (image : Image) (super : SuperValue) (ids : List ℕ) (roots : List RootValue) (before : List ℕ) (out : FoundTrees) : Type 0 where
  pub reach : List ℕ
  pub found : AreFound image super ids roots out.trees reach
  pub reached : out.reached ≡ before ++ reach
  pub once : NoneTwice before → NoneTwice (before ++ reach)

ok_same : {A : Type 0} (x y : A) → ◌≡◌ {A = Result A ImageFault} (Ok x) (Ok y) → x ≡ y
ok_same x y e = cc

pub trees_found : (image : Image) (super : SuperValue) (ids : List ℕ) (roots : List RootValue) (before : List ℕ) (out : FoundTrees) → length ids ≡ length roots → trees_of image super ids roots before ≡ Ok out
    → FindsTrees image super ids roots before out
trees_found image super [] [] before out long e =
    let same = ok_same (record { trees = []; reached = before }) out e in
    subst (λ (o : FoundTrees). FindsTrees image super [] [] before o) same (record { reach = []; found = refl; reached = sym (append-nil before); once = λ n. rw append-nil n })
trees_found image super [] (root ∷ roots) before out long e = absurd (omega arith)
trees_found image super (id ∷ ids) [] before out long e = absurd (omega arith)
trees_found image super (id ∷ ids) (root ∷ roots) before out long e =
    let first = bind_ok _ _ out e in
    let walked = first.0 in
    let walk = (walked_lem image super.blocks (sub_want super id root) before walked).0 (fault_ok BadTree _ walked first.1) in
    let second = bind_ok _ _ out first.2 in
    let rest = trees_found image super ids roots walked.reached second.0 (omega arith) second.1 in
    let same = ok_same (with_tree (record { id = id; want = sub_want super id root; items = walked.items }) second.0) out second.2 in
    let join : walked.reached ++ rest.reach ≡ before ++ (walk.reach ++ rest.reach) = ap (λ xs. xs ++ rest.reach) walk.reached ∙ append_assoc before walk.reach rest.reach in
    subst (λ (o : FoundTrees). FindsTrees image super (id ∷ ids) (root ∷ roots) before o) same (record {
      reach = walk.reach ++ rest.reach;
      found = (walk.reach, rest.reach, refl, refl, walk.tree, rest.found, refl);
      reached = rest.reached ∙ join;
      once = λ n. subst NoneTwice join (rest.once (subst NoneTwice (sym walk.reached) (none_twice_joined before walk.reach n walk.tree.once walk.apart)));
    })

pub found_trees : (image : Image) (super : SuperValue) (ids : List ℕ) (roots : List RootValue) (trees : List FoundTree) (before reach : List ℕ) → AreFound image super ids roots trees reach → NoneTwice (before ++ reach)
    → trees_of image super ids roots before ≡ Ok (record { trees = trees; reached = before ++ reach })
found_trees image super [] [] [] before reach e once = λ i. Ok (record { trees = []; reached = (sym (append-nil before) ∙ ap (λ xs. before ++ xs) (sym e)) i })
found_trees image super [] [] (tree ∷ trees) before reach e once = absurd e
found_trees image super [] (root ∷ roots) trees before reach e once = absurd (none trees e)
  where
    none : (trees : List FoundTree) → AreFound image super [] (root ∷ roots) trees reach → ⊥
    none [] e = e
    none (tree ∷ trees) e = e
found_trees image super (id ∷ ids) [] trees before reach e once = absurd (none trees e)
  where
    none : (trees : List FoundTree) → AreFound image super (id ∷ ids) [] trees reach → ⊥
    none [] e = e
    none (tree ∷ trees) e = e
found_trees image super (id ∷ ids) (root ∷ roots) [] before reach e once = absurd e
found_trees image super (id ∷ ids) (root ∷ roots) (tree ∷ trees) before reach (near, far, is_id, is_want, is_tree, others, is_reach) once =
    let join : (before ++ near) ++ far ≡ before ++ reach = append_assoc before near far ∙ ap (λ xs. before ++ xs) (sym is_reach) in
    let all : NoneTwice ((before ++ near) ++ far) = subst NoneTwice (sym join) once in
    let parts = none_twice_parts before near (none_twice_parts (before ++ near) far all).0 in
    let walked : Walked = record { items = tree.items; reached = before ++ near } in
    let walk = (walked_lem image super.blocks (sub_want super id root) before walked).1 (record { reach = near; tree = is_tree; apart = parts.2; reached = refl }) in
    let rest = found_trees image super ids roots trees (before ++ near) far others all in
    let made : with_tree (record { id = id; want = sub_want super id root; items = tree.items }) (record { trees = trees; reached = (before ++ near) ++ far }) ≡ record { trees = tree ∷ trees; reached = before ++ reach } =
    λ i. record { trees = record { id = sym is_id i; want = sym is_want i; items = tree.items } ∷ trees; reached = join i } in
    ok_bind _ _ walked _ (ok_fault BadTree _ walked walk) (ok_bind _ _ (record { trees = trees; reached = (before ++ near) ++ far }) _ rest (ap Ok made))

-- ---- data

pub record ReachesData (blocks : ℕ) (addresses before out : List ℕ) : Type 0 where
  pub allowed : All (IsAllowed blocks) addresses
  pub reached : out ≡ before ++ addresses
  pub once : NoneTwice before → NoneTwice (before ++ addresses)

pub data_found : (blocks : ℕ) (addresses before out : List ℕ) → data_after blocks addresses before ≡ Ok out → ReachesData blocks addresses before out
data_found blocks [] before out e = record { allowed = All-nil (IsAllowed blocks); reached = sym (ok_same before out e) ∙ sym (append-nil before); once = λ n. rw append-nil n }
data_found blocks (at ∷ others) before out e =
    let allowed = passed _ _ _ _ e in
    let fresh = not_found _ _ _ _ allowed.1 in
    let rest = data_found blocks others (before ++ at ∷ []) out fresh.1 in
    let join : (before ++ at ∷ []) ++ others ≡ before ++ (at ∷ others) = append_assoc before (at ∷ []) others in
    record {
      allowed = All-cons (IsAllowed blocks) at others (IsAllowed-from_test blocks at allowed.0) rest.allowed;
      reached = rest.reached ∙ join;
      once = λ n. subst NoneTwice join (rest.once (none_twice_joined before (at ∷ []) n ((λ c. in_nothing at c), tt) (λ x c d. elim (in_cons at x [] d) [
        | inl here ↦ not_reached at before fresh.0 (subst (λ (y : ℕ). Contains before y) (sym here) c)
        | inr none ↦ in_nothing x none
      ])));
    }

pub found_data : (blocks : ℕ) (addresses before : List ℕ) → All (IsAllowed blocks) addresses → NoneTwice (before ++ addresses) → data_after blocks addresses before ≡ Ok (before ++ addresses)
found_data blocks [] before allowed once = ap Ok (sym (append-nil before))
found_data blocks (at ∷ others) before allowed once =
    let join : (before ++ at ∷ []) ++ others ≡ before ++ (at ∷ others) = append_assoc before (at ∷ []) others in
    let parts = none_twice_parts before (at ∷ others) once in
    passes _ _ _ (is_allowed-true blocks at (All-head (IsAllowed blocks) at others allowed))
    ∙ finds_none _ _ _ (not_in at before (λ c. parts.2 at c (head_in at others)))
    ∙ found_data blocks others (before ++ at ∷ []) (All-tail (IsAllowed blocks) at others allowed) (subst NoneTwice (sym join) once)
    ∙ ap Ok join
