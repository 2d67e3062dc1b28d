-- Rows that are in the order of their inodes: those of one inode stand together, and are those of all rows in any order.
use Rattle.std.proofs.Common.{◌≡◌, ◌<◌, ◌≤◌, ◌+◌, ◌-◌, ◌==◌, ℕ, zero, suc, Bool, true, false, not, ◌&&◌, List, [], ◌∷◌, length, filter, take, drop, get_or, refl, sym, ap, ◌∙◌, arith, eqb-true, eq-eqb, ne_eqb, is_lt, nat_cmp, length-drop, take_all}
use Rattle.std.specs.List.Sorted.{IsStableBy, ties}
use Rattle.std.proofs.lemmas.List.{get_or-drop}
use Rattle.std.proofs.lemmas.List.Elements.{All-contains, filter_agree, filter_passes}

module _ {X : Type 0} (n : X → ℕ) where
  -- the element belongs to this inode
  abbrev is_of : ℕ → X → Bool
  is_of ino x = n x == ino

  -- the order by inodes
  abbrev pub lt_by : X → X → Bool
  lt_by x y = is_lt (nat_cmp (n x) (n y))

  -- ---- a stable sort keeps the rows of an inode as they are

  tie : (a b : ℕ) → (not (is_lt (nat_cmp a b)) && not (is_lt (nat_cmp b a))) ≡ (b == a)
  tie a b = grind arith

  same_ties : (ino : ℕ) (x : X) (xs : List X) → n x ≡ ino → filter (ties lt_by x) xs ≡ filter (is_of ino) xs
  same_ties ino x xs is = filter_agree (ties lt_by x) (is_of ino) (λ y. tie (n x) (n y) ∙ ap (λ (k : ℕ). n y == k) is) xs

  first_is : (ino : ℕ) (x : X) (xs rest : List X) → filter (is_of ino) xs ≡ x ∷ rest → n x ≡ ino
  first_is ino x xs rest is =
      let all = filter_passes (is_of ino) xs in
      eqb-true (n x) ino (All-contains (λ y. is_of ino y ≡ true) (filter (is_of ino) xs) x all (0, (let long = ap length is in omega arith), ap (λ (l : List X). get_or l 0 x) is))

  same_by : (ino : ℕ) (xs ys near far : List X) → IsStableBy lt_by xs ys → filter (is_of ino) xs ≡ near → filter (is_of ino) ys ≡ far → filter (is_of ino) ys ≡ filter (is_of ino) xs
  same_by ino xs ys [] [] stable here there = there ∙ sym here
  same_by ino xs ys (x ∷ near) far stable here there =
      let is = first_is ino x xs near here in
      sym (same_ties ino x ys is) ∙ stable x ∙ same_ties ino x xs is
  same_by ino xs ys [] (y ∷ far) stable here there =
      let is = first_is ino y ys far there in
      sym (same_ties ino y ys is) ∙ stable y ∙ same_ties ino y xs is

  pub sorted_same : (ino : ℕ) (xs ys : List X) → IsStableBy lt_by xs ys → filter (λ x. n x == ino) ys ≡ filter (λ x. n x == ino) xs
  sorted_same ino xs ys stable = same_by ino xs ys _ _ stable refl refl

  -- ---- between two places

  none_before : (ino : ℕ) (xs : List X) (a : ℕ) → a ≤ length xs → ((k : ℕ) (d : X) → k < a → n (get_or xs k d) < ino) → filter (is_of ino) xs ≡ filter (is_of ino) (drop a xs)
  none_before ino xs zero within below = refl
  none_before ino [] (suc a) within below = refl
  none_before ino (x ∷ xs) (suc a) within below =
      let other : is_of ino x ≡ false = ne_eqb (n x) ino (λ e. let less = below 0 x (omega arith) in absurd (omega arith)) in
      rw other (none_before ino xs a (omega arith) (λ k d lower. below (suc k) d (omega arith)))

  none_behind : (ino : ℕ) (xs : List X) → ((k : ℕ) (d : X) → k < length xs → ino < n (get_or xs k d)) → filter (is_of ino) xs ≡ []
  none_behind ino [] above = refl
  none_behind ino (x ∷ xs) above =
      let other : is_of ino x ≡ false = ne_eqb (n x) ino (λ e. let more = above 0 x (omega arith) in absurd (omega arith)) in
      rw other (none_behind ino xs (λ k d within. above (suc k) d (omega arith)))

  all_until : (ino : ℕ) (xs : List X) (b : ℕ) → b ≤ length xs → ((k : ℕ) (d : X) → k < b → n (get_or xs k d) ≡ ino) → ((k : ℕ) (d : X) → b ≤ k → k < length xs → ino < n (get_or xs k d))
      → take b xs ≡ filter (is_of ino) xs
  all_until ino xs zero within same above = sym (none_behind ino xs (λ k d lower. above k d (omega arith) lower))
  all_until ino [] (suc b) within same above = refl
  all_until ino (x ∷ xs) (suc b) within same above =
      rw (eq-eqb (n x) ino (same 0 x (omega arith)))
      (ap (λ (rest : List X). x ∷ rest) (all_until ino xs b (omega arith) (λ k d lower. same (suc k) d (omega arith)) (λ k d from lower. above (suc k) d (omega arith) (omega arith))))

  pub between_is : (ino : ℕ) (xs behind : List X) (a b : ℕ) → a ≤ length xs → behind ≡ drop a xs → b ≤ length behind → ((k : ℕ) (d : X) → k < a → n (get_or xs k d) < ino)
      → ((k : ℕ) (d : X) → a ≤ k → k < length xs → ino ≤ n (get_or xs k d)) → ((k : ℕ) (d : X) → k < b → n (get_or behind k d) ≤ ino)
      → ((k : ℕ) (d : X) → b ≤ k → k < length behind → ino < n (get_or behind k d)) → take b behind ≡ filter (λ x. n x == ino) xs
  between_is ino xs behind a b within is fits below from most above =
      let same : (k : ℕ) (d : X) → k < b → n (get_or behind k d) ≡ ino = (λ k d lower.
      let long = ap length is ∙ length-drop a xs in
      let at : n (get_or behind k d) ≡ n (get_or xs (a + k) d) = ap (λ (l : List X). n (get_or l k d)) is ∙ ap n (get_or-drop a xs k d) in
      let least = from (a + k) d (omega arith) (omega arith) in
      let no_more = most k d lower in
      omega arith) in
      all_until ino behind b fits same above ∙ ap (filter (is_of ino)) is ∙ sym (none_before ino xs a within below)

pub take_whole : {X : Type 0} (a : ℕ) (xs : List X) → take (length xs - a) (drop a xs) ≡ drop a xs
take_whole a xs = take_all (length xs - a) (drop a xs) (let long = length-drop a xs in omega arith)
