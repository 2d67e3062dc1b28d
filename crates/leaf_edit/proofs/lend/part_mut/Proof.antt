use mathlib.Core.Path.{◌≡◌, refl, sym, subst, ap, ◌∙◌}
use Prim.Native.Nat.{ℕ, zero, suc, ◌+◌, ◌-◌, ◌*◌, ◌^◌, ◌<◌, ◌≤◌}
use native.Mathlib.Nat.{mul-le-mul_right, suc-mul, zero-mul}
use native.Mathlib.Omega.{arith}
use mathlib.Core.List.{List, [], ◌∷◌, ◌++◌}
use lib.ListN.{length, take, drop as drop_list, take-append-drop, length-drop, length-append}
use seplogic.Ra.Ura.{Ura}
use mir.Syntax.{Args, Fn, named, w64, a_type}
use mir.MapTy.{inst_fn}
use mir.Val.{Val, vptr, vint}
use base.Fraction.{full_share}
use base.Logic.{SProp, ent, sep, ex, guard}
use base.Fml.{Fml, fsep, feq, Lft, GName, Share, ftrue, flft}
use prog.Memory.{Memory, size as bytes_of, capped}
use prog.Capped.{capped_is}
use prog.Routine.{Routine}
use prog.Wp.{Calls, Loops, WpFn, Tables}
use types.Logic.{Logic, sem}
use types.Mut.{open_ref}
use contract.BorrowLft.{◌⊑◌}
use contract.Lifetimes.{AllOutlive}
use contract.Monad.{Fun}
use contract.Running.{tables, tables_of}
use sound.WpLaws.{WpFn-mono}
use types.Kit.{Item, ‵, ◌⊛◌, raw, given, some, later, ◌$◌, ◌∵◌, !, qed, by, move, keep, drop, split, split3, join, learn, fsplit, fsplit3, fjoin, use1, use2, await, pick, suffices, frame, done, updating, group, now, show, rewrite, check, feq_l, feq_i}
use types.SemTy.{cells}
use types.Part.{agg}
use types.Run.{stop, addr, bin, and_then, no_more, returns, enter, size_word}
use types.ByLocal.{alloc_all, pass_all, free_all, look_at, get, through, sets, is}
use denote.Array.{Array}
use denote.ArrayMemory.{Array-apart, Array-whole}
use denote.Builtin.{RefMutOf, usize}
use denote.Exit.{yes, no}
use denote.Follow.{follows}
use denote.FollowSlice.{lends_Elements}
use denote.Index.{row, whole_in, whole_out}
use denote.Memory.{mem, part_at}
use denote.Param.{param, layout, layouts}
use denote.Plain.{uint_vals, uint_Tells}
use denote.RattleType.{RattleType, owns}
use denote.Ref.{MutBor, MutRef, mut_vals, mut_Tells}
use denote.Signature.{plain}
use denote.Slice.{MutSlice, Room, slice_val}
use denote.Steps.{nothing}
use denote.Triple.Clauses.{Clauses, Ended, closing}
use denote.Triple.Entry.{on_entry}
use denote.Triple.Spec.{Meets, triple_of}
use denote.Triple.Table.{entered}
use denote.Triple.Walked.{says, Stays, stay_dropped, walk_of, ends_at, walked, Goes-dropped, Goes-spent_ref, walk_Meets}
use borrow.Table.Elements.{at, at_mul, cut_app, join_app, length-take-le}
use Rattle.leaf_edit.specs.Written.{with_part}
use Rattle.leaf_edit.proofs.PartMut.{with_part_is}
use Rattle.leaf_edit.specs.contracts.lend.part_mut as F
use Rattle.leaf_edit.specs.contracts.lend.part_mut.Key.{name as #self}
use Rattle.leaf_edit.proofs.lend.part_mut.Statement as stated
use Rattle.leaf_edit.proofs.lend.part_mut.Code as code

uncapped : (i k : ℕ) → i * k < 2 ^ 64 → i * capped k ≡ i * k
uncapped zero k h = zero-mul (capped k) ∙ sym (zero-mul k)
uncapped (suc i) k h = let step = suc-mul i k in ap (λ (j : ℕ). suc i * j) (capped_is k (omega arith))

module _ (X : RattleType) where
  abbrev args : Args
  args = layouts (a_type ∷ []) (X, tt)

  abbrev function : Fn
  function = inst_fn args code.function

  abbrev R : RattleType
  R = param 0 X

  abbrev S : RattleType
  S = Array R 4096

  abbrev ended : Ended
  ended = F.ended X

  abbrev stayed : Stays ended.signature.params ended.kept
  stayed = (stay_dropped (RefMutOf (0 ∷ []) tt (plain (λ _. S)) (λ _. tt)) no, (stay_dropped (plain (λ _. usize)) yes, (stay_dropped (plain (λ _. usize)) yes, tt)))

module _ (X : RattleType) {M : Type 1} {𝓤 : Ura M} (𝓛 : Logic 𝓤) where
  open 𝓛 use {H, A}

  module _ (κ : Lft) (q : Share) (b o : ℕ) (γ : GName) (xs : List X.Denot) (start size : ℕ) where
    abbrev front : List X.Denot
    front = take start xs

    abbrev mid : List X.Denot
    mid = take size (drop_list start xs)

    abbrev back : List X.Denot
    back = drop_list size (drop_list start xs)

    abbrev after : List X.Denot → List X.Denot
    after = with_part xs start size

    abbrev elements : List X.Denot → ℕ → Fml
    elements ws = cells (mem (R X)) ws b

    abbrev past : ℕ → ℕ → ℕ
    past p = at p (mem (R X)).size

    abbrev place : ℕ
    place = start * bytes_of (layout X) + o

    abbrev Rest : SProp 𝓤
    Rest = sep 𝓤 (sem 𝓛 (elements front o)) (sem 𝓛 (elements back (past place size)))

    block_out : ent 𝓤 (sem 𝓛 ((mem (S X)).own_at xs b o)) (guard 𝓤 (length xs ≡ 4096) (sem 𝓛 (elements xs o)))
    block_out = qed 𝓛 (‵ (part_at (S X) full_share xs b o) ∷ []) ∵
        use1 𝓛 (‵ (fsep (feq ℕ (length xs) 4096) (row (R X) full_share xs b o))) (Array-apart 𝓛 (R X) full_share tt 4096 xs b o) $ fsplit ! $ feq_l ! (λ e.
        use1 𝓛 (‵ (elements xs o)) (whole_in 𝓛 (R X) xs b o) $ check ! e $ done !)

    block_in : (ws : List X.Denot) → length ws ≡ 4096 → ent 𝓤 (sem 𝓛 (elements ws o)) (sem 𝓛 ((mem (S X)).own_at ws b o))
    block_in ws e = qed 𝓛 (‵ (elements ws o) ∷ []) ∵ use1 𝓛 (‵ (row (R X) full_share ws b o)) (whole_out 𝓛 (R X) ws b o) $
        feq_i ! ℕ (length ws) 4096 e $ fjoin ! $ by ! (Array-whole 𝓛 (R X) full_share 4096 ws b o)

    put : length xs ≡ 4096 → start + size ≤ 4096 → past o (length front) ≡ place → (ws : List X.Denot) → length ws ≡ length mid
        → ent 𝓤 (sep 𝓤 (sem 𝓛 (elements ws place)) Rest) (sem 𝓛 ((mem (S X)).own_at (after ws) b o))
    put long within on ws e =
        let left = length-drop start xs in
        let count : length mid ≡ size = length-take-le size (drop_list start xs) (omega arith) in
        let same : after ws ≡ front ++ (ws ++ back) = with_part_is xs start size ws (omega arith) (e ∙ count) in
        let lf : length front ≡ start = length-take-le start xs (omega arith) in
        let whole = length-append front (ws ++ back) in
        let inner = length-append ws back in
        let rest = length-drop size (drop_list start xs) in
        let all = ap length same in
        qed 𝓛 (‵ (elements ws place) ∷ ‵ (elements front o) ∷ ‵ (elements back (past place size)) ∷ []) ∵
        rewrite ! 2 (λ (k : ℕ). ‵ (elements back (past place k))) (sym (e ∙ count)) refl $ move ! (0 ∷ 2 ∷ []) $
        use2 𝓛 (‵ (elements (ws ++ back) place)) (join_app 𝓛 (mem (R X)) ws back b place) $
        rewrite ! 0 (λ (k : ℕ). ‵ (elements (ws ++ back) k)) (sym on) refl $ move ! (1 ∷ 0 ∷ []) $
        use2 𝓛 (‵ (elements (front ++ (ws ++ back)) o)) (join_app 𝓛 (mem (R X)) front (ws ++ back) b o) $
        rewrite ! 0 (λ (l : List X.Denot). ‵ (elements l o)) (sym same) refl $
        by ! (block_in (after ws) (omega arith))

    abbrev Lent : ℕ → GName → SProp 𝓤
    Lent k δ = sep 𝓤 (sem 𝓛 ((MutSlice (named 0) κ (R X)).own_val (record { ref_ptr = (b, place); ghost_name = δ; now = mid }) (slice_val (b, place) k ∷ []))) (sep 𝓤 (A.lft κ q) (sem 𝓛 (follows (S X) (Array (R X) 0) γ δ after)))

    abbrev lent : ℕ → GName → Item 𝓤
    lent k δ = ‵ ((MutSlice (named 0) κ (R X)).own_val (record { ref_ptr = (b, place); ghost_name = δ; now = mid }) (slice_val (b, place) k ∷ [])) ⊛ ‵ (flft κ q) ⊛ ‵ (follows (S X) (Array (R X) 0) γ δ after)

    lends : start + size ≤ 4096 → 4096 * bytes_of (layout X) < 2 ^ 63 → (vs : List Val)
        → ent 𝓤 (sep 𝓤 (sem 𝓛 ((MutRef (named 0) κ (S X)).own_val (record { ref_ptr = (b, o); ghost_name = γ; now = xs }) vs)) (A.lft κ q)) (H.⇛ (ex 𝓤 (Lent size)))
    lends within small vs =
        qed 𝓛 (‵ ((MutRef (named 0) κ (S X)).own_val (record { ref_ptr = (b, o); ghost_name = γ; now = xs }) vs) ∷ ‵ (flft κ q) ∷ []) ∵
        updating ! $ fsplit3 ! $ drop ! $ open_ref ! tt (mem (S X)) {b = b} {o = o} $
        use1 𝓛 (given (length xs ≡ 4096) (‵ (elements xs o))) block_out $
        learn ! (λ long.
        let left = length-drop start xs in
        let lf : length front ≡ start = length-take-le start xs (omega arith) in
        let count : length mid ≡ size = length-take-le size (drop_list start xs) (omega arith) in
        let on : past o (length front) ≡ place = at_mul o (mem (R X)).size (length front) ∙ ap (λ (k : ℕ). k * bytes_of (layout X) + o) lf in
        let bytes : length mid * bytes_of (layout X) ≤ 4096 * bytes_of (layout X) = mul-le-mul_right (bytes_of (layout X)) (omega arith) in
        let room : Room (R X) (length mid) = (omega arith, omega arith) in
        let cut : xs ≡ front ++ (mid ++ back) = sym (take-append-drop start xs) ∙ ap (λ (l : List X.Denot). front ++ l) (sym (take-append-drop size (drop_list start xs))) in
        rewrite ! 0 (λ (l : List X.Denot). ‵ (elements l o)) cut refl $
        use1 𝓛 (‵ (elements front o) ⊛ ‵ (elements (mid ++ back) (past o (length front)))) (cut_app 𝓛 (mem (R X)) front (mid ++ back) b o) $ split ! $ move ! (1 ∷ []) $
        rewrite ! 0 (λ (k : ℕ). ‵ (elements (mid ++ back) k)) on refl $
        use1 𝓛 (‵ (elements mid place) ⊛ ‵ (elements back (past place (length mid)))) (cut_app 𝓛 (mem (R X)) mid back b place) $ split ! $
        rewrite ! 1 (λ (k : ℕ). ‵ (elements back (past place k))) count refl $
        move ! (2 ∷ 1 ∷ []) $ join ! $ move ! (2 ∷ 3 ∷ 4 ∷ 1 ∷ 0 ∷ []) $ group ! 5 $
        use1 𝓛 (later (some (lent (length mid))))
        (lends_Elements 𝓛 (S X) (R X) after (named 0) κ q b o b place γ mid room Rest (put long within on) ((S X).coded.code xs) ((S X).coded.code xs)) $
        await ! tt $ pick ! (λ δ. rewrite ! 0 (λ (k : ℕ). lent k δ) count refl $ now ! $ show ! (Lent size) δ $ done !))

  module _ (at_mem : Memory → SProp 𝓤) (run : Routine → Fun 𝓤) where
    abbrev clauses : Clauses 𝓤 (ended X)
    clauses = F.clauses X 𝓛 at_mem run

    module _ (C : Calls 𝓤 H) (Λ : Loops 𝓤 H) (κ κT : Lft) (q qT : Share)
        (bd : AllOutlive 2 (ended X).signature.outlives (κ, (κT, tt))) (b o : ℕ) (γ : GName) (xs : List X.Denot) (start size : ℕ) where
      abbrev self : MutBor (List X.Denot)
      self = record { ref_ptr = (b, o); ghost_name = γ; now = xs }

      abbrev bound : (walk_of 𝓛 (ended X) (stayed X) clauses).Ghost
      bound = (((κ, (κT, tt)), (q, (qT, tt)), bd, (self, (start, (size, tt))), (mut_vals self, (vint w64 start ∷ [], (vint w64 size ∷ [], tt)))), tt)

      walk : start + size ≤ 4096 → start < 2 ^ 64 → size < 2 ^ 64 → 4096 * bytes_of (layout X) < 2 ^ 63
          → ent 𝓤 (on_entry 𝓛 (ended X).signature (κ, (κT, tt)) (q, (qT, tt)) (self, (start, (size, tt))) (mut_vals self, (vint w64 start ∷ [], (vint w64 size ∷ [], tt))))
          (WpFn 𝓤 H C Λ (function X) (vptr b o ∷ vint w64 start ∷ vint w64 size ∷ []) ((walk_of 𝓛 (ended X) (stayed X) clauses).post bound))
      walk within fs fz small =
          let w : ℕ = bytes_of (layout X) in
          let scaled : start * w ≤ 4096 * w = mul-le-mul_right w (omega arith) in
          let product : start * w < 2 ^ 64 = omega arith in
          let sum : start + size < 2 ^ 64 = omega arith in
          let below : start ≤ start + size = omega arith in
          let less : start + size - start ≡ size = omega arith in
          qed 𝓛 ((‵ (flft κ q) ⊛ ‵ (flft κT qT) ⊛ ‵ ftrue) ∷ ‵ (owns (MutRef (named 0) κ (S X) ∷ usize ∷ usize ∷ []) (self, (start, (size, tt))) (mut_vals self, (vint w64 start ∷ [], (vint w64 size ∷ [], tt)))) ∷ []) ∵
          enter ! C Λ (function X) (vptr b o ∷ vint w64 start ∷ vint w64 size ∷ []) _ $
          alloc_all ! (λ l. pass_all ! refl ((tt, tt), ((tt, record { fits = fs }), ((tt, record { fits = fz }), tt))) $
          sets ! (bin ! (get ! refl) (get ! refl) (record { fits = sum })) refl (tt, record { fits = sum }) $
          sets ! (is ! (bin ! (get ! refl) (size_word !) (record { fits = subst (λ (k : ℕ). k < 2 ^ 64) (sym (uncapped start w product)) product })) (ap (vint w64) (uncapped start w product))) refl (tt, record { fits = product }) $
          sets ! (addr ! (through ! refl (stop !))) refl (tt, tt) $
          sets ! (bin ! (get ! refl) (get ! refl) tt) refl (tt, tt) $
          sets ! (is ! (bin ! (get ! refl) (get ! refl) below) (ap (vint w64) less)) refl (tt, record { fits = fz }) $
          sets ! (addr ! (through ! refl (stop !))) refl (tt, tt) $
          sets ! (agg ! (and_then ! (get ! refl) (and_then ! (get ! refl) (no_more !)))) refl (tt, (tt, (record { fits = fz }, tt))) $
          split ! $ move ! (2 ∷ []) $ fsplit ! $ move ! (0 ∷ 2 ∷ []) $
          use2 𝓛 (later (some (lent κ q b o γ xs start size size))) (lends κ q b o γ xs start size within small (mut_vals self)) $
          await ! tt $ pick ! (λ δ.
          returns ! (look_at ! 0 refl) $ free_all ! refl $ keep ! (0 ∷ 2 ∷ []) $ split3 ! $
          suffices ! _ (ends_at 𝓛 (ended X) (stayed X) clauses bound (slice_val (b, start * w + o) size) (record { ref_ptr = (b, start * w + o); ghost_name = δ; now = take size (drop_list start xs) }) (tt, (tt, (tt, tt))) (tt, (tt, (tt, tt)))) $
          nothing ! $ nothing ! $ fjoin ! $ nothing ! $ fjoin ! $ nothing ! $ fjoin ! $ join ! $ move ! (1 ∷ 3 ∷ []) $ join ! $ join ! $ frame ! $ says ! refl $ done !))

    meets : (𝓣 : Tables 𝓤 H) → Meets 𝓛 (ended X).signature (WpFn 𝓤 H 𝓣.C 𝓣.Λ (function X)) (closing 𝓛 (ended X) clauses)
    meets 𝓣 =
        let goes = Goes-dropped 𝓛 2 (plain (λ _. usize)) yes (λ κs x f. refl) in
        walk_Meets 𝓛 (ended X) (stayed X) (Goes-spent_ref 𝓛 2 (0 ∷ []) tt (plain (λ _. S X)), (goes, (goes, tt))) clauses (WpFn 𝓤 H 𝓣.C 𝓣.Λ (function X)) (WpFn-mono 𝓤 H 𝓛.laws 𝓣 (function X))
        (walked 𝓛 (ended X) (stayed X) clauses (WpFn 𝓤 H 𝓣.C 𝓣.Λ (function X)) (λ κs. (mut_vals, (uint_vals w64, (uint_vals w64, tt)))) (λ κs. (mut_Tells (named 0) κs.0 (S X), (uint_Tells w64, (uint_Tells w64, tt))))
        (λ κs qs bounds a g are.
        qed 𝓛 (raw (on_entry 𝓛 (ended X).signature κs qs a (mut_vals a.0, (vint w64 a.1.0 ∷ [], (vint w64 a.1.1.0 ∷ [], tt)))) ∷ (given (κs.1.0 ⊑ X.lives) (‵ ftrue) ⊛ given (bytes_of (layout (S X)) < 2 ^ 63) (‵ ftrue) ⊛ given (a.1.0 + a.1.1.0 ≤ 4096) (‵ ftrue)) ∷ []) ∵
        move ! (1 ∷ []) $ split3 ! $ drop ! $ learn ! (λ fits. drop ! $ learn ! (λ within. drop ! $
        by ! (walk 𝓣.C 𝓣.Λ κs.0 κs.1.0 qs.0 qs.1.0 bounds a.0.ref_ptr.0 a.0.ref_ptr.1 a.0.ghost_name a.0.now a.1.0 a.1.1.0 within are.1.0.1 are.1.1.0.1 fits)))))

pub part_mut_spec : {M : Type 1} → stated.statement M
unfolding tables_of
part_mut_spec 𝓤 𝓛 𝓜 𝓡 wired X L =
    let 𝓣 : Tables 𝓤 𝓛.H = tables_of 𝓤 𝓛.H 𝓜 (tables 𝓤 𝓛.H 𝓜 𝓡 𝓡.env) in
    entered 𝓤 𝓛.H (triple_of 𝓛 (ended X).signature (F.spec X 𝓛 𝓜.mem 𝓡.returns)) 𝓣.C 𝓣.Λ (#self (args X)) (function X) (code.unfolded 𝓤 𝓛.H 𝓜 𝓡 wired (X, tt))
    (meets X 𝓛 𝓜.mem 𝓡.returns 𝓣)
