-- Tables that blocks are loaded into, one after another.
use Rattle.std.proofs.Common.{Bool, ◌≡◌, ◌≢◌, ◌++◌, ℕ, List, [], ◌∷◌, Contains, refl, sym, ap, subst, ◌∙◌, arith, inl, inr, length-append}
use Rattle.std.proofs.lemmas.Bool.{cases_Bool}
use Rattle.std.proofs.lemmas.List.Elements.{Contains-append_left, Contains-append_right, Contains-append_cases}
use Rattle.blk_base.specs.Bytes.{Image}
use Rattle.block_table.specs.declared.state.SlotState.TheVariants.{Free, Live}
use Rattle.block_table.specs.Slot.{BlockSlot, stood_slot}
use Rattle.block_table.specs.Table.{Table}
use Rattle.block_table.specs.TreeIn.{block_at}
use Rattle.volume_image.specs.Tree.{block_of, was_reached}
use Rattle.volume_image.proofs.Lists.{in_nothing, in_cons}
use Rattle.volume_image.proofs.Reaches.{not_reached, was_reached-true}
use Rattle.tree_load.specs.Loaded.{AreTaken, HasBytes, IsLoad}

-- nothing was loaded yet
pub load_none : (is_data : Bool) (table : Table) → IsLoad is_data table table []
load_none is_data table = record {
  size = refl;
  lists = refl;
  spare = omega arith;
  fresh = λ at c. absurd (in_nothing at c);
  live = λ at c. absurd (in_nothing at c);
  others = λ at out. refl;
}

pub live_state : {is_data : Bool} (table : Table) (at : ℕ) → block_at table at ≡ stood_slot (block_at table at).bytes is_data → (block_at table at).state ≡ Live
live_state table at h = ap (λ (slot : BlockSlot). slot.state) h

pub live_not_free : (table : Table) (at : ℕ) → (block_at table at).state ≡ Live → (block_at table at).state ≡ Free → ⊥
live_not_free table at live free = absurd cc

-- one after another
pub load_more : {is_data : Bool} (old mid new : Table) (near far : List ℕ) → IsLoad is_data old mid near → IsLoad is_data mid new far → IsLoad is_data old new (near ++ far)
load_more {is_data} old mid new near far one two = record {
  size = two.size ∙ one.size;
  lists = two.lists ∙ one.lists;
  spare = omega (arith, one.spare, two.spare, length-append near far);
  fresh = λ at c. elim (Contains-append_cases near far at c) [
    | inl here ↦ one.fresh at here
    | inr there ↦ ap (λ (slot : BlockSlot). slot.state) (sym (one.others at (λ here. apart at here there))) ∙ two.fresh at there
  ];
  live = λ at c. elim (Contains-append_cases near far at c) [
    | inl here ↦ (let same = two.others at (apart at here) in subst (λ (slot : BlockSlot). slot ≡ stood_slot slot.bytes is_data) (sym same) (one.live at here))
    | inr there ↦ two.live at there
  ];
  others = λ at out. two.others at (λ c. out (Contains-append_right near far at c)) ∙ one.others at (λ c. out (Contains-append_left near far at c));
}
  where
    apart : (at : ℕ) → Contains near at → Contains far at → ⊥
    apart at here there = live_not_free mid at (live_state mid at (one.live at here)) (two.fresh at there)

-- the addresses behind those from before are taken then
pub taken_more : {is_data : Bool} (old new : Table) (reached reach : List ℕ) → IsLoad is_data old new reach → AreTaken old reached → AreTaken new (reached ++ reach)
taken_more old new reached reach load taken at = (forward, back)
  where
    forward : Contains (reached ++ reach) at → (block_at new at).state ≢ Free
    forward c = elim (Contains-append_cases reached reach at c) [
      | inl before ↦ (λ free. (taken at).0 before (ap (λ (slot : BlockSlot). slot.state) (sym (load.others at (λ here. (taken at).0 before (load.fresh at here)))) ∙ free))
      | inr here ↦ (λ free. live_not_free new at (live_state new at (load.live at here)) free)
    ]

    back : (block_at new at).state ≢ Free → Contains (reached ++ reach) at
    back used = elim (cases_Bool (was_reached at reach)) [
      | inl here ↦ Contains-append_right reached reach at (was_reached-true at reach here)
      | inr out ↦ Contains-append_left reached reach at ((taken at).1 (λ free. used (ap (λ (slot : BlockSlot). slot.state) (load.others at (not_reached at reach out)) ∙ free)))
    ]

-- ---- the bytes of blocks

-- a block that was loaded before stays
pub kept : {is_data : Bool} (old mid new : Table) (near far : List ℕ) → IsLoad is_data old mid near → IsLoad is_data mid new far → (at : ℕ) → Contains near at → block_at new at ≡ block_at mid at
kept old mid new near far one two at here =
    two.others at (λ there. live_not_free mid at (live_state mid at (one.live at here)) (two.fresh at there))

pub bytes_before : {is_data : Bool} (image : Image) (old mid new : Table) (near far : List ℕ) → IsLoad is_data old mid near → IsLoad is_data mid new far → HasBytes image new (near ++ far) → HasBytes image mid near
bytes_before image old mid new near far one two has at here =
    has at (Contains-append_left near far at here) ∙ ap (λ (slot : BlockSlot). slot.bytes) (kept old mid new near far one two at here)

pub bytes_behind : (image : Image) (new : Table) (near far : List ℕ) → HasBytes image new (near ++ far) → HasBytes image new far
bytes_behind image new near far has at there = has at (Contains-append_right near far at there)

pub bytes_joined : {is_data : Bool} (image : Image) (old mid new : Table) (near far : List ℕ) → IsLoad is_data old mid near → IsLoad is_data mid new far → HasBytes image mid near → HasBytes image new far → HasBytes image new (near ++ far)
bytes_joined image old mid new near far one two before behind at c = elim (Contains-append_cases near far at c) [
  | inl here ↦ before at here ∙ ap (λ (slot : BlockSlot). slot.bytes) (sym (kept old mid new near far one two at here))
  | inr there ↦ behind at there
]

-- the bytes of one block
pub bytes_of_one : (image : Image) (table : Table) (at : ℕ) (bytes : List ℕ) → block_of image at ≡ bytes → (block_at table at).bytes ≡ bytes → HasBytes image table (at ∷ [])
bytes_of_one image table at bytes is has other c = elim (in_cons at other [] c) [
  | inl here ↦ rw (← here) (is ∙ sym has)
  | inr none ↦ absurd (in_nothing other none)
]
