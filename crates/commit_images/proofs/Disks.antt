-- Calls of the device, and what they leave of blocks that they don't write.
use Rattle.std.proofs.Common.{◌≡◌, ◌≢◌, ℕ, Bool, true, false, List, ◌∷◌, Some, sym, subst, ◌∙◌, inl, inr}
use Rattle.std.specs.Prelude.{Contains, slice_get}
use Rattle.std.proofs.lemmas.List.{length-set}
use Rattle.std.proofs.lemmas.List.Elements.{Contains-append_cases}
use Rattle.disk_model.specs.Disk.{Call, Held, Image, IsUnsettled, Leaves, after_call, during_call}
use Rattle.disk_model.proofs.CrashLaws.{slice_get-set_other, Contains-cons_cases, Contains-here, Contains-none, lost_before}

-- a block with these bytes is durable: it isn't the superblock, is settled, and reads so
pub record IsSettledAs (held : Held) (block : ℕ × List ℕ) : Type 0 where
  pub not_super : block.0 ≢ 16
  pub settled : IsUnsettled held block.0 → ⊥
  pub reads : slice_get held.image block.0 ≡ Some block.1

pub write_keeps : (held : Held) (at : ℕ) (bytes : List ℕ) (ok : Bool) (left : List ℕ) (block : ℕ × List ℕ) → block.0 ≢ at → IsSettledAs held block → IsSettledAs (after_call held (Call.Write at bytes ok left)) block
write_keeps held at bytes ok left block other is = record {
  not_super = is.not_super;
  settled = λ unsettled. is.settled (elim unsettled [
    | inl pending ↦ elim (Contains-cons_cases at held.pending block.0 pending) [ inl same ↦ absurd (other (sym same)) | inr before ↦ inl before ]
    | inr lost ↦ inr (lost_before at ok held.lost block.0 lost)
  ]);
  reads = slice_get-set_other held.image at block.0 left other ∙ is.reads;
}

pub super_keeps : (held : Held) (bytes : List ℕ) (ok : Bool) (left : List ℕ) (block : ℕ × List ℕ) → IsSettledAs held block → IsSettledAs (after_call held (Call.Super bytes ok left)) block
super_keeps held bytes ok left block is = record {
  not_super = is.not_super;
  settled = λ unsettled. is.settled (elim unsettled [ inl pending ↦ inl pending | inr lost ↦ inr lost ]);
  reads = slice_get-set_other held.image 16 block.0 left is.not_super ∙ is.reads;
}

pub flush_keeps : (held : Held) (ok : Bool) (block : ℕ × List ℕ) → IsSettledAs held block → IsSettledAs (after_call held (Call.Flush ok)) block
flush_keeps held true block is = record {
  not_super = is.not_super;
  settled = λ unsettled. is.settled (elim unsettled [ inl pending ↦ inl (absurd (Contains-none block.0 pending)) | inr lost ↦ inr lost ]);
  reads = is.reads;
}
flush_keeps held false block is = record {
  not_super = is.not_super;
  settled = λ unsettled. is.settled (elim unsettled [
    | inl pending ↦ inl (absurd (Contains-none block.0 pending))
    | inr lost ↦ Contains-append_cases held.pending held.lost block.0 lost
  ]);
  reads = is.reads;
}

-- what a crash may leave while a write runs, it may leave behind one that failed
pub write_running : (held : Held) (at : ℕ) (bytes : List ℕ) (ok : Bool) (left : List ℕ) (image : Image) → Leaves (during_call held (Call.Write at bytes ok left)) image
    → Leaves (after_call held (Call.Write at bytes false left)) image
write_running held at bytes ok left image leaves = record {
  blocks = leaves.blocks;
  size = leaves.size ∙ sym (length-set held.image at left);
  super = leaves.super;
  others = λ k not_super settled. leaves.others k not_super (λ unsettled. settled unsettled) ∙ sym (slice_get-set_other held.image at k left (λ same. settled (inl (subst (Contains (at ∷ held.pending)) (sym same) (Contains-here at held.pending)))));
}

pub super_running : (held : Held) (bytes : List ℕ) (ok : Bool) (left : List ℕ) (image : Image) → Leaves (during_call held (Call.Super bytes ok left)) image
    → Leaves (after_call held (Call.Super bytes false left)) image
super_running held bytes ok left image leaves = record {
  blocks = leaves.blocks;
  size = leaves.size ∙ sym (length-set held.image 16 left);
  super = leaves.super;
  others = λ k not_super settled. leaves.others k not_super (λ unsettled. settled unsettled) ∙ sym (slice_get-set_other held.image 16 k left not_super);
}
