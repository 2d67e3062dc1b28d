use Rattle.std.proofs.Common.{ℕ, List, sym, subst, refl}
use Rattle.std.specs.Cmp.{nat_cmp_total}
use Rattle.std.specs.FinMap.{nat_cmp-IsAntisymmetric, from_entries}
use Rattle.flat_model.specs.Coherent.{KeepsFileLimits, KeepsBlockLimits}
use Rattle.flat_record.specs.SizedBlocks.{SizedBlocks, file_of}
use Rattle.flat_record.proofs.Limits.{to_get, from_get}
use Rattle.flat_record.proofs.file.File.keeps_limits.Goals as goal

pub returns : goal.returns
returns c = λ attributes.
    let inside = c.self.inside in
    let es = inside.blocks.items in
    let seen : SizedBlocks = record { size = inside.size; blocks = from_entries es } in
    let keeps : ℕ × List ℕ → Type 0 = λ e. KeepsBlockLimits inside.size e.0 e.1 in (
      λ t. subst (λ s. KeepsFileLimits (file_of attributes s)) c.self.view_is (record { size = c.if-self-gt-MOST_FILE_BYTES.false; blocks = to_get nat_cmp_total nat_cmp-IsAntisymmetric keeps es (from_entries es) refl (c.do_keep_limits.ensures.0 t) }),
      λ limits. c.do_keep_limits.ensures.1 (from_get nat_cmp_total keeps es (from_entries es) c.self.invariant refl (subst (λ s. KeepsFileLimits (file_of attributes s)) (sym c.self.view_is) limits).blocks),
    )
