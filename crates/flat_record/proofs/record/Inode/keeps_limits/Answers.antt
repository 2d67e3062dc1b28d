use Rattle.std.proofs.Common.{sym, subst, ◌∙◌, refl}
use Rattle.std.proofs.lemmas.Bool.{true≢false}
use Rattle.flat_model.specs.Records.{LinkRecord}
use Rattle.flat_model.specs.Coherent.{KeepsKindLimits}
use Rattle.flat_record.specs.RecordView.{record_view}
use Rattle.flat_record.proofs.Limits.{limits_from, attribute_limits, kind_limits}
use Rattle.flat_record.proofs.record.Inode.keeps_limits.Goals as goal

pub returns-then-not-do_keep_limits : goal.returns-then-not-do_keep_limits
returns-then-not-do_keep_limits c =
    let inside = c.self.inside in
    (λ t. absurd (true≢false (sym t)), λ keeps. sym c.if-not-do_keep_limits.true ∙ c.do_keep_limits.ensures.1 (attribute_limits inside.attributes inside.contents c.args.self.now c.self.view_is keeps))

pub returns-in-File : goal.returns-in-File
returns-in-File c =
    let inside = c.self.inside in
    let test = c.keeps_limits.ensures inside.attributes in
    let kept = c.do_keep_limits.ensures.0 c.if-not-do_keep_limits.false in (
      λ t. limits_from inside.attributes inside.contents c.args.self.now c.self.view_is kept (subst (λ k. KeepsKindLimits (record_view inside.attributes k)) (sym c.in-File.is) (test.0 t)),
      λ keeps. test.1 (subst (λ k. KeepsKindLimits (record_view inside.attributes k)) c.in-File.is (kind_limits inside.attributes inside.contents c.args.self.now c.self.view_is keeps)),
    )

pub returns-in-Dir : goal.returns-in-Dir
returns-in-Dir c =
    let inside = c.self.inside in
    let kept = c.do_keep_limits.ensures.0 c.if-not-do_keep_limits.false in
    (λ t. limits_from inside.attributes inside.contents c.args.self.now c.self.view_is kept (subst (λ k. KeepsKindLimits (record_view inside.attributes k)) (sym c.in-Dir.is) tt), λ keeps. refl)

pub returns-in-Link : goal.returns-in-Link
returns-in-Link c =
    let inside = c.self.inside in
    let link : LinkRecord = record { attributes = inside.attributes; target = c.in-Link.target } in
    let test = c.is_target.ensures link refl in
    let kept = c.do_keep_limits.ensures.0 c.if-not-do_keep_limits.false in (
      λ t. limits_from inside.attributes inside.contents c.args.self.now c.self.view_is kept (subst (λ k. KeepsKindLimits (record_view inside.attributes k)) (sym c.in-Link.is) (test.0 t)),
      λ keeps. test.1 (subst (λ k. KeepsKindLimits (record_view inside.attributes k)) c.in-Link.is (kind_limits inside.attributes inside.contents c.args.self.now c.self.view_is keeps)),
    )
