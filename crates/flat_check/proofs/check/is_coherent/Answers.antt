use Rattle.std.proofs.Common.{sym, ◌∙◌}
use Rattle.std.proofs.lemmas.Bool.{true≢false}
use Rattle.flat_model.specs.Volume.{Subvolume}
use Rattle.flat_sub.specs.View.{sub_view}
use Rattle.flat_check.proofs.Coherence.{coherent_from, right_name, right_inode}
use Rattle.flat_check.proofs.check.is_coherent.Goals as goal
use Rattle.flat_check.proofs.check.is_coherent.Goals.{then-is_dir, else-is_dir}

pub returns-then-names_are_right : goal.returns-then-names_are_right
returns-then-names_are_right c =
    let sub : Subvolume = (sub_view c.args.sub.now).sub in
    elim c.if-is_dir.branch [
      | then-is_dir w ↦ (
        λ inodes. coherent_from sub c.requires.in_order (sym c.is_dir.ensures ∙ w.if-is_dir.true) (w.names_are_right.ensures.0 (sym w.value-is ∙ c.if-names_are_right.true)) (c.inodes_are_right.ensures.0 inodes),
        λ coherent. c.inodes_are_right.ensures.1 (right_inode sub coherent),
      )
      | else-is_dir w ↦ absurd (true≢false (sym c.if-names_are_right.true ∙ w.value-is ∙ w.if-is_dir.false))
    ]

pub returns-else-names_are_right : goal.returns-else-names_are_right
returns-else-names_are_right c =
    let sub : Subvolume = (sub_view c.args.sub.now).sub in (
      λ test. absurd (true≢false (sym test ∙ c.if-names_are_right.false)),
      λ coherent. elim c.if-is_dir.branch [
        | then-is_dir w ↦ w.value-is ∙ w.names_are_right.ensures.1 (right_name sub coherent)
        | else-is_dir w ↦ absurd (true≢false (sym coherent.root_is_dir ∙ sym c.is_dir.ensures ∙ w.if-is_dir.false))
      ],
    )
