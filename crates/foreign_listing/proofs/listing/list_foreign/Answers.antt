use Rattle.std.proofs.Common.{Vec, Global, Ok, ℕ, ◌∙◌, ap, sym}
use Rattle.std.proofs.lemmas.Result.{err_from_is_err_and}
use Rattle.disk_model.specs.Disk.{known}
use Rattle.disk_model.proofs.CrashLaws.{known_same}
use Rattle.foreign_tree.proofs.Told.{told_both, told_from, told_same, told_three}
use Rattle.foreign_volume.specs.declared.roots.Subvolume.{Subvolume}
use Rattle.foreign_volume.specs.View.{opened_value}
use Rattle.foreign_listing.specs.View.{listed_view}
use Rattle.foreign_listing.proofs.Subvolumes.{all_listed, names_bad, open_bad, roots_bad}
use Rattle.foreign_listing.proofs.listing.list_foreign.Goals as goal

pub returns-in_err-opened-clause-answer : goal.returns-in_err-opened-clause-answer
returns-in_err-opened-clause-answer g c =
    let p = err_from_is_err_and c.from_residual.result c.from_residual.ensures.1 in
    rw (p.1, p.2) (told_from (known (g.D.Disk.seen c.args.disk.now) (g.D.Disk.lost c.args.disk.now)) _ _ c.in_err-opened.ensures.answer
    (λ image bad. open_bad opened_value (λ (text : Vec ℕ Global). text.items) (g.D.Disk.count c.args.disk.now) image c.in_err-opened.field-0.0 bad))

pub returns-in_err-subs-clause-answer : goal.returns-in_err-subs-clause-answer
returns-in_err-subs-clause-answer g c =
    let p = err_from_is_err_and c.from_residual-in_err-subs.result c.from_residual-in_err-subs.ensures.1 in
    let seen = known (g.D.Disk.seen c.args.disk.now) (g.D.Disk.lost c.args.disk.now) in
    rw (p.1, p.2) (told_both seen _ _ _ c.in_ok-opened.ensures.answer (told_same seen _ _ (known_same _ _ _ _ c.open.ensures.seen c.open.ensures.lost) c.in_err-subs.ensures.answer)
    (λ image is bad. roots_bad (λ (subs : Vec Subvolume Global). subs.items) (λ (text : Vec ℕ Global). text.items) (g.D.Disk.count c.args.disk.now) image (opened_value c.in_ok-opened.opened) c.in_err-subs.field-0.0 is bad))

pub returns-in_err-listed-clause-answer : goal.returns-in_err-listed-clause-answer
returns-in_err-listed-clause-answer g c =
    let p = err_from_is_err_and c.from_residual-in_err-listed.result c.from_residual-in_err-listed.ensures.1 in
    let seen = known (g.D.Disk.seen c.args.disk.now) (g.D.Disk.lost c.args.disk.now) in
    rw (p.1, p.2) (told_three seen _ _ _ _ c.in_ok-opened.ensures.answer (told_same seen _ _ (known_same _ _ _ _ c.open.ensures.seen c.open.ensures.lost) c.in_ok-subs.ensures.answer)
    (told_same seen _ _ (known_same _ _ _ _ (c.subvolumes.ensures.seen ∙ c.open.ensures.seen) (c.subvolumes.ensures.lost ∙ c.open.ensures.lost)) c.in_err-listed.ensures.answer)
    (λ image is roots bad. names_bad listed_view (λ (text : Vec ℕ Global). text.items) (g.D.Disk.count c.args.disk.now) image (opened_value c.in_ok-opened.opened) c.deref.result.now c.in_err-listed.field-0.0
    is (roots ∙ ap Ok (sym c.deref.ensures.value)) bad))

pub returns-clause-answer : goal.returns-clause-answer
returns-clause-answer g c =
    let seen = known (g.D.Disk.seen c.args.disk.now) (g.D.Disk.lost c.args.disk.now) in
    told_three seen _ _ _ _ c.in_ok-opened.ensures.answer (told_same seen _ _ (known_same _ _ _ _ c.open.ensures.seen c.open.ensures.lost) c.in_ok-subs.ensures.answer)
    (told_same seen _ _ (known_same _ _ _ _ (c.subvolumes.ensures.seen ∙ c.open.ensures.seen) (c.subvolumes.ensures.lost ∙ c.open.ensures.lost)) c.in_ok-listed.ensures.answer)
    (λ image is roots names. all_listed (g.D.Disk.count c.args.disk.now) image (opened_value c.in_ok-opened.opened) c.deref.result.now (listed_view c.in_ok-listed.listed) _
    is (roots ∙ ap Ok (sym c.deref.ensures.value)) names c.in_ok-with_done.ensures)
