use Rattle.std.proofs.Common.{◌≡◌, Vec, Global, List, [], Option, None, Ok, Err, ap, sym, ◌∙◌}
use Rattle.std.proofs.lemmas.Result.{err_from_is_err_and}
use Rattle.disk_model.specs.Disk.{known}
use Rattle.foreign_format.specs.declared.fault.ForeignFault.{ForeignFault}
use Rattle.foreign_format.specs.declared.fault.ReadFault.TheVariants.{Foreign}
use Rattle.foreign_tree.specs.Tree.{Found, disk_bytes, volume_value}
use Rattle.foreign_tree.proofs.Told.{told_from}
use Rattle.foreign_volume.specs.declared.roots.Roots.{Roots}
use Rattle.foreign_volume.specs.declared.roots.Subvolume.{Subvolume}
use Rattle.foreign_volume.specs.Roots.{found_so_far, subs_of}
use Rattle.foreign_volume.proofs.Subs.{subs_failed, subs_walked}
use Rattle.foreign_volume.proofs.roots.subvolumes.Goals as goal

abbrev has_met : Roots → List Found → Type 0
has_met roots items = subs_of items ≡ found_so_far roots.fault roots.subs.items

pub returns-in_err-walk-clause-answer : goal.returns-in_err-walk-clause-answer
returns-in_err-walk-clause-answer g c =
    let p = err_from_is_err_and c.from_residual.result c.from_residual.ensures.1 in
    rw (p.1, p.2) (told_from (known (g.D.Disk.seen c.args.disk.now) (g.D.Disk.lost c.args.disk.now)) _ _ c.in_err-walk.ensures.answer
    (λ image. subs_failed (λ (subs : Vec Subvolume Global). subs.items) has_met (record { subs = c.new.result; fault = None }) c.walk.new.visitor (disk_bytes image) (volume_value c.args.volume.now) c.args.superblock.now c.in_err-walk.field-0.0))

pub returns-in-Some-clause-answer : goal.returns-in-Some-clause-answer
returns-in-Some-clause-answer g c =
    told_from (known (g.D.Disk.seen c.args.disk.now) (g.D.Disk.lost c.args.disk.now)) _ _ c.in_ok-walk.ensures.answer
    (λ image walk. subs_walked (λ (subs : Vec Subvolume Global). subs.items) (disk_bytes image) (volume_value c.args.volume.now) c.args.superblock.now walk.0 (Err (Foreign c.in-Some.fault)) walk.1
    (walk.2 [] (ap Ok (sym c.new.ensures.items)) ∙ ap (λ (fault : Option ForeignFault). found_so_far fault c.walk.new.visitor.subs.items) c.in-Some.is))

pub returns-in-None-clause-answer : goal.returns-in-None-clause-answer
returns-in-None-clause-answer g c =
    told_from (known (g.D.Disk.seen c.args.disk.now) (g.D.Disk.lost c.args.disk.now)) _ _ c.in_ok-walk.ensures.answer
    (λ image walk. subs_walked (λ (subs : Vec Subvolume Global). subs.items) (disk_bytes image) (volume_value c.args.volume.now) c.args.superblock.now walk.0 (Ok c.walk.new.visitor.subs) walk.1
    (walk.2 [] (ap Ok (sym c.new.ensures.items)) ∙ ap (λ (fault : Option ForeignFault). found_so_far fault c.walk.new.visitor.subs.items) c.in-None.is))
