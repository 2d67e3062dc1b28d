-- The rows of operations on contents before the last, one by one.
use Rattle.std.proofs.Common.{◌≡◌, refl, sym, ◌∙◌}
use Rattle.std.specs.FinMap.{get}
use Rattle.flat_model.specs.Records.{kind_of}
use Rattle.flat_model.specs.Walk.{walk}
use Rattle.file_ops.proofs.FileRows.{dir_is, file_blocked, file_dir, file_is, file_link, file_missing, kind_told, link_is, none_told}
use Rattle.file_ops.proofs.contents.find_file.Goals as goal

pub returns-in-Missing : goal.returns-in-Missing
returns-in-Missing c = λ run gives. record { first = λ rows. file_missing run (walk run.sub c.args.path.now) rows (c.in-Missing.ensures run gives); refuses = refl }

pub returns-in-Blocked : goal.returns-in-Blocked
returns-in-Blocked c = λ run gives.
    let at = c.in-Blocked.ensures run gives in
    record { first = λ rows. file_blocked run (walk run.sub c.args.path.now) rows at.0 at.1; refuses = refl }

pub returns-in-Some-Dir : goal.returns-in-Some-Dir
returns-in-Some-Dir c = λ run gives.
    let at = c.in-At.ensures run gives in
    let kind : c.in-Some-Dir.field-0 ≡ kind_of at.inode = kind_told (get run.sub.inodes c.in-At.ino.0) at.inode c.in-Some-Dir.field-0 (c.in-Some-Dir.ensures run.sub (record { gives = gives.gives; coherent = gives.sound.coherent })) at.there in
    record { first = λ rows. file_dir run (walk run.sub c.args.path.now) rows c.in-At.ino.0 at (dir_is at.inode (sym c.in-Some-Dir.field-0-is ∙ kind)); refuses = refl }

pub returns-in-Some-Link : goal.returns-in-Some-Link
returns-in-Some-Link c = λ run gives.
    let at = c.in-At.ensures run gives in
    let kind : c.in-Some-Link.field-0 ≡ kind_of at.inode = kind_told (get run.sub.inodes c.in-At.ino.0) at.inode c.in-Some-Link.field-0 (c.in-Some-Link.ensures run.sub (record { gives = gives.gives; coherent = gives.sound.coherent })) at.there in
    let link = link_is at.inode (sym c.in-Some-Link.field-0-is ∙ kind) in
    record { first = λ rows. file_link run (walk run.sub c.args.path.now) rows c.in-At.ino.0 at link.0 link.1; refuses = refl }

pub returns-in-Some-File : goal.returns-in-Some-File
returns-in-Some-File c = λ run gives.
    let at = c.in-At.ensures run gives in
    let kind : c.in-Some-File.field-0 ≡ kind_of at.inode = kind_told (get run.sub.inodes c.in-At.ino.0) at.inode c.in-Some-File.field-0 (c.in-Some-File.ensures run.sub (record { gives = gives.gives; coherent = gives.sound.coherent })) at.there in
    let file = file_is at.inode (sym c.in-Some-File.field-0-is ∙ kind) in
    record { at = at; file = file.0; is = file.1 }

pub returns-in-None : goal.returns-in-None
returns-in-None c = λ run gives.
    let at = c.in-At.ensures run gives in
    absurd (none_told (get run.sub.inodes c.in-At.ino.0) at.inode (c.in-None.ensures run.sub (record { gives = gives.gives; coherent = gives.sound.coherent })) at.there)
