-- The rows of read, one by one.
use Rattle.std.proofs.Common.{◌≡◌, ℕ, List, [], Option, Some, sym, ap, subst, ◌∙◌}
use Rattle.flat_model.specs.declared.answer.Answer.{Answer}
use Rattle.flat_model.specs.declared.answer.Answer.TheVariants.{Bytes, IsDir, Loop, NoEnt, NotDir}
use Rattle.flat_model.specs.Contents.{bytes_read}
use Rattle.flat_model.specs.Operations.{Outcome, file_rows, file_there, read, unchanged}
use Rattle.std.specs.FinMap.{get}
use Rattle.flat_model.specs.Records.{FileInode, InodeRecord, kind_of}
use Rattle.flat_model.specs.Volume.{RunSub}
use Rattle.flat_model.specs.Walk.{WalkEnd, record_at, walk}
use Rattle.table_volume.specs.Operated.{IsOperated}
use Rattle.file_ops.proofs.Answered.{finished, refused, stays}
use Rattle.file_ops.proofs.FileRows.{dir_is, file_blocked, file_dir, file_is, file_link, file_missing, file_more, kind_told, link_is, none_told}
use Rattle.file_ops.proofs.Placed.{record_is}
use Rattle.file_ops.proofs.contents.read.Goals as goal

abbrev told : RunSub → WalkEnd → ℕ → ℕ → Answer
told run place offset count = Bytes (bytes_read (file_there (record_at run.sub place)) offset count)

pub returns-in-Missing : goal.returns-in-Missing
unfolding read
returns-in-Missing c = λ run gives.
    let place = walk run.sub c.args.path.now in
    refused c.args.table.now c.args.sub.now run (file_rows run place []) (unchanged run (told run place c.args.offset c.args.count)) NoEnt 0 gives (file_missing run place [] (c.in-Missing.ensures run gives))

pub returns-in-Blocked : goal.returns-in-Blocked
unfolding read
returns-in-Blocked c = λ run gives.
    let place = walk run.sub c.args.path.now in
    let at = c.in-Blocked.ensures run gives in
    refused c.args.table.now c.args.sub.now run (file_rows run place []) (unchanged run (told run place c.args.offset c.args.count)) NotDir 0 gives (file_blocked run place [] at.0 at.1)

pub returns-in-Some-Dir : goal.returns-in-Some-Dir
unfolding read
returns-in-Some-Dir c = λ run gives.
    let place = walk run.sub c.args.path.now in
    let at = c.in-At.ensures run gives in
    let kind : c.in-Some-Dir.field-0 ≡ kind_of at.inode = kind_told (get run.sub.inodes c.in-At.ino.0) at.inode c.in-Some-Dir.field-0 (c.in-Some-Dir.ensures run.sub (record { gives = gives.gives; coherent = gives.sound.coherent })) at.there in
    refused c.args.table.now c.args.sub.now run (file_rows run place []) (unchanged run (told run place c.args.offset c.args.count)) IsDir 0 gives (file_dir run place [] c.in-At.ino.0 at (dir_is at.inode (sym c.in-Some-Dir.field-0-is ∙ kind)))

pub returns-in-Some-Link : goal.returns-in-Some-Link
unfolding read
returns-in-Some-Link c = λ run gives.
    let place = walk run.sub c.args.path.now in
    let at = c.in-At.ensures run gives in
    let kind : c.in-Some-Link.field-0 ≡ kind_of at.inode = kind_told (get run.sub.inodes c.in-At.ino.0) at.inode c.in-Some-Link.field-0 (c.in-Some-Link.ensures run.sub (record { gives = gives.gives; coherent = gives.sound.coherent })) at.there in
    let link = link_is at.inode (sym c.in-Some-Link.field-0-is ∙ kind) in
    refused c.args.table.now c.args.sub.now run (file_rows run place []) (unchanged run (told run place c.args.offset c.args.count)) Loop 0 gives (file_link run place [] c.in-At.ino.0 at link.0 link.1)

pub returns-in_ok-text-in-Some-File : goal.returns-in_ok-text-in-Some-File
unfolding read
returns-in_ok-text-in-Some-File c = λ run gives.
    let place = walk run.sub c.args.path.now in
    let at = c.in-At.ensures run gives in
    let kind : c.in-Some-File.field-0 ≡ kind_of at.inode = kind_told (get run.sub.inodes c.in-At.ino.0) at.inode c.in-Some-File.field-0 (c.in-Some-File.ensures run.sub (record { gives = gives.gives; coherent = gives.sound.coherent })) at.there in
    let file = file_is at.inode (sym c.in-Some-File.field-0-is ∙ kind) in
    let there : get run.sub.inodes c.in-At.ino.0 ≡ Some (FileInode file.0) = at.there ∙ ap (λ (r : InodeRecord). Some r) file.1 in
    let text : c.in_ok-text-in-Some-File.text ≡ bytes_read file.0 c.args.offset c.args.count = c.in_ok-text-in-Some-File.ensures run.sub file.0 (record { gives = gives.gives; coherent = gives.sound.coherent }) there in
    let record_file : record_at run.sub place ≡ Some (FileInode file.0) = record_is run.sub place c.in-At.ino.0 at ∙ ap (λ (r : InodeRecord). Some r) file.1 in
    let same : Bytes c.in_ok-text-in-Some-File.text ≡ told run place c.args.offset c.args.count = ap (λ (b : List ℕ). Bytes b) (text ∙ sym (ap (λ (r : Option InodeRecord). bytes_read (file_there r) c.args.offset c.args.count) record_file)) in
    subst (λ (o : Outcome). IsOperated c.args.table.now c.args.table.now c.args.sub.now c.args.sub.now run o (Bytes c.in_ok-text-in-Some-File.text) 0)
    (sym (finished run (file_rows run place []) (unchanged run (told run place c.args.offset c.args.count)) (file_more run place [] c.in-At.ino.0 at file.0 file.1)))
    (stays c.args.table.now c.args.sub.now run (told run place c.args.offset c.args.count) (Bytes c.in_ok-text-in-Some-File.text) 0 gives same)

pub returns-in-None : goal.returns-in-None
unfolding read
returns-in-None c = λ run gives.
    let at = c.in-At.ensures run gives in
    absurd (none_told (get run.sub.inodes c.in-At.ino.0) at.inode (c.in-None.ensures run.sub (record { gives = gives.gives; coherent = gives.sound.coherent })) at.there)
