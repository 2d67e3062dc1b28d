use Rattle.std.proofs.Common.{Ok, ap, sym}
use Rattle.disk_model.specs.Disk.{known}
use Rattle.std.proofs.Common.{Vec, Global, ℕ, refl, arith}
use Rattle.foreign_format.specs.declared.entry.EntryKind.TheVariants.{File, Link, Sub}
use Rattle.foreign_tree.specs.Tree.{disk_bytes, volume_value}
use Rattle.foreign_tree.proofs.Told.{told_always, told_from}
use Rattle.foreign_listing.specs.View.{place_view, tree_value}
use Rattle.foreign_listing.proofs.ByKind.{line_answers, not_disk, plain_answers}
use Rattle.foreign_listing.proofs.lines.line_of.Goals as goal

pub returns-in-File-clause-answer : goal.returns-in-File-clause-answer
returns-in-File-clause-answer g c =
    told_from (known (g.D.Disk.seen c.args.disk.now) (g.D.Disk.lost c.args.disk.now)) _ _ c.file_line.ensures.answer
    (λ image h. line_answers (λ (line : Vec ℕ Global). line.items) c.file_line.result File (volume_value c.args.volume.now) (disk_bytes image) (tree_value c.args.tree.now) (place_view c.args.place.now) c.in-File.is h)

pub returns-in-Link-clause-answer : goal.returns-in-Link-clause-answer
returns-in-Link-clause-answer g c =
    told_from (known (g.D.Disk.seen c.args.disk.now) (g.D.Disk.lost c.args.disk.now)) _ _ c.link_line.ensures.answer
    (λ image h. line_answers (λ (line : Vec ℕ Global). line.items) c.link_line.result Link (volume_value c.args.volume.now) (disk_bytes image) (tree_value c.args.tree.now) (place_view c.args.place.now) c.in-Link.is h)

pub returns-in_ok-sub_line-in-Sub-clause-answer : goal.returns-in_ok-sub_line-in-Sub-clause-answer
returns-in_ok-sub_line-in-Sub-clause-answer g c =
    told_always (known (g.D.Disk.seen c.args.disk.now) (g.D.Disk.lost c.args.disk.now)) _
    (λ image. line_answers (λ (line : Vec ℕ Global). line.items) (Ok c.in_ok-sub_line-in-Sub.field-0) Sub (volume_value c.args.volume.now) (disk_bytes image) (tree_value c.args.tree.now) (place_view c.args.place.now) c.in-Sub.is (ap Ok (sym c.in_ok-sub_line-in-Sub.ensures)))

pub returns-in-Dir : goal.returns-in-Dir
returns-in-Dir g c = record {
  answer = told_always (known (g.D.Disk.seen c.args.disk.now) (g.D.Disk.lost c.args.disk.now)) _
      (λ image. plain_answers (λ (line : Vec ℕ Global). line.items) c.plain_line.result (volume_value c.args.volume.now) (disk_bytes image) (tree_value c.args.tree.now) (place_view c.args.place.now) c.in-Dir.is c.plain_line.ensures.answer);
  disk_fault = λ is. absurd (not_disk c.plain_line.result c.plain_line.ensures.no_disk is);
  size = refl;
  seen = refl;
  lost = refl;
  told = refl;
  counted = omega arith;
}
