use Rattle.std.proofs.Common.{◌++◌, List, ℕ, sym, ap, ◌∙◌, append-nil}
use Rattle.std.specs.FinMap.{get}
use Rattle.flat_model.specs.Records.{attributes_of}
use Rattle.flat_sub.specs.View.{sub_view}
use Rattle.volume_listing.specs.Listing.{Listed, line_of, attribute_lines}
use Rattle.io_edge.proofs.Texts.{joined}
use Rattle.volume_listing.proofs.Shown.{lines_some, lines_none}
use Rattle.volume_listing.proofs.lines.put_found.Goals as goal

pub returns-in_ok-put_attributes-in-Some-clause-text : goal.returns-in_ok-put_attributes-in-Some-clause-text
returns-in_ok-put_attributes-in-Some-clause-text c =
    let sub = (sub_view c.args.sub.now).sub in
    let found = c.args.found.now in
    let inode = c.in-Some.inode.now in
    let there = c.in-Some.ensures ∙ ap (λ (l : Listed). get sub.inodes l.ino) c.found.view_is in
    joined _ _ _ (line_of sub found inode) (attribute_lines (attributes_of inode)) c.in_ok-put_line-in-Some.ensures c.in_ok-put_attributes-in-Some.ensures
    ∙ ap (λ (more : List ℕ). c.args.text.now.items ++ more) (sym (lines_some sub found inode there))

pub returns-in-None-clause-text : goal.returns-in-None-clause-text
returns-in-None-clause-text c =
    let sub = (sub_view c.args.sub.now).sub in
    let none = c.in-None.ensures ∙ ap (λ (l : Listed). get sub.inodes l.ino) c.found.view_is in
    sym (append-nil _) ∙ ap (λ (more : List ℕ). c.args.text.now.items ++ more) (sym (lines_none sub c.args.found.now none))
