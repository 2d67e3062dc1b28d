use Rattle.std.proofs.Common.{◌++◌, List, ℕ, sym, ap, ◌∙◌, append-nil}
use Rattle.current_view.specs.View.{seen}
use Rattle.flat_model.specs.Records.{attributes_of}
use Rattle.volume_listing.specs.Listing.{Listed, line_of, attribute_lines}
use Rattle.io_edge.proofs.Texts.{joined}
use Rattle.volume_listing.proofs.Shown.{lines_some, lines_none}
use Rattle.inode_shown.proofs.line.put_inode.Goals as goal

pub returns-in_ok-put_attributes-in-Some-clause-text : goal.returns-in_ok-put_attributes-in-Some-clause-text
returns-in_ok-put_attributes-in-Some-clause-text c = λ steps same.
    let sub = seen c.args.table.now c.args.tree.now in
    let says = c.in-Some.ensures sub c.requires in
    let inode = says.inode in
    let place : Listed = record { path = steps; ino = c.args.ino } in
    joined _ _ _ (line_of sub place inode) (attribute_lines (attributes_of inode)) (c.in_ok-put_line-in-Some.ensures inode steps (record { there = says.there; mode = says.mode; size = says.size; nlink = says.nlink }) same) (c.in_ok-put_attributes-in-Some.ensures inode says.there)
    ∙ ap (λ (more : List ℕ). c.args.text.now.items ++ more) (sym (lines_some sub place inode (sym says.there)))

pub returns-in-None-clause-text : goal.returns-in-None-clause-text
returns-in-None-clause-text c = λ steps same.
    let sub = seen c.args.table.now c.args.tree.now in
    let none = c.in-None.ensures sub c.requires in
    sym (append-nil _) ∙ ap (λ (more : List ℕ). c.args.text.now.items ++ more) (sym (lines_none sub (record { path = steps; ino = c.args.ino }) (sym none)))
