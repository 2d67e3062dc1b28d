use Rattle.std.proofs.Common.{◌++◌, [], ℕ, List, ap, ◌∙◌, codes}
use Rattle.std.specs.Fmt.{decimal}
use Rattle.io_edge.proofs.Texts.{joined}
use Rattle.foreign_listing.specs.Lines.{inode_line, kind_word, path_shown, word}
use Rattle.foreign_listing.proofs.lines.inode_line.Goals as goal

pub returns : goal.returns
unfolding inode_line
returns c =
    let place = c.args.place.now in
    let inode = c.args.inode in
    let one = word (decimal place.to) in
    let two = word (kind_word place.kind) in
    let three = word (decimal inode.links) in
    let four = word (decimal inode.size) in
    let five = word c.args.sum.now in
    let six = path_shown place.path.items in
    let seven = c.args.behind.now in
    let first = c.in_ok-put_number.ensures ∙ ap (λ (line : List ℕ). line ++ one) c.new-line.ensures.items in
    let second = joined [] _ _ one two first (c.in_ok-put_word.ensures ∙ ap (λ (text : List ℕ). c.put_number.new.line.items ++ word text) (c.as_bytes.ensures.value ∙ c.kind_word.ensures)) in
    let third = joined [] _ _ (one ++ two) three second (c.in_ok-put_number-2.ensures ∙ ap (λ (n : ℕ). c.put_word.new.line.items ++ word (decimal n)) c.from.ensures) in
    let fourth = joined [] _ _ (one ++ two ++ three) four third c.in_ok-put_number-3.ensures in
    let fifth = joined [] _ _ (one ++ two ++ three ++ four) five fourth c.in_ok-put_word-2.ensures in
    let sixth = joined [] _ _ (one ++ two ++ three ++ four ++ five) six fifth (c.in_ok-put_path.ensures ∙ ap (λ (path : List ℕ). c.put_word-2.new.line.items ++ path_shown path) c.deref.ensures.value) in
    let seventh = joined [] _ _ (one ++ two ++ three ++ four ++ five ++ six) seven sixth c.in_ok-extend_from_slice.ensures.items in
    joined [] _ _ (one ++ two ++ three ++ four ++ five ++ six ++ seven) (codes "\n") seventh c.in_ok-push.ensures.items
