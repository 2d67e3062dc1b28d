use Rattle.std.proofs.Common.{◌++◌, ap, ◌∙◌, codes}
use Rattle.std.specs.Fmt.{decimal}
use Rattle.flat_model.specs.declared.view.Kind.{Kind}
use Rattle.flat_model.specs.Records.{kind_of}
use Rattle.flat_sub.specs.View.{sub_view}
use Rattle.volume_listing.specs.Listing.{Listed, kind_word, links_shown, size_shown, sum_shown, path_shown, target_shown, word, line_of}
use Rattle.io_edge.proofs.Texts.{joined}
use Rattle.volume_listing.proofs.lines.put_line.Goals as goal

pub returns : goal.returns
unfolding line_of
returns c =
    let sub = (sub_view c.args.sub.now).sub in
    let inode = c.args.inode.now in
    let ino = c.found.inside.ino in
    let old = c.args.text.now.items in
    let one = word (decimal ino) in
    let two = word (kind_word (kind_of inode)) in
    let three = word (decimal (links_shown sub ino inode)) in
    let four = word (decimal (size_shown sub ino inode)) in
    let five = word (sum_shown inode) in
    let six = path_shown c.found.inside.path.items in
    let seven = target_shown inode in
    let first = c.in_ok-put_number_word.ensures ∙ ap (λ n. old ++ word (decimal n)) c.from.ensures in
    let second = joined _ _ _ one two first (c.in_ok-put_kind_word.ensures ∙ ap (λ (kind : Kind). c.put_number_word.new.text.items ++ word (kind_word kind)) c.kind.ensures) in
    let third = joined _ _ _ (one ++ two) three second (c.in_ok-put_number_word-2.ensures ∙ ap (λ n. c.put_kind_word.new.text.items ++ word (decimal n)) c.links_shown.ensures) in
    let fourth = joined _ _ _ (one ++ two ++ three) four third (c.in_ok-put_number_word-3.ensures ∙ ap (λ n. c.put_number_word-2.new.text.items ++ word (decimal n)) c.size_shown.ensures) in
    let fifth = joined _ _ _ (one ++ two ++ three ++ four) five fourth c.in_ok-put_sum_word.ensures in
    let sixth = joined _ _ _ (one ++ two ++ three ++ four ++ five) six fifth c.in_ok-put_path.ensures in
    let seventh = joined _ _ _ (one ++ two ++ three ++ four ++ five ++ six) seven sixth c.in_ok-put_target.ensures in
    joined _ _ _ (one ++ two ++ three ++ four ++ five ++ six ++ seven) (codes "\n") seventh c.in_ok-push.ensures.items
    ∙ ap (λ (l : Listed). old ++ line_of sub l inode) c.found.view_is
