use Rattle.std.proofs.Common.{◌++◌, List, ℕ, ap, ◌∙◌, codes}
use Rattle.std.specs.Fmt.{decimal}
use Rattle.current_view.specs.View.{seen}
use Rattle.flat_model.specs.declared.view.Kind.{Kind}
use Rattle.flat_model.specs.Records.{kind_of}
use Rattle.volume_listing.specs.Listing.{kind_word, links_shown, size_shown, sum_shown, path_shown, target_shown, word, line_of}
use Rattle.io_edge.proofs.Texts.{joined}
use Rattle.inode_shown.proofs.Shown.{links_are, path_is, size_is}
use Rattle.inode_shown.proofs.line.put_line.Goals as goal

pub returns : goal.returns
unfolding line_of
returns c = λ inode steps is same.
    let sub = seen c.args.table.now c.args.tree.now in
    let ino = c.args.ino in
    let old = c.args.text.now.items in
    let one = word (decimal ino) in
    let two = word (kind_word (kind_of inode)) in
    let three = word (decimal (links_shown sub ino inode)) in
    let four = word (decimal (size_shown sub ino inode)) in
    let five = word (sum_shown inode) in
    let six = path_shown steps in
    let seven = target_shown inode in
    let first = c.in_ok-put_number_word.ensures in
    let second = joined _ _ _ one two first (c.in_ok-put_kind_word.ensures ∙ ap (λ (kind : Kind). c.put_number_word.new.text.items ++ word (kind_word kind)) (c.kind_told.ensures inode is.mode)) in
    let third = joined _ _ _ (one ++ two) three second (c.in_ok-put_number_word-2.ensures ∙ ap (λ n. c.put_kind_word.new.text.items ++ word (decimal n)) (c.from.ensures ∙ is.nlink ∙ links_are sub ino inode)) in
    let fourth = joined _ _ _ (one ++ two ++ three) four third (c.in_ok-put_number_word-3.ensures ∙ ap (λ n. c.put_number_word-2.new.text.items ++ word (decimal n)) (is.size ∙ size_is sub ino inode)) in
    let fifth = joined _ _ _ (one ++ two ++ three ++ four) five fourth (c.in_ok-put_sum_word.ensures inode is) in
    let sixth = joined _ _ _ (one ++ two ++ three ++ four ++ five) six fifth (c.in_ok-put_path.ensures ∙ ap (λ (l : List ℕ). c.put_sum_word.new.text.items ++ l) (path_is steps c.args.path.now same)) in
    let seventh = joined _ _ _ (one ++ two ++ three ++ four ++ five ++ six) seven sixth (c.in_ok-put_target.ensures inode is) in
    joined _ _ _ (one ++ two ++ three ++ four ++ five ++ six ++ seven) (codes "\n") seventh c.in_ok-push.ensures.items
