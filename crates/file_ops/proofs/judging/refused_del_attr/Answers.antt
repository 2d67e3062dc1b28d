-- The rows of delattr, one by one, and what is done where none holds.
use Rattle.std.proofs.Common.{◌≡◌, ℕ, Bool, true, false, not, List, Option, Some, None, refl, sym, ap, ◌∙◌}
use Rattle.std.specs.Option.{is_none, is_some}
use Rattle.std.specs.FinMap.{get}
use Rattle.flat_model.specs.declared.answer.Answer.TheVariants.{NoAttr, NoEnt, NotDir}
use Rattle.flat_model.specs.Operations.{attribute_rows, remove_attribute}
use Rattle.flat_model.specs.Records.{attributes_of}
use Rattle.flat_model.specs.Walk.{walk}
use Rattle.file_ops.proofs.Judged.{refused_by, refused_by_none}
use Rattle.file_ops.proofs.Rows.{attribute_blocked, attribute_missing, attribute_none, attribute_some, gone_done}
use Rattle.tree_range.specs.Between.{data_view}
use Rattle.std.specs.Borrow.{Bor}
use Rattle.file_ops.proofs.judging.refused_del_attr.Goals as goal

none_viewed : (lent : Option (Bor (List ℕ))) (b : Bool) → is_some lent ≡ b → is_none (data_view lent) ≡ not b
none_viewed None b h = ap not h
none_viewed (Some x) b h = ap not h

pub find-requires : goal.find-requires
find-requires c = c.requires.given.1.gives.tree_in

pub get_attribute-requires : goal.get_attribute-requires
get_attribute-requires c = c.requires.given.1.gives.tree_in

pub returns-in-Missing : goal.returns-in-Missing
unfolding remove_attribute
returns-in-Missing c = λ run gives.
    let place = walk run.sub c.args.path.now in
    let name = c.args.name.now in
    refused_by run (attribute_rows run place name) (gone_done run place name) NoEnt refl (attribute_missing run place name (c.in-Missing.ensures run gives))

pub returns-in-Blocked : goal.returns-in-Blocked
unfolding remove_attribute
returns-in-Blocked c = λ run gives.
    let place = walk run.sub c.args.path.now in
    let name = c.args.name.now in
    let at = c.in-Blocked.ensures run gives in
    refused_by run (attribute_rows run place name) (gone_done run place name) NotDir refl (attribute_blocked run place name at.0 at.1)

pub returns-then-is_none : goal.returns-then-is_none
unfolding remove_attribute
returns-then-is_none c = λ run gives.
    let place = walk run.sub c.args.path.now in
    let name = c.args.name.now in
    let at = c.in-At.ensures run gives in
    let value = c.get_attribute.ensures.value run.sub at.inode gives.gives at.there in
    let none : is_none (get (attributes_of at.inode) name) ≡ true = ap (λ (o : Option (List ℕ)). is_none o) (sym value) ∙ none_viewed c.get_attribute.result false c.if-is_none.ensures in
    refused_by run (attribute_rows run place name) (gone_done run place name) NoAttr refl (attribute_none run place name c.in-At.ino.0 at none)

pub returns-else-is_none : goal.returns-else-is_none
unfolding remove_attribute
returns-else-is_none c = λ run gives.
    let place = walk run.sub c.args.path.now in
    let name = c.args.name.now in
    let at = c.in-At.ensures run gives in
    let value = c.get_attribute.ensures.value run.sub at.inode gives.gives at.there in
    let some : is_none (get (attributes_of at.inode) name) ≡ false = ap (λ (o : Option (List ℕ)). is_none o) (sym value) ∙ none_viewed c.get_attribute.result true c.if-is_none.ensures in
    refused_by_none run (attribute_rows run place name) (gone_done run place name) refl (attribute_some run place name c.in-At.ino.0 at some)
