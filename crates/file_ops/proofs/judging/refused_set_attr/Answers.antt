-- The rows of setattr, one by one, and what is done where none holds.
use Rattle.std.proofs.Common.{◌≡◌, true, false, length, nat_lt, refl, sym, ◌∙◌, arith}
use Rattle.std.proofs.lemmas.Bool.{le-ltb, lt-ltb}
use Rattle.flat_model.specs.declared.answer.Answer.TheVariants.{Collide, NoEnt, NotDir, TooLarge}
use Rattle.flat_model.specs.Operations.{set_attribute}
use Rattle.flat_model.specs.Walk.{walk}
use Rattle.file_ops.proofs.Judged.{refused_by, refused_by_none}
use Rattle.file_ops.proofs.Rows.{set_blocked, set_crowded, set_done, set_large, set_missing, set_none, set_rows}
use Rattle.file_ops.proofs.judging.refused_set_attr.Goals as goal

pub find-requires : goal.find-requires
find-requires c = c.requires.given.1.gives.tree_in

pub is_crowded-requires-clause-tree : goal.is_crowded-requires-clause-tree
is_crowded-requires-clause-tree c = c.requires.given.1.gives.tree_in

pub returns-in-Missing : goal.returns-in-Missing
unfolding set_attribute
returns-in-Missing c = λ run gives.
    let place = walk run.sub c.args.path.now in
    let name = c.args.name.now in
    let value = c.args.value.now in
    refused_by run (set_rows run place name value) (set_done run place name value) NoEnt refl (set_missing run place name value (c.in-Missing.ensures run gives))

pub returns-in-Blocked : goal.returns-in-Blocked
unfolding set_attribute
returns-in-Blocked c = λ run gives.
    let place = walk run.sub c.args.path.now in
    let name = c.args.name.now in
    let value = c.args.value.now in
    let at = c.in-Blocked.ensures run gives in
    refused_by run (set_rows run place name value) (set_done run place name value) NotDir refl (set_blocked run place name value at.0 at.1)

pub returns-then-len-gt-MOST_VALUE_BYTES : goal.returns-then-len-gt-MOST_VALUE_BYTES
unfolding set_attribute
returns-then-len-gt-MOST_VALUE_BYTES c = λ run gives.
    let place = walk run.sub c.args.path.now in
    let name = c.args.name.now in
    let value = c.args.value.now in
    let at = c.in-At.ensures run gives in
    let large : nat_lt 1024 (length value) ≡ true = lt-ltb 1024 (length value) (omega (arith, c.if-len-gt-MOST_VALUE_BYTES.true, c.len.ensures.value)) in
    refused_by run (set_rows run place name value) (set_done run place name value) TooLarge refl (set_large run place name value c.in-At.ino.0 at large)

pub returns-then-is_crowded : goal.returns-then-is_crowded
unfolding set_attribute
returns-then-is_crowded c = λ run gives.
    let place = walk run.sub c.args.path.now in
    let name = c.args.name.now in
    let value = c.args.value.now in
    let at = c.in-At.ensures run gives in
    let short : nat_lt 1024 (length value) ≡ false = le-ltb 1024 (length value) (omega (arith, c.if-len-gt-MOST_VALUE_BYTES.false, c.len.ensures.value)) in
    let crowded = sym (c.is_crowded.ensures.crowded run.sub at.inode gives.gives at.there) ∙ c.if-is_crowded.true in
    refused_by run (set_rows run place name value) (set_done run place name value) Collide refl (set_crowded run place name value c.in-At.ino.0 at short crowded)

pub returns-else-is_crowded : goal.returns-else-is_crowded
unfolding set_attribute
returns-else-is_crowded c = λ run gives.
    let place = walk run.sub c.args.path.now in
    let name = c.args.name.now in
    let value = c.args.value.now in
    let at = c.in-At.ensures run gives in
    let short : nat_lt 1024 (length value) ≡ false = le-ltb 1024 (length value) (omega (arith, c.if-len-gt-MOST_VALUE_BYTES.false, c.len.ensures.value)) in
    let room = sym (c.is_crowded.ensures.crowded run.sub at.inode gives.gives at.there) ∙ c.if-is_crowded.false in
    refused_by_none run (set_rows run place name value) (set_done run place name value) refl (set_none run place name value c.in-At.ino.0 at short room)
