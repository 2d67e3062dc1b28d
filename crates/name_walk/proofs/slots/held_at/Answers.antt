use Rattle.std.proofs.Common.{◌≡◌, ℕ, Bool, true, false, List, sym, ap, ◌∙◌}
use Rattle.std.specs.Option.{unwrap_or}
use Rattle.flat_model.specs.Names.{FlatName}
use Rattle.name_walk.specs.Ends.{name_held}
use Rattle.name_walk.proofs.InSlots.{slot_has}
use Rattle.name_walk.proofs.slots.held_at.Goals as goal

-- a name by its parts
by_parts : (dir index ino : ℕ) (bytes : List ℕ) (near : Bool) (n : FlatName) → n.dir ≡ dir → n.index ≡ index → n.bytes ≡ bytes → n.ino ≡ ino → n.near ≡ near → name_held dir bytes (record { ino = ino; index = index; near = near }) ≡ n
by_parts dir index ino bytes near n d i b o m = λ k. record { dir = sym d k; index = sym i k; bytes = sym b k; ino = sym o k; near = sym m k }

pub returns-in-Some : goal.returns-in-Some
returns-in-Some c = λ sub there given leads.
    let has = slot_has sub c.args.dir c.args.name.now there leads.there in
    let is = c.in-Some.ensures sub there given leads in
    by_parts c.args.dir c.in-Some.index c.args.ino c.args.name.now true there has.1 is.1 has.2 leads.leads is.0

pub returns-in-None : goal.returns-in-None
returns-in-None c = λ sub there given leads.
    let has = slot_has sub c.args.dir c.args.name.now there leads.there in
    let far = c.in-None.ensures sub there given leads in
    let index = c.unwrap_or.ensures ∙ ap (λ o. unwrap_or o 0) (c.far_index.ensures sub there given leads far) in
    by_parts c.args.dir c.unwrap_or.result c.args.ino c.args.name.now false there has.1 (sym index) has.2 leads.leads far
