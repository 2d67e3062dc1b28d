use Rattle.std.proofs.Common.{◌≡◌, ℕ, map, ap, subst, ◌∙◌, sum_by, arith}
use Rattle.std.specs.List.Sorted.{IsPermutation}
use Rattle.std.proofs.lemmas.List.Sums.{sum_by-le-sum_by}
use Rattle.blk_base.specs.Crc.{name_hash_of}
use Rattle.flat_model.specs.Lengths.{dir_item_length}
use Rattle.flat_model.specs.Names.{hashed_of}
use Rattle.flat_model.specs.Unmarked.{unmarked}
use Rattle.drawn_set.specs.Slots.{bytes_beside, entry_bytes}
use Rattle.drawn_set.proofs.Crowded.{beside_le, crowded_is, crowded_none, sum_beside, sum_given}
use Rattle.drawn_set.proofs.slots.is_crowded.Goals as goal

pub all_bytes_beside-beside-requires : goal.all_bytes_beside-beside-requires
all_bytes_beside-beside-requires g c =
    let sub = g.B.NameView.sub c.args.recovered.now in
    let hash = name_hash_of c.args.at.now.name in
    let sum = sum_given sub.names c.args.at.now.dir.0 hash c.args.others.now c.requires.others in
    let fits = c.requires.recovered_coherent.items_fit.entries c.args.at.now.dir.0 hash in
    omega (arith, sum, fits)

pub returns-then-beside-eq0 : goal.returns-then-beside-eq0
returns-then-beside-eq0 g c =
    let here = g.A.NameView.sub c.args.current.now in
    let there = g.B.NameView.sub c.args.recovered.now in
    let hash = name_hash_of c.args.at.now.name in
    let dir = c.args.at.now.dir.0 in
    crowded_none here there dir hash c.all_bytes_beside-beside.result c.requires.coherent
    (c.all_bytes_beside-beside.ensures ∙ sum_beside here there dir hash c.args.others.now c.requires.others) c.if-beside-eq0.true

pub item_bytes-requires : goal.item_bytes-requires
item_bytes-requires g c =
    let sub = g.A.NameView.sub c.args.current.now in
    let dir = c.args.at.now.dir.0 in
    let sum : sum_by entry_bytes c.deref.result.now ≡ dir_item_length sub.names dir c.name_hash.result =
    ap (sum_by entry_bytes) c.deref.ensures.value ∙ sum_given sub.names dir c.name_hash.result c.in_ok-here.here.items c.in_ok-here.ensures in
    let fits = c.requires.coherent.items_fit.entries dir c.name_hash.result in
    omega (arith, sum, fits)

pub overflow_add-result : goal.overflow_add-result
overflow_add-result g c =
    let here = g.A.NameView.sub c.args.current.now in
    let there = g.B.NameView.sub c.args.recovered.now in
    let dir = c.args.at.now.dir.0 in
    let hash = name_hash_of c.args.at.now.name in
    let sum : sum_by entry_bytes c.deref.result.now ≡ dir_item_length here.names dir c.name_hash.result =
    ap (sum_by entry_bytes) c.deref.ensures.value ∙ sum_given here.names dir c.name_hash.result c.in_ok-here.here.items c.in_ok-here.ensures in
    let fits = c.requires.coherent.items_fit.entries dir c.name_hash.result in
    let other = sum_given there.names dir hash c.args.others.now c.requires.others in
    let fits' = c.requires.recovered_coherent.items_fit.entries dir hash in
    let less = sum_by-le-sum_by (bytes_beside here) entry_bytes c.args.others.now (beside_le here) in
    omega (arith, sum, fits, other, fits', less, c.all_bytes_beside-beside.ensures, c.item_bytes.ensures)

pub returns : goal.returns
returns g c =
    let here = g.A.NameView.sub c.args.current.now in
    let there = g.B.NameView.sub c.args.recovered.now in
    let dir = c.args.at.now.dir.0 in
    let hash = name_hash_of c.args.at.now.name in
    let is_hash : c.name_hash.result ≡ hash = c.name_hash.ensures ∙ ap name_hash_of c.as_bytes.ensures.value in
    crowded_is here there dir hash c.item_bytes.result c.all_bytes_beside-beside.result
    (c.item_bytes.ensures ∙ ap (sum_by entry_bytes) c.deref.ensures.value ∙ sum_given here.names dir hash c.in_ok-here.here.items
    (subst (λ (h : ℕ). IsPermutation (map unmarked (hashed_of here.names dir h)) c.in_ok-here.here.items) is_hash c.in_ok-here.ensures))
    (c.all_bytes_beside-beside.ensures ∙ sum_beside here there dir hash c.args.others.now c.requires.others)
