use Rattle.std.proofs.Common.{ℕ, [], ◌∙◌, subst, IsPermutation}
use Rattle.volume_image.specs.Subvolume.{extrefs_asked}
use Rattle.name_walk.proofs.InSlots.{far_found}
use Rattle.name_walk.proofs.slots.far_index.Goals as goal

pub returns-in_err-refs : goal.returns-in_err-refs
returns-in_err-refs c = λ sub there given leads far.
    let same = subst (λ (h : ℕ). IsPermutation [] (extrefs_asked sub c.args.ino h)) c.extref_hash.ensures (c.in_err-refs.ensures sub given.gives) in
    c.from_residual.ensures ∙ far_found sub given.coherent c.args.dir c.args.name.now c.args.ino there leads far [] same

pub returns : goal.returns
returns c = λ sub there given leads far.
    let same = subst (λ (h : ℕ). IsPermutation c.in_ok-refs.refs (extrefs_asked sub c.args.ino h)) c.extref_hash.ensures (c.in_ok-refs.ensures sub given.gives) in
    c.far_named.ensures ∙ far_found sub given.coherent c.args.dir c.args.name.now c.args.ino there leads far c.in_ok-refs.refs same
