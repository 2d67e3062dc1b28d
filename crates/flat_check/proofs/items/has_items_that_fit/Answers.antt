use Rattle.std.proofs.Common.{List, sym, ◌∙◌}
use Rattle.std.proofs.lemmas.Bool.{true≢false}
use Rattle.flat_model.specs.Names.{FlatName}
use Rattle.flat_model.specs.declared.view.NameAt.{NameAt}
use Rattle.flat_sub.specs.View.{names_view}
use Rattle.flat_check.proofs.Fitting.{ref_fits, extref_fits, entry_fits}
use Rattle.flat_check.proofs.items.has_items_that_fit.Goals as goal
use Rattle.flat_check.proofs.items.has_items_that_fit.Goals.{then-fits, else-fits}

pub returns-then-fits-2 : goal.returns-then-fits-2
returns-then-fits-2 c near =
    let all : List FlatName = names_view c.args.sub.now.names.items c.args.sub.now.near.items in
    let name : NameAt = c.args.name.now in
    let entry = entry_fits all name.dir.0 c.name_hash.result c.as_bytes-bytes.result.now name.name c.fits-then-fits-2.result c.as_bytes-bytes.ensures.value c.name_hash.ensures c.fits-then-fits-2.ensures in
    elim c.if-fits.branch [
      | then-fits w ↦
          let refs = ref_fits all name.ino.0 name.dir.0 c.fits.result c.fits.ensures in
          let extref = extref_fits all name.ino.0 name.dir.0 c.extref_hash.result c.as_bytes-bytes.result.now name.name w.fits-then-fits.result c.as_bytes-bytes.ensures.value c.extref_hash.ensures w.fits-then-fits.ensures in
          (λ fits. record { refs = refs.0 w.if-fits.true; extref = extref.0 (sym w.value-is ∙ c.if-fits-2.true); entry = entry.0 fits }, λ all_fit. entry.1 all_fit.entry)
      | else-fits w ↦ absurd (true≢false (sym c.if-fits-2.true ∙ w.value-is ∙ w.if-fits.false))
    ]

pub returns-else-fits-2 : goal.returns-else-fits-2
returns-else-fits-2 c near =
    let all : List FlatName = names_view c.args.sub.now.names.items c.args.sub.now.near.items in
    let name : NameAt = c.args.name.now in (
      λ test. absurd (true≢false (sym test ∙ c.if-fits-2.false)),
      λ all_fit. elim c.if-fits.branch [
        | then-fits w ↦ w.value-is ∙ (extref_fits all name.ino.0 name.dir.0 c.extref_hash.result c.as_bytes-bytes.result.now name.name w.fits-then-fits.result c.as_bytes-bytes.ensures.value c.extref_hash.ensures w.fits-then-fits.ensures).1 all_fit.extref
        | else-fits w ↦ absurd (true≢false (sym ((ref_fits all name.ino.0 name.dir.0 c.fits.result c.fits.ensures).1 all_fit.refs) ∙ w.if-fits.false))
      ],
    )
