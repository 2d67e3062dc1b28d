use Rattle.std.proofs.Common.{List, refl, subst, sym}
use Rattle.block_table.specs.declared.tree.SubState.{SubState}
use Rattle.flat_model.specs.Volume.{volume_of}
use Rattle.table_volume.specs.Running.{GiveVolume}
use Rattle.volume_listing.specs.Listing.{listing_of}
use Rattle.script_runner.specs.declared.status.Status.TheVariants.{Done}
use Rattle.script_runner.proofs.AnswerLemmas.{told_whole}
use Rattle.script_runner.proofs.list.print.Goals as goal

pub write_tree_listing-requires : goal.write_tree_listing-requires
write_tree_listing-requires g c =
    record { given = (c.requires.given.0, subst (λ (states : List SubState). GiveVolume c.args.mounted.now.table states c.requires.given.0) (sym c.deref.ensures.value) c.requires.given.1) }

pub returns-in-Ok-clause-text : goal.returns-in-Ok-clause-text
returns-in-Ok-clause-text g c = λ run given.
    let lent : GiveVolume c.args.mounted.now.table c.deref.result.now run = subst (λ (states : List SubState). GiveVolume c.args.mounted.now.table states run) (sym c.deref.ensures.value) given in
    (listing_of (volume_of run), refl, told_whole Done (listing_of (volume_of run)) _ _ _ _ (c.in-Ok.ensures.ok run lent))
