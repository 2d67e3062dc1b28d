use Rattle.std.proofs.Common.{[], ◌∷◌, sym}
use Rattle.std.proofs.lemmas.List.{append-nil}
use Rattle.blk_base.specs.Entries.{ref_bytes}
use Rattle.item_laws.specs.Refs.{refs_to}
use Rattle.item_laws.proofs.names.ref_reads_back.Goals as goal

pub returns : goal.returns
returns c key r index name = refs_to key (ref_bytes r) (r ∷ []) (record { some = λ e. cc; spelled = sym (append-nil (ref_bytes r)); indexes = (index, tt); names = (name, tt) })
