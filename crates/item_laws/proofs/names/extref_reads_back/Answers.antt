use Rattle.std.proofs.Common.{[], ◌∷◌, sym}
use Rattle.std.proofs.lemmas.List.{append-nil}
use Rattle.blk_base.specs.Entries.{extref_bytes}
use Rattle.item_laws.specs.ExtRefs.{extrefs_to}
use Rattle.item_laws.proofs.names.extref_reads_back.Goals as goal

pub returns : goal.returns
returns c r parent index name = extrefs_to (extref_bytes r) (r ∷ []) (record { some = λ e. cc; spelled = sym (append-nil (extref_bytes r)); numbers = ((parent, index), tt); names = (name, tt) })
