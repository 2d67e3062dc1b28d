use Rattle.std.proofs.Common.{[], ◌∷◌, refl, sym, arith}
use Rattle.std.proofs.lemmas.List.{append-nil}
use Rattle.std.proofs.lemmas.Option.{slice_get_within}
use Rattle.blk_base.specs.Entries.{entry_bytes}
use Rattle.item_laws.specs.Directories.{entries_to}
use Rattle.item_laws.proofs.directories.entry_reads_back.Goals as goal

pub returns : goal.returns
returns c kind e fields name kind_fits =
    entries_to kind (entry_bytes e) (e ∷ []) (record {
      some = λ n. cc;
      spelled = sym (append-nil (entry_bytes e));
      fields = (fields, tt);
      names = (name, tt);
      kinds = (kind_fits, tt);
      once = λ i j a b l s t. let within = slice_get_within (e ∷ []) j b t in absurd (omega (arith, within));
      single = λ k. refl;
    })
