-- What a view of the logged volume stands on: the subvolume that the committed tree gives, and the log that is accepted over it.
use Rattle.std.proofs.Common.{◌≡◌, Some, None, Option, sym, ap, ap₂, subst, ◌∙◌, refl}
use Rattle.block_table.specs.declared.tree.Tree.{Tree}
use Rattle.block_table.specs.Table.{Table}
use Rattle.tree_range.specs.Shape.{tree_items}
use Rattle.table_volume.specs.Gives.{data_in}
use Rattle.flat_model.specs.Volume.{Subvolume}
use Rattle.flat_model.specs.Coherent.{IsCoherent}
use Rattle.flat_model.specs.Records.{kind_of}
use Rattle.flat_model.proofs.Maps.{some_same}
use Rattle.image_faults.proofs.OfLines.{is_said}
use Rattle.name_walk.specs.Given.{GivesCoherent}
use Rattle.current_view.specs.View.{seen}
use Rattle.logged_volume.specs.Accepted.{IsAccepted}
use Rattle.logged_volume.specs.FlatLog.{FlatLog, empty_log}
use Rattle.logged_volume.specs.Replay.{replay}
use Rattle.logged_volume.proofs.DataLogs.{empty_is_log}
use Rattle.logged_volume.proofs.Replays.{log_accepted}
use Rattle.logged_volume.specs.Agreement.{Agree}
use Rattle.log_image.proofs.Exact.{log_is}
use Rattle.recovered_view.specs.Log.{HasKeys, IsLogAt, Stands, IsLogOver, IsRecovered, SaysLog, log_said}

-- the subvolume that a tree gives is the one that is seen
pub names_seen : (table : Table) (tree : Tree) (sub : Subvolume) → GivesCoherent table tree sub → sub ≡ seen table tree
names_seen table tree sub given = sym (is_said (tree_items table tree) (data_in table) sub given.gives.tree_in.order given.gives.items given.coherent)

agrees_with_itself : (sub : Subvolume) → IsCoherent sub → Agree sub sub
agrees_with_itself sub coherent = record { kinds = λ ino here there a b. ap kind_of (some_same here there (sym a ∙ b)); indexes = coherent.no_index_twice }

-- over a coherent subvolume the log that says nothing is accepted
empty_accepted : (sub : Subvolume) → IsCoherent sub → IsAccepted sub empty_log
empty_accepted sub coherent = log_accepted sub sub empty_log coherent (empty_is_log sub coherent) (agrees_with_itself sub coherent)

-- the flat log of a log tree is the one that its items say
pub log_is_said : (table : Table) (committed : Subvolume) (log : Option Tree) (flat : FlatLog) → IsLogAt table log flat → log_said table log ≡ flat
log_is_said table committed None flat is = sym is
log_is_said table committed (Some tree) flat is = log_is committed (tree_items table tree) (data_in table) flat is.items

pub is_recovered : (table : Table) (tree : Tree) (sub : Subvolume) (log : Option Tree) → GivesCoherent table tree sub → IsLogOver table sub log → HasKeys table log → IsRecovered table tree log
is_recovered table tree sub None given over keys = record {
  committed = subst (GivesCoherent table tree) (names_seen table tree sub given) given;
  log_at = refl;
  keys = keys;
  accepted = subst (λ (s : Subvolume). IsAccepted s empty_log) (names_seen table tree sub given) (empty_accepted sub given.coherent);
}
is_recovered table tree sub (Some at) given over keys =
    let same : over.0 ≡ log_said table (Some at) = sym (log_is_said table sub (Some at) over.0 over.1) in
    record {
      committed = subst (GivesCoherent table tree) (names_seen table tree sub given) given;
      log_at = subst (SaysLog table at) same over.1;
      keys = keys;
      accepted = subst (λ (s : Subvolume). IsAccepted s (log_said table (Some at))) (names_seen table tree sub given) (subst (IsAccepted sub) same over.2);
    }

pub same_log : (table : Table) (tree : Tree) (sub : Subvolume) (log : Option Tree) (flat : FlatLog) → GivesCoherent table tree sub → IsLogAt table log flat → replay (seen table tree) (log_said table log) ≡ replay sub flat
same_log table tree sub log flat given is = ap₂ replay (sym (names_seen table tree sub given)) (log_is_said table sub log flat is)

-- a log tree that says a flat log stands
pub log_stands : (table : Table) (sub : Subvolume) (log : Option Tree) → IsLogOver table sub log → Stands table log
log_stands table sub None over = tt
log_stands table sub (Some at) over = over.1.tree_in
