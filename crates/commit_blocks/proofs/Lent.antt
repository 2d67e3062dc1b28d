-- A table that has lent a list has the volume that it had.
use Rattle.std.proofs.Common.{◌≡◌, ℕ, List, refl, subst, sym}
use Rattle.std.specs.Prelude.{All, Contains}
use Rattle.block_table.specs.declared.tree.SubState.{SubState}
use Rattle.block_table.specs.Table.{Table}
use Rattle.block_table.specs.TreeIn.{IsTaken, block_at}
use Rattle.flat_model.specs.Volume.{RunVolume}
use Rattle.table_volume.specs.Running.{GiveVolume}
use Rattle.volume_seal.specs.Sealed.{IsReady, states_reach}
use Rattle.commit_blocks.proofs.Fates.{lent, states_current, states_taken}
use Rattle.commit_blocks.proofs.Read.{given_now, ready_now}

module _ (table : Table) (states : List SubState) (run : RunVolume) (given : GiveVolume table states run) where
  readable : (at : ℕ) → Contains (states_reach table states) at → IsTaken (lent table) at × ((block_at (lent table) at).bytes ≡ (block_at table at).bytes)
  readable at there = let was = states_taken table states run given at there in (record { allowed = was.allowed; taken = was.taken }, refl)

  pub volume_lent : GiveVolume (lent table) states run
  volume_lent = given_now table (lent table) states run given readable (states_current table states run given)

  pub ready_lent : (fsid : List ℕ) → All (λ (state : SubState). IsReady table state.tree fsid) states → All (λ (state : SubState). IsReady (lent table) state.tree fsid) states
  ready_lent fsid ready = ready_now table (lent table) states run given readable (states_current table states run given) fsid (λ at there. record { bytes = refl; down = λ h. h; up = λ h. h }) ready

-- so it has, whatever names the table and the states have
pub volume_lent_by : (table now : Table) (states listed : List SubState) (run : RunVolume) → GiveVolume table states run → now ≡ lent table → listed ≡ states → GiveVolume now listed run
volume_lent_by table now states listed run given is same =
    subst (λ (t : Table). GiveVolume t listed run) (sym is) (subst (λ (l : List SubState). GiveVolume (lent table) l run) (sym same) (volume_lent table states run given))
