-- Each state of a volume gives its subvolume.
use Rattle.std.proofs.Common.{◌≡◌, ◌<◌, ◌++◌, ◌∙◌, ℕ, List, [], ◌∷◌, length, get_or, take, drop, ap, refl}
use Rattle.std.proofs.lemmas.List.Elements.{All-contains, Contains-get_or}
use Rattle.block_table.specs.declared.tree.SubState.{SubState}
use Rattle.block_table.specs.Table.{Table}
use Rattle.flat_model.specs.Volume.{RunVolume}
use Rattle.table_volume.specs.Running.{GiveVolume, GivesPart}

abbrev pub no_state : SubState
no_state = record { tree = record { root = record { 0 = 0 }; level = 0; owner = 0 }; next_ino = 0; next_index = 0; running = 0 }

pub state_at : (table : Table) (states : List SubState) (run : RunVolume) (place : ℕ) → GiveVolume table states run → place < length states → GivesPart table run (get_or states place no_state)
state_at table states run place volume within = All-contains (GivesPart table run) states (get_or states place no_state) volume.each (Contains-get_or states place no_state within)

-- ---- states that were lent to be written

front : (new rest : List SubState) → take (length new) (new ++ rest) ≡ new
front [] rest = refl
front (state ∷ new) rest = ap (λ (l : List SubState). state ∷ l) (front new rest)

pub back : (new old : List SubState) (len : ℕ) → len ≡ length new → take len (new ++ drop (length new) old) ≡ new
back new old len is = ap (λ (n : ℕ). take n (new ++ drop (length new) old)) is ∙ front new (drop (length new) old)
