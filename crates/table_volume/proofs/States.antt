-- A state gives one subvolume, and the volume of all is sound.
use Rattle.std.proofs.Common.{◌≡◌, ◌+◌, ℕ, List, map, Some, sym, ◌∙◌, subst, arith}
use Rattle.std.specs.FinMap.{get}
use Rattle.std.proofs.lemmas.List.Elements.{All-contains, All-map, All-weaker}
use Rattle.block_table.specs.declared.tree.SubState.{SubState}
use Rattle.block_table.specs.Table.{Table}
use Rattle.flat_model.specs.Running.{IsSound, IsSoundVolume}
use Rattle.flat_model.specs.Volume.{RunSub, RunVolume}
use Rattle.flat_model.proofs.Maps.{some_same}
use Rattle.volume_image.proofs.SameItems.{items_have_one_subvolume}
use Rattle.table_volume.specs.Running.{GiveVolume, GivesPart, GivesRun, id_of}

pub one_sub : (table : Table) (state : SubState) (one two : RunSub) → GivesRun table state one → GivesRun table state two → one.sub ≡ two.sub
one_sub table state one two a b =
    items_have_one_subvolume _ _ one.sub two.sub a.gives.items b.gives.items a.sound.coherent b.sound.coherent

one_number : (n a b : ℕ) → n ≡ a + 1 → n ≡ b + 1 → a ≡ b
one_number n a b p q = omega (arith, p, q)

pub one_ino : (table : Table) (state : SubState) (one two : RunSub) → GivesRun table state one → GivesRun table state two → one.numbers.last_ino ≡ two.numbers.last_ino
one_ino table state one two a b =
    one_number state.next_ino one.numbers.last_ino two.numbers.last_ino a.next_ino b.next_ino

pub one_index : (table : Table) (state : SubState) (one two : RunSub) → GivesRun table state one → GivesRun table state two → one.numbers.last_index ≡ two.numbers.last_index
one_index table state one two a b =
    one_number state.next_index one.numbers.last_index two.numbers.last_index a.next_index b.next_index

-- the subvolume of this number, where there is one, is sound
abbrev pub IsSoundAt : RunVolume → ℕ → Type 0
IsSoundAt run id = (sub : RunSub) → get run id ≡ Some sub → IsSound sub

part_sound : (table : Table) (run : RunVolume) (state : SubState) → GivesPart table run state → IsSoundAt run (id_of state)
part_sound table run state part sub there =
    subst IsSound (some_same part.sub sub (sym part.there ∙ there)) part.gives.sound

pub volume_sound : (table : Table) (states : List SubState) (run : RunVolume) → GiveVolume table states run → IsSoundVolume run
volume_sound table states run volume id sub there =
    All-contains (IsSoundAt run) (map id_of states) id (All-map (IsSoundAt run) id_of states (All-weaker (GivesPart table run) (λ (state : SubState). IsSoundAt run (id_of state)) (part_sound table run) states volume.each)) (volume.only id sub there) sub there
