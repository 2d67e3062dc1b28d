-- What a reader's register says of bytes that were summed.
use Rattle.std.specs.Prelude.{◌≡◌, ℕ, List, Result, Ok, Err}
use Rattle.blk_base.specs.Crc.{register_after}
use Rattle.foreign_format.specs.declared.fault.ForeignFault.{ForeignFault}
use Rattle.foreign_format.specs.declared.fault.ReadFault.{ReadFault}
use Rattle.foreign_format.specs.declared.fault.ReadFault.TheVariants.{Foreign, Disk, OutOfMemory}

-- the answer is the register behind the defined bytes, or the fault (own)
abbrev pub IsRegisterOf : ℕ → Result ℕ ReadFault → Result (List ℕ) ForeignFault → Type 0
IsRegisterOf register (Ok after) defined = (bytes : List ℕ) × (defined ≡ Ok bytes) × (after ≡ register_after register bytes)
IsRegisterOf register (Err (Foreign fault)) defined = defined ≡ Err fault
IsRegisterOf register (Err Disk) defined = Unit {0}
IsRegisterOf register (Err OutOfMemory) defined = Unit {0}
