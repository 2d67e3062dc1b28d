-- The line of a place, by the kind of its entry.
use Rattle.std.proofs.Common.{◌≡◌, ◌≢◌, ◌⊎◌, ℕ, List, Result, Ok, Err, inl, inr, ap}
use Rattle.std.specs.Prelude.{IfErr}
use Rattle.foreign_format.specs.declared.entry.EntryKind.{EntryKind}
use Rattle.foreign_format.specs.declared.entry.EntryKind.TheVariants.{Dir, Chr, Blk, Fifo, Sock}
use Rattle.foreign_format.specs.declared.fault.ReadFault.{ReadFault}
use Rattle.foreign_format.specs.declared.fault.ReadFault.TheVariants.{Disk}
use Rattle.foreign_format.specs.Answer.{Answers, answers_same}
use Rattle.foreign_tree.specs.Tree.{VolumeValue}
use Rattle.foreign_listing.specs.Lines.{TreeValue, line_by, line_of, plain_line}
use Rattle.foreign_listing.specs.Names.{Place}

-- an answer of the line of this kind
pub line_answers : {V : Type 0} (shown : V → List ℕ) (result : Result V ReadFault) (kind : EntryKind) (volume : VolumeValue) (disk : List ℕ) (tree : TreeValue) (place : Place) → place.kind ≡ kind → Answers shown result (line_by kind volume disk tree place)
    → Answers shown result (line_of volume disk tree place)
unfolding line_of
line_answers shown result kind volume disk tree place is h =
    answers_same shown result (line_by kind volume disk tree place) (line_by place.kind volume disk tree place) (ap (λ (k : EntryKind). line_by k volume disk tree place) is) h

-- the same of those without bytes that are shown
pub plain_answers : {V : Type 0} (shown : V → List ℕ) (result : Result V ReadFault) (volume : VolumeValue) (disk : List ℕ) (tree : TreeValue) (place : Place)
    → (place.kind ≡ Dir) ⊎ ((place.kind ≡ Chr) ⊎ ((place.kind ≡ Blk) ⊎ ((place.kind ≡ Fifo) ⊎ (place.kind ≡ Sock)))) → Answers shown result (plain_line tree place) → Answers shown result (line_of volume disk tree place)
plain_answers shown result volume disk tree place is h = elim is [
  | inl dir ↦ line_answers shown result Dir volume disk tree place dir h
  | inr others ↦ elim others [
    | inl chr ↦ line_answers shown result Chr volume disk tree place chr h
    | inr more ↦ elim more [
      | inl blk ↦ line_answers shown result Blk volume disk tree place blk h
      | inr rest ↦ elim rest [
        | inl fifo ↦ line_answers shown result Fifo volume disk tree place fifo h
        | inr sock ↦ line_answers shown result Sock volume disk tree place sock h
      ]
    ]
  ]
]

-- an answer without a disk's fault has none
pub not_disk : {V : Type 0} (result : Result V ReadFault) → IfErr result (λ fault. fault ≢ Disk) → result ≡ Err Disk → ⊥
not_disk (Ok value) other is = absurd cc
not_disk (Err fault) other is = other cc
