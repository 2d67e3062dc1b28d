-- The answers and texts of `list`.
use Rattle.std.proofs.Common.{◌≡◌, ◌≢◌, ◌⊎◌, inl, inr, ℕ, List, Option, Some, None, Result, Ok, Err, length, ap, refl, subst, sym, ◌∙◌}
use Rattle.disk_model.specs.Disk.{IfTold}
use Rattle.io_edge.specs.Edge.{Takes}
use Rattle.blk_base.specs.declared.fault.SuperFault.{SuperFault}
use Rattle.blk_base.specs.Superblock.{SuperValue}
use Rattle.flat_model.specs.Volume.{RunVolume, mounted, volume_of}
use Rattle.flat_model.proofs.Histories.{volume_of_mounted}
use Rattle.table_volume.specs.Running.{GiveVolume}
use Rattle.format_laws.specs.Superblock.{super_of-Ok}
use Rattle.image_order.specs.FirstFault.{Found, ImageFault, standing_of, volume_in}
use Rattle.image_order.proofs.Finding.{is_found}
use Rattle.volume_image.specs.Stands.{Stands, super_block}
use Rattle.volume_image.specs.Tree.{Image}
use Rattle.volume_listing.specs.Listing.{listing_of}
use Rattle.tree_mount.specs.declared.fault.MountFault.{MountFault}
use Rattle.tree_mount.specs.declared.fault.MountFault.TheVariants.{Super, Log, Load, Item, Incoherent, NoRoom, Disk, OutOfMemory}
use Rattle.tree_mount.specs.declared.mounted.Mounted.{Mounted}
use Rattle.tree_mount.specs.Mounted.{IsMountedAs, IsReadyMount}
use Rattle.tree_mount.specs.Faults.{HasLog, IsToldFault}
use Rattle.script_runner.specs.declared.status.Status.{Status}
use Rattle.script_runner.specs.declared.status.Status.TheVariants.{Done, Usage, BadScript, NoVolume, DiskFault, ReadFault, WriteFault, Memory, MkfsRange}
use Rattle.script_runner.specs.Commands.{HasVolume, IsDoneText, IsList, IsListAnswer, IsListText, IsListing, IsTextOf, IsPut, made_line, status_of}
use Rattle.io_edge.proofs.Sinks.{Takes-front}

-- the whole text was taken
pub told_whole : (status : Status) (text : List ℕ) (before after : Option (List ℕ)) (faults faults_now : ℕ) → Takes before text after → IsPut status text before after faults faults_now
told_whole status text before after faults faults_now takes = record { done = λ _. takes; front = Takes-front before after text takes; whole = λ _. takes }

-- the volume of a mount is one that the image stands for
mounted_listing : (seen : Option Image) (run : RunVolume) (text : List ℕ) → IfTold seen (λ image. Stands image (volume_of run)) → text ≡ listing_of (volume_of run) → IfTold seen (IsListing text)
mounted_listing None run text stands is = tt
mounted_listing (Some image) run text stands is = (volume_of run, stands, is)

-- its listing is the text of `list`
pub mounted_text : (seen : Option Image) (run : RunVolume) (status : Status) (text : List ℕ) → IfTold seen (λ image. Stands image (volume_of run)) → IsListAnswer (volume_of run) status text
    → IsListText seen status text
mounted_text seen run Done text stands is = mounted_listing seen run text stands is
mounted_text seen run WriteFault text stands is = mounted_listing seen run text stands is
mounted_text seen run Usage text stands is = is
mounted_text seen run (NoVolume fault) text stands is = is
mounted_text seen run DiskFault text stands is = is
mounted_text seen run Memory text stands is = is
mounted_text seen run MkfsRange text stands is = is
mounted_text seen run (BadScript line kind) text stands is = is
mounted_text seen run (ReadFault taken) text stands is = is

-- the text of `list` on a volume that was mounted: that of the image's volume, where it is told
pub list_text : (seen : Option Image) (m : Mounted) (count : ℕ) (status : Status) (Put : List ℕ → Type 0) → IsReadyMount m count → IfTold seen (λ image. IsMountedAs image m)
    → ((run : RunVolume) → GiveVolume m.table m.states.items run → (text : List ℕ) × IsListAnswer (volume_of run) status text × Put text) → (text : List ℕ) × IsListText seen status text × Put text
list_text None m count status Put ready is told =
    let one = told ready.run ready.given in (one.0, mounted_text None ready.run status one.0 tt one.1, one.2)
list_text (Some image) m count status Put ready is told =
    let volume = volume_in image is.found in
    let one = told (mounted volume) is.gives in
    let stands : Stands image (volume_of (mounted volume)) = subst (Stands image) (sym (volume_of_mounted volume)) (record { reach = _; by_reach = is.stands }) in
    (one.0, mounted_text (Some image) (mounted volume) status one.0 stands one.1, one.2)

-- an image that stands has no fault
no_fault : (image : Image) (fault : ImageFault) → HasVolume image → standing_of image ≡ Err fault → ⊥
no_fault image fault it fails =
    let found = is_found image it.0 it.1 in absurd (ok_or_err found.0 fault (sym found.1 ∙ fails))
  where
    ok_or_err : (found : Found) (fault : ImageFault) → ◌≡◌ {A = Result Found ImageFault} (Ok found) (Err fault) → ⊥
    ok_or_err found fault same = absurd cc

no_log : (image : Image) → HasVolume image → HasLog image → ⊥
no_log image it log =
    let stands = it.1.by_reach in
    let same : ◌≡◌ {A = Result SuperValue SuperFault} (Ok log.super) (Ok stands.super) = sym log.has_super ∙ super_of-Ok (super_block image) (length image) stands.super stands.spelled in
    let supers : log.super ≡ stands.super = cc in
    log.log (ap (λ (super : SuperValue). super.log_root) supers ∙ stands.no_log)

-- a volume that stands has none of the faults of an image
pub not_refused : (image : Image) (fault : MountFault) → HasVolume image → IsToldFault (Some image) fault → fault ≢ Disk → fault ≢ OutOfMemory → ⊥
not_refused image (Super fault) it told disk memory = no_fault image _ it told.first
not_refused image Log it told disk memory = no_log image it told
not_refused image (Load fault) it told disk memory = no_fault image _ it told.first
not_refused image (Item at key fault) it told disk memory = no_fault image _ it told.first
not_refused image (Incoherent sub ino) it told disk memory = no_fault image _ it told.first
not_refused image (NoRoom free need) it told disk memory = no_fault image _ it told.first
not_refused image Disk it told disk memory = disk refl
not_refused image OutOfMemory it told disk memory = memory refl

-- a volume that stands isn't refused
pub refused : (seen : Option Image) (fault : MountFault) (status : Status) (disk_risen sink_risen : Type 0) → IsToldFault seen fault → (fault ≡ Disk → disk_risen) → status ≡ status_of fault
    → IfTold seen (λ image. HasVolume image → (disk_risen → ⊥) → (sink_risen → ⊥) → (status ≡ Done) ⊎ (status ≡ Memory))
refused None fault status disk_risen sink_risen told cause is = tt
refused (Some image) (Super fault) status disk_risen sink_risen told cause is = λ it no _. absurd (no_fault image _ it told.first)
refused (Some image) Log status disk_risen sink_risen told cause is = λ it no _. absurd (no_log image it told)
refused (Some image) (Load fault) status disk_risen sink_risen told cause is = λ it no _. absurd (no_fault image _ it told.first)
refused (Some image) (Item at key fault) status disk_risen sink_risen told cause is = λ it no _. absurd (no_fault image _ it told.first)
refused (Some image) (Incoherent sub ino) status disk_risen sink_risen told cause is = λ it no _. absurd (no_fault image _ it told.first)
refused (Some image) (NoRoom free need) status disk_risen sink_risen told cause is = λ it no _. absurd (no_fault image _ it told.first)
refused (Some image) Disk status disk_risen sink_risen told cause is = λ it no _. absurd (no (cause refl))
refused (Some image) OutOfMemory status disk_risen sink_risen told cause is = λ it no _. inr is

-- the text of a volume that was made
pub made_text : (words : List (List ℕ)) (seen : Option Image) (status : Status) → (status ≡ Done) ⊎ (status ≡ WriteFault) → (IsList words → ⊥) → IsTextOf words seen status (made_line words)
made_text words seen status is no_list =
    let text : IsDoneText words seen (made_line words) = record { made = λ _. refl; listed = λ list. absurd (no_list list) } in
    elim is [
      | inl done ↦ subst (λ (s : Status). IsTextOf words seen s (made_line words)) (sym done) text
      | inr failed ↦ subst (λ (s : Status). IsTextOf words seen s (made_line words)) (sym failed) text
    ]
