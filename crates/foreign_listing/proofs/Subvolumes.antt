-- The listing of subvolumes, one behind the other.
use Rattle.std.proofs.Common.{◌≡◌, ◌<◌, ◌+◌, ℕ, List, [], ◌∷◌, length, drop, get_or, Result, Ok, Err, refl, sym, ap, ◌∙◌}
use Rattle.blk_base.specs.Bytes.{Image}
use Rattle.foreign_format.specs.declared.fault.ForeignFault.{ForeignFault}
use Rattle.foreign_format.specs.declared.fault.ReadFault.{ReadFault}
use Rattle.foreign_format.specs.declared.fault.ReadFault.TheVariants.{Foreign, Disk, OutOfMemory}
use Rattle.foreign_format.specs.Answer.{Answers, and_then, answers_err, answers_same, then_err, then_ok}
use Rattle.foreign_format.proofs.Rows.{drop_here}
use Rattle.foreign_items.specs.Rows.{ItemsValue, items_of}
use Rattle.foreign_tree.specs.Tree.{VolumeValue, disk_bytes}
use Rattle.foreign_volume.specs.declared.roots.Subvolume.{Subvolume}
use Rattle.foreign_volume.specs.Opened.{OpenedValue, opened_of}
use Rattle.foreign_volume.specs.Roots.{subvolumes_of}
use Rattle.foreign_listing.specs.Listing.{listing_of, nothing_listed, sub_listed, subs_listed, tree_in, with_done, with_head}
use Rattle.foreign_listing.specs.Walk.{Listed, tree_listed}

-- ---- one subvolume

pub sub_bad : {V W : Type 0} (shown : V → ItemsValue) (view : W → Listed) (volume : VolumeValue) (disk : List ℕ) (sub : Subvolume) (listed : Listed) (failed : ReadFault) → Answers shown (Err failed) (items_of disk volume sub)
    → Answers view (Err failed) (sub_listed volume disk sub listed)
unfolding sub_listed
sub_bad shown view volume disk sub listed failed bad = answers_err view failed (items_of disk volume sub) (λ items. tree_listed volume disk (tree_in sub.id items) items.names (with_head sub.id listed)) shown bad

pub sub_ok : {V : Type 0} (view : V → Listed) (result : Result V ReadFault) (volume : VolumeValue) (disk : List ℕ) (sub : Subvolume) (listed headed : Listed) (items : ItemsValue) → items_of disk volume sub ≡ Ok items → headed ≡ with_head sub.id listed
    → Answers view result (tree_listed volume disk (tree_in sub.id items) items.names headed) → Answers view result (sub_listed volume disk sub listed)
unfolding sub_listed
sub_ok view result volume disk sub listed headed items read is h =
    answers_same view result (tree_listed volume disk (tree_in sub.id items) items.names headed) (and_then (items_of disk volume sub) (λ items. tree_listed volume disk (tree_in sub.id items) items.names (with_head sub.id listed)))
    (then_ok (items_of disk volume sub) (λ items. tree_listed volume disk (tree_in sub.id items) items.names (with_head sub.id listed)) items read
    ∙ ap (tree_listed volume disk (tree_in sub.id items) items.names) (sym is)) h

-- ---- subvolumes

pub subs_here : (volume : VolumeValue) (disk : List ℕ) (sub : Subvolume) (subs : List Subvolume) (listed : Listed) → subs_listed volume disk (sub ∷ subs) listed ≡ and_then (sub_listed volume disk sub listed) (subs_listed volume disk subs)
unfolding subs_listed
subs_here volume disk sub subs listed = refl

pub subs_end : (volume : VolumeValue) (disk : List ℕ) (subs : List Subvolume) (listed : Listed) → subs ≡ [] → subs_listed volume disk subs listed ≡ Ok listed
unfolding subs_listed
subs_end volume disk subs listed is = rw is refl

pub subs_more : (volume : VolumeValue) (disk : List ℕ) (subs : List Subvolume) (i : ℕ) (d : Subvolume) (listed after : Listed) → i < length subs → sub_listed volume disk (get_or subs i d) listed ≡ Ok after
    → subs_listed volume disk (drop i subs) listed ≡ subs_listed volume disk (drop (i + 1) subs) after
subs_more volume disk subs i d listed after within is =
    ap (λ (rest : List Subvolume). subs_listed volume disk rest listed) (drop_here subs i d within) ∙ subs_here volume disk (get_or subs i d) (drop (i + 1) subs) listed
    ∙ then_ok (sub_listed volume disk (get_or subs i d) listed) (subs_listed volume disk (drop (i + 1) subs)) after is

pub subs_bad : {V : Type 0} (view : V → Listed) (volume : VolumeValue) (disk : List ℕ) (subs : List Subvolume) (i : ℕ) (d : Subvolume) (first listed : Listed) (failed : ReadFault) → i < length subs
    → subs_listed volume disk subs first ≡ subs_listed volume disk (drop i subs) listed → Answers view (Err failed) (sub_listed volume disk (get_or subs i d) listed) → Answers view (Err failed) (subs_listed volume disk subs first)
subs_bad view volume disk subs i d first listed (Foreign fault) within goes bad =
    goes ∙ ap (λ (rest : List Subvolume). subs_listed volume disk rest listed) (drop_here subs i d within) ∙ subs_here volume disk (get_or subs i d) (drop (i + 1) subs) listed
    ∙ then_err (sub_listed volume disk (get_or subs i d) listed) (subs_listed volume disk (drop (i + 1) subs)) fault bad
subs_bad view volume disk subs i d first listed Disk within goes bad = tt
subs_bad view volume disk subs i d first listed OutOfMemory within goes bad = tt

-- ---- the volume

-- what comes behind a volume that is opened
behind_opened : Image → OpenedValue → Result (List ℕ) ForeignFault
behind_opened image opened =
    and_then (subvolumes_of (disk_bytes image) opened.volume opened.superblock) (λ subs.
    and_then (subs_listed opened.volume (disk_bytes image) subs nothing_listed) (λ listed.
    Ok (with_done listed)))

listing_is : (blocks : ℕ) (image : Image) → listing_of blocks image ≡ and_then (opened_of blocks image) (behind_opened image)
unfolding listing_of behind_opened
listing_is blocks image = refl

pub open_bad : {V W : Type 0} (there : V → OpenedValue) (shown : W → List ℕ) (blocks : ℕ) (image : Image) (failed : ReadFault) → Answers there (Err failed) (opened_of blocks image) → Answers shown (Err failed) (listing_of blocks image)
open_bad there shown blocks image (Foreign fault) bad = listing_is blocks image ∙ then_err (opened_of blocks image) (behind_opened image) fault bad
open_bad there shown blocks image Disk bad = tt
open_bad there shown blocks image OutOfMemory bad = tt

opened_goes : (blocks : ℕ) (image : Image) (opened : OpenedValue) → opened_of blocks image ≡ Ok opened → listing_of blocks image ≡ behind_opened image opened
opened_goes blocks image opened is = listing_is blocks image ∙ then_ok (opened_of blocks image) (behind_opened image) opened is

pub roots_bad : {V W : Type 0} (there : V → List Subvolume) (shown : W → List ℕ) (blocks : ℕ) (image : Image) (opened : OpenedValue) (failed : ReadFault) → opened_of blocks image ≡ Ok opened
    → Answers there (Err failed) (subvolumes_of (disk_bytes image) opened.volume opened.superblock) → Answers shown (Err failed) (listing_of blocks image)
unfolding behind_opened
roots_bad there shown blocks image opened (Foreign fault) is bad = opened_goes blocks image opened is ∙ then_err (subvolumes_of (disk_bytes image) opened.volume opened.superblock) _ fault bad
roots_bad there shown blocks image opened Disk is bad = tt
roots_bad there shown blocks image opened OutOfMemory is bad = tt

pub names_bad : {V W : Type 0} (there : V → Listed) (shown : W → List ℕ) (blocks : ℕ) (image : Image) (opened : OpenedValue) (subs : List Subvolume) (failed : ReadFault) → opened_of blocks image ≡ Ok opened
    → subvolumes_of (disk_bytes image) opened.volume opened.superblock ≡ Ok subs → Answers there (Err failed) (subs_listed opened.volume (disk_bytes image) subs nothing_listed) → Answers shown (Err failed) (listing_of blocks image)
unfolding behind_opened
names_bad there shown blocks image opened subs (Foreign fault) is roots bad =
    opened_goes blocks image opened is ∙ then_ok (subvolumes_of (disk_bytes image) opened.volume opened.superblock) _ subs roots
    ∙ then_err (subs_listed opened.volume (disk_bytes image) subs nothing_listed) (λ listed. Ok (with_done listed)) fault bad
names_bad there shown blocks image opened subs Disk is roots bad = tt
names_bad there shown blocks image opened subs OutOfMemory is roots bad = tt

pub all_listed : (blocks : ℕ) (image : Image) (opened : OpenedValue) (subs : List Subvolume) (listed : Listed) (text : List ℕ) → opened_of blocks image ≡ Ok opened
    → subvolumes_of (disk_bytes image) opened.volume opened.superblock ≡ Ok subs → subs_listed opened.volume (disk_bytes image) subs nothing_listed ≡ Ok listed → text ≡ with_done listed → listing_of blocks image ≡ Ok text
unfolding behind_opened
all_listed blocks image opened subs listed text is roots names done =
    opened_goes blocks image opened is ∙ then_ok (subvolumes_of (disk_bytes image) opened.volume opened.superblock) _ subs roots
    ∙ then_ok (subs_listed opened.volume (disk_bytes image) subs nothing_listed) (λ listed. Ok (with_done listed)) listed names ∙ ap Ok (sym done)
