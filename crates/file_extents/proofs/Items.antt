-- Extents of a file among items, and what the item of one says.
use Rattle.std.proofs.Common.{◌≡◌, ◌≢◌, ◌⊎◌, ◌≤◌, ◌<◌, ◌*◌, ◌^◌, ℕ, List, Some, Result, Ok, sym, ap, subst, ◌∙◌, arith, inl, inr}
use Rattle.std.proofs.lemmas.Bool.{cases_eq}
use Rattle.blk_base.specs.declared.fault.ItemFault.{ItemFault}
use Rattle.blk_base.specs.declared.key.Key.{Key}
use Rattle.blk_base.specs.Bytes.{field}
use Rattle.blk_base.specs.Extents.{ExtentValue, IsExtent, IsRun, Regular, extent_of, regular_bytes}
use Rattle.blk_base.specs.Keys.{extent_data}
use Rattle.blk_base.specs.Leaf.{Item}
use Rattle.flat_model.proofs.Maps.{some_same}
use Rattle.format_laws.specs.Fields.{field_front}
use Rattle.item_edit.specs.ItemEdit.{BearsUnder}
use Rattle.item_laws.specs.ExtentLaws.{extent_from, regular_reads_back}
use Rattle.tree_frame.specs.Frame.{with_item}
use Rattle.tree_range.specs.Between.{data_under}
use Rattle.table_volume.proofs.Items.{with_here, with_other}
use Rattle.volume_image.specs.Subvolume.{make_key}
use Rattle.file_blocks.proofs.Covered.{same_at, same_len}
use Rattle.file_extents.specs.Extents.{HasRun, IsRunItem}
use Rattle.file_extents.proofs.Runs.{AreSole, AreWritten, HaveSome}

-- ---- what is written

pub run_fits : (count : ℕ) → 1 ≤ count → count ≤ 4096 → IsRun (4096 * count)
run_fits count some most = (omega arith, omega arith, omega arith)

pub run_read : (ino running begin at count : ℕ) → at < 2 ^ 64 → 1 ≤ count → count ≤ 4096 → extent_of (make_key ino extent_data (4096 * begin)) (regular_bytes running at (4096 * count)) ≡ Ok (Regular at 0 (4096 * count))
run_read ino running begin at count small some most =
    regular_reads_back (make_key ino extent_data (4096 * begin)) running at (4096 * count) small (run_fits count some most) (omega arith)

run_generation : (running at len : ℕ) → running < 2 ^ 64 → field 8 (regular_bytes running at len) 0 ≡ running
unfolding regular_bytes
run_generation running at len fits = field_front 8 running _ fits

pub run_bears : (running ino begin at len : ℕ) (items : List Item) → running < 2 ^ 64 → BearsUnder running items (make_key ino extent_data (4096 * begin)) (regular_bytes running at len)
run_bears running ino begin at len items fits = record {
  inode = λ h. absurd (omega arith);
  entries = λ found kind spelled. absurd (elim kind [ inl a ↦ omega arith | inr b ↦ elim b [ inl a ↦ omega arith | inr c ↦ omega arith ] ]);
  extent = λ h. run_generation running at len fits;
}

-- ---- runs of the items

pub are_sole : (items : List Item) (ino : ℕ) → AreSole (HasRun items ino)
are_sole items ino b a c a' c' one two =
    let bytes : one.bytes ≡ two.bytes = some_same one.bytes two.bytes (sym one.there ∙ two.there) in
    let both : ◌≡◌ {A = Result ExtentValue ItemFault} (Ok (Regular a 0 (4096 * c))) (Ok (Regular a' 0 (4096 * c'))) = sym one.read ∙ ap (extent_of (make_key ino extent_data (4096 * b))) bytes ∙ two.read in
    let len : 4096 * c ≡ 4096 * c' = same_len a 0 (4096 * c) a' (4096 * c') both in
    (same_at a 0 (4096 * c) a' (4096 * c') both, omega (arith, len))

pub record HasSize (count : ℕ) : Type 0 where
  pub some : 1 ≤ count
  pub most : count ≤ 4096

pub run_size : (items : List Item) (ino b a c : ℕ) → HasRun items ino b a c → HasSize c
run_size items ino b a c run =
    let is : IsExtent (make_key ino extent_data (4096 * b)) run.bytes (Regular a 0 (4096 * c)) = extent_from (make_key ino extent_data (4096 * b)) run.bytes (Regular a 0 (4096 * c)) run.read in
    let fits : IsRun (4096 * c) = is.9 in
    record { some = omega (arith, fits.1); most = omega (arith, fits.2) }

pub have_some : (items : List Item) (ino : ℕ) → HaveSome (HasRun items ino)
have_some items ino b a c run = (run_size items ino b a c run).some

pub other_key : (ino b b' : ℕ) → b ≢ b' → make_key ino extent_data (4096 * b) ≢ make_key ino extent_data (4096 * b')
other_key ino b b' ne e =
    let same : 4096 * b ≡ 4096 * b' = ap (λ (k : Key). k.offset) e in ne (omega (arith, same))

-- a run that is written
module _ (items now : List Item) (ino begin at count : ℕ) (bytes : List ℕ) (is : now ≡ with_item (make_key ino extent_data (4096 * begin)) bytes items)
    (read : extent_of (make_key ino extent_data (4096 * begin)) bytes ≡ Ok (Regular at 0 (4096 * count))) where
  under_now : data_under (make_key ino extent_data (4096 * begin)) now ≡ Some bytes
  under_now = ap (data_under (make_key ino extent_data (4096 * begin))) is ∙ with_here (make_key ino extent_data (4096 * begin)) bytes items

  pub under_other : (key : Key) → key ≢ make_key ino extent_data (4096 * begin) → data_under key now ≡ data_under key items
  under_other key ne = ap (data_under key) is ∙ with_other (make_key ino extent_data (4096 * begin)) key bytes items ne

  pub run_here : HasRun now ino begin at count
  run_here = record { bytes = bytes; there = under_now; read = read }

  comes : (b a c : ℕ) → HasRun now ino b a c → ((b ≡ begin) × (a ≡ at) × (c ≡ count)) ⊎ ((b ≢ begin) × HasRun items ino b a c)
  comes b a c run = elim (cases_eq b begin) [
    | inl same ↦
        let one = are_sole now ino begin a c at count (subst (λ (n : ℕ). HasRun now ino n a c) same run) run_here in
        inl (same, one.0, one.1)
    | inr other ↦ inr (other, record { bytes = run.bytes; there = sym (under_other (make_key ino extent_data (4096 * b)) (other_key ino b begin other)) ∙ run.there; read = run.read })
  ]

  goes : (b a c : ℕ) → b ≢ begin → HasRun items ino b a c → HasRun now ino b a c
  goes b a c other run = record { bytes = run.bytes; there = under_other (make_key ino extent_data (4096 * b)) (other_key ino b begin other) ∙ run.there; read = run.read }

  pub are_written : AreWritten (HasRun items ino) (HasRun now ino) begin at count
  are_written = record { here = run_here; from = comes; stays = goes }

  pub each_written : ((offset : ℕ) (b : List ℕ) → data_under (make_key ino extent_data offset) items ≡ Some b → IsRunItem items ino offset) → (offset : ℕ) (b : List ℕ) → data_under (make_key ino extent_data offset) now ≡ Some b → IsRunItem now ino offset
  each_written each offset b there = elim (cases_eq offset (4096 * begin)) [
    | inl same ↦ record { begin = begin; at = at; count = count; offset_is = same; run = run_here }
    | inr other ↦
        let old = each offset b (sym (under_other (make_key ino extent_data offset) (λ e. other (ap (λ (k : Key). k.offset) e))) ∙ there) in
        record {
          begin = old.begin;
          at = old.at;
          count = old.count;
          offset_is = old.offset_is;
          run = goes old.begin old.at old.count (λ e. other (old.offset_is ∙ ap (λ (n : ℕ). 4096 * n) e)) old.run;
        }
  ]
