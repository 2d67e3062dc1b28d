-- The last run of a file in front of a block.
use Rattle.std.proofs.Common.{◌≡◌, ◌≤◌, ◌<◌, ◌+◌, ◌*◌, ℕ, List, [], Some, Ok, sym, ap, subst, ◌∙◌, arith, inl, inr}
use Rattle.std.proofs.lemmas.Bool.{cases_eq}
use Rattle.blk_base.specs.declared.key.Key.{Key}
use Rattle.blk_base.specs.Extents.{Regular, extent_of}
use Rattle.blk_base.specs.Keys.{extent_data}
use Rattle.blk_base.specs.Leaf.{Item}
use Rattle.blk_base.specs.Trees.{ItemsRise}
use Rattle.flat_model.proofs.Maps.{some_same}
use Rattle.tree_range.specs.Between.{data_under}
use Rattle.tree_range.proofs.Found.{contains_under}
use Rattle.table_volume.proofs.Keyed.{found_under}
use Rattle.volume_image.specs.Subvolume.{Data, make_key}
use Rattle.file_blocks.specs.Runs.{IsLastExtent, extents_between}
use Rattle.file_blocks.proofs.Found.{none_between}
use Rattle.file_extents.specs.Extents.{AreRunsOf, Contents, HasRun, HoldContents, IsLastRun, IsRunItem, NoneBegins, NoneOver}
use Rattle.file_extents.proofs.Runs.{AreSole}

-- the item of the last extent as a run
pub record IsLastItem (items : List Item) (ino number : ℕ) (key : Key) (bytes : List ℕ) : Type 0 where
  pub begin : ℕ
  pub at : ℕ
  pub count : ℕ
  pub offset : key.offset ≡ 4096 * begin
  pub read : extent_of key bytes ≡ Ok (Regular at 0 (4096 * count))
  pub last : IsLastRun (HasRun items ino) number begin at count

key_parts : (key : Key) (ino : ℕ) → key.objectid ≡ ino → key.kind ≡ extent_data → key ≡ make_key ino extent_data key.offset
key_parts key ino o k i = record { objectid = o i; kind = k i; offset = key.offset }

module _ (items : List Item) (blocks : Data) (ino : ℕ) (contents : Contents) (rise : ItemsRise items) (hold : HoldContents items blocks ino contents) (number : ℕ) where
  pub last_item : (key : Key) (bytes : List ℕ) → IsLastExtent items ino number key bytes → IsLastItem items ino number key bytes
  last_item key bytes is =
      let key_is = key_parts key ino is.objectid is.kind in
      let under : data_under key items ≡ Some bytes = found_under items key bytes rise is.there in
      let found : data_under (make_key ino extent_data key.offset) items ≡ Some bytes = ap (λ (k : Key). data_under k items) (sym key_is) ∙ under in
      let run : IsRunItem items ino key.offset = hold.each key.offset bytes found in
      let same_key : make_key ino extent_data (4096 * run.begin) ≡ key = ap (make_key ino extent_data) (sym run.offset_is) ∙ sym key_is in
      let same_bytes : run.run.bytes ≡ bytes = some_same run.run.bytes bytes (sym run.run.there ∙ ap (λ (k : Key). data_under k items) same_key ∙ under) in
      record {
        begin = run.begin;
        at = run.at;
        count = run.count;
        offset = run.offset_is;
        read = (λ i. extent_of (sym same_key i) (sym same_bytes i)) ∙ run.run.read;
        last = record {
          run = run.run;
          before = omega (arith, run.offset_is, is.before);
          last = λ other place more r low.
              let c = contains_under items (make_key ino extent_data (4096 * other)) r.bytes r.there in
              let h = is.last (4096 * other) r.bytes c (omega arith) (omega (arith, low)) in
              omega (arith, h, run.offset_is);
        };
      }

  pub none_begins : extents_between items ino 0 number ≡ [] → NoneBegins (HasRun items ino) number
  none_begins none b a c run low =
      none_between items ino 0 number (4096 * b) run.bytes none (contains_under items (make_key ino extent_data (4096 * b)) run.bytes run.there) (omega arith) (omega (arith, low))

-- where the last run ends in front of the block, none goes over it
pub none_over : (Runs : ℕ → ℕ → ℕ → Type 0) (blocks : Data) (contents : Contents) (number begin at count : ℕ) → AreSole Runs → AreRunsOf Runs blocks contents → IsLastRun Runs number begin at count → (begin < number → begin + count ≤ number) → NoneOver Runs number
none_over Runs blocks contents number begin at count sole are last ends b a c run less = elim (cases_eq b begin) [
  | inl same ↦
      let is = sole begin a c at count (subst (λ (n : ℕ). Runs n a c) same run) last.run in
      let h = ends (omega (arith, same, less)) in
      omega (arith, h, same, is.1)
  | inr other ↦
      let low = last.last b a c run (omega (arith, less)) in
      let apart = are.apart b a c begin at count run last.run (omega (arith, low, other)) in
      omega (arith, apart, last.before)
]

-- the same run by other words for its numbers
pub moved : (Runs : ℕ → ℕ → ℕ → Type 0) (number b b' a a' c c' : ℕ) → b ≡ b' → a ≡ a' → c ≡ c' → IsLastRun Runs number b a c → IsLastRun Runs number b' a' c'
moved Runs number b b' a a' c c' x y z last =
    subst (λ (n : ℕ). IsLastRun Runs number n a' c') x (subst (λ (n : ℕ). IsLastRun Runs number b n c') y (subst (λ (n : ℕ). IsLastRun Runs number b a n) z last))

none_begins_over : (Runs : ℕ → ℕ → ℕ → Type 0) (number : ℕ) → NoneBegins Runs number → NoneOver Runs number
none_begins_over Runs number none b a c run less = absurd (none b a c run (omega (arith, less)))

pub over_or_none : (Runs : ℕ → ℕ → ℕ → Type 0) (number : ℕ) → NoneBegins Runs number → NoneOver Runs number
over_or_none Runs number none = none_begins_over Runs number none
