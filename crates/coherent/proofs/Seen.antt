-- The least wrong inode, item by item, and in the end.
use Rattle.std.proofs.Common.{◌≡◌, ◌<◌, ℕ, Bool, false, List, [], ◌∷◌, Contains, Option, Some, None, refl, sym, ap, subst, ◌∙◌, arith, inl, inr}
use Rattle.std.specs.Option.{option_map}
use Rattle.std.specs.Prelude.{IsTrue}
use Rattle.blk_base.specs.Leaf.{Item}
use Rattle.blk_base.specs.declared.key.Ino.{Ino}
use Rattle.blk_base.specs.declared.key.Key.{Key}
use Rattle.block_table.specs.Table.{Table}
use Rattle.table_volume.specs.Gives.{data_in}
use Rattle.volume_image.proofs.Lists.{in_cons, in_nothing}
use Rattle.volume_image.proofs.Reaches.{tail_in, head_in}
use Rattle.image_faults.specs.Faulty.{AreReadable, HasData, HasNoFault, IsFaulty}
use Rattle.image_faults.specs.Lowest.{first_faulty}
use Rattle.image_faults.specs.Said.{said_sub}
use Rattle.image_faults.proofs.Firsts.{lowest_is_first, none_is_first}
use Rattle.inode_lines.specs.Kinds.{said_kind}
use Rattle.coherent_names.specs.Names.{all_names}
use Rattle.coherent_slots.specs.Slots.{IsBelow, IsLeastBad, IsLowered}
use Rattle.coherent.specs.Answer.{IsLeastSeen}
use Rattle.coherent.specs.Passes.{HasExtentSize, IsSurvey, PassesItem, PassesRoot}
use Rattle.coherent.specs.declared.survey.Survey.{Survey}
use Rattle.coherent.proofs.Lists.{clash}
use Rattle.coherent.proofs.Passing.{good_names, has_size, passes, root_passes}
use Rattle.coherent.proofs.Right.{faultless}

one_ino : (a b : Ino) → Some a ≡ Some b → a ≡ b
one_ino a b e = cc

module _ (items : List Item) (table : Table) (survey : Survey) (ok : AreReadable items) (held : HasData items (data_in table)) (is : IsSurvey items (said_sub items (data_in table)) survey) where
  pub begin_seen : (least : Option Ino) → IsLeastBad items (said_sub items (data_in table)) (all_names items) least → IsLeastSeen items table survey items least
  begin_seen least bad = record {
    inside = λ item c. c;
    faulty = λ found e whole. good_names items table survey ok held is found.0 whole (bad.bad found e);
    names = λ ino below. bad.good ino below;
    seen = λ ino below key bytes c mine. inl c;
  }

  pub seen_right : (rest : List Item) (key : Key) (bytes : List ℕ) (least : Option Ino) → IsLeastSeen items table survey ((key, bytes) ∷ rest) least → PassesItem items table (data_in table) survey key bytes → IsLeastSeen items table survey rest least
  seen_right rest key bytes least old right = record {
    inside = λ item c. old.inside item (tail_in (key, bytes) item rest c);
    faulty = old.faulty;
    names = old.names;
    seen = λ ino below other more c mine. elim (old.seen ino below other more c mine) [
      | inl left ↦ elim (in_cons (key, bytes) (other, more) rest left) [
        | inl here ↦ inr (subst (λ (item : Item). PassesItem items table (data_in table) survey item.0 item.1) here right)
        | inr there ↦ inl there
      ]
      | inr passed ↦ inr passed
    ];
  }

  pub seen_wrong : (rest : List Item) (key : Key) (bytes : List ℕ) (least next : Option Ino) (answer : Bool) → IsLeastSeen items table survey ((key, bytes) ∷ rest) least → answer ≡ false
      → (HasExtentSize items key → PassesItem items table (data_in table) survey key bytes → IsTrue answer) → IsLowered least (record { 0 = key.objectid }) next → IsLeastSeen items table survey rest next
  seen_wrong rest key bytes least next answer old wrong complete lowered = record {
    inside = λ item c. old.inside item (tail_in (key, bytes) item rest c);
    faulty = λ found e. elim lowered.0 [
      | inl same ↦ old.faulty found (sym same ∙ e)
      | inr now ↦ subst (λ (i : Ino). IsFaulty items (data_in table) i.0) (one_ino (record { 0 = key.objectid }) found (sym now ∙ e)) faulty
    ];
    names = λ ino below. old.names ino (lowered.1 ino below).0;
    seen = λ ino below other more c mine.
        let low = lowered.1 ino below in
        let less = low.1 in
        elim (old.seen ino low.0 other more c mine) [
          | inl left ↦ elim (in_cons (key, bytes) (other, more) rest left) [
            | inl here ↦ let same = ap (λ (item : Item). item.0.objectid) here in absurd (omega arith)
            | inr there ↦ inl there
          ]
          | inr passed ↦ inr passed
        ];
  }
    where
      there : Contains items (key, bytes)
      there = old.inside (key, bytes) (head_in (key, bytes) rest)

      faulty : IsFaulty items (data_in table) key.objectid
      faulty whole =
          clash (sym (complete (has_size items table survey ok held is key.objectid key.kind key.offset bytes whole there) (passes items table survey ok held is key.objectid key.kind key.offset bytes whole there)) ∙ wrong)

  -- what is below the least is right
  all_right : (least : Option Ino) → IsLeastSeen items table survey [] least → (ino : ℕ) → IsBelow ino least → (ino ≡ 256 → PassesRoot items (said_kind items (data_in table))) → HasNoFault items (data_in table) ino
  all_right least old ino below root =
      faultless items table survey ok held is ino (old.names ino below)
      (λ key bytes c mine. elim (old.seen ino below key bytes c mine) [ inl left ↦ absurd (in_nothing (key, bytes) left) | inr passed ↦ passed ]) root

  pub root_right : (least : Option Ino) → IsLeastSeen items table survey [] least → PassesRoot items (said_kind items (data_in table)) → first_faulty items (data_in table) ≡ option_map (λ (ino : Ino). ino.0) least
  root_right None old root = none_is_first items (data_in table) (λ ino. all_right None old ino (λ found e. absurd (none found e)) (λ same. root))
    where
      none : (found : Ino) → None ≡ Some found → ⊥
      none found e = cc
  root_right (Some least) old root = lowest_is_first items (data_in table) least.0 (record {
    faulty = old.faulty least refl;
    lowest = λ other below. all_right (Some least) old other (λ found e. subst (λ (i : Ino). other < i.0) (one_ino least found e) below) (λ same. root);
  })

  pub root_wrong : (least next : Option Ino) → IsLeastSeen items table survey [] least → (PassesRoot items (said_kind items (data_in table)) → ⊥) → IsLowered least (record { 0 = 256 }) next
      → first_faulty items (data_in table) ≡ option_map (λ (ino : Ino). ino.0) next
  root_wrong least None old wrong lowered = absurd (let low = (lowered.1 256 (λ found e. absurd (none found e))).1 in omega arith)
    where
      none : (found : Ino) → None ≡ Some found → ⊥
      none found e = cc
  root_wrong least (Some next) old wrong lowered = lowest_is_first items (data_in table) next.0 (record {
    faulty = elim lowered.0 [
      | inl same ↦ old.faulty next (sym same)
      | inr now ↦ subst (λ (i : Ino). IsFaulty items (data_in table) i.0) (one_ino (record { 0 = 256 }) next (sym now)) (λ whole. wrong (root_passes items (data_in table) whole))
    ];
    lowest = λ other below.
        let low = lowered.1 other (λ found e. subst (λ (i : Ino). other < i.0) (one_ino next found e) below) in
        let less = low.1 in
        all_right least old other low.0 (λ same. absurd (omega arith));
  })
