-- What goes with a name.
use Rattle.std.proofs.Common.{◌≡◌, ◌≢◌, ◌+◌, ℕ, Bool, true, false, cond, List, Contains, None, Option, Some, nat_eq, sym, ap, arith}
use Rattle.std.specs.FinMap.{get}
use Rattle.std.proofs.lemmas.Bool.{eq-eqb, ne_eqb}
use Rattle.flat_model.specs.Coherent.{IsCoherent}
use Rattle.flat_model.specs.Names.{FlatName, is_in_slot, links_of, remove_name}
use Rattle.flat_model.specs.Needs.{blocks_and_items_there, gone_with}
use Rattle.flat_model.specs.Records.{InodeRecord}
use Rattle.flat_model.specs.Volume.{Subvolume}
use Rattle.flat_model.specs.Walk.{AtSlot, WalkEnd, ino_at, record_at, walk}
use Rattle.flat_model.proofs.Edits.{links_without_same}
use Rattle.flat_model.proofs.Ways.{find_some, walk_slot}

-- where a walk ends at no inode there is no record
pub no_record : (sub : Subvolume) (end : WalkEnd) → None ≡ ino_at end → record_at sub end ≡ None
no_record sub end is = ap (λ (o : Option ℕ). elim o as (λ o. Option InodeRecord) [ None ↦ None | Some ino ↦ get sub.inodes ino ]) (sym is)

module _ (sub : Subvolume) (coherent : IsCoherent sub) (path : List (List ℕ)) (dir : ℕ) (bytes : List ℕ) (n : FlatName) (at : walk sub path ≡ AtSlot dir bytes (Some n)) where
  pub member : Contains sub.names n
  member = (find_some (is_in_slot dir bytes) sub.names n (sym (walk_slot sub path dir bytes (Some n) at).found)).0

  pub not_root : n.ino ≢ 256
  not_root = coherent.root_has_no_name n member

  left : 1 + links_of (remove_name n sub.names) n.ino ≡ links_of sub.names n.ino
  left = links_without_same sub.names n coherent.in_order member

  pub last_goes : links_of sub.names n.ino ≡ 1 → blocks_and_items_there (get sub.inodes n.ino) ≡ gone_with sub (AtSlot dir bytes (Some n))
  last_goes one =
      let none : links_of (remove_name n sub.names) n.ino ≡ 0 = let sum = left in omega (arith, sum, one) in
      ap (λ (b : Bool). cond b (blocks_and_items_there (get sub.inodes n.ino)) 0) (sym (eq-eqb (links_of (remove_name n sub.names) n.ino) 0 none))

  pub other_stays : links_of sub.names n.ino ≢ 1 → 0 ≡ gone_with sub (AtSlot dir bytes (Some n))
  other_stays more =
      ap (λ (b : Bool). cond b (blocks_and_items_there (get sub.inodes n.ino)) 0) (sym (ne_eqb (links_of (remove_name n sub.names) n.ino) 0 (λ none. more (let sum = left in omega (arith, sum, none)))))
