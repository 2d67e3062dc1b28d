-- What was read of an item of entries, where it is one that a subvolume asks for.
use Rattle.std.proofs.Common.{◌≡◌, ℕ, List, map, Contains, sym, ap, subst}
use Rattle.std.proofs.lemmas.List.Sorted.{IsPermutation-sym, Contains-permutation}
use Rattle.blk_base.specs.Entries.{EntryValue, entries_of}
use Rattle.item_laws.specs.Directories.{entries_to}
use Rattle.volume_image.specs.Subvolume.{HasEntries, without_transid}
use Rattle.volume_image.proofs.Members.{in_map, map_in}
use Rattle.image_faults.specs.Said.{read_list}

module _ (kind : ℕ) (bytes : List ℕ) (asked : List EntryValue) (has : HasEntries kind bytes asked) where
  pub is_found : read_list (entries_of kind bytes) ≡ has.found
  is_found = ap read_list (entries_to kind bytes has.found has.spelled)

  -- an entry that is there is asked for
  pub asked_from : (e : EntryValue) → Contains (read_list (entries_of kind bytes)) e → Contains asked (without_transid e)
  asked_from e c = Contains-permutation (map without_transid has.found) asked (without_transid e) has.same (map_in without_transid has.found e (subst (λ (es : List EntryValue). Contains es e) is_found c))

  -- an entry that is asked for is there, with a transid
  pub asked_to : (a : EntryValue) → Contains asked a → (e : EntryValue) × Contains (read_list (entries_of kind bytes)) e × (without_transid e ≡ a)
  asked_to a c =
      let found = in_map without_transid has.found a (Contains-permutation asked (map without_transid has.found) a (IsPermutation-sym (map without_transid has.found) asked has.same) c) in
      (found.0, subst (λ (es : List EntryValue). Contains es found.0) (sym is_found) found.1, found.2)
