-- The line of an item's fault, piece by piece.
use Rattle.std.proofs.Common.{◌≡◌, ◌++◌, List, ℕ, append_assoc, codes, sym, ◌∙◌, ap}
use Rattle.std.specs.Fmt.{decimal}
use Rattle.blk_base.specs.declared.fault.ItemFault.{ItemFault}
use Rattle.blk_base.specs.declared.key.Addr.{Addr}
use Rattle.blk_base.specs.declared.key.Key.{Key}
use Rattle.tree_mount.specs.declared.fault.MountFault.TheVariants.{Item}
use Rattle.script_runner.specs.Faults.{fault_line, item_word}

pub item_line : (at objectid kind offset word : List ℕ) → codes "volume item " ++ (at ++ (codes " " ++ (objectid ++ (codes " " ++ (kind ++ (codes " " ++ (offset ++ (codes " " ++ (word ++ codes "\n")))))))))
    ≡ codes "volume " ++ (codes "item " ++ at ++ codes " " ++ objectid ++ codes " " ++ kind ++ codes " " ++ offset ++ codes " " ++ word) ++ codes "\n"
item_line at objectid kind offset word =
    let end : List ℕ = codes "\n" in
    let space : List ℕ = codes " " in
    let a1 : List ℕ = codes "item " ++ at in
    let a3 : List ℕ = a1 ++ space ++ objectid in
    let a5 : List ℕ = a3 ++ space ++ kind in
    let a7 : List ℕ = a5 ++ space ++ offset in
    let rest8 : List ℕ = space ++ (word ++ end) in
    let rest6 : List ℕ = space ++ (offset ++ rest8) in
    let rest4 : List ℕ = space ++ (kind ++ rest6) in
    let rest2 : List ℕ = space ++ (objectid ++ rest4) in
    let whole : (a7 ++ space ++ word) ++ end ≡ codes "item " ++ (at ++ rest2) =
    append_assoc (a7 ++ space) word end ∙ append_assoc a7 space (word ++ end)
    ∙ append_assoc (a5 ++ space) offset rest8 ∙ append_assoc a5 space (offset ++ rest8)
    ∙ append_assoc (a3 ++ space) kind rest6 ∙ append_assoc a3 space (kind ++ rest6)
    ∙ append_assoc (a1 ++ space) objectid rest4 ∙ append_assoc a1 space (objectid ++ rest4)
    ∙ append_assoc (codes "item ") at rest2 in
    ap (λ (text : List ℕ). codes "volume " ++ text) (sym whole)

-- with the texts of its numbers and of its word
pub item_fault_line : (at : Addr) (key : Key) (fault : ItemFault) (address objectid kind offset word : List ℕ) → address ≡ decimal at.0 → objectid ≡ decimal key.objectid → kind ≡ decimal key.kind → offset ≡ decimal key.offset → word ≡ item_word fault
    → codes "volume item " ++ (address ++ (codes " " ++ (objectid ++ (codes " " ++ (kind ++ (codes " " ++ (offset ++ (codes " " ++ (word ++ codes "\n"))))))))) ≡ fault_line (Item at key fault)
item_fault_line at key fault address objectid kind offset word address_is objectid_is kind_is offset_is word_is =
    let line : List ℕ → List ℕ → List ℕ → List ℕ → List ℕ → List ℕ = λ a o k f w. codes "volume " ++ (codes "item " ++ a ++ codes " " ++ o ++ codes " " ++ k ++ codes " " ++ f ++ codes " " ++ w) ++ codes "\n" in
    item_line address objectid kind offset word
    ∙ ap (λ (a : List ℕ). line a objectid kind offset word) address_is
    ∙ ap (λ (o : List ℕ). line (decimal at.0) o kind offset word) objectid_is
    ∙ ap (λ (k : List ℕ). line (decimal at.0) (decimal key.objectid) k offset word) kind_is
    ∙ ap (λ (f : List ℕ). line (decimal at.0) (decimal key.objectid) (decimal key.kind) f word) offset_is
    ∙ ap (λ (w : List ℕ). line (decimal at.0) (decimal key.objectid) (decimal key.kind) (decimal key.offset) w) word_is
