use Rattle.std.proofs.Common.{◌≡◌, ◌++◌, ◌∷◌, [], ℕ, List, codes, ap, subst, sym, ◌∙◌}
use Rattle.std.specs.Prelude.{OnErr, OnOk}
use Rattle.std.specs.Fmt.{decimal}
use Rattle.std.specs.List.{concat}
use Rattle.blk_base.specs.declared.fault.ItemFault.{ItemFault}
use Rattle.blk_base.specs.declared.key.Key.{Key}
use Rattle.io_edge.specs.Edge.{Takes, TakesFront}
use Rattle.foreign_read.specs.Faults.{item_word, item_words}
use Rattle.foreign_read.proofs.Pieces.{behind_is}
use Rattle.foreign_read.proofs.fault_text.put_item.Goals as goal

-- the pieces of the line, and the line
text_is : (at : ℕ) (key : Key) (check : ItemFault) (address objectid kind offset word : List ℕ) → address ≡ decimal at → objectid ≡ decimal key.objectid → kind ≡ decimal key.kind → offset ≡ decimal key.offset → word ≡ item_word check
    → concat (codes "foreign item " ∷ address ∷ codes " " ∷ objectid ∷ codes " " ∷ kind ∷ codes " " ∷ offset ∷ codes " " ∷ word ∷ codes "\n" ∷ []) ≡ codes "foreign item " ++ item_words at key check ++ codes "\n"
text_is at key check address objectid kind offset word one two three four five =
    (λ i. concat (codes "foreign item " ∷ one i ∷ codes " " ∷ two i ∷ codes " " ∷ three i ∷ codes " " ∷ four i ∷ codes " " ∷ five i ∷ codes "\n" ∷ []))
    ∙ ap (λ (rest : List ℕ). codes "foreign item " ++ rest)
    (sym (behind_is (decimal at) (codes " " ∷ decimal key.objectid ∷ codes " " ∷ decimal key.kind ∷ codes " " ∷ decimal key.offset ∷ codes " " ∷ item_word check ∷ codes "\n" ∷ [])))

pub returns-clause-whole : goal.returns-clause-whole
returns-clause-whole g c =
    subst (λ (text : List ℕ). OnOk c.put_all.result (Takes (g.K.Sink.taken c.args.to.now) text (g.K.Sink.taken c.put_all.new.to)))
    (text_is c.args.at c.args.key c.args.fault c.format-address.result.now c.format-objectid.result.now c.format-kind.result.now c.format-offset.result.now c.item_word-word.result.now
    c.format-address.ensures.text c.format-objectid.ensures.text c.format-kind.ensures.text c.format-offset.ensures.text c.item_word-word.ensures)
    c.put_all.ensures.whole

pub returns-clause-front : goal.returns-clause-front
returns-clause-front g c =
    subst (λ (text : List ℕ). OnErr c.put_all.result (TakesFront (g.K.Sink.taken c.args.to.now) text (g.K.Sink.taken c.put_all.new.to)))
    (text_is c.args.at c.args.key c.args.fault c.format-address.result.now c.format-objectid.result.now c.format-kind.result.now c.format-offset.result.now c.item_word-word.result.now
    c.format-address.ensures.text c.format-objectid.ensures.text c.format-kind.ensures.text c.format-offset.ensures.text c.item_word-word.ensures)
    c.put_all.ensures.front
