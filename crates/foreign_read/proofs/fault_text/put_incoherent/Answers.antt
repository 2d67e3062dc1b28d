use Rattle.std.proofs.Common.{◌≡◌, ◌++◌, ◌∷◌, [], ℕ, List, codes, ap, subst, sym, ◌∙◌}
use Rattle.std.specs.Prelude.{OnErr, OnOk}
use Rattle.std.specs.Fmt.{decimal}
use Rattle.std.specs.List.{concat}
use Rattle.io_edge.specs.Edge.{Takes, TakesFront}
use Rattle.foreign_read.proofs.Pieces.{behind_is}
use Rattle.foreign_read.proofs.fault_text.put_incoherent.Goals as goal

-- the pieces of the line, and the line
text_is : (sub ino : ℕ) (subvolume inode : List ℕ) → subvolume ≡ decimal sub → inode ≡ decimal ino
    → concat (codes "foreign incoherent " ∷ subvolume ∷ codes " " ∷ inode ∷ codes "\n" ∷ []) ≡ codes "foreign incoherent " ++ decimal sub ++ codes " " ++ decimal ino ++ codes "\n"
text_is sub ino subvolume inode one two =
    (λ i. concat (codes "foreign incoherent " ∷ one i ∷ codes " " ∷ two i ∷ codes "\n" ∷ []))
    ∙ ap (λ (rest : List ℕ). codes "foreign incoherent " ++ rest) (sym (behind_is (decimal sub) (codes " " ∷ decimal ino ∷ codes "\n" ∷ [])))

pub returns-clause-whole : goal.returns-clause-whole
returns-clause-whole g c =
    subst (λ (text : List ℕ). OnOk c.put_all.result (Takes (g.K.Sink.taken c.args.to.now) text (g.K.Sink.taken c.put_all.new.to)))
    (text_is c.args.sub.0 c.args.ino.0 c.format-subvolume.result.now c.format-inode.result.now c.format-subvolume.ensures.text c.format-inode.ensures.text) c.put_all.ensures.whole

pub returns-clause-front : goal.returns-clause-front
returns-clause-front g c =
    subst (λ (text : List ℕ). OnErr c.put_all.result (TakesFront (g.K.Sink.taken c.args.to.now) text (g.K.Sink.taken c.put_all.new.to)))
    (text_is c.args.sub.0 c.args.ino.0 c.format-subvolume.result.now c.format-inode.result.now c.format-subvolume.ensures.text c.format-inode.ensures.text) c.put_all.ensures.front
