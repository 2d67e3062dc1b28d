use Rattle.std.proofs.Common.{◌≡◌, ℕ, List, Result, Ok, Err, Some, sym, ap, ◌∙◌}
use Rattle.blk_base.specs.declared.fault.ItemFault.{ItemFault}
use Rattle.blk_base.specs.Extents.{ExtentValue, Inline, Regular, Hole}
use Rattle.item_extent.specs.declared.extent.Extent.{Extent}
use Rattle.item_extent.specs.View.{extent_view}
use Rattle.item_laws.specs.ExtentLaws.{extent_to}
use Rattle.inode_shown.proofs.contents.inline_of.Goals as goal

abbrev shown : Extent → Result ExtentValue ItemFault
shown extent = Ok (extent_view extent)

same_content : (one two : List ℕ) → ◌≡◌ {A = Result ExtentValue ItemFault} (Ok (Inline one)) (Ok (Inline two)) → one ≡ two
same_content one two is = cc

no_run : (at offset len : ℕ) (content : List ℕ) → ◌≡◌ {A = Result ExtentValue ItemFault} (Ok (Regular at offset len)) (Ok (Inline content)) → ⊥
no_run at offset len content is = cc

no_hole : (len : ℕ) (content : List ℕ) → ◌≡◌ {A = Result ExtentValue ItemFault} (Ok (Hole len)) (Ok (Inline content)) → ⊥
no_hole len content is = cc

no_fault : (fault : ItemFault) (content : List ℕ) → ◌≡◌ {A = Result ExtentValue ItemFault} (Err fault) (Ok (Inline content)) → ⊥
no_fault fault content is = cc

pub returns-in-Ok-Inline : goal.returns-in-Ok-Inline
returns-in-Ok-Inline c = λ content is.
    ap Some (same_content c.in-Ok-Inline.content.now content (ap (λ (e : Extent). shown e) (sym c.in-Ok-Inline.field-0-is) ∙ c.in-Ok-Inline.ensures ∙ extent_to c.args.key.now c.args.bytes.now (Inline content) is))

pub returns-in-Ok-Regular : goal.returns-in-Ok-Regular
returns-in-Ok-Regular c = λ content is.
    absurd (no_run _ _ _ content (ap (λ (e : Extent). shown e) (sym c.in-Ok-Regular.field-0-is) ∙ c.in-Ok-Regular.ensures ∙ extent_to c.args.key.now c.args.bytes.now (Inline content) is))

pub returns-in-Ok-Hole : goal.returns-in-Ok-Hole
returns-in-Ok-Hole c = λ content is.
    absurd (no_hole _ content (ap (λ (e : Extent). shown e) (sym c.in-Ok-Hole.field-0-is) ∙ c.in-Ok-Hole.ensures ∙ extent_to c.args.key.now c.args.bytes.now (Inline content) is))

pub returns-in-Err : goal.returns-in-Err
returns-in-Err c = λ content is. absurd (no_fault _ content (c.in-Err.ensures ∙ extent_to c.args.key.now c.args.bytes.now (Inline content) is))
