-- Where an image is affected there is a table.
use Rattle.std.proofs.Common.{◌≡◌, ◌==◌, ◌++◌, false, List, [], ◌∷◌, length, refl, sym, ap, ◌∙◌}
use Rattle.std.proofs.lemmas.Bool.{false≢true}
use Rattle.iocm_impact.specs.declared.counts.ImageCounts.{ImageCounts}
use Rattle.iocm_impact_text.specs.Texts.{images_table, table_of}
use Rattle.iocm_impact_text.proofs.image_table.put_images.Goals as goal

some_images : (is : List ImageCounts) → (length is == 0) ≡ false → images_table is ≡ table_of is
some_images [] some = absurd (false≢true (sym some))
some_images (i ∷ is) some = refl

pub returns : goal.returns
returns c = c.in_ok-extend_from_slice.ensures.items
    ∙ ap (λ table. c.args.text.now.items ++ table) (c.deref.ensures.value ∙ c.in_ok-table.ensures
    ∙ sym (some_images c.args.images.now (sym c.is_empty.ensures ∙ c.if-is_empty.false)))
