use Rattle.std.proofs.Common.{ap, ◌∙◌, sym}
use Rattle.std.proofs.lemmas.Map.Text.{is_eq-slice_cmp}
use Rattle.std.specs.Ordering.{is_eq}
use Rattle.iocm_lookup.specs.Images.{is_named}
use Rattle.iocm_lookup.proofs.subsystem_images.is_named.Goals as goal

pub returns-in-Some : goal.returns-in-Some
returns-in-Some c = c.is_eq.ensures ∙ ap is_eq c.cmp.ensures ∙ is_eq-slice_cmp c.args.name c.in-Some.other
    ∙ ap (is_named c.args.name) (sym c.in-Some.is)
