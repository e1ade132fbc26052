use Rattle.std.proofs.Common.{sym, ◌==◌, ◌∙◌}
use Rattle.std.proofs.lemmas.List.{length-map}
use Rattle.std.specs.List.{filter}
use Rattle.iocm_types.specs.declared.link.CssLink.{CssLink}
use Rattle.iocm_unit_rules.proofs.units.count_links.Goals as goal

pub returns : goal.returns
returns c = c.count_of_css.ensures
    ∙ sym (length-map (filter (λ (l : CssLink). l.css == c.args.css) c.args.links.now) (λ (l : CssLink). l.link))
