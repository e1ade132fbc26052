use Rattle.std.proofs.Common.{sym, ◌==◌, ◌∙◌}
use Rattle.std.proofs.lemmas.List.{length-map}
use Rattle.std.specs.List.{filter}
use Rattle.iocm_types.specs.declared.css_path.CssPath.{CssPath}
use Rattle.iocm_unit_rules.proofs.path_lists.count_in.Goals as goal

pub returns : goal.returns
returns c = c.count_of_css.ensures
    ∙ sym (length-map (filter (λ (p : CssPath). p.css == c.args.css) c.args.paths.now) (λ (p : CssPath). p.path))
