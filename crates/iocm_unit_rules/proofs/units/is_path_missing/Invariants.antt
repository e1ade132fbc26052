-- Each of the paths so far is there.
use Rattle.std.proofs.Common.{◌≡◌, drop}
use Rattle.std.specs.Prelude.{is_none}
use Rattle.std.specs.List.{list_any}
use Rattle.iocm_types.specs.declared.css_path.CssPath.{CssPath}
use Rattle.iocm_types.specs.declared.key.Key.TheVariants.{Path}
use Rattle.iocm_model.specs.Machine.Configuration.{lookup_of}
use Rattle.iocm_unit_rules.proofs.units.is_path_missing.Given as goal

abbrev pub invariant-loop-path : goal.invariant-loop-path
invariant-loop-path g l =
    list_any (λ (p : CssPath). is_none (lookup_of l.config.records (Path p.css p.path))) (drop l.path-index l.paths)
    ≡ list_any (λ (p : CssPath). is_none (lookup_of l.config.records (Path p.css p.path))) l.paths
