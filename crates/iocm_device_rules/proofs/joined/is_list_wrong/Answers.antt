-- A unit with whose paths a list is wrong, one unit more, and all.
use Rattle.std.proofs.Common.{[], ◌++◌, ◌+◌, get_or, drop, sym, ap, ◌∙◌}
use Rattle.iocm_model.specs.Machine.Configuration.{lookup_of}
use Rattle.iocm_model.specs.Machine.PathList.{path_list}
use Rattle.iocm_device_rules.specs.Joining.{is_wrong_list}
use Rattle.iocm_device_rules.proofs.JoinedPaths.{units_opened, some_subsystem}
use Rattle.iocm_device_rules.proofs.joined.is_list_wrong.Goals as goal

pub returns-then-not-join_paths : goal.returns-then-not-join_paths
returns-then-not-join_paths g c =
    let look = lookup_of c.args.config.now.records in
    let w = c.join_paths.ensures.wrong c.if-not-join_paths.true in
    sym (some_subsystem (λ css. is_wrong_list (path_list look css c.args.units.now)) w.css w.within
    (ap is_wrong_list (sym (ap (λ ps. get_or c.loop-unit.lists w.css [] ++ ps)
    (sym (units_opened look w.css c.args.units.now c.loop-unit.unit-index c.unit-item.result c.find_paths.result.now
    c.loop-unit-test.true c.unit-item.is c.find_paths.ensures))
    ∙ c.loop-unit.invariant.rest w.css w.within))
    ∙ w.wrong (path_list look w.css (drop (c.loop-unit.unit-index + 1) c.args.units.now))))
