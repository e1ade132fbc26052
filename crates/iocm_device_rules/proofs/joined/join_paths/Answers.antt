-- A path with which a list is wrong, one path more, and all.
use Rattle.std.proofs.Common.{[], ◌∷◌, ◌++◌, ◌+◌, get_or, drop, sym, ap, ◌∙◌}
use Rattle.iocm_model.specs.Machine.PathList.{paths_in}
use Rattle.iocm_device_rules.proofs.JoinedPaths.{paths_opened, wrong_with_all}
use Rattle.iocm_device_rules.proofs.joined.join_paths.Goals as goal

pub returns-then-not-join_path-clause-wrong : goal.returns-then-not-join_path-clause-wrong
returns-then-not-join_path-clause-wrong c _ =
    wrong_with_all c.args.lists.now c.loop-path.lists (λ css. paths_in css c.args.more.now)
    (λ css. paths_in css (c.path-item.result ∷ []))
    (λ css. paths_in css (drop (c.loop-path.path-index + 1) c.args.more.now))
    (λ css low. ap (λ ps. get_or c.loop-path.lists css [] ++ ps)
    (sym (paths_opened css c.args.more.now c.loop-path.path-index c.path-item.result c.loop-path-test.true
    c.path-item.is)) ∙ c.loop-path.invariant.rest css low)
    (c.join_path.ensures.wrong c.if-not-join_path.true)
