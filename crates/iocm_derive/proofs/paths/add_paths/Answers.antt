-- One path more.
use Rattle.std.proofs.Common.{sym, ap, ◌∙◌, ◌++◌, take}
use Rattle.iocm_derive.proofs.Eight.{take_more, take_done}
use Rattle.iocm_derive.proofs.Joined.{paths_opened, paths_past}
use Rattle.iocm_derive.proofs.paths.add_paths.Goals as goal

pub loop-path-preserved : goal.loop-path-preserved
loop-path-preserved c = record {
  short = c.add_path.ensures.short;
  rest = take_more 8 c.loop-path.paths _ _ c.add_path.new.paths c.add_path.ensures.paths
      ∙ ap (λ ps. take 8 (c.loop-path.paths ++ ps))
      (sym (paths_opened c.args.css c.args.more.now c.loop-path.path-index c.path-item.result c.loop-path-test.true
      c.path-item.is))
      ∙ c.loop-path.invariant.rest;
}

pub returns-clause-paths : goal.returns-clause-paths
returns-clause-paths c =
    take_done 8 c.loop-path.paths _ c.loop-path.invariant.short
    (paths_past c.args.css c.args.more.now c.loop-path.path-index c.loop-path-test.false)
    ∙ c.loop-path.invariant.rest
