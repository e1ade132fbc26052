-- One control unit more.
use Rattle.std.proofs.Common.{sym, ap, ◌∙◌, ◌++◌, take}
use Rattle.iocm_model.specs.Machine.Configuration.{lookup_of}
use Rattle.iocm_derive.proofs.Eight.{take_more, take_done}
use Rattle.iocm_derive.proofs.Joined.{units_opened, units_past}
use Rattle.iocm_derive.proofs.paths.paths_of_units.Goals as goal

pub loop-unit-preserved : goal.loop-unit-preserved
loop-unit-preserved g c = record {
  short = c.add_paths.ensures.short;
  rest = take_more 8 c.loop-unit.paths _ _ c.add_paths.new.paths c.add_paths.ensures.paths
      ∙ ap (λ ps. take 8 (c.loop-unit.paths ++ ps))
      (sym (units_opened (lookup_of c.args.config.now.records) c.args.css c.args.units.now c.loop-unit.unit-index
      c.unit-item.result c.find_paths.result.now
      c.loop-unit-test.true c.unit-item.is c.find_paths.ensures))
      ∙ c.loop-unit.invariant.rest;
}

pub returns : goal.returns
returns g c =
    take_done 8 c.loop-unit.paths _ c.loop-unit.invariant.short
    (units_past (lookup_of c.args.config.now.records) c.args.css c.args.units.now c.loop-unit.unit-index
    c.loop-unit-test.false)
    ∙ c.loop-unit.invariant.rest
