-- One control unit more.
use Rattle.std.proofs.Common.{sym, ap, ◌∙◌, ◌++◌, take}
use Rattle.iocm_types.specs.declared.key.Key.TheVariants.{Unit}
use Rattle.iocm_model.specs.Machine.Configuration.{Configuration, lookup_of}
use Rattle.iocm_derive.specs.Derived.{all_paths}
use Rattle.iocm_derive.proofs.Eight.{take_more, take_done}
use Rattle.iocm_derive.proofs.Joined.{units_opened, units_past}
use Rattle.iocm_derive.proofs.paths.next_paths_of_units.Goals as goal

pub loop-unit-preserved : goal.loop-unit-preserved
loop-unit-preserved g c = record {
  same = c.find.ensures.same ∙ c.loop-unit.invariant.same;
  short = c.add_paths.ensures.short;
  rest = take_more 8 c.loop-unit.paths _ _ c.add_paths.new.paths c.add_paths.ensures.paths
      ∙ ap (λ ps. take 8 (c.loop-unit.paths ++ ps))
      (sym (units_opened (lookup_of c.args.records.now) c.args.css c.args.units.now c.loop-unit.unit-index
      c.unit-item.result c.paths_in.result.now
      c.loop-unit-test.true c.unit-item.is
      (c.paths_in.ensures ∙ ap all_paths
      (c.find.ensures.record ∙ ap (λ (m : Configuration). lookup_of m (Unit c.unit-item.result))
      c.loop-unit.invariant.same))))
      ∙ c.loop-unit.invariant.rest;
}

pub returns-clause-paths : goal.returns-clause-paths
returns-clause-paths g c =
    take_done 8 c.loop-unit.paths _ c.loop-unit.invariant.short
    (units_past (lookup_of c.args.records.now) c.args.css c.args.units.now c.loop-unit.unit-index
    c.loop-unit-test.false)
    ∙ c.loop-unit.invariant.rest
