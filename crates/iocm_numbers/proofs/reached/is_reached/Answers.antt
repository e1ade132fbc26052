-- A unit that has a path, and behind the last one.
use Rattle.std.proofs.Common.{not, Option, sym, ap, ◌∙◌}
use Rattle.iocm_types.proofs.Any.{any_stops, any_done}
use Rattle.iocm_model.specs.Machine.Configuration.{lookup_of}
use Rattle.iocm_model.specs.Machine.Numbering.{is_empty}
use Rattle.iocm_model.specs.Machine.PathList.{unit_record_paths}
use Rattle.iocm_model.specs.Machine.Record.{Rec}
use Rattle.iocm_numbers.proofs.PathsThere.{has_path, some_unit}
use Rattle.iocm_numbers.proofs.reached.is_reached.Goals as goal

pub returns-then-has_path : goal.returns-then-has_path
returns-then-has_path g c =
    sym (some_unit (lookup_of c.args.config.now.records) c.args.css c.args.units.now ∙ sym c.loop-unit.invariant
    ∙ any_stops (has_path (lookup_of c.args.config.now.records) c.args.css) c.args.units.now c.loop-unit.unit-index
    c.unit-item.result c.loop-unit-test.true c.unit-item.is
    (ap (λ (o : Option Rec). not (is_empty (unit_record_paths c.args.css o))) (sym c.get.ensures)
    ∙ sym c.has_path.ensures ∙ c.if-has_path.true))

pub returns : goal.returns
returns g c =
    sym (some_unit (lookup_of c.args.config.now.records) c.args.css c.args.units.now ∙ sym c.loop-unit.invariant
    ∙ any_done (has_path (lookup_of c.args.config.now.records) c.args.css) c.args.units.now c.loop-unit.unit-index
    c.loop-unit-test.false)
