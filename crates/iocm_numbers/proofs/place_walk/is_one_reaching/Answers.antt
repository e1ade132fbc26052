-- A unit that has a path, and behind the last one.
use Rattle.std.proofs.Common.{not, Option, sym, ap, ◌∙◌}
use Rattle.std.specs.Option.{option_copied}
use Rattle.iocm_types.proofs.Any.{any_stops, any_done}
use Rattle.iocm_types.specs.declared.key.Key.TheVariants.{Unit}
use Rattle.iocm_model.specs.Machine.Configuration.{Configuration, lookup_of}
use Rattle.iocm_model.specs.Machine.Numbering.{is_empty}
use Rattle.iocm_model.specs.Machine.PathList.{unit_record_paths}
use Rattle.iocm_model.specs.Machine.Record.{Rec}
use Rattle.iocm_numbers.proofs.PathsThere.{has_path, some_unit}
use Rattle.iocm_numbers.proofs.place_walk.is_one_reaching.Goals as goal

pub returns-then-has_path-clause-reached : goal.returns-then-has_path-clause-reached
returns-then-has_path-clause-reached g c =
    let paths = λ (o : Option Rec). not (is_empty (unit_record_paths c.args.css o)) in
    let seen = ◌∙◌ {b = paths (option_copied c.find.result)} c.has_path.ensures (ap paths (c.find.ensures.record
    ∙ ap (λ (m : Configuration). lookup_of m (Unit c.unit-item.result)) c.loop-unit.invariant.0)) in
    sym (some_unit (lookup_of c.args.units.now) c.args.css c.args.numbers.now ∙ sym c.loop-unit.invariant.1
    ∙ any_stops (has_path (lookup_of c.args.units.now) c.args.css) c.args.numbers.now c.loop-unit.unit-index
    c.unit-item.result c.loop-unit-test.true
    c.unit-item.is (sym seen ∙ c.if-has_path.true))

pub returns-clause-reached : goal.returns-clause-reached
returns-clause-reached g c =
    sym (some_unit (lookup_of c.args.units.now) c.args.css c.args.numbers.now ∙ sym c.loop-unit.invariant.1
    ∙ any_done (has_path (lookup_of c.args.units.now) c.args.css) c.args.numbers.now c.loop-unit.unit-index
    c.loop-unit-test.false)
