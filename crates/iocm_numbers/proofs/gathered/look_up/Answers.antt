-- The answers of all six channel subsystems.
use Rattle.std.proofs.Common.{false, not, arith}
use Rattle.std.proofs.lemmas.List.FromFn.{fill_by_all}
use Rattle.iocm_model.specs.Machine.Configuration.{lookup_of}
use Rattle.iocm_model.specs.Machine.Numbering.{is_empty}
use Rattle.iocm_model.specs.Machine.PathList.{path_list}
use Rattle.iocm_numbers.proofs.gathered.look_up.Goals as goal

pub returns : goal.returns
returns g c =
    fill_by_all (λ css. not (is_empty (path_list (lookup_of c.args.config.now.records) css c.args.units.now)))
    c.loop-number.reached 6 false c.loop-number.invariant.six
    (λ k low. c.loop-number.invariant.so_far k (omega arith))
