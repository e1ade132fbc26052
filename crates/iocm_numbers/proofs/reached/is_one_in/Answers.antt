-- A path that is there, and behind the last one.
use Rattle.std.proofs.Common.{nat_eq, sym, ◌∙◌}
use Rattle.iocm_types.proofs.Any.{any_stops, any_done}
use Rattle.iocm_numbers.proofs.PathsThere.{some_path}
use Rattle.iocm_numbers.proofs.reached.is_one_in.Goals as goal

pub returns-then-eq : goal.returns-then-eq
returns-then-eq c =
    sym (some_path c.args.css c.args.paths.now ∙ sym c.loop-path.invariant
    ∙ any_stops (λ p. nat_eq p.css c.args.css) c.args.paths.now c.loop-path.path-index c.path-item.result
    c.loop-path-test.true c.path-item.is (sym c.eq.ensures ∙ c.if-eq.true))

pub returns : goal.returns
returns c =
    sym (some_path c.args.css c.args.paths.now ∙ sym c.loop-path.invariant
    ∙ any_done (λ p. nat_eq p.css c.args.css) c.args.paths.now c.loop-path.path-index c.loop-path-test.false)
