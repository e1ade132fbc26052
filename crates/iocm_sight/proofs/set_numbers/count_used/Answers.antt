use Rattle.std.proofs.Common.{ap, sym, ◌∙◌}
use Rattle.iocm_model.specs.Machine.Configuration.{devices_of, lookup_of}
use Rattle.iocm_sight.specs.Counts.{is_in}
use Rattle.iocm_sight.proofs.RunSums.{goes_on, has_room, is_done, numbered}
use Rattle.iocm_sight.proofs.SightTests.{is_in_of_sight}
use Rattle.iocm_sight.proofs.set_numbers.count_used.Goals as goal

pub with_run-used-requires : goal.with_run-used-requires
with_run-used-requires c = let p = is_in (lookup_of c.args.config.now.records) c.args.css c.args.set in
    has_room p c.args.every.now c.loop-run.run-index c.run-item.result c.loop-run.used c.count.result c.is_in.result
    c.loop-run-test.true c.run-item.is c.count.ensures.count
    (c.is_in.ensures ∙ ap p c.first.ensures) c.loop-run.invariant
    c.requires.few

pub loop-run-preserved : goal.loop-run-preserved
loop-run-preserved c = let p = is_in (lookup_of c.args.config.now.records) c.args.css c.args.set in
    goes_on p c.args.every.now c.loop-run.run-index c.run-item.result c.loop-run.used c.count.result c.is_in.result
    c.loop-run-test.true c.run-item.is c.count.ensures.count
    (c.is_in.ensures ∙ ap p c.first.ensures) c.loop-run.invariant
    c.with_run-used.result c.with_run-used.ensures

pub returns : goal.returns
returns c =
    let m = c.args.config.now.records in
    let p = is_in (lookup_of m) c.args.css c.args.set in
    is_done p (is_in_of_sight (lookup_of m) c.args.css c.args.set) c.args.every.now (devices_of m)
    c.loop-run.run-index c.loop-run.used c.requires.runs c.loop-run-test.false c.loop-run.invariant
    ∙ sym (numbered p (devices_of m))
