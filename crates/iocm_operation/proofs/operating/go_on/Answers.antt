-- A round's calls are few enough; and one round more was run.
use Rattle.iocm_operation.specs.Asked.{trees_in}
use Rattle.iocm_operation.proofs.Few.{few_calls}
use Rattle.iocm_operation.proofs.SoFar.{goes_on, in_hands}
use Rattle.iocm_operation.proofs.operating.go_on.Goals as goal

pub run_round-caller-requires-clause-few : goal.run_round-caller-requires-clause-few
run_round-caller-requires-clause-few g c κs within =
    few_calls (trees_in c.args.trees.now) c.args.lines.now c.in-Ok.round c.in-Ok.ensures c.requires.fits

pub returns : goal.returns
returns g c =
    let r = c.run_round-caller.result in
    goes_on (trees_in c.args.trees.now) c.args.lines.now c.in-Ok.round c.args.so_far.caller r.caller r.p.items r.q.items
    r.a.items r.b.items r.stopped
    c.args.so_far.places.items c.place_lines.new.places.items c.in-Ok.ensures c.run_round-caller.ensures c.in-None.is
    (in_hands c.args.so_far.places.items c.place_lines.new.places.items c.args.lines.now c.as_slice.result.now
    c.as_slice-2.result.now c.as_slice-3.result.now c.as_slice-4.result.now
    r.p.items r.q.items r.a.items r.b.items c.as_slice.ensures.value c.as_slice-2.ensures.value
    c.as_slice-3.ensures.value c.as_slice-4.ensures.value
    c.in-Ok-place_lines.ensures)
