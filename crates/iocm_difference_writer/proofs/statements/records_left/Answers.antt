use Rattle.std.proofs.Common.{◌≤◌, length, map, arith}
use Rattle.iocm_difference_writer.specs.Written.{left_by}
use Rattle.iocm_difference_writer.proofs.Steps.{gives_more, gives_all}
use Rattle.iocm_difference_writer.proofs.statements.records_left.Goals as goal

pub loop-edit-preserved : goal.loop-edit-preserved
loop-edit-preserved g c =
    gives_more left_by c.args.run.now c.loop-edit.edit-index c.edit-item.result
    (map (λ k. k.now) c.loop-edit.records.items) (map (λ k. k.now) c.put_left.new.records.items)
    c.loop-edit-test.true c.edit-item.is c.loop-edit.invariant c.in_ok-put_left.ensures

pub returns : goal.returns
returns g c =
    let past : length c.args.run.now ≤ c.loop-edit.edit-index = omega (arith, c.loop-edit-test.false) in
    gives_all left_by c.args.run.now c.loop-edit.edit-index (map (λ k. k.now) c.loop-edit.records.items) past
    c.loop-edit.invariant
