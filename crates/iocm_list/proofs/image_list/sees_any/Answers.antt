use Rattle.std.proofs.Common.{◌≡◌, sym, ◌∙◌}
use Rattle.iocm_model.specs.Machine.Configuration.{lookup_of}
use Rattle.iocm_model.specs.Machine.Sight.{sees}
use Rattle.iocm_deck_writer.specs.Device.{Run}
use Rattle.iocm_sight.proofs.SightTests.{is_seen}
use Rattle.iocm_sight.proofs.RunSums.{none_so_far, one_found}
use Rattle.iocm_list.proofs.image_list.sees_any.Goals as goal

pub returns-then-is_some-clause-seen : goal.returns-then-is_some-clause-seen
returns-then-is_some-clause-seen c =
    let s = c.args.sight.now in
    let p = λ (r : Run). sees (lookup_of s.records) s.image.css s.image.name r.first in
    let is : p c.run-item.result ≡ c.is_some.result =
    sym (c.is_some.ensures ∙ is_seen s c.loop-run.sight c.view_of.result _ c.run-item.result.first
    c.loop-run.invariant.same c.view_of.ensures.view c.first.ensures) in
    sym (one_found p c.args.runs.now c.loop-run.run-index c.run-item.result c.loop-run-test.true c.run-item.is
    (is ∙ c.if-is_some.true) c.loop-run.invariant.left)

pub loop-run-preserved : goal.loop-run-preserved
loop-run-preserved c =
    let s = c.args.sight.now in
    let p = λ (r : Run). sees (lookup_of s.records) s.image.css s.image.name r.first in
    let is : p c.run-item.result ≡ c.is_some.result =
    sym (c.is_some.ensures ∙ is_seen s c.loop-run.sight c.view_of.result _ c.run-item.result.first
    c.loop-run.invariant.same c.view_of.ensures.view c.first.ensures) in record {
      left = none_so_far p c.args.runs.now c.loop-run.run-index c.run-item.result c.loop-run-test.true c.run-item.is
          (is ∙ c.if-is_some.false) c.loop-run.invariant.left;
      same = c.view_of.ensures.same ∙ c.loop-run.invariant.same;
    }
