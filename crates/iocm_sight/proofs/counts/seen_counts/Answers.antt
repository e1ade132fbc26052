use Rattle.std.proofs.Common.{ap, ◌∙◌}
use Rattle.iocm_model.specs.Machine.Configuration.{devices_of, lookup_of}
use Rattle.iocm_model.specs.Machine.Sight.{sees}
use Rattle.iocm_sight.specs.Counts.{has_online, sees_with}
use Rattle.iocm_sight.proofs.RunSums.{goes_on, has_room, is_done}
use Rattle.iocm_sight.proofs.SightTests.{is_seen, sees_of_sight, sees_with_of_sight, view_is}
use Rattle.iocm_sight.proofs.counts.seen_counts.Goals as goal

pub with_run-devices-requires : goal.with_run-devices-requires
with_run-devices-requires c =
    let s = c.args.sight.now in
    has_room (sees (lookup_of s.records) s.image.css s.image.name) c.args.every.now c.loop-run.run-index
    c.run-item.result c.loop-run.devices c.count.result c.is_some.result c.loop-run-test.true c.run-item.is
    c.count.ensures.count
    (c.is_some.ensures ∙ is_seen s c.loop-run.sight c.view_of-view.result _ c.run-item.result.first
    c.loop-run.invariant.same c.view_of-view.ensures.view c.first.ensures)
    c.loop-run.invariant.devices c.requires.few

pub with_run-no_path-requires : goal.with_run-no_path-requires
with_run-no_path-requires c =
    let s = c.args.sight.now in
    has_room (sees_with 0 (lookup_of s.records) s.image) c.args.every.now c.loop-run.run-index c.run-item.result
    c.loop-run.no_path c.count-in-loop-run.result c.has_online.result c.loop-run-test.true c.run-item.is
    c.count-in-loop-run.ensures.count
    (c.has_online.ensures ∙ ap (has_online 0) (view_is s c.loop-run.sight c.view_of-view.result _
    c.run-item.result.first c.loop-run.invariant.same c.view_of-view.ensures.view c.first.ensures))
    c.loop-run.invariant.no_path c.requires.few

pub with_run-one_path-requires : goal.with_run-one_path-requires
with_run-one_path-requires c =
    let s = c.args.sight.now in
    has_room (sees_with 1 (lookup_of s.records) s.image) c.args.every.now c.loop-run.run-index c.run-item.result
    c.loop-run.one_path c.count-in-loop-run-2.result c.has_online-in-loop-run.result c.loop-run-test.true c.run-item.is
    c.count-in-loop-run-2.ensures.count
    (c.has_online-in-loop-run.ensures ∙ ap (has_online 1) (view_is s c.loop-run.sight c.view_of-view.result _
    c.run-item.result.first c.loop-run.invariant.same c.view_of-view.ensures.view c.first.ensures))
    c.loop-run.invariant.one_path c.requires.few

pub loop-run-preserved : goal.loop-run-preserved
loop-run-preserved c =
    let s = c.args.sight.now in
    let view = view_is s c.loop-run.sight c.view_of-view.result _ c.run-item.result.first c.loop-run.invariant.same
    c.view_of-view.ensures.view c.first.ensures in record {
      devices = goes_on (sees (lookup_of s.records) s.image.css s.image.name) c.args.every.now c.loop-run.run-index
          c.run-item.result c.loop-run.devices c.count.result c.is_some.result c.loop-run-test.true c.run-item.is
          c.count.ensures.count
          (c.is_some.ensures ∙ is_seen s c.loop-run.sight c.view_of-view.result _ c.run-item.result.first
          c.loop-run.invariant.same c.view_of-view.ensures.view c.first.ensures)
          c.loop-run.invariant.devices c.with_run-devices.result c.with_run-devices.ensures;
      no_path = goes_on (sees_with 0 (lookup_of s.records) s.image) c.args.every.now c.loop-run.run-index
          c.run-item.result c.loop-run.no_path c.count-in-loop-run.result c.has_online.result c.loop-run-test.true
          c.run-item.is c.count-in-loop-run.ensures.count (c.has_online.ensures ∙ ap (has_online 0) view)
          c.loop-run.invariant.no_path c.with_run-no_path.result c.with_run-no_path.ensures;
      one_path = goes_on (sees_with 1 (lookup_of s.records) s.image) c.args.every.now c.loop-run.run-index
          c.run-item.result c.loop-run.one_path c.count-in-loop-run-2.result c.has_online-in-loop-run.result
          c.loop-run-test.true c.run-item.is c.count-in-loop-run-2.ensures.count
          (c.has_online-in-loop-run.ensures ∙ ap (has_online 1) view)
          c.loop-run.invariant.one_path c.with_run-one_path.result c.with_run-one_path.ensures;
      same = c.view_of-view.ensures.same ∙ c.loop-run.invariant.same;
    }

pub returns-clause-counts : goal.returns-clause-counts
returns-clause-counts c =
    let s = c.args.sight.now in
    let at = lookup_of s.records in
    let ds = devices_of s.records in
    let devices = is_done (sees at s.image.css s.image.name) (sees_of_sight at s.image.css s.image.name)
    c.args.every.now ds c.loop-run.run-index c.loop-run.devices c.requires.runs c.loop-run-test.false
    c.loop-run.invariant.devices in
    let no_path = is_done (sees_with 0 at s.image) (sees_with_of_sight 0 at s.image) c.args.every.now ds
    c.loop-run.run-index c.loop-run.no_path c.requires.runs c.loop-run-test.false c.loop-run.invariant.no_path in
    let one_path = is_done (sees_with 1 at s.image) (sees_with_of_sight 1 at s.image) c.args.every.now ds
    c.loop-run.run-index c.loop-run.one_path c.requires.runs c.loop-run-test.false c.loop-run.invariant.one_path in
    λ j. record { devices = devices j; no_path = no_path j; one_path = one_path j }
