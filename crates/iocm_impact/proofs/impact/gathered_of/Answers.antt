-- One image more is gathered.
use Rattle.std.proofs.Common.{ap, ◌∙◌}
use Rattle.iocm_model.specs.Machine.Configuration.{lookup_of}
use Rattle.iocm_plan.specs.Left.{effects_on_runs}
use Rattle.iocm_impact.specs.Gathered.{change}
use Rattle.iocm_impact.proofs.Gathering.{blocks_go_on, images_go_on, marks_go_on}
use Rattle.iocm_impact.proofs.impact.gathered_of.Goals as goal

pub loop-image-preserved : goal.loop-image-preserved
loop-image-preserved c =
    let x = change c.args.filters.now c.args.is_lost c.args.old.now.records c.args.new.now.records in
    let i = c.image-item.result in
    let effects = c.deref.ensures.value ∙ c.in_ok-effects.ensures
    ∙ ap (effects_on_runs x.wanted x.is_lost (lookup_of x.before) (lookup_of x.after) i.image) c.requires.runs in
    record {
      images = images_go_on x c.args.images.now c.loop-image.image-index i c.loop-image-test.true c.image-item.is
          c.loop-image.gathered c.put_image.new.gathered c.args.runs.now c.deref.result.now c.requires.runs effects
          c.in_ok-put_image.ensures c.loop-image.invariant.images;
      blocks = blocks_go_on x c.args.images.now c.loop-image.image-index i c.loop-image-test.true c.image-item.is
          c.loop-image.gathered c.put_image.new.gathered c.args.runs.now c.deref.result.now c.requires.runs effects
          c.in_ok-put_image.ensures c.loop-image.invariant.blocks;
      marks = marks_go_on x c.args.images.now c.loop-image.image-index i c.loop-image-test.true c.image-item.is
          c.loop-image.gathered c.put_image.new.gathered c.args.runs.now c.deref.result.now c.requires.runs effects
          c.in_ok-put_image.ensures c.loop-image.invariant.marks;
    }
