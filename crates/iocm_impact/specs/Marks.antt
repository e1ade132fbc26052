-- What is marked of a change to an image and a device: eight words, each of which holds or not.
use Rattle.std.specs.Prelude.{Bool, false, ◌||◌}
use Rattle.iocm_plan.specs.Effects as effect
use Rattle.iocm_plan.specs.declared.effect.Effect.{Effect}
use Rattle.iocm_impact.specs.declared.marks.Mark.{Mark}
use Rattle.iocm_impact.specs.declared.marks.Mark.TheVariants as mark
use Rattle.iocm_impact.specs.declared.marks.Marks.{Marks}

-- the words that hold of what a change does
abbrev pub marks_of : Effect → Marks
marks_of e = record {
  gone = effect.gone e.before e.after;
  came = effect.came e.before e.after;
  changed = effect.changed e.before e.after;
  same = effect.same e.before e.after;
  lost = effect.lost e.before e.after;
  interrupted = e.interrupted;
  one_path = effect.onepath e.before e.after;
  off_and_on = e.offon;
}

abbrev pub no_marks : Marks
no_marks = record {
  gone = false;
  came = false;
  changed = false;
  same = false;
  lost = false;
  interrupted = false;
  one_path = false;
  off_and_on = false;
}

-- the words that hold here or there
abbrev pub either : Marks → Marks → Marks
either m n = record {
  gone = m.gone || n.gone;
  came = m.came || n.came;
  changed = m.changed || n.changed;
  same = m.same || n.same;
  lost = m.lost || n.lost;
  interrupted = m.interrupted || n.interrupted;
  one_path = m.one_path || n.one_path;
  off_and_on = m.off_and_on || n.off_and_on;
}

-- whether one of the words holds
abbrev pub has : Mark → Marks → Bool
has mark.Gone m = m.gone
has mark.Came m = m.came
has mark.Changed m = m.changed
has mark.Same m = m.same
has mark.Lost m = m.lost
has mark.Interrupted m = m.interrupted
has mark.OnePath m = m.one_path
has mark.OffAndOn m = m.off_and_on
