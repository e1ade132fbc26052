-- A row more is noted, or was noted before.
use Rattle.std.proofs.Common.{◌&&◌, sym, ap, ◌∙◌}
use Rattle.iocm_types.specs.Place.{cell_cmp}
use Rattle.iocm_table.specs.Slots.{rows}
use Rattle.iocm_model.specs.Machine.Configuration.{Configuration}
use Rattle.iocm_model.specs.Change.Renumbering.{comes_in}
use Rattle.iocm_numbers.specs.Taken.{is_noted, with_noted}
use Rattle.iocm_numbers.proofs.Taking.{notes_none, notes_one, notes_again}
use Rattle.iocm_numbers.proofs.numbers.Numbers.is_one_twice.Goals as goal

pub loop-row-init : goal.loop-row-init
loop-row-init g c = (
  c.new-walk.ensures,
  notes_none c.args.config.now.records c.args.self.now.numbers c.args.carried.now _ c.new-seen.ensures.rows,
)

pub returns-then-branch-clause-twice : goal.returns-then-branch-clause-twice
returns-then-branch-clause-twice g c =
    notes_again c.args.config.now.records c.args.self.now.numbers c.args.carried.now c.loop-row.row-index _
    c.row-item.result
    c.loop-row-test.true c.row-item.is c.loop-row.invariant.1
    (ap (λ (m : Configuration).
    comes_in m c.args.self.now.numbers c.row-item.result
    && is_noted (rows cell_cmp c.loop-row.seen) c.row-item.result) (sym c.loop-row.invariant.0)
    ∙ sym c.in_ok-note.ensures.again ∙ c.if-branch.true)

pub loop-row-preserved : goal.loop-row-preserved
loop-row-preserved g c = (
  c.note.ensures.same ∙ c.loop-row.invariant.0,
  notes_one c.args.config.now.records c.args.self.now.numbers c.args.carried.now c.loop-row.row-index _ _
      c.row-item.result
      c.loop-row-test.true c.row-item.is c.loop-row.invariant.1
      (c.in_ok-note.ensures.noted
      ∙ ap (λ (m : Configuration).
      with_noted m c.args.self.now.numbers (rows cell_cmp c.loop-row.seen) c.row-item.result)
      c.loop-row.invariant.0)
      (ap (λ (m : Configuration).
      comes_in m c.args.self.now.numbers c.row-item.result
      && is_noted (rows cell_cmp c.loop-row.seen) c.row-item.result) (sym c.loop-row.invariant.0)
      ∙ sym c.in_ok-note.ensures.again ∙ c.if-branch.false),
)
