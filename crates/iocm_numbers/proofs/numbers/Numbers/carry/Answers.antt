-- One number more is carried in.
use Rattle.std.proofs.Common.{◌≡◌, true, None, sym, ap, subst, ◌∙◌}
use Rattle.iocm_model.specs.Machine.Configuration.{Configuration}
use Rattle.iocm_model.specs.Machine.Numbering.{device_at}
use Rattle.iocm_model.specs.Change.Renumbering.{with_carried}
use Rattle.iocm_numbers.specs.Numbered.{cell_at}
use Rattle.iocm_numbers.specs.Renumbering.{needs_number}
use Rattle.iocm_numbers.proofs.Steps.{carries_none, carries_one, free_cell, next_free}
use Rattle.iocm_numbers.proofs.numbers.Numbers.carry.Goals as goal

pub loop-row-init : goal.loop-row-init
loop-row-init g c = (
  c.new-walk.ensures,
  carries_none c.args.config.now.records c.args.carried.now c.args.self.now c.are_apart.ensures.apart c.requires.stay
      c.requires.free,
)

pub carry_one-requires : goal.carry_one-requires
carry_one-requires g c =
    let row = c.row-item.result in
    let n = c.loop-row.self.numbers in
    subst (λ (m : Configuration). needs_number m n row.0 ≡ true → device_at n (cell_at row.0 row.1) ≡ None)
    (sym c.loop-row.invariant.0)
    (free_cell c.args.config.now.records c.args.self.now.numbers c.loop-row.self.numbers c.row-item.result _
    (next_free c.args.config.now.records c.args.self.now.numbers c.loop-row.self.numbers c.args.carried.now
    c.loop-row.row-index c.row-item.result
    c.loop-row-test.true c.row-item.is c.loop-row.invariant.1.free))

pub loop-row-preserved : goal.loop-row-preserved
loop-row-preserved g c = (
  c.carry_one.ensures.walk ∙ c.loop-row.invariant.0,
  carries_one c.args.config.now.records c.args.carried.now c.loop-row.row-index c.args.self.now c.loop-row.self
      c.carry_one.new.self
      c.row-item.result c.loop-row-test.true c.row-item.is c.loop-row.invariant.1
      (c.in_ok-carry_one.ensures.numbers
      ∙ ap (λ (m : Configuration). with_carried m c.loop-row.self.numbers c.row-item.result) c.loop-row.invariant.0)
      c.in_ok-carry_one.ensures.room,
)
