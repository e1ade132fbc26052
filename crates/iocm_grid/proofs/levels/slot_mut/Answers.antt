use Rattle.std.proofs.Common.{refl, sym, ap, ◌∙◌}
use Rattle.std.specs.Option.{option_copied_mut, ghost_name_of}
use Rattle.iocm_grid.proofs.Borrowing.{set_itself, no_slots, slot_is, lent_written, lent_nothing}
use Rattle.iocm_grid.proofs.levels.slot_mut.Goals as goal

pub returns-in_err-slots : goal.returns-in_err-slots
returns-in_err-slots g c = (
  (
    ap ghost_name_of (sym c.from_residual-in_err-slots.ensures),
    (λ w. rw c.from_residual-in_err-slots.ensures tt),
    set_itself c.args.levels.now c.from-css.result c.in_ok-sets.sets.now c.in_ok-sets.ensures.value,
  ),
  record {
    writes_back = tt;
    value = ap option_copied_mut c.from_residual-in_err-slots.ensures
        ∙ no_slots c.args.levels.now c.args.key.now c.index_of-index.ensures.in_range c.from-css.result
        c.from-set.result c.index_of-index.result
        (c.from-css.ensures ∙ c.number.ensures.value) (c.from-set.ensures ∙ c.number-2.ensures.value)
        c.index_of-index.ensures.index
        c.in_ok-sets.sets.now c.in_ok-sets.ensures.value
        (ap option_copied_mut (sym c.in_err-slots.was) ∙ c.get_mut-2.ensures.value);
    in_range = c.index_of-index.ensures.in_range;
  },
)

pub returns : goal.returns
returns g c = (
  (
    refl,
    (λ w. lent_written c.args.levels.now c.args.key.now c.index_of-index.ensures.in_range c.from-css.result
        c.from-set.result c.index_of-index.result
        (c.from-css.ensures ∙ c.number.ensures.value) (c.from-set.ensures ∙ c.number-2.ensures.value)
        c.index_of-index.ensures.index
        c.in_ok-sets.sets.now c.in_ok-sets.ensures.value c.in_ok-slots.slots.now c.in_ok-slots.ensures.value
        c.get_mut-3.result c.get_mut-3.ensures.value w),
    lent_nothing c.args.levels.now c.args.key.now c.index_of-index.ensures.in_range c.from-css.result c.from-set.result
        c.index_of-index.result
        (c.from-css.ensures ∙ c.number.ensures.value) (c.from-set.ensures ∙ c.number-2.ensures.value)
        c.index_of-index.ensures.index
        c.in_ok-sets.sets.now c.in_ok-sets.ensures.value c.in_ok-slots.slots.now c.in_ok-slots.ensures.value,
  ),
  record {
    writes_back = tt;
    value = c.get_mut-3.ensures.value
        ∙ slot_is c.args.levels.now c.args.key.now c.index_of-index.ensures.in_range c.from-css.result c.from-set.result
        c.index_of-index.result
        (c.from-css.ensures ∙ c.number.ensures.value) (c.from-set.ensures ∙ c.number-2.ensures.value)
        c.index_of-index.ensures.index
        c.in_ok-sets.sets.now c.in_ok-sets.ensures.value c.in_ok-slots.slots.now c.in_ok-slots.ensures.value;
    in_range = c.index_of-index.ensures.in_range;
  },
)
