-- Where they rise as they are, and where they are sorted first.
use Rattle.std.proofs.Common.{not, sym, ap, ◌∙◌}
use Rattle.iocm_lookup.specs.Rising.{do_rise}
use Rattle.iocm_lookup.proofs.Twins.{rising_apart, sorted_apart}
use Rattle.iocm_lookup.proofs.twice.is_any_twice.Goals as goal

pub returns-then-do_rise : goal.returns-then-do_rise
returns-then-do_rise g c =
    sym (rising_apart c.args.numbers.items
    (ap do_rise (sym c.as_slice.ensures.value) ∙ sym c.do_rise.ensures ∙ c.if-do_rise.true))

pub returns : goal.returns
returns g c = ap not (c.do_rise-2.ensures ∙ ap do_rise c.as_slice-2.ensures.value)
    ∙ sorted_apart c.args.numbers.items c.sort.new.self.items c.in_ok-sort.ensures.permutation
    c.in_ok-sort.ensures.sorted
