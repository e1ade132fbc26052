use Rattle.std.proofs.Common.{Some, sym, ap, ◌∙◌}
use Rattle.std.specs.Cmp.Lexicographic.{same_text}
use Rattle.std.specs.Option.{option_copied}
use Rattle.iocm_device_rules.proofs.alike.are_on_same_units.Goals as goal

pub returns-in-Some-Some : goal.returns-in-Some-Some
returns-in-Some-Some g c are = record {
  units = c.in-Some-Some.others.now;
  first = sym c.units_on.ensures ∙ ap option_copied c.in-Some-Some.is-0
      ∙ ap Some (same_text _ _ (sym (sym c.eq.ensures ∙ are)));
  second = sym c.units_on-2.ensures ∙ ap option_copied c.in-Some-Some.is-1;
}
