use Rattle.std.proofs.Common.{Some, sym, ap, ◌∙◌}
use Rattle.std.specs.Option.{option_copied}
use Rattle.iocm_affected.proofs.SameNames.{same_names}
use Rattle.iocm_affected.proofs.alike.are_same_names.Goals as goal

pub returns-in-Some-Some : goal.returns-in-Some-Some
returns-in-Some-Some g c are = ap option_copied c.in-Some-Some.is-0
    ∙ ap Some (sym c.as_slice.ensures ∙ same_names _ _ (sym (sym c.eq.ensures ∙ are)) ∙ c.as_slice-in-Some-Some.ensures)
    ∙ sym (ap option_copied c.in-Some-Some.is-1)
