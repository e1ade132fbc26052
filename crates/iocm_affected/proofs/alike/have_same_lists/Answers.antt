use Rattle.std.proofs.Common.{sym, ◌∙◌}
use Rattle.std.specs.Cmp.Lexicographic.{same_text}
use Rattle.iocm_affected.proofs.SameNames.{not_other}
use Rattle.iocm_affected.proofs.alike.have_same_lists.Goals as goal

pub returns : goal.returns
returns g c same = record {
  units = sym c.units.ensures ∙ same_text _ _ (not_other _ (sym c.ne.ensures ∙ c.if-ne.false)) ∙ c.units-2.ensures;
  candidates = sym c.candidates.ensures ∙ c.are_same_names.ensures same ∙ c.candidates-2.ensures;
}
