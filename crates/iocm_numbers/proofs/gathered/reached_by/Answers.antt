-- Equal units are reached alike.
use Rattle.std.proofs.Common.{sym, ap, ◌∙◌}
use Rattle.std.specs.Cmp.Lexicographic.{same_text}
use Rattle.iocm_model.specs.Machine.Configuration.{lookup_of}
use Rattle.iocm_numbers.specs.Opening.{reach_by}
use Rattle.iocm_numbers.proofs.gathered.reached_by.Goals as goal

pub returns-then-eq : goal.returns-then-eq
returns-then-eq g c =
    c.requires ∙ ap (reach_by (lookup_of c.args.config.now.records))
    (sym (same_text _ _ (sym (sym c.eq.ensures ∙ c.if-eq.true))))
