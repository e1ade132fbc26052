-- The inverse trees that are kept and told are those of the changes.
use Rattle.std.proofs.Common.{◌+◌, sym, subst}
use Rattle.iocm_model.specs.Change.InverseTree.{TakesBack}
use Rattle.iocm_runs.proofs.TakingBack.{inverses_of_changes_take_back, inverses_of_stages_take_back}
use Rattle.iocm_journal.specs.Kept.{IsKept}
use Rattle.iocm_headline.specs.KeptInverses.{KeptInversesTakeBack, ToldInversesTakeBack}

pub kept_inverses_take_back : KeptInversesTakeBack
kept_inverses_take_back opening h j fs n k f is at_k at_f =
    let it : IsKept opening h (n + 1) k f = is.kept n k f at_k at_f in record {
      change = it.change;
      there = it.there;
      takes_back = subst (λ t. TakesBack t it.change.edits it.change.from) (sym it.inverse)
          (inverses_of_changes_take_back opening h (n + 1) it.change is.used is.legal it.there);
    }

pub told_inverses_take_back : ToldInversesTakeBack
told_inverses_take_back opening h t d used legal staged tells =
    subst (λ p. TakesBack p t.change.edits t.change.from) (sym tells.inverse)
    (inverses_of_stages_take_back opening h t used legal staged)
