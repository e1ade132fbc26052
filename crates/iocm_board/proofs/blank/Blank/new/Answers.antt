use Rattle.std.proofs.Common.{[], ◌∷◌, sym, subst}
use Rattle.iocm_board.specs.Rule.{Kept}
use Rattle.iocm_board.specs.Views.{first_view}
use Rattle.iocm_board.proofs.Opens.{opens}
use Rattle.iocm_board.proofs.blank.Blank.new.Goals as goal

pub of_words-requires : goal.of_words-requires
of_words-requires c =
    let run = c.args.core.now in
    subst (λ n. Kept run (n ∷ []) (first_view run ∷ [])) (sym c.len.ensures.len) (opens run)
