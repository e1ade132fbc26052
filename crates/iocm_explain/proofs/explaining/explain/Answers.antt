use Rattle.iocm_explain.proofs.Words.{named_explains, unknown_explains}
use Rattle.iocm_explain.proofs.explaining.explain.Goals as goal

pub returns-in-Some : goal.returns-in-Some
returns-in-Some c = unknown_explains c.args.words.now c.in-Some.word c.in-Some.ensures

pub returns-in-Ok : goal.returns-in-Ok
returns-in-Ok c =
    named_explains c.args.words.now (record { rules = c.in-Ok.rules }) c.in_default.ensures c.in-Ok.ensures
