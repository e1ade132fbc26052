use Rattle.std.proofs.Common.{◌∙◌, List, Option, [], ap, unwrap_or}
use Rattle.clap.specs.Walk.{texts}
use Rattle.clap.specs.Words.{Text, found_of}
use Rattle.clap.proofs.WalkLemmas.{raw_values-rows}
use Rattle.iocm_command.proofs.matches.all_of.Goals as goal

pub returns : goal.returns
returns c = ap (λ (o : Option (List Text)). unwrap_or o [])
    (c.in-Some.ensures ∙ raw_values-rows (found_of c.args.found.now) c.args.argument.now)

pub returns-in_default : goal.returns-in_default
returns-in_default c = ap texts c.default.ensures
    ∙ ap (λ (o : Option (List Text)). unwrap_or o [])
    (c.in_default.ensures ∙ raw_values-rows (found_of c.args.found.now) c.args.argument.now)
