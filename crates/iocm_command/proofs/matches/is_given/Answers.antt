use Rattle.std.proofs.Common.{◌∙◌, Option, ap, codes, false}
use Rattle.std.specs.Option.{option_map_or}
use Rattle.std.specs.Str.{bytes_eq}
use Rattle.clap.specs.Words.{Text, found_of}
use Rattle.clap.proofs.WalkLemmas.{first_value-rows}
use Rattle.iocm_command.proofs.matches.is_given.Goals as goal

pub returns-in-Some : goal.returns-in-Some
returns-in-Some c = c.is_true.ensures
    ∙ ap (λ (o : Option Text). option_map_or (λ (v : Text). bytes_eq v (codes "true")) o false)
    (c.in-Some.ensures ∙ first_value-rows (found_of c.args.found.now) c.args.flag.now)

pub returns-in-None : goal.returns-in-None
returns-in-None c = ap (λ (o : Option Text). option_map_or (λ (v : Text). bytes_eq v (codes "true")) o false)
    (c.in-None.ensures ∙ first_value-rows (found_of c.args.found.now) c.args.flag.now)
