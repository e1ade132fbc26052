use Rattle.std.proofs.Common.{◌∙◌, Option, ap, codes, false}
use Rattle.std.specs.Option.{option_map_or}
use Rattle.std.specs.Prelude.{is_none}
use Rattle.clap.specs.Words.{Text, found_of}
use Rattle.clap.proofs.WalkLemmas.{first_value-rows}
use Rattle.iocm_command.specs.CommandLine.{listed_by}
use Rattle.iocm_command.proofs.matches.is_misread_kind.Goals as goal

pub returns-in-Some : goal.returns-in-Some
returns-in-Some c = c.is_no_kind.ensures
    ∙ ap (λ (o : Option Text). option_map_or (λ (s : Text). is_none (listed_by s)) o false)
    (c.in-Some.ensures ∙ first_value-rows (found_of c.args.found.now) (codes "KIND"))

pub returns-in-None : goal.returns-in-None
returns-in-None c = ap (λ (o : Option Text). option_map_or (λ (s : Text). is_none (listed_by s)) o false)
    (c.in-None.ensures ∙ first_value-rows (found_of c.args.found.now) (codes "KIND"))
