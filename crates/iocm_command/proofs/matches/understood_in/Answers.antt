use Rattle.std.proofs.Common.{◌∙◌, List, Option, Some, ap, subst, sym}
use Rattle.clap.specs.Words.{Row, Text}
use Rattle.clap.specs.declared.parser.matches.ArgMatches.TheViews.{out-ArgMatches}
use Rattle.iocm_statements.specs.Unread.{Refuses}
use Rattle.iocm_values.specs.Reading.{◌>>=◌}
use Rattle.iocm_command.specs.CommandLine.{Meant, command_in, meant_of, rows_in, stated_in, understood_in}
use Rattle.iocm_command.proofs.Reading.{none_used, refuses_on, used}
use Rattle.iocm_command.proofs.matches.understood_in.Goals as goal

pub returns-in-Ok : goal.returns-in-Ok
returns-in-Ok c =
    let rows = rows_in c.in-Some.found.now in
    ap understood_in (used (out-ArgMatches c.args.matches.now).subcommand c.in-Some.name.now rows c.in-Some.ensures.name
    c.in-Some.ensures.rows)
    ∙ ap (λ (o : Option Meant). o >>= λ (m : Meant). Some (stated_in rows m)) c.in-Ok.ensures
    ∙ (λ j. Some (record {
      command = meant_of c.in-Ok.command;
      form = sym c.form_in-form.ensures j;
      quiet = sym c.is_given-quiet.ensures j;
      exit_code = sym c.is_given-exit_code.ensures j;
    }))

pub returns-in-Err : goal.returns-in-Err
returns-in-Err c =
    let rows = rows_in c.in-Some.found.now in
    subst (λ (named : Option (Text × List Row)). Refuses c.in-Err.why (understood_in named))
    (sym (used (out-ArgMatches c.args.matches.now).subcommand c.in-Some.name.now rows c.in-Some.ensures.name
    c.in-Some.ensures.rows))
    (refuses_on c.in-Err.why (command_in c.in-Some.name.now rows) (λ (m : Meant). Some (stated_in rows m))
    c.in-Err.ensures)

pub returns-in-None : goal.returns-in-None
returns-in-None c = ap understood_in (none_used _ c.in-None.ensures.rows)
