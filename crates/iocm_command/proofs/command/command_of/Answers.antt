use Rattle.std.proofs.Common.{◌≡◌, ◌∙◌, Bool, List, None, Ok, [], ap, ap₂, map, subst, sym}
use Rattle.clap.specs.Words.{HasKind, Kinds, Text, app_of, subcommand_of, subcommand_rows_of}
use Rattle.iocm_statements.specs.Unread.{Refuses}
use Rattle.iocm_statements.specs.declared.unread.Unread.{Unread}
use Rattle.iocm_command.specs.CommandLine.{commanded, kinds_of, meant_by, mistakes, others, outcome, understood_in}
use Rattle.iocm_command.specs.CommandLine.{understood_of}
use Rattle.iocm_command.specs.Program.{iocm_app}
use Rattle.iocm_command.proofs.Reading.{is_accepted, is_entered, is_mistaken, is_of_kind, passed_on}
use Rattle.iocm_command.proofs.command.command_of.Goals as goal

pub returns-in_err-matches : goal.returns-in_err-matches
returns-in_err-matches g c =
    let words : List Text = map g.S.AsStr.text c.args.words.now in
    let e = c.in_err-matches.field-0.0 in
    passed_on c.from_residual-in_err-matches.result e (λ u. commanded words ≡ Ok (understood_of u))
    (HasKind (kinds_of (commanded words)))
    (is_of_kind (mistakes words) (subcommand_of iocm_app words) e
    (is_mistaken (app_of c.in_ok-iocm.iocm) words e c.in_ok-iocm.ensures c.in_err-matches.ensures.kinds))
    c.from_residual-in_err-matches.ensures

pub returns-in-Ok : goal.returns-in-Ok
returns-in-Ok g c =
    let words : List Text = map g.S.AsStr.text c.args.words.now in
    ap₂ meant_by (is_accepted (app_of c.in_ok-iocm.iocm) words c.in_ok-iocm.ensures c.in_ok-matches.ensures.kinds)
    (sym (is_entered (app_of c.in_ok-iocm.iocm) words c.in_ok-matches.matches c.in_ok-iocm.ensures
    c.in_ok-matches.ensures.ok.2))
    ∙ ap (outcome [] (subcommand_rows_of c.in_ok-matches.matches)) c.in-Ok.ensures

pub returns : goal.returns
returns g c =
    let words : List Text = map g.S.AsStr.text c.args.words.now in
    let named = subcommand_rows_of c.in_ok-matches.matches in
    let none : understood_in named ≡ None = subst (λ (why : Unread). Refuses why (understood_in named))
    c.in-Err-Malformed.field-0-is c.in-Err-Malformed.ensures in
    subst (λ (kinds : Kinds). HasKind kinds c.refusal.result)
    (sym (ap kinds_of
    (ap₂ meant_by (is_accepted (app_of c.in_ok-iocm.iocm) words c.in_ok-iocm.ensures c.in_ok-matches.ensures.kinds)
    (sym (is_entered (app_of c.in_ok-iocm.iocm) words c.in_ok-matches.matches c.in_ok-iocm.ensures
    c.in_ok-matches.ensures.ok.2))
    ∙ ap (outcome [] named) none)))
    (subst (λ (misread : Bool). HasKind (others misread) c.refusal.result) c.misread_in.ensures c.refusal.ensures)
