-- The path is there.
use Rattle.std.proofs.Common.{◌≡◌, Some, sym, ap, ◌∙◌}
use Rattle.iocm_types.specs.declared.key.Key.TheVariants.{Path}
use Rattle.iocm_model.specs.Machine.Configuration.{lookup_of}
use Rattle.iocm_model.specs.Machine.Record.{OnlineRecord, path}
use Rattle.iocm_record.specs.Meaning.{path_of, record_of}
use Rattle.iocm_rules.specs.Onlines.{is_wrong_on}
use Rattle.iocm_rules.proofs.online.is_wrong.Goals as goal

pub returns-in-Path-clause-wrong : goal.returns-in-Path-clause-wrong
returns-in-Path-clause-wrong g c =
    let own : OnlineRecord = record { css = c.args.css; path = c.args.path; name = c.args.name } in
    let found : Some (path (path_of c.in-Path.fields.value))
    ≡ lookup_of c.args.config.now.records (Path c.args.css c.args.path) =
    ap Some (sym (ap record_of c.in-Path.is) ∙ c.body.ensures) ∙ c.in-Some.ensures.found in
    c.is_wrong_on.ensures ∙ ap (λ fields. is_wrong_on c.args.config.now.records own (Some (path (path_of fields))))
    c.deref.ensures
    ∙ ap (is_wrong_on c.args.config.now.records own) found
