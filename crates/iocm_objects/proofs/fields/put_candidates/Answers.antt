-- The candidates that are listed.
use Rattle.std.proofs.Common.{◌++◌, [], ◌∷◌, ℕ, List, ap, sym, ◌∙◌}
use Rattle.std.specs.Option.{option_copied}
use Rattle.std.specs.Prelude.{codes}
use Rattle.std.proofs.lemmas.Result.{IfOk-equal}
use Rattle.iocm_objects.specs.declared.field.Value.TheVariants as value
use Rattle.iocm_objects.specs.Carried.{field}
use Rattle.iocm_objects.specs.Fields.{candidate_fields}
use Rattle.iocm_objects.proofs.fields.put_candidates.Goals as goal

pub returns-in_ok-names-in-Some : goal.returns-in_ok-names-in-Some
returns-in_ok-names-in-Some c =
    IfOk-equal c.put_field.result _ _ _ c.put_field.ensures
    (ap (λ (names : List (List ℕ)). c.args.fields.now.items ++ field (codes "PARTITION") (value.Candidates names) ∷ [])
    c.in_ok-names-in-Some.ensures
    ∙ ap (λ o. c.args.fields.now.items ++ candidate_fields (option_copied o)) (sym c.in-Some.is))
