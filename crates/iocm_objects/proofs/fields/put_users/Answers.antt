-- The images of both lists in order.
use Rattle.std.proofs.Common.{◌++◌, [], ◌∷◌, ℕ, List, ap, ◌∙◌}
use Rattle.std.specs.Prelude.{codes}
use Rattle.std.proofs.lemmas.Result.{IfOk-equal}
use Rattle.iocm_values.specs.NameSet.{name_set}
use Rattle.iocm_objects.specs.declared.field.Value.TheVariants as value
use Rattle.iocm_objects.specs.Carried.{field}
use Rattle.iocm_objects.proofs.fields.put_users.Goals as goal

pub returns : goal.returns
returns c =
    let both = c.in_ok-extend_from_slice.ensures.items
    ∙ (λ i. (c.in_ok-names.ensures.items ∙ c.as_slice.ensures) i ++ c.as_slice-2.ensures i) in
    IfOk-equal c.put_field.result _ _ _ c.put_field.ensures
    (ap (λ (names : List (List ℕ)). c.args.fields.now.items ++ field (codes "candidates") (value.Names names) ∷ [])
    (c.from_vec-users.ensures ∙ c.in_ok-set_of_names.ensures ∙ ap name_set both))
