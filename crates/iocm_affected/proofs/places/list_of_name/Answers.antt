-- The users, each once, lead to the same places as all of them.
use Rattle.std.proofs.Common.{◌≡◌, [], ◌∷◌, ◌++◌, ap, ◌∙◌}
use Rattle.std.proofs.lemmas.Result.{on_ok_weaker}
use Rattle.iocm_affected.specs.Listing.{places_on_unit, places_on_units, users_of_name, places_of_name}
use Rattle.iocm_affected.proofs.SameKeys.{same_parts, same_behind, same_lists}
use Rattle.iocm_affected.proofs.places.list_of_name.Goals as goal

pub returns : goal.returns
returns g c =
    let here = c.args.listed.now.items in
    let slice : c.as_slice.result.now ≡ c.in_ok-users.users.items = cc in
    on_ok_weaker c.list_on_units.result
    (λ is p. same_lists _ _ (is ∙ ap (λ us. here ++ places_on_units c.args.index.now c.args.css us) slice) p
    ∙ same_behind here _ (places_of_name c.args.index.now c.args.css c.args.name)
    (same_parts (places_on_unit c.args.index.now (c.args.css ∷ [])) c.in_ok-users.users.items
    (users_of_name c.args.index.now c.args.css c.args.name) c.in_ok-users.ensures) p)
    c.list_on_units.ensures
