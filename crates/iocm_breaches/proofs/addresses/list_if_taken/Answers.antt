-- The addresses of a device are on its units.
use Rattle.std.proofs.Common.{◌≡◌, Bool, ◌++◌, ◌∷◌, [], subst, sym, ap, ◌∙◌}
use Rattle.std.specs.List.{list_any}
use Rattle.std.specs.Result.{OnOk}
use Rattle.iocm_types.specs.declared.rule.Rule.TheVariants.{V10}
use Rattle.iocm_model.specs.Machine.Record.{Rec}
use Rattle.iocm_record.specs.Meaning.{record_of}
use Rattle.iocm_device_rules.specs.OnUnits.{number_on}
use Rattle.iocm_breaches.specs.Addresses.{is_met, meets}
use Rattle.iocm_breaches.specs.Breaches.{breaches_of_rule}
use Rattle.iocm_breaches.proofs.Anys.{any_map}
use Rattle.iocm_breaches.proofs.addresses.list_if_taken.Goals as goal

pub returns-in_ok-meet_all-in-Device-clause-listed : goal.returns-in_ok-meet_all-in-Device-clause-listed
returns-in_ok-meet_all-in-Device-clause-listed g c =
    let met = is_met c.args.met.now in
    let on = number_on c.in-Device.fields.unit_address in
    let is : c.is_any_met-is_taken.result ≡ meets met c.args.entry.now = c.is_any_met-is_taken.ensures
    ∙ ap (list_any (λ unit. met (on unit))) c.units-units.ensures ∙ sym (any_map met on c.in-Device.fields.lists.units)
    ∙ ap (meets met) (ap record_of (sym c.in-Device.is) ∙ c.body.ensures) in
    subst (λ (b : Bool). OnOk c.list_if.result (c.list_if.new.breaches.items ≡ c.args.breaches.now.items
    ++ breaches_of_rule V10 (λ (r : Rec). b) (c.args.entry.now ∷ []))) is c.list_if.ensures
