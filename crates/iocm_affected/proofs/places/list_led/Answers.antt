-- What is listed at a unit, at a path, and at a path that is said to be online.
use Rattle.std.proofs.Common.{◌≡◌, ℕ, List, ◌++◌, Option, sym, ap, ◌∙◌}
use Rattle.std.proofs.lemmas.Result.{on_ok_weaker}
use Rattle.std.specs.Option.{option_copied}
use Rattle.iocm_types.specs.declared.key.Key.{Key}
use Rattle.iocm_types.specs.declared.key.Key.TheVariants as key
use Rattle.iocm_types.specs.declared.naming.Naming.{Naming}
use Rattle.iocm_table.specs.Slots.{Stored}
use Rattle.iocm_model.specs.Machine.Numbering.{subsystems}
use Rattle.iocm_model.specs.Machine.Record.{Rec}
use Rattle.iocm_affected.specs.Listing.{places_on_unit, places_of_path, led_places}
use Rattle.iocm_affected.proofs.SameKeys.{same_lists}
use Rattle.iocm_affected.proofs.places.list_led.Goals as goal

module _ (t : Stored Naming (Unit {0})) (k : Key) (before after : Option Rec) where
  of_unit : (n : ℕ) → k ≡ key.Unit n → places_on_unit t subsystems k ≡ led_places t k before after
  of_unit n is = ap (places_on_unit t subsystems) is ∙ sym (ap (λ q. led_places t q before after) is)

  of_path : (css n : ℕ) → k ≡ key.Path css n → places_of_path t css k ≡ led_places t k before after
  of_path css n is = ap (places_of_path t css) is ∙ sym (ap (λ q. led_places t q before after) is)

  of_online : (css n : ℕ) (name : List ℕ) → k ≡ key.Online css n name
      → places_of_path t css (key.Path css n) ≡ led_places t k before after
  of_online css n name is = sym (ap (λ q. led_places t q before after) is)

pub returns-in-Unit : goal.returns-in-Unit
returns-in-Unit g c =
    let within : c.as_slice-in-Unit.result.now ≡ subsystems = cc in
    on_ok_weaker c.list_on_unit.result (λ is. same_lists _ _ (is ∙ ap (λ ps. c.args.listed.now.items ++ ps)
    (ap (λ w. places_on_unit c.args.index.now w c.args.key.now) within
    ∙ of_unit c.args.index.now c.args.key.now (option_copied c.args.before) (option_copied c.args.after)
    c.in-Unit.field-0 c.in-Unit.is))) c.list_on_unit.ensures

pub returns-in-Path : goal.returns-in-Path
returns-in-Path g c =
    on_ok_weaker c.list_of_path.result (λ is. same_lists _ _ (is ∙ ap (λ ps. c.args.listed.now.items ++ ps)
    (of_path c.args.index.now c.args.key.now (option_copied c.args.before) (option_copied c.args.after) c.in-Path.css
    c.in-Path.field-1 c.in-Path.is))) c.list_of_path.ensures

pub returns-in-Online : goal.returns-in-Online
returns-in-Online g c =
    on_ok_weaker c.list_of_path-in-Online.result (λ is. same_lists _ _ (is ∙ ap (λ ps. c.args.listed.now.items ++ ps)
    (of_online c.args.index.now c.args.key.now (option_copied c.args.before) (option_copied c.args.after)
    c.in-Online.css c.in-Online.path c.in-Online.field-2 c.in-Online.is)))
    c.list_of_path-in-Online.ensures
