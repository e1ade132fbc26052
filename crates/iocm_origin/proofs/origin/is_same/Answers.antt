-- Refusals are one if their parts are.
use Rattle.std.proofs.Common.{◌≡◌, ℕ, Option, None, Some, true, rules, refl, sym, ap, ◌∙◌, eqb}
use Rattle.std.proofs.lemmas.Bool.{eqb-true, not-false}
use Rattle.std.specs.Option.{option_eq}
use denote.Enum.Bare.{same_true}
use Rattle.iocm_types.specs.contracts.rule.Rule.{the_type}
use Rattle.iocm_console.specs.declared.refusal.Refusal.{Refusal}
use Rattle.iocm_origin.proofs.origin.is_same.Goals as goal

same_node : (a b : Option ℕ) → option_eq eqb a b ≡ true → a ≡ b
same_node None None is = refl
same_node None (Some n) is = cc
same_node (Some m) None is = cc
same_node (Some m) (Some n) is = ap Some (eqb-true m n is)

pub returns : goal.returns
returns c =
    let number = same_true the_type (search rules) _ _ (not-false _ (sym c.ne.ensures ∙ c.if-ne.false)) in
    let node = same_node _ _ (not-false _ (sym c.ne-2.ensures ∙ c.if-ne-2.false)) in (
      (λ is j. record { number = number j; node = node j; about = c.is_same_about.ensures.0 is j }),
      λ same. c.is_same_about.ensures.1 (ap (λ (r : Refusal). r.about) same),
    )
