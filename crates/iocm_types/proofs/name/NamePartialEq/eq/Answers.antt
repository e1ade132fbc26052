-- Names are the same where their numbers are.
use Rattle.std.proofs.Common.{◌≡◌, ℕ, nat_eq, ap, ◌∙◌, arith}
use Rattle.std.proofs.lemmas.Bool.Decides.{nat_tests}
use Rattle.std.proofs.lemmas.Map.Text.{is_eq-slice_cmp}
use Rattle.std.specs.Cmp.{ranks}
use Rattle.std.specs.Ordering.{is_eq, nat_cmp, MatchOrdering}
use Rattle.std.specs.declared.cmp.Ordering.{Ordering}
use Rattle.std.specs.declared.cmp.Ordering.TheVariants.{Less, Equal, Greater}
use Rattle.std.specs.Prelude.{◌<◌}
use Rattle.iocm_types.proofs.Numbers.{names_by_number}
use Rattle.iocm_types.proofs.name.NamePartialEq.eq.Goals as goal

-- two numbers are equal where neither is the less
by_order : (x y : ℕ) → nat_eq x y ≡ is_eq (nat_cmp x y)
by_order x y = by (nat_cmp x y) (ranks x y)
  where
    by : (r : Ordering) → MatchOrdering r (x < y) (x ≡ y) (y < x) → nat_eq x y ≡ is_eq r
    by Less less = grind (arith, nat_tests)
    by Equal same = grind (arith, nat_tests)
    by Greater more = grind (arith, nat_tests)

pub returns : goal.returns
returns c =
    (λ i. nat_eq (c.number.ensures.number i) (c.number-2.ensures.number i)) ∙ by_order _ _
    ∙ ap is_eq (names_by_number c.args.self.now c.args.other.now c.number.ensures.name c.number-2.ensures.name)
    ∙ is_eq-slice_cmp c.args.self.now c.args.other.now
