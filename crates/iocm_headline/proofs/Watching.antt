-- What a caller has seen never falls.
use Rattle.std.proofs.Common.{◌≤◌, ◌∷◌, List, [], sym, subst, arith}
use Rattle.std.proofs.Math.Nat.{le-max_left, le-max_right}
use Rattle.iocm_types.specs.declared.rule.Rule.{Rule}
use Rattle.iocm_types.specs.declared.rule.Rule.TheVariants as rules
use Rattle.iocm_system.specs.Backs.{IsBack}
use Rattle.iocm_system.specs.Sights.{Sight}
use Rattle.iocm_headline.specs.Watching.{GoesOn, GoesAlong, looks, calls, gets_back, lends, begins, joins, is_joined}

back_later : (why : Rule) (old new : Sight) → IsBack why old new → old.seen ≤ new.seen
back_later rules.O3 old new back = subst (λ (s : Sight). old.seen ≤ s.seen) (sym back.1) back.0
back_later rules.X1 old new back = subst (λ (s : Sight). old.seen ≤ s.seen) (sym back) (omega arith)
back_later _ old new back = absurd back

goes_later : (old new : Sight) → GoesOn old new → old.seen ≤ new.seen
goes_later old new (looks count later is) = subst (λ (s : Sight). old.seen ≤ s.seen) (sym is) later
goes_later old new (calls x r made) =
    let later = made.later in
    subst (λ (s : Sight). old.seen ≤ s.seen) (sym made.receipt) (omega (arith, later))
goes_later old new (gets_back x b back) = back_later b.rule old new back.why
goes_later old new (lends is) = subst (λ (s : Sight). old.seen ≤ s.seen) (sym is) (omega arith)
goes_later old new (begins is) = subst (λ (s : Sight). old.seen ≤ s.seen) (sym is) (omega arith)
goes_later old new (joins other is) =
    subst (λ (s : Sight). old.seen ≤ s.seen) (sym is) (le-max_left old.seen other.seen)
goes_later old new (is_joined other is) =
    subst (λ (s : Sight). old.seen ≤ s.seen) (sym is) (le-max_right other.seen old.seen)

pub never_falls : (old : Sight) (sights : List Sight) (new : Sight) → GoesAlong old sights new → old.seen ≤ new.seen
never_falls old [] new goes = goes_later old new goes
never_falls old (s ∷ sights) new goes =
    let first = goes_later old s goes.0 in
    let rest = never_falls s sights new goes.1 in
    omega (arith, first, rest)
