-- The greatest of some numbers.
use Rattle.std.proofs.Common.{◌≡◌, ℕ, ◌≤◌, max, true, false, eqb, List, [], ◌∷◌, Some, None, refl, sym, ap, ◌∙◌, arith}
use Rattle.std.proofs.lemmas.Bool.{or_left, eq-eqb}
use Rattle.std.specs.List.{fold}
use Rattle.iocm_history.specs.Journal.{is_in}
use Rattle.iocm_history.specs.StandsOn.{greatest}
use Rattle.iocm_history.specs.UndoLaws.{IsGreatestOf}
use Rattle.iocm_history.proofs.Latest.{greatest_bounds}
use Rattle.iocm_history.proofs.Refusing.{greatest_among}
use Rattle.iocm_history.specs.JournalLaws.{TheGreatestIsFound}

-- a number that is among some, and that none of them exceeds, is the greatest
pub greatest_is : (ns : List ℕ) (k : ℕ) → IsGreatestOf k ns → greatest ns ≡ Some k
greatest_is [] k is = let no = is.among in cc
greatest_is (m ∷ ms) k is =
    let low : fold max m ms ≤ k = is.bounds (fold max m ms) (greatest_among (m ∷ ms) (fold max m ms) refl) in
    let high : k ≤ fold max m ms = greatest_bounds (m ∷ ms) (fold max m ms) k refl is.among in
    let same : fold max m ms ≡ k = omega arith in
    ap Some same

-- where none is among some, there is none
pub greatest_of_none : (ns : List ℕ) → ((k : ℕ) → is_in k ns ≡ false) → greatest ns ≡ None
greatest_of_none [] none = refl
greatest_of_none (m ∷ ms) none = let here : is_in m (m ∷ ms) ≡ true = or_left (eqb m m) _ (eq-eqb m m refl) in
    let no : true ≡ false = sym here ∙ none m in cc

pub the_greatest_is_found : TheGreatestIsFound
the_greatest_is_found ns = (greatest_is ns, greatest_of_none ns)
