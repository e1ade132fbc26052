-- The steps of the search for the equal sign of an operand.
use Rattle.std.proofs.Common.{◌≡◌, ℕ, suc, ◌+◌, ◌<◌, ◌≤◌, true, false, Option, None, Some, List, length, get_or, drop}
use Rattle.std.proofs.Common.{refl, ap, arith}
use Rattle.std.proofs.Math.ListN.{drop_of_length-le}
use Rattle.std.proofs.lemmas.List.{drop_more}
use Rattle.std.specs.Option.{option_map}
use Rattle.iocm_statements.specs.declared.nesting.Nesting.{Nesting}
use Rattle.iocm_statements.specs.Nesting.{step, sets}
use Rattle.iocm_statements.specs.Operands.{equals_from}

-- so many bytes further on
unfoldable pub further : ℕ → Option ℕ → Option ℕ
further i found = option_map (λ n. i + n) found

one_further : (i : ℕ) (found : Option ℕ) → further i (option_map suc found) ≡ further (i + 1) found
unfolding further
one_further i None = refl
one_further i (Some n) = ap Some (omega arith)

-- the equal sign stands here
pub equals_here : (p : Nesting) (text : List ℕ) (i : ℕ) → i < length text → sets p (get_or text i 0) ≡ true
    → further i (equals_from p (drop i text)) ≡ Some i
unfolding equals_from further
equals_here p text i within here = rw (drop_more text i 0 within, here) (ap Some (omega arith))

-- it stands further on
pub equals_later : (p q : Nesting) (text : List ℕ) (i : ℕ) → i < length text → sets p (get_or text i 0) ≡ false
    → step p (get_or text i 0) ≡ Some q
    → further i (equals_from p (drop i text)) ≡ further (i + 1) (equals_from q (drop (i + 1) text))
unfolding equals_from further
equals_later p q text i within other next =
    rw (drop_more text i 0 within, other, next) (one_further i (equals_from q (drop (i + 1) text)))

-- there is none behind a parenthesis that closes nothing
pub equals_lost : (p : Nesting) (text : List ℕ) (i : ℕ) → i < length text → sets p (get_or text i 0) ≡ false
    → step p (get_or text i 0) ≡ None
    → further i (equals_from p (drop i text)) ≡ None
unfolding equals_from further
equals_lost p text i within other next = rw (drop_more text i 0 within, other, next) refl

-- nor at the end
pub equals_none : (p : Nesting) (text : List ℕ) (i : ℕ) → length text ≤ i
    → further i (equals_from p (drop i text)) ≡ None
unfolding equals_from further
equals_none p text i past = rw (drop_of_length-le text past) refl

pub nothing_passed : (found : Option ℕ) → further 0 found ≡ found
unfolding further
nothing_passed None = refl
nothing_passed (Some n) = ap Some (omega arith)

pub ruleset splitting = (equals_here, equals_later, equals_lost, equals_none, nothing_passed)
