-- A round's operators ask for as many calls as they have lines.
use Rattle.std.proofs.Common.{◌≡◌, ◌≤◌, ◌+◌, ℕ, suc, List, [], ◌∷◌, length, cond, refl, sym, ap, ◌∙◌, arith}
use Rattle.std.proofs.lemmas.List.{length-map}
use Rattle.std.proofs.lemmas.List.Sums.{sum_by-cons}
use Rattle.iocm_core.specs.Calls.{call_in}
use Rattle.iocm_model.specs.Change.Tree.{ChangeTree}
use Rattle.iocm_rounds.specs.declared.round.Round.{Round}
use Rattle.iocm_script.specs.Lines.{is_operators_said}
use Rattle.iocm_script.specs.Scripts.{FitsQueue, operator_lines}
use Rattle.iocm_script.specs.declared.line.Line.{Line}
use Rattle.iocm_script.specs.declared.said.Said.TheVariants.{Image, Operator}
use Rattle.iocm_script.specs.declared.said.ImageThread.TheVariants as images
use Rattle.iocm_script.specs.declared.said.OperatorThread.TheVariants as operators
use Rattle.iocm_script.specs.declared.said.Said.{Said}
use Rattle.iocm_operation.specs.Asked.{AreAsked, calls_by}
use Rattle.iocm_operation.specs.Saying.{call_said, lines_of}

abbrev counted : Line → ℕ
counted l = cond (is_operators_said l.said) 1 0

one_first : (p q all : ℕ) → p + q ≡ all → suc p + q ≡ 1 + all
one_first p q all e = omega (arith, e)

one_second : (p q all : ℕ) → p + q ≡ all → p + suc q ≡ 1 + all
one_second p q all e = omega (arith, e)

none_more : {n : ℕ} → (all : ℕ) → n ≡ all → n ≡ 0 + all
none_more all e = omega (arith, e)

as_many : (ls : List Line) → length (lines_of 0 ls) + length (lines_of 1 ls) ≡ operator_lines ls
as_many [] = refl
as_many (l ∷ ls) = by l.said (as_many ls)
  where
    by : (s : Said) → length (lines_of 0 ls) + length (lines_of 1 ls) ≡ operator_lines ls
        → length (lines_of 0 (record { line = l.line; said = s } ∷ ls))
        + length (lines_of 1 (record { line = l.line; said = s } ∷ ls))
        ≡ operator_lines (record { line = l.line; said = s } ∷ ls)
    by (Operator operators.P c) e =
        one_first (length (lines_of 0 ls)) (length (lines_of 1 ls)) (operator_lines ls) e
        ∙ sym (sum_by-cons counted (record { line = l.line; said = Operator operators.P c }) ls)
    by (Operator operators.Q c) e =
        one_second (length (lines_of 0 ls)) (length (lines_of 1 ls)) (operator_lines ls) e
        ∙ sym (sum_by-cons counted (record { line = l.line; said = Operator operators.Q c }) ls)
    by (Image images.A c) e =
        none_more (operator_lines ls) e
        ∙ sym (sum_by-cons counted (record { line = l.line; said = Image images.A c }) ls)
    by (Image images.B c) e =
        none_more (operator_lines ls) e
        ∙ sym (sum_by-cons counted (record { line = l.line; said = Image images.B c }) ls)

calls_by_lines : (ts : List ChangeTree) (ls : List Line) (r : Round) (n : ℕ) → AreAsked ts ls r
    → length (calls_by n r) ≡ length (lines_of n ls)
calls_by_lines ts ls r n asked =
    sym (length-map (calls_by n r) call_in) ∙ ap length (asked n)
    ∙ length-map (lines_of n ls) (λ (l : Line). call_said ts l.said)

pub few_calls : (ts : List ChangeTree) (ls : List Line) (r : Round) → AreAsked ts ls r → FitsQueue ls
    → length r.p.items + length r.q.items ≤ 14
few_calls ts ls r asked fits =
    omega (arith, calls_by_lines ts ls r 0 asked, calls_by_lines ts ls r 1 asked, as_many ls, fits)
