-- Texts of refusals, one behind the other.
use Rattle.std.proofs.Common.{◌≡◌, ◌∙◌, ℕ, ◌+◌, ◌-◌, ◌<◌, ◌≤◌, List, [], ◌∷◌, ◌++◌, length, get_or, take, drop, sym, ap}
use Rattle.std.proofs.Common.{arith}
use Rattle.std.proofs.lemmas.List.{append-nil, take_all, take_more}
use Rattle.std.proofs.lemmas.List.Concat.{flat_map-append}
use Rattle.std.specs.List.{flat_map}
use Rattle.iocm_types.specs.declared.rule.Rule.{Rule}
use Rattle.iocm_explain.specs.Explain.{told, told_below}
use Rattle.iocm_explain.specs.Printed.{entry_lines}

-- the entry of the first refusal, and those of the others below it
pub told_in_turn : (rules : List Rule) (d : Rule) → 1 ≤ length rules
    → entry_lines (get_or rules 0 d) ++ flat_map told_below (take (length rules - 1) (drop 1 rules)) ≡ told rules
told_in_turn [] d some = absurd (omega arith)
told_in_turn (rule ∷ rules) d some =
    ap (λ rest. entry_lines rule ++ flat_map told_below rest)
    (take_all (length (rule ∷ rules) - 1) rules (omega arith))

-- one text more
pub one_more : (text : Rule → List ℕ) (rules : List Rule) (i : ℕ) (d : Rule) → i < length rules
    → flat_map text (take i rules) ++ text (get_or rules i d) ≡ flat_map text (take (i + 1) rules)
one_more text rules i d within =
    sym (ap (flat_map text) (take_more rules i d within)
    ∙ flat_map-append text (take i rules) (get_or rules i d ∷ [])
    ∙ ap (λ t. flat_map text (take i rules) ++ t) (append-nil (text (get_or rules i d))))
