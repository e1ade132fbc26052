-- The steps of the loop over the operands that a statement carries.
use Rattle.std.proofs.Common.{◌≡◌, ℕ, ◌+◌, ◌<◌, true, false, List, [], ◌∷◌, ◌++◌, length, get_or, take, filter, refl}
use Rattle.std.proofs.lemmas.List.{take_more, map-append, append-nil}
use Rattle.std.proofs.lemmas.List.Elements.{filter-append}
use Rattle.iocm_statements.specs.declared.operation.Operation.{Operation}
use Rattle.iocm_statements.specs.Operands.{Operand}
use Rattle.iocm_keywords.specs.Known.{is_carried}
use Rattle.iocm_record_reader.specs.Values.{as_carried, carried_by}

-- an operand that is carried
pub one_carried : (operation : Operation) (operands : List Operand) (i : ℕ) (d : Operand) → i < length operands
    → is_carried operation (get_or operands i d) ≡ true
    → carried_by operation (take (i + 1) operands) ≡ carried_by operation (take i operands)
    ++ as_carried (get_or operands i d) ∷ []
one_carried operation operands i d within is =
    rw (
      take_more operands i d within,
      filter-append (is_carried operation) (take i operands) (get_or operands i d ∷ []),
      is,
      map-append as_carried (filter (is_carried operation) (take i operands)) (get_or operands i d ∷ []),
    ) refl

-- an operand that is known
pub one_known : (operation : Operation) (operands : List Operand) (i : ℕ) (d : Operand) → i < length operands
    → is_carried operation (get_or operands i d) ≡ false
    → carried_by operation (take (i + 1) operands) ≡ carried_by operation (take i operands)
one_known operation operands i d within is =
    rw (
      take_more operands i d within,
      filter-append (is_carried operation) (take i operands) (get_or operands i d ∷ []),
      is,
      append-nil (filter (is_carried operation) (take i operands)),
    ) refl

pub ruleset carried_steps = (one_carried, one_known)
