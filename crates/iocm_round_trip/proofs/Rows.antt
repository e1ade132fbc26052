-- Known operands as rows: a keyword and the text under it, or no text where the operand is left
-- out.
use Rattle.std.proofs.Common.{◌≡◌, ℕ, Bool, true, false, cond, Option, Some, None, List, [], ◌∷◌, ◌++◌, All, refl, sym}
use Rattle.std.proofs.Common.{ap, ◌∙◌, subst}
use Rattle.std.specs.Prelude.{IfSome}
use Rattle.std.specs.Option.{option_or}
use Rattle.std.specs.List.{flat_map}
use Rattle.std.specs.Str.{bytes_eq}
use Rattle.std.proofs.lemmas.List.Elements.{All-nil, All-cons}
use Rattle.iocm_model.specs.Machine.Record.{CarriedOperand}
use Rattle.iocm_statements.specs.declared.operation.Operation.{Operation}
use Rattle.iocm_statements.specs.Operands.{text_under}
use Rattle.iocm_deck_writer.specs.Again.{placed}
use Rattle.iocm_deck_writer.specs.Statement.{valued}
use Rattle.iocm_round_trip.proofs.Looked.{Knows, IsUnknown, IsTaken, IsTakenText, text_of, text_found}

-- ---- the text under a keyword

-- a keyword and the text under it, if there is one
abbrev pub ValueRow : Type 0
ValueRow = List ℕ × Option (List ℕ)

abbrev pub operands_in : List ValueRow → List CarriedOperand
operands_in rows = flat_map (λ row. valued row.0 row.1) rows

-- what stands under a keyword
abbrev pub text_in : List ℕ → List ValueRow → Option (List ℕ)
text_in keyword [] = None
text_in keyword (row ∷ rows) = option_or (cond (bytes_eq row.0 keyword) row.1 None) (text_in keyword rows)

pub text_in_rows : (keyword : List ℕ) (rows : List ValueRow) → text_of keyword (operands_in rows) ≡ text_in keyword rows
text_in_rows keyword [] = refl
text_in_rows keyword (row ∷ rows) = by row.1 (bytes_eq row.0 keyword) refl (text_in_rows keyword rows)
  where
    by : (text : Option (List ℕ)) (b : Bool) → bytes_eq row.0 keyword ≡ b
        → text_of keyword (operands_in rows) ≡ text_in keyword rows
        → text_of keyword (valued row.0 text ++ operands_in rows) ≡ option_or (cond b text None) (text_in keyword rows)
    by None true e rest = rest
    by None false e rest = rest
    by (Some text) true e rest = ap (λ b. cond b (Some text) (text_of keyword (operands_in rows))) e
    by (Some text) false e rest = ap (λ b. cond b (Some text) (text_of keyword (operands_in rows))) e ∙ rest

-- ---- operands that are taken

-- what stands in a row, if anything does, is taken
abbrev pub IsTakenRow : Operation → ValueRow → Type 0
IsTakenRow operation row = IfSome row.1 (IsTakenText operation row.0)

abbrev pub AreTakenRows : Operation → List ValueRow → Type 0
AreTakenRows operation [] = Unit {0}
AreTakenRows operation (row ∷ rows) = IsTakenRow operation row × AreTakenRows operation rows

row_taken : (operation : Operation) (keyword : List ℕ) (text : Option (List ℕ)) (rest : List CarriedOperand)
    → IsTakenRow operation (keyword, text) → All (IsTaken operation) rest
    → All (IsTaken operation) (valued keyword text ++ rest)
row_taken operation keyword None rest first others = others
row_taken operation keyword (Some text) rest first others =
    All-cons (IsTaken operation) (record { keyword = Some keyword; text = text }) rest first others

rows_taken : (operation : Operation) (rows : List ValueRow) → AreTakenRows operation rows
    → All (IsTaken operation) (operands_in rows)
rows_taken operation [] taken = All-nil (IsTaken operation)
rows_taken operation (row ∷ rows) taken =
    row_taken operation row.0 row.1 (operands_in rows) taken.0 (rows_taken operation rows taken.1)

-- ---- a statement

-- known operands that are these rows, and what is carried behind them
module _ (operation : Operation) (rows : List ValueRow) (known : List CarriedOperand)
    (same : known ≡ operands_in rows) where
  pub known_taken : AreTakenRows operation rows → All (IsTaken operation) known
  known_taken taken = subst (All (IsTaken operation)) (sym same) (rows_taken operation rows taken)

  pub text_read : (carried : List CarriedOperand) → All (IsUnknown operation) carried → (keyword : List ℕ)
      → Knows operation keyword
      → text_under keyword (placed 0 (known ++ carried)) ≡ text_in keyword rows
  text_read carried unknown keyword knows =
      text_found operation known carried unknown keyword knows ∙ ap (text_of keyword) same ∙ text_in_rows keyword rows
