-- Lines that are cards of statements: none is refused, and none is skipped.
use Rattle.std.proofs.Common.{◌≡◌, ◌∙◌, ◌+◌, ◌≤◌, ◌++◌, ℕ, false, not, cond, List, [], ◌∷◌, length, refl, ap, arith, Ok}
use Rattle.std.specs.Prelude.{⊤}
use Rattle.std.proofs.lemmas.Bool.{le-ltb}
use Rattle.iocm_types.specs.Each.{each}
use Rattle.iocm_columns.specs.declared.card.Card.{Card}
use Rattle.iocm_columns.specs.declared.statement_card.StatementCard.{StatementCard}
use Rattle.iocm_columns.specs.Cards.{card_of}
use Rattle.iocm_columns.specs.Columns.{columns_of, is_skipped}
use Rattle.iocm_columns.specs.StatementCards.{statement_cards}
use Rattle.iocm_columns.proofs.WrittenLines.{ArePrintable}

-- a line of a statement
pub record IsLine (line : List ℕ) : Type 0 where
  pub printable : ArePrintable line
  pub short : length line ≤ 72
  pub kept : is_skipped (columns_of line) ≡ false

abbrev pub AreLines : List (List ℕ) → Type 0
AreLines [] = ⊤
AreLines (line ∷ more) = IsLine line × AreLines more

-- the cards of some lines, counted from n
abbrev pub cards_from : ℕ → List (List ℕ) → List Card
cards_from n [] = []
cards_from n (line ∷ more) = record { line = n; bytes = line } ∷ cards_from (n + 1) more

-- the statement cards of some lines, counted from n
abbrev pub rows_from : ℕ → List (List ℕ) → List StatementCard
rows_from n [] = []
rows_from n (line ∷ more) = record { line = n; columns = columns_of line } ∷ rows_from (n + 1) more

-- no line is refused
pub lines_are_read : (n : ℕ) (lines : List (List ℕ)) → AreLines lines → each card_of n lines ≡ Ok (cards_from n lines)
unfolding each
lines_are_read n [] are = refl
lines_are_read n (line ∷ more) are =
    let first : card_of n line ≡ Ok (record { line = n; bytes = line }) =
    rw (are.0.printable, le-ltb 80 (length line) (omega (arith, are.0.short))) refl in
    rw (first, lines_are_read (n + 1) more are.1) refl

-- and none is skipped
pub lines_are_kept : (n : ℕ) (lines : List (List ℕ)) → AreLines lines
    → statement_cards (cards_from n lines) ≡ rows_from n lines
lines_are_kept n [] are = refl
lines_are_kept n (line ∷ more) are =
    let row : StatementCard = record { line = n; columns = columns_of line } in
    ap (λ e. cond (not e) (row ∷ statement_cards (cards_from (n + 1) more)) (statement_cards (cards_from (n + 1) more)))
    are.0.kept
    ∙ ap (λ l. row ∷ l) (lines_are_kept (n + 1) more are.1)

pub lines_together : (one other : List (List ℕ)) → AreLines one → AreLines other → AreLines (one ++ other)
lines_together [] other are more = more
lines_together (line ∷ one) other are more = (are.0, lines_together one other are.1 more)

pub rows_together : (n : ℕ) (one other : List (List ℕ))
    → rows_from n (one ++ other) ≡ rows_from n one ++ rows_from (n + length one) other
rows_together n [] other = ap (λ m. rows_from m other) (let same : n ≡ n + 0 = omega arith in same)
rows_together n (line ∷ one) other =
    let same : (n + 1) + length one ≡ n + length (line ∷ one) = omega arith in
    ap (λ l. record { line = n; columns = columns_of line } ∷ l)
    (rows_together (n + 1) one other ∙ ap (λ m. rows_from (n + 1) one ++ rows_from m other) same)
