-- What the statements of a deck are, as a relation to all of its cards: their texts are slices of
-- the cards' columns.
use Rattle.std.specs.Prelude.{◌≡◌, ◌⊎◌, ⊤, ℕ, ◌==◌, true, false, IsTrue, List, [], ◌∷◌, ◌++◌, length}
use Rattle.std.specs.List.{concat}
use Rattle.iocm_columns.specs.declared.going.Going.{Going}
use Rattle.iocm_columns.specs.declared.going.Going.TheVariants.{Exactly, AtNext, Ended}
use Rattle.iocm_columns.specs.declared.joined.Joined.{Joined}
use Rattle.iocm_columns.specs.declared.statement_card.StatementCard.{StatementCard}
use Rattle.iocm_columns.specs.Columns.{after_blanks, behind_operation, continuation_area}
use Rattle.iocm_columns.specs.Columns.{has_margin, is_continued, name_of, operation_of}
use Rattle.iocm_columns.specs.Part.{is_quoting, going_of}

-- a slice at the front of some columns, behind a text: each blank in it is inside quotes, and it
-- stops where the columns end or at a blank outside quotes
pub record IsFront (text columns slice : List ℕ) : Type 0 where
  pub rest : List ℕ
  pub whole : columns ≡ slice ++ rest
  pub inside : (before after : List ℕ) → slice ≡ before ++ 32 ∷ after → IsTrue (is_quoting (text ++ before))
  pub stops : (rest ≡ []) ⊎ ((more : List ℕ) × (rest ≡ 32 ∷ more) × (is_quoting (text ++ slice) ≡ false))

-- how a text goes on behind a slice of some columns, which ran through if it is all of them
abbrev pub going_behind : List ℕ → List ℕ → List ℕ → Going
going_behind text columns slice = going_of (text ++ slice) (length slice == length columns)

-- one slice for each continuation, behind the text so far: at the front of columns 16 to 71, or of
-- what follows the blanks there, or empty where the continuation is remark
abbrev pub AreSlices : List ℕ → Going → List StatementCard → List (List ℕ) → Type 0
AreSlices text going [] [] = ⊤
AreSlices text going [] (s ∷ ss) = ⊥
AreSlices text going (r ∷ rs) [] = ⊥
AreSlices text Exactly (r ∷ rs) (s ∷ ss) =
    let columns = continuation_area r.columns in
    IsFront text columns s × AreSlices (text ++ s) (going_behind text columns s) rs ss
AreSlices text AtNext (r ∷ rs) (s ∷ ss) =
    let columns = after_blanks (continuation_area r.columns) in
    IsFront text columns s × AreSlices (text ++ s) (going_behind text columns s) rs ss
AreSlices text Ended (r ∷ rs) (s ∷ ss) = (s ≡ []) × AreSlices text Ended rs ss

-- one slice for each card of a statement: the first one at the front of the columns behind the
-- operation
abbrev pub AreSlicesOf : StatementCard → List StatementCard → List (List ℕ) → Type 0
AreSlicesOf r rs [] = ⊥
AreSlicesOf r rs (s ∷ ss) =
    let columns = behind_operation r.columns in
    IsFront [] columns s × AreSlices s (going_behind [] columns s) rs ss

-- a card with exactly its continuations behind it: each but the last one is continued, by one with
-- blank columns 1 to 15
abbrev pub IsContinuedBy : StatementCard → List StatementCard → Type 0
IsContinuedBy r [] = is_continued r.columns ≡ false
IsContinuedBy r (c ∷ cs) = (is_continued r.columns ≡ true) × (has_margin c.columns ≡ true) × IsContinuedBy c cs

-- a statement of a card and its continuations: name and operation stand in the card, the text is
-- slices of all of them
pub record IsStatementOf (r : StatementCard) (rs : List StatementCard) (joined : Joined) : Type 0 where
  pub line : joined.line ≡ r.line
  pub name : joined.name ≡ name_of r.columns
  pub operation : joined.operation ≡ operation_of r.columns
  pub slices : List (List ℕ)
  pub in_columns : AreSlicesOf r rs slices
  pub text : joined.text ≡ concat slices

-- the statements of some cards, which stand one after the other in all of them
abbrev pub AreStatementsOf : List StatementCard → List Joined → Type 0
AreStatementsOf rs [] = rs ≡ []
AreStatementsOf rs (joined ∷ others) =
    (first : StatementCard) × (more : List StatementCard) × (rest : List StatementCard)
    × (rs ≡ first ∷ (more ++ rest)) × IsContinuedBy first more
    × IsStatementOf first more joined × AreStatementsOf rest others
