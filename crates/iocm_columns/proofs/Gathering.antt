-- The statement cards of a text, line by line: what was gathered, with what the rest gives, is what
-- all gives.
use Rattle.std.proofs.Common.{◌≡◌, ℕ, ◌+◌, true, false, List, [], ◌∷◌, ◌++◌, Result, Ok, Err, refl, sym, ap}
use Rattle.std.proofs.Common.{◌∙◌}
use Rattle.std.proofs.lemmas.List.{append-nil, append_assoc}
use Rattle.iocm_types.specs.declared.fault.Fault.{Fault}
use Rattle.iocm_types.specs.Each.{each}
use Rattle.iocm_types.specs.Fault.{◌>>=◌}
use Rattle.iocm_columns.specs.declared.card.Card.{Card}
use Rattle.iocm_columns.specs.declared.statement_card.StatementCard.{StatementCard}
use Rattle.iocm_columns.specs.Cards.{card_of}
use Rattle.iocm_columns.specs.Columns.{is_skipped}
use Rattle.iocm_columns.specs.StatementCards.{statement_card, statement_cards}

-- what was gathered, with the statement cards of these cards behind it
abbrev pub with_rows : List StatementCard → Result (List Card) Fault → Result (List StatementCard) Fault
with_rows found rest = rest >>= λ cards. Ok (found ++ statement_cards cards)

kept : (found : List StatementCard) (card : Card) (rest : Result (List Card) Fault)
    → is_skipped (statement_card card).columns ≡ false
    → with_rows found (rest >>= λ cards. Ok (card ∷ cards)) ≡ with_rows (found ++ statement_card card ∷ []) rest
kept found card (Ok cards) is =
    rw is (ap Ok (sym (append_assoc found (statement_card card ∷ []) (statement_cards cards))))
kept found card (Err fault) is = refl

skipped : (found : List StatementCard) (card : Card) (rest : Result (List Card) Fault)
    → is_skipped (statement_card card).columns ≡ true
    → with_rows found (rest >>= λ cards. Ok (card ∷ cards)) ≡ with_rows found rest
skipped found card (Ok cards) is = rw is refl
skipped found card (Err fault) is = refl

-- a line that is no comment and not blank goes to what was gathered
pub line_kept : (found : List StatementCard) (n : ℕ) (lines : List (List ℕ)) (line : List ℕ) (more : List (List ℕ))
    (card : Card) (row : StatementCard)
    → lines ≡ line ∷ more → card_of n line ≡ Ok card → row ≡ statement_card card → is_skipped row.columns ≡ false
    → with_rows found (each card_of n lines) ≡ with_rows (found ++ row ∷ []) (each card_of (n + 1) more)
unfolding each
line_kept found n lines line more card row are read made is =
    rw (are, read, made) (kept found card (each card_of (n + 1) more) (ap (λ (r : StatementCard). is_skipped r.columns) (sym made) ∙ is))

-- another line that is read gives nothing
pub line_skipped : (found : List StatementCard) (n : ℕ) (lines : List (List ℕ)) (line : List ℕ)
    (more : List (List ℕ)) (card : Card) (row : StatementCard)
    → lines ≡ line ∷ more → card_of n line ≡ Ok card → row ≡ statement_card card → is_skipped row.columns ≡ true
    → with_rows found (each card_of n lines) ≡ with_rows found (each card_of (n + 1) more)
unfolding each
line_skipped found n lines line more card row are read made is =
    rw (are, read) (skipped found card (each card_of (n + 1) more) (ap (λ (r : StatementCard). is_skipped r.columns) (sym made) ∙ is))

-- a line that is refused is the answer
pub line_refused : (found : List StatementCard) (n : ℕ) (lines : List (List ℕ)) (line : List ℕ)
    (more : List (List ℕ)) (fault : Fault) (whole : Result (List StatementCard) Fault)
    → lines ≡ line ∷ more → Err fault ≡ card_of n line → with_rows found (each card_of n lines) ≡ whole
    → whole ≡ Err fault
unfolding each
line_refused found n lines line more fault whole are read all = sym (rw (are, ← read) at all)

-- no line is left, and what was gathered is the answer
pub no_line_left : (found : List StatementCard) (n : ℕ) (lines : List (List ℕ)) → lines ≡ []
    → with_rows found (each card_of n lines) ≡ Ok found
unfolding each
no_line_left found n lines are = rw (are, append-nil found) refl

pub ruleset gathering = (line_kept, line_skipped, line_refused, no_line_left)
