-- The text of each statement of a deck is printable, and each blank in it is inside quotes.
use Rattle.std.proofs.Common.{◌≡◌, ◌≢◌, ℕ, ◌-◌, not, nat_lt, Bool, true, false, cond, Option, None, Some, List, [], ◌∷◌}
use Rattle.std.proofs.Common.{◌++◌, All, map, fold, take, drop, length, replicate, Ok, Err, refl, sym, ap, ◌∙◌, subst}
use Rattle.std.proofs.lemmas.List.Elements.{All-nil, All-cons, All-head, All-tail, All-append, All-map, All-filter}
use Rattle.std.proofs.lemmas.List.Elements.{All-take, All-drop, All-replicate}
use Rattle.std.proofs.lemmas.List.Sums.{fold-append, AllPass-from_list_all, list_all-from_AllPass}
use Rattle.std.specs.List.{list_all}
use Rattle.std.specs.Result.{IfOk}
use Rattle.std.specs.Str.Lines.{lines}
use Rattle.iocm_types.specs.declared.fault.Fault.{Fault}
use Rattle.iocm_types.specs.declared.rule.Rule.TheVariants.{L1, L2}
use Rattle.iocm_types.specs.Fault.{at}
use Rattle.iocm_types.proofs.Giving.{in_turn, each_gives}
use Rattle.iocm_columns.specs.declared.card.Card.{Card}
use Rattle.iocm_columns.specs.declared.going.Going.{Going}
use Rattle.iocm_columns.specs.declared.going.Going.TheVariants.{Exactly, AtNext, Ended}
use Rattle.iocm_columns.specs.declared.joined.Joined.{Joined}
use Rattle.iocm_columns.specs.declared.statement_card.StatementCard.{StatementCard}
use Rattle.iocm_columns.specs.Cards.{is_printable, card_of, cards_of}
use Rattle.iocm_columns.specs.Columns.{after_blanks, after_word, behind_name, behind_operation, columns_of}
use Rattle.iocm_columns.specs.Columns.{continuation_area, is_continued, is_skipped, statement_area}
use Rattle.iocm_columns.specs.Part.{Part, continued, front, is_quoting, part_after, switched}
use Rattle.iocm_columns.specs.StatementCards.{first_continuation_fault, statement_card, statement_cards}
use Rattle.iocm_columns.specs.Statements.{groups, joined_of, onto_group, statement_of, statements_of, unless_fault}
use Rattle.iocm_columns.specs.Statements.{with_continuation}
use Rattle.iocm_columns.proofs.Slicing.{front_found}
use Rattle.iocm_columns.proofs.WrittenLines.{ArePrintable, both_printable, printable_parts}
use Rattle.iocm_columns.proofs.WrittenTexts.{AreInside}

-- ---- blanks inside quotes

-- each blank is inside quotes, in a text that begins inside or outside
abbrev pub IsInside : Bool → List ℕ → Type 0
IsInside inside text = (before after : List ℕ) → text ≡ before ++ 32 ∷ after → fold switched inside before ≡ true

pub no_blank : (before after : List ℕ) → [] ≢ before ++ 32 ∷ after
no_blank [] after = λ e. cc
no_blank (y ∷ before) after = λ e. cc

-- blanks of a text behind another are inside quotes where they are so behind the quotes of the
-- first
pub inside_both : (inside : Bool) (a b : List ℕ) → IsInside inside a → IsInside (fold switched inside a) b
    → IsInside inside (a ++ b)
inside_both inside [] b first second = second
inside_both inside (x ∷ a) b first second =
    by (inside_both (switched inside x) a b (λ c d h. first (x ∷ c) d (ap (λ t. x ∷ t) h)) second)
  where
    by : IsInside (switched inside x) (a ++ b) → IsInside inside (x ∷ (a ++ b))
    by rest [] after e =
        let blank : x ≡ 32 = cc in
        first [] a (ap (λ y. y ∷ a) blank)
    by rest (y ∷ before) after e =
        let same : x ≡ y = cc in
        let more : a ++ b ≡ before ++ 32 ∷ after = cc in
        ap (λ z. fold switched (switched inside z) before) (sym same) ∙ rest before after more

-- ---- the text of a statement

abbrev pub IsPrintable : ℕ → Type 0
IsPrintable b = is_printable b ≡ true

abbrev pub ShowsAll : StatementCard → Type 0
ShowsAll r = All IsPrintable r.columns

-- a text as the columns of a deck show it
pub record IsShown (text : List ℕ) : Type 0 where
  pub printable : ArePrintable text
  pub inside : AreInside text

nothing_shown : IsShown []
nothing_shown = record { printable = refl; inside = λ before after e. absurd (no_blank before after e) }

-- a text that goes on in printable columns
shown_more : (text columns : List ℕ) → IsShown text → All IsPrintable columns → IsShown (part_after text columns).text
shown_more text columns shown are =
    let part = front_found text columns in
    let slice = front (is_quoting text) columns in
    let printable : ArePrintable (slice ++ part.rest) =
    subst ArePrintable part.whole (list_all-from_AllPass is_printable columns are) in
    record {
      printable = both_printable text slice shown.printable (printable_parts slice part.rest printable).0;
      inside = inside_both false text slice shown.inside
          (λ before after e. sym (fold-append switched false text before) ∙ part.inside before after e);
    }

-- a part with a continuation
shown_behind : (p : Part) (r : StatementCard) → IsShown p.text → ShowsAll r → IsShown (with_continuation p r).text
shown_behind p r shown are = by p.going
  where
    area : List ℕ
    area = continuation_area r.columns

    printable : All IsPrintable area
    printable = All-take IsPrintable 56 (drop 15 r.columns) (All-drop IsPrintable 15 r.columns are)

    by : (going : Going) → IsShown (continued going p.text area).text
    by Exactly = shown_more p.text area shown printable
    by AtNext = shown_more p.text (after_blanks area) shown (All-drop IsPrintable _ area printable)
    by Ended = shown

shown_behind_all : (p : Part) (rs : List StatementCard) → IsShown p.text → All ShowsAll rs
    → IsShown (fold with_continuation p rs).text
shown_behind_all p [] shown are = shown
shown_behind_all p (r ∷ rs) shown are =
    shown_behind_all (with_continuation p r) rs (shown_behind p r shown (All-head ShowsAll r rs are))
    (All-tail ShowsAll r rs are)

-- the columns of a card behind its operation
behind_printable : (columns : List ℕ) → All IsPrintable columns → All IsPrintable (behind_operation columns)
behind_printable columns are =
    let area = All-take IsPrintable 71 columns are in
    let name = All-drop IsPrintable _ (after_word (statement_area columns))
    (All-drop IsPrintable _ (statement_area columns) area) in
    All-drop IsPrintable _ (after_word (behind_name columns)) (All-drop IsPrintable _ (behind_name columns) name)

-- the text of the cards of a statement
statement_shown : (rs : List StatementCard) → All ShowsAll rs → IsShown (statement_of rs).text
statement_shown [] are = nothing_shown
statement_shown (r ∷ rs) are =
    let columns = behind_operation r.columns in
    let first = shown_more [] columns nothing_shown (behind_printable r.columns (All-head ShowsAll r rs are)) in
    shown_behind_all (part_after [] columns) rs first (All-tail ShowsAll r rs are)

-- ---- the cards of a deck

-- a card that was taken is printable
abbrev IsTaken : Card → Type 0
IsTaken card = All IsPrintable card.bytes

card_taken : (line : ℕ) (bytes : List ℕ) → IfOk (card_of line bytes) IsTaken
card_taken line bytes = by (list_all is_printable bytes) refl (nat_lt 80 (length bytes))
  where
    card : Card
    card = record { line = line; bytes = bytes }

    by : (printable : Bool) → list_all is_printable bytes ≡ printable → (long : Bool)
        → IfOk (cond (not printable) (Err (at L1 line)) (cond long (Err (at L2 line)) (Ok card))) IsTaken
    by false some long = tt
    by true all true = tt
    by true all false = AllPass-from_list_all is_printable bytes all

cards_taken : (bytes : List ℕ) → IfOk (cards_of bytes) (All IsTaken)
cards_taken bytes = each_gives (λ _. Unit {0}) IsTaken card_of (λ line text _. card_taken line text) 1 (lines bytes)
    (λ k d within. tt)

-- so are its columns
columns_printable : (bytes : List ℕ) → All IsPrintable bytes → All IsPrintable (columns_of bytes)
columns_printable bytes are =
    All-append IsPrintable (take 72 bytes) (replicate (72 - length bytes) 32) (All-take IsPrintable 72 bytes are)
    (All-replicate IsPrintable (72 - length bytes) 32 refl)

cards_shown : (cards : List Card) → All IsTaken cards → All ShowsAll (statement_cards cards)
cards_shown cards are =
    All-filter (λ (r : StatementCard). not (is_skipped r.columns)) ShowsAll (map statement_card cards)
    (All-map ShowsAll statement_card cards (λ k d within. columns_printable _ (are k d within)))

-- ---- the statements of a deck

onto_group_shown : (r : StatementCard) (gs : List (List StatementCard)) → ShowsAll r → All (All ShowsAll) gs
    → All (All ShowsAll) (onto_group (r ∷ []) gs)
onto_group_shown r [] is are =
    All-cons (All ShowsAll) (r ∷ []) [] (All-cons ShowsAll r [] is (All-nil ShowsAll)) (All-nil (All ShowsAll))
onto_group_shown r (g ∷ gs) is are =
    All-cons (All ShowsAll) (r ∷ g) gs (All-cons ShowsAll r g is (All-head (All ShowsAll) g gs are))
    (All-tail (All ShowsAll) g gs are)

groups_shown : (rs : List StatementCard) → All ShowsAll rs → All (All ShowsAll) (groups rs)
unfolding groups
groups_shown [] are = All-nil (All ShowsAll)
groups_shown (r ∷ rs) are = by (is_continued r.columns) (groups_shown rs (All-tail ShowsAll r rs are))
  where
    first : ShowsAll r
    first = All-head ShowsAll r rs are

    by : (continued : Bool) → All (All ShowsAll) (groups rs)
        → All (All ShowsAll) (cond continued (onto_group (r ∷ []) (groups rs)) ((r ∷ []) ∷ groups rs))
    by true rest = onto_group_shown r (groups rs) first rest
    by false rest = All-cons (All ShowsAll) (r ∷ []) (groups rs) (All-cons ShowsAll r [] first (All-nil ShowsAll)) rest

-- a statement that was joined
abbrev pub IsShownStatement : Joined → Type 0
IsShownStatement joined = IsShown joined.text

statements_shown : (cards : List Card) → All IsTaken cards → IfOk (statements_of cards) (All IsShownStatement)
statements_shown cards are = by (first_continuation_fault (statement_cards cards))
  where
    all : All IsShownStatement (map statement_of (groups (statement_cards cards)))
    all =
        All-map IsShownStatement statement_of (groups (statement_cards cards))
        (λ k d within. statement_shown _ (groups_shown (statement_cards cards) (cards_shown cards are) k d within))

    by : (fault : Option Fault) → IfOk (unless_fault fault (statement_cards cards)) (All IsShownStatement)
    by (Some fault) = tt
    by None = all

-- whatever bytes say
pub deck_shown : (bytes : List ℕ) → IfOk (joined_of bytes) (All IsShownStatement)
deck_shown bytes = in_turn (All IsTaken) (All IsShownStatement) (cards_of bytes) statements_of (cards_taken bytes)
    statements_shown
