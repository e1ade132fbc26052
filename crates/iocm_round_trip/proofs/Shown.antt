-- What a statement carries of the operands that were read for it stands in columns, and the
-- statement knows none of it.
use Rattle.std.proofs.Common.{◌≡◌, ℕ, true, false, is_none, Option, None, Some, List, [], ◌∷◌, ◌++◌, All, map, filter}
use Rattle.std.proofs.Common.{fold, get_or, Result, Ok, Err, refl, sym, ap, ◌∙◌, append_assoc, subst}
use Rattle.std.proofs.lemmas.Bool.{and_parts}
use Rattle.std.proofs.lemmas.List.Elements.{All-nil, All-cons, All-head, All-tail, All-map, All-filter, filter_passes}
use Rattle.std.proofs.lemmas.List.Folds.{list_all-append}
use Rattle.std.proofs.lemmas.List.Sums.{fold-append}
use Rattle.std.specs.List.{join_with_byte, list_all}
use Rattle.std.specs.Option.{option_map_or}
use Rattle.std.specs.Result.{IfOk}
use Rattle.iocm_types.specs.declared.fault.Fault.{Fault}
use Rattle.iocm_types.specs.declared.rule.Rule.TheVariants.{S1}
use Rattle.iocm_types.specs.Fault.{◌>>=◌, or_fault, at}
use Rattle.iocm_types.proofs.Giving.{whichever, in_turn, each_gives}
use Rattle.iocm_columns.specs.declared.joined.Joined.{Joined}
use Rattle.iocm_columns.specs.Cards.{is_printable}
use Rattle.iocm_columns.specs.Part.{is_quoting, switched}
use Rattle.iocm_columns.specs.Statements.{joined_of}
use Rattle.iocm_columns.proofs.Showing.{IsShownStatement, deck_shown}
use Rattle.iocm_model.specs.Machine.Record.{CarriedOperand}
use Rattle.iocm_statements.specs.declared.operands.OperandKey.TheVariants.{Keyword, Bare}
use Rattle.iocm_statements.specs.declared.operation.Operation.{Operation}
use Rattle.iocm_statements.specs.declared.statement.Statement.{Statement}
use Rattle.iocm_statements.specs.Cutting.{IsBalanced}
use Rattle.iocm_statements.specs.Operands.{Operand, operands_of}
use Rattle.iocm_statements.specs.Operation.{operation_named}
use Rattle.iocm_statements.specs.Statement.{statement_of, parsed}
use Rattle.iocm_keywords.specs.Known.{table, form_in, is_carried, word_of}
use Rattle.iocm_record_reader.specs.Values.{as_carried, carried_by}
use Rattle.iocm_deck_writer.specs.Again.{IsKeyed, IsPlaceable}
use Rattle.iocm_deck_writer.specs.Canonical.{operand_text}
use Rattle.iocm_deck_writer.proofs.Again.{keyword_bytes, keyword_stays}
use Rattle.iocm_deck_writer.proofs.Given.{carried_given, operands_given}
use Rattle.iocm_round_trip.specs.Given.{IsInColumns, as_operand, AreCarriedBy}
use Rattle.iocm_round_trip.proofs.Columns.{balanced_is_closed}

-- ---- parts of a text that stands in columns

-- a text that leaves no quote open, and the text behind it
both_in_columns : (a b : List ℕ) → is_quoting a ≡ false → IsInColumns (a ++ b) → IsInColumns a × IsInColumns b
both_in_columns a b closed both =
    let printable = and_parts (list_all is_printable a) (list_all is_printable b)
    (sym (list_all-append is_printable a b) ∙ both.printable) in (
      record {
        printable = printable.0;
        blanks = λ before after e.
            both.blanks before (after ++ b) (ap (λ t. t ++ b) e ∙ append_assoc before (32 ∷ after) b);
      },
      record {
        printable = printable.1;
        blanks = λ before after e.
            ap (λ inside. fold switched inside before) (sym closed) ∙ sym (fold-append switched false a before)
            ∙ both.blanks (a ++ before) after (ap (λ t. a ++ t) e ∙ sym (append_assoc a before (32 ∷ after)));
      },
    )

-- behind a comma
comma_closed : is_quoting (44 ∷ []) ≡ false
unfolding switched
comma_closed = refl

-- the value behind a keyword
value_in_columns : (keyword : Option (List ℕ)) (text : List ℕ) → IsKeyed keyword text
    → IsInColumns (option_map_or (λ word. word ++ 61 ∷ text) keyword text) → IsInColumns text
value_in_columns None text keyed is = is
value_in_columns (Some keyword) text keyed is =
    let front : List ℕ = keyword ++ 61 ∷ [] in
    let closed = balanced_is_closed front (keyword_stays keyword [] (keyword_bytes keyword keyed)) in
    (both_in_columns front text closed (subst IsInColumns (sym (append_assoc keyword (61 ∷ []) text)) is)).1

operand_balanced : (keyword : Option (List ℕ)) (text : List ℕ) → IsKeyed keyword text → IsBalanced text
    → IsBalanced (option_map_or (λ word. word ++ 61 ∷ text) keyword text)
operand_balanced None text keyed balanced = balanced
operand_balanced (Some keyword) text keyed balanced =
    keyword_stays keyword text (keyword_bytes keyword keyed) ∙ balanced

-- ---- operands

-- each operand of an operand part that stands in columns
abbrev IsReadInColumns : Operand → Type 0
IsReadInColumns e = IsInColumns (as_carried e).text

operands_in_columns : (es : List Operand) → All IsPlaceable (map as_carried es)
    → IsInColumns (join_with_byte 44 (map operand_text (map as_carried es))) → All IsReadInColumns es
operands_in_columns [] are is = All-nil IsReadInColumns
operands_in_columns (e ∷ []) are is =
    let o = as_carried e in
    All-cons IsReadInColumns e [] (value_in_columns o.keyword o.text (All-head IsPlaceable o [] are).keyed is)
    (All-nil IsReadInColumns)
operands_in_columns (e ∷ f ∷ es) are is =
    let o = as_carried e in
    let os : List CarriedOperand = map as_carried (f ∷ es) in
    let rest : List ℕ = join_with_byte 44 (map operand_text os) in
    let first = All-head IsPlaceable o os are in
    let closed = balanced_is_closed (operand_text o) (operand_balanced o.keyword o.text first.keyed first.balanced) in
    let parts = both_in_columns (operand_text o) (44 ∷ rest) closed is in
    All-cons IsReadInColumns e (f ∷ es) (value_in_columns o.keyword o.text first.keyed parts.0)
    (operands_in_columns (f ∷ es) (All-tail IsPlaceable o os are)
    (both_in_columns (44 ∷ []) rest comma_closed parts.1).1)

-- ---- what is carried

-- an operand is carried under the word that it was read with
carried_word : (e : Operand) → word_of (as_operand (as_carried e)) ≡ word_of e
carried_word ((Keyword keyword), text) = refl
carried_word ((Bare place), text) = refl

still_unknown : (operation : Operation) (es : List Operand) → All (λ (e : Operand). is_carried operation e ≡ true) es
    → All (λ (o : CarriedOperand). is_carried operation (as_operand o) ≡ true) (map as_carried es)
still_unknown operation es are =
    All-map (λ (o : CarriedOperand). is_carried operation (as_operand o) ≡ true) as_carried es
    (λ k d within. ap (λ word. is_none (form_in (table operation) word)) (carried_word (get_or es k d))
    ∙ are k d within)

-- operands of which a statement of any operation can carry what it doesn't know
abbrev pub AreCarriable : List Operand → Type 0
AreCarriable es = (operation : Operation) → AreCarriedBy operation (carried_by operation es)

carriable : (line : ℕ) (text : List ℕ) (es : List Operand) → IsInColumns text → operands_of line text ≡ Ok es
    → AreCarriable es
carriable line text es is read operation =
    let given = operands_given line text es read in
    let unknown = filter (is_carried operation) es in
    let texts = operands_in_columns es given.placeable.each (subst IsInColumns (sym given.written) is) in
    record {
      placeable = carried_given line text es read operation;
      texts = All-map (λ (o : CarriedOperand). IsInColumns o.text) as_carried unknown
          (All-filter (is_carried operation) IsReadInColumns es texts);
      unknown = still_unknown operation unknown (filter_passes (is_carried operation) es);
    }

operands_carriable : (line : ℕ) (text : List ℕ) → IsInColumns text → IfOk (operands_of line text) AreCarriable
operands_carriable line text is = by (operands_of line text) refl
  where
    by : (read : Result (List Operand) Fault) → operands_of line text ≡ read → IfOk read AreCarriable
    by (Err e) found = tt
    by (Ok es) found = carriable line text es is found

-- ---- the statements of a deck

abbrev pub IsCarriable : Statement → Type 0
IsCarriable s = AreCarriable s.operands

statement_carriable : (joined : Joined) → IsShownStatement joined → IfOk (statement_of joined) IsCarriable
statement_carriable joined shown =
    whichever IsCarriable (or_fault (at S1 joined.line) (operation_named joined.operation)) _ (λ operation.
    in_turn AreCarriable IsCarriable (operands_of joined.line joined.text) _
    (operands_carriable joined.line joined.text (record { printable = shown.printable; blanks = shown.inside }))
    (λ es are. are))

-- whatever bytes say
pub statements_carriable : (bytes : List ℕ) → IfOk (joined_of bytes >>= parsed) (All IsCarriable)
statements_carriable bytes =
    in_turn (All IsShownStatement) (All IsCarriable) (joined_of bytes) parsed (deck_shown bytes)
    (each_gives IsShownStatement IsCarriable (λ _ joined. statement_of joined)
    (λ _ joined shown. statement_carriable joined shown) 0)
