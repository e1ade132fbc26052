-- Canonical statements are read from the columns as themselves: an operand part is printable, with
-- its blanks inside quotes, which are closed.
use Rattle.std.proofs.Common.{◌≡◌, ◌≢◌, ℕ, ◌+◌, ◌≤◌, ◌<◌, ◌==◌, ◌&&◌, not, Bool, true, false, Option, None, Some, List}
use Rattle.std.proofs.Common.{[], ◌∷◌, ◌++◌, All, map, fold, length, Ok, refl, sym, ap, ◌∙◌, subst, arith}
use Rattle.std.proofs.lemmas.Bool.{false≢true, and_parts, and_from}
use Rattle.std.proofs.lemmas.Bool.Decides.{nat_tests}
use Rattle.std.proofs.lemmas.List.Elements.{All-head, All-tail, All-map}
use Rattle.std.proofs.lemmas.List.Folds.{list_all-append}
use Rattle.std.proofs.lemmas.List.Sums.{fold-append}
use Rattle.std.specs.List.{list_all, join_with_byte}
use Rattle.std.specs.Option.{option_map_or, option_and_then}
use Rattle.iocm_types.specs.Each.{each}
use Rattle.iocm_types.specs.Fault.{◌>>=◌}
use Rattle.iocm_columns.specs.declared.joined.Joined.{Joined}
use Rattle.iocm_columns.specs.Cards.{is_printable}
use Rattle.iocm_columns.specs.Part.{switched, is_quoting}
use Rattle.iocm_columns.specs.Written.{IsWritable, is_graphic, without_line}
use Rattle.iocm_columns.proofs.Rereading.{deck_is_read_again}
use Rattle.iocm_columns.proofs.Showing.{IsInside, no_blank, inside_both}
use Rattle.iocm_columns.proofs.WrittenTexts.{AreInside}
use Rattle.iocm_model.specs.Machine.Record.{CarriedOperand}
use Rattle.iocm_statements.specs.declared.nesting.Nesting.{Nesting}
use Rattle.iocm_statements.specs.declared.operation.Operation.{Operation}
use Rattle.iocm_statements.specs.declared.operation.Operation.TheVariants.{Id, Resource, Chpid, Cntlunit, Iodevice}
use Rattle.iocm_statements.specs.declared.operation.Operation.TheVariants.{Online, Row, Group, Choose, End}
use Rattle.iocm_statements.specs.declared.statement.Statement as read
use Rattle.iocm_statements.specs.Cutting.{nesting_behind, IsBalanced}
use Rattle.iocm_statements.specs.Nesting.{start, step}
use Rattle.iocm_statements.specs.Operands.{is_keyword_byte}
use Rattle.iocm_statements.specs.Operation.{operation_name, operation_named}
use Rattle.iocm_statements.specs.Statement.{statement_of, parsed}
use Rattle.iocm_deck_writer.specs.Again.{IsKeyed, IsPlaceable}
use Rattle.iocm_deck_writer.specs.Canonical.{operand_text, to_write}
use Rattle.iocm_deck_writer.specs.Statement.{Statement}
use Rattle.iocm_deck_writer.proofs.Again.{keyword_bytes, operands_again}
use Rattle.iocm_round_trip.specs.Given.{IsInColumns}
use Rattle.iocm_round_trip.specs.Stating.{CanBeWritten, as_read, AreReadOf, ReadsStatementsAgain}

-- ---- where quotes end in the nesting, they end in the columns

-- whether the next nesting is inside quotes, or this where there is none
abbrev quoted_or : Bool → Option Nesting → Bool
quoted_or inside next = option_map_or (λ (p : Nesting). p.quoted) next inside

-- a byte switches the quotes of the nesting as it switches those of the columns
byte_switches : (p : Nesting) (b : ℕ) → quoted_or (switched p.quoted b) (step p b) ≡ switched p.quoted b
unfolding step switched
byte_switches p b = grind (arith, nat_tests)

-- so quotes end in the columns where they end in the nesting
quoted_behind : (p q : Nesting) (text : List ℕ) → nesting_behind p text ≡ Some q
    → fold switched p.quoted text ≡ q.quoted
quoted_behind p q [] is = ap (quoted_or false) is
quoted_behind p q (b ∷ bs) is = by (step p b) refl (λ r. quoted_behind r q bs) is
  where
    by : (next : Option Nesting) → step p b ≡ next
        → ((r : Nesting) → nesting_behind r bs ≡ Some q → fold switched r.quoted bs ≡ q.quoted)
        → option_and_then (λ r. nesting_behind r bs) next ≡ Some q → fold switched (switched p.quoted b) bs ≡ q.quoted
    by None next rest is = let none : None ≡ Some q = is in cc
    by (Some r) next rest is =
        ap (λ inside. fold switched inside bs) (sym (byte_switches p b) ∙ ap (quoted_or (switched p.quoted b)) next)
        ∙ rest r is

pub balanced_is_closed : (text : List ℕ) → IsBalanced text → is_quoting text ≡ false
balanced_is_closed text balanced = quoted_behind start start text balanced

-- ---- texts that can stand in an operand part

-- a text that can stand there: printable, its blanks inside quotes, which are closed
record IsPart (text : List ℕ) : Type 0 where
  pub printable : list_all is_printable text ≡ true
  pub inside : AreInside text
  pub closed : is_quoting text ≡ false

no_part : IsPart []
no_part = record { printable = refl; inside = λ before after e. absurd (no_blank before after e); closed = refl }

both_parts : (a b : List ℕ) → IsPart a → IsPart b → IsPart (a ++ b)
both_parts a b first second =
    let behind : false ≡ fold switched false a = sym first.closed in
    record {
      printable = list_all-append is_printable a b
          ∙ and_from (list_all is_printable a) (list_all is_printable b) first.printable second.printable;
      inside = inside_both false a b first.inside (subst (λ inside. IsInside inside b) behind second.inside);
      closed = fold-append switched false a b ∙ ap (λ inside. fold switched inside b) first.closed ∙ second.closed;
    }

-- a byte that is neither a blank nor a quote
abbrev is_still : ℕ → Bool
is_still b = is_graphic b && not (b == 39)

still_printable : (b : ℕ) → is_still b ≡ true → is_printable b ≡ true
still_printable b still = grind (arith, nat_tests)

still_no_blank : (b : ℕ) → is_still b ≡ true → b ≢ 32
still_no_blank b still = grind (arith, nat_tests)

still_stays : (b : ℕ) → is_still b ≡ true → switched false b ≡ false
unfolding switched
still_stays b still = grind (arith, nat_tests)

still_byte : (b : ℕ) → is_still b ≡ true → IsPart (b ∷ [])
still_byte b still = record {
  printable = and_from (is_printable b) true (still_printable b still) refl;
  inside = by;
  closed = still_stays b still;
}
  where
    by : AreInside (b ∷ [])
    by [] after e = let blank : b ≡ 32 = cc in absurd (still_no_blank b still blank)
    by (y ∷ before) after e = let rest : [] ≡ before ++ 32 ∷ after = cc in absurd (no_blank before after rest)

-- ---- operands

-- a keyword, and the equal sign or comma beside an operand, have neither blanks nor quotes
keyword_byte_still : (b : ℕ) → is_keyword_byte b ≡ true → is_still b ≡ true
keyword_byte_still b word = grind (arith, nat_tests)

keyword_part : (keyword : List ℕ) → list_all is_keyword_byte keyword ≡ true → IsPart keyword
keyword_part [] word = no_part
keyword_part (b ∷ keyword) word =
    let parts = and_parts (is_keyword_byte b) (list_all is_keyword_byte keyword) word in
    both_parts (b ∷ []) keyword (still_byte b (keyword_byte_still b parts.0)) (keyword_part keyword parts.1)

text_part : (text : List ℕ) → IsInColumns text → IsBalanced text → IsPart text
text_part text at balanced =
    record { printable = at.printable; inside = at.blanks; closed = balanced_is_closed text balanced }

-- so an operand that can be placed is a part, and so are operands with commas between them
operand_part : (o : CarriedOperand) → IsPlaceable o → IsInColumns o.text → IsPart (operand_text o)
operand_part o is at = by o.keyword is.keyed
  where
    part : IsPart o.text
    part = text_part o.text at is.balanced

    by : (keyword : Option (List ℕ)) → IsKeyed keyword o.text
        → IsPart (option_map_or (λ word. word ++ 61 ∷ o.text) keyword o.text)
    by (Some word) keyed =
        both_parts word (61 ∷ o.text) (keyword_part word (keyword_bytes word keyed))
        (both_parts (61 ∷ []) o.text (still_byte 61 refl) part)
    by None keyed = part

joined_part : (texts : List (List ℕ)) → All IsPart texts → IsPart (join_with_byte 44 texts)
joined_part [] parts = no_part
joined_part (x ∷ []) parts = All-head IsPart x [] parts
joined_part (x ∷ y ∷ ys) parts =
    both_parts x (44 ∷ join_with_byte 44 (y ∷ ys)) (All-head IsPart x (y ∷ ys) parts)
    (both_parts (44 ∷ []) (join_with_byte 44 (y ∷ ys)) (still_byte 44 refl)
    (joined_part (y ∷ ys) (All-tail IsPart x (y ∷ ys) parts)))

operands_part : (operands : List CarriedOperand) → All IsPlaceable operands
    → All (λ (o : CarriedOperand). IsInColumns o.text) operands
    → IsPart (join_with_byte 44 (map operand_text operands))
operands_part operands each at =
    joined_part (map operand_text operands)
    (All-map IsPart operand_text operands (λ k d h. operand_part _ (each k d h) (at k d h)))

-- ---- statements

-- the name of an operation is a word of at most 8 bytes, by which it is found
record IsWord (operation : Operation) (name : List ℕ) : Type 0 where
  pub graphic : list_all is_graphic name ≡ true
  pub short : length name ≤ 8
  pub some : 0 < length name
  pub named : operation_named name ≡ Some operation

name_is_word : (operation : Operation) → IsWord operation (operation_name operation)
name_is_word Id = record { graphic = refl; short = omega arith; some = omega arith; named = refl }
name_is_word Resource = record { graphic = refl; short = omega arith; some = omega arith; named = refl }
name_is_word Chpid = record { graphic = refl; short = omega arith; some = omega arith; named = refl }
name_is_word Cntlunit = record { graphic = refl; short = omega arith; some = omega arith; named = refl }
name_is_word Iodevice = record { graphic = refl; short = omega arith; some = omega arith; named = refl }
name_is_word Online = record { graphic = refl; short = omega arith; some = omega arith; named = refl }
name_is_word Row = record { graphic = refl; short = omega arith; some = omega arith; named = refl }
name_is_word Group = record { graphic = refl; short = omega arith; some = omega arith; named = refl }
name_is_word Choose = record { graphic = refl; short = omega arith; some = omega arith; named = refl }
name_is_word End = record { graphic = refl; short = omega arith; some = omega arith; named = refl }

zero_is_no_star : ◌≢◌ {A = ℕ} 0 42
zero_is_no_star e = false≢true (ap (λ b. b == 42) e)

-- a canonical statement can be written in columns
pub statement_is_writable : (s : Statement) → CanBeWritten s → IsWritable (to_write s)
statement_is_writable s can =
    let word = name_is_word s.operation in
    let part = operands_part s.operands can.operands.each can.texts in
    record {
      name = refl;
      short_name = omega arith;
      no_comment = zero_is_no_star;
      operation = word.graphic;
      short_operation = word.short;
      has_operation = word.some;
      text = part.printable;
      blanks = part.inside;
      closed = part.closed;
    }

-- ---- what is read of them

-- a joined statement that is a canonical one, but for its line, is read as it
statement_again : (s : Statement) → CanBeWritten s → (joined : Joined) → without_line joined ≡ without_line (to_write s)
    → statement_of joined ≡ Ok (as_read joined.line s)
statement_again s can joined same =
    let named = (name_is_word s.operation).named in
    let operands = operands_again joined.line s.operands can.operands in
    ap (λ (j : Joined). statement_of
    (record { line = joined.line; name = j.name; operation = j.operation; text = j.text })) same
    ∙ rw (named, operands) refl

-- joined statements from this place of the deck on are read as canonical ones
record AreReadFrom (place : ℕ) (ss : List Statement) (deck : List Joined) : Type 0 where
  pub read : List read.Statement
  pub is_read : each (λ _ joined. statement_of joined) place deck ≡ Ok read
  pub same : AreReadOf ss read

none_read : (place : ℕ) → AreReadFrom place [] []
unfolding each
none_read place = record { read = []; is_read = refl; same = tt }

one_more_read : (place : ℕ) (s : Statement) (ss : List Statement) (joined : Joined) (deck : List Joined)
    → statement_of joined ≡ Ok (as_read joined.line s) → AreReadFrom (place + 1) ss deck
    → AreReadFrom place (s ∷ ss) (joined ∷ deck)
unfolding each
one_more_read place s ss joined deck first rest = record {
  read = as_read joined.line s ∷ rest.read;
  is_read = rw (first, rest.is_read) refl;
  same = (refl, rest.same);
}

statements_again : (place : ℕ) (ss : List Statement) (deck : List Joined) → All CanBeWritten ss
    → map without_line deck ≡ map without_line (map to_write ss) → AreReadFrom place ss deck
statements_again place [] [] can same = none_read place
statements_again place [] (joined ∷ deck) can same = absurd (cc)
statements_again place (s ∷ ss) [] can same = absurd (cc)
statements_again place (s ∷ ss) (joined ∷ deck) can same =
    let first : without_line joined ≡ without_line (to_write s) = cc in
    let rest : map without_line deck ≡ map without_line (map to_write ss) = cc in
    one_more_read place s ss joined deck (statement_again s (All-head CanBeWritten s ss can) joined first)
    (statements_again (place + 1) ss deck (All-tail CanBeWritten s ss can) rest)

-- the bytes of canonical statements are read as these statements
pub statements_are_read_again : ReadsStatementsAgain
statements_are_read_again ss can =
    let deck = deck_is_read_again (map to_write ss)
    (All-map IsWritable to_write ss (λ k d h. statement_is_writable _ (can k d h))) in
    let statements = statements_again 0 ss deck.read can deck.same in
    record {
      read = statements.read;
      is_read = ap (λ found. found >>= parsed) deck.is_read ∙ statements.is_read;
      same = statements.same;
    }
