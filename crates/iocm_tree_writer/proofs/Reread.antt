-- The lines of a change deck are read from the columns as themselves.
use Rattle.std.proofs.Common.{◌≡◌, ◌≢◌, ℕ, ◌+◌, ◌≤◌, ◌==◌, true, false, Some, sym, List, [], ◌∷◌, All, map, length}
use Rattle.std.proofs.Common.{slice_index, Ok, refl, ap, ◌∙◌, arith}
use Rattle.std.proofs.lemmas.Bool.{false≢true}
use Rattle.std.proofs.lemmas.List.Elements.{All-head, All-tail, All-map}
use Rattle.std.specs.List.{list_all}
use Rattle.iocm_types.specs.Each.{each}
use Rattle.iocm_types.specs.Fault.{◌>>=◌}
use Rattle.iocm_columns.specs.declared.joined.Joined.{Joined}
use Rattle.iocm_columns.specs.Statements.{joined_of}
use Rattle.iocm_columns.specs.Written.{IsWritable, is_graphic, without_line, deck_bytes}
use Rattle.iocm_columns.proofs.Rereading.{deck_is_read_again}
use Rattle.iocm_statements.specs.declared.operation.Operation.{Operation}
use Rattle.iocm_statements.specs.declared.operation.Operation.TheVariants.{Id, Resource, Chpid, Cntlunit, Iodevice}
use Rattle.iocm_statements.specs.declared.operation.Operation.TheVariants.{Online, Row, Group, Choose, End}
use Rattle.iocm_statements.specs.declared.statement.Statement as read
use Rattle.iocm_statements.specs.Operation.{operation_name, operation_named}
use Rattle.iocm_statements.specs.Statement.{statement_of, parsed}
use Rattle.iocm_tree.specs.declared.verb.Verb.{Verb}
use Rattle.iocm_tree.specs.declared.verb.Verb.TheVariants.{Add, Delete, Modify}
use Rattle.iocm_deck_writer.proofs.Again.{operands_again}
use Rattle.iocm_round_trip.specs.Stating.{CanBeWritten}
use Rattle.iocm_round_trip.proofs.Columns.{statement_is_writable}
use Rattle.iocm_tree_writer.specs.Again.{as_read}
use Rattle.iocm_tree_writer.specs.Leaves.{verb_name}
use Rattle.iocm_tree_writer.specs.Written.{Line, line_to_write}
use Rattle.iocm_tree_writer.proofs.Behind.{AreReadOf}

-- ---- lines that can be written

-- a word that can stand in the name field, or nothing
pub record IsField (name : List ℕ) : Type 0 where
  pub graphic : list_all is_graphic name ≡ true
  pub short : length name ≤ 8
  pub no_comment : slice_index name 0 ≢ 42

pub record CanBeLine (l : Line) : Type 0 where
  pub field : IsField l.name
  pub statement : CanBeWritten l.statement

no_star : (b : ℕ) → (b == 42) ≡ false → b ≢ 42
no_star b other e = false≢true (sym other ∙ ap (λ x. x == 42) e)

pub verb_is_field : (v : Verb) → IsField (verb_name v)
verb_is_field Add = record { graphic = refl; short = omega arith; no_comment = no_star 65 refl }
verb_is_field Delete = record { graphic = refl; short = omega arith; no_comment = no_star 68 refl }
verb_is_field Modify = record { graphic = refl; short = omega arith; no_comment = no_star 77 refl }

pub nothing_is_field : IsField []
nothing_is_field = record { graphic = refl; short = omega arith; no_comment = no_star 0 refl }

line_is_writable : (l : Line) → CanBeLine l → IsWritable (line_to_write l)
line_is_writable l can =
    let is = statement_is_writable l.statement can.statement in
    record {
      name = can.field.graphic;
      short_name = can.field.short;
      no_comment = can.field.no_comment;
      operation = is.operation;
      short_operation = is.short_operation;
      has_operation = is.has_operation;
      text = is.text;
      blanks = is.blanks;
      closed = is.closed;
    }

-- ---- what is read of them

named : (operation : Operation) → operation_named (operation_name operation) ≡ Some operation
named Id = refl
named Resource = refl
named Chpid = refl
named Cntlunit = refl
named Iodevice = refl
named Online = refl
named Row = refl
named Group = refl
named Choose = refl
named End = refl

line_again : (l : Line) → CanBeLine l → (joined : Joined) → without_line joined ≡ without_line (line_to_write l)
    → statement_of joined ≡ Ok (as_read joined.line l)
line_again l can joined same =
    let is = named l.statement.operation in
    let operands = operands_again joined.line l.statement.operands can.statement.operands in
    ap (λ (j : Joined). statement_of
    (record { line = joined.line; name = j.name; operation = j.operation; text = j.text })) same
    ∙ rw (is, operands) refl

-- joined statements from this place of the deck on are read as lines
record AreReadFrom (place : ℕ) (ls : List Line) (deck : List Joined) : Type 0 where
  pub read : List read.Statement
  pub is_read : each (λ _ joined. statement_of joined) place deck ≡ Ok read
  pub same : AreReadOf ls read

none_read : (place : ℕ) → AreReadFrom place [] []
unfolding each
none_read place = record { read = []; is_read = refl; same = tt }

one_more_read : (place : ℕ) (l : Line) (ls : List Line) (joined : Joined) (deck : List Joined)
    → statement_of joined ≡ Ok (as_read joined.line l) → AreReadFrom (place + 1) ls deck
    → AreReadFrom place (l ∷ ls) (joined ∷ deck)
unfolding each
one_more_read place l ls joined deck first rest = record {
  read = as_read joined.line l ∷ rest.read;
  is_read = rw (first, rest.is_read) refl;
  same = (refl, rest.same);
}

lines_again : (place : ℕ) (ls : List Line) (deck : List Joined) → All CanBeLine ls
    → map without_line deck ≡ map without_line (map line_to_write ls) → AreReadFrom place ls deck
lines_again place [] [] can same = none_read place
lines_again place [] (joined ∷ deck) can same = absurd (cc)
lines_again place (l ∷ ls) [] can same = absurd (cc)
lines_again place (l ∷ ls) (joined ∷ deck) can same =
    let first : without_line joined ≡ without_line (line_to_write l) = cc in
    let rest : map without_line deck ≡ map without_line (map line_to_write ls) = cc in
    one_more_read place l ls joined deck (line_again l (All-head CanBeLine l ls can) joined first)
    (lines_again (place + 1) ls deck (All-tail CanBeLine l ls can) rest)

-- the bytes of lines are read as these lines
pub record AreReadAgain (ls : List Line) : Type 0 where
  pub read : List read.Statement
  pub is_read : (joined_of (deck_bytes (map line_to_write ls)) >>= parsed) ≡ Ok read
  pub same : AreReadOf ls read

pub lines_are_read_again : (ls : List Line) → All CanBeLine ls → AreReadAgain ls
lines_are_read_again ls can =
    let deck = deck_is_read_again (map line_to_write ls)
    (All-map IsWritable line_to_write ls (λ k d h. line_is_writable _ (can k d h))) in
    let statements = lines_again 0 ls deck.read can deck.same in
    record {
      read = statements.read;
      is_read = ap (λ found. found >>= parsed) deck.is_read ∙ statements.is_read;
      same = statements.same;
    }
