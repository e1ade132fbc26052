-- What is written is read again.
use Rattle.std.proofs.Common.{◌≡◌, ◌∙◌, ◌+◌, ◌++◌, ℕ, suc, All, List, [], ◌∷◌, length, map, refl, ap, sym, subst, arith}
use Rattle.std.specs.Str.Lines.{lines}
use Rattle.iocm_types.specs.Each.{each}
use Rattle.iocm_types.specs.Fault.{◌>>=◌}
use Rattle.iocm_columns.specs.declared.joined.Joined.{Joined}
use Rattle.iocm_columns.specs.Cards.{card_of}
use Rattle.iocm_columns.specs.Slices.{AreStatementsOf}
use Rattle.iocm_columns.specs.Statements.{statements_of}
use Rattle.iocm_columns.specs.Written.{IsReadAgain, IsWritable, deck_bytes, without_line}
use Rattle.iocm_columns.proofs.Relating.{deck_only}
use Rattle.iocm_columns.proofs.WrittenCards.{AreLines, cards_from, lines_are_kept, lines_are_read, lines_together}
use Rattle.iocm_columns.proofs.WrittenCards.{rows_from, rows_together}
use Rattle.iocm_columns.proofs.WrittenStatements.{cards_of_statement, row}

-- the lines in which a deck is written, and the statements of their cards, wherever they are
-- counted from
record IsDeck (deck : List Joined) : Type 0 where
  all : List (List ℕ)
  written : lines (deck_bytes deck) ≡ all
  are_lines : AreLines all
  read : ℕ → List Joined
  are_statements : (n : ℕ) → AreStatementsOf (rows_from n all) (read n)
  same : (n : ℕ) → map without_line (read n) ≡ map without_line deck

deck_written : (deck : List Joined) → All IsWritable deck → IsDeck deck
deck_written [] writable =
    record { all = []; written = refl; are_lines = tt; read = λ n. []; are_statements = λ n. refl; same = λ n. refl }
deck_written (joined ∷ more) writable =
    let c = cards_of_statement joined (writable 0 joined (omega arith)) in
    let rest = deck_written more (λ k d within. writable (suc k) d (omega (arith, within))) in
    let own = c.first ∷ c.more in
    record {
      all = c.first ∷ (c.more ++ rest.all);
      written = c.written (deck_bytes more) ∙ ap (λ l. c.first ∷ (c.more ++ l)) rest.written;
      are_lines = lines_together own rest.all c.are_lines rest.are_lines;
      read = λ n. record { line = n; name = joined.name; operation = joined.operation; text = joined.text }
          ∷ rest.read (n + length own);
      are_statements = λ n. (
        row n c.first,
        rows_from (n + 1) c.more,
        rows_from (n + length own) rest.all,
        rows_together n own rest.all,
        c.continued n,
        record {
          line = refl;
          name = sym c.name;
          operation = sym c.operation;
          slices = c.slices;
          in_columns = c.in_columns n;
          text = c.text;
        },
        rest.are_statements (n + length own),
      );
      same = λ n. ap (λ l. without_line joined ∷ l) (rest.same (n + length own));
    }

-- the bytes of a deck give its statements
pub deck_is_read_again : (deck : List Joined) → All IsWritable deck → IsReadAgain deck
deck_is_read_again deck writable =
    let d = deck_written deck writable in
    let kept = sym (lines_are_kept 1 d.all d.are_lines) in
    record {
      read = d.read 1;
      is_read =
          ap (λ l. each card_of 1 l >>= statements_of) d.written
          ∙ ap (λ r. r >>= statements_of) (lines_are_read 1 d.all d.are_lines)
          ∙ deck_only (cards_from 1 d.all) (d.read 1)
          (subst (λ rs. AreStatementsOf rs (d.read 1)) kept (d.are_statements 1));
      same = d.same 1;
    }
