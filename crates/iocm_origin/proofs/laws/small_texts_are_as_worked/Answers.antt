-- The examples are computed.
use Rattle.std.proofs.Common.{rules, refl}
use Rattle.std.specs.Fmt.{char_count, digits, padded_integral}
use Rattle.iocm_types.specs.Each.{each}
use Rattle.iocm_columns.specs.Part.{ends, front, switched}
use Rattle.iocm_columns.specs.StatementCards.{first_continuation_fault}
use Rattle.iocm_columns.specs.Statements.{groups}
use Rattle.iocm_statements.specs.Nesting.{is_outside, step, cuts, sets}
use Rattle.iocm_statements.specs.Operands.{equals_from}
use Rattle.iocm_statements.specs.Pieces.{pieces_from}
use Rattle.iocm_values.specs.Reading.{every, every_at, gathered}
use Rattle.iocm_values.specs.ItemWords.{item_words_from}
use Rattle.iocm_values.specs.Words.{words_from}
use Rattle.iocm_record_reader.specs.Deck.{read_from, with_records}
use Rattle.iocm_origin.proofs.laws.small_texts_are_as_worked.Goals as goal

pub returns : goal.returns
unfolding each ends front switched first_continuation_fault groups equals_from is_outside step cuts sets pieces_from
    every every_at gathered words_from item_words_from read_from with_records char_count digits padded_integral
returns c =
    record { lines = assumption refl; faults = assumption refl; origins = search refl; remarks = search rules }
