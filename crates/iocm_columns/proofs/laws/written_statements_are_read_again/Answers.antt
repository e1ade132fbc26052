use Rattle.std.proofs.Common.{arith, refl}
use Rattle.iocm_columns.specs.Examples.{device_statement}
use Rattle.iocm_columns.specs.Part.{ends, front, switched}
use Rattle.iocm_columns.proofs.Rereading.{deck_is_read_again}
use Rattle.iocm_columns.proofs.WrittenTexts.{inside_where_front_is_all}
use Rattle.iocm_columns.proofs.laws.written_statements_are_read_again.Goals as goal

pub returns : goal.returns
unfolding ends front switched
returns c = record {
  again = deck_is_read_again;
  example = record {
    name = refl;
    short_name = omega arith;
    no_comment = λ same. cc;
    operation = refl;
    short_operation = omega arith;
    has_operation = omega arith;
    text = refl;
    blanks = inside_where_front_is_all device_statement.text refl;
    closed = refl;
  };
}
