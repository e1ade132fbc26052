use Rattle.std.proofs.Common.{refl}
use Rattle.iocm_types.specs.Each.{each}
use Rattle.iocm_columns.specs.Part.{ends, front, switched}
use Rattle.iocm_columns.specs.StatementCards.{first_continuation_fault}
use Rattle.iocm_columns.specs.Statements.{groups}
use Rattle.iocm_columns.proofs.laws.decks_are_joined.Goals as goal

pub returns : goal.returns
unfolding each ends first_continuation_fault front groups switched
returns c = record { device = refl; margin = refl; end = refl; tab = refl }
