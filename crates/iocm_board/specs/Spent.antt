-- A seat that was joined to another one knows nothing more, and its core is no board's.
use Rattle.std.specs.Prelude.{false, []}
use Rattle.std.specs.FinMap.{empty}
use Rattle.atomic_table.specs.Seated.{TableId}
use Rattle.iocm_core.specs.Seen as seen
use Rattle.iocm_board.specs.declared.view.View.{View}

-- the name of no table
abbrev pub no_table : TableId
no_table = record { words = 0; slots = 0; views_name = 0; atom = 0; block = 0; offset = 0; slot_names = [] }

-- a core of nothing, which stands where nothing reads it
abbrev pub no_core : seen.Core
no_core = record {
  opening = record { config = empty; numbers = empty; lives = empty };
  history = [];
  entries = [];
  room = 0;
}

abbrev pub spent : View
spent = record { origin = no_core; live = false; keeps = false; list = []; names = []; receipts = []; seen = 0 }
