-- What each step makes of the views of its seats.
use Rattle.std.specs.Prelude.{ℕ, suc, max, true, false, cond, ◌||◌, [], ◌∷◌, ◌++◌, length}
use Rattle.iocm_core.specs.Seen as seen
use Rattle.iocm_core.specs.declared.trace.Entry.{Entry}
use Rattle.iocm_board.specs.declared.view.View.{View}
use Rattle.iocm_board.specs.Names.{lend, next_of, fresh}
use Rattle.iocm_board.specs.Receipts.{made, merged}

-- a seat, as a value: the tag of its board, and what it knows
pub record Held : Type 0 where
  pub tag : ℕ
  pub view : View

-- opening: the keeper's seat has the trace, and bears the first name
abbrev pub first_view : seen.Core → View
first_view run = record {
  origin = run;
  live = true;
  keeps = true;
  list = run.entries;
  names = fresh [];
  receipts = [];
  seen = length run.entries;
}

-- look: the seat has seen so many calls
abbrev pub sees : View → ℕ → View
sees v n = record v { seen = n }

-- split: the seat has lent one more name, and the new seat bears it
abbrev pub lends : View → View
lends v = record v { names = lend v.names }

abbrev pub borrows : View → View
borrows v = record v { keeps = false; list = []; names = fresh (next_of v.names); receipts = [] }

-- join: what both had
abbrev pub both : View → View → View
both v w =
    record v {
      keeps = v.keeps || w.keeps;
      list = cond v.keeps v.list w.list;
      names = v.names ++ w.names;
      receipts = merged w.receipts v.receipts;
      seen = max v.seen w.seen;
    }

-- set back: the caller's seat without the list, and the keeper's with the list alone
abbrev pub caller_of : View → View
caller_of v = record v { keeps = false; list = [] }

abbrev pub keeper_of : View → View
keeper_of v = record v { names = []; receipts = [] }

-- take up: a caller's seat with the list of the keeper's
abbrev pub takes : View → View → View
takes v w = record v { keeps = true; list = w.list; seen = max v.seen w.seen }

-- publish: one entry more, with its receipt; the seat has seen it
abbrev pub adds : View → Entry → View
adds v e = record v {
  list = v.list ++ e ∷ [];
  receipts = v.receipts ++ made (length v.list) e ∷ [];
  seen = suc (length v.list);
}

-- a caller's seat with a receipt more, which has seen that call
abbrev pub with_receipt : View → ℕ → Entry → View
with_receipt v n e = record v { receipts = v.receipts ++ made n e ∷ []; seen = suc n }
