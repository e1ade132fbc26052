-- Callers and the keeper, as values.
use Rattle.std.specs.Prelude.{◌≡◌, ℕ, suc, max, true, false, List, [], ◌∷◌, ◌++◌}
use Rattle.iocm_core.specs.Seen as seen
use Rattle.iocm_core.specs.declared.trace.Entry.{Entry}
use Rattle.iocm_board.specs.declared.view.Borne.{Borne}
use Rattle.iocm_board.specs.declared.view.Made.{Made}
use Rattle.iocm_board.specs.declared.view.View.{View}
use Rattle.iocm_board.specs.Names.{BearsSome, fresh, lend, next_of}
use Rattle.iocm_board.specs.Receipts.{made, merged}
use Rattle.iocm_board.specs.Views.{Held}

-- a caller, as a value: the tag of its system, the core with which that was opened, the names under
-- which it makes calls, its receipts, and how many calls it has seen
pub record Sight : Type 0 where
  pub tag : ℕ
  pub origin : seen.Core
  pub names : List Borne
  pub receipts : List Made
  pub seen : ℕ

abbrev pub sight_of : Held → Sight
sight_of h = record {
  tag = h.tag;
  origin = h.view.origin;
  names = h.view.names;
  receipts = h.view.receipts;
  seen = h.view.seen;
}

-- a seat is a caller's, at a board that was made with this core: it has no list, and bears a name
pub record IsCaller (origin : seen.Core) (v : View) : Type 0 where
  pub origin_is : v.origin ≡ origin
  pub keeps : v.keeps ≡ false
  pub list : v.list ≡ []
  pub names : BearsSome v.names

-- a seat is the keeper's, at a board that was made with a core: it has the list of all entries of
-- the core that is run now, no name and no receipt
pub record IsKeeper (origin run : seen.Core) (v : View) : Type 0 where
  pub keeps : v.keeps ≡ true
  pub list : v.list ≡ run.entries
  pub names : v.names ≡ []
  pub receipts : v.receipts ≡ []
  pub room : origin.room ≡ run.room
  pub opening : origin.opening ≡ run.opening

-- a caller has a receipt more, and has seen that call
abbrev pub gains : Sight → ℕ → Entry → Sight
gains c n e = record c { receipts = c.receipts ++ made n e ∷ []; seen = suc n }

-- a caller has seen so many calls
abbrev pub sees_now : Sight → ℕ → Sight
sees_now c n = record c { seen = n }

-- a caller has lent one more name, under which the new one makes its calls
abbrev pub lends_one : Sight → Sight
lends_one c = record c { names = lend c.names }

abbrev pub borrowed : Sight → Sight
borrowed c = record c { names = fresh (next_of c.names); receipts = [] }

-- one caller of two
abbrev pub joined : Sight → Sight → Sight
joined c d = record c { names = c.names ++ d.names; receipts = merged d.receipts c.receipts; seen = max c.seen d.seen }
