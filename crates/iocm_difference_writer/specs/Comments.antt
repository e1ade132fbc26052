-- What was there before a change, as comments: the cards that a deck has of it, with * in column 1.
-- Bytes by their codes: 10 ends a line, 42 is *.
use Rattle.std.specs.Prelude.{ℕ, ◌==◌, if◌then◌else◌, Option, None, Some, List, [], ◌∷◌, map}
use Rattle.std.specs.List.{flat_map}
use Rattle.std.specs.FinMap.{get}
use Rattle.iocm_columns.specs.Written.{deck_bytes}
use Rattle.iocm_model.specs.Change.Edit.{Action, action_key}
use Rattle.iocm_model.specs.Machine.Configuration.{Configuration}
use Rattle.iocm_model.specs.Machine.Record.{Rec}
use Rattle.iocm_tree.specs.Carried.{verb_of}
use Rattle.iocm_tree.specs.declared.verb.Verb.{Verb}
use Rattle.iocm_tree.specs.declared.verb.Verb.TheVariants.{Add}
use Rattle.iocm_deck_writer.specs.Canonical.{canonical, to_write}

-- the record that is deleted or modified, if it is there
abbrev pub there_by : Verb → Option Rec → List Rec
there_by Add found = []
there_by verb None = []
there_by verb (Some r) = r ∷ []

-- what a configuration has of what an action deletes or modifies
abbrev pub was_there : Configuration → Action → List Rec
was_there c a = there_by (verb_of a) (get c (action_key a))

-- a byte behind another one: * where it begins a line
abbrev pub starred_byte : ℕ → ℕ → ℕ
starred_byte before b = if before == 10 then 42 else b

abbrev pub starred_behind : ℕ → List ℕ → List ℕ
starred_behind before [] = []
starred_behind before (b ∷ bytes) = starred_byte before b ∷ starred_behind b bytes

-- lines with * in column 1
abbrev pub starred : List ℕ → List ℕ
starred bytes = starred_behind 10 bytes

-- the cards that a deck has of records
abbrev pub cards_of : List Rec → List ℕ
cards_of records = deck_bytes (map to_write (canonical records))

-- what was there of a run, where it is asked for
abbrev pub comments_of : Option Configuration → List Action → List ℕ
comments_of None run = []
comments_of (Some c) run = starred (cards_of (flat_map (was_there c) run))
