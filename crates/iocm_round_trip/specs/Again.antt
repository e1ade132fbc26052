-- What is written of a configuration is read again as its deck; and the deck of what was read from
-- a deck is the same configuration.
use Rattle.std.specs.Prelude.{◌≡◌, ℕ, List, [], ◌∷◌, All, Result, Ok}
use Rattle.std.specs.List.{flat_map}
use Rattle.iocm_types.specs.declared.fault.Fault.{Fault}
use Rattle.iocm_types.specs.Fault.{◌>>=◌}
use Rattle.iocm_columns.specs.Statements.{joined_of}
use Rattle.iocm_model.specs.Machine.Configuration.{Configuration, configuration_of, records_of, IsKeyed}
use Rattle.iocm_model.specs.Machine.Record.{Rec, path, online}
use Rattle.iocm_statements.specs.Statement.{parsed}
use Rattle.iocm_record_reader.specs.Deck.{deck_records}
use Rattle.iocm_deck_writer.specs.Canonical.{canonical_deck}
use Rattle.iocm_round_trip.specs.Given.{IsGiven}
use Rattle.iocm_round_trip.specs.Stating.{path_records}

-- the records that the bytes of a deck describe, or the first fault
abbrev pub records_in : List ℕ → Result (List Rec) Fault
records_in bytes = joined_of bytes >>= parsed >>= deck_records

-- a record as its deck has it: a path is online to the images of its access list, and to no other
abbrev pub expanded : Rec → List Rec
expanded (path p) = path_records p
expanded (online o) = []
expanded r = r ∷ []

-- the deck of records: their online records are those of the access lists
abbrev pub deck_of : List Rec → List Rec
deck_of records = flat_map expanded records

-- each record that a deck describes is one that decks give
abbrev pub GivesRecords : Type 0
GivesRecords = (bytes : List ℕ) (records : List Rec) → records_in bytes ≡ Ok records → All IsGiven records

-- what is written of a configuration of such records is read as its deck
abbrev pub ReadsDeckAgain : Type 0
ReadsDeckAgain = (c : Configuration) → IsKeyed c → All IsGiven (records_of c)
    → records_in (canonical_deck c) ≡ Ok (deck_of (records_of c))

-- a configuration that was read from a deck is that of its deck
abbrev pub IsOfItsDeck : Type 0
IsOfItsDeck = (bytes : List ℕ) (records : List Rec) → records_in bytes ≡ Ok records
    → configuration_of (deck_of (records_of (configuration_of records))) ≡ configuration_of records

-- so what is written of a configuration that was read from a deck is read as this configuration
abbrev pub configuration_in : List ℕ → Result Configuration Fault
configuration_in bytes = records_in bytes >>= λ records. Ok (configuration_of records)

abbrev pub ReadsConfigurationAgain : Type 0
ReadsConfigurationAgain = (bytes : List ℕ) (c : Configuration) → configuration_in bytes ≡ Ok c
    → configuration_in (canonical_deck c) ≡ Ok c
