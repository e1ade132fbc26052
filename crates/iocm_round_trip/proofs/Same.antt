-- What is written of a configuration that was read from a deck is read as this configuration.
use Rattle.std.proofs.Common.{◌≡◌, ℕ, List, [], ◌∷◌, All, Result, Ok, Err, inl, inr, refl, ap, ◌∙◌, subst}
use Rattle.std.proofs.lemmas.List.Elements.{All-nil, All-cons, All-head, All-tail}
use Rattle.iocm_types.specs.declared.fault.Fault.{Fault}
use Rattle.iocm_types.specs.Fault.{◌>>=◌}
use Rattle.iocm_model.specs.Machine.Record.{Rec}
use Rattle.iocm_model.specs.Machine.Configuration.{configuration_of, records_of}
use Rattle.iocm_config.proofs.Keyed.{keyed_made}
use Rattle.iocm_deck_writer.specs.Canonical.{canonical_deck}
use Rattle.iocm_round_trip.specs.Again.{records_in, configuration_in, ReadsConfigurationAgain}
use Rattle.iocm_round_trip.specs.Given.{IsGiven}
use Rattle.iocm_round_trip.proofs.Among.{IsAmong}
use Rattle.iocm_round_trip.proofs.Deck.{deck_is_read_again}
use Rattle.iocm_round_trip.proofs.GivenRecords.{gives_records}
use Rattle.iocm_round_trip.proofs.Keys.{is_of_its_deck}
use Rattle.iocm_round_trip.proofs.Members.{was_among}

of_one : {X : Type 0} (P : X → Type 0) (x : X) (xs : List X) → All P xs → IsAmong x xs → P x
of_one P x [] all is = absurd is
of_one P x (y ∷ ys) all (inl same) = subst P same (All-head P y ys all)
of_one P x (y ∷ ys) all (inr is) = of_one P x ys (All-tail P y ys all) is

of_all : {X : Type 0} (P : X → Type 0) (xs : List X) → ((x : X) → IsAmong x xs → P x) → All P xs
of_all P [] each = All-nil P
of_all P (x ∷ xs) each = All-cons P x xs (each x (inl refl)) (of_all P xs (λ y is. each y (inr is)))

-- the records of the configuration are such as decks give, since they were read
all_given : (records : List Rec) → All IsGiven records → All IsGiven (records_of (configuration_of records))
all_given records are = of_all IsGiven (records_of (configuration_of records))
    (λ r is. of_one IsGiven r records are (was_among r records is))

same_again : (bytes : List ℕ) (records : List Rec) → records_in bytes ≡ Ok records
    → configuration_in (canonical_deck (configuration_of records)) ≡ Ok (configuration_of records)
same_again bytes records is =
    let c = configuration_of records in
    ap (λ read. read >>= λ rs. Ok (configuration_of rs))
    (deck_is_read_again c (keyed_made records) (all_given records (gives_records bytes records is)))
    ∙ ap Ok (is_of_its_deck bytes records is)

pub configuration_is_read_again : ReadsConfigurationAgain
configuration_is_read_again bytes c is = by (records_in bytes) refl is
  where
    by : (read : Result (List Rec) Fault) → records_in bytes ≡ read
        → (read >>= λ records. Ok (configuration_of records)) ≡ Ok c → configuration_in (canonical_deck c) ≡ Ok c
    by (Err fault) same none = cc
    by (Ok records) same some =
        let own : configuration_of records ≡ c = cc in
        subst (λ d. configuration_in (canonical_deck d) ≡ Ok d) own (same_again bytes records same)
