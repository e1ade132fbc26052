-- A configuration that is read of an accepted deck is one that a deck gives.
use Rattle.std.proofs.Common.{◌≡◌, ℕ, Bool, true, false, cond, List, [], ◌∷◌, Option, Some, None, Result, Ok, Err, refl, sym}
use Rattle.std.proofs.Common.{ap, subst, ◌∙◌}
use Rattle.std.specs.FinMap.{find, get-from_entries}
use Rattle.std.specs.List.{All}
use Rattle.std.specs.Ordering.{eq_by_cmp}
use Rattle.std.proofs.lemmas.List.Elements.{All-head, All-tail}
use Rattle.iocm_types.specs.declared.fault.Fault.{Fault}
use Rattle.iocm_types.specs.declared.key.Key.{Key}
use Rattle.iocm_types.specs.Fault.{◌>>=◌}
use Rattle.iocm_types.specs.Key.{key_cmp}
use Rattle.iocm_types.specs.KeyOrder.{keys_total}
use Rattle.iocm_model.specs.Machine.Record.{Rec, key_of}
use Rattle.iocm_model.specs.Machine.Configuration.{Configuration, IsKeyed, configuration_of, with_keys}
use Rattle.iocm_model.specs.Machine.Numbering.{opening}
use Rattle.iocm_model.specs.Rules.FirstBreach.{Breach, first_breach}
use Rattle.iocm_config.proofs.Keyed.{keyed_made}
use Rattle.iocm_round_trip.specs.Again.{records_in}
use Rattle.iocm_round_trip.specs.Given.{IsGiven}
use Rattle.iocm_round_trip.proofs.GivenRecords.{gives_records}
use Rattle.iocm_difference_writer.specs.Again.{HasGiven}
use Rattle.iocm_console.specs.Opening.{configuration_in, opened, unless_breached}
use Rattle.iocm_console.specs.Refusal.{or_refused, ◌>>-◌}
use Rattle.iocm_difference_laws.specs.Accepted.{IsAcceptedDeck, AcceptedDecksAreConfigurationsOfDecks}

-- ---- the records of a deck

-- the records that a configuration was read of
pub record IsReadOf (bytes : List ℕ) (c : Configuration) : Type 0 where
  pub records : List Rec
  pub are_read : records_in bytes ≡ Ok records
  pub own : configuration_of records ≡ c

-- what is opened was read, and breaks no rule
opened_kept : (c d : Configuration) (breach : Option Breach) → unless_breached breach c ≡ Ok d
    → (breach ≡ None) × (c ≡ d)
opened_kept c d None is = (refl, cc)
opened_kept c d (Some b) is = cc

opened_parts : (read : Result Configuration Fault) (c : Configuration) → (or_refused read >>- opened) ≡ Ok c
    → (read ≡ Ok c) × (first_breach c (opening c) ≡ None)
opened_parts (Err fault) c is = cc
opened_parts (Ok d) c is =
    let kept = opened_kept d c (first_breach d (opening d)) is in
    (ap Ok kept.1, subst (λ e. first_breach e (opening e) ≡ None) kept.1 kept.0)

pub read_of : (bytes : List ℕ) (c : Configuration) → IsAcceptedDeck bytes c → IsReadOf bytes c
read_of bytes c is = by (records_in bytes) refl (opened_parts (configuration_in bytes) c is).0
  where
    by : (read : Result (List Rec) Fault) → records_in bytes ≡ read
        → (read >>= λ records. Ok (configuration_of records)) ≡ Ok c → IsReadOf bytes c
    by (Err fault) same none = cc
    by (Ok records) same some = record { records = records; are_read = same; own = cc }

-- ---- each is such as decks give

found_by : (P : Rec → Type 0) (b : Bool) (first r : Rec) (rest : Option Rec) → P first → (rest ≡ Some r → P r)
    → cond b (Some first) rest ≡ Some r → P r
found_by P true first r rest own later is = let same : first ≡ r = cc in subst P same own
found_by P false first r rest own later is = later is

found : (P : Rec → Type 0) (records : List Rec) (k : Key) (r : Rec) → All P records
    → find key_cmp k (with_keys records) ≡ Some r → P r
found P [] k r all is = cc
found P (x ∷ records) k r all is =
    found_by P (eq_by_cmp key_cmp k (key_of x)) x r (find key_cmp k (with_keys records)) (All-head P x records all)
    (found P records k r (All-tail P x records all)) is

has_given : (records : List Rec) → All IsGiven records → HasGiven (configuration_of records)
has_given records all k r there =
    found IsGiven records k r all (sym (get-from_entries keys_total (with_keys records) k) ∙ there)

pub accepted_decks_are_configurations_of_decks : AcceptedDecksAreConfigurationsOfDecks
accepted_decks_are_configurations_of_decks bytes c is =
    let read = read_of bytes c is in record {
      keyed = subst IsKeyed read.own (keyed_made read.records);
      given = subst HasGiven read.own (has_given read.records (gives_records bytes read.records read.are_read));
      rules = (opened_parts (configuration_in bytes) c is).1;
    }
