-- The first of all breaches is the one that `check` prints.
use Rattle.std.proofs.Common.{◌≡◌, ◌⊎◌, ◌++◌, ◌∙◌, ℕ, List, [], ◌∷◌, Option, None, Some, Result, Ok, Err, refl, sym, subst}
use Rattle.std.proofs.Common.{ap, inl, inr}
use Rattle.std.proofs.lemmas.List.{append-nil}
use Rattle.iocm_types.specs.declared.fault.Fault.{Fault}
use Rattle.iocm_types.specs.Fault.{◌>>=◌}
use Rattle.iocm_columns.specs.declared.joined.Joined.{Joined}
use Rattle.iocm_columns.specs.Statements.{joined_of}
use Rattle.iocm_lines.specs.declared.form.Form.{Form}
use Rattle.iocm_lines.specs.declared.form.Form.TheVariants.{Text, Json}
use Rattle.iocm_model.specs.Machine.Record.{Rec}
use Rattle.iocm_origin.specs.Faults.{fault_of, if_joined, first_of as first_fault_of}
use Rattle.iocm_origin.proofs.FirstFault.{first_comes_first as first_fault_comes_first}
use Rattle.iocm_record_reader.specs.Deck.{deck_records}
use Rattle.iocm_statements.specs.Statement.{parsed}
use Rattle.iocm_model.specs.Machine.Configuration.{Configuration, configuration_of}
use Rattle.iocm_model.specs.Machine.Numbering.{opening}
use Rattle.iocm_model.specs.Rules.FirstBreach.{Breach, first_breach}
use Rattle.iocm_breaches.specs.Breaches.{all_breaches}
use Rattle.iocm_breaches.specs.Laws.{first_of}
use Rattle.iocm_breaches.proofs.FirstOfAll.{first_comes_first}
use Rattle.iocm_console.specs.Opening.{configuration_in, opened, unless_breached}
use Rattle.iocm_console.specs.Refusal.{of_fault, or_refused, ◌>>-◌}
use Rattle.iocm_console.specs.Shown.{Shown}
use Rattle.iocm_answer.specs.declared.manner.Manner.{Manner}
use Rattle.iocm_answer.specs.Manner.{refusal_in, refused, shown_or_refused}
use Rattle.iocm_answer.specs.Answer.{breach_lines, fault_lines}
use Rattle.iocm_answer.specs.Commands.Check.{BeginsAs, BeginsAsCheck, accepted, all_read, all_refused, all_told}
use Rattle.iocm_answer.specs.Commands.Check.{faults_told, unless_any}

same : (shown : Shown) → BeginsAs shown shown
same shown = record { further = []; text = sym (append-nil shown.text); status = refl }

begins : (m : Manner) (bs : List Breach) (c : Configuration)
    → BeginsAs (shown_or_refused m (accepted m) (unless_breached (first_of bs) c)) (unless_any m bs (accepted m c))
begins m [] c = same (accepted m c)
begins m (b ∷ bs) c = record { further = breach_lines m bs; text = refl; status = refl }

-- the first of all faults of a deck that isn't read, if it has a list of them, is that by which it is refused
first_told : (form : Form) (deck : List ℕ) (fault : Fault) → configuration_in deck ≡ Err fault
    → (faults_told form deck ≡ []) ⊎ (first_fault_of (faults_told form deck) ≡ Some fault)
first_told Text deck fault is = inl refl
first_told Json deck fault is = by (joined_of deck) is
  where
    by : (joined : Result (List Joined) Fault)
        → ((joined >>= parsed >>= deck_records) >>= λ records. Ok (configuration_of records)) ≡ Err fault
        → (if_joined joined ≡ []) ⊎ (first_fault_of (if_joined joined) ≡ Some fault)
    by (Err first) is = inl refl
    by (Ok js) is = inr (first_fault_comes_first js ∙ of_records (parsed js >>= deck_records) is)
      where
        of_records : (read : Result (List Rec) Fault) → (read >>= λ records. Ok (configuration_of records)) ≡ Err fault
            → fault_of read ≡ Some fault
        of_records (Ok records) is = cc
        of_records (Err why) is = let same : why ≡ fault = cc in ap Some same

begins_with : (m : Manner) (fault : Fault) (fs : List Fault) → (fs ≡ []) ⊎ (first_fault_of fs ≡ Some fault)
    → BeginsAs (refused m (of_fault fault)) (all_refused m fault fs)
begins_with m fault [] first = same (refused m (of_fault fault))
begins_with m fault (f ∷ fs) (inl none) = cc
begins_with m fault (f ∷ fs) (inr some) =
    let is : f ≡ fault = cc in
    record { further = fault_lines m fs; text = ap (λ g. refusal_in m (of_fault g) ++ fault_lines m fs) is; status = refl }

pub begins_as_check : BeginsAsCheck
begins_as_check m deck = by (configuration_in deck) refl
  where
    by : (read : Result Configuration Fault) → configuration_in deck ≡ read
        → BeginsAs (shown_or_refused m (accepted m) (or_refused read >>- opened)) (all_read m deck read)
    by (Err fault) is = begins_with m fault (faults_told m.form deck) (first_told m.form deck fault is)
    by (Ok c) is = subst (λ o. BeginsAs (shown_or_refused m (accepted m) (unless_breached o c)) (all_told m c))
        (first_comes_first c (opening c)) (begins m (all_breaches c (opening c)) c)
