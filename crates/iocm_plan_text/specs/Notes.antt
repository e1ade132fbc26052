-- The notes of a plan.
use Rattle.std.specs.Prelude.{ℕ, nat_lt, Bool, true, false, if◌then◌else◌, Option, None, Some, List, [], ◌++◌, length, codes}
use Rattle.std.specs.List.{flat_map, list_any}
use Rattle.iocm_model.specs.Machine.Configuration.{Configuration}
use Rattle.iocm_difference.specs.Difference.{difference}
use Rattle.iocm_objects.specs.Counts.{is_of_kind}
use Rattle.iocm_objects.specs.declared.counts.ObjectKind.TheVariants as kind
use Rattle.iocm_objects.specs.declared.object.Object.{Object}
use Rattle.iocm_plan_text.specs.Limits.{limit_line, low_limits}
use Rattle.iocm_plan_text.specs.Summary.{number}

abbrev pub tells_limit : List Object → Bool
tells_limit os = list_any (λ (o : Object). is_of_kind kind.Limit o.key) os

abbrev pub maxdev_note : List Object → List ℕ
maxdev_note os =
    if tells_limit os then codes "note: a real machine takes MAXDEV at its next power-on reset\n" else []

-- a change deck has 4,096 edits at most
abbrev pub note_of_edits : ℕ → List ℕ
note_of_edits edits = if nat_lt 4096 edits
    then ((codes "note: " ++ number edits) ++ codes " edits, and a change deck has 4,096 at most (C2): ")
    ++ codes "go by way of a deck between the two\n"
    else []

abbrev pub edits_note : Option ℕ → List ℕ
edits_note None = []
edits_note (Some edits) = note_of_edits edits

-- what is noted of two decks: how many edits lead from the one to the other, and limits that may be too low
pub record DeckNotes : Type 0 where
  pub edits : Option ℕ
  pub limits : List (ℕ × ℕ)

-- of a deck and a change deck the machine itself tells what it refuses
abbrev pub notes_of_decks : Bool → Configuration → Configuration → DeckNotes
notes_of_decks true c d = record { edits = Some (length (difference c d)); limits = low_limits c d }
notes_of_decks false c d = record { edits = None; limits = [] }

abbrev pub notes : DeckNotes → List Object → List ℕ
notes n os = (maxdev_note os ++ edits_note n.edits) ++ flat_map limit_line n.limits
