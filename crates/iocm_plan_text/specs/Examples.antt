-- Summaries, notes and sections as they are printed, worked by hand.
use Rattle.std.specs.Prelude.{◌≡◌, true, false, List, [], ◌∷◌, ◌++◌, codes}
use Rattle.iocm_types.specs.declared.key.Key.{Key}
use Rattle.iocm_types.specs.declared.key.Key.TheVariants as key
use Rattle.iocm_objects.specs.declared.object.Change.{Change}
use Rattle.iocm_objects.specs.declared.object.Change.TheVariants.{Added, Deleted, Changed}
use Rattle.iocm_objects.specs.declared.object.Object.{Object}
use Rattle.iocm_impact.specs.Impact.{Impact}
use Rattle.iocm_impact.specs.declared.counts.Counts.{Counts}
use Rattle.iocm_plan_text.specs.Limits.{limit_line}
use Rattle.iocm_plan_text.specs.Notes.{maxdev_note, note_of_edits}
use Rattle.iocm_plan_text.specs.Sections.{is_told, section}
use Rattle.iocm_plan_text.specs.Summary.{nothing, summary}

abbrev pub object : Key → Change → Object
object key change = record { key = key; change = change; before = []; after = []; told = [] }

abbrev pub some_objects : List Object
some_objects =
    object key.Id Changed ∷ object (key.Limit 0 0) Added ∷ object (key.Path 0 0x60) Changed ∷ object (key.Unit 0x0B00) Deleted
    ∷ object (key.Device 0 0x0B20) Added ∷ object (key.Device 0 0x0B21) Added ∷ []

pub record SummariesAreAsWorked : Type 0 where
  pub some : summary false some_objects
      ≡ codes "Plan: add 3 (1 limit, 2 devices), delete 1 (1 control unit), change 2 (id, 1 path).\n"
  pub filtered : summary true (object (key.Image 0 1) Added ∷ object (key.Image 0 2) Added ∷ [])
      ≡ codes "Plan, as filtered: add 2 (2 images), delete 0, change 0.\n"
  pub same : nothing false ≡ codes "Plan: nothing differs.\n"
  pub none_left : nothing true ≡ codes "Plan, as filtered: nothing.\n"

pub record NotesAreAsWorked : Type 0 where
  pub most : note_of_edits 4096 ≡ []
  pub many : note_of_edits 4352
      ≡ codes "note: 4,352 edits, and a change deck has 4,096 at most (C2): go by way of a deck between the two\n"
  pub low : limit_line (0, 1)
      ≡ (codes "note: MAXDEV of set 1 in channel subsystem 0 is less than the devices of the set before and after: "
      ++ codes "on a running machine one that stays may have too high a number (V13)\n")
  pub limit : maxdev_note some_objects ≡ codes "note: a real machine takes MAXDEV at its next power-on reset\n"
  pub no_limit : maxdev_note [] ≡ []

-- an impact on no image
abbrev pub no_counts : Counts
no_counts = record { gone = 0; came = 0; changed = 0; same = 0; lost = 0; interrupted = 0; one_path = 0; off_and_on = 0 }

abbrev pub no_impact : Impact
no_impact = record { images = []; blocks = []; devices = no_counts; all = 2 }

pub record SectionsAreAsWorked : Type 0 where
  pub some : section (codes "a\n") ≡ codes "a\n\n"
  pub none : section [] ≡ []
  pub told : is_told some_objects no_impact ≡ true
  pub untold : is_told [] no_impact ≡ false
