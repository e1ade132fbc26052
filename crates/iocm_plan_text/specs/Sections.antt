-- The sections of a plan: an empty line between them, those without a line left out.
use Rattle.std.specs.Prelude.{ℕ, ◌==◌, ◌||◌, not, Bool, if◌then◌else◌, List, [], ◌∷◌, ◌++◌, length}
use Rattle.iocm_objects.specs.Lines as object
use Rattle.iocm_objects.specs.Runs.{runs}
use Rattle.iocm_objects.specs.declared.object.Object.{Object}
use Rattle.iocm_impact.specs.Impact.{Impact}
use Rattle.iocm_impact_text.specs.Texts.{blocks_text, images_table, totals_line}
use Rattle.iocm_plan_text.specs.Asked.{Asked, is_filtered}
use Rattle.iocm_plan_text.specs.Notes.{DeckNotes, notes}
use Rattle.iocm_plan_text.specs.Summary.{nothing, summary}

abbrev pub section : List ℕ → List ℕ
section text = if length text == 0 then [] else text ++ 10 ∷ []

-- ---- a brief plan leaves out objects and rows

abbrev pub object_lines : List Object → List ℕ
object_lines os = object.lines (runs os)

unfoldable pub objects_section : Bool → List Object → List ℕ
objects_section is_brief os = if is_brief then [] else section (object_lines os)

abbrev pub table_section : Impact → List ℕ
table_section i = section (images_table i.images)

abbrev pub rows_section : Bool → Impact → List ℕ
rows_section is_brief i = if is_brief then [] else section (blocks_text i.all i.blocks)

unfoldable pub impact_sections : Bool → Impact → List ℕ
impact_sections is_brief i = table_section i ++ rows_section is_brief i

-- what goes off and on, as it is given
unfoldable pub offon_section : List ℕ → List ℕ
offon_section off_and_on = section off_and_on

unfoldable pub notes_section : DeckNotes → List Object → List ℕ
notes_section n os = section (notes n os)

unfoldable pub ending : Bool → List Object → Impact → List ℕ
ending is_filtered os i = summary is_filtered os ++ totals_line i

-- ---- all of them

abbrev pub sections : Asked → DeckNotes → List ℕ → List Object → Impact → List ℕ
sections a n off os i =
    (((objects_section a.is_brief os ++ impact_sections a.is_brief i) ++ offon_section off) ++ notes_section n os)
    ++ ending (is_filtered a) os i

-- something is told: an object that differs, or an image that is affected
abbrev pub is_told : List Object → Impact → Bool
is_told os i = not (length os == 0) || not (length i.images == 0)

abbrev pub plan : Asked → DeckNotes → List ℕ → List Object → Impact → List ℕ
plan a n off os i = if is_told os i then sections a n off os i else nothing (is_filtered a)
