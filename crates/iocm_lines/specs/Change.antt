-- The lines of a change: its number, and what it altered, in all and by image.
use Rattle.std.specs.Prelude.{ℕ, [], ◌∷◌, codes}
use Rattle.serde_json.specs.Data.{Data, string}
use Rattle.iocm_lines.specs.Members.{object_of, count, image_name}
use Rattle.iocm_lines.specs.declared.change.AlteredCounts.{AlteredCounts}

-- how many subchannels were altered, and the number of the change
abbrev pub change_value : ℕ → ℕ → Data
change_value altered change =
    object_of (
    (codes "altered", count altered)
    ∷ (codes "change", count change)
    ∷ (codes "type", string (codes "change")) ∷ [])

-- of an image, how many came, changed, are gone and are the same
abbrev pub count_value : AlteredCounts → Data
count_value n =
    object_of (
    (codes "came", count n.came)
    ∷ (codes "changed", count n.changed)
    ∷ (codes "gone", count n.gone)
    ∷ (codes "image", string (image_name n.image))
    ∷ (codes "same", count n.same)
    ∷ (codes "type", string (codes "count")) ∷ [])
