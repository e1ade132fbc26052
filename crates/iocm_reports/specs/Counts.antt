-- What is printed for `--count`: of each image, how many of its subchannels are gone, came, changed, and are
-- the same. Bytes by their codes: 10 ends a line.
use Rattle.std.specs.Prelude.{ℕ, Bool, false, not, ◌&&◌, nat_eq, List, [], ◌∷◌, ◌++◌, codes, map, filter, count_by}
use Rattle.std.specs.Fmt.{digits}
use Rattle.std.specs.List.{flat_map, dedup}
use Rattle.std.specs.Option.{is_some, option_eq}
use Rattle.iocm_types.specs.declared.image.Image.{Image}
use Rattle.iocm_types.specs.Print.{hex1}
use Rattle.iocm_model.specs.Change.Edit.{same_view}
use Rattle.iocm_seats.specs.declared.view_change.ViewChange.{ViewChange}
use Rattle.iocm_lines.specs.Change.{count_value}
use Rattle.iocm_lines.specs.declared.change.AlteredCounts.{AlteredCounts}
use Rattle.iocm_lines.specs.declared.form.Form.{Form}
use Rattle.iocm_lines.specs.declared.form.Form.TheVariants.{Text, Json}
use Rattle.iocm_lines.specs.Lines as json
use Rattle.iocm_reports.specs.Change.{change_in}

-- something was seen, and nothing is any more
unfoldable pub is_gone : ViewChange → Bool
is_gone r = is_some r.before && not (is_some r.after)

-- nothing was seen, and now something is
unfoldable pub has_come : ViewChange → Bool
has_come r = not (is_some r.before) && is_some r.after

-- the same is seen as before, or nothing was and is
unfoldable pub is_same : ViewChange → Bool
is_same r = option_eq same_view r.before r.after

-- something else is seen than before
unfoldable pub has_changed : ViewChange → Bool
has_changed r = is_some r.before && is_some r.after && not (is_same r)

-- how many rows of an image there are of each kind
abbrev pub counts_of : Image → List ViewChange → AlteredCounts
counts_of i rows = record {
  image = i;
  gone = count_by is_gone rows;
  came = count_by has_come rows;
  changed = count_by has_changed rows;
  same = count_by is_same rows;
}

-- two images are one
abbrev pub same_image : Image → Image → Bool
same_image a b = nat_eq a.css b.css && nat_eq a.mif b.mif

-- a row is of an image
abbrev pub is_of : Image → ViewChange → Bool
is_of i r = same_image r.subchannel.image i

-- the images that rows in order are of, each once
abbrev pub images_among : List ViewChange → List Image
images_among rows = dedup same_image (map (λ (r : ViewChange). r.subchannel.image) rows)

-- the counts of an image in decimal: image 0.2 gone 0 came 1 changed 4 same 0
abbrev pub counts_text : AlteredCounts → List ℕ
counts_text n =
    codes "image " ++ (hex1 n.image.css ++ (codes "." ++ (hex1 n.image.mif
    ++ (codes " gone " ++ (digits 10 false n.gone ++ (codes " came " ++ (digits 10 false n.came
    ++ (codes " changed " ++ (digits 10 false n.changed ++ (codes " same " ++ digits 10 false n.same))))))))))

-- the line of an image in a form
abbrev pub counts_line : Form → AlteredCounts → List ℕ
counts_line Text n = counts_text n ++ 10 ∷ []
counts_line Json n = json.line (count_value n)

-- that of an image among some rows
abbrev pub image_line : Form → List ViewChange → Image → List ℕ
image_line form rows i = counts_line form (counts_of i (filter (is_of i) rows))

-- the lines of all images that rows in order are of
unfoldable pub count_lines : Form → List ViewChange → List ℕ
count_lines form rows = flat_map (image_line form rows) (images_among rows)

-- how many subchannels a change altered, and the counts of some of them, in a form
abbrev pub counted_in : Form → ℕ → List ViewChange → List ℕ
counted_in form altered rows = change_in form altered ++ count_lines form rows

-- the same as text
abbrev pub counted_text : ℕ → List ViewChange → List ℕ
counted_text altered rows = counted_in Text altered rows
