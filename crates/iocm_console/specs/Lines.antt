-- The rows of the table in a form, image by image: those of the subchannels that pass.
use Rattle.std.specs.Prelude.{◌≡◌, ℕ, ◌==◌, Bool, true, List, [], ◌∷◌, ◌++◌, map, Option, None, Some, if◌then◌else◌}
use Rattle.std.specs.List.{flat_map, filter_map}
use Rattle.iocm_types.specs.declared.image.Image.{Image}
use Rattle.iocm_types.specs.declared.place.NumberCell.{NumberCell}
use Rattle.iocm_types.specs.declared.sub_id.SubId.{SubId}
use Rattle.iocm_types.specs.declared.view.View.{View}
use Rattle.iocm_model.specs.Machine.Record.{Rec, ImageRecord}
use Rattle.iocm_model.specs.Machine.Configuration.{Configuration, Lookup, as_image}
use Rattle.iocm_model.specs.Machine.Table.{line_of}
use Rattle.iocm_lines.specs.declared.form.Form.{Form}
use Rattle.iocm_lines.specs.declared.form.Form.TheVariants.{Text, Json}
use Rattle.iocm_lines.specs.Lines as json
use Rattle.iocm_lines.specs.Subchannel.{subchannel_value}
use Rattle.iocm_lines.specs.Told.{LineOf}
use Rattle.iocm_model.specs.Machine.View.{image_view}
use Rattle.iocm_filter.specs.Sieves.{Sieve, passes, passes_image}
use Rattle.iocm_console.specs.declared.cells.CellDevice.{CellDevice}

-- number cells with their devices
abbrev pub CellDevices : Type 0
CellDevices = List (NumberCell × ℕ)

-- a configuration, and number cells with their devices
pub record Gathered : Type 0 where
  pub records : Configuration
  pub cells : CellDevices

-- each number cell with its device
abbrev pub celled : List CellDevice → CellDevices
celled xs = map (λ (e : CellDevice). (e.cell, e.device)) xs

-- the image of a record
abbrev pub image_of : ImageRecord → Image
image_of i = record { css = i.css; mif = i.mif }

-- the subchannel of an image at a number cell
abbrev pub subchannel_at : Image → NumberCell → SubId
subchannel_at i cell = record { image = i; set = cell.set; number = cell.number }

-- what an image sees at a number cell, which is that of its channel subsystem
abbrev pub seen_at : Lookup → ImageRecord → NumberCell × ℕ → Option View
seen_at c i e = if e.0.css == i.css then image_view c i e.0.set e.1 else None

-- a subchannel with its view in a form, with the end of its line; its image has this name
abbrev pub row_text : Form → List ℕ → SubId × View → List ℕ
row_text Text name row = line_of row ++ 10 ∷ []
row_text Json name row = json.line (subchannel_value row name)

-- the line of what is seen at a subchannel, with its end
abbrev pub line_at : SubId → Option View → List ℕ
line_at x None = []
line_at x (Some v) = line_of (x, v) ++ 10 ∷ []

-- lines of JSON are of an image
pub record AreLinesOf (i : ImageRecord) (lines : LineOf) : Type 0 where
  pub image : lines.image ≡ image_of i
  pub name : lines.name ≡ i.name

-- what is seen at a subchannel in a form; its image has this name
abbrev pub text_at : Form → List ℕ → SubId → Option View → List ℕ
text_at form name x None = []
text_at form name x (Some v) = row_text form name (x, v)

-- ---- what passes

-- an image passes, or a subchannel with its view; without a sieve each does
abbrev pub is_image_kept : Option Sieve → Image → Bool
is_image_kept None i = true
is_image_kept (Some s) i = passes_image s i

abbrev pub is_kept : Option Sieve → SubId × View → Bool
is_kept None row = true
is_kept (Some s) row = passes s row

-- what is seen at a subchannel passes, or nothing is seen there
abbrev pub is_view_kept : Option Sieve → SubId → Option View → Bool
is_view_kept s x None = true
is_view_kept s x (Some v) = is_kept s (x, v)

-- what is seen at a subchannel in a form, if it passes; its image has this name
abbrev pub kept_line : Form → Option Sieve → List ℕ → SubId → Option View → List ℕ
kept_line form s name x None = []
kept_line form s name x (Some v) = if is_kept s (x, v) then row_text form name (x, v) else []

-- the lines of an image at some number cells
unfoldable pub image_lines : Form → Option Sieve → Lookup → ImageRecord → CellDevices → List ℕ
image_lines form s c i cells =
    flat_map (λ (e : NumberCell × ℕ). kept_line form s i.name (subchannel_at (image_of i) e.0) (seen_at c i e)) cells

-- the lines of the images among some records
unfoldable pub record_lines : Form → Option Sieve → Lookup → CellDevices → List Rec → List ℕ
record_lines form s c cells records = flat_map (λ i. image_lines form s c i cells) (filter_map as_image records)
