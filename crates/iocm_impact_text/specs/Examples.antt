-- Rows, blocks and totals as they are printed, worked by hand.
use Rattle.std.specs.Prelude.{◌≡◌, ℕ, true, Option, None, Some, List, [], ◌∷◌, ◌++◌, codes}
use Rattle.std.specs.List.{flat_map}
use Rattle.iocm_types.specs.declared.view.View.{View}
use Rattle.iocm_plan.specs.declared.effect.Effect.{Effect}
use Rattle.iocm_impact.specs.Blocks.{Told}
use Rattle.iocm_impact.specs.Examples.{block, done, lp1, lp2, named, row, run, run_in}
use Rattle.iocm_impact.specs.Impact.{Impact}
use Rattle.iocm_impact_text.specs.Listed.{images_text}
use Rattle.iocm_impact_text.specs.RowText.{row_text}
use Rattle.iocm_impact_text.specs.Texts.{blocks_text, images_table, totals_line}
use Rattle.iocm_impact.specs.declared.counts.Counts.{Counts}
use Rattle.iocm_impact.specs.declared.counts.ImageCounts.{ImageCounts}
use Rattle.iocm_impact.specs.declared.named_image.NamedImage.{NamedImage}
use Rattle.iocm_impact.specs.declared.row.Row.{Row}

-- ---- rows of devices on paths 60 to 63, with these masks

abbrev pub seen : ℕ → ℕ → Option View
seen pim pam = Some (record { device = 0; paths = 0x60 ∷ 0x61 ∷ 0x62 ∷ 0x63 ∷ []; pim = pim; pam = pam })

-- and of some on path 60 alone
abbrev pub alone : ℕ → Option View
alone pam = Some (record { device = 0; paths = 0x60 ∷ []; pim = 0x80; pam = pam })

abbrev pub one_off : Row
one_off = row (run 0x0A80 16) (done (seen 0xF0 0xF0) (seen 0xF0 0x70))

abbrev pub deleted : Row
deleted = row (run 0x0B10 16) (done (seen 0xF0 0xF0) None)

pub record RowsAreToldAsWorked : Type 0 where
  pub changed : row_text one_off ≡ codes "~ 0A80-0A8F (16)      60 61 62 63 -> (60) 61 62 63"
  pub interrupted : row_text
      (row (run 0x0B00 16) (record (done (seen 0xF0 0xF0) (seen 0xF0 0x70)) { interrupted = true }))
      ≡ codes "~ 0B00-0B0F (16)      60 61 62 63 -> (60) 61 62 63  interrupted"
  pub gone : row_text deleted ≡ codes "- 0B10-0B1F (16)      60 61 62 63  lost"
  pub came : row_text (row (run 0x0B20 16) (done None (seen 0xF0 0x70)))
      ≡ codes "+ 0B20-0B2F (16)      (60) 61 62 63"
  pub lost : row_text (row (run 0x0C20 4) (done (alone 0x80) (alone 0x00)))
      ≡ codes "~ 0C20-0C23 (4)       60 -> (60)  lost"
  -- a device alone, in set 1; paths that aren't for this image
  pub one : row_text (row (run_in 1 0x0C20 1) (done None (seen 0xA0 0x80)))
      ≡ codes "+ 1.0C20              60 [61] (62) [63]"
  -- what is seen stays, and both marks
  pub same : row_text (row (run 0x0C20 4) (record (done (alone 0x80) (alone 0x80)) { interrupted = true }))
      ≡ codes "= 0C20-0C23 (4)       60  interrupted"
  pub two_marks : row_text
      (row (run 0x0C20 4) (record (done (seen 0xF0 0xF0) (seen 0xF0 0x10)) { interrupted = true }))
      ≡ codes "~ 0C20-0C23 (4)       60 61 62 63 -> (60) (61) (62) 63  interrupted, one path left"

-- ---- blocks

abbrev pub line : List ℕ → List ℕ
line text = text ++ 10 ∷ []

abbrev pub lines : List (List ℕ) → List ℕ
lines texts = flat_map line texts

abbrev pub named_in : ℕ → ℕ → NamedImage
named_in css mif = record { image = record { css = css; mif = mif }; name = codes "A" }

abbrev pub nine : List NamedImage
nine = named_in 0 1 ∷ named_in 0 2 ∷ named_in 0 3 ∷ named_in 0 0xA ∷ named_in 1 0xB ∷ named_in 1 0xC ∷ named_in 1 0xD
    ∷ named_in 1 0xE ∷ named_in 2 1 ∷ []

pub record BlocksAreToldAsWorked : Type 0 where
  pub blocks : blocks_text 2
      (block (lp1 ∷ lp2 ∷ []) (one_off ∷ deleted ∷ []) ∷ block (named 3 (codes "A") ∷ []) (deleted ∷ []) ∷ [])
      ≡ lines (codes "0.1 LP01, 0.2 LP02:" ∷ codes "~ 0A80-0A8F (16)      60 61 62 63 -> (60) 61 62 63"
      ∷ codes "- 0B10-0B1F (16)      60 61 62 63  lost" ∷ [] ∷ codes "0.3 A:"
      ∷ codes "- 0B10-0B1F (16)      60 61 62 63  lost" ∷ [])
  pub none : blocks_text 2 [] ≡ []
  pub many : images_text 60 nine ≡ codes "9 images (0.1-0.3, 0.A, 1.B-1.E, 2.1)"
  pub all : images_text 9 nine ≡ codes "all 9 images"
  pub all_few : images_text 2 (lp1 ∷ lp2 ∷ []) ≡ codes "0.1 LP01, 0.2 LP02"

-- ---- the table of images, and totals

abbrev pub some_counts : Counts
some_counts = record {
  gone = 16;
  came = 16;
  changed = 36;
  same = 0;
  lost = 20;
  interrupted = 16;
  one_path = 0;
  off_and_on = 16;
}

abbrev pub with_counts : NamedImage → ImageCounts
with_counts i = record { image = i; counts = some_counts }

abbrev pub impact_with : Counts → Impact
impact_with counts = record { images = with_counts lp1 ∷ with_counts lp2 ∷ []; blocks = []; devices = counts; all = 90 }

pub record TotalsAreToldAsWorked : Type 0 where
  pub table : images_table (with_counts lp1 ∷ with_counts lp2 ∷ []) ≡ lines (
      codes "IMAGE  NAME  GONE  CAME  CHANGED  SAME  LOST  INTERRUPTED  ONE-PATH  OFF-ON"
      ∷ codes "0.1    LP01    16    16       36     0    20           16         0      16"
      ∷ codes "0.2    LP02    16    16       36     0    20           16         0      16" ∷ [])
  pub no_table : images_table [] ≡ []
  pub totals : totals_line (impact_with some_counts)
      ≡ line (codes "Images: 2 of 90 affected. Devices: 16 gone, 16 came, 36 changed; "
      ++ codes "20 lost, 16 interrupted, 0 with one path left, 16 off and on.")
  pub commas : totals_line (impact_with (record some_counts { gone = 5400000; one_path = 1000 }))
      ≡ line (codes "Images: 2 of 90 affected. Devices: 5,400,000 gone, 16 came, 36 changed; "
      ++ codes "20 lost, 16 interrupted, 1,000 with one path left, 16 off and on.")
