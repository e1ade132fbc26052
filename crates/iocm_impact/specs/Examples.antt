-- Marks and counts, rows, blocks and images, as they are worked by hand.
use Rattle.std.specs.Prelude.{◌≡◌, ℕ, Bool, true, false, Option, None, Some, List, [], ◌∷◌, fold, codes}
use Rattle.iocm_types.specs.declared.key.Key.TheVariants as key
use Rattle.iocm_types.specs.declared.view.View.{View}
use Rattle.iocm_model.specs.Machine.Record.{Rec, ImageRecord, image, limit}
use Rattle.iocm_plan.specs.declared.effect.Effect.{Effect}
use Rattle.iocm_plan.specs.declared.runs.DeviceRun.{DeviceRun}
use Rattle.iocm_impact.specs.Blocks.{Told, same_rows, with_told}
use Rattle.iocm_impact.specs.Counts.{counts_of}
use Rattle.iocm_impact.specs.Impact.{named_image}
use Rattle.iocm_impact.specs.Marks.{either, marks_of, no_marks}
use Rattle.iocm_impact.specs.Rows.{rows}
use Rattle.iocm_impact.specs.declared.counts.Counts.{Counts}
use Rattle.iocm_impact.specs.declared.marks.Marks.{Marks}
use Rattle.iocm_impact.specs.declared.named_image.NamedImage.{NamedImage}
use Rattle.iocm_impact.specs.declared.row.Row.{Row}

-- ---- what is seen of a device on paths 60 and 61: both installed, those of a mask online

abbrev pub seen_with : ℕ → ℕ → View
seen_with pam number = record { device = number; paths = 0x60 ∷ 0x61 ∷ []; pim = 0xC0; pam = pam }

abbrev pub done : Option View → Option View → Effect
done b a = record { before = b; after = a; interrupted = false; offon = false }

-- path 60 goes offline; then both do; the device goes; it stays, and path 61 may go off and on
abbrev pub one_off : ℕ → Effect
one_off number = done (Some (seen_with 0xC0 number)) (Some (seen_with 0x40 number))

abbrev pub both_off : ℕ → Effect
both_off number = done (Some (seen_with 0xC0 number)) (Some (seen_with 0x00 number))

abbrev pub goes : ℕ → Effect
goes number = done (Some (seen_with 0xC0 number)) None

abbrev pub comes : ℕ → Effect
comes number = done None (Some (seen_with 0xC0 number))

abbrev pub stays : ℕ → Effect
stays number = done (Some (seen_with 0xC0 number)) (Some (seen_with 0xC0 number))

abbrev pub rerouted : ℕ → Effect
rerouted number = record (stays number) { offon = true }

abbrev pub interrupted : ℕ → Effect
interrupted number = record (rerouted number) { interrupted = true }

-- so many devices from a number of set 0 on, and the same in set 1
abbrev pub run_in : ℕ → ℕ → ℕ → DeviceRun
run_in set number count = record { first = record { set = set; number = number }; count = count }

abbrev pub run : ℕ → ℕ → DeviceRun
run = run_in 0

abbrev pub row : DeviceRun → Effect → Row
row r e = record { run = r; effect = e }

-- ---- marks and counts

abbrev pub one_path_marks : Marks
one_path_marks = record no_marks { changed = true; one_path = true }

abbrev pub gone_marks : Marks
gone_marks = record no_marks { gone = true; lost = true }

pub record CountsAreAsWorked : Type 0 where
  pub one_off : marks_of (one_off 0x2000) ≡ one_path_marks
  pub both_off : marks_of (both_off 0x2000) ≡ record no_marks { changed = true; lost = true }
  pub goes : marks_of (goes 0x2000) ≡ gone_marks
  pub comes : marks_of (comes 0x2000) ≡ record no_marks { came = true }
  pub rerouted : marks_of (rerouted 0x2000) ≡ record no_marks { same = true; off_and_on = true }
  pub interrupted : marks_of (interrupted 0x2000)
      ≡ record no_marks { same = true; off_and_on = true; interrupted = true }
  pub both : either gone_marks one_path_marks
      ≡ record no_marks { gone = true; lost = true; changed = true; one_path = true }
  -- of runs of 16, 4 and 1
  pub counts : counts_of (run 0x2000 16 ∷ run 0x2010 4 ∷ run 0x2100 1 ∷ [])
      (one_path_marks ∷ gone_marks ∷ one_path_marks ∷ []) ≡ record {
        gone = 4;
        came = 0;
        changed = 17;
        same = 0;
        lost = 4;
        interrupted = 0;
        one_path = 17;
        off_and_on = 0;
      }

-- ---- rows

pub record RowsAreAsWorked : Type 0 where
  -- runs that follow each other, of which the same is told, are one row
  pub joined : rows (run 0x2000 8 ∷ run 0x2008 8 ∷ run 0x2010 1 ∷ [])
      (one_off 0x2000 ∷ one_off 0x2008 ∷ one_off 0x2010 ∷ [])
      ≡ row (run 0x2000 17) (one_off 0x2000) ∷ []
  -- over a gap they aren't, nor in two sets, nor where something else is told
  pub gap : rows (run 0x2000 8 ∷ run 0x2009 8 ∷ []) (one_off 0x2000 ∷ one_off 0x2009 ∷ [])
      ≡ row (run 0x2000 8) (one_off 0x2000) ∷ row (run 0x2009 8) (one_off 0x2009) ∷ []
  pub two_sets : rows (run 0x2000 8 ∷ run_in 1 0x2008 8 ∷ []) (one_off 0x2000 ∷ one_off 0x2008 ∷ [])
      ≡ row (run 0x2000 8) (one_off 0x2000) ∷ row (run_in 1 0x2008 8) (one_off 0x2008) ∷ []
  pub other_paths : rows (run 0x2000 8 ∷ run 0x2008 8 ∷ []) (one_off 0x2000 ∷ both_off 0x2008 ∷ [])
      ≡ row (run 0x2000 8) (one_off 0x2000) ∷ row (run 0x2008 8) (both_off 0x2008) ∷ []
  pub other_reason : rows (run 0x2000 8 ∷ run 0x2008 8 ∷ [])
      (record (goes 0x2000) { offon = true } ∷ goes 0x2008 ∷ [])
      ≡ row (run 0x2000 8) (record (goes 0x2000) { offon = true }) ∷ row (run 0x2008 8) (goes 0x2008) ∷ []
  -- a run of which no row is told is left out, and ends a row
  pub left_out : rows (run 0x2000 8 ∷ run 0x2008 8 ∷ run 0x2010 8 ∷ [])
      (one_off 0x2000 ∷ rerouted 0x2008 ∷ one_off 0x2010 ∷ [])
      ≡ row (run 0x2000 8) (one_off 0x2000) ∷ row (run 0x2010 8) (one_off 0x2010) ∷ []
  pub told : rows (run 0x2000 8 ∷ []) (interrupted 0x2000 ∷ []) ≡ row (run 0x2000 8) (interrupted 0x2000) ∷ []
  pub none : rows (run 0x2000 8 ∷ run 0x2008 8 ∷ []) (stays 0x2000 ∷ rerouted 0x2008 ∷ []) ≡ []

-- ---- blocks

abbrev pub named : ℕ → List ℕ → NamedImage
named mif name = record { image = record { css = 0; mif = mif }; name = name }

abbrev pub lp1 : NamedImage
lp1 = named 1 (codes "LP01")

abbrev pub lp2 : NamedImage
lp2 = named 2 (codes "LP02")

abbrev pub lp3 : NamedImage
lp3 = named 3 (codes "LP03")

abbrev pub some_rows : List Row
some_rows = row (run 0x2000 8) (one_off 0x2000) ∷ row (run 0x2100 1) (goes 0x2100) ∷ []

abbrev pub fewer_rows : List Row
fewer_rows = row (run 0x2000 8) (one_off 0x2000) ∷ []

abbrev pub block : List NamedImage → List Row → Told
block is rs = record { images = is; rows = rs }

pub record BlocksAreAsWorked : Type 0 where
  -- the first image and the third have the same rows
  pub together : with_told (with_told (with_told [] lp1 some_rows) lp2 fewer_rows) lp3 some_rows
      ≡ block (lp1 ∷ lp3 ∷ []) some_rows ∷ block (lp2 ∷ []) fewer_rows ∷ []
  pub no_rows : with_told (block (lp1 ∷ []) some_rows ∷ []) lp2 [] ≡ block (lp1 ∷ []) some_rows ∷ []
  -- rows differ by their set, their first device, their count, and by what is told
  pub other_set : same_rows (row (run 0x2000 8) (goes 0x2000) ∷ []) (row (run_in 1 0x2000 8) (goes 0x2000) ∷ []) ≡ false
  pub other_first : same_rows (row (run 0x2000 8) (goes 0x2000) ∷ []) (row (run 0x2001 8) (goes 0x2000) ∷ []) ≡ false
  pub other_count : same_rows (row (run 0x2000 8) (goes 0x2000) ∷ []) (row (run 0x2000 7) (goes 0x2000) ∷ []) ≡ false
  pub other_effect : same_rows (row (run 0x2000 8) (goes 0x2000) ∷ []) (row (run 0x2000 8) (comes 0x2000) ∷ []) ≡ false
  pub off_and_on : same_rows (row (run 0x2000 8) (stays 0x2000) ∷ []) (row (run 0x2000 8) (rerouted 0x2000) ∷ [])
      ≡ false

-- ---- images

abbrev pub image_record : ℕ → List ℕ → Rec
image_record mif name = image (record { css = 0; mif = mif; name = name })

pub record ImagesAreAsWorked : Type 0 where
  -- by its name after, or before if it is deleted
  pub stays : named_image (key.Image 0 1, (Some (image_record 1 (codes "OLD")), Some (image_record 1 (codes "LP01"))))
      ≡ Some lp1
  pub added : named_image (key.Image 0 1, (None, Some (image_record 1 (codes "LP01")))) ≡ Some lp1
  pub deleted : named_image (key.Image 0 1, (Some (image_record 1 (codes "LP01")), None)) ≡ Some lp1
  pub no_image : named_image (key.Limit 0 1, (None, Some (limit (record { css = 0; set = 1; limit = 5 })))) ≡ None
