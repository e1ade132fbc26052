-- Words and tables as they are written by hand.
use Rattle.std.specs.Prelude.{◌≡◌, ℕ, Option, None, Some, List, [], ◌∷◌, ◌++◌, map, codes}
use Rattle.std.specs.Fmt.{decimal}
use Rattle.std.specs.List.{flat_map}
use Rattle.iocm_types.specs.declared.link.Link.{Link}
use Rattle.iocm_types.specs.declared.link.Link.TheVariants.{Long}
use Rattle.iocm_types.specs.declared.link.Link.TheVariants.{None as Unlinked}
use Rattle.iocm_words.specs.declared.images.ImagePaths.{ImagePaths}
use Rattle.iocm_words.specs.declared.paths.LinkedPath.{LinkedPath}
use Rattle.iocm_words.specs.declared.table.Side.TheVariants.{Left, Right}
use Rattle.iocm_words.specs.Images.{images_word, all_images_word}
use Rattle.iocm_words.specs.Paths.{paths_word}
use Rattle.iocm_words.specs.Ranges.{range_word, devices_word, set_word}
use Rattle.iocm_words.specs.Table.{TableColumn, table_text}
use Rattle.iocm_words.specs.Words.{carried_word, comma_word, grouped, path_word}

-- ---- tables

abbrev pub words_under : List ℕ → TableColumn
words_under heading = record { heading = heading; side = Left }

abbrev pub counts_under : List ℕ → TableColumn
counts_under heading = record { heading = heading; side = Right }

-- lines, each with its end
abbrev pub text_of : List (List ℕ) → List ℕ
text_of lines = flat_map (λ line. line ++ 10 ∷ []) lines

abbrev pub path_columns : List TableColumn
path_columns =
    words_under (codes "CHPID") ∷ words_under (codes "TYPE") ∷ words_under (codes "PCHID")
    ∷ words_under (codes "SWITCH") ∷ words_under (codes "USE") ∷ counts_under (codes "DEVICES")
    ∷ words_under (codes "ONLINE") ∷ words_under (codes "OFFLINE") ∷ words_under (codes "CU") ∷ []

abbrev pub device_columns : List TableColumn
device_columns =
    words_under (codes "DEVICE") ∷ counts_under (codes "COUNT") ∷ words_under (codes "UNIT")
    ∷ words_under (codes "CU") ∷ words_under (codes "UNITADD") ∷ words_under (codes "PATHS")
    ∷ words_under (codes "IMAGES") ∷ []

-- headings are wider than cells, and cells wider than headings; a row may be short, or too long
pub record TablesAreLaidOut : Type 0 where
  pub paths : table_text path_columns (
      (codes "0.40" ∷ codes "FC" ∷ codes "120" ∷ codes "65" ∷ codes "SHARED" ∷ codes "128" ∷ codes "A01,A02"
      ∷ codes "A03" ∷ codes "2000" ∷ [])
      ∷ (codes "1.40" ∷ codes "FC" ∷ codes "120" ∷ codes "65" ∷ codes "SHARED" ∷ codes "128" ∷ codes "A11"
      ∷ codes "-" ∷ codes "2000" ∷ []) ∷ [])
      ≡ text_of (
      codes "CHPID  TYPE  PCHID  SWITCH  USE     DEVICES  ONLINE   OFFLINE  CU"
      ∷ codes "0.40   FC    120    65      SHARED      128  A01,A02  A03      2000"
      ∷ codes "1.40   FC    120    65      SHARED      128  A11      -        2000" ∷ [])
  pub no_path : table_text path_columns []
      ≡ text_of (codes "CHPID  TYPE  PCHID  SWITCH  USE  DEVICES  ONLINE  OFFLINE  CU" ∷ [])
  pub devices : table_text device_columns (
      (codes "2000-203F" ∷ codes "64" ∷ codes "3390B" ∷ codes "2000" ∷ codes "00-3F" ∷ codes "0,1:40,41"
      ∷ codes "2/2:A01,A02,A11;0/2:A03" ∷ [])
      ∷ (codes "1.20C0-20FF" ∷ codes "64" ∷ codes "3390A" ∷ codes "2000" ∷ codes "C0-FF" ∷ codes "0,1:40,41"
      ∷ codes "2/2:A01,A02,A11;0/2:A03" ∷ []) ∷ [])
      ≡ text_of (
      codes "DEVICE       COUNT  UNIT   CU    UNITADD  PATHS      IMAGES"
      ∷ codes "2000-203F       64  3390B  2000  00-3F    0,1:40,41  2/2:A01,A02,A11;0/2:A03"
      ∷ codes "1.20C0-20FF     64  3390A  2000  C0-FF    0,1:40,41  2/2:A01,A02,A11;0/2:A03" ∷ [])
  pub short_and_long : table_text (words_under (codes "CU") ∷ counts_under (codes "DEVICES") ∷ [])
      ((codes "2000" ∷ []) ∷ (codes "2100" ∷ codes "16" ∷ codes "3390B" ∷ []) ∷ [])
      ≡ text_of (codes "CU    DEVICES" ∷ codes "2000" ∷ codes "2100       16" ∷ [])

-- ---- words

abbrev linked : ℕ → ℕ → Option Link → LinkedPath
linked css path link = record { css = css; path = path; link = link }

abbrev image : ℕ → ℕ → List ℕ → ImagePaths
image online installed name = record { online = online; installed = installed; name = name }

-- each form of a word
pub record WordsAreWritten : Type 0 where
  pub carried : map carried_word (Some (codes "3390B") ∷ Some (codes "OSA 2") ∷ Some [] ∷ None ∷ [])
      ≡ codes "3390B" ∷ codes "OSA_2" ∷ codes "-" ∷ codes "-" ∷ []
  pub commas : map comma_word ((codes "A01" ∷ codes "A02" ∷ []) ∷ [] ∷ []) ≡ codes "A01,A02" ∷ codes "-" ∷ []
  pub counts : map grouped (map decimal (0 ∷ 999 ∷ 4352 ∷ 125968 ∷ 5400000 ∷ []))
      ≡ codes "0" ∷ codes "999" ∷ codes "4,352" ∷ codes "125,968" ∷ codes "5,400,000" ∷ []
  pub path : path_word 0 0x40 ≡ codes "0.40"
  pub addresses : map range_word (record { start = 0; count = 256 } ∷ record { start = 0x1E; count = 1 } ∷ [])
      ≡ codes "00-FF" ∷ codes "1E" ∷ []
  pub devices : map devices_word (
      record { set = 0; first = 0x2000; last = 0x203F } ∷ record { set = 1; first = 0x20C0; last = 0x20FF }
      ∷ record { set = 0; first = 0x1D0F; last = 0x1D0F } ∷ [])
      ≡ codes "2000-203F" ∷ codes "1.20C0-20FF" ∷ codes "1D0F" ∷ []
  pub numbers : comma_word (map set_word (
      record { set = 0; used = 167; limit = 65280 } ∷ record { set = 1; used = 64; limit = 65535 } ∷ []))
      ≡ codes "0:167/65280,1:64/65535"

-- equal paths of channel subsystems stand together at the place of the first, also where they don't
-- follow each other
pub record PathsAreWritten : Type 0 where
  pub none : paths_word [] ≡ codes "-"
  pub links : paths_word (linked 0 0x40 (Some (Long 0x6512)) ∷ linked 0 0x41 (Some (Long 0x6612)) ∷ linked 1 0x40 (Some (Long 0x6512))
      ∷ linked 1 0x41 (Some (Long 0x6612)) ∷ linked 2 0x50 (Some Unlinked) ∷ []) ≡ codes "0,1:40/6512,41/6612;2:50"
  pub apart : paths_word (linked 0 0x40 None ∷ linked 1 0x41 None ∷ linked 2 0x40 None ∷ [])
      ≡ codes "0,2:40;1:41"

-- so do images with as many paths
pub record ImagesAreWritten : Type 0 where
  pub none : images_word [] ≡ codes "-"
  pub groups : images_word (image 4 4 (codes "PRD1") ∷ image 0 4 (codes "DEV1") ∷ image 4 4 (codes "PRD2") ∷ [])
      ≡ codes "4/4:PRD1,PRD2;0/4:DEV1"
  pub all : all_images_word (image 2 2 (codes "LP01") ∷ image 2 2 (codes "LP02") ∷ []) ≡ codes "2/2:all"
  pub not_alike : all_images_word (image 2 2 (codes "LPA") ∷ image 1 2 (codes "LPB") ∷ []) ≡ codes "2/2:LPA;1/2:LPB"
