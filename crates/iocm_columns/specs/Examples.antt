-- Worked examples.
use Rattle.std.specs.Prelude.{ℕ, List, [], ◌∷◌, ◌++◌, codes}
use Rattle.iocm_columns.specs.declared.joined.Joined.{Joined}

-- a line with its end
abbrev pub line : List ℕ → List ℕ
line text = text ++ 10 ∷ []

-- a device statement in four lines: it goes on at the first nonblank behind a comma, behind a
-- comment, and exactly at column 16 inside quotes
abbrev pub device_deck : List ℕ
device_deck =
    line (codes "DEV1     IODEVICE ADDRESS=(1000,4),   THE FIRST FOUR                   X")
    ++ line (codes "* A COMMENT IS SKIPPED WITH ITS COLUMN 72, QUOTE ' AND ALL             X")
    ++ line (codes "                CUNUMBR=(1000),NOTE='RUNS TO COLUMN 71 IN QUOTES, AND GX00000020")
    ++ line (codes "               OES ON' A REMARK")

-- what is joined of it
abbrev pub device_statement : Joined
device_statement = record {
  line = 1;
  name = codes "DEV1";
  operation = codes "IODEVICE";
  text = codes "ADDRESS=(1000,4),CUNUMBR=(1000),NOTE='RUNS TO COLUMN 71 IN QUOTES, AND GOES ON'";
}

-- a deck whose first line is continued and whose third is no continuation, since its column 15 is
-- not blank
abbrev pub deck_without_margin : List ℕ
deck_without_margin =
    line (codes "         ID A,                                                         X")
    ++ line (codes "*")
    ++ line (codes "              B")

-- a deck that ends in a continued card
abbrev pub deck_without_end : List ℕ
deck_without_end =
    line (codes "         ID A")
    ++ line (codes "         ID A,                                                         X")
    ++ line (codes "*")

-- a deck with a tab on its second line, behind a line of 80 bytes and before one of 81
abbrev pub deck_with_tab : List ℕ
deck_with_tab =
    line (codes "AAAAAAAAAAAAAAAAAAAAAAAAAAAAAAAAAAAAAAAAAAAAAAAAAAAAAAAAAAAAAAAAAAAAAAAAAAAAAAAA")
    ++ line (9 ∷ [])
    ++ line (codes "AAAAAAAAAAAAAAAAAAAAAAAAAAAAAAAAAAAAAAAAAAAAAAAAAAAAAAAAAAAAAAAAAAAAAAAAAAAAAAAAA")
