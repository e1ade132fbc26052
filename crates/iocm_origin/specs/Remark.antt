-- What is said of a refusal beside it.
use Rattle.std.specs.Prelude.{ℕ, false, List, [], ◌++◌, codes, Option, None, Some}
use Rattle.std.specs.Fmt.{digits}
use Rattle.iocm_types.specs.Key.{key_text}
use Rattle.iocm_types.specs.Rule.{rule_text}
use Rattle.iocm_lines.specs.Members.{subchannel_name}
use Rattle.iocm_console.specs.declared.refusal.About.{About}
use Rattle.iocm_console.specs.declared.refusal.About.TheVariants as about
use Rattle.iocm_console.specs.declared.refusal.Refusal.{Refusal}
use Rattle.iocm_explain.specs.Entry.{title_of}
use Rattle.iocm_origin.specs.declared.origin.Origin.{Origin}
use Rattle.iocm_origin.specs.declared.origin.Origin.TheVariants.{Line, End, Whole}

-- the file, and where in it; nothing if no file is known
abbrev pub place_text : Option (List ℕ) → Origin → List ℕ
place_text (Some file) (Line line) = file ++ (codes ", line " ++ (digits 10 false line ++ codes ": "))
place_text (Some file) End = file ++ codes ", at the end: "
place_text (Some file) Whole = file ++ codes ": "
place_text None origin = []

-- what it is about: a record by its key, a subchannel or a change; a line is the text itself
abbrev pub about_text : About → List ℕ
about_text (about.Key key) = key_text key ++ codes ": "
about_text (about.Subchannel s) = codes "subchannel " ++ (subchannel_name s ++ codes ": ")
about_text (about.Change number) = codes "change " ++ (digits 10 false number ++ codes ": ")
about_text (about.Line line) = []
about_text about.Nothing = []

-- the line from which it comes, below, behind its number
abbrev pub line_text : Origin → Option (List ℕ) → List ℕ
line_text (Line number) (Some line) = codes "\n  " ++ (digits 10 false number ++ (codes " | " ++ line))
line_text _ _ = []

-- what is wrong, and the number of the refusal; below, which entry says more
abbrev pub title_text : Refusal → List ℕ
title_text why = title_of why.number ++ (codes " (" ++ (rule_text why.number ++ codes ")"))

abbrev pub see_text : Refusal → List ℕ
see_text why = codes "\n  see: iocm explain " ++ rule_text why.number

-- a remark: the file and where in it, what the refusal is about, what is wrong and its number; below
-- the line from which it comes, and which entry says more
abbrev pub remark_text : Option (List ℕ) → Origin → Refusal → Option (List ℕ) → List ℕ
remark_text file origin why line =
    place_text file origin ++ (about_text why.about ++ (title_text why ++ (line_text origin line ++ see_text why)))
