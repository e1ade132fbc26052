-- Worked examples: what lines say, and what scripts are made of.
use Rattle.std.specs.Prelude.{ℕ, true, Option, None, Some, List, [], ◌∷◌, ◌++◌, replicate, codes}
use Rattle.std.specs.List.{concat}
use Rattle.iocm_types.specs.declared.order.Order.TheVariants.{Start, Halt}
use Rattle.iocm_types.specs.declared.order.Setting.{Setting}
use Rattle.iocm_types.specs.declared.sub_id.SubId.{SubId}
use Rattle.iocm_columns.specs.Examples.{line}
use Rattle.iocm_script.specs.declared.line.Spoken.{Spoken}
use Rattle.iocm_script.specs.declared.line.Spoken.TheVariants as spoken
use Rattle.iocm_script.specs.declared.said.ImageCommand.TheVariants.{Io, DeviceEnd}
use Rattle.iocm_script.specs.declared.said.ImageThread.TheVariants.{A, B}
use Rattle.iocm_script.specs.declared.said.OperatorCommand.TheVariants.{Activate}
use Rattle.iocm_script.specs.declared.said.OperatorThread.TheVariants.{P}
use Rattle.iocm_script.specs.declared.said.Said.{Said}
use Rattle.iocm_script.specs.declared.said.Said.TheVariants.{Image, Operator}
use Rattle.iocm_script.specs.Lines.{spoken_by}
use Rattle.iocm_script.specs.Scripts.{Rounds}
use Rattle.iocm_script.specs.Words.{words_of}

-- what the actor of a line says, if it is one of an actor
abbrev actors : Option Spoken → Option Said
actors (Some (spoken.Line l)) = Some l.said
actors _ = None

abbrev pub said_in : List ℕ → Option Said
said_in text = actors (spoken_by 1 (words_of text))

-- 0.1.0.0001, and the subchannel whose numbers are as high as they can be
abbrev pub first : SubId
first = record { image = record { css = 0; mif = 1 }; set = 0; number = 1 }

abbrev pub last : SubId
last = record { image = record { css = 5; mif = 15 }; set = 3; number = 65535 }

-- 1 8F 0000ABCD
abbrev pub some_setting : Setting
some_setting = record { enabled = true; lpm = 143; parm = 43981 }

-- two rounds, with a comment, a blank line and blanks where they may be; the second ends without a
-- line end
abbrev pub two_rounds : List ℕ
two_rounds =
    line (codes "* A COMMENT")
    ++ line (codes "A start 0.1.0.0001")
    ++ line (codes "   P    activate 01   ")
    ++ line (codes "")
    ++ line (codes "B halt 5.F.3.FFFF")
    ++ line (codes " sync ")
    ++ line (codes "  ")
    ++ codes "A end 0.1.0.0001"

abbrev pub its_rounds : Rounds
its_rounds =
    (record { line = 2; said = Image A (Io first Start) }
    ∷ record { line = 3; said = Operator P (Activate 1) }
    ∷ record { line = 5; said = Image B (Io last Halt) } ∷ [])
    ∷ (record { line = 8; said = Image A (DeviceEnd first) } ∷ [])
    ∷ []

-- so many lines of operators, half of them P's
abbrev pub pairs : ℕ → List ℕ
pairs n = concat (replicate n (line (codes "P show") ++ line (codes "Q show")))
