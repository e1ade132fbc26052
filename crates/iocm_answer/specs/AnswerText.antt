-- What `run` prints of each answer: a line that begins with the number of the script's line.
-- Bytes by their codes: 10 ends a line.
use Rattle.std.specs.Prelude.{ℕ, true, false, List, [], ◌∷◌, ◌++◌, codes}
use Rattle.std.specs.Fmt.{decimal}
use Rattle.iocm_types.specs.declared.answer.Answer.{Answer}
use Rattle.iocm_types.specs.declared.answer.Answer.TheVariants as answer
use Rattle.iocm_types.specs.declared.answer.Counts.{Counts}
use Rattle.iocm_types.specs.declared.order.Io.{Io}
use Rattle.iocm_types.specs.declared.order.Io.TheVariants as io
use Rattle.iocm_types.specs.declared.order.Stored.{Stored}
use Rattle.iocm_types.specs.declared.scsw.ScswBits.{ScswBits}
use Rattle.iocm_types.specs.Print.{hex1, hex2, hex4}
use Rattle.iocm_lines.specs.Members.{hex8}
use Rattle.iocm_console.specs.Digits.{enabled_text}
use Rattle.iocm_console.specs.Refusal.{of_change, refusal_text}

-- the status bits, one hexadecimal digit: 1 start, 2 halt, 4 clear, and 8 more where status is
-- pending
abbrev pub bits_text : ScswBits → List ℕ
bits_text bits = codes "scsw " ++ hex1 bits.0

-- what STORE SUBCHANNEL gave: the device, the three masks, whether it is enabled, the parameter and
-- the status bits
abbrev pub stored_text : Stored → List ℕ
stored_text s = codes "dev " ++ (hex4 s.device ++ (codes " pim " ++ (hex2 s.pim ++ (codes " pam " ++ (hex2 s.pam
    ++ (codes " lpm " ++ (hex2 s.lpm ++ (codes " ena " ++ (enabled_text s.enabled
    ++ (codes " parm " ++ (hex8 s.parm ++ (codes " " ++ bits_text s.bits))))))))))))

-- the answer to an order: its condition code, and with code 0 what TEST or STORE gave
abbrev pub io_text : Io → List ℕ
io_text (io.Code code) = codes "cc " ++ decimal code
io_text (io.Status bits) = codes "cc 0 " ++ bits_text bits
io_text (io.Stored stored) = codes "cc 0 " ++ stored_text stored

-- what the machine counts
abbrev pub counts_text : Counts → List ℕ
counts_text c = codes "records " ++ (decimal c.records ++ (codes " subchannels " ++ (decimal c.subchannels
    ++ (codes " standing " ++ (decimal c.standing ++ (codes " undone " ++ decimal c.undone))))))

-- an answer; a refusal as `apply` prints it
abbrev pub answer_text : Answer → List ℕ
answer_text (answer.Io o) = io_text o
answer_text (answer.Begun true) = codes "active"
answer_text (answer.Begun false) = codes "nothing"
answer_text (answer.Ended true) = codes "ended"
answer_text (answer.Ended false) = codes "nothing"
answer_text answer.Held = codes "held"
answer_text (answer.Changed number) = codes "change " ++ decimal number
answer_text (answer.Staged edits) = codes "staged " ++ decimal edits
answer_text (answer.Left edits) = codes "left " ++ decimal edits
answer_text answer.Aborted = codes "aborted"
answer_text (answer.Undone number) = codes "undone " ++ decimal number
answer_text (answer.Redone number) = codes "redone " ++ decimal number
answer_text (answer.Shown counts) = counts_text counts
answer_text (answer.Refused why) = refusal_text (of_change why)

-- an answer after the number of the script's line, in decimal
abbrev pub numbered_text : ℕ → Answer → List ℕ
numbered_text line a = decimal line ++ (codes " " ++ answer_text a)

-- its line, with its end
abbrev pub answer_line : ℕ → Answer → List ℕ
answer_line line a = numbered_text line a ++ 10 ∷ []
