-- A row as a line tells it: a sign, the devices, what the image sees of them before and after, and marks.
-- Bytes by their codes: 32 is a blank, 40 and 41 are parentheses, 43 a plus, 45 a hyphen, 61 an equals sign, 91 and 93
-- brackets, 126 a tilde.
use Rattle.std.specs.Prelude.{ℕ, ◌+◌, ◌-◌, ◌/◌, min, nat_lt, Bool, not, ◌==◌, bit_and, if◌then◌else◌, Option, None}
use Rattle.std.specs.Prelude.{Some, List, [], ◌∷◌, ◌++◌, length, replicate, codes}
use Rattle.std.specs.Fmt.{decimal}
use Rattle.std.specs.List.{join_with_byte}
use Rattle.iocm_types.specs.declared.view.View.{View}
use Rattle.iocm_types.specs.Print.{hex2}
use Rattle.iocm_words.specs.declared.ranges.DeviceNumbers.{DeviceNumbers}
use Rattle.iocm_words.specs.Ranges.{devices_word}
use Rattle.iocm_plan.specs.Effects.{gone, came, changed, same, lost, onepath}
use Rattle.iocm_plan.specs.declared.effect.Effect.{Effect}
use Rattle.iocm_plan.specs.declared.runs.DeviceRun.{DeviceRun}
use Rattle.iocm_impact_text.specs.Listed.{listed}
use Rattle.iocm_impact.specs.declared.row.Row.{Row}

-- ---- the devices: 2000-207F (128), or one alone, 1.2080

-- the last device of a run; there is none after FFFF
abbrev pub last_of : DeviceRun → ℕ
last_of r = min (r.first.number + (r.count - 1)) 0xFFFF

abbrev pub numbers_of : DeviceRun → DeviceNumbers
numbers_of r = record { set = r.first.set; first = r.first.number; last = last_of r }

abbrev pub count_part : ℕ → List ℕ
count_part count = if nat_lt 1 count then 32 ∷ 40 ∷ (decimal count ++ 41 ∷ []) else []

abbrev pub run_word : DeviceRun → List ℕ
run_word r = devices_word (numbers_of r) ++ count_part r.count

-- on so many places
abbrev pub padded : ℕ → List ℕ → List ℕ
padded width text = text ++ replicate (width - length text) 32

-- ---- what is seen: 60 is online, (60) is installed and offline, [60] isn't for this image

-- a mask has the bit of a path
abbrev pub has_bit : ℕ → ℕ → Bool
has_bit mask bit = not (bit_and mask bit == 0)

abbrev pub path_text : View → ℕ → ℕ → List ℕ
path_text v bit path =
    if has_bit v.pam bit then hex2 path
    else (if has_bit v.pim bit then 40 ∷ (hex2 path ++ 41 ∷ []) else 91 ∷ (hex2 path ++ 93 ∷ []))

-- the first path has the leftmost bit
abbrev pub path_texts : View → ℕ → List ℕ → List (List ℕ)
path_texts v bit [] = []
path_texts v bit (path ∷ paths) = path_text v bit path ∷ path_texts v (bit / 2) paths

abbrev pub view_text : Option View → List ℕ
view_text None = []
view_text (Some v) = join_with_byte 32 (path_texts v 128 v.paths)

-- before, and after if it is another view
abbrev pub arrow_text : Effect → List ℕ
arrow_text e = if changed e.before e.after then codes " -> " else []

abbrev pub after_text : Effect → List ℕ
after_text e = if same e.before e.after then [] else view_text e.after

abbrev pub sides_text : Effect → List ℕ
sides_text e = view_text e.before ++ (arrow_text e ++ after_text e)

-- ---- signs and marks

abbrev pub sign : Effect → ℕ
sign e =
    if gone e.before e.after then 45
    else (if came e.before e.after then 43 else (if changed e.before e.after then 126 else 61))

abbrev pub said_if : Bool → List ℕ → List (List ℕ)
said_if holds word = if holds then word ∷ [] else []

abbrev pub mark_words : Effect → List (List ℕ)
mark_words e = (said_if (lost e.before e.after) (codes "lost") ++ said_if e.interrupted (codes "interrupted"))
    ++ said_if (onepath e.before e.after) (codes "one path left")

abbrev pub marks_from : List (List ℕ) → List ℕ
marks_from [] = []
marks_from (word ∷ words) = codes "  " ++ listed (word ∷ words)

abbrev pub marks_text : Effect → List ℕ
marks_text e = marks_from (mark_words e)

-- ---- the whole

abbrev pub row_text : Row → List ℕ
row_text r = sign r.effect ∷ 32
    ∷ (padded 19 (run_word r.run) ++ (32 ∷ (sides_text r.effect ++ marks_text r.effect)))
