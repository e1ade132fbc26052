-- The line of an answer to a line of a script.
use Rattle.std.specs.Prelude.{ℕ, List, [], ◌∷◌, codes, true, false}
use Rattle.std.specs.Option.{option_map}
use Rattle.iocm_types.specs.declared.answer.Answer.{Answer}
use Rattle.iocm_types.specs.declared.answer.Answer.TheVariants as answer
use Rattle.iocm_types.specs.declared.answer.Counts.{Counts}
use Rattle.iocm_types.specs.declared.order.Io.{Io}
use Rattle.iocm_types.specs.declared.order.Io.TheVariants as io
use Rattle.iocm_types.specs.declared.order.Stored.{Stored}
use Rattle.iocm_types.specs.declared.refused.Refused.{Refused}
use Rattle.iocm_types.specs.declared.scsw.ScswBits.{ScswBits}
use Rattle.iocm_types.specs.Print.{hex1, hex2, hex4}
use Rattle.iocm_types.specs.Rule.{rule_text}
use Rattle.serde_json.specs.Data.{Data, boolean, string}
use Rattle.iocm_lines.specs.Members.{object_of, count, if_there, hex8}
use Rattle.iocm_lines.specs.Refused.{about_text}

-- one word, and nothing else
abbrev pub word_answer : ℕ → List ℕ → Data
word_answer line word =
    object_of (
    (codes "answer", string word)
    ∷ (codes "line", count line)
    ∷ (codes "type", string (codes "answer")) ∷ [])

-- a word with the number of a change
abbrev pub change_answer : ℕ → List ℕ → ℕ → Data
change_answer line word change =
    object_of (
    (codes "answer", string word)
    ∷ (codes "change", count change)
    ∷ (codes "line", count line)
    ∷ (codes "type", string (codes "answer")) ∷ [])

-- a word with how many edits there are
abbrev pub edits_answer : ℕ → List ℕ → ℕ → Data
edits_answer line word edits =
    object_of (
    (codes "answer", string word)
    ∷ (codes "edits", count edits)
    ∷ (codes "line", count line)
    ∷ (codes "type", string (codes "answer")) ∷ [])

-- what STORE SUBCHANNEL gave, with condition code 0: the device, whether it is enabled, the three masks, the
-- parameter and the status bits
abbrev pub stored_answer : ℕ → Stored → Data
stored_answer line s =
    object_of (
    (codes "answer", string (codes "cc"))
    ∷ (codes "cc", count 0)
    ∷ (codes "device", string (hex4 s.device))
    ∷ (codes "enabled", boolean s.enabled)
    ∷ (codes "line", count line)
    ∷ (codes "lpm", string (hex2 s.lpm))
    ∷ (codes "pam", string (hex2 s.pam))
    ∷ (codes "parm", string (hex8 s.parm))
    ∷ (codes "pim", string (hex2 s.pim))
    ∷ (codes "scsw", string (hex1 s.bits.0))
    ∷ (codes "type", string (codes "answer")) ∷ [])

-- a condition code
abbrev pub code_answer : ℕ → ℕ → Data
code_answer line code =
    object_of (
    (codes "answer", string (codes "cc"))
    ∷ (codes "cc", count code)
    ∷ (codes "line", count line)
    ∷ (codes "type", string (codes "answer")) ∷ [])

-- condition code 0, and the status that was pending
abbrev pub status_answer : ℕ → ScswBits → Data
status_answer line bits =
    object_of (
    (codes "answer", string (codes "cc"))
    ∷ (codes "cc", count 0)
    ∷ (codes "line", count line)
    ∷ (codes "scsw", string (hex1 bits.0))
    ∷ (codes "type", string (codes "answer")) ∷ [])

-- the answer to an order: its condition code, and with code 0 what TEST or STORE gave
abbrev pub order_answer : ℕ → Io → Data
order_answer line (io.Code code) = code_answer line code
order_answer line (io.Status bits) = status_answer line bits
order_answer line (io.Stored stored) = stored_answer line stored

-- what the machine counts
abbrev pub counts_answer : ℕ → Counts → Data
counts_answer line c =
    object_of (
    (codes "answer", string (codes "shown"))
    ∷ (codes "line", count line)
    ∷ (codes "records", count c.records)
    ∷ (codes "standing", count c.standing)
    ∷ (codes "subchannels", count c.subchannels)
    ∷ (codes "type", string (codes "answer"))
    ∷ (codes "undone", count c.undone) ∷ [])

-- a refusal with its title, and with what it is about and the node that it names
abbrev pub refusal_answer : ℕ → Refused → List ℕ → Data
refusal_answer line why title =
    object_of (
    if_there (codes "about") (option_map string (about_text why.at))
    ((codes "answer", string (codes "refused"))
    ∷ (codes "line", count line)
    ∷ if_there (codes "node") (option_map count why.node)
    ((codes "rule", string (rule_text why.rule))
    ∷ (codes "title", string title)
    ∷ (codes "type", string (codes "answer")) ∷ [])))

-- the answer to a line of this number; the title is that of the refusal, if it is one
abbrev pub answer_value : ℕ → Answer → List ℕ → Data
answer_value line (answer.Io o) title = order_answer line o
answer_value line (answer.Begun true) title = word_answer line (codes "active")
answer_value line (answer.Begun false) title = word_answer line (codes "nothing")
answer_value line (answer.Ended true) title = word_answer line (codes "ended")
answer_value line (answer.Ended false) title = word_answer line (codes "nothing")
answer_value line answer.Held title = word_answer line (codes "held")
answer_value line (answer.Changed number) title = change_answer line (codes "change") number
answer_value line (answer.Staged edits) title = edits_answer line (codes "staged") edits
answer_value line (answer.Left edits) title = edits_answer line (codes "left") edits
answer_value line answer.Aborted title = word_answer line (codes "aborted")
answer_value line (answer.Undone number) title = change_answer line (codes "undone") number
answer_value line (answer.Redone number) title = change_answer line (codes "redone") number
answer_value line (answer.Shown counts) title = counts_answer line counts
answer_value line (answer.Refused why) title = refusal_answer line why title
