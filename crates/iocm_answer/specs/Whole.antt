-- Whole commands, from readers to a writer.
use Rattle.std.specs.Prelude.{◌≡◌, ◌⊎◌, ◌+◌, ◌^◌, ◌<◌, ◌≤◌, ⊤, ℕ, false, true, List, [], ◌∷◌, Option}
use Rattle.std.specs.Prelude.{All, IfOk, IfSome, Result, Ok, Err, if◌then◌else◌}
use Rattle.iocm_types.specs.declared.fault.Fault.{Fault}
use Rattle.iocm_columns.specs.Device.{reader_of, reads_of, IsOpen, IsWhole, StopsShort}
use Rattle.iocm_columns.specs.declared.device.Device.{Device}
use Rattle.iocm_console.specs.declared.error.ConsoleError.{ConsoleError}
use Rattle.iocm_console.specs.declared.error.ConsoleError.TheVariants.{Read, Write}
use Rattle.iocm_console.specs.declared.output.Output.{Output}
use Rattle.iocm_console.specs.declared.refusal.Refusal.{Refusal}
use Rattle.iocm_console.specs.declared.status.Status.{Status}
use Rattle.iocm_console.specs.declared.status.Status.TheVariants.{Done}
use Rattle.iocm_console.specs.Output.{has_failed, IsHandedOn, Says}
use Rattle.iocm_console.specs.Refusal.{is_memory, no_memory}
use Rattle.iocm_console.specs.Shown.{Shown}
use Rattle.iocm_answer.specs.declared.answer.Answer.{Answer}
use Rattle.iocm_answer.specs.declared.whole.Unanswered.{Unanswered}
use Rattle.iocm_answer.specs.declared.whole.Unanswered.TheVariants.{Refused, Unread}
use Rattle.iocm_command.specs.declared.table.Command.{Command}
use Rattle.iocm_answer.specs.declared.manner.Manner.{Manner}
use Rattle.iocm_answer.specs.Manner.{refused}
use Rattle.iocm_answer.specs.Answer.{shown}
use Rattle.iocm_answer.specs.Commands.{GoesOnFrom, IsMeant, OpensTo}
use Rattle.iocm_answer.specs.declared.answering.Begun.{Begun}

-- ---- texts and their readers

-- a device that can be read so often
abbrev pub IsReady : {R : Type 0} → ℕ → Device R → Type 0
IsReady limit device = IsOpen device × (reads_of device + limit < 2 ^ 64)

-- these bytes are what is left to read of a device, if that is known
abbrev pub IsTextOf : {R : Type 0} → (R → Option (List ℕ)) → Device R → List ℕ → Type 0
IsTextOf remaining device text = IfSome (remaining (reader_of device)) (λ known. text ≡ known)

-- the same of several devices, in their order
abbrev pub AreTextsOf : {R : Type 0} → (R → Option (List ℕ)) → List (Device R) → List (List ℕ) → Type 0
AreTextsOf remaining [] [] = ⊤
AreTextsOf remaining (d ∷ ds) (t ∷ ts) = IsTextOf remaining d t × AreTextsOf remaining ds ts
AreTextsOf remaining _ _ = ⊥

-- this holds of the text of a device; of some text, if what is left to read isn't known
abbrev pub OfText : {R : Type 0} → (R → Option (List ℕ)) → Device R → (List ℕ → Type 0) → Type 0
OfText remaining device Is = (text : List ℕ) × IsTextOf remaining device text × Is text

-- the same of the texts of several devices
abbrev pub OfTexts : {R : Type 0} → (R → Option (List ℕ)) → List (Device R) → (List (List ℕ) → Type 0) → Type 0
OfTexts remaining devices Are = (texts : List (List ℕ)) × AreTextsOf remaining devices texts × Are texts

-- a device was read at most so often
abbrev pub IsReadWithin : {R : Type 0} → ℕ → Device R → Device R → Type 0
IsReadWithin limit old new = reads_of new ≤ reads_of old + limit

-- a device failed, or didn't come to its end when it was read so often
abbrev pub StopsWithin : {R : Type 0} → ℕ → Device R → Device R → Type 0
StopsWithin limit old new = StopsShort new (reads_of old + limit)

-- the same of several devices: each was read at most so often; one of them failed, or didn't come to its end
abbrev pub AreReadWithin : {R : Type 0} → ℕ → List (Device R) → List (Device R) → Type 0
AreReadWithin limit [] [] = ⊤
AreReadWithin limit (d ∷ ds) (e ∷ es) = IsReadWithin limit d e × AreReadWithin limit ds es
AreReadWithin limit _ _ = ⊥

abbrev pub OneStopsWithin : {R : Type 0} → ℕ → List (Device R) → List (Device R) → Type 0
OneStopsWithin limit (d ∷ ds) (e ∷ es) = StopsWithin limit d e ⊎ OneStopsWithin limit ds es
OneStopsWithin limit _ _ = ⊥

-- a command goes on from the bytes of a deck: it isn't refused
abbrev pub GoesOn : Command → List ℕ → Type 0
GoesOn command deck = (begun : Begun) × OpensTo deck begun × GoesOnFrom command begun

-- a deck can't be read, or the command goes on from it, if its bytes are known, and a text after it can't
-- be read
abbrev pub StopsAt : {R : Type 0} → (R → Option (List ℕ)) → ℕ → Command → (deck deck' : Device R)
    → (others others' : List (Device R)) → Type 0
StopsAt remaining limit command deck deck' others others' = StopsWithin limit deck deck'
    ⊎ (IfSome (remaining (reader_of deck)) (GoesOn command) × OneStopsWithin limit others others')

-- ---- how a whole command ends

-- a text can't be read only for this reason, and nothing is printed then
abbrev pub IsUnreadFor : {W : Type 0} → Output W → Output W → Result Status ConsoleError → Type 0 → Type 0
IsUnreadFor old new result Why = result ≡ Err Read → Why × (new ≡ old)

-- something of which this holds was printed, or only that memory is missing
abbrev pub SaysOne : {W : Type 0} → Manner → (W → Option (List ℕ)) → Output W → Output W → (Shown → Type 0) → Status
    → Type 0
SaysOne m contents old new Is status =
    ((what : Shown) × Is what × Says contents old new what status) ⊎ Says contents old new (refused m no_memory) status

-- nothing of what was printed is kept back; or a read failed; or a write failed, which is noted
abbrev pub Ends : {W : Type 0} → Output W → Result Status ConsoleError → Type 0
Ends output (Ok status) = (has_failed output ≡ false) × IsHandedOn output
Ends output (Err Read) = ⊤
Ends output (Err Write) = has_failed output ≡ true

-- a command on a deck and on texts after it ended: what was printed, in a manner, is what it means of their bytes, or
-- that memory is missing. The deck was read to its end, or only that memory is missing was printed; the texts after
-- it were too, if the command did what it was asked to do.
pub record Answers {R W : Type 0} (remaining : R → Option (List ℕ)) (contents : W → Option (List ℕ)) (limit : ℕ)
    (m : Manner) (command : Command) (deck deck' : Device R) (others others' : List (Device R)) (output output' : Output W)
    (result : Result Status ConsoleError) : Type 0 where
  pub text : OfText remaining deck (λ bytes. IfOk result (SaysOne m contents output output'
      (λ shown. OfTexts remaining others (λ texts. IsMeant m command bytes texts shown))))
  pub whole : IfOk result (λ status. IsWhole deck' ⊎ Says contents output output' (refused m no_memory) status)
  pub whole_others : IfOk result (λ status. status ≡ Done → All IsWhole others')
  pub reads : IsReadWithin limit deck deck'
  pub reads_others : AreReadWithin limit others others'
  pub unreadable : IsUnreadFor output output' result (StopsAt remaining limit command deck deck' others others')
  pub ends : Ends output' result

-- ---- what comes of the texts of a command, before it is printed

-- a text isn't read: memory is missing, or it can't be read to its end
abbrev pub unread_by : Fault → Unanswered
unread_by fault = if is_memory fault.rule then Refused no_memory else Unread

-- an answer is given, or a refusal
abbrev pub given_of : Result Answer Refusal → Result Answer Unanswered
given_of (Ok answer) = Ok answer
given_of (Err why) = Err (Refused why)

-- this holds of what is to be printed, unless memory is missing or a text can't be read
abbrev pub Tells : Manner → Result Answer Unanswered → (Shown → Type 0) → Type 0
Tells m (Ok answer) Is = Is (shown m answer)
Tells m (Err (Refused why)) Is = Is (refused m why) ⊎ (why ≡ no_memory)
Tells m (Err Unread) Is = ⊤

-- there is a refusal only after this, or as memory is missing; and this is why a text can't be read
abbrev pub StopsFor : (First Short : Type 0) → Unanswered → Type 0
StopsFor First Short (Refused why) = First ⊎ (why ≡ no_memory)
StopsFor First Short Unread = Short

-- an answer or a refusal that is given was printed
abbrev pub SaysGiven : {W : Type 0} → Manner → (W → Option (List ℕ)) → Output W → Output W
    → Result Answer Unanswered → Status → Type 0
SaysGiven m contents old new (Ok answer) status = Says contents old new (shown m answer) status
SaysGiven m contents old new (Err (Refused why)) status = Says contents old new (refused m why) status
SaysGiven m contents old new (Err Unread) status = ⊥
