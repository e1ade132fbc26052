-- What is known of a writer, with the program's own buffer in front of it.
use Rattle.std.specs.Prelude.{◌≡◌, ◌⊎◌, ℕ, Bool, true, List, [], ◌∷◌, ◌++◌, Option, IfSome, Result, Ok, OnOk, IfErr}
use Rattle.std.specs.Io.Buffered.{writer_buffer, writer_contents}
use Rattle.std.specs.Io.KnownBytes.{Appends}
use Rattle.std.specs.Option.{is_some}
use Rattle.std.specs.declared.alloc.Global.{Global}
use Rattle.std.specs.declared.io.buffered.BufWriter.{BufWriter}
use Rattle.iocm_console.specs.declared.output.Output.{Output}
use Rattle.iocm_console.specs.declared.error.ConsoleError.{ConsoleError}
use Rattle.iocm_console.specs.declared.error.ConsoleError.TheVariants.{Write}
use Rattle.iocm_console.specs.declared.status.Status.{Status}
use Rattle.iocm_console.specs.Refusal.{no_memory}
use Rattle.iocm_console.specs.Shown.{Shown, refused}

-- the writer with its buffer
abbrev pub writer_of : {W : Type 0} → Output W → BufWriter W Global
writer_of output = output.writer

-- whether a write to it failed
abbrev pub has_failed : {W : Type 0} → Output W → Bool
has_failed output = is_some output.failed

-- what the writer and then its buffer hold grew by this text, where it is known
abbrev pub Prints : {W : Type 0} → (W → Option (List ℕ)) → Output W → Output W → List ℕ → Type 0
Prints contents old new text =
    Appends (writer_contents contents (writer_of old)) (writer_contents contents (writer_of new)) text

-- it grew by this text and the end of its line, where the text is known too
abbrev pub PrintsLine : {W : Type 0} → (W → Option (List ℕ)) → Output W → Output W → Option (List ℕ) → Type 0
PrintsLine contents old new shown = IfSome shown (λ text. Prints contents old new (text ++ 10 ∷ []))

-- a write failed, and that is noted
abbrev pub FailedToWrite : {W : Type 0} → Output W → ConsoleError → Type 0
FailedToWrite output error = (error ≡ Write) × (has_failed output ≡ true)

-- a call printed this text, unless a write failed, which is noted then
pub record Writes {W T : Type 0} (contents : W → Option (List ℕ)) (result : Result T ConsoleError)
    (old new : Output W) (shown : List ℕ) : Type 0 where
  pub text : OnOk result (Prints contents old new shown)
  pub works : OnOk result (has_failed new ≡ has_failed old)
  pub fault : IfErr result (FailedToWrite new)

-- this text was printed, and no write failed
abbrev pub Wrote : {W : Type 0} → (W → Option (List ℕ)) → Output W → Output W → List ℕ → Type 0
Wrote contents old new shown = Writes {T = Unit {0}} contents (Ok tt) old new shown

-- nothing that was printed is kept back in the program's own buffer
abbrev pub IsHandedOn : {W : Type 0} → Output W → Type 0
IsHandedOn output = writer_buffer (writer_of output) ≡ []

-- a command printed this, and ended so
abbrev pub Says : {W : Type 0} → (W → Option (List ℕ)) → Output W → Output W → Shown → Status → Type 0
Says contents old new what status = Prints contents old new what.text × (status ≡ what.status)

-- so it did, or it printed only that memory is missing
abbrev pub SaysIfMemory : {W : Type 0} → (W → Option (List ℕ)) → Output W → Output W → Shown → Status → Type 0
SaysIfMemory contents old new what status = Says contents old new what status
    ⊎ Says contents old new (refused no_memory) status
