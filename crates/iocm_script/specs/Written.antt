-- How what an actor says is written: its words, a blank between each two.
use Rattle.std.specs.Prelude.{◌≡◌, ℕ, ◌≤◌, ◌<◌, ◌/◌, ◌%◌, ◌&&◌, Bool, true, false, not, Some, List, [], ◌∷◌, ◌++◌}
use Rattle.std.specs.Prelude.{codes}
use Rattle.std.specs.Fmt.{decimal}
use Rattle.std.specs.List.{join_with_byte, list_all}
use Rattle.iocm_types.specs.declared.order.Order.{Order}
use Rattle.iocm_types.specs.declared.order.Order.TheVariants.{Start, Halt, Clear, Cancel, Test, Store, Modify}
use Rattle.iocm_types.specs.declared.sub_id.SubId.{SubId}
use Rattle.iocm_types.specs.Print.{hex1, hex2, hex4}
use Rattle.iocm_script.specs.declared.line.Spoken.TheVariants.{Line}
use Rattle.iocm_script.specs.declared.said.ImageCommand.{ImageCommand}
use Rattle.iocm_script.specs.declared.said.ImageCommand.TheVariants.{Io, DeviceBegin, DeviceEnd}
use Rattle.iocm_script.specs.declared.said.ImageThread.{ImageThread}
use Rattle.iocm_script.specs.declared.said.ImageThread.TheVariants.{A, B}
use Rattle.iocm_script.specs.declared.said.OperatorCommand.{OperatorCommand}
use Rattle.iocm_script.specs.declared.said.OperatorCommand.TheVariants.{Activate, Begin, Advance, Commit, Abort, Undo}
use Rattle.iocm_script.specs.declared.said.OperatorCommand.TheVariants.{Redo, Show}
use Rattle.iocm_script.specs.declared.said.OperatorThread.{OperatorThread}
use Rattle.iocm_script.specs.declared.said.OperatorThread.TheVariants.{P, Q}
use Rattle.iocm_script.specs.declared.said.Said.{Said}
use Rattle.iocm_script.specs.declared.said.Said.TheVariants.{Image, Operator}
use Rattle.iocm_script.specs.Lines.{spoken_on}
use Rattle.iocm_script.specs.Words.{is_blank, is_empty, words_of}

-- a subchannel, as 0.1.0.0001
abbrev pub sub_id_word : SubId → List ℕ
sub_id_word s = hex1 s.image.css ++ (46 ∷ (hex1 s.image.mif ++ (46 ∷ (hex1 s.set ++ (46 ∷ hex4 s.number)))))

-- the enabled bit
abbrev pub bit_word : Bool → List ℕ
bit_word false = codes "0"
bit_word true = codes "1"

-- the interruption parameter, in eight digits
abbrev pub parm_word : ℕ → List ℕ
parm_word p = hex4 (p / 65536) ++ hex4 (p % 65536)

-- an order and its subchannel
abbrev pub order_words : SubId → Order → List (List ℕ)
order_words s Start = codes "start" ∷ sub_id_word s ∷ []
order_words s Halt = codes "halt" ∷ sub_id_word s ∷ []
order_words s Clear = codes "clear" ∷ sub_id_word s ∷ []
order_words s Cancel = codes "cancel" ∷ sub_id_word s ∷ []
order_words s Test = codes "test" ∷ sub_id_word s ∷ []
order_words s Store = codes "store" ∷ sub_id_word s ∷ []
order_words s (Modify t) = codes "modify" ∷ sub_id_word s ∷ bit_word t.enabled ∷ hex2 t.lpm ∷ parm_word t.parm ∷ []

-- what an image says
abbrev pub image_words : ImageCommand → List (List ℕ)
image_words (Io s o) = order_words s o
image_words (DeviceBegin s) = codes "active" ∷ sub_id_word s ∷ []
image_words (DeviceEnd s) = codes "end" ∷ sub_id_word s ∷ []

-- what an operator says
abbrev pub operator_words : OperatorCommand → List (List ℕ)
operator_words (Activate k) = codes "activate" ∷ decimal k ∷ []
operator_words (Begin k) = codes "begin" ∷ decimal k ∷ []
operator_words Advance = codes "advance" ∷ []
operator_words Commit = codes "commit" ∷ []
operator_words Abort = codes "abort" ∷ []
operator_words (Undo n) = codes "undo" ∷ decimal n ∷ []
operator_words (Redo n) = codes "redo" ∷ decimal n ∷ []
operator_words Show = codes "show" ∷ []

abbrev pub image_thread_word : ImageThread → List ℕ
image_thread_word A = codes "A"
image_thread_word B = codes "B"

abbrev pub operator_thread_word : OperatorThread → List ℕ
operator_thread_word P = codes "P"
operator_thread_word Q = codes "Q"

-- who says what
abbrev pub said_words : Said → List (List ℕ)
said_words (Image thread command) = image_thread_word thread ∷ image_words command
said_words (Operator thread command) = operator_thread_word thread ∷ operator_words command

abbrev pub said_text : Said → List ℕ
said_text s = join_with_byte 32 (said_words s)

-- a subchannel that a machine can have
pub record IsSubchannel (s : SubId) : Type 0 where
  pub css : s.image.css < 6
  pub some : 1 ≤ s.image.mif
  pub mif : s.image.mif < 16
  pub set : s.set < 4
  pub number : s.number < 65536

-- the number of a change or of a change deck that can be written
abbrev pub IsNumber : ℕ → Type 0
IsNumber n = (1 ≤ n) × (n ≤ 4294967295)

-- an order that can be given
abbrev pub IsOrder : Order → Type 0
IsOrder (Modify t) = (t.lpm < 256) × (t.parm < 4294967296)
IsOrder _ = Unit {0}

-- what can be said
abbrev pub IsSaidByImage : ImageCommand → Type 0
IsSaidByImage (Io s o) = IsSubchannel s × IsOrder o
IsSaidByImage (DeviceBegin s) = IsSubchannel s
IsSaidByImage (DeviceEnd s) = IsSubchannel s

abbrev pub IsSaidByOperator : OperatorCommand → Type 0
IsSaidByOperator (Activate k) = IsNumber k
IsSaidByOperator (Begin k) = IsNumber k
IsSaidByOperator (Undo n) = IsNumber n
IsSaidByOperator (Redo n) = IsNumber n
IsSaidByOperator _ = Unit {0}

abbrev pub IsSayable : Said → Type 0
IsSayable (Image thread command) = IsSaidByImage command
IsSayable (Operator thread command) = IsSaidByOperator command

-- what an actor says is read again of its words
abbrev pub ReadsSaidAgain : Type 0
ReadsSaidAgain = (line : ℕ) (s : Said) → IsSayable s
    → spoken_on (record { line = line; bytes = said_text s }) ≡ Some (Line (record { line = line; said = s }))

-- bytes that aren't blank, one or more
abbrev pub is_word : List ℕ → Bool
is_word bytes = not (is_empty bytes) && list_all (λ b. not (is_blank b)) bytes

-- words with a blank between each two are the words of that line
abbrev pub FindsWords : Type 0
FindsWords = (words : List (List ℕ)) → list_all is_word words ≡ true → words_of (join_with_byte 32 words) ≡ words
