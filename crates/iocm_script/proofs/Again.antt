-- What an actor says is read again of its words.
use Rattle.std.proofs.Common.{◌≡◌, ℕ, true, Some, List, [], ◌∷◌, refl, ap, ◌∙◌, codes}
use Rattle.std.specs.Fmt.{decimal}
use Rattle.std.specs.List.{join_with_byte, list_all}
use Rattle.std.specs.Option.{option_map}
use Rattle.iocm_types.specs.declared.order.Order.TheVariants.{Start, Halt, Clear, Cancel, Test, Store, Modify}
use Rattle.iocm_types.specs.declared.sub_id.SubId.{SubId}
use Rattle.iocm_types.specs.Print.{hex2}
use Rattle.iocm_values.specs.Reading.{◌>>=◌}
use Rattle.iocm_script.specs.declared.line.Spoken.TheVariants.{Line}
use Rattle.iocm_script.specs.declared.said.Actor.TheVariants as actor
use Rattle.iocm_script.specs.declared.said.ImageCommand.{ImageCommand}
use Rattle.iocm_script.specs.declared.said.ImageCommand.TheVariants.{Io, DeviceBegin, DeviceEnd}
use Rattle.iocm_script.specs.declared.said.ImageThread.{ImageThread}
use Rattle.iocm_script.specs.declared.said.ImageThread.TheVariants.{A, B}
use Rattle.iocm_script.specs.declared.said.OperatorCommand.{OperatorCommand}
use Rattle.iocm_script.specs.declared.said.OperatorCommand.TheVariants.{Activate, Begin, Advance, Commit, Abort, Undo}
use Rattle.iocm_script.specs.declared.said.OperatorCommand.TheVariants.{Redo, Show}
use Rattle.iocm_script.specs.declared.said.OperatorThread.{OperatorThread}
use Rattle.iocm_script.specs.declared.said.OperatorThread.TheVariants.{P, Q}
use Rattle.iocm_script.specs.declared.said.Said.TheVariants.{Image, Operator}
use Rattle.iocm_script.specs.declared.verb.Verb.{Verb}
use Rattle.iocm_script.specs.declared.verb.Verb.TheVariants as verb
use Rattle.iocm_script.specs.Commands.{image_command, operator_command, said_by}
use Rattle.iocm_script.specs.Lines.{spoken_by, spoken_on}
use Rattle.iocm_script.specs.Verbs.{verb_named}
use Rattle.iocm_script.specs.Written.{IsNumber, IsSaidByImage, IsSaidByOperator, IsSubchannel, ReadsSaidAgain, bit_word}
use Rattle.iocm_script.specs.Written.{image_thread_word, image_words, is_word, operator_thread_word, operator_words}
use Rattle.iocm_script.specs.Written.{parm_word, sub_id_word}
use Rattle.iocm_script.proofs.OperandsAgain.{bit_is_word, mask_is_word, number_again, number_is_word, parm_is_word}
use Rattle.iocm_script.proofs.OperandsAgain.{setting_again, sub_id_again, sub_id_is_word}
use Rattle.iocm_script.proofs.Splitting.{words_again}

-- an image's line of words that its command is read of
read_image : (line : ℕ) (a : ImageThread) (word : List ℕ) (operands : List (List ℕ)) (v : Verb) (c : ImageCommand)
    → list_all is_word (word ∷ operands) ≡ true → verb_named word ≡ Some v → image_command v operands ≡ Some c
    → spoken_on (record { line = line; bytes = join_with_byte 32 (image_thread_word a ∷ word ∷ operands) })
    ≡ Some (Line (record { line = line; said = Image a c }))
read_image line A word operands v c words named is =
    ap (spoken_by line) (words_again (codes "A" ∷ word ∷ operands) words)
    ∙ ap (λ found. option_map (λ s. Line (record { line = line; said = s }))
    (found >>= λ v. said_by (actor.Image A) v operands)) named
    ∙ ap (λ found. option_map (λ s. Line (record { line = line; said = s })) (option_map (Image A) found)) is
read_image line B word operands v c words named is =
    ap (spoken_by line) (words_again (codes "B" ∷ word ∷ operands) words)
    ∙ ap (λ found. option_map (λ s. Line (record { line = line; said = s }))
    (found >>= λ v. said_by (actor.Image B) v operands)) named
    ∙ ap (λ found. option_map (λ s. Line (record { line = line; said = s })) (option_map (Image B) found)) is

read_operator : (line : ℕ) (a : OperatorThread) (word : List ℕ) (operands : List (List ℕ)) (v : Verb)
    (c : OperatorCommand)
    → list_all is_word (word ∷ operands) ≡ true → verb_named word ≡ Some v → operator_command v operands ≡ Some c
    → spoken_on (record { line = line; bytes = join_with_byte 32 (operator_thread_word a ∷ word ∷ operands) })
    ≡ Some (Line (record { line = line; said = Operator a c }))
read_operator line P word operands v c words named is =
    ap (spoken_by line) (words_again (codes "P" ∷ word ∷ operands) words)
    ∙ ap (λ found. option_map (λ s. Line (record { line = line; said = s }))
    (found >>= λ v. said_by (actor.Operator P) v operands)) named
    ∙ ap (λ found. option_map (λ s. Line (record { line = line; said = s })) (option_map (Operator P) found)) is
read_operator line Q word operands v c words named is =
    ap (spoken_by line) (words_again (codes "Q" ∷ word ∷ operands) words)
    ∙ ap (λ found. option_map (λ s. Line (record { line = line; said = s }))
    (found >>= λ v. said_by (actor.Operator Q) v operands)) named
    ∙ ap (λ found. option_map (λ s. Line (record { line = line; said = s })) (option_map (Operator Q) found)) is

-- a subchannel alone behind a word
one_word : (s : SubId) → IsSubchannel s → list_all is_word (sub_id_word s ∷ []) ≡ true
one_word s is = rw (sub_id_is_word s is) refl

image_again : (line : ℕ) (a : ImageThread) (c : ImageCommand) → IsSaidByImage c
    → spoken_on (record { line = line; bytes = join_with_byte 32 (image_thread_word a ∷ image_words c) })
    ≡ Some (Line (record { line = line; said = Image a c }))
image_again line a (Io s Start) ok =
    read_image line a (codes "start") (sub_id_word s ∷ []) verb.Start (Io s Start) (one_word s ok.0) refl
    (ap (option_map (λ s. Io s Start)) (sub_id_again s ok.0))
image_again line a (Io s Halt) ok =
    read_image line a (codes "halt") (sub_id_word s ∷ []) verb.Halt (Io s Halt) (one_word s ok.0) refl
    (ap (option_map (λ s. Io s Halt)) (sub_id_again s ok.0))
image_again line a (Io s Clear) ok =
    read_image line a (codes "clear") (sub_id_word s ∷ []) verb.Clear (Io s Clear) (one_word s ok.0) refl
    (ap (option_map (λ s. Io s Clear)) (sub_id_again s ok.0))
image_again line a (Io s Cancel) ok =
    read_image line a (codes "cancel") (sub_id_word s ∷ []) verb.Cancel (Io s Cancel) (one_word s ok.0) refl
    (ap (option_map (λ s. Io s Cancel)) (sub_id_again s ok.0))
image_again line a (Io s Test) ok =
    read_image line a (codes "test") (sub_id_word s ∷ []) verb.Test (Io s Test) (one_word s ok.0) refl
    (ap (option_map (λ s. Io s Test)) (sub_id_again s ok.0))
image_again line a (Io s Store) ok =
    read_image line a (codes "store") (sub_id_word s ∷ []) verb.Store (Io s Store) (one_word s ok.0) refl
    (ap (option_map (λ s. Io s Store)) (sub_id_again s ok.0))
image_again line a (Io s (Modify t)) ok =
    read_image line a (codes "modify") (sub_id_word s ∷ bit_word t.enabled ∷ hex2 t.lpm ∷ parm_word t.parm ∷ [])
    verb.Modify (Io s (Modify t))
    (rw (sub_id_is_word s ok.0, bit_is_word t.enabled, mask_is_word t.lpm ok.1.0, parm_is_word t.parm ok.1.1) refl) refl
    (rw (sub_id_again s ok.0, setting_again t ok.1.0 ok.1.1) refl)
image_again line a (DeviceBegin s) ok =
    read_image line a (codes "active") (sub_id_word s ∷ []) verb.Active (DeviceBegin s) (one_word s ok) refl
    (ap (option_map DeviceBegin) (sub_id_again s ok))
image_again line a (DeviceEnd s) ok =
    read_image line a (codes "end") (sub_id_word s ∷ []) verb.End (DeviceEnd s) (one_word s ok) refl
    (ap (option_map DeviceEnd) (sub_id_again s ok))

-- a number alone behind a word
one_number : (n : ℕ) → IsNumber n → list_all is_word (decimal n ∷ []) ≡ true
one_number n is = rw (number_is_word n is) refl

operator_again : (line : ℕ) (a : OperatorThread) (c : OperatorCommand) → IsSaidByOperator c
    → spoken_on (record { line = line; bytes = join_with_byte 32 (operator_thread_word a ∷ operator_words c) })
    ≡ Some (Line (record { line = line; said = Operator a c }))
operator_again line a (Activate k) ok =
    read_operator line a (codes "activate") (decimal k ∷ []) verb.Activate (Activate k) (one_number k ok) refl
    (ap (option_map Activate) (number_again k ok))
operator_again line a (Begin k) ok =
    read_operator line a (codes "begin") (decimal k ∷ []) verb.Begin (Begin k) (one_number k ok) refl
    (ap (option_map Begin) (number_again k ok))
operator_again line a Advance ok = read_operator line a (codes "advance") [] verb.Advance Advance refl refl refl
operator_again line a Commit ok = read_operator line a (codes "commit") [] verb.Commit Commit refl refl refl
operator_again line a Abort ok = read_operator line a (codes "abort") [] verb.Abort Abort refl refl refl
operator_again line a (Undo n) ok =
    read_operator line a (codes "undo") (decimal n ∷ []) verb.Undo (Undo n) (one_number n ok) refl
    (ap (option_map Undo) (number_again n ok))
operator_again line a (Redo n) ok =
    read_operator line a (codes "redo") (decimal n ∷ []) verb.Redo (Redo n) (one_number n ok) refl
    (ap (option_map Redo) (number_again n ok))
operator_again line a Show ok = read_operator line a (codes "show") [] verb.Show Show refl refl refl

pub said_again : ReadsSaidAgain
said_again line (Image a c) ok = image_again line a c ok
said_again line (Operator a c) ok = operator_again line a c ok
