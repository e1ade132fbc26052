-- The commands of a script: who may say each of those of the table `verbs`, and what stands behind
-- its word.
use Rattle.std.specs.Prelude.{ℕ, if◌then◌else◌, Option, None, Some, List, [], ◌∷◌, codes}
use Rattle.std.specs.Option.{option_map}
use Rattle.std.specs.Str.{bytes_eq}
use Rattle.iocm_types.specs.declared.order.Order.{Order}
use Rattle.iocm_types.specs.declared.order.Order.TheVariants.{Start, Halt, Clear, Cancel, Test, Store, Modify}
use Rattle.iocm_types.specs.declared.sub_id.SubId.{SubId}
use Rattle.iocm_values.specs.Reading.{◌>>=◌}
use Rattle.iocm_script.specs.declared.said.Actor.{Actor}
use Rattle.iocm_script.specs.declared.said.Actor.TheVariants as actor
use Rattle.iocm_script.specs.declared.said.ImageCommand.{ImageCommand}
use Rattle.iocm_script.specs.declared.said.ImageCommand.TheVariants.{Io, DeviceBegin, DeviceEnd}
use Rattle.iocm_script.specs.declared.said.ImageThread.TheVariants.{A, B}
use Rattle.iocm_script.specs.declared.said.OperatorCommand.{OperatorCommand}
use Rattle.iocm_script.specs.declared.said.OperatorCommand.TheVariants.{Activate, Begin, Advance, Commit, Abort, Undo}
use Rattle.iocm_script.specs.declared.said.OperatorCommand.TheVariants.{Redo, Show}
use Rattle.iocm_script.specs.declared.said.OperatorThread.TheVariants.{P, Q}
use Rattle.iocm_script.specs.declared.said.Said.{Said}
use Rattle.iocm_script.specs.declared.said.Said.TheVariants.{Image, Operator}
use Rattle.iocm_script.specs.declared.verb.Verb.{Verb}
use Rattle.iocm_script.specs.declared.verb.Verb.TheVariants as verb
use Rattle.iocm_script.specs.Operands.{sub_id, setting, number}
use Rattle.iocm_script.specs.Verbs.{verb_named}

-- S: a subchannel alone
abbrev pub subchannel : List (List ℕ) → Option SubId
subchannel (name ∷ []) = sub_id name
subchannel _ = None

-- S, for an order
abbrev pub order : Order → List (List ℕ) → Option ImageCommand
order o operands = option_map (λ s. Io s o) (subchannel operands)

-- S E LL PPPPPPPP: a subchannel and what is to be set at it
abbrev pub modify : List (List ℕ) → Option ImageCommand
modify [] = None
modify (name ∷ operands) = sub_id name >>= λ s. setting operands >>= λ t. Some (Io s (Modify t))

-- k or n: a number alone
abbrev pub lone_number : List (List ℕ) → Option ℕ
lone_number (text ∷ []) = number text
lone_number _ = None

-- nothing
abbrev pub alone : OperatorCommand → List (List ℕ) → Option OperatorCommand
alone command [] = Some command
alone command _ = None

-- what an image says: S behind each word, and behind that of modify what is to be set too; no image
-- says another
abbrev pub image_command : Verb → List (List ℕ) → Option ImageCommand
image_command verb.Start operands = order Start operands
image_command verb.Halt operands = order Halt operands
image_command verb.Clear operands = order Clear operands
image_command verb.Cancel operands = order Cancel operands
image_command verb.Test operands = order Test operands
image_command verb.Store operands = order Store operands
image_command verb.Modify operands = modify operands
image_command verb.Active operands = option_map DeviceBegin (subchannel operands)
image_command verb.End operands = option_map DeviceEnd (subchannel operands)
image_command _ operands = None

-- what an operator says: k or n behind a word, or nothing; no operator says another
abbrev pub operator_command : Verb → List (List ℕ) → Option OperatorCommand
operator_command verb.Activate operands = option_map Activate (lone_number operands)
operator_command verb.Begin operands = option_map Begin (lone_number operands)
operator_command verb.Advance operands = alone Advance operands
operator_command verb.Commit operands = alone Commit operands
operator_command verb.Abort operands = alone Abort operands
operator_command verb.Undo operands = option_map Undo (lone_number operands)
operator_command verb.Redo operands = option_map Redo (lone_number operands)
operator_command verb.Show operands = alone Show operands
operator_command _ operands = None

-- the actors: A and B are images, P and Q operators
abbrev pub actor_named : List ℕ → Option Actor
actor_named word =
    if bytes_eq word (codes "A") then Some (actor.Image A)
    else if bytes_eq word (codes "B") then Some (actor.Image B)
    else if bytes_eq word (codes "P") then Some (actor.Operator P)
    else if bytes_eq word (codes "Q") then Some (actor.Operator Q)
    else None

-- what an actor says by a command
abbrev pub said_by : Actor → Verb → List (List ℕ) → Option Said
said_by (actor.Image thread) v operands = option_map (Image thread) (image_command v operands)
said_by (actor.Operator thread) v operands = option_map (Operator thread) (operator_command v operands)

-- what the word of an actor, that of a command and those behind it say
abbrev pub said : List ℕ → List ℕ → List (List ℕ) → Option Said
said who word operands = actor_named who >>= λ a. verb_named word >>= λ v. said_by a v operands
