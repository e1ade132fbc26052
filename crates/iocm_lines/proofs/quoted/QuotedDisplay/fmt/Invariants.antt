-- What is written so far, with the escapes of what is left, is the text with its quote.
use Rattle.std.proofs.Common.{◌≡◌, ◌++◌, ◌∷◌, ℕ, List}
use Rattle.std.specs.Fmt.{HasWritten, IsPlainFormatter}
use Rattle.std.specs.Str.Iter.{chars_rest}
use Rattle.json.specs.Print.{escape}
use Rattle.iocm_lines.proofs.quoted.QuotedDisplay.fmt.Given as goal

abbrev pub invariant-loop-character : goal.invariant-loop-character
invariant-loop-character g l = IsPlainFormatter l.fn.f → (front : List ℕ)
    × (front ++ escape (chars_rest l.character-iterator) ≡ 34 ∷ escape l.fn.self.0.now)
    × HasWritten g.W.Write.write_str_gives l.fn.f front l.f
