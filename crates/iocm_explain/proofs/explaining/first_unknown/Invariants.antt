-- Each of the words so far is a refusal's number.
use Rattle.std.proofs.Common.{◌≡◌, ℕ, List, drop}
use Rattle.std.specs.Borrow.{Bor}
use Rattle.std.specs.List.{find}
use Rattle.iocm_explain.specs.Named.{is_unknown}
use Rattle.iocm_explain.proofs.explaining.first_unknown.Given as goal

abbrev pub invariant-loop-word : goal.invariant-loop-word
invariant-loop-word l =
    let p = λ (word : Bor (List ℕ)). is_unknown word.now in find p (drop l.word-index l.words) ≡ find p l.words
