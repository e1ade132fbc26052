-- The digits so far with their commas, and those that are left.
use Rattle.std.proofs.Common.{◌≡◌, ◌++◌, drop}
use Rattle.iocm_words.specs.Words.{grouped}
use Rattle.iocm_words.proofs.words.grouped_digits.Given as goal

abbrev pub invariant-loop-place : goal.invariant-loop-place
invariant-loop-place l = l.word.items ++ grouped (drop l.place l.digits) ≡ grouped l.digits
