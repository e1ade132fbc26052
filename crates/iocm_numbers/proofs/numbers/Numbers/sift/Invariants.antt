-- What was sifted, with what the places that are left give, is what all give.
use Rattle.std.proofs.Common.{◌≡◌}
use Rattle.iocm_numbers.proofs.Sifting.{AreSifted}
use Rattle.iocm_numbers.proofs.numbers.Numbers.sift.Given as goal

abbrev pub invariant-loop-place : goal.invariant-loop-place
invariant-loop-place g l =
    (l.walk ≡ l.config.records)
    × AreSifted l.config.records l.self.numbers l.places l.place-index l.sifted.leaving.items l.sifted.unnumbered.items
