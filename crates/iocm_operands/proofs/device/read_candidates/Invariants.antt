use Rattle.std.proofs.Common.{◌≡◌, drop, map}
use Rattle.iocm_values.specs.Reading.{every, after_front}
use Rattle.iocm_operands.specs.Device.{candidate_word}
use Rattle.iocm_operands.proofs.device.read_candidates.Given as goal

abbrev pub invariant-loop-text : goal.invariant-loop-text
invariant-loop-text l = after_front l.names.items (every candidate_word (map (λ k. k.now) (drop l.text-index l.texts)))
    ≡ every candidate_word (map (λ k. k.now) l.texts)
