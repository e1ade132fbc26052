use Rattle.std.proofs.Common.{◌∙◌, ◌++◌, arith, ap, sym}
use Rattle.std.specs.List.{flat_map, range_with_len}
use Rattle.iocm_values.proofs.Joined.{flat_map_more}
use Rattle.iocm_words.specs.Paths as meaning
use Rattle.iocm_words.proofs.paths.subsystems.Goals as goal

pub loop-number-preserved : goal.loop-number-preserved
loop-number-preserved c =
    c.in_ok-put_subsystem.ensures
    ∙ ap (λ members. members ++ meaning.member_of c.args.paths.now c.subsystem.result) c.loop-number.invariant
    ∙ ap (λ css. flat_map (meaning.member_of c.args.paths.now) (range_with_len 0 c.loop-number.number)
    ++ meaning.member_of c.args.paths.now css) c.subsystem.ensures
    ∙ sym (flat_map_more (meaning.member_of c.args.paths.now) 0 c.loop-number.number c.loop-number.number
    (omega arith))
