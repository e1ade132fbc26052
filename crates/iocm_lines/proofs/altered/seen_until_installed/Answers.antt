use Rattle.std.proofs.Common.{arith, refl}
use Rattle.iocm_lines.proofs.Hex.{hex4_pairs}
use Rattle.iocm_lines.proofs.altered.seen_until_installed.Goals as goal

pub returns-clause-text : goal.returns-clause-text
returns-clause-text c =
    rw (
      hex4_pairs c.args.view.now.device (omega arith),
      c.digits.ensures,
      c.digits-2.ensures,
      c.number-device.ensures,
    ) refl
