use Rattle.std.proofs.Common.{refl}
use Rattle.iocm_lines.proofs.InParts.{name_has_letters}
use Rattle.iocm_lines.proofs.Texts.{key_stays, online_stays, letters_stay}
use Rattle.iocm_lines.proofs.refused.plain_key.Goals as goal

pub returns-in-Online-clause-plain : goal.returns-in-Online-clause-plain
returns-in-Online-clause-plain c =
    rw c.in-Online.is
    (online_stays c.in-Online.field-0 c.in-Online.field-1 c.in-Online.name
    (letters_stay c.in-Online.name (name_has_letters c.in-Online.name c.as_bytes.ensures.name)))

pub returns-in_default : goal.returns-in_default
returns-in_default c = record { same = refl; plain = key_stays c.args.key c.in_default.not-Online }
