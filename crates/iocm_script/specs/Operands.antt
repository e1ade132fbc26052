-- What stands behind the word of a command: a subchannel, what MODIFY SUBCHANNEL sets, a number.
use Rattle.std.specs.Prelude.{ℕ, ◌==◌, Bool, true, false, if◌then◌else◌, Option, None, Some, List, [], ◌∷◌, length}
use Rattle.std.specs.Prelude.{codes}
use Rattle.std.specs.Str.{bytes_eq}
use Rattle.iocm_types.specs.declared.order.Setting.{Setting}
use Rattle.iocm_types.specs.declared.sub_id.SubId.{SubId}
use Rattle.iocm_values.specs.Digits.{hex_of, decimal_of}
use Rattle.iocm_values.specs.Numbers.{count_of}
use Rattle.iocm_values.specs.Reading.{◌>>=◌}

-- a number of so many hexadecimal digits, no fewer and no more, up to a limit
abbrev pub fixed_hex : ℕ → ℕ → List ℕ → Option ℕ
fixed_hex limit digits text = if length text == digits then hex_of limit digits text else None

-- a channel subsystem: one digit, 0 to 5
abbrev pub css : ℕ → Option ℕ
css digit = decimal_of 5 (digit ∷ [])

-- a MIF image ID: one digit, 1 to F
abbrev pub mif : ℕ → Option ℕ
mif digit = hex_of 15 1 (digit ∷ []) >>= λ n. if n == 0 then None else Some n

-- a subchannel set: one digit, 0 to 3
abbrev pub set_no : ℕ → Option ℕ
set_no digit = decimal_of 3 (digit ∷ [])

-- the byte that a point follows, and what follows the point
abbrev pub before_point : List ℕ → Option (ℕ × List ℕ)
before_point (byte ∷ point ∷ rest) = if point == 46 then Some (byte, rest) else None
before_point _ = None

-- a subchannel, as 0.1.0.0001: channel subsystem, image ID and set, each with a point behind it,
-- and four digits
abbrev pub sub_id : List ℕ → Option SubId
sub_id text =
    before_point text >>= λ first.
    before_point first.1 >>= λ second.
    before_point second.1 >>= λ third.
    css first.0 >>= λ c.
    mif second.0 >>= λ m.
    set_no third.0 >>= λ s.
    fixed_hex 65535 4 third.1 >>= λ n.
    Some (record { image = record { css = c; mif = m }; set = s; number = n })

-- the enabled bit: 0 or 1
abbrev pub enabled : List ℕ → Option Bool
enabled text = if bytes_eq text (codes "0") then Some false else if bytes_eq text (codes "1") then Some true else None

-- E LL PPPPPPPP, what MODIFY SUBCHANNEL sets: the enabled bit, a mask of two digits and a parameter
-- of eight
abbrev pub setting : List (List ℕ) → Option Setting
setting (bit ∷ mask ∷ parm ∷ []) =
    enabled bit >>= λ e.
    fixed_hex 255 2 mask >>= λ l.
    fixed_hex 4294967295 8 parm >>= λ p.
    Some (record { enabled = e; lpm = l; parm = p })
setting _ = None

-- the number of a change deck or of a change: decimal, 1 to 4294967295
abbrev pub number : List ℕ → Option ℕ
number text = count_of 4294967295 text
