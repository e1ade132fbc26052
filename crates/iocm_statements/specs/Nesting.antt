-- Nesting: inside how many parentheses a byte of a text stands, and whether inside quotes.
-- Bytes by their codes: 39 is a quote, 40 and 41 are parentheses, 44 is a comma, 61 an equal sign.
use Rattle.std.specs.Prelude.{ℕ, ◌+◌, ◌-◌, ◌==◌, ◌&&◌, Bool, false, not, if◌then◌else◌, Option, None, Some}
use Rattle.iocm_statements.specs.declared.nesting.Nesting.{Nesting}

-- the nesting at the beginning of a text
abbrev pub start : Nesting
start = record { depth = 0; quoted = false }

-- outside parentheses and quotes
unfoldable pub is_outside : Nesting → Bool
is_outside p = not p.quoted && (p.depth == 0)

-- the nesting behind a byte; there is none behind a parenthesis that closes nothing
unfoldable pub step : Nesting → ℕ → Option Nesting
step p b =
    if b == 39 then Some (record p { quoted = not p.quoted })
    else if p.quoted then Some p
    else if b == 40 then Some (record p { depth = p.depth + 1 })
    else if b == 41 then (if p.depth == 0 then None else Some (record p { depth = p.depth - 1 }))
    else Some p

-- a comma that separates: one outside parentheses and quotes
unfoldable pub cuts : Nesting → ℕ → Bool
cuts p b = is_outside p && (b == 44)

-- an equal sign that ends a keyword: one outside parentheses and quotes
unfoldable pub sets : Nesting → ℕ → Bool
sets p b = is_outside p && (b == 61)
