-- What stands in a JSON string for a byte, by its kind.
use Rattle.std.proofs.Common.{◌≡◌, ℕ, ◌<◌, ◌≤◌, ◌/◌, ◌%◌, [], ◌∷◌, refl}
use Rattle.std.proofs.Common.{lt-ltb, le-ltb}
use Rattle.std.specs.Char.{digit_char}
use Rattle.json.specs.Print.{escape_byte, escape_letter}

pub short_escape : (x : ℕ) → 0 < escape_letter x → escape_byte x ≡ 92 ∷ escape_letter x ∷ []
unfolding escape_byte
short_escape x some = rw (lt-ltb 0 (escape_letter x) some) refl

pub long_escape : (x : ℕ) → escape_letter x ≡ 0 → x < 32
    → escape_byte x ≡ 92 ∷ 117 ∷ 48 ∷ 48 ∷ digit_char (x / 16) ∷ digit_char (x % 16) ∷ []
unfolding escape_byte
long_escape x none small = rw (none, lt-ltb x 32 small) refl

pub no_escape : (x : ℕ) → escape_letter x ≡ 0 → 32 ≤ x → escape_byte x ≡ x ∷ []
unfolding escape_byte
no_escape x none large = rw (none, le-ltb x 32 large) refl
