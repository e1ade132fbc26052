-- A line of the table, byte by byte.
use Rattle.iocm_values.proofs.Numerals.{glyph, hex2_text}
use Rattle.iocm_lines.proofs.Hex.{hex4_pairs}
use Rattle.std.proofs.Common.{◌≡◌, ℕ, ◌/◌, ◌%◌, ◌<◌, ◌≤◌, List, [], ◌∷◌, true, refl, ◌∙◌}
use Rattle.std.proofs.Common.{arith, ◌++◌, length, codes}
use Rattle.std.proofs.lemmas.Fmt.{hex_one_digit}
use Rattle.std.specs.Fmt.{padded_integral, char_count}
use Rattle.iocm_types.specs.Print.{hex4}
use Rattle.iocm_model.specs.Machine.Table.{left2, left3, line_of, chpids}
use Rattle.std.proofs.lemmas.List.{append_assoc}
use Rattle.iocm_types.specs.declared.sub_id.SubId.{SubId}
use Rattle.iocm_types.specs.declared.view.View.{View}
use Rattle.iocm_lines.specs.Told.{with_device}
use Rattle.iocm_console.specs.Alike.{with_numbers, HaveDigits}

-- a digit, left aligned in three places and in two
pub left3_digits : (n : ℕ) → n < 16 → left3 n ≡ glyph n ∷ 32 ∷ 32 ∷ []
unfolding padded_integral char_count lib.Utf8.encode
left3_digits n small = rw (hex_one_digit true n small) refl

pub left2_digits : (n : ℕ) → n < 16 → left2 n ≡ glyph n ∷ 32 ∷ []
unfolding padded_integral char_count lib.Utf8.encode
left2_digits n small = rw (hex_one_digit true n small) refl

-- the numbers of a line in their places, and then the paths
pub line_by_places : (s : SubId) (v : View) → s.image.css < 16 → s.image.mif < 16 → s.set < 16 → s.number < 65536
    → v.device < 65536 → v.pim < 256 → v.pam < 256
    → glyph s.image.css ∷ 32 ∷ 32 ∷ 32 ∷ glyph s.image.mif ∷ 32 ∷ 32 ∷ glyph s.set ∷ 32 ∷ 32 ∷ 32
    ∷ glyph (s.number / 256 / 16) ∷ glyph (s.number / 256 % 16) ∷ glyph (s.number % 256 / 16)
    ∷ glyph (s.number % 256 % 16) ∷ 32
    ∷ glyph (v.device / 256 / 16) ∷ glyph (v.device / 256 % 16) ∷ glyph (v.device % 256 / 16)
    ∷ glyph (v.device % 256 % 16) ∷ 32
    ∷ glyph (v.pim / 16) ∷ glyph (v.pim % 16) ∷ 32 ∷ 32 ∷ glyph (v.pam / 16) ∷ glyph (v.pam % 16) ∷ 32 ∷ chpids v.paths
    ≡ line_of (s, v)
line_by_places s v css mif set number device pim pam =
    rw (
      left3_digits s.image.css css,
      left2_digits s.image.mif mif,
      left3_digits s.set set,
      hex4_pairs s.number number,
      hex4_pairs v.device device,
      hex2_text v.pim pim,
      hex2_text v.pam pam,
    ) refl

-- a line with another subchannel number and another device number
pub other_numbers : (s : SubId) (v : View) (number device : ℕ) → HaveDigits s v.device
    → with_numbers number device (line_of (s, v) ++ 10 ∷ [])
    ≡ line_of (record { image = s.image; set = s.set; number = number }, with_device device v) ++ 10 ∷ []
other_numbers s v number device small =
    rw (
      left3_digits s.image.css small.css,
      left2_digits s.image.mif small.mif,
      left3_digits s.set small.set,
      hex4_pairs s.number small.number,
      hex4_pairs v.device small.device,
    ) (simp append_assoc)

-- a line reaches beyond its numbers
pub line_is_long : (s : SubId) (v : View) → HaveDigits s v.device → 20 ≤ length (line_of (s, v) ++ 10 ∷ [])
line_is_long s v small =
    rw (
      left3_digits s.image.css small.css,
      left2_digits s.image.mif small.mif,
      left3_digits s.set small.set,
      hex4_pairs s.number small.number,
      hex4_pairs v.device small.device,
    ) (omega arith)

-- a subchannel number and a device number, byte by byte
pub two_by_places : (number device : ℕ) → number < 65536 → device < 65536
    → glyph (number / 256 / 16) ∷ glyph (number / 256 % 16) ∷ glyph (number % 256 / 16) ∷ glyph (number % 256 % 16) ∷ 32
    ∷ glyph (device / 256 / 16) ∷ glyph (device / 256 % 16) ∷ glyph (device % 256 / 16) ∷ glyph (device % 256 % 16) ∷ []
    ≡ hex4 number ++ (codes " " ++ hex4 device)
two_by_places number device small low = rw (hex4_pairs number small, hex4_pairs device low) refl

-- a blank and the two digits of a path, put at the end one after the other
pub path_by_places : (xs : List ℕ) (path : ℕ) → path < 256
    → ((xs ++ 32 ∷ []) ++ glyph (path / 16) ∷ []) ++ glyph (path % 16) ∷ [] ≡ xs ++ chpids (path ∷ [])
path_by_places xs path small =
    rw (hex2_text path small)
    (append_assoc (xs ++ 32 ∷ []) (glyph (path / 16) ∷ []) (glyph (path % 16) ∷ []) ∙ append_assoc xs (32 ∷ []) _)
