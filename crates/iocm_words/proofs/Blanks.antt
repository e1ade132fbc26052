-- A line without the blanks at its end.
use Rattle.std.proofs.Common.{◌≡◌, ◌≢◌, ℕ, ◌+◌, ◌-◌, ◌<◌, ◌≤◌, ◌==◌, ◌&&◌, if◌then◌else◌, Bool, true, false, List, []}
use Rattle.std.proofs.Common.{◌∷◌, ◌++◌, length, take, get_or, refl, sym, ap, ◌∙◌}
use Rattle.std.proofs.lemmas.List.{length_push, take_more}
use Rattle.std.proofs.Common.{arith}
use Rattle.std.proofs.lemmas.Bool.Decides.{nat_tests}
use Rattle.iocm_words.specs.Table.{without_blanks_behind}

-- a byte, and what is left of the others
abbrev kept : ℕ → List ℕ → List ℕ
kept b rest = if (b == 32) && (length rest == 0) then [] else b ∷ rest

-- a blank more at the end goes
pub without-blank : (line : List ℕ) → without_blanks_behind (line ++ 32 ∷ []) ≡ without_blanks_behind line
without-blank [] = refl
without-blank (b ∷ line) = ap (kept b) (without-blank line)

and_no : (a : Bool) → (a && false) ≡ false
and_no true = refl
and_no false = refl

some_left : (b : ℕ) (rest : List ℕ) → length rest == 0 ≡ false → kept b rest ≡ b ∷ rest
some_left b rest some = rw (some, and_no (b == 32)) refl

-- another byte at the end keeps the line as it is
pub with-other : (line : List ℕ) (b : ℕ) → b == 32 ≡ false → without_blanks_behind (line ++ b ∷ []) ≡ line ++ b ∷ []
with-other [] b other = rw other refl
with-other (x ∷ line) b other =
    let some : length (line ++ b ∷ []) == 0 ≡ false = grind (arith, nat_tests, length_push) in
    ap (kept x) (with-other line b other) ∙ some_left x (line ++ b ∷ []) some

-- up to an end there is the byte before it last
pub take-before : (line : List ℕ) (end : ℕ) → 0 < end → end ≤ length line
    → take end line ≡ take (end - 1) line ++ get_or line (end - 1) 0 ∷ []
take-before line end some within =
    let e : end ≡ end - 1 + 1 = omega (arith, some) in
    ap (λ n. take n line) e ∙ take_more line (end - 1) 0 (omega (arith, some, within))

-- an end behind a blank may go before it
pub end-before_blank : (line : List ℕ) (end : ℕ) → 0 < end → end ≤ length line → get_or line (end - 1) 0 ≡ 32
    → without_blanks_behind (take (end - 1) line) ≡ without_blanks_behind (take end line)
end-before_blank line end some within blank =
    sym (without-blank (take (end - 1) line))
    ∙ ap (λ b. without_blanks_behind (take (end - 1) line ++ b ∷ [])) (sym blank)
    ∙ ap without_blanks_behind (sym (take-before line end some within))

is_other : (b : ℕ) → b ≢ 32 → b == 32 ≡ false
is_other b other = grind (arith, nat_tests, other)

-- an end behind another byte stays
pub end-behind_other : (line : List ℕ) (end : ℕ) → 0 < end → end ≤ length line → get_or line (end - 1) 0 ≢ 32
    → without_blanks_behind (take end line) ≡ take end line
end-behind_other line end some within other =
    ap without_blanks_behind (take-before line end some within)
    ∙ with-other (take (end - 1) line) (get_or line (end - 1) 0) (is_other (get_or line (end - 1) 0) other)
    ∙ sym (take-before line end some within)
