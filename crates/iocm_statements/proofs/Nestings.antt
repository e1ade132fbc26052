-- Nesting, and the bytes at which it changes.
use Rattle.std.proofs.Common.{◌≡◌, ℕ, ◌<◌, Bool, true, false, not, ◌==◌, Some, refl, sym, ap, ◌∙◌, arith}
use Rattle.std.proofs.lemmas.Bool.{eqb-true, and_parts, not-true}
use Rattle.std.proofs.lemmas.Bool.Decides.{nat_tests}
use Rattle.iocm_statements.specs.declared.nesting.Nesting.{Nesting}
use Rattle.iocm_statements.specs.Nesting.{start, is_outside, step, cuts, sets}
use Rattle.iocm_statements.specs.Operands.{is_keyword_byte}

pub outside_is_start : (p : Nesting) → is_outside p ≡ true → p ≡ start
unfolding is_outside
outside_is_start p out =
    let depth : p.depth ≡ 0 = eqb-true p.depth 0 (and_parts (not p.quoted) (p.depth == 0) out).1 in
    let quoted : p.quoted ≡ false = not-true p.quoted (and_parts (not p.quoted) (p.depth == 0) out).0 in
    λ i. record { depth = depth i; quoted = quoted i }

-- a byte behind the comma in the code leaves the nesting: all bytes that change it come before
pub letters_step : (p : Nesting) (b : ℕ) → 44 < b → step p b ≡ Some p
unfolding step
letters_step p b greater = by_quotes p.quoted
  where
    by_quotes : (q : Bool) → step (record p { quoted = q }) b ≡ Some (record p { quoted = q })
    by_quotes true = grind (arith, nat_tests, greater)
    by_quotes false = grind (arith, nat_tests, greater)

pub start_is_outside : is_outside start ≡ true
unfolding is_outside
start_is_outside = refl

pub comma_cuts : cuts start 44 ≡ true
unfolding cuts is_outside
comma_cuts = refl

comma_steps : step start 44 ≡ Some start
unfolding step
comma_steps = refl

pub cuts_at_start : (p : Nesting) (b : ℕ) → cuts p b ≡ true → p ≡ start
unfolding cuts
cuts_at_start p b cut = outside_is_start p (and_parts (is_outside p) (b == 44) cut).0

pub cuts_at_comma : (p : Nesting) (b : ℕ) → cuts p b ≡ true → b ≡ 44
unfolding cuts
cuts_at_comma p b cut = eqb-true b 44 (and_parts (is_outside p) (b == 44) cut).1

pub step_over_cut : (p : Nesting) (b : ℕ) → cuts p b ≡ true → step p b ≡ Some p
step_over_cut p b cut =
    let begun = cuts_at_start p b cut in
    let comma = cuts_at_comma p b cut in
    (λ i. step (begun i) (comma i)) ∙ comma_steps ∙ ap Some (sym begun)

pub sets_at_start : (p : Nesting) (b : ℕ) → sets p b ≡ true → p ≡ start
unfolding sets
sets_at_start p b here = outside_is_start p (and_parts (is_outside p) (b == 61) here).0

pub sets_at_equals : (p : Nesting) (b : ℕ) → sets p b ≡ true → b ≡ 61
unfolding sets
sets_at_equals p b here = eqb-true b 61 (and_parts (is_outside p) (b == 61) here).1

pub equals_sets : sets start 61 ≡ true
unfolding sets is_outside
equals_sets = refl

-- a byte of a keyword is no equal sign
pub keyword_byte_sets_not : (b : ℕ) → is_keyword_byte b ≡ true → sets start b ≡ false
unfolding sets is_outside
keyword_byte_sets_not b word = grind (arith, nat_tests)

-- nor does it change the nesting
pub keyword_byte_stays : (b : ℕ) → is_keyword_byte b ≡ true → step start b ≡ Some start
unfolding step
keyword_byte_stays b word = grind (arith, nat_tests)
