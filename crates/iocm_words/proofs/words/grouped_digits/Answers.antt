-- One digit more, with its comma.
use Rattle.std.proofs.Common.{◌≡◌, ℕ, ◌+◌, ◌-◌, ◌<◌, List, ◌∷◌, ◌++◌, length, drop, get_or, append_assoc, refl, sym}
use Rattle.std.proofs.Common.{ap, ◌∙◌, arith, length-drop}
use Rattle.std.proofs.lemmas.List.{drop_more}
use Rattle.iocm_words.specs.Words.{comma_before, grouped}
use Rattle.iocm_words.proofs.words.grouped_digits.Goals as goal

one_more : (word new digits : List ℕ) (i left : ℕ) → i < length digits → left ≡ length digits - i - 1
    → new ≡ word ++ (get_or digits i 0 ∷ comma_before left)
    → word ++ grouped (drop i digits) ≡ grouped digits → new ++ grouped (drop (i + 1) digits) ≡ grouped digits
one_more word new digits i left within few put so_far =
    let rest = drop (i + 1) digits in
    let behind : left ≡ length rest = omega (arith, length-drop (i + 1) digits) in
    ap (λ w. w ++ grouped rest) (put ∙ ap (λ n. word ++ (get_or digits i 0 ∷ comma_before n)) behind)
    ∙ append_assoc word (get_or digits i 0 ∷ comma_before (length rest)) (grouped rest)
    ∙ ap (λ ds. word ++ grouped ds) (sym (drop_more digits i 0 within)) ∙ so_far

pub loop-place-preserved : goal.loop-place-preserved
loop-place-preserved c =
    one_more c.loop-place.word.items c.put_digit.new.word.items c.args.digits.now c.loop-place.place _
    c.loop-place-test.true refl c.in_ok-put_digit.ensures c.loop-place.invariant
