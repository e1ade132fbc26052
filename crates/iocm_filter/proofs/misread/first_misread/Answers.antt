-- The word that is found among words has the text that is found among their texts.
use Rattle.std.proofs.Common.{◌≡◌, ℕ, Bool, true, false, cond, List, [], ◌∷◌, map, Some, refl, rules, tests}
use Rattle.std.specs.Prelude.{is_none}
use Rattle.std.specs.List.{find}
use Rattle.std.specs.Option.{option_map}
use Rattle.std.proofs.lemmas.Iterator.{YieldsList-from_slice}
use Rattle.std.proofs.lemmas.Iterator.Search.{find_from_yields_List}
use denote.Ref.{Bor}
use Rattle.iocm_filter.proofs.misread.first_misread.Goals as goal

found_text : (p : List ℕ → Bool) (ws : List (Bor (List ℕ)))
    → option_map (λ w. w.now) (find (λ w. p w.now) ws) ≡ find p (map (λ w. w.now) ws)
found_text p [] = refl
found_text p (w ∷ ws) = let rest = found_text p ws in
    elim (p w.now) as
    (λ b. option_map (λ w. w.now) (cond b (Some w) (find (λ w. p w.now) ws))
    ≡ cond b (Some w.now) (find p (map (λ w. w.now) ws))) [ true ↦ refl | false ↦ rest ]

pub returns-in_err-value : goal.returns-in_err-value
returns-in_err-value g c =
    let found = rw c.in_err-value.was at
    (find_from_yields_List (λ w. is_none (g.T.AskedWord.asked w.now)) _ _ c.find.result c.find.ensures.ran
    (YieldsList-from_slice c.args.words.now cc) (λ x b q k. search (rules, tests))) in
    rw (c.from_residual.ensures, ← found_text (λ w. is_none (g.T.AskedWord.asked w)) c.args.words.now, ← found) refl

pub returns : goal.returns
returns g c =
    let found = rw c.in_ok-value.was at
    (find_from_yields_List (λ w. is_none (g.T.AskedWord.asked w.now)) _ _ c.find.result c.find.ensures.ran
    (YieldsList-from_slice c.args.words.now cc) (λ x b q k. search (rules, tests))) in
    rw (← found_text (λ w. is_none (g.T.AskedWord.asked w)) c.args.words.now, ← found) refl
