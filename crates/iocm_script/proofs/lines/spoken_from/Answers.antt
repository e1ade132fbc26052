-- The words behind the first one are the second and those behind it.
use Rattle.std.proofs.Common.{◌≡◌, ℕ, ◌-◌, ◌≤◌, List, [], ◌∷◌, length, get_or, take, drop, map, Bor, ap, ◌∙◌, arith}
use Rattle.std.proofs.lemmas.List.{take_all}
use Rattle.iocm_script.specs.Lines.{actors_line, spoken_by}
use Rattle.iocm_script.proofs.lines.spoken_from.Goals as goal

two_or_more : (line : ℕ) (first : List ℕ) (rest : List (Bor (List ℕ))) (d : Bor (List ℕ)) → 1 ≤ length rest
    → actors_line line first (get_or rest 0 d).now (map (λ w. w.now) (take (length rest - 1) (drop 1 rest)))
    ≡ spoken_by line (first ∷ map (λ w. w.now) rest)
two_or_more line first [] d some = absurd (omega arith)
two_or_more line first (w ∷ ws) d some =
    ap (λ ws. actors_line line first w.now (map (λ w. w.now) ws)) (take_all (length (w ∷ ws) - 1) ws (omega arith))

pub returns-in-len1-up : goal.returns-in-len1-up
returns-in-len1-up c = c.actors_line.ensures
    ∙ two_or_more c.args.line c.args.first.now c.args.rest.now _ c.in-len1-up.len_at_least
