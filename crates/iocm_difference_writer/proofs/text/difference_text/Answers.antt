use Rattle.std.proofs.Common.{◌≡◌, ◌∙◌, ◌==◌, ◌++◌, ℕ, true, Option, List, [], ◌∷◌, length, sym, append-nil, arith}
use Rattle.std.proofs.Common.{eqb-true}
use Rattle.std.specs.Option.{option_map}
use Rattle.iocm_model.specs.Machine.Configuration.{Configuration}
use Rattle.iocm_tree.specs.Carried.{Carried}
use Rattle.iocm_difference_writer.specs.Runs.{actions_in}
use Rattle.iocm_difference_writer.specs.Text.{difference_text}
use Rattle.iocm_difference_writer.proofs.text.difference_text.Goals as goal

nothing_left : (old : Option Configuration) (rest : List Carried) (text : List ℕ) → (length rest == 0) ≡ true
    → text ++ difference_text old (actions_in rest) ≡ text
nothing_left old [] text none = append-nil text
nothing_left old (e ∷ rest) text none = let past : length (e ∷ rest) ≡ 0 = eqb-true (length (e ∷ rest)) 0 none in
    absurd (omega arith)

pub returns : goal.returns
returns g c =
    sym (nothing_left (option_map (λ k. k.now.records) c.args.old) c.loop-rest.rest.now c.loop-rest.text.items
    (sym c.is_empty.ensures ∙ c.loop-rest-test.false))
    ∙ c.loop-rest.invariant
