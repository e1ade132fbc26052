use Rattle.std.proofs.Common.{◌≡◌, ◌++◌, ◌∷◌, [], subst}
use Rattle.std.specs.Result.{OnOk}
use Rattle.iocm_tree_writer.specs.Written.{line_to_write}
use Rattle.iocm_difference_writer.specs.Written.{line_with}
use Rattle.iocm_difference_writer.proofs.lines.put_pairs.Goals as goal

pub returns : goal.returns
returns g c =
    subst (λ s. OnOk c.put_line.result
    (c.put_line.new.deck.items ≡ c.args.deck.now.items ++ line_to_write (line_with c.args.verb s) ∷ []))
    c.in_ok-statement.ensures c.put_line.ensures
