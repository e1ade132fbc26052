use Rattle.std.proofs.Common.{arith, ◌≡◌, ◌∙◌, ◌++◌, [], map, ap, sym}
use Rattle.std.proofs.lemmas.List.{append-nil}
use Rattle.iocm_deck_writer.proofs.deck.records_in.Goals as goal

pub returns : goal.returns
returns g c =
    let all : c.loop-entry.entry-iterator ≡ [] = grind (arith, c.next.ensures, c.in-None.is) in
    let same : c.into_iter-entry-iterator.result ≡ c.args.walk = grind (arith, c.into_iter-entry-iterator.ensures) in
    sym (append-nil _) ∙ ap (λ rest. map (λ k. k.now) c.loop-entry.records.items ++ map (λ row. row.1) rest) (sym all)
    ∙ c.loop-entry.invariant ∙ ap (map (λ row. row.1)) same
