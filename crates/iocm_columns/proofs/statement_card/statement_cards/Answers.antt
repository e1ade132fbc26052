use Rattle.std.proofs.Common.{rules}
use Rattle.iocm_columns.proofs.Gathering.{line_refused}
use Rattle.iocm_columns.proofs.statement_card.statement_cards.Goals as goal

pub returns-in_err-make_card : goal.returns-in_err-make_card
returns-in_err-make_card c =
    let refused = line_refused c.loop-line.found.items _ _ c.in-Some.line.now _ _ _ c.in-Some.ensures.lines
    c.in_err-make_card.ensures c.loop-line.invariant.gathered in search (rules, refused)
