use Rattle.std.proofs.Common.{◌++◌, sym, ap, ◌∙◌}
use Rattle.std.proofs.lemmas.List.{append-nil}
use Rattle.iocm_reports.proofs.Printed.{no_remark}
use Rattle.iocm_reports.proofs.deck.put_remark.Goals as goal

pub returns-in_default : goal.returns-in_default
returns-in_default c = sym (append-nil c.args.text.now.items)
    ∙ ap (λ line. c.args.text.now.items ++ line)
    (sym (no_remark c.args.config.now.records c.args.pair.now c.in_default.not-Online))
