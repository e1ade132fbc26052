use Rattle.std.proofs.Common.{sym, ◌∙◌}
use Rattle.iocm_rounds.proofs.Working.{goes_on_first, goes_on_second, goes_on_stopped, none_of}
use Rattle.iocm_rounds.proofs.worker.Work.make.Goals as goal

pub returns-then-is_some-clause-goes_on : goal.returns-then-is_some-clause-goes_on
returns-then-is_some-clause-goes_on g c =
    goes_on_stopped c.args.number c.args.call c.args.self.now.caller c.args.self.now.first.items
    c.args.self.now.second.items c.args.self.now.stopped
    (sym c.if-is_some.true ∙ c.is_some.ensures)

pub returns-then-number-eq0-clause-goes_on : goal.returns-then-number-eq0-clause-goes_on
returns-then-number-eq0-clause-goes_on g c =
    goes_on_first c.args.number c.args.call c.args.self.now.caller c.keep-self.new.me c.args.self.now.first.items
    c.keep-self.new.receipts.items
    c.args.self.now.second.items c.args.self.now.stopped c.keep-self.result c.if-number-eq0.true
    (none_of c.args.self.now.stopped (sym c.is_some.ensures ∙ c.if-is_some.false)) c.keep-self.ensures

pub returns-else-number-eq0-clause-goes_on : goal.returns-else-number-eq0-clause-goes_on
returns-else-number-eq0-clause-goes_on g c =
    goes_on_second c.args.number c.args.call c.args.self.now.caller c.keep-self-else-number-eq0.new.me
    c.args.self.now.first.items
    c.args.self.now.second.items c.keep-self-else-number-eq0.new.receipts.items c.args.self.now.stopped
    c.keep-self-else-number-eq0.result c.if-number-eq0.false c.requires.operator
    (none_of c.args.self.now.stopped (sym c.is_some.ensures ∙ c.if-is_some.false)) c.keep-self-else-number-eq0.ensures
