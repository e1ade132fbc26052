-- The entry at the line's place is there, or there is none.
use Rattle.iocm_operation.proofs.Lines.{adds_answer, adds_none, entry_there, no_entry_there}
use Rattle.iocm_operation.proofs.answering.add.Goals as goal

pub returns-in_ok-push-in-Some : goal.returns-in_ok-push-in-Some
returns-in_ok-push-in-Some c =
    let es = c.args.entries.now in
    let e = c.in-Some.entry.now in
    adds_answer es c.args.place.now e c.args.answers.now.items c.push.new.self.items
    (entry_there es c.args.place.now.number e c.in-Some.ensures.lookup.0 c.in-Some.ensures.lookup.1)
    c.in_ok-push-in-Some.ensures.items

pub returns-in-None : goal.returns-in-None
returns-in-None c =
    adds_none c.args.entries.now c.args.place.now c.args.answers.now.items
    (no_entry_there c.args.entries.now c.args.place.now.number c.in-None.ensures.lookup.0)
