use Rattle.std.proofs.Common.{◌≡◌, [], refl, sym, ◌∙◌, arith}
use Rattle.std.proofs.lemmas.List.{append-nil}
use Rattle.iocm_stage.proofs.Stages.{gone_back, one_back}
use Rattle.iocm_stage.proofs.staged.Staged.go_back.Goals as goal

pub returns-clause-stage : goal.returns-clause-stage
returns-clause-stage c =
    let none : c.loop-edit.self.back.items ≡ [] =
    grind (c.in_default.ensures.variant, c.in_default.is, c.loop-edit.self.back.ok.0, arith) in
    gone_back c.args.self.now c.args.plant.now c.loop-edit.self
    (record { done = c.loop-edit.self.done; forward = c.loop-edit.self.forward; back = c.pop.new.self })
    c.loop-edit.plant c.loop-edit.invariant none
    (sym (append-nil c.pop.new.self.items) ∙ sym c.in_default.ensures.items ∙ none) refl refl
    c.in_default.ensures.capacity refl

pub loop-edit-preserved : goal.loop-edit-preserved
loop-edit-preserved c = one_back c.args.self.now c.args.plant.now c.loop-edit.self
    (record { done = c.loop-edit.self.done; forward = c.push_reserved.new.self; back = c.pop.new.self }) c.in-Some.edit
    c.unapply-again.result
    c.loop-edit.plant c.unapply-again.new.self c.loop-edit.invariant c.in-Some.ensures.items
    c.push_reserved.ensures.items
    c.push_reserved.ensures.capacity c.in-Some.ensures.capacity refl
    c.unapply-again.ensures.state c.unapply-again.ensures.inverse c.unapply-again.ensures.back
    c.unapply-again.ensures.room
