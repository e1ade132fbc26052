use Rattle.std.proofs.Common.{◌≡◌, [], length, refl, sym, ap, ◌∙◌, arith}
use Rattle.std.proofs.lemmas.List.{append-nil}
use Rattle.iocm_history.specs.Stage.{once_more}
use Rattle.iocm_stage.proofs.Stages.{advanced, how_many, not_advanced}
use Rattle.iocm_stage.proofs.staged.Staged.advance.Goals as goal

pub returns-in_default-clause-stage : goal.returns-in_default-clause-stage
returns-in_default-clause-stage c =
    let none : c.args.self.now.forward.items ≡ [] =
    grind (c.in_default.ensures.variant, c.in_default.is, c.args.self.now.forward.ok.0, arith) in
    not_advanced c.args.self.now
    (record { done = c.args.self.now.done; forward = c.pop.new.self; back = c.args.self.now.back }) c.args.plant.now
    none
    (sym (append-nil c.pop.new.self.items) ∙ sym c.in_default.ensures.items ∙ none) refl c.in_default.ensures.capacity
    refl refl

pub returns-in_default-clause-left : goal.returns-in_default-clause-left
returns-in_default-clause-left c t s stage =
    let none : c.args.self.now.forward.items ≡ [] =
    grind (c.in_default.ensures.variant, c.in_default.is, c.args.self.now.forward.ok.0, arith) in
    let still : c.pop.new.self.items ≡ [] =
    sym (append-nil c.pop.new.self.items) ∙ sym c.in_default.ensures.items ∙ none in
    sym (ap length still)
    ∙ how_many (record { done = c.args.self.now.done; forward = c.pop.new.self; back = c.args.self.now.back })
    (once_more t) s c.args.plant.now
    (not_advanced c.args.self.now
    (record { done = c.args.self.now.done; forward = c.pop.new.self; back = c.args.self.now.back }) c.args.plant.now
    none
    still refl c.in_default.ensures.capacity refl refl t s stage)

pub returns-clause-stage : goal.returns-clause-stage
returns-clause-stage c =
    advanced c.args.self.now
    (record { done = c.args.self.now.done; forward = c.pop.new.self; back = c.push_reserved.new.self })
    c.in-Some.edit c.unapply-back.result c.args.plant.now c.unapply-back.new.self c.in-Some.ensures.items
    c.push_reserved.ensures.items
    c.in-Some.ensures.capacity c.push_reserved.ensures.capacity refl
    c.unapply-back.ensures.state c.unapply-back.ensures.inverse c.unapply-back.ensures.back c.unapply-back.ensures.room

pub returns-clause-left : goal.returns-clause-left
returns-clause-left c t s stage = c.left.ensures (once_more t) s c.unapply-back.new.self
    (advanced c.args.self.now
    (record { done = c.args.self.now.done; forward = c.pop.new.self; back = c.push_reserved.new.self })
    c.in-Some.edit c.unapply-back.result c.args.plant.now c.unapply-back.new.self c.in-Some.ensures.items
    c.push_reserved.ensures.items
    c.in-Some.ensures.capacity c.push_reserved.ensures.capacity refl
    c.unapply-back.ensures.state c.unapply-back.ensures.inverse c.unapply-back.ensures.back c.unapply-back.ensures.room
    t s stage)
