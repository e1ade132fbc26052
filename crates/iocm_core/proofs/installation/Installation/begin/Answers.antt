-- A beginning is accepted or refused as its tree means.
use Rattle.std.proofs.Common.{◌∙◌, sym}
use Rattle.iocm_history.specs.Entry as history
use Rattle.iocm_types.specs.declared.refused.At.TheVariants.{Nothing}
use Rattle.iocm_model.specs.Change.Refusal.{refusal_at}
use Rattle.iocm_types.specs.declared.rule.Rule.TheVariants.{O1}
use Rattle.iocm_tree.specs.Trees.{plain_tree, tree_of}
use Rattle.iocm_core.proofs.Changes.{beginning_answered, beginning_refused, beginning_over_a_limit}
use Rattle.iocm_core.proofs.Kept.{none_if, staged_if, kept_idle, refuses}
use Rattle.iocm_core.proofs.Rightness.{begin_o1}
use Rattle.iocm_core.proofs.installation.Installation.begin.Goals as goal

pub returns-then-is_some-clause-answers : goal.returns-then-is_some-clause-answers
returns-then-is_some-clause-answers c = λ opening h it.
    let m = c.args.self.now in
    let laws = c.journals_keep_to_histories.ensures in
    let g = staged_if opening h m it c.if-is_some.ensures in
    let t = plain_tree (tree_of c.args.tree.now) in
    refuses laws.others opening h m (history.begin t) (refusal_at O1 Nothing) it (begin_o1 opening h g.0 t g.1)

pub returns-in-Some-clause-answers : goal.returns-in-Some-clause-answers
returns-in-Some-clause-answers c = λ opening h it.
    let m = c.args.self.now in
    let laws = c.journals_keep_to_histories.ensures in
    let t = plain_tree (tree_of c.args.tree.now) in
    refuses laws.others opening h m (history.begin t) c.in-Some.why it
    (beginning_over_a_limit opening h m t c.in-Some.why it (none_if m.stage c.if-is_some.ensures)
    c.in-Some.ensures.meaning)

pub returns-in-Ok-clause-answers : goal.returns-in-Ok-clause-answers
returns-in-Ok-clause-answers c = λ opening h it.
    let m = c.args.self.now in
    let laws = c.journals_keep_to_histories.ensures in
    let t = plain_tree (tree_of c.args.tree.now) in
    beginning_answered laws.others laws.same opening h m c.try_to_begin.new.self t c.in-Ok.edits it
    (none_if m.stage c.if-is_some.ensures) c.in-Ok.ensures.done

pub returns-in-Err-clause-answers : goal.returns-in-Err-clause-answers
returns-in-Err-clause-answers c = λ opening h it.
    let m = c.args.self.now in
    let laws = c.journals_keep_to_histories.ensures in
    let none = none_if m.stage c.if-is_some.ensures in
    let t = plain_tree (tree_of c.args.tree.now) in
    refuses laws.others opening h c.try_to_begin.new.self (history.begin t) c.in-Err.why
    (kept_idle laws.same opening h m c.try_to_begin.new.self it none (c.in-Err.ensures.stage ∙ none)
    c.in-Err.ensures.same c.in-Err.ensures.rest)
    (beginning_refused opening h m t c.in-Err.why it none (sym c.in_default.ensures.value) c.in-Err.ensures.refused)
