use Rattle.std.proofs.Common.{◌++◌, append_assoc, sym, ap, ◌∙◌}
use Rattle.std.proofs.lemmas.List.{append-nil}
use Rattle.std.proofs.lemmas.Map.Iter.{rest_more, rest_all}
use Rattle.std.specs.List.{flat_map}
use Rattle.iocm_difference_writer.specs.Runs.{actions_in}
use Rattle.iocm_answer.specs.Commands.Vary.{record_actions}
use Rattle.iocm_answer.proofs.varying.put_word.Goals as goal

pub loop-entry-init : goal.loop-entry-init
loop-entry-init c =
    let task = c.args.task.now in
    let f = record_actions task.to task.filters.now task.config.now.records c.args.before.now c.args.word.now in
    λ i. actions_in c.args.edits.now.items ++ flat_map f
    ((c.into_iter-entry-iterator.ensures.into_iter_gives ∙ c.records_of_kind-entry-items.ensures.records) i)

pub loop-entry-preserved : goal.loop-entry-preserved
loop-entry-preserved c =
    let task = c.args.task.now in
    let f = record_actions task.to task.filters.now task.config.now.records c.args.before.now c.args.word.now in
    let before = actions_in c.loop-entry.edits.items in
    ap (λ l. l ++ flat_map f c.next.new.self) c.in_ok-put_record.ensures
    ∙ append_assoc before (f c.in-Some.entry.now) (flat_map f c.next.new.self)
    ∙ ap (λ es. before ++ flat_map f es) (sym (rest_more _ _ _ _ c.in-Some.entry c.in-Some.is c.next.ensures.steps))
    ∙ c.loop-entry.invariant

pub returns : goal.returns
returns c =
    let task = c.args.task.now in
    let f = record_actions task.to task.filters.now task.config.now.records c.args.before.now c.args.word.now in
    let before = actions_in c.loop-entry.edits.items in
    sym (append-nil before)
    ∙ ap (λ es. before ++ flat_map f es) (sym (rest_all _ _ _ _ c.in-None.is c.next.ensures.steps))
    ∙ c.loop-entry.invariant
