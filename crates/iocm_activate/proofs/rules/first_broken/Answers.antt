use Rattle.std.proofs.Common.{◌-◌, length, take, drop, sym, ap, subst, ◌∙◌, arith}
use Rattle.std.proofs.lemmas.List.{take_all, length-drop}
use Rattle.iocm_model.specs.Rules.FirstBreach.{first_breach}
use Rattle.iocm_rules.specs.Near.{KeptBut}
use Rattle.iocm_activate.proofs.Kept.{near_now}
use Rattle.iocm_activate.proofs.rules.first_broken.Goals as goal

pub check_near-requires-clause-near : goal.check_near-requires-clause-near
check_near-requires-clause-near c =
    let log = c.args.log.now in
    let shown = c.deref.result.now in
    let keys = take (length shown - log.kept) (drop log.kept shown) in
    let all = take_all (length shown - log.kept) (drop log.kept shown)
    (let l = length-drop log.kept shown in omega (arith, l)) in
    let near = near_now log c.args.plant.now.state keys c.requires.kept (all ∙ ap (drop log.kept) c.deref.ensures.value)
    (sym c.if-are_near.ensures) c.near_edits_keep_the_rest.ensures in
    subst (λ n. KeptBut keys c.config.result.now.records n) (sym c.numbers.ensures)
    (subst (λ r. KeptBut keys r c.args.plant.now.state.numbers) (sym c.config.ensures) near)

pub returns-then-are_near : goal.returns-then-are_near
returns-then-are_near c = c.check_near.ensures ∙ (λ i. first_breach (c.config.ensures i) (c.numbers.ensures i))

pub returns-else-are_near : goal.returns-else-are_near
returns-else-are_near c =
    c.check.ensures ∙ (λ i. first_breach (c.config-else-are_near.ensures i) (c.numbers-else-are_near.ensures i))
