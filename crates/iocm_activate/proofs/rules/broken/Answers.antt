use Rattle.std.proofs.Common.{◌≡◌, length, Some, sym, ap, ◌∙◌, arith}
use Rattle.iocm_types.specs.declared.refused.Refused.{Refused}
use Rattle.iocm_model.specs.Rules.FirstBreach.{Breach}
use Rattle.iocm_activate.proofs.Kept.{kept_now}
use Rattle.iocm_activate.proofs.Parts.{breach_at}
use Rattle.iocm_activate.proofs.rules.broken.Goals as goal

pub returns-in-Ok-clause-value : goal.returns-in-Ok-clause-value
returns-in-Ok-clause-value c = ap (breach_at c.args.node) c.in-Ok.ensures

pub returns-in-Ok-clause-kept : goal.returns-in-Ok-clause-kept
returns-in-Ok-clause-kept c =
    let mark : c.len-log.result ≡ length c.args.log.now.keys.items =
    grind (arith, c.len-log.ensures, c.args.log.now.keys.ok.0) in
    kept_now (record { done = c.args.log.now.done; keys = c.args.log.now.keys; kept = c.len-log.result })
    c.args.plant.now.state c.is_sound.ensures
    (sym c.in-Ok.ensures) mark

pub returns-in-Err-clause-value : goal.returns-in-Err-clause-value
returns-in-Err-clause-value c =
    ap Some (c.at_node.ensures ∙ ap (λ (r : Refused). record r { node = Some c.args.node }) c.about.ensures)
    ∙ ap (λ (b : Breach). breach_at c.args.node (Some b)) c.breach.view_is
    ∙ ap (breach_at c.args.node) c.in-Err.ensures
