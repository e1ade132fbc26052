use Rattle.std.proofs.Common.{List, [], ◌∷◌, ◌++◌, refl, sym, ap, ◌∙◌, subst}
use Rattle.std.specs.Prelude.{IfSome}
use Rattle.iocm_core.specs.declared.call.Call.{Call}
use Rattle.iocm_system.specs.Turns.{handed_back, EndsATurn, IsTurn}
use Rattle.iocm_system.specs.declared.receipt.Receipt.{Receipt}
use Rattle.iocm_system.specs.declared.turn.Turn.{Turn}
use Rattle.iocm_system.proofs.Turns.{turn_begins, turn_ends, turn_goes_on, why_back}
use Rattle.iocm_system.proofs.turn.in_turn.Goals as goal

pub loop-call-init : goal.loop-call-init
loop-call-init g c = (
  refl,
  subst (λ (rs : List Receipt). IsTurn c.args.calls.items c.args.me c.args.me rs c.args.calls.items)
      (sym c.new-receipts.ensures.items)
      (turn_begins c.args.calls.items c.args.me),
)

pub loop-call-preserved : goal.loop-call-preserved
loop-call-preserved g c =
    let rest = c.pop_front.new.self.items in
    let before : IsTurn c.args.calls.items c.args.me c.loop-call.me c.loop-call.receipts.items (c.in-Some.call ∷ rest) =
    subst (λ (cs : List Call). IsTurn c.args.calls.items c.args.me c.loop-call.me c.loop-call.receipts.items cs)
    c.in-Some.ensures.items c.loop-call.invariant.1 in
    let after = turn_goes_on c.args.calls.items c.args.me c.loop-call.me c.operate.new.me c.loop-call.receipts.items
    c.in-Some.call rest c.in-Ok.receipt before
    c.in-Ok.ensures.made.asked c.in-Ok.ensures.made.later c.in-Ok.ensures.made.receipt in (
      after.tag,
      subst (λ (rs : List Receipt). IsTurn c.args.calls.items c.args.me c.operate.new.me rs rest)
          (ap (λ (rs : List Receipt). rs ++ c.in-Ok.receipt ∷ []) (sym c.reserve.ensures.items)
          ∙ sym c.push_reserved.ensures.items) after,
    )

pub returns-in-Err-clause-turn : goal.returns-in-Err-clause-turn
returns-in-Err-clause-turn g c =
    let rest = c.pop_front.new.self.items in
    let before : IsTurn c.args.calls.items c.args.me c.loop-call.me c.loop-call.receipts.items (c.in-Some.call ∷ rest) =
    subst (λ (cs : List Call). IsTurn c.args.calls.items c.args.me c.loop-call.me c.loop-call.receipts.items cs)
    c.in-Some.ensures.items c.loop-call.invariant.1 in
    let kept = subst (λ (rs : List Receipt).
    IsTurn c.args.calls.items c.args.me c.loop-call.me rs (c.in-Some.call ∷ rest)) (sym c.reserve.ensures.items)
    before in
    let given = c.in-Err.ensures.back in
    let ended = turn_ends c.args.calls.items c.args.me c.loop-call.me c.operate.new.me c.reserve.new.self.items
    (c.in-Some.call ∷ rest) c.in-Err.back.rule kept given.why in
    subst (λ (t : Turn g.row.B.Denot).
    IsTurn c.args.calls.items c.args.me t.caller t.ran.receipts.items (handed_back t.ran.back ++ t.ran.left.items))
    (sym c.ended-in-Err.ensures)
    (subst (λ (call : Call).
    IsTurn c.args.calls.items c.args.me c.operate.new.me c.reserve.new.self.items (call ∷ rest)) (sym given.same)
    ended)

pub returns-in-Err-clause-why : goal.returns-in-Err-clause-why
returns-in-Err-clause-why g c = subst (λ (t : Turn g.row.B.Denot). IfSome t.ran.back (λ b. EndsATurn b.rule t.caller))
    (sym c.ended-in-Err.ensures)
    (why_back c.in-Err.back.rule c.loop-call.me c.operate.new.me c.in-Err.ensures.back.why)
