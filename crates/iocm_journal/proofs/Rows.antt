-- What a Row of edits performs.
use Rattle.std.proofs.Common.{◌≡◌, ℕ, ◌+◌, Bool, true, false, cond, Option, Some, None, Ok, Err, List, [], ◌∷◌, refl}
use Rattle.std.specs.Prelude.{nat_lt}
use Rattle.iocm_types.specs.declared.refused.Refused.{Refused}
use Rattle.iocm_model.specs.Operation.State.{State}
use Rattle.iocm_model.specs.Rules.FirstBreach.{Breach, first_breach}
use Rattle.iocm_model.specs.Change.Edit.{Edit, state_after}
use Rattle.iocm_model.specs.Change.Refusal.{refusal_of}
use Rattle.iocm_model.specs.Change.Runs.{inverses}
use Rattle.iocm_model.specs.Change.Tree.{row, depth_of, leaves_of, most_depth, most_leaves}
use Rattle.iocm_model.specs.Change.Meaning.{Performed, Outcome, unless_refused, after_run, and_then, unless_broken}
use Rattle.iocm_model.specs.Change.Meaning.{if_rules_hold, parts_meaning, node_meaning, meaning, state_reached}
use Rattle.iocm_model.specs.Change.InverseTree.{parts_of, inverse_tree}
use Rattle.iocm_activate.specs.Done.{edits_of}

-- the edits of an outcome, if it is accepted
abbrev Performs : Outcome → List Edit → Type 0
Performs (Ok r) es = r.edits ≡ es
Performs (Err why) es = Unit {0}

run_performs : (r : Performed) (e : Edit) (es : List Edit) (o : Outcome) → r.edits ≡ e ∷ [] → Performs o es
    → Performs (after_run r o) (e ∷ es)
run_performs r e es (Ok next) one rest = rw (one, rest) refl
run_performs r e es (Err why) one rest = tt

leaf_performs : (why : Option Refused) (n : ℕ) (e : Edit) (es : List Edit) (s : State) (further : State → Outcome)
    → Performs (further (state_after e s)) es
    → Performs (and_then (unless_refused why n e s) further) (e ∷ es)
leaf_performs None n e es s further rest =
    run_performs (record { state = state_after e s; edits = e ∷ [] }) e es (further (state_after e s)) refl rest
leaf_performs (Some why) n e es s further rest = tt

parts_perform : (es : List Edit) (n : ℕ) (s : State) → Performs (parts_meaning (parts_of es) n s) es
parts_perform [] n s = refl
parts_perform (e ∷ es) n s = leaf_performs (refusal_of e s) n e es s (parts_meaning (parts_of es) (n + 1))
    (parts_perform es (n + 1) (state_after e s))

unbroken : (b : Option Breach) (n : ℕ) (r : Performed) (es : List Edit) → r.edits ≡ es
    → Performs (unless_broken b n r) es
unbroken None n r es is = is
unbroken (Some b) n r es is = tt

held : (n : ℕ) (o : Outcome) (es : List Edit) → Performs o es → Performs (if_rules_hold n o) es
held n (Ok r) es is = unbroken (first_breach r.state.config r.state.numbers) n r es is
held n (Err why) es is = tt

within : (a b : Bool) (x y : Refused) (o : Outcome) (es : List Edit) → Performs o es
    → Performs (cond a (Err x) (cond b (Err y) o)) es
within true b x y o es is = tt
within false true x y o es is = tt
within false false x y o es is = is

-- an inverse tree performs the inverses
row_performs : (es : List Edit) (s : State) → Performs (meaning (row (parts_of es)) s) es
row_performs es s =
    within (nat_lt most_depth (depth_of (row (parts_of es)))) (nat_lt most_leaves (leaves_of (row (parts_of es)))) _ _
    _ es
    (held 0 (node_meaning (row (parts_of es)) 0 s) es (parts_perform es 1 s))

edits_then : (o : Outcome) (es : List Edit) (t : State) → state_reached o ≡ Some t → Performs o es → edits_of o ≡ es
edits_then (Ok r) es t reached is = is
edits_then (Err why) es t reached is = cc

pub inverse_tree_performs : (es : List Edit) (s u t : State) → state_reached (meaning (inverse_tree es s) u) ≡ Some t
    → edits_of (meaning (inverse_tree es s) u) ≡ inverses es s
inverse_tree_performs es s u t reached =
    edits_then (meaning (inverse_tree es s) u) (inverses es s) t reached (row_performs (inverses es s) u)
