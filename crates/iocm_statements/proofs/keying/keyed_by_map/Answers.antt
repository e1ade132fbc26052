-- A key that the map has is a twin; one that it lacks is none.
use Rattle.std.proofs.Common.{◌≡◌, ◌++◌, ◌∷◌, List, [], ◌∙◌, sym, ap, inr, true, false, is_some, refl}
use Rattle.std.specs.Map.{lookup}
use Rattle.std.proofs.lemmas.Iterator.Adapters.{YieldsList-from_vec}
use Rattle.std.proofs.lemmas.Iterator.Consumers.{YieldsList-turn, YieldsList-so_far}
use Rattle.indexmap.proofs.CallerLemmas.{insert_entry-new}
use Rattle.iocm_statements.specs.Operands.{Operand, has_twins}
use Rattle.iocm_statements.specs.contracts.operands.OperandKeyPartialEq.TheImpl as derived
use Rattle.iocm_types.proofs.Tests.{absent}
use Rattle.iocm_statements.proofs.Twins.{stays_distinct, twin_found}
use Rattle.iocm_statements.proofs.keying.keyed_by_map.Goals as goal

pub returns-then-is_some : goal.returns-then-is_some
returns-then-is_some c =
    let given = c.into_iter-key-iterator.ensures.into_iter_gives in
    let road = YieldsList-from_vec {s = c.into_iter-key-iterator.result} c.args.operands.items given.0
    (given.1 ∙ c.args.operands.ok.0) in
    let here = YieldsList-turn road c.loop-key.yielded c.loop-key.key-iterator c.loop-key.yielded_by c.next.result
    c.next.new.self (c.in-Some.key, c.in-Some.text) c.in-Some.is c.next.ensures.steps in
    let front = YieldsList-so_far road c.loop-key.yielded c.loop-key.key-iterator c.loop-key.yielded_by in
    let found : is_some (lookup (derived.ghosts.eq c.in-Some.key) c.loop-key.yielded) ≡ true =
    rw (← c.loop-key.invariant.kept) (ap is_some (sym c.in_ok-insert.ensures.old) ∙ sym c.if-is_some.ensures) in
    let twins : has_twins c.args.operands.items ≡ true =
    twin_found c.args.operands.items c.loop-key.yielded c.in-Some.key c.in-Some.text front here found in
    inr (rw twins refl)

pub loop-key-preserved : goal.loop-key-preserved
loop-key-preserved c =
    let unused : is_some (lookup (derived.ghosts.eq c.in-Some.key) c.loop-key.map.entries) ≡ false =
    ap is_some (sym c.in_ok-insert.ensures.old) ∙ sym c.if-is_some.ensures in
    record {
      kept = c.in_ok-insert.ensures.entries
          ∙ insert_entry-new derived.ghosts.eq c.loop-key.map c.in-Some.key c.in-Some.text (absent _ unused)
          ∙ ap (λ (es : List Operand). es ++ (c.in-Some.key, c.in-Some.text) ∷ []) c.loop-key.invariant.kept;
      distinct = stays_distinct c.loop-key.yielded c.in-Some.key c.in-Some.text c.loop-key.invariant.distinct
          (rw (← c.loop-key.invariant.kept) unused);
    }
