-- At the first number, at one that is past its limit, at one that isn't, and behind the last one.
use Rattle.std.proofs.Common.{◌≡◌, ℕ, ◌<◌, ◌≤◌, true, false, ◌||◌, nat_le, sym, ap, ◌∙◌, arith}
use Rattle.std.proofs.lemmas.Bool.Decides.{nat_tests}
use Rattle.std.proofs.lemmas.Map.Iter.{rest_more, rest_all}
use Rattle.std.specs.List.{list_any}
use Rattle.std.specs.Map.Iter.{deref_pair}
use Rattle.iocm_types.specs.declared.key.Key.TheVariants.{Limit}
use Rattle.iocm_model.specs.Machine.Configuration.{lookup_of}
use Rattle.iocm_model.specs.Rules.EachRule.{limit_or_default}
use Rattle.iocm_device_rules.specs.Past.{is_past}
use Rattle.iocm_device_rules.proofs.limits.is_any_past_limit.Goals as goal

is_at_least : (limit shown number : ℕ) → shown ≡ limit → shown ≤ number → nat_le limit number ≡ true
is_at_least limit shown number is h = grind (arith, nat_tests)

is_below : (limit shown number : ℕ) → shown ≡ limit → number < shown → nat_le limit number ≡ false
is_below limit shown number is h = grind (arith, nat_tests)

pub loop-cell-init : goal.loop-cell-init
loop-cell-init g c = record {
  known = c.first_limit-last.ensures;
  rest = ap (list_any (is_past (lookup_of c.args.config.now.records)))
      (c.into_iter-cell-iterator.ensures.into_iter_gives ∙ c.cells-cell-items.ensures);
}

pub returns-then-last-cell : goal.returns-then-last-cell
returns-then-last-cell g c =
    sym (sym c.loop-cell.invariant.rest
    ∙ ap (list_any (is_past (lookup_of c.args.config.now.records)))
    (rest_more deref_pair _ _ _ (c.in-Some.cell, c.in-Some.field-0-1) c.in-Some.is c.next.ensures.steps)
    ∙ ap (λ b. b || list_any (is_past (lookup_of c.args.config.now.records)) c.next.new.self)
    (is_at_least _ c.limit_of_cell-last.result.limit c.in-Some.cell.now.number c.limit_of_cell-last.ensures.limit
    c.if-last-cell.true))

pub loop-cell-preserved : goal.loop-cell-preserved
loop-cell-preserved g c = record {
  known = c.limit_of_cell-last.ensures.limit ∙ (λ i. limit_or_default (sym c.limit_of_cell-last.ensures.set i)
      (lookup_of c.args.config.now.records
      (Limit (sym c.limit_of_cell-last.ensures.css i) (sym c.limit_of_cell-last.ensures.set i))));
  rest = sym (ap (list_any (is_past (lookup_of c.args.config.now.records)))
      (rest_more deref_pair _ _ _ (c.in-Some.cell, c.in-Some.field-0-1) c.in-Some.is c.next.ensures.steps)
      ∙ ap (λ b. b || list_any (is_past (lookup_of c.args.config.now.records)) c.next.new.self)
      (is_below _ c.limit_of_cell-last.result.limit c.in-Some.cell.now.number c.limit_of_cell-last.ensures.limit
      c.if-last-cell.false))
      ∙ c.loop-cell.invariant.rest;
}

pub returns : goal.returns
returns g c =
    sym (sym c.loop-cell.invariant.rest
    ∙ ap (list_any (is_past (lookup_of c.args.config.now.records)))
    (rest_all deref_pair _ _ _ c.in-None.is c.next.ensures.steps))
