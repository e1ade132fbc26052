-- A channel subsystem in which they do, and one in which they don't.
use Rattle.std.proofs.Common.{Bool, ℕ, ◌==◌, ◌&&◌, sym, ◌∙◌}
use Rattle.std.specs.List.{list_any}
use Rattle.iocm_types.proofs.Any.{any_goes_on, any_stops}
use Rattle.iocm_types.specs.declared.link.Link.{Link}
use Rattle.iocm_model.specs.Machine.Record.{UnitRecord}
use Rattle.iocm_model.specs.Rules.EachRule.{linked_paths, same_link}
use Rattle.iocm_record.specs.Meaning.{unit_of}
use Rattle.iocm_unit_rules.proofs.links.shares_link.Goals as goal

abbrev share_in : UnitRecord → UnitRecord → ℕ → Bool
share_in a b css = list_any
    (λ (p : ℕ × Link). list_any (λ (q : ℕ × Link). (p.0 == q.0) && same_link p.1 q.1) (linked_paths css b))
    (linked_paths css a)

pub returns-then-shares_link_in : goal.returns-then-shares_link_in
returns-then-shares_link_in g c =
    sym (sym c.loop-css.invariant
    ∙ any_stops (share_in (unit_of c.args.fields.now) (unit_of c.args.other.now)) c.as_slice-css-items.result.now
    c.loop-css.css-index c.css-item.result
    c.loop-css-test.true c.css-item.is (sym c.shares_link_in.ensures ∙ c.if-shares_link_in.true))

pub loop-css-preserved : goal.loop-css-preserved
loop-css-preserved g c =
    sym (any_goes_on (share_in (unit_of c.args.fields.now) (unit_of c.args.other.now)) c.as_slice-css-items.result.now
    c.loop-css.css-index c.css-item.result
    c.loop-css-test.true c.css-item.is (sym c.shares_link_in.ensures ∙ c.if-shares_link_in.false))
    ∙ c.loop-css.invariant
