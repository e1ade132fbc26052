-- In none of the channel subsystems so far do they.
use Rattle.std.proofs.Common.{◌≡◌, ℕ, ◌==◌, ◌&&◌, drop}
use Rattle.std.specs.List.{list_any}
use Rattle.iocm_types.specs.declared.link.Link.{Link}
use Rattle.iocm_model.specs.Machine.Numbering.{subsystems}
use Rattle.iocm_model.specs.Rules.EachRule.{linked_paths, same_link}
use Rattle.iocm_record.specs.Meaning.{unit_of}
use Rattle.iocm_unit_rules.proofs.links.shares_link.Given as goal

abbrev pub invariant-loop-css : goal.invariant-loop-css
invariant-loop-css g l =
    list_any (λ css. list_any
    (λ (p : ℕ × Link). list_any (λ (q : ℕ × Link). (p.0 == q.0) && same_link p.1 q.1)
    (linked_paths css (unit_of l.other))) (linked_paths css (unit_of l.fields))) (drop l.css-index l.css-items)
    ≡ list_any (λ css. list_any
    (λ (p : ℕ × Link). list_any (λ (q : ℕ × Link). (p.0 == q.0) && same_link p.1 q.1)
    (linked_paths css (unit_of l.other))) (linked_paths css (unit_of l.fields))) subsystems
