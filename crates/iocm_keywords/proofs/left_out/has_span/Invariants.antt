use Rattle.std.proofs.Common.{◌≡◌, drop, map}
use Rattle.std.specs.List.{list_any}
use Rattle.iocm_keywords.specs.LeftOut.{spans_css}
use Rattle.iocm_keywords.proofs.left_out.has_span.Given as goal

abbrev pub invariant-loop-text : goal.invariant-loop-text
invariant-loop-text l = list_any spans_css (map (λ k. k.now) (drop l.text-index l.texts))
    ≡ list_any spans_css (map (λ k. k.now) l.texts)
