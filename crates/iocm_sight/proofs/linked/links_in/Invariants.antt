-- The links so far.
use Rattle.std.proofs.Common.{◌≡◌, take}
use Rattle.iocm_model.specs.Rules.EachRule.{links_in}
use Rattle.iocm_sight.proofs.linked.links_in.Given as goal

abbrev pub invariant-loop-link : goal.invariant-loop-link
invariant-loop-link l = l.found.items ≡ links_in l.css (take l.link-index l.links)
