-- What was put, with the paths that are left, is the whole.
use Rattle.std.proofs.Common.{◌≡◌, ◌++◌, drop}
use Rattle.iocm_sight.specs.Linked.{with_their_links}
use Rattle.iocm_sight.proofs.linked.put_with_links.Given as goal

abbrev pub invariant-loop-place : goal.invariant-loop-place
invariant-loop-place l =
    l.listed.items ++ with_their_links l.css (drop l.place l.paths) (drop l.place l.links)
    ≡ l.initial.listed.items ++ with_their_links l.css l.paths l.links
