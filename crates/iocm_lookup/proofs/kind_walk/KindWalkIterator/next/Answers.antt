-- Past the kind none of it is left.
use Rattle.std.proofs.Common.{sym, ap, subst, ◌∙◌}
use Rattle.std.specs.Map.Iter.{deref_pair}
use Rattle.std.proofs.lemmas.Map.Iter.{rest_more}
use Rattle.iocm_lookup.specs.Entries.{AreInOrder, in_entries}
use Rattle.iocm_lookup.specs.Kinds.{of_kind, place_of}
use Rattle.iocm_lookup.proofs.KindWalks.{none_is_left, none_behind_it}
use Rattle.iocm_lookup.proofs.kind_walk.KindWalkIterator.next.Goals as goal

pub returns-then-is_past-clause-steps : goal.returns-then-is_past-clause-steps
returns-then-is_past-clause-steps g c =
    let rest = rest_more deref_pair _ _ _ (c.in-Some.key, c.in-Some.entry) c.in-Some.is c.next.ensures.steps in
    let order = subst AreInOrder rest c.loop-key.invariant.order in
    let past = sym c.is_past.ensures ∙ c.if-is_past.true in
    let place = place_of c.loop-key.self-inside.kind in (
      sym c.self.view_is ∙ sym c.loop-key.invariant.left ∙ ap (λ rows. of_kind place (in_entries rows)) rest
          ∙ none_is_left place (c.in-Some.key.now, c.in-Some.entry.now) c.next.new.self order past,
      none_behind_it place (c.in-Some.key.now, c.in-Some.entry.now) c.next.new.self order past,
    )
