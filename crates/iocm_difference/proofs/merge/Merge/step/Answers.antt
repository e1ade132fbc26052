-- The lesser key is the next one.
use Rattle.std.proofs.Common.{◌≡◌, ◌∷◌, Some, sym, ap, ◌∙◌}
use Rattle.std.specs.Option.{option_copied}
use Rattle.iocm_difference.specs.Walks.{next_key, lesser_key, pairs_of}
use Rattle.iocm_difference.proofs.Steps.{next_pair}
use Rattle.iocm_difference.proofs.merge.Merge.step.Goals as goal

pub returns : goal.returns
returns g c =
    let key : lesser_key (next_key c.self.inside.olds) (next_key c.self.inside.news) ≡ Some c.in_ok-key.key.now =
    (λ i. lesser_key (sym c.next_key.ensures i) (sym c.next_key-2.ensures i)) ∙ sym c.lesser.ensures
    ∙ ap option_copied c.in_ok-key.was in
    sym c.self.view_is ∙ next_pair c.self.inside.olds c.self.inside.news c.in_ok-key.key.now key
    ∙ (λ i. (c.in_ok-key.key.now, (sym c.take_at-old.ensures.record i, sym c.take_at-new.ensures.record i))
    ∷ pairs_of (sym c.take_at-old.ensures.rows i) (sym c.take_at-new.ensures.rows i))
