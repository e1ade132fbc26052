use Rattle.std.proofs.Common.{◌∙◌, map, ap}
use Rattle.iocm_columns.specs.Written.{deck_bytes}
use Rattle.iocm_deck_writer.specs.Canonical.{canonical, to_write}
use Rattle.iocm_deck_writer.proofs.deck.canonical_deck.Goals as goal

pub returns : goal.returns
returns g c =
    c.in_ok-bytes.ensures ∙ ap deck_bytes
    (c.deref-3.ensures.value ∙ c.in_ok-deck.ensures ∙ ap (map to_write)
    (c.deref-2.ensures.value ∙ c.in_ok-statements.ensures ∙ ap canonical
    (ap (map (λ k. k.now)) c.deref.ensures.value ∙ c.in_ok-records.ensures
    ∙ ap (map (λ row. row.1)) c.walk.ensures.entries)))
