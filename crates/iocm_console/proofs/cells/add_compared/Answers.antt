use Rattle.std.proofs.Common.{[], ◌∷◌, ap, ◌∙◌}
use Rattle.std.proofs.lemmas.List.{map-append}
use Rattle.std.proofs.lemmas.List.Elements.{All-push}
use Rattle.iocm_model.specs.Machine.Configuration.{lookup_of}
use Rattle.iocm_console.specs.declared.cells.CellDevice.{CellDevice}
use Rattle.iocm_console.specs.Alike.{IsAlike, devices_of}
use Rattle.iocm_console.specs.Lines.{celled}
use Rattle.iocm_console.proofs.cells.add_compared.Goals as goal

pub returns-clause-cells : goal.returns-clause-cells
returns-clause-cells g c = ap celled c.in_ok-push.ensures.items
    ∙ map-append (λ (e : CellDevice). (e.cell, e.device)) c.args.cells.now.items (_ ∷ [])

pub returns-clause-compared : goal.returns-clause-compared
returns-clause-compared g c = (
  c.first_like-like.ensures.there,
  rw (c.in_ok-push.ensures.items, c.first_like-like.ensures.records)
      (All-push (IsAlike (lookup_of (devices_of c.args.last.now))) c.args.cells.now.items _ c.requires.1
      (c.first_like-like.ensures.alike, c.two_numbers-numbers.ensures)),
)
