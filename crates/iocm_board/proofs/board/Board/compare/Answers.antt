use Rattle.std.proofs.Common.{sym, ap, ◌∙◌, arith}
use Rattle.iocm_board.specs.Views.{Held}
use Rattle.iocm_board.proofs.Compares.{compares}
use Rattle.iocm_board.proofs.board.Board.compare.Goals as goal

pub load-requires : goal.load-requires
load-requires g c =
    let b = c.args.self.now in
    let one = b.one in
    let p = c.seat.inside.place in (
      c.seat.invariant.0 ∙ ap g.B.Identity.table (ap (λ (h : Held). h.tag) c.seat.view_is ∙ c.requires.mine)
          ∙ sym b.named,
      omega (arith, one),
      compares b.table.shared.key b.table.shared.table_id.slots p.id p.me c.seat.invariant.2
          (ap (λ (h : Held). h.view.keeps) c.seat.view_is ∙ c.requires.keeps),
    )
