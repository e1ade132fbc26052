use Rattle.std.proofs.Common.{sym, ap, ◌∙◌, arith}
use Rattle.iocm_board.specs.Views.{Held}
use Rattle.iocm_board.proofs.Splits.{splits}
use Rattle.iocm_board.proofs.board.Board.split.Goals as goal

pub split_seat-requires : goal.split_seat-requires
split_seat-requires g c =
    let b = c.args.self.now in
    let one = b.one in
    let p = c.seat.inside.place in
    let named = c.requires.names in (
      c.seat.invariant.0 ∙ ap g.B.Identity.table (ap (λ (h : Held). h.tag) c.seat.view_is ∙ c.requires.mine)
          ∙ sym b.named,
      omega (arith, one),
      splits b.table.shared.key p.id p.me.0
          (named.0, named.1, ap (λ (h : Held). h.view.names) c.seat.view_is ∙ named.2),
    )
