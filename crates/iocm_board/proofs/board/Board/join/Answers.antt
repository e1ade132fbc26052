use Rattle.std.proofs.Common.{sym, ap, ◌∙◌, arith}
use Rattle.iocm_board.specs.Views.{Held}
use Rattle.iocm_board.proofs.Joins.{joins}
use Rattle.iocm_board.proofs.board.Board.join.Goals as goal

pub join_seat-requires : goal.join_seat-requires
join_seat-requires g c =
    let b = c.args.self.now in
    let one = b.one in
    let p = c.seat.inside.place in
    let q = c.other.inside.place in (
      c.seat.invariant.0 ∙ ap g.B.Identity.table (ap (λ (h : Held). h.tag) c.seat.view_is ∙ c.requires.mine)
          ∙ sym b.named,
      c.other.invariant.0 ∙ ap g.B.Identity.table (ap (λ (h : Held). h.tag) c.other.view_is ∙ c.requires.other)
          ∙ sym b.named,
      c.other.invariant.1,
      omega (arith, one),
      joins b.table.shared.key p.id q.id p.me.0 q.me.0,
    )
