use Rattle.std.proofs.Common.{sym, ap, ◌∙◌, arith}
use Rattle.iocm_board.specs.Views.{Held}
use Rattle.iocm_board.proofs.Joins.{takes_up}
use Rattle.iocm_board.proofs.board.Board.take_up.Goals as goal

pub join_seat-requires : goal.join_seat-requires
join_seat-requires g c =
    let b = c.args.self.now in
    let one = b.one in
    let p = c.me.inside.place in
    let q = c.list.inside.place in
    let list = c.list.view_is ∙ c.set_back-list.ensures.given in (
      c.me.invariant.0 ∙ ap g.B.Identity.table (ap (λ (h : Held). h.tag) c.me.view_is ∙ c.requires.mine) ∙ sym b.named,
      c.list.invariant.0 ∙ ap g.B.Identity.table (ap (λ (h : Held). h.tag) list ∙ c.requires.keepers) ∙ sym b.named,
      c.list.invariant.1,
      omega (arith, one),
      takes_up b.table.shared.key p.id q.id p.me.0 q.me.0 (ap (λ (h : Held). h.view.keeps) list ∙ c.requires.keeps)
          (ap (λ (h : Held). h.view.names) list),
    )
