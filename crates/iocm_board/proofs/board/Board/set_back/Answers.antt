use Rattle.std.proofs.Common.{sym, ap, ◌∙◌, arith}
use Rattle.iocm_board.specs.Views.{Held}
use Rattle.iocm_board.proofs.Splits.{sets_back}
use Rattle.iocm_board.proofs.board.Board.set_back.Goals as goal

pub split_seat-requires : goal.split_seat-requires
split_seat-requires g c =
    let b = c.args.self.now in
    let one = b.one in
    let p = c.me.inside.place in (
      c.me.invariant.0 ∙ ap g.B.Identity.table (ap (λ (h : Held). h.tag) c.me.view_is ∙ c.requires.mine) ∙ sym b.named,
      omega (arith, one),
      sets_back b.table.shared.key p.id p.me.0 (ap (λ (h : Held). h.view.keeps) c.me.view_is ∙ c.requires.keeps),
    )
