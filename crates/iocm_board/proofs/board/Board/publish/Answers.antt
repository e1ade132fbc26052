use Rattle.std.proofs.Common.{length, sym, ap, ◌∙◌, arith}
use Rattle.iocm_board.specs.Views.{Held}
use Rattle.iocm_board.proofs.Publishes.{publishes}
use Rattle.iocm_board.proofs.board.Board.publish.Goals as goal

pub compare_exchange_with-requires : goal.compare_exchange_with-requires
compare_exchange_with-requires g c =
    let b = c.args.self.now in
    let one = b.one in
    let p = c.me.inside.place in
    let named = c.requires.names in (
      c.me.invariant.0 ∙ ap g.B.Identity.table (ap (λ (h : Held). h.tag) c.me.view_is ∙ c.requires.mine) ∙ sym b.named,
      omega (arith, one),
      publishes b.table.shared.key b.table.shared.table_id.slots p.id c.args.count p.me c.args.entry.now
          (ap (λ (h : Held). h.view.keeps) c.me.view_is ∙ c.requires.keeps)
          (named.0, named.1, ap (λ (h : Held). h.view.names) c.me.view_is ∙ named.2)
          (c.requires.count ∙ sym (ap (λ (h : Held). length h.view.list) c.me.view_is)),
    )
