-- A row of the subchannel has its live record.
use Rattle.std.proofs.Common.{◌≡◌, ◌<◌, arith, true, length, Some, ltb-true, get_or, refl, sym, ap, subst, ◌∙◌}
use Rattle.std.specs.Cmp.{Equal-is}
use Rattle.std.specs.Ordering.{is_eq}
use Rattle.std.specs.declared.cmp.Ordering.TheVariants.{Equal}
use Rattle.iocm_types.specs.declared.live.Live.{Live}
use Rattle.iocm_types.specs.declared.sub_id.SubId.{SubId}
use Rattle.iocm_types.specs.SubId.{sub_id_cmp}
use Rattle.iocm_types.specs.KeyOrder.{sub_ids_total, sub_ids_exact}
use Rattle.iocm_types.proofs.Searched.{get_found}
use Rattle.iocm_seats.proofs.settling.live_near.Goals as goal

pub returns-in-Some : goal.returns-in-Some
returns-in-Some c =
    let row = c.in-Some.row.now in
    let q = c.args.subchannel.now in
    let within : c.args.near < length c.args.kept.now =
    ltb-true c.args.near (length c.args.kept.now) (sym c.in-Some.ensures.lookup.0) in
    let here : row ≡ get_or c.args.kept.now c.args.near row = c.in-Some.ensures.lookup.1 in
    let tied : is_eq (sub_id_cmp row.0 q) ≡ true = grind (arith, c.order.ensures, c.is_eq.ensures, c.if-is_eq.true) in
    let ties : sub_id_cmp row.0 q ≡ Equal = (Equal-is (sub_id_cmp row.0 q)).0 tied in
    ap (λ (r : SubId × Live). Some r.1) here
    ∙ get_found refl sub_ids_total sub_ids_exact c.args.kept.now c.requires q c.args.near row within
    (subst (λ (r : SubId × Live). sub_id_cmp r.0 q ≡ Equal) here ties)
