use Rattle.std.proofs.Common.{◌≡◌, Option, None, false, is_some, ap, rules}
use Rattle.std.specs.FinMap.{from_sorted, get}
use Rattle.iocm_types.specs.declared.live.Live.{Live}
use Rattle.iocm_types.specs.SubId.{sub_id_cmp}
use Rattle.iocm_seats.specs.Settling.{seat_after}
use Rattle.iocm_seats.proofs.Settled.{none_needed}
use Rattle.iocm_seats.proofs.settling.live_brought.Goals as goal

pub returns-then-is_none : goal.returns-then-is_none
returns-then-is_none c old =
    let none : is_some c.args.change.now.after ≡ false = search rules in
    none_needed old c.args.change.now.after None
    (get (from_sorted {R = sub_id_cmp} c.args.kept.now) c.args.change.now.subchannel) none

pub returns : goal.returns
returns c old = ap (λ (brought : Option Live). seat_after old c.args.change.now.after brought) c.live_near.ensures
