-- What seats end as, once the loan of one of them has ended.
use Rattle.std.specs.Prelude.{◌≡◌, Option, OnSome}
use Rattle.std.specs.Borrow.{Fml, RattleType, MutBor, LendsSo}
use Rattle.std.specs.FinMap.{insert}
use Rattle.std.specs.declared.alloc.Allocator as alloc
use Rattle.iocm_types.specs.declared.sub_id.SubId.{SubId}
use Rattle.iocm_seats.specs.Seated.{Seated}
use Rattle.iocm_seats.specs.declared.seat.Seat.{Seat}
use Rattle.iocm_seats.specs.contracts.seats.Seats as seats
use Rattle.iocm_seats.specs.contracts.kept_seat.KeptSeat as kept

-- one subchannel has this seat now, and the same subchannels have places
pub record IsChangedAt (before : Seated) (x : SubId) (after : Seated) (now : Seat) : Type 0 where
  pub seats : after.seats ≡ insert before.seats x now
  pub places : after.places ≡ before.places

-- all is as it was
pub record IsUnchanged (before after : Seated) : Type 0 where
  pub seats : after.seats ≡ before.seats
  pub places : after.places ≡ before.places

-- the seat that a subchannel has is what was written last through r; at `None` the seats stay as
-- they are
abbrev pub lends_seat : (A : RattleType) → alloc.Ghosts A.Denot → MutBor Seated → SubId → Option (MutBor Seat) → Fml
lends_seat A heap s x r =
    LendsSo (seats.the_row A heap) kept.the_row s r (λ n w. OnSome r (IsChangedAt s.now x n w)) (IsUnchanged s.now)
