-- Both are computed.
use Rattle.std.proofs.Common.{refl}
use Rattle.iocm_reach.proofs.laws.a_small_machine_by_hand.Goals as goal

pub returns : goal.returns
returns c = record {
  in_access_list = refl;
  a_candidate = refl;
  in_no_list = refl;
  no_image = refl;
  no_path = refl;
  not_online = refl;
  is_online = refl;
  online_unreached = refl;
  online_to_no_image = refl;
  online_without_path = refl;
}
