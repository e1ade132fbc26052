-- Which altered subchannels are wanted in two configurations of one image, computed.
use Rattle.std.proofs.Common.{◌≡◌, ◌||◌, Bool, false, List, [], ◌∷◌, codes, refl, ap}
use Rattle.std.specs.FinMap.{entries}
use Rattle.iocm_types.specs.declared.key.Key.{Key}
use Rattle.iocm_types.specs.declared.view.View.{View}
use Rattle.iocm_model.specs.Machine.Configuration.{with_keys}
use Rattle.iocm_model.specs.Machine.Record.{Rec}
use Rattle.iocm_filter.specs.RowExamples.{by_lpb, image_at, image_record, with_online}
use Rattle.iocm_filter.specs.Wanted.{found_among, wants}
use Rattle.iocm_filter.proofs.WorkedRows.{in_order}
use Rattle.iocm_answer.specs.Examples.{AlteredAsWorked, named_before, named_afterwards}

-- a side is wanted by the name of image 0.2 among these entries
abbrev side : List (Key × Rec) → View → Bool
side es v = wants by_lpb (found_among by_lpb es) (record { image = image_at 0 2; set = 0; number = 0 }, v)

before_is : entries named_before ≡ with_keys (image_record 0 2 (codes "LPB") ∷ [])
before_is = in_order (image_record 0 2 (codes "LPB") ∷ []) tt

afterwards_is : entries named_afterwards ≡ with_keys (image_record 0 2 (codes "LPX") ∷ [])
afterwards_is = in_order (image_record 0 2 (codes "LPX") ∷ []) tt

pub altered_as_worked : AlteredAsWorked
unfolding lib.Count.ones
altered_as_worked = record {
  all = refl;
  was_lpb = ap (λ es. side es (with_online 0xA0) || false) before_is;
  is_lpx = ap (λ es. side es (with_online 0xA0)) afterwards_is;
  was_lpx = ap (λ es. side es (with_online 0xA0) || false) afterwards_is;
  is_lpb = ap (λ es. side es (with_online 0xA0)) before_is;
  seen_at_both = λ i. side (before_is i) (with_online 0xA0) || side (afterwards_is i) (with_online 0);
  seen_at_none = refl;
  loses_the_last = refl;
  had_none = refl;
  keeps_two = refl;
  goes = refl;
}
