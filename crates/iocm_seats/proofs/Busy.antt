-- The first live record that changes meet and that isn't quiet is that of the first subchannel
-- which isn't.
use Rattle.std.proofs.Common.{◌≡◌, Bool, true, false, cond, List, [], ◌∷◌, map, Option, None, Some, refl}
use Rattle.std.specs.List.{cons_option}
use Rattle.std.specs.Option.{option_map}
use Rattle.std.specs.FinMap.{get}
use Rattle.iocm_types.specs.declared.live.Live.{Live}
use Rattle.iocm_types.specs.declared.sub_id.SubId.{SubId}
use Rattle.iocm_model.specs.Operation.State.{Lives}
use Rattle.iocm_model.specs.Change.Refusal.{is_not_quiet, first_not_quiet}
use Rattle.iocm_seats.specs.declared.view_change.ViewChange.{ViewChange}
use Rattle.iocm_seats.specs.Settling.{lives_met, first_busy}

here : (x : SubId) (l : Option Live) (met : List (SubId × Live)) (rest : Option SubId) → first_busy met ≡ rest
    → first_busy (cons_option (option_map (λ (v : Live). (x, v)) l) met) ≡ cond (is_not_quiet l) (Some x) rest
here x None met rest is = is
here x (Some l) met rest is = by (is_not_quiet (Some l))
  where
    by : (b : Bool) → cond b (Some x) (first_busy met) ≡ cond b (Some x) rest
    by true = refl
    by false = is

pub first_met : (lives : Lives) (changes : List ViewChange)
    → first_busy (lives_met lives changes) ≡ first_not_quiet lives (map (λ (ch : ViewChange). ch.subchannel) changes)
first_met lives [] = refl
first_met lives (ch ∷ changes) = here ch.subchannel (get lives ch.subchannel) (lives_met lives changes)
    (first_not_quiet lives (map (λ (c : ViewChange). c.subchannel) changes)) (first_met lives changes)
