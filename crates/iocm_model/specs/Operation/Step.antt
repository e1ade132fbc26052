-- Steps of a machine: an order of an image, a device begin or a device end, at one subchannel.
-- Principles of Operation, the I/O instructions.
use Rattle.std.specs.Prelude.{Bool, false, Option, None, Some}
use Rattle.std.specs.Option.{option_zip}
use Rattle.std.specs.FinMap.{get, insert}
use Rattle.iocm_types.specs.declared.live.Live.{Live}
use Rattle.iocm_types.specs.declared.order.Order.{Order}
use Rattle.iocm_types.specs.declared.order.Io.{Io}
use Rattle.iocm_types.specs.declared.order.Io.TheVariants.{Code}
use Rattle.iocm_types.specs.declared.answer.Answer.{Answer}
use Rattle.iocm_types.specs.declared.answer.Answer.TheVariants as answers
use Rattle.iocm_types.specs.declared.sub_id.SubId.{SubId}
use Rattle.iocm_types.specs.declared.view.View.{View}
use Rattle.iocm_model.specs.Operation.Orders.{is_busy, is_start_pending, answer_of, live_after}
use Rattle.iocm_model.specs.Operation.Orders.{live_after_device_begin, live_after_device_end}
use Rattle.iocm_model.specs.Operation.State.{State, Lives, seen_in}

-- a step
pub data Step : Type 0 where
  order : Order → Step
  device_begin : Step
  device_end : Step

-- a subchannel as it is in a state: what is seen there and its live record, if it is there
abbrev pub subchannel_in : State → SubId → Option (View × Live)
subchannel_in s x = option_zip (seen_in s x) (get s.lives x)

-- the answer to an order: condition code 3 where the subchannel isn't there
abbrev pub order_answer : Order → Option (View × Live) → Io
order_answer o (Some p) = answer_of o p.0 p.1
order_answer o None = Code 3

-- whether a device begin makes a start active
abbrev pub begins_function : Option (View × Live) → Bool
begins_function (Some p) = is_start_pending p.1.phase
begins_function None = false

-- whether a device end ends a function
abbrev pub ends_function : Option (View × Live) → Bool
ends_function (Some p) = is_busy p.1.phase
ends_function None = false

-- the answer to a step at a subchannel
abbrev pub step_answer : Step → Option (View × Live) → Answer
step_answer (order o) at = answers.Io (order_answer o at)
step_answer device_begin at = answers.Begun (begins_function at)
step_answer device_end at = answers.Ended (ends_function at)

abbrev pub answer_in : State → SubId → Step → Answer
answer_in s x step = step_answer step (subchannel_in s x)

-- what a step leaves at its subchannel, if it is there
abbrev pub live_after_step : Step → View → Live → Live
live_after_step (order o) v l = live_after o v l
live_after_step device_begin v l = live_after_device_begin l
live_after_step device_end v l = live_after_device_end l

abbrev pub lives_after_step : SubId → Step → Option (View × Live) → Lives → Lives
lives_after_step x step (Some p) lives = insert lives x (live_after_step step p.0 p.1)
lives_after_step x step None lives = lives

-- the state after a step at a subchannel
abbrev pub after_step : SubId → Step → State → State
after_step x step s = record s { lives = lives_after_step x step (subchannel_in s x) s.lives }
