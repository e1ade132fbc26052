-- An inverse and effects, computed on states as lists.
use Rattle.std.proofs.Common.{◌≡◌, Some, None, [], ◌∷◌, refl, ap, ◌∙◌}
use Rattle.iocm_types.specs.declared.key.Key.TheVariants as key
use Rattle.iocm_model.specs.Change.Effect.{Effect}
use Rattle.iocm_model.specs.Change.Runs.{effect_of}
use Rattle.iocm_model.specs.Operation.Orders.{fresh}
use Rattle.iocm_examples.specs.BaseDeck.{lpb, online_record, subchannel, device_on_1000, device_key}
use Rattle.iocm_examples.specs.Effects.{Writes, AnInverse, Effects}
use Rattle.iocm_examples.specs.Edits.{online_51, delete_1001, base_opened}
use Rattle.iocm_examples.proofs.OnLists.{on_lists}
use Rattle.iocm_examples.proofs.Listed.States.{inverse_seen, inverse_listed, edit_from}
use Rattle.iocm_examples.proofs.Listed.Effects.{ListedEffect, with_effect_listed, effect_listed, effect_listing}
use Rattle.iocm_examples.proofs.Listed.Effects.{effect_is, replayed, state_after_all_listed}
use Rattle.iocm_examples.proofs.Computed.Edits.{base_listing, base_is, one_for_another_listed, the_1001, the_online}

-- an inverse
pub an_inverse : AnInverse
unfolding on_lists base_listing
an_inverse = inverse_seen the_1001 base_opened ∙ ap (λ x. edit_from (inverse_listed the_1001 x)) base_is

-- an effect that is listed writes what the lists have
writes : (f : Effect) (g : ListedEffect) → effect_listing f ≡ g → Writes f g.records g.numbers g.lives
writes f g is = record {
  of_records = ap (λ (h : ListedEffect). h.records) is;
  of_numbers = ap (λ (h : ListedEffect). h.numbers) is;
  of_lives = ap (λ (h : ListedEffect). h.lives) is;
}

-- the effect of a path that comes online
online_effect : ListedEffect
online_effect = record {
  records = (key.Online 0 0x51 lpb, Some (online_record 0x51 lpb)) ∷ [];
  numbers = [];
  lives = (subchannel 2 0, Some (fresh 0xC0)) ∷ (subchannel 2 1, Some (fresh 0xC0))
      ∷ (subchannel 2 2, Some (fresh 0xC0))
      ∷ (subchannel 2 3, Some (fresh 0xC0)) ∷ [];
}

online_computed : effect_listed (the_online ∷ []) base_listing ≡ online_effect
unfolding on_lists base_listing online_effect
online_computed = refl

-- the effect of a device that is deleted
deleted_effect : ListedEffect
deleted_effect = record {
  records = (device_key 0x1001, None) ∷ [];
  numbers = (record { css = 0; set = 0; number = 1 }, None) ∷ [];
  lives = (subchannel 1 1, None) ∷ (subchannel 2 1, None) ∷ [];
}

deleted_computed : effect_listed (the_1001 ∷ []) base_listing ≡ deleted_effect
unfolding on_lists base_listing deleted_effect
deleted_computed = refl

-- the effect of one device for another, and the lists that it leads to
another_effect : ListedEffect
another_effect = record {
  records = (device_key 0x1001, None) ∷ (device_key 0x2000, Some (device_on_1000 0x2000 0x04)) ∷ [];
  numbers = (record { css = 0; set = 0; number = 1 }, Some 0x2000) ∷ [];
  lives = (subchannel 1 1, Some (fresh 0xC0)) ∷ (subchannel 2 1, Some (fresh 0xC0)) ∷ [];
}

another_computed : effect_listed one_for_another_listed base_listing ≡ another_effect
unfolding on_lists base_listing another_effect
another_computed = refl

replay_computed : with_effect_listed another_effect base_listing
    ≡ state_after_all_listed one_for_another_listed base_listing
unfolding on_lists base_listing another_effect
replay_computed = refl

-- effects
pub effects : Effects
unfolding online_effect deleted_effect
effects = record {
  online = writes (effect_of (online_51 ∷ []) base_opened) online_effect
      (effect_is (the_online ∷ []) base_opened base_listing base_is ∙ online_computed);
  deleted = writes (effect_of (delete_1001 ∷ []) base_opened) deleted_effect
      (effect_is (the_1001 ∷ []) base_opened base_listing base_is ∙ deleted_computed);
  replayed = replayed one_for_another_listed base_opened base_listing base_is
      (ap (λ f. with_effect_listed f base_listing) another_computed ∙ replay_computed);
}
