-- The signatures of effects: which word has a bit for each cell.
use Rattle.std.specs.Prelude.{List, [], ◌∷◌}
use Rattle.std.specs.FinMap.{keys}
use Rattle.iocm_types.specs.declared.place.NumberCell.{NumberCell}
use Rattle.iocm_types.specs.declared.sub_id.SubId.{SubId}
use Rattle.iocm_model.specs.Change.Effect as model
use Rattle.iocm_activate.specs.declared.effect.Effect.{Effect}
use Rattle.iocm_activate.specs.declared.signature.Signature.{Signature}
use Rattle.iocm_activate.specs.Effects.{effect_in}
use Rattle.iocm_activate.specs.Signature.{AreSigned, number_in}

-- each cell of an effect has its bit. Keys have it in one word; number cells and subchannels have it
-- in the other, by subchannel number
pub record IsSignatureOf (s : Signature) (e : model.Effect) : Type 0 where
  pub records : AreSigned number_in s.records (keys e.records)
  pub numbers : AreSigned (λ (c : NumberCell). c.number) s.subchannels (keys e.numbers)
  pub lives : AreSigned (λ (x : SubId). x.number) s.subchannels (keys e.lives)

-- as many signatures as effects, each that of the effect at its place
abbrev pub AreSignaturesOf : List Signature → List Effect → Type 0
AreSignaturesOf [] [] = Unit {0}
AreSignaturesOf (s ∷ ss) (e ∷ es) = IsSignatureOf s (effect_in e) × AreSignaturesOf ss es
AreSignaturesOf _ _ = ⊥
