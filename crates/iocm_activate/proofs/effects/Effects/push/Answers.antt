use Rattle.std.proofs.Common.{List, [], ◌∷◌, ◌++◌, subst, sym}
use Rattle.iocm_activate.specs.declared.effect.Effect.{Effect}
use Rattle.iocm_activate.specs.declared.signature.Signature.{Signature}
use Rattle.iocm_activate.specs.Signatures.{AreSignaturesOf}
use Rattle.iocm_activate.proofs.Apart.{one_signed}
use Rattle.iocm_activate.proofs.effects.Effects.push.Goals as goal

pub invariant_of-self : goal.invariant_of-self
invariant_of-self c = subst (λ (ss : List Signature). AreSignaturesOf ss c.push_reserved.new.self.items)
    (sym c.push_reserved-2.ensures.items)
    (subst (λ (es : List Effect). AreSignaturesOf (c.self.inside.signatures.items ++ c.of-signature.result ∷ []) es)
    (sym c.push_reserved.ensures.items)
    (one_signed c.self.inside.signatures.items c.self.inside.effects.items c.of-signature.result c.args.effect
    c.self.invariant c.of-signature.ensures))
