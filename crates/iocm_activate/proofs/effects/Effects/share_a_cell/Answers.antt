use Rattle.std.proofs.Common.{◌≡◌, ◌<◌, ℕ, List, length, slice_get, sym, ap, ◌∙◌, arith}
use Rattle.std.proofs.lemmas.Option.{get_or_from_slice_get}
use Rattle.iocm_history.specs.Change.{share_a_cell}
use Rattle.iocm_activate.specs.declared.effect.Effect.{Effect}
use Rattle.iocm_activate.specs.declared.signature.Signature.{Signature}
use Rattle.iocm_activate.specs.Effects.{Listed, effect_in}
use Rattle.iocm_activate.specs.Signatures.{AreSignaturesOf}
use Rattle.iocm_activate.proofs.Apart.{as_many, signed_at}
use Rattle.iocm_activate.proofs.effects.Effects.share_a_cell.Goals as goal

-- a place that has an effect has a signature
is_signed : (ss : List Signature) (es : List Effect) (items : List Effect) → AreSignaturesOf ss es
    → length es ≡ length items
    → (place : ℕ) → place < length items → place < length ss
is_signed ss es items signed same place low = let many = as_many ss es signed in omega (arith, many, same, low)

pub index-requires : goal.index-requires
index-requires c =
    let within = is_signed c.self.inside.signatures.items c.self.inside.effects.items c.args.self.now.items
    c.self.invariant
    (ap (λ (v : Listed). length v.items) c.self.view_is) c.args.one c.requires.one in
    let len = c.self.inside.signatures.ok.0 in
    omega (arith, within, len)

pub index-requires-2 : goal.index-requires-2
index-requires-2 c =
    let within = is_signed c.self.inside.signatures.items c.self.inside.effects.items c.args.self.now.items
    c.self.invariant
    (ap (λ (v : Listed). length v.items) c.self.view_is) c.args.other c.requires.other in
    let len = c.self.inside.signatures.ok.0 in
    omega (arith, within, len)

pub returns-then-is_apart : goal.returns-then-is_apart
returns-then-is_apart c = λ f g at_f at_g.
    let ss = c.self.inside.signatures.items in
    let es = c.self.inside.effects.items in
    let signed = c.self.invariant in
    sym (c.is_apart.ensures c.if-is_apart.true (effect_in f) (effect_in g)
    (signed_at ss es c.args.one c.index.result.now f signed c.index.ensures
    (ap (λ (v : Listed). slice_get v.items c.args.one) c.self.view_is ∙ at_f))
    (signed_at ss es c.args.other c.index-2.result.now g signed c.index-2.ensures
    (ap (λ (v : Listed). slice_get v.items c.args.other) c.self.view_is ∙ at_g)))

pub returns : goal.returns
returns c = λ f g at_f at_g.
    let es = c.self.inside.effects.items in
    let first = c.index-3.ensures
    ∙ get_or_from_slice_get es c.args.one f c.index-3.result.now
    (ap (λ (v : Listed). slice_get v.items c.args.one) c.self.view_is ∙ at_f) in
    let second = c.index-4.ensures
    ∙ get_or_from_slice_get es c.args.other g c.index-4.result.now
    (ap (λ (v : Listed). slice_get v.items c.args.other) c.self.view_is ∙ at_g) in
    c.share_a_cell.ensures ∙ (λ i. share_a_cell (effect_in (first i)) (effect_in (second i)))
