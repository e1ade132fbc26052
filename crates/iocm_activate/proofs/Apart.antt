-- Signatures of effects: where two are apart, no cell is in both effects; and those of several effects.
use Rattle.std.proofs.Common.{◌≡◌, ℕ, zero, suc, false, List, [], ◌∷◌, ◌++◌, length, get_or, Some, bit_and, slice_get}
use Rattle.std.proofs.Common.{refl, sym, ap, subst}
use Rattle.iocm_types.specs.KeyOrder.{keys_exact, cells_exact, sub_ids_exact}
use Rattle.iocm_types.specs.declared.place.NumberCell.{NumberCell}
use Rattle.iocm_types.specs.declared.sub_id.SubId.{SubId}
use Rattle.iocm_model.specs.Change.Effect as model
use Rattle.iocm_history.specs.Change.{share_a_cell}
use Rattle.iocm_activate.specs.declared.effect.Effect.{Effect}
use Rattle.iocm_activate.specs.declared.signature.Signature.{Signature}
use Rattle.iocm_activate.specs.Effects.{effect_in}
use Rattle.iocm_activate.specs.Signature.{number_in}
use Rattle.iocm_activate.specs.Signatures.{AreSignaturesOf, IsSignatureOf}
use Rattle.iocm_activate.proofs.Signed.{none_in_both}

-- effects whose signatures have no bit in common have no cell in common
pub apart : (s t : Signature) (f g : model.Effect) → IsSignatureOf s f → IsSignatureOf t g
    → bit_and s.records t.records ≡ 0 → bit_and s.subchannels t.subchannels ≡ 0 → share_a_cell f g ≡ false
apart s t f g own other records subchannels =
    let keys = none_in_both number_in keys_exact f.records g.records s.records t.records own.records other.records
    records in
    let cells = none_in_both (λ (c : NumberCell). c.number) cells_exact f.numbers g.numbers s.subchannels t.subchannels
    own.numbers other.numbers subchannels in
    let lives = none_in_both (λ (x : SubId). x.number) sub_ids_exact f.lives g.lives s.subchannels t.subchannels
    own.lives other.lives subchannels in
    rw (keys, cells, lives) refl

-- there are as many signatures as effects
pub as_many : (ss : List Signature) (es : List Effect) → AreSignaturesOf ss es → length ss ≡ length es
as_many [] [] h = refl
as_many [] (e ∷ es) h = absurd h
as_many (s ∷ ss) [] h = absurd h
as_many (s ∷ ss) (e ∷ es) h = ap suc (as_many ss es h.1)

-- one effect more, with its signature
pub one_signed : (ss : List Signature) (es : List Effect) (s : Signature) (e : Effect) → AreSignaturesOf ss es
    → IsSignatureOf s (effect_in e)
    → AreSignaturesOf (ss ++ s ∷ []) (es ++ e ∷ [])
one_signed [] [] s e h one = (one, tt)
one_signed [] (f ∷ es) s e h one = absurd h
one_signed (t ∷ ss) [] s e h one = absurd h
one_signed (t ∷ ss) (f ∷ es) s e h one = (h.0, one_signed ss es s e h.1 one)

-- the signature at a place is that of the effect there
pub signed_at : (ss : List Signature) (es : List Effect) (k : ℕ) (s : Signature) (e : Effect) → AreSignaturesOf ss es
    → s ≡ get_or ss k s → slice_get es k ≡ Some e → IsSignatureOf s (effect_in e)
signed_at [] [] k s e h is there = cc
signed_at [] (f ∷ es) k s e h is there = absurd h
signed_at (t ∷ ss) [] k s e h is there = absurd h
signed_at (t ∷ ss) (f ∷ es) zero s e h is there =
    let same : f ≡ e = cc in
    subst (λ (x : Effect). IsSignatureOf s (effect_in x)) same (subst (λ x. IsSignatureOf x (effect_in f)) (sym is) h.0)
signed_at (t ∷ ss) (f ∷ es) (suc k) s e h is there = signed_at ss es k s e h.1 is there
