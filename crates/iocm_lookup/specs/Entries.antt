-- The entries of a configuration from some place on.
use Rattle.std.specs.Prelude.{◌≡◌, List, [], ◌∷◌, map}
use Rattle.std.proofs.Common.{T}
use Rattle.std.specs.FinMap.{is_sorted}
use Rattle.iocm_types.specs.declared.key.Key.{Key}
use Rattle.iocm_types.specs.Key.{key_cmp}
use Rattle.iocm_model.specs.Machine.Record.{Rec, key_of}

-- their records
abbrev pub in_entries : List (Key × Rec) → List Rec
in_entries es = map (λ (e : Key × Rec). e.1) es

-- each entry's key is its record's own
abbrev pub AreOwn : List (Key × Rec) → Type 0
AreOwn [] = Unit {0}
AreOwn (e ∷ es) = (e.0 ≡ key_of e.1) × AreOwn es

-- they are in the order of their own keys
pub record AreInOrder (es : List (Key × Rec)) : Type 0 where
  pub own : AreOwn es
  pub up : T (is_sorted key_cmp es)
