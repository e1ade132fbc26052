-- Rules of which each was tried by itself, with the key of the first record that breaks it.
use Rattle.std.specs.Prelude.{Option, None, Some, List, [], ◌∷◌}
use Rattle.iocm_types.specs.declared.rule.Rule.{Rule}
use Rattle.iocm_types.specs.declared.key.Key.{Key}
use Rattle.iocm_model.specs.Rules.FirstBreach.{Breach}

-- the breach of a rule for which a key was found, or else what the further rules say
abbrev pub found_or : Rule → Option Key → Option Breach → Option Breach
found_or rule (Some key) further = Some (record { rule = rule; key = key })
found_or rule None further = further

-- the breach of the first of these rules for which one was found
abbrev pub first_found : List (Rule × Option Key) → Option Breach
first_found [] = None
first_found (f ∷ fs) = found_or f.0 f.1 (first_found fs)
