-- Names that two images have.
use Rattle.std.specs.Prelude.{ℕ, ◌&&◌, Bool, false, List}
use Rattle.std.specs.Ordering.{is_lt}
use Rattle.iocm_types.specs.declared.key.Key.{Key}
use Rattle.iocm_types.specs.Key.{key_cmp}
use Rattle.iocm_model.specs.Machine.Record.{Rec, image, key_of}
use Rattle.iocm_model.specs.Rules.EachRule.{same_name}

-- an image of this name, before this key
abbrev pub is_named_before : Key → List ℕ → Rec → Bool
is_named_before key name (image i) = is_lt (key_cmp (key_of (image i)) key) && same_name name i.name
is_named_before key name _ = false
