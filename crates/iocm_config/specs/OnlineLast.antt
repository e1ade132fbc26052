-- Records with those that say what is online after all others, as they stand in the order of keys.
use Rattle.std.specs.Prelude.{Bool, true, false, not, List, ◌++◌}
use Rattle.std.specs.List.{filter}
use Rattle.iocm_types.specs.declared.key.Key.{Key}
use Rattle.iocm_types.specs.declared.key.Key.TheVariants.{Online}
use Rattle.iocm_model.specs.Machine.Record.{Rec}

abbrev pub is_online : Key → Bool
is_online (Online css path name) = true
is_online _ = false

abbrev pub online_last : List (Key × Rec) → List (Key × Rec)
online_last es = filter (λ e. not (is_online e.0)) es ++ filter (λ e. is_online e.0) es
