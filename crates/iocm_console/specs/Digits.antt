-- A digit that several printed lines have.
use Rattle.std.specs.Prelude.{ℕ, Bool, if◌then◌else◌, List}
use Rattle.std.specs.Fmt.{decimal}

-- 1 where a subchannel is enabled, else 0
abbrev pub enabled_text : Bool → List ℕ
enabled_text enabled = decimal (if enabled then 1 else 0)
