-- What a walk over two configurations came to.
use Rattle.std.specs.Option.{option_copied}
use Rattle.iocm_difference.specs.Walks.{Pair}
use Rattle.iocm_difference.specs.declared.merge.Met.{Met}

-- the key, with what each configuration has there
abbrev pub pair_met : {A B : Type 0} → Met A B → Pair
pair_met m = (m.key.now, (option_copied m.old, option_copied m.new))
