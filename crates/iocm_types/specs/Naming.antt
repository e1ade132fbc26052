-- The orders of what is named, and of namings.
use Rattle.std.specs.Prelude.{ℕ, List, [], ◌∷◌}
use Rattle.std.specs.Ordering.{nat_cmp, on, ordering_then}
use Rattle.std.specs.Cmp.Lexicographic.{slice_cmp}
use Rattle.std.specs.declared.cmp.Ordering.{Ordering}
use Rattle.iocm_types.specs.declared.named.Named.{Named}
use Rattle.iocm_types.specs.declared.named.Named.TheVariants.{Record, Image, Address}
use Rattle.iocm_types.specs.declared.naming.Naming.{Naming}
use Rattle.iocm_types.specs.Key.{numbers_of, key_cmp}

-- records before images, and these before unit addresses; then the numbers of the key, the bytes of
-- the name, or the unit and the address
abbrev pub numbers_of_named : Named → List ℕ
numbers_of_named (Record key) = 0 ∷ numbers_of key
numbers_of_named (Image name) = 1 ∷ name
numbers_of_named (Address unit address) = 2 ∷ unit ∷ address ∷ []

abbrev pub named_cmp : Named → Named → Ordering
named_cmp = on numbers_of_named (slice_cmp nat_cmp)

-- by what is named, then by the key of the record that names it
abbrev pub naming_cmp : Naming → Naming → Ordering
naming_cmp a b = ordering_then (named_cmp a.named b.named) (key_cmp a.user b.user)
