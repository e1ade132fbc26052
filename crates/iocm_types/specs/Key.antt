-- The keys of records: their order, and how they are printed.
use Rattle.std.specs.Prelude.{ℕ, List, [], ◌∷◌, ◌++◌, codes}
use Rattle.std.specs.Ordering.{nat_cmp, on}
use Rattle.std.specs.Cmp.Lexicographic.{slice_cmp}
use Rattle.std.specs.declared.cmp.Ordering.{Ordering}
use Rattle.iocm_types.specs.declared.key.Key.{Key}
use Rattle.iocm_types.specs.declared.key.Key.TheVariants.{Id, Resource, Image, Limit, Path, Unit, Device, Online}
use Rattle.iocm_types.specs.Print.{hex1, hex2, hex4}

-- the place of the kind in the table of records, then the numbers from left to right; of a name its
-- bytes
abbrev pub numbers_of : Key → List ℕ
numbers_of Id = 0 ∷ []
numbers_of Resource = 1 ∷ []
numbers_of (Image css mif) = 2 ∷ css ∷ mif ∷ []
numbers_of (Limit css set) = 3 ∷ css ∷ set ∷ []
numbers_of (Path css number) = 4 ∷ css ∷ number ∷ []
numbers_of (Unit number) = 5 ∷ number ∷ []
numbers_of (Device set number) = 6 ∷ set ∷ number ∷ []
numbers_of (Online css path name) = 7 ∷ css ∷ path ∷ name

-- the order of keys
abbrev pub key_cmp : Key → Key → Ordering
key_cmp = on numbers_of (slice_cmp nat_cmp)

-- a key as it is printed
abbrev pub key_text : Key → List ℕ
key_text Id = codes "id"
key_text Resource = codes "resource"
key_text (Image css mif) = codes "image " ++ (hex1 css ++ (codes "." ++ hex1 mif))
key_text (Limit css set) = codes "limit " ++ (hex1 css ++ (codes "." ++ hex1 set))
key_text (Path css number) = codes "path " ++ (hex1 css ++ (codes "." ++ hex2 number))
key_text (Unit number) = codes "unit " ++ hex4 number
key_text (Device set number) = codes "device " ++ (hex1 set ++ (codes "." ++ hex4 number))
key_text (Online css path name) = codes "online " ++ (hex1 css ++ (codes "." ++ (hex2 path ++ (codes "." ++ name))))
