-- The bits of keys: a word of 64 bits, in which each key has set one.
use Rattle.std.specs.Prelude.{◌≡◌, ℕ, ◌%◌, List}
use Rattle.std.specs.Int.{bit_at}
use Rattle.std.specs.List.{All}
use Rattle.iocm_types.specs.declared.key.Key.{Key}
use Rattle.iocm_types.specs.declared.key.Key.TheVariants.{Id, Resource, Image, Limit, Path, Unit, Device, Online}

-- each of these keys has its bit in a word, by its number
abbrev pub AreSigned : {K : Type 0} → (K → ℕ) → ℕ → List K → Type 0
AreSigned number word keys = All (λ k. bit_at word (number k % 64) ≡ 1) keys

-- the number of a key by which most of its kind differ
abbrev pub number_in : Key → ℕ
number_in Id = 0
number_in Resource = 0
number_in (Image css mif) = mif
number_in (Limit css set) = set
number_in (Path css path) = path
number_in (Unit number) = number
number_in (Device set device) = device
number_in (Online css path name) = path
