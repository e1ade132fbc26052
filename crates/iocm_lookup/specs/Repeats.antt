-- The users of a thing that have one address on it, as devices on a unit or units on a path.
use Rattle.std.specs.Prelude.{ℕ, ◌==◌, ◌&&◌, ◌||◌, Bool, false, if◌then◌else◌, Option, None, Some, List, [], ◌∷◌}
use Rattle.iocm_types.specs.declared.key.Key.{Key}
use Rattle.iocm_types.specs.declared.named.Named.{Named}
use Rattle.iocm_model.specs.Machine.Record.{Rec}
use Rattle.iocm_model.specs.Machine.Configuration.{Lookup}
use Rattle.iocm_index.specs.Namings.{Namings, users_in}
use Rattle.iocm_lookup.specs.Among.{is_so_at}

-- the address of a record that is there
abbrev pub address_in : (Rec → Option ℕ) → Option Rec → Option ℕ
address_in address None = None
address_in address (Some r) = address r

-- an address is one of those met
abbrev pub is_met : (ℕ → Bool) → Option ℕ → Bool
is_met met None = false
is_met met (Some a) = met a

-- those met, and one more
abbrev pub met_with : Option ℕ → (ℕ → Bool) → (ℕ → Bool)
met_with None met b = met b
met_with (Some a) met b = (b == a) || met b

-- of some keys the first that is wanted and whose address was met, or is that of a key before it
abbrev pub first_repeated : (Key → Option ℕ) → (Key → Bool) → (ℕ → Bool) → List Key → Option Key
first_repeated address wanted met [] = None
first_repeated address wanted met (k ∷ ks) =
    if is_met met (address k) && wanted k then Some k else first_repeated address wanted (met_with (address k) met) ks

-- of the users of a thing the first that is wanted and has the address of one before it
abbrev pub repeated_on : (Rec → Option ℕ) → (Rec → Bool) → Lookup → Namings → Named → Option Key
repeated_on address wanted c index thing =
    first_repeated (λ k. address_in address (c k)) (is_so_at wanted c) (λ a. false) (users_in thing index)
