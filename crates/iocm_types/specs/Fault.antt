-- Readers that answer a value or the first fault.
use Rattle.std.specs.Prelude.{◌≡◌, ◌⊎◌, ℕ, Option, None, Some, Result, Ok, Err}
use Rattle.iocm_types.specs.declared.fault.Fault.{Fault}
use Rattle.iocm_types.specs.declared.rule.Rule.{Rule}
use Rattle.iocm_types.specs.declared.rule.Rule.TheVariants.{M1}

-- lack of memory, which stands at no line
abbrev pub memory : Fault
memory = record { rule = M1; line = 0 }

-- a fault of this rule at this line
abbrev pub at : Rule → ℕ → Fault
at rule line = record { rule = rule; line = line }

-- go on with the value, or answer the fault
infixl 10 ◌>>=◌
abbrev pub ◌>>=◌ : {A B : Type 0} → Result A Fault → (A → Result B Fault) → Result B Fault
(Ok x) >>= f = f x
(Err e) >>= f = Err e

-- the value, or this fault where there is none
abbrev pub or_fault : {A : Type 0} → Fault → Option A → Result A Fault
or_fault fault None = Err fault
or_fault fault (Some x) = Ok x

-- the refusal is lack of memory, or the one that was to be given
abbrev pub Fails : {Y : Type 0} → Fault → Result Y Fault → Type 0
Fails e read = (e ≡ memory) ⊎ (read ≡ Err e)

-- what a reader promises: what it gives shows what was to be read, and it refuses what was to be
-- refused, with that fault; only lack of memory may come instead
abbrev pub Gives : {X Y : Type 0} → (X → Y) → Result X Fault → Result Y Fault → Type 0
Gives view (Ok x) read = read ≡ Ok (view x)
Gives view (Err e) read = Fails e read
