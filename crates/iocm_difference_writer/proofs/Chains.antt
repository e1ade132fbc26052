-- Runs are chains: each action of a run goes with those before it. Together they are the actions, in
-- their order.
use Rattle.std.proofs.Common.{◌≡◌, ◌∙◌, ◌+◌, ℕ, Bool, true, false, if◌then◌else◌, List, [], ◌∷◌, ◌++◌, length, refl}
use Rattle.std.proofs.Common.{sym, ap, append_assoc, arith}
use Rattle.std.specs.List.{AllByRecursion, flat_map}
use Rattle.iocm_model.specs.Change.Edit.{Action}
use Rattle.iocm_difference_writer.specs.Runs.{goes_with, runs, runs_from}

-- actions behind so many, the last of which is known: each goes with those before it
abbrev pub IsChain : ℕ → Action → List Action → Type 0
IsChain count last [] = Unit {0}
IsChain count last (a ∷ actions) = (goes_with count last a ≡ true) × IsChain (count + 1) a actions

abbrev pub IsRun : List Action → Type 0
IsRun [] = ⊥
IsRun (a ∷ actions) = IsChain 1 a actions

abbrev pub AreRuns : List (List Action) → Type 0
AreRuns rs = AllByRecursion IsRun rs

-- the last of some actions
abbrev last_of : Action → List Action → Action
last_of a [] = a
last_of a (b ∷ actions) = last_of b actions

chain_longer : (count : ℕ) (a : Action) (actions : List Action) (b : Action) → IsChain count a actions
    → goes_with (count + length actions) (last_of a actions) b ≡ true → IsChain count a (actions ++ b ∷ [])
chain_longer count a [] b chain goes_on =
    let same : count + 0 ≡ count = omega arith in
    (ap (λ n. goes_with n a b) (sym same) ∙ goes_on, tt)
chain_longer count a (c ∷ actions) b chain goes_on =
    let same : count + 1 + length actions ≡ count + length (c ∷ actions) = omega arith in
    (chain.0, chain_longer (count + 1) c actions b chain.1 (ap (λ n. goes_with n (last_of c actions) b) same ∙ goes_on))

last_longer : (a : Action) (actions : List Action) (b : Action) → last_of a (actions ++ b ∷ []) ≡ b
last_longer a [] b = refl
last_longer a (c ∷ actions) b = last_longer c actions b

-- a run so far, its last action, and what follows it
are_runs_from : (a : Action) (others : List Action) (last : Action) (rest : List Action) → IsChain 1 a others
    → last_of a others ≡ last
    → AreRuns (runs_from (a ∷ others) last rest)
are_runs_from a others last [] chain ends = (chain, tt)
are_runs_from a others last (b ∷ rest) chain ends =
    by (goes_with (length (a ∷ others)) last b) refl
    (λ longer. are_runs_from a (others ++ b ∷ []) b rest longer (last_longer a others b))
    (are_runs_from b [] b rest tt refl)
  where
    by : (test : Bool) → goes_with (length (a ∷ others)) last b ≡ test
        → (IsChain 1 a (others ++ b ∷ []) → AreRuns (runs_from (a ∷ others ++ b ∷ []) b rest))
        → AreRuns (runs_from (b ∷ []) b rest)
        → AreRuns (if test then runs_from ((a ∷ others) ++ b ∷ []) b rest else (a ∷ others) ∷ runs_from (b ∷ []) b rest)
    by true goes_on more next =
        let same : 1 + length others ≡ length (a ∷ others) = omega arith in
        more (chain_longer 1 a others b chain
        (ap (λ n. goes_with n (last_of a others) b) same ∙ ap (λ x. goes_with (length (a ∷ others)) x b) ends
        ∙ goes_on))
    by false other more next = (chain, next)

pub are_runs : (actions : List Action) → AreRuns (runs actions)
are_runs [] = tt
are_runs (a ∷ actions) = are_runs_from a [] a actions tt refl

-- runs one behind the other
abbrev pub joined : List (List Action) → List Action
joined rs = flat_map (λ run. run) rs

joined_from : (run : List Action) (last : Action) (rest : List Action) → joined (runs_from run last rest) ≡ run ++ rest
joined_from run last [] = refl
joined_from run last (b ∷ rest) =
    by (goes_with (length run) last b) (joined_from (run ++ b ∷ []) b rest) (joined_from (b ∷ []) b rest)
  where
    by : (test : Bool) → joined (runs_from (run ++ b ∷ []) b rest) ≡ (run ++ b ∷ []) ++ rest
        → joined (runs_from (b ∷ []) b rest) ≡ b ∷ rest
        → joined (if test then runs_from (run ++ b ∷ []) b rest else run ∷ runs_from (b ∷ []) b rest) ≡ run ++ b ∷ rest
    by true more next = more ∙ append_assoc run (b ∷ []) rest
    by false more next = ap (λ x. run ++ x) next

pub are_all : (actions : List Action) → joined (runs actions) ≡ actions
are_all [] = refl
are_all (a ∷ actions) = joined_from (a ∷ []) a actions
