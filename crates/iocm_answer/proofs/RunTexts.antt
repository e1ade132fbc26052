-- What is printed of a run, of the bytes of its texts.
use Rattle.std.proofs.Common.{◌≡◌, ◌-◌, ◌^◌, ℕ, List, length, min, Result, Ok, Err, sym, subst}
use Rattle.iocm_types.specs.declared.fault.Fault.{Fault}
use Rattle.iocm_model.specs.Machine.Configuration.{Configuration}
use Rattle.iocm_script.specs.Scripts.{Rounds, script_in}
use Rattle.iocm_tree.specs.Trees.{CarriedTree}
use Rattle.iocm_console.specs.Refusal.{or_refused}
use Rattle.iocm_console.specs.Shown.{Shown}
use Rattle.iocm_answer.specs.Change.{trees_in}
use Rattle.iocm_answer.specs.declared.manner.Manner.{Manner}
use Rattle.iocm_answer.specs.Commands.Run.{calls_in, IsOfChanges, IsOfMachine, IsOfScript, IsRun}

was_read : {A : Type 0} (r : Result A Fault) (x : A) → or_refused r ≡ Ok x → r ≡ Ok x
was_read (Ok y) x is = cc
was_read (Err e) x is = cc

pub is_of_machine : (m : Manner) (c : Configuration) (changes : List (List ℕ)) (script : List ℕ) (ts : List CarriedTree)
    (rounds : Rounds) (shown : Shown) → or_refused (trees_in changes) ≡ Ok ts
    → script_in (length changes) script ≡ Ok rounds
    → IsRun m c (min (calls_in rounds) (2 ^ 64 - 1)) ts rounds shown → IsOfMachine m c changes script shown
is_of_machine m c changes script ts rounds shown trees read is =
    subst (λ r. IsOfChanges m c r (script_in (length changes) script) shown) (sym (was_read (trees_in changes) ts trees))
    (subst (λ r. IsOfScript m c ts r shown) (sym read) is)
