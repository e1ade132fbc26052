-- What two writes, one after the other, do to what a writer holds.
use Rattle.std.proofs.Common.{◌≡◌, ℕ, List, [], ◌++◌, Option, None, Some, Result, Ok, Err, OnOk, refl, ◌∙◌, sym}
use Rattle.std.proofs.Common.{ap, subst}
use Rattle.std.proofs.lemmas.List.{append-nil, append_assoc}
use Rattle.std.proofs.lemmas.Result.{on_ok_weaker}
use Rattle.std.specs.Io.KnownBytes.{Appends}
use Rattle.iocm_console.specs.declared.error.ConsoleError.{ConsoleError}
use Rattle.iocm_console.specs.declared.output.Output.{Output}
use Rattle.iocm_console.specs.Output.{Writes, Wrote}

-- two texts, one after the other, are one
pub appends_then : (old mid new : Option (List ℕ)) (a b : List ℕ) → Appends old mid a → Appends mid new b
    → Appends old new (a ++ b)
appends_then None mid new a b h k = tt
appends_then (Some xs) None new a b h k = elim h [ ]
appends_then (Some xs) (Some ys) None a b h k = elim k [ ]
appends_then (Some xs) (Some ys) (Some zs) a b h k = k ∙ (ap (λ w. w ++ b) h ∙ append_assoc xs a b)

-- no text
pub appends_nothing : (old : Option (List ℕ)) → Appends old old []
appends_nothing None = tt
appends_nothing (Some xs) = sym (append-nil xs)

-- two texts, of which the second is written by a call
pub appends_on_ok : {A E : Type 0} (old mid new : Option (List ℕ)) (a b : List ℕ) (result : Result A E)
    → Appends old mid a → OnOk result (Appends mid new b) → OnOk result (Appends old new (a ++ b))
appends_on_ok old mid new a b (Ok x) first second = appends_then old mid new a b first second
appends_on_ok old mid new a b (Err e) first second = tt

-- another name of the text that a call wrote
pub on_ok_as : {A E : Type 0} (old new : Option (List ℕ)) (a b : List ℕ) (result : Result A E) → a ≡ b
    → OnOk result (Appends old new a) → OnOk result (Appends old new b)
on_ok_as old new a b (Ok x) same wrote = subst (Appends old new) same wrote
on_ok_as old new a b (Err e) same wrote = tt

-- another name of the text
pub appends_as : (old new : Option (List ℕ)) (a b : List ℕ) → Appends old new a → a ≡ b → Appends old new b
appends_as old new a b h e = subst (Appends old new) e h

-- ---- calls that print

-- nothing was printed
pub writes_nothing : {W : Type 0} {contents : W → Option (List ℕ)} {o : Output W} {a : List ℕ} → [] ≡ a
    → Wrote contents o o a
writes_nothing is = record { text = appends_as _ _ _ _ (appends_nothing _) is; works = refl; fault = tt }

module _ {W T : Type 0} {contents : W → Option (List ℕ)} {old new : Output W} {r : Result T ConsoleError} {a b : List ℕ}
  where
    -- another name of what was
    pub writes_as : Writes contents r old new a → a ≡ b → Writes contents r old new b
    writes_as h is = record { text = on_ok_as _ _ _ _ r is h.text; works = h.works; fault = h.fault }

    -- two texts, one after the other
    pub writes_then : {S : Type 0} {x : S} {mid : Output W} → Writes contents (Ok x) old mid a
        → Writes contents r mid new b → Writes contents r old new (a ++ b)
    writes_then h k = record {
      text = appends_on_ok _ _ _ _ _ r h.text k.text;
      works = on_ok_weaker r (λ e. e ∙ h.works) k.works;
      fault = k.fault;
    }
