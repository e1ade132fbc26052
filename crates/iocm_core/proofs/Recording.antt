-- A history with one entry more, as it is told.
use Rattle.std.proofs.Common.{◌≡◌, ◌≤◌, ◌<◌, ℕ, zero, suc, ◌+◌, ◌-◌, List, [], ◌∷◌, ◌++◌}
use Rattle.std.proofs.Common.{length, map, reverse, refl, sym, ap, ◌∙◌, arith}
use Rattle.std.proofs.lemmas.List.{append-nil, map-append, reverse-append, length-map, length-reverse, length-append}
use Rattle.std.specs.List.{slice_get, AllByRecursion}
use Rattle.std.specs.Option.{option_map_or}
use Rattle.iocm_types.specs.declared.answer.Answer.{Answer}
use Rattle.iocm_types.specs.declared.answer.Answer.TheVariants as answers
use Rattle.iocm_model.specs.Change.Effect as model
use Rattle.iocm_history.specs.Entry as history
use Rattle.iocm_history.specs.Entry.{no_effect}
use Rattle.iocm_activate.specs.Effects.{effect_in}
use Rattle.iocm_activate.specs.declared.effect.Effect.{Effect}
use Rattle.iocm_core.specs.Calls.{call_in}
use Rattle.iocm_core.specs.Told.{effect_told, entry_told, entry_in, history_in, IsWithin, GoesOnWith}
use Rattle.iocm_core.specs.declared.trace.Entry.{Entry}

at_front : {A : Type 0} (xs ys : List A) (n : ℕ) → n < length xs → slice_get (xs ++ ys) n ≡ slice_get xs n
at_front [] ys n low = absurd (omega arith)
at_front (x ∷ xs) ys zero low = refl
at_front (x ∷ xs) ys (suc n) low = at_front xs ys n (omega arith)

-- what an answer tells of stays, where more is known of changes
told_still : (fs gs : List Effect) (answer : Answer) → IsWithin (length fs) answer
    → effect_told (fs ++ gs) answer ≡ effect_told fs answer
told_still fs gs (answers.Changed n) within =
    let low = within.0 in let high = within.1 in
    ap (λ o. option_map_or effect_in o no_effect) (at_front fs gs (n - 1) (omega (arith, low, high)))
told_still fs gs (answers.Io io) within = refl
told_still fs gs (answers.Begun b) within = refl
told_still fs gs (answers.Ended b) within = refl
told_still fs gs answers.Held within = refl
told_still fs gs (answers.Staged n) within = refl
told_still fs gs (answers.Left n) within = refl
told_still fs gs answers.Aborted within = refl
told_still fs gs (answers.Undone n) within = refl
told_still fs gs (answers.Redone n) within = refl
told_still fs gs (answers.Shown n) within = refl
told_still fs gs (answers.Refused why) within = refl

within_more : (k l : ℕ) → k ≤ l → (answer : Answer) → IsWithin k answer → IsWithin l answer
within_more k l more (answers.Changed n) within = let high = within.1 in (within.0, omega (arith, more, high))
within_more k l more (answers.Io io) within = tt
within_more k l more (answers.Begun b) within = tt
within_more k l more (answers.Ended b) within = tt
within_more k l more answers.Held within = tt
within_more k l more (answers.Staged n) within = tt
within_more k l more (answers.Left n) within = tt
within_more k l more answers.Aborted within = tt
within_more k l more (answers.Undone n) within = tt
within_more k l more (answers.Redone n) within = tt
within_more k l more (answers.Shown n) within = tt
within_more k l more (answers.Refused why) within = tt

-- what is known of changes after a call has what was known before it, and the answer tells of one
-- of them
record IsMore (answer : Answer) (old new : List Effect) : Type 0 where
  more : List Effect
  is : new ≡ old ++ more
  within : IsWithin (length new) answer

going_on : (answer : Answer) (old new : List Effect) → GoesOnWith answer old new → IsMore answer old new
going_on (answers.Changed n) old new goes =
    let number = goes.1.1 in let long : length new ≡ length old + 1 =
    ap length goes.1.0 ∙ length-append old (goes.0 ∷ []) in
    record { more = goes.0 ∷ []; is = goes.1.0; within = (omega (arith, number), omega (arith, number, long)) }
going_on (answers.Io io) old new same = record { more = []; is = same ∙ sym (append-nil old); within = tt }
going_on (answers.Begun b) old new same = record { more = []; is = same ∙ sym (append-nil old); within = tt }
going_on (answers.Ended b) old new same = record { more = []; is = same ∙ sym (append-nil old); within = tt }
going_on answers.Held old new same = record { more = []; is = same ∙ sym (append-nil old); within = tt }
going_on (answers.Staged n) old new same = record { more = []; is = same ∙ sym (append-nil old); within = tt }
going_on (answers.Left n) old new same = record { more = []; is = same ∙ sym (append-nil old); within = tt }
going_on answers.Aborted old new same = record { more = []; is = same ∙ sym (append-nil old); within = tt }
going_on (answers.Undone n) old new same = record { more = []; is = same ∙ sym (append-nil old); within = tt }
going_on (answers.Redone n) old new same = record { more = []; is = same ∙ sym (append-nil old); within = tt }
going_on (answers.Shown n) old new same = record { more = []; is = same ∙ sym (append-nil old); within = tt }
going_on (answers.Refused why) old new same = record { more = []; is = same ∙ sym (append-nil old); within = tt }

abbrev entry_with : history.Call → Answer → model.Effect → history.Entry
entry_with call answer effect = record { call = call; answer = answer; effect = effect }

-- the entries so far tell the same
entries_still : (fs gs : List Effect) (es : List Entry)
    → AllByRecursion (λ (e : Entry). IsWithin (length fs) e.answer) es
    → map (entry_in (fs ++ gs)) es ≡ map (entry_in fs) es
entries_still fs gs [] within = refl
entries_still fs gs (e ∷ es) within =
    (λ i. entry_with (call_in e.call) e.answer (told_still fs gs e.answer within.0 i)
    ∷ entries_still fs gs es within.1 i)

-- the history with one entry more
pub one_more : (old new : List Effect) (es : List Entry) (e : Entry)
    → AllByRecursion (λ (d : Entry). IsWithin (length old) d.answer) es → GoesOnWith e.answer old new
    → history_in new (es ++ e ∷ []) ≡ entry_told new (call_in e.call) e.answer ∷ history_in old es
one_more old new es e within goes =
    let m = going_on e.answer old new goes in
    ap reverse (map-append (entry_in new) es (e ∷ [])) ∙ reverse-append (map (entry_in new) es) (entry_in new e ∷ [])
    ∙ ap (λ ds. entry_told new (call_in e.call) e.answer ∷ reverse ds)
    (ap (λ fs. map (entry_in fs) es) m.is ∙ entries_still old m.more es within)

all_more : (k l : ℕ) → k ≤ l → (es : List Entry) → AllByRecursion (λ (d : Entry). IsWithin k d.answer) es
    → AllByRecursion (λ (d : Entry). IsWithin l d.answer) es
all_more k l more [] within = tt
all_more k l more (e ∷ es) within = (within_more k l more e.answer within.0, all_more k l more es within.1)

one_behind : (k : ℕ) (es : List Entry) (e : Entry) → AllByRecursion (λ (d : Entry). IsWithin k d.answer) es
    → IsWithin k e.answer
    → AllByRecursion (λ (d : Entry). IsWithin k d.answer) (es ++ e ∷ [])
one_behind k [] e all one = (one, tt)
one_behind k (d ∷ es) e all one = (all.0, one_behind k es e all.1 one)

-- and each of its answers tells of one of the changes that are known
pub within_still : (old new : List Effect) (es : List Entry) (e : Entry)
    → AllByRecursion (λ (d : Entry). IsWithin (length old) d.answer) es → GoesOnWith e.answer old new
    → AllByRecursion (λ (d : Entry). IsWithin (length new) d.answer) (es ++ e ∷ [])
within_still old new es e within goes =
    let m = going_on e.answer old new goes in
    let long : length new ≡ length old + length m.more = ap length m.is ∙ length-append old m.more in
    one_behind (length new) es e (all_more (length old) (length new) (omega (arith, long)) es within) m.within

-- a history has as many entries as the trace
pub as_many : (fs : List Effect) (es : List Entry) → length (history_in fs es) ≡ length es
as_many fs es = length-reverse (map (entry_in fs) es) ∙ length-map es (entry_in fs)
