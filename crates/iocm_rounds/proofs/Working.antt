-- The work goes on by one message.
use Rattle.std.proofs.Common.{◌≡◌, ◌<◌, ℕ, zero, suc, ◌==◌, true, false, inl, inr, List, [], ◌∷◌, ◌++◌, refl, sym, ap}
use Rattle.std.proofs.Common.{◌∙◌, subst, arith}
use Rattle.std.specs.Prelude.{map, Option, None, Some}
use Rattle.std.specs.List.{AllByRecursion}
use Rattle.std.specs.Option.{is_some}
use Rattle.std.proofs.lemmas.Bool.{false≢true}
use Rattle.std.proofs.lemmas.List.{append_assoc, append-nil, map-append}
use Rattle.std.proofs.lemmas.Option.{none-some}
use Rattle.iocm_core.specs.declared.call.Call.{Call}
use Rattle.iocm_queue.specs.declared.message.Message.{Message}
use Rattle.iocm_queue.specs.declared.message.Message.TheVariants.{Line, End}
use Rattle.iocm_types.specs.declared.rule.Rule.{Rule}
use Rattle.iocm_system.specs.Calling.{IsMade}
use Rattle.iocm_system.specs.Sights.{Sight}
use Rattle.iocm_system.specs.Turns.{EndsATurn, IsTurn}
use Rattle.iocm_system.specs.declared.receipt.Receipt.{Receipt}
use Rattle.iocm_system.proofs.Turns.{turn_begins, turn_ends, turn_goes_on, why_back}
use Rattle.iocm_rounds.specs.Jobs.{Job, calls_of, jobs_by, line_of, receipts_of}
use Rattle.iocm_rounds.specs.Working.{GoesOn, IsKept, IsWorked, Stops}
use Rattle.iocm_rounds.proofs.Lines.{jobs_last, jobs_other, lines_end, lines_last}

pub work_begins : (me : Sight) → IsWorked [] me me [] [] None
work_begins me = record {
  made = [];
  rest = [];
  lines = refl;
  turn = turn_begins [] me;
  of_two = tt;
  first_are = refl;
  second_are = refl;
  ends = λ e. refl;
  why = tt;
}

-- an end mark changes nothing
pub work_past_end : (taken : List (Message Call)) (p : ℕ) (old now : Sight) (first second : List Receipt)
    (stopped : Option Rule)
    → IsWorked taken old now first second stopped → IsWorked (taken ++ End p ∷ []) old now first second stopped
work_past_end taken p old now first second stopped w =
    record {
      made = w.made;
      rest = w.rest;
      lines = lines_end taken p ∙ w.lines;
      turn = w.turn;
      of_two = w.of_two;
      first_are = w.first_are;
      second_are = w.second_are;
      ends = w.ends;
      why = w.why;
    }

-- a turn with one call more, which is made
turn_with : (calls : List Call) (old now new : Sight) (rs : List Receipt) (x : Call) (r : Receipt)
    → IsTurn calls old now rs [] → IsMade x now r new
    → IsTurn (calls ++ x ∷ []) old new (rs ++ r ∷ []) []
turn_with calls old now new rs x r t made =
    turn_goes_on (calls ++ x ∷ []) old now new rs x [] r
    (record {
      first = t.first;
      all = ap (λ cs. cs ++ x ∷ []) (t.all ∙ append-nil t.first);
      asked = t.asked;
      gained_are = t.gained_are;
      rise = t.rise;
      tag = t.tag;
      origin = t.origin;
      names = t.names;
    })
    made.asked made.later made.receipt

two_last : (js : List Job) (j : Job) → AllByRecursion (λ (k : Job). k.by < 2) js → j.by < 2
    → AllByRecursion (λ (k : Job). k.by < 2) (js ++ j ∷ [])
two_last [] j are is = (is, tt)
two_last (k ∷ js) j are is = (are.0, two_last js j are.1 is)

-- a line's call was made, and its receipt is the last of its operator's
work_makes : (taken : List (Message Call)) (p : ℕ) (x : Call) (r : Receipt) (old now new : Sight)
    (first first_new second second_new : List Receipt)
    → (w : IsWorked taken old now first second None) → p < 2 → IsMade x now r new
    → first_new ≡ receipts_of (jobs_by 0 (w.made ++ record { by = p; call = x; receipt = r } ∷ []))
    → second_new ≡ receipts_of (jobs_by 1 (w.made ++ record { by = p; call = x; receipt = r } ∷ []))
    → IsWorked (taken ++ Line p x ∷ []) old new first_new second_new None
work_makes taken p x r old now new first first_new second second_new w few made firsts seconds =
    let job : Job = record { by = p; call = x; receipt = r } in record {
      made = w.made ++ job ∷ [];
      rest = [];
      lines = lines_last taken p x
          ∙ ap (λ ls. ls ++ (p, x) ∷ [])
          (w.lines ∙ ap (λ ls. map line_of w.made ++ ls) (w.ends refl) ∙ append-nil (map line_of w.made))
          ∙ sym (map-append line_of w.made (job ∷ [])) ∙ sym (append-nil (map line_of (w.made ++ job ∷ [])));
      turn = subst (λ cs. IsTurn cs old new (receipts_of (w.made ++ job ∷ [])) [])
          (sym (map-append (λ (j : Job). j.call) w.made (job ∷ [])))
          (subst (λ rs. IsTurn (calls_of w.made ++ x ∷ []) old new rs [])
          (sym (map-append (λ (j : Job). j.receipt) w.made (job ∷ [])))
          (turn_with (calls_of w.made) old now new (receipts_of w.made) x r w.turn made));
      of_two = two_last w.made job w.of_two few;
      first_are = firsts;
      second_are = seconds;
      ends = λ e. refl;
      why = tt;
    }

-- a line that is left after the work has stopped
work_leaves : (taken : List (Message Call)) (p : ℕ) (x : Call) (old now : Sight) (first second : List Receipt)
    (why : Rule)
    → IsWorked taken old now first second (Some why) → IsWorked (taken ++ Line p x ∷ []) old now first second (Some why)
work_leaves taken p x old now first second why w =
    record {
      made = w.made;
      rest = w.rest ++ (p, x) ∷ [];
      lines = lines_last taken p x ∙ ap (λ ls. ls ++ (p, x) ∷ []) w.lines
          ∙ append_assoc (map line_of w.made) w.rest ((p, x) ∷ []);
      turn = w.turn;
      of_two = w.of_two;
      first_are = w.first_are;
      second_are = w.second_are;
      ends = λ e. absurd (none-some why (sym e));
      why = w.why;
    }

stopped_turn : (calls : List Call) (old now new : Sight) (rs : List Receipt) (why : Rule) → IsTurn calls old now rs []
    → Stops why now new → IsTurn calls old new rs []
stopped_turn calls old now new rs why t (inl same) = subst (λ s. IsTurn calls old s rs []) (sym same.1) t
stopped_turn calls old now new rs why t (inr back) = turn_ends calls old now new rs [] why t back

stopped_why : (now new : Sight) (why : Rule) → Stops why now new → EndsATurn why new
stopped_why now new why (inl same) = subst (λ r. EndsATurn r new) (sym same.0) tt
stopped_why now new why (inr back) = why_back why now new back

-- a line's call was not made: the work stops before it
work_stops : (taken : List (Message Call)) (p : ℕ) (x : Call) (old now new : Sight) (first second : List Receipt)
    (why : Rule)
    → IsWorked taken old now first second None → Stops why now new
    → IsWorked (taken ++ Line p x ∷ []) old new first second (Some why)
work_stops taken p x old now new first second why w stops =
    record {
      made = w.made;
      rest = (p, x) ∷ [];
      lines = lines_last taken p x
          ∙ ap (λ ls. ls ++ (p, x) ∷ [])
          (w.lines ∙ ap (λ ls. map line_of w.made ++ ls) (w.ends refl) ∙ append-nil (map line_of w.made));
      turn = stopped_turn (calls_of w.made) old now new (receipts_of w.made) why w.turn stops;
      of_two = w.of_two;
      first_are = w.first_are;
      second_are = w.second_are;
      ends = λ e. absurd (none-some why (sym e));
      why = stopped_why now new why stops;
    }

-- no more calls are made
pub goes_on_stopped : (p : ℕ) (x : Call) (now : Sight) (first second : List Receipt) (stopped : Option Rule)
    → true ≡ is_some stopped
    → GoesOn p x now now first first second second stopped stopped
goes_on_stopped p x now first second (Some why) there taken old w = work_leaves taken p x old now first second why w
goes_on_stopped p x now first second None there taken old w = absurd (false≢true (sym there))

-- the call of a line of operator 0, and of operator 1
pub goes_on_first : (p : ℕ) (x : Call) (now new : Sight) (first first_new second : List Receipt)
    (stopped stopped_new : Option Rule) → p ≡ 0
    → stopped ≡ None → IsKept x now new first first_new stopped_new
    → GoesOn p x now new first first_new second second stopped stopped_new
goes_on_first p x now new first first_new second stopped None mine none kept taken old w =
    let v = subst (λ s. IsWorked taken old now first second s) none w in
    let job : Job = record { by = p; call = x; receipt = kept.0 } in
    work_makes taken p x kept.0 old now new first first_new second second v (below_two p mine) kept.1
    (kept.2 ∙ ap (λ rs. rs ++ kept.0 ∷ []) v.first_are ∙ sym (jobs_last 0 v.made job (is_zero p mine)))
    (v.second_are ∙ sym (jobs_other 1 v.made job (not_both p mine)))
  where
    below_two : (p : ℕ) → p ≡ 0 → p < 2
    below_two p e = omega (arith, e)

    is_zero : (p : ℕ) → p ≡ 0 → (p == 0) ≡ true
    is_zero p e = subst (λ n. (n == 0) ≡ true) (sym e) refl

    not_both : (p : ℕ) → p ≡ 0 → (p == 1) ≡ false
    not_both p e = subst (λ n. (n == 1) ≡ false) (sym e) refl
goes_on_first p x now new first first_new second stopped (Some why) mine none kept taken old w =
    subst (λ rs. IsWorked (taken ++ Line p x ∷ []) old new rs second (Some why)) (sym kept.1)
    (work_stops taken p x old now new first second why (subst (λ s. IsWorked taken old now first second s) none w)
    kept.0)

pub goes_on_second : (p : ℕ) (x : Call) (now new : Sight) (first second second_new : List Receipt)
    (stopped stopped_new : Option Rule) → (p ≡ 0 → ⊥) → p < 2
    → stopped ≡ None → IsKept x now new second second_new stopped_new
    → GoesOn p x now new first first second second_new stopped stopped_new
goes_on_second p x now new first second second_new stopped None other few none kept taken old w =
    let v = subst (λ s. IsWorked taken old now first second s) none w in
    let job : Job = record { by = p; call = x; receipt = kept.0 } in
    work_makes taken p x kept.0 old now new first first second second_new v few kept.1
    (v.first_are ∙ sym (jobs_other 0 v.made job (not_zero p (one p other few))))
    (kept.2 ∙ ap (λ rs. rs ++ kept.0 ∷ []) v.second_are ∙ sym (jobs_last 1 v.made job (is_one p (one p other few))))
  where
    one : (p : ℕ) → (p ≡ 0 → ⊥) → p < 2 → p ≡ 1
    one zero e le = absurd (e refl)
    one (suc zero) e le = refl
    one (suc (suc q)) e le = absurd (omega (arith, le))

    not_zero : (p : ℕ) → p ≡ 1 → (p == 0) ≡ false
    not_zero p e = subst (λ n. (n == 0) ≡ false) (sym e) refl

    is_one : (p : ℕ) → p ≡ 1 → (p == 1) ≡ true
    is_one p e = subst (λ n. (n == 1) ≡ true) (sym e) refl
goes_on_second p x now new first second second_new stopped (Some why) other few none kept taken old w =
    subst (λ rs. IsWorked (taken ++ Line p x ∷ []) old new first rs (Some why)) (sym kept.1)
    (work_stops taken p x old now new first second why (subst (λ s. IsWorked taken old now first second s) none w)
    kept.0)

pub none_of : (stopped : Option Rule) → is_some stopped ≡ false → stopped ≡ None
none_of None e = refl
none_of (Some why) e = absurd (false≢true (sym e))
