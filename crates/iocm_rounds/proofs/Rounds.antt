-- What a round of which nothing is made comes to.
use Rattle.std.proofs.Common.{◌≡◌, ℕ, ◌==◌, Bool, true, false, cond, List, [], ◌∷◌, ◌++◌, refl, sym, ap, ◌∙◌, subst}
use Rattle.std.specs.Prelude.{map, filter, Option, None, Some, IfSome}
use Rattle.std.proofs.lemmas.List.{append_assoc, map-append}
use Rattle.std.proofs.lemmas.List.Elements.{filter-append}
use Rattle.iocm_queue.specs.Ends.{Sending, Taking}
use Rattle.iocm_queue.specs.Taken.{lines_of}
use Rattle.iocm_queue.specs.declared.message.Message.{Message}
use Rattle.iocm_queue.specs.declared.message.Message.TheVariants.{Line, End}
use Rattle.iocm_system.specs.declared.receipt.Receipt.{Receipt}
use Rattle.iocm_types.specs.declared.rule.Rule.{Rule}
use Rattle.iocm_rounds.specs.Jobs.{Job, calls_of, jobs_by, line_of, lines_in}
use Rattle.iocm_rounds.specs.Sending.{AreSent}
use Rattle.iocm_rounds.specs.Stops.{graver, graver_rule}
use Rattle.iocm_rounds.specs.Working.{IsWork}
use Rattle.std.proofs.lemmas.Option.{none-some}
use Rattle.iocm_core.specs.declared.call.Call.{Call}
use Rattle.iocm_types.specs.declared.rule.Rule.TheVariants as rules
use Rattle.iocm_system.specs.Sights.{Sight}
use Rattle.iocm_system.specs.Turns.{EndsATurn}
use Rattle.iocm_system.proofs.Turns.{turn_begins}
use Rattle.iocm_rounds.specs.Rounds.{IsImage, IsOffice}

pub no_image : (calls : List Call) (me : Sight) → IsImage calls me me [] (Some rules.M1)
no_image calls me = record
    { rest = calls; turn = turn_begins calls me; ends = λ e. absurd (none-some rules.M1 (sym e)); why = tt }

pub no_office : (p q : List Call) (me : Sight) → IsOffice p q me me [] [] (Some rules.M1)
no_office p q me =
    record {
      made = [];
      turn = turn_begins [] me;
      of_two = tt;
      rest_p = p;
      rest_q = q;
      all_p = refl;
      all_q = refl;
      first_are = refl;
      second_are = refl;
      ends = λ e. absurd (none-some rules.M1 (sym e));
      why = tt;
    }

-- ---- the lines of one operator

abbrev calls_by : ℕ → List (ℕ × Call) → List Call
calls_by n ls = map (λ (l : ℕ × Call). l.1) (filter (λ (l : ℕ × Call). l.0 == n) ls)

lines_of_in : (n : ℕ) (ms : List (Message Call)) → lines_of n ms ≡ calls_by n (lines_in ms)
lines_of_in n [] = refl
lines_of_in n (Line q x ∷ ms) = by (q == n) (lines_of_in n ms)
  where
    by : (b : Bool) → lines_of n ms ≡ calls_by n (lines_in ms)
        → cond b (x ∷ lines_of n ms) (lines_of n ms)
        ≡ map (λ (l : ℕ × Call). l.1)
        (cond b ((q, x) ∷ filter (λ (l : ℕ × Call). l.0 == n) (lines_in ms))
        (filter (λ (l : ℕ × Call). l.0 == n) (lines_in ms)))
    by true rest = ap (λ cs. x ∷ cs) rest
    by false rest = rest
lines_of_in n (End q ∷ ms) = lines_of_in n ms

calls_append : (n : ℕ) (ks ls : List (ℕ × Call)) → calls_by n (ks ++ ls) ≡ calls_by n ks ++ calls_by n ls
calls_append n ks ls =
    ap (λ ms. map (λ (l : ℕ × Call). l.1) ms) (filter-append (λ (l : ℕ × Call). l.0 == n) ks ls)
    ∙ map-append (λ (l : ℕ × Call). l.1) (filter (λ (l : ℕ × Call). l.0 == n) ks)
    (filter (λ (l : ℕ × Call). l.0 == n) ls)

calls_of_jobs : (n : ℕ) (js : List Job) → calls_by n (map line_of js) ≡ calls_of (jobs_by n js)
calls_of_jobs n [] = refl
calls_of_jobs n (j ∷ js) = by (j.by == n) (calls_of_jobs n js)
  where
    by : (b : Bool) → calls_by n (map line_of js) ≡ calls_of (jobs_by n js)
        → map (λ (l : ℕ × Call). l.1)
        (cond b (line_of j ∷ filter (λ (l : ℕ × Call). l.0 == n) (map line_of js))
        (filter (λ (l : ℕ × Call). l.0 == n) (map line_of js)))
        ≡ calls_of (cond b (j ∷ jobs_by n js) (jobs_by n js))
    by true rest = ap (λ cs. j.call ∷ cs) rest
    by false rest = rest

-- the calls that an operator was to send: those that were made, those that the worker left, and
-- those that were not sent
first_made : (n : ℕ) (calls left sent : List Call) (taken : List (Message Call)) (made : List Job)
    (rest : List (ℕ × Call)) → lines_in taken ≡ map line_of made ++ rest
    → lines_of n taken ≡ sent → calls ≡ sent ++ left → calls ≡ calls_of (jobs_by n made) ++ (calls_by n rest ++ left)
first_made n calls left sent taken made rest lines settled all =
    all ∙ ap (λ cs. cs ++ left)
    (sym settled ∙ lines_of_in n taken ∙ ap (calls_by n) lines ∙ calls_append n (map line_of made) rest
    ∙ ap (λ cs. cs ++ calls_by n rest) (calls_of_jobs n made))
    ∙ append_assoc (calls_of (jobs_by n made)) (calls_by n rest) left

neither : (a b : Option Rule) → graver a b ≡ None → (a ≡ None) × (b ≡ None)
neither None b e = (refl, e)
neither (Some x) None e = absurd (none-some x (sym e))
neither (Some x) (Some y) e = absurd (none-some (graver_rule x y) (sym e))

gate_ends : (why : Rule) (new : Sight) → EndsATurn (graver_rule rules.G1 why) new
gate_ends rules.M1 new = tt
gate_ends _ new = tt

either_ends : (gated stopped : Option Rule) (new : Sight) → IfSome gated (λ rule. rule ≡ rules.G1)
    → IfSome stopped (λ rule. EndsATurn rule new)
    → IfSome (graver gated stopped) (λ rule. EndsATurn rule new)
either_ends None stopped new gate why = why
either_ends (Some r) None new gate why = subst (λ rule. EndsATurn rule new) (sym gate) tt
either_ends (Some r) (Some s) new gate why =
    subst (λ rule. EndsATurn (graver_rule rule s) new) (sym gate) (gate_ends s new)

pub office_is : (p q left_p left_q : List Call) (first second first_done second_done : Sending Call)
    (worker worker_done : Taking Call) (me new : Sight) (firsts seconds : List Receipt)
    (gated stopped out : Option Rule) → AreSent p q first second first_done second_done left_p left_q
    → IsWork worker me worker_done new firsts seconds stopped
    → lines_of 0 worker_done.taken ≡ first_done.sent → lines_of 1 worker_done.taken ≡ second_done.sent
    → (gated ≡ None → (left_p ≡ []) × (left_q ≡ []))
    → IfSome gated (λ rule. rule ≡ rules.G1) → out ≡ graver gated stopped
    → IsOffice p q me new firsts seconds out
office_is p q left_p left_q first second first_done second_done worker worker_done me new firsts seconds gated stopped
    out sent work of_first of_second gate only is =
    let w = work.worked in record {
      made = w.made;
      turn = w.turn;
      of_two = w.of_two;
      rest_p = calls_by 0 w.rest ++ left_p;
      rest_q = calls_by 1 w.rest ++ left_q;
      all_p = first_made 0 p left_p first_done.sent worker_done.taken w.made w.rest w.lines of_first sent.of_first.all;
      all_q = first_made 1 q left_q second_done.sent worker_done.taken w.made w.rest w.lines of_second
          sent.of_second.all;
      first_are = w.first_are;
      second_are = w.second_are;
      why = subst (λ (o : Option Rule). IfSome o (λ rule. EndsATurn rule new)) (sym is)
          (either_ends gated stopped new only w.why);
      ends = λ none. let two = neither gated stopped (sym is ∙ none) in
          (λ i. calls_by 0 (w.ends two.1 i) ++ (gate two.0).0 i, λ i. calls_by 1 (w.ends two.1 i) ++ (gate two.0).1 i);
    }
