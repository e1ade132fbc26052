-- Where a round has one actor, the entries of that actor are all entries.
use Rattle.std.proofs.Common.{◌≡◌, ℕ, ◌==◌, Bool, true, false, cond, List, [], ◌∷◌, ◌++◌, refl, sym, ap, ◌∙◌}
use Rattle.std.specs.Prelude.{map, filter}
use Rattle.std.specs.List.{flat_map}
use Rattle.std.proofs.lemmas.Bool.{eq-eqb, eqb-true}
use Rattle.std.proofs.lemmas.List.{map-append}
use Rattle.iocm_core.specs.Calls.{call_in}
use Rattle.iocm_core.specs.Seen as seen
use Rattle.iocm_core.specs.declared.trace.Entry.{Entry}
use Rattle.iocm_model.specs.Change.Tree.{ChangeTree}
use Rattle.iocm_script.specs.declared.line.Line.{Line}
use Rattle.iocm_operation.specs.declared.operated.Operated.{Operated}
use Rattle.iocm_operation.specs.Running.{IsOperation}
use Rattle.iocm_operation.specs.Saying.{actor_of, call_said, lines_of}
use Rattle.iocm_operation.specs.Segments.{AreRun, IsRoundRun, Segment, entries_of, in_order}
use Rattle.iocm_operation.specs.OneActor.{AreOfOne, IsOfOne, StandAsInTheScript, calls_of_entries, calls_of_lines}

-- a list of which something is made is empty where that is
pub nothing_made : {A B : Type 0} (f : A → B) (xs : List A) → map f xs ≡ [] → xs ≡ []
nothing_made f [] e = refl
nothing_made f (x ∷ xs) e = cc

-- the lines of that actor are all, and of another there are none
all_lines : (n : ℕ) (ls : List Line) → IsOfOne n ls → lines_of n ls ≡ ls
all_lines n [] one = refl
all_lines n (l ∷ ls) one =
    ap (λ b. cond b (l ∷ lines_of n ls) (lines_of n ls)) (eq-eqb (actor_of l.said) n one.0)
    ∙ ap (λ xs. l ∷ xs) (all_lines n ls one.1)

pub no_lines : (n k : ℕ) (ls : List Line) → (n == k) ≡ false → IsOfOne n ls → lines_of k ls ≡ []
no_lines n k [] other one = refl
no_lines n k (l ∷ ls) other one =
    ap (λ b. cond b (l ∷ lines_of k ls) (lines_of k ls)) (ap (λ j. j == k) one.0 ∙ other) ∙ no_lines n k ls other one.1

-- the first entry is of the actor whose the others are not
first_is : (e : ℕ × Entry) (s : Segment) (n : ℕ) → ((k : ℕ) → (n == k) ≡ false → entries_of k (e ∷ s) ≡ [])
    → (e.0 == n) ≡ true
first_is e s n none = by (n == e.0) refl
  where
    by : (b : Bool) → (n == e.0) ≡ b → (e.0 == n) ≡ true
    by true is = eq-eqb e.0 n (sym (eqb-true n e.0 is))
    by false is = absurd (there
        (sym (ap (λ b. in_order (cond b (e ∷ filter (λ (x : ℕ × Entry). x.0 == e.0) s)
        (filter (λ (x : ℕ × Entry). x.0 == e.0) s))) (eq-eqb e.0 e.0 refl)) ∙ none e.0 is))
      where
        there : e.1 ∷ entries_of e.0 s ≡ [] → ⊥
        there bad = cc

later_none : (e : ℕ × Entry) (s : Segment) (n k : ℕ) → (e.0 == n) ≡ true → (n == k) ≡ false → entries_of k (e ∷ s) ≡ []
    → entries_of k s ≡ []
later_none e s n k is other none =
    sym (ap (λ b. in_order (cond b (e ∷ filter (λ (x : ℕ × Entry). x.0 == k) s)
    (filter (λ (x : ℕ × Entry). x.0 == k) s))) (ap (λ j. j == k) (eqb-true e.0 n is) ∙ other)) ∙ none

pub all_of_one : (n : ℕ) (s : Segment) → ((k : ℕ) → (n == k) ≡ false → entries_of k s ≡ [])
    → entries_of n s ≡ in_order s
all_of_one n [] none = refl
all_of_one n (e ∷ s) none =
    let is = first_is e s n none in
    ap (λ b. in_order (cond b (e ∷ filter (λ (x : ℕ × Entry). x.0 == n) s) (filter (λ (x : ℕ × Entry). x.0 == n) s))) is
    ∙ ap (λ es. e.1 ∷ es) (all_of_one n s (λ k other. later_none e s n k is other (none k other)))

pub one_round : (ts : List ChangeTree) (ls : List Line) (s : Segment) (n : ℕ) → IsOfOne n ls → IsRoundRun ts ls s
    → calls_of_entries (in_order s) ≡ calls_of_lines ts ls
one_round ts ls s n one run =
    let none : (k : ℕ) → (n == k) ≡ false → entries_of k s ≡ [] =
    λ k other. nothing_made (λ (e : Entry). call_in e.call) (entries_of k s)
    (run k ∙ ap (map (λ (l : Line). call_said ts l.said)) (no_lines n k ls other one)) in
    ap calls_of_entries (sym (all_of_one n s none)) ∙ run n
    ∙ ap (map (λ (l : Line). call_said ts l.said)) (all_lines n ls one)

rounds_in_order : (ts : List ChangeTree) (rounds : List (List Line)) (ss : List Segment) → AreOfOne rounds
    → AreRun ts rounds ss
    → calls_of_entries (flat_map in_order ss) ≡ flat_map (calls_of_lines ts) rounds
rounds_in_order ts [] [] ones run = refl
rounds_in_order ts [] (s ∷ ss) ones run = absurd run
rounds_in_order ts (ls ∷ rounds) [] ones run = absurd run
rounds_in_order ts (ls ∷ rounds) (s ∷ ss) ones run =
    map-append (λ (e : Entry). call_in e.call) (in_order s) (flat_map in_order ss)
    ∙ ap (λ cs. cs ++ calls_of_entries (flat_map in_order ss)) (one_round ts ls s ones.0.0 ones.0.1 run.0)
    ∙ ap (λ cs. calls_of_lines ts ls ++ cs) (rounds_in_order ts rounds ss ones.1 run.1)

pub one_order : (core : seen.Core) (ts : List ChangeTree) (rounds : List (List Line)) (o : Operated) → AreOfOne rounds
    → IsOperation core ts rounds o
    → StandAsInTheScript core ts rounds o
one_order core ts rounds o ones op =
    ap calls_of_entries op.trace
    ∙ map-append (λ (e : Entry). call_in e.call) core.entries (flat_map in_order op.segments)
    ∙ ap (λ cs. calls_of_entries core.entries ++ cs) (rounds_in_order ts rounds op.segments ones op.each)
