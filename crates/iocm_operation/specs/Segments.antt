-- The parts of a trace that rounds of a script make.
use Rattle.std.specs.Prelude.{◌≡◌, ℕ, ◌==◌, List, [], ◌∷◌, ◌++◌, map, filter, ⊤}
use Rattle.iocm_core.specs.Calls.{call_in}
use Rattle.iocm_core.specs.declared.trace.Entry.{Entry}
use Rattle.iocm_model.specs.Change.Tree.{ChangeTree}
use Rattle.iocm_types.specs.declared.answer.Answer.{Answer}
use Rattle.iocm_script.specs.declared.line.Line.{Line}
use Rattle.iocm_operation.specs.declared.answered.Answered.{Answered}
use Rattle.iocm_operation.specs.Saying.{actor_of, calls_said}
use Rattle.iocm_operation.specs.Marks.{chosen}

-- the entries of a round, in their order, each with the number of the actor who made the call
abbrev pub Segment : Type 0
Segment = List (ℕ × Entry)

abbrev pub in_order : Segment → List Entry
in_order s = map (λ (e : ℕ × Entry). e.1) s

-- those of one actor
abbrev pub entries_of : ℕ → Segment → List Entry
entries_of n s = in_order (filter (λ (e : ℕ × Entry). e.0 == n) s)

-- a round was run: the calls of each actor's entries, in order, are those that its lines ask for,
-- in order; so nobody else made a call
abbrev pub IsRoundRun : List ChangeTree → List Line → Segment → Type 0
IsRoundRun ts ls s = (n : ℕ) → map (λ (e : Entry). call_in e.call) (entries_of n s) ≡ calls_said ts n ls

-- each round was
abbrev pub AreRun : List ChangeTree → List (List Line) → List Segment → Type 0
AreRun ts [] [] = ⊤
AreRun ts (ls ∷ rounds) (s ∷ segments) = IsRoundRun ts ls s × AreRun ts rounds segments
AreRun ts _ _ = ⊥

-- the answers in the entries of one actor
abbrev pub answers_in : ℕ → Segment → List Answer
answers_in n s = map (λ (e : Entry). e.answer) (entries_of n s)

-- a line takes the first of some answers, if there is one, and the lines after it have the others
abbrev pub taking : ℕ → List Answer → (List Answer → List Answered) → List Answered
taking line [] behind = behind []
taking line (x ∷ xs) behind = record { line = line; answer = x } ∷ behind xs

-- the answers to lines, each with the line's number: each line takes the next of those that its
-- actor has
abbrev pub answers_by : List Line → List Answer → List Answer → List Answer → List Answer → List Answered
answers_by [] p q a b = []
answers_by (l ∷ ls) p q a b = chosen (actor_of l.said)
    (taking l.line p (λ rest. answers_by ls rest q a b)) (taking l.line q (λ rest. answers_by ls p rest a b))
    (taking l.line a (λ rest. answers_by ls p q rest b)) (taking l.line b (λ rest. answers_by ls p q a rest))

-- the answers to all lines, round by round
abbrev pub answers_of : List (List Line) → List Segment → List Answered
answers_of (ls ∷ rounds) (s ∷ segments) =
    answers_by ls (answers_in 0 s) (answers_in 1 s) (answers_in 2 s) (answers_in 3 s) ++ answers_of rounds segments
answers_of _ _ = []
