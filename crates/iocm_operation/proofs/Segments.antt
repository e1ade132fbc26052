-- What the marked receipts of a round tell of its part of the trace.
use Rattle.std.proofs.Common.{◌≡◌, ℕ, suc, ◌==◌, Bool, true, false, cond, List, [], ◌∷◌, ◌++◌, length, refl, sym, ap}
use Rattle.std.proofs.Common.{◌∙◌, arith}
use Rattle.std.specs.Prelude.{map, filter}
use Rattle.std.specs.List.{flat_map}
use Rattle.std.proofs.lemmas.List.{append_assoc, append-nil}
use Rattle.iocm_board.specs.declared.view.Made.{Made}
use Rattle.iocm_board.specs.Receipts.{numbered}
use Rattle.iocm_core.specs.Calls.{call_in}
use Rattle.iocm_core.specs.declared.call.Call.{Call}
use Rattle.iocm_core.specs.declared.trace.Entry.{Entry}
use Rattle.iocm_model.specs.Change.Tree.{ChangeTree}
use Rattle.iocm_script.specs.declared.line.Line.{Line}
use Rattle.iocm_system.specs.Turns.{gained}
use Rattle.iocm_system.specs.declared.receipt.Receipt.{Receipt}
use Rattle.iocm_operation.specs.Marks.{Marked, all_of, of_actor, those_of}
use Rattle.iocm_operation.specs.Placing.{numbers, numbers_of, places_by, places_for, places_of}
use Rattle.iocm_operation.specs.Running.{AreAll}
use Rattle.iocm_operation.specs.Saying.{calls_said}
use Rattle.iocm_operation.specs.Segments.{AreRun, IsRoundRun, Segment, entries_of, in_order}
use Rattle.iocm_operation.specs.SoFar.{segment_of}

abbrev pub entries_in : List Made → List Entry
entries_in ms = map (λ (m : Made). m.entry) ms

one_of_one : (n : ℕ) (m : ℕ × Made) (rest : Segment) (kept : Marked) (b : Bool)
    → entries_of n rest ≡ entries_in (all_of kept)
    → in_order (cond b ((m.0, m.1.entry) ∷ filter (λ (e : ℕ × Entry). e.0 == n) rest)
    (filter (λ (e : ℕ × Entry). e.0 == n) rest)) ≡ entries_in (all_of (cond b (m ∷ kept) kept))
one_of_one n m rest kept true e = ap (λ es. m.1.entry ∷ es) e
one_of_one n m rest kept false e = e

-- those of one actor
pub of_one : (n : ℕ) (ms : Marked) → entries_of n (segment_of ms) ≡ entries_in (those_of n ms)
of_one n [] = refl
of_one n (m ∷ ms) = one_of_one n m (segment_of ms) (filter (λ (k : ℕ × Made). k.0 == n) ms) (m.0 == n) (of_one n ms)

-- the calls and the places of what was gained
calls_gained : (cs : List Call) (rs : List Receipt) → length rs ≡ length cs
    → map (λ (e : Entry). call_in e.call) (entries_in (gained cs rs)) ≡ map call_in cs
calls_gained [] [] e = refl
calls_gained [] (r ∷ rs) e = absurd (omega (arith, e))
calls_gained (c ∷ cs) [] e = absurd (omega (arith, e))
calls_gained (c ∷ cs) (r ∷ rs) e = ap (λ xs. call_in c ∷ xs) (calls_gained cs rs (omega (arith, e)))

numbers_gained : (cs : List Call) (rs : List Receipt) → length rs ≡ length cs
    → map (λ (m : Made). m.number) (gained cs rs) ≡ numbers rs
numbers_gained [] [] e = refl
numbers_gained [] (r ∷ rs) e = absurd (omega (arith, e))
numbers_gained (c ∷ cs) [] e = absurd (omega (arith, e))
numbers_gained (c ∷ cs) (r ∷ rs) e = ap (λ xs. r.number ∷ xs) (numbers_gained cs rs (omega (arith, e)))

module _ (p q a b : List Call) (rp rq ra rb : List Receipt) (ms : Marked) (all : AreAll p q a b rp rq ra rb ms) where
  gained_by : (n : ℕ) → entries_of n (segment_of ms) ≡ entries_in (gained (of_actor n p q a b) (of_actor n rp rq ra rb))
  gained_by n = of_one n ms ∙ ap entries_in (all.gained_are n)

  -- the calls of each actor are what its lines ask for
  pub round_is_run : (ts : List ChangeTree) (ls : List Line)
      → ((n : ℕ) → map call_in (of_actor n p q a b) ≡ calls_said ts n ls) → IsRoundRun ts ls (segment_of ms)
  round_is_run ts ls asked n =
      ap (map (λ (e : Entry). call_in e.call)) (gained_by n)
      ∙ calls_gained (of_actor n p q a b) (of_actor n rp rq ra rb) (all.as_many n) ∙ asked n

  numbers_are : (n : ℕ) → numbers (of_actor n rp rq ra rb) ≡ numbers_of n ms
  numbers_are n = sym (ap (map (λ (m : Made). m.number)) (all.gained_are n)
      ∙ numbers_gained (of_actor n p q a b) (of_actor n rp rq ra rb) (all.as_many n))

  -- each line takes the place of its own call
  pub places_are_those : (ls : List Line)
      → places_for ls rp rq ra rb ≡ places_by ls (numbers_of 0 ms) (numbers_of 1 ms) (numbers_of 2 ms) (numbers_of 3 ms)
  places_are_those ls =
      ap (λ xs. places_by ls xs (numbers rq) (numbers ra) (numbers rb)) (numbers_are 0)
      ∙ ap (λ xs. places_by ls (numbers_of 0 ms) xs (numbers ra) (numbers rb)) (numbers_are 1)
      ∙ ap (λ xs. places_by ls (numbers_of 0 ms) (numbers_of 1 ms) xs (numbers rb)) (numbers_are 2)
      ∙ ap (λ xs. places_by ls (numbers_of 0 ms) (numbers_of 1 ms) (numbers_of 2 ms) xs) (numbers_are 3)

-- one round behind others
pub one_run_more : (ts : List ChangeTree) (rounds : List (List Line)) (ss : List Segment) (ls : List Line) (s : Segment)
    → AreRun ts rounds ss → IsRoundRun ts ls s
    → AreRun ts (rounds ++ ls ∷ []) (ss ++ s ∷ [])
one_run_more ts [] [] ls s are one = (one, tt)
one_run_more ts [] (x ∷ ss) ls s are one = absurd are
one_run_more ts (r ∷ rounds) [] ls s are one = absurd are
one_run_more ts (r ∷ rounds) (x ∷ ss) ls s are one = (are.0, one_run_more ts rounds ss ls s are.1 one)

pub places_of_more : (ts : List ChangeTree) (rounds : List (List Line)) (parts : List Marked) (ls : List Line)
    (ms : Marked) → AreRun ts rounds (map segment_of parts)
    → places_of (rounds ++ ls ∷ []) (parts ++ ms ∷ []) ≡ places_of rounds parts
    ++ places_by ls (numbers_of 0 ms) (numbers_of 1 ms) (numbers_of 2 ms) (numbers_of 3 ms)
places_of_more ts [] [] ls ms are =
    append-nil (places_by ls (numbers_of 0 ms) (numbers_of 1 ms) (numbers_of 2 ms) (numbers_of 3 ms))
places_of_more ts [] (x ∷ parts) ls ms are = absurd are
places_of_more ts (r ∷ rounds) [] ls ms are = absurd are
places_of_more ts (r ∷ rounds) (x ∷ parts) ls ms are =
    ap (λ ks. places_by r (numbers_of 0 x) (numbers_of 1 x) (numbers_of 2 x) (numbers_of 3 x) ++ ks)
    (places_of_more ts rounds parts ls ms are.1)
    ∙ sym (append_assoc (places_by r (numbers_of 0 x) (numbers_of 1 x) (numbers_of 2 x) (numbers_of 3 x))
    (places_of rounds parts)
    (places_by ls (numbers_of 0 ms) (numbers_of 1 ms) (numbers_of 2 ms) (numbers_of 3 ms)))

pub map_more : (parts : List Marked) (ms : Marked)
    → map segment_of (parts ++ ms ∷ []) ≡ map segment_of parts ++ segment_of ms ∷ []
map_more [] ms = refl
map_more (x ∷ parts) ms = ap (λ ss. segment_of x ∷ ss) (map_more parts ms)

pub all_more : (parts : List Marked) (ms : Marked)
    → flat_map all_of (parts ++ ms ∷ []) ≡ flat_map all_of parts ++ all_of ms
all_more [] ms = append-nil (all_of ms)
all_more (x ∷ parts) ms =
    ap (λ ys. all_of x ++ ys) (all_more parts ms) ∙ sym (append_assoc (all_of x) (flat_map all_of parts) (all_of ms))

-- entries whose receipts are those of parts are those of the parts
entries_numbered : (k : ℕ) (es : List Entry) → entries_in (numbered k es) ≡ es
entries_numbered k [] = refl
entries_numbered k (e ∷ es) = ap (λ xs. e ∷ xs) (entries_numbered (suc k) es)

entries_marked : (ms : Marked) → entries_in (all_of ms) ≡ in_order (segment_of ms)
entries_marked [] = refl
entries_marked (m ∷ ms) = ap (λ xs. m.1.entry ∷ xs) (entries_marked ms)

entries_append : (xs ys : List Made) → entries_in (xs ++ ys) ≡ entries_in xs ++ entries_in ys
entries_append [] ys = refl
entries_append (x ∷ xs) ys = ap (λ es. x.entry ∷ es) (entries_append xs ys)

entries_parts : (parts : List Marked) → entries_in (flat_map all_of parts) ≡ flat_map in_order (map segment_of parts)
entries_parts [] = refl
entries_parts (ms ∷ parts) =
    entries_append (all_of ms) (flat_map all_of parts)
    ∙ ap (λ es. es ++ entries_in (flat_map all_of parts)) (entries_marked ms)
    ∙ ap (λ es. in_order (segment_of ms) ++ es) (entries_parts parts)

pub since_is : (k : ℕ) (since : List Entry) (receipts : List Made) (parts : List Marked) → receipts ≡ numbered k since
    → receipts ≡ flat_map all_of parts
    → since ≡ flat_map in_order (map segment_of parts)
since_is k since receipts parts told are =
    sym (entries_numbered k since) ∙ ap entries_in (sym told ∙ are) ∙ entries_parts parts
