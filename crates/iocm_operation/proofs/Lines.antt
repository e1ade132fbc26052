-- The entry at the place of each line is that of its call.
use Rattle.std.proofs.Common.{◌≡◌, ℕ, zero, suc, ◌+◌, ◌==◌, Bool, true, false, cond, ltb, Some, None, List, [], ◌∷◌}
use Rattle.std.proofs.Common.{◌++◌, length, refl, sym, ap, ◌∙◌, subst, arith}
use Rattle.std.specs.Prelude.{filter, map}
use Rattle.std.specs.List.{AllByRecursion, flat_map, slice_get, slice_index_or}
use Rattle.std.proofs.lemmas.Bool.{ltb-false, ltb-true}
use Rattle.std.proofs.lemmas.Option.{slice_get-get_or, slice_get_past}
use Rattle.std.proofs.lemmas.List.{append_assoc, length-append}
use Rattle.iocm_board.specs.Receipts.{numbered}
use Rattle.iocm_board.specs.declared.view.Made.{Made}
use Rattle.iocm_core.specs.declared.trace.Entry.{Entry}
use Rattle.iocm_script.specs.declared.line.Line.{Line}
use Rattle.iocm_types.specs.declared.answer.Answer.{Answer}
use Rattle.iocm_operation.specs.declared.answered.Answered.{Answered}
use Rattle.iocm_operation.specs.declared.placed.Placed.{Placed}
use Rattle.iocm_operation.specs.Answering.{AddsAnswer, answers_at, given}
use Rattle.iocm_operation.specs.Marks.{Marked, all_of, chosen, those_of}
use Rattle.iocm_operation.specs.Placing.{numbers_of, places_by, places_of, taking_place}
use Rattle.iocm_operation.specs.Saying.{actor_of}
use Rattle.iocm_operation.specs.Segments.{answers_by, answers_in, answers_of, taking}
use Rattle.iocm_operation.specs.SoFar.{segment_of}
use Rattle.iocm_operation.proofs.Segments.{entries_in, of_one}

abbrev places : List Made → List ℕ
places ms = map (λ (m : Made). m.number) ms

abbrev replies : List Made → List Answer
replies ms = map (λ (m : Made). m.entry.answer) ms

at_seam : (front : List Entry) (e : Entry) (behind : List Entry)
    → slice_get (front ++ e ∷ behind) (length front) ≡ Some e
at_seam [] e behind = refl
at_seam (x ∷ front) e behind = at_seam front e behind

replies_in : (ms : List Made) → map (λ (e : Entry). e.answer) (entries_in ms) ≡ replies ms
replies_in [] = refl
replies_in (m ∷ ms) = ap (λ xs. m.entry.answer ∷ xs) (replies_in ms)

replies_of_one : (n : ℕ) (ms : Marked) → replies (those_of n ms) ≡ answers_in n (segment_of ms)
replies_of_one n ms = sym (ap (map (λ (e : Entry). e.answer)) (of_one n ms) ∙ replies_in (those_of n ms))

module _ (es : List Entry) where
  -- the entries of receipts stand at their places
  abbrev pub AllThere : List Made → Type 0
  AllThere ms = AllByRecursion (λ (m : Made). slice_get es m.number ≡ Some m.entry) ms

  pub numbered_there : (front since : List Entry) → es ≡ front ++ since → AllThere (numbered (length front) since)
  numbered_there front [] is = tt
  numbered_there front (e ∷ since) is =
      let longer : length (front ++ e ∷ []) ≡ suc (length front) = omega (arith, length-append front (e ∷ [])) in (
        ap (λ xs. slice_get xs (length front)) is ∙ at_seam front e since,
        subst (λ k. AllThere (numbered k since)) longer
            (numbered_there (front ++ e ∷ []) since (is ∙ sym (append_assoc front (e ∷ []) since))),
      )

  first_there : (xs ys : List Made) → AllThere (xs ++ ys) → AllThere xs
  first_there [] ys there = tt
  first_there (x ∷ xs) ys there = (there.0, first_there xs ys there.1)

  rest_there : (xs ys : List Made) → AllThere (xs ++ ys) → AllThere ys
  rest_there [] ys there = there
  rest_there (x ∷ xs) ys there = rest_there xs ys there.1

  those_there : (n : ℕ) (ms : Marked) → AllThere (all_of ms) → AllThere (those_of n ms)
  those_there n [] there = tt
  those_there n (m ∷ ms) there = by (m.0 == n) (those_there n ms there.1)
    where
      by : (b : Bool) → AllThere (those_of n ms)
          → AllThere (all_of (cond b (m ∷ filter (λ (k : ℕ × Made). k.0 == n) ms)
          (filter (λ (k : ℕ × Made). k.0 == n) ms)))
      by true rest = (there.0, rest)
      by false rest = rest

  taken : (line : ℕ) (xs : List Made) → AllThere xs
      → (behind : List ℕ → List Placed) (after : List Answer → List Answered)
      → ((ys : List Made) → AllThere ys → answers_at es (behind (places ys)) ≡ after (replies ys))
      → answers_at es (taking_place line (places xs) behind) ≡ taking line (replies xs) after
  taken line [] there behind after same = same [] tt
  taken line (x ∷ xs) there behind after same =
      ap (λ o. given line o ++ answers_at es (behind (places xs))) there.0
      ∙ ap (λ ys. record { line = line; answer = x.entry.answer } ∷ ys) (same xs there.1)

  answers_there : (ls : List Line) (p q a b : List Made) → AllThere p → AllThere q → AllThere a → AllThere b
      → answers_at es (places_by ls (places p) (places q) (places a) (places b))
      ≡ answers_by ls (replies p) (replies q) (replies a) (replies b)
  answers_there [] p q a b tp tq ta tb = refl
  answers_there (l ∷ ls) p q a b tp tq ta tb = by (answers_there ls) (actor_of l.said)
    where
      by : ((p q a b : List Made) → AllThere p → AllThere q → AllThere a → AllThere b
          → answers_at es (places_by ls (places p) (places q) (places a) (places b))
          ≡ answers_by ls (replies p) (replies q) (replies a) (replies b))
          → (n : ℕ) → answers_at es (chosen n
          (taking_place l.line (places p) (λ rest. places_by ls rest (places q) (places a) (places b)))
          (taking_place l.line (places q) (λ rest. places_by ls (places p) rest (places a) (places b)))
          (taking_place l.line (places a) (λ rest. places_by ls (places p) (places q) rest (places b)))
          (taking_place l.line (places b) (λ rest. places_by ls (places p) (places q) (places a) rest)))
          ≡ chosen n (taking l.line (replies p) (λ rest. answers_by ls rest (replies q) (replies a) (replies b)))
          (taking l.line (replies q) (λ rest. answers_by ls (replies p) rest (replies a) (replies b)))
          (taking l.line (replies a) (λ rest. answers_by ls (replies p) (replies q) rest (replies b)))
          (taking l.line (replies b) (λ rest. answers_by ls (replies p) (replies q) (replies a) rest))
      by again zero = taken l.line p tp (λ rest. places_by ls rest (places q) (places a) (places b))
          (λ rest. answers_by ls rest (replies q) (replies a) (replies b)) (λ ys there. again ys q a b there tq ta tb)
      by again (suc zero) = taken l.line q tq (λ rest. places_by ls (places p) rest (places a) (places b))
          (λ rest. answers_by ls (replies p) rest (replies a) (replies b)) (λ ys there. again p ys a b tp there ta tb)
      by again (suc (suc zero)) = taken l.line a ta (λ rest. places_by ls (places p) (places q) rest (places b))
          (λ rest. answers_by ls (replies p) (replies q) rest (replies b)) (λ ys there. again p q ys b tp tq there tb)
      by again (suc (suc (suc n))) = taken l.line b tb (λ rest. places_by ls (places p) (places q) (places a) rest)
          (λ rest. answers_by ls (replies p) (replies q) (replies a) rest) (λ ys there. again p q a ys tp tq ta there)

  answers_append : (ks ls : List Placed) → answers_at es (ks ++ ls) ≡ answers_at es ks ++ answers_at es ls
  answers_append [] ls = refl
  answers_append (k ∷ ks) ls =
      ap (λ xs. given k.line (slice_get es k.number) ++ xs) (answers_append ks ls)
      ∙ sym (append_assoc (given k.line (slice_get es k.number)) (answers_at es ks) (answers_at es ls))

  round_there : (ls : List Line) (ms : Marked) → AllThere (all_of ms)
      → answers_at es (places_by ls (numbers_of 0 ms) (numbers_of 1 ms) (numbers_of 2 ms) (numbers_of 3 ms))
      ≡ answers_by ls (answers_in 0 (segment_of ms)) (answers_in 1 (segment_of ms)) (answers_in 2 (segment_of ms))
      (answers_in 3 (segment_of ms))
  round_there ls ms there =
      let s = segment_of ms in
      answers_there ls (those_of 0 ms) (those_of 1 ms) (those_of 2 ms) (those_of 3 ms)
      (those_there 0 ms there) (those_there 1 ms there) (those_there 2 ms there) (those_there 3 ms there)
      ∙ ap (λ xs. answers_by ls xs (replies (those_of 1 ms)) (replies (those_of 2 ms)) (replies (those_of 3 ms)))
      (replies_of_one 0 ms)
      ∙ ap (λ xs. answers_by ls (answers_in 0 s) xs (replies (those_of 2 ms)) (replies (those_of 3 ms)))
      (replies_of_one 1 ms)
      ∙ ap (λ xs. answers_by ls (answers_in 0 s) (answers_in 1 s) xs (replies (those_of 3 ms))) (replies_of_one 2 ms)
      ∙ ap (λ xs. answers_by ls (answers_in 0 s) (answers_in 1 s) (answers_in 2 s) xs) (replies_of_one 3 ms)

  -- so the answers there are those of the rounds
  pub answers_of_all : (rounds : List (List Line)) (parts : List Marked) → AllThere (flat_map all_of parts)
      → answers_at es (places_of rounds parts) ≡ answers_of rounds (map segment_of parts)
  answers_of_all [] [] there = refl
  answers_of_all [] (ms ∷ parts) there = refl
  answers_of_all (ls ∷ rounds) [] there = refl
  answers_of_all (ls ∷ rounds) (ms ∷ parts) there =
      let s = segment_of ms in
      answers_append (places_by ls (numbers_of 0 ms) (numbers_of 1 ms) (numbers_of 2 ms) (numbers_of 3 ms))
      (places_of rounds parts)
      ∙ ap (λ xs. xs ++ answers_at es (places_of rounds parts))
      (round_there ls ms (first_there (all_of ms) (flat_map all_of parts) there))
      ∙ ap (λ xs. answers_by ls (answers_in 0 s) (answers_in 1 s) (answers_in 2 s) (answers_in 3 s) ++ xs)
      (answers_of_all rounds parts (rest_there (all_of ms) (flat_map all_of parts) there))

-- the entry at a place, if there is one
pub entry_there : (es : List Entry) (i : ℕ) (e : Entry) → true ≡ ltb i (length es) → e ≡ slice_index_or es i e
    → slice_get es i ≡ Some e
entry_there es i e less is = slice_get-get_or es i e (ltb-true i (length es) (sym less)) ∙ ap Some (sym is)

pub no_entry_there : (es : List Entry) (i : ℕ) → false ≡ ltb i (length es) → slice_get es i ≡ None
no_entry_there es i not_less = slice_get_past es i (ltb-false i (length es) (sym not_less))

-- the answer of the entry at a line's place is one more, and where there is no entry there is none
pub adds_answer : (es : List Entry) (k : Placed) (e : Entry) (old new : List Answered) → slice_get es k.number ≡ Some e
    → new ≡ old ++ record { line = k.line; answer = e.answer } ∷ [] → AddsAnswer es k old new
adds_answer es k e old new there is rest =
    ap (λ o. old ++ (given k.line o ++ answers_at es rest)) there
    ∙ sym (append_assoc old (record { line = k.line; answer = e.answer } ∷ []) (answers_at es rest))
    ∙ ap (λ xs. xs ++ answers_at es rest) (sym is)

pub adds_none : (es : List Entry) (k : Placed) (old : List Answered) → slice_get es k.number ≡ None
    → AddsAnswer es k old old
adds_none es k old none rest = ap (λ o. old ++ (given k.line o ++ answers_at es rest)) none
