-- The lines of one actor take the answers in the order of the trace.
use Rattle.std.proofs.Common.{◌≡◌, ℕ, zero, suc, List, [], ◌∷◌, ◌++◌, length, refl, sym, ap, ◌∙◌, arith}
use Rattle.std.specs.Prelude.{map}
use Rattle.std.specs.List.{flat_map}
use Rattle.std.proofs.lemmas.List.{length-map, map-append}
use Rattle.iocm_core.specs.Calls.{call_in}
use Rattle.iocm_core.specs.declared.trace.Entry.{Entry}
use Rattle.iocm_model.specs.Change.Tree.{ChangeTree}
use Rattle.iocm_script.specs.declared.line.Line.{Line}
use Rattle.iocm_script.specs.declared.said.ImageThread.TheVariants as images
use Rattle.iocm_script.specs.declared.said.OperatorThread.TheVariants as operators
use Rattle.iocm_script.specs.declared.said.Said.{Said}
use Rattle.iocm_script.specs.declared.said.Said.TheVariants.{Image, Operator}
use Rattle.iocm_types.specs.declared.answer.Answer.{Answer}
use Rattle.iocm_operation.specs.declared.answered.Answered.{Answered}
use Rattle.iocm_operation.specs.Marks.{chosen}
use Rattle.iocm_operation.specs.Saying.{actor_of, call_said}
use Rattle.iocm_operation.specs.Segments.{AreRun, IsRoundRun, Segment, answers_by, answers_in, answers_of, entries_of}
use Rattle.iocm_operation.specs.Segments.{in_order, taking}
use Rattle.iocm_operation.specs.OneActor.{AreOfOne, IsOfOne}
use Rattle.iocm_operation.proofs.OneOrder.{all_of_one, no_lines, nothing_made, one_round}

-- lines take answers, one after the other
abbrev placed : List Line → List Answer → List Answered
placed [] xs = []
placed (l ∷ ls) xs = taking l.line xs (λ rest. placed ls rest)

-- what the lines from one of this actor on are given
abbrev given_from : ℕ → Line → List Line → List Answer → List Answer → List Answer → List Answer → List Answered
given_from n l ls p q a b = chosen n
    (taking l.line p (λ rest. answers_by ls rest q a b)) (taking l.line q (λ rest. answers_by ls p rest a b))
    (taking l.line a (λ rest. answers_by ls p q rest b)) (taking l.line b (λ rest. answers_by ls p q a rest))

by_p : (ls : List Line) (p q a b : List Answer) → IsOfOne 0 ls → answers_by ls p q a b ≡ placed ls p
by_p [] p q a b of = refl
by_p (l ∷ ls) [] q a b of = ap (λ k. given_from k l ls [] q a b) of.0 ∙ by_p ls [] q a b of.1
by_p (l ∷ ls) (x ∷ p) q a b of =
    ap (λ k. given_from k l ls (x ∷ p) q a b) of.0
    ∙ ap (λ ys. record { line = l.line; answer = x } ∷ ys) (by_p ls p q a b of.1)

by_q : (ls : List Line) (p q a b : List Answer) → IsOfOne 1 ls → answers_by ls p q a b ≡ placed ls q
by_q [] p q a b of = refl
by_q (l ∷ ls) p [] a b of = ap (λ k. given_from k l ls p [] a b) of.0 ∙ by_q ls p [] a b of.1
by_q (l ∷ ls) p (x ∷ q) a b of =
    ap (λ k. given_from k l ls p (x ∷ q) a b) of.0
    ∙ ap (λ ys. record { line = l.line; answer = x } ∷ ys) (by_q ls p q a b of.1)

by_a : (ls : List Line) (p q a b : List Answer) → IsOfOne 2 ls → answers_by ls p q a b ≡ placed ls a
by_a [] p q a b of = refl
by_a (l ∷ ls) p q [] b of = ap (λ k. given_from k l ls p q [] b) of.0 ∙ by_a ls p q [] b of.1
by_a (l ∷ ls) p q (x ∷ a) b of =
    ap (λ k. given_from k l ls p q (x ∷ a) b) of.0
    ∙ ap (λ ys. record { line = l.line; answer = x } ∷ ys) (by_a ls p q a b of.1)

by_b : (ls : List Line) (p q a b : List Answer) → IsOfOne 3 ls → answers_by ls p q a b ≡ placed ls b
by_b [] p q a b of = refl
by_b (l ∷ ls) p q a [] of = ap (λ k. given_from k l ls p q a []) of.0 ∙ by_b ls p q a [] of.1
by_b (l ∷ ls) p q a (x ∷ b) of =
    ap (λ k. given_from k l ls p q a (x ∷ b)) of.0
    ∙ ap (λ ys. record { line = l.line; answer = x } ∷ ys) (by_b ls p q a b of.1)

no_fifth : (said : Said) (k : ℕ) → actor_of said ≡ suc (suc (suc (suc k))) → ⊥
no_fifth (Operator operators.P c) k e = omega (arith, e)
no_fifth (Operator operators.Q c) k e = omega (arith, e)
no_fifth (Image images.A c) k e = omega (arith, e)
no_fifth (Image images.B c) k e = omega (arith, e)

abbrev pub replies_of : List Entry → List Answer
replies_of es = map (λ (e : Entry). e.answer) es

-- the answers of a part of the trace go to the lines, one after the other
round_placed : (n : ℕ) (ls : List Line) (s : Segment) → IsOfOne n ls → entries_of n s ≡ in_order s
    → answers_by ls (answers_in 0 s) (answers_in 1 s) (answers_in 2 s) (answers_in 3 s)
    ≡ placed ls (replies_of (in_order s))
round_placed zero ls s of all =
    by_p ls (answers_in 0 s) (answers_in 1 s) (answers_in 2 s) (answers_in 3 s) of
    ∙ ap (λ es. placed ls (replies_of es)) all
round_placed (suc zero) ls s of all =
    by_q ls (answers_in 0 s) (answers_in 1 s) (answers_in 2 s) (answers_in 3 s) of
    ∙ ap (λ es. placed ls (replies_of es)) all
round_placed (suc (suc zero)) ls s of all =
    by_a ls (answers_in 0 s) (answers_in 1 s) (answers_in 2 s) (answers_in 3 s) of
    ∙ ap (λ es. placed ls (replies_of es)) all
round_placed (suc (suc (suc zero))) ls s of all =
    by_b ls (answers_in 0 s) (answers_in 1 s) (answers_in 2 s) (answers_in 3 s) of
    ∙ ap (λ es. placed ls (replies_of es)) all
round_placed (suc (suc (suc (suc k)))) [] s of all = refl
round_placed (suc (suc (suc (suc k)))) (l ∷ ls) s of all = absurd (no_fifth l.said k of.0)

-- lists of one length in front of others
split : {A : Type 0} (xs ys us vs : List A) → length xs ≡ length ys → xs ++ us ≡ ys ++ vs → (xs ≡ ys) × (us ≡ vs)
split [] [] us vs long e = (refl, e)
split [] (y ∷ ys) us vs long e = absurd (omega (arith, long))
split (x ∷ xs) [] us vs long e = absurd (omega (arith, long))
split (x ∷ xs) (y ∷ ys) us vs long e =
    let head : x ≡ y = cc in
    let tail : xs ++ us ≡ ys ++ vs = cc in
    let rest = split xs ys us vs (omega (arith, long)) tail in
    (ap (λ z. z ∷ xs) head ∙ ap (λ zs. y ∷ zs) rest.0, rest.1)

module _ (ts : List ChangeTree) (ls : List Line) (s : Segment) (n : ℕ) (of : IsOfOne n ls)
    (run : IsRoundRun ts ls s) where
  all_are : entries_of n s ≡ in_order s
  all_are = all_of_one n s
      (λ k other. nothing_made (λ (e : Entry). call_in e.call) (entries_of k s)
      (run k ∙ ap (map (λ (l : Line). call_said ts l.said)) (no_lines n k ls other of)))

  round_given : answers_by ls (answers_in 0 s) (answers_in 1 s) (answers_in 2 s) (answers_in 3 s)
      ≡ placed ls (replies_of (in_order s))
  round_given = round_placed n ls s of all_are

  as_long : length (replies_of (in_order s)) ≡ length ls
  as_long = length-map (in_order s) (λ (e : Entry). e.answer)
      ∙ sym (length-map (in_order s) (λ (e : Entry). call_in e.call)) ∙ ap length (one_round ts ls s n of run)
      ∙ length-map ls (λ (l : Line). call_said ts l.said)

pub same_answers : (ts : List ChangeTree) (rounds : List (List Line)) (ss us : List Segment) → AreOfOne rounds
    → AreRun ts rounds ss → AreRun ts rounds us
    → replies_of (flat_map in_order ss) ≡ replies_of (flat_map in_order us)
    → answers_of rounds ss ≡ answers_of rounds us
same_answers ts [] [] [] ones run also e = refl
same_answers ts [] [] (u ∷ us) ones run also e = absurd also
same_answers ts [] (s ∷ ss) us ones run also e = absurd run
same_answers ts (ls ∷ rounds) [] us ones run also e = absurd run
same_answers ts (ls ∷ rounds) (s ∷ ss) [] ones run also e = absurd also
same_answers ts (ls ∷ rounds) (s ∷ ss) (u ∷ us) ones run also e =
    let n = ones.0.0 in
    let both : replies_of (in_order s) ++ replies_of (flat_map in_order ss) ≡ replies_of (in_order u)
    ++ replies_of (flat_map in_order us) =
    sym (map-append (λ (x : Entry). x.answer) (in_order s) (flat_map in_order ss)) ∙ e
    ∙ map-append (λ (x : Entry). x.answer) (in_order u) (flat_map in_order us) in
    let parts = split (replies_of (in_order s)) (replies_of (in_order u)) (replies_of (flat_map in_order ss))
    (replies_of (flat_map in_order us))
    (as_long ts ls s n ones.0.1 run.0 ∙ sym (as_long ts ls u n ones.0.1 also.0)) both in
    let first = round_given ts ls s n ones.0.1 run.0 ∙ ap (placed ls) parts.0
    ∙ sym (round_given ts ls u n ones.0.1 also.0) in
    ap (λ ys. ys ++ answers_of rounds ss) first
    ∙ ap (λ ys. answers_by ls (answers_in 0 u) (answers_in 1 u) (answers_in 2 u) (answers_in 3 u) ++ ys)
    (same_answers ts rounds ss us ones.1 run.1 also.1 parts.1)
