-- Once an operator's end mark was taken, its lines were.
use Rattle.std.proofs.Common.{◌≡◌, ◌==◌, ◌||◌, ℕ, Bool, true, false, true≢false, cond, List, [], ◌∷◌, ◌++◌, length}
use Rattle.std.proofs.Common.{refl, sym, ap, ◌∙◌, subst, arith}
use Rattle.crossbeam_channel.specs.Claims.{view}
use Rattle.iocm_queue.specs.declared.message.Message.{Message}
use Rattle.iocm_queue.specs.declared.message.Message.TheVariants.{Line, End}
use Rattle.iocm_queue.specs.declared.part.Part.{Part}
use Rattle.iocm_queue.specs.Ends.{Sending, Taking, as_lines}
use Rattle.iocm_queue.specs.Inside.{Token, Speaks, all_lines, sending_of, taking_of}
use Rattle.iocm_queue.specs.Parts.{compares}
use Rattle.iocm_queue.specs.Taken.{is_over, lines_of, of}

module _ {T : Type 0} where
  begins_with_line : List (Message T) → Bool
  begins_with_line [] = false
  begins_with_line (Line p x ∷ ms) = true
  begins_with_line (End p ∷ ms) = false

  first_line : T → List (Message T) → T
  first_line y [] = y
  first_line y (Line p x ∷ ms) = x
  first_line y (End p ∷ ms) = y

  behind : List (Message T) → List (Message T)
  behind [] = []
  behind (m ∷ ms) = ms

  one_more : (m : Message T) (ms : List (Message T)) → m ∷ ms ≡ [] → ⊥
  one_more m ms e = let h = ap length e in omega arith

  -- where nothing was sent, no line was taken
  no_line : (t : Bool) (p : ℕ) (m : Message T) (x : T) (ms rest : List (Message T))
      → (of p ms ++ rest ≡ [] → lines_of p ms ≡ []) → cond t (m ∷ of p ms) (of p ms) ++ rest ≡ []
      → cond t (x ∷ lines_of p ms) (lines_of p ms) ≡ []
  no_line true p m x ms rest again e = absurd (one_more m (of p ms ++ rest) e)
  no_line false p m x ms rest again e = again e

  no_end : (t : Bool) (p : ℕ) (m : Message T) (ms rest : List (Message T)) → (of p ms ++ rest ≡ [] → lines_of p ms ≡ [])
      → cond t (m ∷ of p ms) (of p ms) ++ rest ≡ [] → lines_of p ms ≡ []
  no_end true p m ms rest again e = absurd (one_more m (of p ms ++ rest) e)
  no_end false p m ms rest again e = again e

  no_lines : (p : ℕ) (ms rest : List (Message T)) → of p ms ++ rest ≡ [] → lines_of p ms ≡ []
  no_lines p [] rest e = refl
  no_lines p (Line q x ∷ ms) rest e = no_line (q == p) p (Line q x) x ms rest (no_lines p ms rest) e
  no_lines p (End q ∷ ms) rest e = no_end (q == p) p (End q) ms rest (no_lines p ms rest) e

  -- a line that was taken is the next that was sent, or is another operator's
  line_settles : (t : Bool) (p q : ℕ) (x : T) (ms rest : List (Message T)) (xs : List T)
      → ((ys : List T) → of p ms ++ rest ≡ as_lines p ys ++ End p ∷ [] → lines_of p ms ≡ ys)
      → cond t (Line q x ∷ of p ms) (of p ms) ++ rest ≡ as_lines p xs ++ End p ∷ []
      → cond t (x ∷ lines_of p ms) (lines_of p ms) ≡ xs
  unfolding begins_with_line first_line behind
  line_settles true p q x ms rest [] again e = absurd (true≢false (ap begins_with_line e))
  line_settles true p q x ms rest (y ∷ ys) again e = λ i. ap (first_line x) e i ∷ again ys (ap behind e) i
  line_settles false p q x ms rest xs again e = again xs e

  -- an end mark that was taken is behind all lines, or is another operator's
  end_settles : (t : Bool) (p q : ℕ) (ms rest : List (Message T)) (xs : List T)
      → ((ys : List T) → of p ms ++ rest ≡ as_lines p ys ++ End p ∷ [] → is_over p ms ≡ true → lines_of p ms ≡ ys)
      → cond t (End q ∷ of p ms) (of p ms) ++ rest ≡ as_lines p xs ++ End p ∷ []
      → (t || is_over p ms) ≡ true → lines_of p ms ≡ xs
  unfolding begins_with_line behind
  end_settles true p q ms rest [] again e over = no_lines p ms rest (ap behind e)
  end_settles true p q ms rest (y ∷ ys) again e over = absurd (true≢false (sym (ap begins_with_line e)))
  end_settles false p q ms rest xs again e over = again xs e over

  -- where an operator sent lines and its end mark, and that mark was taken, what was taken of it is
  -- its lines
  pub settled : (p : ℕ) (taken rest : List (Message T)) (xs : List T) → of p taken ++ rest ≡ as_lines p xs ++ End p ∷ []
      → is_over p taken ≡ true → lines_of p taken ≡ xs
  settled p [] rest xs e over = absurd (true≢false (sym over))
  settled p (Line q x ∷ ms) rest xs e over =
      line_settles (q == p) p q x ms rest xs (λ ys f. settled p ms rest ys f over) e
  settled p (End q ∷ ms) rest xs e over =
      end_settles (q == p) p q ms rest xs (λ ys f o. settled p ms rest ys f o) e over

  -- the same of the passes: p is the worker's, d the operator's, and q the worker's once it took in
  -- the operator's
  pub settles : (p d q : Token T) (n : ℕ) (t : Taking T) (s : Sending T) → taking_of p ≡ t → sending_of n d ≡ s
      → Speaks n (as_lines n (all_lines (view d).sent) ++ End n ∷ []) (view d) → view q ≡ compares (view p) (view d)
      → (items : List (Message T)) × (of (view q).by (view q).taken ++ of (view q).by items ≡ (view q).sent)
      → is_over s.number t.taken ≡ true → lines_of s.number t.taken ≡ s.sent
  settles p d q n t s worker operator speaks is told over =
      let Told : Part T → Type 0 = λ v. (items : List (Message T)) × (of v.by v.taken ++ of v.by items ≡ v.sent) in
      let both : Told (compares (view p) (view d)) = subst Told is told in
      let mine : of n (view p).taken ++ of n both.0 ≡ as_lines n (all_lines (view d).sent) ++ End n ∷ [] =
      ap (λ k. of k (view p).taken ++ of k both.0) (sym speaks.by) ∙ both.1 ∙ speaks.sent_are in
      subst (λ (u : Taking T × Sending T). is_over u.1.number u.0.taken ≡ true
      → lines_of u.1.number u.0.taken ≡ u.1.sent) (λ i. (worker i, operator i))
      (λ o. settled n (view p).taken (of n both.0) (all_lines (view d).sent) mine o) over
