-- What the worker has taken and counted, after it took more.
use Rattle.std.proofs.Common.{◌≡◌, ◌<◌, ◌+◌, ◌==◌, ◌||◌, ℕ, zero, suc, Bool, true, false, cond, List, [], ◌∷◌, ◌++◌}
use Rattle.std.proofs.Common.{length, get_or, set, refl, sym, ap, ◌∙◌, subst, arith}
use Rattle.crossbeam_channel.specs.declared.flavors.array.ruled.Receiving.{Receiving}
use Rattle.crossbeam_channel.specs.declared.flavors.array.ruled.Sending as ends
use Rattle.crossbeam_channel.specs.Claims.{IsSeatAt, view}
use Rattle.crossbeam_channel.specs.Ends.{receives_on}
use Rattle.iocm_queue.specs.declared.message.Message.{Message}
use Rattle.iocm_queue.specs.declared.message.Message.TheVariants.{Line, End}
use Rattle.iocm_queue.specs.declared.part.Part.{Part}
use Rattle.iocm_queue.specs.Inside.{Token, IsWorker, Ring, progress_of}
use Rattle.iocm_queue.specs.Parts.{takes_more}
use Rattle.iocm_queue.specs.declared.worker.Progress.{Progress}
use Rattle.iocm_queue.specs.Taken.{is_over, lines_of, sender_of}

or_more : (a b c : Bool) → (a || (b || c)) ≡ ((a || b) || c)
or_more true b c = refl
or_more false b c = refl

or_none : (a : Bool) → (a || false) ≡ a
or_none true = refl
or_none false = refl

or_true : (a : Bool) → (a || true) ≡ true
or_true true = refl
or_true false = refl

-- before anything was taken
none : Progress
none = record { lines = 0; over = false }

module _ {T : Type 0} where
  more_of : (b : Bool) (x y : T) (xs ys : List T) (n : ℕ) → length ys ≡ length xs + n
      → length (cond b (y ∷ ys) ys) ≡ length (cond b (y ∷ xs) xs) + n
  more_of true x y xs ys n e = omega (arith, e)
  more_of false x y xs ys n e = e

  one_of : (b : Bool) (x : T) → length (cond b (x ∷ []) []) ≡ 0 + cond b 1 0
  one_of true x = omega arith
  one_of false x = omega arith

  -- a line counts for its operator alone
  counts_line : (p q : ℕ) (x : T) (ms : List (Message T))
      → length (lines_of p (ms ++ Line q x ∷ [])) ≡ length (lines_of p ms) + cond (q == p) 1 0
  counts_line p q x [] = one_of (q == p) x
  counts_line p q x (Line r y ∷ ms) =
      more_of (r == p) x y (lines_of p ms) (lines_of p (ms ++ Line q x ∷ [])) (cond (q == p) 1 0) (counts_line p q x ms)
  counts_line p q x (End r ∷ ms) = counts_line p q x ms

  counts_end : (p q : ℕ) (ms : List (Message T)) → lines_of p (ms ++ End q ∷ []) ≡ lines_of p ms
  counts_end p q [] = refl
  counts_end p q (Line r y ∷ ms) = ap (λ ys. cond (r == p) (y ∷ ys) ys) (counts_end p q ms)
  counts_end p q (End r ∷ ms) = counts_end p q ms

  over_line : (p q : ℕ) (x : T) (ms : List (Message T)) → is_over p (ms ++ Line q x ∷ []) ≡ is_over p ms
  over_line p q x [] = refl
  over_line p q x (Line r y ∷ ms) = over_line p q x ms
  over_line p q x (End r ∷ ms) = ap (λ b. (r == p) || b) (over_line p q x ms)

  over_end : (p q : ℕ) (ms : List (Message T)) → is_over p (ms ++ End q ∷ []) ≡ (is_over p ms || (q == p))
  over_end p q [] = or_none (q == p)
  over_end p q (Line r y ∷ ms) = over_end p q ms
  over_end p q (End r ∷ ms) = ap (λ b. (r == p) || b) (over_end p q ms) ∙ or_more (r == p) (is_over p ms) (q == p)

  -- how far the worker is with both operators
  both : List (Message T) → List Progress
  both ms = progress_of 0 ms ∷ progress_of 1 ms ∷ []

  -- with the one whose line it takes it is a line further, and nothing else is new; and it has
  -- taken the end mark of the one whose that is
  further : (p q : ℕ) (x : T) (ms : List (Message T)) (n : ℕ) → ◌≡◌ {A = ℕ} (cond (q == p) 1 0) n
      → record { lines = length (lines_of p ms) + n; over = is_over p ms } ≡ progress_of p (ms ++ Line q x ∷ [])
  further p q x ms n is =
      let many : length (lines_of p ms) + n ≡ length (lines_of p (ms ++ Line q x ∷ [])) =
      omega (arith, counts_line p q x ms, is) in
      λ i. record { lines = many i; over = sym (over_line p q x ms) i }

  other : (p q : ℕ) (x : T) (ms : List (Message T)) → ◌≡◌ {A = ℕ} (cond (q == p) 1 0) 0
      → progress_of p ms ≡ progress_of p (ms ++ Line q x ∷ [])
  other p q x ms is =
      let many : length (lines_of p ms) ≡ length (lines_of p (ms ++ Line q x ∷ [])) =
      omega (arith, counts_line p q x ms, is) in
      λ i. record { lines = many i; over = sym (over_line p q x ms) i }

  marked : (p q : ℕ) (ms : List (Message T)) (b : Bool) → (is_over p ms || (q == p)) ≡ b
      → record { lines = length (lines_of p ms); over = b } ≡ progress_of p (ms ++ End q ∷ [])
  marked p q ms b is = λ i.
      record { lines = length (sym (counts_end p q ms) i); over = (sym is ∙ sym (over_end p q ms)) i }

  lines_grow : (q : ℕ) (x : T) (ms : List (Message T)) → q < 2
      → set (both ms) q (record { lines = (get_or (both ms) q none).lines + 1; over = (get_or (both ms) q none).over })
      ≡ both (ms ++ Line q x ∷ [])
  unfolding both
  lines_grow zero x ms less = λ i. further 0 0 x ms 1 refl i ∷ other 1 0 x ms refl i ∷ []
  lines_grow (suc zero) x ms less = λ i. other 0 1 x ms refl i ∷ further 1 1 x ms 1 refl i ∷ []
  lines_grow (suc (suc q)) x ms less = absurd (omega arith)

  ends_grow : (q : ℕ) (ms : List (Message T)) → q < 2
      → set (both ms) q (record { lines = (get_or (both ms) q none).lines; over = true }) ≡ both (ms ++ End q ∷ [])
  unfolding both
  ends_grow zero ms less =
      λ i. marked 0 0 ms true (or_true (is_over 0 ms)) i ∷ marked 1 0 ms (is_over 1 ms) (or_none (is_over 1 ms)) i ∷ []
  ends_grow (suc zero) ms less =
      λ i. marked 0 1 ms (is_over 0 ms) (or_none (is_over 0 ms)) i ∷ marked 1 1 ms true (or_true (is_over 1 ms)) i ∷ []
  ends_grow (suc (suc q)) ms less = absurd (omega arith)

  -- the worker, after a line and after an end mark
  module _ {Q M L A B : Type 0} (s : ends.Sending (Ring T Q M L A) B) (r : Receiving (Ring T Q M L A) B)
      (p p' : Token T) (progress : List Progress)
      (is : IsWorker s r p progress) (at : IsSeatAt (receives_on r) p') where
    took : (m : Message T) (progress' : List Progress) → view p' ≡ takes_more (view p) m
        → progress' ≡ both ((view p).taken ++ m ∷ []) → IsWorker s r p' progress'
    unfolding both
    took m progress' now counted =
        record {
          sender = record {
            at = subst (λ (c : Ring T Q M L A). IsSeatAt c p') is.receiver at;
            places = is.sender.places;
          };
          receiver = is.receiver;
          takes = ap (λ (v : Part T). v.takes) now ∙ is.takes;
          operators = ap (λ (v : Part T). v.operators) now ∙ is.operators;
          counted = counted ∙ ap (λ (v : Part T). both v.taken) (sym now);
        }

    pub took_line : (k q : ℕ) (x : T) (m : Message T) → m ≡ Line q x → k ≡ q
        → (view p' ≡ takes_more (view p) m) × (sender_of m < (view p).operators)
        → IsWorker s r p' (set progress k
        (record {
          lines = (get_or progress k (record { lines = 0; over = false })).lines + 1;
          over = (get_or progress k (record { lines = 0; over = false })).over;
        }))
    unfolding both none
    took_line k q x m line number now =
        let less : q < 2 = subst (λ n. q < n) is.operators (subst (λ n. sender_of n < (view p).operators) line now.1) in
        let step : List Progress → ℕ → List Progress =
        λ ns n. set ns n (record { lines = (get_or ns n none).lines + 1; over = (get_or ns n none).over }) in
        subst (λ n. IsWorker s r p' (step progress n)) (sym number)
        (took (Line q x) _ (now.0 ∙ ap (takes_more (view p)) line)
        (ap (λ ns. step ns q) is.counted ∙ lines_grow q x (view p).taken less))

    pub took_end : (k q : ℕ) (m : Message T) → m ≡ End q → k ≡ q
        → (view p' ≡ takes_more (view p) m) × (sender_of m < (view p).operators)
        → IsWorker s r p' (set progress k
        (record { lines = (get_or progress k (record { lines = 0; over = false })).lines; over = true }))
    unfolding both none
    took_end k q m mark number now =
        let less : q < 2 = subst (λ n. q < n) is.operators (subst (λ n. sender_of n < (view p).operators) mark now.1) in
        let step : List Progress → ℕ → List Progress =
        λ ns n. set ns n (record { lines = (get_or ns n none).lines; over = true }) in
        subst (λ n. IsWorker s r p' (step progress n)) (sym number)
        (took (End q) _ (now.0 ∙ ap (takes_more (view p)) mark)
        (ap (λ ns. step ns q) is.counted ∙ ends_grow q (view p).taken less))
