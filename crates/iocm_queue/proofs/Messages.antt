-- The messages of one operator, among those of all.
use Rattle.std.proofs.Common.{◌≡◌, ◌≢◌, ◌==◌, ℕ, true, false, cond, List, [], ◌∷◌, ◌++◌, length, refl, sym, ap, ◌∙◌}
use Rattle.std.proofs.Common.{arith, ne_eqb, eq-eqb}
use Rattle.std.proofs.lemmas.List.{append-nil, length-append}
use Rattle.std.proofs.lemmas.List.Elements.{filter-append}
use Rattle.iocm_queue.specs.declared.message.Message.{Message}
use Rattle.iocm_queue.specs.Taken.{of, sender_of}

pub same_number : (p : ℕ) → (p == p) ≡ true
same_number p = eq-eqb p p refl

pub other_number : (p q : ℕ) → p ≢ q → (p == q) ≡ false
other_number p q ne = ne_eqb p q ne

module _ {T : Type 0} where
  pub of_append : (p : ℕ) (xs ys : List (Message T)) → of p (xs ++ ys) ≡ of p xs ++ of p ys
  of_append p xs ys = filter-append (λ m. sender_of m == p) xs ys

  -- a message of the operator, and one of another
  pub of_own : (p : ℕ) (ms : List (Message T)) (m : Message T) → sender_of m ≡ p
      → of p (ms ++ m ∷ []) ≡ of p ms ++ m ∷ []
  of_own p ms m e = of_append p ms (m ∷ []) ∙ ap (λ b. of p ms ++ cond b (m ∷ []) []) (eq-eqb (sender_of m) p e)

  pub of_other : (p : ℕ) (ms : List (Message T)) (m : Message T) → sender_of m ≢ p → of p (ms ++ m ∷ []) ≡ of p ms
  of_other p ms m ne = of_append p ms (m ∷ []) ∙ ap (λ b. of p ms ++ cond b (m ∷ []) []) (ne_eqb (sender_of m) p ne)
      ∙ append-nil (of p ms)

  -- an operator of whom there is no message has not sent one
  pub of_none : (ms items : List (Message T)) (m : Message T) → of (sender_of m) (ms ++ m ∷ items) ≡ [] → ⊥
  of_none ms items m e =
      let p = sender_of m in
      let there : of p ms ++ m ∷ of p items ≡ [] =
      ap (λ b. of p ms ++ cond b (m ∷ of p items) (of p items)) (sym (same_number p))
      ∙ sym (of_append p ms (m ∷ items)) ∙ e in
      let many = ap length there in
      omega (arith, length-append (of p ms) (m ∷ of p items))
