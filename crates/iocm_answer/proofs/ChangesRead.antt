-- The change trees of change decks, deck by deck.
use Rattle.std.proofs.Common.{◌≡◌, ◌⊎◌, ℕ, ◌+◌, ◌<◌, ◌≤◌, List, [], ◌∷◌, ◌++◌, length, drop, map, get_or, inl, inr}
use Rattle.std.proofs.Common.{Result, Ok, Err, sym, ap, subst, ◌∙◌}
use Rattle.std.proofs.Math.ListN.{get_or-map}
use Rattle.std.proofs.lemmas.List.{length-map}
use Rattle.iocm_types.specs.declared.fault.Fault.{Fault}
use Rattle.iocm_types.specs.Each.{each, after_front}
use Rattle.iocm_types.specs.Fault.{Fails}
use Rattle.iocm_types.proofs.Each.{each_done, each_fails, each_goes_on}
use Rattle.iocm_tree.specs.Trees.{CarriedTree}
use Rattle.iocm_tree_writer.specs.Again.{tree_in}
use Rattle.iocm_console.specs.declared.refusal.Refusal.{Refusal}
use Rattle.iocm_console.specs.Refusal.{Decides, no_memory, of_fault, or_refused}
use Rattle.iocm_answer.specs.Change.{trees_in}

module _ {V : Type 0} (items : V → List ℕ) (xs : List V) where
  -- these trees were read, and the decks from a place on are left
  abbrev pub AreReadTo : List CarriedTree → ℕ → Type 0
  AreReadTo ts i =
      after_front ts (each (λ place change. tree_in change) i (drop i (map items xs))) ≡ trees_in (map items xs)

  within : (i : ℕ) → i < length xs → i < length (map items xs)
  within i below = rw (length-map xs items) below

  item : (i : ℕ) (x : V) → x ≡ get_or xs i x → items x ≡ get_or (map items xs) i (items x)
  item i x is = ap items is ∙ sym (get_or-map items xs i x)

  -- one deck more
  pub one_more : (i : ℕ) (x : V) (ts : List CarriedTree) (t : CarriedTree) → i < length xs → x ≡ get_or xs i x
      → AreReadTo ts i → tree_in (items x) ≡ Ok t → AreReadTo (ts ++ t ∷ []) (i + 1)
  one_more i x ts t below is so read =
      sym (each_goes_on (λ place change. tree_in change) ts (map items xs) i (items x) t (within i below)
      (item i x is) read) ∙ so

  -- all were read
  pub all_read : (i : ℕ) (ts : List CarriedTree) → length xs ≤ i → AreReadTo ts i
      → or_refused (trees_in (map items xs)) ≡ Ok ts
  all_read i ts past so = ap or_refused (sym so
      ∙ each_done (λ place change. tree_in change) ts (map items xs) i (rw (length-map xs items) past))

  -- the first that has a fault refuses all, or memory is missing for it
  pub refuses_at : (i : ℕ) (x : V) (ts : List CarriedTree) (fault : Fault) → i < length xs → x ≡ get_or xs i x
      → AreReadTo ts i → Fails fault (tree_in (items x))
      → (of_fault fault ≡ no_memory) ⊎ (or_refused (trees_in (map items xs)) ≡ Err (of_fault fault))
  refuses_at i x ts fault below is so (inl none) = inl (ap of_fault none)
  refuses_at i x ts fault below is so (inr read) = inr (ap or_refused (sym so
      ∙ each_fails (λ place change. tree_in change) ts (map items xs) i (items x) fault (within i below)
      (item i x is) read))

-- a refusal that is due
pub decides_err : {X Y : Type 0} (view : X → Y) (r : Result X Refusal) (due : Result Y Refusal) (why : Refusal)
    → r ≡ Err why → (why ≡ no_memory) ⊎ (due ≡ Err why) → Decides view r due
decides_err view (Ok x) due why is said = cc
decides_err view (Err e) due why is said =
    let same : e ≡ why = cc in subst (λ w. (w ≡ no_memory) ⊎ (due ≡ Err w)) (sym same) said
