-- Walks: the rows of the slots in a range of keys are the rows in that range.
use Rattle.std.proofs.Common.{◌≡◌, ◌<◌, ◌^◌, Bool, true, false, ◌&&◌, cond, List, [], ◌∷◌, Option, None, Some, filter}
use Rattle.std.proofs.Common.{length, refl, sym, ap, ◌∙◌, arith}
use Rattle.iocm_table.specs.Slots.{present, listed_first}
use Rattle.iocm_table.proofs.Writing.{present_short}

-- a test that every slot passes
pub filter_true : {E : Type 0} (es : List E) → filter (λ e. true) es ≡ es
filter_true [] = refl
filter_true (e ∷ es) = ap (λ rest. e ∷ rest) (filter_true es)

module _ {K X : Type 0} (p : K → Bool) where
  abbrev passes_slot : K × Option X → Bool
  passes_slot e = p e.0

  abbrev passes_row : K × X → Bool
  passes_row e = p e.0

  filter_at : (key : K) (row : Option X) (b : Bool) → p key ≡ b → (more : List (K × Option X)) (es : List (K × X))
      → present more ≡ filter passes_row es
      → present (cond b ((key, row) ∷ more) more) ≡ filter passes_row (listed_first key row es)
  filter_at key None true is more es same = same
  filter_at key None false is more es same = same
  filter_at key (Some row) true is more es same =
      ap (λ rs. (key, row) ∷ rs) same
      ∙ ap (λ c. cond c ((key, row) ∷ filter passes_row es) (filter passes_row es)) (sym is)
  filter_at key (Some row) false is more es same =
      same ∙ ap (λ c. cond c ((key, row) ∷ filter passes_row es) (filter passes_row es)) (sym is)

  -- a test of keys passes from slots to rows
  pub present_filter : (es : List (K × Option X)) → present (filter passes_slot es) ≡ filter passes_row (present es)
  present_filter [] = refl
  present_filter (e ∷ es) = filter_at e.0 e.1 (p e.0) refl (filter passes_slot es) (present es) (present_filter es)

-- rows are as many as slots at most
pub fits : {K X : Type 0} (es : List (K × Option X)) → length es < 2 ^ 63 → length (present es) < 2 ^ 63
fits es few = let short = present_short es in omega arith

-- a range without an end
pub and_true : (b : Bool) → (b && true) ≡ b
and_true true = refl
and_true false = refl
