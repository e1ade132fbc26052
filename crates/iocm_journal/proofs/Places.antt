-- Changes by their places in a journal.
use Rattle.std.proofs.Common.{◌≡◌, ℕ, ◌+◌, ◌-◌, ◌<◌, ◌≤◌, true, false, eqb, Option, Some, None, Ok, List, [], ◌∷◌}
use Rattle.std.proofs.Common.{◌++◌, length, get_or, refl, sym, ap, ◌∙◌, arith}
use Rattle.std.specs.Option.{option_map_or}
use Rattle.std.specs.List.{slice_get}
use Rattle.std.specs.Option.{MatchOption}
use Rattle.std.proofs.Math.ListN.{set}
use Rattle.std.proofs.lemmas.Bool.{eqb-true}
use Rattle.std.proofs.lemmas.List.{length-append}
use Rattle.std.proofs.lemmas.Option.{slice_get_past, slice_get_read, slice_get_within}
use Rattle.iocm_model.specs.Operation.State.{State}
use Rattle.iocm_model.specs.Change.Edit.{Edit}
use Rattle.iocm_model.specs.Change.Meaning.{meaning, state_reached}
use Rattle.iocm_model.specs.Change.Tree.{row, none}
use Rattle.iocm_tree.specs.Trees.{plain_tree, tree_of}
use Rattle.iocm_journal.specs.Moving.{WasRedone, again}
use Rattle.iocm_journal.specs.Standing.{stands_at, inverse_at, is_last, redo_at_end}
use Rattle.iocm_journal.specs.declared.kept.Kept.{Kept}
use Rattle.iocm_journal.specs.declared.kept.Undone.{Undone}
use Rattle.iocm_journal.specs.Journaled.{Journaled}
use Rattle.iocm_journal.proofs.Taken.{at_end, item_there}

-- past the end none stands
pub stands_past : (ks : List Kept) (at : ℕ) → length ks ≤ at → stands_at ks at ≡ false
stands_past ks at past = ap (λ o. option_map_or (λ (k : Kept). k.stands) o false) (slice_get_past ks at past)

pub stands_item : (ks : List Kept) (at : ℕ) (k : Kept) → slice_get ks at ≡ Some k → stands_at ks at ≡ k.stands
stands_item ks at k is = ap (λ o. option_map_or (λ (k : Kept). k.stands) o false) is

pub inverse_item : (ks : List Kept) (at : ℕ) (k : Kept) → slice_get ks at ≡ Some k
    → inverse_at ks at ≡ plain_tree (tree_of k.inverse)
inverse_item ks at k is = ap (λ o. option_map_or (λ (k : Kept). plain_tree (tree_of k.inverse)) o (row none)) is

pub redo_item : (us : List Undone) (u : Undone) → slice_get us (length us - 1) ≡ Some u
    → redo_at_end us ≡ plain_tree (tree_of u.redo)
redo_item us u is = ap (λ o. option_map_or (λ (u : Undone). plain_tree (tree_of u.redo)) o (row none)) is

-- one that stands is within
pub stands_low : (ks : List Kept) (at : ℕ) → stands_at ks at ≡ true
    → (k : Kept) × (slice_get ks at ≡ Some k) × (k.stands ≡ true)
stands_low ks at is = by (slice_get ks at) refl is
  where
    by : (o : Option Kept) → slice_get ks at ≡ o → option_map_or (λ (k : Kept). k.stands) o false ≡ true
        → (k : Kept) × (slice_get ks at ≡ Some k) × (k.stands ≡ true)
    by (Some k) at_k on = (k, at_k, on)
    by None at_k on = cc

pub stands_within : (ks : List Kept) (at : ℕ) → stands_at ks at ≡ true → at < length ks
stands_within ks at is = let l = stands_low ks at is in slice_get_within ks at l.0 l.1

-- a change that was read of the same list is there
pub read_there : {ks vs : List Kept} → ks ≡ vs → (place : ℕ) (k : Kept) → place < length vs → k ≡ get_or ks place k
    → slice_get vs place ≡ Some k
read_there {vs = vs} same place k within read =
    slice_get_read vs (length vs) place k refl within (read ∙ ap (λ xs. get_or xs place k) same)

-- a list in which the change that is there was changed
pub set_there : (f : Kept → Kept) {ks vs : List Kept} → ks ≡ vs → (place : ℕ) (i k : Kept) → slice_get vs place ≡ Some i
    → slice_get vs place ≡ Some k → set ks place (f i) ≡ set vs place (f k)
set_there f same place i k at_i at_k =
    let both : Some i ≡ Some k = sym at_i ∙ at_k in let one : i ≡ k = cc in λ z. set (same z) place (f (one z))

-- ---- what was done to a journal

last_there : {A : Type 0} (xs : List A) (x : A) → slice_get (xs ++ x ∷ []) (length (xs ++ x ∷ []) - 1) ≡ Some x
last_there xs x = ap (slice_get (xs ++ x ∷ [])) (let long = length-append xs (x ∷ []) in omega (arith, long))
    ∙ at_end xs x

pub was_redone : (old new : Journaled) (place : ℕ) (before after : State) (last : Undone) (popped : Option Undone)
    (es : List Edit) → place < length old.changes
    → is_last old.undone (place + 1) ≡ true → slice_get old.undone (length old.undone - 1) ≡ Some last
    → meaning (plain_tree (tree_of last.redo)) before ≡ Ok (record { state = after; edits = es })
    → ((z : Kept) → slice_get old.changes place ≡ Some z → new.changes ≡ set old.changes place (again z))
    → new.standing ≡ old.standing + 1
    → MatchOption popped (old.undone ≡ []) (λ u. old.undone ≡ new.undone ++ u ∷ [])
    → WasRedone old place before after new
was_redone old new place before after last popped es within is_it at_last means changes standing undone =
    let k = item_there old.changes place within in record {
      kept = k.0;
      there = k.1;
      last = last;
      undone = by popped undone;
      number = eqb-true last.number (place + 1)
          (sym (ap (λ o. option_map_or (λ (u : Undone). eqb u.number (place + 1)) o false) at_last) ∙ is_it);
      means = ap state_reached means;
      changes = changes k.0 k.1;
      standing = standing;
    }
  where
    same : (a b : Undone) → Some a ≡ Some b → a ≡ b
    same a b e = cc

    none_at : (us : List Undone) → us ≡ [] → slice_get us (length us - 1) ≡ Some last → ⊥
    none_at us empty is = let no : None ≡ Some last = sym (ap (λ vs. slice_get vs (length vs - 1)) empty) ∙ is in
        absurd_none last no
      where
        absurd_none : (u : Undone) → None ≡ Some u → ⊥
        absurd_none u e = cc

    by : (o : Option Undone) → MatchOption o (old.undone ≡ []) (λ u. old.undone ≡ new.undone ++ u ∷ [])
        → old.undone ≡ new.undone ++ last ∷ []
    by (Some u) is = is ∙ ap (λ z. new.undone ++ z ∷ [])
        (same u last (sym (last_there new.undone u) ∙ sym (ap (λ us. slice_get us (length us - 1)) is) ∙ at_last))
    by None empty = absurd (none_at old.undone empty at_last)

-- a list of changes that are undone, of which this one is the last
pub record EndsWith (us : List Undone) (n : ℕ) : Type 0 where
  pub rest : List Undone
  pub last : Undone
  pub split : us ≡ rest ++ last ∷ []
  pub number : last.number ≡ n
  pub at_last : slice_get us (length us - 1) ≡ Some last

record Parted (us : List Undone) : Type 0 where
  rest : List Undone
  last : Undone
  split : us ≡ rest ++ last ∷ []

parted : (u : Undone) (us : List Undone) → Parted (u ∷ us)
parted u [] = record { rest = []; last = u; split = refl }
parted u (v ∷ us) = let r = parted v us in
    record { rest = u ∷ r.rest; last = r.last; split = ap (λ vs. u ∷ vs) r.split }

pub ends_with : (us : List Undone) (n : ℕ) → is_last us n ≡ true → EndsWith us n
ends_with [] n is = cc
ends_with (u ∷ us) n is =
    let r = parted u us in
    let at_last : slice_get (u ∷ us) (length (u ∷ us) - 1) ≡ Some r.last =
    ap (λ vs. slice_get vs (length vs - 1)) r.split ∙ last_there r.rest r.last in
    record {
      rest = r.rest;
      last = r.last;
      split = r.split;
      number = eqb-true r.last.number n
          (sym (ap (λ o. option_map_or (λ (u : Undone). eqb u.number n) o false) at_last) ∙ is);
      at_last = at_last;
    }
