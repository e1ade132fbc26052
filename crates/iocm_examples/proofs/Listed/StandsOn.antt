-- Which changes stand on a change, on lists.
use Rattle.std.proofs.Common.{◌≡◌, ℕ, nat_lt, ◌&&◌, ◌||◌, not, Bool, true, false, is_some, Option, Some, None, List, []}
use Rattle.std.proofs.Common.{◌∷◌, ◌++◌, map, filter, if◌then◌else◌, refl, ap, ◌∙◌}
use Rattle.std.specs.List.{list_any}
use Rattle.std.specs.Option.{option_map}
use Rattle.std.specs.FinMap.{find, keys, get-entries}
use Rattle.iocm_types.specs.Key.{key_cmp}
use Rattle.iocm_types.specs.Place.{cell_cmp}
use Rattle.iocm_types.specs.SubId.{sub_id_cmp}
use Rattle.iocm_model.specs.Operation.State.{State}
use Rattle.iocm_model.specs.Change.Effect.{Effect}
use Rattle.iocm_history.specs.Change.{Change, effect_of_change, share_a_cell}
use Rattle.iocm_history.specs.Fits.{fits}
use Rattle.iocm_history.specs.MarkedEntry.{Act, step, change, undoing, nothing, Mark, kept, undone_with, lost}
use Rattle.iocm_history.specs.MarkedEntry.{MarkedEntry, is_change, change_at}
use Rattle.iocm_history.specs.StandsOn.{Numbered, since, change_and, changes_in, undo_and, undos_in, is_kept, counts}
use Rattle.iocm_history.specs.StandsOn.{undone_since, numbers_of, standing_on, greatest, greatest_on, stands_on}
use Rattle.iocm_examples.proofs.Listed.Maps.{cond_seen}
use Rattle.iocm_examples.proofs.Listed.States.{ListedState, listing}
use Rattle.iocm_examples.proofs.Listed.Effects.{ListedEffect, effect_listing}
use Rattle.iocm_examples.proofs.Listed.Fits.{fits_listed, fits_seen}
use Rattle.iocm_examples.proofs.Listed.Entries.{ListedChange, change_listing, ListedAct, a_change, an_undo, act_listing}
use Rattle.iocm_examples.proofs.Listed.Entries.{ListedLine, line_listing, lines_listing, changes_at, changes_seen}
use Rattle.iocm_examples.proofs.Listed.Entries.{change_in, change_seen}

-- ---- what stands on a change

abbrev pub ListedNumbered : Type 0
ListedNumbered = ℕ × ListedChange

abbrev numbered_listing : Numbered → ListedNumbered
numbered_listing d = (d.0, change_listing d.1)

abbrev pub since_lines : ℕ → List ListedLine → List ListedLine
since_lines n [] = []
since_lines n (l ∷ ls) = if changes_at n l.act then [] else l ∷ since_lines n ls

since_seen : (n : ℕ) (ls : List MarkedEntry) → lines_listing (since n ls) ≡ since_lines n (lines_listing ls)
since_seen n [] = refl
since_seen n (l ∷ ls) = cond_seen lines_listing (is_change n l.act) [] (l ∷ since n ls)
    ∙ (λ i. if changes_seen n l.act i then [] else line_listing l ∷ since_seen n ls i)

abbrev pub change_and_line : Mark → ListedAct → List ListedNumbered → List ListedNumbered
change_and_line kept (a_change n c) further = (n, c) ∷ further
change_and_line _ _ further = further

abbrev pub changes_in_lines : List ListedLine → List ListedNumbered
changes_in_lines [] = []
changes_in_lines (l ∷ ls) = change_and_line l.mark l.act (changes_in_lines ls)

changes_in_seen : (ls : List MarkedEntry) → map numbered_listing (changes_in ls) ≡ changes_in_lines (lines_listing ls)
changes_in_seen [] = refl
changes_in_seen (l ∷ ls) = by l.mark l.act ∙ ap (change_and_line l.mark (act_listing l.act)) (changes_in_seen ls)
  where
    by : (mark : Mark) (a : Act)
        → map numbered_listing (change_and mark a (changes_in ls))
        ≡ change_and_line mark (act_listing a) (map numbered_listing (changes_in ls))
    by kept (step x s live) = refl
    by kept (change n c) = refl
    by kept (undoing n) = refl
    by kept nothing = refl
    by (undone_with k) (step x s live) = refl
    by (undone_with k) (change n c) = refl
    by (undone_with k) (undoing n) = refl
    by (undone_with k) nothing = refl
    by lost (step x s live) = refl
    by lost (change n c) = refl
    by lost (undoing n) = refl
    by lost nothing = refl

abbrev pub undo_and_line : ListedAct → List ℕ → List ℕ
undo_and_line (an_undo n) further = n ∷ further
undo_and_line _ further = further

abbrev pub undos_in_lines : List ListedLine → List ℕ
undos_in_lines [] = []
undos_in_lines (l ∷ ls) = undo_and_line l.act (undos_in_lines ls)

undo_and_seen : (a : Act) (ns : List ℕ) → undo_and a ns ≡ undo_and_line (act_listing a) ns
undo_and_seen (step x s l) ns = refl
undo_and_seen (change n c) ns = refl
undo_and_seen (undoing n) ns = refl
undo_and_seen nothing ns = refl

undos_in_seen : (ls : List MarkedEntry) → undos_in ls ≡ undos_in_lines (lines_listing ls)
undos_in_seen [] = refl
undos_in_seen (l ∷ ls) = undo_and_seen l.act (undos_in ls) ∙ ap (undo_and_line (act_listing l.act)) (undos_in_seen ls)

abbrev pub counts_in_lines : ℕ → List ListedLine → Bool
counts_in_lines n [] = false
counts_in_lines n (l ∷ ls) = if changes_at n l.act then is_kept l.mark else counts_in_lines n ls

counts_seen : (n : ℕ) (ls : List MarkedEntry) → counts n ls ≡ counts_in_lines n (lines_listing ls)
counts_seen n [] = refl
counts_seen n (l ∷ ls) = λ i. if changes_seen n l.act i then is_kept l.mark else counts_seen n ls i

abbrev pub undone_since_lines : ℕ → List ListedLine → List ℕ
undone_since_lines n ls = filter (λ m. nat_lt m n && not (counts_in_lines m ls)) (undos_in_lines (since_lines n ls))

undone_since_seen : (n : ℕ) (ls : List MarkedEntry) → undone_since n ls ≡ undone_since_lines n (lines_listing ls)
undone_since_seen n ls = (λ i. filter (λ m. nat_lt m n && not (counts_seen m ls i)) (undos_in_seen (since n ls) i))
    ∙ ap (λ ms. filter (λ m. nat_lt m n && not (counts_in_lines m (lines_listing ls))) (undos_in_lines ms))
    (since_seen n ls)

-- two effects wrote a cell in common
abbrev pub share_listed : ListedEffect → ListedEffect → Bool
share_listed f g = list_any (λ k. is_some (find key_cmp k g.records)) (map (λ e. e.0) f.records)
    || list_any (λ c. is_some (find cell_cmp c g.numbers)) (map (λ e. e.0) f.numbers)
    || list_any (λ x. is_some (find sub_id_cmp x g.lives)) (map (λ e. e.0) f.lives)

share_seen : (f g : Effect) → share_a_cell f g ≡ share_listed (effect_listing f) (effect_listing g)
share_seen f g = λ i. list_any (λ k. is_some (get-entries g.records k i)) (keys f.records)
    || list_any (λ c. is_some (get-entries g.numbers c i)) (keys f.numbers)
    || list_any (λ x. is_some (get-entries g.lives x i)) (keys f.lives)

abbrev pub numbers_in_order : List ListedNumbered → List ℕ
numbers_in_order ds = map (λ (d : ListedNumbered). d.0) ds

-- the changes that stand on a change, of the later ones and of the earlier ones that were undone
-- since
abbrev pub standing_by : ListedChange → List ListedNumbered → List ℕ → Bool → List ℕ
standing_by c later undone true =
    numbers_in_order (filter (λ (d : ListedNumbered). share_listed c.effect d.1.effect) later)
standing_by c later undone false = numbers_in_order later ++ undone

numbers_seen : (ds : List Numbered) → numbers_of ds ≡ numbers_in_order (map numbered_listing ds)
numbers_seen [] = refl
numbers_seen (d ∷ ds) = ap (λ ns. d.0 ∷ ns) (numbers_seen ds)

sharing_seen : (c : Change) (ds : List Numbered)
    → numbers_of (filter (λ (d : Numbered). share_a_cell (effect_of_change c) (effect_of_change d.1)) ds)
    ≡ numbers_in_order (filter (λ (d : ListedNumbered). share_listed (effect_listing (effect_of_change c)) d.1.effect)
    (map numbered_listing ds))
sharing_seen c [] = refl
sharing_seen c (d ∷ ds) =
    by (share_a_cell (effect_of_change c) (effect_of_change d.1)) _
    (share_seen (effect_of_change c) (effect_of_change d.1)) (sharing_seen c ds)
  where
    rest : List Numbered
    rest = filter (λ (d : Numbered). share_a_cell (effect_of_change c) (effect_of_change d.1)) ds

    others : List ListedNumbered
    others = filter (λ (d : ListedNumbered). share_listed (effect_listing (effect_of_change c)) d.1.effect)
        (map numbered_listing ds)

    by : (b e : Bool) → b ≡ e → numbers_of rest ≡ numbers_in_order others
        → numbers_of (if b then d ∷ rest else rest)
        ≡ numbers_in_order (if e then numbered_listing d ∷ others else others)
    by true true same more = ap (λ ns. d.0 ∷ ns) more
    by true false same more = cc
    by false true same more = cc
    by false false same more = more

standing_seen : (n : ℕ) (c : Change) (ls : List MarkedEntry) (b : Bool)
    → standing_on n c ls b ≡ standing_by (change_listing c) (changes_in_lines (since_lines n (lines_listing ls)))
    (undone_since_lines n (lines_listing ls)) b
standing_seen n c ls true = sharing_seen c (changes_in (since n ls))
    ∙ ap (λ ds. numbers_in_order
    (filter (λ (d : ListedNumbered). share_listed (effect_listing (effect_of_change c)) d.1.effect) ds))
    (changes_in_seen (since n ls) ∙ ap changes_in_lines (since_seen n ls))
standing_seen n c ls false = λ i.
    (numbers_seen (changes_in (since n ls))
    ∙ ap numbers_in_order (changes_in_seen (since n ls) ∙ ap changes_in_lines (since_seen n ls))) i
    ++ undone_since_seen n ls i

-- the greatest of them: whether the change fits is asked only where there are any
abbrev pub greatest_by : ListedChange → List ListedNumbered → List ℕ → ListedState → Option ℕ
greatest_by c [] [] y = None
greatest_by c [] (u ∷ us) y = greatest (standing_by c [] (u ∷ us) (fits_listed c.edits c.from y))
greatest_by c (d ∷ ds) us y = greatest (standing_by c (d ∷ ds) us (fits_listed c.edits c.from y))

greatest_seen : (c : ListedChange) (later : List ListedNumbered) (undone : List ℕ) (y : ListedState)
    → greatest (standing_by c later undone (fits_listed c.edits c.from y)) ≡ greatest_by c later undone y
greatest_seen c [] [] y = none (fits_listed c.edits c.from y)
  where
    none : (b : Bool) → greatest (standing_by c [] [] b) ≡ None
    none true = refl
    none false = refl
greatest_seen c [] (u ∷ us) y = refl
greatest_seen c (d ∷ ds) us y = refl

abbrev pub on_by : ℕ → Option ListedChange → List ListedLine → ListedState → Option ℕ
on_by n (Some c) ls y = greatest_by c (changes_in_lines (since_lines n ls)) (undone_since_lines n ls) y
on_by n None ls y = None

abbrev pub stands_on_lines : ℕ → List ListedLine → ListedState → Option ℕ
stands_on_lines n ls y = on_by n (change_in n ls) ls y

on_seen : (n : ℕ) (o : Option Change) (ls : List MarkedEntry) (s : State)
    → greatest_on n o ls s ≡ on_by n (option_map change_listing o) (lines_listing ls) (listing s)
on_seen n None ls s = refl
on_seen n (Some c) ls s =
    let later = changes_in_lines (since_lines n (lines_listing ls)) in let undone =
    undone_since_lines n (lines_listing ls) in
    ap greatest (standing_seen n c ls (fits c s) ∙ ap (standing_by (change_listing c) later undone) (fits_seen c s))
    ∙ greatest_seen (change_listing c) later undone (listing s)

pub stands_on_seen : (n : ℕ) (ls : List MarkedEntry) (s : State)
    → stands_on n ls s ≡ stands_on_lines n (lines_listing ls) (listing s)
stands_on_seen n ls s = on_seen n (change_at n ls) ls s
    ∙ ap (λ o. on_by n o (lines_listing ls) (listing s)) (change_seen n ls)
