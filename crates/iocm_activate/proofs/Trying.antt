-- An edit that is tried as the way back of another one: what it leaves, and that it can be taken
-- back itself.
use Rattle.std.proofs.Common.{◌≡◌, ℕ, ◌+◌, ◌≤◌, Bool, true, false, cond, not, ◌&&◌, ◌||◌, List, [], ◌∷◌}
use Rattle.std.proofs.Common.{◌++◌, length, reverse, Option, Some, None, is_some, refl, sym, ap, subst, ◌∙◌}
use Rattle.std.specs.Option.{option_or, option_and_then}
use Rattle.std.proofs.lemmas.List.{reverse-append}
use Rattle.std.specs.Cmp.Lexicographic.{pointwise}
use Rattle.std.specs.FinMap.{contains_key}
use Rattle.iocm_types.specs.declared.refused.Refused.{Refused}
use Rattle.iocm_types.specs.declared.rule.Rule.TheVariants.{E4}
use Rattle.iocm_types.specs.declared.refused.At.TheVariants.{Key}
use Rattle.iocm_model.specs.Operation.State.{State, HasLives, IsSound, views_in}
use Rattle.iocm_model.specs.Change.Edit.{Edit, action_key, config_after, state_after}
use Rattle.iocm_model.specs.Change.Refusal.{refusal_at, refusal_by_key, is_number_taken}
use Rattle.iocm_model.specs.Change.Runs.{CarryFreeNumbers}
use Rattle.iocm_model.proofs.Change.EditsGoBack.{lived_after}
use Rattle.iocm_model.specs.Change.InverseTree.{inverse_tree}
use Rattle.iocm_model.specs.Change.Tree as model
use Rattle.iocm_model.specs.Change.Tree.{ChangeTree, Parts}
use Rattle.iocm_history.specs.Fits.{is_barred, fits, keeps_the_rules}
use Rattle.iocm_numbers.specs.NumberChanges as numbers
use Rattle.iocm_seats.specs.Changes as views
use Rattle.iocm_plant.specs.Between.{CanStillUnapply, PlacesAreKeptOn, SamePlacesAreKept}
use Rattle.iocm_plant.specs.Operating.{Operating, KeepsRoom}
use Rattle.iocm_plant.specs.Refusing.{refusal_when}
use Rattle.iocm_plant.specs.Performing.{Performs}
use Rattle.iocm_plant.specs.declared.quiet.Quiet.TheVariants.{Whatever}
use Rattle.iocm_plant.specs.declared.touched.Applied.{Applied}
use Rattle.iocm_plant.specs.declared.touched.Touched.{Touched}
use Rattle.iocm_activate.specs.Done.{AreToldBy}
use Rattle.iocm_activate.specs.Told.{told_of_all, way_back, LeadsTo}
use Rattle.iocm_activate.specs.Walked.{WereKept}
use Rattle.iocm_activate.specs.declared.log.Log.{Log}
use Rattle.iocm_tree.specs.Carried.{Carried}
use Rattle.iocm_tree.specs.Trees.{CarriedTree, CarriedParts, leaf, row, group, choose, edit_in, tree_of, parts_of}
use Rattle.iocm_tree.specs.Trees.{plain_tree, plain_parts}
use Rattle.iocm_tree.specs.declared.tree.Tree.{Tree}
use Rattle.iocm_activate.specs.Fitting.{is_turned_number, is_turned_view, gone_back, gone_back_along, part_gone_back}
use Rattle.iocm_activate.specs.Fitting.{way_gone, IsOnTheWay}
use Rattle.iocm_activate.proofs.GoingBack.{all_back}
use Rattle.iocm_activate.proofs.Back.{leads_still, leads_on, way_back_append}
use Rattle.iocm_activate.proofs.Next.{IsNext, from, next_and_rest, none_next}
use Rattle.iocm_activate.proofs.Runs.{leads_back}

-- ---- refusals where it doesn't matter whether subchannels are quiet

-- neither refusal applies where none does
neither : (k : Option Refused) (taken : Bool) (r : Refused)
    → option_or k (option_or (cond taken (Some r) None) None) ≡ None
    → (is_some k || taken) ≡ false
neither None false r h = refl
neither None true r h = cc
neither (Some x) taken r h = cc

-- one of them applies where one does
either : (k : Option Refused) (taken : Bool) (r why : Refused)
    → option_or k (option_or (cond taken (Some r) None) None) ≡ Some why
    → (is_some k || taken) ≡ true
either (Some x) taken r why h = refl
either None true r why h = refl
either None false r why h = cc

-- where neither holds, the second doesn't
second_fails : (a b : Bool) → (a || b) ≡ false → b ≡ false
second_fails false b h = h
second_fails true b h = cc

-- an edit that is accepted, be the subchannels quiet or not, is not barred
pub not_barred : (e : Edit) (s : State) → refusal_when Whatever e s ≡ None → is_barred e s ≡ false
not_barred e s h = neither (refusal_by_key e.action (contains_key s.config (action_key e.action)))
    (is_number_taken (config_after e.action s.config) s.numbers e.places)
    (refusal_at E4 (Key (action_key e.action))) h

-- one that is refused then is barred
pub barred : (e : Edit) (s : State) (why : Refused) → refusal_when Whatever e s ≡ Some why → is_barred e s ≡ true
barred e s why h = either (refusal_by_key e.action (contains_key s.config (action_key e.action)))
    (is_number_taken (config_after e.action s.config) s.numbers e.places)
    (refusal_at E4 (Key (action_key e.action))) why h

-- the numbers that come along with an accepted edit are free
pub carries_free : (e : Edit) (s : State) → refusal_when Whatever e s ≡ None → CarryFreeNumbers (e ∷ []) s
carries_free e s h = (second_fails _ _ (not_barred e s h), tt)

-- ---- what is left

-- an edit that was performed, and what it did was looked at
pub looked_at : (e : Edit) (p : Operating) (a : Applied) (q : Operating) (was : Touched) (went : Bool)
    → refusal_when Whatever e p.state ≡ None → Performs e p a q
    → went ≡ (pointwise is_turned_number a.touched.numbers.items was.numbers.items
    && pointwise is_turned_view a.touched.subchannels.items was.subchannels.items)
    → gone_back e was p.state ≡ way_gone went q.state
looked_at e p a q was went accepted made is =
    let free = not_barred e p.state accepted in
    (λ i. cond (not (free i) && pointwise is_turned_number (sym made.numbers i) was.numbers.items
    && pointwise is_turned_view (sym made.subchannels i) was.subchannels.items) (Some (sym made.state i)) None)
    ∙ ap (λ b. cond b (Some q.state) None) (sym is)

-- an edit that was refused
pub refused : (e : Edit) (was : Touched) (s t : State) (why : Refused) → refusal_when Whatever e s ≡ Some why
    → gone_back e was s ≡ way_gone false t
refused e was s t why due =
    let cells = pointwise is_turned_number (numbers.changes_between s.numbers (state_after e s).numbers)
    was.numbers.items in
    let seen = pointwise is_turned_view (views.changes_between (views_in s) (views_in (state_after e s)))
    was.subchannels.items in
    ap (λ b. cond (not b && cells && seen) (Some (state_after e s)) None) (barred e s why due)

-- ---- it can be taken back

-- an edit was performed, and is taken back first
pub leads_after : CanStillUnapply → (p q : Operating) (e : Edit) (a : Applied) (old new : List Applied)
    → IsSound p.state
    → CarryFreeNumbers (e ∷ []) p.state
    → Performs e p a q → KeepsRoom p.room q.room → new ≡ old ++ a ∷ []
    → (s : State) → LeadsTo (way_back old) s p → LeadsTo (way_back new) s q
leads_after still p q e a old new sound free made room done s leads =
    subst (λ is. LeadsTo is s q) (sym (ap way_back done ∙ way_back_append old (a ∷ [])))
    (leads_on still (a.inverse ∷ []) (way_back old) s p q (leads_back e p a q sound free made) leads
    (subst HasLives (sym made.state) (lived_after e p.state sound.lived)) room)

-- nothing was done
pub leads_same : CanStillUnapply → (p q : Operating) (old new : List Applied) → HasLives p.state → q.state ≡ p.state
    → KeepsRoom p.room q.room
    → new ≡ old
    → (s : State) → LeadsTo (way_back old) s p → LeadsTo (way_back new) s q
leads_same still p q old new lived same room done s leads =
    leads_still still (way_back new) s p q (subst (λ ds. LeadsTo (way_back ds) s p) (sym done) leads)
    (subst HasLives (sym same) lived) same room

-- ---- along the way

-- what is left, from its end
pub on_the_last : (left rest : List Touched) (was : Touched) → left ≡ rest ++ was ∷ []
    → reverse left ≡ was ∷ reverse rest
on_the_last left rest was is = ap reverse is ∙ reverse-append rest (was ∷ [])

-- at first all parts are left, and all that was performed
pub sets_out : {A : Type 0} → SamePlacesAreKept
    → (shown xs : List (Tree A)) (ds : List Touched) (p : Operating) (log : Log) → shown ≡ xs
    → WereKept log p.state
    → IsOnTheWay (gone_back_along (plain_parts (parts_of xs)) (reverse ds) p.state) (plain_parts (parts_of shown)) ds p
    log p log
sets_out same shown xs ds p log all kept = record {
  further = ap (λ ps. gone_back_along (plain_parts (parts_of ps)) (reverse ds) p.state) (sym all);
  back = λ s leads. leads;
  room = same p.room p.room refl;
  kept = kept;
}

-- a part is reached on the way
pub record Reached {A : Type 0} (whole : Option State) (shown : List (Tree A)) (i : ℕ) (x : Tree A)
    (left : List Touched) (p : Operating) (first : Log)
    (q : Operating) (second : Log) : Type 0 where
  pub next : IsNext shown i x
  pub way : IsOnTheWay whole (from shown i) left p first q second

module _ {A : Type 0} {whole : Option State} {shown : List (Tree A)} {i : ℕ} {x : Tree A} {left : List Touched}
    {p : Operating} {first : Log}
    {q : Operating} {second : Log} (r : Reached whole shown i x left p first q second) where
  -- with the last of what is left it goes back, or not, and then the rest does
  at_part : (rest : List Touched) (was : Touched) → left ≡ rest ++ was ∷ []
      → whole ≡ option_and_then (gone_back_along (from shown (i + 1)) (reverse rest))
      (part_gone_back (plain_tree (tree_of x)) was q.state)
  at_part rest was last = r.way.further
      ∙ (λ j. gone_back_along (next_and_rest r.next j) (on_the_last left rest was last j) q.state)

  -- it goes back
  pub goes_on : PlacesAreKeptOn → (rest : List Touched) (was : Touched) → left ≡ rest ++ was ∷ []
      → (u : Operating) (third : Log)
      → part_gone_back (plain_tree (tree_of x)) was q.state ≡ Some u.state
      → ((s : State) → LeadsTo (way_back second.done.items) s q → LeadsTo (way_back third.done.items) s u)
      → KeepsRoom q.room u.room
      → WereKept third u.state → IsOnTheWay whole (from shown (i + 1)) rest p first u third
  goes_on places rest was last u third gone back room kept = record {
    further = at_part rest was last ∙ ap (option_and_then (gone_back_along (from shown (i + 1)) (reverse rest))) gone;
    back = λ s leads. back s (r.way.back s leads);
    room = places p.room q.room u.room r.way.room room;
    kept = kept;
  }

  -- it doesn't go back
  pub stops : (rest : List Touched) (was : Touched) → left ≡ rest ++ was ∷ []
      → part_gone_back (plain_tree (tree_of x)) was q.state ≡ None
      → whole ≡ None
  stops rest was last gone =
      at_part rest was last ∙ ap (option_and_then (gone_back_along (from shown (i + 1)) (reverse rest))) gone

  -- nothing is left that it could take back
  pub lacks_its_own : left ≡ [] → whole ≡ None
  lacks_its_own none = r.way.further ∙ (λ j. gone_back_along (next_and_rest r.next j) (reverse (none j)) q.state)

-- no part is left
pub arrives : {A : Type 0} {whole : Option State} {left : List Touched} {p : Operating} {first : Log} {q : Operating}
    {second : Log}
    → (shown : List (Tree A)) (i : ℕ) → length shown ≤ i → IsOnTheWay whole (from shown i) left p first q second
    → whole ≡ Some q.state
arrives {A} {whole} {left} {p} {first} {q} {second} shown i past way =
    way.further ∙ ap (λ ps. gone_back_along ps (reverse left) q.state) (none_next shown i past)

-- a part that is no edit
pub no_edit : (t : CarriedTree) (was : Touched) (s : State) → edit_in t ≡ None
    → part_gone_back (plain_tree t) was s ≡ None
no_edit (leaf c) was s h = cc
no_edit (row ps) was s h = refl
no_edit (group ps) was s h = refl
no_edit (choose ps) was s h = refl

-- and one that is
pub an_edit : (t : CarriedTree) (c : Carried) (was : Touched) (s : State) (o : Option State) → t ≡ leaf c
    → gone_back c.edit was s ≡ o
    → part_gone_back (plain_tree t) was s ≡ o
an_edit t c was s o is gone = ap (λ p. part_gone_back (plain_tree p) was s) is ∙ gone

-- ---- a whole change

-- the parts of a Row
abbrev pub parts_in : ChangeTree → Parts
parts_in (model.row ps) = ps
parts_in _ = model.none

-- parts that take back what was performed, at the end of which the rules are kept, say whether a
-- change fits
pub fits_by : (t : CarriedTree) (ps : CarriedParts) (ds : List Touched) (u : State) (is : Bool) → t ≡ row ps
    → is ≡ keeps_the_rules (gone_back_along (plain_parts ps) (reverse ds) u)
    → (es : List Edit) (s : State) → plain_tree t ≡ inverse_tree es s → AreToldBy ds (told_of_all es s)
    → is ≡ fits (record {
      edits = es;
      from =
          s;
    }) u
fits_by t ps ds u is shape kept es s same told = kept
    ∙ ap (λ p. keeps_the_rules (gone_back_along p (reverse ds) u)) (ap parts_in (sym (ap plain_tree shape) ∙ same))
    ∙ ap keeps_the_rules (all_back ds es s u told)

-- from an empty log on nothing is to be taken back
pub nothing_to_take_back : (p : Operating) (log : Log) → log.done.items ≡ []
    → LeadsTo (way_back log.done.items) p.state p
nothing_to_take_back p log none = subst (λ ds. LeadsTo (way_back ds) p.state p) (sym none) refl
