-- The lines have just the reasons of the objects.
use Rattle.std.proofs.Common.{◌≡◌, ◌||◌, cond, Bool, true, false, List, [], ◌∷◌, ◌++◌, refl, sym, ap, ◌∙◌}
use Rattle.std.specs.List.{flat_map, list_any}
use Rattle.std.proofs.lemmas.List.Folds.{list_any-append}
use Rattle.iocm_objects.specs.Runs as objects
use Rattle.iocm_plan.specs.declared.runs.DeviceRun.{DeviceRun}
use Rattle.iocm_impact.specs.declared.named_image.NamedImage.{NamedImage}
use Rattle.iocm_offon_text.specs.Laws.{EachReasonIsToldInALine, told_reasons}
use Rattle.iocm_offon_text.specs.Lines.{Line, both, is_told_with, line_of, lines_from, own_reasons, with_line, with_run}
use Rattle.iocm_offon.specs.declared.reason.Reason.{Reason}

or_assoc : (a b c : Bool) → ((a || b) || c) ≡ (a || (b || c))
or_assoc true b c = refl
or_assoc false b c = refl

or_comm : (a b : Bool) → (a || b) ≡ (b || a)
or_comm true true = refl
or_comm true false = refl
or_comm false true = refl
or_comm false false = refl

or_false : (a : Bool) → a ≡ (a || false)
or_false true = refl
or_false false = refl

-- the second of three goes to the end
or_last : (a b c : Bool) → ((a || b) || c) ≡ ((a || c) || b)
or_last true b c = refl
or_last false b c = or_comm b c

module _ (p : Reason → Bool) where
  any_append : (xs ys : List Reason) → list_any p (xs ++ ys) ≡ (list_any p xs || list_any p ys)
  any_append xs ys = list_any-append p xs ys

  abbrev any_in : List Line → Bool
  any_in ls = list_any p (told_reasons ls)

  one_more : (ls : List Line) (l : Line) → any_in (with_line ls l) ≡ (any_in ls || list_any p l.reasons)
  one_more [] l = any_append l.reasons [] ∙ sym (or_false (list_any p l.reasons))
  one_more (m ∷ ms) l = by (is_told_with m l) (one_more ms l)
    where
      by : (b : Bool) → any_in (with_line ms l) ≡ (any_in ms || list_any p l.reasons)
          → any_in (cond b (both m l ∷ ms) (m ∷ with_line ms l)) ≡ (any_in (m ∷ ms) || list_any p l.reasons)
      by true rest = any_append (m.reasons ++ l.reasons) (told_reasons ms)
          ∙ ap (λ b. b || any_in ms) (any_append m.reasons l.reasons)
          ∙ or_last (list_any p m.reasons) (list_any p l.reasons) (any_in ms)
          ∙ ap (λ b. b || list_any p l.reasons) (sym (any_append m.reasons (told_reasons ms)))
      by false rest = any_append m.reasons (told_reasons (with_line ms l))
          ∙ ap (λ b. list_any p m.reasons || b) rest
          ∙ sym (or_assoc (list_any p m.reasons) (any_in ms) (list_any p l.reasons))
          ∙ ap (λ b. b || list_any p l.reasons) (sym (any_append m.reasons (told_reasons ms)))

  one_run : (is : List NamedImage) (ls : List Line) (o : objects.Run) (rs : List Reason)
      → any_in (with_run is ls o rs) ≡ (any_in ls || list_any p rs)
  one_run is ls o [] = or_false (any_in ls)
  one_run is ls o (r ∷ rs) = one_more ls (line_of is o (r ∷ rs))

  from : (is : List NamedImage) (ds : List DeviceRun) (rs : List Reason) (ls : List Line) (os : List objects.Run)
      → any_in (lines_from is ds rs ls os) ≡ (any_in ls || list_any p (flat_map (own_reasons ds rs) os))
  from is ds rs ls [] = or_false (any_in ls)
  from is ds rs ls (o ∷ os) = from is ds rs (with_run is ls o (own_reasons ds rs o)) os
      ∙ ap (λ b. b || list_any p (flat_map (own_reasons ds rs) os)) (one_run is ls o (own_reasons ds rs o))
      ∙ or_assoc (any_in ls) (list_any p (own_reasons ds rs o)) (list_any p (flat_map (own_reasons ds rs) os))
      ∙ ap (λ b. any_in ls || b) (sym (any_append (own_reasons ds rs o) (flat_map (own_reasons ds rs) os)))

pub each_told : EachReasonIsToldInALine
each_told is ds rs os is_it = from is_it is ds rs [] os
