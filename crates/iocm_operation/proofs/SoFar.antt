-- One round more of a script, and its first.
use Rattle.std.proofs.Common.{◌≡◌, ◌<◌, true, List, [], ◌∷◌, ◌++◌, refl, sym, ap, ◌∙◌, subst}
use Rattle.std.specs.Prelude.{map, None, Option}
use Rattle.std.specs.List.{AllByRecursion}
use Rattle.iocm_board.specs.Names.{is_whole}
use Rattle.iocm_board.specs.declared.view.Made.{Made}
use Rattle.iocm_model.specs.Change.Tree.{ChangeTree}
use Rattle.iocm_rounds.specs.declared.round.Round.{Round}
use Rattle.iocm_script.specs.declared.line.Line.{Line}
use Rattle.iocm_system.specs.Sights.{Sight}
use Rattle.iocm_system.specs.declared.receipt.Receipt.{Receipt}
use Rattle.iocm_types.specs.declared.rule.Rule.{Rule}
use Rattle.iocm_operation.specs.declared.placed.Placed.{Placed}
use Rattle.iocm_operation.specs.Asked.{AreAsked}
use Rattle.iocm_operation.specs.Marks.{all_of}
use Rattle.iocm_operation.specs.Placing.{places_for, places_of}
use Rattle.iocm_operation.specs.Running.{IsRan}
use Rattle.iocm_operation.specs.Segments.{AreRun}
use Rattle.iocm_operation.specs.SoFar.{IsSoFar, segment_of}
use Rattle.iocm_operation.proofs.Segments.{all_more, map_more, one_run_more, places_are_those, places_of_more}
use Rattle.iocm_operation.proofs.Segments.{round_is_run}

pub none_yet : (ts : List ChangeTree) (me : Sight) → me.receipts ≡ [] → is_whole me.names ≡ true
    → IsSoFar ts [] me me []
none_yet ts me new whole =
    record {
      parts = [];
      receipts = new;
      each = tt;
      placed = refl;
      below = subst (AllByRecursion (λ (m : Made). m.number < me.seen)) (sym new) tt;
      tag = refl;
      origin = refl;
      whole = whole;
    }

pub goes_on : (ts : List ChangeTree) (ls : List Line) (r : Round) (old new : Sight) (rp rq ra rb : List Receipt)
    (stopped : Option Rule) (places more : List Placed)
    → AreAsked ts ls r → IsRan r.p.items r.q.items r.a.items r.b.items old new rp rq ra rb stopped → stopped ≡ None
    → more ≡ places ++ places_for ls rp rq ra rb → (rounds : List (List Line)) (first : Sight)
    → IsSoFar ts rounds first old places → IsSoFar ts (rounds ++ ls ∷ []) first new more
goes_on ts ls r old new rp rq ra rb stopped places more asked ran none are rounds first so_far =
    let all = ran.all none in
    let ms = ran.marked in
    let run = round_is_run r.p.items r.q.items r.a.items r.b.items rp rq ra rb ms all ts ls asked in
    let those = places_are_those r.p.items r.q.items r.a.items r.b.items rp rq ra rb ms all ls in
    record {
      parts = so_far.parts ++ ms ∷ [];
      receipts = ran.receipts ∙ ap (λ xs. xs ++ all_of ms) so_far.receipts ∙ sym (all_more so_far.parts ms);
      each = subst (AreRun ts (rounds ++ ls ∷ [])) (sym (map_more so_far.parts ms))
          (one_run_more ts rounds (map segment_of so_far.parts) ls (segment_of ms) so_far.each run);
      placed = are ∙ ap (λ ks. ks ++ places_for ls rp rq ra rb) so_far.placed
          ∙ ap (λ ks. places_of rounds so_far.parts ++ ks) those
          ∙ sym (places_of_more ts rounds so_far.parts ls ms so_far.each);
      below = ran.below;
      tag = ran.tag ∙ so_far.tag;
      origin = ran.origin ∙ so_far.origin;
      whole = ran.whole;
    }

-- the receipts that lie in slices
pub in_hands : (places more : List Placed) (ls : List Line) (hp hq ha hb p q a b : List Receipt) → hp ≡ p → hq ≡ q
    → ha ≡ a → hb ≡ b
    → more ≡ places ++ places_for ls hp hq ha hb → more ≡ places ++ places_for ls p q a b
in_hands places more ls hp hq ha hb p q a b is_p is_q is_a is_b e =
    e ∙ ap (λ xs. places ++ places_for ls xs hq ha hb) is_p ∙ ap (λ xs. places ++ places_for ls p xs ha hb) is_q
    ∙ ap (λ xs. places ++ places_for ls p q xs hb) is_a ∙ ap (λ xs. places ++ places_for ls p q a xs) is_b
