-- A script of which some rounds were run.
use Rattle.std.specs.Prelude.{◌≡◌, ◌<◌, ℕ, true, List, [], ◌∷◌, ◌++◌, map}
use Rattle.std.specs.List.{AllByRecursion, flat_map}
use Rattle.iocm_board.specs.Names.{is_whole}
use Rattle.iocm_board.specs.declared.view.Made.{Made}
use Rattle.iocm_model.specs.Change.Tree.{ChangeTree}
use Rattle.iocm_script.specs.declared.line.Line.{Line}
use Rattle.iocm_system.specs.Sights.{Sight}
use Rattle.iocm_operation.specs.declared.operating.SoFar.{SoFar}
use Rattle.iocm_operation.specs.declared.placed.Placed.{Placed}
use Rattle.iocm_operation.specs.Marks.{Marked, all_of}
use Rattle.iocm_operation.specs.Placing.{places_of}
use Rattle.iocm_operation.specs.Segments.{AreRun, Segment}

-- the entries of receipts with the numbers of their actors
abbrev pub segment_of : Marked → Segment
segment_of ms = map (λ (m : ℕ × Made). (m.0, m.1.entry)) ms

-- these rounds were run by a caller that had no receipt at first: it has those of the rounds, one
-- round after the other; each line has the place of its call; and the caller is whole
pub record IsSoFar (ts : List ChangeTree) (rounds : List (List Line)) (first now : Sight)
    (places : List Placed) : Type 0 where
  pub parts : List Marked
  pub receipts : now.receipts ≡ flat_map all_of parts
  pub each : AreRun ts rounds (map segment_of parts)
  pub placed : places ≡ places_of rounds parts
  pub below : AllByRecursion (λ (m : Made). m.number < now.seen) now.receipts
  pub tag : now.tag ≡ first.tag
  pub origin : now.origin ≡ first.origin
  pub whole : is_whole now.names ≡ true

-- one round more was run
abbrev pub GoesOn : {B : Type 0} → List ChangeTree → List Line → SoFar B → SoFar B → Type 0
GoesOn ts ls old new =
    (rounds : List (List Line)) (first : Sight) → IsSoFar ts rounds first old.caller old.places.items
    → IsSoFar ts (rounds ++ ls ∷ []) first new.caller new.places.items
