-- What a round makes of its calls.
use Rattle.std.specs.Prelude.{◌≡◌, ◌<◌, List, [], ◌++◌, Option, None, IfSome}
use Rattle.std.specs.List.{AllByRecursion}
use Rattle.iocm_core.specs.declared.call.Call.{Call}
use Rattle.iocm_system.specs.Sights.{Sight}
use Rattle.iocm_system.specs.Turns.{EndsATurn, IsTurn}
use Rattle.iocm_system.specs.declared.receipt.Receipt.{Receipt}
use Rattle.iocm_types.specs.declared.rule.Rule.{Rule}
use Rattle.iocm_rounds.specs.Jobs.{Job, calls_of, jobs_by, receipts_of}
use Rattle.iocm_rounds.specs.declared.images.Image.{Image}
use Rattle.iocm_rounds.specs.declared.office.Office.{Office}

-- of an image's calls the first were made, one after the other, and all of them if nothing stopped
-- it
pub record IsImage (calls : List Call) (old new : Sight) (receipts : List Receipt)
    (stopped : Option Rule) : Type 0 where
  pub rest : List Call
  pub turn : IsTurn calls old new receipts rest
  pub ends : stopped ≡ None → rest ≡ []
  pub why : IfSome stopped (λ rule. EndsATurn rule new)

-- of each operator's calls the first were made, in their order, by the worker, one after the other;
-- and all of them if nothing stopped it
pub record IsOffice (p q : List Call) (old new : Sight) (first second : List Receipt)
    (stopped : Option Rule) : Type 0 where
  pub made : List Job
  pub turn : IsTurn (calls_of made) old new (receipts_of made) []
  pub of_two : AllByRecursion (λ (j : Job). j.by < 2) made
  pub rest_p : List Call
  pub rest_q : List Call
  pub all_p : p ≡ calls_of (jobs_by 0 made) ++ rest_p
  pub all_q : q ≡ calls_of (jobs_by 1 made) ++ rest_q
  pub first_are : first ≡ receipts_of (jobs_by 0 made)
  pub second_are : second ≡ receipts_of (jobs_by 1 made)
  pub ends : stopped ≡ None → (rest_p ≡ []) × (rest_q ≡ [])
  pub why : IfSome stopped (λ rule. EndsATurn rule new)

-- what an image made of its calls is told by what came of it
abbrev pub ImageDid : {B : Type 0} → List Call → Sight → Image B → Type 0
ImageDid calls old i = IsImage calls old i.caller i.receipts.items i.stopped

-- the same of both operators and the worker
abbrev pub OfficeDid : {B : Type 0} → List Call → List Call → Sight → Office B → Type 0
OfficeDid p q old o = IsOffice p q old o.caller o.first.items o.second.items o.stopped
