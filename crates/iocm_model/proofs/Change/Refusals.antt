-- A refusal by B1 comes after all others, and names the least subchannel that isn't quiet.
use Rattle.std.proofs.Common.{◌≡◌, Bool, true, false, Option, Some, None, refl, sym, ◌∙◌, if◌then◌else◌}
use Rattle.std.specs.Option.{option_or}
use Rattle.iocm_types.specs.declared.key.Key.{Key}
use Rattle.iocm_types.specs.declared.refused.At.TheVariants as at
use Rattle.iocm_types.specs.declared.refused.Refused.{Refused}
use Rattle.iocm_types.specs.declared.rule.Rule.TheVariants.{E1, E2, E4, B1}
use Rattle.iocm_types.specs.declared.sub_id.SubId.{SubId}
use Rattle.iocm_model.specs.Change.Edit.{Action, add, delete, modify}
use Rattle.iocm_model.specs.Change.Refusal.{refusal_at, refusal_by_key, refusal_by_subchannel}
use Rattle.iocm_model.specs.Laws.Edits.{RefusalNamesTheLeast}
use Rattle.iocm_model.proofs.Change.LeastNotQuiet.{names_the_least}

-- a refusal by the key isn't B1
not_by_key : (a : Action) (there : Bool) (why : Refused) → refusal_by_key a there ≡ Some why → why.rule ≡ B1 → ⊥
not_by_key (add r) true why h is = let same : E1 ≡ why.rule = cc in let bad : E1 ≡ B1 = same ∙ is in cc
not_by_key (add r) false why h is = cc
not_by_key (delete key) true why h is = cc
not_by_key (delete key) false why h is = let same : E2 ≡ why.rule = cc in let bad : E2 ≡ B1 = same ∙ is in cc
not_by_key (modify r) true why h is = cc
not_by_key (modify r) false why h is = let same : E2 ≡ why.rule = cc in let bad : E2 ≡ B1 = same ∙ is in cc

-- a refusal that comes last: for the subchannel that was found, with nothing before it
record IsLast (by_key : Option Refused) (taken : Bool) (found : Option SubId) (why : Refused) : Type 0 where
  subchannel : SubId
  here : found ≡ Some subchannel
  names : why ≡ refusal_at B1 (at.Subchannel subchannel)
  key : by_key ≡ None
  numbers : taken ≡ false

comes_last : (by_key : Option Refused) (taken : Bool) (key : Key) (found : Option SubId) (why : Refused)
    → (by_key ≡ Some why → why.rule ≡ B1 → ⊥)
    → option_or by_key (option_or (if taken then Some (refusal_at E4 (at.Key key)) else None)
    (refusal_by_subchannel found)) ≡ Some why
    → why.rule ≡ B1 → IsLast by_key taken found why
comes_last (Some r) taken key found why other h is = absurd (other h is)
comes_last None true key found why other h is = let same : E4 ≡ why.rule = cc in let bad : E4 ≡ B1 = same ∙ is in cc
comes_last None false key None why other h is = cc
comes_last None false key (Some x) why other h is = let same : refusal_at B1 (at.Subchannel x) ≡ why = cc in record {
  subchannel = x;
  here = refl;
  names = sym same;
  key = refl;
  numbers = refl;
}

pub refusal_names_the_least : RefusalNamesTheLeast
refusal_names_the_least e s why h is =
    let last = comes_last _ _ _ _ why (not_by_key e.action _ why) h is in record {
      subchannel = last.subchannel;
      least = names_the_least e s last.subchannel last.here;
      names = last.names;
      key = last.key;
      numbers = last.numbers;
    }
