-- A seat is a caller's still, once it was joined to another, or has lent a name; what a caller has
-- of a call, and tells at the close.
use Rattle.std.proofs.Common.{◌≡◌, ◌≤◌, Ok, Err, Bool, true, false, cond, ◌||◌, List, [], ◌++◌, refl, sym, ap, ◌∙◌}
use Rattle.std.proofs.Common.{subst}
use Rattle.std.specs.Prelude.{Result, IfOk}
use Rattle.iocm_core.specs.Seen as seen
use Rattle.iocm_core.specs.declared.call.Call.{Call}
use Rattle.iocm_board.specs.declared.view.Borne.{Borne}
use Rattle.iocm_board.specs.declared.view.View.{View}
use Rattle.iocm_board.specs.Names.{BearsSome, is_whole, lend}
use Rattle.iocm_board.specs.Steps.{HasAll, TellAll}
use Rattle.iocm_board.specs.Views.{Held, both, caller_of, first_view, lends, takes, with_receipt}
use Rattle.iocm_system.specs.Asking.{asked_by}
use Rattle.iocm_system.specs.Calling.{IsMade}
use Rattle.iocm_system.specs.Sights.{IsCaller, Sight, gains, sight_of}
use Rattle.iocm_system.specs.declared.receipt.Receipt.{Receipt}

neither : (a b : Bool) → a ≡ false → b ≡ false → (a || b) ≡ false
neither a b e f = ap (λ x. x || b) e ∙ f

more_names : (bs cs : List Borne) → BearsSome bs → BearsSome (bs ++ cs)
more_names bs cs some = (some.0, some.1 ++ cs, ap (λ x. x ++ cs) some.2)

lent_names : (bs : List Borne) → BearsSome bs → BearsSome (lend bs)
lent_names bs some = subst (λ x. BearsSome (lend x)) (sym some.2) (_, some.1, refl)

pub joined_caller : (o p : seen.Core) (v w : View) → IsCaller o v → IsCaller p w → IsCaller o (both v w)
joined_caller o p v w mine theirs =
    record {
      origin_is = mine.origin_is;
      keeps = neither v.keeps w.keeps mine.keeps theirs.keeps;
      list = ap (λ b. cond b v.list w.list) mine.keeps ∙ theirs.list;
      names = more_names v.names w.names mine.names;
    }

pub lending_caller : (o : seen.Core) (v : View) → IsCaller o v → IsCaller o (lends v)
lending_caller o v mine =
    record {
      origin_is = mine.origin_is;
      keeps = mine.keeps;
      list = mine.list;
      names = lent_names v.names mine.names;
    }

pub first_caller : (o run : seen.Core) → run ≡ o → IsCaller o (caller_of (first_view run))
first_caller o run is =
    record {
      origin_is = is;
      keeps = refl;
      list = refl;
      names = (record { name = []; lent = 0 }, [], refl);
    }

-- what a call under the lock gave the seat, the caller has gained
pub ok_made : {E : Type 0} (r : Result Receipt E) (old new : Held) (me : Sight) (call : Call) → sight_of old ≡ me
    → IfOk r (λ x. x.asked ≡ asked_by call)
    → IfOk r (λ x. (old.view.seen ≤ x.number)
    × ◌≡◌ {A = Held} new (record
    { tag = old.tag; view = with_receipt old.view x.number (record { call = call; answer = x.answer }) }))
    → IfOk r (λ x. IsMade call me x (sight_of new))
ok_made (Ok x) old new me call is asked h =
    record {
      asked = asked;
      later = subst (λ (s : Sight). s.seen ≤ x.number) is h.0;
      receipt = ap sight_of h.1 ∙ ap (λ m. gains m x.number (record { call = call; answer = x.answer })) is;
    }
ok_made (Err e) old new me call is asked h = tt

-- a whole caller with the keeper's list tells all of the core
pub tells_all : (run : seen.Core) (h : Held) (k : View) (me : Sight) → sight_of h ≡ me → k.list ≡ run.entries
    → is_whole me.names ≡ true → HasAll (takes h.view k)
    → TellAll me.origin me.receipts run.entries
tells_all run h k me is list whole has =
    subst (λ (s : Sight). is_whole s.names ≡ true → TellAll s.origin s.receipts run.entries) is
    (λ w. subst (λ es. TellAll h.view.origin h.view.receipts es) list (has w)) whole
