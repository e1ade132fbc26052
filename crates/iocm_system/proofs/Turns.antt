-- A turn goes on by a call, or ends.
use Rattle.std.proofs.Common.{◌≡◌, ◌≤◌, ℕ, suc, List, [], ◌∷◌, ◌++◌, length, refl, sym, ap, ◌∙◌, subst, arith}
use Rattle.std.proofs.lemmas.List.{append_assoc, append-nil, map-append, length-map}
use Rattle.iocm_core.specs.declared.call.Call.{Call}
use Rattle.iocm_board.specs.Receipts.{made}
use Rattle.iocm_types.specs.declared.rule.Rule.{Rule}
use Rattle.iocm_types.specs.declared.rule.Rule.TheVariants as rules
use Rattle.iocm_system.specs.Asking.{asked_by}
use Rattle.iocm_system.specs.Backs.{IsBack}
use Rattle.iocm_system.specs.Sights.{Sight, gains, sees_now}
use Rattle.iocm_system.specs.Turns.{gained, EndsATurn, Rise, IsTurn}
use Rattle.iocm_system.specs.declared.receipt.Receipt.{Receipt}

gained_last : (cs : List Call) (rs : List Receipt) (c : Call) (r : Receipt) → length rs ≡ length cs
    → gained (cs ++ c ∷ []) (rs ++ r ∷ []) ≡ gained cs rs ++ made r.number (record { call = c; answer = r.answer }) ∷ []
gained_last [] [] c r e = refl
gained_last [] (x ∷ rs) c r e = absurd (omega arith)
gained_last (x ∷ cs) [] c r e = absurd (omega arith)
gained_last (x ∷ cs) (y ∷ rs) c r e =
    ap (λ ms. made y.number (record { call = x; answer = y.answer }) ∷ ms) (gained_last cs rs c r (omega arith))

rise_last : (from below : ℕ) (rs : List Receipt) (r : Receipt) → Rise from rs below → below ≤ r.number
    → Rise from (rs ++ r ∷ []) (suc r.number)
rise_last from below [] r h low = (omega (arith, h, low), omega arith)
rise_last from below (x ∷ rs) r h low = (h.0, rise_last (suc x.number) below rs r h.1 low)

rise_more : (from below more : ℕ) (rs : List Receipt) → Rise from rs below → below ≤ more → Rise from rs more
rise_more from below more [] h le = omega (arith, h, le)
rise_more from below more (x ∷ rs) h le = (h.0, rise_more (suc x.number) below more rs h.1 le)

pub turn_begins : (calls : List Call) (me : Sight) → IsTurn calls me me [] calls
turn_begins calls me =
    record {
      first = [];
      all = refl;
      asked = refl;
      gained_are = sym (append-nil me.receipts);
      rise = omega arith;
      tag = refl;
      origin = refl;
      names = refl;
    }

pub turn_goes_on : (calls : List Call) (old now new : Sight) (rs : List Receipt) (c : Call) (rest : List Call)
    (r : Receipt) → IsTurn calls old now rs (c ∷ rest) → r.asked ≡ asked_by c
    → now.seen ≤ r.number → new ≡ gains now r.number (record { call = c; answer = r.answer })
    → IsTurn calls old new (rs ++ r ∷ []) rest
turn_goes_on calls old now new rs c rest r t asked later is =
    let many : length rs ≡ length t.first =
    sym (length-map rs (λ (x : Receipt). x.asked)) ∙ ap length t.asked ∙ length-map t.first asked_by in
    subst (λ s. IsTurn calls old s (rs ++ r ∷ []) rest) (sym is) (record {
      first = t.first ++ c ∷ [];
      all = t.all ∙ sym (append_assoc t.first (c ∷ []) rest);
      asked = map-append (λ (x : Receipt). x.asked) rs (r ∷ []) ∙ (λ i. t.asked i ++ asked i ∷ [])
          ∙ sym (map-append asked_by t.first (c ∷ []));
      gained_are = ap (λ ms. ms ++ made r.number (record { call = c; answer = r.answer }) ∷ []) t.gained_are
          ∙ append_assoc old.receipts (gained t.first rs) (made r.number (record { call = c; answer = r.answer }) ∷ [])
          ∙ ap (λ ms. old.receipts ++ ms) (sym (gained_last t.first rs c r many));
      rise = rise_last old.seen now.seen rs r t.rise later;
      tag = t.tag;
      origin = t.origin;
      names = t.names;
    })

-- a caller with a call handed back has seen as much, or more, and nothing else is new
back_sees : (calls : List Call) (old now : Sight) (rs : List Receipt) (rest : List Call) (n : ℕ)
    → IsTurn calls old now rs rest → now.seen ≤ n → IsTurn calls old (sees_now now n) rs rest
back_sees calls old now rs rest n t more =
    record {
      first = t.first;
      all = t.all;
      asked = t.asked;
      gained_are = t.gained_are;
      rise = rise_more old.seen now.seen n rs t.rise more;
      tag = t.tag;
      origin = t.origin;
      names = t.names;
    }

pub turn_ends : (calls : List Call) (old now new : Sight) (rs : List Receipt) (rest : List Call) (why : Rule)
    → IsTurn calls old now rs rest → IsBack why now new → IsTurn calls old new rs rest
turn_ends calls old now new rs rest rules.O3 t back =
    subst (λ s. IsTurn calls old s rs rest) (sym back.1) (back_sees calls old now rs rest now.origin.room t back.0)
turn_ends calls old now new rs rest rules.X1 t back = subst (λ s. IsTurn calls old s rs rest) (sym back) t
turn_ends calls old now new rs rest _ t back = absurd back

-- a call that is handed back ends a turn
pub why_back : (why : Rule) (old new : Sight) → IsBack why old new → EndsATurn why new
why_back rules.O3 old new back = ap (λ (s : Sight). s.seen) back.1 ∙ sym (ap (λ (s : Sight). s.origin.room) back.1)
why_back rules.X1 old new back = tt
why_back _ old new back = absurd back
