-- Statements that are read as records are read behind each other: as the records of all of them,
-- where no key stands twice and ID and RESOURCE stand once at most.
use Rattle.std.proofs.Common.{◌≡◌, ℕ, ◌||◌, Bool, true, false, cond, Option, None, Some, List, [], ◌∷◌, ◌++◌, All, Ok}
use Rattle.std.proofs.Common.{refl, sym, ap, ◌∙◌, subst, append_assoc, append-nil}
use Rattle.std.proofs.lemmas.List.Elements.{All-nil, All-cons}
use Rattle.std.specs.Ordering.{eq_by_cmp}
use Rattle.std.specs.Cmp.{eq_by_cmp_equiv}
use Rattle.std.specs.FinMap.{find}
use Rattle.iocm_types.specs.declared.fault.Fault.{Fault}
use Rattle.iocm_types.specs.declared.rule.Rule.TheVariants.{S4, S8}
use Rattle.iocm_types.specs.Fault.{at}
use Rattle.iocm_types.specs.Key.{key_cmp}
use Rattle.iocm_types.specs.KeyOrder.{keys_total}
use Rattle.iocm_model.specs.Machine.Record.{Rec, ImageRecord, key_of}
use Rattle.iocm_model.specs.Machine.Configuration.{with_keys, HasNoKeyTwice}
use Rattle.iocm_statements.specs.declared.operation.Operation.{Operation}
use Rattle.iocm_statements.specs.declared.operation.Operation.TheVariants.{Id, Resource}
use Rattle.iocm_statements.specs.declared.statement.Statement as read
use Rattle.iocm_record_reader.specs.Deck.{is_of_changes, is_id, is_resource, is_repeated, first_fault, with_records}
use Rattle.iocm_record_reader.specs.Deck.{progress_after, read_from}
use Rattle.iocm_record_reader.specs.Progress.{Progress, has_key}
use Rattle.iocm_deck_writer.specs.Statement.{Statement}
use Rattle.iocm_round_trip.specs.Stating.{CanBeWritten, IsReadAs, as_read, AreReadOf}

-- ---- records go behind others

tells : (b : Bool) (x : Rec) (o : Option Rec) → cond b (Some x) o ≡ None → (b ≡ false) × (o ≡ None)
tells true x o e = cc
tells false x o e = (refl, e)

-- no key of the first ones is that of a record behind them
new_behind : (records : List Rec) (r : Rec) (rs : List Rec) → HasNoKeyTwice (records ++ r ∷ rs)
    → has_key records (key_of r) ≡ false
new_behind [] r rs apart = refl
new_behind (x ∷ records) r rs apart =
    let other : eq_by_cmp key_cmp (key_of x) (key_of r) ≡ false = differs records apart.0 in
    rw ((eq_by_cmp_equiv keys_total).symm (key_of r) (key_of x), other) (new_behind records r rs apart.1)
  where
    differs : (front : List Rec) → find key_cmp (key_of x) (with_keys (front ++ r ∷ rs)) ≡ None
        → eq_by_cmp key_cmp (key_of x) (key_of r) ≡ false
    differs [] none = (tells (eq_by_cmp key_cmp (key_of x) (key_of r)) r (find key_cmp (key_of x) (with_keys rs))
        none).0
    differs (y ∷ front) none =
        differs front (tells (eq_by_cmp key_cmp (key_of x) (key_of y)) y
        (find key_cmp (key_of x) (with_keys (front ++ r ∷ rs))) none).1

all_go_in : (fault : Fault) (records rs : List Rec) → HasNoKeyTwice (records ++ rs)
    → with_records fault records rs ≡ Ok (records ++ rs)
unfolding with_records
all_go_in fault records [] apart = ap Ok (sym (append-nil records))
all_go_in fault records (r ∷ rs) apart =
    let moved : records ++ r ∷ rs ≡ (records ++ r ∷ []) ++ rs = sym (append_assoc records (r ∷ []) rs) in
    rw (new_behind records r rs apart)
    (all_go_in fault (records ++ r ∷ []) rs (subst HasNoKeyTwice moved apart) ∙ ap Ok (sym moved))

-- ---- a statement

-- what was read, with the records of a further statement
abbrev after : Progress → Operation → List Rec → Progress
after p operation rs = record {
  has_id = p.has_id || is_id operation;
  has_resource = p.has_resource || is_resource operation;
  records = p.records ++ rs;
}

statement_goes_in : (images : List ImageRecord) (p : Progress) (line : ℕ) (s : Statement) (rs : List Rec)
    → IsReadAs s rs
    → is_of_changes s.operation ≡ false → is_repeated p s.operation ≡ false → HasNoKeyTwice (p.records ++ rs)
    → progress_after images p (as_read line s) ≡ Ok (after p s.operation rs)
statement_goes_in images p line s rs is of_decks first apart =
    let none : first_fault p (as_read line s) ≡ None =
    rw (of_decks, first, is.no_fault.complete, is.no_fault.taken, is.no_fault.formed) refl in
    rw (none, is.is_read (at S4 line) images, all_go_in (at S8 line) p.records rs apart) refl

-- ---- statements

-- statements that are read as these records, one behind the other
abbrev pub Give : List Statement → List Rec → Type 0
Give [] out = out ≡ []
Give (s ∷ ss) out = (first : List Rec) × (rest : List Rec) × IsReadAs s first × (out ≡ first ++ rest) × Give ss rest

pub give_both : (ss tt : List Statement) (a b : List Rec) → Give ss a → Give tt b → Give (ss ++ tt) (a ++ b)
give_both [] tt a b first second = subst (Give tt) (ap (λ front. front ++ b) (sym first)) second
give_both (s ∷ ss) tt a b (front, rest, is, same, more) second =
    (front, rest ++ b, is, ap (λ all. all ++ b) same ∙ append_assoc front rest b, give_both ss tt rest b more second)

pub written_each : (ss : List Statement) (out : List Rec) → Give ss out → All CanBeWritten ss
written_each [] out give = All-nil CanBeWritten
written_each (s ∷ ss) out (front, rest, is, same, more) =
    All-cons CanBeWritten s ss is.written (written_each ss rest more)

-- statements of configuration decks, with one ID and one RESOURCE at most, where these may have
-- stood before
abbrev pub AreOnce : Bool → Bool → List Statement → Type 0
AreOnce had_id had_resource [] = Unit {0}
AreOnce had_id had_resource (s ∷ ss) =
    (is_of_changes s.operation ≡ false)
    × (is_repeated (record { has_id = had_id; has_resource = had_resource; records = [] }) s.operation ≡ false)
    × AreOnce (had_id || is_id s.operation) (had_resource || is_resource s.operation) ss

same_repeated : (p : Progress) (operation : Operation)
    → is_repeated (record { has_id = p.has_id; has_resource = p.has_resource; records = [] }) operation
    ≡ is_repeated p operation
same_repeated p Id = refl
same_repeated p Resource = refl
same_repeated p operation = refl

first_apart : (records first rest out : List Rec) → out ≡ first ++ rest → HasNoKeyTwice (records ++ out)
    → HasNoKeyTwice ((records ++ first) ++ rest)
first_apart records first rest out same apart =
    subst HasNoKeyTwice (ap (λ more. records ++ more) same ∙ sym (append_assoc records first rest)) apart

front_apart : (front rest : List Rec) → HasNoKeyTwice (front ++ rest) → HasNoKeyTwice front
front_apart [] rest apart = tt
front_apart (x ∷ front) rest apart = (absent front apart.0, front_apart front rest apart.1)
  where
    absent : (ys : List Rec) → find key_cmp (key_of x) (with_keys (ys ++ rest)) ≡ None
        → find key_cmp (key_of x) (with_keys ys) ≡ None
    absent [] none = refl
    absent (y ∷ ys) none =
        let parts = tells (eq_by_cmp key_cmp (key_of x) (key_of y)) y (find key_cmp (key_of x) (with_keys (ys ++ rest)))
        none in
        rw parts.0 (absent ys parts.1)

pub all_are_read : (images : List ImageRecord) (ss : List Statement) (rs : List read.Statement) (p : Progress)
    (out : List Rec) → Give ss out → AreReadOf ss rs
    → AreOnce p.has_id p.has_resource ss → HasNoKeyTwice (p.records ++ out)
    → read_from images p rs ≡ Ok (p.records ++ out)
unfolding read_from
all_are_read images [] [] p out give are once apart =
    ap Ok (sym (append-nil p.records) ∙ ap (λ more. p.records ++ more) (sym give))
all_are_read images [] (r ∷ rs) p out give are once apart = absurd are
all_are_read images (s ∷ ss) [] p out give are once apart = absurd are
all_are_read images (s ∷ ss) (r ∷ rs) p out (first, rest, is, same, more) are once apart =
    let moved : HasNoKeyTwice ((p.records ++ first) ++ rest) = first_apart p.records first rest out same apart in
    let here : progress_after images p r ≡ Ok (after p s.operation first) = ap (progress_after images p) are.0
    ∙ statement_goes_in images p r.line s first is once.0 (sym (same_repeated p s.operation) ∙ once.1)
    (front_apart (p.records ++ first) rest moved) in
    rw here (all_are_read images ss rs (after p s.operation first) rest more are.1 once.2 moved
    ∙ ap Ok (append_assoc p.records first rest ∙ ap (λ all. p.records ++ all) (sym same)))
