-- The online records of a path before one of them.
use Rattle.std.proofs.Common.{◌≡◌, ℕ, Bool, true, false, not, nat_eq, ◌&&◌, is_some, Option, List, refl, sym, ap, ◌∙◌}
use Rattle.std.proofs.Common.{arith}
use Rattle.std.proofs.lemmas.Bool.{false≢true}
use Rattle.std.proofs.lemmas.Bool.Decides.{nat_tests}
use Rattle.std.specs.Option.{option_map}
use Rattle.std.specs.Ordering.{is_le, is_lt}
use Rattle.std.specs.declared.cmp.Ordering.{Ordering}
use Rattle.std.specs.declared.cmp.Ordering.TheVariants.{Less, Equal, Greater}
use Rattle.iocm_types.specs.declared.key.Key.{Key}
use Rattle.iocm_types.specs.declared.key.Key.TheVariants as key
use Rattle.iocm_types.specs.Key.{key_cmp}
use Rattle.iocm_types.specs.KeyOrder.{keys_total}
use Rattle.iocm_model.specs.Machine.Record.{Rec, OnlineRecord, id, resource, image, limit, path, unit, device, online}
use Rattle.iocm_model.specs.Machine.Record.{key_of}
use Rattle.iocm_model.specs.Machine.Configuration.{Configuration, records_of}
use Rattle.iocm_model.specs.Rules.EachRule.{stands_before, some_before, is_online_at}
use Rattle.iocm_model.specs.Rules.FirstBreach.{first_record}
use Rattle.iocm_lookup.proofs.Walks.{AreBehind, first_of_any}

module _ (css number : ℕ) (name : List ℕ) where
  abbrev own : OnlineRecord
  own = record { css = css; path = number; name = name }

  -- an online record of the path before this one
  abbrev pub is_so : Rec → Bool
  is_so r = stands_before r (online own) && is_online_at css number r

  abbrev pub is_behind : Key → Bool
  is_behind k = not (is_lt (key_cmp k (key.Online css number name)))

  second : (a b : Bool) → (a && b) ≡ true → b ≡ true
  second true b h = h
  second false b h = absurd (false≢true h)

  first : (a b : Bool) → (a && b) ≡ true → a ≡ true
  first true b h = refl
  first false b h = absurd (false≢true h)

  -- none of these is before a key that is not behind any online record of the path
  pub online_from : (f : Key) → ((other : List ℕ) → is_le (key_cmp f (key.Online css number other)) ≡ true)
      → (r : Rec) → is_so r ≡ true → is_le (key_cmp f (key_of r)) ≡ true
  online_from f before (online o) so =
      let same = second (stands_before (online o) (online own)) (nat_eq o.css css && nat_eq o.path number) so in
      let on_css : o.css ≡ css = grind (arith, nat_tests) in
      let on_path : o.path ≡ number = grind (arith, nat_tests) in
      (λ i. is_le (key_cmp f (key.Online (on_css i) (on_path i) o.name))) ∙ before o.name
  online_from f before (id x) so = absurd (false≢true (second (stands_before (id x) (online own)) false so))
  online_from f before (resource x) so = absurd (false≢true (second (stands_before (resource x) (online own)) false so))
  online_from f before (image x) so = absurd (false≢true (second (stands_before (image x) (online own)) false so))
  online_from f before (limit x) so = absurd (false≢true (second (stands_before (limit x) (online own)) false so))
  online_from f before (path x) so = absurd (false≢true (second (stands_before (path x) (online own)) false so))
  online_from f before (unit x) so = absurd (false≢true (second (stands_before (unit x) (online own)) false so))
  online_from f before (device x) so = absurd (false≢true (second (stands_before (device x) (online own)) false so))

  behind_rises : (a b : Key) → key_cmp a b ≡ Less → is_behind a ≡ true → is_behind b ≡ true
  behind_rises a b less past = by (key_cmp b (key.Online css number name)) refl
    where
      by : (r : Ordering) → key_cmp b (key.Online css number name) ≡ r
          → not (is_lt (key_cmp b (key.Online css number name))) ≡ true
      by Less is = absurd (false≢true
          (sym (ap (λ r. not (is_lt r)) (keys_total.trans a b (key.Online css number name) less is)) ∙ past))
      by Equal is = ap (λ r. not (is_lt r)) is
      by Greater is = ap (λ r. not (is_lt r)) is

  -- and none is behind it
  pub online_behind : AreBehind is_so is_behind
  online_behind = record {
    rise = behind_rises;
    none = λ r so. ap not (first (stands_before r (online own)) (is_online_at css number r) so);
  }

  -- one before it that is of the path
  pub is_one : (k : Key) (r : Rec) → k ≡ key_of r → is_lt (key_cmp k (key.Online css number name)) ≡ true
      → is_online_at css number r ≡ true → is_so r ≡ true
  is_one k r same less on = let there =
      ap (λ (q : Key). is_lt (key_cmp q (key.Online css number name))) (sym same) ∙ less in (λ i. there i && on i)

  pub is_none : (r : Rec) → is_online_at css number r ≡ false → is_so r ≡ false
  is_none r off = by (stands_before r (online own))
    where
      by : (b : Bool) → (b && is_online_at css number r) ≡ false
      by true = off
      by false = refl

  -- what the walk tells
  pub told_of_online : (c : Configuration) (found : Option Key)
      → found ≡ option_map key_of (first_record is_so (records_of c))
      → is_some found ≡ some_before c (online own) (is_online_at css number)
  told_of_online c found is = ap is_some is ∙ first_of_any is_so (records_of c)
