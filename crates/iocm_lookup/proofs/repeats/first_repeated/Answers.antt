-- Before the first user none is met; and one user more.
use Rattle.std.proofs.Common.{◌≡◌, ℕ, Bool, false, ◌&&◌, Option, get_or, sym, ap, ◌∙◌}
use Rattle.std.proofs.lemmas.Map.Iter.{rest_more}
use Rattle.std.specs.Option.{option_copied, option_map_or}
use Rattle.iocm_types.specs.declared.key.Key.{Key}
use Rattle.iocm_model.specs.Machine.Record.{Rec}
use Rattle.iocm_model.specs.Machine.Configuration.{Configuration, lookup_of}
use Rattle.iocm_lookup.specs.Among.{is_so_at}
use Rattle.iocm_lookup.specs.Repeats.{address_in, first_repeated, is_met, met_with}
use Rattle.iocm_lookup.proofs.RepeatedUsers.{none_met, more_met}
use Rattle.iocm_lookup.proofs.repeats.first_repeated.Goals as goal

pub loop-user-init : goal.loop-user-init
loop-user-init g c = let records = c.args.config.now.records in
    let address : Key → Option ℕ =
    λ k. address_in (g.D.Addressed.address_of c.args.addressed.now) (lookup_of records k) in
    let wanted : Key → Bool = is_so_at (g.D.Addressed.wants c.args.addressed.now records) (lookup_of records) in (
      c.new-records.ensures,
      ap (λ (met : ℕ → Bool). first_repeated address wanted met c.into_iter-user-iterator.result)
          (λ i a. none_met 256 a i)
          ∙ ap (first_repeated address wanted (λ a. false))
          (c.into_iter-user-iterator.ensures.into_iter_gives ∙ c.users_of-user-items.ensures.users),
    )

pub loop-user-preserved : goal.loop-user-preserved
loop-user-preserved g c = let records = c.args.config.now.records in
    let user = c.in-Some.user in
    let of : Rec → Option ℕ = g.D.Addressed.address_of c.args.addressed.now in
    let wants : Rec → Bool = g.D.Addressed.wants c.args.addressed.now records in
    let address : Key → Option ℕ = λ k. address_in of (lookup_of records k) in
    let wanted : Key → Bool = is_so_at wants (lookup_of records) in
    let met : ℕ → Bool = λ a. get_or c.loop-user.met a false in
    let there : option_copied c.find-found.result ≡ lookup_of records user =
    c.find-found.ensures.record ∙ ap (λ (m : Configuration). lookup_of m user) c.loop-user.invariant.0 in (
      c.find-found.ensures.same ∙ c.loop-user.invariant.0,
      more_met address wanted met (λ a. get_or c.is_repeated.new.met a false) user c.next.new.self
          (ap (λ (o : Option Rec). is_met met (address_in of o) && option_map_or wants o false) (sym there)
          ∙ sym c.is_repeated.ensures.repeated ∙ c.if-is_repeated.false)
          (λ b. c.is_repeated.ensures.noted b ∙ ap (λ (o : Option Rec). met_with (address_in of o) met b) there)
          ∙ ap (first_repeated address wanted met)
          (sym (rest_more (λ (q : Key). q) _ _ _ user c.in-Some.is c.next.ensures.steps))
          ∙ c.loop-user.invariant.1,
    )
