-- The walk is over the configuration. What the users that are left give, with the addresses met, is
-- the first of all.
use Rattle.std.proofs.Common.{◌≡◌, ℕ, Bool, false, Option, get_or}
use Rattle.iocm_types.specs.declared.key.Key.{Key}
use Rattle.iocm_types.specs.Naming.{naming_cmp}
use Rattle.iocm_table.specs.Slots.{rows}
use Rattle.iocm_index.specs.Namings.{users_in}
use Rattle.iocm_model.specs.Machine.Configuration.{lookup_of}
use Rattle.iocm_lookup.specs.Among.{is_so_at}
use Rattle.iocm_lookup.specs.Repeats.{address_in, first_repeated}
use Rattle.iocm_lookup.proofs.repeats.first_repeated.Given as goal

abbrev pub invariant-loop-user : goal.invariant-loop-user
invariant-loop-user g l = let c = lookup_of l.config.records in
    let address : Key → Option ℕ = λ k. address_in (g.D.Addressed.address_of l.addressed) (c k) in
    let wanted : Key → Bool = is_so_at (g.D.Addressed.wants l.addressed l.config.records) c in
    (l.records ≡ l.config.records) × (first_repeated address wanted (λ a. get_or l.met a false) l.user-iterator
    ≡ first_repeated address wanted (λ a. false) (users_in l.fn.thing (rows naming_cmp l.index)))
