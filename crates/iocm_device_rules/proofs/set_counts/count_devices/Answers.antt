-- Before the first device; and a count fits.
use Rattle.std.proofs.Common.{◌≡◌, ℕ, ◌+◌, ◌<◌, ◌≤◌, length, get_or, subst, sym, ◌∙◌, arith}
use Rattle.iocm_model.specs.Machine.Configuration.{records_of}
use Rattle.iocm_lookup.specs.Kinds.{of_kind}
use Rattle.iocm_device_rules.specs.SetCounts.{count_among}
use Rattle.iocm_device_rules.proofs.SetCounts.{none_counted, count_fits, counted_by_kind}
use Rattle.iocm_device_rules.proofs.set_counts.count_devices.Goals as goal

pub loop-entry-init : goal.loop-entry-init
loop-entry-init g c s within =
    (λ i. none_counted s i + count_among s
    ((c.into_iter-entry-iterator.ensures.into_iter_gives ∙ c.records_of_kind-entry-items.ensures.records) i))
    ∙ zero_and (count_among s (of_kind 6 (records_of c.args.config.now.records)))
    ∙ counted_by_kind s (records_of c.args.config.now.records)
  where
    zero_and : (n : ℕ) → 0 + n ≡ n
    zero_and n = omega arith

pub count_record-requires : goal.count_record-requires
count_record-requires g c s within =
    count_fits s (get_or c.loop-entry.in_sets s 0) (of_kind 6 (records_of c.args.config.now.records))
    (at_most (get_or c.loop-entry.in_sets s 0) (count_among s c.loop-entry.entry-iterator) _
    (c.loop-entry.invariant s within ∙ sym (counted_by_kind s (records_of c.args.config.now.records))))
    (subst (λ rs. length rs < 9223372036854775808) c.records_of_kind-entry-items.ensures.records
    c.records_of_kind-entry-items.ensures.fits)
  where
    at_most : (a b n : ℕ) → a + b ≡ n → a ≤ n
    at_most a b n is = omega arith
