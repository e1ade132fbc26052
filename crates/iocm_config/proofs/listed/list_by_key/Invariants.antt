-- The records so far, in two parts.
use Rattle.std.proofs.Common.{◌≡◌, not, filter}
use Rattle.iocm_model.specs.Machine.Configuration.{with_keys}
use Rattle.iocm_config.specs.OnlineLast.{is_online}
use Rattle.iocm_config.proofs.listed.list_by_key.Given as goal

abbrev pub invariant-loop-entry : goal.invariant-loop-entry
invariant-loop-entry g l = record {
  others : l.listed.items ≡ filter (λ e. not (is_online e.0)) (with_keys l.yielded);
  onlines : l.onlines.items ≡ filter (λ e. is_online e.0) (with_keys l.yielded);
}
