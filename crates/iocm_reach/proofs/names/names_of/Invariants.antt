-- The names so far are those of the images.
use Rattle.std.proofs.Common.{◌≡◌, ℕ, ◌<◌, None, IfSome, IsTrue, get_or}
use Rattle.iocm_types.specs.Name.{is_name}
use Rattle.iocm_model.specs.Machine.Configuration.{lookup_of}
use Rattle.iocm_derive.specs.Derived.{name_at}
use Rattle.iocm_reach.specs.Reached.{image_in}
use Rattle.iocm_reach.proofs.names.names_of.Given as goal

abbrev pub invariant-loop-number : goal.invariant-loop-number
invariant-loop-number g l = record {
  same : l.images ≡ l.config.records;
  so_far : (mif : ℕ) → 0 < mif → mif < l.number
      → get_or l.names mif None ≡ name_at (lookup_of l.config.records) (image_in l.css mif);
  valid : (mif : ℕ) → 0 < mif → mif < l.number
      → IfSome (name_at (lookup_of l.config.records) (image_in l.css mif)) (λ name. IsTrue (is_name name));
}
