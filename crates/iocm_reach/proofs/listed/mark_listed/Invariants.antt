-- The images so far are marked where they pass the test, and the others are as before.
use Rattle.std.proofs.Common.{◌≡◌, ◌≢◌, ℕ, ◌<◌, ◌≤◌, ◌||◌, None, Some, get_or}
use Rattle.iocm_model.specs.Machine.Sight.{record_lists}
use Rattle.iocm_reach.specs.Marking.{mark_at}
use Rattle.iocm_reach.specs.Reached.{is_named}
use Rattle.iocm_reach.proofs.listed.mark_listed.Given as goal

abbrev pub invariant-loop-mif : goal.invariant-loop-mif
invariant-loop-mif g l = record {
  so_far : (mif : ℕ) → 0 < mif → mif < l.mif
      → mark_at l.listed l.fn.path mif
      ≡ (mark_at l.fn.listed l.fn.path mif || is_named (λ n. record_lists n (Some l.entry)) (get_or l.names mif None));
  coming : (mif : ℕ) → l.mif ≤ mif → mif < 16 → mark_at l.listed l.fn.path mif ≡ mark_at l.fn.listed l.fn.path mif;
  others : (other mif : ℕ) → other ≢ l.fn.path → mif < 16 → mark_at l.listed other mif ≡ mark_at l.fn.listed other mif;
  near : l.near ≤ l.mif;
}
