-- The images so far are marked where they pass the test, and the others are as before.
use Rattle.std.proofs.Common.{◌≡◌, ◌≢◌, ℕ, ◌<◌, ◌≤◌, ◌||◌, None, get_or, nat_eq}
use Rattle.std.specs.Cmp.Lexicographic.{pointwise}
use Rattle.iocm_reach.specs.Marking.{mark_at}
use Rattle.iocm_reach.specs.Reached.{is_named}
use Rattle.iocm_reach.proofs.online.mark_online.Given as goal

abbrev pub invariant-loop-mif : goal.invariant-loop-mif
invariant-loop-mif l = record {
  so_far : (mif : ℕ) → 0 < mif → mif < l.mif
      → mark_at l.online l.row.path mif
      ≡ (mark_at l.fn.online l.row.path mif || is_named (λ n. pointwise nat_eq n l.row.name) (get_or l.names mif None));
  coming : (mif : ℕ) → l.mif ≤ mif → mif < 16 → mark_at l.online l.row.path mif ≡ mark_at l.fn.online l.row.path mif;
  others : (other mif : ℕ) → other ≢ l.row.path → mif < 16 → mark_at l.online other mif ≡ mark_at l.fn.online other mif;
}
