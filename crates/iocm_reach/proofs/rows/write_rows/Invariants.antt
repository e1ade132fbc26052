-- The places so far have their marks, and the others are as before.
use Rattle.std.proofs.Common.{◌≡◌, ℕ, ◌+◌, ◌<◌, ◌≤◌, ◌⊎◌, false, length, get_or}
use Rattle.iocm_reach.specs.Tabled.{neither}
use Rattle.iocm_reach.proofs.rows.write_rows.Given as goal

abbrev pub invariant-loop-place : goal.invariant-loop-place
invariant-loop-place l = record {
  so_far : (at : ℕ) → l.first ≤ at → at < l.place
      → get_or l.table (l.start + at) neither
      ≡ record { reached = get_or l.listed at false; online = get_or l.online at false };
  others : (at : ℕ) → (at < l.start + l.first) ⊎ (l.start + l.end ≤ at)
      → get_or l.table at neither ≡ get_or l.fn.table at neither;
  long : length l.table ≡ length l.fn.table;
}
