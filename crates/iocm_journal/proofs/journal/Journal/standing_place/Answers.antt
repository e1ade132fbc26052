-- A standing change is at its place.
use Rattle.std.proofs.Common.{◌≡◌, ℕ, ◌+◌, ap, ◌∙◌, arith}
use Rattle.iocm_journal.specs.Standing.{stands_at}
use Rattle.iocm_journal.proofs.Places.{stands_past, stands_item}
use Rattle.iocm_journal.proofs.journal.Journal.standing_place.Goals as goal

pub returns-in_err-place : goal.returns-in_err-place
returns-in_err-place c = rw c.from_residual.ensures (λ at is. stands_past _ _ (c.in_err-place.ensures at is))

pub returns-then-not-kept_at : goal.returns-then-not-kept_at
returns-then-not-kept_at c = λ at is.
    ap (stands_at c.args.self.now.changes) (same at c.in_ok-place.place c.args.number is c.in_ok-place.ensures.0)
    ∙ stands_item c.args.self.now.changes c.in_ok-place.place c.kept_at.result.now c.kept_at.ensures
    ∙ c.if-not-kept_at.true
  where
    same : (a b n : ℕ) → n ≡ a + 1 → n ≡ b + 1 → a ≡ b
    same a b n p q = omega (arith, p, q)

pub returns : goal.returns
returns c = (
  c.in_ok-place.ensures.0,
  stands_item c.args.self.now.changes c.in_ok-place.place c.kept_at.result.now c.kept_at.ensures
      ∙ c.if-not-kept_at.false,
)
