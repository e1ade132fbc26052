-- Lines that are read behind each other.
use Rattle.std.proofs.Common.{◌≡◌, ℕ, List, [], ◌∷◌, ◌++◌, Ok, refl, ap, ◌∙◌, append_assoc}
use Rattle.iocm_types.specs.Fault.{◌>>=◌}
use Rattle.iocm_statements.specs.declared.statement.Statement.{Statement}
use Rattle.iocm_tree_reader.specs.Reading.{Reading, read_next, read_from}
use Rattle.iocm_tree_writer.specs.Again.{as_read}
use Rattle.iocm_tree_writer.specs.Written.{Line}

-- statements that are read of lines, each at some line of the deck
abbrev pub AreReadOf : List Line → List Statement → Type 0
AreReadOf [] [] = Unit {0}
AreReadOf (l ∷ ls) (s ∷ ss) = (s ≡ as_read s.line l) × AreReadOf ls ss
AreReadOf _ _ = ⊥

-- where these lines are read, what was read goes from one state to another
abbrev pub Puts : List Line → Reading → Reading → Type 0
Puts ls r q = (ss rest : List Statement) → AreReadOf ls ss → read_from r (ss ++ rest) ≡ read_from q rest

-- the statements of lines, and of those behind them
record IsParted (a b : List Line) (ss : List Statement) : Type 0 where
  pub front : List Statement
  pub back : List Statement
  pub is : ss ≡ front ++ back
  pub first : AreReadOf a front
  pub second : AreReadOf b back

parted : (a b : List Line) (ss : List Statement) → AreReadOf (a ++ b) ss → IsParted a b ss
parted [] b ss are = record { front = []; back = ss; is = refl; first = tt; second = are }
parted (l ∷ a) b [] are = absurd are
parted (l ∷ a) b (s ∷ ss) are =
    let rest = parted a b ss are.1 in
    record {
      front = s ∷ rest.front;
      back = rest.back;
      is = ap (λ more. s ∷ more) rest.is;
      first = (are.0, rest.first);
      second = rest.second;
    }

pub puts_none : (r : Reading) → Puts [] r r
puts_none r [] rest are = refl
puts_none r (s ∷ ss) rest are = absurd are

pub puts_both : (a b : List Line) (r q p : Reading) → Puts a r q → Puts b q p → Puts (a ++ b) r p
puts_both a b r q p first second ss rest are =
    let two = parted a b ss are in
    ap (λ all. read_from r (all ++ rest)) two.is ∙ ap (read_from r) (append_assoc two.front two.back rest)
    ∙ first two.front (two.back ++ rest) two.first ∙ second two.back rest two.second

pub puts_one : (l : Line) (r q : Reading) → ((line : ℕ) → read_next r (as_read line l) ≡ Ok q) → Puts (l ∷ []) r q
unfolding read_from
puts_one l r q is [] rest are = absurd are
puts_one l r q is (s ∷ []) rest are =
    ap (λ x. read_next r x >>= λ p. read_from p rest) are.0 ∙ ap (λ found. found >>= λ p. read_from p rest) (is s.line)
puts_one l r q is (s ∷ t ∷ ss) rest are = absurd are.1
