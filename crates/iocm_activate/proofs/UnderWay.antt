-- In the middle of the parts of a node, in memory: how far a walk through them has come.
use Rattle.std.proofs.Common.{◌≡◌, ℕ, ◌+◌, ◌<◌, ◌≤◌, ◌^◌, List, length, take, Some, None, sym, subst}
use Rattle.iocm_types.specs.declared.refused.Refused.{Refused}
use Rattle.iocm_model.specs.Operation.State.{HasLives}
use Rattle.iocm_model.specs.Change.Meaning.{Outcome, if_rules_hold, node_meaning, parts_meaning, choice_meaning}
use Rattle.iocm_model.specs.Change.Tree.{nodes_of, nodes_in}
use Rattle.iocm_tree.specs.Trees.{tree_of, parts_of, plain_tree, plain_parts}
use Rattle.iocm_tree.specs.declared.tree.Tree.{Tree}
use Rattle.iocm_plant.specs.Between.{CanStillUnapply, PlacesAreKeptOn, SamePlacesAreKept}
use Rattle.iocm_plant.specs.Operating.{Operating}
use Rattle.iocm_activate.specs.Going.{GoesOn, ChoosesOn}
use Rattle.iocm_activate.specs.Walked.{Answers, WereKept}
use Rattle.iocm_activate.specs.declared.log.Log.{Log}
use Rattle.iocm_activate.proofs.Kept.{sound_now, kept_still}
use Rattle.iocm_activate.proofs.Next.{IsNext, from, fewer, none_next}
use Rattle.iocm_activate.proofs.Parts.{RanFromMark, goes_first, goes_next, goes_no_further, goes_to_the_end, goes_at}
use Rattle.iocm_activate.proofs.Parts.{chooses_first, chosen, chooses_next, none_chosen, chooses_at, done_then}
use Rattle.iocm_activate.proofs.Parts.{keys_then}

-- ---- parts in order

-- some parts were performed, those from a place on are left, and the first of them has this number
pub record WalksOn {A : Type 0} (meant : Outcome) (shown : List (Tree A)) (i node : ℕ) (p : Operating) (first : Log)
    (q : Operating) (log : Log)
    : Type 0 where
  pub few : node + nodes_in (from shown i) < 2 ^ 64
  pub kept : WereKept log q.state
  pub goes : GoesOn meant (from shown i) node p first q log

-- a walk sets out
pub walks_first : {A : Type 0} → SamePlacesAreKept → (shown xs : List (Tree A)) → shown ≡ xs
    → (node : ℕ) (p : Operating) (log : Log)
    → node + nodes_in (plain_parts (parts_of xs)) < 2 ^ 64 → WereKept log p.state
    → WalksOn (parts_meaning (plain_parts (parts_of xs)) node p.state) shown 0 node p log p log
walks_first same shown xs all node p log few kept =
    subst (λ ys. WalksOn (parts_meaning (plain_parts (parts_of xs)) node p.state) ys 0 node p log p log) (sym all)
    (record { few = few; kept = kept; goes = goes_first same (plain_parts (parts_of xs)) node p log })

module _ {A : Type 0} {meant : Outcome} {shown : List (Tree A)} {i node : ℕ} {x : Tree A} {p : Operating} {first : Log}
    {q : Operating} {log : Log}
    (w : WalksOn meant shown i node p first q log) (next : IsNext shown i x) (places : PlacesAreKeptOn)
    (still : CanStillUnapply) where
  -- the next part was performed
  pub walks_next : {r : Operating} {third : Log}
      → Answers (node_meaning (plain_tree (tree_of x)) node q.state) q log r third None
      → WereKept third r.state → (size : ℕ) → size ≡ nodes_of (plain_tree (tree_of x))
      → WalksOn meant shown (i + 1) (node + size) p first r third
  walks_next {r} {third} a kept size is =
      subst (λ k. WalksOn meant shown (i + 1) (node + k) p first r third) (sym is) (record {
        few = fewer next node w.few;
        kept = kept;
        goes = goes_next places still (goes_at next w.goes) a (sound_now kept).lived;
      })

  -- the next part was refused
  pub walks_no_further : {r : Operating} {third : Log} {why : Refused}
      → Answers (node_meaning (plain_tree (tree_of x)) node q.state) q log r third (Some why)
      → WereKept third r.state → Answers meant p first r third (Some why)
  walks_no_further a kept = goes_no_further places still (goes_at next w.goes) a (sound_now kept).lived

-- all parts were performed
pub walks_to_the_end : {A : Type 0} {meant : Outcome} {shown : List (Tree A)} {i node : ℕ} {p : Operating} {first : Log}
    {q : Operating} {log : Log}
    → WalksOn meant shown i node p first q log → length shown ≤ i → Answers meant p first q log None
walks_to_the_end {A} {meant} {shown} {i} {node} {p} {first} {q} {log} w past =
    goes_to_the_end (subst (λ ps. GoesOn meant ps node p first q log) (none_next shown i past) w.goes)

-- ---- the parts of a Choose

-- some parts were refused, the last with this refusal, and those from a place on are left
pub record TriesOn {A : Type 0} (meant : Outcome) (shown : List (Tree A)) (i node : ℕ) (last : Refused) (p : Operating)
    (first : Log)
    (q : Operating) (log : Log) : Type 0 where
  pub few : node + nodes_in (from shown i) < 2 ^ 64
  pub kept : WereKept log q.state
  pub chooses : ChoosesOn meant (from shown i) node last p first q log

-- the first part is tried first
pub tries_first : {A : Type 0} → SamePlacesAreKept → (shown xs : List (Tree A)) → shown ≡ xs
    → (node : ℕ) (last none : Refused) → last ≡ none
    → (p : Operating) (log : Log) → node + nodes_in (plain_parts (parts_of xs)) < 2 ^ 64 → WereKept log p.state
    → TriesOn (choice_meaning (plain_parts (parts_of xs)) node none p.state) shown 0 node last p log p log
tries_first same shown xs all node last none is p log few kept =
    subst (λ ys. TriesOn (choice_meaning (plain_parts (parts_of xs)) node none p.state) ys 0 node last p log p log)
    (sym all)
    (subst (λ why. TriesOn (choice_meaning (plain_parts (parts_of xs)) node none p.state) xs 0 node why p log p log)
    (sym is)
    (record { few = few; kept = kept; chooses = chooses_first same (plain_parts (parts_of xs)) node none p log }))

module _ {A : Type 0} {meant : Outcome} {shown : List (Tree A)} {i node : ℕ} {x : Tree A} {last : Refused}
    {p : Operating} {first : Log} {q : Operating}
    {log : Log} (w : TriesOn meant shown i node last p first q log) (next : IsNext shown i x) (places : PlacesAreKeptOn)
    (still : CanStillUnapply) where
  -- the next part was accepted
  pub tries_no_further : {r : Operating} {third : Log}
      → Answers (if_rules_hold node (node_meaning (plain_tree (tree_of x)) node q.state)) q log r third None
      → WereKept third r.state → Answers meant p first r third None
  tries_no_further a kept = chosen places still (chooses_at next w.chooses) a (sound_now kept).lived

  -- the next part was refused, and what was done for it was taken back
  pub tries_next : {r : Operating} {third : Log} {why : Refused} {done keys : ℕ}
      → Answers (if_rules_hold node (node_meaning (plain_tree (tree_of x)) node q.state)) q log r third (Some why)
      → RanFromMark q log r third done keys
      → (u : Operating) (fourth : Log) → u.state ≡ q.state → u.room ≡ r.room
      → fourth.done.items ≡ take done third.done.items
      → fourth.keys.items ≡ take keys third.keys.items → fourth.kept ≡ log.kept → (size : ℕ)
      → size ≡ nodes_of (plain_tree (tree_of x))
      → TriesOn meant shown (i + 1) (node + size) why p first u fourth
  tries_next {r} {third} {why} a mark u fourth state room done keys kept size is =
      subst (λ k. TriesOn meant shown (i + 1) (node + k) why p first u fourth) (sym is) (record {
        few = fewer next node w.few;
        kept = kept_still log fourth q.state u.state w.kept (keys_then mark fourth keys) kept state;
        chooses = chooses_next places still u fourth (chooses_at next w.chooses) a state room
            (done_then mark fourth done) (keys_then mark fourth keys)
            (subst HasLives (sym state) (sound_now w.kept).lived);
      })

-- all parts were refused
pub tries_to_the_end : {A : Type 0} {meant : Outcome} {shown : List (Tree A)} {i node : ℕ} {last : Refused}
    {p : Operating} {first : Log} {q : Operating}
    {log : Log} → TriesOn meant shown i node last p first q log → length shown ≤ i
    → Answers meant p first q log (Some last)
tries_to_the_end {A} {meant} {shown} {i} {node} {last} {p} {first} {q} {log} w past =
    none_chosen (subst (λ ps. ChoosesOn meant ps node last p first q log) (none_next shown i past) w.chooses)
