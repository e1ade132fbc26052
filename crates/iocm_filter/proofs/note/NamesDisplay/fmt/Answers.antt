use Rattle.std.proofs.Common.{◌≡◌, ◌∙◌, ◌≤◌, ◌-◌, ◌++◌, ℕ, List, [], ◌∷◌, length, get_or, take, drop, ap}
use Rattle.std.proofs.Common.{append_assoc, arith, refl}
use Rattle.std.proofs.lemmas.List.{take_all}
use Rattle.std.proofs.Output.{has_written_append}
use Rattle.iocm_filter.specs.Note.{behind_name, names_text}
use Rattle.iocm_filter.proofs.note.NamesDisplay.fmt.Goals as goal

-- the names behind the first
abbrev more : List (List ℕ) → List (List ℕ)
more names = take (length names - 1) (drop 1 names)

-- a name more, and what is behind it
turn : (names : List (List ℕ)) (name behind front whole : List ℕ) → 1 ≤ length names → name ≡ get_or names 0 name
    → behind ≡ behind_name (more names) → front ++ names_text names ≡ whole
    → (front ++ (name ++ behind)) ++ names_text (more names) ≡ whole
turn [] name behind front whole some first is known = absurd (omega arith)
turn (n ∷ ns) name behind front whole some first is known =
    let left : more (n ∷ ns) ≡ ns = take_all _ ns (omega arith) in
    append_assoc front (name ++ behind) (names_text (more (n ∷ ns)))
    ∙ ap (λ (text : List ℕ). front ++ text) (append_assoc name behind (names_text (more (n ∷ ns)))
    ∙ (λ i. first i ++ ((is ∙ ap behind_name left) i ++ names_text (left i))))
    ∙ known

pub loop-rest-preserved : goal.loop-rest-preserved
loop-rest-preserved g c p =
    let (front, (known, wrote)) = c.loop-rest.invariant p in (
      front ++ (c.name-item.result ++ c.behind_name-behind.result.now),
      (
        turn c.loop-rest.rest.now c.name-item.result c.behind_name-behind.result.now front _
            c.in-len1-up.len_at_least c.name-item.is c.behind_name-behind.ensures known,
        has_written_append _ _ front _ _ _ wrote (c.in_ok-write.ensures.writes wrote.plain refl),
      ),
    )
