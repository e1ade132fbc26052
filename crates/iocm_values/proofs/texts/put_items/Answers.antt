use Rattle.std.proofs.Common.{arith, ◌≡◌, ◌∙◌, ◌++◌, ◌∷◌, ◌≤◌, ℕ, List, length, get_or, drop, ap, sym, append_assoc}
use Rattle.std.specs.List.{flat_map, join_with_byte}
use Rattle.iocm_values.proofs.Joined.{join_from_first}
use Rattle.iocm_values.proofs.texts.put_items.Goals as goal

-- the first item, then the others
whole : (text mid new : List ℕ) (xs : List (List ℕ)) (d : List ℕ) → 1 ≤ length xs → mid ≡ text ++ get_or xs 0 d
    → new ≡ mid ++ flat_map (λ y. 44 ∷ y) (drop 1 xs) → new ≡ text ++ join_with_byte 44 xs
whole text mid new xs d some first others =
    others ∙ ap (λ m. m ++ flat_map (λ y. 44 ∷ y) (drop 1 xs)) first
    ∙ append_assoc text (get_or xs 0 d) (flat_map (λ y. 44 ∷ y) (drop 1 xs))
    ∙ ap (λ r. text ++ r) (sym (join_from_first 44 xs d some))

pub returns : goal.returns
returns c =
    whole c.args.text.now.items c.put.new.text.items c.put_behind_commas.new.text.items c.args.items.now
    c.index-items-0.result (grind (arith, c.if-is_empty.ensures, c.is_empty.ensures))
    (c.in_ok-put.ensures ∙ ap (λ item. c.args.text.now.items ++ item) (c.as_slice.ensures ∙ c.index-items-0.is))
    (c.in_ok-put_behind_commas.ensures
    ∙ ap (λ others. c.put.new.text.items ++ flat_map (λ y. 44 ∷ y) others) c.split_at.ensures.back)
