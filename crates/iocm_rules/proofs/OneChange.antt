-- One device or online record that is put or deleted leaves the rest.
use Rattle.std.proofs.Common.{◌≡◌, true, false, cond, Option, None, [], ◌∷◌, ap, ◌∙◌}
use Rattle.std.proofs.lemmas.Bool.{or_parts}
use Rattle.std.specs.Ordering.{eq_by_cmp}
use Rattle.std.specs.FinMap.{get}
use Rattle.iocm_types.specs.declared.key.Key.{Key}
use Rattle.iocm_types.specs.Key.{key_cmp}
use Rattle.iocm_types.specs.KeyOrder.{keys_total, keys_exact}
use Rattle.iocm_model.specs.Machine.Record.{Rec}
use Rattle.iocm_model.specs.Machine.Configuration.{Configuration, IsKeyed}
use Rattle.iocm_model.specs.Machine.Numbering.{Numbering}
use Rattle.iocm_model.specs.Rules.FirstBreach.{first_breach}
use Rattle.iocm_model.specs.Change.Maps.{with_value}
use Rattle.iocm_model.proofs.Maps.Cells.{get_with_value}
use Rattle.iocm_lookup.specs.Among.{is_one_of}
use Rattle.iocm_rules.specs.Near.{is_near_key}

module _ (c d : Configuration) (n : Numbering) (k : Key) (o : Option Rec) (keyed : IsKeyed c)
    (held : first_breach c n ≡ None) (near : is_near_key k ≡ true)
    (is : d ≡ with_value c k o) where
  elsewhere : (q : Key) → is_one_of q (k ∷ k ∷ []) ≡ false → get d q ≡ get c q
  elsewhere q off = ap (λ m. get m q) is ∙ get_with_value keys_total keys_exact c k o q
      ∙ ap (λ b. cond b o (get c q)) (or_parts (eq_by_cmp key_cmp q k) _ off).0
