-- Each step on the channel keeps its rule.
use Rattle.std.proofs.Common.{◌≡◌, ◌≢◌, ◌<◌, ◌≤◌, ◌==◌, ℕ, suc, true, false, true≢false, cond, [], ◌∷◌, ◌++◌, length}
use Rattle.std.proofs.Common.{set, refl, sym, ap, ◌∙◌, subst, arith, lt_of_not-le}
use Rattle.std.proofs.lemmas.List.{append_assoc}
use mathlib.Core.Option.{some, some-ne-none}
use lib.ListN.{get_elem?}
use Rattle.crossbeam_channel.specs.Fifo.{Pushes, Pops, Forks, Merges, Learns}
use Rattle.iocm_queue.specs.declared.message.Message.{Message}
use Rattle.iocm_queue.specs.declared.part.Part.{Part}
use Rattle.iocm_queue.specs.Parts.{compares, first_part, hired, hires, sends_more, spent, takes_more}
use Rattle.iocm_queue.specs.Rule.{Fits, Kept}
use Rattle.iocm_queue.specs.Taken.{of, sender_of, IsWaiting}
use Rattle.iocm_queue.proofs.Lists.{at_other, each_end, each_set}
use Rattle.iocm_queue.proofs.Messages.{of_append, of_none, of_other, of_own, other_number, same_number}

off : false ≡ true → ⊥
off e = true≢false (sym e)

module _ {T : Type 0} where
  -- at first the worker alone has a pass
  pub begins : Kept {T = T} [] (first_part ∷ [])
  begins =
      record {
        seat = λ p. 0;
        worker = 0;
        operators = 0;
        taken = [];
        fits = each_end (Fits (λ p. 0) 0 0 [] []) [] first_part (λ j u e. absurd (some-ne-none u (sym e)))
            (record { sent = λ h. absurd (off h); taken_are = λ h. (refl, refl, refl) });
        none = λ p le. refl;
      }

  -- an operator sends
  pub sends : (n pass : ℕ) (v : Part T) (m : Message T) → v.sends ≡ true → sender_of m ≡ v.by
      → Pushes Kept n pass v m (λ w. w ≡ sends_more v m)
  sends n pass v m may by items parts room kept at =
      let w = sends_more v m in
      let all = kept.taken ++ items in
      let fits = kept.fits pass v at in
      let mine = fits.sent may in
      let more : all ++ m ∷ [] ≡ kept.taken ++ (items ++ m ∷ []) = append_assoc kept.taken items (m ∷ []) in
      let else : (j : ℕ) (u : Part T) → j ≢ pass → get_elem? parts j ≡ some u
      → Fits kept.seat kept.worker kept.operators (all ++ m ∷ []) kept.taken j u =
      λ j u ne e. let f = kept.fits j u e in record {
        sent = λ s. let o = f.sent s in
            (o.0, o.1, o.2 ∙ sym (of_other u.by all m (λ same. ne (sym o.0 ∙ ap kept.seat (sym same ∙ by) ∙ mine.0))));
        taken_are = f.taken_are;
      } in (
        w,
        record {
          seat = kept.seat;
          worker = kept.worker;
          operators = kept.operators;
          taken = kept.taken;
          fits = subst (λ ms. (j : ℕ) (u : Part T) → get_elem? (set parts pass w) j ≡ some u
              → Fits kept.seat kept.worker kept.operators ms kept.taken j u) more
              (each_set (Fits kept.seat kept.worker kept.operators (all ++ m ∷ []) kept.taken) parts pass w
              else (record {
                sent = λ s. (mine.0, mine.1, ap (λ ms. ms ++ m ∷ []) mine.2 ∙ sym (of_own v.by all m by));
                taken_are = fits.taken_are;
              }));
          none = λ p le. ap (of p) (sym more)
              ∙ of_other p all m (λ same. let b = mine.1 in let q = sym same ∙ by in omega (arith, b, q, le))
              ∙ kept.none p le;
        },
        refl,
      )

  -- a message that is sent, or else is not, since the channel is full
  pub waits : (pass : ℕ) (v : Part T) → v.sends ≡ true → Learns Kept pass v (λ items. IsWaiting v.by v.sent items)
  waits pass v may items parts kept at =
      (of v.by kept.taken, ((kept.fits pass v at).sent may).2 ∙ of_append v.by kept.taken items)

  -- the worker takes
  pub takes : (pass : ℕ) (v : Part T) → v.takes ≡ true
      → Pops Kept pass v (λ m w. (w ≡ takes_more v m) × (sender_of m < v.operators))
  takes pass v may m items parts kept at =
      let w = takes_more v m in
      let taken = kept.taken ++ m ∷ [] in
      let fits = kept.fits pass v at in
      let mine = fits.taken_are may in
      let same : kept.taken ++ m ∷ items ≡ taken ++ items = sym (append_assoc kept.taken (m ∷ []) items) in
      let else : (j : ℕ) (u : Part T) → j ≢ pass → get_elem? parts j ≡ some u
      → Fits kept.seat kept.worker kept.operators (kept.taken ++ m ∷ items) taken j u =
      λ j u ne e. let f = kept.fits j u e in
      record { sent = f.sent; taken_are = λ s. absurd (ne (sym (f.taken_are s).0 ∙ mine.0)) } in (
        w,
        record {
          seat = kept.seat;
          worker = kept.worker;
          operators = kept.operators;
          taken = taken;
          fits = subst (λ ms. (j : ℕ) (u : Part T) → get_elem? (set parts pass w) j ≡ some u
              → Fits kept.seat kept.worker kept.operators ms taken j u) same
              (each_set (Fits kept.seat kept.worker kept.operators (kept.taken ++ m ∷ items) taken) parts pass w
              else (record {
                sent = fits.sent;
                taken_are = λ s. (mine.0, ap (λ ms. ms ++ m ∷ []) mine.1, mine.2);
              }));
          none = λ p le. ap (of p) (sym same) ∙ kept.none p le;
        },
        (
          refl,
          lt_of_not-le (λ le.
              of_none kept.taken items m (kept.none (sender_of m) (subst (λ n. n ≤ sender_of m) mine.2 le))),
        ),
      )

  -- the worker makes an operator
  pub makes : (pass : ℕ) (v : Part T) → v.takes ≡ true → Forks Kept pass v (hires v) (hired v)
  makes pass v may items parts kept at =
      let all = kept.taken ++ items in
      let fits = kept.fits pass v at in
      let mine = fits.taken_are may in
      let next = length (set parts pass (hires v)) in
      let seat : ℕ → ℕ = λ p. cond (p == v.operators) next (kept.seat p) in
      let stays : (p j : ℕ) → kept.seat p ≡ j → p < kept.operators → seat p ≡ j =
      λ p j e less. ap (λ b. cond b next (kept.seat p))
      (other_number p v.operators (λ h. let m = mine.2 in omega (arith, h, m, less))) ∙ e in
      let Now : ℕ → Part T → Type 0 = Fits seat kept.worker (suc kept.operators) all kept.taken in
      record {
        seat = seat;
        worker = kept.worker;
        operators = suc kept.operators;
        taken = kept.taken;
        fits = each_end Now (set parts pass (hires v)) (hired v)
            (each_set Now parts pass (hires v)
            (λ j u ne e. let f = kept.fits j u e in record {
              sent = λ s. let o = f.sent s in (stays u.by j o.0 o.1, (let b = o.1 in omega (arith, b)), o.2);
              taken_are = λ s. absurd (ne (sym (f.taken_are s).0 ∙ mine.0));
            })
            (record {
              sent = λ s. let o = fits.sent s in (stays v.by pass o.0 o.1, (let b = o.1 in omega (arith, b)), o.2);
              taken_are = λ s. (mine.0, mine.1, ap suc mine.2);
            }))
            (record {
              sent = λ s. (
                ap (λ b. cond b next (kept.seat v.operators)) (same_number v.operators),
                (let m = mine.2 in omega (arith, m)),
                sym (kept.none v.operators (let m = mine.2 in omega (arith, m))),
              );
              taken_are = λ s. absurd (off s);
            });
        none = λ p le. kept.none p (omega (arith, le));
      }

  -- the worker takes in what an operator knows
  pub takes_in : (pass : ℕ) (v : Part T) (other : ℕ) (w : Part T) → w.sends ≡ true
      → Merges Kept pass v other w (compares v w) spent
  takes_in pass v other w may items parts kept at ne e =
      let all = kept.taken ++ items in
      let both = compares v w in
      let mine = kept.fits pass v at in
      let theirs = (kept.fits other w (at_other parts pass other both w ne e)).sent may in
      let seat : ℕ → ℕ = λ p. cond (p == w.by) pass (kept.seat p) in
      let Now : ℕ → Part T → Type 0 = Fits seat kept.worker kept.operators all kept.taken in
      record {
        seat = seat;
        worker = kept.worker;
        operators = kept.operators;
        taken = kept.taken;
        fits = each_set Now (set parts pass both) other spent
            (λ j u apart there. each_set (λ i x. i ≢ other → Now i x) parts pass both
            (λ i x away here elsewhere. let f = kept.fits i x here in record {
              sent = λ s. let o = f.sent s in (
                ap (λ b. cond b pass (kept.seat x.by))
                    (other_number x.by w.by (λ h. elsewhere (sym o.0 ∙ ap kept.seat h ∙ theirs.0))) ∙ o.0,
                o.1,
                o.2,
              );
              taken_are = f.taken_are;
            })
            (λ elsewhere. record {
              sent = λ s. (ap (λ b. cond b pass (kept.seat w.by)) (same_number w.by), theirs.1, theirs.2);
              taken_are = mine.taken_are;
            }) j u there apart)
            (record { sent = λ s. absurd (off s); taken_are = λ s. absurd (off s) });
        none = kept.none;
      }

  -- and compares it with what was taken
  pub learns : (pass : ℕ) (v : Part T) → v.sends ≡ true → v.takes ≡ true
      → Learns Kept pass v (λ items. of v.by v.taken ++ of v.by items ≡ v.sent)
  learns pass v may takes items parts kept at =
      let fits = kept.fits pass v at in
      ap (λ ms. of v.by ms ++ of v.by items) (fits.taken_are takes).1 ∙ sym (of_append v.by kept.taken items)
      ∙ sym (fits.sent may).2
