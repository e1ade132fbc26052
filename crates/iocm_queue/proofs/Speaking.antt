-- What an operator has sent, after it sent more, and where the channel was full.
use Rattle.std.proofs.Common.{◌≡◌, ℕ, List, [], ◌∷◌, ◌++◌, refl, sym, ap, ◌∙◌, subst}
use Rattle.std.proofs.lemmas.List.{map-append}
use Rattle.crossbeam_channel.specs.Claims.{IsSeatAt, view}
use Rattle.crossbeam_channel.specs.Err.{IsFull}
use Rattle.crossbeam_channel.specs.declared.err.TrySendError.{TrySendError}
use Rattle.crossbeam_channel.specs.declared.err.TrySendError.TheVariants as Try
use Rattle.crossbeam_channel.specs.Fifo.{Held}
use Rattle.iocm_queue.specs.declared.message.Message.{Message}
use Rattle.iocm_queue.specs.declared.message.Message.TheVariants.{Line, End}
use Rattle.iocm_queue.specs.declared.part.Part.{Part}
use Rattle.iocm_queue.specs.Ends.{Sending, as_lines, sends_line, WasFull}
use Rattle.iocm_queue.specs.Inside.{Token, Ring, Speaks, all_lines, channel_of, sending_of}
use Rattle.iocm_queue.specs.Parts.{sends_more}
use Rattle.iocm_queue.specs.Taken.{IsWaiting}

module _ {T : Type 0} where
  one_line : (p : ℕ) (x : T) (ms : List (Message T)) → all_lines (ms ++ Line p x ∷ []) ≡ all_lines ms ++ x ∷ []
  one_line p x [] = refl
  one_line p x (Line q y ∷ ms) = ap (λ ys. y ∷ ys) (one_line p x ms)
  one_line p x (End q ∷ ms) = one_line p x ms

  no_line : (p : ℕ) (ms : List (Message T)) → all_lines (ms ++ End p ∷ []) ≡ all_lines ms
  no_line p [] = refl
  no_line p (Line q y ∷ ms) = ap (λ ys. y ∷ ys) (no_line p ms)
  no_line p (End q ∷ ms) = no_line p ms

  -- the pass of an operator, after a line, and after the end mark
  pub speaks_line : (n : ℕ) (x : T) (v w : Part T) → Speaks n (as_lines n (all_lines v.sent)) v
      → w ≡ sends_more v (Line n x) → Speaks n (as_lines n (all_lines w.sent)) w
  speaks_line n x v w s is =
      let more : as_lines n (all_lines (v.sent ++ Line n x ∷ [])) ≡ as_lines n (all_lines v.sent) ++ Line n x ∷ [] =
      ap (as_lines n) (one_line n x v.sent) ∙ map-append (λ (y : T). Line n y) (all_lines v.sent) (x ∷ []) in
      subst (λ (u : Part T). Speaks n (as_lines n (all_lines u.sent)) u) (sym is)
      (record { sends = s.sends; by = s.by; sent_are = ap (λ ms. ms ++ Line n x ∷ []) s.sent_are ∙ sym more })

  pub speaks_end : (n : ℕ) (v w : Part T) → Speaks n (as_lines n (all_lines v.sent)) v → w ≡ sends_more v (End n)
      → Speaks n (as_lines n (all_lines w.sent) ++ End n ∷ []) w
  speaks_end n v w s is =
      let same : as_lines n (all_lines (v.sent ++ End n ∷ [])) ≡ as_lines n (all_lines v.sent) =
      ap (as_lines n) (no_line n v.sent) in
      subst (λ (u : Part T). Speaks n (as_lines n (all_lines u.sent) ++ End n ∷ []) u) (sym is)
      (record { sends = s.sends; by = s.by; sent_are = ap (λ ms. ms ++ End n ∷ []) (s.sent_are ∙ sym same) })

  -- two passes of one channel tell so
  pub one_channel : {Q M L A : Type 0} (c : Ring T Q M L A) (p q : Token T) → IsSeatAt c p → IsSeatAt c q
      → channel_of q ≡ channel_of p
  one_channel c p q here there = λ i. record { turns = (there.0 ∙ sym here.0) i; places = (there.1 ∙ sym here.1) i }

  -- an operator, as a value, after a line, and after the end mark
  pub sends_it : (n : ℕ) (x : T) (p q : Token T) (s : Sending T) → sending_of n p ≡ s → channel_of q ≡ channel_of p
      → view q ≡ sends_more (view p) (Line n x)
      → sending_of n q ≡ sends_line s x
  sends_it n x p q s was same is =
      (λ i. record {
        channel = same i;
        number = n;
        sent = (ap (λ (v : Part T). all_lines v.sent) is ∙ one_line n x (view p).sent) i;
      })
      ∙ ap (λ (o : Sending T). sends_line o x) was

  pub ends_it : (n : ℕ) (p q : Token T) (s : Sending T) → sending_of n p ≡ s → channel_of q ≡ channel_of p
      → view q ≡ sends_more (view p) (End n)
      → sending_of n q ≡ s
  ends_it n p q s was same is =
      (λ i. record {
        channel = same i;
        number = n;
        sent = (ap (λ (v : Part T). all_lines v.sent) is ∙ no_line n (view p).sent) i;
      }) ∙ was

  -- an error that is full is so
  pub full_is_full : (e : TrySendError (Message T)) (m : Message T) → e ≡ Try.Full m → IsFull e
  full_is_full e m is = subst IsFull (sym is) tt

  -- what an operator learns of a full channel
  pub is_full : (k n : ℕ) (p : Token T) (s : Sending T) → k ≡ 16
      → Speaks n (as_lines n (all_lines (view p).sent)) (view p) → sending_of n p ≡ s
      → Held k (IsWaiting (view p).by (view p).sent) → WasFull s
  is_full k n p s places speaks was held =
      subst (λ (o : Sending T). WasFull o) was
      (subst (λ ms. Held 16 (IsWaiting n ms)) speaks.sent_are
      (subst (λ m. Held 16 (IsWaiting m (view p).sent)) speaks.by
      (subst (λ m. Held m (IsWaiting (view p).by (view p).sent)) places held)))
