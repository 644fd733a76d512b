-- Which logs are runs of a history, and how that goes on.
use Rattle.std.proofs.Common.{◌≡◌, ℕ, ◌+◌, ◌-◌, ◌≤◌, List, [], ◌∷◌, length, take, drop, sym, ap, ◌∙◌, arith, subst, inl, inr}
use Rattle.std.proofs.lemmas.List.{length-append, length-drop, take_all, take-append-le, drop-append-le, drop-drop}
use Rattle.lang_log.specs.Log.{Log, with_append, trimmed}
use Rattle.lang_log.specs.History.{History, MayBeLeft, opened_with, appended, trimmed_to, synced}
use Rattle.lang_log.specs.Runs.{Appends, AreLawful, AreOf, IsRunOf, all_kept, count, found_in, from_low, log_now, one_more}

drop_none : {A : Type 0} (n : ℕ) (xs : List A) → drop (n - n) xs ≡ xs
drop_none n xs = ap (λ k. drop k xs) {y = 0} (omega arith)

pub opened_is : (l : Log) → log_now (found_in l) ≡ l
opened_is l = ap (λ appends. record { low = l.low; appends = appends }) (drop_none l.low l.appends)

pub opened_history : (l : Log) → AreLawful (found_in l)
opened_history l = record { from = omega arith; upto = omega arith; kept = omega arith }

-- the log now is one
pub now_runs : (h : Appends) → AreLawful h → IsRunOf h (log_now h)
now_runs h is =
    let long = length-drop (h.low - h.first) h.appends in
    record {
      from = is.from;
      low = omega arith;
      kept = omega (arith, is.from, is.upto, is.kept, long);
      upto = omega (arith, is.from, is.upto, is.kept, long);
      appends = sym (take_all (length (drop (h.low - h.first) h.appends)) (drop (h.low - h.first) h.appends) (omega arith));
    }

-- One append more.

pub appended_now : (h : Appends) (bytes : List ℕ) → AreLawful h → log_now (one_more bytes h) ≡ with_append bytes (log_now h)
appended_now h bytes is = ap (λ appends. record { low = h.low; appends = appends }) (drop-append-le (h.low - h.first) h.appends (bytes ∷ []) (omega (arith, is.from, is.upto)))

pub appended_history : (h : Appends) (bytes : List ℕ) → AreLawful h → AreLawful (one_more bytes h)
appended_history h bytes is = let long = length-append h.appends (bytes ∷ []) in record { from = is.from; upto = omega (arith, is.upto, long); kept = omega (arith, is.kept, long) }

pub appended_runs : (h : Appends) (bytes : List ℕ) (l : Log) → AreLawful h → IsRunOf h l → IsRunOf (one_more bytes h) l
appended_runs h bytes l is run =
    let long = length-append h.appends (bytes ∷ []) in
    let left = length-drop (l.low - h.first) h.appends in
    record {
      from = run.from;
      low = run.low;
      kept = run.kept;
      upto = omega (arith, run.upto, long);
      appends = run.appends ∙ sym (ap (take (length l.appends)) (drop-append-le (l.low - h.first) h.appends (bytes ∷ []) (omega (arith, run.from, run.low, is.upto)))
          ∙ take-append-le (length l.appends) (drop (l.low - h.first) h.appends) (bytes ∷ []) (omega (arith, run.from, run.upto, left)));
    }

-- The log begins later.

pub trimmed_now : (h : Appends) (low : ℕ) → AreLawful h → h.low ≤ low → log_now (from_low low h) ≡ trimmed low (log_now h)
trimmed_now h low is later = ap (λ appends. record { low = low; appends = appends }) (ap (λ k. drop k h.appends) {y = (h.low - h.first) + (low - h.low)} (omega (arith, is.from, later)) ∙ sym (drop-drop (low - h.low) (h.low - h.first) h.appends))

pub trimmed_history : (h : Appends) (low : ℕ) → AreLawful h → h.low ≤ low → low ≤ count h → AreLawful (from_low low h)
trimmed_history h low is later within = record { from = omega (arith, is.from, later); upto = within; kept = is.kept }

pub trimmed_runs : (h : Appends) (low : ℕ) (l : Log) → h.low ≤ low → IsRunOf h l → IsRunOf (from_low low h) l
trimmed_runs h low l later run = record { from = run.from; low = omega (arith, run.low, later); kept = run.kept; upto = run.upto; appends = run.appends }

-- What was promised.

pub synced_history : (h : Appends) → AreLawful h → AreLawful (all_kept h)
synced_history h is = record { from = is.from; upto = is.upto; kept = omega arith }

pub synced_runs : (h : Appends) → AreLawful h → IsRunOf (all_kept h) (log_now h)
synced_runs h is =
    let run = now_runs h is in
    let long = length-drop (h.low - h.first) h.appends in
    record { from = run.from; low = run.low; kept = omega (arith, is.from, is.upto, long); upto = run.upto; appends = run.appends }

-- What a crash may leave, as the log goes on.

pub opened_of : (l : Log) → AreOf (opened_with l) (found_in l)
opened_of l = record {
  lawful = opened_history l;
  now = sym (opened_is l);
  runs = λ k may. by k may;
}
  where
    by : (k : Log) → MayBeLeft (opened_with l) k → IsRunOf (found_in l) k
    by k (inl e) = subst (IsRunOf (found_in l)) (opened_is l ∙ sym e) (now_runs (found_in l) (opened_history l))
    by k (inr none) = absurd none

pub appended_of : (h : History) (a : Appends) (bytes : List ℕ) → AreOf h a → AreOf (appended bytes h) (one_more bytes a)
appended_of h a bytes of = record { lawful = lawful; now = now; runs = by }
  where
    lawful : AreLawful (one_more bytes a)
    lawful = appended_history a bytes of.lawful

    now : with_append bytes h.now ≡ log_now (one_more bytes a)
    now = ap (with_append bytes) of.now ∙ sym (appended_now a bytes of.lawful)

    by : (l : Log) → MayBeLeft (appended bytes h) l → IsRunOf (one_more bytes a) l
    by l (inl e) = subst (IsRunOf (one_more bytes a)) (sym (e ∙ now)) (now_runs (one_more bytes a) lawful)
    by l (inr may) = appended_runs a bytes l of.lawful (of.runs l may)

pub trimmed_of : (h : History) (a : Appends) (low : ℕ) → AreOf h a → a.low ≤ low → low ≤ count a → AreOf (trimmed_to low h) (from_low low a)
trimmed_of h a low of later within = record { lawful = lawful; now = now; runs = by }
  where
    lawful : AreLawful (from_low low a)
    lawful = trimmed_history a low of.lawful later within

    now : trimmed low h.now ≡ log_now (from_low low a)
    now = ap (trimmed low) of.now ∙ sym (trimmed_now a low of.lawful later)

    by : (l : Log) → MayBeLeft (trimmed_to low h) l → IsRunOf (from_low low a) l
    by l (inl e) = subst (IsRunOf (from_low low a)) (sym (e ∙ now)) (now_runs (from_low low a) lawful)
    by l (inr may) = trimmed_runs a low l later (of.runs l may)

pub synced_of : (h : History) (a : Appends) → AreOf h a → AreOf (synced h) (all_kept a)
synced_of h a of = record { lawful = synced_history a of.lawful; now = of.now; runs = by }
  where
    by : (l : Log) → MayBeLeft (synced h) l → IsRunOf (all_kept a) l
    by l (inl e) = subst (IsRunOf (all_kept a)) (sym (e ∙ of.now)) (synced_runs a of.lawful)
    by l (inr none) = absurd none

-- behind a sync only the log as it is may be left
pub synced_now : (h : History) (k : Log) → MayBeLeft (synced h) k → k ≡ h.now
synced_now h k (inl e) = e
synced_now h k (inr none) = absurd none
