-- Logs that go on by writes alone: no notice comes by them.
use Rattle.std.proofs.Common.{◌≡◌, ℕ, ◌==◌, false, ◌||◌, List, [], ◌∷◌, ◌++◌, refl, sym, ap, ◌∙◌}
use Rattle.std.proofs.lemmas.List.{append-nil}
use Rattle.disk_contract.specs.declared.event.Event.{Event}
use Rattle.disk_contract.specs.declared.event.Event.TheVariants.{Wrote, Lost, Noticed}
use Rattle.disk_contract.specs.Cell.{is_noticed}
use Rattle.disk_contract.specs.Disk.{AreWrites, GrowsByWrites}

-- writes are no notices
writes_tell_nothing : (t : ℕ) (es : List Event) → AreWrites es → is_noticed t es ≡ false
writes_tell_nothing t [] h = refl
writes_tell_nothing t (Wrote ticket block bytes ∷ es) h = writes_tell_nothing t es h
writes_tell_nothing t (Lost block bytes ∷ es) h = writes_tell_nothing t es h
writes_tell_nothing t (Noticed ticket ∷ es) h = absurd h

told_before : (t : ℕ) (log more : List Event) → AreWrites more → is_noticed t (log ++ more) ≡ is_noticed t log
told_before t [] more h = writes_tell_nothing t more h
told_before t (Wrote ticket block bytes ∷ es) more h = told_before t es more h
told_before t (Lost block bytes ∷ es) more h = told_before t es more h
told_before t (Noticed ticket ∷ es) more h = ap (λ r. (ticket == t) || r) (told_before t es more h)

-- so the notices are those that there were
pub heard_same : (t : ℕ) (old new : List Event) → GrowsByWrites old new → is_noticed t new ≡ is_noticed t old
heard_same t old new grows = ap (is_noticed t) grows.log ∙ told_before t old grows.more grows.writes

-- writes behind writes
pub writes_on : (xs ys : List Event) → AreWrites xs → AreWrites ys → AreWrites (xs ++ ys)
writes_on [] ys h k = k
writes_on (Wrote ticket block bytes ∷ xs) ys h k = writes_on xs ys h k
writes_on (Lost block bytes ∷ xs) ys h k = writes_on xs ys h k
writes_on (Noticed ticket ∷ xs) ys h k = absurd h

-- a log that stays goes on by no writes
pub grows_by_none : (a b : List Event) → b ≡ a → GrowsByWrites a b
grows_by_none a b same = record { more = []; log = same ∙ sym (append-nil a); writes = tt }
