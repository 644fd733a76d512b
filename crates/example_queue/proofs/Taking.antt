-- Jobs that were appended one after the other: which log that is, and that each of them is in it under its number.
use Rattle.std.proofs.Common.{◌≡◌, inl, inr, zero, suc, ℕ, ◌+◌, ◌-◌, ◌<◌, ◌≤◌, List, [], ◌∷◌, ◌++◌, length, take, take_all, get_or, refl, sym, ap, ◌∙◌, subst, arith}
use Rattle.std.specs.Prelude.{slice_get, Err, IfErr, IsErrAnd, Ok, OnErr, Result}
use Rattle.std.proofs.lemmas.List.{append-nil, append_assoc, length-append, take_more}
use Rattle.lang_log.specs.History.{History, MayBeLeft, appended, opened_with, synced}
use Rattle.lang_log.specs.Log.{Log, next_of}
use Rattle.lang_log.specs.Segments.{IsOneOf}
use Rattle.engine_blocks.specs.State.{State}
use Rattle.fs_log.specs.Keeping.{Keeps}
use Rattle.cmd_session.specs.Shared.{get_behind}
use Rattle.example_queue.specs.Queue.{Acknowledges, AreSafe, Has, with_jobs}

-- an error was returned, and what holds where one is does
pub on_err : {T E P : Type 0} (r : Result T E) → P → OnErr r P
on_err (Ok x) is = tt
on_err (Err e) is = is

-- the error was handed on, and what holds of it does
pub passed_on : {T E : Type 0} (r : Result T E) (why : E) (P : E → Type 0) → IsErrAnd r (λ w. w ≡ why) → P why → IfErr r P
passed_on (Ok x) why P is p = tt
passed_on (Err w) why P is p = subst P (sym is) p

-- the log with these appends behind its own
abbrev with_all : Log → List (List ℕ) → Log
with_all l jobs = record { low = l.low; appends = l.appends ++ jobs }

with_all_of_one_more : (l : Log) (job : List ℕ) (jobs : List (List ℕ)) → with_all (record { low = l.low; appends = l.appends ++ job ∷ [] }) jobs ≡ with_all l (job ∷ jobs)
with_all_of_one_more l job jobs = ap (λ (xs : List (List ℕ)). record { low = l.low; appends = xs }) (append_assoc l.appends (job ∷ []) jobs)

now_with : (jobs : List (List ℕ)) (h : History) → (with_jobs jobs h).now ≡ with_all h.now jobs
now_with [] h = ap (λ (xs : List (List ℕ)). record { low = h.now.low; appends = xs }) (sym (append-nil h.now.appends))
now_with (job ∷ jobs) h = now_with jobs (appended job h) ∙ with_all_of_one_more h.now job jobs

one_more : (jobs : List (List ℕ)) (job : List ℕ) (h : History) → with_jobs (jobs ++ job ∷ []) h ≡ appended job (with_jobs jobs h)
one_more [] job h = refl
one_more (first ∷ jobs) job h = one_more jobs job (appended first h)

pub keeps_more : (jobs : List (List ℕ)) (i : ℕ) (job : List ℕ) (h : History) (s : State) → i < length jobs → get_or jobs i job ≡ job → Keeps (appended job (with_jobs (take i jobs) h)) s → Keeps (with_jobs (take (i + 1) jobs) h) s
keeps_more jobs i job h s lt own keeps =
    subst (λ (k : History). Keeps k s) (sym (ap (λ (xs : List (List ℕ)). with_jobs xs h) (take_more jobs i job lt ∙ ap (λ (x : List ℕ). take i jobs ++ x ∷ []) own) ∙ one_more (take i jobs) job h)) keeps

pub keeps_all : (jobs : List (List ℕ)) (i : ℕ) (h : History) (s : State) → length jobs ≤ i → Keeps (with_jobs (take i jobs) h) s → Keeps (with_jobs jobs h) s
keeps_all jobs i h s le keeps = subst (λ (xs : List (List ℕ)). Keeps (with_jobs xs h) s) (take_all i jobs le) keeps

module _ (l : Log) where
  has_one : (before : List (List ℕ)) (job : List ℕ) (jobs : List (List ℕ)) (number : ℕ) → l.appends ≡ before ++ job ∷ jobs → number ≡ l.low + length before → Has number job l
  has_one before job jobs number is at = record {
    from = omega (arith, at);
    is = ap (λ (xs : List (List ℕ)). slice_get xs (number - l.low)) is ∙ (ap (λ (i : ℕ). slice_get (before ++ job ∷ jobs) i) (omega (arith, at)) ∙ get_behind before job jobs);
  }

  is_safe : (number : ℕ) (job : List ℕ) → Has number job l → (k : Log) → MayBeLeft (opened_with l) k → Has number job k
  is_safe number job has k (inl same) = subst (λ (m : Log). Has number job m) (sym same) has
  is_safe number job has k (inr none) = absurd none

  are_safe : (before jobs : List (List ℕ)) (number : ℕ) → l.appends ≡ before ++ jobs → number ≡ l.low + length before → AreSafe (opened_with l) number jobs
  are_safe before [] number is at = tt
  are_safe before (job ∷ jobs) number is at = (
    is_safe number job (has_one before job jobs number is at),
    are_safe (before ++ job ∷ []) jobs (number + 1) (is ∙ sym (append_assoc before (job ∷ []) jobs)) (omega (arith, at, length-append before (job ∷ []))),
  )

-- behind an answered sync the jobs are acknowledged
pub acknowledged : (jobs : List (List ℕ)) (h : History) (number : ℕ) (s : State) → number ≡ next_of h.now → Keeps (synced (with_jobs jobs h)) s → Acknowledges jobs number h s
acknowledged jobs h number s next keeps =
    let now = now_with jobs h in
    record {
      next = next;
      history = synced (with_jobs jobs h);
      keeps = keeps;
      safe = are_safe (with_jobs jobs h).now h.now.appends jobs number (ap (λ (l : Log). l.appends) now) (next ∙ ap (λ (l : Log). l.low + length h.now.appends) (sym now));
    }

pub one_of : (jobs : List (List ℕ)) (i : ℕ) (job : List ℕ) → i < length jobs → IsOneOf (get_or jobs i job) jobs
one_of [] i job lt = absurd (omega (arith, lt))
one_of (first ∷ jobs) zero job lt = inl refl
one_of (first ∷ jobs) (suc i) job lt = inr (one_of jobs i job (omega (arith, lt)))
