-- The moments of a disk over each call of the mirror.
use Rattle.std.proofs.Common.{◌≡◌, ℕ, ◌≤◌, ◌+◌, Bool, true, List, [], ◌∷◌, ◌++◌, length, refl, sym, ◌∙◌, ap, subst, arith, append-nil}
use Rattle.std.proofs.lemmas.Bool.{false≢true}
use Rattle.base_types.specs.Seal.{Blocks}
use Rattle.disk_contract.specs.declared.event.Event.{Event}
use Rattle.disk_contract.specs.declared.event.Event.TheVariants.{Wrote, Lost}
use Rattle.disk_contract.specs.Lawful.{IsLawful}
use Rattle.disk_mirror.specs.declared.entry.Came.{Came}
use Rattle.disk_mirror.specs.declared.entry.Heard.{Heard}
use Rattle.disk_mirror.specs.declared.entry.Pair.{Pair}
use Rattle.disk_mirror.specs.declared.entry.Side.{Side}
use Rattle.disk_mirror.specs.declared.entry.Written.{Written}
use Rattle.disk_mirror.specs.declared.entry.Written.TheVariants.{Given, Missed, Nothing}
use Rattle.disk_mirror.specs.Half.{end_at, HalfWrites}
use Rattle.disk_mirror.specs.Mirror.{IsOnSide}
use Rattle.disk_mirror.specs.Times.{came_on, times_on, IsTimed}
use Rattle.disk_mirror.proofs.Logs.{lawful_event}
use Rattle.disk_mirror.proofs.Timed.{Goes, timed_step}

-- one more number
pub times_snoc : (side : Side) (times : List Came) (c : Came) → times_on side (times ++ c ∷ []) ≡ times_on side times ++ came_on side c ∷ []
times_snoc side [] c = refl
times_snoc side (t ∷ times) c = ap (λ (l : List ℕ). came_on side t ∷ l) (times_snoc side times c)

module _ (side : Side) (n : ℕ) (base : Blocks) (log : List Event) (pairs : List Pair) (rows : List Heard) (times : List Came) (live now : Bool) (end later : ℕ) (began : Blocks) (events new : List Event) (e : Event) (c : Came)
    (h : IsLawful (log ++ e ∷ [])) (at : came_on side c ≡ length new) (s : IsOnSide side n base (log ++ e ∷ []) pairs rows now later began new) (t : IsTimed n base log (times_on side times) live end began events) where
  -- the disk has so many events more
  came_with : (more : List Event) → length more ≤ 1 → new ≡ events ++ more → IsLawful (events ++ more) → Goes live now end later (length log) → IsTimed n base (log ++ e ∷ []) (times_on side (times ++ c ∷ [])) now later began new
  came_with more few is lawful g =
      subst (λ l. IsTimed n base (log ++ e ∷ []) l now later began new) (sym (times_snoc side times c))
      (subst (λ (l : List Event). IsTimed n base (log ++ e ∷ []) (times_on side times ++ came_on side c ∷ []) now later began l) (sym is)
      (timed_step side n base log pairs rows (times_on side times) live now end later began events more e (came_on side c) h lawful few g (at ∙ ap (λ (l : List Event). length l) is)
      (subst (λ (l : List Event). IsOnSide side n base (log ++ e ∷ []) pairs rows now later began l) is s) t))

  -- a write
  pub write_came : (b : ℕ) (x : List ℕ) (r : Written) → IsLawful events → HalfWrites true b x (length log) r live now end later events new → IsTimed n base (log ++ e ∷ []) (times_on side (times ++ c ∷ [])) now later began new
  write_came b x (Given u) k step = came_with (Wrote u b x ∷ []) (omega arith) (step.3 refl).2 (lawful_event events (Wrote u b x) k (step.3 refl).0)
      (record { stays = λ _. step.0; falls = λ off _. absurd (false≢true (sym off ∙ step.1)); is_down = λ off _. absurd (false≢true (sym off ∙ step.1)) })
  write_came b x Missed k step = came_with (Lost b x ∷ []) (omega arith) (step.3 refl) (lawful_event events (Lost b x) k tt)
      (record { stays = λ _. step.0; falls = λ _ _. omega (arith, step.2); is_down = λ _ off. absurd (false≢true (sym off ∙ step.0)) })
  write_came b x Nothing k step = came_with [] (omega arith) (step.2 refl ∙ sym (append-nil events)) (subst IsLawful (sym (append-nil events)) k)
      (record {
        stays = λ on_it. absurd (false≢true (sym step.0 ∙ on_it));
        falls = λ _ was. let is : later ≡ length log = step.1 ∙ ap (λ v. end_at (length log) v end) was in omega (arith, is);
        is_down = λ _ off. step.1 ∙ ap (λ v. end_at (length log) v end) off;
      })

-- a report, which is no event of the disk
pub report_came : (side : Side) (n : ℕ) (base : Blocks) (log : List Event) (pairs : List Pair) (rows : List Heard) (times : List Came) (live : Bool) (end : ℕ) (began : Blocks) (events : List Event) (e : Event) (c : Came)
    → IsLawful (log ++ e ∷ []) → IsLawful events → came_on side c ≡ length events → IsOnSide side n base (log ++ e ∷ []) pairs rows live end began events → IsTimed n base log (times_on side times) live end began events
    → IsTimed n base (log ++ e ∷ []) (times_on side (times ++ c ∷ [])) live end began events
report_came side n base log pairs rows times live end began events e c h k at s t =
    came_with side n base log pairs rows times live live end end began events events e c h at s t [] (omega arith) (sym (append-nil events)) (subst IsLawful (sym (append-nil events)) k)
    (record { stays = λ on_it. on_it; falls = λ off on_it. absurd (false≢true (sym off ∙ on_it)); is_down = λ _ _. refl })
