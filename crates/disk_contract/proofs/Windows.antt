-- How a window goes on.
use Rattle.std.proofs.Common.{◌≡◌, ◌⊎◌, ⊎_elim, ℕ, ◌<◌, ◌≤◌, List, [], ◌∷◌, ◌++◌, length, take, sym, subst, arith, append-nil, append_assoc, length-append}
use Rattle.std.proofs.lemmas.Bool.{cases_lt}
use Rattle.std.proofs.lemmas.List.{take-append-le, take_all}
use Rattle.std.proofs.Math.Seq.{take-length}
use Rattle.base_types.specs.Seal.{Blocks}
use Rattle.disk_contract.specs.declared.event.Event.{Event}
use Rattle.disk_contract.specs.declared.event.Event.TheVariants.{Noticed}
use Rattle.disk_contract.specs.Cell.{notices}
use Rattle.disk_contract.specs.Crash.{IsImage, IsHonest, Window, MayHold, IsTorn}
use Rattle.disk_contract.specs.Logs.{cell_of-append, IsWritten-append}
use Rattle.disk_contract.proofs.Cells.{MayHold-notice, IsTorn-notice}

-- an image after a notice is one before it
pub image_notice : (n : ℕ) (base : Blocks) (log : List Event) (t : ℕ) (img : Blocks) → IsImage n base (log ++ Noticed t ∷ []) img → IsImage n base log img
image_notice n base log t img h b within = MayHold-notice b t _ _ (subst (λ c. MayHold c (img b)) (cell_of-append base log (Noticed t ∷ []) b) (h b within))

-- and an honest one was honest before it
pub IsHonest-notice : (n : ℕ) (base : Blocks) (log : List Event) (t : ℕ) (img : Blocks) → IsHonest n base (log ++ Noticed t ∷ []) img → IsHonest n base log img
IsHonest-notice n base log t img h = record {
  leaves = image_notice n base log t img h.leaves;
  unsealed = λ b within torn. h.unsealed b within (subst (λ c. IsTorn c (img b)) (sym (cell_of-append base log (Noticed t ∷ []) b)) (IsTorn-notice b t _ _ torn));
  like_base = h.like_base;
  like_written = λ b x within w. h.like_written b x within (IsWritten-append x log _ w);
}

-- The images P that a statement is of.
module _ (size : ℕ) (base : Blocks) (P : Blocks → Type 0) where
  -- a window begins with the images of now
  pub window_start : (log : List Event) → ((img : Blocks) → IsHonest size base log img → P img) → Window size base log (length log) P
  window_start log here = record { each = λ k img le ge h. here img (subst (λ (l : List Event). IsHonest size base l img) (take_all k log le) h) }

  -- what holds now
  pub window_now : (log : List Event) (t : ℕ) → t ≤ length log → Window size base log t P → (img : Blocks) → IsHonest size base log img → P img
  window_now log t le w img h = w.each (length log) img le (omega arith) (subst (λ (l : List Event). IsHonest size base l img) (sym (take-length log)) h)

  -- one event more
  pub window_more : (log : List Event) (t : ℕ) (e : Event) → Window size base log t P → ((img : Blocks) → IsHonest size base (log ++ e ∷ []) img → P img) → Window size base (log ++ e ∷ []) t P
  window_more log t e w here =
      let old = λ (k : ℕ) (img : Blocks) (le : t ≤ k) (ge : k ≤ length log) (h : IsHonest size base (take k (log ++ e ∷ [])) img).
      w.each k img le ge (subst (λ (l : List Event). IsHonest size base l img) (take-append-le k log (e ∷ []) ge) h) in
      let new = λ (k : ℕ) (img : Blocks) (gt : length log < k) (h : IsHonest size base (take k (log ++ e ∷ [])) img).
      here img (subst (λ (l : List Event). IsHonest size base l img) (take_all k (log ++ e ∷ []) (omega (arith, length-append log (e ∷ [])))) h) in
      record { each = λ k img le ge h. ⊎_elim (λ high. new k img high h) (λ low. old k img le low h) (cases_lt (length log) k) }

  -- notices add no image
  pub window_notices : (log : List Event) (t : ℕ) (ts : List ℕ) → t ≤ length log → Window size base log t P → Window size base (log ++ notices ts) t P
  window_notices log t [] le w = subst (λ (l : List Event). Window size base l t P) (sym (append-nil log)) w
  window_notices log t (n ∷ ts) le w =
      let one = window_more log t (Noticed n) w (λ img h. window_now log t le w img (IsHonest-notice size base log n img h)) in
      subst (λ (l : List Event). Window size base l t P) (append_assoc log (Noticed n ∷ []) (notices ts))
      (window_notices (log ++ Noticed n ∷ []) t ts (omega (arith, length-append log (Noticed n ∷ []))) one)
