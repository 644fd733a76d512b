-- A run loses no write before a fault of its disk, by its commands and replies: so what was issued is what was accepted.
use Rattle.std.proofs.Common.{◌≡◌, ◌⊎◌, inl, inr, ℕ, zero, suc, ◌≤◌, ◌==◌, if◌then◌else◌, Bool, true, false, List, [], ◌∷◌, take, drop, Some, refl, sym, ap, ◌∙◌, subst, arith}
use Rattle.std.proofs.lemmas.Bool.{cases_Bool, false≢true}
use Rattle.base_types.specs.Seal.{Blocks}
use Rattle.disk_contract.specs.declared.event.Event.{Event}
use Rattle.disk_contract.specs.declared.event.Event.TheVariants.{Wrote, Lost, Noticed}
use Rattle.disk_contract.specs.Cell.{has_lost, is_lost, is_lost_from}
use Rattle.disk_contract.specs.Manner.{Manner}
use Rattle.crash_argument.specs.Points.{MountedSession}
use Rattle.lang_tree.specs.declared.command.Cmd.{Cmd}
use Rattle.lang_tree.specs.declared.command.Reply.{Reply}
use Rattle.cmd_session.specs.Histories.{HasNoFault, last_mark}
use Rattle.cmd_session.specs.Pacing.{Pace, PacesBy}

-- where no write is lost, none to a block is
not_lost_from : (b : ℕ) (lost : Bool) (xs : List Event) → lost ≡ false → has_lost xs ≡ false → is_lost_from b lost xs ≡ false
not_lost_from b lost [] calm none = calm
not_lost_from b lost (Wrote ticket block bytes ∷ xs) calm none = not_lost_from b (if block == b then false else lost) xs (by (block == b)) none
  where
    by : (v : Bool) → (if v then false else lost) ≡ false
    by v = grind arith
not_lost_from b lost (Lost block bytes ∷ xs) calm none = absurd (false≢true (sym none))
not_lost_from b lost (Noticed ticket ∷ xs) calm none = not_lost_from b lost xs calm none

pub not_lost : (b : ℕ) (xs : List Event) → has_lost xs ≡ false → is_lost b xs ≡ false
not_lost b xs none = not_lost_from b false xs refl none

-- a log whose two parts lose none
unlost_parts : (n : ℕ) (xs : List Event) → has_lost (take n xs) ≡ false → has_lost (drop n xs) ≡ false → has_lost xs ≡ false
unlost_parts zero xs front behind = behind
unlost_parts (suc n) [] front behind = refl
unlost_parts (suc n) (Wrote ticket block bytes ∷ xs) front behind = unlost_parts n xs front behind
unlost_parts (suc n) (Lost block bytes ∷ xs) front behind = front
unlost_parts (suc n) (Noticed ticket ∷ xs) front behind = unlost_parts n xs front behind

front_of_front : (n m : ℕ) (xs : List Event) → n ≤ m → take n (take m xs) ≡ take n xs
front_of_front zero m xs le = refl
front_of_front (suc n) zero xs le = absurd (omega (arith, le))
front_of_front (suc n) (suc m) [] le = refl
front_of_front (suc n) (suc m) (x ∷ xs) le = ap (λ (ys : List Event). x ∷ ys) (front_of_front n m xs (omega (arith, le)))

module _ (ses : MountedSession) (base : Blocks) (m : Manner) (alone : m.waits_alone ≡ true) (log : List Event) where
  pub unlost_at : (cmds : List Cmd) (replies : List Reply) (marks : List ℕ) (p end : Pace) → PacesBy ses base m log p cmds replies marks end → has_lost (take p.events log) ≡ false → (i : ℕ) → HasNoFault (take i replies) → has_lost (take (last_mark p.events (take i marks)) log) ≡ false
  unlost_at cmds replies marks p end paces none zero calm = none
  unlost_at [] [] [] p end paces none (suc i) calm = none
  unlost_at [] [] (k ∷ marks) p end paces none (suc i) calm = absurd paces
  unlost_at [] (r ∷ replies) marks p end paces none (suc i) calm = absurd paces
  unlost_at (c ∷ cmds) [] marks p end paces none (suc i) calm = absurd paces
  unlost_at (c ∷ cmds) (r ∷ replies) [] p end paces none (suc i) calm = absurd paces
  unlost_at (c ∷ cmds) (r ∷ replies) (k ∷ marks) p end paces none (suc i) calm =
      let next = paces.0 in
      let step = paces.2 in
      subst (λ (n : ℕ). has_lost (take (last_mark n (take i marks)) log) ≡ false) paces.1
      (unlost_at cmds replies marks next end paces.3 (here (cases_Bool (has_lost (drop p.events (take next.events log))))) i (λ j at. calm (suc j) at))
    where
      front : take p.events (take paces.0.events log) ≡ take p.events log
      front = front_of_front p.events paces.0.events log (omega (arith, paces.2.room.from, paces.2.room.upto))

      here : (has_lost (drop p.events (take paces.0.events log)) ≡ true) ⊎ (has_lost (drop p.events (take paces.0.events log)) ≡ false) → has_lost (take paces.0.events log) ≡ false
      here (inl lost) = absurd (calm 0 (ap Some (paces.2.loses alone lost)))
      here (inr behind) = unlost_parts p.events (take paces.0.events log) (ap has_lost front ∙ none) behind
