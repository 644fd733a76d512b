-- Sessions in which looks alone are asked: they change nothing and make no point, so each honest image stands for the tree with which the session began.
use Rattle.std.proofs.Common.{◌≡◌, ◌⊎◌, inl, inr, ℕ, zero, suc, ◌+◌, ◌≤◌, ◌&&◌, Bool, true, false, true≢false, List, [], ◌∷◌, ◌++◌, length, take, slice_get, Option, Some, None, refl, sym, ap, ◌∙◌, subst, arith, if◌then◌else◌}
use Rattle.std.proofs.Math.Logic.{∥∥₁_map}
use Rattle.std.proofs.lemmas.Bool.{and_parts}
use Rattle.std.proofs.lemmas.Option.{same_Some, none-some}
use Rattle.std.specs.Prelude.{◌↔◌}
use Rattle.std.specs.List.{list_all}
use Rattle.base_types.specs.Seal.{Blocks}
use Rattle.disk_contract.specs.declared.event.Event.{Event}
use Rattle.disk_contract.specs.Crash.{IsHonest, Window}
use Rattle.lang_tree.specs.declared.command.Cmd.{Cmd}
use Rattle.lang_tree.specs.declared.command.Cmd.TheVariants.{Read, Stat, List as ListNames}
use Rattle.lang_tree.specs.declared.command.Refusal.{Refusal}
use Rattle.lang_tree.specs.declared.command.Reply.{Reply}
use Rattle.lang_tree.specs.declared.command.Reply.TheVariants.{Bytes, Names as NamesReply, Refused}
use Rattle.lang_tree.specs.Conditions.{refusal}
use Rattle.lang_tree.specs.Names.{names_in}
use Rattle.lang_tree.specs.Points.{Point, after_reply, floor, is_refusal, is_sync, made_by, may_have_written, points_after, points_of, top}
use Rattle.lang_tree.specs.Run.{Answers, is_of_disk}
use Rattle.lang_tree.specs.Step.{Session, accepted, answered, session_on, stat, step}
use Rattle.lang_tree.specs.Tree.{Bounds, Tree}
use Rattle.crash_stands.specs.Stands.{StandsFor}
use Rattle.cmd_session.specs.Crashes.{LeavesPoints, StandsForOne}
use Rattle.cmd_session.specs.Histories.{session_after}
use Rattle.cmd_upgrade.specs.Looks.{is_look}

-- a look leaves the session as it is, and is no sync
look_stays : (s : Session) (cmd : Cmd) → is_look cmd ≡ true → (accepted s cmd).0 ≡ s
look_stays s (Read path offset count) e = refl
look_stays s (Stat path) e = refl
look_stays s (ListNames path) e = refl
look_stays s other e = absurd (true≢false (sym e))

look_answered : (s : Session) (cmd : Cmd) (o : Option Refusal) → is_look cmd ≡ true → (answered s cmd o).0 ≡ s
look_answered s cmd (Some why) e = refl
look_answered s cmd None e = look_stays s cmd e

look_no_sync : (cmd : Cmd) → is_look cmd ≡ true → is_sync cmd ≡ false
look_no_sync (Read path offset count) e = refl
look_no_sync (Stat path) e = refl
look_no_sync (ListNames path) e = refl
look_no_sync other e = absurd (true≢false (sym e))

after_look : (s : Session) (cmd : Cmd) (reply : Reply) → is_look cmd ≡ true → after_reply s cmd reply ≡ s
after_look s cmd reply e = by (is_refusal reply)
  where
    by : (b : Bool) → (if b then s else (step s cmd).0) ≡ s
    by true = refl
    by false = look_answered s cmd (refusal s.limit s.tree cmd) e

pub looks_stay : (s : Session) (cmds : List Cmd) (replies : List Reply) → list_all is_look cmds ≡ true → session_after s cmds replies ≡ s
looks_stay s [] replies all = refl
looks_stay s (c ∷ cmds) [] all = refl
looks_stay s (c ∷ cmds) (r ∷ replies) all =
    let p = and_parts (is_look c) (list_all is_look cmds) all in
    ap (λ (u : Session). session_after u cmds replies) (after_look s c r p.0) ∙ looks_stay s cmds replies p.1

no_point : (s : Session) (cmd : Cmd) (reply : Reply) (begun : ℕ) → is_look cmd ≡ true → made_by s cmd reply begun ≡ []
no_point s cmd reply begun e = ap (λ (b : Bool). made_if (b && (s.changed && may_have_written reply))) (look_no_sync cmd e)
  where
    made_if : Bool → List Point
    made_if b = if b then record { tree = s.tree; begun = begun } ∷ [] else []

no_points : (s : Session) (begun : ℕ) (cmds : List Cmd) (replies : List Reply) (marks : List ℕ) → list_all is_look cmds ≡ true → points_after s begun cmds replies marks ≡ []
no_points s begun [] replies marks all = refl
no_points s begun (c ∷ cmds) [] marks all = refl
no_points s begun (c ∷ cmds) (r ∷ replies) [] all = refl
no_points s begun (c ∷ cmds) (r ∷ replies) (m ∷ marks) all =
    let p = and_parts (is_look c) (list_all is_look cmds) all in
    ap (λ ps. ps ++ points_after (after_reply s c r) m cmds replies marks) (no_point s c r begun p.0)
    ∙ ap (λ (u : Session). points_after u m cmds replies marks) (after_look s c r p.0) ∙ no_points s m cmds replies marks p.1

-- one look more
pub looks_more : (cmds : List Cmd) (cmd : Cmd) → list_all is_look cmds ≡ true → is_look cmd ≡ true → list_all is_look (cmds ++ cmd ∷ []) ≡ true
looks_more [] cmd all e = ap (λ (b : Bool). b && true) e
looks_more (c ∷ cmds) cmd all e =
    let p = and_parts (is_look c) (list_all is_look cmds) all in
    ap (λ (b : Bool). b && list_all is_look (cmds ++ cmd ∷ [])) p.0 ∙ looks_more cmds cmd p.1 e

-- What a look answers that isn't refused.

pub names_answered : (s next : Session) (path : List (List ℕ)) (names : List (List ℕ)) → Answers is_of_disk s (ListNames path) (NamesReply names) next → names ≡ names_in s.tree.names path
names_answered s next path names (inl is) = by (refusal s.limit s.tree (ListNames path)) (ap (λ (r : Session × Reply). r.1) is)
  where
    by : (o : Option Refusal) → (answered s (ListNames path) o).1 ≡ NamesReply names → names ≡ names_in s.tree.names path
    by (Some why) e = absurd cc
    by None e = let same : NamesReply (names_in s.tree.names path) ≡ NamesReply names = e in cc
names_answered s next path names (inr (inl r)) = let e = r.2 in absurd cc
names_answered s next path names (inr (inr k)) = let e = k.1.is in absurd cc

-- Crashes.

module _ (n : ℕ) (base : Blocks) (limit : Bounds) (t : Tree) (alone : (u v : Tree) (img : Blocks) → StandsFor n img u → StandsFor n img v → u ≡ v) (begun : StandsFor n base t) where
  only_first : (number : ℕ) (p : Point) → slice_get (record { tree = t; begun = 0 } ∷ []) number ≡ Some p → p.tree ≡ t
  only_first zero p is = ap (λ (q : Point). q.tree) (sym (same_Some (record { tree = t; begun = 0 }) p is))
  only_first (suc number) p is = absurd (none-some p is)

  -- each honest image stands for the same as the blocks with which it began
  pub stands_still : (log : List Event) (mounted : ℕ) (cmds : List Cmd) (replies : List Reply) (marks : List ℕ) → list_all is_look cmds ≡ true
      → LeavesPoints n base (session_on limit t) log mounted cmds replies marks → Window n base log 0 (λ img. ∥ ((u : Tree) → StandsFor n img u ↔ StandsFor n base u) ∥₁)
  stands_still log mounted cmds replies marks all crashes = record { each = λ k img from upto honest. ∥∥₁_map (crashes.each k img upto honest) (by k img) }
    where
      by : (k : ℕ) (img : Blocks) → StandsForOne n img (points_of (session_on limit t) mounted cmds replies marks) (floor k replies marks) (top k (session_on limit t) mounted cmds replies marks)
          → (u : Tree) → StandsFor n img u ↔ StandsFor n base u
      by k img one u =
          let points : points_of (session_on limit t) mounted cmds replies marks ≡ record { tree = t; begun = 0 } ∷ [] = ap (λ ps. record { tree = t; begun = 0 } ∷ ps) (no_points (session_on limit t) mounted cmds replies marks all) in
          let stands : StandsFor n img t = subst (λ (v : Tree). StandsFor n img v) (only_first one.number one.point (subst (λ (ps : List Point). slice_get ps one.number ≡ Some one.point) points one.is)) one.stands in (
            (λ is. subst (λ (v : Tree). StandsFor n base v) (alone t u img stands is) begun),
            (λ is. subst (λ (v : Tree). StandsFor n img v) (alone t u base begun is) stands),
          )
