-- What a run of commands comes to, and what its last reply promises.
use Rattle.std.proofs.Common.{◌≡◌, ℕ, ◌+◌, ◌<◌, ◌≤◌, List, [], ◌∷◌, ◌++◌, length, get_or, take, take_all, sym, ap, ◌∙◌, subst, arith}
use Rattle.std.proofs.lemmas.List.{take_more}
use Rattle.base_types.specs.Seal.{Blocks}
use Rattle.disk_contract.specs.declared.event.Event.{Event}
use Rattle.disk_contract.specs.Disk as disk
use Rattle.layout_geometry.specs.Geometry.{Geometry}
use Rattle.lang_tree.specs.declared.command.Cmd.{Cmd}
use Rattle.lang_tree.specs.declared.command.Cmd.TheVariants.{Dsync}
use Rattle.lang_tree.specs.declared.command.Reply.{Reply}
use Rattle.lang_tree.specs.Points.{floor, promised_by}
use Rattle.lang_tree.specs.Tree.{Tree}
use Rattle.engine_blocks.specs.State.{State}
use Rattle.cmd_session.specs.Ending.{HasRun}
use Rattle.cmd_session.specs.Serving.{HasServed}
use Rattle.cmd_session.specs.Shared.{floor_at_last, has_run}
use Rattle.example_embedding.specs.Serving.{Keeps}

-- So many commands of a list were answered: none yet, one more, and all of them.

pub none_yet : (g : Geometry) (t : Tree) (mounted : ℕ) (cmds : List Cmd) (replies : List Reply) (marks : List ℕ) (s : State) → (replies ≡ []) × (marks ≡ []) → HasServed g t mounted [] [] [] s → HasServed g t mounted (take 0 cmds) replies marks s
none_yet g t mounted cmds replies marks s empty served = subst (λ (rs : List Reply). HasServed g t mounted (take 0 cmds) rs marks s) (sym empty.0) (subst (λ (ms : List ℕ). HasServed g t mounted (take 0 cmds) [] ms s) (sym empty.1) served)

pub one_more : (g : Geometry) (t : Tree) (mounted : ℕ) (cmds : List Cmd) (i : ℕ) (cmd : Cmd) (before after : List Reply) (reply : Reply) (marks : List ℕ) (s : State) → i < length cmds → get_or cmds i cmd ≡ cmd → after ≡ before ++ reply ∷ []
    → HasServed g t mounted (take i cmds ++ cmd ∷ []) (before ++ reply ∷ []) marks s → HasServed g t mounted (take (i + 1) cmds) after marks s
one_more g t mounted cmds i cmd before after reply marks s lt own is served =
    subst (λ (cs : List Cmd). HasServed g t mounted cs after marks s) (sym (take_more cmds i cmd lt ∙ ap (λ (x : Cmd). take i cmds ++ x ∷ []) own)) (subst (λ (rs : List Reply). HasServed g t mounted (take i cmds ++ cmd ∷ []) rs marks s) (sym is) served)

pub all_of_them : (g : Geometry) (t : Tree) (mounted : ℕ) (cmds : List Cmd) (i : ℕ) (replies : List Reply) (marks : List ℕ) (s : State) → length cmds ≤ i → HasServed g t mounted (take i cmds) replies marks s → HasServed g t mounted cmds replies marks s
all_of_them g t mounted cmds i replies marks s le served = subst (λ (cs : List Cmd). HasServed g t mounted cs replies marks s) (take_all i cmds le) served

-- What a session keeps in the end, once its last reply has its mark.
pub keeps_by : (g : Geometry) (t : Tree) (mounted : ℕ) (cmds : List Cmd) (replies : List Reply) (kept : Reply) (before marks : List ℕ) (s : State) (last : disk.State) → last.base ≡ s.crash.base → last.log ≡ s.crash.log → length before ≡ length replies → marks ≡ before ++ length s.crash.log ∷ []
    → HasServed g t mounted (cmds ++ Dsync ∷ []) (replies ++ kept ∷ []) marks s → Keeps g t mounted last cmds replies kept marks
keeps_by g t mounted cmds replies kept before marks s last base log same is served = record {
  run = subst (λ (b : Blocks). HasRun g t b last.log mounted (cmds ++ Dsync ∷ []) (replies ++ kept ∷ []) marks) (sym base)
      (subst (λ (es : List Event). HasRun g t s.crash.base es mounted (cmds ++ Dsync ∷ []) (replies ++ kept ∷ []) marks) (sym log) (has_run g t mounted (cmds ++ Dsync ∷ []) (replies ++ kept ∷ []) marks s served));
  sure = subst (λ (ms : List ℕ). promised_by kept ≤ floor (length last.log) (replies ++ kept ∷ []) ms) (sym is)
      (floor_at_last (length last.log) replies before kept (length s.crash.log) same (omega (arith, ap (λ (es : List Event). length es) log)));
}
