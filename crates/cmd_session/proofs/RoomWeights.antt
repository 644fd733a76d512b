-- In its room a command leaves no more weight than it may at most, while no call of the disk fails.
use Rattle.std.proofs.Common.{◌≡◌, ◌⊎◌, inl, inr, ⊎_elim, ◌≤◌, false, refl, sym, ap, ◌∙◌, arith}
use Rattle.std.proofs.lemmas.Bool.{cases_Bool, true≢false}
use Rattle.layout_geometry.specs.Geometry.{Geometry, bitmap_blocks}
use Rattle.lang_tree.specs.declared.command.Cmd.{Cmd}
use Rattle.lang_tree.specs.declared.command.Cmd.TheVariants as cmds
use Rattle.lang_tree.specs.declared.command.Refusal.{Refusal}
use Rattle.lang_tree.specs.declared.command.Reply.{Reply}
use Rattle.lang_tree.specs.Conditions.{refusal}
use Rattle.lang_tree.specs.Points.{is_refusal, is_sync}
use Rattle.lang_tree.specs.Step.{Session}
use Rattle.fs_session.specs.DiskRoom.{AnswersOn, AnswersOver, BeginsOver, SyncsOver}
use Rattle.fs_session.specs.NothingKept.{CostsAsAlone}
use Rattle.fs_session.specs.Room.{IsDoneIn, RefusesIn, Room, alone_by, figures_in, shared_by}
use Rattle.cmd_session.specs.Budget.{weight_by}
use Rattle.cmd_session.specs.Pacing.{is_fault}
use Rattle.cmd_session.proofs.Costing.{within_most}
use Rattle.cmd_session.proofs.Weights.{free_by, weight_answered, weight_done, weight_refused}

module _ (unshared : CostsAsAlone) (g : Geometry) (f : Session) (reply : Reply) (next : Session) (room : Room) where
  abbrev IsLow : Cmd → Room → Type 0
  IsLow cmd r = room.weight ≤ weight_by (bitmap_blocks g) f r.weight cmd reply

  -- a command that is no sync and weighs nothing
  low_same : (cmd : Cmd) (r back : Room) → is_sync cmd ≡ false → back.weight ≡ r.weight → room ≡ back → IsLow cmd r
  low_same cmd r back none same is = ⊎_elim
      (λ refused. omega (arith, ap (λ (q : Room). q.weight) is, same, weight_refused (bitmap_blocks g) f r.weight cmd reply refused))
      (λ calm. omega (arith, ap (λ (q : Room). q.weight) is, same, weight_done (bitmap_blocks g) f r.weight cmd reply calm none))
      (cases_Bool (is_refusal reply))

  low_refused : (P : Refusal → Type 0) (cmd : Cmd) (r back : Room) → back.weight ≡ r.weight → RefusesIn P f back reply next room → IsLow cmd r
  low_refused P cmd r back same x = omega (arith, ap (λ (q : Room). q.weight) x.4, same, weight_refused (bitmap_blocks g) f r.weight cmd reply (ap is_refusal x.2))

  low_done : (cmd : Cmd) (r back : Room) → is_sync cmd ≡ false → back.weight ≡ r.weight → IsDoneIn g f back cmd reply next room → IsLow cmd r
  low_done cmd r back none same d = omega (
    arith,
    d.spends.weight,
    same,
    weight_answered (bitmap_blocks g) f r.weight cmd reply (figures_in g f back cmd).cost (ap (λ (x : Session × Reply). x.1) (sym d.answer)) none
        (free_by (bitmap_blocks g) (shared_by g f.tree back) (alone_by g f.tree back) f cmd (refusal f.limit f.tree cmd)) (within_most unshared g f back cmd).1,
  )

  low_tree : (P Q : Refusal → Type 0) (cmd : Cmd) (r back : Room) → is_sync cmd ≡ false → back.weight ≡ r.weight → (IsDoneIn g f back cmd reply next room ⊎ RefusesIn P f back reply next room) ⊎ RefusesIn Q f back reply next room → IsLow cmd r
  low_tree P Q cmd r back none same (inl (inl done)) = low_done cmd r back none same done
  low_tree P Q cmd r back none same (inl (inr refused)) = low_refused P cmd r back same refused
  low_tree P Q cmd r back none same (inr refused) = low_refused Q cmd r back same refused

  low_synced : (cmd : Cmd) (r back : Room) → is_fault reply ≡ false → back.weight ≡ r.weight → SyncsOver f back cmd reply next room → IsLow cmd r
  low_synced cmd r back calm same (inl done) = omega (arith, done.1.weight)
  low_synced cmd r back calm same (inr (inl refused)) = low_refused _ cmd r back same refused
  low_synced cmd r back calm same (inr (inr failed)) = absurd (true≢false (sym (ap is_fault failed.0) ∙ calm))

  over : (cmd : Cmd) (r back : Room) → is_fault reply ≡ false → back.weight ≡ r.weight → AnswersOver g f back cmd reply next room → IsLow cmd r
  over cmds.Bad r back calm same (inl x) = low_same cmds.Bad r back refl same x.1
  over cmds.Bad r back calm same (inr x) = low_refused _ cmds.Bad r back same x
  over cmds.Poll r back calm same (inl x) = low_same cmds.Poll r back refl same x.1
  over cmds.Poll r back calm same (inr x) = low_refused _ cmds.Poll r back same x
  over (cmds.Dwait n) r back calm same (inl x) = low_same (cmds.Dwait n) r back refl same x.1
  over (cmds.Dwait n) r back calm same (inr x) = low_refused _ (cmds.Dwait n) r back same x
  over cmds.Durable r back calm same (inl x) = low_same cmds.Durable r back refl same x.1
  over cmds.Durable r back calm same (inr x) = low_refused _ cmds.Durable r back same x
  over cmds.Osync r back calm same x = low_synced cmds.Osync r back calm same x
  over cmds.Dsync r back calm same x = low_synced cmds.Dsync r back calm same x
  over (cmds.Mkdir path) r back calm same x = low_tree _ _ (cmds.Mkdir path) r back refl same x
  over (cmds.Create path) r back calm same x = low_tree _ _ (cmds.Create path) r back refl same x
  over (cmds.Write path offset bytes) r back calm same x = low_tree _ _ (cmds.Write path offset bytes) r back refl same x
  over (cmds.Fill path offset count byte) r back calm same x = low_tree _ _ (cmds.Fill path offset count byte) r back refl same x
  over (cmds.Read path offset count) r back calm same x = low_tree _ _ (cmds.Read path offset count) r back refl same x
  over (cmds.Truncate path size) r back calm same x = low_tree _ _ (cmds.Truncate path size) r back refl same x
  over (cmds.Link path other) r back calm same x = low_tree _ _ (cmds.Link path other) r back refl same x
  over (cmds.Unlink path) r back calm same x = low_tree _ _ (cmds.Unlink path) r back refl same x
  over (cmds.Rmdir path) r back calm same x = low_tree _ _ (cmds.Rmdir path) r back refl same x
  over (cmds.Rename from to) r back calm same x = low_tree _ _ (cmds.Rename from to) r back refl same x
  over (cmds.Stat path) r back calm same x = low_tree _ _ (cmds.Stat path) r back refl same x
  over (cmds.List path) r back calm same x = low_tree _ _ (cmds.List path) r back refl same x
  over (cmds.Snap name) r back calm same x = low_tree _ _ (cmds.Snap name) r back refl same x
  over (cmds.Unsnap name) r back calm same x = low_tree _ _ (cmds.Unsnap name) r back refl same x
  over cmds.Snaps r back calm same x = low_tree _ _ cmds.Snaps r back refl same x
  over (cmds.At name look) r back calm same x = low_tree _ _ (cmds.At name look) r back refl same x

  began : (P : Refusal → Type 0) (cmd : Cmd) (r : Room) → is_fault reply ≡ false → RefusesIn P f r reply next room ⊎ BeginsOver g f r cmd reply next room → IsLow cmd r
  began P cmd r calm (inl refused) = low_refused P cmd r r refl refused
  began P cmd r calm (inr x) = over cmd r x.back calm x.comes_back.weight x.answers

  pub weighs_low : (cmd : Cmd) (r : Room) → is_fault reply ≡ false → AnswersOn g f r cmd reply next room → IsLow cmd r
  weighs_low cmds.Bad r calm x = low_same cmds.Bad r r refl refl x.1
  weighs_low cmds.Poll r calm x = began _ cmds.Poll r calm x
  weighs_low (cmds.Dwait n) r calm x = began _ (cmds.Dwait n) r calm x
  weighs_low cmds.Durable r calm x = began _ cmds.Durable r calm x
  weighs_low cmds.Osync r calm x = began _ cmds.Osync r calm x
  weighs_low cmds.Dsync r calm x = began _ cmds.Dsync r calm x
  weighs_low (cmds.Mkdir path) r calm x = began _ (cmds.Mkdir path) r calm x
  weighs_low (cmds.Create path) r calm x = began _ (cmds.Create path) r calm x
  weighs_low (cmds.Write path offset bytes) r calm x = began _ (cmds.Write path offset bytes) r calm x
  weighs_low (cmds.Fill path offset count byte) r calm x = began _ (cmds.Fill path offset count byte) r calm x
  weighs_low (cmds.Read path offset count) r calm x = began _ (cmds.Read path offset count) r calm x
  weighs_low (cmds.Truncate path size) r calm x = began _ (cmds.Truncate path size) r calm x
  weighs_low (cmds.Link path other) r calm x = began _ (cmds.Link path other) r calm x
  weighs_low (cmds.Unlink path) r calm x = began _ (cmds.Unlink path) r calm x
  weighs_low (cmds.Rmdir path) r calm x = began _ (cmds.Rmdir path) r calm x
  weighs_low (cmds.Rename from to) r calm x = began _ (cmds.Rename from to) r calm x
  weighs_low (cmds.Stat path) r calm x = began _ (cmds.Stat path) r calm x
  weighs_low (cmds.List path) r calm x = began _ (cmds.List path) r calm x
  weighs_low (cmds.Snap name) r calm x = began _ (cmds.Snap name) r calm x
  weighs_low (cmds.Unsnap name) r calm x = began _ (cmds.Unsnap name) r calm x
  weighs_low cmds.Snaps r calm x = began _ cmds.Snaps r calm x
  weighs_low (cmds.At name look) r calm x = began _ (cmds.At name look) r calm x
