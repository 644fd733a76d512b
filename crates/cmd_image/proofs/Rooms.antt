-- Commands that go by the log of their disk are answered one after the other in the room that it gives; and blocks that were only looked at are of the same mount.
use Rattle.std.proofs.Common.{◌≡◌, ◌↔◌, ℕ, ◌≤◌, List, [], ◌∷◌, length, sym, ap, ◌∙◌, subst}
use Rattle.base_types.specs.Seal.{Blocks}
use Rattle.disk_contract.specs.declared.event.Event.{Event}
use Rattle.disk_contract.specs.Manner.{Manner}
use Rattle.crash_argument.specs.Points.{MountedSession}
use Rattle.lang_tree.specs.declared.command.Cmd.{Cmd}
use Rattle.lang_tree.specs.declared.command.Reply.{Reply}
use Rattle.engine_blocks.specs.Crashes.{IssuesNothing, SameRecords}
use Rattle.engine_blocks.specs.State.{State}
use Rattle.engine_store.specs.SessionView.{IsSure, Starts, records_of}
use Rattle.fs_session.specs.DiskRoom.{RunsOn}
use Rattle.fs_session.specs.Moments.{answer_in_room}
use Rattle.cmd_session.specs.Going.{IsOfMount}
use Rattle.cmd_session.specs.Pacing.{Pace, PacesBy}

module _ (mount : MountedSession) (base : Blocks) (m : Manner) (log : List Event) where
  pub rooms_by : (cmds : List Cmd) (replies : List Reply) (marks : List ℕ) (p end : Pace) → PacesBy mount base m log p cmds replies marks end → RunsOn mount.geom p.taken.session p.room.room cmds replies end.taken.session end.room.room
  rooms_by [] [] [] p end paces = (ap (λ (x : Pace). x.taken.session) paces, ap (λ (x : Pace). x.room.room) paces)
  rooms_by [] [] (k ∷ marks) p end paces = absurd paces
  rooms_by [] (r ∷ replies) marks p end paces = absurd paces
  rooms_by (c ∷ cmds) [] marks p end paces = absurd paces
  rooms_by (c ∷ cmds) (r ∷ replies) [] p end paces = absurd paces
  rooms_by (c ∷ cmds) (r ∷ replies) (k ∷ marks) p end paces =
      let next = paces.0 in
      (next.taken.session, next.room.room, answer_in_room mount.geom _ _ p.taken.session p.room c r next.taken.session next.room paces.2.room.answers, rooms_by cmds replies marks next end paces.3)

-- Blocks of a mount whose points are sure and whose records are told by what its disk began with, and others of which the same is known.
pub mount_stays : (mount : MountedSession) (base : Blocks) (s u : State) → mount.geom ≡ s.books.geom → u.books.geom ≡ s.books.geom → mount.mounted ≤ length u.crash.log → s.crash.base ≡ base → IssuesNothing s u
    → ((front : List Event) (p : ℕ) → s.crash.sure front p ↔ ∥ IsSure mount s.crash.base front p ∥₁) → SameRecords (records_of mount s.crash.base) s.crash.records → IsOfMount mount base u
mount_stays mount base s u geom same late is crash sure records = record {
  geom = geom ∙ sym same;
  late = late;
  alike = λ b low. ap (λ (x : Blocks). x b) (crash.base ∙ is);
  sure = λ front p. let told = sure front p in let here = crash.sure front p in (
    λ x. subst (λ (y : Blocks). ∥ IsSure mount y front p ∥₁) is (told.0 (here.0 x)),
    λ x. here.1 (told.1 (subst (λ (y : Blocks). ∥ IsSure mount y front p ∥₁) (sym is) x)),
  );
  records = record {
    told = crash.records.told ∙ records.told;
    starts = λ front number. let told = records.starts front number in let here = crash.records.starts front number in (
      λ x. subst (λ (y : Blocks). ∥ Starts mount y front number ∥₁) is (told.0 (here.0 x)),
      λ x. here.1 (told.1 (subst (λ (y : Blocks). ∥ Starts mount y front number ∥₁) (sym is) x)),
    );
  };
}
