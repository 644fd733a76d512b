-- What the laws of other crates say of the formatted disk and of runs.
use Rattle.std.proofs.Common.{ℕ, take, refl, subst, arith}
use Rattle.disk_contract.specs.Disk.{writes_in}
use Rattle.layout_geometry.specs.Geometry.{Geometry}
use Rattle.lang_tree.specs.Step.{start}
use Rattle.crash_stands.specs.Bounds.{bounds_of}
use Rattle.crash_argument.specs.Counts.{AreAtMost}
use Rattle.disk_memory.specs.MemDisk.{state_of as disk_state}
use Rattle.engine_store.specs.StoreOf.{state_of}
use Rattle.fs_session.specs.DiskRoom.{IsRoomOf}
use Rattle.fs_session.specs.Memory.{room_of}
use Rattle.fs_commands.specs.Opened.{blocks_in}
use Rattle.cmd_record.proofs.running.a_run_is_known.Goals as goal

pub returns-clause-laws : goal.returns-clause-laws
returns-clause-laws c = λ k fits. record {
  root = c.the_formatted_disk_stands_for_the_root.ensures.image k fits;
  one = c.an_image_stands_for_one_tree.ensures.image;
  alike = c.images_alike_below_n_stand_for_the_same.ensures;
  budget = c.a_run_may_end_at_once.ensures.budget k (start (bounds_of k)).tree;
  spends = c.the_writes_keep_within_the_budget_at_each_mark.ensures.first k (start (bounds_of k));
  limits = (c.geometries_are_within_limits.ensures k).0 fits;
}

pub returns-clause-known : goal.returns-clause-known
returns-clause-known c = λ k mounted cmds replies marks ran.
    let s = state_of disk_state (blocks_in c.args.system.now) in
    record {
      most = subst (λ (n : ℕ). AreAtMost mounted s.crash.log n) (omega arith)
          (c.the_writes_keep_within_the_budget.ensures (blocks_in c.args.system.now) k (start (bounds_of k)).tree (writes_in (take mounted s.crash.log)) 0 mounted cmds replies ran.budget (omega arith));
      room = λ f is. subst (λ (x : Geometry). IsRoomOf x f (room_of s)) ran.served.geom (c.a_command_is_answered_in_a_room_that_came_back.ensures.room refl (blocks_in c.args.system.now) f is);
      ends = λ more. c.a_run_may_end_at_once.ensures.run (blocks_in c.args.system.now) k (start (bounds_of k)).tree mounted cmds replies marks more ran.served;
      spends = λ more. c.a_run_may_end_at_once.ensures.spends (blocks_in c.args.system.now) k (start (bounds_of k)).tree mounted cmds replies marks more ran.served ran.spends;
    }

pub returns-clause-begins : goal.returns-clause-begins
returns-clause-begins c = λ mount base m t begins. c.a_run_begins_by_the_log.ensures refl mount base m t (blocks_in c.args.system.now) begins
