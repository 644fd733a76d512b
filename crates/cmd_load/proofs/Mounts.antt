-- What comes of the mount of a load's disk: no call fails, and the root alone stands in the blocks.
use Rattle.std.proofs.Common.{◌≡◌, inl, inr, ℕ, ◌<◌, ◌&&◌, nat_lt, not, Bool, true, false, List, [], refl, sym, ap, ◌∙◌, subst, arith}
use Rattle.std.proofs.lemmas.Option.{slice_get_within}
use Rattle.std.proofs.lemmas.Bool.{false≢true, lt-ltb}
use Rattle.disk_contract.specs.declared.event.Event.{Event}
use Rattle.disk_contract.specs.Disk as disk
use Rattle.disk_contract.specs.Manner.{Manner}
use Rattle.disk_memory.specs.MemDisk.{manner_by}
use Rattle.disk_memory.specs.declared.rule.Rule.{Rule}
use Rattle.layout_geometry.specs.Geometry.{Geometry}
use Rattle.engine_blocks.specs.State.{State}
use Rattle.cmd_host.specs.declared.disk.Behaviour.{Behaviour}
use Rattle.cmd_host.specs.Behaving.{MountFails, Setting, rule_of}
use Rattle.cmd_host.specs.Disks.{FailedToMount, IsOpened, setting_on}
use Rattle.cmd_load.specs.Serving.{Serves, behaviour_of, room}
use Rattle.crash_stands.specs.Bounds.{bounds_of}
use Rattle.cmd_load.specs.Summary.{at_first, shape}
use Rattle.cmd_load.proofs.Trees.{start_tree}

-- a disk none of whose calls is to fail, with room for a write, is mounted
mounts : (space : ℕ) (rule : Rule) (log : List Event) → 0 < space → MountFails (manner_by space [] rule) log → ⊥
mounts space rule log some (inl reads) = false≢true reads
mounts space rule log some (inr (inl stalls)) = false≢true stalls
mounts space rule log some (inr (inr (inl refuses))) = false≢true (sym (ap not (lt-ltb 0 space some)) ∙ refuses)
mounts space rule log some (inr (inr (inr loses))) = false≢true (elim (nat_lt 0 space) as (λ a. (b : Bool) → (a && b) ≡ true → b ≡ true) [ true ↦ λ b e. e | false ↦ λ b e. absurd (false≢true e) ] false loses.1)

never_fails : (seed : ℕ) (d : disk.State) → FailedToMount (setting_on shape (behaviour_of seed)) d → ⊥
never_fails seed d f = mounts room (rule_of (behaviour_of seed).notices) d.log (omega arith) f.cause

-- and the file system that is opened begins the load
begins : (seed : ℕ) (s : State) → IsOpened (setting_on shape (behaviour_of seed)) s → Serves at_first 0 s
begins seed s is = record {
  session = is.served.goes_on.session;
  geom = is.served.geom;
  weight = is.room.weight;
  held = is.room.held;
  going = is.served.goes_on.going (λ i fault. absurd (omega (arith, slice_get_within [] i _ fault)));
  readable = ap (λ (m : Manner). m.reads_fail) is.manner;
  tree = start_tree (bounds_of shape);
  none = λ e. refl;
  refused = omega arith;
  turns = omega (arith, is.turns);
}

-- The same, as the code has them: geometry and behaviour are those of a load.
module _ (seed : ℕ) (g : Geometry) (b : Behaviour) (geom : g ≡ shape) (asked : b ≡ behaviour_of seed) where
  so : (P : Setting → Type 0) → P (setting_on g b) → P (setting_on shape (behaviour_of seed))
  so P h = subst (λ (k : Geometry). P (setting_on k (behaviour_of seed))) geom (subst (λ (x : Behaviour). P (setting_on g x)) asked h)

  pub never_failed : (d : disk.State) → FailedToMount (setting_on g b) d → ⊥
  never_failed d f = never_fails seed d (so (λ (set : Setting). FailedToMount set d) f)

  pub opened : (s : State) → IsOpened (setting_on g b) s → Serves at_first 0 s
  opened s is = begins seed s (so (λ (set : Setting). IsOpened set s) is)
