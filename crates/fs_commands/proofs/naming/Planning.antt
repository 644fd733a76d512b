-- The plan of a command by which a name comes to be, once it is accepted and there is room.
use Rattle.std.proofs.Common.{◌≡◌, ℕ, ◌≤◌, Bool, false, IsTrue, List, ◌++◌, length, Some, Ok, Err, sym, subst, ap, ◌∙◌}
use Rattle.std.proofs.lemmas.Option.{same_Some}
use Rattle.layout_bytes.specs.declared.slot.Slot.{Slot}
use Rattle.lang_tree.specs.declared.command.Cmd.{Cmd}
use Rattle.lang_tree.specs.Figures.{Figures, adding, growth}
use Rattle.lang_tree.specs.Step.{Session, step}
use Rattle.crash_stands.specs.Inodes.{Inode, ADir}
use Rattle.crash_stands.specs.Maps.{IsMapOf}
use Rattle.engine_blocks.specs.Calls.{IsSound, MovesPipeline}
use Rattle.engine_blocks.specs.State.{State, reusable_blocks}
use Rattle.fs_files.specs.declared.refusal.FileRefusal.{FileRefusal}
use Rattle.fs_files.specs.Calls.{places_in, GrowthRefused}
use Rattle.fs_files.specs.Content.{fails_reading, fails_settling}
use Rattle.fs_files.specs.Drafts.{DraftState}
use Rattle.fs_files.specs.Effects.{LooksAndSettles}
use Rattle.fs_dirs.specs.Directories.{inodes_in}
use Rattle.fs_session.specs.declared.plan.Plan.TheVariants.{Change}
use Rattle.fs_session.specs.declared.unused.NodeUse.{NodeUse}
use Rattle.fs_session.specs.Changes.{IsWithinCost, Uses}
use Rattle.fs_session.specs.Commands.{figures_on, places_of, renewed_on, GrowsInRuns, IsCalm, IsRefusedFor}
use Rattle.fs_commands.specs.Making.{AcceptsName, AddsName}
use Rattle.fs_session.specs.Plans.{Plans, MakesTree, StaysBeside}
use Rattle.fs_commands.specs.Refusals.{refusal_of}
use Rattle.fs_session.specs.Sessions.{IsSession, inodes}
use Rattle.fs_session.specs.NothingKept.{behind_all, grows_unrenewed, uses_unrenewed}
use Rattle.fs_session.specs.Space.{HasRoom, none_renewed}
use Rattle.fs_commands.proofs.growing.Refused.{growth_refused, refused_alike}
use Rattle.fs_commands.proofs.keeping.Leaves.{makes_stay}
use Rattle.fs_commands.proofs.planning.Looking.{growth_plan}
use Rattle.layout_extent.specs.Renew.{renew}
use Rattle.lang_tree.specs.Sharing.{SharedNodes, none_shared}

module _ (old now : State) (f : Session) (cmd : Cmd) (dir count : ℕ) (h : AcceptsName old f cmd dir count) (v : Figures) (value : v ≡ adding (growth old.books.geom.layout count)) (room : HasRoom old.books v) where
  room_is : HasRoom old.books (figures_on old f cmd)
  room_is = subst (λ w. HasRoom old.books w) (value ∙ sym h.figures) room

  need_is : (figures_on old f cmd).need ≡ growth old.books.geom.layout (length h.slots)
  need_is = ap (λ (w : Figures). w.need) h.figures ∙ ap (growth old.books.geom.layout) h.count

  cost_is : (adding (growth old.books.geom.layout (length h.slots))).cost ≡ v.cost
  cost_is = ap (λ n. (adding (growth old.books.geom.layout n)).cost) (sym h.count) ∙ ap (λ (w : Figures). w.cost) (sym value)

  -- the draft makes the tree
  pub made_so : (d : DraftState) (node : ℕ) (name : List ℕ) (x : Inode) → AddsName old now d dir node name x h.slots → IsMapOf f.limit.nodes (inodes_in now d) (step f cmd).0.tree → StaysBeside d now → MakesTree cmd d v.cost old now f
  made_so d node name x a map stays = record {
    accepted = h.accepted;
    answer = h.answer;
    costs = ap (λ (w : Figures). w.cost) (h.figures ∙ sym value);
    room = room_is;
    runs = λ k some grows. grows_unrenewed old f cmd h.renews now.books k _
        (subst (λ n. GrowsInRuns none_shared old now.books k n) (sym need_is) (subst (λ l. GrowsInRuns none_shared old now.books l (growth old.books.geom.layout (length h.slots))) (same_Some dir k (sym h.grows ∙ grows)) a.runs));
    reads = a.reads;
    map = map;
    snapshots = makes_stay cmd d now f h.keeps stays;
    within = subst (λ n. IsWithinCost now.books.geom d n) cost_is a.within;
    uses = uses_unrenewed old f cmd h.renews _ _ (reusable_blocks now.books) (places_of old) (places_in now d) d
        (subst (λ (w : Figures). Uses w.need w.freed (reusable_blocks now.books) none_renewed (places_of old) (places_in now d) d) (ap (λ n. adding (growth old.books.geom.layout n)) (sym h.count) ∙ sym h.figures) a.uses);
    enough = subst (λ n. n ≤ length (reusable_blocks now.books)) (sym need_is) a.runs.enough;
    rests = λ enough. a.rests (subst (λ n. n ≤ length (reusable_blocks old.books)) need_is enough);
  }

  -- it has no event where the directory's block may be taken
  pub quiet_so : IsCalm (growth old.books.geom.layout (length h.slots)) old now → IsCalm (figures_on old f cmd).need old now
  quiet_so quiet = subst (λ n. IsCalm n old now) (sym need_is) quiet

  -- its new blocks stand behind all of its own
  alike : (more : List ℕ) → places_of old dir ++ more ≡ renew (renewed_on old f cmd dir) 0 (places_of old dir) more
  alike more = sym (ap (λ (renewed : SharedNodes). renew (renewed dir) 0 (places_of old dir) more) h.renews ∙ behind_all 0 (places_of old dir) more)

  -- the directory couldn't grow
  pub refused_so : IsSound now.books → MovesPipeline old.books now.books → old.books.geom.n ≤ 1048576 → length (places_of old dir) ≤ 1048576 → (why : FileRefusal) → GrowthRefused (growth old.books.geom.layout (length h.slots)) (λ more. places_of old dir ++ more) old.books now.books why
      → IsRefusedFor old now f cmd (refusal_of why)
  refused_so sound moves small few why grown =
      growth_refused old now f cmd dir sound moves small h.accepted room_is h.grows few why
      (refused_alike (figures_on old f cmd).need (λ more. places_of old dir ++ more) (λ more. renew (renewed_on old f cmd dir) 0 (places_of old dir) more) old.books now.books alike why
      (subst (λ n. GrowthRefused n (λ more. places_of old dir ++ more) old.books now.books why) (sym need_is) grown))

-- A draft adds a name to the directory, and makes the command's tree.
pub record Names (old now : State) (f : Session) (cmd : Cmd) (d : DraftState) (dir : ℕ) (slots : List Slot) : Type 0 where
  pub node : ℕ
  pub name : List ℕ
  pub inode : Inode
  pub adds : AddsName old now d dir node name inode slots
  pub map : IsMapOf f.limit.nodes (inodes_in now d) (step f cmd).0.tree
  pub stays : StaysBeside d now

-- The plans.
module _ (tells : Bool) (cmd : Cmd) (s t : State) (dir count : ℕ) (v : Figures) (going : s.books.stopped ≡ false) (value : v ≡ adding (growth s.books.geom.layout count)) (room : HasRoom s.books v) (accepts : IsTrue tells → (f : Session) → IsSession s f → AcceptsName s f cmd dir count)
    (quiet : IsTrue tells → (slots : List Slot) → inodes s dir ≡ Some (ADir slots) → IsCalm (growth s.books.geom.layout (length slots)) s t) where
  quiet_is : IsTrue tells → (f : Session) → IsSession s f → IsCalm (figures_on s f cmd).need s t
  quiet_is told f h = let a = accepts told f h in quiet_so s t f cmd dir count a v value room (quiet told a.slots a.is_dir)

  pub named_plan : (d : DraftState) (nodes : NodeUse) → LooksAndSettles tells false false s t → ((told : IsTrue tells) (f : Session) (h : IsSession s f) → Names s t f cmd d dir (accepts told f h).slots) → Plans tells cmd (Ok (Change d v.cost nodes)) s t
  named_plan d nodes settles names = record {
    is = λ told f h. let n = names told f h in made_so s t f cmd dir count (accepts told f h) v value room d n.node n.name n.inode n.adds n.map n.stays;
    going = going;
    quiet = quiet_is;
    settles = settles;
  }

  pub name_refused : IsSound t.books → s.books.geom.n ≤ 1048576 → (IsTrue tells → length (places_of s dir) ≤ 1048576) → (why : FileRefusal) → LooksAndSettles tells (fails_reading {T = DraftState} (Err why)) (fails_settling {T = DraftState} (Err why)) s t
      → (IsTrue tells → (slots : List Slot) → inodes s dir ≡ Some (ADir slots) → GrowthRefused (growth s.books.geom.layout (length slots)) (λ more. places_of s dir ++ more) s.books t.books why) → Plans tells cmd (Err (refusal_of why)) s t
  name_refused sound small few why settles refused =
      growth_plan tells cmd s t why going (λ told f h. let a = accepts told f h in refused_so s t f cmd dir count a v value room sound settles.pipeline small (few told) why (refused told a.slots a.is_dir)) quiet_is settles
