-- Reads and settlings one behind the other, and plans that end with a reply, a draft or a refusal after reads alone.
use Rattle.std.proofs.Common.{◌≡◌, inl, inr, ℕ, Bool, false, IsTrue, List, Option, None, Some, Result, Ok, Err, refl, sym, subst, ap, ◌∙◌, arith, ◌≤◌, ◌+◌, ◌^◌}
use Rattle.base_types.specs.Counts.{after_call}
use Rattle.disk_contract.specs.Disk.{writes_in}
use Rattle.lang_tree.specs.declared.command.Cmd.{Cmd}
use Rattle.lang_tree.specs.declared.command.Refusal.{Refusal}
use Rattle.lang_tree.specs.declared.command.Reply.TheVariants.{Ok as Done, Refused}
use Rattle.lang_tree.specs.Conditions.{least_unused, refusal}
use Rattle.lang_tree.specs.Figures.{Figures, nothing}
use Rattle.lang_tree.specs.Step.{Session, step}
use Rattle.lang_tree.specs.Tree.{Bounds, Snapshots, Tree}
use Rattle.engine_blocks.specs.State.{Bookkeeping, State}
use Rattle.engine_blocks.specs.Calls.{IsSound, MovesPipeline}
use Rattle.engine_blocks.specs.Crashes.{Advances}
use Rattle.fs_files.specs.declared.refusal.FileRefusal.{FileRefusal}
use Rattle.fs_files.specs.declared.refusal.FileRefusal.TheVariants as file
use Rattle.fs_files.specs.Calls.{GrowthRefused, LookRefused}
use Rattle.fs_files.specs.Content.{fails_reading, fails_settling}
use Rattle.fs_files.specs.Drafts.{DraftState}
use Rattle.fs_files.specs.Effects.{LooksOnly, LooksAndSettles, ServesAllOrNone}
use Rattle.fs_session.specs.declared.plan.Plan.{Plan}
use Rattle.fs_session.specs.declared.plan.Plan.TheVariants.{Answer, Change}
use Rattle.fs_session.specs.declared.unused.NodeUse.{NodeUse}
use Rattle.fs_session.specs.Commands.{figures_on, IsCalm, IsCutShort, IsRefusedFor, is_read_fault, is_disk_fault}
use Rattle.fs_session.specs.Plans.{PlanIs, Plans, MakesTree, plan_fails_reading, plan_fails_settling}
use Rattle.fs_commands.specs.Refusals.{refusal_of}
use Rattle.fs_session.specs.Sessions.{IsSession, inodes}
use Rattle.fs_session.specs.Space.{LacksRoom}
use Rattle.fs_session.specs.Staying.{freed_alike}
pub use Rattle.fs_files.specs.Places.{looks_none as no_look}
use Rattle.fs_commands.proofs.planning.Answers.{tree_refuses, tree_stays}
use Rattle.fs_commands.proofs.Given.{MapLaw, RefusalLaw, Rests, session_map}
use Rattle.crash_stands.specs.Stands.{IsTreeOf}
use Rattle.fs_inodes.specs.Refusals.{reason}

-- bookkeeping that is as before
still : (k l : Bookkeeping) → l ≡ k → MovesPipeline k l
still k l e =
    let waits : k.waiting ≤ k.waiting = omega arith in
    let places : k.free_places ≤ k.free_places = omega arith in
    let turns : k.turns ≤ k.turns + 2 ^ 18 = omega arith in
    let floor : k.floor ≤ k.floor = omega arith in
    subst (MovesPipeline k) (sym e) assumption

-- blocks that were only read
pub looked : (tells failed : Bool) (s t : State) → s.books.stopped ≡ false → LooksOnly tells failed s t → (IsTrue tells → Advances s t) → LooksAndSettles tells failed false s t
looked tells failed s t going h advances = record {
  pipeline = still s.books t.books h.books;
  serves = λ well. inl (record { reusable = λ b at. ap (λ (k : Bookkeeping). k.reusable b) h.books; since = λ b at. ap (λ (k : Bookkeeping). k.since b) h.books });
  read_faults = h.counts.read_faults;
  faults = h.counts.faults;
  stopped = ap (λ (b : Bookkeeping). b.stopped) h.books ∙ going;
  waits = omega (arith, h.counts.waits);
  ticks = h.counts.ticks;
  map = h.map;
  crash = advances;
  writes = λ told. omega (arith, ap writes_in (h.crash told).log, ap (λ (b : Bookkeeping). b.owed) h.books);
}

-- blocks that were read before the pipeline may have settled
pub settled_after : (tells read_failed failed : Bool) (s t u : State) → LooksOnly tells false s t → LooksAndSettles tells read_failed failed t u → (IsTrue tells → Advances s u) → LooksAndSettles tells read_failed failed s u
settled_after tells read_failed failed s t u first second advances = record {
  pipeline = subst (λ k. MovesPipeline k u.books) first.books second.pipeline;
  serves = λ well. subst (λ (k : Bookkeeping). ServesAllOrNone k u.books) first.books (second.serves well);
  read_faults = second.read_faults ∙ ap (λ n. after_call read_failed n) first.counts.read_faults;
  faults = second.faults ∙ ap (λ n. after_call failed n) first.counts.faults;
  stopped = second.stopped;
  waits = omega (arith, first.counts.waits, second.waits);
  ticks = second.ticks ∙ first.counts.ticks;
  map = λ told. second.map told ∙ first.map told;
  crash = advances;
  writes = λ told. omega (arith, ap writes_in (first.crash told).log, ap (λ (b : Bookkeeping). b.owed) first.books, second.writes told);
}

-- blocks that were read after the pipeline may have settled
pub looked_after : (tells read_failed : Bool) (s t u : State) → LooksAndSettles tells false false s t → LooksOnly tells read_failed t u → (IsTrue tells → Advances s u) → LooksAndSettles tells read_failed false s u
looked_after tells read_failed s t u first second advances = record {
  pipeline = subst (λ k. MovesPipeline s.books k) (sym second.books) first.pipeline;
  serves = λ well. subst (λ (k : Bookkeeping). ServesAllOrNone s.books k) (sym second.books) (first.serves refl);
  read_faults = second.counts.read_faults ∙ ap (λ n. after_call read_failed n) first.read_faults;
  faults = second.counts.faults ∙ first.faults;
  stopped = ap (λ (b : Bookkeeping). b.stopped) second.books ∙ first.stopped;
  waits = omega (arith, second.counts.waits, first.waits);
  ticks = second.counts.ticks ∙ first.ticks;
  map = λ told. second.map told ∙ first.map told;
  crash = advances;
  writes = λ told. omega (arith, ap writes_in (second.crash told).log, ap (λ (b : Bookkeeping). b.owed) second.books, first.writes told);
}

-- what was only read has no event, whatever is needed
pub looked_calmly : (tells failed : Bool) (s t : State) → LooksOnly tells failed s t → IsTrue tells → (t.books ≡ s.books) × (t.crash.log ≡ s.crash.log)
looked_calmly tells failed s t h told = (h.books, (h.crash told).log)

pub looked_quietly : (tells failed : Bool) (s t : State) (need : ℕ) → LooksOnly tells failed s t → IsTrue tells → IsCalm need s t
looked_quietly tells failed s t need h told enough = looked_calmly tells failed s t h told

-- one behind the other
pub calm_on : (s t u : State) → (t.books ≡ s.books) × (t.crash.log ≡ s.crash.log) → (u.books ≡ t.books) × (u.crash.log ≡ t.crash.log) → (u.books ≡ s.books) × (u.crash.log ≡ s.crash.log)
calm_on s t u one two = (two.0 ∙ one.0, two.1 ∙ one.1)

-- a refusal of a call on files fails a plan by a read, or by another call of the disk, where it does so itself
fails_so : (why : FileRefusal) → plan_fails_reading {T = Plan} (Err (refusal_of why)) ≡ fails_reading {T = Plan} (Err why)
fails_so file.ReadFault = refl
fails_so why = refl

settles_so : (why : FileRefusal) → plan_fails_settling {T = Plan} (Err (refusal_of why)) ≡ fails_settling {T = Plan} (Err why)
settles_so file.ReadFault = refl
settles_so why = refl

-- a plan whose file or directory couldn't grow
pub growth_plan : (tells : Bool) (cmd : Cmd) (s t : State) (why : FileRefusal) → s.books.stopped ≡ false → (IsTrue tells → (f : Session) → IsSession s f → IsRefusedFor s t f cmd (refusal_of why))
    → (IsTrue tells → (f : Session) → IsSession s f → IsCalm (figures_on s f cmd).need s t)
    → LooksAndSettles tells (fails_reading {T = Plan} (Err why)) (fails_settling {T = Plan} (Err why)) s t → Plans tells cmd (Err (refusal_of why)) s t
growth_plan tells cmd s t why going is quiet settles = record {
  is = is;
  going = going;
  quiet = quiet;
  settles = subst (λ b. LooksAndSettles tells b (plan_fails_settling {T = Plan} (Err (refusal_of why))) s t) (sym (fails_so why))
      (subst (λ b. LooksAndSettles tells (fails_reading {T = Plan} (Err why)) b s t) (sym (settles_so why)) settles);
}

-- a look that was refused cuts a command short
pub look_cut : (why : FileRefusal) → LookRefused why → IsCutShort (refusal_of why)
look_cut file.ReadFault h = inl refl
look_cut file.NoMemory h = inr refl
look_cut why h = absurd h

-- it fails no settling
pub quiet_settling : (why : FileRefusal) → LookRefused why → fails_settling {T = Plan} (Err why) ≡ false
quiet_settling file.ReadFault h = refl
quiet_settling file.NoMemory h = refl
quiet_settling why h = absurd h

-- no room is no fault of the disk
pub lacks_quietly : (k : Bookkeeping) (n : Figures) (why : Refusal) → LacksRoom k n why → (is_read_fault (Err why) ≡ false) × (is_disk_fault (Err why) ≡ false)
lacks_quietly k n why (inl full) = (ap (λ (w : Refusal). is_read_fault (Err w)) full.is, ap (λ (w : Refusal). is_disk_fault (Err w)) full.is)
lacks_quietly k n why (inr big) = (ap (λ (w : Refusal). is_read_fault (Err w)) big.is, ap (λ (w : Refusal). is_disk_fault (Err w)) big.is)

-- Plans over blocks that were only read: time goes on where nothing was issued.
module _ {S : Type 0} (tells : Bool) (state : S → State) (rests : Rests tells state) where
  pub advances : (failed : Bool) (old new : S) → LooksOnly tells failed (state old) (state new) → IsTrue tells → Advances (state old) (state new)
  advances failed old new looks told = rests told old new (ap (λ (b : Bookkeeping). b.point) looks.books) (ap (λ (b : Bookkeeping). b.floor) looks.books) (looks.crash told)

  -- blocks that were read after the pipeline may have settled; the second call did no more, or was refused
  module _ (compose : (old mid new : S) → Advances (state old) (state mid) → Advances (state mid) (state new) → Advances (state old) (state new)) (old mid new : S) (settles : LooksAndSettles tells false false (state old) (state mid)) where
    pub settled_then : (failed : Bool) → LooksOnly tells failed (state mid) (state new) → LooksAndSettles tells failed false (state old) (state new)
    settled_then failed looks = looked_after tells failed (state old) (state mid) (state new) settles looks (λ told. compose old mid new (settles.crash told) (advances failed mid new looks told))

    pub settled_cut : (why : FileRefusal) → LookRefused why → LooksOnly tells (fails_reading {T = Plan} (Err why)) (state mid) (state new) → LooksAndSettles tells (fails_reading {T = Plan} (Err why)) (fails_settling {T = Plan} (Err why)) (state old) (state new)
    settled_cut why refused looks = subst (λ b. LooksAndSettles tells (fails_reading {T = Plan} (Err why)) b (state old) (state new)) (sym (quiet_settling why refused)) (settled_then (fails_reading {T = Plan} (Err why)) looks)

  -- a plan that was cut short
  pub cut_short : (cmd : Cmd) (old new : S) (why : FileRefusal) (answer : Refusal) → answer ≡ refusal_of why → (state old).books.stopped ≡ false → LookRefused why → LooksOnly tells (fails_reading {T = Plan} (Err why)) (state old) (state new)
      → Plans tells cmd (Err answer) (state old) (state new)
  cut_short cmd old new why answer is going refused looks = subst (λ w. Plans tells cmd (Err w) (state old) (state new)) (sym is)
      (growth_plan tells cmd (state old) (state new) why going (λ told f h. inr (inr (inr (look_cut why refused))))
      (λ told f h. looked_quietly tells (fails_reading {T = Plan} (Err why)) (state old) (state new) (figures_on (state old) f cmd).need looks told)
      (subst (λ b. LooksAndSettles tells (fails_reading {T = Plan} (Err why)) b (state old) (state new)) (sym (quiet_settling why refused)) (looked tells (fails_reading {T = Plan} (Err why)) (state old) (state new) going looks (advances (fails_reading {T = Plan} (Err why)) old new looks))))

  -- one in which no call failed
  pub looked_plan : (cmd : Cmd) (result : Result Plan Refusal) (old new : S) → (state old).books.stopped ≡ false → plan_fails_reading result ≡ false → plan_fails_settling result ≡ false
      → (IsTrue tells → (f : Session) → IsSession (state old) f → PlanIs cmd result (state old) (state new) f) → LooksOnly tells false (state old) (state new) → Plans tells cmd result (state old) (state new)
  looked_plan cmd result old new going reads disk is looks = record {
    is = is;
    going = going;
    quiet = λ told f h. looked_quietly tells false (state old) (state new) (figures_on (state old) f cmd).need looks told;
    settles = subst (λ b. LooksAndSettles tells b (plan_fails_settling result) (state old) (state new)) (sym reads)
        (subst (λ b. LooksAndSettles tells false b (state old) (state new)) (sym disk) (looked tells false (state old) (state new) going looks (advances false old new looks)));
  }

  -- of a draft
  pub looked_change : (cmd : Cmd) (old new : S) (d : DraftState) (cost : ℕ) (nodes : NodeUse) → (state old).books.stopped ≡ false → (IsTrue tells → (f : Session) → IsSession (state old) f → MakesTree cmd d cost (state old) (state new) f)
      → LooksOnly tells false (state old) (state new) → Plans tells cmd (Ok (Change d cost nodes)) (state old) (state new)
  looked_change cmd old new d cost nodes going makes looks = looked_plan cmd (Ok (Change d cost nodes)) old new going refl refl makes looks

  -- of a refusal for another reason
  pub room_plan : (cmd : Cmd) (old new : S) (why : Refusal) → (state old).books.stopped ≡ false → is_read_fault (Err why) ≡ false → is_disk_fault (Err why) ≡ false
      → (IsTrue tells → (f : Session) → IsSession (state old) f → IsRefusedFor (state old) (state new) f cmd why) → LooksOnly tells false (state old) (state new) → Plans tells cmd (Err why) (state old) (state new)
  room_plan cmd old new why going reads disk is looks = looked_plan cmd (Err why) old new going reads disk is looks

  -- one that finds no room, before anything is read
  pub full_plan : (cmd : Cmd) (old : S) (n : Figures) (why : Refusal) → (state old).books.stopped ≡ false → LacksRoom (state old).books n why
      → (IsTrue tells → (f : Session) → IsSession (state old) f → (refusal f.limit f.tree cmd ≡ None) × (figures_on (state old) f cmd ≡ n)) → Plans tells cmd (Err why) (state old) (state old)
  full_plan cmd old n why going lacks is =
      room_plan cmd old old why going (lacks_quietly (state old).books n why lacks).0 (lacks_quietly (state old).books n why lacks).1
      (λ told f h. let a = is told f h in inl (record { accepted = a.0; lacks = subst (λ (m : Figures). LacksRoom (state old).books m why) (sym a.1) lacks; rests = freed_alike (state old).books (state old).books refl }))
      (no_look tells (state old))

  -- Those that answer.
  module _ (sound : (s : S) → IsSound (state s).books) where
    -- the tree's own refusal
    pub refusal_plan : (cmd : Cmd) (old new : S) (why : Refusal) → (state old).books.stopped ≡ false → (IsTrue tells → (f : Session) → IsSession (state old) f → refusal f.limit f.tree cmd ≡ Some why)
        → LooksOnly tells false (state old) (state new) → Plans tells cmd (Ok (Answer (Refused why))) (state old) (state new)
    refusal_plan cmd old new why going refuses looks = looked_plan cmd (Ok (Answer (Refused why))) old new going refl refl (λ told f h. tree_refuses (state old) (state new) f cmd why (sound old) looks.books (refuses told f h)) looks

    -- that the command is done, where it changes nothing
    pub done_plan : (cmd : Cmd) (old new : S) → (state old).books.stopped ≡ false → (IsTrue tells → (f : Session) → IsSession (state old) f → (step f cmd ≡ (f, Done)) × (figures_on (state old) f cmd ≡ nothing))
        → LooksOnly tells false (state old) (state new) → Plans tells cmd (Ok (Answer Done)) (state old) (state new)
    done_plan cmd old new going stays looks = looked_plan cmd (Ok (Answer Done)) old new going refl refl (λ told f h. tree_stays (state old) (state new) f cmd (sound old) looks.books (stays told f h).0 (stays told f h).1) looks

    -- the reason that the inode map gives
    pub reason_plan : MapLaw → RefusalLaw → (cmd : Cmd) (old new : S) (why : Refusal) → (state old).books.stopped ≡ false
        → (IsTrue tells → (u : Tree) → IsTreeOf (state old).books.geom (state old).map u → (least : Option ℕ) (kept : Snapshots) → reason (state old).books.geom.layout least kept (inodes (state old)) cmd ≡ Some why) → LooksOnly tells false (state old) (state new) → Plans tells cmd (Ok (Answer (Refused why))) (state old) (state new)
    reason_plan map law cmd old new why going refuses looks =
        refusal_plan cmd old new why going (λ told f h. law f.limit (inodes (state old)) f.tree cmd (session_map map (state old) f h)
        ∙ ap (λ (b : Bounds). reason b.layout (least_unused f.limit.nodes f.tree) f.tree.snapshots (inodes (state old)) cmd) h.limit ∙ refuses told f.tree h.tree (least_unused f.limit.nodes f.tree) f.tree.snapshots) looks

-- a look that was refused says nothing of growth
pub cut_growth : (n : ℕ) (with_more : List ℕ → List ℕ) (old new : Bookkeeping) (why : FileRefusal) → LookRefused why → GrowthRefused n with_more old new why
cut_growth n with_more old new file.ReadFault h = tt
cut_growth n with_more old new file.NoMemory h = tt
cut_growth n with_more old new why h = absurd h
