-- A plan carried out: what becomes of the session, and of the bookkeeping.
use Rattle.std.proofs.lemmas.Bool.{lt-ltb, ltb-true, ltb-false, cases_Bool}
use Rattle.std.proofs.Common.{⊎_elim, ◌≡◌, ◌⊎◌, inl, inr, ℕ, ◌+◌, nat_lt, Bool, false, not, ◌&&◌, ◌||◌, IsTrue, List, [], take, take_all, length, Option, None, Some, Ok, Err, refl, sym, subst, ap, ap₂, ◌∙◌, arith}
use Rattle.disk_contract.specs.Disk.{writes_in}
use Rattle.layout_geometry.specs.Geometry.{Geometry, bitmap_blocks}
use Rattle.crash_stands.specs.Bounds.{bounds_of}
use Rattle.layout_extent.specs.Renew.{renew}
use Rattle.lang_tree.specs.declared.command.Cmd.{Cmd}
use Rattle.lang_tree.specs.declared.command.Cmd.TheVariants.{Snap, Unsnap}
use Rattle.lang_tree.specs.Conditions.{refusal}
use Rattle.lang_tree.specs.declared.command.Refusal.{Refusal}
use Rattle.lang_tree.specs.declared.command.Refusal.TheVariants as because
use Rattle.lang_tree.specs.declared.command.Reply.{Reply}
use Rattle.lang_tree.specs.declared.command.Reply.TheVariants.{Ok as Done}
use Rattle.lang_tree.specs.Step.{Session, step}
use Rattle.lang_tree.specs.Figures.{Figures, figures, nothing}
use Rattle.lang_tree.specs.Sharing.{BlocksAlone, SharedNodes, figures_over, figures_over_by}
use Rattle.lang_tree.specs.Points.{is_sync}
use Rattle.crash_stands.specs.Files.{Files, files_of}
use Rattle.crash_stands.specs.Stands.{AreSound, IsTreeOf}
use Rattle.base_types.specs.Seal.{Blocks}
use Rattle.engine_blocks.specs.Calls.{IsSound, MovesPipeline}
use Rattle.engine_blocks.specs.Running.{Running, Spare, has}
use Rattle.engine_blocks.specs.State.{Bookkeeping, State, reusable_blocks}
use Rattle.engine_blocks.specs.Crashes.{Advances}
use Rattle.engine_blocks.specs.Effects.{LeavesDisk}
use Rattle.engine_blocks.specs.Serving.{SameFreed}
use Rattle.fs_files.specs.Calls.{files_in, places_in, places_of as blocks_of_node}
use Rattle.fs_files.specs.Drafts.{DraftState}
use Rattle.fs_files.specs.Effects.{LooksAndSettles, ServesAllOrNone}
use Rattle.fs_session.specs.Changes.{IsCarriedOut, KeepsBlocks, ChangeRefused}
use Rattle.fs_session.specs.Lists.{KeptLists, kept_after, kept_by, kept_unless}
use Rattle.fs_session.specs.Commands.{RunsCommand, Carries, FindsBlocks, IsDone, Spends, SpendsNothing, alone_on, shared_on, figures_on, kept_in, places_of, renewed_on, is_read_fault, is_disk_fault}
use Rattle.fs_session.specs.NothingKept.{renews_nothing}
use Rattle.fs_session.specs.Plans.{HasDrafted, Plans, MakesTree, MayBeMade, plan_fails_reading, plan_fails_settling}
use Rattle.fs_files.specs.Finish.{MapFinished, MayGoOn}
use Rattle.fs_session.specs.Snapshots.{kept_lists}
use Rattle.fs_session.specs.Sessions.{IsSession, IsBetween, AreUsedBut, KeepsUsed}
use Rattle.fs_session.specs.declared.plan.Plan.{Plan}
use Rattle.fs_session.specs.declared.plan.Plan.TheVariants.{Answer, Change}
use Rattle.fs_session.specs.declared.unused.NodeUse.{NodeUse}
use Rattle.fs_session.specs.declared.unused.UnusedNodes.{UnusedNodes}
use Rattle.fs_files.specs.Sound.{IsDraftOf}
use Rattle.fs_session.proofs.carrying.Points.{points_stay}
use Rattle.fs_session.specs.Space.{ArePlaced}
use Rattle.fs_session.specs.Staying.{session_stays, session_settles, between_stays, freed_alike}

-- What a draft that is made leaves of the bookkeeping, and one that isn't.
pub record LeavesRest (k l : Bookkeeping) : Type 0 where
  pub geom : l.geom ≡ k.geom
  pub room : l.room ≡ k.room
  pub area : l.area ≡ k.area
  pub point : l.point ≡ k.point
  pub floor : l.floor ≡ k.floor
  pub turns : l.turns ≡ k.turns
  pub stopped : l.stopped ≡ k.stopped
  pub owed : l.owed ≡ k.owed
  pub free_places : l.free_places ≡ k.free_places

pub made_rests : (tells : Bool) (d : DraftState) (cost : ℕ) (s t : State) → IsCarriedOut tells d cost s t → LeavesRest s.books t.books
made_rests tells d cost s t h = subst (LeavesRest s.books) (sym h.same) assumption

pub kept_rests : (tells : Bool) (s t : State) → KeepsBlocks tells s t → LeavesRest s.books t.books
kept_rests tells s t h = subst (LeavesRest s.books) (sym h.books) assumption

-- a command that only looked, or whose pipeline settled
pub runs_settled : (tells read_failed failed : Bool) (s t : State) → LooksAndSettles tells read_failed failed s t → RunsCommand tells read_failed failed s t
runs_settled tells read_failed failed s t h = assumption

-- one whose draft was made or not, behind that
pub runs_behind : (tells : Bool) (s t u : State) → LooksAndSettles tells false false s t → LeavesRest t.books u.books → LeavesDisk tells t u → (IsTrue tells → Advances s u) → RunsCommand tells false false s u
runs_behind tells s t u h rest disk advances = record {
  geom = rest.geom ∙ h.pipeline.geom;
  room = rest.room ∙ h.pipeline.room;
  area = rest.area ∙ h.pipeline.area;
  point = rest.point ∙ h.pipeline.point;
  floor = omega (arith, rest.floor, h.pipeline.floor);
  free_places = omega (arith, rest.free_places, h.pipeline.free_places);
  turns = omega (arith, rest.turns, h.pipeline.turns);
  stopped = rest.stopped ∙ h.stopped;
  read_faults = ap (λ c. c.read_faults) disk.counts ∙ h.read_faults;
  faults = ap (λ c. c.faults) disk.counts ∙ h.faults;
  waits = omega (arith, ap (λ c. c.waits) disk.counts, h.waits);
  ticks = ap (λ c. c.ticks) disk.counts ∙ h.ticks;
  crash = advances;
  writes = λ told. omega (arith, ap writes_in (disk.crash told).log, rest.owed, h.writes told);
}

-- a weight to which a cost comes
weighed : (w c : ℕ) → (nat_lt 0 w || nat_lt 0 c) ≡ nat_lt 0 (w + c)
weighed w c = ⊎_elim
    (λ t. ap (λ b. b || nat_lt 0 c) t ∙ sym (lt-ltb 0 (w + c) (omega (arith, ltb-true 0 w t))))
    (λ n. ap (λ b. b || nat_lt 0 c) n ∙ ap (λ k. nat_lt 0 k) {x = c} {y = w + c} (omega (arith, ltb-false 0 w n))) (cases_Bool (nat_lt 0 w))

-- The blocks of a draft that is made are what it makes of them.
pub drafted_so : (d : DraftState) (s t : State) → MapFinished d s t → HasDrafted s d t.map
drafted_so d s t h = record { lies = h.blocks; files = h.files; places = h.places; bits = h.bits; whole = h.whole; sound = h.sound }

-- So they stay sound.
pub sound_made : (tells : Bool) (d : DraftState) (cost : ℕ) (nodes : NodeUse) (s t : State) → MayBeMade tells d cost nodes s → IsCarriedOut tells d cost s t → IsTrue tells → AreSound s.books.geom s.map → AreSound s.books.geom t.map
sound_made tells d cost nodes s t may h told sound = may.sound told sound t.map (drafted_so d s t (h.map told))

-- A command without figures leaves what snapshots keep: one that makes a snapshot or takes one away costs something.
module _ (bitmap : ℕ) (shared : SharedNodes) (alone : BlocksAlone) (f : Session) (places : ℕ → List ℕ) (kept : KeptLists) where
  by_reason : (cmd : Cmd) (why : Option Refusal) → figures_over_by bitmap shared alone f.limit f.tree cmd why ≡ nothing → kept_unless why kept (kept_by f.tree places kept cmd) ≡ kept
  by_reason cmd (Some why) none = refl
  by_reason (Snap name) None none = absurd (omega (arith, ap (λ (n : Figures). n.cost) none))
  by_reason (Unsnap name) None none = absurd (omega (arith, ap (λ (n : Figures). n.cost) none))
  by_reason cmd None none = refl

  pub kept_by_nothing : (cmd : Cmd) → figures_over bitmap shared alone f cmd ≡ nothing → kept_after f places kept cmd ≡ kept
  kept_by_nothing cmd none = by_reason cmd (refusal f.limit f.tree cmd) none

-- Nothing is spent where blocks were read and the pipeline may have settled, and by a draft that isn't made behind that.
pub settled_unspent : (tells read_failed failed : Bool) (s t : State) → LooksAndSettles tells read_failed failed s t → SpendsNothing tells s t
settled_unspent tells read_failed failed s t h = record { running = h.pipeline.running; takeable = h.pipeline.reusable; map = h.map }

pub kept_unspent : (tells : Bool) (s t u : State) → LooksAndSettles tells false false s t → KeepsBlocks tells t u → SpendsNothing tells s u
kept_unspent tells s t u h kept = record {
  running = ap (λ (b : Bookkeeping). b.running) kept.books ∙ h.pipeline.running;
  takeable = λ b may. ap (λ (k : Bookkeeping). k.reusable b) kept.books ∙ h.pipeline.reusable b may;
  map = λ told. kept.map told ∙ h.map told;
}

-- no node has other blocks
placed_same : (renewed : SharedNodes) (old new : ℕ → List ℕ) → ((k : ℕ) → new k ≡ old k) → ArePlaced renewed old new []
placed_same renewed old new same k =
    subst (λ (ps : List ℕ). ps ≡ take (length ps) (renew (renewed k) 0 (old k) [])) (sym (same k)) (sym (ap (take (length (old k))) (renews_nothing (renewed k) 0 (old k)) ∙ take_all (length (old k)) (old k) (omega arith)))

-- A command that takes nothing finds it and spends nothing.
pub finds_nothing : (k l : Bookkeeping) (n : Figures) → n ≡ nothing → MovesPipeline k l → l ≡ k → IsSound l → FindsBlocks n.need k l
finds_nothing k l n none moves books sound = record { moves = moves; serves = inl (record { reusable = λ b at. ap (λ (x : Bookkeeping). x.reusable b) books; since = λ b at. ap (λ (x : Bookkeeping). x.since b) books }); rests = λ enough. books; enough = omega (arith, ap (λ (f : Figures). f.need) none); sound = sound }

pub spends_nothing : (s t : State) (n : Figures) (renewed : SharedNodes) (lists : KeptLists) → n ≡ nothing → lists ≡ kept_in s → t.books ≡ s.books → t.map ≡ s.map → Spends s t.books t n renewed lists
spends_nothing s t n renewed lists none keeps books map = record {
  keeps = ap₂ kept_lists (ap (λ (b : Bookkeeping). b.geom) books) map ∙ sym keeps;
  weight = omega (arith, ap (λ (b : Bookkeeping). b.running.weight) books, ap (λ (f : Figures). f.cost) none);
  held = omega (arith, ap (λ (b : Bookkeeping). b.running.held) books, ap (λ (f : Figures). f.freed) none);
  takeable = λ b. ap (λ (f : Figures). not (has (take f.need (reusable_blocks t.books)) b) && t.books.reusable b) {x = nothing} {y = n} (sym none);
  since = λ b. refl;
  placed = subst (λ (f : Figures). ArePlaced renewed (places_of s) (places_of t) (take f.need (reusable_blocks t.books))) (sym none)
      (placed_same renewed (places_of s) (places_of t) (λ k. ap₂ (λ (g : Geometry) (m : Blocks). blocks_of_node g m k) (ap (λ (b : Bookkeeping). b.geom) books) map));
}

-- What the law says of a command's draft at a moment: what it makes of the blocks stands for the command's tree, and snapshots keep what is said of the command.
abbrev pub MakesItsTree : Bool → State → State → Cmd → Type 0
MakesItsTree tells start mid cmd = IsTrue tells → (d : DraftState) (cost : ℕ) (f : Session) (m : Blocks) → IsSession mid f → IsDraftOf tells mid d → MakesTree cmd d cost start mid f → HasDrafted mid d m
    → IsTreeOf mid.books.geom m (step f cmd).0.tree × (kept_lists mid.books.geom m ≡ kept_after f (places_of mid) (kept_in mid) cmd)

-- what the law says of costs with sharing
abbrev pub CostsWhereAllCosts : Type 0
CostsWhereAllCosts = (bitmap : ℕ) (shared : SharedNodes) (alone : BlocksAlone) (s : Session) (cmd : Cmd) → nat_lt 0 (figures_over bitmap shared alone s cmd).cost ≡ nat_lt 0 (figures bitmap s cmd).cost

module _ (tells : Bool) (cmd : Cmd) (start mid new : State) (costs : (bitmap : ℕ) (s : Session) → (step s cmd).0.changed ≡ (s.changed || nat_lt 0 (figures bitmap s cmd).cost)) (shared_costs : CostsWhereAllCosts) (sync : is_sync cmd ≡ false) (sound : IsSound mid.books) (makes : MakesItsTree tells start mid cmd) where
  -- a draft that is made spends what the command takes
  spends_so : (d : DraftState) (cost : ℕ) (f : Session) → IsTrue tells → LooksAndSettles tells false false start mid → IsSession mid f → IsDraftOf tells mid d → MakesTree cmd d cost start mid f → IsCarriedOut tells d cost mid new → Spends start mid.books new (figures_on start f cmd) (renewed_on start f cmd) (kept_after f (places_of start) (kept_in start) cmd)
  spends_so d cost f told looks at_mid draft made carried =
      let n = figures_on start f cmd in
      let finished = carried.map told in
      let kept : kept_lists mid.books.geom new.map ≡ kept_after f (places_of mid) (kept_in mid) cmd = (makes told d cost f new.map at_mid draft made (drafted_so d mid new finished)).1 in
      let still : kept_after f (places_of mid) (kept_in mid) cmd ≡ kept_after f (places_of start) (kept_in start) cmd =
      ap₂ (λ (g : Geometry) (m : Blocks). kept_after f (blocks_of_node g m) (kept_lists g m) cmd) looks.pipeline.geom (looks.map told) in
      record {
        weight = omega (arith, carried.weight, made.costs, ap (λ (r : Running). r.weight) looks.pipeline.running);
        held = omega (arith, finished.held, made.uses.freed_are, ap (λ (r : Running). r.held) looks.pipeline.running);
        takeable = λ b. carried.reusable b ∙ ap (λ (bs : List ℕ). not (has bs b) && mid.books.reusable b) made.uses.taken;
        since = λ b. ap (λ (x : Bookkeeping). x.since b) carried.same;
        placed = λ k.
            let same : places_of new k ≡ places_in mid d k = ap (λ (g : Geometry). blocks_of_node g new.map k) (made_rests tells d cost mid new carried).geom ∙ finished.places k in
            subst (λ (ps : List ℕ). ps ≡ take (length ps) (renew (renewed_on start f cmd k) 0 (places_of start k) (take n.need (reusable_blocks mid.books)))) (sym same) (made.uses.placed k);
        keeps = ap (λ (g : Geometry). kept_lists g new.map) (made_rests tells d cost mid new carried).geom ∙ kept ∙ still;
      }

  -- a draft that is made does the command
  pub done_so : (d : DraftState) (cost : ℕ) (f : Session) → IsTrue tells → start.books.stopped ≡ false → LooksAndSettles tells false false start mid → IsSession start f
      → IsDraftOf tells mid d → MakesTree cmd d cost start mid f → IsCarriedOut tells d cost mid new → IsDone start new f cmd Done
  done_so d cost f told going looks h draft made carried =
      let at_mid = session_settles tells false false start mid f going told looks h in
      let rest = made_rests tells d cost mid new carried in
      let stay = points_stay f cmd sync made.answer in
      record {
        answer = sym made.answer;
        session = record {
          tree = subst (λ (g : Geometry). IsTreeOf g new.map (step f cmd).0.tree) (sym rest.geom) (makes told d cost f new.map at_mid draft made (drafted_so d mid new (carried.map told))).0;
          limit = stay.limit ∙ at_mid.limit ∙ ap bounds_of (sym rest.geom);
          points = λ stopped. stay.points ∙ at_mid.points looks.stopped ∙ sym rest.point;
          changed = λ stopped. costs (bitmap_blocks start.books.geom) f ∙ ap₂ (λ b c. b || c) (at_mid.changed looks.stopped) (sym (shared_costs (bitmap_blocks start.books.geom) (shared_on start f) (alone_on start f) f cmd) ∙ ap (λ n. nat_lt 0 n) made.costs) ∙ weighed mid.books.running.weight cost ∙ ap (λ n. nat_lt 0 n) (sym carried.weight);
          durable = omega (arith, stay.durable, at_mid.durable, rest.floor);
        };
        room = made.room;
        settled = mid.books;
        finds = record { moves = looks.pipeline; serves = looks.serves refl; rests = made.rests; enough = made.enough; sound = sound };
        runs = made.runs;
        spends = spends_so d cost f told looks at_mid draft made carried;
      }

  -- so the command is carried out
  pub carried_change : (d : DraftState) (cost : ℕ) (nodes : NodeUse) → IsDraftOf tells mid d → Plans tells cmd (Ok (Change d cost nodes)) start mid → IsCarriedOut tells d cost mid new → LeavesDisk tells mid new → (IsTrue tells → Advances start new)
      → Carries tells cmd (Ok Done) start new
  carried_change d cost nodes draft plans carried disk advances = record {
    done = λ told f h. done_so d cost f told plans.going plans.settles h draft (plans.is told f h) carried;
    refused = λ told. tt;
    kept = λ told. tt;
    unspent = tt;
    serves = λ well. tt;
    rests = λ told. tt;
    quiet = λ told f h enough. (disk.crash told).log ∙ (plans.quiet told f h enough).1;
    runs = runs_behind tells start mid new plans.settles (made_rests tells d cost mid new carried) disk advances;
  }

-- a reply that was planned is given, and nothing changed
pub carried_answer : (tells : Bool) (cmd : Cmd) (start mid : State) (reply : Reply) → IsSound mid.books → Plans tells cmd (Ok (Answer reply)) start mid → Carries tells cmd (Ok reply) start mid
carried_answer tells cmd start mid reply sound plans = record {
  done = λ told f h. let p = plans.is told f h in record {
    answer = p.answer;
    session = subst (λ s. IsSession mid s) (sym p.session) (session_settles tells false false start mid f plans.going told plans.settles h);
    room = p.room;
    settled = mid.books;
    finds = finds_nothing start.books mid.books (figures_on start f cmd) p.costs plans.settles.pipeline p.books sound;
    runs = p.runs;
    spends = spends_nothing start mid (figures_on start f cmd) (renewed_on start f cmd) _ p.costs
        (kept_by_nothing (bitmap_blocks start.books.geom) (shared_on start f) (alone_on start f) f (places_of start) (kept_in start) cmd p.costs) p.books (plans.settles.map told);
  };
  refused = λ told. tt;
  kept = λ told. tt;
  unspent = tt;
  serves = λ well. tt;
  rests = λ told. tt;
  quiet = λ told f h enough. (plans.quiet told f h enough).1;
  runs = runs_settled tells false false start mid plans.settles;
}

-- the same blocks wait where another one is made ready
freed_still : (old new : Bookkeeping) (spare : Spare) → SameFreed old new → SameFreed old (record new { spare = spare })
freed_still old new spare same = record { reusable = same.reusable; since = same.since }

-- a draft that isn't made, since memory ran out: past its cost it never is where the blocks are observed
pub carried_refusal : (tells : Bool) (cmd : Cmd) (start mid new : State) (d : DraftState) (cost : ℕ) (nodes : NodeUse) (why : Refusal) → Plans tells cmd (Ok (Change d cost nodes)) start mid → ChangeRefused mid.books d cost why → KeepsBlocks tells mid new
    → LeavesDisk tells mid new → (IsTrue tells → Advances start new) → Carries tells cmd (Err why) start new
carried_refusal tells cmd start mid new d cost nodes why plans refused kept disk advances = record {
  done = λ told. tt;
  refused = λ told f h. inr (inr (inr (cut (plans.is told f h) refused)));
  kept = λ told f h. session_stays mid new f plans.settles.stopped rest.geom (kept.map told) rest.point (ap (λ (b : Bookkeeping). b.running.weight) kept.books) (omega (arith, rest.floor))
      (session_settles tells false false start mid f plans.going told plans.settles h);
  unspent = kept_unspent tells start mid new plans.settles kept;
  serves = λ well. subst (λ (k : Bookkeeping). ServesAllOrNone start.books k) (sym kept.books) (again (plans.settles.serves refl));
  rests = λ told f h enough. subst (λ (k : Bookkeeping). SameFreed start.books k) (sym kept.books) (freed_still start.books mid.books new.books.spare (freed_alike start.books mid.books (plans.quiet told f h enough).0));
  quiet = λ told f h enough. (disk.crash told).log ∙ (plans.quiet told f h enough).1;
  runs = counted refused (runs_behind tells start mid new plans.settles rest disk advances);
}
  where
    rest : LeavesRest mid.books new.books
    rest = kept_rests tells mid new kept

    again : ServesAllOrNone start.books mid.books → ServesAllOrNone start.books (record mid.books { spare = new.books.spare })
    again (inl same) = inl (freed_still start.books mid.books new.books.spare same)
    again (inr all) = inr (record { reusable = all.reusable; since = all.since })

    cut : {f : Session} → MakesTree cmd d cost start mid f → ChangeRefused mid.books d cost why → (why ≡ because.ReadFault) ⊎ (why ≡ because.NoMemory)
    cut made (inl none) = inr none
    cut made (inr past) = absurd (past.past made.within)

    counted : ChangeRefused mid.books d cost why → RunsCommand tells false false start new → RunsCommand tells (is_read_fault (Err why)) (is_disk_fault (Err why)) start new
    counted (inl none) r = subst (λ w. RunsCommand tells (is_read_fault (Err w)) (is_disk_fault (Err w)) start new) (sym none) r
    counted (inr past) r = subst (λ w. RunsCommand tells (is_read_fault (Err w)) (is_disk_fault (Err w)) start new) (sym past.is) r

-- a plan that was refused is the answer, and nothing changed
pub refused_plan : (tells : Bool) (cmd : Cmd) (start mid : State) (why : Refusal) → Plans tells cmd (Err why) start mid → Carries tells cmd (Err why) start mid
refused_plan tells cmd start mid why plans = record {
  done = λ told. tt;
  refused = λ told f h. plans.is told f h;
  kept = λ told f h. session_settles tells (plan_fails_reading {T = Plan} (Err why)) (plan_fails_settling {T = Plan} (Err why)) start mid f plans.going told plans.settles h;
  serves = plans.settles.serves;
  rests = λ told f h enough. freed_alike start.books mid.books (plans.quiet told f h enough).0;
  unspent = settled_unspent tells (plan_fails_reading {T = Plan} (Err why)) (plan_fails_settling {T = Plan} (Err why)) start mid plans.settles;
  quiet = λ told f h enough. (plans.quiet told f h enough).1;
  runs = runs_settled tells (plan_fails_reading {T = Plan} (Err why)) (plan_fails_settling {T = Plan} (Err why)) start mid plans.settles;
}

-- What holds between commands, once a draft is made, and where it isn't.
pub between_made : (tells : Bool) (d : DraftState) (cost : ℕ) (nodes : NodeUse) (before after : UnusedNodes) (s t : State) → IsCarriedOut tells d cost s t → MayBeMade tells d cost nodes s → (IsTrue tells → AreSound s.books.geom s.map → AreSound s.books.geom t.map) → MayGoOn t.books
    → ((old new : Files) → KeepsUsed nodes old new → AreUsedBut old before → AreUsedBut new after) → IsBetween tells s before → IsBetween tells t after
between_made tells d cost nodes before after s t carried may stays_sound goes_on follows h =
    let geom : t.books.geom ≡ s.books.geom = (made_rests tells d cost s t carried).geom in
    record {
      goes_on = goes_on;
      sound = λ told. subst (λ (g : Geometry). AreSound g t.map) (sym geom) (stays_sound told (h.sound told));
      used = λ told. subst (λ (g : Geometry). AreUsedBut (files_of g t.map) after) (sym geom)
          (λ l from upto bare. let x = follows (files_of s.books.geom s.map) (files_in s d) (may.used told) (h.used told) l from upto bare in (x.0, (carried.map told).files l ∙ x.1));
    }

pub between_kept : (tells : Bool) (s t : State) (unused : UnusedNodes) → KeepsBlocks tells s t → MayGoOn t.books → IsBetween tells s unused → IsBetween tells t unused
between_kept tells s t unused kept goes_on h = between_stays tells s t unused (ap (λ (b : Bookkeeping). b.geom) kept.books) kept.map goes_on h
