-- One command more in the session of the image, where it is a look, and in that of the new disk.
use Rattle.std.proofs.Common.{◌≡◌, ◌⊎◌, inl, inr, ℕ, zero, suc, ◌+◌, ◌<◌, ◌≤◌, ◌&&◌, Bool, true, false, true≢false, List, [], ◌∷◌, ◌++◌, length, slice_get, take, drop, Option, Some, None, refl, sym, ap, ◌∙◌, subst, arith, if◌then◌else◌}
use Rattle.std.specs.List.{list_all}
use Rattle.std.specs.FinMap.{get}
use Rattle.base_types.specs.Seal.{Blocks}
use Rattle.disk_contract.specs.Disk as disk
use Rattle.disk_contract.specs.Disk.{writes_in}
use Rattle.layout_geometry.specs.Geometry.{Geometry, bitmap_blocks}
use Rattle.lang_tree.specs.declared.command.Cmd.{Cmd}
use Rattle.lang_tree.specs.declared.command.Cmd.TheVariants.{Read, Stat, List as ListNames}
use Rattle.lang_tree.specs.declared.command.Refusal.{Refusal}
use Rattle.lang_tree.specs.declared.command.Refusal.TheVariants as because
use Rattle.lang_tree.specs.declared.command.Reply.{Reply}
use Rattle.lang_tree.specs.declared.command.Reply.TheVariants.{Bytes, Names as NamesReply, Refused, Stat as StatReply}
use Rattle.lang_tree.specs.declared.command.Stat.{Stat as Found}
use Rattle.lang_tree.specs.Conditions.{refusal}
use Rattle.lang_tree.specs.Figures.{Figures, nothing}
use Rattle.lang_tree.specs.Sharing.{figures_over_by}
use Rattle.lang_tree.specs.Points.{is_sync}
use Rattle.lang_tree.specs.Run.{Answers, is_of_disk}
use Rattle.lang_tree.specs.Names.{names_in}
use Rattle.lang_tree.specs.Step.{Session, accepted, answered, session_on, stat, stat_by, stat_of, step}
use Rattle.lang_tree.specs.Tree.{Dir, File, Thing, Tree}
use Rattle.lang_tree.specs.Walk.{content}
use Rattle.crash_stands.specs.Bounds.{bounds_of}
use Rattle.crash_stands.specs.Stands.{IsTreeOf}
use Rattle.engine_blocks.specs.Calls.{commit_writes}
use Rattle.engine_blocks.specs.State.{State}
use Rattle.engine_blocks.specs.Crashes.{WritesAtMost}
use Rattle.fs_session.specs.DiskRoom.{ComesBack}
use Rattle.fs_session.specs.Memory.{room_of}
use Rattle.fs_session.specs.Room.{Room, alone_by, figures_in, shared_by}
use Rattle.fs_session.specs.Sessions.{IsSession}
use Rattle.cmd_session.specs.Budget.{may_have_begun, writes_of}
use Rattle.cmd_session.specs.Histories.{HasNoFault, session_after}
use Rattle.cmd_session.specs.Serving.{HasServed}
use Rattle.cmd_upgrade.specs.Looks.{is_look}
use Rattle.cmd_upgrade.specs.Looked.{AnswersLook, IsFailing, IsLookedAt, IsSeen, IsStop}
use Rattle.cmd_upgrade.specs.Refusals.{of_refusal, of_reply}
use Rattle.cmd_upgrade.specs.declared.refusal.UpgradeRefusal.TheVariants.{Fault, NoMemory}
use Rattle.cmd_upgrade.proofs.Asked.{IsAsked, LacksIn, Refuses, failed_counts, over_more, refused_why, still_counted}
use Rattle.cmd_upgrade.proofs.Looking.{looks_more, looks_stay}

no_sync : (cmd : Cmd) → is_look cmd ≡ true → is_sync cmd ≡ false
no_sync (Read path offset count) e = refl
no_sync (Stat path) e = refl
no_sync (ListNames path) e = refl
no_sync other e = absurd (true≢false (sym e))

-- Looks.

-- a look more
pub look_more : (first : disk.State) (t : Tree) (old new : State) (cmd : Cmd) (reply : Reply) → is_look cmd ≡ true → (h : IsLookedAt first t old)
    → HasServed h.geom t h.mounted (h.cmds ++ cmd ∷ []) (h.replies ++ reply ∷ []) (h.marks ++ length new.crash.log ∷ []) new
    → new.crash.base ≡ old.crash.base → WritesAtMost (writes_of cmd reply old.books) old new → IsAsked cmd reply old new → IsLookedAt first t new
look_more first t old new cmd reply look h served base writes a = record {
  geom = h.geom;
  stands = h.stands;
  size = h.size;
  base = base ∙ h.base;
  mounted = h.mounted;
  cmds = h.cmds ++ cmd ∷ [];
  replies = h.replies ++ reply ∷ [];
  marks = h.marks ++ length new.crash.log ∷ [];
  served = served;
  looks = looks_more h.cmds cmd h.looks look;
  writes = omega (arith, h.writes, writes, ap (λ (b : Bool). if b && may_have_begun reply then commit_writes old.books else 0) (no_sync cmd look));
  over = over_more h.replies reply old new h.over (a.counts (session_after (session_on (bounds_of h.geom) t) h.cmds h.replies) h.served.goes_on.session);
}

-- the blocks stand for the tree
pub looked_tree : (first : disk.State) (t : Tree) (s : State) → IsLookedAt first t s → IsTreeOf s.books.geom s.map t
looked_tree first t s h = subst (λ (f : Session). IsTreeOf s.books.geom s.map f.tree) (looks_stay (session_on (bounds_of h.geom) t) h.cmds h.replies h.looks) h.served.goes_on.session.tree

-- what a look is answered
look_shows : (s next : Session) (cmd : Cmd) (reply : Reply) → is_look cmd ≡ true → Answers is_of_disk s cmd reply next → ((accepted s cmd).1 ≡ reply) ⊎ ((why : Refusal) × (reply ≡ Refused why))
look_shows s next cmd reply look (inl is) = by (refusal s.limit s.tree cmd) (ap (λ (r : Session × Reply). r.1) is)
  where
    by : (o : Option Refusal) → (answered s cmd o).1 ≡ reply → ((accepted s cmd).1 ≡ reply) ⊎ ((why : Refusal) × (reply ≡ Refused why))
    by (Some why) e = inr (why, sym e)
    by None e = inl e
look_shows s next cmd reply look (inr (inl r)) = inr (r.0, r.2)
look_shows s next cmd reply look (inr (inr k)) = absurd (true≢false (sym look ∙ ap is_look k.1.asked))

-- a look costs nothing
no_figures : (g : Geometry) (f : Session) (r : Room) (cmd : Cmd) → is_look cmd ≡ true → figures_in g f r cmd ≡ nothing
no_figures g f r (Read path offset count) look = by (refusal f.limit f.tree (Read path offset count))
  where
    by : (o : Option Refusal) → figures_over_by (bitmap_blocks g) (shared_by g f.tree r) (alone_by g f.tree r) f.limit f.tree (Read path offset count) o ≡ nothing
    by (Some why) = refl
    by None = refl
no_figures g f r (Stat path) look = by (refusal f.limit f.tree (Stat path))
  where
    by : (o : Option Refusal) → figures_over_by (bitmap_blocks g) (shared_by g f.tree r) (alone_by g f.tree r) f.limit f.tree (Stat path) o ≡ nothing
    by (Some why) = refl
    by None = refl
no_figures g f r (ListNames path) look = by (refusal f.limit f.tree (ListNames path))
  where
    by : (o : Option Refusal) → figures_over_by (bitmap_blocks g) (shared_by g f.tree r) (alone_by g f.tree r) f.limit f.tree (ListNames path) o ≡ nothing
    by (Some why) = refl
    by None = refl
no_figures g f r other look = absurd (true≢false (sym look))

-- so there is always room for it
room_for_looks : (g : Geometry) (f : Session) (r back : Room) (cmd : Cmd) (why : Refusal) → is_look cmd ≡ true → ComesBack g f r back → LacksIn g f back cmd why → ⊥
room_for_looks g f r back cmd why look comes (inl (inl full)) = let none = ap (λ (k : Figures). k.need) (no_figures g f back cmd look) in omega (arith, full.blocks, none)
room_for_looks g f r back cmd why look comes (inl (inr big)) = let none = ap (λ (k : Figures). k.cost) (no_figures g f back cmd look) in omega (arith, big.weight, none, comes.is_room.fits)
room_for_looks g f r back cmd why look comes (inr scatters) = let none = ap (λ (k : Figures). k.need) (no_figures g f back cmd look) in omega (arith, scatters.some, none)

-- why a look is refused that the tree doesn't refuse
look_fails : (old new : State) (f : Session) (cmd : Cmd) (replies : List Reply) (why : Refusal) → is_look cmd ≡ true → IsSession old f → (HasNoFault replies → old.books.stopped ≡ false) → HasNoFault replies ⊎ (0 < old.counts.faults)
    → IsAsked cmd (Refused why) old new → (why ≡ because.NoMemory → ⊥) → ((w : Refusal) → (step f cmd).1 ≡ Refused w → ⊥) → IsFailing new
look_fails old new f cmd replies why look is going calm a memory seen = by (refused_why old.books.geom f (a.answers f is).0 why (room_of new) memory (room_of old) cmd seen (a.answers f is).3)
  where
    halted : HasNoFault replies ⊎ (0 < old.counts.faults) → old.books.stopped ≡ true → IsFailing new
    halted (inl none) over = absurd (true≢false (sym over ∙ going none))
    halted (inr some) over = inr (inl (still_counted (Refused why) old new (a.counts f is) some))

    by : Refuses old.books.geom f (room_of old) cmd why → IsFailing new
    by (inl (inl stopped)) = halted calm (a.stopped f is (ap Refused stopped))
    by (inl (inr spent)) = inr (inr (a.spent f is (ap Refused spent)).1)
    by (inr (inl (inl fault))) = inr (inl (failed_counts (Refused why) old new (a.counts f is) (ap Refused fault)))
    by (inr (inl (inr read))) = inl (a.read f is (ap Refused read))
    by (inr (inr lacks)) = absurd (room_for_looks old.books.geom f (room_of old) lacks.0 cmd why look lacks.1 lacks.2)

pub look_answered : (first : disk.State) (t : Tree) (old new : State) (cmd : Cmd) (reply : Reply) → is_look cmd ≡ true → (h : IsLookedAt first t old)
    → ((f : Session) → IsSession old f → (next : Session) × Answers is_of_disk f cmd reply next) → IsAsked cmd reply old new → AnswersLook t cmd reply new
look_answered first t old new cmd reply look h answers asked = record {
  shows = (bounds_of h.geom, look_shows f a.0 cmd reply look a.1);
  fails = λ why is fault seen. look_fails old new f cmd h.replies why look session h.served.goes_on.going h.over (subst (λ (r : Reply). IsAsked cmd r old new) is asked) (no_memory why fault) (seen (bounds_of h.geom));
}
  where
    f : Session
    f = session_on (bounds_of h.geom) t

    session : IsSession old f
    session = subst (IsSession old) (looks_stay f h.cmds h.replies h.looks) h.served.goes_on.session

    a : (next : Session) × Answers is_of_disk f cmd reply next
    a = answers f session

    no_memory : (why : Refusal) → of_refusal why ≡ Fault → why ≡ because.NoMemory → ⊥
    no_memory why fault is = let e : NoMemory ≡ Fault = sym (ap of_refusal is) ∙ fault in cc

-- why it stops where the reply isn't the one that was to come
pub stop_of : (reply : Reply) → IsStop (of_reply reply)
stop_of (Refused because.NoMemory) = inr refl
stop_of (Refused other) = inl refl
stop_of other = inl refl

-- What is shown where a look isn't refused, and that it is refused where nothing is shown.

pub names_shown : (t : Tree) (path names : List (List ℕ)) (reply : Reply) (s : State) → AnswersLook t (ListNames path) reply s → reply ≡ NamesReply names → names ≡ names_in t.names path
names_shown t path names reply s a is = by a.shows.1
  where
    by : ((accepted (session_on a.shows.0 t) (ListNames path)).1 ≡ reply) ⊎ ((why : Refusal) × (reply ≡ Refused why)) → names ≡ names_in t.names path
    by (inl e) = let same : NamesReply (names_in t.names path) ≡ NamesReply names = e ∙ is in cc
    by (inr r) = let other : Refused r.0 ≡ NamesReply names = sym r.1 ∙ is in absurd cc

failing : (t : Tree) (cmd : Cmd) (reply : Reply) (s : State) → AnswersLook t cmd reply s → (why : Refusal) → reply ≡ Refused why → of_reply reply ≡ Fault → IsSeen t cmd → IsFailing s
failing t cmd reply s a why is fault seen = a.fails why is (sym (ap of_reply is) ∙ fault) seen

pub names_fail : (t : Tree) (path : List (List ℕ)) (reply : Reply) (s : State) → AnswersLook t (ListNames path) reply s → ((names : List (List ℕ)) → reply ≡ NamesReply names → ⊥) → of_reply reply ≡ Fault → IsSeen t (ListNames path) → IsFailing s
names_fail t path reply s a none fault seen = by a.shows.1
  where
    by : ((accepted (session_on a.shows.0 t) (ListNames path)).1 ≡ reply) ⊎ ((why : Refusal) × (reply ≡ Refused why)) → IsFailing s
    by (inl e) = absurd (none (names_in t.names path) (sym e))
    by (inr r) = failing t _ reply s a r.0 r.1 fault seen

pub stat_shown : (t : Tree) (path : List (List ℕ)) (found : Found) (reply : Reply) (s : State) → AnswersLook t (Stat path) reply s → reply ≡ StatReply found → stat t path ≡ StatReply found
stat_shown t path found reply s a is = by a.shows.1
  where
    by : ((accepted (session_on a.shows.0 t) (Stat path)).1 ≡ reply) ⊎ ((why : Refusal) × (reply ≡ Refused why)) → stat t path ≡ StatReply found
    by (inl e) = e ∙ is
    by (inr r) = let other : Refused r.0 ≡ StatReply found = sym r.1 ∙ is in absurd cc

-- a stat shows what is there, or is refused
stat_or : (t : Tree) (path : List (List ℕ)) → ((found : Found) × (stat t path ≡ StatReply found)) ⊎ ((why : Refusal) × (stat t path ≡ Refused why))
stat_or t path = by (get t.names path)
  where
    of : (n : ℕ) (o : Option Thing) → ((found : Found) × (stat_of t path n o ≡ StatReply found)) ⊎ ((why : Refusal) × (stat_of t path n o ≡ Refused why))
    of n None = inr (because.NotFound, refl)
    of n (Some Dir) = inl (_, refl)
    of n (Some (File bytes)) = inl (_, refl)

    by : (o : Option ℕ) → ((found : Found) × (stat_by t path o ≡ StatReply found)) ⊎ ((why : Refusal) × (stat_by t path o ≡ Refused why))
    by None = inr (because.NotFound, refl)
    by (Some n) = of n (get t.nodes n)

pub stat_fails : (t : Tree) (path : List (List ℕ)) (reply : Reply) (s : State) → AnswersLook t (Stat path) reply s → ((found : Found) → reply ≡ StatReply found → ⊥) → of_reply reply ≡ Fault → IsSeen t (Stat path) → IsFailing s
stat_fails t path reply s a none fault seen = by a.shows.1 (stat_or t path)
  where
    by : ((accepted (session_on a.shows.0 t) (Stat path)).1 ≡ reply) ⊎ ((why : Refusal) × (reply ≡ Refused why))
        → ((found : Found) × (stat t path ≡ StatReply found)) ⊎ ((why : Refusal) × (stat t path ≡ Refused why)) → IsFailing s
    by (inl e) (inl f) = absurd (none f.0 (sym e ∙ f.1))
    by (inl e) (inr r) = failing t _ reply s a r.0 (sym e ∙ r.1) fault seen
    by (inr r) either = failing t _ reply s a r.0 r.1 fault seen

pub bytes_shown : (t : Tree) (path : List (List ℕ)) (offset count : ℕ) (bytes : List ℕ) (reply : Reply) (s : State) → AnswersLook t (Read path offset count) reply s → reply ≡ Bytes bytes
    → bytes ≡ take count (drop offset (content t path))
bytes_shown t path offset count bytes reply s a is = by a.shows.1
  where
    by : ((accepted (session_on a.shows.0 t) (Read path offset count)).1 ≡ reply) ⊎ ((why : Refusal) × (reply ≡ Refused why)) → bytes ≡ take count (drop offset (content t path))
    by (inl e) = let same : Bytes (take count (drop offset (content t path))) ≡ Bytes bytes = e ∙ is in cc
    by (inr r) = let other : Refused r.0 ≡ Bytes bytes = sym r.1 ∙ is in absurd cc

pub bytes_fail : (t : Tree) (path : List (List ℕ)) (offset count : ℕ) (reply : Reply) (s : State) → AnswersLook t (Read path offset count) reply s → ((bytes : List ℕ) → reply ≡ Bytes bytes → ⊥) → of_reply reply ≡ Fault → IsSeen t (Read path offset count) → IsFailing s
bytes_fail t path offset count reply s a none fault seen = by a.shows.1
  where
    by : ((accepted (session_on a.shows.0 t) (Read path offset count)).1 ≡ reply) ⊎ ((why : Refusal) × (reply ≡ Refused why)) → IsFailing s
    by (inl e) = absurd (none (take count (drop offset (content t path))) (sym e))
    by (inr r) = failing t _ reply s a r.0 r.1 fault seen
