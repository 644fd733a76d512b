-- The commands of an append and of a trim: what each makes of the log, and that a further try after a sync point makes the same.
use Rattle.std.proofs.Common.{◌≡◌, ◌≢◌, ◌⊎◌, inl, inr, ⊎_elim, ℕ, ◌+◌, ◌-◌, ◌^◌, ◌/◌, ◌≤◌, min, Bool, true, false, IsTrue, List, [], ◌∷◌, ◌++◌, length, Some, option_and_then, refl, sym, ◌∙◌, ap, subst, arith}
use Rattle.std.proofs.Math.Logic.{∥∥₁_map}
use Rattle.std.proofs.lemmas.Bool.{true≢false, false≢true}
use Rattle.std.proofs.lemmas.List.{length-append}
use Rattle.std.specs.FinMap.{get}
use Rattle.base_types.specs.Seal.{Blocks}
use Rattle.layout_geometry.specs.Geometry.{Geometry, IsGeometry}
use Rattle.lang_tree.specs.declared.command.Cmd.{Cmd}
use Rattle.lang_tree.specs.declared.command.Cmd.TheVariants.{Create, Durable, Osync, Unlink, Write}
use Rattle.lang_tree.specs.declared.command.Refusal.{Refusal}
use Rattle.lang_tree.specs.declared.command.Refusal.TheVariants.{NoMemory, NoNode}
use Rattle.lang_tree.specs.declared.command.Reply.{Reply}
use Rattle.lang_tree.specs.declared.command.Reply.TheVariants.{Ok as Done, Refused}
use Rattle.lang_tree.specs.Figures.{blocks_for, blocks_met}
use Rattle.lang_tree.specs.Run.{Answers, is_of_disk, is_of_memory}
use Rattle.lang_tree.specs.Step.{Session, step, osync}
use Rattle.lang_tree.specs.Tree.{Tree, IsSound, Bounds}
use Rattle.lang_tree.specs.Walk.{bytes_in, content}
use Rattle.lang_log.specs.Commands.{IsAsked, LacksNode, Leaves}
use Rattle.lang_log.specs.Names.{log_path, segment_name, segment_path}
use Rattle.lang_log.specs.Spelling.{IsShort, spelling, spellings}
use Rattle.lang_log.specs.Segments.{Segment, HasSegments, LiesIn, OneIsNamed, grown, new_segment}
use Rattle.lang_log.specs.Log.{Log, IsLogOf, IsMadeOf, next_of, trimmed, with_append}
use Rattle.lang_log.specs.History.{History, IsLeft, appended, trimmed_to}
use Rattle.crash_stands.specs.Stands.{IsTreeOf}
use Rattle.engine_blocks.specs.Crashes.{Advances, IssuesNothing}
use Rattle.engine_blocks.specs.State.{State}
use Rattle.fs_session.specs.Applying.{Applies}
use Rattle.fs_session.specs.DiskRoom.{AnswersOn}
use Rattle.fs_session.specs.Memory.{room_of}
use Rattle.fs_session.specs.Points.{KnowsPoints, LeavesTree}
use Rattle.fs_session.specs.Room.{Room, figures_in, most_weight}
use Rattle.fs_session.specs.Sessions.{IsSession, Stands}
use Rattle.fs_log.specs.Keeping.{Goes, HoldsLog, IsLeftOf, LeavesLog, Rests, TakesLog, as_before}
use Rattle.fs_log.specs.Asked.{Asked, AskedOf, Changed, Comes, IsLate, MayBecome, MayMake, MayWrite, TriedFirst, is_past_room, is_synced}
use Rattle.fs_log.proofs.Holding.{held, same_log, session_of, still}
use Rattle.fs_log.proofs.Rooms.{AnswersTree, RoomLaw, create_answers, create_is_cheap, empties, fits_by_itself, fits_now, order_late, outside_late, unlink_answers, unlink_is_cheap, write_answers, write_is_cheap}
use Rattle.fs_log.proofs.Syncing.{ordered, same_history}
use Rattle.fs_log.proofs.Windows.{one_of_all}

-- What holds of any tree and any blocks that may be those of a log.
pub record WritingLaws {S : Type 0} (tells : Bool) (state : S → State) : Type 0 where
  pub sound : (g : Geometry) (m : Blocks) (t : Tree) → IsTreeOf g m t → IsSound g.i t
  pub directory : (limit : ℕ) (t : Tree) (s : Segment) → IsSound limit t → LiesIn t s → (n : ℕ) × (get t.names log_path ≡ Some n)
  pub one : (t : Tree) (l k : Log) → IsLogOf t l → IsLogOf t k → l ≡ k
  pub both : (old mid new : S) → Advances (state old) (state mid) → Advances (state mid) (state new) → Advances (state old) (state new)
  -- what there is room for
  pub rooms : RoomLaw tells state
  pub alone : (old new : Session) (cmd : Cmd) (why : Refusal) → Answers is_of_memory old cmd (Refused why) new → (is_of_disk why ≡ false) ⊎ (why ≡ NoMemory)
  pub division : (size lo hi : ℕ) → min (blocks_for size) (blocks_for hi) - lo / 1024 ≡ blocks_met size lo hi

-- the refusal in a reply isn't that it is done
abbrev is_done : Reply → Bool
is_done Done = true
is_done _ = false

refused_not : (why : Refusal) → Refused why ≢ Done
refused_not why e = false≢true (ap is_done e)

-- nor does it fit then
too_big_not : (reply : Reply) → is_past_room reply ≡ true → reply ≢ Done
too_big_not reply big done = false≢true (sym (ap is_past_room done) ∙ big)

-- Where the session is as it was, so is the log.
module _ {S : Type 0} (tells : Bool) (state : S → State) (cmd : Cmd) (reply : Reply) (old new : S) (stands : Stands (state old)) (asked : AskedOf tells state cmd reply old new) where
  abbrev f : Session
  f = (session_of (state old) stands).0

  session : IsSession (state old) f
  session = (session_of (state old) stands).1

  abbrev a : Asked tells state cmd reply f old new
  a = asked f session

  unchanged : a.next ≡ f → Rests (state old) (state new)
  unchanged same = record {
    takes = λ h keeps. a.goes h h keeps (same_history h) (record {
      log = subst (λ (s : Session). IsLogOf s.tree h.now) (sym same) (keeps.now f.tree session.tree);
      calm = λ calm none. (sym (ap (λ (s : Session). s.changed) same) ∙ calm, refl);
    });
    time = a.time;
    holds = λ segments l before. still tells state cmd reply f old new a segments l (ap (λ (s : Session). s.tree) same) session before;
  }

  -- so it is behind a question
  pub looked : ((f : Session) → (step f cmd).0 ≡ f) → Rests (state old) (state new)
  looked leaves = unchanged (by a.answers)
    where
      by : Answers is_of_disk f cmd reply a.next → a.next ≡ f
      by (inl is) = sym (ap (λ x. x.0) is) ∙ leaves f
      by (inr (inl refused)) = refused.3
      by (inr (inr known)) = known.1.same

  -- A command of which it is known what it makes of a session makes it of the blocks.
  module _ (laws : WritingLaws tells state) (change : History → History) (segments : List Segment) (l : Log) (later : ℕ → List Segment) (k : Log)
      (becomes : (h : History) → MayBecome h (change h)) (has_now : (h : History) → h.now ≡ l → (change h).now ≡ k)
      (makes : (next : Session) (directory : ℕ) → get f.tree.names log_path ≡ Some directory → IsAsked segments f cmd next reply → LacksNode f next reply ⊎ ((node : ℕ) × Leaves (later node) next reply))
      (made : (node : ℕ) → IsMadeOf (later node) k) (no_question : cmd ≢ Durable)
      (there : (limit : ℕ) (t : Tree) (node : ℕ) → IsSound limit t → HasSegments t (later node) → (n : ℕ) × (get t.names log_path ≡ Some n))
      (before : HoldsLog segments l (state old)) where
    left : (node : ℕ) → Leaves (later node) a.next reply → Comes state change later k reply old new
    left node leaves =
        let at = there a.next.limit.nodes a.next.tree node a.sound leaves.has in record {
          holds = λ done. (node, held tells state cmd reply f old new a (later node) k leaves.has (made node) at.0 at.1);
          goes = λ done h keeps. a.goes h (change h) keeps (becomes h) (record {
            log = subst (λ (m : Log). IsLogOf a.next.tree m) (sym (has_now h (same_log laws.one (state old) segments l h before keeps))) (record { segments = later node; has = leaves.has; made = made node });
            calm = λ calm none. absurd (true≢false (sym leaves.changed ∙ calm));
          });
          rests = λ not. absurd (not leaves.done);
          late = λ not. absurd (not leaves.done);
        }

    -- the session is as it was, and the command wasn't done, for a late reason where it fits; or it was done
    outcome : ((a.next ≡ f) × (reply ≢ Done) × (is_past_room reply ≡ false → IsLate reply)) ⊎ ((node : ℕ) × Leaves (later node) a.next reply)
    outcome = by a.answers
      where
        by : Answers is_of_disk f cmd reply a.next → ((a.next ≡ f) × (reply ≢ Done) × (is_past_room reply ≡ false → IsLate reply)) ⊎ ((node : ℕ) × Leaves (later node) a.next reply)
        by (inl is) =
            let at = before.there f.tree session.tree in
            let sound : IsSound f.limit.nodes f.tree = subst (λ (limit : Bounds). IsSound limit.nodes f.tree) (sym session.limit) (laws.sound (state old).books.geom (state old).map f.tree session.tree) in
            ⊎_elim (λ r. inl (r.same, λ done. refused_not NoNode (sym r.refused ∙ done), λ fits. subst IsLate (sym r.refused) ((omega arith, omega arith), refl))) (λ r. inr r)
            (makes a.next at.0 at.1 (record { sound = sound; had = before.has f.tree session.tree; answered = is }))
        by (inr (inl refused)) = inl (
          refused.3,
          λ done. refused_not refused.0 (sym refused.2 ∙ done),
          λ fits. subst IsLate (sym refused.2) (outside_late refused.0 refused.1 (sym (ap is_past_room refused.2) ∙ fits)),
        )
        by (inr (inr known)) = absurd (no_question known.1.asked)

    -- what comes of a command that fits; and where one wasn't done, the log is as it was
    pub comes : (is_past_room reply ≡ false → Comes state change later k reply old new) × (reply ≢ Done → Rests (state old) (state new))
    comes = (
      λ fits. ⊎_elim
          (λ o. record { holds = λ done. absurd (o.1 done); goes = λ done. absurd (o.1 done); rests = λ not. unchanged o.0; late = λ not. o.2 fits })
          (λ o. left o.0 o.1)
          outcome,
      λ not. ⊎_elim (λ o. unchanged o.0) (λ o. absurd (not o.1.done)) outcome,
    )

-- Calls in a row.
module _ {S : Type 0} (state : S → State) (both : (old mid new : S) → Advances (state old) (state mid) → Advances (state mid) (state new) → Advances (state old) (state new)) where
  module _ (h k m : History) (becomes : MayBecome k m) where
    later : (t : Tree) → IsLeft k t → IsLeft m t
    later t is = record { log = is.log; is = is.is; may = becomes is.log is.may }

    first_part : (t : Tree) → IsLeftOf h k t → IsLeftOf h m t
    first_part t (inl is) = inl is
    first_part t (inr is) = inr (later t is)

    second_part : (t : Tree) → IsLeftOf k m t → IsLeftOf h m t
    second_part t (inl is) = inr (later t is)
    second_part t (inr is) = inr is

    moved : (mid new : State) (img : Blocks) → Advances mid new → new.books.geom ≡ mid.books.geom → LeavesLog h k mid img → LeavesLog h m new img
    moved mid new img time geom left = record {
      map = left.map;
      holds = (time.holds img left.map).1 left.holds;
      tree = left.tree;
      stands = subst (λ (g : Geometry). IsTreeOf g left.map left.tree) (sym geom) left.stands;
      left = first_part left.tree left.left;
    }

    widened : (new : State) (img : Blocks) → LeavesLog k m new img → LeavesLog h m new img
    widened new img left = record { map = left.map; holds = left.holds; tree = left.tree; stands = left.stands; left = second_part left.tree left.left }

    longer : {E : Type 0} (before log more : List E) → log ≡ before ++ more → length before ≤ length log
    longer before log more e = omega (arith, ap length e, length-append before more)

    pub goes_twice : (old mid new : S) → Goes h k (state old) (state mid) → Goes k m (state mid) (state new) → Goes h m (state old) (state new)
    goes_twice old mid new a b = record {
      keeps = b.keeps;
      crashes = λ img left. ⊎_elim (λ before. ∥∥₁_map (a.crashes img before) (move img)) (λ now. ∥∥₁_map now (widened (state new) img)) (b.earlier (length (state old).crash.log) img grown_log left);
      earlier = λ moment img before left. ⊎_elim
          (λ mid. ⊎_elim (λ old. inl old) (λ now. inr (∥∥₁_map now (move img))) (a.earlier moment img before mid))
          (λ now. inr (∥∥₁_map now (widened (state new) img))) (b.earlier moment img (omega (arith, before, grown_log)) left);
      advances = both old mid new a.advances b.advances;
      geom = b.geom ∙ a.geom;
      manner = b.manner ∙ a.manner;
    }
      where
        grown_log : length (state old).crash.log ≤ length (state mid).crash.log
        grown_log = longer (state old).crash.log (state mid).crash.log a.advances.grows.more a.advances.grows.log

        move : (img : Blocks) → LeavesLog h k (state mid) img → LeavesLog h m (state new) img
        move img left = moved (state mid) (state new) img b.advances b.geom left

  -- one change of the log behind another
  pub takes_twice : (first second : History → History) → ((h : History) → MayBecome h (second h)) → (old mid new : S) → TakesLog first (state old) (state mid) → TakesLog second (state mid) (state new) → TakesLog (λ h. second (first h)) (state old) (state new)
  takes_twice first second becomes old mid new a b h keeps =
      let one = a h keeps in goes_twice h (first h) (second (first h)) (becomes (first h)) old mid new one (b (first h) one.keeps)

  pub rests_twice : (old mid new : S) → Rests (state old) (state mid) → Rests (state mid) (state new) → Rests (state old) (state new)
  rests_twice old mid new a b = record {
    takes = takes_twice as_before as_before same_history old mid new a.takes b.takes;
    time = both old mid new a.time b.time;
    holds = λ segments l held. b.holds segments l (a.holds segments l held);
  }

osync_not_done : (f : Session) (b : Bool) → (osync f b).1 ≢ Done
osync_not_done f true e = false≢true (ap is_done e)
osync_not_done f false e = false≢true (ap is_done e)

sync_not_done : (f next : Session) (reply : Reply) → Answers is_of_disk f Osync reply next → reply ≢ Done
sync_not_done f next reply (inl is) done = osync_not_done f f.changed (ap (λ x. x.1) is ∙ done)
sync_not_done f next reply (inr (inl refused)) done = refused_not refused.0 (sym refused.2 ∙ done)
sync_not_done f next reply (inr (inr known)) done = false≢true (sym (ap is_done known.1.is) ∙ ap is_done done)

-- A command that was tried once more behind a sync point.
module _ {S : Type 0} (tells : Bool) (state : S → State) (told : IsTrue tells) (laws : WritingLaws tells state) (change : History → History) (segments : List Segment) (l : Log) (later : ℕ → List Segment) (k : Log) (cmd : Cmd)
    (becomes : (h : History) → MayBecome h (change h))
    (once : (reply : Reply) (old new : S) → AskedOf tells state cmd reply old new → HoldsLog segments l (state old) → (is_past_room reply ≡ false → Comes state change later k reply old new) × (reply ≢ Done → Rests (state old) (state new)))
    (fits : (reply : Reply) (end new : S) → IsGeometry (state end).books.geom → HoldsLog segments l (state end) → (state end).books.running.weight ≡ 0 → Applies tells state cmd reply end new → is_past_room reply ≡ false) where
  module _ (other : Reply) (old end : S) (t : TriedFirst tells state cmd other old end) (before : HoldsLog segments l (state old)) where
    -- the try and the sync leave the log as it was
    one : Rests (state old) (state t.mid)
    one = (once t.first old t.mid (t.tried.asked told) before).1 (too_big_not t.first t.big)

    there : HoldsLog segments l (state t.mid)
    there = one.holds segments l before

    waited : Rests (state old) (state end)
    waited = rests_twice state laws.both old t.mid end one (ordered tells state t.mid end other there.stands (t.ordered.asked told))

    abbrev g : Session
    g = (session_of (state t.mid) there.stands).0

    answered : (next : Session) × IsSession (state end) next × ((state end).books.geom ≡ (state t.mid).books.geom) × AnswersOn (state t.mid).books.geom g (room_of (state t.mid)) Osync other next (room_of (state end))
    answered = laws.rooms t.mid end g Osync other (session_of (state t.mid) there.stands).1 t.ordered.applies

    -- where that is answered, nothing is weighed any more
    empty : is_synced other ≡ true → (state end).books.running.weight ≡ 0
    empty made = empties (state t.mid).books.geom g answered.0 (room_of (state t.mid)) (room_of (state end)) other answered.3 made

    -- and where it isn't, it is refused
    sync_refused : is_synced other ≡ false → IsLate other
    sync_refused none = order_late (state t.mid).books.geom g answered.0 (room_of (state t.mid)) (room_of (state end)) other answered.3 none

    limits : IsGeometry (state old).books.geom → IsGeometry (state end).books.geom
    limits was =
        let f = session_of (state old) before.stands in
        subst IsGeometry (sym (answered.2 ∙ (laws.rooms old t.mid f.0 cmd t.first f.1 t.tried.applies).2)) was

  pub in_the_end : (reply : Reply) (old new : S) → IsGeometry (state old).books.geom → Changed tells state cmd reply old new → HoldsLog segments l (state old) → Comes state change later k reply old new
  in_the_end reply old new geometry (inl (fit, x)) before = (once reply old new (x.asked told) before).0 fit
  in_the_end reply old new geometry (inr (inl (other, end, made, t, second))) before =
      let so_far = waited other old end t before in
      let held = so_far.holds segments l before in
      let last = (once reply end new (second.asked told) held).0 (fits reply end new (limits other old end t before geometry) held (empty other old end t before made) second.applies) in record {
        holds = last.holds;
        goes = λ done. takes_twice state laws.both as_before change becomes old end new so_far.takes (last.goes done);
        rests = λ not. rests_twice state laws.both old end new so_far (last.rests not);
        late = last.late;
      }
  in_the_end reply old new geometry (inr (inr (none, t))) before =
      let f = session_of (state t.mid) (there reply old new t before).stands in
      let asked = t.ordered.asked told f.0 f.1 in
      let not = sync_not_done f.0 asked.next reply asked.answers in
      record {
        holds = λ done. absurd (not done);
        goes = λ done. absurd (not done);
        rests = λ _. waited reply old new t before;
        late = λ _. sync_refused reply old new t before none;
      }

-- where segments lie there is the directory of the log
some_there : {S : Type 0} {tells : Bool} {state : S → State} → WritingLaws tells state → (limit : ℕ) (t : Tree) (before : List Segment) (s : Segment) → IsSound limit t → HasSegments t (before ++ s ∷ []) → (n : ℕ) × (get t.names log_path ≡ Some n)
some_there laws limit t [] s sound has = laws.directory limit t s sound has.there.0
some_there laws limit t (q ∷ before) s sound has = laws.directory limit t q sound has.there.0

no_write : (path : List (List ℕ)) (offset : ℕ) (bytes : List ℕ) → Write path offset bytes ≢ Durable
no_write path offset bytes is = cc

no_create : (path : List (List ℕ)) → Create path ≢ Durable
no_create path is = cc

no_unlink : (path : List (List ℕ)) → Unlink path ≢ Durable
no_unlink path is = cc

-- the bytes of a segment's file
content_is : (t : Tree) (s : Segment) → LiesIn t s → content t (segment_path s.first) ≡ spellings s.appends
content_is t s lies = ap bytes_in (ap (option_and_then (λ (n : ℕ). get t.nodes n)) lies.at ∙ lies.file)

module _ {S : Type 0} (tells : Bool) (state : S → State) (told : IsTrue tells) (laws : WritingLaws tells state) where
  -- a command that costs little fits behind a sync point
  fits_if : (reply : Reply) (end new : S) (stands : Stands (state end)) → (state end).books.running.weight ≡ 0 → (cmd : Cmd)
      → ((f next : Session) (room : Room) → AnswersOn (state end).books.geom f (room_of (state end)) cmd reply next room → AnswersTree (state end).books.geom f (room_of (state end)) cmd reply next room)
      → (figures_in (state end).books.geom (session_of (state end) stands).0 (room_of (state end)) cmd).cost ≤ most_weight (state end).books.geom → Applies tells state cmd reply end new → is_past_room reply ≡ false
  fits_if reply end new stands empty cmd tree cheap applies =
      let f = session_of (state end) stands in
      let x = laws.rooms end new f.0 cmd reply f.1 applies in
      fits_now (state end).books.geom f.0 x.0 (room_of (state end)) (room_of (state new)) reply cmd (fits_by_itself laws.alone f.0 cmd) (omega (arith, cheap, empty)) (tree f.0 x.0 (room_of (state new)) x.3)

  -- The write of an append.
  pub written_in_the_end : ((before : List Segment) (s : Segment) (bytes : List ℕ) (old new : Session) (reply : Reply) → length (spellings s.appends) + length (spelling bytes) ≤ 1073741824
      → IsAsked (before ++ s ∷ []) old (Write (segment_path s.first) (length (spellings s.appends)) (spelling bytes)) new reply → Leaves (before ++ grown bytes s ∷ []) new reply)
      → ((before : List Segment) (s : Segment) (bytes : List ℕ) (l : Log) → IsMadeOf (before ++ s ∷ []) l → IsShort bytes → next_of l + 1 ≤ 2 ^ 32 - 1 → IsMadeOf (before ++ grown bytes s ∷ []) (with_append bytes l))
      → (before : List Segment) (s : Segment) (l : Log) (bytes : List ℕ) (cmd : Cmd) (reply : Reply) (old new : S) → IsGeometry (state old).books.geom → Changed tells state cmd reply old new → HoldsLog (before ++ s ∷ []) l (state old) → MayWrite l s bytes cmd
      → Comes state (appended bytes) (λ _. before ++ grown bytes s ∷ []) (with_append bytes l) reply old new
  written_in_the_end grows makes before s l bytes cmd reply old new limits changed holds may =
      in_the_end tells state told laws (appended bytes) (before ++ s ∷ []) l (λ _. before ++ grown bytes s ∷ []) (with_append bytes l) cmd (λ h l may. inr may)
      (λ reply old new asked before_it. comes tells state cmd reply old new before_it.stands asked laws (appended bytes) (before ++ s ∷ []) l (λ _. before ++ grown bytes s ∷ []) (with_append bytes l)
      (λ h l may. inr may) (λ h is. ap (with_append bytes) is)
      (λ next directory at is. inr (0, grows before s bytes (session_of (state old) before_it.stands).0 next reply may.fits (subst (λ (c : Cmd). IsAsked (before ++ s ∷ []) (session_of (state old) before_it.stands).0 c next reply) may.is is)))
      (λ node. makes before s bytes l holds.made may.short may.left)
      (λ is. no_write (segment_path s.first) (length (spellings s.appends)) (spelling bytes) (sym may.is ∙ is))
      (λ limit t node sound has. some_there laws limit t before (grown bytes s) sound has)
      before_it)
      fits
      reply old new limits changed holds
    where
      fits : (reply : Reply) (end new : S) → IsGeometry (state end).books.geom → HoldsLog (before ++ s ∷ []) l (state end) → (state end).books.running.weight ≡ 0 → Applies tells state cmd reply end new → is_past_room reply ≡ false
      fits reply end new limits held empty applies =
          let h = session_of (state end) held.stands in
          let size = ap (λ (q : List ℕ). length q) (content_is h.0.tree s (one_of_all (LiesIn h.0.tree) before s [] (held.has h.0.tree h.1.tree).there)) in
          fits_if reply end new held.stands empty (Write (segment_path s.first) (length (spellings s.appends)) (spelling bytes))
          (λ f next room answers. write_answers (state end).books.geom f next (room_of (state end)) room reply (segment_path s.first) (length (spellings s.appends)) (spelling bytes) answers)
          (write_is_cheap (state end).books.geom limits h.0 (room_of (state end)) laws.division (segment_path s.first) (length (spellings s.appends)) (spelling bytes) size (omega (arith, may.short)))
          (subst (λ (c : Cmd). Applies tells state c reply end new) may.is applies)

  -- A new segment.
  pub made_in_the_end : ((segments : List Segment) (first directory : ℕ) (old new : Session) (reply : Reply) → get old.tree.names log_path ≡ Some directory
      → (OneIsNamed segments (segment_name first) → ⊥) → IsAsked segments old (Create (segment_path first)) new reply → LacksNode old new reply ⊎ ((node : ℕ) × Leaves (segments ++ new_segment first node ∷ []) new reply))
      → ((segments : List Segment) (node : ℕ) (l : Log) → IsMadeOf segments l → IsMadeOf (segments ++ new_segment (next_of l) node ∷ []) l)
      → (segments : List Segment) (l : Log) (cmd : Cmd) (reply : Reply) (old new : S) → IsGeometry (state old).books.geom → Changed tells state cmd reply old new → HoldsLog segments l (state old) → MayMake segments l cmd
      → Comes state as_before (λ node. segments ++ new_segment (next_of l) node ∷ []) l reply old new
  made_in_the_end creates makes segments l cmd reply old new limits changed holds may =
      in_the_end tells state told laws as_before segments l (λ node. segments ++ new_segment (next_of l) node ∷ []) l cmd same_history
      (λ reply old new asked before_it. comes tells state cmd reply old new before_it.stands asked laws as_before segments l (λ node. segments ++ new_segment (next_of l) node ∷ []) l
      same_history (λ h is. is)
      (λ next directory at is. creates segments (next_of l) directory (session_of (state old) before_it.stands).0 next reply at may.free (subst (λ (c : Cmd). IsAsked segments (session_of (state old) before_it.stands).0 c next reply) may.is is))
      (λ node. makes segments node l holds.made)
      (λ is. no_create (segment_path (next_of l)) (sym may.is ∙ is))
      (λ limit t node sound has. some_there laws limit t segments (new_segment (next_of l) node) sound has)
      before_it)
      fits
      reply old new limits changed holds
    where
      fits : (reply : Reply) (end new : S) → IsGeometry (state end).books.geom → HoldsLog segments l (state end) → (state end).books.running.weight ≡ 0 → Applies tells state cmd reply end new → is_past_room reply ≡ false
      fits reply end new limits held empty applies =
          let h = session_of (state end) held.stands in
          fits_if reply end new held.stands empty (Create (segment_path (next_of l)))
          (λ f next room answers. create_answers (state end).books.geom f next (room_of (state end)) room reply (segment_path (next_of l)) answers)
          (create_is_cheap (state end).books.geom limits h.0 (room_of (state end)) (segment_path (next_of l)))
          (subst (λ (c : Cmd). Applies tells state c reply end new) may.is applies)

  -- The first segment goes.
  pub gone_in_the_end : ((s : Segment) (rest : List Segment) (old new : Session) (reply : Reply) → IsAsked (s ∷ rest) old (Unlink (segment_path s.first)) new reply → Leaves rest new reply)
      → ((s r : Segment) (rest : List Segment) (l : Log) → IsMadeOf (s ∷ r ∷ rest) l → IsMadeOf (r ∷ rest) (trimmed r.first l))
      → (s r : Segment) (rest : List Segment) (l : Log) (cmd : Cmd) (reply : Reply) (old new : S) → IsGeometry (state old).books.geom → Changed tells state cmd reply old new → HoldsLog (s ∷ r ∷ rest) l (state old) → cmd ≡ Unlink (segment_path s.first)
      → Comes state (trimmed_to r.first) (λ _. r ∷ rest) (trimmed r.first l) reply old new
  gone_in_the_end goes makes s r rest l cmd reply old new limits changed holds cmd_is =
      in_the_end tells state told laws (trimmed_to r.first) (s ∷ r ∷ rest) l (λ _. r ∷ rest) (trimmed r.first l) cmd (λ h l may. inr may)
      (λ reply old new asked before_it. comes tells state cmd reply old new before_it.stands asked laws (trimmed_to r.first) (s ∷ r ∷ rest) l (λ _. r ∷ rest) (trimmed r.first l)
      (λ h l may. inr may) (λ h is. ap (trimmed r.first) is)
      (λ next directory at is. inr (0, goes s (r ∷ rest) (session_of (state old) before_it.stands).0 next reply (subst (λ (c : Cmd). IsAsked (s ∷ r ∷ rest) (session_of (state old) before_it.stands).0 c next reply) cmd_is is)))
      (λ node. makes s r rest l holds.made)
      (λ is. no_unlink (segment_path s.first) (sym cmd_is ∙ is))
      (λ limit t node sound has. laws.directory limit t r sound has.there.0)
      before_it)
      fits
      reply old new limits changed holds
    where
      fits : (reply : Reply) (end new : S) → IsGeometry (state end).books.geom → HoldsLog (s ∷ r ∷ rest) l (state end) → (state end).books.running.weight ≡ 0 → Applies tells state cmd reply end new → is_past_room reply ≡ false
      fits reply end new limits held empty applies =
          let h = session_of (state end) held.stands in
          fits_if reply end new held.stands empty (Unlink (segment_path s.first))
          (λ f next room answers. unlink_answers (state end).books.geom f next (room_of (state end)) room reply (segment_path s.first) answers)
          (unlink_is_cheap (state end).books.geom limits h.0 (room_of (state end)) (segment_path s.first))
          (subst (λ (c : Cmd). Applies tells state c reply end new) cmd_is applies)

-- nothing is done, and time goes on
pub no_time : {S : Type 0} (state : S → State)
    → ((old new : S) → (state new).books.point ≡ (state old).books.point → (state new).books.floor ≡ (state old).books.floor → IssuesNothing (state old) (state new) → Advances (state old) (state new))
    → (s : S) → Advances (state s) (state s)
no_time state rests s = rests s s refl refl (record {
  base = refl;
  log = refl;
  point = λ p m. ((λ x. x), (λ x. x));
  left = λ t img. ((λ x. x), (λ x. x));
  holds = λ img m. ((λ x. x), (λ x. x));
  issued = λ m. ((λ x. x), (λ x. x));
  awaits = λ p t. ((λ x. x), (λ x. x));
  sure = λ log p. ((λ x. x), (λ x. x));
  records = record { told = refl; starts = λ log number. ((λ x. x), (λ x. x)) };
})

-- a log over which nothing is done stays as it is
pub resting : {S : Type 0} (state : S → State) (s : S)
    → ((old new : S) → (state new).books.point ≡ (state old).books.point → (state new).books.floor ≡ (state old).books.floor → IssuesNothing (state old) (state new) → Advances (state old) (state new))
    → ((s : S) (trees : ℕ → Tree) (img : Blocks) → KnowsPoints (state s) trees → (state s).crash.left_since (length (state s).crash.log) img → ∥ LeavesTree (state s) trees (state s).books.floor (state s).books.point img ∥₁)
    → Rests (state s) (state s)
resting state s rests now = record {
  takes = λ h keeps. record {
    keeps = keeps;
    crashes = λ img left. ∥∥₁_map (now s keeps.trees img keeps.known left) (λ left. record {
      map = left.map;
      holds = left.holds;
      tree = keeps.trees left.point;
      stands = left.tree;
      left = inl (keeps.left left.point left.from left.upto);
    });
    earlier = λ moment img before left. inl left;
    advances = no_time state rests s;
    geom = refl;
    manner = refl;
  };
  time = no_time state rests s;
  holds = λ segments l held. held;
}
